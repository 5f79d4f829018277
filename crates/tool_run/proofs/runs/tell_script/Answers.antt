use Rattle.std.proofs.Common.{Some, ap}
use Rattle.std.proofs.lemmas.Result.{err_from_is_err_and}
use Rattle.tool_words.specs.declared.commands.Command.TheVariants.{Play, Trial}
use Rattle.tool_run.specs.Outcome.{of_scripts, reading}
use Rattle.tool_run.proofs.Preparing.{telling-prepared, unread-prepared}
use Rattle.tool_run.proofs.runs.tell_script.Goals as goal

pub returns-in_ok-read_input-in-Play-clause-prepared : goal.returns-in_ok-read_input-in-Play-clause-prepared
returns-in_ok-read_input-in-Play-clause-prepared g c =
    telling-prepared Play (of_scripts (Some c.args.command)) (reading (g.S.Source.left c.args.source.now) (g.S.Source.left c.read_input.new.source) (g.S.Source.faults c.args.source.now) (g.S.Source.faults c.read_input.new.source))
    c.deref.result.now c.tell_play.result (ap (λ command. of_scripts (Some command)) c.in-Play.is) (rw c.deref.ensures.value c.in_ok-read_input-in-Play.ensures.read) c.tell_play.ensures

pub returns-in_ok-read_input-in-Trial-clause-prepared : goal.returns-in_ok-read_input-in-Trial-clause-prepared
returns-in_ok-read_input-in-Trial-clause-prepared g c =
    telling-prepared Trial (of_scripts (Some c.args.command)) (reading (g.S.Source.left c.args.source.now) (g.S.Source.left c.read_input-in-Trial.new.source) (g.S.Source.faults c.args.source.now) (g.S.Source.faults c.read_input-in-Trial.new.source))
    c.deref-in-Trial.result.now c.tell_trial.result (ap (λ command. of_scripts (Some command)) c.in-Trial.is) (rw c.deref-in-Trial.ensures.value c.in_ok-read_input-in-Trial.ensures.read) c.tell_trial.ensures

pub returns-in_err-read_input-in-Play-clause-prepared : goal.returns-in_err-read_input-in-Play-clause-prepared
returns-in_err-read_input-in-Play-clause-prepared g c =
    let r = err_from_is_err_and c.from_residual.result c.from_residual.ensures.1 in
    rw (r.1, r.2) (unread-prepared Play (of_scripts (Some c.args.command)) (reading (g.S.Source.left c.args.source.now) (g.S.Source.left c.read_input.new.source) (g.S.Source.faults c.args.source.now) (g.S.Source.faults c.read_input.new.source))
    c.in_err-read_input-in-Play.field-0.0 (ap (λ command. of_scripts (Some command)) c.in-Play.is) tt c.in_err-read_input-in-Play.ensures.read.0 c.in_err-read_input-in-Play.ensures.read.1)

pub returns-in_err-read_input-in-Trial-clause-prepared : goal.returns-in_err-read_input-in-Trial-clause-prepared
returns-in_err-read_input-in-Trial-clause-prepared g c =
    let r = err_from_is_err_and c.from_residual-in_err-read_input-in-Trial.result c.from_residual-in_err-read_input-in-Trial.ensures.1 in
    rw (r.1, r.2) (unread-prepared Trial (of_scripts (Some c.args.command)) (reading (g.S.Source.left c.args.source.now) (g.S.Source.left c.read_input-in-Trial.new.source) (g.S.Source.faults c.args.source.now) (g.S.Source.faults c.read_input-in-Trial.new.source))
    c.in_err-read_input-in-Trial.field-0.0 (ap (λ command. of_scripts (Some command)) c.in-Trial.is) tt c.in_err-read_input-in-Trial.ensures.read.0 c.in_err-read_input-in-Trial.ensures.read.1)
