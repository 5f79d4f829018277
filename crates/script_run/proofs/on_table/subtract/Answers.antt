use Rattle.std.proofs.Common.{refl}
use Rattle.script_run.specs.declared.trial.Caller.TheVariants.{Idle}
use Rattle.script_run.proofs.Replaced.{put-back, taken-left, taken-stands}
use Rattle.script_run.proofs.on_table.subtract.Goals as goal

pub sub_direct-answer-requires-clause-together : goal.sub_direct-answer-requires-clause-together
sub_direct-answer-requires-clause-together c = (taken-stands c.args.table.now c.args.callers.now c.take_idle.new.callers c.args.number (Idle c.in_ok-pass.pass) c.requires.full c.requires.stand c.in_ok-pass.ensures.taken).together

pub sub_direct-answer-requires-clause-idle : goal.sub_direct-answer-requires-clause-idle
sub_direct-answer-requires-clause-idle c = (taken-stands c.args.table.now c.args.callers.now c.take_idle.new.callers c.args.number (Idle c.in_ok-pass.pass) c.requires.full c.requires.stand c.in_ok-pass.ensures.taken).right

pub sub_direct-answer-requires-clause-amount : goal.sub_direct-answer-requires-clause-amount
sub_direct-answer-requires-clause-amount c = taken-left c.args.table.now c.args.callers.now c.take_idle.new.callers c.args.number c.args.amount c.in_ok-pass.pass c.requires.full c.requires.stand c.in_ok-pass.ensures.taken c.requires.left c.requires.some

pub returns-in-Ok : goal.returns-in-Ok
returns-in-Ok c =
    let b = put-back c.args.callers.now c.take_idle.new.callers c.args.number (Idle c.in_ok-pass.pass) (Idle c.sub_direct-answer.new.pass) c.requires.full c.in_ok-pass.ensures.taken in
    (b.0, (Idle c.in_ok-pass.pass, Idle c.sub_direct-answer.new.pass, b.1, (c.sub_direct-answer.new.pass, c.in-Ok.ensures.called, refl), b.2))

pub returns-in-Err : goal.returns-in-Err
returns-in-Err c =
    let b = put-back c.args.callers.now c.take_idle.new.callers c.args.number (Idle c.in_ok-pass.pass) (Idle c.sub_direct-answer.new.pass) c.requires.full c.in_ok-pass.ensures.taken in
    (b.0, (Idle c.in_ok-pass.pass, Idle c.sub_direct-answer.new.pass, b.1, (c.sub_direct-answer.new.pass, c.in-Err.ensures.lost, refl), b.2))
