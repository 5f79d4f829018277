use Rattle.std.proofs.Common.{◌+◌, refl, drop}
use Rattle.std.proofs.lemmas.Result.{err_from_is_err_and}
use Rattle.script_text.specs.declared.scripts.ScriptLine.{ScriptLine}
use Rattle.script_text.specs.declared.scripts.Order.TheVariants.{Add}
use Rattle.script_run.specs.Slots.{present}
use Rattle.script_run.proofs.Several.{after-here, after-next, refused-at, took-next, took-none}
use Rattle.script_run.proofs.trial.do_lines.Goals as goal

pub loop-line-init : goal.loop-line-init
loop-line-init c = record { took = took-none _ _; full = c.requires.full; after = (c.requires.stand, c.requires.left) }

pub take_line-requires-clause-left : goal.take_line-requires-clause-left
take_line-requires-clause-left c =
    let first : ScriptLine = record { at = 0; pass = 0; order = Add 0 } in
    (drop (c.loop-line.line-index + 1) c.args.lines.now, (after-here c.args.lines.now c.loop-line.line-index _ first c.loop-line-test.true refl c.args.table.now (present c.loop-line.callers) c.loop-line.invariant.after).1)

pub loop-line-preserved : goal.loop-line-preserved
loop-line-preserved c =
    let first : ScriptLine = record { at = 0; pass = 0; order = Add 0 } in
    record {
      took = took-next c.args.lines.now c.loop-line.line-index _ first c.loop-line-test.true refl (present c.args.callers.now) (present c.loop-line.callers) (present c.take_line.new.callers) c.args.text.now.items c.loop-line.text.items c.take_line.new.text.items
          c.loop-line.invariant.took c.in_ok-take_line.ensures.done;
      full = c.in_ok-take_line.ensures.full;
      after = after-next c.args.lines.now c.loop-line.line-index _ first c.loop-line-test.true refl c.args.table.now (present c.loop-line.callers) (present c.take_line.new.callers) c.loop-line.text.items c.take_line.new.text.items
          c.loop-line.invariant.after c.in_ok-take_line.ensures.done;
    }

pub returns-in_err-take_line-clause-refused : goal.returns-in_err-take_line-clause-refused
returns-in_err-take_line-clause-refused c =
    let first : ScriptLine = record { at = 0; pass = 0; order = Add 0 } in
    let h = refused-at c.args.lines.now c.loop-line.line-index _ first c.loop-line-test.true refl (present c.args.callers.now) c.loop-line.callers c.take_line.new.callers c.args.text.now.items c.loop-line.text.items _ c.loop-line.invariant.took c.in_err-take_line.ensures.refused in
    let r = err_from_is_err_and c.from_residual.result c.from_residual.ensures.1 in
    rw (r.1, r.2) h
