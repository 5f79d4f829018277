use Rattle.std.proofs.Common.{sym, ◌∙◌, arith}
use Rattle.funnel_c.proofs.Opened.{none_there, empty_more, empty_all}
use Rattle.funnel_c.proofs.opening.has_caller.Goals as goal

pub returns-then-is_full-clause-some : goal.returns-then-is_full-clause-some
returns-then-is_full-clause-some c = λ _.
    (c.loop-slot.slot-index, c.slot-item.result, omega (arith, c.loop-slot-test.true, c.loop-slot.auto.slot-index-end), sym c.slot-item.is, sym c.is_full.ensures ∙ c.if-is_full.true)

pub loop-slot-preserved : goal.loop-slot-preserved
loop-slot-preserved c =
    empty_more c.args.slots.now c.loop-slot.slot-index c.slot-item.result (omega (arith, c.loop-slot-test.true, c.loop-slot.auto.slot-index-end)) (sym c.slot-item.is) (none_there _ (sym c.is_full.ensures ∙ c.if-is_full.false)) c.loop-slot.invariant

pub returns-clause-none : goal.returns-clause-none
returns-clause-none c = λ _. empty_all c.args.slots.now c.loop-slot.slot-index (omega (arith, c.loop-slot-test.false, c.loop-slot.auto.slot-index-end)) c.loop-slot.invariant
