use Rattle.std.proofs.Common.{arith, inl, inr, ℕ, ◌+◌, ◌*◌, subst}
use Rattle.std.proofs.lemmas.Nat.{mul-add-lt}
use Rattle.std.proofs.lemmas.Bool.{cases_eq}
use Rattle.fn_rows.specs.Aggregator.{state_of}
use Rattle.fn_rows.specs.Machine.{IsFree}
use Rattle.fn_core.proofs.Decided.{refuted}
use Rattle.fn_core.proofs.row_numbers.first_free_of.Goals as goal

pub overflow_mul-member : goal.overflow_mul-member
overflow_mul-member c = omega (arith, mul-add-lt c.args.member c.args.rows c.loop-n.n 64 c.requires.few c.loop-n-test.true, c.requires.short)

pub overflow_add-member : goal.overflow_add-member
overflow_add-member c = omega (arith, mul-add-lt c.args.member c.args.rows c.loop-n.n 64 c.requires.few c.loop-n-test.true, c.requires.short)

pub loop-n-preserved : goal.loop-n-preserved
loop-n-preserved c = λ k less free. elim (cases_eq k c.loop-n.n) [
  | inl same ↦ refuted c.is_free.result _ c.if-is_free.false c.is_free.ensures (subst (λ (x : ℕ). IsFree c.args.state.now.members (state_of c.args.state.now) c.args.member (c.args.member * c.args.rows + x)) same free)
  | inr other ↦ c.loop-n.invariant k (omega arith) free
]

pub returns : goal.returns
returns c = (omega arith, λ k less. c.loop-n.invariant k (omega (arith, less, c.loop-n-test.false)), λ less. absurd (omega (arith, less)))
