use Rattle.std.proofs.Common.{◌≡◌, ℕ, ◌-◌, ◌/◌, ◌<◌, sym, ◌∙◌, ap, subst, arith}
use Rattle.fn_climb.proofs.Links.{owner_below}
use Rattle.fn_climb.proofs.row_words.row_read.Goals as goal

-- the row's pass is one of the shape's
owner : (c : goal.After-parts-pair) → c.parts-pair.result.0 / 2 < c.args.shape.passes
owner c =
    let slot : c.parts-slot.result.0 ≡ (c.args.word - 1) / c.args.shape.rows = c.parts-slot.ensures.quotient ∙ ap (λ (x : ℕ). (c.args.word - 1) / x) c.rows.ensures in
    let pair : c.parts-pair.result.0 ≡ (c.args.word - 1) / c.args.shape.rows / c.args.shape.levels = c.parts-pair.ensures.quotient ∙ ap (λ (z : ℕ × ℕ). z.0 / z.1) (λ i. (slot i, c.levels.ensures i)) in
    subst (λ (n : ℕ). n / 2 < c.args.shape.passes) (sym pair) (owner_below c.args.shape c.args.word c.requires c.if-word-eq0.false)

pub overflow_cast-pair : goal.overflow_cast-pair
overflow_cast-pair c = omega (arith, owner c)

pub member-member-requires-clause-pass_in_range : goal.member-member-requires-clause-pass_in_range
member-member-requires-clause-pass_in_range c = owner c
