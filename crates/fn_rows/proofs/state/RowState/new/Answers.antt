use Rattle.std.proofs.Common.{refl, rules}
use Rattle.fn_rows.proofs.Fields.{starts, start_reached}
use Rattle.fn_rows.proofs.state.RowState.new.Goals as goal

pub invariant_of-result : goal.invariant_of-result
invariant_of-result c =
    start_reached _ c.requires refl refl refl
    (c.in_ok-vec.ensures.items_if_clones_equal (λ y is. is))
    (c.in_ok-vec-2.ensures.items_if_clones_equal (λ y is. is))
    (c.in_ok-vec-3.ensures.items_if_clones_equal (λ y is. is))
    (c.in_ok-vec-4.ensures.items_if_clones_equal (λ y is. is))
    (c.in_ok-vec-5.ensures.items_if_clones_equal (λ y is. is))
    (c.in_ok-vec-6.ensures.items_if_clones_equal (λ y is. is))
    (c.in_ok-vec-7.ensures.items_if_clones_equal (λ y is. search rules))

pub returns : goal.returns
returns c =
    starts _ c.requires refl refl refl
    (c.in_ok-vec.ensures.items_if_clones_equal (λ y is. is))
    (c.in_ok-vec-2.ensures.items_if_clones_equal (λ y is. is))
    (c.in_ok-vec-3.ensures.items_if_clones_equal (λ y is. is))
    (c.in_ok-vec-4.ensures.items_if_clones_equal (λ y is. is))
    (c.in_ok-vec-5.ensures.items_if_clones_equal (λ y is. is))
    (c.in_ok-vec-6.ensures.items_if_clones_equal (λ y is. is))
    (c.in_ok-vec-7.ensures.items_if_clones_equal (λ y is. search rules))
