use Rattle.std.proofs.Common.{List, [], ◌∷◌, ◌++◌, ℕ, ◌<◌, ◌≡◌, sym, refl, ◌∙◌, ap, subst, arith, append_assoc}
use Rattle.std.proofs.lemmas.List.{append-nil}
use Rattle.fn_rows.specs.Aggregator.{Aggregator}
use Rattle.fn_layout.specs.Tree.{width}
use Rattle.fn_core.specs.Opening.{AreFirst}
use Rattle.fn_core.proofs.Opened.{members_some, place_starts, first_push}
use Rattle.fn_core.proofs.opening.add_level.Goals as goal

pub loop-index-init : goal.loop-index-init
loop-index-init c = ([], sym (append-nil c.args.all.now.items), (refl, λ index less. absurd (omega (arith, less))))

pub new-requires : goal.new-requires
new-requires c =
    let shape = c.args.shape in
    let inside : c.loop-index.index < width shape c.args.level = subst (λ (n : ℕ). c.loop-index.index < n) c.width-index-end.ensures.exact c.loop-index-test.true in
    let some = members_some shape c.args.level c.loop-index.index inside in (
      omega (arith, c.members-members.ensures.exact, some),
      omega (arith, c.members-members.ensures.in_range, shape.passes_in_range),
      omega (arith, c.rows.ensures, shape.rows_in_range),
      omega (arith, c.rows.ensures, shape.rows_in_range),
    )

pub loop-index-preserved : goal.loop-index-preserved
loop-index-preserved c =
    let shape = c.args.shape in
    let so_far = c.loop-index.invariant in
    let made : Aggregator = c.in_ok-new.field-0 in
    let place = place_starts shape c.args.level c.loop-index.index c.members-members.result c.rows.result made c.members-members.ensures.exact c.rows.ensures c.in_ok-new.ensures in (
      so_far.0 ++ made ∷ [],
      c.in_ok-push.ensures.items ∙ ap (λ (xs : List Aggregator). xs ++ made ∷ []) so_far.1 ∙ append_assoc c.args.all.now.items so_far.0 (made ∷ []),
      first_push shape c.args.level c.loop-index.index so_far.0 made so_far.2 place,
    )

pub returns : goal.returns
returns c =
    let so_far = c.loop-index.invariant in
    let last : c.loop-index.index ≡ width c.args.shape c.args.level = omega (arith, c.loop-index.auto.index-end, c.loop-index-test.false, c.width-index-end.ensures.exact) in
    (so_far.0, so_far.1, subst (λ (n : ℕ). AreFirst c.args.shape c.args.level n so_far.0) last so_far.2)
