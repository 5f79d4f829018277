use Rattle.std.proofs.Common.{List, [], ◌++◌, ℕ, ◌+◌, ◌≡◌, sym, refl, ◌∙◌, ap, subst, arith, append_assoc}
use Rattle.std.proofs.lemmas.List.{append-nil}
use Rattle.fn_rows.specs.Aggregator.{Aggregator}
use Rattle.fn_core.specs.Opening.{AreBelow}
use Rattle.fn_core.proofs.Opened.{below_push}
use Rattle.fn_core.proofs.opening.add_kind.Goals as goal

pub loop-level-init : goal.loop-level-init
loop-level-init c = ([], sym (append-nil c.args.all.now.items), (refl, λ level index some less inside. absurd (omega (arith, some, less))))

pub loop-level-preserved : goal.loop-level-preserved
loop-level-preserved c =
    let so_far = c.loop-level.invariant in
    let more = c.in_ok-add_level.ensures in (
      so_far.0 ++ more.0,
      more.1 ∙ ap (λ (xs : List Aggregator). xs ++ more.0) so_far.1 ∙ append_assoc c.args.all.now.items so_far.0 more.0,
      below_push c.args.shape c.loop-level.level so_far.0 more.0 c.loop-level.auto.level so_far.2 more.2,
    )

pub returns : goal.returns
returns c =
    let so_far = c.loop-level.invariant in
    let last : c.loop-level.level ≡ c.args.shape.levels + 1 = omega (arith, c.loop-level.auto.level-end, c.loop-level-test.false, c.levels-level-end.ensures) in
    (so_far.0, so_far.1, subst (λ (n : ℕ). AreBelow c.args.shape n so_far.0) last so_far.2)
