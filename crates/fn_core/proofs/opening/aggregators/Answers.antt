use Rattle.std.proofs.Common.{List, ◌++◌, ◌≡◌, sym, ◌∙◌, ap, subst}
use Rattle.fn_rows.specs.Aggregator.{Aggregator}
use Rattle.fn_core.specs.Fields.{ArePlaces}
use Rattle.fn_core.specs.Opening.{unreached}
use Rattle.fn_core.proofs.Opened.{kinds_are}
use Rattle.fn_core.proofs.opening.aggregators.Goals as goal

pub returns : goal.returns
returns c =
    let adds = c.in_ok-add_kind.ensures in
    let subs = c.in_ok-add_kind-2.ensures in
    let first : c.add_kind.new.all.items ≡ adds.0 = adds.1 ∙ ap (λ (xs : List Aggregator). xs ++ adds.0) c.new-all.ensures.items in
    subst (λ (xs : List Aggregator). ArePlaces c.args.shape xs unreached) (sym (subs.1 ∙ ap (λ (xs : List Aggregator). xs ++ subs.0) first))
    (kinds_are c.args.shape adds.0 subs.0 adds.2 subs.2)
