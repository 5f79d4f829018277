use Rattle.std.proofs.Common.{sym, ap, ◌∙◌, rules, tests}
use Rattle.std.proofs.lemmas.Iterator.{YieldsList-from_map, YieldsList-from_slice}
use Rattle.std.proofs.lemmas.Iterator.Adapters.{option_map_id}
use Rattle.std.proofs.lemmas.Iterator.Consumers.{min_from_yields_List}
use Rattle.std.specs.Prelude.{unwrap_or}
use Rattle.picture_marks.specs.Marks.{low}
use Rattle.picture_marks.proofs.Bounds.{least_is}
use Rattle.picture_marks.proofs.measures.least.Goals as goal

pub returns : goal.returns
returns c =
    c.unwrap_or.ensures
    ∙ ap (λ bound. unwrap_or bound 0)
    (sym (option_map_id _) ∙ min_from_yields_List _ _ c.min.ensures.ran (YieldsList-from_map _ low (YieldsList-from_slice c.args.column.now cc) c.map.ensures.closure (λ x r q k. search (rules, tests))))
    ∙ least_is c.args.column.now
