use Rattle.std.proofs.Common.{◌∙◌, sym, ap}
use Rattle.fn_layout.specs.declared.shape.Shape.{Shape}
use Rattle.table_tests.proofs.Levels.{at_based, may_apply}
use Rattle.table_tests.proofs.more_levels.apply.Goals as goal

pub returns : goal.returns
returns c = record { based = at_based c.args.table.now c.args.number _ _ c.args.level _ c.args.under.now _ _ _ c.requires.shut c.apply_batch-base.ensures }

pub apply_batch-base-requires-clause-may : goal.apply_batch-base-requires-clause-may
apply_batch-base-requires-clause-may c = may_apply c.args.table.now c.args.number _ c.args.level c.args.under.now _ _ _ (c.if-level-levels.false ∙ c.levels-levels.ensures ∙ ap (λ (s : Shape). s.levels) c.shape.ensures) (sym c.cap-cap.ensures ∙ c.if-cap-ne-NO_CAP.false) c.saturating_sub.ensures c.requires.shut
