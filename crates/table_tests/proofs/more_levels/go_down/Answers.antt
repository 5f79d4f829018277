use Rattle.std.proofs.Common.{◌∙◌, ap, ℕ}
use Rattle.fn_model.specs.Integer.{after}
use Rattle.fn_model.specs.declared.Kind.TheVariants.{Add}
use Rattle.table_tests.proofs.Levels.{at_down}
use Rattle.table_tests.proofs.more_levels.go_down.Goals as goal

pub returns : goal.returns
returns c =
    record { based = at_down c.args.table.now c.args.number _ _ c.args.level c.args.batch c.args.under.now _ _ _ _ (c.after_capped-reply.ensures ∙ ap (λ (x : ℕ). after x c.args.got.0 Add c.args.got.1) c.cap-cap.ensures) c.requires.last c.requires.got c.leave.ensures.1 }
