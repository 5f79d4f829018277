use Rattle.std.proofs.Common.{◌<◌, slice_index, sym, ap, subst, ◌∙◌}
use Rattle.fn_layout.specs.Words.{IsSlot}
use Rattle.fn_core.specs.declared.Start.{Start}
use Rattle.fn_table.specs.Seen.{PassView}
use Rattle.fn_table.specs.Kept.{Keeps}
use Rattle.fn_table.proofs.Published.{end_there}
use Rattle.fn_table.proofs.pass.Pass.row_end.Goals as goal

pub spot-requires-clause-level : goal.spot-requires-clause-level
spot-requires-clause-level c = (subst (λ (b : Start). IsSlot b.shape c.args.self.now.number c.args.kind c.args.level) (sym c.requires.together.1) c.requires.slot).2

pub row_end-requires : goal.row_end-requires
row_end-requires c =
    let p = c.args.self.now in
    let k = subst (λ (x : PassView). Keeps x c.self.inside.tally) c.self.view_is c.self.invariant in
    let at = subst (λ (b : Start). IsSlot b.shape p.number c.args.kind c.args.level × (c.args.row < b.shape.rows)) (sym c.requires.together.1) (c.requires.slot, c.requires.row) in
    (end_there p.seen.start p.number _ _ k at.0.1 at.0.2 at.1 c.spot.ensures).2

pub returns : goal.returns
returns c =
    let p = c.args.self.now in
    let k = subst (λ (x : PassView). Keeps x c.self.inside.tally) c.self.view_is c.self.invariant in
    let at = subst (λ (b : Start). IsSlot b.shape p.number c.args.kind c.args.level × (c.args.row < b.shape.rows)) (sym c.requires.together.1) (c.requires.slot, c.requires.row) in
    let there = end_there p.seen.start p.number _ _ k at.0.1 at.0.2 at.1 c.spot.ensures in
    c.row_end.ensures ∙ ap (slice_index c.self.inside.tally.ends.items) there.0 ∙ k.ends _ _ _ there.3 at.1
