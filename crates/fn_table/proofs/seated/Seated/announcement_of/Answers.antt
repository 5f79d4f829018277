use Rattle.std.proofs.Common.{◌+◌, ◌*◌, ap, ◌∙◌, arith}
use Rattle.fn_layout.specs.declared.shape.Shape.{Shape}
use Rattle.fn_layout.proofs.Numbers.{slot_number_below}
use Rattle.fn_layout.proofs.Rows.{announcement_on, rows_begin_low}
use Rattle.fn_table.specs.declared.spots.Spot.{Spot}
use Rattle.fn_table.proofs.seated.Seated.announcement_of.Goals as goal

pub returns : goal.returns
returns c =
    (λ i. ap (λ (x : Spot). x.first_announcement) c.spot.ensures i + 2 * c.args.pass * (c.levels.ensures ∙ ap (λ (s : Shape). s.levels) c.requires.shape) i)
    ∙ announcement_on c.args.self.now.seen.start.shape c.args.pass c.args.kind c.args.level

pub overflow_add-result : goal.overflow_add-result
overflow_add-result c =
    let shape = c.args.self.now.seen.start.shape in
    omega (arith, returns c, slot_number_below shape c.args.pass c.args.kind c.args.level c.requires.slot, rows_begin_low shape)
