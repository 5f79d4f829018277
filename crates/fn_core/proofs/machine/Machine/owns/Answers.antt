use Rattle.std.proofs.Common.{◌∙◌, ap}
use Rattle.fn_core.specs.Order.{own_row}
use Rattle.fn_core.proofs.Decided.{owns_row}
use Rattle.fn_core.proofs.machine.Machine.owns.Goals as goal

pub returns : goal.returns
returns c = owns_row c.args.self.now.start.shape c.args.pass c.args.kind c.args.level c.args.row _ (c.own_row.ensures ∙ ap (own_row c.args.self.now.start.shape c.args.pass c.args.kind c.args.level) c.from.ensures)
