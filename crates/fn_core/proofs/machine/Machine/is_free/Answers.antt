use Rattle.fn_core.proofs.Looks.{member_in}
use Rattle.fn_core.proofs.OwnRows.{free_there, row_in}
use Rattle.fn_core.proofs.Taken.{in_rows}
use Rattle.fn_core.proofs.machine.Machine.is_free.Goals as goal

pub local_row-number-requires : goal.local_row-number-requires
local_row-number-requires c = record { slot = (c.requires.slot.0, c.requires.slot.2) }

pub index-requires : goal.index-requires
index-requires c = in_rows c.args.self.now c.requires.taken.0 c.requires.taken.1 c.args.pass c.args.kind c.args.level c.requires.slot _ c.seat-place.ensures.place

pub is_free-requires-clause-member : goal.is_free-requires-clause-member
is_free-requires-clause-member c = member_in c.args.self.now c.requires.taken.0 c.requires.taken.1 c.args.pass c.args.kind c.args.level c.requires.slot _ _ c.seat-place.ensures.place c.index.ensures _ c.seat-place.ensures.member

pub is_free-requires-clause-row : goal.is_free-requires-clause-row
is_free-requires-clause-row c = row_in c.args.self.now c.requires.taken.0 c.requires.taken.1 c.args.pass c.args.kind c.args.level c.requires.slot c.args.row _ _ c.seat-place.ensures.place c.index.ensures _ c.local_row-number.ensures

pub returns : goal.returns
returns c = λ log stands. free_there c.args.self.now log stands c.args.pass c.args.kind c.args.level c.requires.slot c.args.row _ _ c.seat-place.ensures.place c.index.ensures _ _ c.seat-place.ensures.member c.local_row-number.ensures _ c.is_free.ensures
