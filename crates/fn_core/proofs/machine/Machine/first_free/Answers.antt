use Rattle.std.proofs.Common.{sym, ◌∙◌}
use Rattle.fn_core.proofs.Looks.{member_in, first_in, rows_in, few_in}
use Rattle.fn_core.proofs.Taken.{in_rows}
use Rattle.fn_core.proofs.machine.Machine.first_free.Goals as goal

pub index-requires : goal.index-requires
index-requires c = in_rows c.args.self.now c.requires.taken.0 c.requires.taken.1 c.args.pass c.args.kind c.args.level c.requires.slot _ c.seat-place.ensures.place

pub first_free_of-requires-clause-member : goal.first_free_of-requires-clause-member
first_free_of-requires-clause-member c = member_in c.args.self.now c.requires.taken.0 c.requires.taken.1 c.args.pass c.args.kind c.args.level c.requires.slot _ _ c.seat-place.ensures.place c.index.ensures _ c.seat-place.ensures.member

pub first_free_of-requires-clause-rows : goal.first_free_of-requires-clause-rows
first_free_of-requires-clause-rows c = c.rows.ensures ∙ sym (rows_in c.args.self.now c.requires.taken.0 c.requires.taken.1 c.args.pass c.args.kind c.args.level c.requires.slot _ _ c.seat-place.ensures.place c.index.ensures)

pub first_free_of-requires-clause-few : goal.first_free_of-requires-clause-few
first_free_of-requires-clause-few c = few_in c.args.self.now c.requires.taken.0 c.requires.taken.1 c.args.pass c.args.kind c.args.level c.requires.slot _ c.seat-place.ensures.member

pub returns : goal.returns
returns c = λ log stands. first_in c.args.self.now log stands c.args.pass c.args.kind c.args.level c.requires.slot _ _ c.seat-place.ensures.place c.index.ensures _ c.seat-place.ensures.member _ c.rows.ensures _ c.first_free_of.ensures
