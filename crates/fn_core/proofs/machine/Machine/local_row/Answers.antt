use Rattle.std.proofs.Common.{◌%◌, arith}
use Rattle.std.proofs.lemmas.Nat.{mod_below}
use Rattle.fn_core.proofs.Members.{row_few}
use Rattle.fn_core.proofs.machine.Machine.local_row.Goals as goal

pub overflow_mul-result : goal.overflow_mul-result
overflow_mul-result c =
    rw c.rows.ensures (omega (arith, row_few c.args.self.now.start.shape c.args.level _ c.member.result 0 c.member.ensures.in_range (omega arith)))

pub overflow_add-result : goal.overflow_add-result
overflow_add-result c =
    rw (c.rows.ensures, c.rows-2.ensures) (omega (arith, row_few c.args.self.now.start.shape c.args.level _ c.member.result (c.args.row % c.args.self.now.start.shape.rows) c.member.ensures.in_range (mod_below c.args.row c.args.self.now.start.shape.rows (omega arith))))
