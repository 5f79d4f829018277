use Rattle.std.proofs.Common.{arith}
use Rattle.fn_core.proofs.Members.{members_few}
use Rattle.fn_core.proofs.machine.Machine.row_in.Goals as goal

pub overflow_cast-row : goal.overflow_cast-row
overflow_cast-row c =
    let few = members_few c.args.self.now.start.shape c.args.level c.args.index in
    rw (c.from-rows.ensures, c.rows.ensures) (omega (arith, c.requires.named, few))
