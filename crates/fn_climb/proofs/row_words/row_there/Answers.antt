use Rattle.std.proofs.Common.{ℕ, ◌/◌, ◌<◌, ap, arith}
use Rattle.fn_climb.proofs.Links.{member_few}
use Rattle.fn_climb.proofs.row_words.row_there.Goals as goal

pub overflow_cast-member : goal.overflow_cast-member
overflow_cast-member c =
    let few : c.args.row / c.args.shape.rows < 64 = member_few c.args.shape c.args.level c.args.index (c.args.row / c.args.shape.rows) c.requires.owned in
    omega (arith, few, c.parts-member.ensures.quotient, ap (λ (x : ℕ). c.args.row / x) c.rows.ensures)
