use Rattle.std.proofs.Common.{arith}
use Rattle.fn_climb.proofs.Moves.{row_fits}
use Rattle.fn_climb.proofs.row_words.own_row.Goals as goal

pub overflow_add-result : goal.overflow_add-result
overflow_add-result c =
    let few = rw (c.rows.ensures, c.shape_of.ensures) at c.parts-rest.ensures.small in
    let fits = row_fits c.requires.holds few c.spot_of.ensures in omega (arith, fits)
