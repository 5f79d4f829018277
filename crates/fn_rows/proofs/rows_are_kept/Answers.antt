use Rattle.fn_rows.proofs.Law.{law}
use Rattle.fn_rows.proofs.rows_are_kept.Goals as goal

pub returns : goal.returns
returns c = law
