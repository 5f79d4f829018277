use Rattle.fn_rows.proofs.Laws.{scanned_until}
use Rattle.fn_rows.proofs.scans_are_enough.Goals as goal

pub returns : goal.returns
returns c = scanned_until
