use Rattle.picture_report.proofs.Numbered.{rows-marked}
use Rattle.picture_report.proofs.marking.marks_laws.Goals as goal

pub returns : goal.returns
returns c = rows-marked
