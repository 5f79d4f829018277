use Rattle.picture_report.proofs.Headed.{headings-told}
use Rattle.picture_report.proofs.headings.headings_laws.Goals as goal

pub returns : goal.returns
returns c = headings-told
