use Rattle.text_lines.proofs.Cutting.{lines-count}
use Rattle.text_lines.proofs.pieces.Lines.new.Goals as goal

pub returns-clause-count : goal.returns-clause-count
returns-clause-count c = lines-count _
