use Rattle.picture_line.proofs.Drawn.{left_by-last}
use Rattle.picture_line.proofs.bars.left_by.Goals as goal

pub returns-in-len1-up : goal.returns-in-len1-up
returns-in-len1-up c = left_by-last c.args.column.now _ c.in-len1-up.len_at_least
