use Rattle.picture_marks.proofs.Counted.{shares-sum}
use Rattle.picture_marks.proofs.measures.shares_laws.Goals as goal

pub returns : goal.returns
returns c = shares-sum
