use Rattle.quota_bucket.proofs.Standing as proved
use Rattle.quota_bucket.proofs.takes_stand.Goals as goal

pub returns : goal.returns
returns c = proved.takes_stand
