use Rattle.quota_bucket.proofs.Additions as proved
use Rattle.quota_bucket.proofs.a_refill_is_its_additions.Goals as goal

pub returns-clause-additions : goal.returns-clause-additions
returns-clause-additions c = proved.is_additions

pub returns-clause-joins : goal.returns-clause-joins
returns-clause-joins c = proved.join

pub returns-clause-fits : goal.returns-clause-fits
returns-clause-fits c = proved.fits
