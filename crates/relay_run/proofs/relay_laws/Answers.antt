use Rattle.relay_run.proofs.Ordered.{relays_are_ordered}
use Rattle.relay_run.proofs.relay_laws.Goals as goal

pub returns : goal.returns
returns c = relays_are_ordered
