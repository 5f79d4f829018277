-- The parts of the desks of a bucket.
use Rattle.std.specs.Prelude.{◌≡◌, List, map}
use Rattle.quota_bucket.specs.declared.rooms.Parts.{Parts}
use Rattle.quota_bucket.specs.Seen.{DeskView}

-- the lists have the passes and the seats of these desks
pub record HoldsParts (desks : List DeskView) (r : Parts) : Type 0 where
  pub passes : r.passes.items ≡ map (λ d. d.pass) desks
  pub seats : r.seats.items ≡ map (λ d. d.seat) desks
