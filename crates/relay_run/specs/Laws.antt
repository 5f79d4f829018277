-- What a relay's account says of its claim.
--     RelaysAreOrdered      the order of the tickets has all lines, and keeps each worker's
use Rattle.std.specs.Prelude.{ℕ}
use Rattle.tq_queue.specs.Seen.{BookView}
use Rattle.relay_run.specs.Relay.{IsRelay, order_of}
use Rattle.relay_run.specs.Claim.{IsOrder}

-- whatever a relay's queue was, the order of its tickets is such an order
abbrev pub RelaysAreOrdered : Type 0
RelaysAreOrdered = (workers capacity count : ℕ) (book : BookView ℕ) → IsRelay workers capacity count book → IsOrder workers count (order_of count book)
