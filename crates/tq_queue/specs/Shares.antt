-- The parts of the passes of a queue.
--     HoldsParts passes parts      they are the parts of these passes
--     IsReady funnel passes      a funnel and passes over which it may close
use Rattle.std.specs.Prelude.{◌≡◌, List, All, map}
use Rattle.fn_core.specs.Calls.{IsIdle}
use Rattle.fn_table.specs.Seen.{TableView, PassView}
use Rattle.fn_table.specs.Seen as funnel
use Rattle.tq_queue.specs.declared.rooms.Parts.{Parts}
use Rattle.tq_queue.specs.Fours.{pick, AllFour}
use Rattle.tq_queue.specs.Seen.{CallerView}

-- the lists have the parts of these passes
pub record HoldsParts {T : Type 0} (whole : List (CallerView T)) (r : Parts T) : Type 0 where
  pub seats : r.seats.items ≡ map (λ p. p.seat) whole
  pub passes : AllFour (λ w. (pick w r.passes).items ≡ map (λ p. pick w p.passes) whole)

-- what the closing of a funnel asks of its passes
pub record IsReady (t : TableView) (passes : List PassView) : Type 0 where
  pub together : All (funnel.IsOf t) passes
  pub all : funnel.AreAll t passes
  pub idle : All (λ p. IsIdle p.seen p.number) passes
