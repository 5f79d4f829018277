use Rattle.std.proofs.Common.{◌≡◌, ◌<◌, ◌≤◌, ℕ, get_or}
use Rattle.replay_run.specs.declared.places.Place.{Place}
use Rattle.replay_run.specs.Work.{IsRoomy}
use Rattle.replay_run.proofs.places.make_rooms.Given as goal

abbrev pub invariant-loop-place : goal.invariant-loop-place
invariant-loop-place l = record {
  roomy : (k : ℕ) (d : Place) → k < l.place-index → IsRoomy (get_or l.fn.places k d) (get_or l.places k d);
  rest : (k : ℕ) (d : Place) → l.place-index ≤ k → get_or l.places k d ≡ get_or l.fn.places k d;
}
