-- How a desk makes a call.
--     GoesPast pass kind amount reply after      the call went to the main word by itself
--     GoesOnWay through pass kind amount reply way after      how the call went, and what its way says of that
--     EntersBy way core call      how the call has entered the main word
--     Called pass kind through amount answer after      the pass made exactly this call, with this answer, in this way
--     WentAt old tenant kind through amount answer new      so did the desk's pass at this tenant
use Rattle.std.specs.Prelude.{◌≡◌, ℕ, slice_get, Bool, true, false, Option, Some, None}
use Rattle.fn_model.specs.declared.Call.{Call}
use Rattle.fn_model.specs.declared.Kind.{Kind}
use Rattle.fn_model.specs.declared.Kind.TheVariants.{Add, Sub, Read}
use Rattle.fn_model.specs.Integer.{moved_amount}
use Rattle.fn_core.specs.declared.Move.TheVariants.{Load}
use Rattle.fn_core.specs.declared.Purpose.TheVariants as purpose
use Rattle.fn_core.specs.Calls.{CoreLog}
use Rattle.fn_core.specs.Entries.{IsAlone}
use Rattle.fn_table.specs.Seen.{PassView, Stepped}
use Rattle.fn_table.specs.Later.{IsLater}
use Rattle.fn_table.specs.Called.{call_of, HasCalled}
use Rattle.fn_funnel.specs.declared.waiting.Way.{Way}
use Rattle.fn_funnel.specs.Waiting.{GoesBy, IsStraight, is_one_step, HasEntered}
use Rattle.quota_pool.specs.declared.moved.Moved.{Moved}
use Rattle.quota_pool.specs.Views.{DeskView}

-- the call went to the main word by itself: a read is one load, an addition is one step where no addition stops, and else loads and exchanges up to the one that won
abbrev pub GoesPast : PassView → Kind → ℕ → ℕ → PassView → Type 0
GoesPast p Read amount reply q = Stepped p (Load purpose.Read) reply q
GoesPast p Add amount reply q = IsStraight (is_one_step Add p.seen.start.cap) p Add amount reply q
GoesPast p Sub amount reply q = IsStraight (is_one_step Sub p.seen.start.cap) p Sub amount reply q

-- how the call went: one that may go through the funnel tells its way, and one that goes past it tells none
abbrev pub GoesOnWay : Bool → PassView → Kind → ℕ → ℕ → Option Way → PassView → Type 0
GoesOnWay true p kind amount reply (Some way) q = GoesBy p kind amount reply way q
GoesOnWay true p kind amount reply None q = ⊥
GoesOnWay false p kind amount reply (Some way) q = ⊥
GoesOnWay false p kind amount reply None q = GoesPast p kind amount reply q

-- the call has entered the main word as its way has it, and by itself where it has none
abbrev pub EntersBy : Option Way → CoreLog → Call → Type 0
EntersBy (Some way) core call = HasEntered way core call
EntersBy None core call = IsAlone core call

-- The pass made exactly this call, which met `before` and moved what the integer allowed, in this way; and it has then seen more
pub record Called (p : PassView) (kind : Kind) (through : Bool) (amount : ℕ) (answer : Moved) (q : PassView) : Type 0 where
  pub later : IsLater p q
  pub called : HasCalled p kind amount answer.before q
  pub moved : answer.moved ≡ moved_amount p.seen.start.cap answer.before kind amount
  pub way : GoesOnWay through p kind amount answer.before answer.way q
  pub entered : EntersBy answer.way q.seen (call_of p kind amount)

-- the pass that the desk had at this tenant made the call in this way, and is the one that it has there now
abbrev pub WentAt : DeskView → ℕ → Kind → Bool → ℕ → Moved → DeskView → Type 0
WentAt old tenant kind through amount answer new =
    (pass after : PassView) → slice_get old.passes tenant ≡ Some pass → slice_get new.passes tenant ≡ Some after → Called pass kind through amount answer after
