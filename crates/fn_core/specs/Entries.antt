-- How calls have entered the main word.
--     IsAlone core call      the call entered by itself
--     IsBatched core call      the call entered in a batch
--     EntriesStay, NoCallEntersTwice      both stay so, and no call has entered in both ways
--     DirectCallsAreAlone, FunnelledCallsAreBatched      which calls enter in which way
use Rattle.std.specs.Prelude.{◌≡◌, ℕ}
use Rattle.std.specs.List.{Contains}
use mathlib.Core.List.{IsPrefix}
use Rattle.fn_model.specs.declared.Call.{Call}
use Rattle.fn_model.specs.declared.Kind.{Kind}
use Rattle.fn_model.specs.Arrivals.{expand}
use Rattle.fn_model.specs.Histories.{OwnStep, BatchStep}
use Rattle.fn_core.specs.declared.Purpose.TheVariants as purpose
use Rattle.fn_core.specs.declared.Move.TheVariants.{Load, Exchange, Direct}
use Rattle.fn_core.specs.declared.Event.{Event}
use Rattle.fn_core.specs.State.{Start, Trying, State}
use Rattle.fn_core.specs.Machine.{Allowed, effect}
use Rattle.fn_core.specs.Laws.{Always}
use Rattle.fn_core.specs.Calls.{CoreLog, state_in, calls_in, IsLegal}
use Rattle.fn_core.specs.Begin.{WaitsAtLeaf}

-- the call has entered the main word by itself, as one step of it
abbrev pub IsAlone : CoreLog → Call → Type 0
IsAlone core call = Contains (state_in core).steps (OwnStep call)

-- the call is one of those for which a batch stands that has entered the main word
pub record IsBatched (core : CoreLog) (call : Call) : Type 0 where
  pub kind : Kind
  pub index : ℕ
  pub lo : ℕ
  pub hi : ℕ
  pub entered : Contains (state_in core).steps (BatchStep kind index lo hi)
  pub among : Contains (expand ((state_in core).arrivals kind) core.start.shape.levels index lo hi) call

-- what has entered the main word in one way stands there so in each legal log that goes on
abbrev pub EntriesStay : Type 0
EntriesStay = (old new : CoreLog) → IsLegal new → new.start ≡ old.start → IsPrefix old.log new.log → (call : Call) → (IsAlone old call → IsAlone new call) × (IsBatched old call → IsBatched new call)

-- no call has entered in both ways
abbrev pub NoCallEntersTwice : Type 0
NoCallEntersTwice = (core : CoreLog) → IsLegal core → (call : Call) → IsAlone core call → IsBatched core call → ⊥

-- by the event its pass's last call enters the main word by itself
abbrev pub EntersAlone : Start → State → Event → Type 0
EntersAlone start s event = let next = effect start s event in Contains next.steps (OwnStep (next.callers event.pass).last)

-- so do reads, direct additions, and direct exchanges that win
abbrev pub DirectCallsAreAlone : Type 0
DirectCallsAreAlone = Always (λ start s. (event : Event) → Allowed start s event
    → (event.step ≡ Load purpose.Read → EntersAlone start s event)
    × ((amount : ℕ) → event.step ≡ Direct amount → EntersAlone start s event)
    × ((kind : Kind) (amount word : ℕ) → event.step ≡ Exchange kind amount → (s.callers event.pass).position ≡ Trying word → s.main ≡ word → EntersAlone start s event))

-- a call that has waited at its leaf enters the main word in a batch, or not at all
abbrev pub FunnelledCallsAreBatched : Type 0
FunnelledCallsAreBatched = (old new : CoreLog) → IsLegal new → new.start ≡ old.start → IsPrefix old.log new.log → (pass : ℕ) (kind : Kind) → WaitsAtLeaf old pass kind
    → let call = ((state_in old).callers pass).last in Contains (calls_in new) call → IsBatched new call
