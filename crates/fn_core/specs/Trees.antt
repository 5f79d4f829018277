-- One step of the main word stands for a whole tree of batches.
--     TreeStands cap opening past kind table level index lo hi base      a batch, each batch under it and each of their calls stand in the history, and meet what the base and their offsets give
--     TreesStand      so does each batch that has entered the main word
--     OneStepAnEvent      an event changes the main word by one step at most
use Rattle.std.specs.Prelude.{◌≡◌, ◌⊎◌, ℕ, zero, suc, ◌-◌, ◌<◌, ◌≤◌, ⊤, List, [], ◌∷◌, ◌++◌}
use Rattle.fn_model.specs.declared.Call.{Call}
use Rattle.fn_model.specs.declared.Kind.{Kind}
use Rattle.fn_model.specs.Arrivals.{Arrival, Own, Batch, Table, ArrivesAt, expand}
use Rattle.fn_model.specs.Histories.{MainStep, BatchStep, StandsIn, history}
use Rattle.fn_model.specs.Integer.{after, value}
use Rattle.fn_core.specs.declared.Event.{Event}
use Rattle.fn_core.specs.State.{history_in}
use Rattle.fn_core.specs.Machine.{Allowed, effect}
use Rattle.fn_core.specs.Laws.{Always}

-- what an arrival stands for stands in the history, and meets this integer: its call, or the batch that it is
abbrev pub ArrivalStands : (ℕ → ℕ → ℕ → ℕ → Type 0) → ℕ → ℕ → List Call → Arrival → ℕ → Type 0
ArrivalStands batch cap opening past (Own call) met = StandsIn cap opening past (call ∷ []) met
ArrivalStands batch cap opening past (Batch index lo hi) met = batch index lo hi met

-- the calls of a batch stand side by side in the history, and the first of them meets the base; and what has arrived in the batch at an offset x meets what a call of x - lo makes of the base, and so on down to the calls
abbrev pub TreeStands : ℕ → ℕ → List Call → Kind → Table → ℕ → ℕ → ℕ → ℕ → ℕ → Type 0
TreeStands cap opening past kind table zero index lo hi base = ⊤
TreeStands cap opening past kind table (suc below) index lo hi base =
    StandsIn cap opening past (expand table (suc below) index lo hi) base
    × ((x : ℕ) (arrival : Arrival) → ArrivesAt (table (suc below) index) x arrival → lo ≤ x → x < hi → ArrivalStands (TreeStands cap opening past kind table below) cap opening past arrival (after cap base kind (x - lo)))

-- where a batch has entered the main word, all calls of the tree of batches under it have: they stand behind those that entered before and in front of those that entered later, change the integer as one call of the batch's weight does, and each of them, and each batch among them, meets what the word that the step met and the offsets give
abbrev pub TreesStand : Type 0
TreesStand = Always (λ start s. (earlier later : List MainStep) (kind : Kind) (index lo hi : ℕ) → s.steps ≡ earlier ++ BatchStep kind index lo hi ∷ later
    → let levels = start.shape.levels in
    let past = history s.arrivals levels earlier in
    let calls = expand (s.arrivals kind) levels index lo hi in
    let met = value start.cap start.opening past in
    (history_in start s ≡ past ++ calls ++ history s.arrivals levels later)
    × (value start.cap start.opening (past ++ calls) ≡ after start.cap met kind (hi - lo))
    × TreeStands start.cap start.opening (history_in start s) kind (s.arrivals kind) levels index lo hi met)

-- an event leaves the main word and what has entered it, or enters one call or one batch
abbrev pub OneStepAnEvent : Type 0
OneStepAnEvent = Always (λ start s. (event : Event) → Allowed start s event
    → let next = effect start s event in ((next.main ≡ s.main) × (next.steps ≡ s.steps)) ⊎ ((step : MainStep) × (next.steps ≡ s.steps ++ step ∷ [])))
