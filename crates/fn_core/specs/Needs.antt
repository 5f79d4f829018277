-- How long a member doesn't need a row.
--     Publishes start s event kind level index r, NonePublishes start kind level index r log s      the event publishes this row of this aggregator, none of the events does
--     ScansAreEnough      who is found with an announcement that lets a row be filled doesn't need it until it is published again
--     UnneededRowsStay      nor does anyone who doesn't need it
use Rattle.std.specs.Prelude.{◌≡◌, ℕ, ⊤, List, [], ◌∷◌}
use Rattle.fn_model.specs.declared.Kind.{Kind}
use Rattle.fn_rows.specs.declared.Stage.TheVariants.{Pointed}
use Rattle.fn_rows.specs.Machine.{Lets}
use Rattle.fn_rows.specs.Law.{Needs}
use Rattle.fn_core.specs.declared.Move.TheVariants.{Publish}
use Rattle.fn_core.specs.declared.Event.{Event}
use Rattle.fn_core.specs.Tree.{aggregator}
use Rattle.fn_core.specs.State.{Start, State, stage}
use Rattle.fn_core.specs.Machine.{Legal, effect, run}
use Rattle.fn_core.specs.Laws.{Always}

-- the event publishes this row of this aggregator
abbrev pub Publishes : Start → State → Event → Kind → ℕ → ℕ → ℕ → Type 0
Publishes start s event kind level index r = (event.step ≡ Publish kind level) × (aggregator start.shape event.pass level ≡ index) × ((at hi b : ℕ) × (stage start s kind level event.pass ≡ Pointed at hi b r))

-- none of the events publishes this row
abbrev pub NonePublishes : Start → Kind → ℕ → ℕ → ℕ → List Event → State → Type 0
NonePublishes start kind level index r [] s = ⊤
NonePublishes start kind level index r (event ∷ later) s = (Publishes start s event kind level index r → ⊥) × NonePublishes start kind level index r later (effect start s event)

-- a member whose announcement lets a row be filled, as a scan finds it, doesn't need that row until the row is published again
abbrev pub ScansAreEnough : Type 0
ScansAreEnough = Always (λ start s. (later : List Event) → Legal start later s → (kind : Kind) (level index q r : ℕ) → let old = s.rows kind level index in Lets (old.announced q) (old.end r) → NonePublishes start kind level index r later s
    → Needs ((run start later s).rows kind level index).state q r → ⊥)

-- a member that doesn't need a row doesn't until the row is published again
abbrev pub UnneededRowsStay : Type 0
UnneededRowsStay = Always (λ start s. (later : List Event) → Legal start later s → (kind : Kind) (level index q r : ℕ) → (Needs (s.rows kind level index).state q r → ⊥) → NonePublishes start kind level index r later s
    → Needs ((run start later s).rows kind level index).state q r → ⊥)
