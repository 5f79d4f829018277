-- What holds in each state that allowed steps reach.
use Rattle.std.specs.Prelude.{◌≡◌, ◌⊎◌, ℕ, zero, suc, ◌-◌, ◌*◌, ◌/◌, ◌<◌, ◌≤◌, ⊤, Bool, true, false, List, [], ◌∷◌, length, Option, Some, None}
use Rattle.fn_rows.specs.Machine.{Saw, Stage, Lead, Shut, Based, Headed, FilledLo, FilledBase, Filled, Pointed, At, Over, Hit, Got, offset, Field, State, Step, Fill, Publish, after, Lets, Allowed}
use Rattle.fn_rows.specs.Trace.{Batch, Traced, batch}

-- the end of the newest batch
abbrev pub end_of : List Batch → ℕ
end_of [] = 0
end_of (b ∷ bs) = b.hi

-- the word that names the row of the newest batch
abbrev pub link_of : List Batch → ℕ
link_of [] = 0
link_of (b ∷ bs) = suc b.row

-- each batch holds an arrival, begins where the one before it ends, and names that one's row
abbrev pub IsChained : List Batch → Type 0
IsChained [] = ⊤
IsChained (b ∷ bs) = (b.lo ≡ end_of bs) × (b.lo < b.hi) × (b.prev ≡ link_of bs) × IsChained bs

-- the item is in the list
abbrev pub IsIn : {A : Type 0} → A → List A → Type 0
IsIn a [] = ⊥
IsIn a (x ∷ xs) = (a ≡ x) ⊎ IsIn a xs

-- no item stands twice
abbrev pub HasNoRepeat : List ℕ → Type 0
HasNoRepeat [] = ⊤
HasNoRepeat (x ∷ xs) = (IsIn x xs → ⊥) × HasNoRepeat xs

-- the words of the batch's row are the batch's
abbrev pub Stands : State → Batch → Type 0
Stands s b = (s.lo b.row ≡ b.lo) × (s.base b.row ≡ b.base) × (s.prev b.row ≡ b.prev)

-- the member has arrived at this offset and has no reply yet
abbrev pub HasArrived : State → ℕ → ℕ → Type 0
HasArrived s m at = offset (s.stage m) ≡ Some at

-- the member has arrived below the row's end and has no reply yet
abbrev pub Needs : State → ℕ → ℕ → Type 0
Needs s m r = (at : ℕ) × HasArrived s m at × (at < s.end r)

-- the member is between the Look by which it leads and its Publish
abbrev pub leads : Stage → Bool
leads (Lead at) = true
leads (Shut at hi) = true
leads (Based at hi b) = true
leads (Headed at hi b h) = true
leads (FilledLo at hi b h r) = true
leads (FilledBase at hi b h r) = true
leads (Filled at hi b r) = true
leads (Pointed at hi b r) = true
leads _ = false

-- the row that the member has begun to fill and hasn't published
abbrev pub row_filled : Stage → Option ℕ
row_filled (FilledLo at hi b h r) = Some r
row_filled (FilledBase at hi b h r) = Some r
row_filled (Filled at hi b r) = Some r
row_filled (Pointed at hi b r) = Some r
row_filled _ = None

-- the row that the member has begun to fill and hasn't pointed to
abbrev pub row_mixed : Stage → Option ℕ
row_mixed (FilledLo at hi b h r) = Some r
row_mixed (FilledBase at hi b h r) = Some r
row_mixed (Filled at hi b r) = Some r
row_mixed _ = None

-- the row that a late member has in hand
abbrev pub row_in_hand : Stage → Option ℕ
row_in_hand (At at r) = Some r
row_in_hand (Over at r) = Some r
row_in_hand (Hit at r lo) = Some r
row_in_hand _ = None

-- the row that a stage names
abbrev pub row_named : Stage → Option ℕ
row_named (FilledLo at hi b h r) = Some r
row_named (FilledBase at hi b h r) = Some r
row_named (Filled at hi b r) = Some r
row_named (Pointed at hi b r) = Some r
row_named (At at r) = Some r
row_named (Over at r) = Some r
row_named (Hit at r lo) = Some r
row_named _ = None

-- the member has its reply and hasn't left
abbrev pub has_reply : Stage → Bool
has_reply (Got b ahead) = true
has_reply _ = false

-- the word that is found after so many links
abbrev pub follow : (ℕ → ℕ) → ℕ → ℕ → ℕ
follow prev zero word = word
follow prev (suc links) word = follow prev links (prev (word - 1))

-- the row holds the published batch that it was published with last, and a walk from `last` finds it
abbrev pub HoldsBatch : Traced → ℕ → Type 0
HoldsBatch s r = (b : Batch) × IsIn b s.published × (b.row ≡ r) × (b.hi ≡ s.end r) × Stands s.state b × ((links : ℕ) × (follow s.prev links s.last ≡ suc r))

-- the newest batch is pointed to by the member that leads, and not published
abbrev pub IsAwaited : Traced → Type 0
IsAwaited s = (c : Batch) × (s.linked ≡ c ∷ s.published) × ((m : ℕ) × (s.stage m ≡ Pointed c.lo c.hi c.base c.row))

-- The batches: published ones follow one another from 0 to `done`, at most one more is pointed to, one member leads, and offsets are distinct.
pub record IsOrdered (s : Traced) : Type 0 where
  pub published : IsChained s.published
  pub done : s.done ≡ end_of s.published
  pub linked : (s.linked ≡ s.published) ⊎ IsAwaited s
  pub last : s.last ≡ link_of s.linked
  pub one_leader : (m q : ℕ) → leads (s.stage m) ≡ true → leads (s.stage q) ≡ true → m ≡ q
  pub leader : (m : ℕ) → leads (s.stage m) ≡ true → HasArrived s.state m s.done
  pub apart : (m q at : ℕ) → HasArrived s.state m at → HasArrived s.state q at → m ≡ q
  pub arrived : (m at : ℕ) → HasArrived s.state m at → at < s.total
  pub counted : s.done ≤ s.total
  pub closed : (b : Batch) → IsIn b s.linked → b.hi ≤ s.total

-- Announcements: who has arrived has told a number not above its offset, and who was scanned without blocking a row doesn't need it.
pub record IsTold (rows : ℕ) (s : Traced) : Type 0 where
  pub saw : (m seen : ℕ) → s.stage m ≡ Saw seen → seen ≤ s.done
  pub told : (m at : ℕ) → HasArrived s.state m at → (seen : ℕ) × (s.announced m ≡ suc seen) × (seen ≤ at)
  pub scanned : (m q word r : ℕ) → has_reply (s.stage m) ≡ false → r / rows ≡ m → s.found m q ≡ Some word → Lets word (s.end r) → Needs s.state q r → ⊥

-- Rows: no fill names a needed row, a needed row holds its batch and can be reached, and a late member has the batch of its offset or a later one in hand.
pub record IsKept (members rows : ℕ) (s : Traced) : Type 0 where
  pub fill : (m r word q : ℕ) (field : Field) → Allowed members rows s.state (Fill m r field word) → Needs s.state q r → ⊥
  pub filled : (m r q : ℕ) → row_filled (s.stage m) ≡ Some r → Needs s.state q r → ⊥
  pub mixed : (m r q row : ℕ) → row_mixed (s.stage m) ≡ Some r → s.last ≡ suc r → Needs s.state q row → ⊥
  pub needed : (q r : ℕ) → Needs s.state q r → HoldsBatch s r
  pub pointed : (m at hi b r : ℕ) → s.stage m ≡ Pointed at hi b r → s.linked ≡ batch s.state at hi b r ∷ s.published
  pub awaited : (a : IsAwaited s) → Stands s.state a.0 × (s.last ≡ suc a.0.row)
  pub standing : (q at : ℕ) (b : Batch) → HasArrived s.state q at → IsIn b s.linked → at < b.hi → Stands s.state b
  pub in_hand : (q at r : ℕ) → HasArrived s.state q at → row_in_hand (s.stage q) ≡ Some r → (b : Batch) × IsIn b s.linked × (b.row ≡ r) × Stands s.state b × (at < b.hi) × (IsIn b s.published ⊎ (at < b.lo))
  pub hit : (q at r lo : ℕ) → s.stage q ≡ Hit at r lo → (b : Batch) × IsIn b s.published × (b.row ≡ r) × Stands s.state b × (lo ≡ b.lo) × (b.lo ≤ at) × (at < b.hi)

-- Walks: none has a row in hand twice, so none is longer than there are rows.
pub record IsShort (members rows : ℕ) (s : Traced) : Type 0 where
  pub once : (m : ℕ) → HasNoRepeat (s.walk m)
  pub inside : (m r : ℕ) → row_named (s.stage m) ≡ Some r → r / rows < members
  pub length : 0 < rows → (m : ℕ) → length (s.walk m) ≤ members * rows

-- the step publishes this row
abbrev pub Publishes : State → ℕ → Step → Type 0
Publishes s r step = (m at hi b : ℕ) × (step ≡ Publish m) × (s.stage m ≡ Pointed at hi b r)

-- none of the steps publishes this row
abbrev pub NonePublishes : ℕ → List Step → State → Type 0
NonePublishes r [] s = ⊤
NonePublishes r (step ∷ steps) s = (Publishes s r step → ⊥) × NonePublishes r steps (after s step)

-- The law of the rows of one aggregator.
pub record IsLawful (members rows : ℕ) (s : Traced) : Type 0 where
  pub ordered : IsOrdered s
  pub told : IsTold rows s
  pub kept : IsKept members rows s
  pub short : IsShort members rows s
