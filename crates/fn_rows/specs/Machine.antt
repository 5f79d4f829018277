-- One aggregator: members reach it by fetch-and-add, the first of a batch closes it, and each batch stands in a row until it is reused.
use Rattle.std.specs.Prelude.{◌≡◌, ◌≢◌, ◌⊎◌, ℕ, suc, ◌+◌, ◌-◌, ◌/◌, ◌<◌, ⊤, List, [], ◌∷◌, Option, Some, None, if◌then◌else◌, ◌==◌, nat_lt, nat_le}
pub use Rattle.fn_rows.specs.declared.Stage.{Stage}
pub use Rattle.fn_rows.specs.declared.Stage.TheVariants.{Out, Saw, Told, Waiting, Lead, Late, Shut, Based, Headed, FilledLo, FilledBase, Filled, Pointed, At, Over, Hit, Got}
pub use Rattle.fn_rows.specs.declared.Field.{Field}
pub use Rattle.fn_rows.specs.declared.Field.TheVariants.{Lo, Base, Prev}

-- the offset of a member that has arrived and has no reply yet
abbrev pub offset : Stage → Option ℕ
offset Out = None
offset (Saw seen) = None
offset (Told seen) = None
offset (Waiting at) = Some at
offset (Lead at) = Some at
offset (Late at) = Some at
offset (Shut at hi) = Some at
offset (Based at hi b) = Some at
offset (Headed at hi b h) = Some at
offset (FilledLo at hi b h r) = Some at
offset (FilledBase at hi b h r) = Some at
offset (Filled at hi b r) = Some at
offset (Pointed at hi b r) = Some at
offset (At at r) = Some at
offset (Over at r) = Some at
offset (Hit at r l) = Some at
offset (Got b ahead) = None

-- the words of the aggregator, the ends of the rows, and where its members stand
pub record State : Type 0 where
  pub total : ℕ
  pub done : ℕ
  pub last : ℕ
  pub announced : ℕ → ℕ
  pub lo : ℕ → ℕ
  pub base : ℕ → ℕ
  pub prev : ℕ → ℕ
  pub end : ℕ → ℕ
  pub stage : ℕ → Stage
  -- what a member's last scan of another loaded since its last Leave
  pub found : ℕ → ℕ → Option ℕ

-- what a member does next
pub data Step : Type 0 where
  Scan : (member other : ℕ) → Step
  See : (member : ℕ) → Step
  Announce : (member : ℕ) → Step
  Arrive : (member weight : ℕ) → Step
  Look : (member : ℕ) → Step
  Close : (member : ℕ) → Step
  Hand_base : (member base : ℕ) → Step
  Head : (member : ℕ) → Step
  Fill : (member row : ℕ) (field : Field) (word : ℕ) → Step
  Point : (member : ℕ) → Step
  Publish : (member : ℕ) → Step
  Peek : (member : ℕ) → Step
  Leave : (member : ℕ) → Step

-- a function changed at one place
abbrev pub put : {A : Type 0} → (ℕ → A) → ℕ → A → ℕ → A
put f place value i = if i == place then value else f i

-- nothing has happened
abbrev pub start : State
start =
    record {
      total = 0;
      done = 0;
      last = 0;
      announced = λ m. 0;
      lo = λ r. 0;
      base = λ r. 0;
      prev = λ r. 0;
      end = λ r. 0;
      stage = λ m. Out;
      found = λ m q. None;
    }

-- the member goes on to this stage
abbrev pub moved : State → ℕ → Stage → State
moved s m stage = record s { stage = put s.stage m stage }

abbrev pub scan_by : State → ℕ → ℕ → State
scan_by s m q = record s { found = put s.found m (put (s.found m) q (Some (s.announced q))) }

abbrev pub announce_by : State → ℕ → Stage → State
announce_by s m (Saw seen) = moved (record s { announced = put s.announced m (suc seen) }) m (Told seen)
announce_by s m _ = s

abbrev pub arrive_by : State → ℕ → ℕ → State
arrive_by s m weight = moved (record s { total = s.total + weight }) m (Waiting s.total)

-- what a member learns from `done`
abbrev pub looked : ℕ → ℕ → Stage
looked at done = if nat_lt done at then Waiting at else (if at == done then Lead at else Late at)

abbrev pub look_by : State → ℕ → Stage → State
look_by s m (Waiting at) = moved s m (looked at s.done)
look_by s m _ = s

abbrev pub close_by : State → ℕ → Stage → State
close_by s m (Lead at) = moved s m (Shut at s.total)
close_by s m _ = s

abbrev pub hand_by : State → ℕ → ℕ → Stage → State
hand_by s m b (Shut at hi) = moved s m (Based at hi b)
hand_by s m b _ = s

abbrev pub head_by : State → ℕ → Stage → State
head_by s m (Based at hi b) = moved s m (Headed at hi b s.last)
head_by s m (Late at) = moved s m (At at (s.last - 1))
head_by s m _ = s

-- a word of a row is stored
abbrev pub stored : State → ℕ → Field → ℕ → State
stored s r Lo word = record s { lo = put s.lo r word }
stored s r Base word = record s { base = put s.base r word }
stored s r Prev word = record s { prev = put s.prev r word }

-- the stage after a word of a row was stored
abbrev pub filled : ℕ → Stage → Stage
filled r (Headed at hi b h) = FilledLo at hi b h r
filled r (FilledLo at hi b h row) = FilledBase at hi b h row
filled r (FilledBase at hi b h row) = Filled at hi b row
filled r stage = stage

abbrev pub fill_by : State → ℕ → ℕ → Field → ℕ → Stage → State
fill_by s m r field word stage = moved (stored s r field word) m (filled r stage)

abbrev pub point_by : State → ℕ → Stage → State
point_by s m (Filled at hi b r) = moved (record s { last = suc r }) m (Pointed at hi b r)
point_by s m _ = s

abbrev pub publish_by : State → ℕ → Stage → State
publish_by s m (Pointed at hi b r) = moved (record s { done = hi; end = put s.end r hi }) m (Got b 0)
publish_by s m _ = s

-- what a late member learns from a row's `lo`
abbrev pub peeked : ℕ → ℕ → ℕ → Stage
peeked at r lo = if nat_le lo at then Hit at r lo else Over at r

abbrev pub peek_by : State → ℕ → Stage → State
peek_by s m (At at r) = moved s m (peeked at r (s.lo r))
peek_by s m (Over at r) = moved s m (At at (s.prev r - 1))
peek_by s m (Hit at r lo) = moved s m (Got (s.base r) (at - lo))
peek_by s m _ = s

abbrev pub leave_by : State → ℕ → State
leave_by s m = moved (record s { announced = put s.announced m 0; found = put s.found m (λ q. None) }) m Out

-- the state after a step
abbrev pub after : State → Step → State
after s (Scan m q) = scan_by s m q
after s (See m) = moved s m (Saw s.done)
after s (Announce m) = announce_by s m (s.stage m)
after s (Arrive m weight) = arrive_by s m weight
after s (Look m) = look_by s m (s.stage m)
after s (Close m) = close_by s m (s.stage m)
after s (Hand_base m b) = hand_by s m b (s.stage m)
after s (Head m) = head_by s m (s.stage m)
after s (Fill m r field word) = fill_by s m r field word (s.stage m)
after s (Point m) = point_by s m (s.stage m)
after s (Publish m) = publish_by s m (s.stage m)
after s (Peek m) = peek_by s m (s.stage m)
after s (Leave m) = leave_by s m

-- an announcement that was found lets a row with this end be filled again: it is none, or its number is at least the end
abbrev pub Lets : ℕ → ℕ → Type 0
Lets word end = (word ≡ 0) ⊎ (end < word)

-- the row was never filled, or the member's scans found for each other member an announcement that lets it be filled again
abbrev pub IsFree : ℕ → State → ℕ → ℕ → Type 0
IsFree members s m r = (s.end r ≡ 0) ⊎ ((q : ℕ) → q < members → q ≢ m → (word : ℕ) × (s.found m q ≡ Some word) × Lets word (s.end r))

-- the member may store this word in this field of this row
abbrev pub MayFill : ℕ → ℕ → State → ℕ → ℕ → Field → ℕ → Type 0
MayFill members rows s m r Lo word = (at hi b h : ℕ) × (s.stage m ≡ Headed at hi b h) × (r / rows ≡ m) × IsFree members s m r × (word ≡ at)
MayFill members rows s m r Base word = (at hi b h : ℕ) × (s.stage m ≡ FilledLo at hi b h r) × (word ≡ b)
MayFill members rows s m r Prev word = (at hi b h : ℕ) × (s.stage m ≡ FilledBase at hi b h r) × (word ≡ h)

-- the member that takes the step
abbrev pub member_of : Step → ℕ
member_of (Scan m q) = m
member_of (See m) = m
member_of (Announce m) = m
member_of (Arrive m weight) = m
member_of (Look m) = m
member_of (Close m) = m
member_of (Hand_base m b) = m
member_of (Head m) = m
member_of (Fill m r field word) = m
member_of (Point m) = m
member_of (Publish m) = m
member_of (Peek m) = m
member_of (Leave m) = m

-- what a step needs of the member's own stage and of what its scans found
abbrev pub Guard : ℕ → ℕ → State → Step → Type 0
Guard members rows s (Scan m q) = (q < members) × (q ≢ m) × (s.stage m ≡ Out)
Guard members rows s (See m) = s.stage m ≡ Out
Guard members rows s (Announce m) = (seen : ℕ) × (s.stage m ≡ Saw seen)
Guard members rows s (Arrive m weight) = (seen : ℕ) × (s.stage m ≡ Told seen) × (0 < weight)
Guard members rows s (Look m) = (at : ℕ) × (s.stage m ≡ Waiting at)
Guard members rows s (Close m) = (at : ℕ) × (s.stage m ≡ Lead at)
Guard members rows s (Hand_base m b) = (at hi : ℕ) × (s.stage m ≡ Shut at hi)
Guard members rows s (Head m) = ((at hi b : ℕ) × (s.stage m ≡ Based at hi b)) ⊎ ((at : ℕ) × (s.stage m ≡ Late at))
Guard members rows s (Fill m r field word) = MayFill members rows s m r field word
Guard members rows s (Point m) = (at hi b r : ℕ) × (s.stage m ≡ Filled at hi b r)
Guard members rows s (Publish m) = (at hi b r : ℕ) × (s.stage m ≡ Pointed at hi b r)
Guard members rows s (Peek m) = ((at r : ℕ) × (s.stage m ≡ At at r)) ⊎ (((at r : ℕ) × (s.stage m ≡ Over at r)) ⊎ ((at r lo : ℕ) × (s.stage m ≡ Hit at r lo)))
Guard members rows s (Leave m) = (b ahead : ℕ) × (s.stage m ≡ Got b ahead)

-- the step is one of a member, and its guard holds
abbrev pub Allowed : ℕ → ℕ → State → Step → Type 0
Allowed members rows s step = (member_of step < members) × Guard members rows s step

-- each step is allowed in the state that those before it leave
abbrev pub AllAllowed : ℕ → ℕ → List Step → State → Type 0
AllAllowed members rows [] s = ⊤
AllAllowed members rows (step ∷ steps) s = Allowed members rows s step × AllAllowed members rows steps (after s step)
