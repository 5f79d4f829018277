-- What a member's step leaves: the other members, and the ends of their rows.
use Rattle.std.proofs.Common.{◌≡◌, ◌≢◌, ℕ, suc, ◌+◌, ◌-◌, ◌/◌, ◌==◌, nat_lt, nat_le, if◌then◌else◌, refl, sym, ap, subst, ◌∙◌}
use Rattle.fn_rows.specs.declared.Field.{Field}
use Rattle.fn_rows.specs.declared.Field.TheVariants.{Lo, Base, Prev}
use Rattle.fn_rows.specs.declared.Stage.{Stage}
use Rattle.fn_rows.specs.declared.Stage.TheVariants.{Out, Saw, Told, Waiting, Lead, Late, Shut, Based, Headed, FilledLo, FilledBase, Filled, Pointed, At, Over, Hit, Got}
use Rattle.fn_rows.specs.Machine.{State, Step, Scan, See, Announce, Arrive, Look, Close, Hand_base, Head, Fill, Point, Publish, Peek, Leave, member_of, after, moved, announce_by, look_by, looked, close_by, hand_by, head_by, stored, filled, fill_by, point_by, publish_by, peek_by, peeked, put}
use Rattle.fn_rows.proofs.Put.{put_here, put_there}
use Rattle.std.proofs.lemmas.Bool.{cond_both}

-- the row that a member has begun to fill and hasn't published is one of its own
abbrev pub IsOwnRow : ℕ → ℕ → Stage → Type 0
IsOwnRow rows m (FilledLo at hi b h r) = r / rows ≡ m
IsOwnRow rows m (FilledBase at hi b h r) = r / rows ≡ m
IsOwnRow rows m (Filled at hi b r) = r / rows ≡ m
IsOwnRow rows m (Pointed at hi b r) = r / rows ≡ m
IsOwnRow rows m _ = Unit {0}

-- the member's step leaves the other members, what they found, and the ends of their rows
pub record Keeps (rows m : ℕ) (s t : State) : Type 0 where
  pub stage : (q : ℕ) → q ≢ m → t.stage q ≡ s.stage q
  pub found : (q : ℕ) → q ≢ m → t.found q ≡ s.found q
  pub ends : (r : ℕ) → r / rows ≢ m → t.end r ≡ s.end r
  pub own : IsOwnRow rows m (t.stage m)

module _ (rows : ℕ) (s : State) (m : ℕ) where
  nothing_done : IsOwnRow rows m (s.stage m) → Keeps rows m s s
  nothing_done h = record { stage = λ q ne. refl; found = λ q ne. refl; ends = λ r ne. refl; own = h }

  -- a step that only moves the member, perhaps with words that no guard reads
  moves_on : (t : State) (stage : Stage) → ((q : ℕ) → t.stage q ≡ s.stage q) → ((q : ℕ) → t.found q ≡ s.found q) → ((r : ℕ) → t.end r ≡ s.end r) → IsOwnRow rows m stage → Keeps rows m s (moved t m stage)
  moves_on t stage stages found ends h = record {
    stage = λ q ne. put_there t.stage m stage q ne ∙ stages q;
    found = λ q ne. found q;
    ends = λ r ne. ends r;
    own = subst (IsOwnRow rows m) (sym (put_here t.stage m stage m refl)) h;
  }

  just_moves : (stage : Stage) → IsOwnRow rows m stage → Keeps rows m s (moved s m stage)
  just_moves stage h = moves_on s stage (λ q. refl) (λ q. refl) (λ r. refl) h

  looked_own : (at done : ℕ) → IsOwnRow rows m (looked at done)
  looked_own at done = cond_both (nat_lt done at) (Waiting at) (if at == done then Lead at else Late at) (IsOwnRow rows m) (λ e. tt) (λ e. cond_both (at == done) (Lead at) (Late at) (IsOwnRow rows m) (λ f. tt) (λ f. tt))

  look_keeps : (stage : Stage) → IsOwnRow rows m (s.stage m) → Keeps rows m s (look_by s m stage)
  look_keeps (Waiting at) h = just_moves (looked at s.done) (looked_own at s.done)
  look_keeps _ h = nothing_done h

  announce_keeps : (stage : Stage) → IsOwnRow rows m (s.stage m) → Keeps rows m s (announce_by s m stage)
  announce_keeps (Saw seen) h = moves_on (record s { announced = put s.announced m (suc seen) }) (Told seen) (λ q. refl) (λ q. refl) (λ r. refl) tt
  announce_keeps _ h = nothing_done h

  close_keeps : (stage : Stage) → IsOwnRow rows m (s.stage m) → Keeps rows m s (close_by s m stage)
  close_keeps (Lead at) h = just_moves (Shut at s.total) tt
  close_keeps _ h = nothing_done h

  hand_keeps : (b : ℕ) (stage : Stage) → IsOwnRow rows m (s.stage m) → Keeps rows m s (hand_by s m b stage)
  hand_keeps b (Shut at hi) h = just_moves (Based at hi b) tt
  hand_keeps b _ h = nothing_done h

  head_keeps : (stage : Stage) → IsOwnRow rows m (s.stage m) → Keeps rows m s (head_by s m stage)
  head_keeps (Based at hi b) h = just_moves (Headed at hi b s.last) tt
  head_keeps (Late at) h = just_moves (At at (s.last - 1)) tt
  head_keeps _ h = nothing_done h

  filled_own : (row : ℕ) (stage : Stage) → row / rows ≡ m → IsOwnRow rows m stage → IsOwnRow rows m (filled row stage)
  filled_own row (Headed at hi b h) mine own = mine
  filled_own row (FilledLo at hi b h r) mine own = own
  filled_own row (FilledBase at hi b h r) mine own = own
  filled_own row Out mine own = own
  filled_own row (Saw seen) mine own = own
  filled_own row (Told seen) mine own = own
  filled_own row (Waiting at) mine own = own
  filled_own row (Lead at) mine own = own
  filled_own row (Late at) mine own = own
  filled_own row (Shut at hi) mine own = own
  filled_own row (Based at hi b) mine own = own
  filled_own row (Filled at hi b r) mine own = own
  filled_own row (Pointed at hi b r) mine own = own
  filled_own row (At at r) mine own = own
  filled_own row (Over at r) mine own = own
  filled_own row (Hit at r lo) mine own = own
  filled_own row (Got b ahead) mine own = own

  fill_keeps : (row : ℕ) (field : Field) (word : ℕ) (stage : Stage) → row / rows ≡ m → IsOwnRow rows m stage → Keeps rows m s (fill_by s m row field word stage)
  fill_keeps row Lo word stage mine own = moves_on (stored s row Lo word) (filled row stage) (λ q. refl) (λ q. refl) (λ r. refl) (filled_own row stage mine own)
  fill_keeps row Base word stage mine own = moves_on (stored s row Base word) (filled row stage) (λ q. refl) (λ q. refl) (λ r. refl) (filled_own row stage mine own)
  fill_keeps row Prev word stage mine own = moves_on (stored s row Prev word) (filled row stage) (λ q. refl) (λ q. refl) (λ r. refl) (filled_own row stage mine own)

  point_keeps : (stage : Stage) → IsOwnRow rows m stage → IsOwnRow rows m (s.stage m) → Keeps rows m s (point_by s m stage)
  point_keeps (Filled at hi b r) own h = moves_on (record s { last = suc r }) (Pointed at hi b r) (λ q. refl) (λ q. refl) (λ r. refl) own
  point_keeps _ own h = nothing_done h

  publish_keeps : (stage : Stage) → IsOwnRow rows m stage → IsOwnRow rows m (s.stage m) → Keeps rows m s (publish_by s m stage)
  publish_keeps (Pointed at hi b row) own h = record {
    stage = λ q ne. put_there s.stage m (Got b 0) q ne;
    found = λ q ne. refl;
    ends = λ r ne. put_there s.end row hi r (λ e. ne (ap (λ (x : ℕ). x / rows) e ∙ own));
    own = subst (IsOwnRow rows m) (sym (put_here s.stage m (Got b 0) m refl)) tt;
  }
  publish_keeps _ own h = nothing_done h

  peeked_own : (at r lo : ℕ) → IsOwnRow rows m (peeked at r lo)
  peeked_own at r lo = cond_both (nat_le lo at) (Hit at r lo) (Over at r) (IsOwnRow rows m) (λ e. tt) (λ e. tt)

  peek_keeps : (stage : Stage) → IsOwnRow rows m (s.stage m) → Keeps rows m s (peek_by s m stage)
  peek_keeps (At at r) h = just_moves (peeked at r (s.lo r)) (peeked_own at r (s.lo r))
  peek_keeps (Over at r) h = just_moves (At at (s.prev r - 1)) tt
  peek_keeps (Hit at r lo) h = just_moves (Got (s.base r) (at - lo)) tt
  peek_keeps _ h = nothing_done h

-- a fill names a row of the member
abbrev pub FillsOwn : ℕ → Step → Type 0
FillsOwn rows (Fill m row field word) = row / rows ≡ m
FillsOwn rows _ = Unit {0}

pub after_keeps : (rows : ℕ) (s : State) (step : Step) → FillsOwn rows step → IsOwnRow rows (member_of step) (s.stage (member_of step)) → Keeps rows (member_of step) s (after s step)
after_keeps rows s (Scan m q) fills h = record { stage = λ p ne. refl; found = λ p ne. put_there s.found m _ p ne; ends = λ r ne. refl; own = h }
after_keeps rows s (See m) fills h = just_moves rows s m (Saw s.done) tt
after_keeps rows s (Announce m) fills h = announce_keeps rows s m (s.stage m) h
after_keeps rows s (Arrive m weight) fills h = moves_on rows s m (record s { total = s.total + weight }) (Waiting s.total) (λ q. refl) (λ q. refl) (λ r. refl) tt
after_keeps rows s (Look m) fills h = look_keeps rows s m (s.stage m) h
after_keeps rows s (Close m) fills h = close_keeps rows s m (s.stage m) h
after_keeps rows s (Hand_base m b) fills h = hand_keeps rows s m b (s.stage m) h
after_keeps rows s (Head m) fills h = head_keeps rows s m (s.stage m) h
after_keeps rows s (Fill m row field word) fills h = fill_keeps rows s m row field word (s.stage m) fills h
after_keeps rows s (Point m) fills h = point_keeps rows s m (s.stage m) h h
after_keeps rows s (Publish m) fills h = publish_keeps rows s m (s.stage m) h h
after_keeps rows s (Peek m) fills h = peek_keeps rows s m (s.stage m) h
after_keeps rows s (Leave m) fills h = record {
  stage = λ q ne. put_there s.stage m Out q ne;
  found = λ q ne. put_there s.found m _ q ne;
  ends = λ r ne. refl;
  own = subst (IsOwnRow rows m) (sym (put_here s.stage m Out m refl)) tt;
}
