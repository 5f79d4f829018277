-- Which word of its aggregator a step of a member changes.
use Rattle.std.proofs.Common.{◌≡◌, ◌≢◌, ℕ, suc, ◌+◌, refl, sym, ap, subst}
use Rattle.fn_rows.specs.declared.Field.{Field}
use Rattle.fn_rows.specs.declared.Field.TheVariants.{Lo, Base, Prev}
use Rattle.fn_rows.specs.declared.Stage.{Stage}
use Rattle.fn_rows.specs.declared.Stage.TheVariants.{Saw, Waiting, Lead, Late, Shut, Based, Filled, Pointed, At, Over, Hit}
use Rattle.fn_rows.specs.Machine.{State, moved, scan_by, announce_by, arrive_by, look_by, close_by, hand_by, head_by, fill_by, point_by, publish_by, peek_by, leave_by}
use Rattle.fn_rows.proofs.Put.{put_here, put_there}
use Rattle.fn_core.specs.Words.{announced_by, end_by}
use Rattle.fn_core.proofs.Homes.{Local, Total, Newest, Finished, Announced, RowAt, local_word}

-- the two states have the same words
abbrev pub SameWords : State → State → Type 0
SameWords s t = (l : Local) → local_word l t ≡ local_word l s

-- .. but for one
abbrev pub SameBut : Local → State → State → Type 0
SameBut local s t = (l : Local) → l ≢ local → local_word l t ≡ local_word l s

-- a step that only moves a member changes no word
pub moved_same : (s : State) (m : ℕ) (stage : Stage) → SameWords s (moved s m stage)
moved_same s m stage Total = refl
moved_same s m stage Newest = refl
moved_same s m stage Finished = refl
moved_same s m stage (Announced q) = refl
moved_same s m stage (RowAt r Lo) = refl
moved_same s m stage (RowAt r Base) = refl
moved_same s m stage (RowAt r Prev) = refl

pub scan_same : (s : State) (m q : ℕ) → SameWords s (scan_by s m q)
scan_same s m q Total = refl
scan_same s m q Newest = refl
scan_same s m q Finished = refl
scan_same s m q (Announced p) = refl
scan_same s m q (RowAt r Lo) = refl
scan_same s m q (RowAt r Base) = refl
scan_same s m q (RowAt r Prev) = refl

pub look_same : (s : State) (m : ℕ) (stage : Stage) → SameWords s (look_by s m stage)
look_same s m (Waiting at) = moved_same s m _
look_same s m _ = λ l. refl

pub close_same : (s : State) (m : ℕ) (stage : Stage) → SameWords s (close_by s m stage)
close_same s m (Lead at) = moved_same s m _
close_same s m _ = λ l. refl

pub hand_same : (s : State) (m b : ℕ) (stage : Stage) → SameWords s (hand_by s m b stage)
hand_same s m b (Shut at hi) = moved_same s m _
hand_same s m b _ = λ l. refl

pub head_same : (s : State) (m : ℕ) (stage : Stage) → SameWords s (head_by s m stage)
head_same s m (Based at hi b) = moved_same s m _
head_same s m (Late at) = moved_same s m _
head_same s m _ = λ l. refl

pub peek_same : (s : State) (m : ℕ) (stage : Stage) → SameWords s (peek_by s m stage)
peek_same s m (At at r) = moved_same s m _
peek_same s m (Over at r) = moved_same s m _
peek_same s m (Hit at r lo) = moved_same s m _
peek_same s m _ = λ l. refl

pub announce_same : (s : State) (m seen : ℕ) → SameBut (Announced m) s (announce_by s m (Saw seen))
announce_same s m seen Total ne = refl
announce_same s m seen Newest ne = refl
announce_same s m seen Finished ne = refl
announce_same s m seen (Announced q) ne = put_there s.announced m (suc seen) q (λ e. ne (ap Announced e))
announce_same s m seen (RowAt r Lo) ne = refl
announce_same s m seen (RowAt r Base) ne = refl
announce_same s m seen (RowAt r Prev) ne = refl

pub arrive_same : (s : State) (m weight : ℕ) → SameBut Total s (arrive_by s m weight)
arrive_same s m weight Total ne = absurd (ne refl)
arrive_same s m weight Newest ne = refl
arrive_same s m weight Finished ne = refl
arrive_same s m weight (Announced q) ne = refl
arrive_same s m weight (RowAt r Lo) ne = refl
arrive_same s m weight (RowAt r Base) ne = refl
arrive_same s m weight (RowAt r Prev) ne = refl

pub point_same : (s : State) (m at hi b r : ℕ) → SameBut Newest s (point_by s m (Filled at hi b r))
point_same s m at hi b row Total ne = refl
point_same s m at hi b row Newest ne = absurd (ne refl)
point_same s m at hi b row Finished ne = refl
point_same s m at hi b row (Announced q) ne = refl
point_same s m at hi b row (RowAt r Lo) ne = refl
point_same s m at hi b row (RowAt r Base) ne = refl
point_same s m at hi b row (RowAt r Prev) ne = refl

pub publish_same : (s : State) (m at hi b r : ℕ) → SameBut Finished s (publish_by s m (Pointed at hi b r))
publish_same s m at hi b row Total ne = refl
publish_same s m at hi b row Newest ne = refl
publish_same s m at hi b row Finished ne = absurd (ne refl)
publish_same s m at hi b row (Announced q) ne = refl
publish_same s m at hi b row (RowAt r Lo) ne = refl
publish_same s m at hi b row (RowAt r Base) ne = refl
publish_same s m at hi b row (RowAt r Prev) ne = refl

pub leave_same : (s : State) (m : ℕ) → SameBut (Announced m) s (leave_by s m)
leave_same s m Total ne = refl
leave_same s m Newest ne = refl
leave_same s m Finished ne = refl
leave_same s m (Announced q) ne = put_there s.announced m 0 q (λ e. ne (ap Announced e))
leave_same s m (RowAt r Lo) ne = refl
leave_same s m (RowAt r Base) ne = refl
leave_same s m (RowAt r Prev) ne = refl

pub fill_same : (s : State) (m row : ℕ) (field : Field) (word : ℕ) (stage : Stage) → SameBut (RowAt row field) s (fill_by s m row field word stage)
fill_same s m row Lo word stage Total ne = refl
fill_same s m row Lo word stage Newest ne = refl
fill_same s m row Lo word stage Finished ne = refl
fill_same s m row Lo word stage (Announced q) ne = refl
fill_same s m row Lo word stage (RowAt r Lo) ne = put_there s.lo row word r (λ e. ne (ap (λ (x : ℕ). RowAt x Lo) e))
fill_same s m row Lo word stage (RowAt r Base) ne = refl
fill_same s m row Lo word stage (RowAt r Prev) ne = refl
fill_same s m row Base word stage Total ne = refl
fill_same s m row Base word stage Newest ne = refl
fill_same s m row Base word stage Finished ne = refl
fill_same s m row Base word stage (Announced q) ne = refl
fill_same s m row Base word stage (RowAt r Lo) ne = refl
fill_same s m row Base word stage (RowAt r Base) ne = put_there s.base row word r (λ e. ne (ap (λ (x : ℕ). RowAt x Base) e))
fill_same s m row Base word stage (RowAt r Prev) ne = refl
fill_same s m row Prev word stage Total ne = refl
fill_same s m row Prev word stage Newest ne = refl
fill_same s m row Prev word stage Finished ne = refl
fill_same s m row Prev word stage (Announced q) ne = refl
fill_same s m row Prev word stage (RowAt r Lo) ne = refl
fill_same s m row Prev word stage (RowAt r Base) ne = refl
fill_same s m row Prev word stage (RowAt r Prev) ne = put_there s.prev row word r (λ e. ne (ap (λ (x : ℕ). RowAt x Prev) e))

-- the step writes this number in this word, and no other
pub record Writes (local : Local) (s t : State) (n : ℕ) : Type 0 where
  pub same : SameBut local s t
  pub word : local_word local t ≡ n

-- what each step that writes makes of its word
pub announce_writes : (s : State) (m : ℕ) (stage : Stage) (seen : ℕ) → stage ≡ Saw seen → Writes (Announced m) s (announce_by s m stage) (announced_by stage)
announce_writes s m stage seen e =
    subst (λ (x : Stage). Writes (Announced m) s (announce_by s m x) (announced_by x)) (sym e) (record { same = announce_same s m seen; word = put_here s.announced m (suc seen) m refl })

pub arrive_writes : (s : State) (m weight : ℕ) → Writes Total s (arrive_by s m weight) (s.total + weight)
arrive_writes s m weight = record { same = arrive_same s m weight; word = refl }

pub point_writes : (s : State) (m : ℕ) (stage : Stage) (at hi b r : ℕ) → stage ≡ Filled at hi b r → Writes Newest s (point_by s m stage) (suc r)
point_writes s m stage at hi b r e =
    subst (λ (x : Stage). Writes Newest s (point_by s m x) (suc r)) (sym e) (record { same = point_same s m at hi b r; word = refl })

pub publish_writes : (s : State) (m : ℕ) (stage : Stage) (at hi b r : ℕ) → stage ≡ Pointed at hi b r → Writes Finished s (publish_by s m stage) (end_by stage)
publish_writes s m stage at hi b r e =
    subst (λ (x : Stage). Writes Finished s (publish_by s m x) (end_by x)) (sym e) (record { same = publish_same s m at hi b r; word = refl })

pub leave_writes : (s : State) (m : ℕ) → Writes (Announced m) s (leave_by s m) 0
leave_writes s m = record { same = leave_same s m; word = put_here s.announced m 0 m refl }

pub fill_writes : (s : State) (m row : ℕ) (field : Field) (word : ℕ) (stage : Stage) → Writes (RowAt row field) s (fill_by s m row field word stage) word
fill_writes s m row Lo word stage = record { same = fill_same s m row Lo word stage; word = put_here s.lo row word row refl }
fill_writes s m row Base word stage = record { same = fill_same s m row Base word stage; word = put_here s.base row word row refl }
fill_writes s m row Prev word stage = record { same = fill_same s m row Prev word stage; word = put_here s.prev row word row refl }
