-- What an order leaves of a caller, and a line of all callers.
use Rattle.std.proofs.Common.{◌≡◌, ◌⊎◌, inl, inr, ℕ, zero, suc, ◌+◌, ◌≤◌, true, List, [], ◌∷◌, ◌++◌, Some, slice_get, slice_set, refl, sym, ◌∙◌, ap, subst, arith, append_assoc}
use Rattle.std.proofs.lemmas.Bool.{cases_eq}
use Rattle.fn_model.specs.declared.Kind.{Kind}
use Rattle.fn_model.specs.declared.Kind.TheVariants.{Add, Sub}
use Rattle.fn_core.specs.declared.Event.{Event}
use Rattle.fn_core.specs.declared.Move.TheVariants.{Glance}
use Rattle.fn_core.specs.declared.answer.CoreStep.{CoreStep}
use Rattle.fn_core.specs.declared.answer.CoreStep.TheVariants.{Going, Ready, NotYet}
use Rattle.fn_core.specs.State.{Caller as Standing}
use Rattle.fn_core.specs.Calls.{Follows, IsIdle, left_of}
use Rattle.fn_climb.specs.Next.{PendingView}
use Rattle.fn_table.specs.Seen.{TableView, PassView, IsOf, Stored}
use Rattle.fn_table.specs.Later.{IsLater}
use Rattle.fn_table.proofs.Later.{later_by}
use Rattle.fn_table.specs.Called.{HasMadeNone}
use Rattle.fn_direct.specs.Tries.{Tried}
use Rattle.script_text.specs.Order.{amount}
use Rattle.script_text.specs.Sound.{allowance}
use Rattle.script_text.specs.declared.scripts.Order.{Order}
use Rattle.script_text.specs.declared.scripts.Order.TheVariants as order
use Rattle.script_text.specs.declared.scripts.ScriptLine.{ScriptLine}
use Rattle.script_run.specs.declared.lines.LineAnswer.{LineAnswer}
use Rattle.script_run.specs.declared.lines.LineAnswer.TheVariants as answer
use Rattle.script_run.specs.declared.trial.Caller.{Caller}
use Rattle.script_run.specs.declared.trial.Caller.TheVariants.{Idle, Pending}
use Rattle.script_run.specs.Trial.{Began, CallDone, Done, HasMet, LineDone, OrderDone, StepDone, Subtracted, is_idle, left_with, seen_of}
use Rattle.script_run.specs.Slots.{AllStand, HasLeft, HaveLeft, IsRight, Stands}
use Rattle.script_run.proofs.Replaced.{some-is}
use Rattle.script_run.proofs.OneByOne.{share-other, share-own}

-- a pass that has seen more, and then more
pub later-then : (p q r : PassView) → IsLater p q → IsLater q r → IsLater p r
later-then p q r a b = record {
  table = b.table ∙ a.table;
  number = b.number ∙ a.number;
  start = b.start ∙ a.start;
  begins = (a.begins.0 ++ b.begins.0, sym (append_assoc p.seen.log a.begins.0 b.begins.0) ∙ ap (λ (l : List Event). l ++ b.begins.0) a.begins.1 ∙ b.begins.1);
  legal = b.legal;
}

pub tried-later : (p : PassView) (kind : Kind) (n loaded found : ℕ) (q : PassView) → Tried p kind n loaded found q → IsLater p q
tried-later p kind n loaded found q t = later-then p t.between q (later_by p _ loaded t.between t.load) (later_by t.between _ found q t.exchange)

-- the same number, by which what is known of a pass is known by its own name
idle-named : (p q : PassView) → IsLater p q → IsIdle q.seen p.number → IsIdle q.seen q.number
idle-named p q later idle = subst (IsIdle q.seen) (sym later.number) idle

-- what an order leaves of a caller: it has seen more, what it is stays right, and it has spent no more than the amount
pub record Leaves (was : Caller) (n : ℕ) (now : Caller) : Type 0 where
  pub later : IsLater (seen_of was) (seen_of now)
  pub right : IsRight now
  pub left : left_of (seen_of was).seen (seen_of was).number ≤ left_of (seen_of now).seen (seen_of was).number + n

leaves-named : (p q : PassView) (n : ℕ) → IsLater p q → left_of q.seen q.number + n ≡ left_of p.seen p.number → left_of p.seen p.number ≤ left_of q.seen p.number + n
leaves-named p q n later less =
    let here : left_of q.seen p.number + n ≡ left_of p.seen p.number = subst (λ (k : ℕ). left_of q.seen k + n ≡ left_of p.seen p.number) later.number less in
    omega (arith, here)

began-leaves : (p : PassView) (kind : Kind) (n : ℕ) (told : LineAnswer) (c : Caller) → Began p kind n told c → Leaves (Idle p) n c
began-leaves p kind n answer.Waits (Pending q) b = record { later = b.1.later; right = tt; left = leaves-named p q.pass n b.1.later b.3.left }
began-leaves p kind n (answer.NoRow at) (Idle q) b = record {
  later = b.1.later;
  right = b.4;
  left = (let same : left_of q.seen q.number ≡ left_of p.seen p.number = ap (λ (x : Standing). x.left) b.3 in
      let here : left_of q.seen p.number ≡ left_of p.seen p.number = subst (λ (k : ℕ). left_of q.seen k ≡ left_of p.seen p.number) b.1.later.number same in
      omega (arith, here));
}
began-leaves p kind n answer.Waits (Idle q) b = absurd b
began-leaves p kind n (answer.NoRow at) (Pending q) b = absurd b
began-leaves p kind n answer.Going c b = absurd b
began-leaves p kind n (answer.Reply m) c b = absurd b
began-leaves p kind n (answer.NotYet why) c b = absurd b
began-leaves p kind n (answer.Lost l f) c b = absurd b
began-leaves p kind n answer.Met c b = absurd b

-- of a call that a pass makes by itself
own-leaves : (p : PassView) (n : ℕ) (q : PassView) → IsLater p q → IsIdle q.seen p.number → left_of q.seen p.number + n ≡ left_of p.seen p.number → Leaves (Idle p) n (Idle q)
own-leaves p n q later idle spent = record { later = later; right = idle-named p q later idle; left = omega (arith, spent) }

none-leaves : (p : PassView) (n : ℕ) (q : PassView) → IsLater p q → HasMadeNone p q → Leaves (Idle p) n (Idle q)
none-leaves p n q later none = record { later = later; right = idle-named p q later none.idle; left = (let same = none.left in omega (arith, same)) }

subtracted-leaves : (p : PassView) (n : ℕ) (told : LineAnswer) (q : PassView) → Subtracted p n told q → Leaves (Idle p) n (Idle q)
subtracted-leaves p n (answer.Reply m) q s = own-leaves p n q (tried-later p Sub n m m q s.0) s.1.idle s.1.spent
subtracted-leaves p n (answer.Lost l f) q s = none-leaves p n q (tried-later p Sub n l f q s.0) s.2
subtracted-leaves p n answer.Waits q s = absurd s
subtracted-leaves p n (answer.NoRow at) q s = absurd s
subtracted-leaves p n answer.Going q s = absurd s
subtracted-leaves p n (answer.NotYet why) q s = absurd s
subtracted-leaves p n answer.Met q s = absurd s

call-leaves : (p : PassView) (o : Order) (told : LineAnswer) (c : Caller) → CallDone p o told c → Leaves (Idle p) (amount o) c
call-leaves p (order.Add n) told c d = began-leaves p Add n told c d
call-leaves p (order.Sub n) told c d = began-leaves p Sub n told c d
call-leaves p order.Read told c d = subst (Leaves (Idle p) 0) (sym d.5) (own-leaves p 0 d.1 (later_by p _ d.0 d.1 d.2) d.3.idle d.3.spent)
call-leaves p (order.Direct n) told c d = subst (Leaves (Idle p) n) (sym d.5) (own-leaves p n d.1 (later_by p _ d.0 d.1 d.2) d.3.idle d.3.spent)
call-leaves p (order.SubDirect n) told c d = subst (Leaves (Idle p) n) (sym d.2) (subtracted-leaves p n told d.0 d.1)
call-leaves p order.Step told c d = absurd d
call-leaves p order.Poll told c d = absurd d
call-leaves p (order.Meet q) told c d = absurd d

-- of a step
told-leaves : (p : PendingView) (step : CoreStep) (q : PassView) → IsLater p.pass q → Follows p.seen q.seen p.number step → left_of q.seen q.number ≡ left_of p.seen p.number → Leaves (Pending p) 0 (left_with p step q)
told-leaves p Going q later follows same = record { later = later; right = tt; left = leaves-named p.pass q 0 later (omega (arith, same)) }
told-leaves p (Ready n) q later follows same = record { later = later; right = idle-named p.pass q later follows.0; left = leaves-named p.pass q 0 later (omega (arith, same)) }
told-leaves p (NotYet why) q later follows same = record { later = later; right = tt; left = leaves-named p.pass q 0 later (omega (arith, same)) }

step-leaves : (p : PendingView) (o : Order) (told : LineAnswer) (c : Caller) → StepDone p o told c → Leaves (Pending p) (amount o) c
step-leaves p order.Step told c d = subst (Leaves (Pending p) 0) (sym d.4) (told-leaves p d.0 d.1 d.2.later d.2.follows d.2.same.left)
step-leaves p order.Poll told c d = subst (Leaves (Pending p) 0) (sym d.4) (told-leaves p d.0 d.1 d.2.later d.2.follows d.2.same.left)
step-leaves p (order.Add n) told c d = absurd d
step-leaves p (order.Sub n) told c d = absurd d
step-leaves p (order.Direct n) told c d = absurd d
step-leaves p (order.SubDirect n) told c d = absurd d
step-leaves p order.Read told c d = absurd d
step-leaves p (order.Meet q) told c d = absurd d

pub order-leaves : (was : Caller) (o : Order) (told : LineAnswer) (now : Caller) → OrderDone was o told now → Leaves was (amount o) now
order-leaves (Idle p) o told now d = call-leaves p o told now d
order-leaves (Pending p) o told now d = step-leaves p o told now d

pub glance-leaves : (p q : PassView) → Stored p Glance q → HasMadeNone p q → Leaves (Idle p) 0 (Idle q)
glance-leaves p q stored none = none-leaves p 0 q (later_by p Glance stored.0 q stored.1) none

-- one caller in place of another
pub get-set : (callers : List Caller) (k j : ℕ) (d c : Caller) → slice_get (slice_set callers k d) j ≡ Some c → ((k ≡ j) × (d ≡ c)) ⊎ (slice_get callers j ≡ Some c)
get-set [] k j d c is = inr is
get-set (x ∷ callers) zero zero d c is = inl (refl, some-is d c is)
get-set (x ∷ callers) zero (suc j) d c is = inr is
get-set (x ∷ callers) (suc k) zero d c is = inr is
get-set (x ∷ callers) (suc k) (suc j) d c is = elim (get-set callers k j d c is) [ inl both ↦ inl (ap (λ (n : ℕ). suc n) both.0, both.1) | inr other ↦ inr other ]

-- what holds of each caller by its number, of the callers after one has changed
pub each-set : (P : ℕ → Caller → Type 0) (callers : List Caller) (k : ℕ) (d : Caller) → ((j : ℕ) (c : Caller) → slice_get callers j ≡ Some c → P j c) → P k d → (j : ℕ) (c : Caller) → slice_get (slice_set callers k d) j ≡ Some c → P j c
each-set P callers k d each here j c at = elim (get-set callers k j d c at) [
  | inl both ↦ subst (λ (x : ℕ × Caller). P x.0 x.1) (λ i. (both.0 i, both.1 i)) here
  | inr other ↦ each j c other
]

pub stands-later : (t : TableView) (k n : ℕ) (was now : Caller) → Stands t k was → Leaves was n now → Stands t k now
stands-later t k n was now s l = record {
  together = (l.later.table ∙ s.together.0, l.later.start ∙ s.together.1);
  named = l.later.number ∙ s.named;
  right = l.right;
}

pub all-stand : (t : TableView) (callers : List Caller) (k n : ℕ) (was now : Caller) → AllStand t callers → slice_get callers k ≡ Some was → Leaves was n now → AllStand t (slice_set callers k now)
all-stand t callers k n was now all at l = each-set (Stands t) callers k now all (stands-later t k n was now (all k was at) l)

-- what is left after one order of a line
has-left : (t : TableView) (callers : List Caller) (k n : ℕ) (was now : Caller) (more less : ℕ → ℕ) → AllStand t callers → slice_get callers k ≡ Some was → Leaves was n now → ((j : ℕ) → HasLeft callers j (more j))
    → (more k ≡ n + less k) → ((j : ℕ) → less j ≤ more j) → (j : ℕ) → HasLeft (slice_set callers k now) j (less j)
has-left t callers k n was now more less all at l left here fewer j c found =
    each-set (λ i d. less i ≤ left_of (seen_of d).seen i) callers k now
    (λ i d there. let enough : more i ≤ left_of (seen_of d).seen i = left i d there in let few = fewer i in omega (arith, enough, few))
    (let enough : more k ≤ left_of (seen_of was).seen k = left k was at in
    let spent : left_of (seen_of was).seen k ≤ left_of (seen_of now).seen k + n = subst (λ (x : ℕ). left_of (seen_of was).seen x ≤ left_of (seen_of now).seen x + n) (all k was at).named l.left in
    omega (arith, enough, spent, here))
    j c found

share-less : (line : ScriptLine) (rest : List ScriptLine) (j : ℕ) → allowance rest j ≤ allowance (line ∷ rest) j
share-less line rest j = elim (cases_eq line.pass j) [
  | inl own_line ↦ (let e = share-own line rest j own_line in omega (arith, e))
  | inr other ↦ (let e = share-other line rest j other in omega (arith, e))
]

-- a meeting of two callers, by its two parts
pub noted-stands : (t : TableView) (callers : List Caller) (k : ℕ) (p q : PassView) → AllStand t callers → slice_get callers k ≡ Some (Idle p) → Stored p Glance q → HasMadeNone p q → AllStand t (slice_set callers k (Idle q)) × IsOf t q
noted-stands t callers k p q all at stored none =
    let l = glance-leaves p q stored none in
    (all-stand t callers k 0 (Idle p) (Idle q) all at l, (stands-later t k 0 (Idle p) (Idle q) (all k (Idle p) at) l).together)

-- a caller that rests goes on to rest where another takes a note
pub rests-set : (callers : List Caller) (j k : ℕ) (q : PassView) → is_idle (slice_get callers k) ≡ true → is_idle (slice_get (slice_set callers j (Idle q)) k) ≡ true
rests-set [] j k q e = e
rests-set (c ∷ callers) zero zero q e = refl
rests-set (c ∷ callers) zero (suc k) q e = e
rests-set (c ∷ callers) (suc j) zero q e = e
rests-set (c ∷ callers) (suc j) (suc k) q e = rests-set callers j k q e

-- a line that was done leaves the callers standing, and enough for the rest
abbrev pub After : TableView → List Caller → List ScriptLine → Type 0
After t callers rest = AllStand t callers × HaveLeft callers rest

one-after : (t : TableView) (old new : List Caller) (line : ScriptLine) (rest : List ScriptLine) (told : LineAnswer) → After t old (line ∷ rest)
    → (was now : Caller) × (slice_get old line.pass ≡ Some was) × OrderDone was line.order told now × (new ≡ slice_set old line.pass now) → After t new rest
one-after t old new line rest told a d =
    let l = order-leaves d.0 line.order told d.1 d.3 in
    subst (λ (x : List Caller). After t x rest) (sym d.4) (
      all-stand t old line.pass (amount line.order) d.0 d.1 a.0 d.2 l,
      has-left t old line.pass (amount line.order) d.0 d.1 (allowance (line ∷ rest)) (allowance rest) a.0 d.2 l a.1 (share-own line rest line.pass refl) (share-less line rest),
    )

met-after : (t : TableView) (old new : List Caller) (line : ScriptLine) (rest : List ScriptLine) (pass other : ℕ) → After t old (line ∷ rest) → HasMet old pass other new → After t new rest
met-after t old new line rest pass other a m =
    let first = glance-leaves m.giver m.noted m.note.0 m.note.1 in
    let then_met = glance-leaves m.taker m.after m.met.0.stepped m.met.1 in
    let between : List Caller = slice_set old other (Idle m.noted) in
    let same : ℕ → ℕ = allowance rest in
    let stand = all-stand t old other 0 (Idle m.giver) (Idle m.noted) a.0 m.giver_is first in
    let left : (j : ℕ) → HasLeft old j (same j) = λ j c at. let enough = a.1 j c at in let few = share-less line rest j in omega (arith, enough, few) in
    let left_between = has-left t old other 0 (Idle m.giver) (Idle m.noted) same same a.0 m.giver_is first left (omega arith) (λ j. omega arith) in
    subst (λ (x : List Caller). After t x rest) (sym m.now) (
      all-stand t between pass 0 (Idle m.taker) (Idle m.after) stand m.taker_is then_met,
      has-left t between pass 0 (Idle m.taker) (Idle m.after) same same stand m.taker_is then_met left_between (omega arith) (λ j. omega arith),
    )

-- an order is a meeting, or it is done by the one caller of its line
abbrev pub IsOne : List Caller → ℕ → Order → LineAnswer → List Caller → Type 0
IsOne old pass o told new = (was now : Caller) × (slice_get old pass ≡ Some was) × OrderDone was o told now × (new ≡ slice_set old pass now)

abbrev pub IsMeeting : List Caller → ℕ → Order → LineAnswer → List Caller → Type 0
IsMeeting old pass o told new = (q : ℕ) × (o ≡ order.Meet q) × (told ≡ answer.Met) × HasMet old pass q new

pub done-by : (old new : List Caller) (pass : ℕ) (o : Order) (told : LineAnswer) → Done old pass o told new → IsOne old pass o told new ⊎ IsMeeting old pass o told new
done-by old new pass (order.Add n) told d = inl d
done-by old new pass (order.Sub n) told d = inl d
done-by old new pass (order.Direct n) told d = inl d
done-by old new pass (order.SubDirect n) told d = inl d
done-by old new pass order.Read told d = inl d
done-by old new pass order.Step told d = inl d
done-by old new pass order.Poll told d = inl d
done-by old new pass (order.Meet q) told d = inr (q, refl, d.0, d.1)

pub line-after : (t : TableView) (old new : List Caller) (line : ScriptLine) (rest : List ScriptLine) (told : LineAnswer) → After t old (line ∷ rest) → LineDone old line told new → After t new rest
line-after t old new line rest told a d = elim (done-by old new line.pass line.order told d) [
  | inl one ↦ one-after t old new line rest told a one
  | inr m ↦ met-after t old new line rest line.pass m.0 a m.3
]
