-- A walk has no row in hand twice.
use Rattle.std.proofs.Common.{refl, Some, ◌≡◌, inl, inr, ⊎_elim, ℕ, ◌-◌, ◌*◌, ◌/◌, ◌<◌, ◌≤◌, List, [], ◌∷◌, sym, ◌∙◌, ap, subst, arith}
use Rattle.std.specs.Prelude.{⊤, true, false}
use Rattle.std.specs.List.{IsDistinct, AllByRecursion, list_any}
use lib.Dec.{eqb}
use Rattle.std.proofs.Math.Nat.{div-lt_iff_lt-mul}
use Rattle.std.proofs.lemmas.Bool.{ne_eqb, eqb-true, or_cases, false≢true}
use Rattle.std.proofs.lemmas.Map.Steps.{length-le_from_distinct_below}
use Rattle.fn_rows.specs.Machine.{Stage, Out, Saw, Told, Waiting, Late, Shut, Based, Headed, FilledLo, FilledBase, Filled, Pointed, At, Over, Hit, Got, offset, Lo, Base, Prev, Step, Scan, See, Announce, Arrive, Look, Close, Hand_base, Head, Fill, Point, Publish, Peek, Leave, put, looked, peeked, announce_by, look_by, close_by, hand_by, head_by, fill_by, point_by, publish_by, peek_by, Allowed, AllAllowed}
use Rattle.fn_rows.specs.Trace.{Batch, Traced, batch, head_noted, point_noted, publish_noted, peek_noted, traced, run}
use Rattle.fn_rows.specs.Law.{IsIn, HasNoRepeat, HasArrived, IsShort, row_filled, row_in_hand, row_named}
use Rattle.fn_rows.proofs.Put.{put_case}
use Rattle.fn_rows.proofs.Invariant.{Calm, Leading, IsOurs, Inv, in_order}
use Rattle.fn_rows.proofs.Moves.{done_linked}
use Rattle.fn_rows.proofs.Laws.{filled_unneeded, hand_batch}
use Rattle.fn_rows.proofs.Steps.{looked_cases, peeked_cases, before_it, newest, sub-one-suc, keeps}

-- the row in hand holds a batch, and each row of the walk one that is no older
abbrev pub Visited : List Batch → ℕ → ℕ → List ℕ → Type 0
Visited linked at r walk = (b : Batch) × IsIn b linked × (b.row ≡ r) × (at < b.hi) × ((v : ℕ) → IsIn v walk → (c : Batch) × IsIn c linked × (c.row ≡ v) × (b.lo ≤ c.lo) × (at < c.hi))

abbrev pub Walking : List Batch → List ℕ → Stage → Type 0
Walking linked walk (At at r) = Visited linked at r walk
Walking linked walk (Over at r) = Visited linked at r walk
Walking linked walk (Hit at r lo) = Visited linked at r walk
Walking linked walk _ = ⊤

pub record Walks (members rows : ℕ) (linked : List Batch) (walk : ℕ → List ℕ) (stage : ℕ → Stage) : Type 0 where
  pub walking : (m : ℕ) → Walking linked (walk m) (stage m)
  pub once : (m : ℕ) → HasNoRepeat (walk m)
  pub owned : (b : Batch) → IsIn b linked → b.row / rows < members
  pub in_range : (m v : ℕ) → IsIn v (walk m) → v / rows < members

visited_more : (linked linked' : List Batch) (at r : ℕ) (walk : List ℕ) → ((b : Batch) → IsIn b linked → IsIn b linked') → Visited linked at r walk → Visited linked' at r walk
visited_more linked linked' at r walk f w = (w.0, f w.0 w.1, w.2, w.3, λ v i. let c = w.4 v i in (c.0, f c.0 c.1, c.2, c.3, c.4))

walking_more : (linked linked' : List Batch) (walk : List ℕ) (g : Stage) → ((b : Batch) → IsIn b linked → IsIn b linked') → Walking linked walk g → Walking linked' walk g
walking_more linked linked' walk (At at r) f w = visited_more linked linked' at r walk f w
walking_more linked linked' walk (Over at r) f w = visited_more linked linked' at r walk f w
walking_more linked linked' walk (Hit at r lo) f w = visited_more linked linked' at r walk f w
walking_more linked linked' walk _ f w = tt

module _ (members rows : ℕ) (linked : List Batch) (walk : ℕ → List ℕ) (stage : ℕ → Stage) (walks : Walks members rows linked walk stage) where
  -- a member goes on with its walk as it is
  goes : (p : ℕ) (g : Stage) → Walking linked (walk p) g → Walks members rows linked walk (put stage p g)
  goes p g new = record {
    walking = λ m. put_case (λ x. Walking linked (walk m) x) stage p g m (λ same. subst (λ i. Walking linked (walk i) g) (sym same) new) (λ other. walks.walking m);
    once = walks.once;
    owned = walks.owned;
    in_range = walks.in_range;
  }

  -- a batch is pointed to
  grows : (b : Batch) → b.row / rows < members → Walks members rows (b ∷ linked) walk stage
  grows b range = record {
    walking = λ m. walking_more linked (b ∷ linked) (walk m) (stage m) (λ c i. inr i) (walks.walking m);
    once = walks.once;
    owned = λ c i. ⊎_elim (λ new. subst (λ (y : Batch). y.row / rows < members) (sym new) range) (walks.owned c) i;
    in_range = walks.in_range;
  }

  -- a member has a row in hand
  takes : (p at r : ℕ) (rest : List ℕ) → Visited linked at r (r ∷ rest) → (IsIn r rest → ⊥) → HasNoRepeat rest → ((v : ℕ) → IsIn v rest → v / rows < members) → Walks members rows linked (put walk p (r ∷ rest)) (put stage p (At at r))
  takes p at r rest new fresh once in_range = record {
    walking = λ m. put_case (λ x. Walking linked (put walk p (r ∷ rest) m) x) stage p (At at r) m
        (λ same. put_case (λ x. Visited linked at r x) walk p (r ∷ rest) m (λ here. new) (λ other. absurd (other same)))
        (λ other. put_case (λ x. Walking linked x (stage m)) walk p (r ∷ rest) m (λ same. absurd (other same)) (λ away. walks.walking m));
    once = λ m. put_case (λ x. HasNoRepeat x) walk p (r ∷ rest) m (λ same. (fresh, once)) (λ other. walks.once m);
    owned = walks.owned;
    in_range = λ m v. put_case (λ x. IsIn v x → v / rows < members) walk p (r ∷ rest) m
        (λ same i. ⊎_elim (λ here. subst (λ w. w / rows < members) (new.2 ∙ sym here) (walks.owned new.0 new.1)) (in_range v) i)
        (λ other i. walks.in_range m v i);
  }

module _ (members rows : ℕ) (s : Traced) (inv : Inv members rows s) (walks : Walks members rows s.linked s.walk s.stage) where
  abbrev Next : Traced → Type 0
  Next t = Walks members rows t.linked t.walk t.stage

  walking_at : (m : ℕ) (g : Stage) → s.stage m ≡ g → Walking s.linked (s.walk m) g
  walking_at m g is = subst (Walking s.linked (s.walk m)) is (walks.walking m)

  late_walks : (m at : ℕ) → m < members → s.stage m ≡ Late at → Walks members rows s.linked (put s.walk m ((s.last - 1) ∷ [])) (put s.stage m (At at (s.last - 1)))
  late_walks m at range is =
      let late : at < s.done = subst (Calm s.done (s.announced m) s.linked) is (inv.calm m) in
      let c = newest s.linked at (omega (arith, done_linked members rows s inv)) in
      let row_is : c.0.row ≡ s.last - 1 = sym (sub-one-suc s.last c.0.row (inv.last_is ∙ c.2)) in
      takes members rows s.linked s.walk s.stage walks m at (s.last - 1) []
      (c.0, c.1, row_is, c.3, λ v i. ⊎_elim (λ same. (c.0, c.1, row_is ∙ sym same, omega arith, c.3)) (λ none. absurd none) i)
      (λ none. none) tt (λ v none. absurd none)

  over_walks : (m at r : ℕ) → s.stage m ≡ Over at r → Walks members rows s.linked (put s.walk m ((s.prev r - 1) ∷ s.walk m)) (put s.stage m (At at (s.prev r - 1)))
  over_walks m at r is =
      let h : HasArrived s.state m at = ap offset is in
      let known = subst (Calm s.done (s.announced m) s.linked) is (inv.calm m) in
      let w = walking_at m (Over at r) is in
      let b = w.0 in
      let stands = inv.standing m at b h w.1 w.3 in
      let stands' = inv.standing m at known.0 h known.1 known.3 in
      let same_lo : b.lo ≡ known.0.lo = sym stands.0 ∙ ap s.lo (w.2 ∙ sym known.2) ∙ stands'.0 in
      let c = before_it s.linked b at inv.chained w.1 (omega (arith, same_lo, known.4)) in
      let older : c.0.lo < b.lo = omega (arith, in_order s.linked c.0 inv.chained c.1, c.4) in
      let row_is : c.0.row ≡ s.prev r - 1 = sym (sub-one-suc (s.prev r) c.0.row (ap s.prev (sym w.2) ∙ stands.2 ∙ c.2)) in
      let c_stands = inv.standing m at c.0 h c.1 c.3 in
      takes members rows s.linked s.walk s.stage walks m at (s.prev r - 1) (s.walk m)
      (c.0, c.1, row_is, c.3, λ v i. ⊎_elim (λ same. (c.0, c.1, row_is ∙ sym same, omega arith, c.3)) (λ old. let d = w.4 v old in (d.0, d.1, d.2, omega (arith, d.3, older), d.4)) i)
      (λ again.
      let d = w.4 (s.prev r - 1) again in
      let d_stands = inv.standing m at d.0 h d.1 d.4 in
      let both : d.0.lo ≡ c.0.lo = sym d_stands.0 ∙ ap s.lo (d.2 ∙ sym row_is) ∙ c_stands.0 in
      omega (arith, both, d.3, older))
      (walks.once m) (walks.in_range m)

  pub walks_after : (step : Step) → Allowed members rows s.state step → Next (traced s step)
  walks_after (Scan m q) a = walks
  walks_after (See m) a = goes members rows s.linked s.walk s.stage walks m (Saw s.done) tt
  walks_after (Announce m) a = subst (λ g. Next (record s { state = announce_by s.state m g })) (sym a.1.1) (goes members rows s.linked s.walk s.stage walks m (Told a.1.0) tt)
  walks_after (Arrive m weight) a = goes members rows s.linked s.walk s.stage walks m (Waiting s.total) tt
  walks_after (Look m) a = subst (λ g. Next (record s { state = look_by s.state m g })) (sym a.1.1) (goes members rows s.linked s.walk s.stage walks m (looked a.1.0 s.done) (looked_cases (λ g. Walking s.linked (s.walk m) g) a.1.0 s.done (λ below. tt) (λ equal. tt) (λ above. tt)))
  walks_after (Close m) a = subst (λ g. Next (record s { state = close_by s.state m g })) (sym a.1.1) (goes members rows s.linked s.walk s.stage walks m (Shut a.1.0 s.total) tt)
  walks_after (Hand_base m b) a = subst (λ g. Next (record s { state = hand_by s.state m b g })) (sym a.1.2) (goes members rows s.linked s.walk s.stage walks m (Based a.1.0 a.1.1 b) tt)
  walks_after (Head m) a = elim a.1 [
    | inl g ↦ subst (λ x. Next (record { state = head_by s.state m x; books = head_noted s.state s.books m x })) (sym g.3) (goes members rows s.linked s.walk s.stage walks m (Headed g.0 g.1 g.2 s.last) tt)
    | inr g ↦ subst (λ x. Next (record { state = head_by s.state m x; books = head_noted s.state s.books m x })) (sym g.1) (late_walks m g.0 a.0 g.1)
  ]
  walks_after (Fill m r Lo word) a = let g = a.1 in subst (λ x. Next (record s { state = fill_by s.state m r Lo word x })) (sym g.4) (goes members rows s.linked s.walk s.stage walks m (FilledLo g.0 g.1 g.2 g.3 r) tt)
  walks_after (Fill m r Base word) a = let g = a.1 in subst (λ x. Next (record s { state = fill_by s.state m r Base word x })) (sym g.4) (goes members rows s.linked s.walk s.stage walks m (FilledBase g.0 g.1 g.2 g.3 r) tt)
  walks_after (Fill m r Prev word) a = let g = a.1 in subst (λ x. Next (record s { state = fill_by s.state m r Prev word x })) (sym g.4) (goes members rows s.linked s.walk s.stage walks m (Filled g.0 g.1 g.2 r) tt)
  walks_after (Point m) a =
      let g = a.1 in
      let known = subst (Leading s s.total (IsOurs rows s m)) g.4 (inv.leading m) in
      let b = batch s.state g.0 g.1 g.2 g.3 in
      subst (λ x. Next (record { state = point_by s.state m x; books = point_noted s.state s.books x })) (sym g.4)
      (goes members rows (b ∷ s.linked) s.walk s.stage (grows members rows s.linked s.walk s.stage walks b (subst (λ x. x < members) (sym known.1.0) a.0)) m (Pointed g.0 g.1 g.2 g.3) tt)
  walks_after (Publish m) a = let g = a.1 in subst (λ x. Next (record { state = publish_by s.state m x; books = publish_noted s.state s.books x })) (sym g.4) (goes members rows s.linked s.walk s.stage walks m (Got g.2 0) tt)
  walks_after (Peek m) a = elim a.1 [
    | inl g ↦ subst (λ x. Next (record { state = peek_by s.state m x; books = peek_noted s.state s.books m x })) (sym g.2) (goes members rows s.linked s.walk s.stage walks m (peeked g.0 g.1 (s.lo g.1)) (peeked_cases (λ x. Walking s.linked (s.walk m) x) g.0 g.1 (s.lo g.1) (λ hit. walking_at m (At g.0 g.1) g.2) (λ over. walking_at m (At g.0 g.1) g.2)))
    | inr (inl g) ↦ subst (λ x. Next (record { state = peek_by s.state m x; books = peek_noted s.state s.books m x })) (sym g.2) (over_walks m g.0 g.1 g.2)
    | inr (inr g) ↦ subst (λ x. Next (record { state = peek_by s.state m x; books = peek_noted s.state s.books m x })) (sym g.3) (goes members rows s.linked s.walk s.stage walks m (Got (s.base g.1) (g.0 - g.2)) tt)
  ]
  walks_after (Leave m) a = goes members rows s.linked s.walk s.stage walks m Out tt

pub walks_start : (members rows : ℕ) → Walks members rows [] (λ m. []) (λ m. Out)
walks_start members rows = record { walking = λ m. tt; once = λ m. tt; owned = λ b i. absurd i; in_range = λ m v i. absurd i }

pub walks_reach : (members rows : ℕ) (steps : List Step) (s : Traced) → Inv members rows s → Walks members rows s.linked s.walk s.stage → AllAllowed members rows steps s.state → Walks members rows (run steps s).linked (run steps s).walk (run steps s).stage
walks_reach members rows [] s inv walks a = walks
walks_reach members rows (step ∷ steps) s inv walks a = walks_reach members rows steps (traced s step) (keeps members rows s inv step a.0) (walks_after members rows s inv walks step a.0) a.1

-- numbers below n of which no two are equal are at most n
all_apart : (x : ℕ) (xs : List ℕ) → (IsIn x xs → ⊥) → AllByRecursion (λ y. eqb x y ≡ false) xs
all_apart x [] not = tt
all_apart x (y ∷ ys) not = (ne_eqb x y (λ same. not (inl same)), all_apart x ys (λ i. not (inr i)))

distinct : (xs : List ℕ) → HasNoRepeat xs → IsDistinct eqb xs
unfolding IsDistinct
distinct [] none = tt
distinct (x ∷ xs) none = (all_apart x xs none.0, distinct xs none.1)

from_any : (q : ℕ) (xs : List ℕ) → list_any (eqb q) xs ≡ true → IsIn q xs
from_any q [] is = absurd (false≢true is)
from_any q (x ∷ xs) is = ⊎_elim (λ here. inl (eqb-true q x here)) (λ there. inr (from_any q xs there)) (or_cases (eqb q x) (list_any (eqb q) xs) is)

-- the row that a leading member fills is its own, and the row that a late member has in hand is of a batch
row_filled_inside : (members rows : ℕ) (s : Traced) → Inv members rows s → (m : ℕ) (g : Stage) (at r : ℕ) → s.stage m ≡ g → offset g ≡ Some at → row_filled g ≡ Some r → r / rows < members
row_filled_inside members rows s inv m g at r is o names =
    let ours = filled_unneeded s s.total (IsOurs rows s m) g r names (subst (Leading s s.total (IsOurs rows s m)) is (inv.leading m)) in
    subst (λ x. x < members) (sym ours.0) (inv.known m at (ap offset is ∙ o)).0

row_in_hand_inside : (members rows : ℕ) (s : Traced) → Inv members rows s → Walks members rows s.linked s.walk s.stage → (m : ℕ) (g : Stage) (at r : ℕ) → s.stage m ≡ g → offset g ≡ Some at → row_in_hand g ≡ Some r → r / rows < members
row_in_hand_inside members rows s inv walks m g at r is o names =
    let b = hand_batch s.done (s.announced m) s.linked g at r (subst (Calm s.done (s.announced m) s.linked) is (inv.calm m)) o names in
    subst (λ x. x / rows < members) b.2 (walks.owned b.0 b.1)

-- the row that a stage names is a member's
row_inside : (members rows : ℕ) (s : Traced) → Inv members rows s → Walks members rows s.linked s.walk s.stage → (m : ℕ) (g : Stage) (r : ℕ) → s.stage m ≡ g → row_named g ≡ Some r → r / rows < members
row_inside members rows s inv walks m (FilledLo at hi b h row) r is names = row_filled_inside members rows s inv m (FilledLo at hi b h row) at r is refl names
row_inside members rows s inv walks m (FilledBase at hi b h row) r is names = row_filled_inside members rows s inv m (FilledBase at hi b h row) at r is refl names
row_inside members rows s inv walks m (Filled at hi b row) r is names = row_filled_inside members rows s inv m (Filled at hi b row) at r is refl names
row_inside members rows s inv walks m (Pointed at hi b row) r is names = row_filled_inside members rows s inv m (Pointed at hi b row) at r is refl names
row_inside members rows s inv walks m (At at row) r is names = row_in_hand_inside members rows s inv walks m (At at row) at r is refl names
row_inside members rows s inv walks m (Over at row) r is names = row_in_hand_inside members rows s inv walks m (Over at row) at r is refl names
row_inside members rows s inv walks m (Hit at row lo) r is names = row_in_hand_inside members rows s inv walks m (Hit at row lo) at r is refl names
row_inside members rows s inv walks m _ r is names = absurd (cc (names))

pub short : (members rows : ℕ) (s : Traced) → Inv members rows s → Walks members rows s.linked s.walk s.stage → IsShort members rows s
short members rows s inv walks = record {
  once = walks.once;
  inside = λ m r names. row_inside members rows s inv walks m (s.stage m) r refl names;
  length = λ some m. length-le_from_distinct_below (s.walk m) (members * rows) (distinct (s.walk m) (walks.once m)) (λ q i. (div-lt_iff_lt-mul some).0 (walks.in_range m q (from_any q (s.walk m) i)));
}
