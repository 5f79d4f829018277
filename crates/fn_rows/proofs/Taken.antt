-- Each step of a member, as it is taken on the fields.
use Rattle.std.proofs.Common.{◌≡◌, inl, inr, ℕ, suc, ◌*◌, ◌^◌, ◌<◌, ◌+◌, ◌-◌, ◌/◌, List, length, set, refl, sym, ◌∙◌, ap, subst, arith, add-one}
use Rattle.std.specs.Prelude.{Option, Some, None}
use Rattle.std.proofs.Math.Nat.{div-lt_iff_lt-mul}
use Rattle.fn_rows.specs.Machine.{Stage, Out, Saw, Told, Waiting, Lead, Late, Shut, Based, Headed, Filled, Pointed, At, Over, Hit, Got, Field, Lo, Base, Prev, See, Announce, Arrive, Look, Close, Hand_base, Head, Fill, Point, Publish, Peek, Leave, put, moved, stored, looked, peeked, filled, announce_by, look_by, close_by, hand_by, head_by, fill_by, point_by, publish_by, peek_by}
use Rattle.fn_rows.specs.Law.{row_named}
use Rattle.fn_rows.specs.Found.{Forgets}
use Rattle.fn_rows.specs.Aggregator.{Aggregator, May, IsReached, state_of, word_of, end_held, asked}
use Rattle.fn_rows.proofs.Fields.{Goes, row_inside, moves, announces, arrives, points, stores_lo, stores_base, stores_prev, publishes, leaves}

-- the row that a member may fill is one of the rows
pub filled_inside : (a : Aggregator) → IsReached a → (m r word : ℕ) (field : Field) → May a (Fill m r field word) → r < a.members * a.rows
filled_inside a reached m r word Lo may =
    let member : m < a.members = may.0 in
    let own : r / a.rows ≡ m = may.1.5 in
    (div-lt_iff_lt-mul reached.some_row).0 (omega (arith, member, own))
filled_inside a reached m r word Base may = row_inside a reached m r (ap row_named may.1.4)
filled_inside a reached m r word Prev may = row_inside a reached m r (ap row_named may.1.4)

abbrev or_pair : ℕ × Field → Option (ℕ × Field) → ℕ × Field
or_pair p None = p
or_pair p (Some q) = q

pair_same : (p q : ℕ × Field) → Some p ≡ Some q → p ≡ q
pair_same p q e = ap (or_pair p) e

-- so is the row in hand
pub asked_inside : (a : Aggregator) → IsReached a → (m row : ℕ) (field : Field) → asked ((state_of a).stage m) ≡ Some (row, field) → May a (Peek m) → row < a.members * a.rows
asked_inside a reached m row field asks may = row_inside a reached m row (elim may.1 [
  | inl (at, r, stage) ↦ named (At at r) stage r Lo refl refl
  | inr (inl (at, r, stage)) ↦ named (Over at r) stage r Prev refl refl
  | inr (inr (at, r, lo, stage)) ↦ named (Hit at r lo) stage r Base refl refl
])
  where
    named : (g : Stage) → (state_of a).stage m ≡ g → (r : ℕ) (f : Field) → asked g ≡ Some (r, f) → row_named g ≡ Some r → row_named ((state_of a).stage m) ≡ Some row
    named g stage r f is names = ap row_named stage ∙ names ∙ ap (λ (p : ℕ × Field). Some p.0) (pair_same (r, f) (row, field) (sym (ap asked stage ∙ is) ∙ asks))

-- the fields before the step of this member stand for the value
module _ (old a : Aggregator) (is : old ≡ a) (reached : IsReached old) (m : ℕ) where
  pub reached_value : IsReached a
  reached_value = subst IsReached is reached

  pub sees : May a (See m) → Goes a (record old { stage = set old.stage m (Saw old.done) }) (See m)
  sees may = moves old a is reached (See m) may m may.0 (Saw old.done) (ap (λ (x : Aggregator). moved (state_of a) m (Saw x.done)) is)

  pub tells : (seen : ℕ) (x : Stage) → x ≡ (state_of a).stage m → x ≡ Saw seen → May a (Announce m) → Goes a (record old { announced = set old.announced m (seen + 1); stage = set old.stage m (Told seen) }) (Announce m)
  tells seen x read saw may = announces old a is reached (Announce m) may m may.0 (Told seen) (seen + 1)
      (ap (λ word. moved (record (state_of a) { announced = put (state_of a).announced m word }) m (Told seen)) (add-one seen) ∙ sym (ap (announce_by (state_of a) m) (sym read ∙ saw)))

  pub comes : (weight : ℕ) → a.total + weight < 2 ^ 63 → May a (Arrive m weight) → Goes a (record old { total = old.total + weight; stage = set old.stage m (Waiting old.total) }) (Arrive m weight)
  comes weight room may = arrives old a is reached (Arrive m weight) may m may.0 (Waiting old.total) (old.total + weight) (omega (arith, room, ap (λ (x : Aggregator). x.total) is))
      (ap (λ (x : Aggregator). moved (record (state_of a) { total = x.total + weight }) m (Waiting x.total)) is)

  -- the member's stage was read, and the stage after the step made of it
  module _ (x g : Stage) (read : x ≡ (state_of a).stage m) where
    pub looks : ((at : ℕ) → x ≡ Waiting at → g ≡ looked at old.done) → May a (Look m) → Goes a (record old { stage = set old.stage m g }) (Look m)
    looks next may = moves old a is reached (Look m) may m may.0 g
        (ap (moved (state_of a) m) (next may.1.0 (read ∙ may.1.1)) ∙ ap (λ (y : Aggregator). moved (state_of a) m (looked may.1.0 y.done)) is ∙ sym (ap (look_by (state_of a) m) may.1.1))

    pub closes : ((at : ℕ) → x ≡ Lead at → g ≡ Shut at old.total) → May a (Close m) → Goes a (record old { stage = set old.stage m g }) (Close m)
    closes next may = moves old a is reached (Close m) may m may.0 g
        (ap (moved (state_of a) m) (next may.1.0 (read ∙ may.1.1)) ∙ ap (λ (y : Aggregator). moved (state_of a) m (Shut may.1.0 y.total)) is ∙ sym (ap (close_by (state_of a) m) may.1.1))

    pub hands : (base : ℕ) → ((at hi : ℕ) → x ≡ Shut at hi → g ≡ Based at hi base) → May a (Hand_base m base) → Goes a (record old { stage = set old.stage m g }) (Hand_base m base)
    hands base next may = moves old a is reached (Hand_base m base) may m may.0 g
        (ap (moved (state_of a) m) (next may.1.0 may.1.1 (read ∙ may.1.2)) ∙ sym (ap (hand_by (state_of a) m base) may.1.2))

    pub heads : ((at hi base : ℕ) → x ≡ Based at hi base → g ≡ Headed at hi base old.last) → ((at : ℕ) → x ≡ Late at → g ≡ At at (old.last - 1)) → May a (Head m) → Goes a (record old { stage = set old.stage m g }) (Head m)
    heads leads late may = moves old a is reached (Head m) may m may.0 g (elim may.1 [
      | inl (at, hi, base, stage) ↦ ap (moved (state_of a) m) (leads at hi base (read ∙ stage)) ∙ ap (λ (y : Aggregator). moved (state_of a) m (Headed at hi base y.last)) is ∙ sym (ap (head_by (state_of a) m) stage)
      | inr (at, stage) ↦ ap (moved (state_of a) m) (late at (read ∙ stage)) ∙ ap (λ (y : Aggregator). moved (state_of a) m (At at (y.last - 1))) is ∙ sym (ap (head_by (state_of a) m) stage)
    ])

    pub fills_lo : (r word : ℕ) (field : Field) → field ≡ Lo → g ≡ filled r x → May a (Fill m r field word) → Goes a (record old { lo = set old.lo r word; stage = set old.stage m g }) (Fill m r field word)
    fills_lo r word field lo next may = stores_lo old a is reached (Fill m r field word) may m may.0 g r word (filled_inside a reached_value m r word field may)
        (ap (λ y. moved (stored (state_of a) r Lo word) m y) (next ∙ ap (filled r) read) ∙ ap (λ f. fill_by (state_of a) m r f word ((state_of a).stage m)) (sym lo))

    pub fills_base : (r word : ℕ) (field : Field) → field ≡ Base → g ≡ filled r x → May a (Fill m r field word) → Goes a (record old { base = set old.base r word; stage = set old.stage m g }) (Fill m r field word)
    fills_base r word field base next may = stores_base old a is reached (Fill m r field word) may m may.0 g r word (filled_inside a reached_value m r word field may)
        (ap (λ y. moved (stored (state_of a) r Base word) m y) (next ∙ ap (filled r) read) ∙ ap (λ f. fill_by (state_of a) m r f word ((state_of a).stage m)) (sym base))

    pub fills_prev : (r word : ℕ) (field : Field) → field ≡ Prev → g ≡ filled r x → May a (Fill m r field word) → Goes a (record old { prev = set old.prev r word; stage = set old.stage m g }) (Fill m r field word)
    fills_prev r word field prev next may = stores_prev old a is reached (Fill m r field word) may m may.0 g r word (filled_inside a reached_value m r word field may)
        (ap (λ y. moved (stored (state_of a) r Prev word) m y) (next ∙ ap (filled r) read) ∙ ap (λ f. fill_by (state_of a) m r f word ((state_of a).stage m)) (sym prev))

    pub names : (row : ℕ) → row_named ((state_of a).stage m) ≡ Some row → ((at hi base r : ℕ) → x ≡ Filled at hi base r → g ≡ Pointed at hi base r) → May a (Point m) → Goes a (record old { last = row + 1; stage = set old.stage m g }) (Point m)
    names row named next may =
        let at = may.1.0 in
        let hi = may.1.1 in
        let b = may.1.2 in
        let r = may.1.3 in
        let stage = may.1.4 in
        let same : Some r ≡ Some row = sym (ap row_named stage) ∙ named in
        let row_is : r ≡ row = cc (same) in
        points old a is reached (Point m) may m may.0 g (row + 1)
        (ap (moved (record (state_of a) { last = row + 1 }) m) (next at hi b r (read ∙ stage))
        ∙ ap (λ w. moved (record (state_of a) { last = w }) m (Pointed at hi b r)) (add-one row ∙ ap suc (sym row_is))
        ∙ sym (ap (point_by (state_of a) m) stage))

    pub peeks : (row : ℕ) (field : Field) (word : ℕ) → asked ((state_of a).stage m) ≡ Some (row, field) → word ≡ word_of (state_of a) row field
        → ((at r : ℕ) → x ≡ At at r → g ≡ peeked at r word) → ((at r : ℕ) → x ≡ Over at r → g ≡ At at (word - 1)) → ((at r lo : ℕ) → x ≡ Hit at r lo → g ≡ Got word (at - lo))
        → May a (Peek m) → Goes a (record old { stage = set old.stage m g }) (Peek m)
    peeks row field word asks loaded lo prev base may = moves old a is reached (Peek m) may m may.0 g (elim may.1 [
      | inl (at, r, stage) ↦
          let same : (r, Lo) ≡ (row, field) = pair_same (r, Lo) (row, field) (sym (ap asked stage) ∙ asks) in
          let is_lo : word ≡ (state_of a).lo r = loaded ∙ ap (λ (p : ℕ × Field). word_of (state_of a) p.0 p.1) (sym same) in
          ap (moved (state_of a) m) (lo at r (read ∙ stage) ∙ ap (peeked at r) is_lo) ∙ sym (ap (peek_by (state_of a) m) stage)
      | inr (inl (at, r, stage)) ↦
          let same : (r, Prev) ≡ (row, field) = pair_same (r, Prev) (row, field) (sym (ap asked stage) ∙ asks) in
          let is_prev : word ≡ (state_of a).prev r = loaded ∙ ap (λ (p : ℕ × Field). word_of (state_of a) p.0 p.1) (sym same) in
          ap (moved (state_of a) m) (prev at r (read ∙ stage) ∙ ap (λ w. At at (w - 1)) is_prev) ∙ sym (ap (peek_by (state_of a) m) stage)
      | inr (inr (at, r, low, stage)) ↦
          let same : (r, Base) ≡ (row, field) = pair_same (r, Base) (row, field) (sym (ap asked stage) ∙ asks) in
          let is_base : word ≡ (state_of a).base r = loaded ∙ ap (λ (p : ℕ × Field). word_of (state_of a) p.0 p.1) (sym same) in
          ap (moved (state_of a) m) (base at r low (read ∙ stage) ∙ ap (λ w. Got w (at - low)) is_base) ∙ sym (ap (peek_by (state_of a) m) stage)
    ])

  pub publishes_end : (end at hi base r : ℕ) (x : Stage) → x ≡ (state_of a).stage m → x ≡ Pointed at hi base r → end_held ((state_of a).stage m) ≡ Some end → May a (Publish m)
      → Goes a (record old { done = end; end = set old.end r end; stage = set old.stage m (Got base 0) }) (Publish m)
  publishes_end end at hi base r x read is_pointed held may =
      let stage : (state_of a).stage m ≡ Pointed at hi base r = sym read ∙ is_pointed in
      let same : Some hi ≡ Some end = sym (ap end_held stage) ∙ held in
      let end_is : hi ≡ end = cc (same) in
      publishes old a is reached (Publish m) may m may.0 (Got base 0) r end (row_inside a reached_value m r (ap row_named stage)) end
      (ap (λ e. moved (record (state_of a) { done = e; end = put (state_of a).end r e }) m (Got base 0)) (sym end_is) ∙ sym (ap (publish_by (state_of a) m) stage))

  pub goes_out : (found slots : List (Option ℕ)) → slots ≡ found → length found ≡ length old.found → Forgets old.found found (m * old.members) old.members → May a (Leave m)
      → Goes a (record old { announced = set old.announced m 0; found = slots; stage = set old.stage m Out }) (Leave m)
  goes_out found slots same long forgets may = leaves old a is reached (Leave m) may m may.0 Out slots (ap length same ∙ long) (subst (λ xs. Forgets old.found xs (m * old.members) old.members) (sym same) forgets) refl
