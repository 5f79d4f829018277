-- What the fields of a machine that has taken a legal log say of where a pass stands.
use Rattle.std.proofs.Common.{◌≡◌, ◌≢◌, inl, inr, ℕ, zero, suc, ◌+◌, ◌-◌, ◌*◌, ◌/◌, ◌<◌, ◌≤◌, Bool, true, false, List, refl, sym, ◌∙◌, ap, subst, arith, slice_index_or}
use Rattle.std.specs.Prelude.{Some, IsTrue, ◌↔◌, ◌==◌, if◌then◌else◌}
use Rattle.std.proofs.lemmas.Bool.{cases_eq, eqb-true, eq-eqb, false≢true}
use Rattle.fn_model.specs.declared.Kind.{Kind}
use Rattle.fn_rows.specs.declared.Stage.{Stage}
use Rattle.fn_rows.specs.declared.Stage.TheVariants.{Out, Saw, Told, Waiting, Lead, Late, Shut, Based, Headed, FilledLo, FilledBase, Filled, Pointed, At, Over, Hit, Got}
use Rattle.fn_rows.specs.Aggregator.{Aggregator, state_of}
use Rattle.fn_rows.specs.Machine as rows
use Rattle.fn_rows.specs.Machine.{IsFree}
use Rattle.fn_rows.specs.Law.{row_in_hand}
use Rattle.fn_layout.specs.Tree.{aggregator, member, members}
use Rattle.fn_layout.specs.Words.{IsSlot, aggregator_number}
use Rattle.fn_layout.proofs.Members.{members_are_numbered}
use Rattle.fn_core.specs.declared.Event.{Event}
use Rattle.fn_core.specs.declared.machine.Machine.{Machine}
use Rattle.fn_core.specs.declared.Move.TheVariants.{Glance}
use Rattle.fn_core.specs.State.{Start, Position, Resting, Trying, Climbing, Deciding, State, stage, opened, hi_of, lo_of}
use Rattle.fn_core.specs.Machine.{HasFreeRow, MayArrive, run, weight_of, place}
use Rattle.fn_core.specs.Order.{IsFirst, first_below, is_free, first_free, weight_below, next_on_row, next_at, next_by}
use Rattle.fn_core.specs.Filling.{FillsAt, fills_later}
use Rattle.fn_core.specs.Positions.{IsClimbing}
use Rattle.fn_core.specs.Fields.{Stands, ClimbsIn}
use Rattle.fn_core.proofs.FirstFree.{is_free_means, means_is_free, first_is_free, free_rows_are_found}
use Rattle.fn_core.proofs.Filling.{calls_keep_rows}
use Rattle.fn_core.proofs.Members.{members_few}
use Rattle.fn_core.proofs.Names.{hand_owned}
use Rattle.fn_core.proofs.Reached.{whole, climbs_slot}
use Rattle.fn_core.proofs.Taken.{there}
use Rattle.fn_core.proofs.OnMain.{position_is}
use Rattle.fn_core.proofs.Whole.{stages_of, climbing}

-- the first number of which a test holds is one number
pub first_is : (test : ℕ → Bool) (Holds : ℕ → Type 0) → ((n : ℕ) → test n ≡ true → Holds n) → ((n : ℕ) → Holds n → test n ≡ true) → (count n : ℕ) → IsFirst Holds count n → n ≡ first_below test count
unfolding first_below
first_is test Holds means meant zero n first = omega (arith, first.0)
first_is test Holds means meant (suc count) n first = by_first (test 0) refl n first (λ k later. first_is (λ i. test (suc i)) (λ i. Holds (suc i)) (λ i. means (suc i)) (λ i. meant (suc i)) count k later)
  where
    after : ℕ
    after = first_below (λ k. test (suc k)) count

    by_first : (b : Bool) → test 0 ≡ b → (n : ℕ) → IsFirst Holds (suc count) n → ((k : ℕ) → IsFirst (λ i. Holds (suc i)) count k → k ≡ after) → n ≡ (if b then 0 else suc after)
    by_first true e zero h rest = refl
    by_first true e (suc n) h rest = absurd (h.1 0 (omega arith) (means 0 e))
    by_first false e zero h rest = absurd (false≢true (sym e ∙ meant 0 (h.2 (omega arith))))
    by_first false e (suc n) h rest = ap suc (rest n (omega (arith, h.0), (λ k lt. h.1 (suc k) (omega arith)), (λ lt. h.2 (omega arith))))

module _ (m : Machine) (log : List Event) (stands : Stands m log) (pass : ℕ) (kind : Kind) (level : ℕ) (slot : IsSlot m.start.shape pass kind level) where
  abbrev s : State
  s = run m.start log (opened m.start)

  abbrev here : ℕ → Type 0
  here k = k ≡ aggregator_number m.start.shape kind level (aggregator m.start.shape pass level)

  -- the pass is one of the members of what was read
  pub member_in : (k : ℕ) (a : Aggregator) → here k → a ≡ slice_index_or m.rows.items k a → (n : ℕ) → n ≡ member m.start.shape level pass → n < a.members
  member_in k a is read n own =
      let at = there m log stands pass kind level slot k a is read in
      let inside = (members_are_numbered m.start.shape pass level slot.0).0 in
      omega (arith, at.members_are, own, inside)

  -- the aggregator has the shape's rows, and few members
  pub rows_in : (k : ℕ) (a : Aggregator) → here k → a ≡ slice_index_or m.rows.items k a → a.rows ≡ m.start.shape.rows
  rows_in k a is read = (there m log stands pass kind level slot k a is read).rows_are

  pub few_in : (n : ℕ) → n ≡ member m.start.shape level pass → n < 64
  few_in n own =
      let inside = (members_are_numbered m.start.shape pass level slot.0).0 in
      omega (arith, own, inside, members_few m.start.shape level (aggregator m.start.shape pass level))

  -- where it stands
  pub stage_in : (k : ℕ) (a : Aggregator) → here k → a ≡ slice_index_or m.rows.items k a → (n : ℕ) → n ≡ member m.start.shape level pass → (state_of a).stage n ≡ stage m.start s kind level pass
  stage_in k a is read n own =
      let at = there m log stands pass kind level slot k a is read in
      ap (λ (t : rows.State). t.stage n) at.state_is ∙ ap (λ (i : ℕ). (s.rows kind level (aggregator m.start.shape pass level)).stage i) own

  -- the first of its rows that may be filled
  pub first_in : (k : ℕ) (a : Aggregator) → here k → a ≡ slice_index_or m.rows.items k a → (n : ℕ) → n ≡ member m.start.shape level pass → (count : ℕ) → count ≡ m.start.shape.rows → (r : ℕ)
      → IsFirst (λ i. IsFree a.members (state_of a) n (n * count + i)) count r → r ≡ first_free m.start s kind level pass
  first_in k a is read n own count few r first =
      let at = there m log stands pass kind level slot k a is read in
      let t = (place m.start s kind level pass).state in
      let all : ℕ = members m.start.shape level (aggregator m.start.shape pass level) in
      let same : (i : ℕ) → IsFree a.members (state_of a) n (n * count + i) ≡ IsFree all t (member m.start.shape level pass) (member m.start.shape level pass * m.start.shape.rows + i) =
      λ i. ap (λ (x : ℕ). IsFree x (state_of a) n (n * count + i)) at.members_are ∙ ap (λ (x : rows.State). IsFree all x n (n * count + i)) at.state_is ∙ ap (λ (x : ℕ). IsFree all t x (x * count + i)) own ∙ ap (λ (x : ℕ). IsFree all t (member m.start.shape level pass) (member m.start.shape level pass * x + i)) few in
      first_is (is_free m.start s kind level pass) (λ i. IsFree a.members (state_of a) n (n * count + i)) (λ i yes. subst (λ (X : Type 0). X) (sym (same i)) (is_free_means m.start s kind level pass i yes))
      (λ i free. means_is_free m.start s kind level pass i (subst (λ (X : Type 0). X) (same i) free)) count r first
      ∙ ap (first_below (is_free m.start s kind level pass)) few

  -- the row that a late call has in hand is a member's
  pub hand_in : (r : ℕ) → row_in_hand (stage m.start s kind level pass) ≡ Some r → r / m.start.shape.rows < members m.start.shape level (aggregator m.start.shape pass level)
  hand_in r is = hand_owned m.start log stands.start_ok stands.legal pass kind level r is

-- of a call that has climbed to a level
module _ (m : Machine) (log : List Event) (stands : Stands m log) (pass : ℕ) (kind : Kind) (level : ℕ) (climbs : ClimbsIn m pass kind level) where
  abbrev now : State
  now = run m.start log (opened m.start)

  pub climbs_at : (now.callers pass).position ≡ Climbing kind level
  climbs_at = position_is m log stands pass climbs.1 (Climbing kind level) climbs.2

  pub climbs_in : IsSlot m.start.shape pass kind level
  climbs_in = climbs_slot m log stands pass climbs.1 kind level climbs_at

  pub climbs_up : IsClimbing m.start.shape.levels (stages_of m.start now pass) kind level
  climbs_up = climbing m.start stands.start_ok now (whole m log stands pass climbs.1) pass kind level climbs_at

  -- a call that is about to fill a row has one that is free
  pub free_in : (at hi b h : ℕ) → stage m.start now kind level pass ≡ Headed at hi b h → first_free m.start now kind level pass < m.start.shape.rows
  free_in at hi b h headed =
      let fills = subst (λ (x : Position). FillsAt (stages_of m.start now pass) x kind level) (sym climbs_at) (refl, inr (inl (refl, ap fills_later headed))) in
      (first_is_free m.start now kind level pass (calls_keep_rows m.start log stands.start_ok stands.legal pass kind level climbs_up.low climbs_up.high fills)).0

  -- below the leaves nothing was closed
  pub weighs_below : level ≡ 1 → 0 ≡ weight_below m.start now pass kind level
  weighs_below first = subst (λ (l : ℕ). 0 ≡ weight_below m.start now pass kind l) (sym first) (ap (λ (g : Stage). hi_of g - lo_of g) (sym climbs_up.bottom))

  pub weighs_under : (w : ℕ) → level ≢ 1 → w ≡ weight_of m.start now pass kind (level - 1) → w ≡ weight_below m.start now pass kind level
  weighs_under w above is = by_level level climbs_up.low above is
    where
      by_level : (l : ℕ) → 1 ≤ l → l ≢ 1 → w ≡ weight_of m.start now pass kind (l - 1) → w ≡ weight_below m.start now pass kind l
      by_level zero low other e = absurd (omega arith)
      by_level (suc below) low other e = e ∙ ap (weight_of m.start now pass kind) (omega arith)

-- what arrives above the leaves is the batch below
pub arrives_above : (m : Machine) (log : List Event) (stands : Stands m log) (pass : ℕ) (kind : Kind) (level : ℕ) (climbs : ClimbsIn m pass kind level) → level ≢ 1 → (weight w : ℕ) → w ≡ weight_of m.start (run m.start log (opened m.start)) pass kind (level - 1)
    → IsTrue (weight == w) ↔ MayArrive m.start (run m.start log (opened m.start)) pass kind level weight
arrives_above m log stands pass kind level climbs other weight w is = by_level level (climbs_up m log stands pass kind level climbs).low other is
  where
    by_level : (l : ℕ) → 1 ≤ l → l ≢ 1 → w ≡ weight_of m.start (run m.start log (opened m.start)) pass kind (l - 1) → IsTrue (weight == w) ↔ MayArrive m.start (run m.start log (opened m.start)) pass kind l weight
    by_level zero low ne e = absurd (omega arith)
    by_level (suc zero) low ne e = absurd (ne refl)
    by_level (suc (suc below)) low ne e =
        let same : w ≡ weight_of m.start (run m.start log (opened m.start)) pass kind (suc below) = e ∙ ap (weight_of m.start (run m.start log (opened m.start)) pass kind) (omega arith) in
        ((λ yes. eqb-true weight w yes ∙ same), (λ holds. eq-eqb weight w (holds ∙ sym same)))

-- a stage that goes with a row
pub on_row_at : (start : Start) (s : State) (pass : ℕ) (kind : Kind) (level : ℕ) (held g : Stage) → held ≡ g
    → (g ≡ Out → ⊥)
    → ((a : ℕ) → g ≡ Saw a → ⊥)
    → ((a : ℕ) → g ≡ Told a → ⊥)
    → ((a : ℕ) → g ≡ Waiting a → ⊥)
    → ((a : ℕ) → g ≡ Lead a → ⊥)
    → ((a : ℕ) → g ≡ Late a → ⊥)
    → ((a b : ℕ) → g ≡ Shut a b → ⊥)
    → ((a b c : ℕ) → g ≡ Based a b c → ⊥)
    → ((a b c d : ℕ) → g ≡ Pointed a b c d → ⊥)
    → ((a b : ℕ) → g ≡ Got a b → ⊥)
    → next_on_row start s pass kind level held ≡ next_at start s pass kind level g
on_row_at start s pass kind level held g same out saw told waiting lead late shut based pointed got = ap (next_on_row start s pass kind level) same ∙ by_stage g out saw told waiting lead late shut based pointed got
  where
    by_stage : (g : Stage)
        → (g ≡ Out → ⊥)
        → ((a : ℕ) → g ≡ Saw a → ⊥)
        → ((a : ℕ) → g ≡ Told a → ⊥)
        → ((a : ℕ) → g ≡ Waiting a → ⊥)
        → ((a : ℕ) → g ≡ Lead a → ⊥)
        → ((a : ℕ) → g ≡ Late a → ⊥)
        → ((a b : ℕ) → g ≡ Shut a b → ⊥)
        → ((a b c : ℕ) → g ≡ Based a b c → ⊥)
        → ((a b c d : ℕ) → g ≡ Pointed a b c d → ⊥)
        → ((a b : ℕ) → g ≡ Got a b → ⊥)
        → next_on_row start s pass kind level g ≡ next_at start s pass kind level g
    by_stage Out never _ _ _ _ _ _ _ _ _ = absurd (never refl)
    by_stage (Saw a) _ never _ _ _ _ _ _ _ _ = absurd (never a refl)
    by_stage (Told a) _ _ never _ _ _ _ _ _ _ = absurd (never a refl)
    by_stage (Waiting a) _ _ _ never _ _ _ _ _ _ = absurd (never a refl)
    by_stage (Lead a) _ _ _ _ never _ _ _ _ _ = absurd (never a refl)
    by_stage (Late a) _ _ _ _ _ never _ _ _ _ = absurd (never a refl)
    by_stage (Shut a b) _ _ _ _ _ _ never _ _ _ = absurd (never a b refl)
    by_stage (Based a b c) _ _ _ _ _ _ _ never _ _ = absurd (never a b c refl)
    by_stage (Pointed a b c d) _ _ _ _ _ _ _ _ never _ = absurd (never a b c d refl)
    by_stage (Got a b) _ _ _ _ _ _ _ _ _ never = absurd (never a b refl)
    by_stage (Headed a b c d) _ _ _ _ _ _ _ _ _ _ = refl
    by_stage (FilledLo a b c d e) _ _ _ _ _ _ _ _ _ _ = refl
    by_stage (FilledBase a b c d e) _ _ _ _ _ _ _ _ _ _ = refl
    by_stage (Filled a b c d) _ _ _ _ _ _ _ _ _ _ = refl
    by_stage (At a b) _ _ _ _ _ _ _ _ _ _ = refl
    by_stage (Over a b) _ _ _ _ _ _ _ _ _ _ = refl
    by_stage (Hit a b c) _ _ _ _ _ _ _ _ _ _ = refl

-- a pass that makes never call
pub rests_by : (start : Start) (s : State) (pass : ℕ) (position : Position) → ((kind : Kind) (level : ℕ) → position ≡ Climbing kind level → ⊥) → ((kind : Kind) (level word : ℕ) → position ≡ Deciding kind level word → ⊥) → Glance ≡ next_by start s pass position
rests_by start s pass Resting climbs decides = refl
rests_by start s pass (Trying word) climbs decides = refl
rests_by start s pass (Climbing kind level) climbs decides = absurd (climbs kind level refl)
rests_by start s pass (Deciding kind level word) climbs decides = absurd (decides kind level word refl)

-- the first number is no further than the count
first_within : (test : ℕ → Bool) (n : ℕ) → first_below test n ≤ n
unfolding first_below
first_within test zero = omega arith
first_within test (suc n) = by_first (test 0) (first_within (λ k. test (suc k)) n)
  where
    by_first : (b : Bool) → first_below (λ k. test (suc k)) n ≤ n → (if b then 0 else suc (first_below (λ k. test (suc k)) n)) ≤ suc n
    by_first true h = omega arith
    by_first false h = omega (arith, h)

-- a free row at one more level
pub free_more : (start : Start) (s : State) (kind : Kind) (pass above first rows : ℕ) → ((k : ℕ) → k < above → HasFreeRow start s kind (suc k) pass) → first ≡ first_free start s kind (above + 1) pass → rows ≡ start.shape.rows → first ≢ rows → (k : ℕ) → k < above + 1 → HasFreeRow start s kind (suc k) pass
free_more start s kind pass above first rows free is all other k less =
    let level : above + 1 ≡ suc above = omega arith in
    let found : first ≡ first_free start s kind (suc above) pass = is ∙ ap (λ (l : ℕ). first_free start s kind l pass) level in
    let within : first_free start s kind (suc above) pass ≤ start.shape.rows = first_within (is_free start s kind (suc above) pass) start.shape.rows in
    elim (cases_eq k above) [
      | inl same ↦ subst (λ (i : ℕ). HasFreeRow start s kind (suc i) pass) (sym same) ((free_rows_are_found start s kind (suc above) pass).1 (omega (arith, found, within, all, other)))
      | inr lower ↦ free k (omega (arith, less, lower))
    ]

-- .. and at each
pub all_free : (start : Start) (s : State) (kind : Kind) (pass top : ℕ) → top ≡ start.shape.levels → ((k : ℕ) → k < top → HasFreeRow start s kind (suc k) pass)
    → IsTrue true ↔ ((level : ℕ) → 1 ≤ level → level ≤ start.shape.levels → HasFreeRow start s kind level pass)
all_free start s kind pass top high free = ((λ yes level low within. by_level level low within), (λ all. refl))
  where
    by_level : (level : ℕ) → 1 ≤ level → level ≤ start.shape.levels → HasFreeRow start s kind level pass
    by_level zero low within = absurd (omega arith)
    by_level (suc k) low within = free k (omega (arith, high, within))
