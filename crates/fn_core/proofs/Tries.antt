-- How a beginning goes through passes, rows and levels, up to the first of which a test holds.
use Rattle.std.proofs.Common.{◌≡◌, ◌≢◌, ◌↔◌, inl, inr, ℕ, suc, ◌+◌, ◌-◌, ◌<◌, ◌≤◌, Bool, true, false, List, [], ◌∷◌, ◌++◌, IsTrue, refl, sym, ◌∙◌, ap, subst, arith, append_assoc, Option, Some, None, cond, not, is_some, is_none, option_map, unwrap_or, map}
use Rattle.std.specs.Prelude.{if◌then◌else◌, ◌==◌, ◌||◌, nat_lt}
use Rattle.std.specs.List.{range_with_len, filter, find, list_any, flat_map}
use Rattle.std.proofs.lemmas.Bool.{eqb-true, eq-eqb, ltb-true, lt-ltb, ne_eqb, false≢true, or_cases, or_left, or_right}
use Rattle.std.proofs.lemmas.List.{map-append, append-nil}
use Rattle.fn_model.specs.declared.Kind.{Kind}
use Rattle.fn_rows.specs.Machine.{Lets}
use Rattle.fn_core.specs.declared.Event.{Event}
use Rattle.fn_core.specs.declared.Move.{Move}
use Rattle.fn_core.specs.declared.Move.TheVariants.{Scan}
use Rattle.fn_core.specs.Order.{lets}
use Rattle.fn_core.specs.State.{Start, State}
use Rattle.fn_core.specs.Begin.{up_to, others, blocks, blocker, scanned, events_of}

-- what is left of a range: the number at hand, and the rest
pub range_step : (i n : ℕ) → i < n → range_with_len i (n - i) ≡ i ∷ range_with_len (i + 1) (n - (i + 1))
range_step i n lt = ap (range_with_len i) (let e : n - i ≡ suc (n - (i + 1)) = omega arith in e)

-- .. and nothing at its end
pub range_end : (i n : ℕ) → n ≤ i → range_with_len i (n - i) ≡ []
range_end i n le = ap (range_with_len i) (let e : n - i ≡ 0 = omega arith in e)

-- a number that passes the filter stays
pub filter_keeps : (test : ℕ → Bool) (i n : ℕ) → i < n → test i ≡ true → filter test (range_with_len i (n - i)) ≡ i ∷ filter test (range_with_len (i + 1) (n - (i + 1)))
filter_keeps test i n lt is =
    let rest : List ℕ = filter test (range_with_len (i + 1) (n - (i + 1))) in
    ap (filter test) (range_step i n lt) ∙ ap (λ (b : Bool). cond b (i ∷ rest) rest) is

-- .. and another is left out
pub filter_skips : (test : ℕ → Bool) (i n : ℕ) → i < n → test i ≡ false → filter test (range_with_len i (n - i)) ≡ filter test (range_with_len (i + 1) (n - (i + 1)))
filter_skips test i n lt is =
    let rest : List ℕ = filter test (range_with_len (i + 1) (n - (i + 1))) in
    ap (filter test) (range_step i n lt) ∙ ap (λ (b : Bool). cond b (i ∷ rest) rest) is

-- a test holds of some item where the first of which it holds is found
pub any_found : (test : ℕ → Bool) (xs : List ℕ) → list_any test xs ≡ is_some (find test xs)
any_found test [] = refl
any_found test (x ∷ xs) = by (test x) (any_found test xs)
  where
    by : (b : Bool) → list_any test xs ≡ is_some (find test xs) → (b || list_any test xs) ≡ is_some (cond b (Some x) (find test xs))
    by true rest = refl
    by false rest = rest

pub none_mapped : {A : Type 0} (f : ℕ → A) (o : Option ℕ) → is_none (option_map f o) ≡ is_none o
none_mapped f None = refl
none_mapped f (Some x) = refl

pub some_mapped : {A : Type 0} (f : ℕ → A) (o : Option ℕ) → is_none o ≡ false → option_map f o ≡ Some (f (unwrap_or o 0))
some_mapped f None is = absurd (false≢true (sym is))
some_mapped f (Some x) is = refl

pub some_unless : {A : Type 0} (x : A) (b : Bool) → is_some (if b then None else Some x) ≡ not b
some_unless x true = refl
some_unless x false = refl

pub not_false : (b : Bool) → not b ≡ false → b ≡ true
not_false true is = refl
not_false false is = absurd (false≢true (sym is))

pub none_is : {A : Type 0} (o : Option A) → is_none o ≡ true → o ≡ None
none_is None is = refl
none_is (Some x) is = absurd (false≢true is)

pub some_found : (o : Option ℕ) → is_some o ≡ true → (n : ℕ) × (o ≡ Some n)
some_found None is = absurd (false≢true is)
some_found (Some n) is = (n, refl)

pub not_true : (b : Bool) → not b ≡ true → b ≡ false
not_true true is = absurd (false≢true is)
not_true false is = refl

-- the events of the items left, after those appended, are those of all items, and the first of which the test holds is still ahead
pub record Goes (out : List ℕ → List Event) (test : ℕ → Bool) (old now : List Event) (rest all : List ℕ) : Type 0 where
  pub steps : now ++ out (up_to test rest) ≡ old ++ out (up_to test all)
  pub found : find test rest ≡ find test all

pub goes_on_same : (out : List ℕ → List Event) (test : ℕ → Bool) (old now : List Event) (rest left all : List ℕ) → rest ≡ left → Goes out test old now rest all → Goes out test old now left all
goes_on_same out test old now rest left all same goes = subst (λ (xs : List ℕ). Goes out test old now xs all) same goes

module _ (out : List ℕ → List Event) (go : ℕ → List Event) (more : (x : ℕ) (xs : List ℕ) → out (x ∷ xs) ≡ go x ++ out xs) (none : out [] ≡ []) (test : ℕ → Bool) (old now : List Event) (rest all : List ℕ) (goes : Goes out test old now rest all) where
  at_hand : (x : ℕ) (left : List ℕ) → rest ≡ x ∷ left → (b : Bool) → test x ≡ b → now ++ (go x ++ out (if b then [] else up_to test left)) ≡ old ++ out (up_to test all)
  at_hand x left is b holds =
      ap (λ (xs : List Event). now ++ xs) (sym (more x (if b then [] else up_to test left)) ∙ ap (λ (t : Bool). out (x ∷ (if t then [] else up_to test left))) (sym holds) ∙ ap (λ (xs : List ℕ). out (up_to test xs)) (sym is))
      ∙ goes.steps

  -- the test doesn't hold of the item at hand
  pub goes_past : (x : ℕ) (left : List ℕ) → rest ≡ x ∷ left → test x ≡ false → Goes out test old (now ++ go x) left all
  goes_past x left is not_yet = record {
    steps = append_assoc now (go x) (out (up_to test left)) ∙ at_hand x left is false not_yet;
    found = sym (ap (λ (b : Bool). cond b (Some x) (find test left)) not_yet) ∙ ap (find test) (sym is) ∙ goes.found;
  }

  -- it holds of the item at hand, and so the list ends there
  pub stops_at : (x : ℕ) (left : List ℕ) → rest ≡ x ∷ left → test x ≡ true → (now ++ go x ≡ old ++ out (up_to test all)) × (find test all ≡ Some x)
  stops_at x left is holds = (
    ap (λ (xs : List Event). now ++ xs) (sym (append-nil (go x)) ∙ ap (λ (xs : List Event). go x ++ xs) (sym none)) ∙ at_hand x left is true holds,
    sym goes.found ∙ ap (find test) is ∙ ap (λ (b : Bool). cond b (Some x) (find test left)) holds,
  )

  -- nothing is left
  pub goes_through : rest ≡ [] → (now ≡ old ++ out (up_to test all)) × (find test all ≡ None)
  goes_through is = (
    sym (append-nil now) ∙ ap (λ (xs : List Event). now ++ xs) (sym none ∙ ap (λ (xs : List ℕ). out (up_to test xs)) (sym is)) ∙ goes.steps,
    sym goes.found ∙ ap (find test) is,
  )

-- the events of a pass's scans
abbrev pub scan_events : ℕ → Kind → ℕ → List ℕ → List Event
scan_events pass kind level qs = events_of pass (map (λ q. Scan kind level q) qs)

-- .. and of the steps for several rows or levels
abbrev pub all_events : ℕ → (ℕ → List Move) → List ℕ → List Event
all_events pass go xs = events_of pass (flat_map go xs)

pub all_events_more : (pass : ℕ) (go : ℕ → List Move) (x : ℕ) (xs : List ℕ) → all_events pass go (x ∷ xs) ≡ events_of pass (go x) ++ all_events pass go xs
all_events_more pass go x xs = map-append (λ (step : Move). let event : Event = record { pass = pass; step = step } in event) (go x) (flat_map go xs)

-- what lets a row be filled, as a test
pub lets_holds : (word end : ℕ) → lets (Some word) end ≡ true → Lets word end
lets_holds word end is = elim (or_cases (word == 0) (nat_lt end word) is) [ inl z ↦ inl (eqb-true word 0 z) | inr lt ↦ inr (ltb-true end word lt) ]

pub holds_lets : (word end : ℕ) → Lets word end → lets (Some word) end ≡ true
holds_lets word end (inl z) = or_left (word == 0) (nat_lt end word) (eq-eqb word 0 z)
holds_lets word end (inr lt) = or_right (word == 0) (nat_lt end word) (lt-ltb end word lt)

-- an announcement that doesn't let the row be filled blocks it
pub blocks_where : (word end : ℕ) (r : Bool) → (IsTrue r ↔ Lets word end) → r ≡ false → not (lets (Some word) end) ≡ true
blocks_where word end r means is = by (lets (Some word) end) refl
  where
    by : (b : Bool) → lets (Some word) end ≡ b → not (lets (Some word) end) ≡ true
    by false e = ap not e
    by true e = absurd (false≢true (sym is ∙ means.1 (lets_holds word end e)))

pub lets_where : (word end : ℕ) (r : Bool) → (IsTrue r ↔ Lets word end) → r ≡ true → not (lets (Some word) end) ≡ false
lets_where word end r means is = ap not (holds_lets word end (means.0 is))

module _ (start : Start) (s : State) (kind : Kind) (level pass end : ℕ) (filled : end ≢ 0) where
  -- for a row that was filled the others are scanned
  pub scanned_filled : scanned start s kind level pass end ≡ up_to (blocks start s kind level end) (others start.shape level pass)
  scanned_filled = ap (λ (b : Bool). if b then [] else up_to (blocks start s kind level end) (others start.shape level pass)) (ne_eqb end 0 filled)

  pub blocker_filled : blocker start s kind level pass end ≡ find (blocks start s kind level end) (others start.shape level pass)
  blocker_filled = ap (λ (b : Bool). if b then None else find (blocks start s kind level end) (others start.shape level pass)) (ne_eqb end 0 filled)
