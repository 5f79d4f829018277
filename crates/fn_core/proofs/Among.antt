-- The items of a list.
use Rattle.std.proofs.Common.{◌≡◌, ◌⊎◌, inl, inr, ℕ, zero, suc, ◌+◌, ◌<◌, ◌≤◌, Bool, true, false, List, [], ◌∷◌, ◌++◌, Some, None, cond, refl, sym, ◌∙◌, ap, subst, arith, append_assoc, map}
use Rattle.std.specs.Prelude.{if◌then◌else◌}
use Rattle.std.specs.List.{range_with_len, filter, find, flat_map, Contains}
use Rattle.std.proofs.lemmas.Bool.{cases_eq, false≢true}
use Rattle.std.proofs.lemmas.Grind.{flat_map-append}
use Rattle.std.proofs.lemmas.List.{map-append, append-nil}
pub use Rattle.fn_model.proofs.Lists.{Has, has_range, none_found}
use Rattle.fn_core.specs.Begin.{up_to}

-- what is found is an item of the list, and the last one up to it
pub record IsFound {A : Type 0} (test : A → Bool) (xs : List A) (x : A) : Type 0 where
  pub holds : test x ≡ true
  pub inside : Has xs x
  pub reached : Has (up_to test xs) x
  pub last : (earlier : List A) × (up_to test xs ≡ earlier ++ x ∷ [])

pub found_is : {A : Type 0} (test : A → Bool) (xs : List A) (x : A) → find test xs ≡ Some x → IsFound test xs x
found_is test [] x is = absurd (cc)
found_is {A} test (y ∷ ys) x is = by (test y) refl is (λ later. found_is test ys x later)
  where
    by : (b : Bool) → test y ≡ b → cond b (Some y) (find test ys) ≡ Some x → (find test ys ≡ Some x → IsFound test ys x) → IsFound test (y ∷ ys) x
    by true holds found rest =
        let same : x ≡ y = cc in
        record {
          holds = ap test same ∙ holds;
          inside = inl same;
          reached = inl same;
          last = ([], ap (λ (b : Bool). y ∷ (if b then [] else up_to test ys)) holds ∙ ap (λ (z : A). z ∷ []) (sym same));
        }
    by false holds found rest =
        let more = rest found in
        let longer : up_to test (y ∷ ys) ≡ y ∷ up_to test ys = ap (λ (b : Bool). y ∷ (if b then [] else up_to test ys)) holds in
        record {
          holds = more.holds;
          inside = inr more.inside;
          reached = subst (λ (zs : List A). Has zs x) (sym longer) (inr more.reached);
          last = (y ∷ more.last.0, longer ∙ ap (λ (zs : List A). y ∷ zs) more.last.1);
        }

-- where nothing is found, the list up to it is the whole list
pub all_reached : {A : Type 0} (test : A → Bool) (xs : List A) → find test xs ≡ None → up_to test xs ≡ xs
all_reached test [] none = refl
all_reached {A} test (y ∷ ys) none = by (test y) refl none (λ later. all_reached test ys later)
  where
    by : (b : Bool) → test y ≡ b → cond b (Some y) (find test ys) ≡ None → (find test ys ≡ None → up_to test ys ≡ ys) → up_to test (y ∷ ys) ≡ y ∷ ys
    by true holds found rest = absurd (cc)
    by false holds found rest = ap (λ (b : Bool). y ∷ (if b then [] else up_to test ys)) holds ∙ ap (λ (zs : List A). y ∷ zs) (rest found)

pub has_up_to : {A : Type 0} (test : A → Bool) (xs : List A) (x : A) → Has (up_to test xs) x → Has xs x
has_up_to test [] x has = has
has_up_to test (y ∷ ys) x (inl here) = inl here
has_up_to test (y ∷ ys) x (inr later) = inr (by (test y) later (λ has. has_up_to test ys x has))
  where
    by : (b : Bool) → Has (if b then [] else up_to test ys) x → (Has (up_to test ys) x → Has ys x) → Has ys x
    by true has rest = absurd has
    by false has rest = rest has

pub has_append_left : {A : Type 0} (xs ys : List A) (x : A) → Has xs x → Has (xs ++ ys) x
has_append_left [] ys x has = absurd has
has_append_left (y ∷ xs) ys x (inl here) = inl here
has_append_left (y ∷ xs) ys x (inr later) = inr (has_append_left xs ys x later)

pub has_append_right : {A : Type 0} (xs ys : List A) (x : A) → Has ys x → Has (xs ++ ys) x
has_append_right [] ys x has = has
has_append_right (y ∷ xs) ys x has = inr (has_append_right xs ys x has)

pub has_append_cases : {A : Type 0} (xs ys : List A) (x : A) → Has (xs ++ ys) x → Has xs x ⊎ Has ys x
has_append_cases [] ys x has = inr has
has_append_cases (y ∷ xs) ys x (inl here) = inl (inl here)
has_append_cases (y ∷ xs) ys x (inr later) = elim (has_append_cases xs ys x later) [ inl a ↦ inl (inr a) | inr b ↦ inr b ]

pub has_map : {A B : Type 0} (f : A → B) (xs : List A) (x : A) → Has xs x → Has (map f xs) (f x)
has_map f [] x has = absurd has
has_map f (y ∷ ys) x (inl here) = inl (ap f here)
has_map f (y ∷ ys) x (inr later) = inr (has_map f ys x later)

pub from_map : {A B : Type 0} (f : A → B) (xs : List A) (z : B) → Has (map f xs) z → (x : A) × Has xs x × (z ≡ f x)
from_map f [] z has = absurd has
from_map f (y ∷ ys) z (inl here) = (y, inl refl, here)
from_map f (y ∷ ys) z (inr later) = let rest = from_map f ys z later in (rest.0, inr rest.1, rest.2)

pub has_flat_map : {A B : Type 0} (f : A → List B) (xs : List A) (x : A) (z : B) → Has xs x → Has (f x) z → Has (flat_map f xs) z
has_flat_map f [] x z has inner = absurd has
has_flat_map {A} {B} f (y ∷ ys) x z (inl here) inner = has_append_left (f y) (flat_map f ys) z (subst (λ (w : A). Has (f w) z) here inner)
has_flat_map f (y ∷ ys) x z (inr later) inner = has_append_right (f y) (flat_map f ys) z (has_flat_map f ys x z later inner)

pub from_flat_map : {A B : Type 0} (f : A → List B) (xs : List A) (z : B) → Has (flat_map f xs) z → (x : A) × Has xs x × Has (f x) z
from_flat_map f [] z has = absurd has
from_flat_map f (y ∷ ys) z has = elim (has_append_cases (f y) (flat_map f ys) z has) [
  | inl here ↦ (y, inl refl, here)
  | inr later ↦ let rest = from_flat_map f ys z later in (rest.0, inr rest.1, rest.2)
]

pub has_filter : (test : ℕ → Bool) (xs : List ℕ) (x : ℕ) → Has xs x → test x ≡ true → Has (filter test xs) x
has_filter test [] x has holds = absurd has
has_filter test (y ∷ ys) x has holds = by (test y) refl has (λ later. has_filter test ys x later holds)
  where
    by : (b : Bool) → test y ≡ b → (x ≡ y) ⊎ Has ys x → (Has ys x → Has (filter test ys) x) → Has (cond b (y ∷ filter test ys) (filter test ys)) x
    by true is (inl here) rest = inl here
    by true is (inr later) rest = inr (rest later)
    by false is (inl here) rest = absurd (false≢true (sym is ∙ ap test (sym here) ∙ holds))
    by false is (inr later) rest = rest later

pub from_filter : (test : ℕ → Bool) (xs : List ℕ) (x : ℕ) → Has (filter test xs) x → Has xs x × (test x ≡ true)
from_filter test [] x has = absurd has
from_filter test (y ∷ ys) x has = by (test y) refl has (λ later. from_filter test ys x later)
  where
    by : (b : Bool) → test y ≡ b → Has (cond b (y ∷ filter test ys) (filter test ys)) x → (Has (filter test ys) x → Has ys x × (test x ≡ true)) → Has (y ∷ ys) x × (test x ≡ true)
    by true is (inl here) rest = (inl here, ap test here ∙ is)
    by true is (inr later) rest = let more = rest later in (inr more.0, more.1)
    by false is later rest = let more = rest later in (inr more.0, more.1)

pub from_range : (a n k : ℕ) → Has (range_with_len a n) k → (a ≤ k) × (k < a + n)
from_range a zero k has = absurd has
from_range a (suc n) k (inl here) = (omega (arith, here), omega (arith, here))
from_range a (suc n) k (inr later) = let rest = from_range (a + 1) n k later in (omega (arith, rest.0), omega (arith, rest.1))

pub contains : {A : Type 0} (xs : List A) (x : A) → Has xs x → Contains xs x
contains [] x has = absurd has
contains (y ∷ ys) x (inl here) = (0, omega arith, sym here)
contains (y ∷ ys) x (inr later) = let rest = contains ys x later in (suc rest.0, omega (arith, rest.1), rest.2)

-- a number is reached where the test holds of none before it
pub reaches : (test : ℕ → Bool) (a n k : ℕ) → a ≤ k → k < a + n → ((j : ℕ) → a ≤ j → j < k → test j ≡ false) → Has (up_to test (range_with_len a n)) k
reaches test a zero k from to before = absurd (omega arith)
reaches test a (suc n) k from to before = elim (cases_eq k a) [
  | inl here ↦ inl here
  | inr later ↦ inr (subst (λ (b : Bool). Has (if b then [] else up_to test (range_with_len (a + 1) n)) k) (sym (before a (omega arith) (omega arith)))
      (reaches test (a + 1) n k (omega arith) (omega arith) (λ j low high. before j (omega arith) (omega arith))))
]

-- the item is the last of the list
abbrev pub EndsIn : {A : Type 0} → List A → A → Type 0
EndsIn {A} xs x = (earlier : List A) × (xs ≡ earlier ++ x ∷ [])

pub range_ends : (a n k : ℕ) → a + n ≡ k → EndsIn (range_with_len a (suc n)) k
range_ends a zero k is = ([], ap (λ (x : ℕ). x ∷ []) (omega (arith, is)))
range_ends a (suc n) k is = let rest = range_ends (a + 1) n k (omega (arith, is)) in (a ∷ rest.0, ap (λ (xs : List ℕ). a ∷ xs) rest.1)

pub map_ends : {A B : Type 0} (f : A → B) (xs : List A) (x : A) → EndsIn xs x → EndsIn (map f xs) (f x)
map_ends f xs x (earlier, is) = (map f earlier, ap (map f) is ∙ map-append f earlier (x ∷ []))

pub flat_map_ends : {A B : Type 0} (f : A → List B) (xs : List A) (x : A) (z : B) → EndsIn xs x → EndsIn (f x) z → EndsIn (flat_map f xs) z
flat_map_ends {A} {B} f xs x z (earlier, is) (inner, last) = (
  flat_map f earlier ++ inner,
  ap (flat_map f) is ∙ flat_map-append f earlier (x ∷ []) ∙ ap (λ (ys : List B). flat_map f earlier ++ ys) (append-nil (f x) ∙ last) ∙ sym (append_assoc (flat_map f earlier) inner (z ∷ [])),
)
