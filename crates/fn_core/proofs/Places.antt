-- A change at one aggregator, and where the passes stand after it.
use Rattle.std.proofs.Common.{◌≡◌, ◌≢◌, ◌⊎◌, inl, inr, ℕ, suc, ◌+◌, [], ◌∷◌, ◌++◌, refl, sym, ◌∙◌, ap, subst, arith}
use Rattle.std.specs.Prelude.{Bool, true, false, cond, ◌&&◌, ◌==◌}
use Rattle.std.proofs.lemmas.Bool.{cases_eq, eq-eqb, ne_eqb}
use Rattle.fn_model.specs.declared.Kind.{Kind}
use Rattle.fn_model.specs.declared.Kind.TheVariants.{Add, Sub, Read}
use Rattle.fn_model.specs.Calls.{same_kind}
use Rattle.fn_model.specs.Arrivals.{Arrival, weight, total}
use Rattle.fn_model.specs.Histories.{Tables}
use Rattle.fn_model.specs.Order.{with_arrival}
use Rattle.fn_model.proofs.Arrivals.{total-append, total-cons}
use Rattle.fn_rows.specs.Machine.{Step}
use Rattle.fn_rows.specs.Trace.{Traced, traced}
use Rattle.fn_core.specs.Tree.{aggregator, member, IsShape}
use Rattle.fn_core.specs.State.{Start, State, put_at, stage, local}
use Rattle.fn_core.proofs.Members.{member_apart}

pub same_kind-refl : (k : Kind) → same_kind k k ≡ true
same_kind-refl Add = refl
same_kind-refl Sub = refl
same_kind-refl Read = refl

pub different_kind : (a b : Kind) → (a ≡ b) ⊎ (same_kind a b ≡ false)
different_kind Add Add = inl refl
different_kind Add Sub = inr refl
different_kind Add Read = inr refl
different_kind Sub Add = inr refl
different_kind Sub Sub = inl refl
different_kind Sub Read = inr refl
different_kind Read Add = inr refl
different_kind Read Sub = inr refl
different_kind Read Read = inl refl

and_middle : (s t : Bool) → (s && (false && t)) ≡ false
and_middle true t = refl
and_middle false t = refl

and_last : (s t : Bool) → (s && (t && false)) ≡ false
and_last true true = refl
and_last true false = refl
and_last false t = refl

pub test_true : (a b c : Bool) → a ≡ true → b ≡ true → c ≡ true → (a && (b && c)) ≡ true
test_true a b c x y z = ap (λ (t : Bool). t && (b && c)) x ∙ ap (λ (t : Bool). t && c) y ∙ z

-- two places are the same, or the test tells them apart
pub same_place : (k' k : Kind) (j' j i' i : ℕ) → ((k' ≡ k) × (j' ≡ j) × (i' ≡ i) × ((same_kind k' k && ((j' == j) && (i' == i))) ≡ true)) ⊎ ((same_kind k' k && ((j' == j) && (i' == i))) ≡ false)
same_place k' k j' j i' i = go (different_kind k' k) (cases_eq j' j) (cases_eq i' i)
  where
    go : (k' ≡ k) ⊎ (same_kind k' k ≡ false) → (j' ≡ j) ⊎ (j' ≢ j) → (i' ≡ i) ⊎ (i' ≢ i) → ((k' ≡ k) × (j' ≡ j) × (i' ≡ i) × ((same_kind k' k && ((j' == j) && (i' == i))) ≡ true)) ⊎ ((same_kind k' k && ((j' == j) && (i' == i))) ≡ false)
    go (inr n) b c = inr (ap (λ (t : Bool). t && ((j' == j) && (i' == i))) n)
    go (inl a) (inr b) c = inr (ap (λ (t : Bool). same_kind k' k && (t && (i' == i))) (ne_eqb j' j b) ∙ and_middle (same_kind k' k) (i' == i))
    go (inl a) (inl b) (inr c) = inr (ap (λ (t : Bool). same_kind k' k && ((j' == j) && t)) (ne_eqb i' i c) ∙ and_last (same_kind k' k) (j' == j))
    go (inl a) (inl b) (inl c) = inl (a, b, c, test_true (same_kind k' k) (j' == j) (i' == i) (ap (λ (x : Kind). same_kind k' x) (sym a) ∙ same_kind-refl k') (eq-eqb j' j b) (eq-eqb i' i c))

pub put_at_here : {A : Type 0} (f : Kind → ℕ → ℕ → A) (k : Kind) (j i : ℕ) (value : A) → put_at f k j i value k j i ≡ value
put_at_here f k j i value = ap (λ (t : Bool). cond t value (f k j i)) (test_true (same_kind k k) (j == j) (i == i) (same_kind-refl k) (eq-eqb j j refl) (eq-eqb i i refl))

pub put_at_there : {A : Type 0} (f : Kind → ℕ → ℕ → A) (k : Kind) (j i : ℕ) (value : A) (k' : Kind) (j' i' : ℕ) → (same_kind k' k && ((j' == j) && (i' == i))) ≡ false → put_at f k j i value k' j' i' ≡ f k' j' i'
put_at_there f k j i value k' j' i' not = ap (λ (t : Bool). cond t value (f k' j' i')) not

-- what holds of the new value there, and of the old ones elsewhere, holds of the changed function
pub put_at_case : {A : Type 0} (P : Kind → ℕ → ℕ → A → Type 0) (f : Kind → ℕ → ℕ → A) (k : Kind) (j i : ℕ) (value : A) → P k j i value → (k' : Kind) (j' i' : ℕ) → P k' j' i' (f k' j' i') → P k' j' i' (put_at f k j i value k' j' i')
put_at_case P f k j i value new k' j' i' old = elim (same_place k' k j' j i' i) [
  | inl is ↦ subst (λ (t : Bool). P k' j' i' (cond t value (f k' j' i'))) (sym is.3) (subst (λ (x : Kind). P x j' i' value) (sym is.0) (subst (λ (x : ℕ). P k x i' value) (sym is.1) (subst (λ (x : ℕ). P k j x value) (sym is.2) new)))
  | inr not ↦ subst (P k' j' i') (sym (put_at_there f k j i value k' j' i' not)) old
]

-- one more arrival, there and elsewhere
pub arrival_here : (tables : Tables) (k : Kind) (j i : ℕ) (a : Arrival) → with_arrival tables k j i a k j i ≡ tables k j i ++ a ∷ []
arrival_here tables k j i a = ap (λ (t : Bool). cond t (tables k j i ++ a ∷ []) (tables k j i)) (test_true (same_kind k k) (j == j) (i == i) (same_kind-refl k) (eq-eqb j j refl) (eq-eqb i i refl))

pub arrival_there : (tables : Tables) (k : Kind) (j i : ℕ) (a : Arrival) (k' : Kind) (j' i' : ℕ) → (k' ≡ k → j' ≡ j → i' ≡ i → ⊥) → with_arrival tables k j i a k' j' i' ≡ tables k' j' i'
arrival_there tables k j i a k' j' i' not = elim (same_place k' k j' j i' i) [
  | inl is ↦ absurd (not is.0 is.1 is.2)
  | inr other ↦ ap (λ (t : Bool). cond t (tables k' j' i' ++ a ∷ []) (tables k' j' i')) other
]

-- totals after one more arrival
pub totals_arrive : (rows : Kind → ℕ → ℕ → Traced) (tables : Tables) (k : Kind) (j i : ℕ) (next : Traced) (a : Arrival) → next.total ≡ (rows k j i).total + weight a → ((k' : Kind) (j' i' : ℕ) → (rows k' j' i').total ≡ total (tables k' j' i')) → (k' : Kind) (j' i' : ℕ) → (put_at rows k j i next k' j' i').total ≡ total (with_arrival tables k j i a k' j' i')
totals_arrive rows tables k j i next a more old k' j' i' = elim (same_place k' k j' j i' i) [
  | inr other ↦ ap (λ (t : Bool). (cond t next (rows k' j' i')).total) other ∙ old k' j' i' ∙ sym (ap (λ (t : Bool). total (cond t (tables k' j' i' ++ a ∷ []) (tables k' j' i'))) other)
  | inl is ↦
      let grown : total (tables k' j' i' ++ a ∷ []) ≡ total (tables k' j' i') + weight a = omega (arith, total-append (tables k' j' i') (a ∷ []), total-cons a []) in
      let before : (rows k j i).total ≡ (rows k' j' i').total = ap (λ (x : Kind). (rows x j i).total) (sym is.0) ∙ ap (λ (x : ℕ). (rows k' x i).total) (sym is.1) ∙ ap (λ (x : ℕ). (rows k' j' x).total) (sym is.2) in
      ap (λ (t : Bool). (cond t next (rows k' j' i')).total) is.3 ∙ more ∙ ap (λ (n : ℕ). n + weight a) (before ∙ old k' j' i') ∙ sym grown
      ∙ sym (ap (λ (t : Bool). total (cond t (tables k' j' i' ++ a ∷ []) (tables k' j' i'))) is.3)
]

module _ (start : Start) (ok : IsShape start.shape) (s : State) (kind : Kind) (below p : ℕ) (step : ℕ → Step) where
  -- the pass's own stage there
  pub stage_here : stage start (local start s kind (suc below) p step) kind (suc below) p ≡ (traced (s.rows kind (suc below) (aggregator start.shape p (suc below))) (step (member start.shape (suc below) p))).stage (member start.shape (suc below) p)
  stage_here = ap (λ (x : Traced). x.stage (member start.shape (suc below) p)) (put_at_here s.rows kind (suc below) (aggregator start.shape p (suc below)) (traced (s.rows kind (suc below) (aggregator start.shape p (suc below))) (step (member start.shape (suc below) p))))

  -- no other stage changes
  pub stage_there : ((m : ℕ) → m ≢ member start.shape (suc below) p → (traced (s.rows kind (suc below) (aggregator start.shape p (suc below))) (step (member start.shape (suc below) p))).stage m ≡ (s.rows kind (suc below) (aggregator start.shape p (suc below))).stage m) → (k : Kind) (l q : ℕ) → (k ≡ kind → l ≡ suc below → q ≡ p → ⊥) → stage start (local start s kind (suc below) p step) k l q ≡ stage start s k l q
  stage_there there k l q other =
      let index : ℕ = aggregator start.shape p (suc below) in
      let next : Traced = traced (s.rows kind (suc below) index) (step (member start.shape (suc below) p)) in
      elim (same_place k kind l (suc below) (aggregator start.shape q l) index) [
        | inl is ↦
            let same : aggregator start.shape q (suc below) ≡ index = ap (aggregator start.shape q) (sym is.1) ∙ is.2 in
            let ne : member start.shape l q ≢ member start.shape (suc below) p = λ e. other is.0 is.1 (member_apart start.shape ok below q p same (ap (λ (x : ℕ). member start.shape x q) (sym is.1) ∙ e)) in
            ap (λ (t : Bool). (cond t next (s.rows k l (aggregator start.shape q l))).stage (member start.shape l q)) is.3
            ∙ there (member start.shape l q) ne
            ∙ ap (λ (x : Kind). (s.rows x (suc below) index).stage (member start.shape l q)) (sym is.0)
            ∙ ap (λ (x : ℕ). (s.rows k x index).stage (member start.shape l q)) (sym is.1)
            ∙ ap (λ (x : ℕ). (s.rows k l x).stage (member start.shape l q)) (sym is.2)
        | inr not ↦ ap (λ (x : Traced). x.stage (member start.shape l q)) (put_at_there s.rows kind (suc below) index next k l (aggregator start.shape q l) not)
      ]

pub kind_cases : (a b : Kind) → (a ≡ b) ⊎ (a ≢ b)
kind_cases a b = elim (different_kind a b) [
  | inl same ↦ inl same
  | inr not ↦ inr (λ same. let yes : same_kind a b ≡ true = ap (λ (x : Kind). same_kind a x) (sym same) ∙ same_kind-refl a in absurd (cc (yes, not)))
]
