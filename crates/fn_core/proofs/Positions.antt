-- Where passes stand in the tree, and the totals of aggregators.
use Rattle.std.proofs.Common.{◌≡◌, inl, inr, ℕ, suc, ◌≤◌, ◌∙◌, ap, arith, false}
use Rattle.std.proofs.lemmas.Bool.{cases_eq}
use Rattle.fn_model.specs.declared.Kind.{Kind}
use Rattle.fn_rows.specs.declared.Stage.{Stage}
use Rattle.fn_rows.specs.declared.Stage.TheVariants.{Out, Shut}
use Rattle.fn_core.specs.State.{Position, Resting, Trying, Climbing, Deciding}
use Rattle.fn_core.specs.Machine.{IsChange}
use Rattle.fn_core.specs.Positions.{is_out, IsClimbing, Fits}
use Rattle.fn_core.proofs.Places.{kind_cases}

-- the same at other functions
climbing_same : (levels : ℕ) (old new : Kind → ℕ → Stage) (kind : Kind) (level : ℕ) → ((k : Kind) (l : ℕ) → new k l ≡ old k l) → IsClimbing levels old kind level → IsClimbing levels new kind level
climbing_same levels old new kind level same h = record {
  low = h.low;
  bottom = same kind 0 ∙ h.bottom;
  high = h.high;
  closed = λ l a b. let c = h.closed l a b in (c.0, c.1, same kind l ∙ c.2);
  change = h.change;
  there = ap is_out (same kind level) ∙ h.there;
  above = λ l a. same kind l ∙ h.above l a;
  other = λ k l a. same k l ∙ h.other k l a;
}

pub fits_same : (levels : ℕ) (old new : Kind → ℕ → Stage) (position : Position) → ((k : Kind) (l : ℕ) → new k l ≡ old k l) → Fits levels old position → Fits levels new position
fits_same levels old new Resting same h = λ k l. same k l ∙ h k l
fits_same levels old new (Trying word) same h = λ k l. same k l ∙ h k l
fits_same levels old new (Climbing kind level) same h = climbing_same levels old new kind level same h
fits_same levels old new (Deciding kind level word) same h = (climbing_same levels old new kind level same h.0, h.1, h.2, h.3, same kind level ∙ h.4)

-- another stage at the level of the climb
pub climbing_here : (levels : ℕ) (old new : Kind → ℕ → Stage) (kind : Kind) (level : ℕ) → ((k : Kind) (l : ℕ) → (k ≡ kind → l ≡ level → ⊥) → new k l ≡ old k l) → is_out (new kind level) ≡ false → IsClimbing levels old kind level → IsClimbing levels new kind level
climbing_here levels old new kind level same stands h = record {
  change = h.change;
  there = stands;
  low = h.low;
  bottom = (let l : 1 ≤ level = h.low in same kind 0 (λ x y. omega (arith, y)) ∙ h.bottom);
  high = h.high;
  closed = λ l a b. let c = h.closed l a b in (c.0, c.1, same kind l (λ x y. omega (arith, y)) ∙ c.2);
  above = λ l a. same kind l (λ x y. omega (arith, y)) ∙ h.above l a;
  other = λ k l a. same k l (λ x y. a x) ∙ h.other k l a;
}

-- a call that begins
pub climbing_begins : (levels : ℕ) (old new : Kind → ℕ → Stage) (kind : Kind) → 1 ≤ levels → ((k : Kind) (l : ℕ) → (k ≡ kind → l ≡ 1 → ⊥) → new k l ≡ old k l) → ((k : Kind) (l : ℕ) → old k l ≡ Out) → is_out (new kind 1) ≡ false → IsChange kind → IsClimbing levels new kind 1
climbing_begins levels old new kind some same out stands change = record {
  change = change;
  there = stands;
  low = omega arith;
  bottom = same kind 0 (λ x y. omega (arith, y)) ∙ out kind 0;
  high = some;
  closed = λ l a b. absurd (omega arith);
  above = λ l a. same kind l (λ x y. omega (arith, y)) ∙ out kind l;
  other = λ k l a. same k l (λ x y. a x) ∙ out k l;
}

-- a call that goes up from a level where its batch is closed
pub climbing_up : (levels : ℕ) (old new : Kind → ℕ → Stage) (kind : Kind) (level : ℕ) → suc level ≤ levels → ((k : Kind) (l : ℕ) → (k ≡ kind → l ≡ suc level → ⊥) → new k l ≡ old k l) → (at hi : ℕ) → old kind level ≡ Shut at hi → is_out (new kind (suc level)) ≡ false → IsClimbing levels old kind level → IsClimbing levels new kind (suc level)
climbing_up levels old new kind level some same at hi is stands h = record {
  change = h.change;
  there = stands;
  low = omega arith;
  bottom = same kind 0 (λ x y. omega (arith, y)) ∙ h.bottom;
  high = some;
  closed = λ l a b. elim (cases_eq l level) [
    | inl e ↦ (at, hi, same kind l (λ x y. omega (arith, y)) ∙ ap (old kind) e ∙ is)
    | inr n ↦ let c = h.closed l a (omega arith) in (c.0, c.1, same kind l (λ x y. omega (arith, y)) ∙ c.2)
  ];
  above = λ l a. same kind l (λ x y. omega (arith, y)) ∙ h.above l (omega arith);
  other = λ k l a. same k l (λ x y. a x) ∙ h.other k l a;
}

-- a call that goes down: it is out of this level, and perhaps at another stage one level below
pub climbing_down : (levels : ℕ) (old new : Kind → ℕ → Stage) (kind : Kind) (level : ℕ) → 1 ≤ level → ((k : Kind) (l : ℕ) → (k ≡ kind → l ≡ level → ⊥) → (k ≡ kind → l ≡ suc level → ⊥) → new k l ≡ old k l) → new kind (suc level) ≡ Out → is_out (new kind level) ≡ false → IsClimbing levels old kind (suc level) → IsClimbing levels new kind level
climbing_down levels old new kind level low same out stands h = record {
  change = h.change;
  there = stands;
  low = low;
  bottom = same kind 0 (λ x y. omega (arith, y)) (λ x y. omega (arith, y)) ∙ h.bottom;
  high = (let l : suc level ≤ levels = h.high in omega arith);
  closed = λ l a b. let c = h.closed l a (omega arith) in (c.0, c.1, same kind l (λ x y. omega (arith, y)) (λ x y. omega (arith, y)) ∙ c.2);
  above = λ l a. elim (cases_eq l (suc level)) [
    | inl e ↦ ap (new kind) e ∙ out
    | inr n ↦ same kind l (λ x y. omega (arith, y)) (λ x y. n y) ∙ h.above l (omega arith)
  ];
  other = λ k l a. same k l (λ x y. a x) (λ x y. a x) ∙ h.other k l a;
}

-- a call that ends
pub climbing_ends : (levels : ℕ) (old new : Kind → ℕ → Stage) (kind : Kind) → ((k : Kind) (l : ℕ) → (k ≡ kind → l ≡ 1 → ⊥) → new k l ≡ old k l) → new kind 1 ≡ Out → IsClimbing levels old kind 1 → (k : Kind) (l : ℕ) → new k l ≡ Out
climbing_ends levels old new kind same out h k l = elim (kind_cases k kind) [
  | inr n ↦ same k l (λ x y. n x) ∙ h.other k l n
  | inl e ↦ elim (cases_eq l 1) [
    | inl f ↦ ap (λ (x : Kind). new x l) e ∙ ap (new kind) f ∙ out
    | inr n ↦ same k l (λ x y. n y) ∙ ap (λ (x : Kind). old x l) e ∙ elim (cases_eq l 0) [
      | inl z ↦ ap (old kind) z ∙ h.bottom
      | inr z ↦ h.above l (omega arith)
    ]
  ]
]
