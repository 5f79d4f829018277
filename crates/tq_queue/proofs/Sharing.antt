-- What a list adds up to is what its parts by a key add up to.
use Rattle.std.proofs.Common.{◌≡◌, ℕ, zero, suc, ◌+◌, ◌<◌, List, [], ◌∷◌, Bool, true, false, cond, inl, inr, refl, sym, ◌∙◌, ap, subst, arith}
use Rattle.std.specs.Prelude.{◌==◌, All, filter, sum_by}
use Rattle.std.proofs.lemmas.Bool.Decides.{nat_tests}
use Rattle.std.proofs.lemmas.Bool.{cases_eq, eq-eqb}
use Rattle.std.proofs.lemmas.List.Elements.{All-nil, All-cons, All-head, All-tail}
use Rattle.std.proofs.lemmas.List.Sums.{sum_by-cons}
use Rattle.fn_model.specs.Order.{sum_below}
use Rattle.tq_queue.specs.Answers.{Answered}
use Rattle.tq_queue.specs.Laws.{AnswersAreShared}

pub sum_below-same : (n : ℕ) (f g : ℕ → ℕ) → ((p : ℕ) → p < n → f p ≡ g p) → sum_below n f ≡ sum_below n g
sum_below-same zero f g same = refl
sum_below-same (suc n) f g same = omega (arith, sum_below-same n f g (λ p l. same p (omega arith)), same n (omega arith))

sum_below-zero : (n : ℕ) → sum_below n (λ p. 0) ≡ 0
sum_below-zero zero = refl
sum_below-zero (suc n) = omega (arith, sum_below-zero n)

-- two functions that differ by k at one number
sum_below-step : (n c k : ℕ) (f g : ℕ → ℕ) → c < n → f c ≡ k + g c → ((p : ℕ) → (p ≡ c → ⊥) → f p ≡ g p) → sum_below n f ≡ k + sum_below n g
sum_below-step zero c k f g range here others = absurd (omega arith)
sum_below-step (suc n) c k f g range here others =
    elim (cases_eq c n) [
      | inl is ↦
          let below : sum_below n f ≡ sum_below n g = sum_below-same n f g (λ p l. others p (λ e. omega (arith, e))) in
          let last : f n ≡ k + g n = subst (λ (m : ℕ). f m ≡ k + g m) is here in
          omega arith
      | inr ne ↦
          let below : sum_below n f ≡ k + sum_below n g = sum_below-step n c k f g (omega arith) here others in
          let last : f n ≡ g n = others n (λ e. ne (sym e)) in
          omega arith
    ]

module _ {X : Type 0} (key : X → ℕ) where
  -- the parts by a key
  abbrev pub part : List X → ℕ → List X
  part xs p = filter (λ x. key x == p) xs

  pub shared : (weight : X → ℕ) (n : ℕ) (xs : List X) → All (λ x. key x < n) xs → sum_by weight xs ≡ sum_below n (λ p. sum_by weight (part xs p))
  shared weight n [] range = sym (sum_below-zero n)
  shared weight n (x ∷ xs) range =
      let P : X → Type 0 = λ y. key y < n in
      let rest : sum_by weight xs ≡ sum_below n (λ p. sum_by weight (part xs p)) = shared weight n xs (All-tail P x xs range) in
      let here : sum_by weight (part (x ∷ xs) (key x)) ≡ weight x + sum_by weight (part xs (key x)) =
      ap (λ (b : Bool). sum_by weight (cond b (x ∷ part xs (key x)) (part xs (key x)))) (eq-eqb (key x) (key x) refl) ∙ sum_by-cons weight x (part xs (key x)) in
      let others : (p : ℕ) → (p ≡ key x → ⊥) → sum_by weight (part (x ∷ xs) p) ≡ sum_by weight (part xs p) =
      λ p ne. let test : (key x == p) ≡ false = grind (arith, nat_tests) in ap (λ (b : Bool). sum_by weight (cond b (x ∷ part xs p) (part xs p))) test in
      let step : sum_below n (λ p. sum_by weight (part (x ∷ xs) p)) ≡ weight x + sum_below n (λ p. sum_by weight (part xs p)) =
      sum_below-step n (key x) (weight x) (λ p. sum_by weight (part (x ∷ xs) p)) (λ p. sum_by weight (part xs p)) (All-head P x xs range) here others in
      sum_by-cons weight x xs ∙ ap (λ (m : ℕ). weight x + m) rest ∙ sym step

  -- what holds of each part holds of the whole
  pub gathered : (P : X → Type 0) (n : ℕ) (xs : List X) → All (λ x. key x < n) xs → ((p : ℕ) → p < n → All P (part xs p)) → All P xs
  gathered P n [] range each = All-nil P
  gathered P n (x ∷ xs) range each =
      let Q : X → Type 0 = λ y. key y < n in
      let here : All P (x ∷ part xs (key x)) = subst (λ (b : Bool). All P (cond b (x ∷ part xs (key x)) (part xs (key x)))) (eq-eqb (key x) (key x) refl) (each (key x) (All-head Q x xs range)) in
      All-cons P x xs (All-head P x (part xs (key x)) here) (gathered P n xs (All-tail Q x xs range) (λ p l. less p (key x == p) (each p l)))
    where
      less : (p : ℕ) (b : Bool) → All P (cond b (x ∷ part xs p) (part xs p)) → All P (part xs p)
      less p true all = All-tail P x (part xs p) all
      less p false all = all

-- what the answers of passes add up to is what those of each of them do
pub answers_are_shared : AnswersAreShared
answers_are_shared weight passes answers range = shared (λ (answer : Answered). answer.call.pass) weight passes answers range
