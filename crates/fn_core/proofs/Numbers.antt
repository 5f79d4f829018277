-- The own calls of a pass, by number.
use Rattle.std.proofs.Common.{◌≡◌, ◌≢◌, ◌⊎◌, inl, inr, ℕ, suc, ◌+◌, ◌<◌, ◌≤◌, List, [], ◌∷◌, ◌++◌, length, Bool, true, false, cond, refl, sym, ◌∙◌, ap, subst, arith}
use Rattle.std.specs.Prelude.{not, ⊤, ◌==◌, filter}
use Rattle.std.proofs.lemmas.Bool.{cases_eq, cases_lt, eq-eqb, ne_eqb}
use Rattle.std.proofs.lemmas.Bool.Decides.{nat_tests}
use Rattle.std.proofs.lemmas.List.{append-nil}
use Rattle.std.proofs.lemmas.List.Elements.{filter-append}
use Rattle.std.proofs.lemmas.List.Sums.{length-filter}
use Rattle.fn_model.specs.declared.Call.{Call}
use Rattle.fn_model.specs.Calls.{own, is_call, count}
use Rattle.fn_model.specs.Histories.{StandsIn}
use Rattle.fn_model.proofs.Calls.{own_by_number}
use Rattle.fn_model.proofs.Once.{count-append, count-cons}
use Rattle.fn_core.specs.Laws.{AreNumbered}

-- one call
one_is : (p n : ℕ) (call : Call) → call.pass ≡ p → call.number ≡ n → count p n (call ∷ []) ≡ 1
one_is p n call e f =
    let test : is_call p n call ≡ true = grind (arith, nat_tests) in
    ap (λ (b : Bool). 0 + cond b 1 0) test

one_is_not : (p n : ℕ) (call : Call) → (call.pass ≡ p → call.number ≡ n → ⊥) → count p n (call ∷ []) ≡ 0
one_is_not p n call not = elim (cases_eq call.pass p) [
  | inr ne ↦ let test : is_call p n call ≡ false = grind (arith, nat_tests) in ap (λ (b : Bool). 0 + cond b 1 0) test
  | inl e ↦ elim (cases_eq call.number n) [
    | inr ne ↦ let test : is_call p n call ≡ false = grind (arith, nat_tests) in ap (λ (b : Bool). 0 + cond b 1 0) test
    | inl f ↦ absurd (not e f)
  ]
]

-- a call that stands in the history is counted
pub stands_counts : (cap opening : ℕ) (past : List Call) (call : Call) (base : ℕ) → StandsIn cap opening past (call ∷ []) base → 1 ≤ count call.pass call.number past
stands_counts cap opening past call base stands =
    omega (arith, ap (count call.pass call.number) stands.order, count-append call.pass call.number (stands.earlier ++ call ∷ []) stands.later, count-append call.pass call.number stands.earlier (call ∷ []), one_is call.pass call.number call refl refl)

-- all are of the pass
abbrev pub AreOfPass : ℕ → List Call → Type 0
AreOfPass p [] = ⊤
AreOfPass p (call ∷ calls) = (call.pass ≡ p) × AreOfPass p calls

pub own_first : (p : ℕ) (call : Call) (calls : List Call) → call.pass ≡ p → own p (call ∷ calls) ≡ call ∷ own p calls
own_first p call calls e = ap (λ (b : Bool). cond b (call ∷ own p calls) (own p calls)) (eq-eqb call.pass p e)

own_other : (p : ℕ) (call : Call) (calls : List Call) → call.pass ≢ p → own p (call ∷ calls) ≡ own p calls
own_other p call calls ne = ap (λ (b : Bool). cond b (call ∷ own p calls) (own p calls)) (ne_eqb call.pass p ne)

own_of_pass : (p : ℕ) (calls : List Call) → AreOfPass p (own p calls)
own_of_pass p [] = tt
own_of_pass p (call ∷ calls) = elim (cases_eq call.pass p) [
  | inl e ↦ subst (AreOfPass p) (sym (own_first p call calls e)) (e, own_of_pass p calls)
  | inr ne ↦ subst (AreOfPass p) (sym (own_other p call calls ne)) (own_of_pass p calls)
]

-- the own calls count as all
count-own : (p n : ℕ) (calls : List Call) → count p n (own p calls) ≡ count p n calls
count-own p n [] = refl
count-own p n (call ∷ calls) = elim (cases_eq call.pass p) [
  | inl e ↦ omega (arith, ap (count p n) (own_first p call calls e), count-cons p n call (own p calls), count-cons p n call calls, count-own p n calls)
  | inr ne ↦ omega (arith, ap (count p n) (own_other p call calls ne), count-cons p n call calls, count-own p n calls, one_is_not p n call (λ x y. ne x))
]

-- numbers past the end aren't there
numbered_beyond : (p a m : ℕ) (calls : List Call) → AreNumbered a calls → a + length calls ≤ m → count p m calls ≡ 0
numbered_beyond p a m [] h le = refl
numbered_beyond p a m (call ∷ calls) h le =
    omega (arith, count-cons p m call calls, one_is_not p m call (λ x y. omega (arith, h.0, y)), numbered_beyond p (suc a) m calls h.1 (omega arith))

-- and those below it are
numbered_within : (p a m : ℕ) (calls : List Call) → AreNumbered a calls → AreOfPass p calls → a ≤ m → m < a + length calls → 1 ≤ count p m calls
numbered_within p a m [] h of le lt = absurd (omega arith)
numbered_within p a m (call ∷ calls) h of le lt = elim (cases_eq m a) [
  | inl e ↦ omega (arith, count-cons p m call calls, one_is p m call of.0 (h.0 ∙ sym e))
  | inr ne ↦ omega (arith, count-cons p m call calls, numbered_within p (suc a) m calls h.1 of.1 (omega arith) (omega arith))
]

-- so how many they are follows from which there are
pub how_many : (p k : ℕ) (past : List Call) → AreNumbered 0 (own p past) → ((m : ℕ) → m < k → 1 ≤ count p m past) → count p k past ≡ 0 → length (own p past) ≡ k
how_many p k past numbered below none = elim (cases_lt (length (own p past)) k) [
  | inl lt ↦
      let missing = numbered_beyond p 0 (length (own p past)) (own p past) numbered (omega arith) in
      absurd (omega (arith, missing, count-own p (length (own p past)) past, below (length (own p past)) lt))
  | inr ge ↦ elim (cases_lt k (length (own p past))) [
    | inl lt ↦
        let there = numbered_within p 0 k (own p past) numbered (own_of_pass p past) (omega arith) (omega arith) in
        absurd (omega (arith, there, count-own p k past))
    | inr le ↦ omega arith
  ]
]

numbered_push : (a : ℕ) (calls : List Call) (call : Call) → AreNumbered a calls → call.number ≡ a + length calls → AreNumbered a (calls ++ call ∷ [])
numbered_push a [] call h e = (omega (arith, e), tt)
numbered_push a (c ∷ calls) call h e = (h.0, numbered_push (suc a) calls call h.1 (omega (arith, e)))

-- a list of at most one
at_most_one : (p k : ℕ) (more : List Call) (calls : List Call) → filter (is_call p k) more ≡ calls → length calls ≤ 1 → (calls ≡ []) ⊎ ((call : Call) × (calls ≡ call ∷ []))
at_most_one p k more [] e le = inl refl
at_most_one p k more (call ∷ []) e le = inr (call, refl)
at_most_one p k more (a ∷ b ∷ calls) e le = absurd (omega arith)

-- all have the number
abbrev pub AreOf : ℕ → List Call → Type 0
AreOf k [] = ⊤
AreOf k (call ∷ calls) = (call.number ≡ k) × AreOf k calls

-- what passes the filter has the number
numbers_filtered : (p k : ℕ) (more : List Call) → AreOf k (filter (is_call p k) more)
numbers_filtered p k [] = tt
numbers_filtered p k (call ∷ more) = one (is_call p k call) refl (numbers_filtered p k more)
  where
    one : (b : Bool) → is_call p k call ≡ b → AreOf k (filter (is_call p k) more) → AreOf k (cond b (call ∷ filter (is_call p k) more) (filter (is_call p k) more))
    one true e rest = (let n : call.number ≡ k = grind (arith, nat_tests) in n, rest)
    one false e rest = rest

-- a history that grows keeps the order of a pass's calls, where only its next call may come in
pub order_grows : (p k : ℕ) (past more : List Call) → AreNumbered 0 (own p past) → ((m : ℕ) → m < k → 1 ≤ count p m past) → ((m : ℕ) → k < m → count p m (past ++ more) ≡ 0) → ((m : ℕ) → count p m (past ++ more) ≤ 1) → AreNumbered 0 (own p (past ++ more))
order_grows p k past more numbered below beyond once =
    let none : (m : ℕ) → (m ≡ k → ⊥) → count p m more ≡ 0 = λ m ne. elim (cases_lt m k) [
      | inl lt ↦ omega (arith, count-append p m past more, below m lt, once m)
      | inr ge ↦ omega (arith, count-append p m past more, beyond m (omega arith))
    ] in
    let mine : own p more ≡ filter (is_call p k) more = own_by_number p k more none in
    let whole : own p (past ++ more) ≡ own p past ++ filter (is_call p k) more = filter-append (λ c. c.pass == p) past more ∙ ap (λ (zs : List Call). own p past ++ zs) mine in
    let size : length (filter (is_call p k) more) ≡ count p k more = length-filter (is_call p k) more in
    subst (AreNumbered 0) (sym whole) (elim (at_most_one p k more (filter (is_call p k) more) refl (omega (arith, count-append p k past more, once k))) [
      | inl is ↦ subst (λ (zs : List Call). AreNumbered 0 (own p past ++ zs)) (sym is) (subst (AreNumbered 0) (sym (append-nil (own p past))) numbered)
      | inr is ↦
          let number : is.0.number ≡ k = (subst (AreOf k) is.1 (numbers_filtered p k more)).0 in
          let one : count p k more ≡ 1 = sym size ∙ ap length is.1 in
          let missing : count p k past ≡ 0 = omega (arith, count-append p k past more, once k) in
          subst (λ (zs : List Call). AreNumbered 0 (own p past ++ zs)) (sym is.1) (numbered_push 0 (own p past) is.0 numbered (omega (arith, number, how_many p k past numbered below missing)))
    ])
