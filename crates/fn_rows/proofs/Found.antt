-- Writes to what members found of each other.
use Rattle.std.proofs.Common.{◌≡◌, ◌≢◌, ◌⊎◌, inl, inr, ℕ, ◌+◌, ◌*◌, ◌<◌, ◌≤◌, List, get_or, length, set, refl, sym, ◌∙◌, ap, arith}
use Rattle.std.specs.Prelude.{Option, None, if◌then◌else◌}
use Rattle.std.proofs.Math.Path.{fun_ext}
use Rattle.std.proofs.Math.Nat.{mul-le-mul_right}
use Rattle.std.proofs.lemmas.Bool.{cases_eq, cases_lt, lt-ltb, le-ltb}
use Rattle.std.proofs.lemmas.List.{get_or-set_same, get_or-set_other}
use Rattle.fn_rows.specs.Machine.{put}
use Rattle.fn_rows.specs.Found.{Forgets, found_in}
use Rattle.fn_rows.proofs.Put.{put_case}

pub forgets_none : (xs : List (Option ℕ)) (start : ℕ) → Forgets xs xs start 0
forgets_none xs start = record { inside = λ i low high. absurd (omega arith); outside = λ i out. refl }

pub forgets_more : (old xs : List (Option ℕ)) (start count : ℕ) → start + count < length xs → Forgets old xs start count → Forgets old (set xs (start + count) None) start (count + 1)
forgets_more old xs start count lt so_far = record {
  inside = λ i low high. elim (cases_eq i (start + count)) [
    | inl same ↦ ap (λ j. get_or (set xs (start + count) None) j None) same ∙ get_or-set_same xs (start + count) None None lt
    | inr other ↦ get_or-set_other xs (start + count) i None None other ∙ so_far.inside i low (omega (arith, high, other))
  ];
  outside = λ i out. let other : i ≢ start + count = λ same. omega (arith, same, out) in get_or-set_other xs (start + count) i None None other ∙ so_far.outside i (closer i out);
}
  where
    closer : (i : ℕ) → (i < start) ⊎ (start + (count + 1) ≤ i) → (i < start) ⊎ (start + count ≤ i)
    closer i (inl low) = inl low
    closer i (inr high) = inr (omega (arith, high))

-- the place of a pair of members
module _ (members : ℕ) where
  pub in_members : (xs : List (Option ℕ)) (m q : ℕ) → q < members → found_in members xs m q ≡ get_or xs (m * members + q) None
  unfolding found_in
  in_members xs m q lt = ap (λ t. if t then get_or xs (m * members + q) None else None) (lt-ltb q members lt)

  past_members : (xs : List (Option ℕ)) (m q : ℕ) → members ≤ q → found_in members xs m q ≡ None
  unfolding found_in
  past_members xs m q le = ap (λ t. if t then get_or xs (m * members + q) None else None) (le-ltb q members le)

  pub place_below : (m q : ℕ) → m < members → q < members → m * members + q < members * members
  place_below m q lt lt' = let more : (m + 1) * members ≤ members * members = mul-le-mul_right members (omega (arith, lt)) in omega (arith, more, lt')

  -- two members' places are apart
  apart : (m m' q q' : ℕ) → m' ≢ m → q < members → q' < members → m' * members + q' ≢ m * members + q
  apart m m' q q' other lt lt' same = elim (cases_lt m m') [
    | inl above ↦ let more : (m + 1) * members ≤ m' * members = mul-le-mul_right members (omega (arith, above)) in omega (arith, more, same, lt)
    | inr not ↦ let more : (m' + 1) * members ≤ m * members = mul-le-mul_right members (omega (arith, not, other)) in omega (arith, more, same, lt')
  ]

  -- the places of another member lie on one side
  beside : (m m' q' : ℕ) → m' ≢ m → q' < members → (m' * members + q' < m * members) ⊎ (m * members + members ≤ m' * members + q')
  beside m m' q' other lt' = elim (cases_lt m m') [
    | inl above ↦ inr (let more : (m + 1) * members ≤ m' * members = mul-le-mul_right members (omega (arith, above)) in omega (arith, more))
    | inr not ↦ inl (let more : (m' + 1) * members ≤ m * members = mul-le-mul_right members (omega (arith, not, other)) in omega (arith, more, lt'))
  ]

  -- one find is stored
  pub found_set : (xs : List (Option ℕ)) (m q : ℕ) (v : Option ℕ) → q < members → m * members + q < length xs → found_in members (set xs (m * members + q) v) ≡ put (found_in members xs) m (put (found_in members xs m) q v)
  found_set xs m q v lt room = fun_ext (λ m'. fun_ext (λ q'. elim (cases_lt q' members) [
    | inl inside ↦ in_members ys m' q' inside ∙ here m' q' inside
    | inr outside ↦ past_members ys m' q' outside ∙ there m' q' outside
  ]))
    where
      ys : List (Option ℕ)
      ys = set xs (m * members + q) v

      F : ℕ → ℕ → Option ℕ
      F = found_in members xs

      here : (m' q' : ℕ) → q' < members → get_or (set xs (m * members + q) v) (m' * members + q') None ≡ put (found_in members xs) m (put (found_in members xs m) q v) m' q'
      here m' q' inside = put_case (λ (f : ℕ → Option ℕ). get_or (set xs (m * members + q) v) (m' * members + q') None ≡ f q') (found_in members xs) m (put (found_in members xs m) q v) m'
          (λ same. put_case (λ (x : Option ℕ). get_or (set xs (m * members + q) v) (m' * members + q') None ≡ x) (found_in members xs m) q v q'
          (λ same'. (λ i. get_or (set xs (m * members + q) v) (same i * members + same' i) None) ∙ get_or-set_same xs (m * members + q) v None room)
          (λ other'.
          let away : m' * members + q' ≢ m * members + q = λ e. other' (omega (arith, e, ap (λ x. x * members) same)) in
          get_or-set_other xs (m * members + q) (m' * members + q') v None away ∙ ap (λ x. get_or xs (x * members + q') None) same ∙ sym (in_members xs m q' inside)))
          (λ other. get_or-set_other xs (m * members + q) (m' * members + q') v None (apart m m' q q' other lt inside) ∙ sym (in_members xs m' q' inside))

      there : (m' q' : ℕ) → members ≤ q' → None ≡ put (found_in members xs) m (put (found_in members xs m) q v) m' q'
      there m' q' outside = put_case (λ (f : ℕ → Option ℕ). None ≡ f q') (found_in members xs) m (put (found_in members xs m) q v) m'
          (λ same. put_case (λ (x : Option ℕ). None ≡ x) (found_in members xs m) q v q' (λ same'. absurd (omega (arith, same', lt, outside))) (λ other'. sym (past_members xs m q' outside)))
          (λ other. sym (past_members xs m' q' outside))

  -- a member's finds are forgotten
  pub found_forgotten : (xs ys : List (Option ℕ)) (m : ℕ) → Forgets xs ys (m * members) members → found_in members ys ≡ put (found_in members xs) m (λ q. None)
  found_forgotten xs ys m forgets = fun_ext (λ m'. fun_ext (λ q'. put_case (λ (f : ℕ → Option ℕ). found_in members ys m' q' ≡ f q') (found_in members xs) m (λ q. None) m'
      (λ same. elim (cases_lt q' members) [
        | inl inside ↦ in_members ys m' q' inside ∙ ap (λ x. get_or ys (x * members + q') None) same ∙ forgets.inside (m * members + q') (omega arith) (omega (arith, inside))
        | inr outside ↦ past_members ys m' q' outside
      ])
      (λ other. elim (cases_lt q' members) [
        | inl inside ↦ in_members ys m' q' inside ∙ forgets.outside (m' * members + q') (beside m m' q' other inside) ∙ sym (in_members xs m' q' inside)
        | inr outside ↦ past_members ys m' q' outside ∙ sym (past_members xs m' q' outside)
      ])))
