-- Calls whose numbers are raised: whose they are, what they leave, and where they stand.
use Rattle.std.proofs.Common.{◌≡◌, ◌+◌, ◌<◌, ◌≤◌, ◌==◌, ◌&&◌, ℕ, suc, Bool, true, false, not, cond, List, [], ◌∷◌, ◌++◌, length, map, Some, None, nat_lt, refl, sym, ap, ◌∙◌, arith, inl, inr, All, ne_eqb}
use Rattle.std.proofs.lemmas.Bool.{cases_eq, lt-ltb, ltb-true}
use Rattle.std.proofs.lemmas.Bool.Decides.{nat_tests}
use Rattle.std.proofs.lemmas.List.{length-map, length-append}
use Rattle.std.proofs.lemmas.List.Elements.{All-head, All-tail, All-weaker, filter_passes}
use Rattle.std.proofs.lemmas.List.Sums.{sum_by-cons}
use Rattle.std.proofs.lemmas.Option.{cond_some}
use Rattle.std.specs.List.{count_by, position_or_len}
use Rattle.fn_model.specs.declared.Call.{Call}
use Rattle.fn_model.specs.Calls.{own, is_call, count, place}
use Rattle.fn_model.specs.Integer.{after, value}
use Rattle.fn_model.proofs.Calls.{first_beyond}
use Rattle.trace_text.specs.declared.traces.Row.{Row}
use Rattle.replay_run.specs.Segments.{is_of, rows_of, call_of, calls_from}

-- a call whose number is raised by the calls that its pass has made before
abbrev pub raised : (ℕ → ℕ) → Call → Call
raised made call = record call { number = made call.pass + call.number }

-- the calls of rows that are put together
pub calls_append : (n : ℕ) (rows more : List Row) → calls_from n (rows ++ more) ≡ calls_from n rows ++ calls_from (n + length rows) more
calls_append n [] more = let same : n ≡ n + 0 = omega arith in ap (λ m. calls_from m more) same
calls_append n (row ∷ rows) more =
    let same : suc n + length rows ≡ n + suc (length rows) = omega arith in
    ap (λ (calls : List Call). call_of n row ∷ calls) (calls_append (suc n) rows more ∙ ap (λ m. calls_from (suc n) rows ++ calls_from m more) same)

-- the rows of a worker are its own
pub rows_mine : (worker tenant : ℕ) (rows : List Row) → All (λ (row : Row). row.worker ≡ worker) (rows_of worker tenant rows)
rows_mine worker tenant rows =
    All-weaker (λ (row : Row). is_of worker tenant row ≡ true) (λ row. row.worker ≡ worker) (λ row is. mine row is) (rows_of worker tenant rows) (filter_passes (is_of worker tenant) rows)
  where
    mine : (row : Row) → is_of worker tenant row ≡ true → row.worker ≡ worker
    mine row is = grind (arith, nat_tests)

-- whether a call has this number
abbrev has_number : ℕ → Call → Bool
has_number number call = call.number == number

-- a pass's calls of a number are counted among its own
count_own : (pass number : ℕ) (calls : List Call) → count pass number calls ≡ count_by (has_number number) (own pass calls)
count_own pass number [] = refl
count_own pass number (call ∷ calls) = sum_by-cons (λ c. cond (is_call pass number c) 1 0) call calls ∙ by (call.pass == pass) (count_own pass number calls)
  where
    by : (b : Bool) → count pass number calls ≡ count_by (has_number number) (own pass calls)
        → cond (b && has_number number call) 1 0 + count pass number calls ≡ count_by (has_number number) (cond b (call ∷ own pass calls) (own pass calls))
    by true rest = ap (λ n. cond (has_number number call) 1 0 + n) rest ∙ sym (sum_by-cons (λ c. cond (has_number number c) 1 0) call (own pass calls))
    by false rest = omega (arith, rest)

-- no number past the last
none_past : (n number : ℕ) (rows : List Row) → n + length rows ≤ number → count_by (has_number number) (calls_from n rows) ≡ 0
none_past n number [] past = refl
none_past n number (row ∷ rows) past =
    let other : (n == number) ≡ false = ne_eqb n number (λ same. omega arith) in
    let left : List Call = calls_from (suc n) rows in
    let all : count_by (has_number number) (call_of n row ∷ left) ≡ 0 + count_by (has_number number) left =
    sum_by-cons (λ (c : Call). cond (has_number number c) 1 0) (call_of n row) left ∙ ap (λ (b : Bool). cond b 1 0 + count_by (has_number number) left) other in
    omega (arith, all, none_past (suc n) number rows (omega arith))

-- where a pass's own calls are those of rows, it has no call past their numbers
pub no_call_past : (pass n number : ℕ) (calls : List Call) (rows : List Row) → own pass calls ≡ calls_from n rows → n + length rows ≤ number → count pass number calls ≡ 0
no_call_past pass n number calls rows is past = count_own pass number calls ∙ ap (count_by (has_number number)) is ∙ none_past n number rows past

-- a call's place behind calls that are others
pub place_behind : (pass number : ℕ) (past more : List Call) (i : ℕ) → count pass number past ≡ 0 → place pass number more ≡ Some i → place pass number (past ++ more) ≡ Some (length past + i)
place_behind pass number past more i none is =
    let p : Call → Bool = is_call pass number in
    let first : ℕ = position_or_len p more in
    let here = cond_some (nat_lt first (length more)) first i is in
    let at : position_or_len p (past ++ more) ≡ length past + i = first_beyond p past more none ∙ ap (λ n. length past + n) here.1 in
    let within : first < length more = ltb-true first (length more) here.0 in
    let longer : length past + i < length (past ++ more) = omega (arith, length-append past more, here.1, within) in
    ap (λ (n : ℕ). cond (nat_lt n (length (past ++ more))) (Some n) None) at ∙ ap (λ (b : Bool). cond b (Some (length past + i)) None) (lt-ltb (length past + i) (length (past ++ more)) longer)

module _ (made : ℕ → ℕ) where
  -- they leave the same integer
  pub value-raised : (cap v : ℕ) (calls : List Call) → value cap v (map (raised made) calls) ≡ value cap v calls
  value-raised cap v [] = refl
  value-raised cap v (call ∷ calls) = value-raised cap (after cap v call.kind call.amount) calls

  -- and are of the same passes
  pub own-raised : (pass : ℕ) (calls : List Call) → own pass (map (raised made) calls) ≡ map (raised made) (own pass calls)
  own-raised pass [] = refl
  own-raised pass (call ∷ calls) = by (call.pass == pass) (own-raised pass calls)
    where
      by : (b : Bool) → own pass (map (raised made) calls) ≡ map (raised made) (own pass calls)
          → cond b (raised made call ∷ own pass (map (raised made) calls)) (own pass (map (raised made) calls)) ≡ map (raised made) (cond b (call ∷ own pass calls) (own pass calls))
      by true rest = ap (λ (cs : List Call). raised made call ∷ cs) rest
      by false rest = rest

  -- those of a worker's rows are numbered from its number on
  pub calls-raised : (worker n : ℕ) (rows : List Row) → All (λ (row : Row). row.worker ≡ worker) rows → map (raised made) (calls_from n rows) ≡ calls_from (made worker + n) rows
  calls-raised worker n [] mine = refl
  calls-raised worker n (row ∷ rows) mine =
      let Mine : Row → Type 0 = λ row. row.worker ≡ worker in
      let next : made worker + suc n ≡ suc (made worker + n) = omega arith in
      ap (λ (w : ℕ). call_of (made w + n) row ∷ map (raised made) (calls_from (suc n) rows)) (All-head Mine row rows mine)
      ∙ ap (λ (cs : List Call). call_of (made worker + n) row ∷ cs) (calls-raised worker (suc n) rows (All-tail Mine row rows mine) ∙ ap (λ (m : ℕ). calls_from m rows) next)

  same_test : (pass number : ℕ) (call : Call) → is_call pass (made pass + number) (raised made call) ≡ is_call pass number call
  same_test pass number call = elim (cases_eq call.pass pass) [
    | inr other ↦ let none : (call.pass == pass) ≡ false = ne_eqb call.pass pass other in
        ap (λ (b : Bool). b && (made call.pass + call.number == made pass + number)) none ∙ sym (ap (λ (b : Bool). b && (call.number == number)) none)
    | inl same ↦ ap (λ (b : Bool). (call.pass == pass) && b) (ap (λ (p : ℕ). made p + call.number == made pass + number) same ∙ same_sum (made pass) call.number number)
  ]
    where
      same_sum : (m a b : ℕ) → (m + a == m + b) ≡ (a == b)
      same_sum m a b = elim (cases_eq a b) [
        | inl same ↦ let sums : (m + a == m + b) ≡ true = grind (arith, nat_tests) in let alone : (a == b) ≡ true = grind (arith, nat_tests) in sums ∙ sym alone
        | inr other ↦ ne_eqb (m + a) (m + b) (λ sums. other (omega arith)) ∙ sym (ne_eqb a b other)
      ]

  first-raised : (pass number : ℕ) (calls : List Call) → position_or_len (is_call pass (made pass + number)) (map (raised made) calls) ≡ position_or_len (is_call pass number) calls
  first-raised pass number [] = refl
  first-raised pass number (call ∷ calls) =
      ap (λ (b : Bool). cond (not b) (1 + position_or_len (is_call pass (made pass + number)) (map (raised made) calls)) 0) (same_test pass number call)
      ∙ ap (λ (n : ℕ). cond (not (is_call pass number call)) (1 + n) 0) (first-raised pass number calls)

  -- a raised call stands where the call stood
  pub place-raised : (pass number : ℕ) (calls : List Call) → place pass (made pass + number) (map (raised made) calls) ≡ place pass number calls
  place-raised pass number calls =
      let first : ℕ = position_or_len (is_call pass (made pass + number)) (map (raised made) calls) in
      ap (λ (size : ℕ). cond (nat_lt first size) (Some first) None) (length-map calls (raised made)) ∙ ap (λ (n : ℕ). cond (nat_lt n (length calls)) (Some n) None) (first-raised pass number calls)
