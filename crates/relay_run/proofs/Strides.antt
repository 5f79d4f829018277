-- A worker's lines stand at equal distances, and all workers' lines are all lines.
use Rattle.std.proofs.Common.{◌≡◌, ◌≢◌, ℕ, zero, suc, ◌+◌, ◌-◌, ◌*◌, ◌/◌, ◌%◌, ◌<◌, ◌≤◌, List, [], ◌∷◌, ◌++◌, length, map, Bool, cond, inl, inr, refl, sym, ◌∙◌, ap, arith}
use Rattle.std.specs.Prelude.{◌==◌, All, filter, not}
use Rattle.std.proofs.Math.Nat.{div-add-mod, mod-lt, mul_comm, suc-mul}
use Rattle.std.proofs.lemmas.Nat.{div-mul-add}
use Rattle.std.proofs.lemmas.Bool.{cases_eq, cases_lt, eq-eqb, ne_eqb}
use Rattle.std.proofs.lemmas.List.{append-nil, map-append, length-map}
use Rattle.std.proofs.lemmas.List.Elements.{All-nil, All-cons, All-filter, filter-append}
use Rattle.std.proofs.lemmas.List.Filters.{length-filter_both}
use Rattle.fn_model.specs.Order.{sum_below}
use Rattle.running.specs.Running.{upto, numbers_from}
use Rattle.running.proofs.Numbers.{numbers_more}
use Rattle.tq_queue.proofs.Laws.{lengths_are_shared}
use Rattle.relay_run.specs.Relay.{lines_at}
use Rattle.relay_run.specs.Work.{line_of, first_lines}

pub length-numbers_from : (k n : ℕ) → length (numbers_from k n) ≡ n
length-numbers_from k zero = refl
length-numbers_from k (suc n) = let rest : length (numbers_from (suc k) n) ≡ n = length-numbers_from (suc k) n in omega arith

pub length-first_lines : (workers worker n : ℕ) → length (first_lines workers worker n) ≡ n
length-first_lines workers worker n = length-map (upto n) (line_of workers worker) ∙ length-numbers_from 0 n

-- one more number
pub upto_more : (n : ℕ) → upto (suc n) ≡ upto n ++ n ∷ []
upto_more n = numbers_more 0 n ∙ (let here : 0 + n ≡ n = omega arith in ap (λ (k : ℕ). upto n ++ k ∷ []) here)

-- one more line
pub first_more : (workers worker n : ℕ) → first_lines workers worker (suc n) ≡ first_lines workers worker n ++ line_of workers worker n ∷ []
first_more workers worker n = ap (map (line_of workers worker)) (upto_more n) ∙ map-append (line_of workers worker) (upto n) (n ∷ [])

-- how many of so many lines a worker has
abbrev pub size_of : ℕ → ℕ → ℕ → ℕ
size_of workers count worker = (count + (workers - 1 - worker)) / workers

module _ (workers worker : ℕ) (inside : worker < workers) where
  divided : (n q r : ℕ) → n ≡ q * workers + r → r < workers → n / workers ≡ q
  divided n q r is below = ap (λ (m : ℕ). m / workers) is ∙ div-mul-add q workers r below

  parts : (n : ℕ) → n ≡ n / workers * workers + n % workers
  parts n = let is : workers * (n / workers) + n % workers ≡ n = div-add-mod n workers in let turned : workers * (n / workers) ≡ n / workers * workers = mul_comm workers (n / workers) in omega (arith, is, turned)

  -- a line of the worker is its next one
  own_next : (count : ℕ) → count % workers ≡ worker → (size_of workers count worker ≡ count / workers) × (size_of workers (suc count) worker ≡ suc (count / workers)) × (line_of workers worker (count / workers) ≡ count)
  own_next count own =
      let q : ℕ = count / workers in
      let is : count ≡ q * workers + count % workers = parts count in
      let next : suc q * workers ≡ q * workers + workers = suc-mul q workers in (
        divided (count + (workers - 1 - worker)) q (workers - 1) (omega (arith, is, own)) (omega arith),
        divided (suc count + (workers - 1 - worker)) (suc q) 0 (omega (arith, is, own, next)) (omega arith),
        omega (arith, is, own),
      )

  -- .. and another line leaves how many it has
  other_next : (count : ℕ) → count % workers ≢ worker → size_of workers (suc count) worker ≡ size_of workers count worker
  other_next count other =
      let q : ℕ = count / workers in
      let r : ℕ = count % workers in
      let is : count ≡ q * workers + r = parts count in
      let below : r < workers = mod-lt count (omega arith) in
      let next : suc q * workers ≡ q * workers + workers = suc-mul q workers in
      elim (cases_lt r worker) [
        | inl less ↦
            divided (suc count + (workers - 1 - worker)) q (suc r + (workers - 1 - worker)) (omega (arith, is)) (omega (arith, less))
            ∙ sym (divided (count + (workers - 1 - worker)) q (r + (workers - 1 - worker)) (omega (arith, is)) (omega (arith, less)))
        | inr most ↦
            divided (suc count + (workers - 1 - worker)) (suc q) (r - worker) (omega (arith, is, next, most)) (omega (arith, below))
            ∙ sym (divided (count + (workers - 1 - worker)) (suc q) (r - worker - 1) (omega (arith, is, next, most, other)) (omega (arith, below)))
      ]

  one_more : (count : ℕ) → lines_at workers (suc count) worker ≡ lines_at workers count worker ++ cond (count % workers == worker) (count ∷ []) []
  one_more count = ap (filter (λ line. line % workers == worker)) (upto_more count) ∙ filter-append (λ line. line % workers == worker) (upto count) (count ∷ [])

  strides : (count : ℕ) → lines_at workers count worker ≡ first_lines workers worker (size_of workers count worker)
  strides zero = sym (ap (first_lines workers worker) (divided (zero + (workers - 1 - worker)) 0 (workers - 1 - worker) (omega arith) (omega arith)))
  strides (suc count) =
      one_more count ∙ ap (λ (xs : List ℕ). xs ++ cond (count % workers == worker) (count ∷ []) []) (strides count) ∙ elim (cases_eq (count % workers) worker) [
        | inl own ↦
            let is = own_next count own in
            ap (λ (b : Bool). first_lines workers worker (size_of workers count worker) ++ cond b (count ∷ []) []) (eq-eqb (count % workers) worker own)
            ∙ ap (λ (n : ℕ). first_lines workers worker n ++ count ∷ []) is.0
            ∙ ap (λ (n : ℕ). first_lines workers worker (count / workers) ++ n ∷ []) (sym is.2)
            ∙ sym (first_more workers worker (count / workers))
            ∙ ap (first_lines workers worker) (sym is.1)
        | inr other ↦
            ap (λ (b : Bool). first_lines workers worker (size_of workers count worker) ++ cond b (count ∷ []) []) (ne_eqb (count % workers) worker other)
            ∙ append-nil (first_lines workers worker (size_of workers count worker))
            ∙ ap (first_lines workers worker) (sym (other_next count other))
      ]

  pub sizes : (count : ℕ) → length (lines_at workers count worker) ≡ size_of workers count worker
  sizes count = ap length (strides count) ∙ length-first_lines workers worker (size_of workers count worker)

  pub strided : (count : ℕ) → lines_at workers count worker ≡ first_lines workers worker (length (lines_at workers count worker))
  strided count = strides count ∙ ap (first_lines workers worker) (sym (sizes count))

-- a number that is no worker's has no lines
no_lines_from : (workers worker k n : ℕ) → 0 < workers → workers ≤ worker → filter (λ line. line % workers == worker) (numbers_from k n) ≡ []
no_lines_from workers worker k zero some_worker beyond = refl
no_lines_from workers worker k (suc n) some_worker beyond =
    let below : k % workers < workers = mod-lt k some_worker in
    let rest : List ℕ = filter (λ line. line % workers == worker) (numbers_from (suc k) n) in
    ap (λ (b : Bool). cond b (k ∷ rest) rest) (ne_eqb (k % workers) worker (λ e. omega (arith, below, e))) ∙ no_lines_from workers worker (suc k) n some_worker beyond

pub no_lines : (workers count worker : ℕ) → 0 < workers → workers ≤ worker → lines_at workers count worker ≡ []
no_lines workers count worker = no_lines_from workers worker 0 count

-- what holds of all numbers
all_numbers : (P : ℕ → Type 0) (k n : ℕ) → ((i : ℕ) → i < k + n → P i) → All P (numbers_from k n)
all_numbers P k zero each = All-nil P
all_numbers P k (suc n) each = All-cons P k (numbers_from (suc k) n) (each k (omega arith)) (all_numbers P (suc k) n (λ i l. each i (omega (arith, l))))

-- a worker's lines are some of all lines
pub lines_below : (workers count worker : ℕ) → All (λ line. line < count) (lines_at workers count worker)
lines_below workers count worker = All-filter (λ line. line % workers == worker) (λ line. line < count) (upto count) (all_numbers (λ line. line < count) 0 count (λ i l. omega (arith, l)))

-- all workers have all lines together
pub lines_shared : (workers count : ℕ) → 0 < workers → sum_below workers (λ worker. length (lines_at workers count worker)) ≡ count
lines_shared workers count some_worker =
    sym (lengths_are_shared (λ line. line % workers) workers (upto count) (all_numbers (λ line. line % workers < workers) 0 count (λ i l. mod-lt i some_worker))) ∙ length-numbers_from 0 count

-- a worker has at most all lines
pub lines_few : (workers count worker : ℕ) → length (lines_at workers count worker) ≤ count
lines_few workers count worker =
    let mine : ℕ → Bool = λ line. line % workers == worker in
    let both : length (filter mine (upto count)) + length (filter (λ line. not (mine line)) (upto count)) ≡ length (upto count) = length-filter_both mine (λ line. not (mine line)) (λ line. refl) (upto count) in
    omega (arith, both, length-numbers_from 0 count)
