-- What the calls of a history meet and leave, where no addition stops at the cap.
use Rattle.std.proofs.Common.{◌≡◌, ℕ, zero, suc, ◌+◌, ◌≤◌, ◌<◌, List, [], ◌∷◌, length, min, map, Bool, true, false, cond, refl, ◌∙◌, ap, arith}
use Rattle.std.specs.Prelude.{◌==◌, All, sum_by, nat_lt, nat_le, if◌then◌else◌, ◌&&◌}
use Rattle.std.proofs.lemmas.Bool.Decides.{nat_tests}
use Rattle.std.proofs.lemmas.List.Elements.{All-head, All-tail}
use Rattle.std.proofs.lemmas.List.Sums.{sum_by-cons}
use Rattle.running.specs.Running.{numbers_from}
use Rattle.fn_model.specs.declared.Call.{Call}
use Rattle.fn_model.specs.declared.Kind.{Kind}
use Rattle.fn_model.specs.declared.Kind.TheVariants.{Add, Sub, Read}
use Rattle.fn_model.specs.Integer.{after, value, before}
use Rattle.tq_queue.specs.Answers.{Answered, answered, answers_of, raised, lowered, raised_by, lowered_by, AddsOne}
use Rattle.tq_queue.specs.Laws.{Rises}

-- no integer of the history is above the bound, which is below the cap
pub record IsBounded (cap v : ℕ) (calls : List Call) : Type 0 where
  pub bound : ℕ
  pub below : bound < cap
  pub each : (i : ℕ) → before cap v calls i ≤ bound

bounded_rest : (cap v : ℕ) (c : Call) (calls : List Call) → IsBounded cap v (c ∷ calls) → IsBounded cap (after cap v c.kind c.amount) calls
bounded_rest cap v c calls b = record { bound = b.bound; below = b.below; each = λ i. b.each (suc i) }

-- so an addition adds its whole amount
one_moves : (cap v amount : ℕ) (kind : Kind) → after cap v kind amount < cap → after cap v kind amount + lowered_by kind amount v ≡ v + raised_by kind amount
one_moves cap v amount Add small = omega arith
one_moves cap v amount Sub small = omega arith
one_moves cap v amount Read small = omega arith

next_small : (cap v : ℕ) (c : Call) (calls : List Call) → IsBounded cap v (c ∷ calls) → after cap v c.kind c.amount < cap
next_small cap v c calls b = let here : after cap v c.kind c.amount ≤ b.bound = b.each 1 in omega (arith, b.below)

-- the integer after all calls is the first one, raised and lowered
pub balanced : (cap v : ℕ) (calls : List Call) → IsBounded cap v calls → value cap v calls + lowered (answered cap v calls) ≡ v + raised (answered cap v calls)
balanced cap v [] b = refl
balanced cap v (c ∷ calls) b =
    let next : ℕ = after cap v c.kind c.amount in
    let here : Answered = record { call = c; met = v } in
    let rest : value cap next calls + lowered (answered cap next calls) ≡ next + raised (answered cap next calls) = balanced cap next calls (bounded_rest cap v c calls b) in
    omega (
      arith,
      rest,
      one_moves cap v c.amount c.kind (next_small cap v c calls b),
      sum_by-cons (λ (a : Answered). lowered_by a.call.kind a.call.amount a.met) here (answered cap next calls),
      sum_by-cons (λ (a : Answered). raised_by a.call.kind a.call.amount) here (answered cap next calls),
    )

one_more : (cap v amount : ℕ) (kind : Kind) → after cap v kind amount < cap → kind ≡ Add → amount ≡ 1 → after cap v kind amount ≡ suc v
one_more cap v amount kind small is one =
    let here : after cap v kind amount ≡ min cap (v + amount) = ap (λ (k : Kind). after cap v k amount) is in omega arith

next_is : (cap v : ℕ) (c : Call) (calls : List Call) → IsBounded cap v (c ∷ calls) → All AddsOne (answered cap v (c ∷ calls)) → after cap v c.kind c.amount ≡ suc v
next_is cap v c calls b all =
    let ones = All-head AddsOne (record { call = c; met = v }) (answered cap (after cap v c.kind c.amount) calls) all in
    one_more cap v c.amount c.kind (next_small cap v c calls b) ones.0 ones.1

rest_ones : (cap v : ℕ) (c : Call) (calls : List Call) → All AddsOne (answered cap v (c ∷ calls)) → All AddsOne (answered cap (after cap v c.kind c.amount) calls)
rest_ones cap v c calls all = All-tail AddsOne (record { call = c; met = v }) (answered cap (after cap v c.kind c.amount) calls) all

-- additions of 1 meet one number after the other
pub numbered : (cap v : ℕ) (calls : List Call) → IsBounded cap v calls → All AddsOne (answered cap v calls) → map (λ (a : Answered). a.met) (answered cap v calls) ≡ numbers_from v (length calls)
numbered cap v [] b all = refl
numbered cap v (c ∷ calls) b all =
    ap (λ (ns : List ℕ). v ∷ ns) (numbered cap (after cap v c.kind c.amount) calls (bounded_rest cap v c calls b) (rest_ones cap v c calls all) ∙ ap (λ (n : ℕ). numbers_from n (length calls)) (next_is cap v c calls b all))

pub counted : (cap v : ℕ) (calls : List Call) → IsBounded cap v calls → All AddsOne (answered cap v calls) → value cap v calls ≡ v + length calls
counted cap v [] b all = omega arith
counted cap v (c ∷ calls) b all =
    let rest : value cap (after cap v c.kind c.amount) calls ≡ after cap v c.kind c.amount + length calls = counted cap (after cap v c.kind c.amount) calls (bounded_rest cap v c calls b) (rest_ones cap v c calls all) in
    omega (arith, rest, next_is cap v c calls b all)

-- .. and those of one pass rise
rises_by : (mine : Bool) (at v : ℕ) (c : Call) (rest : List Answered) → at ≤ v → ((low : ℕ) → low ≤ suc v → Rises low (map (λ (a : Answered). a.met) rest)) → Rises at (map (λ (a : Answered). a.met) (cond mine (record { call = c; met = v } ∷ rest) rest))
rises_by true at v c rest low more = (low, more (suc v) (omega arith))
rises_by false at v c rest low more = more at (omega arith)

pub rising : (cap pass v at : ℕ) (calls : List Call) → IsBounded cap v calls → All AddsOne (answered cap v calls) → at ≤ v → Rises at (map (λ (a : Answered). a.met) (answers_of pass (answered cap v calls)))
rising cap pass v at [] b all low = tt
rising cap pass v at (c ∷ calls) b all low =
    let next : ℕ = after cap v c.kind c.amount in
    let is : next ≡ suc v = next_is cap v c calls b all in
    rises_by (c.pass == pass) at v c (answers_of pass (answered cap next calls)) low (λ from most. rising cap pass next from calls (bounded_rest cap v c calls b) (rest_ones cap v c calls all) (omega arith))

-- how often a number stands among others
abbrev pub tick : ℕ → ℕ → ℕ
tick t x = if x == t then 1 else 0

-- each number from v on stands once
pub tally : (t v n : ℕ) → sum_by (tick t) (numbers_from v n) ≡ (if nat_le v t && nat_lt t (v + n) then 1 else 0)
tally t v zero = grind (arith, nat_tests)
tally t v (suc n) =
    let rest : sum_by (tick t) (numbers_from (suc v) n) ≡ (if nat_le (suc v) t && nat_lt t (suc v + n) then 1 else 0) = tally t (suc v) n in
    sum_by-cons (tick t) v (numbers_from (suc v) n) ∙ ap (λ (m : ℕ). tick t v + m) rest ∙ grind (arith, nat_tests)
