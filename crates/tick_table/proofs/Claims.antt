-- The ticks that the entries of a log claim.
use Rattle.std.proofs.Common.{◌≡◌, ◌⊎◌, ℕ, zero, suc, ◌+◌, ◌-◌, ◌<◌, ◌≤◌, max, true, false, ◌&&◌, List, [], ◌∷◌, ◌++◌, length, sum, All, Any, refl, sym, ap, ◌∙◌, ⊎_elim, inl, inr, append_assoc, ne_eqb, if◌then◌else◌, arith}
use Rattle.std.specs.Prelude.{nat_lt, nat_le}
use Rattle.std.proofs.lemmas.Bool.Decides.{nat_tests}
use Rattle.std.proofs.lemmas.List.Sums.{fold-append, sum_by-cons}
use mathlib.Core.Logic.{dite}
use native.Mathlib.Decide.{dec_lt, dec_le}
use Rattle.running.specs.Running.{numbers_from, times}
use Rattle.running.proofs.Lists.{length_numbers}
use Rattle.running.proofs.Numbers.{times_once, times_in}
use Rattle.tick_table.specs.declared.entry.Entry.{Entry}
use Rattle.tick_table.specs.Claims.{reach, between, claims, counts, ReachIsGreatest, ClaimsGoOn, ClaimsFollow, EachTickOnce, ClaimsAddUp}

-- the reach is no less than the first tick
pub reach_least : (from : ℕ) (log : List Entry) → from ≤ reach from log
reach_least from [] = omega arith
reach_least from (e ∷ log) = omega (arith, reach_least (max from e.tick) log)

-- .. and goes on from that of the first entries
pub reach-append : (from : ℕ) (xs ys : List Entry) → reach from (xs ++ ys) ≡ reach (reach from xs) ys
reach-append from xs ys = fold-append (λ (reached : ℕ) (entry : Entry). max reached entry.tick) from xs ys

-- .. nor than that of any entry
reach_above : (from : ℕ) (log : List Entry) → All (λ (e : Entry). e.tick ≤ reach from log) log
reach_above from [] i d l = absurd (omega arith)
reach_above from (e ∷ log) zero d l = omega (arith, reach_least (max from e.tick) log)
reach_above from (e ∷ log) (suc i) d l = reach_above (max from e.tick) log i d (omega arith)

-- it is one of these
reach_is : (from : ℕ) (log : List Entry) → (reach from log ≡ from) ⊎ Any (λ (e : Entry). e.tick ≡ reach from log) log
reach_is from [] = inl refl
reach_is from (e ∷ log) = ⊎_elim
    (λ (here : reach (max from e.tick) log ≡ max from e.tick). dite (dec_lt from e.tick)
    (λ above. inr (0, e, (omega arith), refl, (let m : max from e.tick ≡ e.tick = omega arith in sym (here ∙ m))))
    (λ not. inl (let m : max from e.tick ≡ from = omega arith in here ∙ m)))
    (λ (later : Any (λ (d : Entry). d.tick ≡ reach (max from e.tick) log) log). inr (suc later.0, later.1, (omega arith), later.3, later.4))
    (reach_is (max from e.tick) log)

pub greatest : ReachIsGreatest
greatest from log = record { from_first = reach_least from log; above = reach_above from log; one = reach_is from log }

-- numbers, cut in two
numbers_cut : (k m n c : ℕ) → c ≡ m + n → numbers_from k c ≡ numbers_from k m ++ numbers_from (k + m) n
numbers_cut k zero n c is = λ i. numbers_from ((let e : k ≡ k + 0 = omega arith in e) i) ((let e : c ≡ n = omega arith in e) i)
numbers_cut k (suc m) n zero is = absurd (omega arith)
numbers_cut k (suc m) n (suc c) is =
    ap (λ (ns : List ℕ). k ∷ ns) (numbers_cut (suc k) m n c (omega arith) ∙ ap (λ (j : ℕ). numbers_from (suc k) m ++ numbers_from j n) (omega arith))

-- the ticks up to one in the middle, and from there on
between_joins : (low mid high : ℕ) → low ≤ mid → mid ≤ high → between low mid ++ between mid high ≡ between low high
between_joins low mid high below above =
    let at : suc low + (mid - low) ≡ suc mid = omega arith in
    sym (numbers_cut (suc low) (mid - low) (high - mid) (high - low) (omega arith) ∙ ap (λ (j : ℕ). between low mid ++ numbers_from j (high - mid)) at)

none_between : (n : ℕ) → between n n ≡ []
none_between n = ap (numbers_from (suc n)) (let e : n - n ≡ 0 = omega arith in e)

-- up to a tick that may be below
between_most : (low high : ℕ) → between low high ≡ between low (max low high)
between_most low high = ap (numbers_from (suc low)) (let e : high - low ≡ max low high - low = omega arith in e)

-- the claims are the ticks up to the reach
pub claims_are : (from : ℕ) (log : List Entry) → claims from log ≡ between from (reach from log)
claims_are from [] = sym (none_between from)
claims_are from (e ∷ log) =
    let mid : ℕ = max from e.tick in
    (λ i. between_most from e.tick i ++ claims_are mid log i) ∙ between_joins from mid (reach mid log) (omega arith) (reach_least mid log)

-- how often a number stands among others
times_past : (n k c : ℕ) → k + c ≤ n → times n (numbers_from k c) ≡ 0
times_past n k zero past = refl
times_past n k (suc c) past = let e = ne_eqb k n (λ e. omega arith) in let t = times_past n (suc k) c (omega arith) in rw e (omega arith)

times_before : (n k c : ℕ) → n < k → times n (numbers_from k c) ≡ 0
times_before n k zero before = refl
times_before n k (suc c) before = let e = ne_eqb k n (λ e. omega arith) in let t = times_before n (suc k) c (omega arith) in rw e (omega arith)

times_between : (tick low high : ℕ) → times tick (between low high) ≡ (if nat_lt low tick && nat_le tick high then 1 else 0)
times_between tick low high = dite (dec_lt low tick)
    (λ above. dite (dec_le tick high)
    (λ within. (let a : nat_lt low tick ≡ true = grind (arith, nat_tests) in let b : nat_le tick high ≡ true = grind (arith, nat_tests) in
    let once = times_once tick (suc low) (high - low) in let there = times_in tick (suc low) (high - low) (omega arith) (omega arith) in rw a (rw b (omega arith))))
    (λ past. (let a : nat_lt low tick ≡ true = grind (arith, nat_tests) in let b : nat_le tick high ≡ false = grind (arith, nat_tests) in
    rw a (rw b (times_past tick (suc low) (high - low) (omega arith))))))
    (λ not. (let a : nat_lt low tick ≡ false = grind (arith, nat_tests) in rw a (times_before tick (suc low) (high - low) (omega arith))))

pub each_once : EachTickOnce
each_once from log = record { all = claims_are from log; once = λ tick. ap (times tick) (claims_are from log) ∙ times_between tick from (reach from log) }

-- the claims of entries, and of those behind them
claims-append : (from : ℕ) (xs ys : List Entry) → claims from (xs ++ ys) ≡ claims from xs ++ claims (reach from xs) ys
claims-append from [] ys = refl
claims-append from (e ∷ xs) ys = ap (λ (l : List ℕ). between from e.tick ++ l) (claims-append (max from e.tick) xs ys) ∙ sym (append_assoc (between from e.tick) (claims (max from e.tick) xs) (claims (reach (max from e.tick) xs) ys))

pub goes_on : ClaimsGoOn
goes_on from xs ys = (reach-append from xs ys, claims-append from xs ys)

pub follow : ClaimsFollow
follow from xs ys e =
    let r : ℕ = reach from xs in
    let whole : claims from (xs ++ e ∷ ys) ≡ claims from xs ++ (between r e.tick ++ claims (max r e.tick) ys) = claims-append from xs (e ∷ ys) in
    let next : max r e.tick ≡ reach from (xs ++ e ∷ []) = sym (reach-append from xs (e ∷ [])) in
    whole ∙ ap (λ (n : ℕ). claims from xs ++ (between r e.tick ++ claims n ys)) next

-- how many ticks lie above one up to another
pub between_length : (low high : ℕ) → length (between low high) ≡ high - low
between_length low high = length_numbers (suc low) (high - low)

counts_sum : (from : ℕ) (log : List Entry) → sum (counts from log) ≡ reach from log - from
counts_sum from [] = omega arith
counts_sum from (e ∷ log) = omega (arith, sum_by-cons (λ (n : ℕ). n) (e.tick - from) (counts (max from e.tick) log), counts_sum (max from e.tick) log, reach_least (max from e.tick) log)

pub add_up : ClaimsAddUp
add_up from log = (counts_sum from log, between_length)
