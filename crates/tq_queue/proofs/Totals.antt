-- How many tickets a closed queue has put and taken, told by seats.
use Rattle.std.proofs.Common.{◌≡◌, ℕ, zero, suc, ◌+◌, ◌<◌, ◌≤◌, List, [], ◌∷◌, ◌++◌, length, Bool, true, false, cond, inl, inr, refl, sym, ◌∙◌, ap, subst, arith}
use Rattle.std.specs.Prelude.{◌==◌, All, filter, sum_by, nat_lt, if◌then◌else◌}
use Rattle.std.proofs.lemmas.Bool.Decides.{nat_tests}
use Rattle.std.proofs.lemmas.Bool.{cases_lt}
use Rattle.std.proofs.lemmas.List.{length-append}
use Rattle.std.proofs.lemmas.List.Sums.{sum_by-cons, sum_by-append}
use Rattle.fn_model.specs.Order.{sum_below}
use Rattle.tq_cells.specs.declared.entry.Event.{Event}
use Rattle.tq_cells.specs.Laws.{puts}
use Rattle.tq_cells.specs.Seen.{entries_of}
use Rattle.tq_queue.specs.Kept.{tickets_put, tickets_taken, ticket_put, ticket_taken}
use Rattle.tq_queue.specs.Laws.{IsSound}
use Rattle.tq_queue.specs.Seen.{BookView, value_of}
use Rattle.tq_queue.proofs.Counting.{tick}
use Rattle.tq_queue.proofs.Parts.{all_between}
use Rattle.tq_queue.proofs.Sharing.{shared, sum_below-same}
use Rattle.tq_queue.proofs.Sound.{ones, puts_sum, tickets_put_sum, takes_sum, tickets_taken_sum, put_often}

-- a list is as long as its parts by a key
pub lengths_are_shared : {X : Type 0} (key : X → ℕ) (n : ℕ) (xs : List X) → All (λ x. key x < n) xs → length xs ≡ sum_below n (λ p. length (filter (λ x. key x == p) xs))
lengths_are_shared key n xs range =
    sym (ones xs) ∙ shared key (λ x. 1) n xs range ∙ sum_below-same n (λ p. sum_by (λ x. 1) (filter (λ x. key x == p) xs)) (λ p. length (filter (λ x. key x == p) xs)) (λ p l. ones (filter (λ x. key x == p) xs))

-- numbers of which each below n stands once, and no other, are n numbers
counted_ticks : (t : ℕ) (xs : List ℕ) → length (filter (λ x. x == t) xs) ≡ sum_by (tick t) xs
counted_ticks t [] = refl
counted_ticks t (x ∷ xs) = by (x == t) (counted_ticks t xs) ∙ sym (sum_by-cons (tick t) x xs)
  where
    by : (b : Bool) → length (filter (λ y. y == t) xs) ≡ sum_by (tick t) xs → length (cond b (x ∷ filter (λ y. y == t) xs) (filter (λ y. y == t) xs)) ≡ cond b 1 0 + sum_by (tick t) xs
    by true rest = omega (arith, rest)
    by false rest = omega (arith, rest)

below_ones : (n : ℕ) → sum_below n (λ p. 1) ≡ n
below_ones zero = refl
below_ones (suc n) = omega (arith, below_ones n)

module _ (n : ℕ) (xs : List ℕ) (once : (t : ℕ) → sum_by (tick t) xs ≡ (if nat_lt t n then 1 else 0)) where
  all_below : All (λ x. x < n) xs
  all_below =
      all_between (λ (x : ℕ). x < n) [] xs xs refl (λ earlier later x is.
      let whole : sum_by (tick x) xs ≡ sum_by (tick x) (earlier ++ x ∷ later) = ap (sum_by (tick x)) is in
      let ticked : tick x x ≡ 1 = grind (arith, nat_tests) in
      let least : 1 ≤ sum_by (tick x) xs = omega (arith, whole, ticked, sum_by-append (tick x) earlier (x ∷ later), sum_by-cons (tick x) x later) in
      inside x (subst (λ (m : ℕ). 1 ≤ m) (once x) least))
    where
      inside : (x : ℕ) → 1 ≤ (if nat_lt x n then 1 else 0) → x < n
      inside x h = elim (cases_lt x n) [
        | inl less ↦ less
        | inr most ↦ absurd (let test : nat_lt x n ≡ false = grind (arith, nat_tests) in let none : 1 ≤ 0 = subst (λ (b : Bool). 1 ≤ (if b then 1 else 0)) test h in omega (arith, none))
      ]

  as_many_numbers : length xs ≡ n
  as_many_numbers =
      lengths_are_shared (λ (x : ℕ). x) n xs all_below
      ∙ sum_below-same n (λ p. length (filter (λ x. x == p) xs)) (λ p. 1) (λ p l. counted_ticks p xs ∙ once p ∙ (let test : nat_lt p n ≡ true = grind (arith, nat_tests) in ap (λ (b : Bool). if b then 1 else 0) test))
      ∙ below_ones n

module _ {T : Type 0} where
  -- how many tickets there are, entry by entry
  put_lengths : (log : List (Event T)) → length (tickets_put log) ≡ sum_by (λ (e : Event T). length (ticket_put e.entry)) log
  put_lengths [] = refl
  put_lengths (e ∷ log) = omega (arith, length-append (ticket_put e.entry) (tickets_put log), sum_by-cons (λ (x : Event T). length (ticket_put x.entry)) e log, put_lengths log)

  taken_lengths : (log : List (Event T)) → length (tickets_taken log) ≡ sum_by (λ (e : Event T). length (ticket_taken e.entry)) log
  taken_lengths [] = refl
  taken_lengths (e ∷ log) = omega (arith, length-append (ticket_taken e.entry) (tickets_taken log), sum_by-cons (λ (x : Event T). length (ticket_taken x.entry)) e log, taken_lengths log)

  module _ (n : ℕ) (book : BookView T) (range : All (λ (e : Event T). e.seat < n) book.cells.log) where
    abbrev log : List (Event T)
    log = book.cells.log

    module _ (sound : IsSound book) (f : ℕ → ℕ) where
      -- `tail` counts what all seats put
      pub tail_counts_puts : ((seat : ℕ) → seat < n → length (tickets_put (entries_of seat log)) ≡ f seat) → value_of book.funnels.tail ≡ sum_below n f
      tail_counts_puts each =
          let w : Event T → ℕ = λ e. length (ticket_put e.entry) in
          sym (as_many_numbers (value_of book.funnels.tail) (tickets_put log) (λ t. sym (puts_sum t log ∙ tickets_put_sum t log) ∙ sound.puts t))
          ∙ put_lengths log
          ∙ shared (λ (e : Event T). e.seat) w n log range
          ∙ sum_below-same n (λ p. sum_by w (entries_of p log)) f (λ p l. sym (put_lengths (entries_of p log)) ∙ each p l)

      -- .. and `head` what all take
      pub head_counts_takes : ((seat : ℕ) → seat < n → length (tickets_taken (entries_of seat log)) ≡ f seat) → value_of book.funnels.head ≡ sum_below n f
      head_counts_takes each =
          let w : Event T → ℕ = λ e. length (ticket_taken e.entry) in
          sym (as_many_numbers (value_of book.funnels.head) (tickets_taken log) (λ t. sym (takes_sum t log ∙ tickets_taken_sum t log) ∙ sound.takes t))
          ∙ taken_lengths log
          ∙ shared (λ (e : Event T). e.seat) w n log range
          ∙ sum_below-same n (λ p. sum_by w (entries_of p log)) f (λ p l. sym (taken_lengths (entries_of p log)) ∙ each p l)

    -- a ticket that was put once was put by a seat
    pub puts_have_seats : (t : ℕ) → length (puts t log) ≡ 1 → (seat : ℕ) × (seat < n) × (sum_by (tick t) (tickets_put (entries_of seat log)) ≡ 1)
    puts_have_seats t once = by n (sym (put_often n t log range) ∙ once)
      where
        by : (m : ℕ) → sum_below m (λ p. sum_by (tick t) (tickets_put (entries_of p log))) ≡ 1 → (seat : ℕ) × (seat < m) × (sum_by (tick t) (tickets_put (entries_of seat log)) ≡ 1)
        by zero is = absurd (omega (arith, is))
        by (suc m) is = elim (cases_lt (sum_by (tick t) (tickets_put (entries_of m log))) 1) [
          | inl none ↦
              let earlier = by m (omega (arith, is, none)) in (earlier.0, omega (arith, earlier.1), earlier.2)
          | inr some_put ↦ (m, omega arith, omega (arith, is, some_put))
        ]
