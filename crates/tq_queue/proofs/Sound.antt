-- The laws of a closed queue.
use Rattle.std.proofs.Common.{◌≡◌, ℕ, ◌+◌, ◌*◌, ◌≤◌, ◌<◌, List, [], ◌∷◌, ◌++◌, length, map, Bool, true, false, cond, Some, slice_get, refl, sym, ◌∙◌, ap, subst, arith, inl, inr, append_assoc}
use Rattle.std.specs.Prelude.{◌==◌, All, sum, sum_by, nat_lt, nat_le, if◌then◌else◌, ◌&&◌}
use Rattle.std.proofs.lemmas.Bool.Decides.{nat_tests}
use Rattle.std.proofs.lemmas.Bool.{cases_lt}
use Rattle.std.proofs.lemmas.List.{length-append}
use Rattle.std.proofs.lemmas.List.Elements.{All-nil, All-cons, All-head, All-tail}
use Rattle.std.proofs.lemmas.List.Sums.{sum_by-cons, sum_by-append}
use mathlib.Core.List.{IsPrefix}
use Rattle.running.specs.Running.{numbers_from}
use Rattle.fn_model.specs.declared.Call.{Call}
use Rattle.fn_model.specs.Order.{sum_below}
use Rattle.fn_model.specs.Integer.{after}
use Rattle.fn_core.specs.declared.Start.{Start}
use Rattle.fn_core.specs.declared.Event as funnel
use Rattle.fn_core.specs.declared.Move.TheVariants.{Glance}
use Rattle.fn_core.specs.Calls.{CoreLog, calls_in, IsLegal}
use Rattle.fn_core.proofs.Public.{replies_are_bounded, calls_are_of_passes}
use Rattle.fn_table.specs.Seen.{TableView, PassView}
use Rattle.fn_table.specs.Seen as table
use Rattle.tq_cells.specs.declared.entry.Entry.{Entry}
use Rattle.tq_cells.specs.declared.entry.Entry.TheVariants as entries
use Rattle.tq_cells.specs.declared.entry.Event.{Event}
use Rattle.tq_cells.specs.declared.entry.Start as cell
use Rattle.tq_cells.specs.Laws.{puts, takes, put_by, taken_by}
use Rattle.tq_cells.specs.Seen.{entries_of}
use Rattle.tq_cells.specs.Seen as cells
use Rattle.tq_queue.specs.Answers.{Answered, answered, answers_of, raised, lowered, raised_by, lowered_by, AddsOne, AreTickets}
use Rattle.tq_queue.specs.Fours.{Which, Tail, Head, Free, Items, pick}
use Rattle.tq_queue.specs.Seen.{QueueView, CallerView, BookView, Begins, first_of, HasClosed, IsOf, AreAll, IsClosed, value_of, allowance}
use Rattle.tq_queue.specs.Kept.{own_answers, own_puts, own_takes, tickets_put, tickets_taken, ticket_put, ticket_taken, IsOpen, Keeps}
use Rattle.tq_queue.specs.Laws.{Rises, IsSound, BooksHaveAnswers}
use Rattle.tq_queue.proofs.Each.{each_of}
use Rattle.tq_queue.proofs.Counting.{IsBounded, balanced, numbered, counted, rising, tick, tally}
use Rattle.tq_queue.proofs.Keeping.{sum-replicate}
use Rattle.tq_queue.proofs.Parts.{all_at, get-map}
use Rattle.tq_queue.proofs.Seats.{seats_have_passes, entries_have_seats, entries_are_of_passes, none_beyond}
use Rattle.tq_queue.proofs.Sharing.{shared, gathered, sum_below-same}
use Rattle.tq_queue.proofs.Told.{answers_kept}

-- all calls of a book, each with what it met
pub book_answers : CoreLog → List Answered
book_answers book = answered book.start.cap book.start.opening (calls_in book)

-- no integer of a funnel's history comes near the cap
book_bounded : (passes first : ℕ) (book : CoreLog) → IsLegal book → Begins passes first book.start → passes ≤ 64 → first ≤ 65536 → IsBounded book.start.cap book.start.opening (calls_in book)
book_bounded passes first book legal b few small =
    let all : sum book.start.allowances ≡ passes * allowance = ap sum b.allowances ∙ sum-replicate passes allowance in
    let opening : book.start.opening ≡ first = b.opening in
    let cap : book.start.cap ≡ 9223372036854775807 = b.cap in
    record {
      bound = book.start.opening + sum book.start.allowances;
      below = omega (arith, all, opening, cap, few, small);
      each = λ i. replies_are_bounded book.start book.log legal.0 legal.1 i;
    }

-- each call of a book is of one of its passes
range_answered : (P : Call → Type 0) (cap v : ℕ) (calls : List Call) → All P calls → All (λ (a : Answered). P a.call) (answered cap v calls)
range_answered P cap v [] all = All-nil (λ (a : Answered). P a.call)
range_answered P cap v (c ∷ calls) all = All-cons (λ (a : Answered). P a.call) (record { call = c; met = v }) (answered cap (after cap v c.kind c.amount) calls) (All-head P c calls all) (range_answered P cap (after cap v c.kind c.amount) calls (All-tail P c calls all))

book_inside : (book : CoreLog) → IsLegal book → All (λ (a : Answered). a.call.pass < book.start.shape.passes) (book_answers book)
unfolding book_answers
book_inside book legal = range_answered (λ call. call.pass < book.start.shape.passes) book.start.cap book.start.opening (calls_in book) (calls_are_of_passes book.start book.log legal.0 legal.1)

book_range : (passes first : ℕ) (book : CoreLog) → IsLegal book → Begins passes first book.start → All (λ (a : Answered). a.call.pass < passes) (book_answers book)
book_range passes first book legal b = subst (λ (n : ℕ). All (λ (a : Answered). a.call.pass < n) (book_answers book)) b.shape.0 (book_inside book legal)

-- a pass's answers in the book are those that it has been told
book_own : (t : TableView) (ps : List PassView) (book : CoreLog) → HasClosed t ps book → (k : ℕ) (p : PassView) → slice_get ps k ≡ Some p → p.seen.start ≡ t.start → answers_of p.number (book_answers book) ≡ own_answers p
unfolding book_answers
book_own t ps book closed k p here start =
    let has = closed.closed.each k p here in
    let glance : List funnel.Event = record { pass = 0; step = Glance } ∷ [] in
    let begins : IsPrefix p.seen.log book.log = (has.begins.0 ++ glance, sym (append_assoc p.seen.log has.begins.0 glance) ∙ ap (λ (l : List funnel.Event). l ++ glance) has.begins.1 ∙ sym closed.closed.last) in
    answers_kept p.number p.seen book (closed.start ∙ sym start) closed.closed.legal begins (closed.calls k p here)

-- so the book of a closed funnel has the answers of its passes, and no others
pub books_have_answers : BooksHaveAnswers
unfolding book_answers
books_have_answers t ps book closed = (
  λ k p here of. book_own t ps book closed k p here of.1,
  subst (λ (s : Start). All (λ (a : Answered). a.call.pass < s.shape.passes) (book_answers book)) closed.start (book_inside book closed.closed.legal),
)

length_answered : (cap v : ℕ) (calls : List Call) → length (answered cap v calls) ≡ length calls
length_answered cap v [] = refl
length_answered cap v (c ∷ calls) = let rest : length (answered cap (after cap v c.kind c.amount) calls) ≡ length calls = length_answered cap (after cap v c.kind c.amount) calls in omega arith

sum_by-over : {X Y : Type 0} (w : Y → ℕ) (f : X → Y) (xs : List X) → sum_by (λ x. w (f x)) xs ≡ sum_by w (map f xs)
sum_by-over w f [] = refl
sum_by-over w f (x ∷ xs) = omega (arith, sum_by-cons (λ y. w (f y)) x xs, sum_by-cons w (f x) (map f xs), sum_by-over w f xs)

pub ones : {X : Type 0} (xs : List X) → sum_by (λ x. 1) xs ≡ length xs
ones [] = refl
ones (x ∷ xs) = let rest : sum_by (λ y. 1) xs ≡ length xs = ones xs in omega (arith, sum_by-cons (λ y. 1) x xs, rest)

module _ (n : ℕ) (tickets : ℕ → List ℕ) (answers : List Answered) (range : All (λ (a : Answered). a.call.pass < n) answers) (each : (p : ℕ) → p < n → AreTickets (answers_of p answers) (tickets p)) where
  pub all_ones : All AddsOne answers
  all_ones = gathered (λ (a : Answered). a.call.pass) AddsOne n answers range (λ p l. (each p l).ones)

  -- as many answers as all passes have tickets
  all_tickets : sum_below n (λ p. length (tickets p)) ≡ length answers
  all_tickets =
      sym (shared (λ (a : Answered). a.call.pass) (λ a. 1) n answers range ∙ sum_below-same n (λ p. sum_by (λ a. 1) (answers_of p answers)) (λ p. length (tickets p)) (λ p l. ones (answers_of p answers) ∙ sized p l)) ∙ ones answers
    where
      counted_by : (xs : List Answered) → length (map (λ (a : Answered). a.met) xs) ≡ length xs
      counted_by [] = refl
      counted_by (x ∷ xs) = let rest : length (map (λ (a : Answered). a.met) xs) ≡ length xs = counted_by xs in omega arith

      sized : (p : ℕ) → p < n → length (answers_of p answers) ≡ length (tickets p)
      sized p l = sym (counted_by (answers_of p answers)) ∙ ap length (each p l).met

  -- what calls elsewhere add up to, each pass as many as it has tickets
  pub as_many : (others : List Answered) (weight : Answered → ℕ) → All (λ (a : Answered). a.call.pass < n) others → ((p : ℕ) → p < n → sum_by weight (answers_of p others) ≡ length (tickets p)) → sum_by weight others ≡ length answers
  as_many others weight others_range same = shared (λ (a : Answered). a.call.pass) weight n others others_range ∙ sum_below-same n (λ p. sum_by weight (answers_of p others)) (λ p. length (tickets p)) same ∙ all_tickets

  -- each ticket is met as often as it stands among the tickets
  pub as_often : (t : ℕ) → sum_below n (λ p. sum_by (tick t) (tickets p)) ≡ sum_by (tick t) (map (λ (a : Answered). a.met) answers)
  as_often t =
      sum_below-same n (λ p. sum_by (tick t) (tickets p)) (λ p. sum_by (λ (a : Answered). tick t a.met) (answers_of p answers)) (λ p l. ap (sum_by (tick t)) (sym (each p l).met) ∙ sym (sum_by-over (tick t) (λ (a : Answered). a.met) (answers_of p answers)))
      ∙ sym (shared (λ (a : Answered). a.call.pass) (λ (a : Answered). tick t a.met) n answers range)
      ∙ sum_by-over (tick t) (λ (a : Answered). a.met) answers

-- how often a ticket is put, and taken
module _ {T : Type 0} where
  put_weight : (t : ℕ) (entry : Entry T) → length (put_by t entry) ≡ sum_by (tick t) (ticket_put entry)
  put_weight t (entries.Hold ticket) = refl
  put_weight t (entries.Put ticket x) = once (ticket == t)
    where
      once : (b : Bool) → length (cond b (x ∷ []) []) ≡ 0 + cond b 1 0
      once true = omega arith
      once false = omega arith
  put_weight t (entries.Take ticket) = refl
  put_weight t (entries.Free ticket) = refl
  put_weight t (entries.Miss expected found) = refl

  taken_weight : (t : ℕ) (entry : Entry T) → taken_by t entry ≡ sum_by (tick t) (ticket_taken entry)
  taken_weight t (entries.Hold ticket) = refl
  taken_weight t (entries.Put ticket x) = refl
  taken_weight t (entries.Take ticket) = omega arith
  taken_weight t (entries.Free ticket) = refl
  taken_weight t (entries.Miss expected found) = refl

  pub puts_sum : (t : ℕ) (log : List (Event T)) → length (puts t log) ≡ sum_by (λ (e : Event T). sum_by (tick t) (ticket_put e.entry)) log
  puts_sum t [] = refl
  puts_sum t (e ∷ log) = omega (arith, length-append (put_by t e.entry) (puts t log), sum_by-cons (λ (x : Event T). sum_by (tick t) (ticket_put x.entry)) e log, puts_sum t log, put_weight t e.entry)

  pub takes_sum : (t : ℕ) (log : List (Event T)) → takes t log ≡ sum_by (λ (e : Event T). sum_by (tick t) (ticket_taken e.entry)) log
  takes_sum t [] = refl
  takes_sum t (e ∷ log) = omega (arith, sum_by-cons (λ (x : Event T). sum_by (tick t) (ticket_taken x.entry)) e log, takes_sum t log, taken_weight t e.entry)

  pub tickets_put_sum : (t : ℕ) (log : List (Event T)) → sum_by (λ (e : Event T). sum_by (tick t) (ticket_put e.entry)) log ≡ sum_by (tick t) (tickets_put log)
  tickets_put_sum t [] = refl
  tickets_put_sum t (e ∷ log) = omega (arith, sum_by-append (tick t) (ticket_put e.entry) (tickets_put log), sum_by-cons (λ (x : Event T). sum_by (tick t) (ticket_put x.entry)) e log, tickets_put_sum t log)

  pub tickets_taken_sum : (t : ℕ) (log : List (Event T)) → sum_by (λ (e : Event T). sum_by (tick t) (ticket_taken e.entry)) log ≡ sum_by (tick t) (tickets_taken log)
  tickets_taken_sum t [] = refl
  tickets_taken_sum t (e ∷ log) = omega (arith, sum_by-append (tick t) (ticket_taken e.entry) (tickets_taken log), sum_by-cons (λ (x : Event T). sum_by (tick t) (ticket_taken x.entry)) e log, tickets_taken_sum t log)

  pub put_often : (n t : ℕ) (log : List (Event T)) → All (λ (e : Event T). e.seat < n) log → length (puts t log) ≡ sum_below n (λ p. sum_by (tick t) (tickets_put (entries_of p log)))
  put_often n t log range =
      let w : Event T → ℕ = λ e. sum_by (tick t) (ticket_put e.entry) in
      puts_sum t log ∙ shared (λ (e : Event T). e.seat) w n log range ∙ sum_below-same n (λ p. sum_by w (entries_of p log)) (λ p. sum_by (tick t) (tickets_put (entries_of p log))) (λ p l. tickets_put_sum t (entries_of p log))

  pub taken_often : (n t : ℕ) (log : List (Event T)) → All (λ (e : Event T). e.seat < n) log → takes t log ≡ sum_below n (λ p. sum_by (tick t) (tickets_taken (entries_of p log)))
  taken_often n t log range =
      let w : Event T → ℕ = λ e. sum_by (tick t) (ticket_taken e.entry) in
      takes_sum t log ∙ shared (λ (e : Event T). e.seat) w n log range ∙ sum_below-same n (λ p. sum_by w (entries_of p log)) (λ p. sum_by (tick t) (tickets_taken (entries_of p log))) (λ p l. tickets_taken_sum t (entries_of p log))

-- two lists at the numbers below zero
pub from_zero : (t n : ℕ) → ◌≡◌ {A = ℕ} (if nat_le 0 t && nat_lt t (0 + n) then 1 else 0) (if nat_lt t n then 1 else 0)
from_zero t n = grind (arith, nat_tests)

module _ {T : Type 0} (q : QueueView) (ps : List (CallerView T)) (b : BookView T) (is_open : IsOpen q) (all : AreAll q ps) (together : All (IsOf q) ps) (kept : All Keeps ps) (closed : IsClosed q ps b) where
  abbrev n : ℕ
  n = q.cells.start.seats

  abbrev log : List (Event T)
  log = b.cells.log

  seats_below : All (λ (e : Event T). e.seat < n) log
  seats_below = entries_have_seats q ps all b closed

  closed_of : (w : Which) → HasClosed (pick w q.funnels) (map (λ (x : CallerView T). pick w x.passes) ps) (pick w b.funnels)
  closed_of = each_of (λ w. HasClosed (pick w q.funnels) (map (λ (x : CallerView T). pick w x.passes) ps) (pick w b.funnels)) closed.funnels

  module _ (p : ℕ) (range : p < n) where
    abbrev this : CallerView T
    this = (seats_have_passes q ps all p range).pass

    at : slice_get ps p ≡ Some this
    at = (seats_have_passes q ps all p range).at

    is_p : this.seat.number ≡ p
    is_p = (seats_have_passes q ps all p range).number

    keeps : Keeps this
    keeps = all_at Keeps ps p this kept at

    of : IsOf q this
    of = all_at (IsOf q) ps p this together at

    entries_same : entries_of p log ≡ entries_of this.seat.number this.seat.log
    entries_same = entries_are_of_passes q ps all b closed p this at is_p

    puts_same : tickets_put (entries_of p log) ≡ own_puts this.seat
    puts_same = ap tickets_put entries_same

    takes_same : tickets_taken (entries_of p log) ≡ own_takes this.seat
    takes_same = ap tickets_taken entries_same

    answers_same : (w : Which) → answers_of p (book_answers (pick w b.funnels)) ≡ own_answers (pick w this.passes)
    answers_same w =
        ap (λ (k : ℕ). answers_of k (book_answers (pick w b.funnels))) (sym (each_of (λ v. (pick v this.passes).number ≡ this.seat.number) keeps.numbers w ∙ is_p))
        ∙ book_own (pick w q.funnels) (map (λ (x : CallerView T). pick w x.passes) ps) (pick w b.funnels) (closed_of w) p (pick w this.passes) (get-map (λ (x : CallerView T). pick w x.passes) ps p this at)
        (each_of (λ v. table.IsOf (pick v q.funnels) (pick v this.passes)) of.1 w).1

    tail_each : AreTickets (answers_of p (book_answers b.funnels.tail)) (tickets_put (entries_of p log))
    tail_each = subst (λ (xs : List Answered). AreTickets xs (tickets_put (entries_of p log))) (sym (answers_same Tail)) (subst (AreTickets (own_answers this.passes.tail)) (sym puts_same) keeps.tail)

    head_each : AreTickets (answers_of p (book_answers b.funnels.head)) (tickets_taken (entries_of p log))
    head_each = subst (λ (xs : List Answered). AreTickets xs (tickets_taken (entries_of p log))) (sym (answers_same Head)) (subst (AreTickets (own_answers this.passes.head)) (sym takes_same) keeps.head)

    free_puts : lowered (answers_of p (book_answers b.funnels.free)) ≡ length (tickets_put (entries_of p log))
    free_puts = ap lowered (answers_same Free) ∙ keeps.free.0 ∙ ap length (sym puts_same)

    free_takes : raised (answers_of p (book_answers b.funnels.free)) ≡ length (tickets_taken (entries_of p log))
    free_takes = ap raised (answers_same Free) ∙ keeps.free.1 ∙ ap length (sym takes_same)

    items_puts : raised (answers_of p (book_answers b.funnels.items)) ≡ length (tickets_put (entries_of p log))
    items_puts = ap raised (answers_same Items) ∙ keeps.items.0 ∙ ap length (sym puts_same)

    items_takes : lowered (answers_of p (book_answers b.funnels.items)) ≡ length (tickets_taken (entries_of p log))
    items_takes = ap lowered (answers_same Items) ∙ keeps.items.1 ∙ ap length (sym takes_same)

  legal_of : (w : Which) → IsLegal (pick w b.funnels)
  legal_of w = (closed_of w).closed.legal

  begins : (w : Which) → Begins n (first_of q.cells.start.capacity w) (pick w b.funnels).start
  begins w =
      subst (Begins n (first_of q.cells.start.capacity w)) (sym (closed_of w).start) (each_of (λ v. Begins n (first_of q.cells.start.capacity v) (pick v q.funnels).start) is_open.begin w)

  ranges : (w : Which) → All (λ (a : Answered). a.call.pass < n) (book_answers (pick w b.funnels))
  ranges w = book_range n (first_of q.cells.start.capacity w) (pick w b.funnels) (legal_of w) (begins w)

  bounded : (first : ℕ) (book : CoreLog) → IsLegal book → Begins n first book.start → first ≤ 65536 → IsBounded book.start.cap book.start.opening (calls_in book)
  bounded first book legal is small = book_bounded n first book legal is is_open.sizes.3 small

  -- the integer of a funnel of tickets, and what its calls met
  module _ (book : CoreLog) (legal : IsLegal book) (is : Begins n 0 book.start) (ones_all : All AddsOne (book_answers book)) where
    value_is : value_of book ≡ length (book_answers book)
    unfolding book_answers
    value_is =
        let opening : book.start.opening ≡ 0 = is.opening in
        omega (arith, counted book.start.cap book.start.opening (calls_in book) (bounded 0 book legal is (omega arith)) ones_all, length_answered book.start.cap book.start.opening (calls_in book), opening)

    mets_are : map (λ (a : Answered). a.met) (book_answers book) ≡ numbers_from 0 (value_of book)
    unfolding book_answers
    mets_are =
        numbered book.start.cap book.start.opening (calls_in book) (bounded 0 book legal is (omega arith)) ones_all
        ∙ ap (λ (v : ℕ). numbers_from v (length (calls_in book))) is.opening
        ∙ ap (numbers_from 0) (sym (length_answered book.start.cap book.start.opening (calls_in book)) ∙ sym value_is)

    once_each : (t : ℕ) → sum_by (tick t) (map (λ (a : Answered). a.met) (book_answers book)) ≡ (if nat_lt t (value_of book) then 1 else 0)
    once_each t = ap (sum_by (tick t)) mets_are ∙ tally t 0 (value_of book) ∙ from_zero t (value_of book)

    rises : (p : ℕ) → Rises 0 (map (λ (a : Answered). a.met) (answers_of p (book_answers book)))
    unfolding book_answers
    rises p = rising book.start.cap p book.start.opening 0 (calls_in book) (bounded 0 book legal is (omega arith)) ones_all (omega arith)

  tail_ones : All AddsOne (book_answers b.funnels.tail)
  tail_ones = all_ones n (λ p. tickets_put (entries_of p log)) (book_answers b.funnels.tail) (ranges Tail) tail_each

  head_ones : All AddsOne (book_answers b.funnels.head)
  head_ones = all_ones n (λ p. tickets_taken (entries_of p log)) (book_answers b.funnels.head) (ranges Head) head_each

  no_entries : (p : ℕ) → n ≤ p → entries_of p log ≡ []
  no_entries p beyond = none_beyond n p log seats_below beyond

  puts_rise : (p : ℕ) → Rises 0 (tickets_put (entries_of p log))
  puts_rise p = elim (cases_lt p n) [
    | inl range ↦ subst (Rises 0) (tail_each p range).met (rises b.funnels.tail (legal_of Tail) (begins Tail) tail_ones p)
    | inr beyond ↦ subst (Rises 0) (sym (ap tickets_put (no_entries p beyond))) tt
  ]

  takes_rise : (p : ℕ) → Rises 0 (tickets_taken (entries_of p log))
  takes_rise p = elim (cases_lt p n) [
    | inl range ↦ subst (Rises 0) (head_each p range).met (rises b.funnels.head (legal_of Head) (begins Head) head_ones p)
    | inr beyond ↦ subst (Rises 0) (sym (ap tickets_taken (no_entries p beyond))) tt
  ]

  put_once : (t : ℕ) → length (puts t log) ≡ (if nat_lt t (value_of b.funnels.tail) then 1 else 0)
  put_once t = put_often n t log seats_below ∙ as_often n (λ p. tickets_put (entries_of p log)) (book_answers b.funnels.tail) (ranges Tail) tail_each t ∙ once_each b.funnels.tail (legal_of Tail) (begins Tail) tail_ones t

  taken_once : (t : ℕ) → takes t log ≡ (if nat_lt t (value_of b.funnels.head) then 1 else 0)
  taken_once t = taken_often n t log seats_below ∙ as_often n (λ p. tickets_taken (entries_of p log)) (book_answers b.funnels.head) (ranges Head) head_each t ∙ once_each b.funnels.head (legal_of Head) (begins Head) head_ones t

  abbrev tails : ℕ
  tails = value_of b.funnels.tail

  abbrev heads : ℕ
  heads = value_of b.funnels.head

  free_lowered : lowered (book_answers b.funnels.free) ≡ tails
  free_lowered = as_many n (λ p. tickets_put (entries_of p log)) (book_answers b.funnels.tail) (ranges Tail) tail_each (book_answers b.funnels.free) (λ (a : Answered). lowered_by a.call.kind a.call.amount a.met) (ranges Free) free_puts ∙ sym (value_is b.funnels.tail (legal_of Tail) (begins Tail) tail_ones)

  free_raised : raised (book_answers b.funnels.free) ≡ heads
  free_raised = as_many n (λ p. tickets_taken (entries_of p log)) (book_answers b.funnels.head) (ranges Head) head_each (book_answers b.funnels.free) (λ (a : Answered). raised_by a.call.kind a.call.amount) (ranges Free) free_takes ∙ sym (value_is b.funnels.head (legal_of Head) (begins Head) head_ones)

  items_raised : raised (book_answers b.funnels.items) ≡ tails
  items_raised = as_many n (λ p. tickets_put (entries_of p log)) (book_answers b.funnels.tail) (ranges Tail) tail_each (book_answers b.funnels.items) (λ (a : Answered). raised_by a.call.kind a.call.amount) (ranges Items) items_puts ∙ sym (value_is b.funnels.tail (legal_of Tail) (begins Tail) tail_ones)

  items_lowered : lowered (book_answers b.funnels.items) ≡ heads
  items_lowered = as_many n (λ p. tickets_taken (entries_of p log)) (book_answers b.funnels.head) (ranges Head) head_each (book_answers b.funnels.items) (λ (a : Answered). lowered_by a.call.kind a.call.amount a.met) (ranges Items) items_takes ∙ sym (value_is b.funnels.head (legal_of Head) (begins Head) head_ones)

  free_balance : value_of b.funnels.free + tails ≡ b.cells.start.capacity + heads
  unfolding book_answers
  free_balance =
      let opening : b.funnels.free.start.opening ≡ q.cells.start.capacity = (begins Free).opening in
      let capacity : b.cells.start.capacity ≡ q.cells.start.capacity = ap (λ (s : cell.Start). s.capacity) closed.start in
      omega (arith, balanced b.funnels.free.start.cap b.funnels.free.start.opening (calls_in b.funnels.free) (bounded q.cells.start.capacity b.funnels.free (legal_of Free) (begins Free) is_open.sizes.1), free_lowered, free_raised, opening, capacity)

  items_balance : value_of b.funnels.items + heads ≡ tails
  unfolding book_answers
  items_balance =
      let opening : b.funnels.items.start.opening ≡ 0 = (begins Items).opening in
      omega (arith, balanced b.funnels.items.start.cap b.funnels.items.start.opening (calls_in b.funnels.items) (bounded 0 b.funnels.items (legal_of Items) (begins Items) (omega arith)), items_lowered, items_raised, opening)

  pub sound : IsSound b
  sound = record {
    puts = put_once;
    takes = taken_once;
    rising_puts = puts_rise;
    rising_takes = takes_rise;
    order = (omega (arith, items_balance), omega (arith, free_balance));
    items = omega (arith, items_balance);
    free = omega (arith, items_balance, free_balance);
  }
