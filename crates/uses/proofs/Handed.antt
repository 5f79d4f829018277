-- The item that one pass of a queue has put is the one that the other has taken.
use Rattle.std.proofs.Common.{◌≡◌, ℕ, List, [], ◌∷◌, ◌++◌, length, map, refl, sym, ◌∙◌, ap, subst, arith}
use Rattle.std.specs.Prelude.{nat_lt, if◌then◌else◌}
use Rattle.std.proofs.lemmas.Bool.Decides.{nat_tests}
use mathlib.Core.List.{IsPrefix}
use Rattle.running.specs.Running.{upto}
use Rattle.fn_model.specs.declared.Kind.TheVariants.{Add}
use Rattle.fn_table.specs.Claims.{next_of, Made}
use Rattle.fn_table.specs.Seen.{PassView}
use Rattle.tq_cells.specs.declared.entry.Event.{Event}
use Rattle.tq_cells.specs.declared.entry.Start.{Start}
use Rattle.tq_cells.specs.Laws.{IsExact, puts}
use Rattle.tq_cells.proofs.Tickets.{puts_and_takes_stay}
use Rattle.tq_queue.specs.Answers.{Answered, raised, lowered, raised_by, lowered_by}
use Rattle.tq_queue.specs.Kept.{own_answers}
use Rattle.tq_queue.specs.Seen.{QueueView, CallerView, BookView, OpensWith, IsOf, IsClosed, value_of, fresh, fresh_passes, with_free, with_items}
use Rattle.tq_queue.specs.Claims.{MadePut, MadeTake, MetFull, MetEmpty}
use Rattle.tq_queue.specs.Laws.{IsSound}
use Rattle.tq_queue.specs.declared.putting.Full.{Full}
use Rattle.tq_queue.specs.declared.taking.Empty.{Empty}
use Rattle.tq_queue.proofs.Laws.{calls_are_answered}
use Rattle.std.proofs.lemmas.List.Sums.{sum_by-cons}
use Rattle.std.specs.Prelude.{Result, Ok, Err, MatchResult}
use Rattle.std.proofs.lemmas.List.{length-append}
use Rattle.uses.specs.Books.{IsBookOf}
use Rattle.uses.specs.Handed.{HasGiven, HasGot}
use Rattle.uses.proofs.Books.{none_yet, is_book}
use Rattle.uses.proofs.Totals.{count_of}

-- the first call of a pass, an addition of 1
added_up : (p q : PassView) (ticket : ℕ) → own_answers p ≡ [] → Made p Add 1 ticket q → (raised (own_answers q) ≡ 1) × (lowered (own_answers q) ≡ 0)
added_up p q ticket none made =
    let last : Answered = record { call = next_of p Add 1; met = ticket } in
    let is : own_answers q ≡ last ∷ [] = calls_are_answered p Add 1 ticket q made ∙ ap (λ (xs : List Answered). xs ++ last ∷ []) none in
    (omega (arith, ap raised is, sum_by-cons (λ (a : Answered). raised_by a.call.kind a.call.amount) last []), omega (arith, ap lowered is, sum_by-cons (λ (a : Answered). lowered_by a.call.kind a.call.amount a.met) last []))

-- two that are left after two more were taken off the end
pub emptied : {X : Type 0} (xs : List X) (x y a b : X) → (xs ++ x ∷ []) ++ y ∷ [] ≡ a ∷ b ∷ [] → (xs ≡ []) × (x ≡ a) × (y ≡ b)
emptied [] x y a b is = (refl, cc, cc)
emptied (z ∷ xs) x y a b is = absurd (omega (arith, ap length is, length-append (z ∷ xs ++ x ∷ []) (y ∷ []), length-append (z ∷ xs) (x ∷ [])))

-- one ticket alone is below 1
only_zero : (ticket tail n : ℕ) → n ≡ 1 → tail ≡ 1 → n ≡ (if nat_lt ticket tail then 1 else 0) → ticket ≡ 0
only_zero ticket tail n one is test = grind (arith, nat_tests, one, is, test)

module _ {T : Type 0} where
  -- the passes of a queue that opens for two
  pub are_two : (q : QueueView) (passes : List (CallerView T)) → OpensWith q 1 2 → passes ≡ fresh_passes q → passes ≡ fresh q 0 ∷ fresh q 1 ∷ []
  are_two q passes opens is = is ∙ ap (λ (s : Start). map (fresh q) (upto s.seats)) opens.cells

  -- the pass has at most found no room
  pub record HasLooked (q : QueueView) (p r : CallerView T) : Type 0 where
    pub together : IsOf q r
    pub free : PassView
    pub is : r ≡ with_free p free

  pub looked_again : (q : QueueView) (p r s : CallerView T) (item : T) (put : Result ℕ (Full T)) (full : Full T) → HasLooked q p r → IsOf q s → put ≡ Err full → MatchResult put (λ ticket. MadePut r ticket item s) (λ full. (full.item ≡ item) × MetFull r s)
      → HasLooked q p s × (full.item ≡ item)
  looked_again q p r s item put full was together is outcome =
      let found : (full.item ≡ item) × MetFull r s = subst (λ (x : Result ℕ (Full T)). MatchResult x (λ ticket. MadePut r ticket item s) (λ full. (full.item ≡ item) × MetFull r s)) is outcome in
      (record { together = together; free = s.passes.free; is = found.1.1 ∙ ap (λ (x : CallerView T). with_free x s.passes.free) was.is }, found.0)

  pub has_given : (q : QueueView) (p r s : CallerView T) (item given : T) (put : Result ℕ (Full T)) (ticket : ℕ) → HasLooked q p r → IsOf q s → s.seat.number ≡ r.seat.number → item ≡ given → put ≡ Ok ticket
      → MatchResult put (λ ticket. MadePut r ticket item s) (λ full. (full.item ≡ item) × MetFull r s) → HasGiven q p given s
  has_given q p r s item given put ticket was together named same is outcome =
      let found : MadePut r ticket item s = subst (λ (x : Result ℕ (Full T)). MatchResult x (λ ticket. MadePut r ticket item s) (λ full. (full.item ≡ item) × MetFull r s)) is outcome in
      record {
        together = together;
        named = named ∙ ap (λ (x : CallerView T). x.seat.number) was.is;
        free = was.free;
        ticket = ticket;
        put = subst (λ (x : CallerView T). MadePut x ticket given s) was.is (subst (λ (x : T). MadePut r ticket x s) same found);
      }

  -- the pass has at most found no item
  pub record HasSought (q : QueueView) (p r : CallerView T) : Type 0 where
    pub together : IsOf q r
    pub items : PassView
    pub is : r ≡ with_items p items

  pub sought_again : (q : QueueView) (p r s : CallerView T) (taken : Result (ℕ × T) Empty) (empty : Empty) → HasSought q p r → IsOf q s → taken ≡ Err empty → MatchResult taken (λ both. MadeTake r both.0 both.1 s) (λ _. MetEmpty r s) → HasSought q p s
  sought_again q p r s taken empty was together is outcome =
      let found : MetEmpty r s = subst (λ (x : Result (ℕ × T) Empty). MatchResult x (λ both. MadeTake r both.0 both.1 s) (λ _. MetEmpty r s)) is outcome in
      record { together = together; items = s.passes.items; is = found.1 ∙ ap (λ (x : CallerView T). with_items x s.passes.items) was.is }

  pub has_got : (q : QueueView) (p r s : CallerView T) (taken : Result (ℕ × T) Empty) (ticket : ℕ) (item : T) → HasSought q p r → IsOf q s → s.seat.number ≡ r.seat.number → taken ≡ Ok (ticket, item)
      → MatchResult taken (λ both. MadeTake r both.0 both.1 s) (λ _. MetEmpty r s) → HasGot q p item s
  has_got q p r s taken ticket item was together named is outcome =
      let found : MadeTake r ticket item s = subst (λ (x : Result (ℕ × T) Empty). MatchResult x (λ both. MadeTake r both.0 both.1 s) (λ _. MetEmpty r s)) is outcome in
      record {
        together = together;
        named = named ∙ ap (λ (x : CallerView T). x.seat.number) was.is;
        items = was.items;
        ticket = ticket;
        taken = subst (λ (x : CallerView T). MadeTake x ticket item s) was.is found;
      }

  -- what was put under a ticket, as a seat has seen it, stays in the book
  stays_there : (seen log : List (Event T)) (ticket : ℕ) (item : T) (start : Start) → IsExact start log → IsPrefix seen log → puts ticket seen ≡ item ∷ [] → puts ticket log ≡ item ∷ []
  stays_there seen log ticket item start exact begins under = ap (puts ticket) (sym begins.1) ∙ (puts_and_takes_stay start seen begins.0 ticket (subst (IsExact start) (sym begins.1) exact)).0 item under

  module _ (q : QueueView) (giver taker first second : CallerView T) (item got : T) (book : BookView T) (opens : OpensWith q 1 2) (giver_is : giver ≡ fresh q 0) (taker_is : taker ≡ fresh q 1)
      (gave : HasGiven q giver item first) (took : HasGot q taker got second) (closed : IsClosed q (first ∷ second ∷ []) book) (sound : IsSound book) where
    tail_is : IsBookOf q.funnels.tail first.passes.tail second.passes.tail book.funnels.tail
    tail_is =
        is_book q.funnels.tail first.passes.tail second.passes.tail (first.passes.tail ∷ second.passes.tail ∷ []) book.funnels.tail refl opens.funnels.0.shape.0 gave.together.1.0 (gave.put.0.drawn.same.1 ∙ ap (λ (p : CallerView T). p.passes.tail.number) giver_is)
        took.together.1.0 (ap (λ (p : PassView). p.number) took.taken.0.kept ∙ ap (λ (p : CallerView T). p.passes.tail.number) taker_is) closed.funnels.0

    pub one_ticket : value_of book.funnels.tail ≡ 1
    one_ticket =
        let up = added_up giver.passes.tail first.passes.tail gave.ticket (ap (λ (p : CallerView T). own_answers p.passes.tail) giver_is ∙ none_yet q.funnels.tail 0) gave.put.0.drawn in
        let none : own_answers second.passes.tail ≡ [] = ap own_answers took.taken.0.kept ∙ ap (λ (p : CallerView T). own_answers p.passes.tail) taker_is ∙ none_yet q.funnels.tail 1 in
        let opening : q.funnels.tail.start.opening ≡ 0 = opens.funnels.0.opening in
        let cap : q.funnels.tail.start.cap ≡ 9223372036854775807 = opens.funnels.0.cap in
        omega (arith, count_of q.funnels.tail first.passes.tail second.passes.tail 1 0 book.funnels.tail tail_is up.0 up.1 (ap raised none) (ap lowered none) (omega (arith, opening, cap)), opening)

    pub same_item : got ≡ item
    same_item =
        let exact = closed.cells.exact in
        let log : List (Event T) = book.cells.log in
        let put = stays_there first.seat.log log gave.ticket item book.cells.start exact (closed.cells.each 0 first.seat refl).begins gave.put.1.under in
        let taken = stays_there second.seat.log log took.ticket got book.cells.start exact (closed.cells.each 1 second.seat refl).begins took.taken.1.under in
        let zero_put : gave.ticket ≡ 0 = only_zero gave.ticket (value_of book.funnels.tail) (length (puts gave.ticket log)) (ap length put) one_ticket (sound.puts gave.ticket) in
        let zero_taken : took.ticket ≡ 0 = only_zero took.ticket (value_of book.funnels.tail) (length (puts took.ticket log)) (ap length taken) one_ticket (sound.puts took.ticket) in
        let both : got ∷ [] ≡ item ∷ [] = sym taken ∙ ap (λ n. puts n log) (zero_taken ∙ sym zero_put) ∙ put in
        cc
