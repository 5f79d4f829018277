-- The laws that crates above may cite, and these alone.
--     calls_are_answered, books_have_answers, answers_are_shared      what calls meet, and what the book of a closed funnel has
--     told_grows, own_puts_grow, own_takes_grow      what a deed adds to what the entries of its seat tell
--     seats_have_passes, entries_have_seats, entries_are_of_passes, none_beyond      whose the entries of a closed queue are
--     tail_counts_puts, head_counts_takes, puts_have_seats      how many tickets its seats put and took
--     lengths_are_shared, numbers_stand_once, splits_tell      parts by a key, numbers from 0 on, and what stands between two parts
use Rattle.std.proofs.Common.{◌≡◌, ℕ, List, [], ◌∷◌, ◌++◌, refl, ◌∙◌}
use Rattle.std.specs.Prelude.{◌==◌, All, count_by, flat_map, nat_lt, if◌then◌else◌}
use Rattle.running.specs.Running.{upto}
use Rattle.tq_cells.specs.declared.entry.Entry.{Entry}
use Rattle.tq_cells.specs.declared.entry.Event.{Event}
use Rattle.tq_cells.specs.Seen.{SeatView, entries_of}
use Rattle.tq_queue.specs.Claims.{deed, deeds}
use Rattle.tq_queue.specs.Kept.{own_puts, own_takes, ticket_put, ticket_taken}
use Rattle.tq_queue.proofs.Counting.{tally}
use Rattle.tq_queue.proofs.Done.{done_more, done_puts, done_takes}
use Rattle.tq_queue.proofs.Parts.{all_between}
use Rattle.tq_queue.proofs.Sound.{from_zero}
pub use Rattle.tq_queue.proofs.Told.{calls_are_answered}
pub use Rattle.tq_queue.proofs.Sound.{books_have_answers}
pub use Rattle.tq_queue.proofs.Sharing.{answers_are_shared}
pub use Rattle.tq_queue.proofs.Seats.{seats_have_passes, entries_have_seats, entries_are_of_passes, none_beyond}
pub use Rattle.tq_queue.proofs.Totals.{lengths_are_shared, tail_counts_puts, head_counts_takes, puts_have_seats}

-- what entries tell is told by deeds alone, so a deed adds what it tells
pub told_grows : {T X : Type 0} (f : Entry T → List X) → ((entry : Entry T) → f entry ≡ flat_map f (deed entry)) → (p : SeatView T) (did : Entry T) (q : SeatView T) → deeds q ≡ deeds p ++ did ∷ []
    → flat_map (λ (e : Event T). f e.entry) (entries_of q.number q.log) ≡ flat_map (λ (e : Event T). f e.entry) (entries_of p.number p.log) ++ f did
told_grows f alike p did q is = done_more f alike p did q is

-- .. as the tickets that it puts
pub own_puts_grow : {T : Type 0} (p : SeatView T) (did : Entry T) (q : SeatView T) → deeds q ≡ deeds p ++ did ∷ [] → own_puts q ≡ own_puts p ++ ticket_put did
own_puts_grow p did q is = done_puts p did q is

-- .. and those that it takes
pub own_takes_grow : {T : Type 0} (p : SeatView T) (did : Entry T) (q : SeatView T) → deeds q ≡ deeds p ++ did ∷ [] → own_takes q ≡ own_takes p ++ ticket_taken did
own_takes_grow p did q is = done_takes p did q is

-- each number below n stands once among those from 0 on
pub numbers_stand_once : (number n : ℕ) → count_by (λ x. x == number) (upto n) ≡ (if nat_lt number n then 1 else 0)
numbers_stand_once number n = tally number 0 n ∙ from_zero number n

-- what holds of whatever stands between two parts of a list holds of all of it
pub splits_tell : {X : Type 0} (P : X → Type 0) (xs : List X) → ((before after : List X) (x : X) → xs ≡ before ++ x ∷ after → P x) → All P xs
splits_tell P xs each = all_between P [] xs xs refl each
