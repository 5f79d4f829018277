-- Whose the entries of a closed queue are.
use Rattle.std.proofs.Common.{◌≡◌, ℕ, ◌≤◌, ◌<◌, List, [], ◌∷◌, map, Bool, false, cond, Some, slice_get, refl, sym, ◌∙◌, ap, arith}
use Rattle.std.specs.Prelude.{◌==◌, All}
use Rattle.std.proofs.lemmas.Bool.Decides.{nat_tests}
use Rattle.std.proofs.lemmas.List.Elements.{All-head, All-tail}
use Rattle.running.specs.Running.{upto}
use Rattle.tq_cells.specs.declared.entry.Event.{Event}
use Rattle.tq_cells.specs.Seen.{SeatView, entries_of}
use Rattle.tq_queue.specs.Seen.{QueueView, CallerView, BookView, AreAll, IsClosed}
use Rattle.tq_queue.proofs.Parts.{there, below, get-map, all_between}

-- a seat that there isn't has no entries
pub none_beyond : {T : Type 0} (n seat : ℕ) (log : List (Event T)) → All (λ (e : Event T). e.seat < n) log → n ≤ seat → entries_of seat log ≡ []
none_beyond n seat [] range beyond = refl
none_beyond {T} n seat (e ∷ log) range beyond =
    let P : Event T → Type 0 = λ x. x.seat < n in
    let here : e.seat < n = All-head P e log range in
    let other : (e.seat == seat) ≡ false = grind (arith, nat_tests) in
    ap (λ (b : Bool). cond b (e ∷ entries_of seat log) (entries_of seat log)) other ∙ none_beyond n seat log (All-tail P e log range) beyond

-- the pass of a seat
pub record HasPass {T : Type 0} (passes : List (CallerView T)) (seat : ℕ) : Type 0 where
  pub pass : CallerView T
  pub at : slice_get passes seat ≡ Some pass
  pub number : pass.seat.number ≡ seat

module _ {T : Type 0} (q : QueueView) (ps : List (CallerView T)) (all : AreAll q ps) where
  pub seats_have_passes : (seat : ℕ) → seat < q.cells.start.seats → HasPass ps seat
  seats_have_passes seat range = let here = there (λ (p : CallerView T). p.seat.number) q.cells.start.seats ps all seat range in record { pass = here.it; at = here.is; number = here.by }

  module _ (b : BookView T) (closed : IsClosed q ps b) where
    -- each entry is one of a seat
    pub entries_have_seats : All (λ (e : Event T). e.seat < q.cells.start.seats) b.cells.log
    entries_have_seats =
        all_between (λ (e : Event T). e.seat < q.cells.start.seats) [] b.cells.log b.cells.log refl (λ earlier later e is.
        let by = closed.cells.only earlier later e is in
        let inside : by.1.number < q.cells.start.seats = below (λ (s : SeatView T). s.number) q.cells.start.seats (map (λ (p : CallerView T). p.seat) ps) numbered_seats by.0 by.1 by.2 in
        omega (arith, by.3, inside))
      where
        twice : (xs : List (CallerView T)) → map (λ (s : SeatView T). s.number) (map (λ (p : CallerView T). p.seat) xs) ≡ map (λ (p : CallerView T). p.seat.number) xs
        twice [] = refl
        twice (x ∷ xs) = ap (λ (ns : List ℕ). x.seat.number ∷ ns) (twice xs)

        numbered_seats : map (λ (s : SeatView T). s.number) (map (λ (p : CallerView T). p.seat) ps) ≡ upto q.cells.start.seats
        numbered_seats = twice ps ∙ all

    -- the entries of a seat are those that its pass has made
    pub entries_are_of_passes : (seat : ℕ) (p : CallerView T) → slice_get ps seat ≡ Some p → p.seat.number ≡ seat → entries_of seat b.cells.log ≡ entries_of p.seat.number p.seat.log
    entries_are_of_passes seat p at number = ap (λ (k : ℕ). entries_of k b.cells.log) (sym number) ∙ (closed.cells.each seat p.seat (get-map (λ (x : CallerView T). x.seat) ps seat p at)).own
