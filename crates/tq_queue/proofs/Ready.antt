-- The parts of the passes of a queue are what its cells and its funnels close over.
use Rattle.std.proofs.Common.{◌≡◌, ℕ, zero, suc, ◌≤◌, List, map, length, refl, sym, ◌∙◌, ap, subst, arith}
use Rattle.std.specs.Prelude.{All}
use Rattle.std.proofs.lemmas.List.{length-map}
use Rattle.std.proofs.lemmas.List.Elements.{All-weaker}
use Rattle.running.specs.Running.{upto, numbers_from}
use Rattle.fn_core.specs.Calls.{CoreLog, IsIdle}
use Rattle.fn_table.specs.Seen.{TableView, PassView}
use Rattle.fn_table.specs.Seen as table
use Rattle.tq_cells.specs.Seen as cells
use Rattle.tq_queue.specs.declared.rooms.Parts.{Parts}
use Rattle.tq_queue.specs.declared.fours.Four.{Four}
use Rattle.tq_queue.specs.Fours.{pick, AllFour}
use Rattle.tq_queue.specs.Seen.{QueueView, CallerView, Begins, first_of, HasClosed, IsOf, AreAll}
use Rattle.tq_queue.specs.Kept.{IsOpen, Keeps}
use Rattle.tq_queue.specs.Shares.{HoldsParts, IsReady}
use Rattle.tq_queue.proofs.Each.{each_of, all_of}
use Rattle.tq_queue.proofs.Parts.{all_parts, all_both, numbers_same}

-- what the closing of cells asks of their seats
pub record AreReady {T : Type 0} (c : cells.CellsView) (seats : List (cells.SeatView T)) : Type 0 where
  pub together : All (cells.IsOf c) seats
  pub all : cells.AreAll c seats

pub record AllReady {T : Type 0} (q : QueueView) (r : Parts T) : Type 0 where
  pub seats : AreReady q.cells r.seats.items
  pub passes : AllFour (λ w. IsReady (pick w q.funnels) (pick w r.passes).items)

sized : (first count : ℕ) → length (numbers_from first count) ≡ count
sized first zero = refl
sized first (suc count) = let rest : length (numbers_from (suc first) count) ≡ count = sized (suc first) count in omega arith

module _ {T : Type 0} (q : QueueView) (ps : List (CallerView T)) (is_open : IsOpen q) (all : AreAll q ps) (together : All (IsOf q) ps) (kept : All Keeps ps) where
  abbrev both : All (λ (p : CallerView T). IsOf q p × Keeps p) ps
  both = all_both (IsOf q) Keeps ps together kept

  -- one funnel
  ready_one : (t : TableView) (first : ℕ) (part : CallerView T → PassView) (passes : List PassView) → Begins q.cells.start.seats first t.start → passes ≡ map part ps
      → ((p : CallerView T) → IsOf q p × Keeps p → table.IsOf t (part p)) → ((p : CallerView T) → IsOf q p × Keeps p → (part p).number ≡ p.seat.number) → ((p : CallerView T) → IsOf q p × Keeps p → IsIdle (part p).seen (part p).number)
      → IsReady t passes
  ready_one t first part passes begins are of number idle = record {
    together = subst (All (table.IsOf t)) (sym are) (all_parts (λ (p : CallerView T). IsOf q p × Keeps p) (table.IsOf t) part of ps both);
    all = ap (map (λ (p : PassView). p.number)) are ∙ numbers_same part (λ (p : CallerView T). p.seat.number) (λ (p : PassView). p.number) ps (each number ps both) ∙ all ∙ ap upto (sym begins.shape.0);
    idle = subst (All (λ (p : PassView). IsIdle p.seen p.number)) (sym are) (all_parts (λ (p : CallerView T). IsOf q p × Keeps p) (λ (p : PassView). IsIdle p.seen p.number) part idle ps both);
  }
    where
      each : ((p : CallerView T) → IsOf q p × Keeps p → (part p).number ≡ p.seat.number) → (xs : List (CallerView T)) → All (λ (p : CallerView T). IsOf q p × Keeps p) xs → All (λ (p : CallerView T). (part p).number ≡ p.seat.number) xs
      each same xs h = All-weaker (λ (p : CallerView T). IsOf q p × Keeps p) (λ (p : CallerView T). (part p).number ≡ p.seat.number) same xs h

  -- the seats
  ready_seats : (seats : List (cells.SeatView T)) → seats ≡ map (λ (p : CallerView T). p.seat) ps → AreReady q.cells seats
  ready_seats seats are = record {
    together = subst (All (cells.IsOf q.cells)) (sym are) (all_parts (λ (p : CallerView T). IsOf q p × Keeps p) (cells.IsOf q.cells) (λ (p : CallerView T). p.seat) (λ p h. h.0.0) ps both);
    all = ap (map (λ (s : cells.SeatView T). s.number)) are ∙ numbers_same (λ (p : CallerView T). p.seat) (λ (p : CallerView T). p.seat.number) (λ (s : cells.SeatView T). s.number) ps (All-weaker (λ (p : CallerView T). IsOf q p × Keeps p) (λ (p : CallerView T). p.seat.number ≡ p.seat.number) (λ p h. refl) ps both) ∙ all;
  }

  pub ready : (r : Parts T) → HoldsParts ps r → AllReady q r
  ready r are = record {
    seats = ready_seats r.seats.items are.seats;
    passes = all_of (λ w. IsReady (pick w q.funnels) (pick w r.passes).items) (λ w.
        ready_one (pick w q.funnels) (first_of q.cells.start.capacity w) (λ p. pick w p.passes) (pick w r.passes).items
        (each_of (λ v. Begins q.cells.start.seats (first_of q.cells.start.capacity v) (pick v q.funnels).start) is_open.begin w)
        (each_of (λ v. (pick v r.passes).items ≡ map (λ (p : CallerView T). pick v p.passes) ps) are.passes w)
        (λ p h. each_of (λ v. table.IsOf (pick v q.funnels) (pick v p.passes)) h.0.1 w)
        (λ p h. each_of (λ v. (pick v p.passes).number ≡ p.seat.number) h.1.numbers w)
        (λ p h. each_of (λ v. IsIdle (pick v p.passes).seen (pick v p.passes).number) h.1.idle w));
  }

-- there are no more passes than there is room for
pub few_passes : {T : Type 0} (q : QueueView) (ps : List (CallerView T)) → AreAll q ps → IsOpen q → length ps ≤ 64
few_passes q ps all is_open =
    let count : length ps ≡ q.cells.start.seats = sym (length-map ps (λ (p : CallerView _). p.seat.number)) ∙ ap length all ∙ sized 0 q.cells.start.seats in
    omega (arith, count, is_open.sizes.3)

-- the funnels have closed over the parts of the passes
pub has_closed : {T : Type 0} (q : QueueView) (ps : List (CallerView T)) (r : Parts T) (books : Four CoreLog) → HoldsParts ps r → AllFour (λ w. HasClosed (pick w q.funnels) (pick w r.passes).items (pick w books))
    → AllFour (λ w. HasClosed (pick w q.funnels) (map (λ (p : CallerView T). pick w p.passes) ps) (pick w books))
has_closed {T} q ps r books are closed = all_of (λ w. HasClosed (pick w q.funnels) (map (λ (p : CallerView T). pick w p.passes) ps) (pick w books)) (λ w.
    subst (λ (xs : List PassView). HasClosed (pick w q.funnels) xs (pick w books))
    (each_of (λ v. (pick v r.passes).items ≡ map (λ (p : CallerView T). pick v p.passes) ps) are.passes w)
    (each_of (λ v. HasClosed (pick v q.funnels) (pick v r.passes).items (pick v books)) closed w))
