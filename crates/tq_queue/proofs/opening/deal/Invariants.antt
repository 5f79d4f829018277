use Rattle.std.proofs.Common.{◌≡◌, ◌-◌, ◌++◌, map}
use Rattle.std.specs.Vec.Iter.{into_iter_items, into_iter_len}
use Rattle.fn_table.specs.Seen as funnels
use Rattle.running.specs.Running.{numbers_from}
use Rattle.tq_cells.specs.Seen as seats_of
use Rattle.tq_queue.specs.Fours.{pick, AllFour}
use Rattle.tq_queue.specs.Seen.{fresh, fresh_passes}
use Rattle.tq_queue.proofs.Dealing.{IsLeft}
use Rattle.tq_queue.proofs.opening.deal.Given as goal

abbrev pub invariant-loop-number : goal.invariant-loop-number
invariant-loop-number g l =
    IsLeft (seats_of.fresh l.queue.cells) l._number l.count (into_iter_items l.seats) (into_iter_len l.seats)
    × AllFour (λ w. IsLeft (funnels.fresh (pick w l.queue.funnels)) l._number l.count (into_iter_items (pick w l.rest)) (into_iter_len (pick w l.rest)))
    × (l.all.items ++ map (fresh l.queue) (numbers_from l._number (l.count - l._number)) ≡ fresh_passes l.queue)
