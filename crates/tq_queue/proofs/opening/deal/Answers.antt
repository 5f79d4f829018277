-- Each turn deals out the next of each list.
use Rattle.std.proofs.Common.{ℕ, ◌-◌, ◌+◌, ◌++◌, List, length, map, sym, ◌∙◌, ap}
use Rattle.std.specs.Vec.Iter.{into_iter_items, into_iter_len}
use Rattle.running.specs.Running.{numbers_from}
use Rattle.fn_table.specs.Seen as funnels
use Rattle.tq_cells.specs.Seen as seats_of
use Rattle.tq_queue.specs.Fours.{pick}
use Rattle.tq_queue.specs.Seen.{QueueView, CallerView, fresh, fresh_passes}
use Rattle.tq_queue.proofs.Dealing.{left_all, dealt, left_next, each_dealt, each_left, all_dealt, all_first, kept_dealt, passes_of, seats_are}
use Rattle.tq_queue.proofs.opening.deal.Goals as goal

pub loop-number-init : goal.loop-number-init
loop-number-init g c =
    let q : QueueView = c.args.queue.now in
    let n : ℕ = c.args.count in
    let f = c.requires.queue.funnels in (
      left_all (seats_of.fresh q.cells) n q.cells.start.seats (into_iter_items c.into_iter-seats.result) (into_iter_len c.into_iter-seats.result) (c.into_iter-seats.ensures.rest ∙ c.requires.seats) (seats_are q q.cells.start.capacity n c.requires.queue) (c.into_iter-seats.ensures.len ∙ c.args.seats.ok.0 ∙ ap length (sym c.into_iter-seats.ensures.rest)),
      (
        left_all (funnels.fresh q.funnels.tail) n q.funnels.tail.start.shape.passes (into_iter_items c.into_iter-tail.result) (into_iter_len c.into_iter-tail.result) (c.into_iter-tail.ensures.rest ∙ c.requires.passes.0) (passes_of q.funnels.tail n 0 f.0) (c.into_iter-tail.ensures.len ∙ c.args.passes.tail.ok.0 ∙ ap length (sym c.into_iter-tail.ensures.rest)),
        left_all (funnels.fresh q.funnels.head) n q.funnels.head.start.shape.passes (into_iter_items c.into_iter-head.result) (into_iter_len c.into_iter-head.result) (c.into_iter-head.ensures.rest ∙ c.requires.passes.1) (passes_of q.funnels.head n 0 f.1) (c.into_iter-head.ensures.len ∙ c.args.passes.head.ok.0 ∙ ap length (sym c.into_iter-head.ensures.rest)),
        left_all (funnels.fresh q.funnels.free) n q.funnels.free.start.shape.passes (into_iter_items c.into_iter-free.result) (into_iter_len c.into_iter-free.result) (c.into_iter-free.ensures.rest ∙ c.requires.passes.2) (passes_of q.funnels.free n q.cells.start.capacity f.2) (c.into_iter-free.ensures.len ∙ c.args.passes.free.ok.0 ∙ ap length (sym c.into_iter-free.ensures.rest)),
        left_all (funnels.fresh q.funnels.items) n q.funnels.items.start.shape.passes (into_iter_items c.into_iter-items.result) (into_iter_len c.into_iter-items.result) (c.into_iter-items.ensures.rest ∙ c.requires.passes.3) (passes_of q.funnels.items n 0 f.3) (c.into_iter-items.ensures.len ∙ c.args.passes.items.ok.0 ∙ ap length (sym c.into_iter-items.ensures.rest)),
      ),
      all_first (fresh q) n q.cells.start.seats c.new-all.result.items (seats_are q q.cells.start.capacity n c.requires.queue) c.new-all.ensures.items,
    )

pub invariant_of-pass : goal.invariant_of-pass
invariant_of-pass g c =
    let q : QueueView = c.args.queue.now in
    let n : ℕ = c.args.count in
    let k : ℕ = c.loop-number._number in
    let all = c.loop-number.invariant in
    (kept_dealt q n c.requires.queue c.requires.sizes k c.next_of-seat.result c.next_of_each-passes.result (dealt (seats_of.fresh q.cells) k n (into_iter_items c.loop-number.seats) (into_iter_items c.next_of-seat.new.rest) (into_iter_len c.loop-number.seats) (into_iter_len c.next_of-seat.new.rest) c.next_of-seat.result c.loop-number-test.true all.0 c.next_of-seat.ensures.items c.next_of-seat.ensures.len) (each_dealt q k n (λ w. into_iter_items (pick w c.loop-number.rest)) (λ w. into_iter_items (pick w c.next_of_each-passes.new.rest)) (λ w. into_iter_len (pick w c.loop-number.rest)) (λ w. into_iter_len (pick w c.next_of_each-passes.new.rest)) c.next_of_each-passes.result c.loop-number-test.true all.1 c.next_of_each-passes.ensures.items c.next_of_each-passes.ensures.len)).1

pub loop-number-preserved : goal.loop-number-preserved
loop-number-preserved g c =
    let q : QueueView = c.args.queue.now in
    let n : ℕ = c.args.count in
    let k : ℕ = c.loop-number._number in
    let all = c.loop-number.invariant in
    let p : CallerView g.row.T.Denot = record { seat = c.next_of-seat.result; passes = c.next_of_each-passes.result } in
    let made = (kept_dealt q n c.requires.queue c.requires.sizes k c.next_of-seat.result c.next_of_each-passes.result (dealt (seats_of.fresh q.cells) k n (into_iter_items c.loop-number.seats) (into_iter_items c.next_of-seat.new.rest) (into_iter_len c.loop-number.seats) (into_iter_len c.next_of-seat.new.rest) c.next_of-seat.result c.loop-number-test.true all.0 c.next_of-seat.ensures.items c.next_of-seat.ensures.len) (each_dealt q k n (λ w. into_iter_items (pick w c.loop-number.rest)) (λ w. into_iter_items (pick w c.next_of_each-passes.new.rest)) (λ w. into_iter_len (pick w c.loop-number.rest)) (λ w. into_iter_len (pick w c.next_of_each-passes.new.rest)) c.next_of_each-passes.result c.loop-number-test.true all.1 c.next_of_each-passes.ensures.items c.next_of_each-passes.ensures.len)).0 in (
      left_next (seats_of.fresh q.cells) k n (into_iter_items c.loop-number.seats) (into_iter_items c.next_of-seat.new.rest) (into_iter_len c.loop-number.seats) (into_iter_len c.next_of-seat.new.rest) c.next_of-seat.result c.loop-number-test.true all.0 c.next_of-seat.ensures.items c.next_of-seat.ensures.len,
      each_left q k n (λ w. into_iter_items (pick w c.loop-number.rest)) (λ w. into_iter_items (pick w c.next_of_each-passes.new.rest)) (λ w. into_iter_len (pick w c.loop-number.rest)) (λ w. into_iter_len (pick w c.next_of_each-passes.new.rest)) c.next_of_each-passes.result c.loop-number-test.true all.1 c.next_of_each-passes.ensures.items c.next_of_each-passes.ensures.len,
      ap (λ (xs : List (CallerView g.row.T.Denot)). xs ++ map (fresh q) (numbers_from (k + 1) (n - (k + 1)))) c.in_ok-push.ensures.items ∙ all_dealt (fresh q) k n c.loop-number.all.items (fresh_passes q) p c.loop-number-test.true made all.2,
    )
