-- The pass that was handed in, the one that is given back, and that the calls between them are a take, or one that finds no item.
use Rattle.std.proofs.Common.{ℕ, refl, subst}
use Rattle.fn_model.specs.declared.Kind.TheVariants.{Sub}
use Rattle.fn_table.specs.Claims.{Made}
use Rattle.tq_queue.specs.Seen.{CallerView, with_items}
use Rattle.tq_queue.specs.Claims.{MadeTake}
use Rattle.tq_queue.specs.Moves.{HasTaken}
use Rattle.tq_queue.proofs.Done.{made_take}
use Rattle.tq_queue.proofs.Keeping.{kept_empty, kept_taken, taken_of}
use Rattle.tq_queue.proofs.taking.try_take.Goals as goal

pub invariant_of-pass : goal.invariant_of-pass
invariant_of-pass g c =
    let p : CallerView g.row.T.Denot = record { seat = c.pass.inside.seat; passes = c.pass.inside.passes } in
    let q : CallerView g.row.T.Denot = with_items p c.sub-items.result.0 in
    kept_empty p c.pass.invariant q (subst (λ (n : ℕ). Made p.passes.items Sub 1 n q.passes.items) c.if-there-eq0.true c.sub-items.ensures.made, refl)

pub invariant_of-pass-2 : goal.invariant_of-pass-2
invariant_of-pass-2 g c =
    let p : CallerView g.row.T.Denot = record { seat = c.pass.inside.seat; passes = c.pass.inside.passes } in
    let q : CallerView g.row.T.Denot = record { seat = c.remove_in_turn-item.new.seat; passes = record { tail = c.pass.inside.passes.tail; head = c.add-head.result.0; free = c.add-free.result.0; items = c.sub-items.result.0 } } in
    kept_taken p q c.pass.invariant c.add-head.result.1.before c.remove_in_turn-item.result
    (made_take p q c.remove_in_turn-item.result c.sub-items.result.1.before c.add-head.result.1.before c.add-free.result.1.before c.sub-items.ensures.made c.if-there-eq0.false c.add-head.ensures.made c.add-free.ensures.made refl c.remove_in_turn-item.ensures.same c.remove_in_turn-item.ensures.taken)

pub returns-clause-made : goal.returns-clause-made
returns-clause-made g c =
    let p : CallerView g.row.T.Denot = record { seat = c.pass.inside.seat; passes = c.pass.inside.passes } in
    let q : CallerView g.row.T.Denot = record { seat = c.remove_in_turn-item.new.seat; passes = record { tail = c.pass.inside.passes.tail; head = c.add-head.result.0; free = c.add-free.result.0; items = c.sub-items.result.0 } } in
    subst (λ (x : CallerView g.row.T.Denot). MadeTake x c.add-head.result.1.before c.remove_in_turn-item.result q) c.pass.view_is
    (made_take p q c.remove_in_turn-item.result c.sub-items.result.1.before c.add-head.result.1.before c.add-free.result.1.before c.sub-items.ensures.made c.if-there-eq0.false c.add-head.ensures.made c.add-free.ensures.made refl c.remove_in_turn-item.ensures.same c.remove_in_turn-item.ensures.taken)

pub returns-clause-way : goal.returns-clause-way
returns-clause-way g c =
    let p : CallerView g.row.T.Denot = record { seat = c.pass.inside.seat; passes = c.pass.inside.passes } in
    let q : CallerView g.row.T.Denot = record { seat = c.remove_in_turn-item.new.seat; passes = record { tail = c.pass.inside.passes.tail; head = c.add-head.result.0; free = c.add-free.result.0; items = c.sub-items.result.0 } } in
    let taken = taken_of p q c.remove_in_turn-item.result c.sub-items.result.1 c.add-head.result.1 c.add-free.result.1 c.sub-items.ensures.way c.if-there-eq0.false c.add-head.ensures.way c.add-free.ensures.way refl c.remove_in_turn-item.ensures.taken in
    subst (λ (x : CallerView g.row.T.Denot). HasTaken x c.add-head.result.1.before c.remove_in_turn-item.result q) c.pass.view_is taken
