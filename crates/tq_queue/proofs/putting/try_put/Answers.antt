-- The pass that was handed in, the one that is given back, and that the calls between them are a put, or one that finds no room.
use Rattle.std.proofs.Common.{ℕ, refl, subst}
use Rattle.fn_model.specs.declared.Kind.TheVariants.{Sub}
use Rattle.fn_table.specs.Claims.{Made}
use Rattle.tq_queue.specs.Seen.{CallerView, with_free}
use Rattle.tq_queue.specs.Claims.{MadePut}
use Rattle.tq_queue.specs.Moves.{HasPut}
use Rattle.tq_queue.proofs.Done.{made_put}
use Rattle.tq_queue.proofs.Keeping.{kept_full, kept_put, put_of}
use Rattle.tq_queue.proofs.putting.try_put.Goals as goal

pub invariant_of-pass : goal.invariant_of-pass
invariant_of-pass g c =
    let p : CallerView g.row.T.Denot = record { seat = c.pass.inside.seat; passes = c.pass.inside.passes } in
    let q : CallerView g.row.T.Denot = with_free p c.sub-free.result.0 in
    kept_full p c.pass.invariant q (subst (λ (n : ℕ). Made p.passes.free Sub 1 n q.passes.free) c.if-room-eq0.true c.sub-free.ensures.made, refl)

pub invariant_of-pass-2 : goal.invariant_of-pass-2
invariant_of-pass-2 g c =
    let p : CallerView g.row.T.Denot = record { seat = c.pass.inside.seat; passes = c.pass.inside.passes } in
    let q : CallerView g.row.T.Denot = record { seat = c.place_in_turn.new.seat; passes = record { tail = c.add-tail.result.0; head = c.pass.inside.passes.head; free = c.sub-free.result.0; items = c.add-items.result.0 } } in
    kept_put p q c.pass.invariant c.add-tail.result.1.before c.args.item
    (made_put p q c.args.item c.sub-free.result.1.before c.add-tail.result.1.before c.add-items.result.1.before c.sub-free.ensures.made c.if-room-eq0.false c.add-tail.ensures.made c.add-items.ensures.made refl c.place_in_turn.ensures.same c.place_in_turn.ensures.placed)

pub returns-clause-made : goal.returns-clause-made
returns-clause-made g c =
    let p : CallerView g.row.T.Denot = record { seat = c.pass.inside.seat; passes = c.pass.inside.passes } in
    let q : CallerView g.row.T.Denot = record { seat = c.place_in_turn.new.seat; passes = record { tail = c.add-tail.result.0; head = c.pass.inside.passes.head; free = c.sub-free.result.0; items = c.add-items.result.0 } } in
    subst (λ (x : CallerView g.row.T.Denot). MadePut x c.add-tail.result.1.before c.args.item q) c.pass.view_is
    (made_put p q c.args.item c.sub-free.result.1.before c.add-tail.result.1.before c.add-items.result.1.before c.sub-free.ensures.made c.if-room-eq0.false c.add-tail.ensures.made c.add-items.ensures.made refl c.place_in_turn.ensures.same c.place_in_turn.ensures.placed)

pub returns-clause-way : goal.returns-clause-way
returns-clause-way g c =
    let p : CallerView g.row.T.Denot = record { seat = c.pass.inside.seat; passes = c.pass.inside.passes } in
    let q : CallerView g.row.T.Denot = record { seat = c.place_in_turn.new.seat; passes = record { tail = c.add-tail.result.0; head = c.pass.inside.passes.head; free = c.sub-free.result.0; items = c.add-items.result.0 } } in
    let put = put_of p q c.args.item c.sub-free.result.1 c.add-tail.result.1 c.add-items.result.1 c.sub-free.ensures.way c.if-room-eq0.false c.add-tail.ensures.way c.add-items.ensures.way refl c.place_in_turn.ensures.placed in
    subst (λ (x : CallerView g.row.T.Denot). HasPut x c.add-tail.result.1.before c.args.item q) c.pass.view_is put
