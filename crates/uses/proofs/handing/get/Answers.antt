-- An item is taken, or there was none yet.
use Rattle.std.proofs.Common.{refl, sym, subst}
use Rattle.uses.proofs.Handed.{HasSought, sought_again, has_got}
use Rattle.uses.proofs.handing.get.Goals.{then-left-gt0+in-Err, else-left-gt0}
use Rattle.uses.proofs.handing.get.Goals as goal

pub loop-init : goal.loop-init
loop-init g c = (tt, tt, record { together = c.requires; items = c.args.pass.passes.items; is = refl })

pub returns-in-Ok : goal.returns-in-Ok
returns-in-Ok g c =
    let taken = c.try_take-next.ensures in
    has_got c.args.queue.now c.args.pass c.loop.pass c.try_take-next.result.0 c.try_take-next.result.1 c.in-Ok.field-0-0 c.in-Ok.item c.loop.invariant.2 taken.together taken.number c.in-Ok.is taken.made

pub loop-preserved : goal.loop-preserved
loop-preserved g c =
    elim c.if-left-gt0.branch [
      | then-left-gt0+in-Err w ↦
          let taken = w.try_take-next.ensures in
          let sought = sought_again c.args.queue.now c.args.pass c.loop.pass w.try_take-next.result.0 w.try_take-next.result.1 _ c.loop.invariant.2 taken.together w.in-Err.is taken.made in
          (tt, tt, subst (HasSought c.args.queue.now c.args.pass) (sym w.pass-is) sought)
      | else-left-gt0 w ↦ (tt, tt, subst (HasSought c.args.queue.now c.args.pass) (sym w.pass-is) c.loop.invariant.2)
    ]
