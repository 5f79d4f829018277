-- The item is put, or there was no room yet.
use Rattle.std.proofs.Common.{refl, sym, ◌∙◌, subst}
use Rattle.uses.proofs.Handed.{HasLooked, looked_again, has_given}
use Rattle.uses.proofs.handing.give.Goals.{then-left-gt0+in-Err, else-left-gt0}
use Rattle.uses.proofs.handing.give.Goals as goal

pub loop-init : goal.loop-init
loop-init g c = (tt, tt, record { together = c.requires; free = c.args.pass.passes.free; is = refl }, refl)

pub returns-in-Ok : goal.returns-in-Ok
returns-in-Ok g c =
    let put = c.try_put-next.ensures in
    has_given c.args.queue.now c.args.pass c.loop.pass c.try_put-next.result.0 c.loop.item c.args.item c.try_put-next.result.1 c.in-Ok.field-0 c.loop.invariant.2 put.together put.number c.loop.invariant.3 c.in-Ok.is put.made

pub loop-preserved : goal.loop-preserved
loop-preserved g c =
    elim c.if-left-gt0.branch [
      | then-left-gt0+in-Err w ↦
          let put = w.try_put-next.ensures in
          let looked = looked_again c.args.queue.now c.args.pass c.loop.pass w.try_put-next.result.0 c.loop.item w.try_put-next.result.1 w.in-Err.full c.loop.invariant.2 put.together w.in-Err.is put.made in
          (tt, tt, subst (HasLooked c.args.queue.now c.args.pass) (sym w.pass-is) looked.0, w.item-is ∙ looked.1 ∙ c.loop.invariant.3)
      | else-left-gt0 w ↦ (tt, tt, subst (HasLooked c.args.queue.now c.args.pass) (sym w.pass-is) c.loop.invariant.2, w.item-is ∙ c.loop.invariant.3)
    ]
