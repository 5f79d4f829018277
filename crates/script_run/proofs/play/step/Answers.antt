use Rattle.std.proofs.Common.{arith, ◌≡◌, ◌∙◌, ◌∷◌, [], ap}
use Rattle.fn_core.specs.Calls.{left_of, state_in}
use Rattle.fn_core.specs.Order.{next_move}
use Rattle.script_run.specs.Play.{told_answer}
use Rattle.script_run.proofs.Leaving.{leaves-by, underway-after}
use Rattle.script_run.proofs.play.step.Goals as goal

pub returns-in-Ok : goal.returns-in-Ok
returns-in-Ok c =
    let same : left_of c.step.new.self c.args.pass ≡ left_of c.args.core.now c.args.pass = c.in-Ok.ensures.spends in (
      c.in_ok-want_call.ensures.fault,
      c.told_answer.ensures ∙ ap told_answer c.in-Ok.ensures.told,
      c.in-Ok.ensures.taken,
      leaves-by _ _ _ 0 (next_move c.args.core.now.start (state_in c.args.core.now) c.args.pass ∷ []) c.in-Ok.ensures.taken (omega arith) (underway-after c.args.core.now c.step.new.self c.args.pass c.in-Ok.told c.in-Ok.ensures.follows) c.in-Ok.ensures.others,
    )
