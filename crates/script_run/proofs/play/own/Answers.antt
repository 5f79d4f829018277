use Rattle.std.proofs.Common.{arith, ◌≡◌, ◌+◌, ap}
use Rattle.fn_core.specs.Calls.{left_of, own_moves}
use Rattle.script_run.specs.declared.lines.LineAnswer.TheVariants.{Reply}
use Rattle.script_run.proofs.Leaving.{leaves-by}
use Rattle.script_run.proofs.play.own.Goals as goal

pub returns-in-Ok : goal.returns-in-Ok
returns-in-Ok c =
    let spent : left_of c.own.new.self c.args.pass + c.args.amount ≡ left_of c.args.core.now c.args.pass = c.in-Ok.ensures.spends in (
      c.in_ok-want_rest.ensures.fault,
      ap Reply c.in-Ok.ensures.met,
      c.in-Ok.ensures.taken,
      leaves-by _ _ _ _ (own_moves c.args.core.now.start.cap c.args.kind c.args.amount) c.in-Ok.ensures.taken (omega arith) (λ busy. absurd (busy c.in-Ok.ensures.idle)) c.in-Ok.ensures.others,
    )
