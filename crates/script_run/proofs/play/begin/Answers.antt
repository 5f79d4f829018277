use Rattle.std.proofs.Common.{arith, ◌≡◌, ◌∙◌, ◌+◌, sym, ap}
use Rattle.fn_core.specs.State.{Caller}
use Rattle.fn_core.specs.Calls.{left_of, state_in}
use Rattle.fn_core.specs.Begin.{begin_moves}
use Rattle.script_run.specs.Play.{begun_answer}
use Rattle.script_run.proofs.Leaving.{leaves-by}
use Rattle.script_run.proofs.play.begin.Goals as goal

pub returns-in-Ok-Waiting : goal.returns-in-Ok-Waiting
returns-in-Ok-Waiting c =
    let spent : left_of c.begin.new.self c.args.pass + c.args.amount ≡ left_of c.args.core.now c.args.pass = rw c.in-Ok-Waiting.field-0-is at c.in-Ok-Waiting.ensures.spends in (
      c.in_ok-want_rest.ensures.fault,
      ap begun_answer (sym c.in-Ok-Waiting.field-0-is ∙ c.in-Ok-Waiting.ensures.told),
      c.in-Ok-Waiting.ensures.taken,
      leaves-by _ _ _ _ (begin_moves c.args.core.now.start (state_in c.args.core.now) c.args.pass c.args.kind c.args.amount) c.in-Ok-Waiting.ensures.taken (omega arith) (λ busy. (c.in-Ok-Waiting.ensures.waits c.in-Ok-Waiting.field-0-is).call) c.in-Ok-Waiting.ensures.others,
    )

pub returns-in-Ok-NoRow : goal.returns-in-Ok-NoRow
returns-in-Ok-NoRow c =
    let spent : left_of c.begin.new.self c.args.pass + 0 ≡ left_of c.args.core.now c.args.pass = rw c.in-Ok-NoRow.field-0-is at c.in-Ok-NoRow.ensures.spends in (
      c.in_ok-want_rest.ensures.fault,
      ap begun_answer (sym c.in-Ok-NoRow.field-0-is ∙ c.in-Ok-NoRow.ensures.told),
      c.in-Ok-NoRow.ensures.taken,
      leaves-by _ _ _ _ (begin_moves c.args.core.now.start (state_in c.args.core.now) c.args.pass c.args.kind c.args.amount) c.in-Ok-NoRow.ensures.taken (omega arith) (λ busy. absurd (busy (ap (λ (caller : Caller). caller.position) (c.in-Ok-NoRow.ensures.refused _ c.in-Ok-NoRow.field-0-is) ∙ c.in_ok-want_rest.ensures.idle))) c.in-Ok-NoRow.ensures.others,
    )
