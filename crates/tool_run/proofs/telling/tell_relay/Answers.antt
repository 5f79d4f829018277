use Rattle.std.proofs.Common.{List, ℕ, subst}
use Rattle.tool_run.specs.Handed.{handed}
use Rattle.tool_run.specs.Accounts.{HasRelayed}
use Rattle.tool_run.proofs.telling.tell_relay.Goals as goal

pub returns-in-Ok-relay_lines : goal.returns-in-Ok-relay_lines
returns-in-Ok-relay_lines g c =
    let P : List (List ℕ) → Type 0 = λ lines. HasRelayed c.args.workers c.args.capacity lines c.in-Ok-relay_lines.told.text.items (handed c.in-Ok-relay_lines.told.handed) in
    (c.in-Ok.ensures.1, subst P c.in-Ok.ensures.0 c.in-Ok-relay_lines.ensures)
