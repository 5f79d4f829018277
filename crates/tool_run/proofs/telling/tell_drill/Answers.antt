use Rattle.tool_run.specs.Handed.{handed}
use Rattle.tool_run.proofs.DrillLine.{drill-line}
use Rattle.tool_run.proofs.telling.tell_drill.Goals as goal

pub returns-in-Ok : goal.returns-in-Ok
returns-in-Ok g c =
    (c.in-Ok.ensures, drill-line c.args.seed c.args.rows c.args.workers c.in-Ok.told.text.items (handed c.in-Ok.told.handed) c.requires.rows.1 c.requires.workers.0 c.in-Ok.ensures)
