use Rattle.std.proofs.Common.{◌≡◌, rules}
use Rattle.trace_text.specs.Drill.{drill}
use Rattle.trace_text.specs.Trace.{content}
use Rattle.trace_text.proofs.DrillSums.{drill-sound}
use Rattle.trace_text.proofs.drill.make_drill.Goals as goal

pub returns-clause-sound : goal.returns-clause-sound
returns-clause-sound c =
    let same : content (record { tenants = c.push.new.self; rows = c.in_ok-rows.rows; cuts = c.new-cuts.result }) ≡ drill c.args.seed c.args.rows c.args.workers = search rules in
    rw same (drill-sound c.args.seed c.args.rows c.args.workers c.requires.rows.1 c.requires.workers.0)
