use Rattle.std.proofs.Common.{refl, ap, ◌∙◌}
use Rattle.fn_rows.specs.declared.Stage.{Stage}
use Rattle.fn_core.specs.State.{opened}
use Rattle.fn_core.specs.Machine.{run}
use Rattle.fn_core.specs.Order.{next_at}
use Rattle.fn_core.proofs.Looks.{climbs_in, on_row_at}
use Rattle.fn_core.proofs.machine.Machine.next_at.Goals as goal

pub stage_of-requires-clause-slot : goal.stage_of-requires-clause-slot
stage_of-requires-clause-slot c = climbs_in c.args.self.now c.requires.0.0 c.requires.0.1 c.args.pass c.args.kind c.args.level c.requires

pub goes_up-requires-clause-slot : goal.goes_up-requires-clause-slot
goes_up-requires-clause-slot c = climbs_in c.args.self.now c.requires.0.0 c.requires.0.1 c.args.pass c.args.kind c.args.level c.requires

pub returns-in_default : goal.returns-in_default
returns-in_default c = λ log stands. (
    let w = c.in_default in
    c.next_on_row.ensures log stands
    ∙ on_row_at c.args.self.now.start (run c.args.self.now.start log (opened c.args.self.now.start)) c.args.pass c.args.kind c.args.level c.stage_of.result c.stage_of.result refl w.not-Out w.not-Saw w.not-Told w.not-Waiting w.not-Lead w.not-Late w.not-Shut w.not-Based w.not-Pointed w.not-Got
    ∙ ap (λ (g : Stage). next_at c.args.self.now.start (run c.args.self.now.start log (opened c.args.self.now.start)) c.args.pass c.args.kind c.args.level g) (c.stage_of.ensures log stands)
    )
