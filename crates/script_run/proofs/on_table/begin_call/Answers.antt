use Rattle.script_run.specs.declared.trial.Caller.TheVariants.{Idle, Pending}
use Rattle.script_run.proofs.Replaced.{begun-done, put-back, taken-left, taken-stands}
use Rattle.script_run.proofs.on_table.begin_call.Goals as goal

pub begin-requires-clause-together : goal.begin-requires-clause-together
begin-requires-clause-together c = (taken-stands c.args.table.now c.args.callers.now c.take_idle.new.callers c.args.number (Idle c.in_ok-pass.pass) c.requires.full c.requires.stand c.in_ok-pass.ensures.taken).together

pub begin-requires-clause-idle : goal.begin-requires-clause-idle
begin-requires-clause-idle c = (taken-stands c.args.table.now c.args.callers.now c.take_idle.new.callers c.args.number (Idle c.in_ok-pass.pass) c.requires.full c.requires.stand c.in_ok-pass.ensures.taken).right

pub begin-requires-clause-amount : goal.begin-requires-clause-amount
begin-requires-clause-amount c = taken-left c.args.table.now c.args.callers.now c.take_idle.new.callers c.args.number c.args.amount c.in_ok-pass.pass c.requires.full c.requires.stand c.in_ok-pass.ensures.taken c.requires.left c.requires.some

pub returns-in-Waiting : goal.returns-in-Waiting
returns-in-Waiting c =
    let b = put-back c.args.callers.now c.take_idle.new.callers c.args.number (Idle c.in_ok-pass.pass) (Pending c.in-Waiting.pending) c.requires.full c.in_ok-pass.ensures.taken in
    (b.0, begun-done c.args.kind c.requires.change _ _ c.args.number c.args.amount _ c.in_ok-pass.pass (Pending c.in-Waiting.pending) b.1 c.in-Waiting.ensures b.2)

pub returns-in-NoRow : goal.returns-in-NoRow
returns-in-NoRow c =
    let b = put-back c.args.callers.now c.take_idle.new.callers c.args.number (Idle c.in_ok-pass.pass) (Idle c.in-NoRow.pass) c.requires.full c.in_ok-pass.ensures.taken in
    (b.0, begun-done c.args.kind c.requires.change _ _ c.args.number c.args.amount _ c.in_ok-pass.pass (Idle c.in-NoRow.pass) b.1 c.in-NoRow.ensures b.2)
