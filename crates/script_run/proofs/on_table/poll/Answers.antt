use Rattle.script_run.specs.declared.trial.Caller.TheVariants.{Pending}
use Rattle.script_run.proofs.Replaced.{put-back, taken-stands}
use Rattle.script_run.proofs.on_table.poll.Goals as goal

pub polled-caller-requires : goal.polled-caller-requires
polled-caller-requires c = (taken-stands c.args.table.now c.args.callers.now c.take_pending.new.callers c.args.number (Pending c.in_ok-pending.pending) c.requires.full c.requires.stand c.in_ok-pending.ensures.taken).together

pub returns : goal.returns
returns c =
    let b = put-back c.args.callers.now c.take_pending.new.callers c.args.number (Pending c.in_ok-pending.pending) c.polled-caller.result.0 c.requires.full c.in_ok-pending.ensures.taken in
    (b.0, (Pending c.in_ok-pending.pending, c.polled-caller.result.0, b.1, c.polled-caller.ensures, b.2))
