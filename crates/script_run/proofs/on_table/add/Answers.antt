use Rattle.std.proofs.Common.{refl}
use Rattle.script_run.specs.declared.trial.Caller.TheVariants.{Idle}
use Rattle.script_run.proofs.Replaced.{put-back, taken-left, taken-stands}
use Rattle.script_run.proofs.on_table.add.Goals as goal

pub add_direct-reply-requires-clause-together : goal.add_direct-reply-requires-clause-together
add_direct-reply-requires-clause-together c = (taken-stands c.args.table.now c.args.callers.now c.take_idle.new.callers c.args.number (Idle c.in_ok-pass.pass) c.requires.full c.requires.stand c.in_ok-pass.ensures.taken).together

pub add_direct-reply-requires-clause-idle : goal.add_direct-reply-requires-clause-idle
add_direct-reply-requires-clause-idle c = (taken-stands c.args.table.now c.args.callers.now c.take_idle.new.callers c.args.number (Idle c.in_ok-pass.pass) c.requires.full c.requires.stand c.in_ok-pass.ensures.taken).right

pub add_direct-reply-requires-clause-amount : goal.add_direct-reply-requires-clause-amount
add_direct-reply-requires-clause-amount c = taken-left c.args.table.now c.args.callers.now c.take_idle.new.callers c.args.number c.args.amount c.in_ok-pass.pass c.requires.full c.requires.stand c.in_ok-pass.ensures.taken c.requires.left c.requires.some

pub returns : goal.returns
returns c =
    let b = put-back c.args.callers.now c.take_idle.new.callers c.args.number (Idle c.in_ok-pass.pass) (Idle c.add_direct-reply.new.pass) c.requires.full c.in_ok-pass.ensures.taken in
    (b.0, (Idle c.in_ok-pass.pass, Idle c.add_direct-reply.new.pass, b.1, (c.add_direct-reply.result, c.add_direct-reply.new.pass, c.add_direct-reply.ensures.step, c.add_direct-reply.ensures.called, refl, refl), b.2))
