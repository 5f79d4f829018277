use Rattle.std.proofs.Common.{refl}
use Rattle.script_run.specs.declared.trial.Caller.TheVariants.{Idle}
use Rattle.script_run.proofs.Replaced.{put-back, taken-stands}
use Rattle.script_run.proofs.on_table.read_main.Goals as goal

pub read-reply-requires-clause-together : goal.read-reply-requires-clause-together
read-reply-requires-clause-together c = (taken-stands c.args.table.now c.args.callers.now c.take_idle.new.callers c.args.number (Idle c.in_ok-pass.pass) c.requires.full c.requires.stand c.in_ok-pass.ensures.taken).together

pub read-reply-requires-clause-idle : goal.read-reply-requires-clause-idle
read-reply-requires-clause-idle c = (taken-stands c.args.table.now c.args.callers.now c.take_idle.new.callers c.args.number (Idle c.in_ok-pass.pass) c.requires.full c.requires.stand c.in_ok-pass.ensures.taken).right

pub returns : goal.returns
returns c =
    let b = put-back c.args.callers.now c.take_idle.new.callers c.args.number (Idle c.in_ok-pass.pass) (Idle c.read-reply.new.pass) c.requires.full c.in_ok-pass.ensures.taken in
    (b.0, (Idle c.in_ok-pass.pass, Idle c.read-reply.new.pass, b.1, (c.read-reply.result, c.read-reply.new.pass, c.read-reply.ensures.step, c.read-reply.ensures.called, refl, refl), b.2))
