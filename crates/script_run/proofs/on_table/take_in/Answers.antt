use Rattle.script_run.specs.declared.trial.Caller.TheVariants.{Idle}
use Rattle.script_run.proofs.Replaced.{put-back, taken-stands}
use Rattle.script_run.proofs.on_table.take_in.Goals as goal

pub meet-requires-clause-together : goal.meet-requires-clause-together
meet-requires-clause-together c = (taken-stands c.args.table.now c.args.callers.now c.take_idle.new.callers c.args.number (Idle c.in_ok-pass.pass) c.requires.full c.requires.stand c.in_ok-pass.ensures.taken).together

pub meet-requires-clause-idle : goal.meet-requires-clause-idle
meet-requires-clause-idle c = (taken-stands c.args.table.now c.args.callers.now c.take_idle.new.callers c.args.number (Idle c.in_ok-pass.pass) c.requires.full c.requires.stand c.in_ok-pass.ensures.taken).right

pub returns-clause-taken : goal.returns-clause-taken
returns-clause-taken c =
    let b = put-back c.args.callers.now c.take_idle.new.callers c.args.number (Idle c.in_ok-pass.pass) (Idle c.meet.new.pass) c.requires.full c.in_ok-pass.ensures.taken in
    record {
      full = b.0;
      taker = c.in_ok-pass.pass;
      taker_is = b.1;
      after = c.meet.new.pass;
      met = (c.meet.ensures.met, c.meet.ensures.none);
      now = b.2;
    }
