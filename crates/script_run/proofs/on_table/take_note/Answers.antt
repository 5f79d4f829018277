use Rattle.script_run.specs.declared.trial.Caller.TheVariants.{Idle}
use Rattle.script_run.proofs.Replaced.{put-back, taken-stands}
use Rattle.script_run.proofs.on_table.take_note.Goals as goal

pub note-note-requires-clause-together : goal.note-note-requires-clause-together
note-note-requires-clause-together c = (taken-stands c.args.table.now c.args.callers.now c.take_idle.new.callers c.args.number (Idle c.in_ok-pass.pass) c.requires.full c.requires.stand c.in_ok-pass.ensures.taken).together

pub note-note-requires-clause-idle : goal.note-note-requires-clause-idle
note-note-requires-clause-idle c = (taken-stands c.args.table.now c.args.callers.now c.take_idle.new.callers c.args.number (Idle c.in_ok-pass.pass) c.requires.full c.requires.stand c.in_ok-pass.ensures.taken).right

pub returns-clause-noted : goal.returns-clause-noted
returns-clause-noted c =
    let b = put-back c.args.callers.now c.take_idle.new.callers c.args.number (Idle c.in_ok-pass.pass) (Idle c.note-note.new.pass) c.requires.full c.in_ok-pass.ensures.taken in
    record {
      full = b.0;
      giver = c.in_ok-pass.pass;
      giver_is = b.1;
      noted = c.note-note.new.pass;
      stored = (c.note-note.ensures.step, c.note-note.ensures.none);
      note_is = c.note-note.ensures.note;
      now = b.2;
    }
