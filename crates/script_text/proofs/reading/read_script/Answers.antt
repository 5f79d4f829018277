use Rattle.std.proofs.Common.{Err, None, refl}
use Rattle.script_text.specs.Script.{script_from}
use Rattle.script_text.specs.declared.scripts.ScriptFault.TheVariants as fault
use Rattle.script_text.proofs.SoundLines.{gives-sound, gives-numbered}
use Rattle.script_text.proofs.Whole.{gives-at, gives-found, gives-only}
use Rattle.script_text.proofs.WholeRefused.{gives-first}
use Rattle.script_text.proofs.reading.read_script.Goals as goal

pub returns-in-Some-clause-found : goal.returns-in-Some-clause-found
returns-in-Some-clause-found c = gives-found _ _ (gives-at c.args.bytes.now _ _ _ c.new-lines.ensures.lines c.in-Some.ensures.exact c.read_from.ensures)

pub returns-in-Some-clause-only : goal.returns-in-Some-clause-only
returns-in-Some-clause-only c = gives-only _ _ (gives-at c.args.bytes.now _ _ _ c.new-lines.ensures.lines c.in-Some.ensures.exact c.read_from.ensures)

pub returns-in-None-clause-only : goal.returns-in-None-clause-only
unfolding script_from
returns-in-None-clause-only c = gives-only _ (Err (fault.Header 1)) (gives-at c.args.bytes.now _ None (Err (fault.Header 1)) c.new-lines.ensures.lines c.in-None.ensures.exact refl)

pub returns-in-Some-clause-sound : goal.returns-in-Some-clause-sound
returns-in-Some-clause-sound c = gives-sound _ _ c.read_from.ensures

pub returns-in-Some-clause-numbered : goal.returns-in-Some-clause-numbered
returns-in-Some-clause-numbered c = gives-numbered _ _ c.in-Some.ensures.counted c.read_from.ensures

pub returns-in-Some-clause-first : goal.returns-in-Some-clause-first
returns-in-Some-clause-first c = gives-first _ _ (gives-at c.args.bytes.now _ _ _ c.new-lines.ensures.lines c.in-Some.ensures.exact c.read_from.ensures)

pub returns-in-None-clause-first : goal.returns-in-None-clause-first
unfolding script_from
returns-in-None-clause-first c = gives-first _ (Err (fault.Header 1)) (gives-at c.args.bytes.now _ None (Err (fault.Header 1)) c.new-lines.ensures.lines c.in-None.ensures.exact refl)
