use Rattle.std.proofs.Common.{refl, sym}
use Rattle.tool_run.proofs.Preparing.{rounds-telling}
use Rattle.tool_run.proofs.telling.tell_rounds.Goals as goal

pub returns-in-Some : goal.returns-in-Some
returns-in-Some g c = rw (c.new.ensures.ending, c.new.ensures.halted) ((c.in_ok-script.script, c.in_ok-script.ensures.0, sym c.in-Some.ensures.first), refl)

pub returns-in-Ok : goal.returns-in-Ok
returns-in-Ok g c =
    rounds-telling c.args.bytes.now c.in_ok-script.script c.in-Ok.text.items c.in-Ok.book c.tell_book.result c.in_ok-script.ensures.0 c.in-None.ensures.changes c.in-Ok.ensures.told c.in-Ok.ensures.book c.tell_book.ensures
