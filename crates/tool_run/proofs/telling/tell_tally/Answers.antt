use Rattle.tool_run.proofs.Preparing.{tally-telling}
use Rattle.tool_run.proofs.telling.tell_tally.Goals as goal

pub returns-in-Ok : goal.returns-in-Ok
returns-in-Ok g c =
    tally-telling c.args.workers c.args.grain c.args.bytes.now c.in-Ok.text.items c.in-Ok.book c.tell_book.result (c.in-Ok.ensures.text, c.in-Ok.ensures.book) c.tell_book.ensures
