use Rattle.std.proofs.Common.{List, ◌∙◌}
use Rattle.fn_table.specs.Seen.{PassView}
use Rattle.script_run.proofs.Ended.{idle-all, idle-right, idle-together, is-trial, passes-count, text-is}
use Rattle.script_run.proofs.trial.close.Goals as goal

pub close-book-requires-clause-together : goal.close-book-requires-clause-together
close-book-requires-clause-together c = idle-together c.args.table c.args.passes.items c.requires.stand

pub close-book-requires-clause-all : goal.close-book-requires-clause-all
close-book-requires-clause-all c = idle-all c.args.table c.args.passes.items c.args.script.now.lines c.requires.done.answers c.requires.stand c.requires.done.done

pub close-book-requires-clause-idle : goal.close-book-requires-clause-idle
close-book-requires-clause-idle c = idle-right c.args.table c.args.passes.items c.requires.stand

pub returns-in-Ok-clause-told : goal.returns-in-Ok-clause-told
returns-in-Ok-clause-told c =
    let d = c.requires.done in
    let passes : List PassView = c.args.passes.items in
    let all = is-trial c.args.script.now c.requires.sound c.args.table c.requires.start d.answers passes c.close-book.result c.requires.stand (passes-count c.args.table passes c.args.script.now.lines d.answers d.done) d.done
    c.close-book.ensures.start c.close-book.ensures.passes c.close-book.ensures.calls (idle-all c.args.table passes c.args.script.now.lines d.answers c.requires.stand d.done) (idle-together c.args.table passes c.requires.stand) in
    (d.answers, all, text-is c.args.script.now c.close-book.result d.answers c.args.text.items c.push_value.new.text.items c.value.result (c.close-book.ensures.start ∙ c.requires.start) c.value.ensures d.appended c.in-Ok.ensures)
