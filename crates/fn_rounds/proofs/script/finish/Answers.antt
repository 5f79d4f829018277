use Rattle.std.proofs.Common.{◌≡◌, ◌++◌, ◌∙◌, codes, decimal}
use Rattle.fn_rounds.specs.Script.{reply_lines}
use Rattle.fn_rounds.proofs.Finished as finished
use Rattle.fn_rounds.proofs.script.finish.Goals as goal

pub answers-requires-clause-there : goal.answers-requires-clause-there
answers-requires-clause-there c =
    finished.all_there c.args.script.now c.args.table c.requires.sound c.requires.start c.args.dones.items c.requires.done
    c.deref-2.result.now (c.deref-2.ensures.value ∙ c.in_ok-passes.ensures.replies) c.deref.result.now (c.deref.ensures.value ∙ c.lines.view_is)

pub answers-requires-clause-counts : goal.answers-requires-clause-counts
answers-requires-clause-counts c =
    finished.all_counted c.args.script.now c.args.table c.requires.sound c.requires.start c.args.dones.items c.requires.done
    c.deref-2.result.now (c.deref-2.ensures.value ∙ c.in_ok-passes.ensures.replies) c.deref.result.now (c.deref.ensures.value ∙ c.lines.view_is)

pub close-book-requires-clause-together : goal.close-book-requires-clause-together
close-book-requires-clause-together c =
    finished.together c.args.script.now c.args.table c.requires.sound c.requires.start c.args.dones.items c.requires.done
    c.in_ok-passes.passes.items c.in_ok-passes.ensures.passes

pub close-book-requires-clause-all : goal.close-book-requires-clause-all
close-book-requires-clause-all c =
    finished.all c.args.script.now c.args.table c.requires.sound c.requires.start c.args.dones.items c.requires.done
    c.in_ok-passes.passes.items c.in_ok-passes.ensures.passes

pub close-book-requires-clause-idle : goal.close-book-requires-clause-idle
close-book-requires-clause-idle c =
    finished.idle c.args.script.now c.args.table c.requires.sound c.requires.start c.args.dones.items c.requires.done
    c.in_ok-passes.passes.items c.in_ok-passes.ensures.passes

pub returns-clause-told : goal.returns-clause-told
returns-clause-told c =
    let lines : c.deref-3.result.now ≡ c.args.script.now.lines = c.deref-3.ensures.value ∙ c.lines.view_is in
    let told = c.in_ok-text.ensures ∙ (λ i. reply_lines (lines i) (c.deref-4.ensures.value i) ++ codes "value " ++ decimal c.value.result ++ codes "\n") in
    finished.tells c.args.script.now c.args.table c.requires.sound c.requires.start c.args.dones.items c.requires.done
    c.deref-2.result.now (c.deref-2.ensures.value ∙ c.in_ok-passes.ensures.replies) c.deref.result.now (c.deref.ensures.value ∙ c.lines.view_is)
    c.in_ok-passes.passes.items c.in_ok-passes.ensures.passes c.close-book.result c.close-book.ensures.start c.close-book.ensures.passes c.close-book.ensures.calls
    c.in_ok-answers.answers.items c.in_ok-answers.ensures.one_each c.in_ok-answers.ensures.sorted c.value.result c.value.ensures c.in_ok-text.text.items told
