use Rattle.std.proofs.Common.{sym, ap, subst, ◌∙◌, arith}
use Rattle.fn_layout.specs.Words.{words}
use Rattle.fn_layout.proofs.Read.{names_are_read}
use Rattle.fn_core.specs.declared.Start.{Start}
use Rattle.fn_core.specs.Words.{name_of}
use Rattle.fn_core.specs.Calls.{IsLegal}
use Rattle.fn_table.specs.Seen.{TableView, PassView}
use Rattle.fn_table.proofs.Owes.{named}
use Rattle.fn_table.proofs.steps.place_of.Goals as goal

pub word_of-requires-clause-shape : goal.word_of-requires-clause-shape
word_of-requires-clause-shape c = sym c.table.invariant.1 ∙ ap (λ (t : TableView). t.start.shape) c.table.view_is ∙ ap (λ (b : Start). b.shape) (sym c.requires.together.1)

pub word_of-requires-clause-named : goal.word_of-requires-clause-named
word_of-requires-clause-named c = named c.args.caller.now c.args.step (subst (λ (p : PassView). IsLegal p.seen) c.caller.view_is c.caller.invariant.2) c.requires.may

pub returns-clause-inside : goal.returns-clause-inside
returns-clause-inside c =
    let p = c.args.caller.now in
    let all = c.requires.together.1 ∙ sym (ap (λ (t : TableView). t.start) c.table.view_is) in
    let many = ap (λ (t : TableView). t.table.words) (sym c.table.view_is) ∙ c.table.invariant.0 ∙ ap words (sym c.table.invariant.1 ∙ ap (λ (b : Start). b.shape) (sym all)) in
    let legal = subst (λ (q : PassView). IsLegal q.seen) c.caller.view_is c.caller.invariant.2 in
    let below = (names_are_read p.seen.start.shape (name_of p.seen.start.shape p.number c.args.step) (named p c.args.step legal c.requires.may)).1 in
    omega (arith, c.word_of.ensures, many, below)
