use Rattle.std.proofs.Common.{◌≡◌, ◌∙◌, ap, sym}
use Rattle.fn_table.specs.Seen.{fresh_passes}
use Rattle.running.proofs.Keeps.{begins}
use Rattle.running.proofs.Numbers.{times_once}
use Rattle.fn_core.specs.declared.Start.{Start}
use Rattle.fn_table.specs.Funnel.{funnel}
use Rattle.fn_table.proofs.Opens.{first_words_are, are_opened}
use Rattle.fn_table.proofs.opening.opened.Goals as goal

pub of_words-requires : goal.of_words-requires
of_words-requires c =
    let start : Start = record { shape = c.args.shape; opening = c.args.opening; cap = c.args.cap; allowances = c.in_ok-items.items.items } in
    begins funnel start _ _ (c.deref.ensures.value ∙ c.in_ok-words.ensures ∙ sym (first_words_are start)) (λ n. times_once n 0 _)

pub returns-clause-passes : goal.returns-clause-passes
returns-clause-passes c =
    let z = c.in_ok-table.table.shared.table_id in
    let e = c.in_ok-table.ensures in
    let start : c.in_ok-table.seat.me.0.start ≡ c.in_ok-table.table.shared.key = ap (λ me. me.0.start) e.4 ∙ sym e.5 in
    are_opened (record { table = z; start = c.in_ok-table.table.shared.key }) c.in_ok-passes.passes.items (c.in_ok-passes.ensures ∙ ap (λ (b : Start). fresh_passes (record { table = z; start = b })) start)
