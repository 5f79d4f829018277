use Rattle.std.proofs.Common.{◌∙◌, sym, ap, subst, arith}
use Rattle.std.specs.Slots.{slots_items}
use Rattle.atomic_table.specs.Table.{Final, Seen}
use Rattle.running.specs.Running.{Running}
use Rattle.running.proofs.Keeps.{notes}
use Rattle.fn_core.specs.declared.Start.{Start}
use Rattle.fn_table.specs.Funnel.{funnel}
use Rattle.fn_table.specs.Seats.{Known}
use Rattle.fn_table.specs.Seen.{TableView}
use Rattle.fn_table.proofs.OwnCalls.{calls_kept}
use Rattle.fn_table.proofs.Closed.{gathered, last_glance, book_start, legal_book, closed_book, closed_value}
use Rattle.fn_table.proofs.table.FunnelTable.close.Goals as goal

pub load-requires : goal.load-requires
load-requires c =
    let g = gathered _ _ c.args.self c.args.passes.items _ c.self.view_is c.gather-seat.ensures c.requires.all c.requires.together c.requires.idle c.self.invariant.4 in
    (c.gather-seat.ensures.table, omega (arith, c.self.invariant.0), last_glance _ _ _ g _ _ _ _)

pub split_seat-seen-requires : goal.split_seat-seen-requires
split_seat-seen-requires c = (c.load.ensures.0 ∙ c.gather-seat.ensures.table, omega (arith, c.self.invariant.0), notes funnel _ _ _)

pub invariant_of-result : goal.invariant_of-result
invariant_of-result c =
    let g = gathered _ _ c.args.self c.args.passes.items _ c.self.view_is c.gather-seat.ensures c.requires.all c.requires.together c.requires.idle c.self.invariant.4 in
    let s = c.split_seat-seen.ensures in
    let ws = slots_items c.close_with-closed.result.words in
    let xs = slots_items c.close_with-closed.result.slots in
    let end = subst (λ (v : Known). Final (Seen (Running funnel c.self.inside.table.shared.key) c.split_seat-seen.new.seat.id v) ws xs) (ap (λ me. me.0) s.2) c.close_with-closed.ensures.values.2 in
    let noted = ap (λ me. me.0) s.4 in
    let t = c.load.ensures.2.0.took in (
      closed_value _ _ _ g c.load.new.seat.me.0 _ t noted _ _ _ ws xs end c.word-value.ensures,
      sym c.self.invariant.2 ∙ ap (λ (b : Start). b.opening) (sym (book_start _ _ _ g c.load.new.seat.me.0 _ t noted)),
      legal_book _ _ _ g c.load.new.seat.me.0 _ t noted,
    )

pub returns-clause-passes : goal.returns-clause-passes
returns-clause-passes c =
    let g = gathered _ _ c.args.self c.args.passes.items _ c.self.view_is c.gather-seat.ensures c.requires.all c.requires.together c.requires.idle c.self.invariant.4 in
    closed_book _ _ _ g c.load.new.seat.me.0 _ c.load.ensures.2.0.took (ap (λ me. me.0) c.split_seat-seen.ensures.4)

pub returns-clause-calls : goal.returns-clause-calls
returns-clause-calls c =
    let g = gathered _ _ c.args.self c.args.passes.items _ c.self.view_is c.gather-seat.ensures c.requires.all c.requires.together c.requires.idle c.self.invariant.4 in
    let noted = ap (λ me. me.0) c.split_seat-seen.ensures.4 in
    calls_kept c.args.self c.args.passes.items _ (book_start _ _ _ g c.load.new.seat.me.0 _ c.load.ensures.2.0.took noted ∙ ap (λ (t : TableView). t.start) c.self.view_is) (returns-clause-passes c) c.requires.all c.requires.together c.requires.idle
