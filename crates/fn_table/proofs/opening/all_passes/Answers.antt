use Rattle.std.proofs.Common.{◌≡◌, ◌+◌, ◌-◌, ◌<◌, ◌≤◌, ◌∷◌, ◌++◌, [], ap, ◌∙◌, subst, arith}
use Rattle.fn_layout.specs.declared.shape.Shape.{Shape}
use Rattle.fn_core.specs.declared.Start.{Start}
use Rattle.atomic_table.specs.Table.{Me}
use Rattle.fn_table.specs.Seats.{Known, IsDealer, shown}
use Rattle.fn_table.specs.Seen.{TableView, fresh}
use Rattle.fn_table.proofs.Opens.{one_more}
use Rattle.fn_table.specs.Spots.{spots_of}
use Rattle.fn_table.proofs.Deals.{dealer_seat}
use Rattle.fn_table.proofs.Published.{keeps_at_open}
use Rattle.fn_table.proofs.opening.all_passes.Goals as goal

pub loop-number-preserved : goal.loop-number-preserved
loop-number-preserved c =
    let i = c.loop-number.invariant in
    let z = c.args.words.now.table_id in
    let n = c.loop-number.number in
    let dealt = subst (λ (s : Start). IsDealer z s (n + 1) (s.shape.passes - 1) c.deal-caller.new.seat) i.start c.deal-caller.ensures.dealer in
    let low : 0 < n = omega (arith, c.loop-number.auto.number) in
    let pass : c.deal-caller.result ≡ fresh (record { table = z; start = c.args.seat.me.0.start }) n = c.deal-caller.ensures.pass ∙ ap (λ (s : Start). fresh (record { table = z; start = s }) n) i.start in
    record {
      dealer = dealt;
      start = ap (λ me. me.0.start) dealt.knows;
      passes = c.in_ok-push.ensures.items ∙ ((λ k. i.passes k ++ pass k ∷ []) ∙ one_more (record { table = z; start = c.args.seat.me.0.start }) n low);
    }

pub invariant_of-caller : goal.invariant_of-caller
invariant_of-caller c =
    let d = c.loop-number.invariant.dealer in
    let start = c.args.seat.me.0.start in
    let same : c.args.shape.passes ≡ start.shape.passes = ap (λ (s : Shape). s.passes) c.requires.shape in
    let last : start.shape.passes ≤ c.loop-number.number = omega (arith, c.loop-number-test.false, same) in
    let some : 0 < start.shape.passes = omega (arith, start.shape.passes_in_range) in
    (dealer_seat c.loop-number.seat.table_id start c.loop-number.number (start.shape.passes - 1) _ _ last some d.opens d.knows (c.all_spots.ensures ∙ ap (λ (s : Shape). spots_of s 0) c.requires.shape)).1

pub invariant_of-push : goal.invariant_of-push
invariant_of-push c =
    let z = c.args.words.now.table_id in
    let t : TableView = record { table = z; start = c.args.seat.me.0.start } in
    let n = c.loop-number.number in
    let pass : c.deal-caller.result ≡ fresh t n = c.deal-caller.ensures.pass ∙ ap (λ (s : Start). fresh (record { table = z; start = s }) n) c.loop-number.invariant.start in
    keeps_at_open c.deal-caller.result t n c.args.shape c.args.allowances.now c.in_ok-tally.tally pass c.requires.shape c.requires.allowances c.in_ok-tally.ensures.fields c.in_ok-tally.ensures.ends

pub invariant_of-insert : goal.invariant_of-insert
invariant_of-insert c =
    let d = c.loop-number.invariant.dealer in
    let start = c.args.seat.me.0.start in
    let t : TableView = record { table = c.args.words.now.table_id; start = start } in
    let same : c.args.shape.passes ≡ start.shape.passes = ap (λ (s : Shape). s.passes) c.requires.shape in
    let last : start.shape.passes ≤ c.loop-number.number = omega (arith, c.loop-number-test.false, same) in
    let some : 0 < start.shape.passes = omega (arith, start.shape.passes_in_range) in
    let mine = (dealer_seat c.loop-number.seat.table_id start c.loop-number.number (start.shape.passes - 1) _ _ last some d.opens d.knows (c.all_spots.ensures ∙ ap (λ (s : Shape). spots_of s 0) c.requires.shape)).0 in
    let pass : shown c.loop-number.seat.table_id 0 c.loop-number.seat.me.0 ≡ fresh t 0 = λ i. shown (d.table i) 0 (ap (λ (me : Me (Unit {0}) Known). me.0) mine i) in
    keeps_at_open _ t 0 c.args.shape c.args.allowances.now c.in_ok-tally-2.tally pass c.requires.shape c.requires.allowances c.in_ok-tally-2.ensures.fields c.in_ok-tally-2.ensures.ends
