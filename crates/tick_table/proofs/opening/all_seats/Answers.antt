use Rattle.std.proofs.Common.{◌≡◌, ◌+◌, ◌<◌, ◌∷◌, ◌++◌, [], ap, ◌∙◌, subst, arith}
use Rattle.running.proofs.Lists.{one_more}
use Rattle.tick_table.specs.declared.entry.Start.{Start}
use Rattle.tick_table.specs.Seats.{IsDealer}
use Rattle.tick_table.specs.Seen.{fresh}
use Rattle.tick_table.proofs.opening.all_seats.Goals as goal

pub loop-number-preserved : goal.loop-number-preserved
loop-number-preserved c =
    let i = c.loop-number.invariant in
    let z = c.args.words.now.table_id in
    let n = c.loop-number.number in
    let dealt = subst (λ (s : Start). IsDealer z s (n + 1) c.deal-seat.new.first) i.start c.deal-seat.ensures.dealer in
    let low : 0 < n = omega (arith, c.loop-number.auto.number) in
    let seat : c.deal-seat.result ≡ fresh (record { table = z; start = c.args.first.me.0.start }) n = c.deal-seat.ensures.seat ∙ ap (λ (s : Start). fresh (record { table = z; start = s }) n) i.start in
    record {
      dealer = dealt;
      start = ap (λ me. me.0.start) dealt.knows;
      seats = c.in_ok-push.ensures.items ∙ ((λ k. i.seats k ++ seat k ∷ []) ∙ one_more (fresh (record { table = z; start = c.args.first.me.0.start })) n low);
    }
