use Rattle.std.proofs.Common.{◌≡◌, true, rules, arith, sym}
use Rattle.std.specs.Result.{is_ok}
use Rattle.trace_text.proofs.DrillSums.{drill_rows-more, total_taken-more}
use Rattle.trace_text.proofs.drill.drill_rows.Goals as goal

pub loop-i-preserved : goal.loop-i-preserved
loop-i-preserved c =
    let good : is_ok c.push.result ≡ true = search rules in
    let items = rw good at c.push.ensures.items in
    let more = total_taken-more c.loop-i.rows.items c.drill_row-row.result in
    record {
      rows = rw (items, c.loop-i.invariant.rows, c.drill_row-row.ensures.exact) (sym (drill_rows-more c.args.seed c.loop-i.i c.args.workers));
      total = rw items (let before = c.loop-i.invariant.total in let taken = c.taken-total.ensures.exact in omega arith);
      small = let before = c.loop-i.invariant.small in let taken = c.taken-total.ensures.bound in let amount = c.drill_row-row.ensures.amount in omega arith;
    }
