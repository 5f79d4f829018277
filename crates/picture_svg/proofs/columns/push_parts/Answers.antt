use Rattle.std.proofs.Common.{rules, arith, ◌≡◌, ◌<◌, ◌^◌, length}
use Rattle.picture_marks.specs.Marks.{shares_of}
use Rattle.picture_svg.proofs.Shared.{shares-count, shares-within}
use Rattle.picture_svg.proofs.columns.push_parts.Goals as goal

pub push_shares-requires : goal.push_shares-requires
push_shares-requires c =
    let same : c.deref.result.now ≡ shares_of c.args.workers c.args.marks.now = search rules in
    let count = shares-count c.args.workers c.args.marks.now in
    let few : length c.deref.result.now < 2 ^ 32 = rw (same, count) (omega arith) in
    record { few = few; within = rw same (shares-within c.args.workers c.args.marks.now) }
