use Rattle.std.proofs.Common.{rules, ◌≡◌, get_or, sym, ◌++◌}
use Rattle.replay_report.specs.Report.{settled_line}
use Rattle.replay_report.proofs.Lines.{pair-more, pair-end}
use Rattle.replay_report.proofs.report.push_settled.Goals as goal

pub loop-i-preserved : goal.loop-i-preserved
loop-i-preserved c =
    let grown : c.push_value.new.text.items ≡ c.loop-i.text.items ++ settled_line c.args.at (c.index-tenants-i.result, get_or c.args.values.now c.loop-i.i 0) = search rules in
    pair-more (settled_line c.args.at) c.args.tenants.now c.args.values.now c.loop-i.i c.index-tenants-i.result 0 c.loop-i.text.items c.push_value.new.text.items _ (search rules) c.requires
    (rw (sym c.index-tenants-i.is) grown) c.loop-i.invariant

pub returns : goal.returns
returns c = pair-end (settled_line c.args.at) c.args.tenants.now c.args.values.now c.loop-i.i c.loop-i.text.items _ (search rules) c.requires c.loop-i.invariant
