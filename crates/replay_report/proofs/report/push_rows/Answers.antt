use Rattle.std.proofs.Common.{arith, rules, None}
use Rattle.trace_text.specs.declared.traces.Op.TheVariants.{Add}
use Rattle.replay_report.specs.Report.{row_line}
use Rattle.replay_report.proofs.Lines.{pair-more, pair-end}
use Rattle.replay_report.proofs.report.push_rows.Goals as goal

pub loop-i-preserved : goal.loop-i-preserved
loop-i-preserved c =
    pair-more row_line c.args.rows.now c.args.answers.now c.loop-i.i (record { at = 0; worker = 0; op = Add; tenant = 0; amount = 0 }) (record { before = 0; moved = 0; way = None })
    c.loop-i.text.items c.push_row.new.text.items _ (search rules) (omega arith) (search rules) c.loop-i.invariant

pub returns : goal.returns
returns c = pair-end row_line c.args.rows.now c.args.answers.now c.loop-i.i c.loop-i.text.items _ (search rules) (omega arith) c.loop-i.invariant
