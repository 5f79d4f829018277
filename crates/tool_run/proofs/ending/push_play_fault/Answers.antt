use Rattle.std.proofs.Common.{◌∙◌, append_assoc}
use Rattle.tool_run.proofs.ending.push_play_fault.Goals as goal

pub returns-in-Unfinished-clause-exact : goal.returns-in-Unfinished-clause-exact
returns-in-Unfinished-clause-exact c =
    let exact = c.push_counted.ensures.exact ∙ append_assoc c.args.line.now _ _ in
    rw c.in-Unfinished.is (rw c.from.ensures at exact)
