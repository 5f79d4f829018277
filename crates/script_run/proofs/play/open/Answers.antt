use Rattle.std.proofs.Common.{rules, ◌∙◌, ap, length}
use Rattle.std.proofs.lemmas.List.FromFn.{length-map-range_with_len}
use Rattle.script_text.specs.Sound.{allowance}
use Rattle.script_run.proofs.OneByOne.{ready-first}
use Rattle.script_run.proofs.play.open.Goals as goal

pub new-requires : goal.new-requires
new-requires c =
    ap length (c.deref.ensures.value ∙ c.in-Ok.ensures.each) ∙ length-map-range_with_len (allowance c.args.script.now.lines) 0 c.args.script.now.shape.passes

pub returns-in-Ok-new-clause-ready : goal.returns-in-Ok-new-clause-ready
returns-in-Ok-new-clause-ready c =
    ready-first c.in-Ok-new.core c.args.script.now (search rules)
