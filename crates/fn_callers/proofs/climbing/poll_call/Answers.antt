use Rattle.fn_core.specs.declared.answer.CoreStep.TheVariants.{NotYet}
use Rattle.fn_callers.proofs.Between.{come_done, come_more}
use Rattle.fn_callers.proofs.climbing.poll_call.Goals as goal

pub returns-in-Ready-clause-made : goal.returns-in-Ready-clause-made
returns-in-Ready-clause-made c = come_done c.args.waiting.given.value c.args.waiting.kind c.args.waiting.amount c.args.waiting.pending c.requires.come c.in-Ready.reply c.in-Ready.pass c.in-Ready.ensures

pub returns-in-NotYet-clause-come : goal.returns-in-NotYet-clause-come
returns-in-NotYet-clause-come c = come_more c.args.waiting.given.value c.args.waiting.kind c.args.waiting.amount c.args.waiting.pending c.requires.come (NotYet c.in-NotYet.field-1) c.in-NotYet.pending.pass c.in-NotYet.ensures.0
