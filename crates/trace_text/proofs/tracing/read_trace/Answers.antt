use Rattle.std.proofs.Common.{rules}
use Rattle.trace_text.specs.Trace.{read_all}
use Rattle.trace_text.proofs.Heard.{gives-only}
use Rattle.trace_text.proofs.Said.{gives-found}
use Rattle.trace_text.proofs.Known as fault_law
use Rattle.trace_text.proofs.tracing.read_trace.Goals as goal

pub returns-in_err-ledger-clause-only : goal.returns-in_err-ledger-clause-only
unfolding read_all
returns-in_err-ledger-clause-only c = gives-only c.args.workers c.args.bytes.now c.from_residual-in_err-ledger.result (search rules)

pub returns-clause-found : goal.returns-clause-found
unfolding read_all
returns-clause-found c = gives-found c.args.workers c.args.bytes.now c.trace_in.result (search rules)

pub returns-clause-only : goal.returns-clause-only
unfolding read_all
returns-clause-only c = gives-only c.args.workers c.args.bytes.now c.trace_in.result (search rules)

pub returns-in_err-ledger-clause-first : goal.returns-in_err-ledger-clause-first
unfolding read_all
returns-in_err-ledger-clause-first c = fault_law.gives-first c.args.workers c.args.bytes.now c.from_residual-in_err-ledger.result (search rules)

pub returns-clause-first : goal.returns-clause-first
unfolding read_all
returns-clause-first c = fault_law.gives-first c.args.workers c.args.bytes.now c.trace_in.result (search rules)
