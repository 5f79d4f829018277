use Rattle.trace_text.proofs.Heard.{grammar-read}
use Rattle.trace_text.proofs.Known.{state-known}
use Rattle.trace_text.proofs.Said.{traces-in_grammar}
use Rattle.trace_text.proofs.tracing.trace_laws.Goals as goal

pub returns-clause-traces_are_in_grammar : goal.returns-clause-traces_are_in_grammar
returns-clause-traces_are_in_grammar c = traces-in_grammar

pub returns-clause-grammar_is_read : goal.returns-clause-grammar_is_read
returns-clause-grammar_is_read c = grammar-read

pub returns-clause-state_is_known : goal.returns-clause-state_is_known
returns-clause-state_is_known c = state-known
