use Rattle.std.proofs.Common.{◌≡◌, ◌≤◌, ◌+◌, length}
use Rattle.trace_text.specs.Trace.{records_after, start, state_of}
use Rattle.trace_text.specs.declared.tracing.TheConstants.{MOST_RECORDS}
use Rattle.trace_text.proofs.SoundSteps.{IsSoundState}
use Rattle.trace_text.proofs.tracing.read_records.Given as goal

abbrev pub invariant-loop-ledger : goal.invariant-loop-ledger
invariant-loop-ledger l = record {
  limit : l.at ≤ MOST_RECORDS;
  sound : IsSoundState l.workers (state_of l.ledger);
  same : records_after l.format l.workers (l.at + 1) l.records (state_of l.ledger) ≡ records_after l.fn.format l.fn.workers 1 l.fn.records start;
}

abbrev pub decreases-loop-ledger : goal.decreases-loop-ledger
decreases-loop-ledger l = length l.records
