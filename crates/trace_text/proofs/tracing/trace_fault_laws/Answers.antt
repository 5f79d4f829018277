use Rattle.trace_text.proofs.FirstFaults.{first-record, no-record, record-fault}
use Rattle.trace_text.proofs.Known.{first-refused, refused-for_first}
use Rattle.trace_text.proofs.tracing.trace_fault_laws.Goals as goal

pub returns-clause-record_faults_are_first : goal.returns-clause-record_faults_are_first
returns-clause-record_faults_are_first c = record-fault

pub returns-clause-first_record_is_at_fault : goal.returns-clause-first_record_is_at_fault
returns-clause-first_record_is_at_fault c = first-record

pub returns-clause-no_record_is_at_fault : goal.returns-clause-no_record_is_at_fault
returns-clause-no_record_is_at_fault c = no-record

pub returns-clause-refused_for_first : goal.returns-clause-refused_for_first
returns-clause-refused_for_first c = refused-for_first

pub returns-clause-first_is_refused : goal.returns-clause-first_is_refused
returns-clause-first_is_refused c = first-refused
