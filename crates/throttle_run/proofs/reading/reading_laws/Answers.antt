use Rattle.throttle_run.proofs.ReadingFaults.{line_faults-first, first_fault-told}
use Rattle.throttle_run.proofs.ReadingSpelled.{takes-are_read}
use Rattle.throttle_run.proofs.reading.reading_laws.Goals as goal

pub returns-clause-takes_are_read : goal.returns-clause-takes_are_read
returns-clause-takes_are_read c = takes-are_read

pub returns-clause-first_fault_is_told : goal.returns-clause-first_fault_is_told
returns-clause-first_fault_is_told c = first_fault-told

pub returns-clause-line_faults_are_first : goal.returns-clause-line_faults_are_first
returns-clause-line_faults_are_first c = line_faults-first
