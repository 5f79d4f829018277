use Rattle.script_text.proofs.Refused.{line_faults-first, first_line-at_fault}
use Rattle.script_text.proofs.WholeRefused.{first-refused, refused-for_first}
use Rattle.script_text.proofs.reading.fault_laws.Goals as goal

pub returns-clause-line_faults_are_first : goal.returns-clause-line_faults_are_first
returns-clause-line_faults_are_first c = line_faults-first

pub returns-clause-first_line_is_at_fault : goal.returns-clause-first_line_is_at_fault
returns-clause-first_line_is_at_fault c = first_line-at_fault

pub returns-clause-refused_for_first : goal.returns-clause-refused_for_first
returns-clause-refused_for_first c = refused-for_first

pub returns-clause-first_is_refused : goal.returns-clause-first_is_refused
returns-clause-first_is_refused c = first-refused
