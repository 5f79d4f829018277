-- What is told of how a run ended.
--     status_of ending      its status
--     error_line ending      its line on standard error
use Rattle.std.specs.Prelude.{ℕ, ◌++◌, List, [], codes, decimal}
use Rattle.trace_text.specs.declared.traces.TraceFault.{TraceFault}
use Rattle.trace_text.specs.declared.traces.TraceFault.TheVariants as fault
use Rattle.picture_run.specs.declared.ending.Ending.{Ending}
use Rattle.picture_run.specs.declared.ending.Ending.TheVariants.{Done, Words, Refused, ReadFailed, WriteFailed, WriteStuck, NoMemory}
use Rattle.picture_run.specs.declared.ending.Refusal.{Refusal}
use Rattle.picture_run.specs.declared.ending.Refusal.TheVariants.{LongTrace, LongReport, ByTrace, ByReport, ByTenant}

-- the status of an ending
abbrev pub status_of : Ending → ℕ
status_of Done = 0
status_of Words = 2
status_of (Refused why) = 3
status_of ReadFailed = 4
status_of WriteFailed = 5
status_of WriteStuck = 5
status_of NoMemory = 6

-- what is at fault in a trace
abbrev pub fault_name : TraceFault → List ℕ
fault_name (fault.Header at) = codes "header"
fault_name (fault.Fields at) = codes "fields"
fault_name (fault.Worker at) = codes "worker"
fault_name (fault.Op at) = codes "op"
fault_name (fault.Tenant at) = codes "tenant"
fault_name (fault.Amount at) = codes "amount"
fault_name (fault.Again at) = codes "again"
fault_name (fault.Unknown at) = codes "unknown"
fault_name (fault.TooMany at) = codes "too many"
fault_name (fault.Total at) = codes "total"
fault_name fault.NoMemory = codes "memory"
fault_name (fault.Cap at) = codes "cap"

-- .. and the number of the record where it stands
abbrev pub fault_record : TraceFault → ℕ
fault_record (fault.Header at) = at
fault_record (fault.Fields at) = at
fault_record (fault.Worker at) = at
fault_record (fault.Op at) = at
fault_record (fault.Tenant at) = at
fault_record (fault.Amount at) = at
fault_record (fault.Again at) = at
fault_record (fault.Unknown at) = at
fault_record (fault.TooMany at) = at
fault_record (fault.Total at) = at
fault_record fault.NoMemory = 0
fault_record (fault.Cap at) = at

-- why input is refused
abbrev pub refusal_text : Refusal → List ℕ
refusal_text LongTrace = codes "trace too long"
refusal_text LongReport = codes "report too long"
refusal_text (ByTrace found) = codes "trace " ++ fault_name found ++ codes " at " ++ decimal (fault_record found)
refusal_text ByReport = codes "no report of this trace"
refusal_text ByTenant = codes "no such tenant"

-- the line of an ending on standard error
abbrev pub error_line : Ending → List ℕ
error_line Done = []
error_line Words = codes "usage: funnel_picture line TRACE WORKERS | svg TRACE WORKERS TENANT\n"
error_line (Refused why) = codes "refused: " ++ refusal_text why ++ codes "\n"
error_line ReadFailed = codes "read failed\n"
error_line WriteFailed = codes "write failed\n"
error_line WriteStuck = codes "write stuck\n"
error_line NoMemory = codes "no memory\n"
