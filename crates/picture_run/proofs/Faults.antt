-- The faults of traces that are told.
use Rattle.std.proofs.Common.{◌≡◌, ℕ, List, refl}
use Rattle.trace_text.specs.TraceLaws.{IsFirstFault, IsRefusedFor}
use Rattle.trace_text.specs.declared.traces.TraceFault.{TraceFault}
use Rattle.trace_text.specs.declared.traces.TraceFault.TheVariants as trace

-- a trace that is refused, and not for want of memory, is so for its first fault
pub first-fault : (workers : ℕ) (records : List (List (List ℕ))) (found : TraceFault) → (found ≡ trace.NoMemory → ⊥) → IsRefusedFor workers records found → IsFirstFault workers records found
first-fault workers records trace.NoMemory other refused = absurd (other refl)
first-fault workers records (trace.Header at) other refused = refused
first-fault workers records (trace.Fields at) other refused = refused
first-fault workers records (trace.Worker at) other refused = refused
first-fault workers records (trace.Op at) other refused = refused
first-fault workers records (trace.Tenant at) other refused = refused
first-fault workers records (trace.Amount at) other refused = refused
first-fault workers records (trace.Again at) other refused = refused
first-fault workers records (trace.Unknown at) other refused = refused
first-fault workers records (trace.TooMany at) other refused = refused
first-fault workers records (trace.Total at) other refused = refused
first-fault workers records (trace.Cap at) other refused = refused
