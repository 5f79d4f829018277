-- Records that are read one after the other.
use Rattle.std.proofs.Common.{◌≡◌, ℕ, ◌+◌, List, [], ◌∷◌, Result, Ok, Err, refl}
use Rattle.trace_text.specs.Trace.{Fails, State, record_after, records_after}
use Rattle.trace_text.specs.declared.fields.Format.{Format}
use Rattle.trace_text.specs.declared.traces.TraceFault.{TraceFault}
use Rattle.trace_text.specs.declared.traces.TraceFault.TheVariants as fault

-- a record that was read
pub records_after-more : (format : Format) (workers at : ℕ) (row : List (List ℕ)) (rest : List (List (List ℕ))) (state next : State)
    → record_after format workers at row state ≡ Ok next → records_after format workers (at + 1) rest next ≡ records_after format workers at (row ∷ rest) state
unfolding records_after
records_after-more format workers at row rest state next was = rw was refl

-- a record that was refused
pub records_after-refused : (format : Format) (workers at : ℕ) (row : List (List ℕ)) (rest : List (List (List ℕ))) (state : State) (found : TraceFault)
    → record_after format workers at row state ≡ Err found → records_after format workers at (row ∷ rest) state ≡ Err found
unfolding records_after
records_after-refused format workers at row rest state found was = rw was refl

-- no further record
pub records_after-none : (format : Format) (workers at : ℕ) (state : State) → records_after format workers at [] state ≡ Ok state
unfolding records_after
records_after-none format workers at state = refl

-- a fault of one reading that is that of another
pub Fails-through : {X Y : Type 0} (found : TraceFault) (part : Result X TraceFault) (read : Result Y TraceFault)
    → (part ≡ Err found → read ≡ Err found) → Fails found part → Fails found read
Fails-through fault.NoMemory part read to is = tt
Fails-through (fault.Header at) part read to is = to is
Fails-through (fault.Fields at) part read to is = to is
Fails-through (fault.Worker at) part read to is = to is
Fails-through (fault.Op at) part read to is = to is
Fails-through (fault.Tenant at) part read to is = to is
Fails-through (fault.Amount at) part read to is = to is
Fails-through (fault.Again at) part read to is = to is
Fails-through (fault.Unknown at) part read to is = to is
Fails-through (fault.TooMany at) part read to is = to is
Fails-through (fault.Total at) part read to is = to is
Fails-through (fault.Cap at) part read to is = to is
