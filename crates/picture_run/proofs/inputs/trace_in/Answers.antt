use Rattle.std.proofs.Common.{rules, ◌≡◌}
use Rattle.trace_text.specs.Records.{records_of}
use Rattle.trace_text.specs.declared.traces.TraceFault.TheVariants.{NoMemory}
use Rattle.picture_run.proofs.Faults.{first-fault}
use Rattle.picture_run.proofs.inputs.trace_in.Goals as goal

pub returns-in-Err : goal.returns-in-Err
returns-in-Err c =
    let other : c.in-Err.fault ≡ NoMemory → ⊥ = search rules in
    first-fault c.args.workers (records_of c.args.bytes.now) c.in-Err.fault other c.in-Err.ensures.first
