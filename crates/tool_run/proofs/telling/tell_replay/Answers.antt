use Rattle.std.proofs.Common.{rules, ◌≡◌, refl}
use Rattle.trace_text.specs.Records.{records_of}
use Rattle.trace_text.specs.declared.traces.TraceFault.TheVariants.{NoMemory}
use Rattle.tool_run.proofs.Preparing.{first-fault}
use Rattle.tool_run.proofs.telling.tell_replay.Goals as goal

pub returns : goal.returns
returns g c =
    let other : c.in-Err.fault ≡ NoMemory → ⊥ = search rules in
    rw (c.new-in-Err.ensures.ending, c.new-in-Err.ensures.halted) (first-fault c.args.workers (records_of c.args.bytes.now) c.in-Err.fault other c.in-Err.ensures.first, refl)
