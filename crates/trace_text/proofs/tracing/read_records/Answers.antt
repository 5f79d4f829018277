use Rattle.std.proofs.Common.{◌≡◌, ◌+◌, Ok, sym, ◌∙◌, true, false}
use Rattle.std.proofs.lemmas.Result.{err_from_is_err_and}
use Rattle.csv.specs.Records.{fields_of}
use Rattle.trace_text.specs.Trace.{record_after, state_of}
use Rattle.trace_text.proofs.InTurn.{Fails-through, records_after-more, records_after-none, records_after-refused}
use Rattle.trace_text.proofs.SoundSteps.{sound-step, sound-trace}
use Rattle.trace_text.proofs.tracing.read_records.Goals as goal

pub loop-ledger-preserved : goal.loop-ledger-preserved
loop-ledger-preserved c =
    let found : c.read.result ≡ Ok true = cc in
    let taken = c.read.ensures.some found in
    let after : record_after c.args.format c.args.workers (c.loop-ledger.at + 1) (fields_of c.read.new.row) (state_of c.loop-ledger.ledger) ≡ Ok (state_of c.take_record.new.ledger) = c.in_ok-take_record.ensures in
    let step = sound-step c.args.format c.args.workers (c.loop-ledger.at + 1) (fields_of c.read.new.row) (state_of c.loop-ledger.ledger) (state_of c.take_record.new.ledger) c.loop-ledger.invariant.sound after in
    record {
      limit = step.0;
      sound = step.1;
      same = records_after-more c.args.format c.args.workers (c.loop-ledger.at + 1) (fields_of c.read.new.row) c.read.new.self (state_of c.loop-ledger.ledger) (state_of c.take_record.new.ledger) after ∙ (rw taken at c.loop-ledger.invariant.same);
    }

pub returns-in_err-take_record-clause-exact : goal.returns-in_err-take_record-clause-exact
returns-in_err-take_record-clause-exact c =
    let p = err_from_is_err_and c.from_residual-in_err-take_record.result c.from_residual-in_err-take_record.ensures.1 in
    let found : c.read.result ≡ Ok true = cc in
    let taken = c.read.ensures.some found in
    rw (p.1, p.2) (Fails-through _ _ _ (λ refused. sym c.loop-ledger.invariant.same ∙ rw taken (records_after-refused c.args.format c.args.workers (c.loop-ledger.at + 1) (fields_of c.read.new.row) c.read.new.self (state_of c.loop-ledger.ledger) _ refused)) c.in_err-take_record.ensures)

pub returns-clause-sound : goal.returns-clause-sound
returns-clause-sound c = sound-trace c.args.workers (state_of c.loop-ledger.ledger) c.loop-ledger.invariant.sound

pub returns-clause-exact : goal.returns-clause-exact
returns-clause-exact c =
    let found : c.read.result ≡ Ok false = cc in
    let none = c.read.ensures.none found in
    sym c.loop-ledger.invariant.same ∙ rw none (records_after-none c.args.format c.args.workers (c.loop-ledger.at + 1) (state_of c.loop-ledger.ledger))
