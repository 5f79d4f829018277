-- Sound traces with their answers.
use Rattle.std.proofs.Common.{◌≡◌, ℕ, ◌+◌, ◌*◌, List, length}
use Rattle.quota_pool.specs.declared.moved.Moved.{Moved}
use Rattle.trace_text.specs.SoundTrace.{IsSoundTrace}
use Rattle.trace_text.specs.Trace.{Content}
use Rattle.replay_report.specs.Report.{HasAnswers}

-- a sound trace wants an answer for each row and a value for each tenant and segment, and nothing more
pub sound-has_answers : (workers : ℕ) (trace : Content) (answers : List Moved) (finals : List ℕ) → IsSoundTrace workers trace
    → length answers ≡ length trace.rows → length finals ≡ (length trace.cuts + 1) * length trace.tenants → HasAnswers trace answers finals
sound-has_answers workers trace answers finals sound each_row each_tenant =
    record { rows = each_row; tenants = λ k d less. (sound.rows k d less).tenant; segments = each_tenant; cuts = sound.cuts }
