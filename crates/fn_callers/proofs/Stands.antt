-- A caller as contracts see it, by how it stands, and what its calls tell of it.
use Rattle.std.proofs.Common.{◌≡◌, ℕ, Some, sym, ◌∙◌, ap}
use Rattle.fn_model.specs.declared.Kind.{Kind}
use Rattle.fn_core.specs.declared.answer.CoreStep.{CoreStep}
use Rattle.fn_core.proofs.Public.{histories_go_on}
use Rattle.fn_table.specs.Seen.{TableView, PassView}
use Rattle.fn_climb.specs.Begin.{BeginAnswers}
use Rattle.fn_climb.specs.Turns.{Polled}
use Rattle.fn_climb.specs.declared.beginning.Begun.TheVariants as climb
use Rattle.fn_callers.specs.declared.caller.Standing.{Standing}
use Rattle.fn_callers.specs.declared.caller.Standing.TheVariants.{Waits}
use Rattle.fn_callers.specs.declared.caller.Waiting.{Waiting}
use Rattle.fn_callers.specs.Standing.{pass_of, call_of, rows_of}
use Rattle.fn_callers.specs.Callers.{CallerView, at_rest}
use Rattle.fn_callers.specs.Told.{HasBegun, StillWaits}

abbrev pub view_of : TableView → PassView → Standing → CallerView
view_of t first s = record { table = t; pass = pass_of first s; call = call_of s; rows = rows_of s }

pub stands_as : (t : TableView) (first : PassView) (s r : Standing) → s ≡ r → (c : CallerView) → view_of t first s ≡ c → c ≡ view_of t first r
stands_as t first s r is c view = sym view ∙ ap (λ (x : Standing). view_of t first x) is

-- a call that has begun
pub begun_call : (t : TableView) (first p : PassView) (kind : Kind) (amount : ℕ) (w : Waiting) → (w.given.value ≡ p) × (w.kind ≡ kind) × (w.amount ≡ amount) → BeginAnswers p kind amount (climb.Waiting w.pending) → HasBegun (at_rest t p) kind amount (view_of t first (Waits w))
begun_call t first p kind amount w is begins =
    let later = begins.1.later in
    record {
      call = (λ i. Some (record { given = is.0 i; kind = is.1 i; amount = is.2 i }));
      same = (later.table, later.number, later.start);
      goes_on = histories_go_on p.seen w.pending.seen later.legal later.start later.begins;
      spent = begins.3.left;
    }

-- one that waits still
pub still_waits : (t : TableView) (first : PassView) (v w : Waiting) (told : CoreStep) → (w.given.value ≡ v.given.value) × (w.kind ≡ v.kind) × (w.amount ≡ v.amount) → Polled v.pending told w.pending.pass → w.pending.rows ≡ v.pending.rows → StillWaits (view_of t first (Waits v)) (view_of t first (Waits w))
still_waits t first v w told is polled rows =
    let later = polled.later in
    record {
      call = (λ i. Some (record { given = is.0 i; kind = is.1 i; amount = is.2 i }));
      same = (later.table, later.number, later.start);
      goes_on = histories_go_on v.pending.seen w.pending.seen later.legal later.start later.begins;
      spent = polled.same.left;
      rows = rows;
    }
