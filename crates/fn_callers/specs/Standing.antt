-- How a caller stands, by what it holds.
--     pass_of first standing, call_of standing, rows_of standing      its pass, its call underway, and the rows that this keeps
--     HasCome given kind amount now      the call that the pass began has no reply yet
--     StandsAt table standing      a caller of this table stands so between two calls
use Rattle.std.specs.Prelude.{ℕ, List, [], Option, Some, None}
use Rattle.fn_model.specs.declared.Kind.{Kind}
use Rattle.fn_core.specs.Calls.{IsLegal}
use Rattle.fn_table.specs.Seen.{TableView, PassView, IsOf}
use Rattle.fn_climb.specs.Begin.{HasBegun}
use Rattle.fn_table.specs.Later.{IsLater}
use Rattle.fn_climb.specs.Steps.{HasSameCall}
use Rattle.fn_callers.specs.declared.caller.Standing.{Standing}
use Rattle.fn_callers.specs.declared.caller.Standing.TheVariants.{Idle, Waits, Away}
use Rattle.fn_table.specs.Claims.{Rests}
use Rattle.fn_callers.specs.Callers.{Begun}

-- its pass; in the hands of a call, the one that it had first
abbrev pub pass_of : PassView → Standing → PassView
pass_of first (Idle pass) = pass
pass_of first (Waits w) = w.pending.pass
pass_of first Away = first

-- its call underway
abbrev pub call_of : Standing → Option Begun
call_of (Waits w) = Some (record { given = w.given.value; kind = w.kind; amount = w.amount })
call_of _ = None

-- the rows that it keeps
abbrev pub rows_of : Standing → List ℕ
rows_of (Waits w) = w.pending.rows
rows_of _ = []

-- The pass rested, began this call, and has seen more since; the call has no reply yet
pub record HasCome (p : PassView) (kind : Kind) (amount : ℕ) (now : PassView) : Type 0 where
  pub legal : IsLegal p.seen
  pub rests : Rests p
  pub begun : PassView
  pub begins : HasBegun p kind amount begun
  pub later : IsLater p now
  pub same : HasSameCall begun now

-- a caller of this table stands so between two calls
abbrev pub StandsAt : TableView → Standing → Type 0
StandsAt t (Idle pass) = IsOf t pass × Rests pass
StandsAt t (Waits w) = IsOf t w.given.value × HasCome w.given.value w.kind w.amount w.pending.pass
StandsAt t Away = ⊥
