-- What contracts see of callers.
--     Begun      a call that has begun, and has no reply yet
--     CallerView, pending_of caller      a caller, and its pass with the rows of its call
--     IsFree caller, HasCall caller      it has no call underway, or one
--     at_rest table pass      a caller that has no call underway
use Rattle.std.specs.Prelude.{◌≡◌, ℕ, List, [], Option, None, IsSome}
use Rattle.fn_model.specs.declared.Kind.{Kind}
use Rattle.fn_table.specs.Seen.{TableView, PassView}
use Rattle.fn_climb.specs.Next.{PendingView}

-- a call that has begun: its pass as it was before, and what it asks for
pub record Begun : Type 0 where
  pub given : PassView
  pub kind : Kind
  pub amount : ℕ

-- a caller: its table, its pass, its call underway if there is one, and the rows that this call keeps
pub record CallerView : Type 0 where
  pub table : TableView
  pub pass : PassView
  pub call : Option Begun
  pub rows : List ℕ

-- its pass, with the rows of its call
abbrev pub pending_of : CallerView → PendingView
pending_of c = record { pass = c.pass; rows = c.rows }

-- it has no call underway
abbrev pub IsFree : CallerView → Type 0
IsFree c = c.call ≡ None

-- it has one
abbrev pub HasCall : CallerView → Type 0
HasCall c = IsSome c.call

-- a caller that has no call underway
abbrev pub at_rest : TableView → PassView → CallerView
at_rest t p = record { table = t; pass = p; call = None; rows = [] }
