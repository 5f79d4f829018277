-- The next step of a pass's call.
--     PendingView      what a call between its steps is known by
--     next_step pass      the step that the order tells
--     next_of pending      .. which begins to fill the row that the call's beginning found open
--     IsNext pending step      the step is that one
use Rattle.std.specs.Prelude.{◌≡◌, ◌-◌, ℕ, List, slice_index_or}
use Rattle.fn_model.specs.declared.Kind.{Kind}
use Rattle.fn_rows.specs.declared.Field.TheVariants.{Lo}
use Rattle.fn_layout.specs.Words.{row_number}
use Rattle.fn_core.specs.declared.Move.{Move}
use Rattle.fn_core.specs.declared.Move.TheVariants.{Fill}
use Rattle.fn_core.specs.declared.Position.{Position}
use Rattle.fn_core.specs.declared.Position.TheVariants.{Climbing}
use Rattle.fn_core.specs.Order.{next_move}
use Rattle.fn_core.specs.Calls.{state_in}
use Rattle.fn_table.specs.Seen.{PassView, own_of}

-- What a call between its steps is known by: its pass, and the number of the row of the pass that its beginning found open at each level, the first level first
pub record PendingView : Type 0 where
  pub pass : PassView
  pub open pass use *
  pub rows : List ℕ

-- the next step of the pass's call, after what it has seen; it fills the first of the rows that it may fill
abbrev pub next_step : PassView → Move
next_step p = next_move p.seen.start (state_in p.seen) p.number

-- the row that was kept for a level
abbrev pub kept_row : PendingView → Kind → ℕ → ℕ
kept_row q kind level = row_number q.pass.seen.start.shape q.pass.number kind level (slice_index_or q.rows (level - 1) 0)

-- the step of a call at this place, where a step that begins to fill a row does so in the one that was kept for the level
abbrev pub in_kept_row : PendingView → Move → Position → Move
in_kept_row q (Fill first Lo) (Climbing kind level) = Fill (kept_row q kind level) Lo
in_kept_row q step position = step

-- the next step of a call
abbrev pub next_of : PendingView → Move
next_of q = in_kept_row q (next_step q.pass) (own_of q.pass).caller.position

-- the call takes this step next
abbrev pub IsNext : PendingView → Move → Type 0
IsNext q step = next_of q ≡ step
