-- The next step of a call is told by what is the pass's own.
use Rattle.std.proofs.Common.{◌≡◌, ℕ, zero, suc, ◌+◌, ◌*◌, refl, ◌∙◌, ap}
use Rattle.std.specs.Prelude.{if◌then◌else◌, ◌==◌, ◌&&◌}
use Rattle.std.proofs.lemmas.Nat.{div-mul-add}
use Rattle.fn_model.specs.declared.Kind.{Kind}
use Rattle.fn_model.specs.declared.Kind.TheVariants.{Add}
use Rattle.fn_model.specs.Calls.{same_kind}
use Rattle.fn_rows.specs.declared.Field.TheVariants.{Lo}
use Rattle.fn_rows.specs.declared.Stage.{Stage}
use Rattle.fn_rows.specs.declared.Stage.TheVariants.{Out, Saw, Told, Waiting, Lead, Late, Shut, Based, Headed, FilledLo, FilledBase, Filled, Pointed, At, Over, Hit, Got}
use Rattle.fn_layout.specs.Words.{row_number}
use Rattle.fn_core.specs.declared.Purpose.TheVariants.{Try}
use Rattle.fn_core.specs.declared.Move.TheVariants.{See, Arrive, Apply, Fill, Load, Exchange}
use Rattle.fn_core.specs.Tree.{member}
use Rattle.fn_core.specs.State.{Start, Position, Resting, Trying, Climbing, Deciding, State, stage}
use Rattle.fn_core.specs.Machine.{no_cap}
use Rattle.fn_core.specs.Words.{own}
use Rattle.fn_core.specs.Order.{first_free, weight_below, next_at, next_by, next_move}
use Rattle.fn_core.specs.Laws.{NextIsOwn}
use Rattle.fn_core.proofs.Chosen.{same_first}
use Rattle.fn_core.proofs.Guards.{position, stage_is, found_is, end_is, weight_is}

module _ (start : Start) (s t : State) (pass : ℕ) (same : own start t pass ≡ own start s pass) where
  first_is : (kind : Kind) (level : ℕ) → first_free start t kind level pass ≡ first_free start s kind level pass
  first_is kind level =
      let m : ℕ = member start.shape level pass in
      same_first start s t kind level pass (λ n lt. end_is start pass s t same kind level (m * start.shape.rows + n) (div-mul-add m start.shape.rows n lt)) (λ i q. found_is start pass s t same kind level q i)

  below_is : (kind : Kind) (level : ℕ) → weight_below start t pass kind level ≡ weight_below start s pass kind level
  below_is kind zero = refl
  below_is kind (suc below) = weight_is start pass s t same kind below

  at_stage : (kind : Kind) (level : ℕ) (g : Stage) → next_at start t pass kind level g ≡ next_at start s pass kind level g
  at_stage kind level Out = refl
  at_stage kind level (Saw seen) = refl
  at_stage kind level (Told seen) = ap (λ (w : ℕ). Arrive kind level w) (below_is kind level)
  at_stage kind level (Waiting at) = refl
  at_stage kind level (Lead at) = refl
  at_stage kind level (Late at) = refl
  at_stage kind level (Shut at hi) = ap (λ (w : ℕ). if level == start.shape.levels then (if same_kind kind Add && (start.cap == no_cap) then Apply w else Load Try) else See kind (suc level)) (weight_is start pass s t same kind level)
  at_stage kind level (Based at hi b) = refl
  at_stage kind level (Headed at hi b h) = ap (λ (n : ℕ). Fill (row_number start.shape pass kind level n) Lo) (first_is kind level)
  at_stage kind level (FilledLo at hi b h r) = refl
  at_stage kind level (FilledBase at hi b h r) = refl
  at_stage kind level (Filled at hi b r) = refl
  at_stage kind level (Pointed at hi b r) = refl
  at_stage kind level (At at r) = refl
  at_stage kind level (Over at r) = refl
  at_stage kind level (Hit at r lo) = refl
  at_stage kind level (Got b ahead) = refl

  in_position : (x : Position) → next_by start t pass x ≡ next_by start s pass x
  in_position Resting = refl
  in_position (Trying word) = refl
  in_position (Climbing kind level) = ap (next_at start t pass kind level) (stage_is start pass s t same kind level) ∙ at_stage kind level (stage start s kind level pass)
  in_position (Deciding kind level word) = ap (λ (w : ℕ). Exchange kind w) (weight_is start pass s t same kind level)

  next_same : next_move start t pass ≡ next_move start s pass
  next_same = ap (next_by start t pass) (position start pass s t same) ∙ in_position (s.callers pass).position

pub next_is_own : NextIsOwn
next_is_own start s t pass same = next_same start s t pass same
