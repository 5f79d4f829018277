-- Most steps leave what a pass keeps of its rows: where it points, and the ends of its own rows.
use Rattle.std.proofs.Common.{◌≡◌, true, ℕ, ◌==◌, arith}
use Rattle.std.specs.Prelude.{◌&&◌}
use Rattle.std.proofs.lemmas.Bool.{and_parts, cond_both, eqb-true}
use Rattle.std.proofs.lemmas.Bool.Decides.{nat_tests}
use Rattle.fn_model.specs.declared.Kind.{Kind}
use Rattle.fn_model.specs.Calls.{same_kind}
use Rattle.fn_rows.specs.declared.Stage.TheVariants.{Pointed}
use Rattle.fn_core.specs.declared.Start.{Start}
use Rattle.fn_core.specs.declared.Move.{Move}
use Rattle.fn_core.specs.declared.Move.TheVariants.{Point, Publish}
use Rattle.fn_core.specs.Words.{Own}
use Rattle.fn_core.specs.After.{put_level, own_after}
use Rattle.fn_table.specs.Seen.{PassView, May, own_of}
use Rattle.fn_table.specs.Kept.{is_calling, KeepsTally}

pub same_kind_is : (a b : Kind) → same_kind a b ≡ true → a ≡ b
same_kind_is a b h = grind arith

-- what holds of the new value there and of the old ones elsewhere
pub level_case : {A : Type 0} (P : A → Type 0) (f : Kind → ℕ → A) (kind : Kind) (level : ℕ) (value : A) (k : Kind) (j : ℕ) → (k ≡ kind → j ≡ level → P value) → P (f k j) → P (put_level f kind level value k j)
level_case P f kind level value k j here there =
    cond_both (same_kind k kind && (j == level)) value (f k j) P (λ e. let b = and_parts (same_kind k kind) (j == level) e in here (same_kind_is k kind b.0) (eqb-true j level b.1)) (λ e. there)

-- the step leaves the rows as they are
abbrev pub SparesRows : Move → Type 0
SparesRows (Point kind level row) = ⊥
SparesRows (Publish kind level) = ⊥
SparesRows _ = Unit {0}

-- .. so no stage points that didn't before
pub pointed_after : (start : Start) (pass : ℕ) (step : Move) (n : ℕ) (o : Own) → SparesRows step → (k : Kind) (j at hi b row : ℕ) → (own_after start pass step n o).stages k j ≡ Pointed at hi b row → o.stages k j ≡ Pointed at hi b row
pointed_after start pass step n o spares k j at hi b row h = grind (arith, nat_tests, same_kind_is)

-- .. and the ends are the same
pub ends_after : (start : Start) (pass : ℕ) (step : Move) (n : ℕ) (o : Own) → SparesRows step → (k : Kind) (j row : ℕ) → (own_after start pass step n o).ends k j row ≡ o.ends k j row
ends_after start pass step n o spares k j row = grind (arith, nat_tests, same_kind_is)

-- a step that leaves all that a pass keeps leaves its rows
pub rows_quiet : (step : Move) → KeepsTally step → SparesRows step
rows_quiet step quiet = grind arith

-- .. and its allowance
pub left_quiet : (start : Start) (pass : ℕ) (step : Move) (n : ℕ) (o : Own) → KeepsTally step → o.caller.left ≡ (own_after start pass step n o).caller.left
left_quiet start pass step n o quiet = grind (arith, nat_tests)

-- .. and whether it has a call
pub calling_quiet : (p : PassView) (step : Move) (n : ℕ) → May p step → KeepsTally step → is_calling (own_of p).caller.position ≡ is_calling (own_after p.seen.start p.number step n (own_of p)).caller.position
calling_quiet p step n may quiet = grind (arith, nat_tests)
