-- The shape that a number of workers gets.
use Rattle.std.specs.Prelude.{ℕ, ◌+◌, ◌/◌, nat_le, if◌then◌else◌}
use Rattle.fn_layout.specs.declared.shape.Shape.{Shape}
use Rattle.fn_layout.specs.Shape.{HasNumbers}

-- one leaf for each four workers, begun ones too
abbrev pub leaves_for : ℕ → ℕ
leaves_for workers = (workers + 3) / 4

-- a pass for each worker, two levels where there are two leaves or more, and four rows
abbrev pub IsShapeFor : ℕ → Shape → Type 0
IsShapeFor workers shape = HasNumbers shape workers (leaves_for workers) (if nat_le 2 (leaves_for workers) then 2 else 1) 4
