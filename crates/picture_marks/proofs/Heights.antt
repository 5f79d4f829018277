-- How far up a value stands on a scale.
use Rattle.std.proofs.Common.{ℕ, ◌*◌, ◌≤◌, arith}
use Rattle.std.proofs.Math.Nat.{div-le_of_le-mul, mul-le-mul_left}
use Rattle.picture_marks.specs.Marks.{scale}

-- a value up to the top stands within the size
pub scale-fits : (size top value : ℕ) → value ≤ top → scale size top value ≤ size
scale-fits size top value within =
    let wide = mul-le-mul_left {m = value} {n = top} size within in
    div-le_of_le-mul top {m = value * size} {n = size} (omega arith)
