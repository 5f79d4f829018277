use Rattle.std.proofs.Common.{ℕ, ◌≤◌, ◌<◌, ◌^◌, arith, rules}
use Rattle.std.proofs.Math.Nat.{pow-le-pow_right}
use Rattle.text_lines.proofs.pieces.value.Goals as goal

-- a power of ten with fewer than 19 digits
few : (n : ℕ) → n < 19 → 10 ^ n ≤ 1000000000000000000
few n less = pow-le-pow_right {n = 10} (omega arith) {i = n} {j = 18} (omega arith)

pub overflow_mul-value : goal.overflow_mul-value
overflow_mul-value c = let small = few c.loop-byte.byte-index (search rules) in omega arith

pub overflow_add-value : goal.overflow_add-value
overflow_add-value c = let small = few c.loop-byte.byte-index (search rules) in omega arith
