-- The ticket of a turn word.
use Rattle.std.proofs.Common.{◌≡◌, ℕ, ◌+◌, ◌-◌, ◌*◌, ◌/◌, ◌<◌, arith}

-- its quarter, whatever its place among the ticket's four
pub quarter : (t r n : ℕ) → r < 4 → n ≡ 4 * t + r → n / 4 ≡ t
quarter t r n h is = omega arith

pub quarter_whole : (t : ℕ) → 4 * t / 4 ≡ t
quarter_whole t = omega arith

-- the ticket whose turn goes to the next one of its cell
pub quarter_next : (t n slots : ℕ) → slots ≡ n → 4 * (t + n) / 4 - slots ≡ t
quarter_next t n slots is = let q : 4 * (t + n) / 4 ≡ t + n = quarter_whole (t + n) in omega (arith, q, is)
