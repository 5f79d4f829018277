-- What members found of each other, in one list: the places of a member stand one after the other.
use Rattle.std.specs.Prelude.{◌≡◌, ◌⊎◌, ℕ, ◌+◌, ◌*◌, ◌<◌, ◌≤◌, if◌then◌else◌, nat_lt, List, get_or, Option, None}

-- what a member found of another
unfoldable pub found_in : ℕ → List (Option ℕ) → ℕ → ℕ → Option ℕ
found_in members places m q = if nat_lt q members then get_or places (m * members + q) None else None

-- these places hold nothing now, and the others what they held
pub record Forgets (old new : List (Option ℕ)) (start count : ℕ) : Type 0 where
  pub inside : (i : ℕ) → start ≤ i → i < start + count → get_or new i None ≡ None
  pub outside : (i : ℕ) → (i < start) ⊎ (start + count ≤ i) → get_or new i None ≡ get_or old i None
