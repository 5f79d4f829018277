-- Which ticks the entries of a log claim.
--     reach from log      the greatest of a first tick and the ticks of the entries
--     between low high      the ticks above one up to another, in rising order
--     claims from log      the ticks that the entries claim, entry by entry
--     ReachIsGreatest, ClaimsGoOn, ClaimsFollow, EachTickOnce, ClaimsAddUp      the laws of claims
--     StatesAreReached, RuleIsPlain      what the running rule says of ticks
use Rattle.std.specs.Prelude.{◌≡◌, ◌⊎◌, ℕ, suc, ◌-◌, ◌≤◌, max, List, [], ◌∷◌, ◌++◌, fold, length, sum, All, Any, nat_lt, nat_le, ◌&&◌, if◌then◌else◌}
use Rattle.atomic_table.specs.Table.{State}
use Rattle.running.specs.declared.View.{View}
use Rattle.running.specs.Machine.{state_of}
use Rattle.running.specs.Running.{numbers_from, times, Running}
use Rattle.running.specs.Between.{Between}
use Rattle.tick_table.specs.declared.entry.Start.{Start}
use Rattle.tick_table.specs.declared.entry.Entry.{Entry}
use Rattle.tick_table.specs.Ticks.{ticks}

-- the greatest of the first tick and the ticks of the entries
abbrev pub reach : ℕ → List Entry → ℕ
reach from log = fold (λ reached entry. max reached entry.tick) from log

-- the ticks above the first number up to the second, in rising order
abbrev pub between : ℕ → ℕ → List ℕ
between low high = numbers_from (suc low) (high - low)

-- the ticks that the entries claim: each those above the reach of the entries before it, up to its own
abbrev pub claims : ℕ → List Entry → List ℕ
claims from [] = []
claims from (entry ∷ log) = between from entry.tick ++ claims (max from entry.tick) log

-- how many ticks each entry claims
abbrev pub counts : ℕ → List Entry → List ℕ
counts from [] = []
counts from (entry ∷ log) = (entry.tick - from) ∷ counts (max from entry.tick) log

-- The reach is the first tick or that of an entry, and none of these is above it
pub record IsGreatest (from : ℕ) (log : List Entry) : Type 0 where
  pub from_first : from ≤ reach from log
  pub above : All (λ (entry : Entry). entry.tick ≤ reach from log) log
  pub one : (reach from log ≡ from) ⊎ Any (λ (entry : Entry). entry.tick ≡ reach from log) log

abbrev pub ReachIsGreatest : Type 0
ReachIsGreatest = (from : ℕ) (log : List Entry) → IsGreatest from log

-- the claims go on from the reach of the first entries
abbrev pub ClaimsGoOn : Type 0
ClaimsGoOn = (from : ℕ) (xs ys : List Entry) → (reach from (xs ++ ys) ≡ reach (reach from xs) ys) × (claims from (xs ++ ys) ≡ claims from xs ++ claims (reach from xs) ys)

-- so an entry claims the ticks above the reach of the entries before it, up to its own
abbrev pub ClaimsFollow : Type 0
ClaimsFollow = (from : ℕ) (xs ys : List Entry) (entry : Entry)
    → claims from (xs ++ entry ∷ ys) ≡ claims from xs ++ (between (reach from xs) entry.tick ++ claims (reach from (xs ++ entry ∷ [])) ys)

-- the claims are the ticks above the first up to the reach, in rising order; each is claimed once, and no other is claimed
pub record EachOnce (from : ℕ) (log : List Entry) : Type 0 where
  pub all : claims from log ≡ between from (reach from log)
  pub once : (tick : ℕ) → times tick (claims from log) ≡ (if nat_lt from tick && nat_le tick (reach from log) then 1 else 0)

abbrev pub EachTickOnce : Type 0
EachTickOnce = (from : ℕ) (log : List Entry) → EachOnce from log

-- what the entries claim adds up
abbrev pub ClaimsAddUp : Type 0
ClaimsAddUp = (from : ℕ) (log : List Entry) → (sum (counts from log) ≡ reach from log - from) × ((low high : ℕ) → length (between low high) ≡ high - low)

-- the state of the machine is the reach of the log
abbrev pub StatesAreReached : Type 0
StatesAreReached = (start : Start) (log : List Entry) → state_of ticks start log ≡ reach start.tick log

-- Between any two steps: the points of the running rule hold, and the one word is the reach of the longest log
pub record TickRule (start : Start) (s : State (Unit {0}) (View Start Entry)) : Type 0 where
  pub points : Between ticks start s
  pub word : s.words ≡ reach start.tick points.log ∷ []

abbrev pub RuleIsPlain : Type 0
RuleIsPlain = (start : Start) (s : State (Unit {0}) (View Start Entry)) → Running ticks start s → TickRule start s
