-- Why a pool isn't opened.
--     pool_fault openings caps plans      the first fault of these numbers
--     TellsFault fault told      what is told of it
use Rattle.std.specs.Prelude.{◌≡◌, ◌⊎◌, ℕ, suc, ◌+◌, ◌^◌, List, ◌∷◌, Option, Some, None, nat_le, nat_lt, if◌then◌else◌, sum}
use Rattle.quota_pool.specs.declared.faults.PoolFault.{PoolFault}
use Rattle.quota_pool.specs.declared.faults.PoolFault.TheVariants.{TooMuch, NoMemory, AboveCap}

-- of the tenants from this number on, the first whose opening and allowances reach 2^63 together
abbrev pub too_much_from : ℕ → List ℕ → List (List ℕ) → Option PoolFault
too_much_from tenant (opening ∷ openings) (plan ∷ plans) =
    if nat_le (2 ^ 63) (opening + sum plan) then Some (TooMuch tenant opening (opening + sum plan)) else too_much_from (suc tenant) openings plans
too_much_from tenant _ _ = None

-- of the tenants from this number on, the first whose opening is above its cap
abbrev pub above_cap_from : ℕ → List ℕ → List ℕ → Option PoolFault
above_cap_from tenant (opening ∷ openings) (cap ∷ caps) = if nat_lt cap opening then Some (AboveCap tenant opening cap) else above_cap_from (suc tenant) openings caps
above_cap_from tenant _ _ = None

-- the first of two faults that there is
abbrev pub first_of_two : Option PoolFault → Option PoolFault → Option PoolFault
first_of_two None other = other
first_of_two (Some fault) other = Some fault

-- why a pool isn't opened with these numbers: a sum that reaches 2^63 comes before an opening above its cap, and the first tenant before the others
abbrev pub pool_fault : List ℕ → List ℕ → List (List ℕ) → Option PoolFault
pool_fault openings caps plans = first_of_two (too_much_from 0 openings plans) (above_cap_from 0 openings caps)

-- the fault that is told: the one that there is, and want of memory only where there is none
abbrev pub TellsFault : Option PoolFault → PoolFault → Type 0
TellsFault fault told = (fault ≡ Some told) ⊎ ((fault ≡ None) × (told ≡ NoMemory))
