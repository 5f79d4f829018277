-- Why a bucket isn't opened.
--     bucket_fault opening burst allowances      the fault of these numbers
--     TellsFault fault told      what is told of it
--     fault_of fault      the fault of the tokens' funnel, as one of the bucket
use Rattle.std.specs.Prelude.{◌≡◌, ◌⊎◌, ℕ, ◌+◌, ◌^◌, List, Option, Some, None, nat_le, nat_lt, if◌then◌else◌, sum}
use Rattle.fn_core.specs.declared.answer.OpenFault.{OpenFault}
use Rattle.fn_core.specs.declared.answer.OpenFault.TheVariants as funnel
use Rattle.quota_bucket.specs.declared.faults.BucketFault.{BucketFault}
use Rattle.quota_bucket.specs.declared.faults.BucketFault.TheVariants.{TooMuch, AboveCap, NoMemory}

-- why a bucket isn't opened with these numbers: a sum that reaches 2^63 comes before an opening above the burst
abbrev pub bucket_fault : ℕ → ℕ → List ℕ → Option BucketFault
bucket_fault opening burst allowances =
    if nat_le (2 ^ 63) (opening + sum allowances) then Some (TooMuch opening (opening + sum allowances))
    else (if nat_lt burst opening then Some (AboveCap opening burst) else None)

-- the fault that is told: the one that there is, and want of memory only where there is none
abbrev pub TellsFault : Option BucketFault → BucketFault → Type 0
TellsFault fault told = (fault ≡ Some told) ⊎ ((fault ≡ None) × (told ≡ NoMemory))

-- the fault of the tokens' funnel, as one of the bucket
abbrev pub fault_of : OpenFault → BucketFault
fault_of (funnel.TooMuch opening total) = TooMuch opening total
fault_of (funnel.AboveCap opening cap) = AboveCap opening cap
fault_of funnel.NoMemory = NoMemory
