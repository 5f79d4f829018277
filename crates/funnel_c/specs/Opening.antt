-- What opening tells C.
--     HasCaller slots, AreEmpty slots      some slot has a caller, or none has
--     IsRefused opening cap allowances slots      no funnel is opened with these
--     HasOpened opening cap allowances held      the slots have the callers of one new funnel
--     fault_status fault      the status of a fault
use Rattle.std.specs.Prelude.{◌≡◌, ◌≢◌, ◌⊎◌, ℕ, List, length, map, All, Any, Option, Some, None, IsSome}
use Rattle.fn_core.specs.declared.answer.OpenFault.TheVariants as table
use Rattle.fn_callers.specs.declared.opening.OpenFault.{OpenFault}
use Rattle.fn_callers.specs.declared.opening.OpenFault.TheVariants.{Table}
use Rattle.fn_callers.specs.Callers.{CallerView}
use Rattle.fn_callers.specs.Opening.{AreCallers, open_fault}
use Rattle.funnel_c.specs.declared.slots.Slot.{Slot}
use Rattle.funnel_c.specs.declared.statuses.TheConstants.{NO_MEMORY, REFUSED}
use Rattle.funnel_c.specs.Slots.{caller_in}

-- some slot has a caller
abbrev pub HasCaller : List Slot → Type 0
HasCaller slots = Any (λ s. IsSome (caller_in s)) slots

-- none has
abbrev pub AreEmpty : List Slot → Type 0
AreEmpty slots = All (λ s. caller_in s ≡ None) slots

-- a slot is full, there isn't an allowance for each slot, or the numbers open no funnel
abbrev pub IsRefused : (opening cap : ℕ) → List ℕ → List Slot → Type 0
IsRefused opening cap allowances slots = HasCaller slots ⊎ (length allowances ≢ length slots) ⊎ IsSome (open_fault opening cap allowances)

-- each slot has a caller: they are the callers of one new funnel, in order
abbrev pub HasOpened : (opening cap : ℕ) → List ℕ → List (Option CallerView) → Type 0
HasOpened opening cap allowances held = (callers : List CallerView) × (held ≡ map Some callers) × AreCallers opening cap allowances callers

-- the status of a fault
abbrev pub fault_status : OpenFault → ℕ
fault_status (Table table.NoMemory) = NO_MEMORY
fault_status _ = REFUSED
