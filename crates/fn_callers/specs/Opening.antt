-- What opening tells.
--     AreCallers opening cap allowances callers      they are the callers of one new funnel, one for each allowance
--     open_fault opening cap allowances      why no funnel is opened with these numbers
--     TellsFault fault told      the fault that is told
use Rattle.std.specs.Prelude.{◌≡◌, ◌⊎◌, ℕ, List, Option, Some, None, option_map, All, nat_lt, if◌then◌else◌, length, map}
use Rattle.fn_model.specs.declared.TheConstants.{NO_CAP}
use Rattle.fn_layout.specs.declared.shape.Shape.{Shape}
use Rattle.fn_core.specs.declared.answer.OpenFault.TheVariants as table
use Rattle.fn_core.specs.Calls as core
use Rattle.fn_table.specs.Seen.{TableView, IsWhole, fresh_passes}
use Rattle.fn_callers.specs.declared.opening.OpenFault.{OpenFault}
use Rattle.fn_callers.specs.declared.opening.OpenFault.TheVariants.{Count, CapTooLarge, Table}
use Rattle.fn_layout.specs.Workers.{IsShapeFor}
use Rattle.fn_callers.specs.Callers.{CallerView, at_rest}

-- The callers have the fresh passes of one table, in order of number, one for each allowance; each rests with its whole allowance. The table has opened with these numbers
pub record AreCallers (opening cap : ℕ) (allowances : List ℕ) (callers : List CallerView) : Type 0 where
  pub shape : Shape
  pub shape_is : IsShapeFor (length allowances) shape
  pub opened : TableView
  pub start : opened.start ≡ (core.newly_opened shape opening cap allowances).start
  pub fresh : callers ≡ map (at_rest opened) (fresh_passes opened)
  pub whole : All IsWhole (fresh_passes opened)

-- why no funnel is opened with these numbers: not 1 to 64 callers, or else a cap that no word holds, or else the table's reason
abbrev pub open_fault : ℕ → ℕ → List ℕ → Option OpenFault
open_fault opening cap allowances =
    if nat_lt (length allowances) 1 then Some (Count (length allowances))
    else (if nat_lt 64 (length allowances) then Some (Count (length allowances))
    else (if nat_lt NO_CAP cap then Some (CapTooLarge cap)
    else option_map Table (core.open_fault opening cap allowances)))

-- the fault that is told: the one that there is, and want of memory only where there is none
abbrev pub TellsFault : Option OpenFault → OpenFault → Type 0
TellsFault fault told = (fault ≡ Some told) ⊎ ((fault ≡ None) × (told ≡ Table table.NoMemory))
