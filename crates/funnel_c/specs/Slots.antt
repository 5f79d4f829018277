-- What is in slots.
--     caller_in slot, callers_in slots      a slot's caller, if there is one, and those of all slots
--     InBoth Tells old new      a slot has a caller before and after, of which this holds
--     Keeps old new      a slot keeps its caller
use Rattle.std.specs.Prelude.{◌≡◌, ⊤, List, map, Option, Some, None}
use Rattle.fn_callers.specs.Callers.{CallerView}
use Rattle.funnel_c.specs.declared.slots.Slot.{Slot}

-- the caller in a slot, if there is one
abbrev pub caller_in : Slot → Option CallerView
caller_in s = s.held.value

-- those of all slots, in order
abbrev pub callers_in : List Slot → List (Option CallerView)
callers_in slots = map caller_in slots

-- there is a caller before and after, of which this holds
abbrev pub InBoth : (CallerView → CallerView → Type 0) → Option CallerView → Option CallerView → Type 0
InBoth Tells (Some old) (Some new) = Tells old new
InBoth Tells _ _ = ⊥

-- a slot that has a caller has the same one after, with the pass of the same number at the same table; an empty slot stays empty
abbrev pub Keeps : Option CallerView → Option CallerView → Type 0
Keeps (Some old) (Some new) = (new.table ≡ old.table) × (new.pass.number ≡ old.pass.number)
Keeps None None = ⊤
Keeps _ _ = ⊥
