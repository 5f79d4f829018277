-- Steps that may fail, one after the other.
use Rattle.std.specs.Prelude.{Option, Some, None, Result, Ok, Err}

infixl 10 ◌>>=◌
abbrev pub ◌>>=◌ : {A B E : Type 0} → Result A E → (A → Result B E) → Result B E
(Ok x) >>= f = f x
(Err e) >>= f = Err e

-- what there is, or a fault where there is nothing
abbrev pub required : {A E : Type 0} → E → Option A → Result A E
required missing None = Err missing
required missing (Some x) = Ok x

-- the fault of a step
abbrev pub fault_in : {A E : Type 0} → Result A E → Option E
fault_in (Ok _) = None
fault_in (Err found) = Some found
