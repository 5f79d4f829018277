-- What an order is worth.
use Rattle.std.specs.Prelude.{ℕ}
use Rattle.script_text.specs.declared.scripts.Order.{Order}
use Rattle.script_text.specs.declared.scripts.Order.TheVariants.{Add, Sub, Direct, SubDirect, Read, Step, Poll, Meet}

-- the amount that an order adds or subtracts
abbrev pub amount : Order → ℕ
amount (Add n) = n
amount (Sub n) = n
amount (Direct n) = n
amount (SubDirect n) = n
amount Read = 0
amount Step = 0
amount Poll = 0
amount (Meet _) = 0
