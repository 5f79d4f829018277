-- What holds of the accounts of a trace while it is read.
use Rattle.std.specs.Prelude.{◌≤◌, List, length}
use Rattle.std.specs.List.{All}
use Rattle.text_lines.specs.declared.pieces.TheConstants.{MOST_NUMBER}
use Rattle.trace_text.specs.declared.tenants.Account.{Account}
use Rattle.trace_text.specs.declared.tenants.TheConstants.{MOST_TENANTS}

-- an account's numbers stay below 2^63, and what is added is among the amounts
pub record IsHeld (account : Account) : Type 0 where
  pub among : account.reach ≤ account.used
  pub below : account.used ≤ MOST_NUMBER

-- accounts are held, and not too many
pub record AreHeld (accounts : List Account) : Type 0 where
  pub few : length accounts ≤ MOST_TENANTS
  pub each : All IsHeld accounts
