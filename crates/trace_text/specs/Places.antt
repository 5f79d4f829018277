-- Where the names of tenants are found while a trace is read.
use Rattle.std.specs.Prelude.{◌≡◌, ℕ, true, List, map}
use Rattle.std.specs.HashMap.{HashMap, get_by}
use Rattle.std.specs.List.{All, position}
use Rattle.std.specs.Str.{bytes_eq}
use Rattle.std.specs.declared.vec.Vec.{Vec}
use Rattle.trace_text.specs.Fields.{is_name}
use Rattle.trace_text.specs.declared.tenants.Account.{Account}

-- the names of accounts
abbrev pub names_of : List Account → List (List ℕ)
names_of accounts = map (λ account. account.tenant.name) accounts

-- a map has the place of each of these names, and no other name
abbrev pub ArePlaced : {Y S : Type 0} → List (List ℕ) → HashMap (Vec ℕ Y) ℕ S → Type 0
ArePlaced names places = (name : List ℕ) → get_by (λ key. bytes_eq name key.items) places ≡ position (λ other. bytes_eq other name) names

-- all of these may be names
abbrev pub AreNames : List (List ℕ) → Type 0
AreNames names = All (λ name. is_name name ≡ true) names
