-- Tenants by their names: where a name was looked for, and what the trace so far says of it.
use Rattle.std.proofs.Common.{◌≡◌, ◌≢◌, ℕ, ◌<◌, ◌≤◌, Bool, true, false, List, length, map, get_or, Some, None, inl, inr, sym, ◌∙◌, arith, subst}
use Rattle.std.specs.List.{AllPairs, position, position_or_len}
use Rattle.std.specs.Str.{bytes_eq}
use Rattle.std.proofs.lemmas.Bool.{cases_Bool, false≢true}
use Rattle.std.proofs.lemmas.Grind.{common_steps}
use Rattle.std.proofs.lemmas.List.{get_or-map, length-map}
use Rattle.std.proofs.lemmas.List.Elements.{All-map}
use Rattle.std.proofs.lemmas.List.Quantifiers.{position-Some}
use Rattle.std.proofs.lemmas.List.Sums.{fails_before_first, position_or_len_is}
use Rattle.std.proofs.lemmas.Slice.Eq.{bytes_eq-Decides}
use Rattle.trace_text.specs.Trace.{no_account, place_of}
use Rattle.trace_text.specs.TraceGrammar.{IsNamed, IsNew}
use Rattle.trace_text.specs.declared.tenants.Account.{Account}
use Rattle.trace_text.specs.declared.traces.Tenant.{Tenant}

-- the first element that passes
position-first : {X : Type 0} (p : X → Bool) (xs : List X) (i : ℕ) (d : X) → i < length xs → p (get_or xs i d) ≡ true → ((k : ℕ) → k < i → p (get_or xs k d) ≡ false) → position p xs ≡ Some i
position-first p xs i d within passes fails =
    let first = position_or_len_is p xs i d (omega arith) fails (λ _. passes) in
    grind (arith, common_steps)

position-nowhere : {X : Type 0} (p : X → Bool) (xs : List X) (d : X) → ((k : ℕ) → k < length xs → p (get_or xs k d) ≡ false) → position p xs ≡ None
position-nowhere p xs d fails =
    let first = position_or_len_is p xs (length xs) d (omega arith) fails (λ less. absurd (omega arith)) in
    grind (arith, common_steps)

fails-everywhere : {X : Type 0} (p : X → Bool) (xs : List X) (k : ℕ) (d : X) → position p xs ≡ None → k < length xs → p (get_or xs k d) ≡ false
fails-everywhere p xs k d none within =
    let past : length xs ≤ position_or_len p xs = grind (arith, common_steps) in
    fails_before_first p xs k d (omega arith)

-- two names by their test
same-name : (a b : List ℕ) → bytes_eq a b ≡ true → a ≡ b
same-name a b is = (bytes_eq-Decides a b).0 is

other-name : (a b : List ℕ) → bytes_eq a b ≡ false → a ≢ b
other-name a b is same = false≢true (sym is ∙ (bytes_eq-Decides a b).1 same)

differs : (a b : List ℕ) → a ≢ b → bytes_eq a b ≡ false
differs a b other = elim (cases_Bool (bytes_eq a b)) [ inl is ↦ absurd (other (same-name a b is)) | inr is ↦ is ]

-- the tenants of accounts
abbrev pub tenants_of : List Account → List Tenant
tenants_of accounts = map (λ account. account.tenant) accounts

pub tenant-at : (accounts : List Account) (i : ℕ) (d : Account) (e : Tenant) → i < length accounts → get_or (tenants_of accounts) i e ≡ (get_or accounts i d).tenant
tenant-at accounts i d e within = get_or-map (λ (account : Account). account.tenant) accounts i d e within

-- a name is new exactly where it is found nowhere
pub new-nowhere : (name : List ℕ) (accounts : List Account) → place_of name accounts ≡ None → IsNew name (tenants_of accounts)
new-nowhere name accounts none =
    All-map (λ (tenant : Tenant). tenant.name ≢ name) (λ (account : Account). account.tenant) accounts
    (λ k d within. other-name (get_or accounts k d).tenant.name name (fails-everywhere (λ (account : Account). bytes_eq account.tenant.name name) accounts k d none within))

pub nowhere-new : (name : List ℕ) (accounts : List Account) → IsNew name (tenants_of accounts) → place_of name accounts ≡ None
nowhere-new name accounts new =
    position-nowhere (λ (account : Account). bytes_eq account.tenant.name name) accounts no_account
    (λ k within. differs (get_or accounts k no_account).tenant.name name
    (let count = length-map accounts (λ (account : Account). account.tenant) in
    subst (λ (tenant : Tenant). tenant.name ≢ name) (tenant-at accounts k no_account no_account.tenant within) (new k no_account.tenant (omega arith))))

-- tenants have different names
abbrev pub AreApart : List Tenant → Type 0
AreApart tenants = AllPairs (λ (a b : Tenant). a.name ≢ b.name) tenants

-- a tenant has the name exactly where the name is found
pub named-found : (name : List ℕ) (accounts : List Account) (place : ℕ) → place_of name accounts ≡ Some place → IsNamed name place (tenants_of accounts)
named-found name accounts place found =
    let at = position-Some (λ (account : Account). bytes_eq account.tenant.name name) accounts place no_account found in
    let count = length-map accounts (λ (account : Account). account.tenant) in
    let within = at.0 in (
      omega arith,
      λ d. subst (λ (tenant : Tenant). tenant.name ≡ name) (sym (tenant-at accounts place no_account d within)) (same-name (get_or accounts place no_account).tenant.name name at.1),
    )

pub found-named : (name : List ℕ) (accounts : List Account) (place : ℕ) → AreApart (tenants_of accounts) → IsNamed name place (tenants_of accounts) → place_of name accounts ≡ Some place
found-named name accounts place apart named =
    let count = length-map accounts (λ (account : Account). account.tenant) in
    let least = named.0 in
    let within : place < length accounts = omega arith in
    let is : (get_or accounts place no_account).tenant.name ≡ name =
    subst (λ (tenant : Tenant). tenant.name ≡ name) (tenant-at accounts place no_account no_account.tenant within) (named.1 no_account.tenant) in
    position-first (λ (account : Account). bytes_eq account.tenant.name name) accounts place no_account within ((bytes_eq-Decides _ name).1 is)
    (λ k less. differs (get_or accounts k no_account).tenant.name name
    (λ same.
    (let before : k < length accounts = omega arith in
    let low : get_or (tenants_of accounts) k no_account.tenant ≡ (get_or accounts k no_account).tenant = tenant-at accounts k no_account no_account.tenant before in
    apart k place no_account.tenant less least (rw low same ∙ sym (named.1 no_account.tenant)))))
