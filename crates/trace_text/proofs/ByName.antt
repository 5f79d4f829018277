-- Tenants are found by their names alone, also after one more is opened.
use Rattle.std.proofs.Common.{◌≡◌, ℕ, ◌+◌, ◌<◌, Bool, true, false, cond, not, List, [], ◌∷◌, ◌++◌, length, length-append, map, get_or, set, Some, None, refl, sym, ap, subst, ◌∙◌, arith, inl, inr, Option, IfSome, is_some}
use Rattle.std.specs.HashMap.{HashMap, UpdatesBy, get_by}
use Rattle.std.specs.List.{position, prefix_len}
use Rattle.std.specs.Str.{bytes_eq}
use Rattle.std.specs.declared.vec.Vec.{Vec}
use Rattle.std.proofs.lemmas.Bool.{cases_Bool, false≢true}
use Rattle.std.proofs.lemmas.List.{length-map, map-append}
use Rattle.std.proofs.lemmas.List.Elements.{All-push}
use Rattle.std.proofs.lemmas.List.Folds.{position_or_len_push}
use Rattle.std.proofs.lemmas.List.Quantifiers.{position-Some}
use Rattle.std.proofs.lemmas.List.Sums.{prefix_len-le-length}
use Rattle.std.proofs.lemmas.Grind.{common_steps}
use Rattle.std.specs.Cmp.Lexicographic.{bytes_decides, nat_list_eq_equiv}
use Rattle.std.specs.Map.{AreApart, IsKeyTest, KeepsOthers, lookup}
use Rattle.std.proofs.Math.Seq.{map-set_same}
use Rattle.trace_text.specs.Fields.{is_name}
use Rattle.trace_text.specs.Places.{AreNames, ArePlaced, names_of}
use Rattle.trace_text.specs.Trace.{account_settled, no_account, place_of}
use Rattle.trace_text.specs.declared.tenants.Account.{Account}

-- a prefix is as long as that of the images
prefix_len-map : {X Y : Type 0} (p : Y → Bool) (f : X → Y) (xs : List X) → prefix_len p (map f xs) ≡ prefix_len (λ x. p (f x)) xs
prefix_len-map p f [] = refl
prefix_len-map p f (x ∷ xs) = ap (λ n. cond (p (f x)) (1 + n) 0) (prefix_len-map p f xs)

-- a tenant's place is that of its name
pub place_of-names : (name : List ℕ) (accounts : List Account) → position (λ other. bytes_eq other name) (names_of accounts) ≡ place_of name accounts
place_of-names name accounts =
    rw (prefix_len-map (λ other. not (bytes_eq other name)) (λ (account : Account). account.tenant.name) accounts, length-map accounts (λ (account : Account). account.tenant.name)) refl

-- names stay, and the map stays right, where all names are the same
pub ArePlaced-same : {Y S : Type 0} (old new : List (List ℕ)) (places : HashMap (Vec ℕ Y) ℕ S) → new ≡ old → ArePlaced old places × AreNames old → ArePlaced new places × AreNames new
ArePlaced-same old new places same placed = rw same placed

-- a segment's end keeps all names
pub names_of-settled : (accounts : List Account) → names_of (map account_settled accounts) ≡ names_of accounts
names_of-settled [] = refl
names_of-settled (account ∷ rest) = ap (λ names. account.tenant.name ∷ names) (names_of-settled rest)

-- an account that is changed keeps all names where it keeps its tenant
pub names_of-spent : (accounts : List Account) (place : ℕ) (d new : Account) → new.tenant ≡ (get_or accounts place d).tenant → names_of (set accounts place new) ≡ names_of accounts
names_of-spent accounts place d new same = map-set_same (λ (account : Account). account.tenant.name) accounts place new d (ap (λ tenant. tenant.name) same)

-- one more element that doesn't pass changes no place
position-other : {X : Type 0} (p : X → Bool) (xs : List X) (y : X) → p y ≡ false → position p (xs ++ y ∷ []) ≡ position p xs
position-other p xs y fails =
    let pushed = position_or_len_push p xs y in
    let count = length-append xs (y ∷ []) in
    let within = prefix_len-le-length (λ x. not (p x)) xs in
    grind (arith, common_steps)

-- one more element that passes, and is the first to, stands at the end
position-new : {X : Type 0} (p : X → Bool) (xs : List X) (y : X) → p y ≡ true → position p xs ≡ None → position p (xs ++ y ∷ []) ≡ Some (length xs)
position-new p xs y here none =
    let pushed = position_or_len_push p xs y in
    let count = length-append xs (y ∷ []) in
    let within = prefix_len-le-length (λ x. not (p x)) xs in
    grind (arith, common_steps)

-- a name is equal to no key that another name is equal to
apart : (name other key : List ℕ) → bytes_eq name other ≡ false → bytes_eq name key ≡ true → bytes_eq other key ≡ false
apart name other key differs same = nat_list_eq_equiv.symm other key ∙ sym (nat_list_eq_equiv.congr name key other same) ∙ differs

-- what other keys have stays
module _ {K X : Type 0} (eq : K → K → Bool) (test : K → Bool) where
  lookup-kept : (old new : List (K × X)) → KeepsOthers eq test old new → (other : K → Bool) → IsKeyTest eq other → AreApart test other → lookup other new ≡ lookup other old
  unfolding KeepsOthers
  lookup-kept old new keeps = keeps

-- the map is right after one more name is put in at the end
pub ArePlaced-more : {Y S : Type 0} (names : List (List ℕ)) (name : List ℕ) (old new : HashMap (Vec ℕ Y) ℕ S) → position (λ other. bytes_eq other name) names ≡ None
    → UpdatesBy (λ x y. bytes_eq x.items y.items) (λ key. bytes_eq name key.items) old new (Some (length names)) → ArePlaced names old → ArePlaced (names ++ name ∷ []) new
ArePlaced-more names name old new fresh updates placed asked =
    elim (cases_Bool (bytes_eq name asked)) [
      | inl same ↦
          let is : name ≡ asked = (bytes_decides name asked).0 same in
          subst (λ (found : List ℕ). get_by (λ key. bytes_eq found key.items) new ≡ position (λ other. bytes_eq other found) (names ++ name ∷ [])) is
          (updates.1 ∙ sym (position-new (λ other. bytes_eq other name) names name ((bytes_decides name name).1 refl) fresh))
      | inr differs ↦
          let kept = lookup-kept _ _ old.entries new.entries updates.3 (λ key. bytes_eq asked key.items) (λ x y. nat_list_eq_equiv.congr asked x.items y.items) (λ key. apart name asked key.items differs) in
          kept ∙ placed asked ∙ sym (position-other (λ other. bytes_eq other asked) names name differs)
    ]

-- a tenant's place is among the accounts
pub place_of-within : (name : List ℕ) (accounts : List Account) (found : Option ℕ) → found ≡ place_of name accounts → IfSome found (λ place. place < length accounts)
place_of-within name accounts None is = tt
place_of-within name accounts (Some place) is = (position-Some (λ (account : Account). bytes_eq account.tenant.name name) accounts place no_account (sym is)).0

-- a tenant that is found has a name
pub place_of-named : (name : List ℕ) (accounts : List Account) (found : Option ℕ) → AreNames (names_of accounts) → found ≡ place_of name accounts → is_some found ≡ true → is_name name ≡ true
place_of-named name accounts None named is there = absurd (false≢true there)
place_of-named name accounts (Some place) named is there =
    let at = position-Some (λ other. bytes_eq other name) (names_of accounts) place [] (place_of-names name accounts ∙ sym is) in
    subst (λ (found : List ℕ). is_name found ≡ true) ((bytes_decides (get_or (names_of accounts) place []) name).0 at.1) (named place [] at.0)

-- names stay, and the map is right, after one more tenant is opened
pub ArePlaced-opened : {Y S : Type 0} (accounts : List Account) (account : Account) (key : Vec ℕ Y) (place : ℕ) (old new : HashMap (Vec ℕ Y) ℕ S) → key.items ≡ account.tenant.name → place ≡ length accounts
    → is_name account.tenant.name ≡ true → place_of account.tenant.name accounts ≡ None → UpdatesBy (λ x y. bytes_eq x.items y.items) (λ other. bytes_eq key.items other.items) old new (Some place)
    → ArePlaced (names_of accounts) old × AreNames (names_of accounts) → ArePlaced (names_of (accounts ++ account ∷ [])) new × AreNames (names_of (accounts ++ account ∷ []))
ArePlaced-opened accounts account key place old new copied last named fresh updates placed =
    let count : place ≡ length (names_of accounts) = last ∙ sym (length-map accounts (λ (account : Account). account.tenant.name)) in
    rw (map-append (λ (account : Account). account.tenant.name) accounts (account ∷ [])) (
      ArePlaced-more (names_of accounts) account.tenant.name old new (place_of-names account.tenant.name accounts ∙ fresh) (rw (copied, count) at updates) placed.0,
      All-push (λ name. is_name name ≡ true) (names_of accounts) account.tenant.name placed.1 named,
    )
