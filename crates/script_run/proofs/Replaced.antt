-- A caller that is taken from its slot, and put back changed.
use Rattle.std.proofs.Common.{◌≡◌, ℕ, zero, suc, ◌<◌, ◌≤◌, inl, inr, List, [], ◌∷◌, Option, None, Some, map, length, get_or, slice_get, slice_set, refl, sym, ◌∙◌, ap, subst}
use Rattle.std.specs.Prelude.{option_map}
use Rattle.std.proofs.lemmas.List.{set-get_or}
use Rattle.std.proofs.lemmas.Option.{slice_get-map, slice_get_read}
use Rattle.script_run.specs.declared.trial.Caller.{Caller}
use Rattle.script_run.specs.declared.trial.Caller.TheVariants.{Idle, Pending}
use Rattle.fn_model.specs.declared.Kind.{Kind}
use Rattle.fn_model.specs.declared.Kind.TheVariants.{Add, Sub, Read}
use Rattle.fn_core.specs.Machine.{IsChange, MaySpend}
use Rattle.fn_core.specs.Calls.{left_of, state_in}
use Rattle.fn_table.specs.Seen.{TableView, PassView}
use Rattle.script_run.specs.declared.lines.LineAnswer.{LineAnswer}
use Rattle.script_run.specs.Trial.{Began, Done, is_idle, rests_in}
use Rattle.script_run.specs.Slots.{AllStand, AreFull, HasLeft, Stands, beginning_of, is_resting_slot, present}

pub some-is : {X : Type 0} (a b : X) → (let put : X → Option X = λ x. Some x in put a ≡ put b) → a ≡ b
some-is a b e = cc e

-- slots that are all full
module _ (slots : List (Option Caller)) (full : AreFull slots) where
  pub slot-is : (k : ℕ) → slice_get slots k ≡ option_map (λ (c : Caller). Some c) (slice_get (present slots) k)
  slot-is k = ap (λ (x : List (Option Caller)). slice_get x k) (sym full) ∙ slice_get-map (λ (c : Caller). Some c) (present slots) k

  by_there : (found : Option Caller) (k : ℕ) (c : Caller) → slice_get (present slots) k ≡ found → slice_get slots k ≡ Some (Some c) → slice_get (present slots) k ≡ Some c
  by_there None k c is at = absurd (let e = sym at ∙ slot-is k ∙ ap (option_map (λ (x : Caller). Some x)) is in cc e)
  by_there (Some d) k c is at =
      let e : option_map (λ (x : Caller). Some x) (Some d) ≡ Some (Some c) = sym (ap (option_map (λ (x : Caller). Some x)) is) ∙ sym (slot-is k) ∙ at in
      let same : d ≡ c = cc e in
      is ∙ ap (λ (x : Caller). Some x) same

  pub there : (k : ℕ) (c : Caller) → slice_get slots k ≡ Some (Some c) → slice_get (present slots) k ≡ Some c
  there k c at = by_there (slice_get (present slots) k) k c refl at

  by_rests : (found : Option Caller) (k : ℕ) → slice_get (present slots) k ≡ found → is_resting_slot (option_map (λ (x : Caller). Some x) found) ≡ is_idle found
  by_rests None k is = refl
  by_rests (Some (Idle p)) k is = refl
  by_rests (Some (Pending p)) k is = refl

  pub rests-same : (k : ℕ) → rests_in (present slots) k ≡ is_resting_slot (slice_get slots k)
  rests-same k = sym (ap is_resting_slot (slot-is k) ∙ by_rests (slice_get (present slots) k) k refl)

-- callers in slots of their own
pub present-some : (callers : List Caller) → present (map (λ (c : Caller). Some c) callers) ≡ callers
present-some [] = refl
present-some (c ∷ callers) = ap (λ (x : List Caller). c ∷ x) (present-some callers)

pub full-some : (callers : List Caller) → AreFull (map (λ (c : Caller). Some c) callers)
full-some callers = ap (map (λ (c : Caller). Some c)) (present-some callers)

set-some : (callers : List Caller) (k : ℕ) (d : Caller) → slice_set (map (λ (c : Caller). Some c) callers) k (Some d) ≡ map (λ (c : Caller). Some c) (slice_set callers k d)
set-some [] k d = refl
set-some (c ∷ callers) zero d = refl
set-some (c ∷ callers) (suc k) d = ap (λ (x : List (Option Caller)). Some c ∷ x) (set-some callers k d)

set-twice : (slots : List (Option Caller)) (k : ℕ) (a b : Option Caller) → slice_set (slice_set slots k a) k b ≡ slice_set slots k b
set-twice [] k a b = refl
set-twice (x ∷ slots) zero a b = refl
set-twice (x ∷ slots) (suc k) a b = ap (λ (y : List (Option Caller)). x ∷ y) (set-twice slots k a b)

-- a caller that is put back
module _ (old new : List (Option Caller)) (k : ℕ) (d : Caller) (full : AreFull old) (now : new ≡ slice_set (slice_set old k None) k (Some d)) where
  new_is : new ≡ map (λ (c : Caller). Some c) (slice_set (present old) k d)
  new_is = now ∙ set-twice old k None (Some d) ∙ ap (λ (x : List (Option Caller)). slice_set x k (Some d)) (sym full) ∙ set-some (present old) k d

  pub put-full : AreFull new
  put-full = subst AreFull (sym new_is) (full-some (slice_set (present old) k d))

  pub put-present : present new ≡ slice_set (present old) k d
  put-present = ap present new_is ∙ present-some (slice_set (present old) k d)

-- a slot that is left as it was
pub left-slot : (slots : List (Option Caller)) (k : ℕ) (x : Option Caller) → k < length slots → x ≡ get_or slots k x → slice_set slots k x ≡ slots
left-slot slots k x inside is = ap (slice_set slots k) is ∙ set-get_or slots k x

pub left-there : (slots : List (Option Caller)) (k : ℕ) (x : Option Caller) → k < length slots → x ≡ get_or slots k x → slice_get slots k ≡ Some x
left-there slots k x inside is = slice_get_read slots (length slots) k x refl inside is

-- a caller that was taken, and is put back
pub put-back : (old taken : List (Option Caller)) (k : ℕ) (was d : Caller) → AreFull old → (slice_get old k ≡ Some (Some was)) × (taken ≡ slice_set old k None)
    → AreFull (slice_set taken k (Some d)) × (slice_get (present old) k ≡ Some was) × (present (slice_set taken k (Some d)) ≡ slice_set (present old) k d)
put-back old taken k was d full t =
    let now : slice_set taken k (Some d) ≡ slice_set (slice_set old k None) k (Some d) = ap (λ (x : List (Option Caller)). slice_set x k (Some d)) t.1 in
    (put-full old (slice_set taken k (Some d)) k d full now, there old full k was t.0, put-present old (slice_set taken k (Some d)) k d full now)

-- what is known of a caller that was taken
pub taken-stands : (t : TableView) (old taken : List (Option Caller)) (k : ℕ) (was : Caller) → AreFull old → AllStand t (present old) → (slice_get old k ≡ Some (Some was)) × (taken ≡ slice_set old k None) → Stands t k was
taken-stands t old taken k was full stand at = stand k was (there old full k was at.0)

pub taken-left : (t : TableView) (old taken : List (Option Caller)) (k n : ℕ) (p : PassView) → AreFull old → AllStand t (present old) → (slice_get old k ≡ Some (Some (Idle p))) × (taken ≡ slice_set old k None)
    → HasLeft (present old) k n → 1 ≤ n → MaySpend (state_in p.seen) p.number n
taken-left t old taken k n p full stand at left some_there =
    let is : p.number ≡ k = (taken-stands t old taken k (Idle p) full stand at).named in
    (some_there, subst (λ (x : ℕ). n ≤ left_of p.seen x) (sym is) (left (Idle p) (there old full k (Idle p) at.0)))

-- a call that was begun
pub begun-done : (kind : Kind) → IsChange kind → (old new : List Caller) (k n : ℕ) (told : LineAnswer) (p : PassView) (d : Caller) → slice_get old k ≡ Some (Idle p) → Began p kind n told d → new ≡ slice_set old k d → Done old k (beginning_of kind n) told new
begun-done Add change old new k n told p d at began now = (Idle p, d, at, began, now)
begun-done Sub change old new k n told p d at began now = (Idle p, d, at, began, now)
begun-done Read (inl e) old new k n told p d at began now = absurd (cc e)
begun-done Read (inr e) old new k n told p d at began now = absurd (cc e)

-- a slot whose caller is left as it was found
pub kept-slot : (slots : List (Option Caller)) (k : ℕ) (e found x : Option Caller) → k < length slots → e ≡ get_or slots k e → found ≡ get_or slots k e → found ≡ x → (slice_get slots k ≡ Some x) × (slice_set slots k x ≡ slots)
kept-slot slots k e found x inside at there_is is =
    let same : e ≡ x = at ∙ sym there_is ∙ is in
    let here : x ≡ get_or slots k x = subst (λ (y : Option Caller). y ≡ get_or slots k y) same at in
    (left-there slots k x inside here, left-slot slots k x inside here)

-- a full slot isn't empty
pub full-some-there : (slots : List (Option Caller)) (k : ℕ) → AreFull slots → (let empty : Option Caller = None in slice_get slots k ≡ Some empty) → ⊥
full-some-there slots k full at = by (slice_get (present slots) k) refl
  where
    by : (found : Option Caller) → slice_get (present slots) k ≡ found → ⊥
    by None is = (let e = sym at ∙ slot-is slots full k ∙ ap (option_map (λ (c : Caller). Some c)) is in cc e)
    by (Some d) is = (let e = sym at ∙ slot-is slots full k ∙ ap (option_map (λ (c : Caller). Some c)) is in cc e)
