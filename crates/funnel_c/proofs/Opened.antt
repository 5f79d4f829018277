-- Slots before and after an opening.
use Rattle.std.proofs.Common.{◌≡◌, ◌<◌, ◌≤◌, ◌+◌, ℕ, List, Option, None, Some, false, length, take, get_or, refl, sym, ap, ◌∙◌, subst, arith}
use Rattle.std.proofs.lemmas.List.{length-map, take_more, take_all}
use Rattle.std.proofs.lemmas.List.Elements.{All-push}
use Rattle.std.specs.Prelude.{is_some}
use Rattle.running.specs.Running.{upto}
use Rattle.running.proofs.Lists.{length_numbers}
use Rattle.fn_core.specs.declared.Start.{Start}
use Rattle.fn_table.specs.Seen.{fresh, fresh_passes}
use Rattle.fn_callers.specs.Callers.{CallerView, at_rest}
use Rattle.fn_callers.specs.Opening.{AreCallers}
use Rattle.funnel_c.specs.declared.slots.Slot.{Slot}
use Rattle.funnel_c.specs.Slots.{caller_in}
use Rattle.funnel_c.specs.Opening.{AreEmpty}

-- there is a caller for each allowance
pub one_each : (opening cap : ℕ) (allowances : List ℕ) (callers : List CallerView) → AreCallers opening cap allowances callers → length callers ≡ length allowances
one_each opening cap allowances callers are =
    ap length are.fresh
    ∙ length-map (fresh_passes are.opened) (at_rest are.opened)
    ∙ length-map (upto are.opened.start.shape.passes) (fresh are.opened)
    ∙ length_numbers 0 are.opened.start.shape.passes
    ∙ ap (λ (s : Start). s.shape.passes) are.start
    ∙ are.shape_is.0

-- a slot that isn't full
pub none_there : {A : Type 0} (o : Option A) → is_some o ≡ false → o ≡ None
none_there None is = refl
none_there (Some x) is = grind (arith, is)

-- one more empty slot
pub empty_more : (slots : List Slot) (i : ℕ) (s : Slot) → i < length slots → get_or slots i s ≡ s → caller_in s ≡ None → AreEmpty (take i slots) → AreEmpty (take (i + 1) slots)
empty_more slots i s within is none so_far =
    subst AreEmpty (sym (take_more slots i s within)) (All-push (λ (t : Slot). caller_in t ≡ None) (take i slots) (get_or slots i s) so_far (ap caller_in is ∙ none))

-- all of them
pub empty_all : (slots : List Slot) (i : ℕ) → length slots ≤ i → AreEmpty (take i slots) → AreEmpty slots
empty_all slots i last so_far = subst AreEmpty (take_all i slots last) so_far
