-- A refill is its additions.
use Rattle.std.proofs.Common.{◌≡◌, ℕ, zero, suc, ◌+◌, ◌*◌, ◌^◌, min, All, refl, sym, ap, ◌∙◌, arith, mul-suc, mul-add, add_comm}
use Rattle.std.proofs.lemmas.Nat.{mul-lt}
use Rattle.fn_model.specs.declared.Call.{Call}
use Rattle.fn_model.specs.declared.Kind.TheVariants.{Add}
use Rattle.fn_model.specs.Calls.{amounts, IsOfKind}
use Rattle.fn_model.specs.Integer.{after}
use Rattle.fn_model.proofs.Integer.{value-one_kind, amounts-cons}
use Rattle.quota_bucket.specs.Refill.{rates, RefillIsAdditions, RefillsJoin, RefillFits}

-- an amount above the cap moves no more than the cap
add_less : (burst v amount : ℕ) → after burst v Add (min burst amount) ≡ after burst v Add amount
add_less burst v amount = omega arith

amounts_of_rates : (pass number rate ticks : ℕ) → amounts (rates pass number rate ticks) ≡ rate * ticks
amounts_of_rates pass number rate zero = let e : rate * 0 ≡ 0 = omega arith in sym e
amounts_of_rates pass number rate (suc ticks) =
    let call : Call = record { pass = pass; number = number; kind = Add; amount = rate } in
    let more : rate * suc ticks ≡ rate + rate * ticks = mul-suc rate ticks ∙ add_comm (rate * ticks) rate in
    amounts-cons call (rates pass (suc number) rate ticks) ∙ (ap (λ (n : ℕ). rate + n) (amounts_of_rates pass (suc number) rate ticks) ∙ sym more)

additions : (pass number rate ticks : ℕ) → All (IsOfKind Add) (rates pass number rate ticks)
additions pass number rate zero i d l = absurd (omega arith)
additions pass number rate (suc ticks) zero d l = refl
additions pass number rate (suc ticks) (suc i) d l = additions pass (suc number) rate ticks i d (omega arith)

pub is_additions : RefillIsAdditions
is_additions burst v pass number rate ticks within =
    add_less burst v (rate * ticks) ∙ ap (after burst v Add) (sym (amounts_of_rates pass number rate ticks)) ∙ sym (value-one_kind burst v Add (rates pass number rate ticks) within (additions pass number rate ticks))

pub join : RefillsJoin
join burst v rate first second within =
    let split : rate * (first + second) ≡ rate * first + rate * second = mul-add rate first second in
    omega (arith, split)

pub fits : RefillFits
fits rate ticks low high = mul-lt rate ticks (2 ^ 64) (2 ^ 64) low high
