-- When an amount would be there.
use Rattle.std.proofs.Common.{◌≡◌, ℕ, zero, suc, ◌+◌, ◌-◌, ◌*◌, ◌/◌, ◌%◌, ◌<◌, ◌≤◌, ◌^◌, min, sym, ap, ◌∙◌, subst, arith, mul-suc, mul_comm}
use Rattle.std.specs.Prelude.{Option, Some, None, IfSome, IfNone}
use Rattle.std.specs.Option.{SomeIff}
use Rattle.std.proofs.Math.Nat.{le-div_iff_mul-le, div-lt_iff_lt-mul, mul-le-mul_left, le-mul_of_pos_right}
use mathlib.Core.Logic.{dite}
use native.Mathlib.Decide.{dec_lt}
use Rattle.std.proofs.lemmas.Grind.{div_ceil_times}
use Rattle.quota_bucket.specs.Seen.{BucketView, burst}
use Rattle.quota_bucket.specs.Moments.{held_at, IsReadyAt}

-- how many ticks make up for what is missing
abbrev pub ticks_for : ℕ → ℕ → ℕ
ticks_for missing rate = missing / rate + min 1 (missing % rate)

some_need : (need missing rate : ℕ) → 0 < missing → missing ≤ need * rate → 0 < need
some_need zero missing rate some enough = absurd (let nothing : 0 * rate ≡ 0 = omega arith in omega arith)
some_need (suc need) missing rate some enough = omega arith

module _ (b : BucketView) (held tick amount : ℕ) (rate : 1 ≤ b.rate) (period : 1 ≤ b.period) (short : held < amount) where
  abbrev pub need : ℕ
  need = ticks_for (amount - held) b.rate

  ceil : (amount - held ≤ need * b.rate) × (need * b.rate < amount - held + b.rate)
  ceil = div_ceil_times (amount - held) b.rate rate

  -- so many ticks, or more, are enough
  enough : amount ≤ burst b → (later : ℕ) → (tick + need) * b.period ≤ later → amount ≤ held_at b held tick later
  enough within later from =
      let far : tick + need ≤ later / b.period = (le-div_iff_mul-le period).1 from in
      let more : b.rate * need ≤ b.rate * (later / b.period - tick) = mul-le-mul_left b.rate (omega arith) in
      let all : b.rate * need ≡ need * b.rate = mul_comm b.rate need in
      let made = ceil.0 in
      omega arith

  -- .. and fewer are not
  pub not_before : (earlier : ℕ) → earlier < (tick + need) * b.period → held_at b held tick earlier < amount
  not_before earlier before =
      let near : earlier / b.period < tick + need = (div-lt_iff_lt-mul period).1 before in
      let tight = ceil.1 in
      let some : 0 < need = some_need need (amount - held) b.rate (omega arith) ceil.0 in
      let fewer : suc (earlier / b.period - tick) ≤ need = omega arith in
      let less : b.rate * suc (earlier / b.period - tick) ≤ b.rate * need = mul-le-mul_left b.rate fewer in
      let one : b.rate * suc (earlier / b.period - tick) ≡ b.rate * (earlier / b.period - tick) + b.rate = mul-suc b.rate (earlier / b.period - tick) in
      let all : b.rate * need ≡ need * b.rate = mul_comm b.rate need in
      omega arith

  pub ready_later : amount ≤ burst b → IsReadyAt b held tick amount ((tick + need) * b.period)
  ready_later within = record { there = enough within; least = not_before }

  -- where the least moment is no number of 64 bits, no moment is late enough
  pub never : (bound : ℕ) → bound ≤ (tick + need) * b.period → (moment : ℕ) → moment < bound → held_at b held tick moment < amount
  never bound far moment below = not_before moment (omega arith)

-- the amount is there
pub ready_now : (own b : BucketView) → own ≡ b → (held tick amount : ℕ) → amount ≤ burst own → amount ≤ held → IsReadyAt b held tick amount 0
ready_now own b is held tick amount within there = subst (λ (x : BucketView). IsReadyAt x held tick amount 0) is (record { there = λ later from. omega arith; least = λ earlier before. absurd (omega arith) })

-- what the steps of the call come to, of a bucket as its fields have it
module _ (own b : BucketView) (is : own ≡ b) (held tick amount ticks : ℕ) (rate : 1 ≤ own.rate) (period : 1 ≤ own.period) (short : held < amount) (counted : ticks ≡ ticks_for (amount - held) own.rate) where
  too_far : (2 ^ 64 ≤ tick + ticks) → (moment : ℕ) → moment < 2 ^ 64 → held_at b held tick moment < amount
  too_far far moment below =
      let grows : tick + ticks_for (amount - held) own.rate ≤ (tick + ticks_for (amount - held) own.rate) * own.period = le-mul_of_pos_right (tick + ticks_for (amount - held) own.rate) period in
      subst (λ (x : BucketView). held_at x held tick moment < amount) is (never own held tick amount rate period short (2 ^ 64) (omega arith) moment below)

  pub far_if : (r : Option ℕ) → (tick + ticks < 2 ^ 64 → ⊥) → IfNone r ((moment : ℕ) → moment < 2 ^ 64 → held_at b held tick moment < amount)
  far_if (Some moment) unfit = tt
  far_if None unfit = too_far (dite (dec_lt (tick + ticks) (2 ^ 64)) (λ fits. absurd (unfit fits)) (λ not. omega arith))

  module _ (n : ℕ) (sum : n ≡ tick + ticks) where
    last : n * own.period ≡ (tick + ticks_for (amount - held) own.rate) * own.period
    last = ap (λ (k : ℕ). k * own.period) (sum ∙ ap (λ (k : ℕ). tick + k) counted)

    pub ready_if : amount ≤ burst own → (r : Option ℕ) → SomeIff r (n * own.period < 2 ^ 64) (n * own.period) → IfSome r (λ moment. IsReadyAt b held tick amount moment)
    ready_if within None unfit = tt
    ready_if within (Some moment) made =
        subst (λ (x : BucketView). IsReadyAt x held tick amount moment) is (subst (IsReadyAt own held tick amount) (sym (made.1 ∙ last)) (ready_later own held tick amount rate period short within))

    pub never_if : (r : Option ℕ) → SomeIff r (n * own.period < 2 ^ 64) (n * own.period) → IfNone r ((moment : ℕ) → moment < 2 ^ 64 → held_at b held tick moment < amount)
    never_if (Some moment) made = tt
    never_if None unfit = λ moment below.
        let end : n * own.period ≡ (tick + ticks_for (amount - held) own.rate) * own.period = last in
        subst (λ (x : BucketView). held_at x held tick moment < amount) is (never own held tick amount rate period short (2 ^ 64)
        (dite (dec_lt (n * own.period) (2 ^ 64)) (λ fits. absurd (unfit fits)) (λ not. omega arith)) moment below)
