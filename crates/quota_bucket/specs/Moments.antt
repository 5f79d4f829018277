-- When a bucket would have so many tokens.
--     held_at bucket held tick moment      what a bucket would hold at a moment, if nobody took any
--     IsReadyAt bucket held tick amount moment      from this moment on the amount would be there, and not before
use Rattle.std.specs.Prelude.{ℕ, ◌-◌, ◌/◌, ◌<◌, ◌≤◌}
use Rattle.fn_model.specs.declared.Kind.TheVariants.{Add}
use Rattle.fn_model.specs.Integer.{after}
use Rattle.quota_bucket.specs.Seen.{BucketView, burst}
use Rattle.quota_bucket.specs.Taking.{tokens}

-- what a bucket that holds so many after the refill of a tick would hold at a moment, if nobody took any
abbrev pub held_at : BucketView → ℕ → ℕ → ℕ → ℕ
held_at b held tick moment = after (burst b) held Add (tokens b (moment / b.period - tick))

-- at this moment and at all later ones the amount would be there, and at no earlier one
pub record IsReadyAt (b : BucketView) (held tick amount moment : ℕ) : Type 0 where
  pub there : (later : ℕ) → moment ≤ later → amount ≤ held_at b held tick later
  pub least : (earlier : ℕ) → earlier < moment → held_at b held tick earlier < amount
