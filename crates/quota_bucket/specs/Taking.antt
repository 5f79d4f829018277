-- What the calls of a desk tell.
--     tokens bucket ticks      the tokens of so many ticks
--     take_calls bucket pass ticks amount, taking pass ticks amount      the calls of a take, and the last of them
--     Takes bucket old now amount told new      a take
--     Peeks bucket old tokens new      a peek
--     Refills, RefillsBy, TakesBy, PeeksBy      a refill, and how each of these calls went
use Rattle.std.specs.Prelude.{◌≡◌, ℕ, zero, suc, ◌+◌, ◌/◌, ◌≤◌, List, [], ◌∷◌, ◌++◌, length, Some}
use mathlib.Core.List.{IsPrefix}
use Rattle.fn_model.specs.declared.Call.{Call}
use Rattle.fn_model.specs.declared.Kind.TheVariants.{Add, Sub, Read}
use Rattle.fn_model.specs.Calls.{place}
use Rattle.fn_model.specs.Integer.{after, value, moved_amount, Meets}
use Rattle.fn_core.specs.declared.Move.TheVariants.{Load}
use Rattle.fn_core.specs.declared.Purpose.TheVariants as purpose
use Rattle.fn_table.specs.Seen.{PassView, Stepped}
use Rattle.fn_funnel.specs.declared.waiting.Added.{Added}
use Rattle.fn_funnel.specs.declared.waiting.Way.{Way}
use Rattle.fn_funnel.specs.Waiting.{Waited}
use Rattle.fn_table.specs.Claims.{past, mine, left, next_of, Made}
use Rattle.tick_table.specs.Claims.{between}
use Rattle.tick_table.specs.Seen.{Claimed, entries_of, entry}
use Rattle.quota_bucket.specs.declared.desks.Taken.{Taken}
use Rattle.quota_bucket.specs.Seen.{BucketView, DeskView, Belongs, burst}
use Rattle.quota_bucket.specs.Refill.{refill, rates}

-- the tokens of so many ticks: the rate for each, and no more than the burst
abbrev pub tokens : BucketView → ℕ → ℕ
tokens b ticks = refill (burst b) b.rate ticks

-- the subtraction of a take: the pass's next call, or the one behind it where the take refills some ticks first
abbrev pub taking : PassView → ℕ → ℕ → Call
taking p zero amount = next_of p Sub amount
taking p (suc ticks) amount = record { pass = p.number; number = suc (length (mine p)); kind = Sub; amount = amount }

-- the calls of a take: an addition of the tokens of its ticks, where there are some, and then the subtraction
abbrev pub take_calls : BucketView → PassView → ℕ → ℕ → List Call
take_calls b p zero amount = taking p zero amount ∷ []
take_calls b p (suc ticks) amount = next_of p Add (tokens b (suc ticks)) ∷ taking p (suc ticks) amount ∷ []

-- on the integer, the addition of so many ticks does what an addition of the rate for each of them does
abbrev pub IsByTicks : BucketView → ℕ → Type 0
IsByTicks b ticks = (pass number v : ℕ) → v ≤ burst b → after (burst b) v Add (tokens b ticks) ≡ value (burst b) v (rates pass number b.rate ticks)

-- A take
pub record Takes (b : BucketView) (p : DeskView) (now amount : ℕ) (told : Taken) (q : DeskView) : Type 0 where
  -- the desk made one entry, that of the moment's tick; and it refills the ticks that this entry claims, which are those above the last one claimed
  pub last : ℕ
  pub claimed : Claimed p.seat (now / b.period) last q.seat
  pub entries : entries_of p.seat.number q.seat.log ≡ entries_of p.seat.number p.seat.log ++ entry p.seat.number (now / b.period) ∷ []
  pub refilled : told.refilled ≡ length (between last (now / b.period))
  -- what it had seen has gone on, and of its own calls by exactly those of the take
  pub goes_on : IsPrefix (past p.pass) (past q.pass)
  pub mine_now : mine q.pass ≡ mine p.pass ++ take_calls b p.pass told.refilled amount
  pub by_ticks : IsByTicks b told.refilled
  -- the subtraction stands behind all that the desk had seen; it met what is told, and took what was there of the amount
  pub behind : (at : ℕ) → place p.pass.number (taking p.pass told.refilled amount).number (past q.pass) ≡ Some at → length (past p.pass) ≤ at
  pub met : Meets (burst b) b.funnel.start.opening (past q.pass) (taking p.pass told.refilled amount) told.before
  pub moved : told.moved ≡ moved_amount (burst b) told.before Sub amount
  -- the desk has spent what was added and the amount, and is ready for its next call
  pub spent : left q.pass + (tokens b told.refilled + amount) ≡ left p.pass
  pub together : Belongs b q

-- a refill: one addition of the tokens of so many ticks, and no call where there are none
abbrev pub Refills : BucketView → PassView → ℕ → PassView → Type 0
Refills b p zero q = q ≡ p
Refills b p (suc ticks) q = (before : ℕ) × Made p Add (tokens b (suc ticks)) before q

-- .. which has waited for its reply
abbrev pub RefillsBy : BucketView → PassView → ℕ → PassView → Type 0
RefillsBy b p zero q = q ≡ p
RefillsBy b p (suc ticks) q = (added : Added) × Waited p Add (tokens b (suc ticks)) added q

-- How a take went: its refill, and then its subtraction, each of which waited for its reply
pub record TakesBy (b : BucketView) (p : DeskView) (amount : ℕ) (told : Taken) (q : DeskView) : Type 0 where
  pub between : PassView
  pub refills : RefillsBy b p.pass told.refilled between
  pub way : Way
  pub took : Waited between Sub amount (record { before = told.before; way = way }) q.pass

-- A peek: one more call of the desk, a read, which met the tokens; and no entry
pub record Peeks (b : BucketView) (p : DeskView) (tokens : ℕ) (q : DeskView) : Type 0 where
  pub made : Made p.pass Read 0 tokens q.pass
  pub seat : q.seat ≡ p.seat
  pub together : Belongs b q

-- it was one load
abbrev pub PeeksBy : DeskView → ℕ → DeskView → Type 0
PeeksBy p tokens q = Stepped p.pass (Load purpose.Read) tokens q.pass
