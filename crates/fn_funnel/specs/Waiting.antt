-- What a call tells that waits for its reply.
--     PollsInVain, TriesInVain      a call was polled, or a direct one tried, so often without a reply
--     IsAnswered pending reply after      a call was polled until it had its reply
--     GoesThrough, GoesStraight      a call went through the funnel, or to the main word by itself
--     GoesBy pass kind amount reply way after      in which of these ways the call went
--     HasEntered way core call      the call has entered the main word in a batch, or by itself
--     Waited pass kind amount added after      the pass made the call, which met the reply
use Rattle.std.specs.Prelude.{◌≡◌, ◌≢◌, ◌≤◌, ℕ, ◌&&◌, ◌==◌, Bool, true, false, List, [], ◌∷◌}
use Rattle.fn_model.specs.declared.Call.{Call}
use Rattle.fn_model.specs.declared.Kind.{Kind}
use Rattle.fn_model.specs.declared.Kind.TheVariants.{Add}
use Rattle.fn_model.specs.Calls.{same_kind}
use Rattle.fn_core.specs.declared.Move.TheVariants as step
use Rattle.fn_core.specs.declared.answer.Blocked.{Blocked}
use Rattle.fn_core.specs.declared.answer.Why.{Why}
use Rattle.fn_core.specs.declared.answer.CoreStep.TheVariants.{Ready}
use Rattle.fn_core.specs.Machine.{no_cap}
use Rattle.fn_core.specs.Calls.{CoreLog}
use Rattle.fn_core.specs.Entries.{IsAlone, IsBatched}
use Rattle.fn_table.specs.Seen.{PassView, Stepped}
use Rattle.fn_climb.specs.Begin.{BeginAnswers}
use Rattle.fn_table.specs.Later.{IsLater}
use Rattle.fn_climb.specs.Next.{PendingView}
use Rattle.fn_climb.specs.Turns.{Polled, PolledInVain}
use Rattle.fn_climb.specs.declared.beginning.Begun.TheVariants.{Waiting, NoRow}
use Rattle.fn_direct.specs.declared.Lost.{Lost}
use Rattle.fn_table.specs.Called.{call_of, HasCalled, HasMadeNone}
use Rattle.fn_direct.specs.Tries.{Tried}
use Rattle.fn_funnel.specs.declared.waiting.Added.{Added}
use Rattle.fn_funnel.specs.declared.waiting.Way.{Way}
use Rattle.fn_funnel.specs.declared.waiting.Way.TheVariants.{Funnel, Direct}

-- the pass polled its call, one poll after the other, and each told it to wait, for one of these reasons
abbrev pub PollsInVain : PendingView → List Why → PendingView → Type 0
PollsInVain p [] q = q ≡ p
PollsInVain p (why ∷ whys) q = (r : PendingView) × PolledInVain p why r × PollsInVain r whys q

-- the call was polled in vain, and then once more, which gave the reply
pub record IsAnswered (p : PendingView) (reply : ℕ) (q : PassView) : Type 0 where
  pub whys : List Why
  pub until : PendingView
  pub in_vain : PollsInVain p whys until
  pub polled : Polled until (Ready reply) q

-- The call went through the funnel: it waited at its leaf, and was polled until it had its reply
pub record GoesThrough (p : PassView) (kind : Kind) (amount reply : ℕ) (q : PassView) : Type 0 where
  pub begun : PendingView
  pub begins : BeginAnswers p kind amount (Waiting begun)
  pub answered : IsAnswered begun reply q

-- the pass loaded the main word and tried to exchange it, again and again, and each exchange lost; so it made no call
abbrev pub TriesInVain : PassView → Kind → ℕ → List Lost → PassView → Type 0
TriesInVain p kind amount [] q = q ≡ p
TriesInVain p kind amount (lost ∷ more) q =
    (r : PassView) × Tried p kind amount lost.loaded lost.found r × (lost.found ≢ lost.loaded) × HasMadeNone p r × TriesInVain r kind amount more q

-- whether a direct call is one fetch-and-add: an addition that no cap stops
abbrev pub is_one_step : Kind → ℕ → Bool
is_one_step kind cap = same_kind kind Add && (cap == no_cap)

-- the call was one fetch-and-add on the main word
abbrev pub AddsAtOnce : PassView → ℕ → ℕ → PassView → Type 0
AddsAtOnce p amount reply q = Stepped p (step.Direct amount) reply q

-- .. or loads and exchanges of it, the last of which won
pub record Exchanges (p : PassView) (kind : Kind) (amount reply : ℕ) (q : PassView) : Type 0 where
  pub losts : List Lost
  pub until : PassView
  pub in_vain : TriesInVain p kind amount losts until
  pub won : Tried until kind amount reply reply q

-- the call went to the main word by itself
abbrev pub IsStraight : Bool → PassView → Kind → ℕ → ℕ → PassView → Type 0
IsStraight true p kind amount reply q = AddsAtOnce p amount reply q
IsStraight false p kind amount reply q = Exchanges p kind amount reply q

-- The call found no row, by this load, and then went to the main word by itself
pub record GoesStraight (p : PassView) (kind : Kind) (amount reply : ℕ) (at : Blocked) (q : PassView) : Type 0 where
  pub refused : PassView
  pub begins : BeginAnswers p kind amount (NoRow refused at)
  pub straight : IsStraight (is_one_step kind p.seen.start.cap) refused kind amount reply q

-- the way that a call went
abbrev pub GoesBy : PassView → Kind → ℕ → ℕ → Way → PassView → Type 0
GoesBy p kind amount reply Funnel q = GoesThrough p kind amount reply q
GoesBy p kind amount reply (Direct at) q = GoesStraight p kind amount reply at q

-- the call has entered the main word as its way has it: in a batch, or by itself
abbrev pub HasEntered : Way → CoreLog → Call → Type 0
HasEntered Funnel core call = IsBatched core call
HasEntered (Direct at) core call = IsAlone core call

-- The pass has made exactly this call, which met the reply, in this way, and has then seen more; the reply is no more than the cap
pub record Waited (p : PassView) (kind : Kind) (amount : ℕ) (added : Added) (q : PassView) : Type 0 where
  pub later : IsLater p q
  pub called : HasCalled p kind amount added.before q
  pub within : added.before ≤ p.seen.start.cap
  pub way : GoesBy p kind amount added.before added.way q
  pub entered : HasEntered added.way q.seen (call_of p kind amount)
