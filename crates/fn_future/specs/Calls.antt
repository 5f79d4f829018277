-- What a call tells that is made as a future.
--     IsMade pass kind amount after reply      the pass has made the call, and has its reply
--     HasMade call after reply      .. of the call that a future makes
--     Gives kind call given      what the future of a call gives: the claim, and then the account of it
--     IsFor pass kind amount call      the future makes this call
--     Starts table pass kind amount started      how a future starts, or why not
--     Turned old result new      what a poll of it does
use Rattle.std.specs.Prelude.{◌≡◌, ◌≤◌, ℕ, suc, Option, Some, None, IsSome, IsSomeAnd, Result, Ok, Err}
use Rattle.fn_model.specs.declared.Kind.{Kind}
use Rattle.fn_core.specs.declared.answer.Blocked.{Blocked}
use Rattle.fn_core.specs.declared.answer.Why.{Why}
use Rattle.fn_core.specs.declared.answer.CoreStep.TheVariants.{Ready}
use Rattle.fn_core.specs.Entries.{IsBatched}
use Rattle.fn_table.specs.Seen.{TableView, PassView, own_of}
use Rattle.fn_climb.specs.Next.{PendingView}
use Rattle.fn_climb.specs.Begin.{BeginAnswers}
use Rattle.fn_table.specs.Later.{IsLater}
use Rattle.fn_climb.specs.Turns.{Polled, PolledInVain}
use Rattle.fn_climb.specs.declared.beginning.Begun.TheVariants.{Waiting, NoRow}
use Rattle.fn_table.specs.Called.{call_of, HasCalled}
use Rattle.fn_table.specs.Claims.{Made}
use Rattle.fn_future.specs.Views.{CallView}

-- The pass has made exactly this call, which met the reply in a batch, and has then seen more; the reply is no more than the cap
pub record IsMade (p : PassView) (kind : Kind) (amount : ℕ) (q : PassView) (reply : ℕ) : Type 0 where
  pub later : IsLater p q
  pub called : HasCalled p kind amount reply q
  pub within : reply ≤ p.seen.start.cap
  pub entered : IsBatched q.seen (call_of p kind amount)
  pub made : (own_of q).caller.made ≡ suc (own_of p).caller.made

-- the pass that was handed in has made the call
abbrev pub HasMade : CallView → PassView → ℕ → Type 0
HasMade c q reply = IsMade c.given c.kind c.amount q reply

-- what the future of a call of this kind gives: the pass that was handed in, which has made it, and the reply; and how that came
abbrev pub Gives : Kind → CallView → PassView × ℕ → Type 0
Gives kind c r = Made c.given kind c.amount r.1 r.0 × HasMade c r.0 r.1

-- the future makes this call of this pass; it has no reply yet, and wasn't told to wait
pub record IsFor (p : PassView) (kind : Kind) (amount : ℕ) (c : CallView) : Type 0 where
  pub given_is : c.given ≡ p
  pub kind_is : c.kind ≡ kind
  pub amount_is : c.amount ≡ amount
  pub waits : IsSome c.pending
  pub why : c.why ≡ None

-- the call waits at its leaf, and hasn't been polled
abbrev pub HasStarted : TableView → PassView → Kind → ℕ → CallView → Type 0
HasStarted t p kind amount c = (b : PendingView) × BeginAnswers p kind amount (Waiting b) × (c ≡ record { table = t; given = p; kind = kind; amount = amount; pending = Some b; why = None })

-- .. or at some level each row of the pass is blocked, the last of them by this load, and the pass has made no call
abbrev pub Starts : TableView → PassView → Kind → ℕ → Result CallView (PassView × Blocked) → Type 0
Starts t p kind amount (Ok c) = HasStarted t p kind amount c
Starts t p kind amount (Err e) = BeginAnswers p kind amount (NoRow e.0 e.1)

-- The call was polled exactly once. That ended it, or told it to wait, for this reason
abbrev pub TurnedFrom : CallView → PendingView → Option (PassView × ℕ) → CallView → Type 0
TurnedFrom old now (Some r) new = Polled now (Ready r.1) r.0 × (new ≡ record old { pending = None })
TurnedFrom old now None new = (why : Why) × (next : PendingView) × PolledInVain now why next × (new ≡ record old { pending = Some next; why = Some why })

abbrev pub Turned : CallView → Option (PassView × ℕ) → CallView → Type 0
Turned old result new = IsSomeAnd old.pending (λ now. TurnedFrom old now result new)
