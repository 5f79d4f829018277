-- What a move tells that is made as a future.
--     MoveView      a move
--     IsMoveFor out into amount move      the move is of these passes, and of so much
--     HasMoved move given      how it came when it is over
--     GivesMove move given      what it gives: the claim, and then the account of it
--     AddedLeg, BeganLeg, TookLeg      what a poll does from the addition, from its beginning, and from the subtraction on
--     StartsMove from out to into amount started      how a move starts, or why not
--     TurnedMove old result new      what a poll of it does
use Rattle.std.specs.Prelude.{◌≡◌, ◌⊎◌, ⊤, ℕ, zero, suc, min, Option, Some, None, Result, Ok, Err}
use Rattle.fn_model.specs.declared.Kind.TheVariants.{Add, Sub}
use Rattle.fn_core.specs.declared.answer.Blocked.{Blocked}
use Rattle.fn_core.specs.declared.answer.Why.{Why}
use Rattle.fn_core.specs.declared.answer.CoreStep.TheVariants.{Ready}
use Rattle.fn_core.specs.Machine.{MaySpend}
use Rattle.fn_core.specs.Calls.{state_in, IsIdle}
use Rattle.fn_table.specs.Seen.{TableView, PassView, IsOf}
use Rattle.fn_climb.specs.Next.{PendingView}
use Rattle.fn_climb.specs.Begin.{BeginAnswers}
use Rattle.fn_climb.specs.Turns.{Polled, PolledInVain}
use Rattle.fn_climb.specs.declared.beginning.Begun.TheVariants.{Waiting, NoRow}
use Rattle.fn_future.specs.declared.legs.MoveStage.{MoveStage}
use Rattle.fn_future.specs.declared.legs.MoveStage.TheVariants.{Taking, Between, Adding, Over}
use Rattle.fn_future.specs.declared.legs.Leg.{Leg}
use Rattle.fn_future.specs.declared.legs.Leg.TheVariants.{Done, Waits}
use Rattle.fn_future.specs.Calls.{IsMade}
use Rattle.fn_future.specs.Transfers.{Transferred}

-- a move: both tables, both passes as they were handed in, the amount, and where it stands
pub record MoveView : Type 0 where
  pub from : TableView
  pub to : TableView
  pub out : PassView
  pub into : PassView
  pub amount : ℕ
  pub stage : MoveStage

-- the pass has added so much, or has done nothing where that is 0
abbrev pub MovedInto : PassView → ℕ → PassView → Type 0
MovedInto p zero q = q ≡ p
MovedInto p (suc n) q = (reply : ℕ) × IsMade p Add (suc n) q reply

-- The one pass has subtracted the amount, and the other has added what was there of it, each in a batch
pub record IsMoved (p q : PassView) (amount : ℕ) (out into : PassView) (moved : ℕ) : Type 0 where
  pub before : ℕ
  pub taken : IsMade p Sub amount out before
  pub moved_is : moved ≡ min amount before
  pub added : MovedInto q moved into

-- so have the passes that were handed in
abbrev pub HasMoved : MoveView → PassView × PassView × ℕ → Type 0
HasMoved m r = IsMoved m.out m.into m.amount r.0 r.1 r.2

-- what a move gives: both passes and what was moved; and how that came
abbrev pub GivesMove : MoveView → PassView × PassView × ℕ → Type 0
GivesMove m r = Transferred m.out m.into m.amount r.0 r.1 r.2 × HasMoved m r

-- the addition was polled once
abbrev pub AddedLeg : PassView → PendingView → ℕ → Leg → Type 0
AddedLeg out now moved (Done o i n) = (o ≡ out) × (n ≡ moved) × ((reply : ℕ) × Polled now (Ready reply) i)
AddedLeg out now moved (Waits stage) = (why : Why) × (next : PendingView) × PolledInVain now why next × (stage ≡ Adding out next moved)

-- the addition began, and was then polled; or it found no row
abbrev pub BeganLeg : PassView → PassView → ℕ → Leg → Type 0
BeganLeg out into moved leg =
    ((b : PendingView) × BeginAnswers into Add moved (Waiting b) × AddedLeg out b moved leg)
    ⊎ ((r : PassView) × (at : Blocked) × BeginAnswers into Add moved (NoRow r at) × (leg ≡ Waits (Between out r moved)))

-- so much was taken, and goes on to the other table unless it is nothing
abbrev pub AfterTaking : ℕ → PassView → PassView → Leg → Type 0
AfterTaking zero out into leg = leg ≡ Done out into 0
AfterTaking (suc n) out into leg = BeganLeg out into (suc n) leg

-- the subtraction was polled once, and where that ended it the addition began
abbrev pub TookLeg : ℕ → PendingView → PassView → Leg → Type 0
TookLeg amount now into leg =
    ((before : ℕ) × (out : PassView) × Polled now (Ready before) out × AfterTaking (min amount before) out into leg)
    ⊎ ((why : Why) × (next : PendingView) × PolledInVain now why next × (leg ≡ Waits (Taking next into)))

-- what a poll does, by where the move stands
abbrev pub GoesFrom : ℕ → MoveStage → Leg → Type 0
GoesFrom amount (Taking now into) leg = TookLeg amount now into leg
GoesFrom amount (Between out into moved) leg = BeganLeg out into moved leg
GoesFrom amount (Adding out now moved) leg = AddedLeg out now moved leg
GoesFrom amount Over leg = ⊥

-- what a poll needs, by where the move stands
abbrev pub MayGo : TableView → TableView → ℕ → MoveStage → Type 0
MayGo from to amount (Taking now into) = IsOf from now.pass × IsOf to into × IsIdle into.seen into.number × MaySpend (state_in into.seen) into.number amount
MayGo from to amount (Between out into moved) = IsOf to into × IsIdle into.seen into.number × MaySpend (state_in into.seen) into.number moved
MayGo from to amount (Adding out now moved) = IsOf to now.pass
MayGo from to amount Over = ⊥

-- what the poll then leaves
abbrev pub Leaves : MoveView → Leg → Option (PassView × PassView × ℕ) → MoveView → Type 0
Leaves old (Done o i n) (Some r) new = (r ≡ (o, i, n)) × (new ≡ record old { stage = Over })
Leaves old (Waits stage) None new = new ≡ record old { stage = stage }
Leaves old _ _ new = ⊥

-- what a poll of a move does
abbrev pub TurnedMove : MoveView → Option (PassView × PassView × ℕ) → MoveView → Type 0
TurnedMove old result new = (leg : Leg) × GoesFrom old.amount old.stage leg × Leaves old leg result new

-- the move isn't over
abbrev pub IsOpenStage : MoveStage → Type 0
IsOpenStage Over = ⊥
IsOpenStage _ = ⊤

abbrev pub IsOpen : MoveView → Type 0
IsOpen m = IsOpenStage m.stage

-- the move is of these two passes, and of so much
pub record IsMoveFor (p q : PassView) (amount : ℕ) (m : MoveView) : Type 0 where
  pub out_is : m.out ≡ p
  pub into_is : m.into ≡ q
  pub amount_is : m.amount ≡ amount
  pub runs : IsOpen m

-- the subtraction waits at its leaf, or at some level each row of its pass is blocked; the other pass is as it was
abbrev pub StartsMove : TableView → PassView → TableView → PassView → ℕ → Result MoveView (PassView × PassView × Blocked) → Type 0
StartsMove from out to into amount (Ok m) = (b : PendingView) × BeginAnswers out Sub amount (Waiting b) × (m ≡ record { from = from; to = to; out = out; into = into; amount = amount; stage = Taking b into })
StartsMove from out to into amount (Err e) = BeginAnswers out Sub amount (NoRow e.0 e.2) × (e.1 ≡ into)
