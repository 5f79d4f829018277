-- What a lane does.
--     AreMade pass orders replies after      the pass has made these calls, one after the other, with these replies
--     MayMakeAll pass orders      its allowance is enough for them
--     CallerWent kind amount old said new      what a turn does
--     has_left lane, LaneTurned old new      whether a call is left, and what a round does to a lane
--     IsHandedBack lane done      a lane that is done, with its pass and its replies
use Rattle.std.specs.Prelude.{◌≡◌, ◌≤◌, ℕ, Bool, true, false, nat_lt, List, [], ◌∷◌, ◌++◌, length, All, Option, Some, None, slice_index_or}
use Rattle.std.specs.Option.{option_to_list}
use Rattle.fn_model.specs.declared.Kind.{Kind}
use Rattle.fn_model.specs.declared.Kind.TheVariants.{Read}
use Rattle.fn_core.specs.declared.answer.Blocked.{Blocked}
use Rattle.fn_core.specs.declared.answer.Why.{Why}
use Rattle.fn_core.specs.declared.answer.CoreStep.TheVariants.{Ready}
use Rattle.fn_core.specs.Machine.{IsChange, MaySpend}
use Rattle.fn_core.specs.Calls.{state_in}
use Rattle.fn_table.specs.Seen.{TableView, PassView, IsOf}
use Rattle.fn_climb.specs.Begin.{BeginAnswers}
use Rattle.fn_table.specs.Later.{IsLater}
use Rattle.fn_climb.specs.Turns.{Polled, PolledInVain}
use Rattle.fn_climb.specs.declared.beginning.Begun.TheVariants.{Waiting, NoRow}
use Rattle.fn_table.specs.Called.{HasMadeNone}
use Rattle.fn_table.specs.Claims.{left, Rests}
use Rattle.fn_future.specs.Calls.{IsMade}
use Rattle.fn_rounds.specs.InOrder.{asked}
use Rattle.fn_rounds.specs.Views.{LaneView}
use Rattle.fn_rounds.specs.declared.lanes.Lane.{Lane}
use Rattle.fn_rounds.specs.declared.lanes.LaneDone.{LaneDone}
use Rattle.fn_rounds.specs.declared.lanes.Caller.{Caller}
use Rattle.fn_rounds.specs.declared.lanes.Caller.TheVariants.{Idle, Pending, Gone}

-- the pass has at most looked for rows: it has made no call, and makes none
pub record HasOnlyScanned (p q : PassView) : Type 0 where
  pub later : IsLater p q
  pub none : HasMadeNone p q
  pub idle : Rests q

-- the pass has made these calls, one after the other, with these replies, and no others
abbrev pub AreMade : PassView → List (Kind × ℕ) → List ℕ → PassView → Type 0
AreMade p [] [] q = HasOnlyScanned p q
AreMade p (order ∷ orders) (reply ∷ replies) q = (r : PassView) × IsMade p order.0 order.1 r reply × AreMade r orders replies q
AreMade p _ _ q = ⊥

-- an order is an addition or a subtraction of at least 1
abbrev pub IsOrder : Kind × ℕ → Type 0
IsOrder order = IsChange order.0 × (1 ≤ order.1)

-- the pass's allowance is enough for all orders
pub record MayMakeAll (p : PassView) (orders : List (Kind × ℕ)) : Type 0 where
  pub each : All IsOrder orders
  pub enough : asked orders ≤ left p

-- whether a call is left that hasn't ended
abbrev pub has_left : LaneView → Bool
has_left l = nat_lt (length l.replies) (length l.orders)

-- the first order that has no reply yet
abbrev pub order_at : List (Kind × ℕ) → List ℕ → Kind × ℕ
order_at orders replies = slice_index_or orders (length replies) (Read, 0)

abbrev pub next_order : LaneView → Kind × ℕ
next_order l = order_at l.orders l.replies

-- what a turn of a caller needs
abbrev pub MayTurn : TableView → Kind → ℕ → Caller → Type 0
MayTurn t kind amount (Idle p) = IsOf t p × Rests p × IsChange kind × MaySpend (state_in p.seen) p.number amount
MayTurn t kind amount (Pending now) = IsOf t now.pass
MayTurn t kind amount Gone = ⊥

-- an idle caller began the call, or found no row; another was polled once, which ended its call or told it to wait
abbrev pub CallerWent : Kind → ℕ → Caller → Option ℕ → Caller → Type 0
CallerWent kind amount (Idle p) None (Pending b) = BeginAnswers p kind amount (Waiting b)
CallerWent kind amount (Idle p) None (Idle q) = (at : Blocked) × BeginAnswers p kind amount (NoRow q at)
CallerWent kind amount (Pending now) None (Pending next) = (why : Why) × PolledInVain now why next
CallerWent kind amount (Pending now) (Some reply) (Idle q) = Polled now (Ready reply) q
CallerWent kind amount _ _ _ = ⊥

-- the lane's caller had a turn
pub record LaneWent (old new : LaneView) : Type 0 where
  pub said : Option ℕ
  pub went : CallerWent (next_order old).0 (next_order old).1 old.caller said new.caller
  pub now : new ≡ record old { caller = new.caller; replies = old.replies ++ option_to_list said }

-- what a round does to a lane: its caller has a turn where a call is left
pub record LaneTurned (old new : LaneView) : Type 0 where
  pub left : has_left old ≡ true → LaneWent old new
  pub done : has_left old ≡ false → new ≡ old

-- a lane that has made none of its calls
abbrev pub is_new : Lane → LaneView → Type 0
is_new lane l = l ≡ record { given = lane.pass; orders = lane.orders; replies = []; caller = Idle lane.pass }

-- a lane that is done, with its pass and its replies
pub record IsHandedBack (l : LaneView) (done : LaneDone) : Type 0 where
  pub pass : l.caller ≡ Idle done.pass
  pub replies : done.replies ≡ l.replies
