-- What the rounds of all lanes tell.
--     AreStarted given lanes      no lane has made a call
--     AreAllInOrder lanes dones      each lane's pass has made its orders, in words of the integer
--     AreAllMade lanes dones      .. call by call
--     HasGiven calls dones      both, of the lanes that were handed in
--     Round old given new      what a poll does
--     LeavesSome old new      why it is pending
use Rattle.std.specs.Prelude.{◌≡◌, true, false, ℕ, List, Option, Some, None, IfSome, IsSomeAnd, slice_get}
use Rattle.std.specs.List.{AllZip, list_any}
use Rattle.fn_rounds.specs.Views.{LaneView, RoundsView}
use Rattle.fn_rounds.specs.declared.lanes.Lane.{Lane}
use Rattle.fn_rounds.specs.declared.lanes.LaneDone.{LaneDone}
use Rattle.fn_rounds.specs.InOrder.{MadeInOrder}
use Rattle.fn_rounds.specs.Lanes.{AreMade, LaneWent, LaneTurned, has_left, is_new, IsHandedBack}

-- each lane has made none of its calls
abbrev pub AreStarted : List Lane → List LaneView → Type 0
AreStarted = AllZip is_new

-- the lane's pass, as it was handed in, has made exactly the lane's orders, in order, with these replies
abbrev pub LaneInOrder : LaneView → LaneDone → Type 0
LaneInOrder l done = MadeInOrder l.given l.orders done.replies done.pass

abbrev pub AreAllInOrder : List LaneView → List LaneDone → Type 0
AreAllInOrder = AllZip LaneInOrder

-- all calls of a lane have been made, one after the other
abbrev pub LaneMade : LaneView → LaneDone → Type 0
LaneMade l done = AreMade l.given l.orders done.replies done.pass

abbrev pub AreAllMade : List LaneView → List LaneDone → Type 0
AreAllMade = AllZip LaneMade

-- what all calls give: each lane's pass with its replies
abbrev pub HasGiven : RoundsView → List LaneDone → Type 0
HasGiven calls dones = IfSome calls.lanes (λ lanes. AreAllInOrder lanes dones × AreAllMade lanes dones)

-- each lane had its turn
abbrev pub HaveTurned : List LaneView → List LaneView → Type 0
HaveTurned = AllZip LaneTurned

abbrev pub AreHandedBack : List LaneView → List LaneDone → Type 0
AreHandedBack = AllZip IsHandedBack

-- after a round either no lane has a call left, and all are handed back, or some lane has one
abbrev pub RoundEnds : List LaneView → Option (List LaneDone) → Option (List LaneView) → Type 0
RoundEnds lanes (Some dones) after = (list_any has_left lanes ≡ false) × AreHandedBack lanes dones × (after ≡ None)
RoundEnds lanes None after = (list_any has_left lanes ≡ true) × (after ≡ Some lanes)

-- what a poll does: each lane has its turn
abbrev pub Round : RoundsView → Option (List LaneDone) → RoundsView → Type 0
Round old given new = IsSomeAnd old.lanes (λ lanes. (turned : List LaneView) × HaveTurned lanes turned × RoundEnds turned given new.lanes × (new.table ≡ old.table))

-- a lane that has an order left after its turn, in which it only began the order, found no row for it or was told to wait, or ended the one before
pub record SomeLeft (olds news : List LaneView) : Type 0 where
  pub at : ℕ
  pub old : LaneView
  pub new : LaneView
  pub was : slice_get olds at ≡ Some old
  pub is : slice_get news at ≡ Some new
  pub went : LaneWent old new
  pub left : has_left new ≡ true

-- some lane of the round has an order left
abbrev pub LeavesSome : RoundsView → RoundsView → Type 0
LeavesSome old new = IsSomeAnd old.lanes (λ olds. IsSomeAnd new.lanes (SomeLeft olds))
