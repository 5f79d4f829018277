use Rattle.std.proofs.Common.{◌≡◌, ◌∙◌, sym, subst, List, Option, Some, IfSome}
use Rattle.std.specs.Prelude.{All}
use Rattle.fn_table.specs.Seen.{IsOf}
use Rattle.fn_rounds.specs.declared.lanes.LaneDone.{LaneDone}
use Rattle.fn_rounds.specs.Views.{LaneView, RoundsView}
use Rattle.fn_rounds.specs.Rounds.{AreAllInOrder, AreAllMade, HasGiven}
use Rattle.fn_rounds.proofs.Paired.{all_of_table, all_made_before, given_all}
use Rattle.fn_rounds.proofs.all_calls.AllCalls.round.Goals as goal

pub invariant_of-self : goal.invariant_of-self
invariant_of-self c =
    let i = c.self.inside in
    let lanes : List LaneView = c.in-Some.lanes in
    let here : i.lanes ≡ Some lanes = sym c.take.ensures.value ∙ c.in-Some.is in
    let kept = subst (λ (o : Option (List LaneView)). IfSome o (All (λ l. IsOf i.table.now l.given))) here c.self.invariant in
    all_of_table i.table.now lanes c.take_turns-lanes.result c.take_turns-lanes.ensures kept

pub returns-else-any_left-clause-made : goal.returns-else-any_left-clause-made
returns-else-any_left-clause-made c =
    let i = c.self.inside in
    let lanes : List LaneView = c.in-Some.lanes in
    let dones : List LaneDone = c.hand_back.result.items in
    let here : i.lanes ≡ Some lanes = sym c.take.ensures.value ∙ c.in-Some.is in
    let given = given_all lanes dones (all_made_before lanes c.take_turns-lanes.result c.take_turns-lanes.ensures dones c.hand_back.ensures.made) in
    subst (λ (v : RoundsView). HasGiven v dones) c.self.view_is (subst (λ (o : Option (List LaneView)). IfSome o (λ ls. AreAllInOrder ls dones × AreAllMade ls dones)) (sym here) given)
