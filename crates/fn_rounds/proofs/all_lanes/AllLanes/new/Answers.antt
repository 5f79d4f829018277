use Rattle.std.proofs.Common.{◌≡◌, ◌++◌, ◌∷◌, [], List, subst, sym, ap, length, length-append, arith}
use Rattle.fn_table.specs.Claims.{Rests}
use Rattle.fn_rounds.specs.Views.{LaneView}
use Rattle.fn_rounds.specs.declared.lanes.Lane.{Lane}
use Rattle.fn_rounds.specs.Lanes.{MayMakeAll, is_new}
use Rattle.fn_rounds.specs.Rounds.{AreStarted}
use Rattle.fn_rounds.proofs.Paired.{all_less}
use Rattle.std.proofs.lemmas.Slice.Zip.{all_zipped_more}
use Rattle.fn_rounds.proofs.all_lanes.AllLanes.new.Goals as goal

pub loop-lane-preserved : goal.loop-lane-preserved
loop-lane-preserved c =
    let i = c.loop-lane.invariant in
    let rest = c.in-Some.ensures.steps.0 in
    let items : c.push.new.self.items ≡ c.loop-lane.running.items ++ c.in_ok-new.field-0 ∷ [] = c.in_ok-push.ensures.items in
    record {
      started = subst (λ (ls : List LaneView). AreStarted (c.loop-lane.yielded ++ c.in-Some.lane ∷ []) ls) (sym items) (all_zipped_more is_new c.loop-lane.yielded c.loop-lane.running.items c.in-Some.lane c.in_ok-new.field-0 i.started c.in_ok-new.ensures);
      idle = (all_less (λ (lane : Lane). Rests lane.pass) c.loop-lane.lane-iterator.rest.items c.next.new.self.rest.items c.in-Some.lane i.idle rest).1;
      may = (all_less (λ (lane : Lane). MayMakeAll lane.pass lane.orders) c.loop-lane.lane-iterator.rest.items c.next.new.self.rest.items c.in-Some.lane i.may rest).1;
      room = omega (arith, i.room, ap length items, length-append c.loop-lane.running.items (c.in_ok-new.field-0 ∷ []), ap length rest);
    }

pub invariant_of-result : goal.invariant_of-result
invariant_of-result c = (c.in_ok-dones.ensures.items, omega (arith, c.loop-lane.invariant.room))
