use Rattle.std.proofs.Common.{◌≡◌, ◌++◌, ◌∷◌, [], false, ap, subst, sym, length, length-append, arith, List}
use Rattle.fn_rounds.specs.Views.{LaneView}
use Rattle.fn_rounds.specs.declared.lanes.LaneDone.{LaneDone}
use Rattle.fn_rounds.specs.Lanes.{has_left, IsHandedBack}
use Rattle.fn_rounds.specs.Rounds.{LaneMade, AreHandedBack, AreAllMade}
use Rattle.fn_rounds.proofs.Paired.{all_less}
use Rattle.std.proofs.lemmas.Slice.Zip.{all_zipped_more}
use Rattle.fn_rounds.proofs.all_lanes.AllLanes.hand_back.Goals as goal

pub loop-lane-preserved : goal.loop-lane-preserved
loop-lane-preserved c =
    let s = c.in-Some.ensures.steps.0 in
    let i = c.loop-lane.invariant in
    let items : c.push.new.self.items ≡ c.loop-lane.dones.items ++ c.finish.result ∷ [] = c.in-Ok.ensures.items in
    let more = ap length s in
    record {
      back = subst (λ (dones : List LaneDone). AreHandedBack (c.loop-lane.yielded ++ c.in-Some.lane ∷ []) dones) (sym items) (all_zipped_more IsHandedBack c.loop-lane.yielded c.loop-lane.dones.items c.in-Some.lane c.finish.result i.back c.finish.ensures.back);
      made = subst (λ (dones : List LaneDone). AreAllMade (c.loop-lane.yielded ++ c.in-Some.lane ∷ []) dones) (sym items) (all_zipped_more LaneMade c.loop-lane.yielded c.loop-lane.dones.items c.in-Some.lane c.finish.result i.made c.finish.ensures.made);
      none = (all_less (λ (l : LaneView). has_left l ≡ false) c.loop-lane.lane-iterator.rest.items c.next.new.self.rest.items c.in-Some.lane i.none s).1;
      room = omega (arith, i.room, more, c.push.ensures.capacity, ap length items, length-append c.loop-lane.dones.items (c.finish.result ∷ []));
    }
