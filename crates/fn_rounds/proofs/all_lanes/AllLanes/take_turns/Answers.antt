use Rattle.std.proofs.Common.{◌≡◌, ◌<◌, ◌≤◌, ◌+◌, ◌++◌, ◌∷◌, [], ◌∙◌, ap, sym, subst, arith, length, get_or, take, set, List}
use Rattle.std.proofs.lemmas.List.{take_more, take_more_set, take_all, drop-set-lt}
use Rattle.std.proofs.lemmas.Grind.{drop_more_same}
use Rattle.fn_table.specs.Seen.{IsOf}
use Rattle.fn_rounds.specs.Views.{LaneView}
use Rattle.fn_rounds.specs.Lanes.{LaneTurned}
use Rattle.fn_rounds.specs.Rounds.{HaveTurned}
use Rattle.fn_rounds.proofs.Paired.{same_head, written}
use Rattle.std.proofs.lemmas.Slice.Zip.{all_zipped_more}
use Rattle.fn_rounds.proofs.all_lanes.AllLanes.take_turns.Goals as goal

pub turn-requires : goal.turn-requires
turn-requires c =
    let first : List LaneView = c.deref_mut-lane-items.result.now in
    let items : List LaneView = c.loop-lane.lane-items in
    let i = c.loop-lane.lane-index in
    let less : i < length first = c.loop-lane-test.true in
    let also : i < length items = omega (arith, less, c.loop-lane.auto.lane-items) in
    let same = same_head items first i c.lane-item.result also less c.loop-lane.invariant.others in
    let value : first ≡ c.args.self = c.deref_mut-lane-items.ensures.value ∙ c.self.view_is in
    let within : i < length c.args.self = subst (λ (xs : List LaneView). i < length xs) value less in
    subst (λ (l : LaneView). IsOf c.args.table.now l.given) (sym (same ∙ ap (λ (xs : List LaneView). get_or xs i c.lane-item.result) value)) (c.requires i c.lane-item.result within)

pub loop-lane-preserved : goal.loop-lane-preserved
loop-lane-preserved c =
    let first : List LaneView = c.deref_mut-lane-items.result.now in
    let items : List LaneView = c.loop-lane.lane-items in
    let i = c.loop-lane.lane-index in
    let d : LaneView = c.lane-item.result in
    let new : LaneView = c.turn.new.self in
    let less : i < length first = c.loop-lane-test.true in
    let also : i < length items = omega (arith, less, c.loop-lane.auto.lane-items) in
    let same = same_head items first i d also less c.loop-lane.invariant.others in
    record {
      turned = subst (λ (xs : List LaneView). HaveTurned xs (take (i + 1) (set items i new))) (sym (take_more first i d less))
          (subst (λ (ys : List LaneView). HaveTurned (take i first ++ get_or first i d ∷ []) ys) (sym (take_more_set items i new also))
          (all_zipped_more LaneTurned (take i first) (take i items) (get_or first i d) new c.loop-lane.invariant.turned (subst (λ (l : LaneView). LaneTurned l new) same c.turn.ensures)));
      others = drop-set-lt (i + 1) items i new (omega arith) ∙ drop_more_same items first i c.loop-lane.invariant.others;
    }

pub returns : goal.returns
returns c =
    let first : List LaneView = c.deref_mut-lane-items.result.now in
    let items : List LaneView = c.loop-lane.lane-items in
    let olds : List LaneView = c.self.inside.running.items in
    let i = c.loop-lane.lane-index in
    let value : first ≡ olds = c.deref_mut-lane-items.ensures.value in
    let all : length first ≤ i = c.loop-lane-test.false in
    let same : length items ≡ length first = c.loop-lane.auto.lane-items in
    let long : length first ≡ length olds = ap length value in
    let every : length items ≤ i = omega (arith, all, same) in
    let turned = subst (λ (xs : List LaneView). HaveTurned xs (take i items)) (take_all i first all) c.loop-lane.invariant.turned in
    let whole = subst (λ (ys : List LaneView). HaveTurned first ys) (take_all i items every) turned in
    let here = subst (λ (xs : List LaneView). HaveTurned xs items) (value ∙ c.self.view_is) whole in
    subst (λ (ys : List LaneView). HaveTurned c.args.self ys) (sym (written olds items c.self.inside.running.len (omega (arith, same, long)) (omega (arith, c.self.inside.running.ok.0)))) here
