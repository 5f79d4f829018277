use Rattle.std.proofs.Common.{◌≡◌, ◌+◌, ◌-◌, ◌<◌, suc, ◌++◌, ◌∷◌, [], ℕ, List, All, Some, None, length, map, get_or, slice_get, refl, sym, ap, ◌∙◌, subst, arith, length-append}
use Rattle.std.specs.Vec.{with_items}
use Rattle.std.proofs.lemmas.Option.{none-some, slice_get_read, get_or_from_slice_get}
use Rattle.fn_core.specs.Calls.{open_fault}
use Rattle.fn_table.specs.Seen.{TableView}
use Rattle.quota_pool.specs.Opened.{IsOpen, fresh_hand}
use Rattle.quota_pool.specs.Rooms.{HasPlaceFor, contents}
use Rattle.quota_pool.proofs.RoomSteps.{Handing, after_hand, place_one}
use Rattle.quota_pool.proofs.Opens.{none_at, each_more, hands_more, hands_bare, pass_each, bare_places, all_end}
use Rattle.running.specs.Running.{upto}
use Rattle.quota_pool.proofs.opening.open_all.Goals as goal

-- no tenant's numbers are at fault
pub open_tenant-requires-clause-sound : goal.open_tenant-requires-clause-sound
open_tenant-requires-clause-sound c =
    let at = c.loop-at.at in
    let within : at < length c.args.plans.now = omega (arith, c.loop-at-test.true) in
    let place : slice_get c.args.plans.now at ≡ Some c.index-plans-at.result = slice_get_read c.args.plans.now (length c.args.plans.now) at c.index-plans-at.result refl within c.index-plans-at.is in
    let plan : get_or c.args.plans.now at [] ≡ c.index-plans-at.result = get_or_from_slice_get c.args.plans.now at c.index-plans-at.result [] place in
    subst (λ (p : List ℕ). open_fault (get_or c.args.openings.now at 0) (get_or c.args.caps.now at 0) p ≡ None) plan
    (none_at c.args.openings.now c.args.caps.now c.args.plans.now c.requires.sound at (omega (arith, within, c.requires.one_each)) (omega (arith, within, c.requires.one_each, c.requires.one_cap_each)) within)

pub loop-at-init : goal.loop-at-init
loop-at-init c =
    let bare = c.in_ok-hands.ensures in
    record {
      count = ap length c.in_ok-funnels.ensures.items;
      passes = subst (λ (xs : List TableView). All (λ (x : TableView). x.start.shape.passes ≡ c.args.workers) xs) (sym c.in_ok-funnels.ensures.items) (λ k d within. absurd (omega arith));
      each = λ t table got. absurd (none-some table (ap (λ fs. slice_get fs t) (sym c.in_ok-funnels.ensures.items) ∙ got));
      hands = hands_bare c.in_ok-hands.hands.items (length c.args.openings.now) c.args.workers bare.count bare.bare ∙ ap (λ fs. map (fresh_hand fs) (upto c.args.workers)) (sym c.in_ok-funnels.ensures.items);
      place =
          let whole : length c.args.openings.now ≡ length c.args.openings.now - 0 = omega arith in
          subst (λ n. All (HasPlaceFor n) c.in_ok-hands.hands.items) whole (bare_places c.in_ok-hands.hands.items (length c.args.openings.now) bare.bare);
    }

pub hand-requires-clause-one_each : goal.hand-requires-clause-one_each
hand-requires-clause-one_each c =
    let opened = c.in_ok-funnel.ensures in
    pass_each c.loop-at.funnels.items c.in_ok-funnel.funnel c.args.workers c.loop-at.hands.items c.in_ok-funnel.passes.items c.loop-at.invariant.hands opened.count opened.passes ∙ ap length (sym c.deref_mut.ensures.value)

pub hand-requires-clause-place : goal.hand-requires-clause-place
hand-requires-clause-place c =
    let left : ℕ = length c.args.openings.now - (c.loop-at.at + 1) in
    let more : length c.args.openings.now - c.loop-at.at ≡ suc left = omega (arith, c.loop-at-test.true, c.requires.one_each) in
    subst (λ rs. All (HasPlaceFor 1) rs) (sym c.deref_mut.ensures.value) (place_one left c.loop-at.hands.items (subst (λ n. All (HasPlaceFor n) c.loop-at.hands.items) more c.loop-at.invariant.place))

pub loop-at-preserved : goal.loop-at-preserved
loop-at-preserved c =
    let i = c.loop-at.invariant in
    let at = c.loop-at.at in
    let ts = c.loop-at.funnels.items in
    let funnel = c.in_ok-funnel.funnel in
    let opened = c.in_ok-funnel.ensures in
    let items : c.push.new.self.items ≡ ts ++ funnel ∷ [] = c.in_ok-push.ensures.items in
    let place : slice_get c.args.plans.now at ≡ Some c.index-plans-at.result = slice_get_read c.args.plans.now (length c.args.plans.now) at c.index-plans-at.result refl (omega (arith, c.loop-at-test.true)) c.index-plans-at.is in
    let plan : get_or c.args.plans.now at [] ≡ c.index-plans-at.result = get_or_from_slice_get c.args.plans.now at c.index-plans-at.result [] place in
    let here : IsOpen c.args.workers (get_or c.args.openings.now at 0) (get_or c.args.caps.now at 0) (get_or c.args.plans.now at []) funnel = subst (λ p. IsOpen c.args.workers (get_or c.args.openings.now at 0) (get_or c.args.caps.now at 0) p funnel) (sym plan) opened.open in
    let passes = c.in_ok-funnel.passes.items in
    let hands = (with_items c.loop-at.hands c.hand.new.rooms).items in
    let left : ℕ = length c.args.openings.now - (at + 1) in
    let each_one = pass_each ts funnel c.args.workers c.loop-at.hands.items passes i.hands opened.count opened.passes in
    let more : length c.args.openings.now - at ≡ suc left = omega (arith, c.loop-at-test.true, c.requires.one_each) in
    let handing : Handing left c.loop-at.hands.items hands passes =
    after_hand left c.loop-at.hands c.deref_mut.result.now c.hand.new.rooms passes c.deref_mut.ensures.value each_one (subst (λ n. All (HasPlaceFor n) c.loop-at.hands.items) more i.place) c.hand.ensures.passes c.hand.ensures.sizes in
    record {
      count = ap length items ∙ length-append ts (funnel ∷ []) ∙ ap (λ n. n + 1) i.count;
      passes = subst (λ (xs : List TableView). All (λ (x : TableView). x.start.shape.passes ≡ c.args.workers) xs) (sym items) (all_end (λ (x : TableView). x.start.shape.passes ≡ c.args.workers) ts funnel i.passes opened.count);
      each = λ t table got. each_more c.args.workers c.args.openings.now c.args.caps.now c.args.plans.now ts funnel at (sym i.count) i.each here t table (ap (λ fs. slice_get fs t) (sym items) ∙ got);
      hands =
          hands_more ts funnel c.args.workers (contents c.loop-at.hands.items) (contents hands) passes i.hands opened.count opened.passes handing.passes ∙ ap (λ fs. map (fresh_hand fs) (upto c.args.workers)) (sym items);
      place = handing.place;
    }
