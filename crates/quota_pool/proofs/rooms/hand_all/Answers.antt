use Rattle.std.proofs.Common.{◌≡◌, ◌∷◌, suc, List, Vec, All, length, sym, ap, ◌∙◌, subst, arith}
use Rattle.std.proofs.lemmas.List.{with_items_is}
use Rattle.std.specs.declared.alloc.Global.{Global}
use Rattle.std.specs.Vec.{with_items}
use Rattle.fn_table.specs.Seen.{PassView}
use Rattle.quota_pool.specs.Views.{DeskView}
use Rattle.quota_pool.specs.Rooms.{HasPlaceFor, contents, handed, rooms_after}
use Rattle.quota_pool.proofs.RoomSteps.{all_less, place_one, Handing, after_hand}
use Rattle.quota_pool.proofs.rooms.hand_all.Goals as goal

pub hand-requires-clause-one_each : goal.hand-requires-clause-one_each
hand-requires-clause-one_each c = c.requires.first ∙ ap length (sym c.deref_mut.ensures.value)

pub hand-requires-clause-place : goal.hand-requires-clause-place
hand-requires-clause-place c = subst (λ rs. All (HasPlaceFor 1) rs) (sym c.deref_mut.ensures.value) (place_one (length c.args.others.items) c.args.rooms.items c.requires.place)

pub loop-desk-init : goal.loop-desk-init
loop-desk-init c =
    let after : Handing (length c.args.others.items) c.args.rooms.items (with_items c.args.rooms c.hand.new.rooms).items c.args.first.items =
    after_hand (length c.args.others.items) c.args.rooms c.deref_mut.result.now c.hand.new.rooms c.args.first.items c.deref_mut.ensures.value c.requires.first c.requires.place c.hand.ensures.passes c.hand.ensures.sizes in
    let rest = c.into_iter-desk-iterator.ensures.into_iter_gives.0 in
    record {
      one_each = subst (λ (ds : List DeskView). All (λ (d : DeskView). length d.passes ≡ length (with_items c.args.rooms c.hand.new.rooms).items) ds) (sym rest) (subst (λ n. All (λ (d : DeskView). length d.passes ≡ n) c.args.others.items) (sym after.count) c.requires.others);
      place = subst (λ (ds : List DeskView). All (HasPlaceFor (length ds)) (with_items c.args.rooms c.hand.new.rooms).items) (sym rest) after.place;
      given = ap (λ (ds : List DeskView). rooms_after (contents (with_items c.args.rooms c.hand.new.rooms).items) ds) rest ∙ ap (λ (rs : List (List PassView)). rooms_after rs c.args.others.items) after.passes;
    }

pub hand-requires-in-loop-desk-clause-one_each : goal.hand-requires-in-loop-desk-clause-one_each
hand-requires-in-loop-desk-clause-one_each c =
    let s = c.in-Some.ensures.steps in
    let rs = c.loop-desk.rooms.items in
    let each : All (λ (d : DeskView). length d.passes ≡ length rs) (c.in-Some.desk ∷ c.next.new.self.rest.items) = subst (λ (xs : List DeskView). All (λ (d : DeskView). length d.passes ≡ length rs) xs) s.0 c.loop-desk.invariant.one_each in
    ap length c.passes_of.ensures ∙ each 0 c.in-Some.desk (omega arith) ∙ ap length (sym c.deref_mut-in-loop-desk.ensures.value)

pub loop-desk-preserved : goal.loop-desk-preserved
loop-desk-preserved c =
    let s = c.in-Some.ensures.steps in
    let i = c.loop-desk.invariant in
    let v = c.loop-desk.rooms in
    let ds = c.next.new.self.rest.items in
    let ps = c.passes_of.result.items in
    let now = (with_items v c.hand-in-loop-desk.new.rooms).items in
    let each : All (λ (d : DeskView). length d.passes ≡ length v.items) (c.in-Some.desk ∷ ds) = subst (λ (xs : List DeskView). All (λ (d : DeskView). length d.passes ≡ length v.items) xs) s.0 i.one_each in
    let place : All (HasPlaceFor (suc (length ds))) v.items = subst (λ (xs : List DeskView). All (HasPlaceFor (length xs)) v.items) s.0 i.place in
    let after : Handing (length ds) v.items now ps =
    after_hand (length ds) v c.deref_mut-in-loop-desk.result.now c.hand-in-loop-desk.new.rooms ps c.deref_mut-in-loop-desk.ensures.value (ap length c.passes_of.ensures ∙ each 0 c.in-Some.desk (omega arith)) place c.hand-in-loop-desk.ensures.passes c.hand-in-loop-desk.ensures.sizes in
    record {
      one_each = subst (λ n. All (λ (d : DeskView). length d.passes ≡ n) ds) (sym after.count) (all_less (λ (d : DeskView). length d.passes ≡ length v.items) c.in-Some.desk ds each);
      place = after.place;
      given =
          ap (λ (rs : List (List PassView)). rooms_after rs ds) (after.passes ∙ ap (λ xs. handed (contents v.items) xs) c.passes_of.ensures) ∙ ap (λ (xs : List DeskView). rooms_after (contents v.items) xs) (sym s.0) ∙ i.given;
    }
