use Rattle.std.proofs.Common.{◌≡◌, ◌+◌, ◌<◌, ◌≤◌, ◌++◌, ◌∷◌, [], suc, List, Vec, All, take, drop, set, length, get_or, sym, ap, ◌∙◌, subst, arith}
use Rattle.std.proofs.Math.Seq.{map-set_same}
use Rattle.std.proofs.lemmas.List.{length-set}
use Rattle.std.specs.declared.alloc.Global.{Global}
use Rattle.std.specs.Vec.{vec_capacity}
use Rattle.fn_table.specs.Seen.{PassView}
use Rattle.quota_pool.specs.Rooms.{HasPlaceFor, contents, handed}
use Rattle.quota_pool.proofs.RoomSteps.{more_handed, place_here, place_behind}
use Rattle.quota_pool.proofs.rooms.hand.Goals as goal

pub push_reserved-requires : goal.push_reserved-requires
push_reserved-requires c =
    let s = c.in-Some.ensures.steps in
    let i = c.loop-at.invariant in
    let count = ap length s.0.0 in
    let within : c.in-Some.at < length c.loop-at.rooms = omega (arith, i.at, s.1, count) in
    let place = place_here c.loop-at.rooms c.in-Some.at c.index-rooms-at.result within (subst (λ n. All (HasPlaceFor 1) (drop n c.loop-at.rooms)) (sym s.1) i.place) in
    let room : Vec PassView Global = get_or c.loop-at.rooms c.in-Some.at c.index-rooms-at.result in
    let here : length room.items + 1 ≤ vec_capacity room = place in
    omega (arith, here, room.ok.0)

pub loop-at-preserved : goal.loop-at-preserved
loop-at-preserved c =
    let s = c.in-Some.ensures.steps in
    let i = c.loop-at.invariant in
    let rs = c.loop-at.rooms in
    let u = c.push_reserved.new.self in
    let rest = c.next.new.self.iter.rest.items in
    let count = ap length s.0.0 in
    let within : c.in-Some.at < length rs = omega (arith, i.at, s.1, count) in
    let next : c.next.new.self.count ≡ suc c.in-Some.at = omega (arith, s.1, s.2) in
    let put : u.items ≡ (get_or rs c.in-Some.at c.index-rooms-at.result).items ++ c.in-Some.pass ∷ [] = c.push_reserved.ensures.items in
    let given = more_handed rs c.in-Some.at c.index-rooms-at.result u c.in-Some.pass rest within put in
    record {
      at = omega (arith, i.at, count, s.1, s.2, length-set rs c.in-Some.at u);
      given =
          let now : List (Vec PassView Global) = set rs c.in-Some.at u in
          ap (λ n. take n (contents now) ++ handed (drop n (contents now)) rest) next ∙ given ∙ ap (λ n. take n (contents rs) ++ handed (drop n (contents rs)) (c.in-Some.pass ∷ rest)) s.1
          ∙ ap (λ ps. take c.loop-at.at-iterator.count (contents rs) ++ handed (drop c.loop-at.at-iterator.count (contents rs)) ps) (sym s.0.0) ∙ i.given;
      sizes = map-set_same (λ (r : Vec PassView Global). vec_capacity r) rs c.in-Some.at u c.index-rooms-at.result c.push_reserved.ensures.capacity ∙ i.sizes;
      place = subst (λ n. All (HasPlaceFor 1) (drop n (set rs c.in-Some.at u))) (sym next) (place_behind rs c.in-Some.at u within (subst (λ n. All (HasPlaceFor 1) (drop n rs)) (sym s.1) i.place));
    }
