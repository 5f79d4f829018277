use Rattle.std.proofs.Common.{◌≡◌, ◌++◌, ◌∷◌, [], List, length, sym, ap, ◌∙◌, arith, append_assoc, length-append}
use Rattle.quota_pool.specs.Views.{DeskView}
use Rattle.replay_run.specs.declared.places.Place.{Place}
use Rattle.replay_run.specs.Work.{desks_at}
use Rattle.replay_run.proofs.places.leave.Goals as goal

pub loop-place-preserved : goal.loop-place-preserved
loop-place-preserved c =
    let s = c.in-Some.ensures.steps in
    let items : c.push.new.self.items ≡ c.loop-place.desks.items ++ c.in-Some.place.desk ∷ [] = c.in-Ok.ensures.items in
    let rest : List Place = c.next.new.self.rest.items in
    record {
      desks = ap (λ (ds : List DeskView). ds ++ desks_at rest) items ∙ append_assoc c.loop-place.desks.items (c.in-Some.place.desk ∷ []) (desks_at rest)
          ∙ ap (λ (ps : List Place). c.loop-place.desks.items ++ desks_at ps) (sym s.0) ∙ c.loop-place.invariant.desks;
      room = omega (arith, c.loop-place.invariant.room, ap length s.0, c.push.ensures.capacity, ap length items, length-append c.loop-place.desks.items (c.in-Some.place.desk ∷ []));
    }
