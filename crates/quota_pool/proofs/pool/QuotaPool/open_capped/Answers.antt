use Rattle.std.proofs.Common.{◌≤◌, ◌∙◌, All, List, Vec, map, length, refl, sym, ap, subst, arith}
use Rattle.std.proofs.lemmas.List.{length-map}
use Rattle.running.specs.Running.{upto}
use Rattle.running.proofs.Lists.{length_numbers}
use Rattle.quota_pool.specs.Rooms.{HasPlace}
use Rattle.quota_pool.specs.Opened.{fresh_hand}
use Rattle.quota_pool.proofs.Opens.{is_opened, suits_rooms, desks_fresh, hands_count}
use Rattle.quota_pool.proofs.pool.QuotaPool.open_capped.Goals as goal

pub desks_of-requires-clause-few : goal.desks_of-requires-clause-few
desks_of-requires-clause-few c =
    let count = hands_count c.in_ok-funnels.funnels.items c.args.workers c.in_ok-funnels.hands.items c.in_ok-funnels.ensures.hands in
    omega (arith, count, c.requires.workers.1)

pub desks_of-requires-clause-closing : goal.desks_of-requires-clause-closing
desks_of-requires-clause-closing c =
    suits_rooms c.args.workers c.in_ok-funnels.funnels.items c.in_ok-closing.closing c.in_ok-funnels.hands.items (subst (λ n. HasPlace c.args.workers n c.in_ok-closing.closing) (c.len.ensures ∙ c.in_ok-funnels.funnels.ok.0) c.in_ok-closing.ensures) c.in_ok-funnels.ensures.count c.in_ok-funnels.ensures.hands

pub returns-clause-opened : goal.returns-clause-opened
returns-clause-opened c =
    is_opened c.args.workers c.args.openings.now c.args.caps.now c.args.plans.now c.in_ok-funnels.funnels.items c.in_ok-funnels.ensures.open c.in_ok-desks.desks.items c.requires.one_each
    (desks_fresh c.in_ok-funnels.funnels.items c.args.workers _ c.in_ok-desks.desks.items c.in_ok-funnels.ensures.hands c.in_ok-desks.ensures)
