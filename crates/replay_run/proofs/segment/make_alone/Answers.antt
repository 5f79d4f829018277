use Rattle.std.proofs.Common.{◌≡◌, ◌<◌, ℕ, List, length, get_or, sym, ap, subst, arith}
use Rattle.std.proofs.lemmas.List.{get_or_default}
use Rattle.replay_run.specs.declared.places.Place.{Place}
use Rattle.replay_run.specs.Work.{rows_at, MayRun, HasMade}
use Rattle.replay_run.proofs.Alone.{may_alone, count_alone, made_alone}
use Rattle.replay_run.proofs.segment.make_alone.Goals as goal

pub work-requires-clause-may : goal.work-requires-clause-may
work-requires-clause-may g c =
    let places : List Place = c.args.places.now in
    let place : Place = get_or places 0 c.index-places-0.result in
    let within : 0 < length places = omega (arith, c.requires.one) in
    let is : place ≡ get_or places 0 place = get_or_default places 0 c.index-places-0.result place within in
    subst (λ (numbers : List ℕ). MayRun c.args.pool.now place.desk (rows_at c.args.rows.now numbers)) (sym c.deref.ensures.value)
    (may_alone c.args.pool.now c.args.rows.now places c.requires.one c.requires.workers c.requires.fresh c.requires.may place is)

pub work-requires-clause-room : goal.work-requires-clause-room
work-requires-clause-room g c =
    let places : List Place = c.args.places.now in
    let place : Place = get_or places 0 c.index-places-0.result in
    let within : 0 < length places = omega (arith, c.requires.one) in
    let is : place ≡ get_or places 0 place = get_or_default places 0 c.index-places-0.result place within in
    omega (arith, c.requires.room, ap length c.deref.ensures.value, count_alone c.args.pool.now c.args.rows.now places c.requires.one c.requires.workers c.requires.fresh c.requires.may place is)

pub returns-clause-made : goal.returns-clause-made
returns-clause-made g c =
    let places : List Place = c.args.places.now in
    let place : Place = get_or places 0 c.index-places-0.result in
    let within : 0 < length places = omega (arith, c.requires.one) in
    let is : place ≡ get_or places 0 place = get_or_default places 0 c.index-places-0.result place within in
    let left : Place = record place { desk = c.work.new.desk } in
    let made : HasMade c.args.pool.now place.desk (rows_at c.args.rows.now place.jobs.numbers.items) c.args.answers.now.items c.work.new.answers.items left.desk =
    subst (λ (numbers : List ℕ). HasMade c.args.pool.now place.desk (rows_at c.args.rows.now numbers) c.args.answers.now.items c.work.new.answers.items left.desk) c.deref.ensures.value c.work.ensures.made in
    made_alone c.args.pool.now c.args.rows.now places c.requires.one c.requires.workers c.requires.fresh c.requires.may place is left c.args.answers.now.items c.work.new.answers.items made
