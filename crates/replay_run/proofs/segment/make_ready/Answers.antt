use Rattle.std.proofs.Common.{◌≡◌, ℕ, List, None, length, sym, ap, ◌∙◌, subst, arith}
use Rattle.std.proofs.lemmas.List.{length-map, with_items_is}
use Rattle.running.specs.Running.{upto}
use Rattle.running.proofs.Lists.{length_numbers}
use Rattle.quota_pool.specs.Views.{DeskView}
use Rattle.quota_pool.specs.Faults.{pool_fault}
use Rattle.quota_pool.specs.Opened.{IsOpened, fresh_desk}
use Rattle.replay_run.specs.declared.places.Place.{Place}
use Rattle.replay_run.specs.Ready.{IsReady}
use Rattle.replay_run.specs.Work.{AreFresh, desks_at, desks_in, seats}
use Rattle.trace_text.specs.declared.traces.Row.{Row}
use Rattle.replay_run.proofs.Seated.{desks_seated, fresh_dealt}
use Rattle.replay_run.proofs.NoFault.{no_fault, workers_there, tenants_there}
use Rattle.replay_run.proofs.segment.make_ready.Goals as goal

pub plan_rows-requires-clause-workers : goal.plan_rows-requires-clause-workers
plan_rows-requires-clause-workers c = workers_there c.args.workers (length c.args.caps.now) c.args.rows.now c.requires.sound.sound

pub plan_rows-requires-clause-tenants : goal.plan_rows-requires-clause-tenants
plan_rows-requires-clause-tenants c = tenants_there c.args.workers (length c.args.caps.now) c.args.rows.now c.requires.sound.sound

pub plan_rows-requires-clause-below : goal.plan_rows-requires-clause-below
plan_rows-requires-clause-below c = λ tenant there. omega (arith, c.requires.sound.below tenant there)

pub open_pool-requires-clause-caps : goal.open_pool-requires-clause-caps
open_pool-requires-clause-caps c = λ k d within. omega (arith, c.requires.sound.small k d within)

pub open_pool-requires-clause-sound : goal.open_pool-requires-clause-sound
open_pool-requires-clause-sound c =
    subst (λ (plans : List (List ℕ)). pool_fault c.args.openings.now c.args.caps.now plans ≡ None) (sym c.deref.ensures.value)
    (no_fault c.args.workers c.args.caps.now c.args.openings.now c.args.rows.now c.in_ok-plans.plans.items c.requires.sound c.in_ok-plans.ensures)

pub deal-requires-clause-workers : goal.deal-requires-clause-workers
deal-requires-clause-workers c =
    let fresh = ap length c.in_ok-pool.ensures.fresh in
    let count = length-map (upto c.args.workers) (fresh_desk c.in_ok-pool.pool.tables) in
    let desks = ap length c.in_ok-places.ensures.desks in
    let places = length-map c.in_ok-places.places.items (λ (p : Place). p.desk) in
    λ k d within. let below = workers_there c.args.workers (length c.args.caps.now) c.args.rows.now c.requires.sound.sound k d within in
    omega (arith, below, fresh, count, length_numbers 0 c.args.workers, desks, places, ap length c.deref_mut.ensures.value)

pub returns-clause-ready : goal.returns-clause-ready
returns-clause-ready c =
    let rows : List Row = c.args.rows.now in
    let size : length c.deal.new.places ≡ c.in_ok-places.places.len =
    sym (length-map c.deal.new.places (λ (p : Place). p.desk)) ∙ ap length c.in_ok-deal.ensures.desks ∙ length-map c.deref_mut.result.now (λ (p : Place). p.desk) ∙ ap length c.deref_mut.ensures.value ∙ sym c.in_ok-places.places.ok.0 in
    let desks : desks_in (seats rows c.deal.new.places) ≡ c.in_ok-pool.desks.items = desks_seated rows c.deal.new.places ∙ c.in_ok-deal.ensures.desks ∙ ap desks_at c.deref_mut.ensures.value ∙ c.in_ok-places.ensures.desks in
    let Opened : List (List ℕ) → List DeskView → Type 0 = λ plans ds. IsOpened c.args.openings.now c.args.caps.now c.args.workers plans c.in_ok-pool.pool ds in
    let opened : Opened c.in_ok-plans.plans.items (desks_in (seats rows c.deal.new.places)) =
    subst (λ (ds : List DeskView). Opened c.in_ok-plans.plans.items ds) (sym desks) (subst (λ (plans : List (List ℕ)). Opened plans c.in_ok-pool.desks.items) c.deref.ensures.value c.in_ok-pool.ensures) in
    subst (λ (places : List Place). IsReady c.args.workers c.args.caps.now c.args.openings.now rows c.in_ok-pool.pool (seats rows places)) (sym (with_items_is c.in_ok-places.places c.deal.new.places size)) (record {
      plans = c.in_ok-plans.plans.items;
      planned = c.in_ok-plans.ensures;
      opened = opened;
      dealt = fresh_dealt rows c.deal.new.places c.in_ok-deal.ensures.rows;
    })

pub returns-clause-fresh : goal.returns-clause-fresh
returns-clause-fresh c =
    let size : length c.deal.new.places ≡ c.in_ok-places.places.len =
    sym (length-map c.deal.new.places (λ (p : Place). p.desk)) ∙ ap length c.in_ok-deal.ensures.desks ∙ length-map c.deref_mut.result.now (λ (p : Place). p.desk) ∙ ap length c.deref_mut.ensures.value ∙ sym c.in_ok-places.places.ok.0 in
    subst (AreFresh c.args.rows.now) (sym (with_items_is c.in_ok-places.places c.deal.new.places size)) c.in_ok-deal.ensures.rows
