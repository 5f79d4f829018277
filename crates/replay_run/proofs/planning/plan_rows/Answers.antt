use Rattle.std.proofs.Common.{◌≡◌, ◌+◌, ◌<◌, [], ℕ, List, length, set, get_or, sym, ap, ◌∙◌, subst, arith, take_all}
use Rattle.std.proofs.lemmas.List.{get_or_default}
use Rattle.trace_text.specs.declared.traces.Row.{Row}
use Rattle.replay_run.specs.Ready.{ArePlanned}
use Rattle.replay_run.specs.Work.{no_row}
use Rattle.replay_run.proofs.Planned.{planned_none, planned_more, sum_fits}
use Rattle.replay_run.proofs.planning.plan_rows.Goals as goal

pub loop-row-init : goal.loop-row-init
loop-row-init c = subst (ArePlanned [] c.args.tenants c.args.workers) (sym c.in_ok-plans.ensures) (planned_none c.args.tenants c.args.workers)

pub loop-row-preserved : goal.loop-row-preserved
loop-row-preserved c =
    let rows : List Row = c.args.rows.now in
    let i = c.loop-row.row-index in
    let within : i < length rows = omega arith in
    let row : Row = get_or rows i no_row in
    let there = c.requires.tenants i no_row within in
    let plans : List (List ℕ) = c.loop-row.plans.items in
    let was : c.index_mut-plan.result.now ≡ get_or plans row.tenant [] = c.index_mut-plan.ensures.value ∙ get_or_default plans row.tenant c.index_mut-plan.result.now [] (omega (arith, there, c.loop-row.invariant.one_each)) in
    planned_more rows i within plans c.args.tenants c.args.workers c.allow.new.plan c.loop-row.invariant there (c.requires.workers i no_row within)
    (c.allow.ensures ∙ ap (λ (plan : List ℕ). set plan row.worker (get_or plan row.worker 0 + row.amount)) was)

pub allow-requires-clause-fits : goal.allow-requires-clause-fits
allow-requires-clause-fits c =
    let rows : List Row = c.args.rows.now in
    let i = c.loop-row.row-index in
    let within : i < length rows = omega arith in
    let row : Row = get_or rows i no_row in
    let there = c.requires.tenants i no_row within in
    let plans : List (List ℕ) = c.loop-row.plans.items in
    let was : c.index_mut-plan.result.now ≡ get_or plans row.tenant [] = c.index_mut-plan.ensures.value ∙ get_or_default plans row.tenant c.index_mut-plan.result.now [] (omega (arith, there, c.loop-row.invariant.one_each)) in
    omega (arith, ap (λ (plan : List ℕ). get_or plan row.worker 0) was, c.loop-row.invariant.sums row.tenant there row.worker (c.requires.workers i no_row within), sum_fits rows i within (c.requires.below row.tenant there))

pub returns : goal.returns
returns c = subst (λ (rows : List Row). ArePlanned rows c.args.tenants c.args.workers c.loop-row.plans.items) (take_all c.loop-row.row-index c.args.rows.now c.loop-row-test.false) c.loop-row.invariant
