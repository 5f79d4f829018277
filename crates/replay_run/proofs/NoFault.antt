-- A segment's numbers are no fault of its pool.
use Rattle.std.proofs.Common.{◌≡◌, ◌+◌, ◌^◌, ◌<◌, ◌≤◌, ◌==◌, ℕ, suc, List, [], ◌∷◌, length, get_or, false, cond, nat_le, nat_lt, if◌then◌else◌, Some, None, refl, sym, ap, ◌∙◌, arith, take_all}
use Rattle.std.proofs.lemmas.Bool.Decides.{nat_tests}
use Rattle.std.proofs.lemmas.List.Elements.{All-head, All-tail}
use Rattle.std.specs.List.{All, sum_by, sum}
use Rattle.quota_pool.specs.declared.faults.PoolFault.TheVariants.{TooMuch, AboveCap}
use Rattle.quota_pool.specs.Faults.{too_much_from, above_cap_from, pool_fault, first_of_two}
use Rattle.trace_text.specs.SoundTrace.{IsSoundRow, amounts}
use Rattle.trace_text.specs.declared.traces.Row.{Row}
use Rattle.replay_run.specs.Ready.{IsSoundSegment, ArePlanned}
use Rattle.replay_run.specs.Work.{of_worker}
use Rattle.replay_run.proofs.KeyedSums.{all_below, sums_below}
use Rattle.replay_run.proofs.Runs.{asks}

-- the worker of a row
abbrev pub worker_of : Row → ℕ
worker_of row = row.worker

-- no row is of a worker that isn't there
pub none_from : (workers : ℕ) (rows : List Row) → All (λ (row : Row). row.worker < workers) rows → (worker : ℕ) → workers ≤ worker → of_worker worker rows ≡ []
none_from workers [] all worker above = refl
none_from workers (row ∷ rows) all worker above =
    let first : row.worker < workers = All-head (λ (r : Row). r.worker < workers) row rows all in
    let other : (row.worker == worker) ≡ false = grind (arith, nat_tests, first, above) in
    ap (λ b. cond b (row ∷ of_worker worker rows) (of_worker worker rows)) other ∙ none_from workers rows (All-tail (λ (r : Row). r.worker < workers) row rows all) worker above

-- a plan allows together what all rows ask for
pub plan_sum : (rows : List Row) (tenants workers : ℕ) (plans : List (List ℕ)) (tenant : ℕ) → All (λ (row : Row). row.worker < workers) rows → ArePlanned rows tenants workers plans → tenant < tenants
    → sum (get_or plans tenant []) ≡ amounts tenant rows
plan_sum rows tenants workers plans tenant all planned there =
    let plan : List ℕ = get_or plans tenant [] in
    let size : length plan ≡ workers = planned.sizes tenant [] (omega (arith, there, planned.one_each)) in
    let sums = sums_below (asks tenant) worker_of plan rows workers (omega (arith, size)) (λ worker below. planned.sums tenant there worker (omega (arith, below, size))) in
    ap sum (sym (take_all workers plan (omega (arith, size)))) ∙ sums ∙ ap (sum_by (asks tenant)) (all_below (asks tenant) worker_of workers rows (none_from workers rows all))

-- openings and plans that stay below 2^63 are no fault
too_much_none : (tenant : ℕ) (openings : List ℕ) (plans : List (List ℕ)) → ((k : ℕ) → k < length openings → get_or openings k 0 + sum (get_or plans k []) < 2 ^ 63) → too_much_from tenant openings plans ≡ None
too_much_none tenant [] [] below = refl
too_much_none tenant [] (plan ∷ plans) below = refl
too_much_none tenant (opening ∷ openings) [] below = refl
too_much_none tenant (opening ∷ openings) (plan ∷ plans) below =
    let first : opening + sum plan < 2 ^ 63 = below 0 (omega arith) in
    let fits : nat_le (2 ^ 63) (opening + sum plan) ≡ false = grind (arith, nat_tests, first) in
    ap (λ b. if b then Some (TooMuch tenant opening (opening + sum plan)) else too_much_from (suc tenant) openings plans) fits
    ∙ too_much_none (suc tenant) openings plans (λ k within. below (suc k) (omega arith))

-- and neither are openings within their caps
above_cap_none : (tenant : ℕ) (openings caps : List ℕ) → ((k : ℕ) → k < length openings → get_or openings k 0 ≤ get_or caps k 0) → above_cap_from tenant openings caps ≡ None
above_cap_none tenant [] [] within = refl
above_cap_none tenant [] (cap ∷ caps) within = refl
above_cap_none tenant (opening ∷ openings) [] within = refl
above_cap_none tenant (opening ∷ openings) (cap ∷ caps) within =
    let first : opening ≤ cap = within 0 (omega arith) in
    let fits : nat_lt cap opening ≡ false = grind (arith, nat_tests, first) in
    ap (λ b. if b then Some (AboveCap tenant opening cap) else above_cap_from (suc tenant) openings caps) fits ∙ above_cap_none (suc tenant) openings caps (λ k inside. within (suc k) (omega arith))

-- the workers of sound rows are there, and their tenants
pub workers_there : (workers tenants : ℕ) (rows : List Row) → All (IsSoundRow workers tenants) rows → All (λ (row : Row). row.worker < workers) rows
workers_there workers tenants rows sound = λ k d within. (sound k d within).worker

pub tenants_there : (workers tenants : ℕ) (rows : List Row) → All (IsSoundRow workers tenants) rows → All (λ (row : Row). row.tenant < tenants) rows
tenants_there workers tenants rows sound = λ k d within. (sound k d within).tenant

pub no_fault : (workers : ℕ) (caps openings : List ℕ) (rows : List Row) (plans : List (List ℕ)) → IsSoundSegment workers caps openings rows → ArePlanned rows (length caps) workers plans → pool_fault openings caps plans ≡ None
no_fault workers caps openings rows plans sound planned =
    let all = workers_there workers (length caps) rows sound.sound in
    let none = too_much_none 0 openings plans (λ k within.
    let there : k < length caps = omega (arith, within, sound.one_each) in
    omega (arith, sound.below k there, plan_sum rows (length caps) workers plans k all planned there)) in
    let fit = above_cap_none 0 openings caps (λ k within. sound.within k (omega (arith, within, sound.one_each))) in
    ap (λ fault. first_of_two fault (above_cap_from 0 openings caps)) none ∙ fit
