-- A desk makes the calls of its worker's jobs.
use Rattle.std.proofs.Common.{◌≡◌, ◌≢◌, ◌<◌, ◌≤◌, ◌==◌, ℕ, zero, suc, List, [], ◌∷◌, ◌++◌, length, set, slice_get, refl, sym, ap, ◌∙◌, subst, arith, inl, inr, eq-eqb, if◌then◌else◌}
use Rattle.std.proofs.lemmas.Bool.{cases_eq}
use Rattle.std.proofs.lemmas.List.Sums.{sum_by-cons}
use Rattle.std.proofs.lemmas.List.Elements.{All-head, All-tail}
use Rattle.quota_pool.specs.Views.{PoolView, DeskView, left_at, left_in}
use Rattle.quota_pool.specs.Claims.{MadeAt}
use Rattle.quota_pool.proofs.Laws.{left_after}
use Rattle.quota_pool.specs.declared.moved.Moved.{Moved}
use Rattle.trace_text.specs.SoundTrace.{IsSoundRow, amounts}
use Rattle.trace_text.specs.declared.traces.Row.{Row}
use Rattle.replay_run.specs.Segments.{kind_of}
use Rattle.replay_run.specs.Work.{Job, MayRun, Called, Ran}

-- one call more
pub ran_more : (pool : PoolView) (old : DeskView) (jobs : List Job) (mid : DeskView) (job : Job) (new : DeskView) → Ran pool old jobs mid → Called pool mid job new → Ran pool old (jobs ++ job ∷ []) new
ran_more pool old [] mid job new is called = (new, subst (λ (d : DeskView). Called pool d job new) is called, refl)
ran_more pool old (first ∷ jobs) mid job new (next, made, rest) called = (next, made, ran_more pool next jobs mid job new rest called)

-- every other place of a changed list stays
pub other_place : {A : Type 0} (xs : List A) (i j : ℕ) (x : A) → j ≢ i → slice_get (set xs i x) j ≡ slice_get xs j
other_place [] i j x other = refl
other_place (y ∷ ys) zero zero x other = absurd (other refl)
other_place (y ∷ ys) zero (suc j) x other = refl
other_place (y ∷ ys) (suc i) zero x other = refl
other_place (y ∷ ys) (suc i) (suc j) x other = other_place ys i j x (λ e. other (ap suc e))

-- what a row asks for at a tenant
abbrev pub asks : ℕ → Row → ℕ
asks tenant row = if row.tenant == tenant then row.amount else 0

-- .. and at its own tenant it asks for its amount
pub asks_own : (row : Row) → asks row.tenant row ≡ row.amount
asks_own row = ap (λ b. if b then row.amount else 0) (eq-eqb row.tenant row.tenant refl)

-- the first row of those that a desk has enough left for
pub first_left : (pool : PoolView) (desk : DeskView) (row : Row) (rows : List Row) → MayRun pool desk (row ∷ rows) → row.amount ≤ left_at desk row.tenant
first_left pool desk row rows may = omega (arith, may.left row.tenant, sum_by-cons (asks row.tenant) row rows, asks_own row)

pub first_tenant : (pool : PoolView) (desk : DeskView) (row : Row) (rows : List Row) → MayRun pool desk (row ∷ rows) → row.tenant < length desk.passes
first_tenant pool desk row rows may = let sound = All-head (IsSoundRow pool.workers (length pool.tables)) row rows may.sound in omega (arith, sound.tenant, may.together.tenants)

-- .. and after its call the others
pub may_more : (pool : PoolView) (desk : DeskView) (row : Row) (rows : List Row) (answer : Moved) (next : DeskView) → MayRun pool desk (row ∷ rows)
    → MadeAt pool desk row.tenant (kind_of row.op) row.amount answer next → MayRun pool next rows
may_more pool desk row rows answer next may call = record {
  together = call.together;
  sound = All-tail (IsSoundRow pool.workers (length pool.tables)) row rows may.sound;
  left = λ tenant.
      let more = sum_by-cons (asks tenant) row rows in
      elim (cases_eq tenant row.tenant) [
        | inl same ↦
            let spent = left_after pool desk row.tenant (kind_of row.op) row.amount answer next call in
            let all = may.left row.tenant in
            let own = sum_by-cons (asks row.tenant) row rows in
            let enough : amounts row.tenant rows ≤ left_at next row.tenant = omega (arith, spent, all, own, asks_own row) in
            subst (λ t. amounts t rows ≤ left_at next t) (sym same) enough
        | inr other ↦
            let still : left_at next tenant ≡ left_at desk tenant = ap (λ (d : DeskView). left_at d tenant) call.desk ∙ ap left_in (other_place desk.passes row.tenant tenant call.after other) in
            omega (arith, still, may.left tenant, more)
      ];
}
