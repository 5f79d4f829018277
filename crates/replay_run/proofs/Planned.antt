-- One more row that is planned for.
use Rattle.std.proofs.Common.{◌≡◌, ◌+◌, ◌<◌, ◌^◌, ℕ, List, [], length, take, set, replicate, get_or, sym, ap, ◌∙◌, subst, arith, inl, inr, ne_eqb, if◌then◌else◌, get_or-set_same, get_or-set_other}
use Rattle.std.proofs.lemmas.Bool.{cases_eq}
use Rattle.std.proofs.lemmas.List.{length-set, length-replicate, get_or-replicate}
use Rattle.std.proofs.lemmas.List.Elements.{All-set, All-replicate}
use Rattle.std.proofs.lemmas.List.Sums.{sum_by_push, sum_by-take-le}
use Rattle.trace_text.specs.SoundTrace.{amounts}
use Rattle.trace_text.specs.declared.traces.Row.{Row}
use Rattle.replay_run.specs.Ready.{ArePlanned}
use Rattle.replay_run.specs.Work.{no_row, of_worker}
use Rattle.replay_run.proofs.Rows.{own_more, other_more, own_amounts}
use Rattle.replay_run.proofs.Runs.{asks, asks_own}

-- plans that allow nothing, before the first row
pub planned_none : (tenants workers : ℕ) → ArePlanned [] tenants workers (replicate tenants (replicate workers 0))
planned_none tenants workers = record {
  one_each = length-replicate tenants (replicate workers 0);
  sizes = All-replicate (λ (plan : List ℕ). length plan ≡ workers) tenants (replicate workers 0) (length-replicate workers 0);
  sums = λ tenant below worker here. ap (λ (plan : List ℕ). get_or plan worker 0) (get_or-replicate tenants tenant (replicate workers 0) [] below) ∙ get_or-replicate workers worker 0 0 here;
}

module _ (rows : List Row) (i : ℕ) (within : i < length rows) where
  abbrev row : Row
  row = get_or rows i no_row

  own_sum : (tenant : ℕ) → amounts tenant (of_worker row.worker (take (i + 1) rows)) ≡ amounts tenant (of_worker row.worker (take i rows)) + asks tenant row
  own_sum tenant = ap (amounts tenant) (own_more rows i within) ∙ sum_by_push (asks tenant) (of_worker row.worker (take i rows)) row

  -- the row's tenant and worker have so much more
  sum_more : amounts row.tenant (of_worker row.worker (take (i + 1) rows)) ≡ amounts row.tenant (of_worker row.worker (take i rows)) + row.amount
  sum_more = own_sum row.tenant ∙ ap (λ (n : ℕ). amounts row.tenant (of_worker row.worker (take i rows)) + n) (asks_own row)

  -- and that is not too much
  pub sum_fits : amounts row.tenant rows < 2 ^ 63 → amounts row.tenant (of_worker row.worker (take i rows)) + row.amount < 2 ^ 64
  sum_fits below = omega (arith, below, sum_more, own_amounts row.tenant row.worker (take (i + 1) rows), sum_by-take-le (asks row.tenant) rows (i + 1))

  pub planned_more : (plans : List (List ℕ)) (tenants workers : ℕ) (plan : List ℕ) → ArePlanned (take i rows) tenants workers plans → row.tenant < tenants → row.worker < workers
      → plan ≡ set (get_or plans row.tenant []) row.worker (get_or (get_or plans row.tenant []) row.worker 0 + row.amount) → ArePlanned (take (i + 1) rows) tenants workers (set plans row.tenant plan)
  planned_more plans tenants workers plan planned there here is =
      let was : List ℕ = get_or plans row.tenant [] in
      let inside : row.tenant < length plans = omega (arith, there, planned.one_each) in
      let size : length was ≡ workers = planned.sizes row.tenant [] inside in
      record {
        one_each = length-set plans row.tenant plan ∙ planned.one_each;
        sizes = All-set (λ (p : List ℕ). length p ≡ workers) plans row.tenant plan (ap length is ∙ length-set was row.worker (get_or was row.worker 0 + row.amount) ∙ size) planned.sizes;
        sums = λ tenant below worker under.
            elim (cases_eq tenant row.tenant) [
              | inl same ↦
                  let at : get_or (set plans row.tenant plan) row.tenant [] ≡ set was row.worker (get_or was row.worker 0 + row.amount) = get_or-set_same plans row.tenant plan [] inside ∙ is in
                  subst (λ (t : ℕ). get_or (get_or (set plans row.tenant plan) t []) worker 0 ≡ amounts t (of_worker worker (take (i + 1) rows))) (sym same) (
                  elim (cases_eq worker row.worker) [
                    | inl mine ↦
                        subst (λ (w : ℕ). get_or (get_or (set plans row.tenant plan) row.tenant []) w 0 ≡ amounts row.tenant (of_worker w (take (i + 1) rows))) (sym mine)
                        (ap (λ (p : List ℕ). get_or p row.worker 0) at ∙ get_or-set_same was row.worker (get_or was row.worker 0 + row.amount) 0 (omega (arith, here, size))
                        ∙ ap (λ (n : ℕ). n + row.amount) (planned.sums row.tenant there row.worker here) ∙ sym sum_more)
                    | inr another ↦
                        ap (λ (p : List ℕ). get_or p worker 0) at ∙ get_or-set_other was row.worker worker (get_or was row.worker 0 + row.amount) 0 another ∙ planned.sums row.tenant there worker under
                        ∙ sym (ap (amounts row.tenant) (other_more rows i within worker (λ e. another (sym e))))
                  ])
              | inr other ↦
                  let still : get_or (get_or (set plans row.tenant plan) tenant []) worker 0 ≡ amounts tenant (of_worker worker (take i rows)) =
                  ap (λ (p : List ℕ). get_or p worker 0) (get_or-set_other plans row.tenant tenant plan [] other) ∙ planned.sums tenant below worker under in
                  elim (cases_eq worker row.worker) [
                    | inl mine ↦
                        let none : asks tenant row ≡ 0 = ap (λ b. if b then row.amount else 0) (ne_eqb row.tenant tenant (λ e. other (sym e))) in
                        let same : amounts tenant (of_worker worker (take (i + 1) rows)) ≡ amounts tenant (of_worker worker (take i rows)) =
                        subst (λ (w : ℕ). amounts tenant (of_worker w (take (i + 1) rows)) ≡ amounts tenant (of_worker w (take i rows))) (sym mine) (omega (arith, own_sum tenant, none)) in
                        still ∙ sym same
                    | inr another ↦ still ∙ sym (ap (amounts tenant) (other_more rows i within worker (λ e. another (sym e))))
                  ]
            ];
      }
