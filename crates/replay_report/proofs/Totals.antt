-- The sums of each tenant, row by row.
use Rattle.std.proofs.Common.{◌≡◌, ℕ, ◌+◌, ◌<◌, ◌≤◌, ◌==◌, true, false, List, length, get_or, set, take, refl, sym, ap, ◌∙◌, arith, ◌*◌, ◌^◌, inl, inr, get_or-set_other, get_or-set_same, if◌then◌else◌}
use Rattle.std.proofs.lemmas.Bool.{cases_eq}
use Rattle.std.proofs.lemmas.Bool.Decides.{nat_tests}
use Rattle.std.proofs.lemmas.List.Sums.{sum_by_more}
use Rattle.std.proofs.lemmas.Slice.Zip.{get_or-zip}
use Rattle.std.specs.List.{zip}
use Rattle.quota_pool.specs.declared.moved.Moved.{Moved}
use Rattle.trace_text.specs.declared.traces.Op.{Op}
use Rattle.trace_text.specs.declared.traces.Row.{Row}
use Rattle.replay_report.specs.Report.{moved_by}
use Rattle.replay_report.specs.declared.sums.Sums.{Sums}
use Rattle.replay_report.proofs.Lines.{length-zip}

-- one more row
moved_by-more : (by : Op → ℕ → ℕ) (tenant : ℕ) (rows : List Row) (answers : List Moved) (i : ℕ) (row : Row) (answer : Moved) → i < length rows → length answers ≡ length rows
    → moved_by by tenant (take (i + 1) (zip rows answers))
    ≡ moved_by by tenant (take i (zip rows answers)) + (if (get_or rows i row).tenant == tenant then by (get_or rows i row).op (get_or answers i answer).moved else 0)
moved_by-more by tenant rows answers i row answer within same =
    let f = λ (p : Row × Moved). if p.0.tenant == tenant then by p.0.op p.1.moved else 0 in
    let count = length-zip rows answers (omega arith) in
    let more = sum_by_more f (zip rows answers) i (row, answer) (omega arith) in
    let here = get_or-zip rows answers i (row, answer) within (omega arith) in
    more ∙ ap (λ p. moved_by by tenant (take i (zip rows answers)) + f p) here

-- the sums with one more row, where one of the sums has changed
pub sums-more : (part : Sums → ℕ) (by : Op → ℕ → ℕ) (rows : List Row) (answers : List Moved) (i : ℕ) (row : Row) (answer : Moved) (sums : List Sums) (none new : Sums) (count : ℕ)
    → i < length rows → length answers ≡ length rows → length sums ≡ count → (get_or rows i row).tenant < count
    → part new ≡ part (get_or sums (get_or rows i row).tenant none) + by (get_or rows i row).op (get_or answers i answer).moved
    → ((tenant : ℕ) (d : Sums) → tenant < count → part (get_or sums tenant d) ≡ moved_by by tenant (take i (zip rows answers)))
    → (tenant : ℕ) (d : Sums) → tenant < count → part (get_or (set sums (get_or rows i row).tenant new) tenant d) ≡ moved_by by tenant (take (i + 1) (zip rows answers))
sums-more part by rows answers i row answer sums none new count within same counted known_tenant changed known tenant d less =
    let at = (get_or rows i row).tenant in
    let more = moved_by-more by tenant rows answers i row answer within same in
    let added = by (get_or rows i row).op (get_or answers i answer).moved in
    elim (cases_eq tenant at) [
      | inl here ↦
          let inside : at < length sums = omega arith in
          let test : (at == tenant) ≡ true = grind (arith, nat_tests) in
          let now : get_or (set sums at new) tenant d ≡ new = rw here (get_or-set_same sums at new d inside) in
          let before : part (get_or sums at none) ≡ moved_by by tenant (take i (zip rows answers)) = rw (sym here) (known tenant none less) in
          let one : (if at == tenant then added else 0) ≡ added = rw test refl in
          ap part now ∙ changed ∙ ap (λ n. n + added) before ∙ sym (more ∙ ap (λ n. moved_by by tenant (take i (zip rows answers)) + n) one)
      | inr other ↦
          let test : (at == tenant) ≡ false = grind (arith, nat_tests) in
          let now : get_or (set sums at new) tenant d ≡ get_or sums tenant d = rw get_or-set_other refl in
          let one : (if at == tenant then added else 0) ≡ 0 = rw test refl in
          let last : moved_by by tenant (take i (zip rows answers)) ≡ moved_by by tenant (take i (zip rows answers)) + 0 = omega arith in
          ap part now ∙ known tenant d less ∙ last ∙ sym (more ∙ ap (λ n. moved_by by tenant (take i (zip rows answers)) + n) one)
    ]

-- sums of so many rows are small, and so they are with one more
pub sums-small : (part : Sums → ℕ) (sums : List Sums) (at i moved count : ℕ) (none new : Sums) → length sums ≡ count → at < count → moved < 2 ^ 64 → part new ≤ part (get_or sums at none) + moved
    → ((tenant : ℕ) (d : Sums) → tenant < count → part (get_or sums tenant d) ≤ i * 2 ^ 64)
    → (tenant : ℕ) (d : Sums) → tenant < count → part (get_or (set sums at new) tenant d) ≤ (i + 1) * 2 ^ 64
sums-small part sums at i moved count none new counted inside fits grown known tenant d less =
    elim (cases_eq tenant at) [
      | inl here ↦
          let within : at < length sums = omega arith in
          let now : get_or (set sums at new) tenant d ≡ new = rw here (get_or-set_same sums at new d within) in
          let before = known at none inside in
          rw now (omega arith)
      | inr other ↦
          let now : get_or (set sums at new) tenant d ≡ get_or sums tenant d = rw get_or-set_other refl in
          let before = known tenant d less in
          rw now (omega arith)
    ]
