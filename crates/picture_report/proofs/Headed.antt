-- Headings, number by number and line by line.
use Rattle.std.proofs.Common.{◌≡◌, ℕ, suc, ◌+◌, ◌*◌, ◌<◌, ◌≤◌, List, [], ◌∷◌, ◌++◌, length, get_or, map, refl, sym, ap, ◌∙◌, arith}
use Rattle.std.proofs.lemmas.List.{length-drop}
use Rattle.std.specs.List.{enumerate_from, flat_map, range_with_len, zip}
use Rattle.picture_marks.specs.declared.marks.Heading.{Heading}
use Rattle.quota_pool.specs.declared.moved.Moved.{Moved}
use Rattle.replay_report.specs.Report.{answered, segments_text, total_line, values_from}
use Rattle.replay_report.proofs.Segments.{values-within}
use Rattle.trace_text.specs.declared.traces.Row.{Row}
use Rattle.trace_text.specs.declared.traces.Tenant.{Tenant}
use Rattle.picture_report.specs.Told.{HeadingsAreTold, heading_at, heading_line}

abbrev pub headed : ℕ → ℕ → ℕ → ℕ → Heading
headed opening added taken last = record { opening = opening; added = added; taken = taken; last = last }

pub headed-same : (o p a b t u l m : ℕ) → o ≡ p → a ≡ b → t ≡ u → l ≡ m → headed o a t l ≡ headed p b u m
headed-same o p a b t u l m opening added taken last = cc

-- what is read where there is no tenant
abbrev pub no_tenant : Tenant
no_tenant = record { name = []; opening = 0; cap = 0 }

-- the lines of tenants from a number on, where each is that of its heading
lines-told : (lines : List (Row × Moved)) (each : ℕ → Heading) (tenants : List Tenant) (values : List ℕ) (number : ℕ) → length tenants ≤ length values
    → ((k n : ℕ) → n ≡ number + k → k < length tenants → heading_line (get_or tenants k no_tenant, each n) ≡ total_line lines ((n, get_or tenants k no_tenant), get_or values k 0))
    → flat_map (total_line lines) (zip (enumerate_from number tenants) values) ≡ flat_map heading_line (zip tenants (map each (range_with_len number (length tenants))))
lines-told lines each [] values number enough same = refl
lines-told lines each (tenant ∷ tenants) [] number enough same = absurd (omega arith)
lines-told lines each (tenant ∷ tenants) (value ∷ values) number enough same =
    let first : heading_line (tenant, each number) ≡ total_line lines ((number, tenant), value) = same 0 number (omega arith) (omega arith) in
    let rest : flat_map (total_line lines) (zip (enumerate_from (number + 1) tenants) values) ≡ flat_map heading_line (zip tenants (map each (range_with_len (number + 1) (length tenants)))) =
    lines-told lines each tenants values (number + 1) (omega arith) (λ k n is less. same (suc k) n (omega arith) (omega arith)) in
    ap (λ line. line ++ flat_map (total_line lines) (zip (enumerate_from (number + 1) tenants) values)) (sym first) ∙ ap (λ text. heading_line (tenant, each number) ++ text) rest

pub headings-told : HeadingsAreTold
headings-told trace answers finals has =
    let lines = answered trace answers in
    let each = heading_at trace answers finals in
    let values = values_from trace.tenants finals (length trace.cuts) in
    let within = values-within (length trace.cuts) (length trace.tenants) (length trace.cuts) (length finals) (omega arith) has.segments in
    let left = length-drop (length trace.cuts * length trace.tenants) finals in
    let told = lines-told lines each trace.tenants values 0 (omega arith) (λ k n is less. let same : n ≡ k = omega arith in rw same refl) in
    ap (λ text. segments_text trace.tenants finals 0 0 lines trace.cuts ++ text) told
