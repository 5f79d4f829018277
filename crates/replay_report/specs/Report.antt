-- What is written of a trace's rows once they have been answered.
--     HasAnswers trace answers finals      each row has its answer, and each tenant its value at the end of each segment
--     report_text trace answers finals      a line for each row, for each tenant at each cut, and for each tenant at the end
--     summary_text trace workers answers finals      one line, of the one tenant
use Rattle.std.specs.Prelude.{◌≡◌, ℕ, ◌+◌, ◌-◌, ◌*◌, ◌<◌, ◌==◌, if◌then◌else◌, List, [], ◌∷◌, ◌++◌, length, take, drop, codes, decimal}
use Rattle.std.specs.List.{All, enumerate_from, flat_map, sum_by, zip}
use Rattle.quota_pool.specs.declared.moved.Moved.{Moved}
use Rattle.trace_text.specs.Drill.{taken}
use Rattle.trace_text.specs.SoundTrace.{CutsRise}
use Rattle.trace_text.specs.Trace.{Content, added}
use Rattle.trace_text.specs.declared.traces.Cut.{Cut}
use Rattle.trace_text.specs.declared.traces.Op.{Op}
use Rattle.trace_text.specs.declared.traces.Row.{Row}
use Rattle.trace_text.specs.declared.traces.Tenant.{Tenant}

-- each row has an answer and a tenant, each tenant has a value at the end of each segment, and the cuts rise
pub record HasAnswers (trace : Content) (answers : List Moved) (finals : List ℕ) : Type 0 where
  pub rows : length answers ≡ length trace.rows
  pub tenants : All (λ row. row.tenant < length trace.tenants) trace.rows
  pub segments : length finals ≡ (length trace.cuts + 1) * length trace.tenants
  pub cuts : CutsRise 0 (length trace.rows) trace.cuts

-- the rows, each with its answer
abbrev pub answered : Content → List Moved → List (Row × Moved)
answered trace answers = zip trace.rows answers

-- the values of the tenants at the end of a segment, and of later segments
abbrev pub values_from : List Tenant → List ℕ → ℕ → List ℕ
values_from tenants finals segment = drop (segment * length tenants) finals

-- the line of a row: its record, the integer before its call, and what the call moved
abbrev pub row_line : Row × Moved → List ℕ
row_line (row, answer) = codes "row," ++ decimal row.at ++ codes "," ++ decimal answer.before ++ codes "," ++ decimal answer.moved ++ codes "\n"

-- the line of a tenant's value at a cut
abbrev pub settled_line : ℕ → Tenant × ℕ → List ℕ
settled_line at (tenant, value) = codes "settled," ++ decimal at ++ codes "," ++ tenant.name ++ codes "," ++ decimal value ++ codes "\n"

-- from a segment on, before which so many rows stand: its rows, each tenant's value at the cut after it, and so on
abbrev pub segments_text : List Tenant → List ℕ → ℕ → ℕ → List (Row × Moved) → List Cut → List ℕ
segments_text tenants finals segment before rows [] = flat_map row_line rows
segments_text tenants finals segment before rows (cut ∷ cuts) =
    flat_map row_line (take (cut.rows - before) rows)
    ++ flat_map (settled_line cut.at) (zip tenants (values_from tenants finals segment))
    ++ segments_text tenants finals (segment + 1) cut.rows (drop (cut.rows - before) rows) cuts

-- what a tenant's rows moved together, each by its op
abbrev pub moved_by : (Op → ℕ → ℕ) → ℕ → List (Row × Moved) → ℕ
moved_by by tenant rows = sum_by (λ (row, answer). if row.tenant == tenant then by row.op answer.moved else 0) rows

-- what its additions added together, and what its takes took
abbrev pub added_to : ℕ → List (Row × Moved) → ℕ
added_to = moved_by added

abbrev pub taken_from : ℕ → List (Row × Moved) → ℕ
taken_from = moved_by taken

-- the last line of a tenant: its opening, what was added and taken, and its value at the end
abbrev pub total_text : Tenant → ℕ → ℕ → ℕ → List ℕ
total_text tenant added taken value =
    codes "total," ++ tenant.name ++ codes "," ++ decimal tenant.opening ++ codes "," ++ decimal added ++ codes "," ++ decimal taken ++ codes "," ++ decimal value ++ codes "\n"

-- the last line of a tenant with its number, after these rows
abbrev pub total_line : List (Row × Moved) → (ℕ × Tenant) × ℕ → List ℕ
total_line rows ((number, tenant), value) = total_text tenant (added_to number rows) (taken_from number rows) value

-- all segments, and then a line for each tenant
abbrev pub report_text : Content → List Moved → List ℕ → List ℕ
report_text trace answers finals =
    segments_text trace.tenants finals 0 0 (answered trace answers) trace.cuts
    ++ flat_map (total_line (answered trace answers)) (zip (enumerate_from 0 trace.tenants) (values_from trace.tenants finals (length trace.cuts)))

-- one line: the number of rows, the workers, and a tenant's opening, sums and value at the end
abbrev pub summary_line : ℕ → ℕ → ℕ → ℕ → ℕ → ℕ → List ℕ
summary_line rows workers opening added taken final =
    codes "rows " ++ decimal rows ++ codes " workers " ++ decimal workers ++ codes " opening " ++ decimal opening
    ++ codes " added " ++ decimal added ++ codes " taken " ++ decimal taken ++ codes " final " ++ decimal final ++ codes "\n"

-- the line of the first tenant, after these rows
abbrev pub summary_of : ℕ → List (Row × Moved) → List Tenant → List ℕ → List ℕ
summary_of workers rows (tenant ∷ _) (value ∷ _) = summary_line (length rows) workers tenant.opening (added_to 0 rows) (taken_from 0 rows) value
summary_of workers rows _ _ = []

-- the line of a trace with one tenant
abbrev pub summary_text : Content → ℕ → List Moved → List ℕ → List ℕ
summary_text trace workers answers finals =
    summary_of workers (answered trace answers) trace.tenants (values_from trace.tenants finals (length trace.cuts))
