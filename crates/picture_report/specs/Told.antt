-- What a report tells of each tenant of its trace.
--     marks_at tenant lines      the tenant's rows, each with what it met and left
--     RowsAreMarked      the marks of all tenants are as many as the rows
--     heading_at trace answers finals tenant      the numbers of the tenant's last line
--     HeadingsAreTold      these numbers are those that the report ends with
use Rattle.std.specs.Prelude.{◌≡◌, ℕ, ◌+◌, ◌-◌, ◌^◌, ◌<◌, ◌==◌, List, [], ◌++◌, length, map, slice_index, slice_index_or}
use Rattle.std.specs.List.{All, filter, flat_map, range_with_len, sum_by, zip}
use Rattle.picture_marks.specs.declared.marks.Heading.{Heading}
use Rattle.picture_marks.specs.declared.marks.Mark.{Mark}
use Rattle.quota_pool.specs.declared.moved.Moved.{Moved}
use Rattle.replay_report.specs.Report.{HasAnswers, added_to, answered, report_text, segments_text, taken_from, total_text, values_from}
use Rattle.trace_text.specs.Trace.{Content}
use Rattle.trace_text.specs.declared.traces.Op.{Op}
use Rattle.trace_text.specs.declared.traces.Op.TheVariants.{Add, Take, Direct, Read}
use Rattle.trace_text.specs.declared.traces.Row.{Row}
use Rattle.trace_text.specs.declared.traces.Tenant.{Tenant}

-- a call met a number below 2^63, and moved one
pub record IsSmall (answer : Moved) : Type 0 where
  pub before : answer.before < 2 ^ 63
  pub moved : answer.moved < 2 ^ 63

-- what a call leaves of the number that it met
abbrev pub left_by : Op → ℕ → ℕ → ℕ
left_by Add before moved = before + moved
left_by Direct before moved = before + moved
left_by Take before moved = before - moved
left_by Read before moved = before

-- the mark of a row with its answer
abbrev pub mark_of : Row × Moved → Mark
mark_of (row, answer) = record { worker = row.worker; at = row.at; before = answer.before; after = left_by row.op answer.before answer.moved }

-- the marks of a tenant's rows, in the order of the trace
abbrev pub marks_at : ℕ → List (Row × Moved) → List Mark
marks_at tenant lines = map mark_of (filter (λ (row, answer). row.tenant == tenant) lines)

-- the marks of each of so many tenants
abbrev pub all_marks : ℕ → List (Row × Moved) → List (List Mark)
all_marks tenants lines = map (λ tenant. marks_at tenant lines) (range_with_len 0 tenants)

-- the marks of all tenants are as many as the rows
abbrev pub RowsAreMarked : Type 0
RowsAreMarked = (tenants : ℕ) (lines : List (Row × Moved)) → All (λ (row, answer). row.tenant < tenants) lines → sum_by length (all_marks tenants lines) ≡ length lines

-- the opening of a tenant
abbrev pub opening_at : List Tenant → ℕ → ℕ
opening_at tenants tenant = (slice_index_or tenants tenant (record { name = []; opening = 0; cap = 0 })).opening

-- a tenant's opening, what was added and taken, and its value at the end of the last segment
abbrev pub heading_at : Content → List Moved → List ℕ → ℕ → Heading
heading_at trace answers finals tenant =
    record {
      opening = opening_at trace.tenants tenant;
      added = added_to tenant (answered trace answers);
      taken = taken_from tenant (answered trace answers);
      last = slice_index (values_from trace.tenants finals (length trace.cuts)) tenant;
    }

-- the headings of all tenants
abbrev pub all_headings : Content → List Moved → List ℕ → List Heading
all_headings trace answers finals = map (heading_at trace answers finals) (range_with_len 0 (length trace.tenants))

-- the line of a tenant with a heading
abbrev pub heading_line : Tenant × Heading → List ℕ
heading_line (tenant, heading) = total_text (record tenant { opening = heading.opening }) heading.added heading.taken heading.last

-- a report ends with the lines of the headings
abbrev pub HeadingsAreTold : Type 0
HeadingsAreTold = (trace : Content) (answers : List Moved) (finals : List ℕ) → HasAnswers trace answers finals
    → report_text trace answers finals
    ≡ segments_text trace.tenants finals 0 0 (answered trace answers) trace.cuts ++ flat_map heading_line (zip trace.tenants (all_headings trace answers finals))
