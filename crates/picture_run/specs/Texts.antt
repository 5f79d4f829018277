-- The text of a picture, from a trace with its answers.
--     IsReportOf bytes trace answers finals      bytes are the report of a trace by these answers and values
--     lines_text trace answers finals      the line of each tenant
--     drawing_text workers trace answers finals (tenant, name)      the drawing of one
--     Shows picture trace answers finals text      the text of a picture
use Rattle.std.specs.Prelude.{◌≡◌, ℕ, List, Option, Some}
use Rattle.std.specs.List.{enumerate_from, flat_map, position}
use Rattle.std.specs.Str.{bytes_eq}
use Rattle.picture_line.specs.Line.{line}
use Rattle.picture_report.specs.Told.{heading_at, marks_at}
use Rattle.picture_svg.specs.Svg.{svg}
use Rattle.quota_pool.specs.declared.moved.Moved.{Moved}
use Rattle.replay_report.specs.Report.{HasAnswers, answered, report_text}
use Rattle.trace_text.specs.Trace.{Content}
use Rattle.trace_text.specs.declared.traces.Tenant.{Tenant}
use Rattle.picture_run.specs.declared.words.Picture.{Picture}
use Rattle.picture_run.specs.declared.words.Picture.TheVariants.{Lines, Drawing}

-- bytes are the report of a trace by these answers and values
abbrev pub IsReportOf : List ℕ → Content → List Moved → List ℕ → Type 0
IsReportOf bytes trace answers finals = HasAnswers trace answers finals × (bytes ≡ report_text trace answers finals)

-- the line of the tenant with a number
abbrev pub tenant_line : Content → List Moved → List ℕ → ℕ × Tenant → List ℕ
tenant_line trace answers finals (number, tenant) = line tenant.name (heading_at trace answers finals number) (marks_at number (answered trace answers))

-- the line of each tenant, in the order of the trace
abbrev pub lines_text : Content → List Moved → List ℕ → List ℕ
lines_text trace answers finals = flat_map (tenant_line trace answers finals) (enumerate_from 0 trace.tenants)

-- the number of the tenant with a name
abbrev pub number_of : List ℕ → List Tenant → Option ℕ
number_of name tenants = position (λ tenant. bytes_eq tenant.name name) tenants

-- the drawing of the tenant with a name and a number
abbrev pub drawing_text : ℕ → List ℕ → Content → List Moved → List ℕ → ℕ → List ℕ
drawing_text workers name trace answers finals number = svg name (heading_at trace answers finals number) workers (marks_at number (answered trace answers))

-- the text of a picture: all lines, or the drawing of the tenant that is asked for
abbrev pub Shows : Picture → Content → List Moved → List ℕ → List ℕ → Type 0
Shows (Lines workers) trace answers finals text = text ≡ lines_text trace answers finals
Shows (Drawing workers name) trace answers finals text =
    (number : ℕ) × (number_of name trace.tenants ≡ Some number) × (text ≡ drawing_text workers name trace answers finals number)
