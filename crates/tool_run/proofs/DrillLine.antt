-- The line of a drill, in which no take meets less than its amount.
use Rattle.std.proofs.Common.{◌≡◌, ℕ, zero, suc, ◌+◌, ◌-◌, ◌≤◌, ◌<◌, List, [], ◌∷◌, Some, length, map, take, drop, slice_get, refl, sym, ap, ◌∙◌, subst, arith}
use Rattle.std.specs.Prelude.{All, codes, sum_by, ◌==◌, if◌then◌else◌, ◌^◌}
use Rattle.std.specs.List.{zip}
use Rattle.std.proofs.lemmas.Option.{get_or_from_slice_get, slice_get_within}
use Rattle.std.proofs.lemmas.List.{length-drop, take_all}
use Rattle.std.proofs.lemmas.List.Elements.{All-head, All-tail, All-weaker}
use Rattle.std.proofs.lemmas.List.FromFn.{length-map-range_with_len}
use Rattle.std.proofs.lemmas.List.Sums.{sum_by-cons}
use Rattle.fn_core.specs.Calls.{CoreLog, calls_in}
use Rattle.fn_core.specs.declared.Start.{Start}
use Rattle.fn_model.specs.Integer.{moved_amount}
use Rattle.quota_pool.specs.declared.moved.Moved.{Moved}
use Rattle.trace_text.specs.Drill.{drill, drill_row, drill_rows, taken, total_taken}
use Rattle.trace_text.specs.SoundTrace.{IsSoundRow, amounts}
use Rattle.trace_text.specs.Trace.{Content, added}
use Rattle.trace_text.specs.declared.traces.Op.{Op}
use Rattle.trace_text.specs.declared.traces.Op.TheVariants.{Add, Take, Direct, Read}
use Rattle.trace_text.specs.declared.traces.Row.{Row}
use Rattle.trace_text.specs.declared.traces.Tenant.{Tenant}
use Rattle.trace_text.proofs.DrillSums.{drill-sound}
use Rattle.replay_report.specs.Report.{moved_by, summary_line, summary_text}
use Rattle.replay_report.proofs.Segments.{summary-is}
use Rattle.replay_run.specs.Replay.{IsReplay, IsSegment, value_in}
use Rattle.replay_run.specs.Segments.{call_after, kind_of}
use Rattle.tool_run.specs.Handed.{HandedBack}
use Rattle.tool_run.specs.Accounts.{IsSummary}
use Rattle.tool_run.specs.Outcome.{drill_line, total_added}
use Rattle.replay_run.proofs.Outside.{adds}
use Rattle.tool_run.proofs.NeverShort.{by_call, by_row, reply-whole, sum_by-rows, takes, value-whole}

-- what an op does with its amount, by its kind
takes-taken : (op : Op) (amount : ℕ) → takes (kind_of op) amount ≡ taken op amount
takes-taken Add amount = refl
takes-taken Take amount = refl
takes-taken Direct amount = refl
takes-taken Read amount = refl

adds-added : (op : Op) (amount : ℕ) → adds (kind_of op) amount ≡ added op amount
adds-added Add amount = refl
adds-added Take amount = refl
adds-added Direct amount = refl
adds-added Read amount = refl

-- .. where it moves its whole amount
added-whole : (op : Op) (moved amount : ℕ) → moved ≡ takes (kind_of op) amount + adds (kind_of op) amount → added op moved ≡ added op amount
added-whole Add moved amount is = omega arith
added-whole Take moved amount is = refl
added-whole Direct moved amount is = omega arith
added-whole Read moved amount is = refl

taken-whole : (op : Op) (moved amount : ℕ) → moved ≡ takes (kind_of op) amount + adds (kind_of op) amount → taken op moved ≡ taken op amount
taken-whole Add moved amount is = refl
taken-whole Take moved amount is = omega arith
taken-whole Direct moved amount is = refl
taken-whole Read moved amount is = refl

added-le : (op : Op) (amount : ℕ) → added op amount ≤ amount
added-le Add amount = omega arith
added-le Take amount = omega arith
added-le Direct amount = omega arith
added-le Read amount = omega arith

-- sums of sizes that are the same
sum_by-same : {X : Type 0} (f g : X → ℕ) (xs : List X) → ((x : X) → f x ≡ g x) → sum_by f xs ≡ sum_by g xs
sum_by-same f g [] same = refl
sum_by-same f g (x ∷ xs) same = omega (arith, sum_by-cons f x xs, sum_by-cons g x xs, same x, sum_by-same f g xs same)

-- rows of the one tenant that move their whole amounts
moved_by-whole : (by : Op → ℕ → ℕ) (rows : List Row) (answers : List Moved) → length answers ≡ length rows
    → ((k : ℕ) (row : Row) (answer : Moved) → slice_get rows k ≡ Some row → slice_get answers k ≡ Some answer → (row.tenant ≡ 0) × (by row.op answer.moved ≡ by row.op row.amount))
    → moved_by by 0 (zip rows answers) ≡ sum_by (λ row. by row.op row.amount) rows
moved_by-whole by [] answers same each = refl
moved_by-whole by (row ∷ rows) [] same each = absurd (omega arith)
moved_by-whole by (row ∷ rows) (answer ∷ answers) same each =
    let here = each zero row answer refl refl in
    let rest = moved_by-whole by rows answers (omega arith) (λ k r a at_row at_answer. each (suc k) r a at_row at_answer) in
    let size = λ (p : Row × Moved). if p.0.tenant == 0 then by p.0.op p.1.moved else 0 in
    let one : size (row, answer) ≡ by row.op row.amount = ap (λ n. if n == 0 then by row.op answer.moved else 0) here.0 ∙ here.1 in
    omega (arith, sum_by-cons size (row, answer) (zip rows answers), sum_by-cons (λ (r : Row). by r.op r.amount) row rows)

-- a trace of one tenant and one segment
abbrev alone : Tenant → List Row → Content
alone tenant rows = record { tenants = tenant ∷ []; rows = rows; cuts = [] }

-- its summary, where the opening is enough for all takes, and the cap for all additions
summary-whole : (workers : ℕ) (tenant : Tenant) (rows : List Row) (answers : List Moved) (books : List CoreLog) → All (IsSoundRow workers 1) rows → total_taken rows ≤ tenant.opening
    → tenant.opening + total_added rows ≤ tenant.cap → IsReplay workers (alone tenant rows) answers books
    → summary_text (alone tenant rows) workers answers (map value_in books)
    ≡ summary_line (length rows) workers tenant.opening (total_added rows) (total_taken rows) (tenant.opening + total_added rows - total_taken rows)
summary-whole workers tenant rows answers [] sound enough room replay = let none = replay.0.all in absurd (omega arith)
summary-whole workers tenant rows answers (book ∷ other ∷ books) sound enough room replay = absurd (cc replay.1.1)
summary-whole workers tenant rows answers (book ∷ []) sound enough room replay =
    let segment = replay.0 in
    let closed = segment.closed 0 tenant book refl refl in
    let tenants = All-weaker (IsSoundRow workers 1) (λ row. row.tenant ≡ 0) (λ row good. (let less = good.tenant in omega arith)) rows sound in
    let within = All-weaker (IsSoundRow workers 1) (λ row. row.worker < workers) (λ row good. good.worker) rows sound in
    let all_taken : sum_by (by_call takes) (calls_in book) ≡ total_taken rows =
    sum_by-rows takes workers rows (calls_in book) within tenants closed.calls ∙ sum_by-same (by_row takes) (λ row. taken row.op row.amount) rows (λ row. takes-taken row.op row.amount) in
    let all_added : sum_by (by_call adds) (calls_in book) ≡ total_added rows =
    sum_by-rows adds workers rows (calls_in book) within tenants closed.calls ∙ sum_by-same (by_row adds) (λ row. added row.op row.amount) rows (λ row. adds-added row.op row.amount) in
    let opening = closed.has_opening in
    let cap = closed.has_cap in
    let left = value-whole book.start.cap book.start.opening (calls_in book) (omega arith) (omega arith) in
    let final : value_in book ≡ tenant.opening + total_added rows - total_taken rows = omega arith in
    let few = segment.one_each in
    let rest = replay.1.0 in
    let whole = all-answers (length rows) answers few rest in
    let count : length answers ≡ length rows = ap length (sym whole) ∙ few in
    let moved = λ (k : ℕ) (row : Row) (answer : Moved) (at_row : slice_get rows k ≡ Some row) (at_answer : slice_get answers k ≡ Some answer).
    row-whole workers tenant rows (take (length rows) answers) book sound segment (omega arith) (omega arith) k row answer at_row (ap (λ (found : List Moved). slice_get found k) whole ∙ at_answer) in
    let added_is = moved_by-whole added rows answers count (λ k row answer at_row at_answer. ((moved k row answer at_row at_answer).0, added-whole row.op answer.moved row.amount (moved k row answer at_row at_answer).1)) in
    let taken_is = moved_by-whole taken rows answers count (λ k row answer at_row at_answer. ((moved k row answer at_row at_answer).0, taken-whole row.op answer.moved row.amount (moved k row answer at_row at_answer).1)) in
    rw (summary-is workers 0 rows answers (tenant ∷ []) (value_in book ∷ []) tenant count refl refl, added_is, taken_is, final) refl
  where
    all-answers : (n : ℕ) (answers : List Moved) → length (take n answers) ≡ n → drop n answers ≡ [] → take n answers ≡ answers
    all-answers n answers few none = take_all n answers (let left = length-drop n answers in let empty = ap length none in omega arith)

    row-whole : (workers : ℕ) (tenant : Tenant) (rows : List Row) (answers : List Moved) (book : CoreLog) → All (IsSoundRow workers 1) rows
        → IsSegment workers (tenant ∷ []) (tenant.opening ∷ []) rows answers (book ∷ [])
        → sum_by (by_call takes) (calls_in book) ≤ book.start.opening → book.start.opening + sum_by (by_call adds) (calls_in book) ≤ book.start.cap
        → (k : ℕ) (row : Row) (answer : Moved) → slice_get rows k ≡ Some row → slice_get answers k ≡ Some answer
        → (row.tenant ≡ 0) × (answer.moved ≡ takes (kind_of row.op) row.amount + adds (kind_of row.op) row.amount)
    row-whole workers tenant rows answers book sound segment enough room k row answer at_row at_answer =
        let good : IsSoundRow workers 1 row = (let P : Row → Type 0 = IsSoundRow workers 1 in subst P (get_or_from_slice_get rows k row row at_row) (sound k row (slice_get_within rows k row at_row))) in
        let first : row.tenant ≡ 0 = (let less = good.tenant in omega arith) in
        let told = segment.answered k row answer book at_row at_answer (ap (slice_get (book ∷ [])) first) in
        let start : told.pass.seen.start ≡ book.start = sym told.called.later.start ∙ told.start in
        let moves = reply-whole book.start (calls_in book) (call_after (take k rows) row) answer.before enough room told.met in
        (first, told.called.moved ∙ ap (λ (s : Start). moved_amount s.cap answer.before (kind_of row.op) row.amount) start ∙ moves)

-- what the one tenant's rows can add is at most all their amounts
added-amounts : (workers : ℕ) (rows : List Row) → All (IsSoundRow workers 1) rows → total_added rows ≤ amounts 0 rows
added-amounts workers [] sound = omega arith
added-amounts workers (row ∷ rows) sound =
    let good = All-head (IsSoundRow workers 1) row rows sound in
    let rest = added-amounts workers rows (All-tail (IsSoundRow workers 1) row rows sound) in
    let size = λ (r : Row). if r.tenant == 0 then r.amount else 0 in
    let first : row.tenant ≡ 0 = (let less = good.tenant in omega arith) in
    let one : size row ≡ row.amount = ap (λ n. if n == 0 then row.amount else 0) first in
    let le = added-le row.op row.amount in
    omega (arith, sum_by-cons size row rows, sum_by-cons (λ (r : Row). added r.op r.amount) row rows)

-- the line of a drill is that of its numbers
pub drill-line : (seed rows workers : ℕ) (text : List ℕ) (handed : HandedBack) → rows ≤ 1000000 → 1 ≤ workers
    → IsSummary workers (drill seed rows workers) text handed → text ≡ drill_line seed rows workers
drill-line seed rows workers text handed few some_worker summary =
    let all = drill_rows seed rows workers in
    let sound = drill-sound seed rows workers few some_worker in
    let tenant : Tenant = record { name = codes "drill"; opening = total_taken all; cap = 9223372036854775807 } in
    let below : total_taken all + amounts 0 all < 2 ^ 63 = sound.below 0 tenant (omega arith) in
    let added_few : total_added all ≤ amounts 0 all = added-amounts workers all sound.rows in
    let same = summary-whole workers tenant all handed.answers handed.books sound.rows (omega arith) (omega arith) summary.0 in
    let count = length-map-range_with_len (drill_row seed workers) 0 rows in
    let left : total_taken all + total_added all - total_taken all ≡ total_added all = omega arith in
    summary.2 ∙ same ∙ rw (count, left) refl
