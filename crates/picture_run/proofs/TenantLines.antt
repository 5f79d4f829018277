-- The lines of tenants, one after the other.
use Rattle.std.proofs.Common.{◌≡◌, ℕ, ◌+◌, ◌<◌, List, [], ◌++◌, length, map, get_or, take, sym, ap, ◌∙◌, arith, zero-add}
use Rattle.std.proofs.lemmas.List.{flat_map_more, get_or-map, length-map, take_more}
use Rattle.std.proofs.lemmas.List.FromFn.{get_or-enumerate_from, get_or-map-range_with_len, length-enumerate_from, length-map-range_with_len}
use Rattle.std.specs.List.{enumerate_from, flat_map}
use Rattle.picture_line.specs.Line.{line}
use Rattle.picture_marks.specs.declared.marks.Heading.{Heading}
use Rattle.picture_marks.specs.declared.marks.Mark.{Mark}
use Rattle.picture_report.specs.Told.{all_marks, heading_at, marks_at}
use Rattle.quota_pool.specs.declared.moved.Moved.{Moved}
use Rattle.replay_report.specs.Report.{answered}
use Rattle.trace_text.specs.Trace.{Content}
use Rattle.trace_text.specs.declared.traces.Row.{Row}
use Rattle.trace_text.specs.declared.traces.Tenant.{Tenant}
use Rattle.picture_run.specs.Texts.{tenant_line}

-- a text with the line of one more tenant
pub lines-more : (trace : Content) (answers : List Moved) (finals : List ℕ) (tenants : List Tenant) (i : ℕ) (tenant : Tenant) (heading : Heading) (marks : List Mark) (text longer : List ℕ)
    → i < length tenants → tenant ≡ get_or tenants i tenant → heading ≡ heading_at trace answers finals i → marks ≡ marks_at i (answered trace answers)
    → text ≡ flat_map (tenant_line trace answers finals) (take i (enumerate_from 0 tenants)) → longer ≡ text ++ line tenant.name heading marks
    → longer ≡ flat_map (tenant_line trace answers finals) (take (i + 1) (enumerate_from 0 tenants))
lines-more trace answers finals tenants i tenant heading marks text longer within is headed marked known grown =
    let f = tenant_line trace answers finals in
    let count = length-enumerate_from 0 tenants in
    let more = take_more (enumerate_from 0 tenants) i (0, tenant) (omega arith) in
    let pair = λ (n : ℕ) (t : Tenant). let p : ℕ × Tenant = (n, t) in p in
    let here = get_or-enumerate_from 0 tenants i (0, tenant) within ∙ ap (λ n. pair n (get_or tenants i tenant)) (zero-add i) ∙ ap (λ t. pair i t) (sym is) in
    let piece : line tenant.name heading marks ≡ f (i, tenant) = ap (λ h. line tenant.name h marks) headed ∙ ap (λ m. line tenant.name (heading_at trace answers finals i) m) marked in
    grown ∙ ap (λ t. t ++ line tenant.name heading marks) known ∙ ap (λ l. flat_map f (take i (enumerate_from 0 tenants)) ++ l) (piece ∙ ap f (sym here))
    ∙ flat_map_more f [] (take i (enumerate_from 0 tenants)) (get_or (enumerate_from 0 tenants) i (0, tenant)) ∙ ap (flat_map f) (sym more)

-- there are as many lists of marks as tenants
pub marks-count : {X : Type 0} (view : X → List Mark) (lists : List X) (tenants : ℕ) (lines : List (Row × Moved)) → map view lists ≡ all_marks tenants lines → length lists ≡ tenants
marks-count view lists tenants lines same = sym (length-map lists view) ∙ ap length same ∙ length-map-range_with_len (λ tenant. marks_at tenant lines) 0 tenants

-- .. and each list is its tenant's
pub marks-here : {X : Type 0} (view : X → List Mark) (lists : List X) (tenants : ℕ) (lines : List (Row × Moved)) (i : ℕ) (list : X) → i < tenants → map view lists ≡ all_marks tenants lines
    → list ≡ get_or lists i list → view list ≡ marks_at i lines
marks-here view lists tenants lines i list less same is =
    let count = marks-count view lists tenants lines same in
    ap view is ∙ sym (get_or-map view lists i list (view list) (omega arith)) ∙ ap (λ (ls : List (List Mark)). get_or ls i (view list)) same
    ∙ get_or-map-range_with_len (λ tenant. marks_at tenant lines) 0 tenants i i (view list) less (zero-add i)
