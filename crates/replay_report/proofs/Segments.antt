-- The segments of a report, one after the other.
use Rattle.std.proofs.Common.{◌≡◌, ℕ, ◌+◌, ◌-◌, ◌*◌, ◌<◌, ◌≤◌, List, [], ◌∷◌, ◌++◌, length, get_or, take, drop, refl, sym, ap, ◌∙◌, arith, add-one, append_assoc, drop-cons}
use Rattle.std.proofs.Math.Nat.{mul-le-mul_left}
use Rattle.std.proofs.lemmas.List.{drop-drop, drop_all, length-drop, take_all}
use Rattle.std.specs.List.{flat_map, zip}
use Rattle.quota_pool.specs.declared.moved.Moved.{Moved}
use Rattle.trace_text.specs.SoundTrace.{CutsRise}
use Rattle.trace_text.specs.declared.traces.Cut.{Cut}
use Rattle.trace_text.specs.declared.traces.Row.{Row}
use Rattle.trace_text.specs.declared.traces.Tenant.{Tenant}
use Rattle.replay_report.specs.Report.{added_to, row_line, segments_text, settled_line, summary_line, summary_of, taken_from, values_from}
use Rattle.replay_report.proofs.Lines.{drop-zip, length-zip, take-zip}

-- where cuts rise to all, the first number is at most all
pub cuts-within : (before all : ℕ) (cuts : List Cut) → CutsRise before all cuts → before ≤ all
cuts-within before all [] rise = rise
cuts-within before all (cut ∷ cuts) rise = let later = cuts-within cut.rows all cuts rise.1 in let first = rise.0 in omega arith

-- .. and so do the cuts after the next one
pub next-cut : (before all segment : ℕ) (cuts : List Cut) (d : Cut) → segment < length cuts → CutsRise before all (drop segment cuts)
    → (before ≤ (get_or cuts segment d).rows) × CutsRise (get_or cuts segment d).rows all (drop (segment + 1) cuts)
next-cut before all segment cuts d within rise =
    let cons : drop segment cuts ≡ get_or cuts segment d ∷ drop (segment + 1) cuts = rw (add-one) (drop-cons cuts segment d within) in
    rw cons at rise

-- each tenant has its value in each segment
pub values-within : (cuts tenants segment finals : ℕ) → segment ≤ cuts → finals ≡ (cuts + 1) * tenants → segment * tenants + tenants ≤ finals
values-within cuts tenants segment finals few same = let le : segment + 1 ≤ cuts + 1 = omega arith in let more = mul-le-mul_left tenants le in omega arith

-- the rows of a segment, each with its answer
segment-rows : (rows : List Row) (answers : List Moved) (before count : ℕ) → zip (take count (drop before rows)) (take count (drop before answers)) ≡ take count (drop before (zip rows answers))
segment-rows rows answers before count = sym (ap (take count) (drop-zip before rows answers) ∙ take-zip count (drop before rows) (drop before answers))

-- what is left from a place on
pub rest-all : {X : Type 0} (n : ℕ) (xs : List X) → take (length xs - n) (drop n xs) ≡ drop n xs
rest-all n xs = take_all (length xs - n) (drop n xs) (let left = length-drop n xs in omega arith)

-- a text that has one more segment
pub segment-more : (tenants : List Tenant) (finals : List ℕ) (rows : List Row) (answers : List Moved) (all segment before : ℕ) (cuts : List Cut) (d : Cut) (text middle longer whole : List ℕ)
    → segment < length cuts → CutsRise before all (drop segment cuts)
    → middle ≡ text ++ flat_map row_line (zip (take ((get_or cuts segment d).rows - before) (drop before rows)) (take ((get_or cuts segment d).rows - before) (drop before answers)))
    → longer ≡ middle ++ flat_map (settled_line (get_or cuts segment d).at) (zip tenants (take (length finals - segment * length tenants) (values_from tenants finals segment)))
    → text ++ segments_text tenants finals segment before (drop before (zip rows answers)) (drop segment cuts) ≡ whole
    → longer ++ segments_text tenants finals (segment + 1) (get_or cuts segment d).rows (drop (get_or cuts segment d).rows (zip rows answers)) (drop (segment + 1) cuts) ≡ whole
segment-more tenants finals rows answers all segment before cuts d text middle longer whole within rise first second known =
    let cut = get_or cuts segment d in
    let lines = zip rows answers in
    let cons : drop segment cuts ≡ cut ∷ drop (segment + 1) cuts = rw (add-one) (drop-cons cuts segment d within) in
    let up = (next-cut before all segment cuts d within rise).0 in
    let same : before + (cut.rows - before) ≡ cut.rows = omega arith in
    let later : drop (cut.rows - before) (drop before lines) ≡ drop cut.rows lines = drop-drop (cut.rows - before) before lines ∙ ap (λ n. drop n lines) same in
    let a = flat_map row_line (take (cut.rows - before) (drop before lines)) in
    let b = flat_map (settled_line cut.at) (zip tenants (values_from tenants finals segment)) in
    let rest = segments_text tenants finals (segment + 1) cut.rows (drop cut.rows lines) (drop (segment + 1) cuts) in
    let begun : middle ≡ text ++ a = first ∙ ap (λ ls. text ++ flat_map row_line ls) (segment-rows rows answers before (cut.rows - before)) in
    let told : text ++ ((a ++ b) ++ rest) ≡ whole = rw (cons, later) at known in
    let regroup : ((text ++ a) ++ b) ++ rest ≡ text ++ ((a ++ b) ++ rest) = simp append_assoc in
    let settled = rest-all (segment * length tenants) finals in
    rw (second, settled, begun) (regroup ∙ told)

-- a text that has all segments
pub segments-end : (tenants : List Tenant) (finals : List ℕ) (rows : List Row) (answers : List Moved) (segment before : ℕ) (cuts : List Cut) (text longer whole : List ℕ)
    → length cuts ≤ segment → length answers ≡ length rows → longer ≡ text ++ flat_map row_line (zip (take (length rows - before) (drop before rows)) (take (length answers - before) (drop before answers)))
    → text ++ segments_text tenants finals segment before (drop before (zip rows answers)) (drop segment cuts) ≡ whole → longer ≡ whole
segments-end tenants finals rows answers segment before cuts text longer whole past same grown known =
    let none = drop_all segment cuts past in
    let told : text ++ flat_map row_line (drop before (zip rows answers)) ≡ whole = rw none at known in
    let left : zip (take (length rows - before) (drop before rows)) (take (length answers - before) (drop before answers)) ≡ drop before (zip rows answers) = rw (rest-all before rows, rest-all before answers) (sym (drop-zip before rows answers)) in
    grown ∙ ap (λ ls. text ++ flat_map row_line ls) left ∙ told

-- the summary of the one tenant
pub summary-is : (workers cuts : ℕ) (rows : List Row) (answers : List Moved) (tenants : List Tenant) (finals : List ℕ) (d : Tenant) → length answers ≡ length rows → length tenants ≡ 1 → length finals ≡ (cuts + 1) * length tenants
    → summary_of workers (zip rows answers) tenants (values_from tenants finals cuts)
    ≡ summary_line (length rows) workers (get_or tenants 0 d).opening (added_to 0 (zip rows answers)) (taken_from 0 (zip rows answers)) (get_or finals cuts 0)
summary-is workers cuts rows answers [] finals d same one each = absurd (omega arith)
summary-is workers cuts rows answers (tenant ∷ []) finals d same one each =
    let within : cuts < length finals = omega arith in
    let alone : cuts * 1 ≡ cuts = omega arith in
    rw (alone, drop-cons finals cuts 0 within, length-zip rows answers (omega arith)) refl
summary-is workers cuts rows answers (tenant ∷ other ∷ tenants) finals d same one each = absurd (omega arith)
