-- One segment more, and what is left.
use Rattle.std.proofs.Common.{◌≡◌, ◌+◌, ◌-◌, ◌*◌, ◌^◌, ◌<◌, ◌≤◌, ◌==◌, ◌&&◌, ℕ, suc, min, Bool, true, false, cond, List, [], ◌∷◌, ◌++◌, length, take, drop, map, get_or, Option, refl, sym, ap, ◌∙◌, subst, arith, All, append_assoc, append-nil, if◌then◌else◌}
use Rattle.std.proofs.lemmas.List.{take_at, drop_at, get_or-map, length-map, length-append, length-take, length-drop, drop-drop, drop_more, drop_all, take_rest}
use Rattle.std.proofs.Math.Nat.{mul-le-mul_right}
use Rattle.std.proofs.lemmas.List.Elements.{All-take, All-drop}
use Rattle.std.proofs.lemmas.List.Sums.{sum_by-cons}
use Rattle.std.proofs.lemmas.Option.{slice_get-get_or, slice_get-map, get_or_from_slice_get}
use Rattle.std.specs.Option.{option_map}
use Rattle.quota_pool.proofs.Laws.{found_at}
use Rattle.std.specs.List.{sum_by}
use Rattle.fn_model.specs.declared.Call.{Call}
use Rattle.fn_model.specs.Calls.{own}
use Rattle.fn_core.specs.Calls.{CoreLog, calls_in}
use Rattle.quota_pool.specs.declared.moved.Moved.{Moved}
use Rattle.trace_text.specs.SoundTrace.{IsSoundRow, IsSoundTrace, StaysBelow, CutsRise, amounts, additions}
use Rattle.trace_text.specs.Trace.{Content, added}
use Rattle.trace_text.specs.declared.traces.Cut.{Cut}
use Rattle.trace_text.specs.declared.traces.Op.{Op}
use Rattle.trace_text.specs.declared.traces.Op.TheVariants.{Add, Take, Direct, Read}
use Rattle.trace_text.specs.declared.traces.Row.{Row}
use Rattle.trace_text.specs.declared.traces.Tenant.{Tenant}
use Rattle.replay_run.specs.Segments.{segments, segments_from, kind_of, rows_of, call_of, calls_from}
use Rattle.replay_run.specs.Replay.{value_in, IsBook, IsSegment, AreReplayed}
use Rattle.replay_run.specs.Ready.{IsSoundSegment}
use Rattle.replay_run.specs.Course.{IsSoundFrom}
use Rattle.replay_run.specs.Work.{of_worker}
use Rattle.replay_run.proofs.KeyedSums.{same_sums}
use Rattle.replay_run.proofs.NoFault.{worker_of, none_from, workers_there}
use Rattle.replay_run.proofs.Numbered.{rows_own}
use Rattle.replay_run.proofs.Outside.{adds, added_by, value_least, value_within}

-- what a row adds at a tenant
abbrev pub gives : ℕ → Row → ℕ
gives tenant row = if row.tenant == tenant then added row.op row.amount else 0

adds_so : (op : Op) (amount : ℕ) → adds (kind_of op) amount ≡ added op amount
adds_so Add amount = refl
adds_so Take amount = refl
adds_so Direct amount = refl
adds_so Read amount = refl

calls_sum : (n : ℕ) (rows : List Row) → sum_by added_by (calls_from n rows) ≡ sum_by (λ (row : Row). added row.op row.amount) rows
calls_sum n [] = refl
calls_sum n (row ∷ rows) =
    omega (arith, sum_by-cons added_by (call_of n row) (calls_from (suc n) rows), sum_by-cons (λ (r : Row). added r.op r.amount) row rows, adds_so row.op row.amount, calls_sum (suc n) rows)

-- what a worker's rows at a tenant add, among all of its rows
module _ (worker tenant : ℕ) (row : Row) (rows : List Row) where
  abbrev all_of : Row → ℕ
  all_of r = added r.op r.amount

  one_more : (a b : Bool) → sum_by all_of (rows_of worker tenant rows) ≡ sum_by (gives tenant) (of_worker worker rows) → (row.tenant == tenant) ≡ b
      → sum_by all_of (cond (a && b) (row ∷ rows_of worker tenant rows) (rows_of worker tenant rows)) ≡ sum_by (gives tenant) (cond a (row ∷ of_worker worker rows) (of_worker worker rows))
  one_more true true rest is =
      let here : gives tenant row ≡ all_of row = ap (λ (b : Bool). if b then added row.op row.amount else 0) is in
      omega (arith, rest, here, sum_by-cons all_of row (rows_of worker tenant rows), sum_by-cons (gives tenant) row (of_worker worker rows))
  one_more true false rest is =
      let here : gives tenant row ≡ 0 = ap (λ (b : Bool). if b then added row.op row.amount else 0) is in
      omega (arith, rest, here, sum_by-cons (gives tenant) row (of_worker worker rows))
  one_more false b rest is = rest

rows_sum : (worker tenant : ℕ) (rows : List Row) → sum_by (λ (row : Row). added row.op row.amount) (rows_of worker tenant rows) ≡ sum_by (gives tenant) (of_worker worker rows)
rows_sum worker tenant [] = refl
rows_sum worker tenant (row ∷ rows) = one_more worker tenant row rows (row.worker == worker) (row.tenant == tenant) (rows_sum worker tenant rows) refl

-- a book's value is no more than its cap, and than its opening with all that its rows add
pub value_bound : (workers cap opening tenant : ℕ) (rows : List Row) (book : CoreLog) → All (λ (row : Row). row.worker < workers) rows → IsBook workers cap opening tenant rows book → value_in book ≤ min cap (opening + additions tenant rows)
value_bound workers cap opening tenant rows book all is =
    let calls : List Call = calls_in book in
    let same : (k : ℕ) → sum_by added_by (own k calls) ≡ sum_by (gives tenant) (of_worker k rows) = λ k. ap (sum_by added_by) (is.calls k) ∙ calls_sum 0 (rows_of k tenant rows) ∙ rows_sum k tenant rows in
    let none : (k : ℕ) → workers ≤ k → own k calls ≡ [] = λ k above. is.calls k ∙ ap (calls_from 0) (sym (rows_own k tenant rows) ∙ ap (rows_of k tenant) (none_from workers rows all k above)) in
    let total : sum_by added_by calls ≡ additions tenant rows = same_sums added_by (λ (call : Call). call.pass) (gives tenant) worker_of calls rows same workers none (none_from workers rows all) in
    let most = value_least book.start.cap book.start.opening calls in
    let limit = value_within book is.legal in
    omega (arith, most, limit, total, is.has_cap, is.has_opening)

-- a smaller bound stays below too
pub stays_less : (tenant cap low high before : ℕ) (rows : List Row) (cuts : List Cut) → low ≤ high → StaysBelow tenant cap high before rows cuts → StaysBelow tenant cap low before rows cuts
stays_less tenant cap low high before rows [] less stays = let most : high + amounts tenant rows < 2 ^ 63 = stays in omega (arith, most, less)
stays_less tenant cap low high before rows (cut ∷ cuts) less stays =
    let part : List Row = take (cut.rows - before) rows in
    let most : high + amounts tenant part < 2 ^ 63 = stays.0 in
    (omega (arith, most, less), stays_less tenant cap (min cap (low + additions tenant part)) (min cap (high + additions tenant part)) cut.rows (drop (cut.rows - before) rows) cuts (omega (arith, less)) stays.1)

module _ (workers : ℕ) (caps openings : List ℕ) (before : ℕ) (rows : List Row) (cut : Cut) (cuts : List Cut) (sound : IsSoundFrom workers caps openings before rows (cut ∷ cuts)) where
  abbrev part : List Row
  part = take (cut.rows - before) rows

  -- the first segment of what is left is sound
  pub first_sound : IsSoundSegment workers caps openings part
  first_sound = record {
    few = sound.few;
    one_each = sound.one_each;
    small = sound.small;
    within = sound.within;
    sound = All-take (IsSoundRow workers (length caps)) (cut.rows - before) rows sound.sound;
    below = λ tenant there. (sound.below tenant there).0;
  }

  -- .. and after it the others
  pub rest_sound : (tenants : List Tenant) (answers : List Moved) (books : List CoreLog) → caps ≡ map (λ (t : Tenant). t.cap) tenants → IsSegment workers tenants openings part answers books
      → IsSoundFrom workers caps (map value_in books) cut.rows (drop (cut.rows - before) rows) cuts
  rest_sound tenants answers books same segment =
      let size : length tenants ≡ length caps = sym (length-map tenants (λ (t : Tenant). t.cap)) ∙ ap length (sym same) in
      let count : length (map value_in books) ≡ length caps = length-map books value_in ∙ segment.all ∙ size in
      let bound : (tenant : ℕ) → tenant < length caps → get_or (map value_in books) tenant 0 ≤ min (get_or caps tenant 0) (get_or openings tenant 0 + additions tenant part) = λ tenant there.
      let empty : Tenant = record { name = []; opening = 0; cap = 0 } in
      let book = found_at books tenant (omega (arith, there, segment.all, size)) in
      let who : Tenant = get_or tenants tenant empty in
      let is : IsBook workers who.cap (get_or openings tenant 0) tenant part book.0 = segment.closed tenant who book.0 (slice_get-get_or tenants tenant empty (omega (arith, there, size))) book.1 in
      let cap : get_or caps tenant 0 ≡ who.cap = ap (λ (cs : List ℕ). get_or cs tenant 0) same ∙ get_or-map (λ (t : Tenant). t.cap) tenants tenant empty 0 (omega (arith, there, size)) in
      let least = value_bound workers who.cap (get_or openings tenant 0) tenant part book.0 (workers_there workers (length caps) part first_sound.sound) is in
      let at : get_or (map value_in books) tenant 0 ≡ value_in book.0 = get_or_from_slice_get (map value_in books) tenant (value_in book.0) 0 (slice_get-map value_in books tenant ∙ ap (λ (o : Option CoreLog). option_map value_in o) book.1) in
      omega (arith, at, least, cap) in
      record {
        few = sound.few;
        one_each = count;
        small = sound.small;
        within = λ tenant there. omega (arith, bound tenant there);
        sound = All-drop (IsSoundRow workers (length caps)) (cut.rows - before) rows sound.sound;
        below = λ tenant there.
            stays_less tenant (get_or caps tenant 0) (get_or (map value_in books) tenant 0) (min (get_or caps tenant 0) (get_or openings tenant 0 + additions tenant part)) cut.rows (drop (cut.rows - before) rows) cuts (bound tenant there) (sound.below tenant there).1;
      }

-- the last segment is sound
pub last_sound : (workers : ℕ) (caps openings : List ℕ) (before : ℕ) (rows : List Row) → IsSoundFrom workers caps openings before rows [] → IsSoundSegment workers caps openings rows
last_sound workers caps openings before rows sound = record { few = sound.few; one_each = sound.one_each; small = sound.small; within = sound.within; sound = sound.sound; below = sound.below }

-- what was replayed, where what is left will be
abbrev pub Leads : ℕ → List Tenant → List ℕ → List (List Row) → List Moved → List CoreLog → List ℕ → List (List Row) → Type 0
Leads workers tenants first all answers books openings left =
    (more : List Moved) (further : List CoreLog) → AreReplayed workers tenants openings left more further → AreReplayed workers tenants first all (answers ++ more) (books ++ further)

-- a segment with its answers and books, before others
pub one_then : (workers : ℕ) (tenants : List Tenant) (openings : List ℕ) (rows : List Row) (segments : List (List Row)) (answers more : List Moved) (books further : List CoreLog) → IsSegment workers tenants openings rows answers books
    → AreReplayed workers tenants (map value_in books) segments more further → AreReplayed workers tenants openings (rows ∷ segments) (answers ++ more) (books ++ further)
one_then workers tenants openings rows segments answers more books further segment rest =
    let answered : take (length rows) (answers ++ more) ≡ answers = take_at answers more (length rows) segment.one_each in
    let left : drop (length rows) (answers ++ more) ≡ more = drop_at answers more (length rows) segment.one_each in
    let closed : take (length tenants) (books ++ further) ≡ books = take_at books further (length tenants) segment.all in
    let open_ones : drop (length tenants) (books ++ further) ≡ further = drop_at books further (length tenants) segment.all in (
      subst (λ (bs : List CoreLog). IsSegment workers tenants openings rows (take (length rows) (answers ++ more)) bs) (sym closed) (subst (λ (got : List Moved). IsSegment workers tenants openings rows got books) (sym answered) segment),
      subst (λ (bs : List CoreLog). AreReplayed workers tenants (map value_in bs) segments (drop (length rows) (answers ++ more)) (drop (length tenants) (books ++ further))) (sym closed)
          (subst (λ (got : List Moved). AreReplayed workers tenants (map value_in books) segments got (drop (length tenants) (books ++ further))) (sym left)
          (subst (λ (bs : List CoreLog). AreReplayed workers tenants (map value_in books) segments more bs) (sym open_ones) rest)),
    )

-- one segment more
pub leads_more : (workers : ℕ) (tenants : List Tenant) (first : List ℕ) (all : List (List Row)) (answers : List Moved) (books : List CoreLog) (openings : List ℕ) (rows : List Row) (segments : List (List Row)) (new_answers : List Moved) (new_books : List CoreLog)
    → Leads workers tenants first all answers books openings (rows ∷ segments) → IsSegment workers tenants openings rows new_answers new_books → Leads workers tenants first all (answers ++ new_answers) (books ++ new_books) (map value_in new_books) segments
leads_more workers tenants first all answers books openings rows segments new_answers new_books leads segment more further rest =
    let whole = leads (new_answers ++ more) (new_books ++ further) (one_then workers tenants openings rows segments new_answers more new_books further segment rest) in
    subst (λ (got : List Moved). AreReplayed workers tenants first all got ((books ++ new_books) ++ further)) (sym (append_assoc answers new_answers more))
    (subst (λ (bs : List CoreLog). AreReplayed workers tenants first all (answers ++ (new_answers ++ more)) bs) (sym (append_assoc books new_books further)) whole)

-- the last segment
pub leads_all : (workers : ℕ) (tenants : List Tenant) (first : List ℕ) (all : List (List Row)) (answers : List Moved) (books : List CoreLog) (openings : List ℕ) (rows : List Row) (new_answers : List Moved) (new_books : List CoreLog)
    → Leads workers tenants first all answers books openings (rows ∷ []) → IsSegment workers tenants openings rows new_answers new_books → AreReplayed workers tenants first all (answers ++ new_answers) (books ++ new_books)
leads_all workers tenants first all answers books openings rows new_answers new_books leads segment =
    let whole = leads_more workers tenants first all answers books openings rows [] new_answers new_books leads segment [] [] (refl, refl) in
    subst (λ (got : List Moved). AreReplayed workers tenants first all got (books ++ new_books)) (append-nil (answers ++ new_answers))
    (subst (λ (bs : List CoreLog). AreReplayed workers tenants first all ((answers ++ new_answers) ++ []) bs) (append-nil (books ++ new_books)) whole)

-- a sound trace is sound from its beginning on
pub trace_sound : (workers : ℕ) (trace : Content) → IsSoundTrace workers trace → IsSoundFrom workers (map (λ (t : Tenant). t.cap) trace.tenants) (map (λ (t : Tenant). t.opening) trace.tenants) 0 trace.rows trace.cuts
trace_sound workers trace sound =
    let empty : Tenant = record { name = []; opening = 0; cap = 0 } in
    let tenants : List Tenant = trace.tenants in
    let size : length (map (λ (t : Tenant). t.cap) tenants) ≡ length tenants = length-map tenants (λ (t : Tenant). t.cap) in
    let cap : (i : ℕ) (d : ℕ) → i < length tenants → get_or (map (λ (t : Tenant). t.cap) tenants) i d ≡ (get_or tenants i empty).cap = λ i d within. get_or-map (λ (t : Tenant). t.cap) tenants i empty d within in
    let opening : (i : ℕ) → i < length tenants → get_or (map (λ (t : Tenant). t.opening) tenants) i 0 ≡ (get_or tenants i empty).opening = λ i within. get_or-map (λ (t : Tenant). t.opening) tenants i empty 0 within in
    record {
      few = omega (arith, sound.few, size);
      one_each = length-map tenants (λ (t : Tenant). t.opening) ∙ sym size;
      small = λ i d within. let inside : i < length tenants = omega (arith, within, size) in omega (arith, cap i d inside, (sound.tenants i empty inside).cap);
      within = λ i within. let inside : i < length tenants = omega (arith, within, size) in omega (arith, cap i 0 inside, opening i inside, (sound.tenants i empty inside).opening);
      sound = subst (λ (n : ℕ). All (IsSoundRow workers n) trace.rows) (sym size) sound.rows;
      below = λ i within. let inside : i < length tenants = omega (arith, within, size) in
          subst (λ (n : ℕ). StaysBelow i n (get_or (map (λ (t : Tenant). t.opening) tenants) i 0) 0 trace.rows trace.cuts) (sym (cap i 0 inside))
          (subst (λ (n : ℕ). StaysBelow i (get_or tenants i empty).cap n 0 trace.rows trace.cuts) (sym (opening i inside)) (sound.below i empty inside));
    }

-- cuts that rise are within all rows
pub rise_within : (before all : ℕ) (cuts : List Cut) → CutsRise before all cuts → before ≤ all
rise_within before all [] rise = rise
rise_within before all (cut ∷ cuts) rise = let first : before ≤ cut.rows = rise.0 in omega (arith, first, rise_within cut.rows all cuts rise.1)

-- What stands before the segment of this number, where so many rows stand before it
pub record Stands (workers : ℕ) (tenants : List Tenant) (rows : List Row) (cuts : List Cut) (k before : ℕ) (openings : List ℕ) (answers : List Moved) (books : List CoreLog) : Type 0 where
  pub sound : IsSoundFrom workers (map (λ (t : Tenant). t.cap) tenants) openings before (drop before rows) (drop k cuts)
  pub rise : CutsRise before (length rows) (drop k cuts)
  pub leads : Leads workers tenants (map (λ (t : Tenant). t.opening) tenants) (segments rows cuts) answers books openings (segments_from before (drop before rows) (drop k cuts))
  pub answered : length answers ≡ before
  pub closed : length books ≡ k * length tenants

pub stands_first : (workers : ℕ) (trace : Content) → IsSoundTrace workers trace → Stands workers trace.tenants trace.rows trace.cuts 0 0 (map (λ (t : Tenant). t.opening) trace.tenants) [] []
stands_first workers trace sound = record { sound = trace_sound workers trace sound; rise = sound.cuts; leads = λ more further rest. rest; answered = refl; closed = omega arith }

module _ (workers : ℕ) (tenants : List Tenant) (rows : List Row) (cuts : List Cut) (k before : ℕ) (openings : List ℕ) (answers : List Moved) (books : List CoreLog) (stands : Stands workers tenants rows cuts k before openings answers books) where
  abbrev caps : List ℕ
  caps = map (λ (t : Tenant). t.cap) tenants

  module _ (cut : Cut) (within : k < length cuts) (is : get_or cuts k cut ≡ cut) where
    abbrev later : List Cut
    later = drop (k + 1) cuts

    here : drop k cuts ≡ cut ∷ later
    here = drop_more cuts k cut within ∙ ap (λ (c : Cut). c ∷ later) is

    rises : CutsRise before (length rows) (cut ∷ later)
    rises = subst (CutsRise before (length rows)) here stands.rise

    pub ends_behind : before ≤ cut.rows
    ends_behind = rises.0

    pub ends_within : cut.rows ≤ length rows
    ends_within = rise_within cut.rows (length rows) later rises.1

    abbrev segment_rows : List Row
    segment_rows = take (cut.rows - before) (drop before rows)

    sound_here : IsSoundFrom workers caps openings before (drop before rows) (cut ∷ later)
    sound_here = subst (IsSoundFrom workers caps openings before (drop before rows)) here stands.sound

    pub segment_sound : IsSoundSegment workers caps openings segment_rows
    segment_sound = first_sound workers caps openings before (drop before rows) cut later sound_here

    pub segment_size : length segment_rows + before ≡ cut.rows
    segment_size = omega (arith, length-take (cut.rows - before) (drop before rows), length-drop before rows, ends_behind, ends_within)

    -- one more row of books has its place
    pub shelf_left : length books + length tenants ≤ (length cuts + 1) * length tenants
    shelf_left = let most : (k + 1) * length tenants ≤ (length cuts + 1) * length tenants = mul-le-mul_right (length tenants) (let e : k + 1 ≤ length cuts + 1 = omega arith in e) in omega (arith, most, stands.closed)

    skipped : drop (cut.rows - before) (drop before rows) ≡ drop cut.rows rows
    skipped = drop-drop (cut.rows - before) before rows ∙ ap (λ (n : ℕ). drop n rows) (omega (arith, ends_behind))

    pub stands_more : (new_answers : List Moved) (new_books : List CoreLog) → IsSegment workers tenants openings segment_rows new_answers new_books → Stands workers tenants rows cuts (k + 1) cut.rows (map value_in new_books) (answers ++ new_answers) (books ++ new_books)
    stands_more new_answers new_books segment = record {
      sound = subst (λ (rs : List Row). IsSoundFrom workers caps (map value_in new_books) cut.rows rs later) skipped (rest_sound workers caps openings before (drop before rows) cut later sound_here tenants new_answers new_books refl segment);
      rise = rises.1;
      leads = subst (λ (rs : List Row). Leads workers tenants (map (λ (t : Tenant). t.opening) tenants) (segments rows cuts) (answers ++ new_answers) (books ++ new_books) (map value_in new_books) (segments_from cut.rows rs later)) skipped
          (leads_more workers tenants (map (λ (t : Tenant). t.opening) tenants) (segments rows cuts) answers books openings segment_rows (segments_from cut.rows (drop (cut.rows - before) (drop before rows)) later) new_answers new_books
          (subst (λ (cs : List Cut). Leads workers tenants (map (λ (t : Tenant). t.opening) tenants) (segments rows cuts) answers books openings (segments_from before (drop before rows) cs)) here stands.leads) segment);
      answered = omega (arith, length-append answers new_answers, stands.answered, segment.one_each, segment_size);
      closed = omega (arith, length-append books new_books, stands.closed, segment.all);
    }

  module _ (last : length cuts ≤ k) (end : k ≤ length cuts) where
    no_more : drop k cuts ≡ []
    no_more = drop_all k cuts last

    pub ends_last : before ≤ length rows
    ends_last = rise_within before (length rows) (drop k cuts) stands.rise

    abbrev last_rows : List Row
    last_rows = take (length rows - before) (drop before rows)

    all_left : last_rows ≡ drop before rows
    all_left = take_rest rows before

    pub last_segment_sound : IsSoundSegment workers caps openings last_rows
    last_segment_sound =
        subst (IsSoundSegment workers caps openings) (sym all_left) (last_sound workers caps openings before (drop before rows) (subst (IsSoundFrom workers caps openings before (drop before rows)) no_more stands.sound))

    pub last_size : length last_rows + before ≡ length rows
    last_size = omega (arith, ap length all_left, length-drop before rows, ends_last)

    pub last_shelf : length books + length tenants ≤ (length cuts + 1) * length tenants
    last_shelf = let same : k ≡ length cuts = omega arith in let count : length books ≡ length cuts * length tenants = stands.closed ∙ ap (λ (n : ℕ). n * length tenants) same in omega (arith, count)

    pub replayed_all : (new_answers : List Moved) (new_books : List CoreLog) → IsSegment workers tenants openings last_rows new_answers new_books
        → AreReplayed workers tenants (map (λ (t : Tenant). t.opening) tenants) (segments rows cuts) (answers ++ new_answers) (books ++ new_books)
    replayed_all new_answers new_books segment =
        let Lead : List Row → List Cut → Type 0 = λ rs cs. Leads workers tenants (map (λ (t : Tenant). t.opening) tenants) (segments rows cuts) answers books openings (segments_from before rs cs) in
        leads_all workers tenants (map (λ (t : Tenant). t.opening) tenants) (segments rows cuts) answers books openings last_rows new_answers new_books
        (subst (λ (rs : List Row). Lead rs []) (sym all_left) (subst (λ (cs : List Cut). Lead (drop before rows) cs) no_more stands.leads)) segment
