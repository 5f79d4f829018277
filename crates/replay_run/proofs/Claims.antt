-- Each tenant has a history of which a replay's answers and values tell: the histories of its books, each behind the earlier ones.
use Rattle.std.proofs.Common.{◌≡◌, ◌+◌, ◌-◌, ◌*◌, ◌<◌, ◌≤◌, ℕ, zero, suc, List, [], ◌∷◌, ◌++◌, length, take, drop, map, slice_get, get_or, Option, Some, sym, ap, ◌∙◌, subst, arith, inl, inr, take-append-drop}
use Rattle.std.proofs.Math.Nat.{suc-mul}
use Rattle.std.proofs.lemmas.Bool.{cases_lt}
use Rattle.std.proofs.lemmas.List.{length-map, take-append-le, take-map, drop-map}
use Rattle.std.proofs.lemmas.Option.{none-some, slice_get-map, slice_get_within, get_or_from_slice_get}
use Rattle.std.specs.Option.{option_map}
use Rattle.fn_model.specs.declared.Call.{Call}
use Rattle.fn_model.specs.Integer.{value, moved_amount, Meets}
use Rattle.fn_core.specs.declared.Start.{Start}
use Rattle.fn_core.specs.Calls.{CoreLog, calls_in}
use Rattle.quota_pool.specs.declared.moved.Moved.{Moved}
use Rattle.quota_pool.proofs.Laws.{found_at}
use Rattle.trace_text.specs.SoundTrace.{CutsRise}
use Rattle.trace_text.specs.Trace.{Content}
use Rattle.trace_text.specs.declared.traces.Cut.{Cut}
use Rattle.trace_text.specs.declared.traces.Row.{Row}
use Rattle.trace_text.specs.declared.traces.Tenant.{Tenant}
use Rattle.replay_run.specs.Segments.{kind_of, segments_from, call_after}
use Rattle.replay_run.specs.Replay.{value_in, IsSegment, AreReplayed, IsReplay}
use Rattle.replay_run.specs.Claim.{AreCallsOf, Answers, Settles, TellsReplay}
use Rattle.replay_run.proofs.Behind.{behind, left_by, value_behind, answers_stay, calls_behind, answers_behind, settles_first, settles_behind}
use Rattle.replay_run.proofs.Lengths.{replayed_counts}
use Rattle.replay_run.proofs.Shifts.{get_first, get_later, get_taken, get_dropped, take_more}

-- cuts that rise stand behind what is before them
cut_behind : (before all : ℕ) (cuts : List Cut) (k : ℕ) (cut : Cut) → CutsRise before all cuts → slice_get cuts k ≡ Some cut → before ≤ cut.rows
cut_behind before all [] k cut rise at = absurd (none-some cut at)
cut_behind before all (first ∷ cuts) zero cut rise at = let same : first ≡ cut = cc at in subst (λ (c : Cut). before ≤ c.rows) same rise.0
cut_behind before all (first ∷ cuts) (suc k) cut rise at = let less : before ≤ first.rows = rise.0 in omega (arith, less, cut_behind first.rows all cuts k cut rise.1 at)

-- what is answered of a tenant's rows is told of the history
abbrev AreAnswered : ℕ → List Row → List Moved → Tenant → List Call → Type 0
AreAnswered t rows answers tenant history =
    (k : ℕ) (row : Row) (answer : Moved) → slice_get rows k ≡ Some row → slice_get answers k ≡ Some answer → row.tenant ≡ t → Answers tenant history (call_after (take k rows) row) answer

-- A segment's history of a tenant, and the value that it leaves
record IsFirst (t : ℕ) (rows : List Row) (answers : List Moved) (values : List ℕ) (tenant : Tenant) (past : List Call) : Type 0 where
  pub calls : AreCallsOf t rows past
  pub answered : AreAnswered t rows answers tenant past
  pub left : slice_get values t ≡ Some (value tenant.cap tenant.opening past)

-- A tenant's history of what is left, where so many rows stand before it and the values of so many tenants stand segment by segment
record IsHistoryFrom (tenants t before : ℕ) (rows : List Row) (cuts : List Cut) (answers : List Moved) (values : List ℕ) (tenant : Tenant) (history : List Call) : Type 0 where
  pub calls : AreCallsOf t rows history
  pub answered : AreAnswered t rows answers tenant history
  pub settled : (k : ℕ) (cut : Cut) (final : ℕ) → slice_get cuts k ≡ Some cut → slice_get values (k * tenants + t) ≡ Some final → Settles tenant history t (take (cut.rows - before) rows) final
  pub last : (final : ℕ) → slice_get values (length cuts * tenants + t) ≡ Some final → final ≡ value tenant.cap tenant.opening history

-- a value in the first segment, and one in a later one
value_first : (tenants t : ℕ) (values : List ℕ) (v final : ℕ) → slice_get values t ≡ Some v → slice_get values (0 * tenants + t) ≡ Some final → final ≡ v
value_first tenants t values v final is at =
    let here : 0 * tenants + t ≡ t = omega arith in
    let found : Some final ≡ Some v = sym at ∙ ap (slice_get values) here ∙ is in
    cc found

value_later : (tenants t k : ℕ) (values : List ℕ) → slice_get (drop tenants values) (k * tenants + t) ≡ slice_get values (suc k * tenants + t)
value_later tenants t k values = get_dropped tenants values (k * tenants + t) (suc k * tenants + t) (omega (arith, suc-mul k tenants))

-- the first segment's history, in front of that of the later ones
module _ (tenants t before all : ℕ) (rows : List Row) (cut : Cut) (cuts : List Cut) (answers : List Moved) (values : List ℕ) (tenant : Tenant) (past history : List Call) (rise : before ≤ cut.rows) (rises : CutsRise cut.rows all cuts) where
  abbrev part : List Row
  part = take (cut.rows - before) rows

  abbrev more : List Row
  more = drop (cut.rows - before) rows

  module _ (first : IsFirst t part answers values tenant past) (rest : IsHistoryFrom tenants t cut.rows more cuts (drop (length part) answers) (drop tenants values) (left_by tenant past) history) where
    whole : part ++ more ≡ rows
    whole = take-append-drop (cut.rows - before) rows

    answered_both : AreAnswered t (part ++ more) answers tenant (behind past history)
    answered_both k row answer at_row at_answer here = elim (cases_lt k (length part)) [
      | inl early ↦
          let its = first.answered k row answer (sym (get_first part more k early) ∙ at_row) at_answer here in
          subst (λ (rs : List Row). Answers tenant (behind past history) (call_after rs row) answer) (sym (take-append-le k part more (omega (arith, early)))) (answers_stay tenant past _ (call_after (take k part) row) answer its)
      | inr late ↦
          let j : ℕ = k - length part in
          let at : length part + j ≡ k = omega arith in
          answers_behind tenant t part past first.calls more history row answer j k here at
          (rest.answered j row answer (sym (get_later part more j k at) ∙ at_row) (get_dropped (length part) answers j k at ∙ at_answer) here)
    ]

    settled_both : (k : ℕ) (c : Cut) (final : ℕ) → slice_get (cut ∷ cuts) k ≡ Some c → slice_get values (k * tenants + t) ≡ Some final → Settles tenant (behind past history) t (take (c.rows - before) rows) final
    settled_both zero c final at_cut at_final =
        let same : cut ≡ c = cc at_cut in
        subst (λ (d : Cut). Settles tenant (behind past history) t (take (d.rows - before) rows) final) same
        (subst (Settles tenant (behind past history) t part) (sym (value_first tenants t values (value tenant.cap tenant.opening past) final first.left at_final)) (settles_first tenant t part past first.calls history))
    settled_both (suc k) c final at_cut at_final =
        let beyond : cut.rows ≤ c.rows = cut_behind cut.rows all cuts k c rises at_cut in
        let sum : (cut.rows - before) + (c.rows - cut.rows) ≡ c.rows - before = omega (arith, rise, beyond) in
        subst (λ (rs : List Row). Settles tenant (behind past history) t rs final) (take_more (cut.rows - before) (c.rows - cut.rows) rows ∙ ap (λ (n : ℕ). take n rows) sum)
        (settles_behind tenant t part past first.calls (take (c.rows - cut.rows) more) history final (rest.settled k c final at_cut (value_later tenants t k values ∙ at_final)))

    history_both : IsHistoryFrom tenants t before rows (cut ∷ cuts) answers values tenant (behind past history)
    history_both = record {
      calls = subst (λ (rs : List Row). AreCallsOf t rs (behind past history)) whole (calls_behind tenant t part past first.calls more history rest.calls);
      answered = subst (λ (rs : List Row). AreAnswered t rs answers tenant (behind past history)) whole answered_both;
      settled = settled_both;
      last = λ final at_final. rest.last final (value_later tenants t (length cuts) values ∙ at_final) ∙ sym (value_behind tenant.cap tenant.opening past history);
    }

module _ (workers : ℕ) (tenants : List Tenant) (t : ℕ) (who : Tenant) (at : slice_get tenants t ≡ Some who) where
  inside : t < length tenants
  inside = slice_get_within tenants t who at

  -- the tenant, opened with the integer in its place
  abbrev opened_by : List ℕ → Tenant
  opened_by openings = record who { opening = get_or openings t 0 }

  -- a segment's book has its history
  book_tells : (openings : List ℕ) (rows : List Row) (answers : List Moved) (books : List CoreLog) → IsSegment workers tenants openings rows (take (length rows) answers) (take (length tenants) books)
      → (past : List Call) × IsFirst t rows answers (map value_in books) (opened_by openings) past
  book_tells openings rows answers books segment =
      let found = found_at (take (length tenants) books) t (omega (arith, inside, segment.all)) in
      let book : CoreLog = found.0 in
      let past : List Call = calls_in book in
      let is = segment.closed t who book at found.1 in
      let left : value_in book ≡ value who.cap (get_or openings t 0) past =
      ap (λ (n : ℕ). value n book.start.opening past) is.has_cap ∙ ap (λ (n : ℕ). value who.cap n past) is.has_opening in (
        past,
        record {
          calls = is.calls;
          answered = λ k row answer at_row at_answer here.
              let within : k < length rows = slice_get_within rows k row at_row in
              let its = segment.answered k row answer book at_row (get_taken (length rows) answers k within ∙ at_answer) (ap (slice_get (take (length tenants) books)) here ∙ found.1) in
              let call : Call = call_after (take k rows) row in
              let cap : its.pass.seen.start.cap ≡ who.cap = ap (λ (b : Start). b.cap) (sym its.called.later.start ∙ its.start) ∙ is.has_cap in
              record {
                met = subst (λ (n : ℕ). Meets who.cap n past call answer.before) is.has_opening (subst (λ (n : ℕ). Meets n book.start.opening past call answer.before) is.has_cap its.met);
                moved = subst (λ (c : ℕ). answer.moved ≡ moved_amount c answer.before (kind_of row.op) row.amount) cap its.called.moved;
              };
          left = slice_get-map value_in books t ∙ ap (λ (o : Option CoreLog). option_map value_in o) (sym (get_taken (length tenants) books t inside) ∙ found.1) ∙ ap Some left;
        },
      )

  histories : (before all : ℕ) (openings : List ℕ) (rows : List Row) (cuts : List Cut) (answers : List Moved) (books : List CoreLog) → CutsRise before all cuts → AreReplayed workers tenants openings (segments_from before rows cuts) answers books
      → (history : List Call) × IsHistoryFrom (length tenants) t before rows cuts answers (map value_in books) (opened_by openings) history
  histories before all openings rows [] answers books rise (segment, none) =
      let first = book_tells openings rows answers books segment in (
        first.0,
        record {
          calls = first.1.calls;
          answered = first.1.answered;
          settled = λ k cut final at_cut at_final. absurd (none-some cut at_cut);
          last = λ final at_final. value_first (length tenants) t (map value_in books) (value who.cap (get_or openings t 0) first.0) final first.1.left at_final;
        },
      )
  histories before all openings rows (cut ∷ cuts) answers books rise (segment, later) =
      let n : ℕ = cut.rows - before in
      let part : List Row = take n rows in
      let values : List ℕ = map value_in books in
      let first = book_tells openings part answers books segment in
      let past : List Call = first.0 in
      let next : List ℕ = map value_in (take (length tenants) books) in
      let rest = histories cut.rows all next (drop n rows) cuts (drop (length part) answers) (drop (length tenants) books) rise.1 later in
      let tenant : Tenant = opened_by openings in
      let opening : get_or next t 0 ≡ value tenant.cap tenant.opening past =
      get_or_from_slice_get next t (value tenant.cap tenant.opening past) 0 (ap (λ (vs : List ℕ). slice_get vs t) (sym (take-map value_in (length tenants) books)) ∙ get_taken (length tenants) values t inside ∙ first.1.left) in
      let left : IsHistoryFrom (length tenants) t cut.rows (drop n rows) cuts (drop (length part) answers) (drop (length tenants) values) (left_by tenant past) rest.0 =
      subst (λ (vs : List ℕ). IsHistoryFrom (length tenants) t cut.rows (drop n rows) cuts (drop (length part) answers) vs (left_by tenant past) rest.0) (sym (drop-map value_in (length tenants) books))
      (subst (λ (o : ℕ). IsHistoryFrom (length tenants) t cut.rows (drop n rows) cuts (drop (length part) answers) (map value_in (drop (length tenants) books)) (record who { opening = o }) rest.0) opening rest.1) in
      (behind past rest.0, history_both (length tenants) t before all rows cut cuts answers values tenant past rest.0 rise.0 rise.1 first.1 left)

-- the claim, of every replay of a trace whose cuts rise
pub replay_tells : (workers : ℕ) (trace : Content) (answers : List Moved) (books : List CoreLog) → CutsRise 0 (length trace.rows) trace.cuts → IsReplay workers trace answers books → TellsReplay trace answers (map value_in books)
replay_tells workers trace answers books rise replayed =
    let openings : List ℕ = map (λ (who : Tenant). who.opening) trace.tenants in
    let counts = replayed_counts workers 0 trace.tenants openings trace.rows trace.cuts answers books replayed in
    let values : List ℕ = map value_in books in
    record {
      one_each = counts.0;
      values_each = length-map books value_in ∙ counts.1;
      histories = λ t tenant at.
          let opening : get_or openings t 0 ≡ tenant.opening =
          get_or_from_slice_get openings t tenant.opening 0 (slice_get-map (λ (who : Tenant). who.opening) trace.tenants t ∙ ap (λ (o : Option Tenant). option_map (λ (who : Tenant). who.opening) o) at) in
          let told = histories workers trace.tenants t tenant at 0 (length trace.rows) openings trace.rows trace.cuts answers books rise replayed in
          let is = subst (λ (o : ℕ). IsHistoryFrom (length trace.tenants) t 0 trace.rows trace.cuts answers values (record tenant { opening = o }) told.0) opening told.1 in (
            told.0,
            record {
              calls = is.calls;
              rows = is.answered;
              cuts = λ k cut final at_cut at_final. let all : cut.rows - 0 ≡ cut.rows = omega arith in
                  subst (λ (n : ℕ). Settles tenant told.0 t (take n trace.rows) final) all (is.settled k cut final at_cut at_final);
              last = is.last;
            },
          );
    }
