-- A run of a script on a table to its end: what its book has.
use Rattle.std.proofs.Common.{◌≡◌, ◌≢◌, ◌⊎◌, inl, inr, ℕ, zero, suc, ◌-◌, ◌<◌, ◌≤◌, List, [], ◌∷◌, ◌++◌, Option, Some, map, length, get_or, slice_get, slice_set, flat_map, refl, sym, ◌∙◌, ap, subst, arith, append_assoc}
use Rattle.std.specs.Prelude.{◌==◌}
use Rattle.std.specs.List.{All}
use Rattle.std.proofs.lemmas.Bool.{cases_eq, false≢true}
use Rattle.std.proofs.lemmas.List.{append-nil, length-map}
use Rattle.std.proofs.lemmas.List.Elements.{All-head, All-tail, filter-append}
use Rattle.std.proofs.lemmas.Option.{slice_get-get_or}
use mathlib.Core.List.{IsPrefix}
use Rattle.fn_model.specs.declared.Call.{Call}
use Rattle.fn_model.specs.Calls.{own}
use Rattle.fn_core.specs.declared.Event.{Event}
use Rattle.fn_core.specs.declared.Start.{Start}
use Rattle.fn_core.specs.declared.Move.TheVariants.{Glance}
use Rattle.fn_core.specs.State.{State, opened, history_in}
use Rattle.fn_core.specs.Machine.{IsStart}
use Rattle.fn_core.specs.Laws.{IsUnderway}
use Rattle.fn_core.specs.Calls.{CoreLog, HasCall, IsIdle, IsLegal, calls_in, state_in}
use Rattle.fn_table.specs.Seen.{TableView, PassView, AreAll, IsClosed, IsOf, fresh}
use Rattle.fn_table.proofs.Glances.{glances_idle, glances_legal, glances_run}
use Rattle.fn_table.specs.Later.{IsLater}
use Rattle.fn_table.specs.Called.{HasMadeNone}
use Rattle.fn_table.proofs.Books.{none_outside}
use Rattle.script_text.specs.Sound.{HasPasses, IsSound}
use Rattle.script_text.specs.Order.{amount}
use Rattle.script_text.specs.declared.scripts.Order.TheVariants as order
use Rattle.script_text.specs.declared.scripts.Script.{Script}
use Rattle.script_text.specs.declared.scripts.ScriptLine.{ScriptLine}
use Rattle.script_run.specs.declared.lines.LineAnswer.{LineAnswer}
use Rattle.script_run.specs.declared.lines.LineAnswer.TheVariants as answer
use Rattle.script_run.specs.declared.trial.Caller.{Caller}
use Rattle.script_run.specs.declared.trial.Caller.TheVariants.{Idle}
use Rattle.fn_core.specs.Machine.{no_cap}
use Rattle.fn_model.specs.Integer.{value}
use Rattle.script_run.specs.Lines.{answer_line, answers_text, value_line}
use Rattle.script_run.specs.Play.{opened_core}
use Rattle.script_run.specs.Answered.{AreMet, IsMet, asked, calls_made, made_by}
use Rattle.script_run.specs.Slots.{AllStand}
use Rattle.script_run.specs.Trial.{AreDone, HasMet, IsTrial, LineDone, first_callers, seen_of}
use Rattle.script_run.proofs.Advance.{IsOne, all-stand, done-by, each-set, glance-leaves, order-leaves}
use Rattle.script_run.proofs.Followed.{Knows, Told, made-none, order-told}
use Rattle.script_run.proofs.OneLine.{made-other, none-made}
use Rattle.script_run.proofs.Replaced.{some-is}
use Rattle.script_run.proofs.Several.{first-stand, first-there, length-done, length-first, numbers-are}
use Rattle.script_run.proofs.Tracks.{grown, rests-has-all, tracks-here}
use Rattle.script_run.proofs.WholeRun.{met-later}

-- one caller in place of another: it stands there, and all others as before
pub set-here : (callers : List Caller) (k : ℕ) (was d : Caller) → slice_get callers k ≡ Some was → slice_get (slice_set callers k d) k ≡ Some d
set-here [] k was d is = absurd (cc is)
set-here (c ∷ callers) zero was d is = refl
set-here (c ∷ callers) (suc k) was d is = set-here callers k was d is

pub set-other : (callers : List Caller) (k j : ℕ) (d : Caller) → k ≢ j → slice_get (slice_set callers k d) j ≡ slice_get callers j
set-other [] k j d other = refl
set-other (c ∷ callers) zero zero d other = absurd (other refl)
set-other (c ∷ callers) zero (suc j) d other = refl
set-other (c ∷ callers) (suc k) zero d other = refl
set-other (c ∷ callers) (suc k) (suc j) d other = set-other callers k j d (λ same. other (ap (λ (n : ℕ). suc n) same))

each-other : (P : ℕ → Caller → Type 0) (callers : List Caller) (k : ℕ) (was d : Caller) → slice_get callers k ≡ Some was → ((j : ℕ) (c : Caller) → k ≢ j → slice_get callers j ≡ Some c → P j c) → P k d
    → (j : ℕ) (c : Caller) → slice_get (slice_set callers k d) j ≡ Some c → P j c
each-other P callers k was d there each here j c at = elim (cases_eq k j) [
  | inl same ↦
      let is : d ≡ c = some-is d c (sym (set-here callers k was d there) ∙ ap (slice_get (slice_set callers k d)) same ∙ at) in
      subst (λ (x : ℕ × Caller). P x.0 x.1) (λ i. (same i, is i)) here
  | inr other ↦ each j c other (sym (set-other callers k j d other) ∙ at)
]

abbrev pub AllKnow : List Call → List Caller → Type 0
AllKnow calls callers = (k : ℕ) (c : Caller) → slice_get callers k ≡ Some c → Knows calls k (seen_of c)

-- the log goes on from what each caller has seen
abbrev pub Extends : CoreLog → List Caller → Type 0
Extends book callers = (k : ℕ) (c : Caller) → slice_get callers k ≡ Some c → IsPrefix (seen_of c).seen.log book.log

extends-set : (book : CoreLog) (callers : List Caller) (k : ℕ) (was now : Caller) → slice_get callers k ≡ Some was → IsLater (seen_of was) (seen_of now) → Extends book (slice_set callers k now) → Extends book callers
extends-set book callers k was now there later e j c at = elim (cases_eq k j) [
  | inl same ↦
      let is : was ≡ c = some-is was c (sym there ∙ ap (slice_get callers) same ∙ at) in
      let more = e k now (set-here callers k was now there) in
      subst (λ (x : Caller). IsPrefix (seen_of x).seen.log book.log) is
      (later.begins.0 ++ more.0, sym (append_assoc (seen_of was).seen.log later.begins.0 more.0) ∙ ap (λ (l : List Event). l ++ more.0) later.begins.1 ∙ more.1)
  | inr other ↦ e j c (set-other callers k j now other ∙ at)
]

-- what is known of a pass stays where no call of it is made
knows-other : (calls now : List Call) (k : ℕ) (p : PassView) → own k now ≡ own k calls → Knows calls k p → Knows now k p
knows-other calls now k p same knows =
    let t = knows.tracks in
    record {
      named = knows.named;
      inside = knows.inside;
      legal = knows.legal;
      tracks = record {
        earlier = t.earlier;
        later = t.later;
        split = t.split;
        quiet = t.quiet;
        now = elim t.now [ inl all ↦ inl (all.0, all.1, all.2 ∙ sym same) | inr one ↦ inr (one.0, one.1, one.2, same ∙ one.3) ];
      };
    }

own-same : (calls : List Call) (line : ScriptLine) (told : LineAnswer) (k : ℕ) → line.pass ≢ k → own k (calls ++ made_by calls line told) ≡ own k calls
own-same calls line told k other =
    filter-append (λ (c : Call). c.pass == k) calls (made_by calls line told) ∙ ap (λ (x : List Call). own k calls ++ x) (made-other calls line told k other) ∙ append-nil (own k calls)

-- what a line leaves, by a book that goes on from it
record Line (t : TableView) (book : CoreLog) (calls : List Call) (old new : List Caller) (line : ScriptLine) (told : LineAnswer) : Type 0 where
  stand : AllStand t new
  know : AllKnow (calls ++ made_by calls line told) new
  met : Extends book new → IsMet book.start.cap book.start.opening (calls_in book) (own line.pass (calls ++ made_by calls line told)) told
  back : Extends book new → Extends book old

met-in : (book : CoreLog) (p : PassView) (mine : List Call) (told : LineAnswer) → IsLegal book → book.start ≡ p.seen.start → IsLegal p.seen → IsPrefix p.seen.log book.log → IsMet p.seen.start.cap p.seen.start.opening (calls_in p.seen) mine told → IsMet book.start.cap book.start.opening (calls_in book) mine told
met-in book p mine told legal start legal_p begins met =
    let is : book ≡ grown p.seen begins.0 = λ i. record { start = start i; log = sym begins.1 i } in
    let there = met-later p.seen begins.0 mine told legal_p (subst IsLegal is legal) met in
    subst (λ (x : CoreLog). IsMet x.start.cap x.start.opening (calls_in x) mine told) (sym is) there

module _ (t : TableView) (book : CoreLog) (legal : IsLegal book) (start : book.start ≡ t.start) where
  one-line : (calls : List Call) (old new : List Caller) (line : ScriptLine) (told : LineAnswer) → AllStand t old → AllKnow calls old → IsOne old line.pass line.order told new → Line t book calls old new line told
  one-line calls old new line told stand know d =
      let was : Caller = d.0 in
      let now : Caller = d.1 in
      let l = order-leaves was line.order told now d.3 in
      let named : (seen_of was).number ≡ line.pass = (stand line.pass was d.2).named in
      let at_number : Knows calls (seen_of was).number (seen_of was) = subst (λ (k : ℕ). Knows calls k (seen_of was)) (sym named) (know line.pass was d.2) in
      let all : Told calls line told now = subst (λ (k : ℕ). Told calls (record { at = line.at; pass = k; order = line.order }) told now) named (order-told calls line.at was line.order told now at_number (stand line.pass was d.2).right d.3) in
      let made : List Call = calls ++ made_by calls line told in
      let after : List Caller = slice_set old line.pass now in
      let stand_after : AllStand t after = all-stand t old line.pass (amount line.order) was now stand d.2 l in
      subst (λ (x : List Caller). Line t book calls old x line told) (sym d.4) (record {
        stand = stand_after;
        know = each-other (λ k c. Knows made k (seen_of c)) old line.pass was now d.2 (λ k c other at. knows-other calls made k (seen_of c) (own-same calls line told k other) (know k c at)) all.0;
        met = λ e. met-in book (seen_of now) (own line.pass made) told legal (start ∙ sym (stand_after line.pass now (set-here old line.pass was now d.2)).together.1) all.0.legal (e line.pass now (set-here old line.pass was now d.2)) all.1;
        back = extends-set book old line.pass was now d.2 l.later;
      })

  none-here : (calls : List Call) (callers : List Caller) (k : ℕ) (p q : PassView) → AllStand t callers → AllKnow calls callers → slice_get callers k ≡ Some (Idle p) → IsLater p q → HasMadeNone p q → AllKnow calls (slice_set callers k (Idle q))
  none-here calls callers k p q stand know at later none =
      let named : p.number ≡ k = (stand k (Idle p) at).named in
      let here : Knows calls p.number p = subst (λ (n : ℕ). Knows calls n p) (sym named) (know k (Idle p) at) in
      each-set (λ j c. Knows calls j (seen_of c)) callers k (Idle q) know (subst (λ (n : ℕ). Knows calls n q) named (made-none calls p here q later (stand k (Idle p) at).right none))

  met-line : (calls : List Call) (old new : List Caller) (line : ScriptLine) (told : LineAnswer) (q : ℕ) → AllStand t old → AllKnow calls old → line.order ≡ order.Meet q → told ≡ answer.Met → HasMet old line.pass q new → Line t book calls old new line told
  met-line calls old new line told q stand know is_meet is_met m =
      let between : List Caller = slice_set old q (Idle m.noted) in
      let first = glance-leaves m.giver m.noted m.note.0 m.note.1 in
      let next = glance-leaves m.taker m.after m.met.0.stepped m.met.1 in
      let stand_between = all-stand t old q 0 (Idle m.giver) (Idle m.noted) stand m.giver_is first in
      let know_between = none-here calls old q m.giver m.noted stand know m.giver_is first.later m.note.1 in
      let none : calls ++ made_by calls line told ≡ calls = none-made calls line told (ap (asked line.pass (length (own line.pass calls))) is_meet) in
      subst (λ (x : List Caller). Line t book calls old x line told) (sym m.now) (record {
        stand = all-stand t between line.pass 0 (Idle m.taker) (Idle m.after) stand_between m.taker_is next;
        know = subst (λ (x : List Call). AllKnow x (slice_set between line.pass (Idle m.after))) (sym none) (none-here calls between line.pass m.taker m.after stand_between know_between m.taker_is next.later m.met.1);
        met = λ e. subst (λ (x : LineAnswer). IsMet book.start.cap book.start.opening (calls_in book) (own line.pass (calls ++ made_by calls line told)) x) (sym is_met) tt;
        back = λ e. extends-set book old q (Idle m.giver) (Idle m.noted) m.giver_is first.later (extends-set book between line.pass (Idle m.taker) (Idle m.after) m.taker_is next.later e);
      })

  a-line : (calls : List Call) (old new : List Caller) (line : ScriptLine) (told : LineAnswer) → AllStand t old → AllKnow calls old → LineDone old line told new → Line t book calls old new line told
  a-line calls old new line told stand know d = elim (done-by old new line.pass line.order told d) [
    | inl one ↦ one-line calls old new line told stand know one
    | inr m ↦ met-line calls old new line told m.0 stand know m.1 m.2 m.3
  ]

  pub all-lines : (lines : List ScriptLine) (answers : List LineAnswer) (old new : List Caller) (calls : List Call) → AllStand t old → AllKnow calls old → AreDone old lines answers new → Extends book new
      → AreMet book.start.cap book.start.opening (calls_in book) calls lines answers × AllKnow (calls_made calls lines answers) new × Extends book old
  all-lines [] [] old new calls stand know done e = (tt, subst (AllKnow calls) (sym done) know, subst (Extends book) done e)
  all-lines [] (told ∷ answers) old new calls stand know done e = absurd done
  all-lines (line ∷ lines) [] old new calls stand know done e = absurd done
  all-lines (line ∷ lines) (told ∷ answers) old new calls stand know done e =
      let here = a-line calls old done.0 line told stand know done.1 in
      let rest = all-lines lines answers done.0 new (calls ++ made_by calls line told) here.stand here.know done.2 e in
      ((here.met rest.2, rest.0), rest.1, here.back rest.2)

-- at the opening nothing has been called
pub first-know : (t : TableView) → IsStart t.start → AllKnow [] (first_callers t)
first-know t ok k c at =
    let there = first-there t k c at in
    let core : CoreLog = (fresh t k).seen in
    let n : ℕ = t.start.shape.passes - 1 in
    let same : state_in core ≡ opened t.start = glances_run t.start (opened t.start) n in
    let quiet : HasCall core k → ⊥ = subst (λ (s : State). IsUnderway t.start s k → ⊥) (sym same) (λ call. false≢true call.1) in
    let none : calls_in core ≡ [] = ap (λ (s : State). history_in t.start s) same in
    subst (λ (x : Caller). Knows [] k (seen_of x)) there.0 (record {
      named = refl;
      inside = there.1;
      legal = (ok, glances_legal t.start n (let more = there.1 in omega (arith, more)));
      tracks = tracks-here core [] k quiet (glances_idle t.start k n) (ap (own k) none);
    })

-- no line asks for a call of a pass that isn't there
none-asked : (passes pass : ℕ) (lines : List ScriptLine) (answers : List LineAnswer) (calls : List Call) → passes ≤ pass → All (HasPasses passes) lines → own pass (calls_made calls lines answers) ≡ own pass calls
none-asked passes pass [] answers calls outside all = refl
none-asked passes pass (line ∷ lines) [] calls outside all = refl
none-asked passes pass (line ∷ lines) (told ∷ answers) calls outside all =
    let inside : line.pass < passes = (All-head (HasPasses passes) line lines all).0 in
    none-asked passes pass lines answers (calls ++ made_by calls line told) outside (All-tail (HasPasses passes) line lines all) ∙ own-same calls line told pass (λ same. omega (arith, same, inside, outside))

-- a caller among passes that make no call
is-there : (passes : List PassView) (k : ℕ) (c : Caller) → slice_get (map (λ (p : PassView). Idle p) passes) k ≡ Some c → (p : PassView) × (slice_get passes k ≡ Some p) × (c ≡ Idle p)
is-there [] k c at = absurd (cc at)
is-there (p ∷ passes) zero c at = (p, refl, sym (some-is (Idle p) c at))
is-there (p ∷ passes) (suc k) c at = is-there passes k c at

at-idle : (passes : List PassView) (k : ℕ) (p : PassView) → slice_get passes k ≡ Some p → slice_get (map (λ (x : PassView). Idle x) passes) k ≡ Some (Idle p)
at-idle [] k p at = absurd (cc at)
at-idle (q ∷ passes) zero p at = (let same : q ≡ p = some-view q p at in ap (λ (x : PassView). let o : Option Caller = Some (Idle x) in o) same)
  where
    some-view : (a b : PassView) → (let put : PassView → Option PassView = λ x. Some x in put a ≡ put b) → a ≡ b
    some-view a b e = cc e
at-idle (q ∷ passes) (suc k) p at = at-idle passes k p at

below-or : (k n : ℕ) → (k < n) ⊎ (n ≤ k)
below-or zero zero = inr (omega arith)
below-or zero (suc n) = inl (omega arith)
below-or (suc k) zero = inr (omega arith)
below-or (suc k) (suc n) = elim (below-or k n) [ inl less ↦ inl (omega arith) | inr more ↦ inr (omega arith) ]

-- the book goes on from what its passes have seen
closed-extends : (passes : List PassView) (book : CoreLog) → IsClosed passes book → Extends book (map (λ (p : PassView). Idle p) passes)
closed-extends passes book closed k c at =
    let there = is-there passes k c at in
    let begins = (closed.each k there.0 there.1).begins in
    let last : List Event = record { pass = 0; step = Glance } ∷ [] in
    subst (λ (x : Caller). IsPrefix (seen_of x).seen.log book.log) (sym there.2)
    (begins.0 ++ last, sym (append_assoc there.0.seen.log begins.0 last) ∙ ap (λ (l : List Event). l ++ last) begins.1 ∙ sym closed.last)

-- a run of all lines, whose table was closed
module _ (script : Script) (sound : IsSound script) (t : TableView) (opens : t.start ≡ (opened_core script).start) (answers : List LineAnswer) (passes : List PassView) (book : CoreLog)
    (stand : AllStand t (map (λ (p : PassView). Idle p) passes)) (count : length passes ≡ t.start.shape.passes) (done : AreDone (first_callers t) script.lines answers (map (λ (p : PassView). Idle p) passes))
    (start : book.start ≡ t.start) (closed : IsClosed passes book) (calls : (k : ℕ) (p : PassView) → slice_get passes k ≡ Some p → own p.number (calls_in book) ≡ own p.number (calls_in p.seen)) where
  ran : AreMet book.start.cap book.start.opening (calls_in book) [] script.lines answers × AllKnow (calls_made [] script.lines answers) (map (λ (p : PassView). Idle p) passes) × Extends book (first_callers t)
  ran = all-lines t book closed.legal start script.lines answers (first_callers t) (map (λ (p : PassView). Idle p) passes) [] (first-stand t) (first-know t (subst IsStart start closed.legal.0)) done (closed-extends passes book closed)

  made-inside : (pass : ℕ) → pass < t.start.shape.passes → own pass (calls_in book) ≡ own pass (calls_made [] script.lines answers)
  made-inside pass inside =
      let p : PassView = get_or passes pass (fresh t pass) in
      let at : slice_get passes pass ≡ Some p = slice_get-get_or passes pass (fresh t pass) (omega (arith, inside, count)) in
      let there = at-idle passes pass p at in
      let knows : Knows (calls_made [] script.lines answers) pass p = ran.1 pass (Idle p) there in
      let idle : IsIdle p.seen pass = subst (IsIdle p.seen) knows.named (stand pass (Idle p) there).right in
      subst (λ (k : ℕ). own k (calls_in book) ≡ own k (calls_in p.seen)) knows.named (calls pass p at) ∙ rests-has-all p.seen (calls_made [] script.lines answers) pass knows.legal knows.tracks idle

  made-outside : (pass : ℕ) → t.start.shape.passes ≤ pass → own pass (calls_in book) ≡ own pass (calls_made [] script.lines answers)
  made-outside pass outside =
      let same : t.start.shape.passes ≡ script.shape.passes = ap (λ (s : Start). s.shape.passes) opens in
      let book_same : book.start.shape.passes ≡ t.start.shape.passes = ap (λ (s : Start). s.shape.passes) start in
      none_outside book closed.legal pass (omega (arith, outside, book_same)) ∙ sym (none-asked script.shape.passes pass script.lines answers [] (omega (arith, outside, same)) sound.passes)

  pub is-trial : AreAll t passes → All (IsOf t) passes → IsTrial script answers book
  is-trial all together = record {
    table = t;
    opens = opens;
    passes = passes;
    all = all;
    together = together;
    done = done;
    start = start;
    closed = closed;
    told = record {
      met = subst (λ (s : Start). AreMet s.cap s.opening (calls_in book) [] script.lines answers) (start ∙ opens) ran.0;
      made = λ pass. elim (below-or pass t.start.shape.passes) [ inl inside ↦ made-inside pass inside | inr outside ↦ made-outside pass outside ];
      value_is = refl;
    };
  }

-- the passes of callers that make no call
pub idle-together : (t : TableView) (passes : List PassView) → AllStand t (map (λ (p : PassView). Idle p) passes) → All (IsOf t) passes
idle-together t passes stand k d within = (stand k (Idle (get_or passes k d)) (at-idle passes k (get_or passes k d) (slice_get-get_or passes k d within))).together

pub idle-right : (t : TableView) (passes : List PassView) → AllStand t (map (λ (p : PassView). Idle p) passes) → All (λ (p : PassView). IsIdle p.seen p.number) passes
idle-right t passes stand k d within = (stand k (Idle (get_or passes k d)) (at-idle passes k (get_or passes k d) (slice_get-get_or passes k d within))).right

pub passes-count : (t : TableView) (passes : List PassView) (lines : List ScriptLine) (answers : List LineAnswer) → AreDone (first_callers t) lines answers (map (λ (p : PassView). Idle p) passes) → length passes ≡ t.start.shape.passes
passes-count t passes lines answers done = sym (length-map passes (λ (p : PassView). Idle p)) ∙ length-done lines answers (first_callers t) (map (λ (p : PassView). Idle p) passes) done ∙ length-first t

numbers-idle : (passes : List PassView) → map (λ (c : Caller). (seen_of c).number) (map (λ (p : PassView). Idle p) passes) ≡ map (λ (p : PassView). p.number) passes
numbers-idle [] = refl
numbers-idle (p ∷ passes) = ap (λ (x : List ℕ). p.number ∷ x) (numbers-idle passes)

pub idle-all : (t : TableView) (passes : List PassView) (lines : List ScriptLine) (answers : List LineAnswer) → AllStand t (map (λ (p : PassView). Idle p) passes) → AreDone (first_callers t) lines answers (map (λ (p : PassView). Idle p) passes) → AreAll t passes
idle-all t passes lines answers stand done =
    sym (numbers-idle passes) ∙ numbers-are t (map (λ (p : PassView). Idle p) passes) t.start.shape.passes stand (length-map passes (λ (p : PassView). Idle p) ∙ passes-count t passes lines answers done)

-- the text of a run, with the value of its book
pub text-is : (script : Script) (book : CoreLog) (answers : List LineAnswer) (text now : List ℕ) (v : ℕ) → book.start ≡ (opened_core script).start → v ≡ value book.start.cap book.start.opening (calls_in book) → text ≡ flat_map answer_line answers
    → now ≡ text ++ value_line v → now ≡ answers_text answers (value no_cap script.opening (calls_in book))
text-is script book answers text now v start is appended pushed =
    pushed ∙ ap (λ (x : List ℕ). x ++ value_line v) appended
    ∙ ap (λ (n : ℕ). flat_map answer_line answers ++ value_line n) (is ∙ ap (λ (s : Start). value s.cap s.opening (calls_in book)) start)
