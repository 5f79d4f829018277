-- Lines that are done one after the other.
use Rattle.std.proofs.Common.{◌≡◌, ◌≢◌, ℕ, zero, suc, ◌+◌, ◌<◌, ◌≤◌, Bool, true, false, List, [], ◌∷◌, ◌++◌, None, Some, Result, Ok, Err, length, get_or, drop, refl, sym, ◌∙◌, ap, subst, arith, inl, inr, append_assoc, add-one, drop-cons, eq-eqb, ne_eqb}
use Rattle.std.specs.Prelude.{◌==◌, if◌then◌else◌}
use Rattle.std.specs.List.{range_with_len, find}
use Rattle.std.proofs.lemmas.Bool.{cases_eq}
use Rattle.std.proofs.lemmas.List.Concat.{flat_map-cons}
use Rattle.std.proofs.lemmas.List.FromFn.{get_or-map-range_with_len}
use Rattle.std.proofs.lemmas.List.Sums.{sum_by-cons}
use Rattle.fn_core.specs.Calls.{CoreLog, HasCall, IsIdle, left_of, state_in}
use Rattle.fn_core.specs.State.{Caller}
use Rattle.script_text.specs.Order.{amount}
use Rattle.script_text.specs.Sound.{allowance}
use Rattle.script_text.specs.declared.scripts.Script.{Script}
use Rattle.script_text.specs.declared.scripts.ScriptLine.{ScriptLine}
use Rattle.script_run.specs.declared.lines.LineAnswer.{LineAnswer}
use Rattle.script_run.specs.declared.play.PlayFault.{PlayFault}
use Rattle.script_run.specs.Lines.{answer_line, answers_text, value_line}
use Rattle.script_run.specs.Play.{after_line, answered, least_busy, opened_core, order_answer, order_fault, play_lines, rests, run_text, unfinished}
use Rattle.script_run.specs.Doing.{IsReady, Leaves, onto}

-- a line that can be done
pub play-more : (core : CoreLog) (line : ScriptLine) (rest : List ScriptLine) → order_fault (state_in core) line.at line.pass line.order ≡ None
    → play_lines core (line ∷ rest) ≡ answered (order_answer core.start (state_in core) line.pass line.order) (play_lines (after_line core line) rest)
play-more core line rest e = rw e refl

-- .. and one that can't
pub play-refused : (core : CoreLog) (line : ScriptLine) (rest : List ScriptLine) (fault : PlayFault) → order_fault (state_in core) line.at line.pass line.order ≡ Some fault
    → play_lines core (line ∷ rest) ≡ Err fault
play-refused core line rest fault e = rw e refl

-- an answer goes from what is to come into the text
pub onto-answered : (text : List ℕ) (answer : LineAnswer) (more : Result (List LineAnswer × ℕ) PlayFault) → onto text (answered answer more) ≡ onto (text ++ answer_line answer) more
onto-answered text answer (Ok run) =
    let all : text ++ answers_text (answer ∷ run.0) run.1 ≡ (text ++ answer_line answer) ++ answers_text run.0 run.1 =
    ap (λ x. text ++ (x ++ value_line run.1)) (flat_map-cons answer_line answer run.0) ∙ ap (λ x. text ++ x) (append_assoc (answer_line answer) _ _) ∙ sym (append_assoc text (answer_line answer) _) in
    ap Ok all
onto-answered text answer (Err fault) = refl

pub onto-done : (core next : CoreLog) (text now : List ℕ) (line : ScriptLine) (answer : LineAnswer) (rest : List ScriptLine) → order_fault (state_in core) line.at line.pass line.order ≡ None
    → answer ≡ order_answer core.start (state_in core) line.pass line.order → next ≡ after_line core line → now ≡ text ++ answer_line answer
    → onto text (play_lines core (line ∷ rest)) ≡ onto now (play_lines next rest)
onto-done core next text now line answer rest none told taken pushed =
    ap (onto text) (play-more core line rest none) ∙ onto-answered text _ _ ∙ sym (rw (pushed, told, taken) refl)

-- a fault of what is to come is one of the whole
pub onto-refused : (text : List ℕ) (more : Result (List LineAnswer × ℕ) PlayFault) (fault : PlayFault) → onto text more ≡ Err fault → more ≡ Err fault
onto-refused text (Ok run) fault e = absurd (cc e)
onto-refused text (Err found) fault e = (let P : found ≡ fault = cc e in ap Err P)

pub onto-nothing : (more : Result (List LineAnswer × ℕ) PlayFault) → onto [] more ≡ run_text more
onto-nothing (Ok run) = refl
onto-nothing (Err found) = refl

-- what a line asks of its own pass, and of others
pub share-own : (line : ScriptLine) (rest : List ScriptLine) (pass : ℕ) → line.pass ≡ pass → allowance (line ∷ rest) pass ≡ amount line.order + allowance rest pass
share-own line rest pass own =
    let e : (line.pass == pass) ≡ true = eq-eqb line.pass pass own in
    let part : (if line.pass == pass then amount line.order else 0) ≡ amount line.order = rw e refl in
    sum_by-cons (λ (l : ScriptLine). if l.pass == pass then amount l.order else 0) line rest ∙ ap (λ n. n + allowance rest pass) part

pub share-other : (line : ScriptLine) (rest : List ScriptLine) (pass : ℕ) → line.pass ≢ pass → allowance (line ∷ rest) pass ≡ 0 + allowance rest pass
share-other line rest pass other =
    let e : (line.pass == pass) ≡ false = ne_eqb line.pass pass other in
    let part : (if line.pass == pass then amount line.order else 0) ≡ 0 = rw e refl in
    sum_by-cons (λ (l : ScriptLine). if l.pass == pass then amount l.order else 0) line rest ∙ ap (λ n. n + allowance rest pass) part

-- the first of some lines asks for no more than its pass has left
pub ready-left : (core : CoreLog) (line : ScriptLine) (rest : List ScriptLine) → IsReady core (line ∷ rest) → line.pass < core.start.shape.passes → amount line.order ≤ left_of core line.pass
ready-left core line rest h there =
    let all = share-own line rest line.pass refl in
    let enough = h.enough line.pass there in
    omega arith

enough-next : (old new : CoreLog) (line : ScriptLine) (rest : List ScriptLine) (pass : ℕ) → allowance (line ∷ rest) pass ≤ left_of old pass → Leaves old new line.pass (amount line.order) → allowance rest pass ≤ left_of new pass
enough-next old new line rest pass enough leaves =
    elim (cases_eq line.pass pass) [
      | inl own ↦
          let all = share-own line rest pass own in
          let left : left_of old pass ≤ left_of new pass + amount line.order = rw own at leaves.left in
          omega arith
      | inr other ↦
          let all = share-other line rest pass other in
          let same : left_of new pass ≡ left_of old pass = ap (λ (x : Caller). x.left) (leaves.others pass (λ e. other (sym e))).0 in
          omega arith
    ]

underway-next : (old new : CoreLog) (line : ScriptLine) (pass : ℕ) → ((IsIdle old pass → ⊥) → HasCall old pass) → Leaves old new line.pass (amount line.order) → (IsIdle new pass → ⊥) → HasCall new pass
underway-next old new line pass before leaves busy =
    elim (cases_eq line.pass pass) [
      | inl own ↦
          let P : ℕ → Type 0 = λ n. ((IsIdle new n → ⊥) → HasCall new n) in
          subst P own leaves.underway busy
      | inr other ↦
          let same = leaves.others pass (λ e. other (sym e)) in
          same.1 (before (λ idle. busy (ap (λ (x : Caller). x.position) same.0 ∙ idle)))
    ]

-- after a line the further ones can be done
pub ready-next : (old new : CoreLog) (line : ScriptLine) (rest : List ScriptLine) → IsReady old (line ∷ rest) → Leaves old new line.pass (amount line.order) → IsReady new rest
ready-next old new line rest h leaves =
    let shape : (pass : ℕ) → pass < new.start.shape.passes → pass < old.start.shape.passes = λ pass below. (rw (← leaves.start) below) in
    record {
      enough = λ pass below. enough-next old new line rest pass (h.enough pass (shape pass below)) leaves;
      underway = λ pass below. underway-next old new line pass (h.underway pass (shape pass below)) leaves;
    }

-- the lines that are left, with the next of them first
pub lines-left : (lines : List ScriptLine) (i : ℕ) (line d : ScriptLine) → i < length lines → line ≡ get_or lines i d → drop i lines ≡ line ∷ drop (i + 1) lines
lines-left lines i line d within is = rw (is, add-one) (drop-cons lines i d within)

pub so-far-next : (first now next : CoreLog) (start before after : List ℕ) (lines : List ScriptLine) (i : ℕ) (line d : ScriptLine) → i < length lines → line ≡ get_or lines i d
    → onto start (play_lines first lines) ≡ onto before (play_lines now (drop i lines))
    → ((rest : List ScriptLine) → onto before (play_lines now (line ∷ rest)) ≡ onto after (play_lines next rest))
    → onto start (play_lines first lines) ≡ onto after (play_lines next (drop (i + 1) lines))
so-far-next first now next start before after lines i line d within is so_far done =
    so_far ∙ ap (λ x. onto before (play_lines now x)) (lines-left lines i line d within is) ∙ done (drop (i + 1) lines)

pub ready-on : (now next : CoreLog) (lines : List ScriptLine) (i : ℕ) (line d : ScriptLine) → i < length lines → line ≡ get_or lines i d
    → IsReady now (drop i lines) → Leaves now next line.pass (amount line.order) → IsReady next (drop (i + 1) lines)
ready-on now next lines i line d within is ready leaves =
    ready-next now next line (drop (i + 1) lines) (subst (λ x. IsReady now x) (lines-left lines i line d within is) ready) leaves

pub refused-at : (first now : CoreLog) (start before : List ℕ) (lines : List ScriptLine) (i : ℕ) (line d : ScriptLine) (fault : PlayFault) → i < length lines → line ≡ get_or lines i d
    → onto start (play_lines first lines) ≡ onto before (play_lines now (drop i lines))
    → play_lines now (line ∷ drop (i + 1) lines) ≡ Err fault → play_lines first lines ≡ Err fault
refused-at first now start before lines i line d fault within is so_far refused =
    onto-refused start (play_lines first lines) fault (so_far ∙ ap (λ x. onto before (play_lines now x)) (lines-left lines i line d within is) ∙ ap (onto before) refused)

-- the first number of a range of which a test holds
find-none : (test : ℕ → Bool) (a n : ℕ) → ((k : ℕ) → a ≤ k → k < a + n → test k ≡ false) → find test (range_with_len a n) ≡ None
find-none test a zero all = refl
find-none test a (suc n) all = rw (all a (omega arith) (omega arith)) (find-none test (a + 1) n (λ k above below. all k (omega arith) (omega arith)))

find-some : (test : ℕ → Bool) (a n i : ℕ) → a ≤ i → i < a + n → test i ≡ true → ((k : ℕ) → a ≤ k → k < i → test k ≡ false) → find test (range_with_len a n) ≡ Some i
find-some test a zero i above below here before = absurd (omega arith)
find-some test a (suc n) i above below here before =
    elim (cases_eq a i) [
      | inl same ↦ (let holds : test a ≡ true = rw same here in rw (holds, same) refl)
      | inr other ↦ rw (before a (omega arith) (omega arith)) (find-some test (a + 1) n i (omega arith) (omega arith) here (λ k a b. before k (omega arith) b))
    ]

-- where all passes rest none is in mid-call, and else the first that doesn't
pub none-busy : (rest : ℕ → Bool) (n : ℕ) → ((k : ℕ) → k < n → rest k ≡ true) → least_busy rest n ≡ None
none-busy rest n all = find-none _ 0 n (λ k above below. rw (all k (omega arith)) refl)

pub least-is : (rest : ℕ → Bool) (n pass : ℕ) → pass < n → rest pass ≡ false → ((k : ℕ) → k < pass → rest k ≡ true) → least_busy rest n ≡ Some pass
least-is rest n pass there busy before = find-some _ 0 n pass (omega arith) (omega arith) (rw busy refl) (λ k above below. rw (before k below) refl)

pub all-rest : (core : CoreLog) → ((k : ℕ) → k < core.start.shape.passes → rests (state_in core) k ≡ true) → unfinished core ≡ None
all-rest core all = none-busy (rests (state_in core)) core.start.shape.passes all

pub first-busy : (core : CoreLog) (pass : ℕ) → pass < core.start.shape.passes → rests (state_in core) pass ≡ false → ((k : ℕ) → k < pass → rests (state_in core) k ≡ true) → unfinished core ≡ Some pass
first-busy core pass there busy before = least-is (rests (state_in core)) core.start.shape.passes pass there busy before

-- at its opening a script's lines can be done
pub ready-first : (core : CoreLog) (script : Script) → core ≡ opened_core script → IsReady core script.lines
ready-first core script opened =
    let P : CoreLog → Type 0 = λ x. IsReady x script.lines in
    let first : P (opened_core script) = record {
      enough = (λ pass below.
          let each : left_of (opened_core script) pass ≡ allowance script.lines pass = get_or-map-range_with_len (allowance script.lines) 0 script.shape.passes pass pass 0 below (omega arith) in
          omega arith);
      underway = λ pass below busy. absurd (busy refl);
    } in
    subst P (sym opened) first
