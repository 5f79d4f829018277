-- Lines that are done on a table one after the other, and the callers that they leave.
use Rattle.std.specs.Prelude.{if◌then◌else◌, option_map}
use Rattle.std.specs.List.{range_with_len}
use Rattle.fn_model.proofs.Lists.{has_range, none_found}
use Rattle.std.proofs.Common.{◌≡◌, ◌≢◌, ◌⊎◌, inl, inr, ℕ, zero, suc, ◌+◌, ◌-◌, ◌<◌, ◌≤◌, Bool, true, false, List, [], ◌∷◌, ◌++◌, Option, None, Some, All, map, length, get_or, take, drop, slice_get, slice_set, refl, sym, ◌∙◌, ap, subst, arith, append_assoc, flat_map}
use Rattle.std.proofs.lemmas.Grind.{flat_map-append}
use Rattle.std.proofs.lemmas.List.{append-nil, drop_all, length-map, length-set, take-append-drop, take_all, take_more}
use Rattle.std.proofs.lemmas.Option.{slice_get-get_or}
use Rattle.running.specs.Running.{numbers_from, upto}
use Rattle.fn_table.specs.Seen.{TableView, PassView, IsOf, fresh, fresh_passes}
use Rattle.fn_table.proofs.Glances.{glances_idle, glances_run}
use Rattle.fn_core.specs.State.{State, opened}
use Rattle.fn_core.specs.declared.Start.{Start}
use Rattle.fn_core.specs.Calls.{left_of}
use Rattle.std.proofs.lemmas.List.FromFn.{get_or-map-range_with_len}
use Rattle.script_text.specs.Sound.{allowance}
use Rattle.script_text.specs.declared.scripts.Script.{Script}
use Rattle.script_text.specs.declared.scripts.ScriptLine.{ScriptLine}
use Rattle.script_run.specs.declared.lines.LineAnswer.{LineAnswer}
use Rattle.script_run.specs.declared.play.PlayFault.{PlayFault}
use Rattle.script_run.specs.declared.play.PlayFault.TheVariants.{NoMemory, Unfinished}
use Rattle.script_run.specs.declared.trial.Caller.{Caller}
use Rattle.script_run.specs.declared.trial.Caller.TheVariants.{Idle, Pending}
use Rattle.script_run.specs.Lines.{answer_line}
use Rattle.script_run.specs.Play.{fault_by, least_busy, opened_core}
use Rattle.script_run.specs.Trial.{AreDone, AreHandedBack, IsHalted, LineDone, first_callers, rests_in, seen_of, stop_at}
use Rattle.script_run.specs.Slots.{AllStand, AreFull, HaveLeft, StopsAt, Stands, TookLines, idle_in, idle_passes, present}
use Rattle.script_run.proofs.Advance.{After, done-by, line-after}
use Rattle.script_run.proofs.OneByOne.{lines-left}
use Rattle.script_run.proofs.Replaced.{full-some, present-some}
use Rattle.script_run.proofs.WholeRun.{not-false}

-- lines, and further ones
pub done-then : (a b : List ScriptLine) (x y : List LineAnswer) (old mid new : List Caller) → AreDone old a x mid → AreDone mid b y new → AreDone old (a ++ b) (x ++ y) new
done-then [] b [] y old mid new first next = subst (λ (s : List Caller). AreDone s b y new) first next
done-then [] b (told ∷ x) y old mid new first next = absurd first
done-then (line ∷ a) b [] y old mid new first next = absurd first
done-then (line ∷ a) b (told ∷ x) y old mid new first next = (first.0, first.1, done-then a b x y first.0 mid new first.2 next)

pub took-then : (old mid new : List Caller) (a b : List ScriptLine) (before between text : List ℕ) → TookLines old a before mid between → TookLines mid b between new text → TookLines old (a ++ b) before new text
took-then old mid new a b before between text first next = record {
  answers = first.answers ++ next.answers;
  done = done-then a b first.answers next.answers old mid new first.done next.done;
  appended = next.appended ∙ ap (λ (x : List ℕ). x ++ flat_map answer_line next.answers) first.appended ∙ append_assoc before (flat_map answer_line first.answers) (flat_map answer_line next.answers)
      ∙ ap (λ (x : List ℕ). before ++ x) (sym (flat_map-append answer_line first.answers next.answers));
}

pub took-none : (old : List Caller) (text : List ℕ) → TookLines old [] text old text
took-none old text = record { answers = []; done = refl; appended = sym (append-nil text) }

pub took-one : (old new : List Caller) (line : ScriptLine) (told : LineAnswer) (before text : List ℕ) → LineDone old line told new → text ≡ before ++ answer_line told → TookLines old (line ∷ []) before new text
took-one old new line told before text done is = record {
  answers = told ∷ [];
  done = (new, done, refl);
  appended = is ∙ ap (λ (x : List ℕ). before ++ x) (sym (append-nil (answer_line told)));
}

pub lines-after : (t : TableView) (lines rest : List ScriptLine) (answers : List LineAnswer) (old new : List Caller) → AreDone old lines answers new → After t old (lines ++ rest) → After t new rest
lines-after t [] rest [] old new done a = subst (λ (s : List Caller). After t s rest) (sym done) a
lines-after t [] rest (told ∷ answers) old new done a = absurd done
lines-after t (line ∷ lines) rest [] old new done a = absurd done
lines-after t (line ∷ lines) rest (told ∷ answers) old new done a = lines-after t lines rest answers done.0 new done.2 (line-after t old done.0 line (lines ++ rest) told a done.1)

-- one more of some lines, which stand at a place
module _ (lines : List ScriptLine) (i : ℕ) (line d : ScriptLine) (within : i < length lines) (is : line ≡ get_or lines i d) where
  pub took-next : (old mid new : List Caller) (before between text : List ℕ) → TookLines old (take i lines) before mid between → TookLines mid (line ∷ []) between new text → TookLines old (take (i + 1) lines) before new text
  took-next old mid new before between text first next =
      let e : take (i + 1) lines ≡ take i lines ++ line ∷ [] = take_more lines i d within ∙ ap (λ (x : ScriptLine). take i lines ++ x ∷ []) (sym is) in
      subst (λ (x : List ScriptLine). TookLines old x before new text) (sym e) (took-then old mid new (take i lines) (line ∷ []) before between text first next)

  pub after-here : (t : TableView) (mid : List Caller) → After t mid (drop i lines) → After t mid (line ∷ drop (i + 1) lines)
  after-here t mid a = subst (After t mid) (lines-left lines i line d within is) a

  pub after-next : (t : TableView) (mid new : List Caller) (between text : List ℕ) → After t mid (drop i lines) → TookLines mid (line ∷ []) between new text → After t new (drop (i + 1) lines)
  after-next t mid new between text a next = lines-after t (line ∷ []) (drop (i + 1) lines) next.answers mid new next.done (after-here t mid a)

  pub stops-here : (old mid : List Caller) (before between : List ℕ) (fault : PlayFault) → TookLines old (take i lines) before mid between → fault_by (rests_in mid) line.at line.pass line.order ≡ Some fault → StopsAt old lines fault mid
  stops-here old mid before between fault first why = record {
    earlier = take i lines;
    line = line;
    rest = drop (i + 1) lines;
    lines_are = sym (take-append-drop i lines) ∙ ap (λ (x : List ScriptLine). take i lines ++ x) (lines-left lines i line d within is);
    answers = first.answers;
    done = first.done;
    stops = why;
  }

-- lines leave as many callers
length-line : (old new : List Caller) (line : ScriptLine) (told : LineAnswer) → LineDone old line told new → length new ≡ length old
length-line old new line told d = elim (done-by old new line.pass line.order told d) [
  | inl one ↦ ap length one.4 ∙ length-set old line.pass one.1
  | inr m ↦ ap length m.3.now ∙ length-set (slice_set old m.0 (Idle m.3.noted)) line.pass (Idle m.3.after) ∙ length-set old m.0 (Idle m.3.noted)
]

pub length-done : (lines : List ScriptLine) (answers : List LineAnswer) (old new : List Caller) → AreDone old lines answers new → length new ≡ length old
length-done [] [] old new done = ap length done
length-done [] (told ∷ answers) old new done = absurd done
length-done (line ∷ lines) [] old new done = absurd done
length-done (line ∷ lines) (told ∷ answers) old new done = length-done lines answers done.0 new done.2 ∙ length-line old done.0 line told done.1

-- the callers of a table that opens
length-from : (first n : ℕ) → length (numbers_from first n) ≡ n
length-from first zero = refl
length-from first (suc n) = ap (λ (k : ℕ). suc k) (length-from (suc first) n)

pub length-first : (t : TableView) → length (first_callers t) ≡ t.start.shape.passes
length-first t = length-map (fresh_passes t) (λ (p : PassView). Idle p) ∙ length-map (upto t.start.shape.passes) (fresh t) ∙ length-from 0 t.start.shape.passes

first-from : (t : TableView) (first n k : ℕ) (c : Caller) → slice_get (map Idle (map (fresh t) (numbers_from first n))) k ≡ Some c → (Idle (fresh t (first + k)) ≡ c) × (k < n)
first-from t first zero k c is = absurd (cc is)
first-from t first (suc n) zero c is = ((let e : Idle (fresh t first) ≡ c = cc is in ap (λ (j : ℕ). Idle (fresh t j)) (omega arith) ∙ e), omega arith)
first-from t first (suc n) (suc k) c is =
    let more = first-from t (suc first) n k c is in
    (ap (λ (j : ℕ). Idle (fresh t j)) (omega arith) ∙ more.0, (let less = more.1 in omega arith))

pub first-there : (t : TableView) (k : ℕ) (c : Caller) → slice_get (first_callers t) k ≡ Some c → (Idle (fresh t k) ≡ c) × (k < t.start.shape.passes)
first-there t k c is = let all = first-from t 0 t.start.shape.passes k c is in (ap (λ (j : ℕ). Idle (fresh t j)) (omega arith) ∙ all.0, all.1)

pub first-stand : (t : TableView) → AllStand t (first_callers t)
first-stand t k c is =
    let there = first-there t k c is in
    subst (Stands t k) there.0 (record { together = (refl, refl); named = refl; right = glances_idle t.start k (t.start.shape.passes - 1) })

pub first-left : (t : TableView) (script : Script) → t.start ≡ (opened_core script).start → HaveLeft (first_callers t) script.lines
first-left t script start k c is =
    let there = first-there t k c is in
    let inside : k < script.shape.passes = subst (λ (s : Start). k < s.shape.passes) start there.1 in
    let left : left_of (fresh t k).seen k ≡ get_or t.start.allowances k 0 = ap (λ (s : State). (s.callers k).left) (glances_run t.start (opened t.start) (t.start.shape.passes - 1)) in
    let whole : get_or t.start.allowances k 0 ≡ allowance script.lines k = ap (λ (s : Start). get_or s.allowances k 0) start ∙ get_or-map-range_with_len (allowance script.lines) 0 script.shape.passes k k 0 inside (omega arith) in
    subst (λ (x : Caller). allowance script.lines k ≤ left_of (seen_of x).seen k) there.0 (omega (arith, left, whole))

-- the callers by number
numbers-all : (callers : List Caller) (first : ℕ) → ((k : ℕ) (c : Caller) → slice_get callers k ≡ Some c → (seen_of c).number ≡ first + k) → map (λ (c : Caller). (seen_of c).number) callers ≡ numbers_from first (length callers)
numbers-all [] first each = refl
numbers-all (c ∷ callers) first each =
    let here : (seen_of c).number ≡ first = each 0 c refl ∙ omega arith in
    let more = numbers-all callers (suc first) (λ k d is. each (suc k) d is ∙ omega arith) in
    λ i. here i ∷ more i

pub numbers-are : (t : TableView) (callers : List Caller) (n : ℕ) → AllStand t callers → length callers ≡ n → map (λ (c : Caller). (seen_of c).number) callers ≡ upto n
numbers-are t callers n all size = numbers-all callers 0 (λ k c is. (all k c is).named ∙ omega arith) ∙ ap (λ (m : ℕ). upto m) size

pub together-all : (t : TableView) (callers : List Caller) → AllStand t callers → All (λ (c : Caller). IsOf t (seen_of c)) callers
together-all t callers all k d within = (all k (get_or callers k d) (slice_get-get_or callers k d within)).together

-- where none is in mid-call all are idle passes
idle-there : (slots : List (Option Caller)) → AreFull slots → ((k : ℕ) → k < length (present slots) → rests_in (present slots) k ≡ true) → present slots ≡ map (λ (p : PassView). Idle p) (idle_passes slots)
idle-there [] full all = refl
idle-there (None ∷ slots) full all = absurd (by (present slots) full)
  where
    by : (cs : List Caller) → map (λ (c : Caller). Some c) cs ≡ None ∷ slots → ⊥
    by [] e = cc e
    by (c ∷ cs) e = (let x : (let o : Option Caller = Some c in o) ≡ None = cc e in cc x)
idle-there (Some (Idle p) ∷ slots) full all = ap (λ (x : List Caller). Idle p ∷ x) (idle-there slots (let e : map (λ (c : Caller). Some c) (present slots) ≡ slots = cc full in e) (λ k inside. all (suc k) (omega (arith, inside))))
idle-there (Some (Pending p) ∷ slots) full all = absurd (let e = all 0 (omega arith) in cc e)

-- one slot more
pub present-more : (slots : List (Option Caller)) (slot : Option Caller) → present (slots ++ slot ∷ []) ≡ present slots ++ present (slot ∷ [])
present-more [] slot = refl
present-more (Some c ∷ slots) slot = ap (λ (x : List Caller). c ∷ x) (present-more slots slot)
present-more (None ∷ slots) slot = present-more slots slot

pub idle-more : (slots : List (Option Caller)) (slot : Option Caller) → idle_passes (slots ++ slot ∷ []) ≡ idle_passes slots ++ idle_passes (slot ∷ [])
idle-more [] slot = refl
idle-more (Some (Idle p) ∷ slots) slot = ap (λ (x : List PassView). p ∷ x) (idle-more slots slot)
idle-more (Some (Pending p) ∷ slots) slot = idle-more slots slot
idle-more (None ∷ slots) slot = idle-more slots slot

pub idle-one : (slot : Option Caller) (found : Option PassView) (p : PassView) → found ≡ idle_in slot → found ≡ Some p → idle_passes (slot ∷ []) ≡ p ∷ []
idle-one (Some (Idle q)) found p is at = (let put : PassView → Option PassView = λ x. Some x in let e : put q ≡ put p = sym is ∙ at in let same : q ≡ p = cc e in ap (λ (x : PassView). x ∷ []) same)
idle-one (Some (Pending q)) found p is at = absurd (let e = sym is ∙ at in cc e)
idle-one None found p is at = absurd (let e = sym is ∙ at in cc e)

pub idle-none-more : (slot : Option Caller) (found : Option PassView) → found ≡ idle_in slot → found ≡ None → idle_passes (slot ∷ []) ≡ []
idle-none-more (Some (Idle q)) found is at = absurd (let e = sym is ∙ at in cc e)
idle-none-more (Some (Pending q)) found is at = refl
idle-none-more None found is at = refl

-- as many slots as callers
pub slots-count : (slots : List (Option Caller)) → AreFull slots → length slots ≡ length (present slots)
slots-count slots full = ap length (sym full) ∙ length-map (present slots) (λ (c : Caller). Some c)

-- where none is in mid-call all rest
rest-all : (rest : ℕ → Bool) (n k : ℕ) → least_busy rest n ≡ None → k < n → rest k ≡ true
rest-all rest n k none inside = not-false (rest k) (none_found (λ q. if rest q then false else true) (range_with_len 0 n) k none (has_range 0 n k (omega arith) (omega (arith, inside))))

pub all-idle : (slots : List (Option Caller)) (n : ℕ) (passes : List PassView) → AreFull slots → n ≡ length slots → least_busy (rests_in (present slots)) n ≡ None → passes ≡ idle_passes slots → present slots ≡ map (λ (p : PassView). Idle p) passes
all-idle slots n passes full size none is =
    let count = slots-count slots full in
    idle-there slots full (λ k inside. rest-all (rests_in (present slots)) n k none (omega (arith, inside, size, count))) ∙ ap (map (λ (p : PassView). Idle p)) (sym is)

-- the callers that a refusal hands back
pub is-halted : (script : Script) (t : TableView) (fault : PlayFault) (callers : List Caller) (earlier rest : List ScriptLine) (answers : List LineAnswer) → t.start ≡ (opened_core script).start → script.lines ≡ earlier ++ rest
    → AreDone (first_callers t) earlier answers callers → stop_at script.shape.passes callers rest ≡ Some fault → AllStand t callers → IsHalted script fault callers
is-halted script t fault callers earlier rest answers opens lines done stops stand = record {
  table = t;
  opens = opens;
  earlier = earlier;
  rest = rest;
  lines = lines;
  answers = answers;
  done = done;
  stops = stops;
  numbers = numbers-are t callers script.shape.passes stand (length-done earlier answers (first_callers t) callers done ∙ length-first t ∙ ap (λ (s : Start). s.shape.passes) opens);
  together = together-all t callers stand;
}

pub handed-back : (script : Script) (fault found : PlayFault) (callers all : List Caller) → ((found ≡ NoMemory) × (all ≡ [])) ⊎ ((found ≡ fault) × (fault ≢ NoMemory) × (all ≡ callers)) → (fault ≢ NoMemory → IsHalted script fault callers) → AreHandedBack script found all
handed-back script fault found callers all (inl none) halted = inl none
handed-back script fault found callers all (inr same) halted = inr (subst (λ (x : PlayFault × List Caller). IsHalted script x.0 x.1) (λ i. (sym same.0 i, sym same.2 i)) (halted same.1))

-- at the end a pass is in mid-call
pub unfinished-halted : (script : Script) (t : TableView) (callers : List Caller) (text : List ℕ) (n pass : ℕ) → t.start ≡ (opened_core script).start → n ≡ script.shape.passes → TookLines (first_callers t) script.lines [] callers text → AllStand t callers
    → least_busy (rests_in callers) n ≡ Some pass → IsHalted script (Unfinished pass) callers
unfinished-halted script t callers text n pass opens is took stand busy =
    is-halted script t (Unfinished pass) callers script.lines [] took.answers opens (sym (append-nil script.lines)) took.done
    (ap (λ (m : ℕ). option_map (λ (p : ℕ). Unfinished p) (least_busy (rests_in callers) m)) (sym is) ∙ ap (option_map (λ (p : ℕ). Unfinished p)) busy) stand

-- a line that can't be done
pub line-halted : (script : Script) (t : TableView) (fault : PlayFault) (callers : List Caller) → t.start ≡ (opened_core script).start → StopsAt (first_callers t) script.lines fault callers → AllStand t callers → IsHalted script fault callers
line-halted script t fault callers opens s stand = is-halted script t fault callers s.earlier (s.line ∷ s.rest) s.answers opens s.lines_are s.done s.stops stand

-- a fault of one of the lines is one of them all
pub refused-at : (lines : List ScriptLine) (i : ℕ) (line d : ScriptLine) → i < length lines → line ≡ get_or lines i d → (old : List Caller) (mid new : List (Option Caller)) (before between : List ℕ) (fault : PlayFault) → TookLines old (take i lines) before (present mid) between
    → (fault ≡ NoMemory) ⊎ ((new ≡ mid) × (fault_by (rests_in (present mid)) line.at line.pass line.order ≡ Some fault)) → (fault ≡ NoMemory) ⊎ StopsAt old lines fault (present new)
refused-at lines i line d within is old mid new before between fault took (inl none) = inl none
refused-at lines i line d within is old mid new before between fault took (inr why) = inr (subst (λ (x : List (Option Caller)). StopsAt old lines fault (present x)) (sym why.0) (stops-here lines i line d within is old (present mid) before between fault took why.1))

-- as many slots as the script has passes
pub as-many : (t : TableView) (script : Script) (slots : List (Option Caller)) (text : List ℕ) → t.start ≡ (opened_core script).start → AreFull slots → TookLines (first_callers t) script.lines [] (present slots) text → length slots ≡ script.shape.passes
as-many t script slots text opens full took =
    slots-count slots full ∙ length-done script.lines took.answers (first_callers t) (present slots) took.done ∙ length-first t ∙ ap (λ (s : Start). s.shape.passes) opens

-- slots that were lent, and are back
pub back-is : (len : ℕ) (new items now : List (Option Caller)) → length new ≡ length now → now ≡ items → length now ≡ len → take len (new ++ drop (length new) items) ≡ new
back-is len new items now same is size =
    let e : length new ≡ length items = same ∙ ap length is in
    let none : drop (length new) items ≡ [] = drop_all (length new) items (omega (arith, e)) in
    ap (λ (x : List (Option Caller)). take len (new ++ x)) none ∙ ap (take len) (append-nil new) ∙ take_all len new (omega (arith, same, size))

-- the first callers in their slots
pub seated-first : (t : TableView) (passes : List PassView) → passes ≡ fresh_passes t → map (λ (p : PassView). let slot : Option Caller = Some (Idle p) in slot) passes ≡ map (λ (c : Caller). let slot : Option Caller = Some c in slot) (first_callers t)
seated-first t passes is = ap (map (λ (p : PassView). let slot : Option Caller = Some (Idle p) in slot)) is ∙ twice (fresh_passes t)
  where
    twice : (ps : List PassView) → map (λ (p : PassView). let slot : Option Caller = Some (Idle p) in slot) ps ≡ map (λ (c : Caller). let slot : Option Caller = Some c in slot) (map Idle ps)
    twice [] = refl
    twice (p ∷ ps) = ap (λ (x : List (Option Caller)). Some (Idle p) ∷ x) (twice ps)

-- slots that hold the first callers
pub first-slots : (t : TableView) (slots : List (Option Caller)) → slots ≡ map (λ (c : Caller). Some c) (first_callers t) → AreFull slots × (present slots ≡ first_callers t) × (length slots ≡ t.start.shape.passes)
first-slots t slots is =
    let there = ap present is ∙ present-some (first_callers t) in
    let full = subst AreFull (sym is) (full-some (first_callers t)) in
    (full, there, slots-count slots full ∙ ap length there ∙ length-first t)

pub took-same : (old was new now : List Caller) (lines these : List ScriptLine) (before first text : List ℕ) → was ≡ old → these ≡ lines → first ≡ before → now ≡ new → TookLines was these first now text → TookLines old lines before new text
took-same old was new now lines these before first text a b c d took =
    subst (λ (x : List Caller). TookLines x lines before new text) a (subst (λ (x : List ScriptLine). TookLines was x before new text) b (subst (λ (x : List ℕ). TookLines was these x new text) c (subst (λ (x : List Caller). TookLines was these first x text) d took)))

pub stops-same : (old was new now : List Caller) (lines these : List ScriptLine) (fault : PlayFault) → was ≡ old → these ≡ lines → now ≡ new → StopsAt was these fault now → StopsAt old lines fault new
stops-same old was new now lines these fault a b d stops =
    subst (λ (x : List Caller). StopsAt x lines fault new) a (subst (λ (x : List ScriptLine). StopsAt was x fault new) b (subst (λ (x : List Caller). StopsAt was these fault x) d stops))
