-- The replies of a script's run are those of one history of the calls that its lines make.
use Rattle.std.proofs.Common.{◌≡◌, inl, inr, ℕ, ◌+◌, ◌^◌, ◌<◌, Bool, true, false, List, [], ◌∷◌, ◌++◌, Option, None, Some, Result, Ok, Err, length, refl, sym, ◌∙◌, ap, subst, arith}
use Rattle.std.specs.Prelude.{if◌then◌else◌}
use Rattle.std.specs.List.{All, range_with_len, sum}
use Rattle.std.proofs.lemmas.Bool.{false≢true}
use Rattle.std.proofs.lemmas.List.{get_or_append_left, append-nil, length-append}
use Rattle.std.proofs.lemmas.List.Elements.{All-append, All-head, All-nil, All-tail}
use Rattle.fn_model.specs.declared.Call.{Call}
use Rattle.fn_model.specs.Calls.{count, own}
use Rattle.fn_model.specs.Integer.{value}
use Rattle.fn_model.proofs.Calls.{reply_stays}
use Rattle.fn_core.specs.declared.Start.{Start}
use Rattle.fn_core.specs.declared.Event.{Event}
use Rattle.fn_core.specs.State.{State, history_in}
use Rattle.fn_core.specs.Machine.{no_cap}
use Rattle.fn_core.specs.Laws.{HasReply}
use Rattle.fn_core.specs.Calls.{CoreLog, HasCall, IsIdle, IsLegal, calls_in, state_in}
use Rattle.fn_model.proofs.Lists.{has_range, none_found}
use Rattle.fn_core.proofs.Public.{histories_grow, calls_stand_once, main_is_value, faultless_starts_are_starts}
use Rattle.script_text.specs.Order.{amount}
use Rattle.script_text.specs.Sound.{HasAmount, HasPasses, IsSound, allowances}
use Rattle.script_text.proofs.Allowed.{add_up, allowances-count}
use Rattle.script_text.specs.declared.scripts.Script.{Script}
use Rattle.script_text.specs.declared.scripts.ScriptLine.{ScriptLine}
use Rattle.script_run.specs.Lines.{answers_text}
use Rattle.script_run.specs.declared.lines.LineAnswer.{LineAnswer}
use Rattle.script_run.specs.declared.lines.LineAnswer.TheVariants.{Waits, NoRow, Going, Reply, NotYet, Lost, Met}
use Rattle.script_run.specs.declared.play.PlayFault.{PlayFault}
use Rattle.script_run.specs.Play.{after_line, answered, finish, opened_core, order_answer, order_fault, play_lines, play_text, rests, run_text, unfinished}
use Rattle.script_run.specs.Doing.{IsReady}
use Rattle.script_run.specs.Answered.{TellsInTurn, AreInTurn, AreMet, IsMet, StandsBefore, answered_by, calls_made, made_by}
use Rattle.script_run.specs.Replies.{IsRunText, RepliesAreMet, history_of, played}
use Rattle.script_run.proofs.InTurn.{IsNew, IsPlaced, all-before, all-placed, answered-placed, made-all}
use Rattle.script_run.proofs.Leaving.{resting-is}
use Rattle.script_run.proofs.OneByOne.{play-more, play-refused, ready-first, ready-left, ready-next}
use Rattle.script_run.proofs.OneLine.{line-taken, tracks-all}
use Rattle.script_run.proofs.Orders.{Taken}
use Rattle.script_run.proofs.Polled.{grown-both}
use Rattle.script_run.proofs.Tracks.{Tracks, all-there, after, grown, legal-later, next-number, rests-has-all, tracks-here}

-- the history grows at its end
grows : (core : CoreLog) (more : List Event) → IsLegal core → IsLegal (grown core more) → (further : List Call) × (calls_in (grown core more) ≡ calls_in core ++ further)
grows core more legal longer =
    let parts = legal-later (grown core more) core.log more longer refl in
    let further = histories_grow core.start core.log legal.0 legal.1 more parts.1 in
    (further.0, ap (λ (s : State). history_in core.start s) parts.2 ∙ further.1)

grows-to : (core next : CoreLog) (more : List Event) → IsLegal core → IsLegal next → next ≡ grown core more → (further : List Call) × (calls_in next ≡ calls_in core ++ further)
grows-to core next more legal longer is = let further = grows core more legal (subst IsLegal is longer) in (further.0, ap (λ (x : CoreLog). calls_in x) is ∙ further.1)

-- a reply stays what its call meets while the history grows
has-later : (core : CoreLog) (more : List Event) (call : Call) (n : ℕ) → IsLegal core → IsLegal (grown core more) → HasReply core.start (calls_in core) call n → HasReply core.start (calls_in (grown core more)) call n
has-later core more call n legal longer has =
    let past : List Call = calls_in core in
    let further = grows core more legal longer in
    let stays = reply_stays core.start.cap core.start.opening call.pass call.number past further.0 has.0 has.1 in
    subst (λ (x : List Call). HasReply core.start x call n) (sym further.1)
    (has.0, stays.0, (let size = length-append past further.0 in let within = has.2 in omega arith), get_or_append_left past further.0 call has.0 has.2 ∙ has.3, stays.1 ∙ has.4)

pub met-later : (core : CoreLog) (more : List Event) (mine : List Call) (told : LineAnswer) → IsLegal core → IsLegal (grown core more) → IsMet core.start.cap core.start.opening (calls_in core) mine told → IsMet core.start.cap core.start.opening (calls_in (grown core more)) mine told
met-later core more mine (Reply n) legal longer met = (met.0, met.1, met.2, has-later core more met.1 n legal longer met.3)
met-later core more mine Waits legal longer met = tt
met-later core more mine (NoRow blocked) legal longer met = tt
met-later core more mine Going legal longer met = tt
met-later core more mine (NotYet why) legal longer met = tt
met-later core more mine (Lost loaded found) legal longer met = tt
met-later core more mine Met legal longer met = tt

-- lines that can be played
same-run : (a b : List LineAnswer) (m n : ℕ) → (let ran : List LineAnswer → ℕ → Result (List LineAnswer × ℕ) PlayFault = λ x k. Ok (x, k) in ran a m ≡ ran b n) → (a ≡ b) × (m ≡ n)
same-run a b m n e =
    let both : (let pair : List LineAnswer × ℕ = (a, m) in pair) ≡ (b, n) = cc e in
    (ap (λ (x : List LineAnswer × ℕ). x.0) both, ap (λ (x : List LineAnswer × ℕ). x.1) both)

answered-ok : (told : LineAnswer) (more : Result (List LineAnswer × ℕ) PlayFault) (answers : List LineAnswer) (last : ℕ) → answered told more ≡ Ok (answers, last)
    → (rest : List LineAnswer) × (told ∷ rest ≡ answers) × (more ≡ Ok (rest, last))
answered-ok told (Ok got) answers last e =
    let same = same-run (told ∷ got.0) answers got.1 last e in
    (got.0, same.0, ap (λ (n : ℕ). let ran : Result (List LineAnswer × ℕ) PlayFault = Ok (got.0, n) in ran) same.1)
answered-ok told (Err fault) answers last e = absurd (cc e)

line-ok : (core : CoreLog) (line : ScriptLine) (lines : List ScriptLine) (answers : List LineAnswer) (last : ℕ) → play_lines core (line ∷ lines) ≡ Ok (answers, last)
    → (order_fault (state_in core) line.at line.pass line.order ≡ None) × (rest : List LineAnswer) × (order_answer core.start (state_in core) line.pass line.order ∷ rest ≡ answers) × (play_lines (after_line core line) lines ≡ Ok (rest, last))
line-ok core line lines answers last e = by (order_fault (state_in core) line.at line.pass line.order) refl
  where
    by : (fault : Option PlayFault) → order_fault (state_in core) line.at line.pass line.order ≡ fault
        → (order_fault (state_in core) line.at line.pass line.order ≡ None) × (rest : List LineAnswer) × (order_answer core.start (state_in core) line.pass line.order ∷ rest ≡ answers) × (play_lines (after_line core line) lines ≡ Ok (rest, last))
    by None is =
        let parts = answered-ok (order_answer core.start (state_in core) line.pass line.order) (play_lines (after_line core line) lines) answers last (sym (play-more core line lines is) ∙ e) in
        (is, parts.0, parts.1, parts.2)
    by (Some fault) is = let refused = play-refused core line lines fault is in absurd (cc (sym refused ∙ e))

finish-ok : (core : CoreLog) (busy : Option ℕ) (answers : List LineAnswer) (last : ℕ) → finish core busy ≡ Ok (answers, last) → (busy ≡ None) × ([] ≡ answers) × (last ≡ (state_in core).main)
finish-ok core None answers last e = let same = same-run [] answers (state_in core).main last e in (refl, same.0, sym same.1)
finish-ok core (Some pass) answers last e = absurd (cc e)

-- where nobody is unfinished all passes rest
pub not-false : (b : Bool) → (if b then false else true) ≡ false → b ≡ true
not-false true e = refl
not-false false e = absurd (cc e)

rests-at-end : (core : CoreLog) → unfinished core ≡ None → (pass : ℕ) → pass < core.start.shape.passes → IsIdle core pass
rests-at-end core none pass inside =
    let tested = none_found (λ q. if rests (state_in core) q then false else true) (range_with_len 0 core.start.shape.passes) pass none (has_range 0 core.start.shape.passes pass (omega arith) (omega (arith, inside))) in
    resting-is ((state_in core).callers pass).position (not-false (rests (state_in core) pass) tested)

all-at-end : (core : CoreLog) (calls : List Call) → IsLegal core → ((pass : ℕ) → Tracks core calls pass) → unfinished core ≡ None → (pass : ℕ) → own pass (calls_in core) ≡ own pass calls
all-at-end core calls legal tracks none pass = elim (tracks pass).now [
  | inl all ↦ all-there core calls pass legal (tracks pass) all
  | inr one ↦ rests-has-all core calls pass legal (tracks pass) (rests-at-end core none pass one.0)
]

-- what stands before some lines
pub record Stands (core : CoreLog) (calls : List Call) (lines : List ScriptLine) : Type 0 where
  pub legal : IsLegal core
  pub tracks : (pass : ℕ) → Tracks core calls pass
  pub ready : IsReady core lines
  pub passes : All (HasPasses core.start.shape.passes) lines
  pub amounts : All (λ (line : ScriptLine). HasAmount line.order) lines

-- .. and what playing them gives
pub record Runs (core : CoreLog) (calls : List Call) (lines : List ScriptLine) (answers : List LineAnswer) (last : ℕ) : Type 0 where
  pub legal : IsLegal (played core lines)
  pub more : List Event
  pub grown_is : played core lines ≡ grown core more
  pub met : AreMet core.start.cap core.start.opening (calls_in (played core lines)) calls lines answers
  pub made : (pass : ℕ) → own pass (calls_in (played core lines)) ≡ own pass (calls_made calls lines answers)
  pub in_turn : (earlier : List Call) → All (IsPlaced (calls_in core)) earlier → AreInTurn (calls_in (played core lines)) calls earlier lines answers
  pub value_is : last ≡ value core.start.cap core.start.opening (calls_in (played core lines))

runs-none : (core : CoreLog) (calls : List Call) (answers : List LineAnswer) (last : ℕ) → Stands core calls [] → play_lines core [] ≡ Ok (answers, last) → Runs core calls [] answers last
runs-none core calls answers last s plays =
    let end = finish-ok core (unfinished core) answers last plays in
    subst (λ (x : List LineAnswer). Runs core calls [] x last) end.1 (record {
      legal = s.legal;
      more = [];
      grown_is = (let at : List Event → CoreLog = after core in ap at (sym (append-nil core.log)));
      met = tt;
      made = all-at-end core calls s.legal s.tracks end.0;
      in_turn = λ earlier placed. tt;
      value_is = end.2 ∙ (main_is_value core.start core.log s.legal.0 s.legal.1).0;
    })

-- a line's call stands behind all that were answered before it
behind : (core end : CoreLog) (calls : List Call) (line : ScriptLine) (told : LineAnswer) (earlier : List Call) → IsLegal core → Tracks core calls line.pass → (further : List Call) → calls_in end ≡ calls_in core ++ further
    → All (IsPlaced (calls_in core)) earlier → All (λ call. All (λ other. StandsBefore (calls_in end) other call) earlier) (made_by calls line told)
behind core end calls line told earlier legal tracks further is placed =
    let number = next-number core calls line.pass legal tracks in
    let fresh : All (IsNew (calls_in core)) (made_by calls line told) = made-all (IsNew (calls_in core)) calls line told (λ call pass at.
    let none : count line.pass call.number (calls_in core) ≡ 0 = (calls_stand_once core.start core.log legal.0 legal.1 line.pass call.number).1 (omega (arith, number, at)) in
    subst (λ (p : ℕ). count p call.number (calls_in core) ≡ 0) (sym pass) none) in
    subst (λ (x : List Call). All (λ call. All (λ other. StandsBefore x other call) earlier) (made_by calls line told)) (sym is)
    (all-before (calls_in core) further earlier (made_by calls line told) placed fresh)

runs-line : (core : CoreLog) (calls : List Call) (line : ScriptLine) (lines : List ScriptLine) (told : LineAnswer) (rest : List LineAnswer) (last : ℕ) → IsLegal core → Tracks core calls line.pass
    → Taken core (after_line core line) line.pass (amount line.order) (calls ++ made_by calls line told) told
    → Runs (after_line core line) (calls ++ made_by calls line told) lines rest last → Runs core calls (line ∷ lines) (told ∷ rest) last
runs-line core calls line lines told rest last legal tracks taken runs =
    let next : CoreLog = after_line core line in
    let end : CoreLog = played next lines in
    let now : List Call = calls ++ made_by calls line told in
    let mine : List Call = own line.pass now in
    let first = grows-to core next taken.more legal taken.legal taken.grown_is in
    let all_more : end ≡ grown core (taken.more ++ runs.more) = grown-both core next end taken.more runs.more taken.grown_is runs.grown_is in
    let whole = grows-to core end (taken.more ++ runs.more) legal runs.legal all_more in
    let start : next.start ≡ core.start = ap (λ (x : CoreLog). x.start) taken.grown_is in
    let here : IsMet next.start.cap next.start.opening (calls_in end) mine told =
    subst (λ (x : CoreLog). IsMet next.start.cap next.start.opening (calls_in x) mine told) (sym runs.grown_is)
    (met-later next runs.more mine told taken.legal (subst IsLegal runs.grown_is runs.legal) taken.met) in
    record {
      legal = runs.legal;
      more = taken.more ++ runs.more;
      grown_is = all_more;
      met = (subst (λ (x : Start). IsMet x.cap x.opening (calls_in end) mine told) start here, subst (λ (x : Start). AreMet x.cap x.opening (calls_in end) now lines rest) start runs.met);
      made = runs.made;
      in_turn = λ earlier placed. (
        behind core end calls line told earlier legal tracks whole.0 whole.1 placed,
        runs.in_turn (earlier ++ answered_by mine told)
            (All-append (IsPlaced (calls_in next)) earlier (answered_by mine told) (subst (λ (x : List Call). All (IsPlaced x) earlier) (sym first.1) (all-placed (calls_in core) first.0 earlier placed))
            (answered-placed next.start (calls_in next) mine told taken.met)),
      );
      value_is = subst (λ (x : Start). last ≡ value x.cap x.opening (calls_in end)) start runs.value_is;
    }

pub runs : (lines : List ScriptLine) (core : CoreLog) (calls : List Call) (answers : List LineAnswer) (last : ℕ) → Stands core calls lines → play_lines core lines ≡ Ok (answers, last) → Runs core calls lines answers last
runs [] core calls answers last s plays = runs-none core calls answers last s plays
runs (line ∷ lines) core calls answers last s plays =
    let ok = line-ok core line lines answers last plays in
    let told : LineAnswer = order_answer core.start (state_in core) line.pass line.order in
    let next : CoreLog = after_line core line in
    let now : List Call = calls ++ made_by calls line told in
    let there = (All-head (HasPasses core.start.shape.passes) line lines s.passes).0 in
    let taken = line-taken core calls line s.legal there (All-head (λ (x : ScriptLine). HasAmount x.order) line lines s.amounts) (ready-left core line lines s.ready there)
    (s.ready.underway line.pass there) (s.tracks line.pass) ok.0 in
    let after_it : Stands next now lines = record {
      legal = taken.legal;
      tracks = tracks-all core next calls line told s.tracks taken;
      ready = ready-next core next line lines s.ready taken.leaves;
      passes = subst (λ (x : Start). All (HasPasses x.shape.passes) lines) (sym taken.leaves.start) (All-tail (HasPasses core.start.shape.passes) line lines s.passes);
      amounts = All-tail (λ (x : ScriptLine). HasAmount x.order) line lines s.amounts;
    } in
    subst (λ (x : List LineAnswer). Runs core calls (line ∷ lines) x last) ok.2 (runs-line core calls line lines told ok.1 last s.legal (s.tracks line.pass) taken (runs lines next now ok.1 last after_it ok.3))

-- nothing has happened at the opening
opened-stands : (script : Script) → IsSound script → Stands (opened_core script) [] script.lines
opened-stands script sound =
    let core : CoreLog = opened_core script in
    let quiet : (pass : ℕ) → HasCall core pass → ⊥ = λ pass call. false≢true call.1 in
    let all = add_up script.lines script.shape.passes sound.passes in
    let each : length (allowances script.lines script.shape.passes) ≡ script.shape.passes = allowances-count script.lines script.shape.passes in
    let small : script.opening + sum (allowances script.lines script.shape.passes) < 2 ^ 63 = rw all sound.total in
    record {
      legal = (faultless_starts_are_starts script.shape script.opening no_cap (allowances script.lines script.shape.passes) each (omega arith) (omega (arith, sound.total)) small, tt);
      tracks = λ pass. tracks-here core [] pass (quiet pass) refl refl;
      ready = ready-first core script refl;
      passes = sound.passes;
      amounts = sound.amounts;
    }

pub replies_are_met : RepliesAreMet
replies_are_met script answers last sound plays =
    let all = runs script.lines (opened_core script) [] answers last (opened-stands script sound) plays in
    record { plays = plays; told = record { met = all.met; made = all.made; value_is = all.value_is }; in_turn = all.in_turn [] (All-nil (IsPlaced (calls_in (opened_core script)))) }

-- the text of a script that can be played
same-text : (a b : List ℕ) → (let text : List ℕ → Result (List ℕ) PlayFault = λ x. Ok x in text a ≡ text b) → a ≡ b
same-text a b e = cc e

pub run-text : (script : Script) (text : List ℕ) → IsSound script → play_text script ≡ Ok text → IsRunText script text
run-text script text sound plays = by (play_lines (opened_core script) script.lines) refl
  where
    by : (run : Result (List LineAnswer × ℕ) PlayFault) → play_lines (opened_core script) script.lines ≡ run → IsRunText script text
    by (Ok got) is = (got.0, got.1, replies_are_met script got.0 got.1 sound is, same-text text (answers_text got.0 got.1) (sym plays ∙ ap run_text is))
    by (Err fault) is = absurd (cc (sym plays ∙ ap run_text is))

-- so the text of a script that can be played tells of a history of its calls
pub tells_in_turn : (script : Script) (text : List ℕ) → IsSound script → play_text script ≡ Ok text → TellsInTurn script text
tells_in_turn script text sound plays =
    let run = run-text script text sound plays in
    (run.0, run.1, history_of script, run.2.told, run.2.in_turn, run.3)
