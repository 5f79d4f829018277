-- What a poll leaves of the history, and what its reply says of it.
use Rattle.std.proofs.Common.{◌≡◌, ℕ, zero, suc, ◌+◌, ◌<◌, ◌≤◌, List, ◌++◌, false, refl, sym, ◌∙◌, ap, subst, arith, append_assoc}
use Rattle.fn_model.specs.declared.Call.{Call}
use Rattle.fn_core.specs.declared.Event.{Event}
use Rattle.fn_core.specs.declared.answer.CoreStep.{CoreStep}
use Rattle.fn_core.specs.declared.answer.CoreStep.TheVariants.{Going, Ready, NotYet}
use Rattle.fn_core.specs.Calls.{CoreLog, Follows, HasCall, IsLegal, left_of, state_in, step_answer, with_moves}
use Rattle.script_run.specs.declared.lines.LineAnswer.{LineAnswer}
use Rattle.fn_core.specs.Polls.{is_going, poll_answer, poll_moves}
use Rattle.fn_core.proofs.Public.{steps_follow}
use Rattle.script_run.specs.Play.{told_answer}
use Rattle.script_run.specs.Doing.{Leaves}
use Rattle.script_run.proofs.Polling.{answer-end, answer-on, fewer-left, left_steps, moves-end, moves-on, stepped}
use Rattle.script_run.proofs.Orders.{Taken, step-taken}
use Rattle.script_run.proofs.Tracks.{Tracks, after, grown}

-- one order after the other to the same pass
leaves-then : (first now next : CoreLog) (pass : ℕ) → Leaves first now pass 0 → Leaves now next pass 0 → Leaves first next pass 0
leaves-then first now next pass a b = record {
  start = b.start ∙ a.start;
  left = (let before : left_of first pass ≤ left_of now pass + 0 = a.left in let behind : left_of now pass ≤ left_of next pass + 0 = b.left in omega arith);
  underway = b.underway;
  others = λ q other. ((b.others q other).0 ∙ (a.others q other).0, λ call. (b.others q other).1 ((a.others q other).1 call));
}

pub grown-both : (first now next : CoreLog) (more further : List Event) → now ≡ grown first more → next ≡ grown now further → next ≡ grown first (more ++ further)
grown-both first now next more further a b = b ∙ ap (λ (x : CoreLog). grown x further) a ∙ ap (after first) (append_assoc first.log more further)

taken-then : (first now next : CoreLog) (pass : ℕ) (calls : List Call) (told last : LineAnswer) → Taken first now pass 0 calls told → Taken now next pass 0 calls last → Taken first next pass 0 calls last
taken-then first now next pass calls told last a b = record {
  legal = b.legal;
  more = a.more ++ b.more;
  grown_is = grown-both first now next a.more b.more a.grown_is b.grown_is;
  leaves = leaves-then first now next pass a.leaves b.leaves;
  tracks = b.tracks;
  met = b.met;
}

-- the steps of a poll
abbrev Polled : ℕ → CoreLog → ℕ → List Call → Type 0
Polled most core pass calls = Taken core (with_moves core pass (poll_moves most core.start (state_in core) pass)) pass 0 calls (told_answer (poll_answer most core.start (state_in core) pass))

polled-on : (most : ℕ) (core : CoreLog) (pass : ℕ) (calls : List Call) → step_answer core.start (state_in core) pass ≡ Going
    → Taken core (stepped core pass) pass 0 calls (told_answer (step_answer core.start (state_in core) pass)) → Polled most (stepped core pass) pass calls → Polled (suc most) core pass calls
polled-on most core pass calls going first rest =
    let next : CoreLog = stepped core pass in
    let end : CoreLog = with_moves next pass (poll_moves most next.start (state_in next) pass) in
    let all = taken-then core next end pass calls (told_answer (step_answer core.start (state_in core) pass)) (told_answer (poll_answer most next.start (state_in next) pass)) first rest in
    subst (λ (x : CoreLog). Taken core x pass 0 calls (told_answer (poll_answer (suc most) core.start (state_in core) pass))) (sym (moves-on most core pass going))
    (subst (λ (told : CoreStep). Taken core end pass 0 calls (told_answer told)) (sym (answer-on most core pass going)) all)

polled-end : (most : ℕ) (core : CoreLog) (pass : ℕ) (calls : List Call) → is_going (step_answer core.start (state_in core) pass) ≡ false
    → Taken core (stepped core pass) pass 0 calls (told_answer (step_answer core.start (state_in core) pass)) → Polled (suc most) core pass calls
polled-end most core pass calls ends first =
    subst (λ (x : CoreLog). Taken core x pass 0 calls (told_answer (poll_answer (suc most) core.start (state_in core) pass))) (sym (moves-end most core pass ends))
    (subst (λ (told : CoreStep). Taken core (stepped core pass) pass 0 calls (told_answer told)) (sym (answer-end most core pass ends)) first)

pub poll-taken : (most : ℕ) (core : CoreLog) → IsLegal core → (pass : ℕ) → pass < core.start.shape.passes → (calls : List Call) → Tracks core calls pass → HasCall core pass → left_steps core pass < most → Polled most core pass calls
poll-taken zero core legal pass inside calls t u enough = absurd (omega arith)
poll-taken (suc most) core legal pass inside calls t u enough =
    by (step_answer core.start (state_in core) pass) refl
    (λ call fewer. poll-taken most (stepped core pass) first.legal pass inside calls first.tracks call (omega arith))
  where
    first : Taken core (stepped core pass) pass 0 calls (told_answer (step_answer core.start (state_in core) pass))
    first = step-taken core legal pass inside calls t u

    by : (told : CoreStep) → step_answer core.start (state_in core) pass ≡ told
        → (HasCall (stepped core pass) pass → left_steps (stepped core pass) pass < left_steps core pass → Polled most (stepped core pass) pass calls) → Polled (suc most) core pass calls
    by Going going rest =
        let f : Follows core (stepped core pass) pass Going = subst (Follows core (stepped core pass) pass) going (steps_follow core pass legal inside u) in
        polled-on most core pass calls going first (rest f.0 (fewer-left core (stepped core pass) pass Going refl refl f))
    by (Ready n) is rest = polled-end most core pass calls (ap is_going is) first
    by (NotYet why) is rest = polled-end most core pass calls (ap is_going is) first
