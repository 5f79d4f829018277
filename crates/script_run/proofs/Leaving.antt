-- What doing an order leaves.
use Rattle.std.proofs.Common.{◌≡◌, ℕ, ◌+◌, ◌≤◌, List, [], ◌∷◌, ◌++◌, true, false, refl, sym, ◌∙◌, ap, arith, append_assoc}
use Rattle.std.proofs.lemmas.List.{append-nil}
use Rattle.fn_core.specs.declared.Move.{Move}
use Rattle.fn_core.specs.declared.Event.{Event}
use Rattle.fn_core.specs.declared.Position.{Position}
use Rattle.fn_core.specs.declared.Position.TheVariants.{Resting, Trying, Climbing, Deciding}
use Rattle.fn_core.specs.declared.answer.CoreStep.{CoreStep}
use Rattle.fn_core.specs.declared.answer.CoreStep.TheVariants.{Going, Ready, NotYet}
use Rattle.fn_core.specs.State.{opened}
use Rattle.fn_core.specs.Machine.{moves}
use Rattle.fn_core.specs.Begin.{events_of}
use Rattle.fn_core.specs.Calls.{CoreLog, Follows, HasCall, IsIdle, LeavesOthers, left_of, state_in, with_move, with_moves}
use Rattle.fn_core.proofs.Public.{runs_go_on}
use Rattle.script_run.specs.Play.{is_resting}
use Rattle.script_run.specs.Doing.{Leaves}

-- whether a pass rests, and that it does
pub resting-is : (position : Position) → is_resting position ≡ true → position ≡ Resting
resting-is Resting e = refl
resting-is (Trying word) e = absurd (cc e)
resting-is (Climbing kind level) e = absurd (cc e)
resting-is (Deciding kind level word) e = absurd (cc e)

pub resting-not : (position : Position) → is_resting position ≡ false → position ≡ Resting → ⊥
resting-not position e is = absurd (cc (sym e ∙ ap is_resting is))

pub resting-iff : (position : Position) → (position ≡ Resting → ⊥) → is_resting position ≡ false
resting-iff Resting not = absurd (not refl)
resting-iff (Trying word) not = refl
resting-iff (Climbing kind level) not = refl
resting-iff (Deciding kind level word) not = refl

-- several steps of a pass stand behind the log
pub with_moves-log : (core : CoreLog) (pass : ℕ) (steps : List Move) → with_moves core pass steps ≡ record { start = core.start; log = core.log ++ events_of pass steps }
with_moves-log core pass [] = let logged : List Event → CoreLog = λ log. record { start = core.start; log = log } in ap logged (sym (append-nil core.log))
with_moves-log core pass (step ∷ steps) =
    let logged : List Event → CoreLog = λ log. record { start = core.start; log = log } in
    with_moves-log (with_move core pass step) pass steps ∙ ap logged (append_assoc core.log (record { pass = pass; step = step } ∷ []) (events_of pass steps))

-- the state after one more step
pub state_in-move : (core : CoreLog) (pass : ℕ) (move : Move) → state_in (with_move core pass move) ≡ moves core.start (state_in core) pass move
state_in-move core pass move = runs_go_on core.start core.log (record { pass = pass; step = move } ∷ []) (opened core.start)

-- what a call of the core leaves
pub leaves-by : (old new : CoreLog) (pass amount : ℕ) (steps : List Move) → new ≡ with_moves old pass steps → left_of old pass ≤ left_of new pass + amount
    → ((IsIdle new pass → ⊥) → HasCall new pass) → LeavesOthers old new pass → Leaves old new pass amount
leaves-by old new pass amount steps taken left underway others = record {
  start = ap (λ (x : CoreLog). x.start) (taken ∙ with_moves-log old pass steps);
  left = left;
  underway = underway;
  others = others;
}

-- a pass that rests has nothing underway that could be lost
pub leaves-none : (core : CoreLog) (pass : ℕ) → ((IsIdle core pass → ⊥) → HasCall core pass) → Leaves core core pass 0
leaves-none core pass underway = record { start = refl; left = omega arith; underway = underway; others = λ q other. (refl, λ call. call) }

-- after a step a call is underway, unless it has ended
pub underway-after : (old new : CoreLog) (pass : ℕ) (told : CoreStep) → Follows old new pass told → (IsIdle new pass → ⊥) → HasCall new pass
underway-after old new pass (Ready n) follows busy = absurd (busy follows.0)
underway-after old new pass Going follows busy = follows.0
underway-after old new pass (NotYet why) follows busy = follows

-- one order after the other to the same pass
pub leaves-more : (first now next : CoreLog) (pass : ℕ) → Leaves first now pass 0 → next.start ≡ now.start → left_of next pass ≡ left_of now pass
    → ((IsIdle next pass → ⊥) → HasCall next pass) → LeavesOthers now next pass → Leaves first next pass 0
leaves-more first now next pass h start left underway others = record {
  start = start ∙ h.start;
  left = (let before : left_of first pass ≤ left_of now pass + 0 = h.left in omega (arith, left));
  underway = underway;
  others = λ q other. ((others q other).0 ∙ (h.others q other).0, λ call. (others q other).1 ((h.others q other).1 call));
}
