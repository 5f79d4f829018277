-- The steps of a poll.
use Rattle.std.proofs.Common.{◌≡◌, ℕ, zero, suc, ◌+◌, ◌*◌, ◌/◌, ◌%◌, ◌<◌, ◌≤◌, min, false, refl, sym, ◌∙◌, ap, subst, arith}
use Rattle.std.proofs.Math.Nat.{mod-add-div, mul-le-mul_left, mul-le-mul_right}
use Rattle.fn_layout.specs.declared.shape.Shape.{Shape}
use Rattle.fn_layout.specs.Tree.{aggregator, leaves_under, members}
use Rattle.fn_core.specs.declared.answer.CoreStep.{CoreStep}
use Rattle.fn_core.specs.declared.answer.CoreStep.TheVariants.{Going, Ready, NotYet}
use Rattle.fn_core.specs.declared.Start.{Start}
use Rattle.fn_core.specs.Order.{next_move}
use Rattle.fn_core.specs.Bound.{steps_left}
use Rattle.fn_core.specs.Laws.{HoldsRows}
use Rattle.fn_core.specs.Calls.{CoreLog, Follows, HasCall, LeavesOthers, left_of, state_in, step_answer, with_move, with_moves}
use Rattle.fn_core.specs.Polls.{is_going, most_steps, poll_answer, poll_moves}
use Rattle.script_run.specs.Doing.{Leaves}
use Rattle.script_run.proofs.Leaving.{leaves-more, leaves-none, state_in-move, underway-after}

-- no aggregator has more members than there are passes
few : (a b c d : ℕ) → a ≤ b → b + c ≡ d → a + min d c ≤ d
few a b c d below all = omega arith

pub members-few : (s : Shape) (level index : ℕ) → members s level index ≤ s.passes
unfolding members
members-few s level index =
    let under : leaves_under s level index ≤ s.leaves = omega arith in
    let turns : s.passes / s.leaves * leaves_under s level index ≤ s.passes / s.leaves * s.leaves = mul-le-mul_left _ under in
    let all : s.passes % s.leaves + s.leaves * (s.passes / s.leaves) ≡ s.passes = mod-add-div s.passes s.leaves in
    omega arith

pub holds-rows : (start : Start) (pass : ℕ) → HoldsRows start pass (start.shape.passes * start.shape.rows)
holds-rows start pass level inside = mul-le-mul_right start.shape.rows (members-few start.shape level (aggregator start.shape pass level))

-- the steps that the pass's call has left at most
abbrev pub left_steps : CoreLog → ℕ → ℕ
left_steps core pass = steps_left core.start (state_in core) pass (core.start.shape.passes * core.start.shape.rows)

-- where a poll stands after some steps: from here on, with this bound, it takes the rest of its steps and tells what it tells
pub record Polls (first now : CoreLog) (pass : ℕ) : Type 0 where
  pub most : ℕ
  pub enough : left_steps now pass < most
  pub taken : with_moves now pass (poll_moves most now.start (state_in now) pass) ≡ with_moves first pass (poll_moves (most_steps first.start (state_in first) pass) first.start (state_in first) pass)
  pub told : poll_answer most now.start (state_in now) pass ≡ poll_answer (most_steps first.start (state_in first) pass) first.start (state_in first) pass
  pub leaves : Leaves first now pass 0
  pub underway : HasCall now pass

pub polls-first : (core : CoreLog) (pass : ℕ) → HasCall core pass → Polls core core pass
polls-first core pass call = record {
  most = suc (left_steps core pass);
  enough = omega arith;
  taken = refl;
  told = refl;
  leaves = leaves-none core pass (λ busy. call);
  underway = call;
}

-- the core after the next step
abbrev pub stepped : CoreLog → ℕ → CoreLog
stepped now pass = with_move now pass (next_move now.start (state_in now) pass)

-- the steps and the answer where the next step leaves the call going
pub moves-on : (most : ℕ) (now : CoreLog) (pass : ℕ) → step_answer now.start (state_in now) pass ≡ Going
    → with_moves now pass (poll_moves (suc most) now.start (state_in now) pass) ≡ with_moves (stepped now pass) pass (poll_moves most now.start (state_in (stepped now pass)) pass)
moves-on most now pass going = rw (going, state_in-move now pass (next_move now.start (state_in now) pass)) refl

pub answer-on : (most : ℕ) (now : CoreLog) (pass : ℕ) → step_answer now.start (state_in now) pass ≡ Going
    → poll_answer (suc most) now.start (state_in now) pass ≡ poll_answer most now.start (state_in (stepped now pass)) pass
answer-on most now pass going = rw (going, state_in-move now pass (next_move now.start (state_in now) pass)) refl

-- .. and where it doesn't
pub moves-end : (most : ℕ) (now : CoreLog) (pass : ℕ) → is_going (step_answer now.start (state_in now) pass) ≡ false
    → with_moves now pass (poll_moves (suc most) now.start (state_in now) pass) ≡ stepped now pass
moves-end most now pass ends = rw ends refl

pub answer-end : (most : ℕ) (now : CoreLog) (pass : ℕ) → is_going (step_answer now.start (state_in now) pass) ≡ false
    → poll_answer (suc most) now.start (state_in now) pass ≡ step_answer now.start (state_in now) pass
answer-end most now pass ends = rw ends refl

going-not : (told : CoreStep) → (told ≡ Going → ⊥) → is_going told ≡ false
going-not Going not = absurd (not refl)
going-not (Ready n) not = refl
going-not (NotYet why) not = refl

-- a step that leaves the call going
polls-more : (most : ℕ) (first now : CoreLog) (pass : ℕ) → left_steps now pass < most
    → with_moves now pass (poll_moves most now.start (state_in now) pass) ≡ with_moves first pass (poll_moves (most_steps first.start (state_in first) pass) first.start (state_in first) pass)
    → poll_answer most now.start (state_in now) pass ≡ poll_answer (most_steps first.start (state_in first) pass) first.start (state_in first) pass
    → Leaves first now pass 0 → step_answer now.start (state_in now) pass ≡ Going
    → Follows now (stepped now pass) pass Going → left_of (stepped now pass) pass ≡ left_of now pass → LeavesOthers now (stepped now pass) pass
    → Polls first (stepped now pass) pass
polls-more zero first now pass enough taken told leaves going follows left others = absurd (omega arith)
polls-more (suc most) first now pass enough taken told leaves going follows left others = record {
  most = most;
  enough = (let fewer : left_steps (stepped now pass) pass < left_steps now pass = follows.1 (now.start.shape.passes * now.start.shape.rows) (holds-rows now.start pass) in omega arith);
  taken = sym (moves-on most now pass going) ∙ taken;
  told = sym (answer-on most now pass going) ∙ told;
  leaves = leaves-more first now (stepped now pass) pass leaves refl left (λ busy. follows.0) others;
  underway = follows.0;
}

pub polls-on : (first now next : CoreLog) (pass : ℕ) (told : CoreStep) → Polls first now pass → told ≡ Going → next ≡ stepped now pass
    → told ≡ step_answer now.start (state_in now) pass → Follows now next pass told → left_of next pass ≡ left_of now pass → LeavesOthers now next pass → Polls first next pass
polls-on first now next pass told h going taken is follows left others =
    let P : CoreLog → Type 0 = λ x. (Follows now x pass Going → left_of x pass ≡ left_of now pass → LeavesOthers now x pass → Polls first x pass) in
    let more : P (stepped now pass) = polls-more h.most first now pass h.enough h.taken h.told h.leaves (sym is ∙ going) in
    let after : Follows now next pass Going = rw going at follows in
    subst P (sym taken) more after left others

-- what a poll leaves when it is answered
pub record IsPolled (first next : CoreLog) (pass : ℕ) (answer : CoreStep) : Type 0 where
  pub taken : next ≡ with_moves first pass (poll_moves (most_steps first.start (state_in first) pass) first.start (state_in first) pass)
  pub told : answer ≡ poll_answer (most_steps first.start (state_in first) pass) first.start (state_in first) pass
  pub leaves : Leaves first next pass 0

-- the last step
polls-last : (most : ℕ) (first now : CoreLog) (pass : ℕ) → left_steps now pass < most
    → with_moves now pass (poll_moves most now.start (state_in now) pass) ≡ with_moves first pass (poll_moves (most_steps first.start (state_in first) pass) first.start (state_in first) pass)
    → poll_answer most now.start (state_in now) pass ≡ poll_answer (most_steps first.start (state_in first) pass) first.start (state_in first) pass
    → is_going (step_answer now.start (state_in now) pass) ≡ false → Leaves first (stepped now pass) pass 0
    → IsPolled first (stepped now pass) pass (step_answer now.start (state_in now) pass)
polls-last zero first now pass enough taken told ends leaves = absurd (omega arith)
polls-last (suc most) first now pass enough taken told ends leaves = record {
  taken = sym (moves-end most now pass ends) ∙ taken;
  told = sym (answer-end most now pass ends) ∙ told;
  leaves = leaves;
}

pub polls-end : (first now next : CoreLog) (pass : ℕ) (told : CoreStep) → Polls first now pass → (told ≡ Going → ⊥) → next ≡ stepped now pass
    → told ≡ step_answer now.start (state_in now) pass → Follows now next pass told → left_of next pass ≡ left_of now pass → LeavesOthers now next pass → IsPolled first next pass told
polls-end first now next pass told h not taken is follows left others =
    let same : next.start ≡ now.start = ap (λ (x : CoreLog). x.start) taken in
    let leaves : Leaves first next pass 0 = leaves-more first now next pass h.leaves same left (underway-after now next pass told follows) others in
    let P : CoreLog → CoreStep → Type 0 = λ x t. (is_going t ≡ false → Leaves first x pass 0 → IsPolled first x pass t) in
    let last : P (stepped now pass) (step_answer now.start (state_in now) pass) = polls-last h.most first now pass h.enough h.taken h.told in
    let Q : CoreStep → Type 0 = λ t. P (stepped now pass) t in
    let R : CoreLog → Type 0 = λ x. P x told in
    subst R (sym taken) (subst Q (sym is) last) (going-not told not) leaves

-- a step that leaves the call going leaves it fewer steps
pub fewer-left : (now next : CoreLog) (pass : ℕ) (told : CoreStep) → told ≡ Going → next ≡ stepped now pass → Follows now next pass told → left_steps next pass < left_steps now pass
fewer-left now next pass told going taken follows =
    let P : CoreLog → Type 0 = λ x. (Follows now x pass Going → left_steps x pass < left_steps now pass) in
    let fewer : P (stepped now pass) = λ (after : Follows now (stepped now pass) pass Going). after.1 (now.start.shape.passes * now.start.shape.rows) (holds-rows now.start pass) in
    subst P (sym taken) fewer (rw going at follows)
