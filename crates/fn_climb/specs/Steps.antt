-- What the steps of a call tell.
--     StepAnswers pending answer      what a step answers
--     Replied pass reply      what holds of a reply besides
--     Went pending told after      the pass took the next step of its call, which told this
--     Advanced pending told after course      .. and its course has kept up
use Rattle.std.specs.Prelude.{◌≡◌, ◌+◌, ◌<◌, ◌≤◌, ℕ, List, Some, length, sum}
use mathlib.Core.List.{IsPrefix}
use Rattle.fn_core.specs.declared.Move.{Move}
use Rattle.fn_core.specs.declared.answer.CoreStep.{CoreStep}
use Rattle.fn_core.specs.declared.answer.CoreStep.TheVariants as told
use Rattle.fn_core.specs.declared.Event.{Event}
use Rattle.fn_model.specs.Calls.{place}
use Rattle.fn_core.specs.Calls.{CoreLog, state_in, calls_in, HasCall, step_answer, Follows, HasFewLeft}
use Rattle.fn_table.specs.Seen.{PassView, Stepped, own_of, with_log}
use Rattle.fn_table.specs.Later.{IsLater}
use Rattle.fn_climb.specs.declared.course.Course.{Course}
use Rattle.fn_climb.specs.Course.{Holds}
use Rattle.fn_climb.specs.Next.{PendingView, IsNext}
use Rattle.fn_climb.specs.declared.pending.Step.{Step}
use Rattle.fn_climb.specs.declared.pending.Step.TheVariants.{Going, Ready, NotYet}

-- the pass has made as many calls, its last call is the same one, and it has as much left of its allowance
pub record HasSameCall (p q : PassView) : Type 0 where
  pub made : (own_of q).caller.made ≡ (own_of p).caller.made
  pub last : (own_of q).caller.last ≡ (own_of p).caller.last
  pub left : (own_of q).caller.left ≡ (own_of p).caller.left

-- The reply is no more than the opening and all allowances. The pass's last call stands behind all that the history held at each moment before which it hadn't been made
pub record Replied (q : PassView) (reply : ℕ) : Type 0 where
  pub bounded : reply ≤ q.seen.start.opening + sum q.seen.start.allowances
  pub beyond : (earlier : List Event) → IsPrefix earlier q.seen.log
      → let was : CoreLog = record { start = q.seen.start; log = earlier } in ((state_in was).callers q.number).made ≤ (own_of q).caller.last.number
      → (i : ℕ) → place q.number (own_of q).caller.last.number (calls_in q.seen) ≡ Some i → length (calls_in was) ≤ i

-- .. where the step tells one
abbrev pub HasReplied : PassView → CoreStep → Type 0
HasReplied q (told.Ready reply) = Replied q reply
HasReplied q _ = Unit {0}

-- The pass, whose call was underway with few steps left, took the next one, which told this. That is so
pub record Went (p : PendingView) (told : CoreStep) (q : PassView) : Type 0 where
  pub inside : p.number < p.seen.start.shape.passes
  pub call : HasCall p.seen p.number
  pub step : Move
  pub next : IsNext p step
  pub number : ℕ
  pub stepped : Stepped p.pass step number q
  pub later : IsLater p.pass q
  pub tells : told ≡ step_answer p.seen.start (state_in (with_log p.pass stepped.before)) p.number
  pub follows : Follows p.seen q.seen p.number told
  pub replied : HasReplied q told
  pub few : HasFewLeft p.seen p.number
  pub same : HasSameCall p.pass q

-- what a step answers; a call that hasn't ended keeps its rows
abbrev pub StepAnswers : PendingView → Step → Type 0
StepAnswers p (Going q) = Went p told.Going q.pass × (q.rows ≡ p.rows)
StepAnswers p (Ready q reply) = Went p (told.Ready reply) q
StepAnswers p (NotYet q why) = Went p (told.NotYet why) q.pass × (q.rows ≡ p.rows)

-- a call that hasn't ended is underway still, this is how far it has come, and it keeps its rows
abbrev pub HoldsStill : PendingView → CoreStep → PassView → Course → Type 0
HoldsStill p (told.Ready reply) q c = Unit {0}
HoldsStill p _ q c = Holds q c × (c.rows ≡ p.rows)

-- the pass took the next step of its call, which told this, and its course has kept up
abbrev pub Advanced : PendingView → CoreStep → PassView → Course → Type 0
Advanced p told q c = Went p told q × HoldsStill p told q c
