-- What a poll tells.
--     PollAnswers pending answer      what a poll answers
--     GoesOn pending steps after      the pass took these steps of its call, each of which left it going
--     Polled pending told after      .. and one more, which told this
--     Ran pending told after course      the pass took such steps, and one more where that told something else
--     PolledInVain pending why after      .. to wait
use Rattle.std.specs.Prelude.{◌≡◌, ℕ, suc, ◌+◌, ◌*◌, ◌≤◌, false, List, [], ◌∷◌, ◌++◌, length}
use Rattle.fn_core.specs.declared.Move.{Move}
use Rattle.fn_core.specs.declared.answer.Why.{Why}
use Rattle.fn_core.specs.declared.answer.CoreStep.{CoreStep}
use Rattle.fn_core.specs.declared.answer.CoreStep.TheVariants as told
use Rattle.fn_core.specs.Laws.{HoldsRows}
use Rattle.fn_core.specs.Calls.{Follows}
use Rattle.fn_core.specs.Polls.{is_going, exchanges}
use Rattle.fn_table.specs.Seen.{PassView}
use Rattle.fn_climb.specs.Next.{PendingView}
use Rattle.fn_table.specs.Later.{IsLater}
use Rattle.fn_climb.specs.declared.course.Course.{Course}
use Rattle.fn_climb.specs.Steps.{HasSameCall, HasReplied, HoldsStill, Went, Advanced}
use Rattle.fn_climb.specs.declared.polling.Turn.{Turn}
use Rattle.fn_climb.specs.declared.polling.Turn.TheVariants.{Ready, NotYet}

-- the pass took these steps of its call, one after the other, and each left the call going
abbrev pub GoesOn : PendingView → List Move → PassView → Type 0
GoesOn p [] q = q ≡ p.pass
GoesOn p (step ∷ steps) q = (r : PassView) × (w : Went p told.Going r) × (w.step ≡ step) × GoesOn (record p { pass = r }) steps q

-- The pass took steps of its call up to the first that didn't leave it going, which told this: at most levels * (2 * n + 14), where no aggregator on its way has more than n rows, and at most one exchange. What was told is so
pub record Polled (p : PendingView) (told : CoreStep) (q : PassView) : Type 0 where
  pub steps : List Move
  pub until : PassView
  pub goes : GoesOn p steps until
  pub last : Went (record p { pass = until }) told q
  pub ends : is_going told ≡ false
  pub short : (n : ℕ) → HoldsRows p.seen.start p.number n → suc (length steps) ≤ p.seen.start.shape.levels * (2 * n + 14)
  pub once : exchanges (steps ++ last.step ∷ []) ≤ 1
  pub later : IsLater p.pass q
  pub follows : Follows p.seen q.seen p.number told
  pub replied : HasReplied q told
  pub same : HasSameCall p.pass q

-- such steps end here, or with one more that told this, and the call's course has kept up
abbrev pub EndsWith : PendingView → CoreStep → PassView → Course → Type 0
EndsWith p told.Going q c = (q ≡ p.pass) × HoldsStill p told.Going q c
EndsWith p told q c = Advanced p told q c

-- the pass took steps of its call, each of which left it going, up to here, or to one that told this
pub record Ran (p : PendingView) (told : CoreStep) (q : PassView) (c : Course) : Type 0 where
  pub steps : List Move
  pub until : PassView
  pub goes : GoesOn p steps until
  pub ends : EndsWith (record p { pass = until }) told q c

-- a poll that told the call to wait, for this reason; the call keeps its rows
abbrev pub PolledInVain : PendingView → Why → PendingView → Type 0
PolledInVain p why q = Polled p (told.NotYet why) q.pass × (q.rows ≡ p.rows)

-- what a poll answers
abbrev pub PollAnswers : PendingView → Turn → Type 0
PollAnswers p (Ready q reply) = Polled p (told.Ready reply) q
PollAnswers p (NotYet q why) = PolledInVain p why q
