-- Which step of an aggregator an event is, and what it makes of the main word.
--     IsStepOf start s pass move kind level step      the event takes this step at the pass's aggregator of this kind and level
--     main_after start s pass move      the main word after the event
use Rattle.std.specs.Prelude.{◌≡◌, ◌⊎◌, ℕ, suc, ◌+◌, if◌then◌else◌, ◌==◌}
use Rattle.fn_model.specs.declared.Kind.{Kind}
use Rattle.fn_model.specs.Integer.{after}
use Rattle.fn_rows.specs.Machine as local_step
use Rattle.fn_core.specs.declared.Move.{Move}
use Rattle.fn_core.specs.declared.Move.TheVariants.{Scan, See, Announce, Arrive, Look, Close, Apply, Head, Fill, Point, Publish, Peek, Leave, Load, Exchange, Direct, Glance}
use Rattle.fn_core.specs.Tree.{member}
use Rattle.fn_core.specs.State.{Start, Position, Trying, Climbing, Deciding, State, stage, reply_of}
use Rattle.fn_core.specs.Machine.{fills}

-- which step the event takes at the pass's aggregator of this kind and level
abbrev pub IsStepOf : Start → State → ℕ → Move → Kind → ℕ → local_step.Step → Type 0
IsStepOf start s pass (Scan k l other) kind level step = (kind ≡ k) × (level ≡ l) × (step ≡ local_step.Scan (member start.shape l pass) (member start.shape l other))
IsStepOf start s pass (See k l) kind level step = (kind ≡ k) × (level ≡ l) × (step ≡ local_step.See (member start.shape l pass))
IsStepOf start s pass (Announce k l) kind level step = (kind ≡ k) × (level ≡ l) × (step ≡ local_step.Announce (member start.shape l pass))
IsStepOf start s pass (Arrive k l weight) kind level step = (kind ≡ k) × (level ≡ l) × (step ≡ local_step.Arrive (member start.shape l pass) weight)
IsStepOf start s pass (Look k l) kind level step = (kind ≡ k) × (level ≡ l) × (step ≡ local_step.Look (member start.shape l pass))
IsStepOf start s pass (Close k l) kind level step = (kind ≡ k) × (level ≡ l) × (step ≡ local_step.Close (member start.shape l pass))
IsStepOf start s pass (Apply weight) kind level step = ((s.callers pass).position ≡ Climbing kind level) × (step ≡ local_step.Hand_base (member start.shape level pass) s.main)
IsStepOf start s pass (Head k l) kind level step = (kind ≡ k) × (level ≡ l) × (step ≡ local_step.Head (member start.shape l pass))
IsStepOf start s pass (Fill row field) kind level step = ((s.callers pass).position ≡ Climbing kind level) × (step ≡ fills start s kind level pass row field (member start.shape level pass))
IsStepOf start s pass (Point k l row) kind level step = (kind ≡ k) × (level ≡ l) × (step ≡ local_step.Point (member start.shape l pass))
IsStepOf start s pass (Publish k l) kind level step = (kind ≡ k) × (level ≡ l) × (step ≡ local_step.Publish (member start.shape l pass))
IsStepOf start s pass (Peek row field) kind level step = ((s.callers pass).position ≡ Climbing kind level) × (step ≡ local_step.Peek (member start.shape level pass))
IsStepOf start s pass (Leave k l) kind level step = (kind ≡ k) × (((level ≡ l) × (step ≡ local_step.Leave (member start.shape l pass))) ⊎ ((suc level ≡ l) × (step ≡ local_step.Hand_base (member start.shape level pass) (reply_of start.cap k (stage start s k l pass)))))
IsStepOf start s pass (Load purpose) kind level step = ⊥
IsStepOf start s pass (Exchange k amount) kind level step = (word : ℕ) × ((s.callers pass).position ≡ Deciding kind level word) × (s.main ≡ word) × (step ≡ local_step.Hand_base (member start.shape level pass) s.main)
IsStepOf start s pass (Direct amount) kind level step = ⊥
IsStepOf start s pass Glance kind level step = ⊥

-- the word that a try has loaded
abbrev pub loaded : Position → ℕ
loaded (Trying word) = word
loaded (Deciding kind level word) = word
loaded _ = 0

-- the main word after the event
abbrev pub main_after : Start → State → ℕ → Move → ℕ
main_after start s pass (Apply weight) = s.main + weight
main_after start s pass (Exchange kind amount) = if s.main == loaded (s.callers pass).position then after start.cap s.main kind amount else s.main
main_after start s pass (Direct amount) = s.main + amount
main_after start s pass _ = s.main
