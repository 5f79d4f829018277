-- The states of the machine.
use Rattle.std.specs.Prelude.{ℕ, suc, ◌-◌, ◌++◌, List, [], ◌∷◌, cond, ◌&&◌, ◌==◌, get_or}
use Rattle.fn_model.specs.declared.Call.{Call}
use Rattle.fn_model.specs.declared.Kind.{Kind}
use Rattle.fn_model.specs.declared.Kind.TheVariants.{Read}
use Rattle.fn_model.specs.Calls.{same_kind}
use Rattle.fn_model.specs.Arrivals.{Arrival}
use Rattle.fn_model.specs.Histories.{MainStep, Tables, history}
use Rattle.fn_model.specs.Integer.{after}
use Rattle.fn_model.specs.Order.{with_arrival}
use Rattle.fn_rows.specs.declared.Stage.{Stage}
use Rattle.fn_rows.specs.declared.Stage.TheVariants.{Shut, Got}
use Rattle.fn_rows.specs.Machine.{put, Step}
use Rattle.fn_rows.specs.Trace.{Traced, nothing, traced}
pub use Rattle.fn_core.specs.declared.Start.{Start}
pub use Rattle.fn_core.specs.declared.Position.{Position}
pub use Rattle.fn_core.specs.declared.Position.TheVariants.{Resting, Trying, Climbing, Deciding}
use Rattle.fn_core.specs.Tree.{aggregator, member}

-- a pass: where it stands, what is left of its allowance, how many calls it has made, and the last of them
pub record Caller : Type 0 where
  pub position : Position
  pub left : ℕ
  pub made : ℕ
  pub last : Call

pub record State : Type 0 where
  pub main : ℕ
  -- what has entered the main word
  pub steps : List MainStep
  -- what has arrived at each aggregator, by kind, level and index
  pub arrivals : Tables
  -- each aggregator
  pub rows : Kind → ℕ → ℕ → Traced
  pub callers : ℕ → Caller

-- nothing has happened
abbrev pub opened : Start → State
opened start =
    record {
      main = start.opening;
      steps = [];
      arrivals = λ kind level index. [];
      rows = λ kind level index. nothing;
      callers = λ pass. record { position = Resting; left = get_or start.allowances pass 0; made = 0; last = record { pass = pass; number = 0; kind = Read; amount = 0 } };
    }

-- the calls that have entered the main word, in order
abbrev pub history_in : Start → State → List Call
history_in start s = history s.arrivals start.shape.levels s.steps

-- a function changed for one kind, level and index
abbrev pub put_at : {A : Type 0} → (Kind → ℕ → ℕ → A) → Kind → ℕ → ℕ → A → Kind → ℕ → ℕ → A
put_at f kind level index value = λ k j i. cond (same_kind k kind && ((j == level) && (i == index))) value (f k j i)

-- where a pass stands at its aggregator of this kind and level
abbrev pub stage : Start → State → Kind → ℕ → ℕ → Stage
stage start s kind level pass = (s.rows kind level (aggregator start.shape pass level)).stage (member start.shape level pass)

-- the pass takes a step at its aggregator of this kind and level
abbrev pub local : Start → State → Kind → ℕ → ℕ → (ℕ → Step) → State
local start s kind level pass step =
    let index = aggregator start.shape pass level in
    record s { rows = put_at s.rows kind level index (traced (s.rows kind level index) (step (member start.shape level pass))) }

-- the pass goes on to this position
abbrev pub goes_to : State → ℕ → Position → State
goes_to s pass position = record s { callers = put s.callers pass (record (s.callers pass) { position = position }) }

-- a pass after one more call, whose amount it spends
abbrev pub after_call : Caller → Call → Caller
after_call caller call = record { position = caller.position; left = caller.left - call.amount; made = suc caller.made; last = call }

-- the pass makes one more call
abbrev pub spends : State → ℕ → Call → State
spends s pass call = record s { callers = put s.callers pass (after_call (s.callers pass) call) }

-- one more arrival at an aggregator
abbrev pub receives : State → Kind → ℕ → ℕ → Arrival → State
receives s kind level index arrival = record s { arrivals = with_arrival s.arrivals kind level index arrival }

-- the main word takes this amount by this step
abbrev pub enters : Start → State → Kind → ℕ → MainStep → State
enters start s kind amount step = record s { main = after start.cap s.main kind amount; steps = s.steps ++ step ∷ [] }

-- the next call of a pass
abbrev pub next_call : State → ℕ → Kind → ℕ → Call
next_call s pass kind amount = record { pass = pass; number = (s.callers pass).made; kind = kind; amount = amount }

-- the two ends of a batch that was closed
abbrev pub lo_of : Stage → ℕ
lo_of (Shut at hi) = at
lo_of _ = 0

abbrev pub hi_of : Stage → ℕ
hi_of (Shut at hi) = hi
hi_of _ = 0

-- the reply of a member that has the base of its batch, and knows how far behind the batch's first arrival it stands
abbrev pub reply_of : ℕ → Kind → Stage → ℕ
reply_of cap kind (Got base ahead) = after cap base kind ahead
reply_of cap kind _ = 0
