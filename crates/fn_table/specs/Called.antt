-- That a pass has made a call, as its log tells it.
--     call_of pass kind amount      the call that the pass makes next
--     HasCalled pass kind amount reply after      the pass has made it, and it met the reply
--     HasMadeNone pass after      the pass has made no call
use Rattle.std.specs.Prelude.{◌≡◌, ℕ, ◌+◌, ◌≤◌, [], ◌∷◌, ◌++◌, length, sum, Some}
use Rattle.fn_model.specs.declared.Call.{Call}
use Rattle.fn_model.specs.declared.Kind.{Kind}
use Rattle.fn_model.specs.Calls.{own, place}
use Rattle.fn_core.specs.State.{next_call}
use Rattle.fn_core.specs.Laws.{HasReply}
use Rattle.fn_core.specs.Calls.{state_in, calls_in, IsIdle, left_of}
use Rattle.fn_table.specs.Seen.{PassView, own_of}

-- the call that the pass makes next
abbrev pub call_of : PassView → Kind → ℕ → Call
call_of p kind amount = next_call (state_in p.seen) p.number kind amount

-- The pass has made exactly this call more, and spent its amount. The call stands in the history behind all that stood there before, at a place at which the integer is the reply; and the reply is at most the opening and all allowances
pub record HasCalled (p : PassView) (kind : Kind) (amount reply : ℕ) (q : PassView) : Type 0 where
  pub met : HasReply q.seen.start (calls_in q.seen) (call_of p kind amount) reply
  pub joined : own p.number (calls_in q.seen) ≡ own p.number (calls_in p.seen) ++ call_of p kind amount ∷ []
  pub beyond : (i : ℕ) → place p.number (call_of p kind amount).number (calls_in q.seen) ≡ Some i → length (calls_in p.seen) ≤ i
  pub bounded : reply ≤ p.seen.start.opening + sum p.seen.start.allowances
  pub spent : left_of q.seen p.number + amount ≡ left_of p.seen p.number
  pub idle : IsIdle q.seen p.number

-- the pass has made no call more, and spent nothing; so its next call has the same number
pub record HasMadeNone (p q : PassView) : Type 0 where
  pub calls : own p.number (calls_in q.seen) ≡ own p.number (calls_in p.seen)
  pub made : (own_of q).caller.made ≡ (own_of p).caller.made
  pub left : left_of q.seen p.number ≡ left_of p.seen p.number
  pub idle : IsIdle q.seen p.number
