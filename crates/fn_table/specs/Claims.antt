-- What is claimed of calls: of one integer and its history, and of nothing that lies below.
--     past pass, mine pass      the history that a pass has seen, and its own calls in it
--     left pass      what it may still ask for
--     Rests pass      it has no call underway
--     next_of pass kind amount      the call that it makes next
--     Made pass kind amount reply after      it has made this call, which met the reply
--     MadeNone pass after      it has made no call
use Rattle.std.specs.Prelude.{◌≡◌, ℕ, ◌+◌, ◌≤◌, List, [], ◌∷◌, ◌++◌, length, Some}
use mathlib.Core.List.{IsPrefix}
use Rattle.fn_model.specs.declared.Call.{Call}
use Rattle.fn_model.specs.declared.Kind.{Kind}
use Rattle.fn_model.specs.Calls.{own, place}
use Rattle.fn_model.specs.Integer.{Meets}
use Rattle.fn_core.specs.Calls.{calls_in, left_of, IsIdle}
use Rattle.fn_table.specs.Seen.{PassView}

-- the history that a pass has seen: all calls that had entered the integer by then, in order
abbrev pub past : PassView → List Call
past p = calls_in p.seen

-- its own calls in it
abbrev pub mine : PassView → List Call
mine p = own p.number (past p)

-- what it may still ask for, of its allowance
abbrev pub left : PassView → ℕ
left p = left_of p.seen p.number

-- it has no call underway
abbrev pub Rests : PassView → Type 0
Rests p = IsIdle p.seen p.number

-- the call that a pass makes next: its calls are numbered from 0
abbrev pub next_of : PassView → Kind → ℕ → Call
next_of p kind amount = record { pass = p.number; number = length (mine p); kind = kind; amount = amount }

-- The same pass has made exactly this call more, and spent its amount. What it had seen has gone on; the call stands in it once, behind all that it had seen, and the reply is the integer just before it
pub record Made (p : PassView) (kind : Kind) (amount reply : ℕ) (q : PassView) : Type 0 where
  pub same : (q.table ≡ p.table) × (q.number ≡ p.number) × (q.seen.start ≡ p.seen.start)
  pub goes_on : IsPrefix (past p) (past q)
  pub mine_now : mine q ≡ mine p ++ next_of p kind amount ∷ []
  pub behind : (at : ℕ) → place p.number (length (mine p)) (past q) ≡ Some at → length (past p) ≤ at
  pub met : Meets p.seen.start.cap p.seen.start.opening (past q) (next_of p kind amount) reply
  pub within : reply ≤ p.seen.start.cap
  pub spent : left q + amount ≡ left p
  pub rests : Rests q

-- The same pass has made no call, and spent nothing; what it had seen may have gone on
pub record MadeNone (p q : PassView) : Type 0 where
  pub same : (q.table ≡ p.table) × (q.number ≡ p.number) × (q.seen.start ≡ p.seen.start)
  pub goes_on : IsPrefix (past p) (past q)
  pub mine_now : mine q ≡ mine p
  pub spent : left q ≡ left p
  pub rests : Rests q
