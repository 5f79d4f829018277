-- What the calls of a lane come to, in words of one integer and its history.
--     call_at pass n order      the call that a pass makes for an order
--     numbered pass n orders      the calls for these orders, numbered from n on
--     asked orders      all their amounts together
--     MetBehind start history earlier call reply      a call met its reply behind so many others
--     MadeInOrder pass orders replies after      the pass has made these calls, which met the replies
use Rattle.std.specs.Prelude.{◌≡◌, ◌≤◌, ℕ, suc, ◌+◌, List, [], ◌∷◌, ◌++◌, length, Some}
use Rattle.std.specs.List.{AllZip}
use mathlib.Core.List.{IsPrefix}
use Rattle.fn_model.specs.declared.Call.{Call}
use Rattle.fn_model.specs.declared.Kind.{Kind}
use Rattle.fn_model.specs.Calls.{place}
use Rattle.fn_model.specs.Integer.{Meets}
use Rattle.fn_core.specs.declared.Start.{Start}
use Rattle.fn_table.specs.Seen.{PassView}
use Rattle.fn_table.specs.Claims.{past, mine, left, Rests}

-- the call that a pass makes for an order, as its call of number n
abbrev pub call_at : ℕ → ℕ → Kind × ℕ → Call
call_at pass n order = record { pass = pass; number = n; kind = order.0; amount = order.1 }

-- the calls for these orders, one for each, numbered from n on
abbrev pub numbered : ℕ → ℕ → List (Kind × ℕ) → List Call
numbered pass n [] = []
numbered pass n (order ∷ orders) = call_at pass n order ∷ numbered pass (suc n) orders

-- all the amounts together
abbrev pub asked : List (Kind × ℕ) → ℕ
asked [] = 0
asked (order ∷ orders) = order.1 + asked orders

-- the call stands in the history behind so many earlier ones, and the reply is the integer just before it
pub record MetBehind (start : Start) (history : List Call) (earlier : ℕ) (call : Call) (reply : ℕ) : Type 0 where
  pub met : Meets start.cap start.opening history call reply
  pub behind : (at : ℕ) → place call.pass call.number history ≡ Some at → earlier ≤ at
  pub within : reply ≤ start.cap

-- The same pass has made exactly the calls for these orders more, in order, and spent their amounts. What it had seen has gone on; each of the calls stands in it behind all that the pass had seen, and its reply is the integer just before it
pub record MadeInOrder (p : PassView) (orders : List (Kind × ℕ)) (replies : List ℕ) (q : PassView) : Type 0 where
  pub same : (q.table ≡ p.table) × (q.number ≡ p.number) × (q.seen.start ≡ p.seen.start)
  pub goes_on : IsPrefix (past p) (past q)
  pub mine_now : mine q ≡ mine p ++ numbered p.number (length (mine p)) orders
  pub met : AllZip (MetBehind p.seen.start (past q) (length (past p))) (numbered p.number (length (mine p)) orders) replies
  pub spent : left q + asked orders ≡ left p
  pub rests : Rests q
