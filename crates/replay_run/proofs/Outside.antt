-- The value of a book is no more than its opening with all that was added, and than its cap.
use Rattle.std.proofs.Common.{◌+◌, ◌≤◌, ℕ, List, [], ◌∷◌, arith}
use Rattle.std.proofs.lemmas.List.Sums.{sum_by-cons}
use Rattle.std.specs.List.{sum_by}
use Rattle.fn_model.specs.declared.Call.{Call}
use Rattle.fn_model.specs.declared.Kind.{Kind}
use Rattle.fn_model.specs.declared.Kind.TheVariants as kind
use Rattle.fn_model.specs.Integer.{after, value}
use Rattle.fn_core.specs.Calls.{CoreLog, calls_in, IsLegal}
use Rattle.fn_core.proofs.Public.{main_is_value}

-- what a call adds
abbrev pub adds : Kind → ℕ → ℕ
adds kind.Add amount = amount
adds kind.Sub amount = 0
adds kind.Read amount = 0

after_least : (cap v : ℕ) (k : Kind) (amount : ℕ) → after cap v k amount ≤ v + adds k amount
after_least cap v kind.Add amount = omega arith
after_least cap v kind.Sub amount = omega arith
after_least cap v kind.Read amount = omega arith

abbrev pub added_by : Call → ℕ
added_by call = adds call.kind call.amount

pub value_least : (cap opening : ℕ) (calls : List Call) → value cap opening calls ≤ opening + sum_by added_by calls
value_least cap opening [] = omega arith
value_least cap opening (call ∷ calls) =
    omega (arith, value_least cap (after cap opening call.kind call.amount) calls, after_least cap opening call.kind call.amount, sum_by-cons added_by call calls)

-- the value of a book is at most its cap
pub value_within : (book : CoreLog) → IsLegal book → value book.start.cap book.start.opening (calls_in book) ≤ book.start.cap
value_within book legal = let law = main_is_value book.start book.log legal.0 legal.1 in omega (arith, law.0, law.1)
