-- The draws of workers, as a history of calls on one integer that opens at 0.
--     replies history      what each call meets, in order
--     IsDraw grain call      the call is an addition of the grain
--     AreDraws workers grain count draws history      the draws by which so many workers share so many items
use Rattle.std.specs.Prelude.{◌≡◌, ℕ, ◌+◌, ◌≤◌, nat_lt, List, length, map, filter, sum, All}
use Rattle.running.specs.Running.{upto}
use Rattle.fn_model.specs.declared.Call.{Call}
use Rattle.fn_model.specs.declared.Kind.TheVariants.{Add}
use Rattle.fn_model.specs.declared.TheConstants.{NO_CAP}
use Rattle.fn_model.specs.Calls.{own}
use Rattle.fn_model.specs.Integer.{before}
use Rattle.fn_spread.specs.Ranges.{ranges_of, starts}

-- what each call meets, in order: the integer opens at 0, and no addition stops
abbrev pub replies : List Call → List ℕ
replies history = map (before NO_CAP 0 history) (upto (length history))

-- the call is an addition of the grain
abbrev pub IsDraw : ℕ → Call → Type 0
IsDraw grain call = (call.kind ≡ Add) × (call.amount ≡ grain)

-- All calls are additions of the grain, one for each range and one more for each worker. Each worker made at least one, and as many as `draws` tells. The replies below the number of items are where the ranges begin, each once
pub record AreDraws (workers grain count : ℕ) (draws : List ℕ) (history : List Call) : Type 0 where
  pub additions : All (IsDraw grain) history
  pub number : length history ≡ ranges_of grain count + workers
  pub each : draws ≡ map (λ worker. length (own worker history)) (upto workers)
  pub some : All (λ n. 1 ≤ n) draws
  pub total : sum draws ≡ ranges_of grain count + workers
  pub once : filter (λ reply. nat_lt reply count) (replies history) ≡ starts grain (ranges_of grain count)
