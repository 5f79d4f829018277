-- A log leaves the same state in the machine of the running rule as in the funnel's own words, and is legal in both alike.
use Rattle.std.proofs.Common.{◌≡◌, ℕ, List, [], ◌∷◌, fold, refl, ap}
use Rattle.running.specs.Machine.{IsLegal, IsLegalFrom, state_of, own_of}
use Rattle.fn_core.specs.declared.Start.{Start}
use Rattle.fn_core.specs.declared.Event.{Event}
use Rattle.fn_core.specs.State.{State, opened}
use Rattle.fn_core.specs.Machine.{IsStart, Legal, run, effect}
use Rattle.fn_core.specs.Words.{own}
use Rattle.fn_table.specs.Funnel.{funnel}

runs_on : (start : Start) (s : State) (log : List Event) → fold (effect start) s log ≡ run start log s
runs_on start s [] = refl
runs_on start s (event ∷ log) = runs_on start (effect start s event) log

pub runs : (start : Start) (log : List Event) → state_of funnel start log ≡ run start log (opened start)
runs start log = runs_on start (opened start) log

pub own_is : (start : Start) (log : List Event) (pass : ℕ) → own_of funnel start log pass ≡ own start (run start log (opened start)) pass
own_is start log pass = ap (λ (s : State). own start s pass) (runs start log)

legal_on : (start : Start) → IsStart start → (s : State) (log : List Event) → Legal start log s → IsLegalFrom funnel start s log
legal_on start ok s [] h = tt
legal_on start ok s (event ∷ log) h = ((ok, s, refl, h.0), legal_on start ok (effect start s event) log h.1)

pub is_legal : (start : Start) (log : List Event) → IsStart start → Legal start log (opened start) → IsLegal funnel start log
is_legal start log ok h = legal_on start ok (opened start) log h
