-- What a pass may do, it may still do after an event of another pass.
use Rattle.std.proofs.Common.{◌≡◌, ◌≢◌, ℕ, List}
use Rattle.fn_core.specs.declared.Event.{Event}
use Rattle.fn_core.specs.declared.Start.{Start}
use Rattle.fn_core.specs.State.{State, opened}
use Rattle.fn_core.specs.Machine.{Allowed, Legal, run, effect}
use Rattle.fn_core.specs.Words.{own}
use Rattle.fn_core.specs.Laws.{GuardsStay}
use Rattle.fn_core.proofs.Guards.{may_is}
use Rattle.fn_core.proofs.Others.{passes, tidy_opened}
use Rattle.fn_core.proofs.Tells.{tidy_run}

-- an event leaves what another pass's guards read
pub own_stays : (start : Start) (log : List Event) → Legal start log (opened start) → (event : Event) → Allowed start (run start log (opened start)) event → (q : ℕ) → q ≢ event.pass → own start (effect start (run start log (opened start)) event) q ≡ own start (run start log (opened start)) q
own_stays start log legal event allowed q ne = (passes start event.pass (run start log (opened start)) event.step (tidy_run start log (opened start) (tidy_opened start) legal) allowed.1).others q ne

pub guards_stay : GuardsStay
guards_stay start log ok legal event other allowed too ne =
    let s : State = run start log (opened start) in
    (too.0, may_is start other.pass s (effect start s event) (own_stays start log legal event allowed other.pass ne) other.step too.1)
