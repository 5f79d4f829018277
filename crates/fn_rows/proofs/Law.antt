-- The law of the rows, for every list of allowed steps.
use Rattle.std.proofs.Common.{ℕ, List}
use Rattle.fn_rows.specs.Machine.{Step, start, AllAllowed}
use Rattle.fn_rows.specs.Trace.{nothing, run}
use Rattle.fn_rows.specs.Law.{IsLawful}
use Rattle.fn_rows.proofs.Invariant.{inv_start}
use Rattle.fn_rows.proofs.Steps.{reaches}
use Rattle.fn_rows.proofs.Laws.{ordered, told, kept}
use Rattle.fn_rows.proofs.Walks.{walks_start, walks_reach, short}

pub law : (members rows : ℕ) (steps : List Step) → AllAllowed members rows steps start → IsLawful members rows (run steps nothing)
law members rows steps allowed =
    let inv = reaches members rows steps nothing (inv_start members rows) allowed in
    let walks = walks_reach members rows steps nothing (inv_start members rows) (walks_start members rows) allowed in
    let s = run steps nothing in
    record { ordered = ordered members rows s inv; told = told members rows s inv; kept = kept members rows s inv; short = short members rows s inv walks }
