use Rattle.std.proofs.Common.{rules, ◌≡◌, inl, inr}
use Rattle.script_run.specs.Trial.{IsHalted}
use Rattle.script_run.specs.declared.play.PlayFault.TheVariants.{NoMemory}
use Rattle.tool_run.proofs.Preparing.{book-telling}
use Rattle.tool_run.proofs.telling.tell_trial.Goals as goal

pub returns-in-Ok : goal.returns-in-Ok
returns-in-Ok c = book-telling c.args.bytes.now c.in_ok-script.script c.in-Ok.text.items c.in-Ok.book c.tell_book.result c.in_ok-script.ensures.0 c.in-Ok.ensures.way c.tell_book.ensures

pub returns : goal.returns
returns c =
    let other : c.in-Err.fault ≡ NoMemory → ⊥ = search rules in
    let halted : IsHalted c.in_ok-script.script c.in-Err.fault c.in-Err.halted.items = elim c.in-Err.ensures.refused [ inl memory ↦ absurd (other memory.0) | inr meant ↦ meant ] in
    ((c.in_ok-script.script, c.in_ok-script.ensures.0), (c.in_ok-script.script, c.in_ok-script.ensures.0, halted))
