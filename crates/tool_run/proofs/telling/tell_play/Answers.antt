use Rattle.std.proofs.Common.{rules, ◌≡◌, Err, inl, inr, refl}
use Rattle.script_run.specs.Play.{play_text}
use Rattle.script_run.specs.declared.play.PlayFault.TheVariants.{NoMemory}
use Rattle.script_run.proofs.WholeRun.{run-text}
use Rattle.tool_run.proofs.telling.tell_play.Goals as goal

pub returns-in-Ok : goal.returns-in-Ok
returns-in-Ok c = (c.in_ok-script.script, c.in_ok-script.ensures.0, run-text c.in_ok-script.script c.in-Ok.text.items c.in_ok-script.ensures.1 c.in-Ok.ensures.text, c.nothing.ensures)

pub returns : goal.returns
returns c =
    let other : c.in-Err.fault ≡ NoMemory → ⊥ = search rules in
    let fault : play_text c.in_ok-script.script ≡ Err c.in-Err.fault = elim c.in-Err.ensures.text [ inl memory ↦ absurd (other memory) | inr meant ↦ meant ] in
    rw (c.new-in-Err.ensures.ending, c.new-in-Err.ensures.halted) ((c.in_ok-script.script, c.in_ok-script.ensures.0), (c.in_ok-script.script, c.in_ok-script.ensures.0, fault, refl))
