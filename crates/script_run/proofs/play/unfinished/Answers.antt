use Rattle.std.proofs.Common.{rules, sym, ◌<◌, ◌≡◌, ℕ, true, false}
use Rattle.fn_core.specs.Calls.{state_in}
use Rattle.script_run.specs.Play.{rests}
use Rattle.script_run.proofs.OneByOne.{all-rest, first-busy}
use Rattle.script_run.proofs.play.unfinished.Goals as goal

pub returns-then-not-rests : goal.returns-then-not-rests
returns-then-not-rests c =
    let busy : rests (state_in c.args.core.now) c.loop-pass.pass ≡ false = search rules in
    sym (first-busy c.args.core.now c.loop-pass.pass (search rules) busy c.loop-pass.invariant)

pub returns : goal.returns
returns c =
    let all : (k : ℕ) → k < c.args.core.now.start.shape.passes → rests (state_in c.args.core.now) k ≡ true = λ k below. c.loop-pass.invariant k (search rules) in
    sym (all-rest c.args.core.now all)
