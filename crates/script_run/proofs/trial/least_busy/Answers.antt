use Rattle.std.proofs.Common.{rules, sym, ◌<◌, ◌≡◌, ℕ, true, false}
use Rattle.script_run.specs.Slots.{present}
use Rattle.script_run.specs.Trial.{rests_in}
use Rattle.script_run.proofs.OneByOne.{least-is, none-busy}
use Rattle.script_run.proofs.trial.least_busy.Goals as goal

pub returns-then-not-rests : goal.returns-then-not-rests
returns-then-not-rests c =
    let busy : rests_in (present c.args.callers.now) c.loop-pass.pass ≡ false = search rules in
    sym (least-is (rests_in (present c.args.callers.now)) c.args.passes c.loop-pass.pass (search rules) busy c.loop-pass.invariant)

pub returns : goal.returns
returns c =
    let all : (k : ℕ) → k < c.args.passes → rests_in (present c.args.callers.now) k ≡ true = λ k below. c.loop-pass.invariant k (search rules) in
    sym (none-busy (rests_in (present c.args.callers.now)) c.args.passes all)
