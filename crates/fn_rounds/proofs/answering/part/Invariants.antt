use Rattle.std.proofs.Common.{◌≡◌, map}
use Rattle.fn_rounds.proofs.answering.part.Given as goal

abbrev pub invariant-loop-done : goal.invariant-loop-done
invariant-loop-done l = record {
  passes : l.passes.items ≡ map (λ done. done.pass) l.yielded;
  replies : l.all.items ≡ map (λ done. done.replies) l.yielded;
}
