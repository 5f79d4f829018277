use Rattle.std.proofs.Common.{◌≡◌, map}
use Rattle.trace_text.proofs.tracing.trace_in.Given as goal

abbrev pub invariant-loop-account : goal.invariant-loop-account
invariant-loop-account l = l.tenants.items ≡ map (λ account. account.tenant) l.yielded
