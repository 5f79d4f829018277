use Rattle.std.proofs.Common.{◌≡◌, ◌++◌, map, take, drop}
use Rattle.trace_text.specs.Trace.{account_settled}
use Rattle.trace_text.proofs.tenants.settle_all.Given as goal

abbrev pub invariant-loop-account : goal.invariant-loop-account
invariant-loop-account l = l.accounts ≡ map account_settled (take l.account-index l.fn.accounts) ++ drop l.account-index l.fn.accounts
