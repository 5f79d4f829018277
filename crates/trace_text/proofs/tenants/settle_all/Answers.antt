use Rattle.trace_text.specs.Trace.{account_settled}
use Rattle.trace_text.proofs.InPlace.{changed-more}
use Rattle.trace_text.proofs.tenants.settle_all.Goals as goal

pub loop-account-preserved : goal.loop-account-preserved
loop-account-preserved c =
    changed-more account_settled c.args.accounts.now c.loop-account.accounts c.loop-account.account-index c.account-item.result c.settle.new.account
    c.loop-account-test.true c.loop-account.invariant c.settle.ensures
