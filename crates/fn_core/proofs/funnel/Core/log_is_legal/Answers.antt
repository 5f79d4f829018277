use Rattle.std.proofs.Common.{subst}
use Rattle.fn_core.specs.Calls.{IsLegal}
use Rattle.fn_core.proofs.funnel.Core.log_is_legal.Goals as goal

pub returns : goal.returns
returns c = subst IsLegal c.self.view_is (c.self.invariant.start_ok, c.self.invariant.legal)
