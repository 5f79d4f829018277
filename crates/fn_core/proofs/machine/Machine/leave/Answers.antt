use Rattle.std.proofs.Common.{ℕ, sym, subst}
use Rattle.fn_core.specs.declared.Move.TheVariants.{Leave}
use Rattle.fn_core.specs.Fields.{Takes}
use Rattle.fn_core.proofs.machine.Machine.leave.Goals as goal

pub returns-in-1-clause-takes : goal.returns-in-1-clause-takes
returns-in-1-clause-takes c = subst (λ (l : ℕ). Takes c.args.self.now c.end_call.new.self c.args.pass (Leave c.args.kind l) c.end_call.result) (sym c.in-1.is) c.end_call.ensures.takes
