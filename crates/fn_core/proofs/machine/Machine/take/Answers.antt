use Rattle.std.proofs.Common.{sym, subst}
use Rattle.fn_core.specs.declared.Move.{Move}
use Rattle.fn_core.specs.Fields.{MayTake, Takes}
use Rattle.fn_core.proofs.machine.Machine.take.Goals as goal

pub head-requires : goal.head-requires
head-requires c = subst (MayTake c.args.self.now c.args.event.pass) c.in-Head.is c.requires

pub point-requires : goal.point-requires
point-requires c = subst (MayTake c.args.self.now c.args.event.pass) c.in-Point.is c.requires

pub returns-in-Arrive-clause-takes : goal.returns-in-Arrive-clause-takes
returns-in-Arrive-clause-takes c = subst (λ (step : Move). Takes c.args.self.now c.arrive.new.self c.args.event.pass step c.arrive.result) (sym c.in-Arrive.is) c.arrive.ensures.takes

pub returns-in-Head-clause-takes : goal.returns-in-Head-clause-takes
returns-in-Head-clause-takes c = subst (λ (step : Move). Takes c.args.self.now c.head.new.self c.args.event.pass step c.head.result) (sym c.in-Head.is) c.head.ensures.takes

pub returns-in-Point-clause-takes : goal.returns-in-Point-clause-takes
returns-in-Point-clause-takes c = subst (λ (step : Move). Takes c.args.self.now c.point.new.self c.args.event.pass step c.point.result) (sym c.in-Point.is) c.point.ensures.takes

pub returns-in-Peek-clause-takes : goal.returns-in-Peek-clause-takes
returns-in-Peek-clause-takes c = subst (λ (step : Move). Takes c.args.self.now c.peek.new.self c.args.event.pass step c.peek.result) (sym c.in-Peek.is) c.peek.ensures.takes

pub returns-in-Leave-clause-takes : goal.returns-in-Leave-clause-takes
returns-in-Leave-clause-takes c = subst (λ (step : Move). Takes c.args.self.now c.leave.new.self c.args.event.pass step c.leave.result) (sym c.in-Leave.is) c.leave.ensures.takes

pub returns-in-Exchange-clause-takes : goal.returns-in-Exchange-clause-takes
returns-in-Exchange-clause-takes c = subst (λ (step : Move). Takes c.args.self.now c.exchange.new.self c.args.event.pass step c.exchange.result) (sym c.in-Exchange.is) c.exchange.ensures.takes
