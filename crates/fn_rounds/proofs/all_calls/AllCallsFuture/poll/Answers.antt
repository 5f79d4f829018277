use Rattle.fn_rounds.proofs.Paired.{round_keeps, round_left}
use Rattle.fn_rounds.proofs.all_calls.AllCallsFuture.poll.Goals as goal

pub returns-in-None-clause-pending : goal.returns-in-None-clause-pending
returns-in-None-clause-pending c = rw c.yield_now.ensures.pending (round_left c.args.self.now c.round.new.self c.in-None.ensures.turned)

pub returns-in-None-clause-same : goal.returns-in-None-clause-same
returns-in-None-clause-same c = rw c.yield_now.ensures.pending (λ r given. round_keeps c.args.self.now c.round.new.self c.in-None.ensures.turned r.items given)
