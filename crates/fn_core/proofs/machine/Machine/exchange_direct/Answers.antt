use Rattle.fn_core.proofs.OnMain.{wins_direct, loses_direct}
use Rattle.fn_core.proofs.machine.Machine.exchange_direct.Goals as goal

pub returns-then-found-loaded-clause-takes : goal.returns-then-found-loaded-clause-takes
returns-then-found-loaded-clause-takes c = λ log stands may.
    wins_direct c.args.self.now log stands c.args.pass may.0 c.args.kind c.args.amount c.args.loaded _ c.requires.trying c.if-found-loaded.true c.after_capped-self.ensures _ _ c.index_mut.ensures.value c.index_mut-then-found-loaded.ensures.value

pub returns-else-found-loaded-clause-takes : goal.returns-else-found-loaded-clause-takes
returns-else-found-loaded-clause-takes c = λ log stands may.
    loses_direct c.args.self.now log stands c.args.pass may.0 c.args.kind c.args.amount c.args.loaded c.requires.trying c.if-found-loaded.false _ c.index_mut-else-found-loaded.ensures.value
