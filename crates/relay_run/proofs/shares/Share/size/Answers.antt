use Rattle.std.proofs.Common.{sym}
use Rattle.relay_run.proofs.Strides.{sizes}
use Rattle.relay_run.proofs.shares.Share.size.Goals as goal

pub returns : goal.returns
returns c = rw (c.from-workers.ensures, c.from.ensures) (sym (sizes c.args.self.workers c.args.self.worker c.requires.worker c.args.lines))
