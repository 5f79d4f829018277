use Rattle.std.proofs.Common.{refl}
use Rattle.fn_climb.proofs.Tops.{exchange_won, exchange_lost}
use Rattle.fn_climb.proofs.stepping.decide.Goals as goal

pub returns-in-Ok : goal.returns-in-Ok
returns-in-Ok c = rw c.take_base.ensures (exchange_won c.requires.holds c.requires.loaded (rw c.weight-weight.ensures at c.in-Ok.ensures.step) refl)

pub returns-in-Err : goal.returns-in-Err
returns-in-Err c = exchange_lost c.requires.holds c.requires.loaded (rw c.weight-weight.ensures at c.in-Err.ensures.step) c.in-Err.ensures.lost
