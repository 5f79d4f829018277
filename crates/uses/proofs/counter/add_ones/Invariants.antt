use Rattle.std.proofs.Common.{◌≡◌, ◌+◌}
use Rattle.fn_table.specs.Seen.{IsOf}
use Rattle.fn_table.specs.Claims.{left, Rests}
use Rattle.uses.specs.Counts.{HasAdded}
use Rattle.uses.proofs.counter.add_ones.Given as goal

abbrev pub invariant-loop-done : goal.invariant-loop-done
invariant-loop-done g l = record {
  together : IsOf l.funnel l.pass;
  rests : Rests l.pass;
  room : left l.pass + l._done ≡ l.times;
  added : HasAdded l.funnel l.fn.pass l._done l.pass;
}
