use Rattle.std.proofs.Common.{◌≡◌, ◌++◌, All, map}
use Rattle.std.specs.Arc.{arc_value}
use Rattle.fn_table.specs.Seen.{IsOf}
use Rattle.fn_table.specs.Claims.{Rests}
use Rattle.fn_callers.specs.Callers.{at_rest}
use Rattle.fn_callers.proofs.opening.all_callers.Given as goal

abbrev pub invariant-loop-pass : goal.invariant-loop-pass
invariant-loop-pass l = record {
  table : arc_value l.table ≡ arc_value l.fn.table;
  together : All (IsOf (arc_value l.fn.table)) l.pass-iterator.rest.items;
  rests : All Rests l.pass-iterator.rest.items;
  so_far : l.all.items ++ map (at_rest (arc_value l.fn.table)) l.pass-iterator.rest.items ≡ map (at_rest (arc_value l.fn.table)) l.fn.passes.items;
}
