-- The value that the fields of a `RowState` stand for.
use Rattle.fn_rows.specs.Aggregator.{Aggregator}
use Rattle.fn_rows.specs.declared.state.RowState.TheInside.{Inside}

abbrev pub value_of : Inside → Aggregator
value_of s =
    record {
      members = s.members;
      rows = s.rows;
      total = s.total;
      done = s.done;
      last = s.last;
      announced = s.announced.items;
      lo = s.lo.items;
      base = s.base.items;
      prev = s.prev.items;
      end = s.end.items;
      stage = s.stage.items;
      found = s.found.items;
    }
