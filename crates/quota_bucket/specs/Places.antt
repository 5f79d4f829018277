-- A desk between its calls.
--     pass_in seat place      the pass in a desk's place
--     desk_of both      the desk with this seat and this pass
use Rattle.std.specs.Prelude.{[], Option, Some, None}
use Rattle.fn_table.specs.Seats.{nowhere}
use Rattle.fn_table.specs.Seen.{PassView}
use Rattle.tick_table.specs.Seen.{SeatView}
use Rattle.quota_bucket.specs.Seen.{DeskView}

-- the pass in a place; where there is none, one that never steps
abbrev pub pass_in : SeatView → Option PassView → PassView
pass_in seat (Some pass) = pass
pass_in seat None = record { table = seat.table; number = seat.number; seen = record { start = nowhere; log = [] } }

-- the desk with this seat and this pass
abbrev pub desk_of : SeatView × PassView → DeskView
desk_of both = record { pass = both.1; seat = both.0 }
