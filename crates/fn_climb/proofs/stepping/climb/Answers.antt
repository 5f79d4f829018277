use Rattle.std.proofs.Common.{ap, ◌∙◌}
use Rattle.fn_core.specs.Positions.{is_out}
use Rattle.fn_climb.proofs.Underway.{climbs, held_is}
use Rattle.fn_climb.proofs.Goes.{goes_left, moved}
use Rattle.fn_climb.proofs.stepping.climb.Goals as goal

pub go_on-next-requires-clause-goes_on : goal.go_on-next-requires-clause-goes_on
go_on-next-requires-clause-goes_on c =
    let w = c.in_default in
    goes_left c.args.course.now.stage (ap is_out (held_is c.requires.holds) ∙ (climbs c.requires.holds).there) w.not-Waiting w.not-Shut w.not-Got

pub returns-in_default : goal.returns-in_default
returns-in_default c = rw c.go_to.ensures (moved c.requires.holds c.requires.free c.go_on-next.ensures)
