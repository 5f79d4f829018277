use Rattle.std.proofs.Common.{ap, sym, ◌∙◌}
use Rattle.fn_rows.specs.Law.{row_in_hand}
use Rattle.fn_core.proofs.Looks.{climbs_in, free_in, hand_in}
use Rattle.fn_core.proofs.machine.Machine.next_on_row.Goals as goal

pub free_row-requires-clause-free : goal.free_row-requires-clause-free
free_row-requires-clause-free c = λ log stands. free_in c.args.self.now log stands c.args.pass c.args.kind c.args.level c.requires.climbs _ _ _ _ (sym (c.requires.there log stands) ∙ c.in-Headed.is)

pub own_row-requires : goal.own_row-requires
own_row-requires c = climbs_in c.args.self.now c.requires.climbs.0.0 c.requires.climbs.0.1 c.args.pass c.args.kind c.args.level c.requires.climbs

pub own_row-requires-in-FilledBase : goal.own_row-requires-in-FilledBase
own_row-requires-in-FilledBase c = climbs_in c.args.self.now c.requires.climbs.0.0 c.requires.climbs.0.1 c.args.pass c.args.kind c.args.level c.requires.climbs

pub own_row-requires-in-Filled : goal.own_row-requires-in-Filled
own_row-requires-in-Filled c = climbs_in c.args.self.now c.requires.climbs.0.0 c.requires.climbs.0.1 c.args.pass c.args.kind c.args.level c.requires.climbs

pub row_there-requires-clause-slot : goal.row_there-requires-clause-slot
row_there-requires-clause-slot c = climbs_in c.args.self.now c.requires.climbs.0.0 c.requires.climbs.0.1 c.args.pass c.args.kind c.args.level c.requires.climbs

pub row_there-requires-in-Over-clause-slot : goal.row_there-requires-in-Over-clause-slot
row_there-requires-in-Over-clause-slot c = climbs_in c.args.self.now c.requires.climbs.0.0 c.requires.climbs.0.1 c.args.pass c.args.kind c.args.level c.requires.climbs

pub row_there-requires-in-Hit-clause-slot : goal.row_there-requires-in-Hit-clause-slot
row_there-requires-in-Hit-clause-slot c = climbs_in c.args.self.now c.requires.climbs.0.0 c.requires.climbs.0.1 c.args.pass c.args.kind c.args.level c.requires.climbs

pub row_there-requires-clause-named : goal.row_there-requires-clause-named
row_there-requires-clause-named c =
    hand_in c.args.self.now c.requires.climbs.0.0 c.requires.climbs.0.1 c.args.pass c.args.kind c.args.level (climbs_in c.args.self.now c.requires.climbs.0.0 c.requires.climbs.0.1 c.args.pass c.args.kind c.args.level c.requires.climbs) c.in-At.row (ap row_in_hand (sym (c.requires.there c.requires.climbs.0.0 c.requires.climbs.0.1) ∙ c.in-At.is))

pub row_there-requires-in-Over-clause-named : goal.row_there-requires-in-Over-clause-named
row_there-requires-in-Over-clause-named c =
    hand_in c.args.self.now c.requires.climbs.0.0 c.requires.climbs.0.1 c.args.pass c.args.kind c.args.level (climbs_in c.args.self.now c.requires.climbs.0.0 c.requires.climbs.0.1 c.args.pass c.args.kind c.args.level c.requires.climbs) c.in-Over.row (ap row_in_hand (sym (c.requires.there c.requires.climbs.0.0 c.requires.climbs.0.1) ∙ c.in-Over.is))

pub row_there-requires-in-Hit-clause-named : goal.row_there-requires-in-Hit-clause-named
row_there-requires-in-Hit-clause-named c =
    hand_in c.args.self.now c.requires.climbs.0.0 c.requires.climbs.0.1 c.args.pass c.args.kind c.args.level (climbs_in c.args.self.now c.requires.climbs.0.0 c.requires.climbs.0.1 c.args.pass c.args.kind c.args.level c.requires.climbs) c.in-Hit.row (ap row_in_hand (sym (c.requires.there c.requires.climbs.0.0 c.requires.climbs.0.1) ∙ c.in-Hit.is))
