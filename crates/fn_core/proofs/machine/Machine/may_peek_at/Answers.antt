use Rattle.std.proofs.Common.{sym, ap, ◌∙◌}
use Rattle.fn_rows.specs.Law.{row_in_hand}
use Rattle.fn_rows.specs.declared.Field.TheVariants.{Lo, Base, Prev}
use Rattle.fn_core.proofs.HandRows.{peeks_as, reads_row}
use Rattle.fn_core.proofs.Looks.{climbs_in, hand_in}
use Rattle.fn_core.proofs.machine.Machine.may_peek_at.Goals as goal

pub stage_of-requires-clause-slot : goal.stage_of-requires-clause-slot
stage_of-requires-clause-slot c = climbs_in c.args.self.now c.requires.0.0 c.requires.0.1 c.args.pass c.args.kind c.args.level c.requires

pub stage_of-requires-in-Base-clause-slot : goal.stage_of-requires-in-Base-clause-slot
stage_of-requires-in-Base-clause-slot c = climbs_in c.args.self.now c.requires.0.0 c.requires.0.1 c.args.pass c.args.kind c.args.level c.requires

pub stage_of-requires-in-Prev-clause-slot : goal.stage_of-requires-in-Prev-clause-slot
stage_of-requires-in-Prev-clause-slot c = climbs_in c.args.self.now c.requires.0.0 c.requires.0.1 c.args.pass c.args.kind c.args.level c.requires

pub row_there-requires-clause-slot : goal.row_there-requires-clause-slot
row_there-requires-clause-slot c = climbs_in c.args.self.now c.requires.0.0 c.requires.0.1 c.args.pass c.args.kind c.args.level c.requires

pub row_there-requires-clause-named : goal.row_there-requires-clause-named
row_there-requires-clause-named c = hand_in c.args.self.now c.requires.0.0 c.requires.0.1 c.args.pass c.args.kind c.args.level (climbs_in c.args.self.now c.requires.0.0 c.requires.0.1 c.args.pass c.args.kind c.args.level c.requires) c.in-At.hand (ap row_in_hand (sym (c.stage_of.ensures c.requires.0.0 c.requires.0.1) ∙ c.in-At.is))

pub row_there-requires-in-Hit-clause-slot : goal.row_there-requires-in-Hit-clause-slot
row_there-requires-in-Hit-clause-slot c = climbs_in c.args.self.now c.requires.0.0 c.requires.0.1 c.args.pass c.args.kind c.args.level c.requires

pub row_there-requires-in-Hit-clause-named : goal.row_there-requires-in-Hit-clause-named
row_there-requires-in-Hit-clause-named c = hand_in c.args.self.now c.requires.0.0 c.requires.0.1 c.args.pass c.args.kind c.args.level (climbs_in c.args.self.now c.requires.0.0 c.requires.0.1 c.args.pass c.args.kind c.args.level c.requires) c.in-Hit.hand (ap row_in_hand (sym (c.stage_of-in-Base.ensures c.requires.0.0 c.requires.0.1) ∙ c.in-Hit.is))

pub row_there-requires-in-Over-clause-slot : goal.row_there-requires-in-Over-clause-slot
row_there-requires-in-Over-clause-slot c = climbs_in c.args.self.now c.requires.0.0 c.requires.0.1 c.args.pass c.args.kind c.args.level c.requires

pub row_there-requires-in-Over-clause-named : goal.row_there-requires-in-Over-clause-named
row_there-requires-in-Over-clause-named c = hand_in c.args.self.now c.requires.0.0 c.requires.0.1 c.args.pass c.args.kind c.args.level (climbs_in c.args.self.now c.requires.0.0 c.requires.0.1 c.args.pass c.args.kind c.args.level c.requires) c.in-Over.hand (ap row_in_hand (sym (c.stage_of-in-Prev.ensures c.requires.0.0 c.requires.0.1) ∙ c.in-Over.is))

pub returns-in-At : goal.returns-in-At
returns-in-At c = λ log stands.
    peeks_as c.args.self.now.start c.args.kind c.args.level _ c.args.row c.args.field Lo _ _ _ _ c.in-Lo.is c.in-At.is (c.stage_of.ensures log stands) (reads_row c.args.self.now.start.shape c.args.kind c.args.level c.args.pass c.in-At.hand c.args.row c.row_there.result (hand_in c.args.self.now c.requires.0.0 c.requires.0.1 c.args.pass c.args.kind c.args.level (climbs_in c.args.self.now c.requires.0.0 c.requires.0.1 c.args.pass c.args.kind c.args.level c.requires) c.in-At.hand (ap row_in_hand (sym (c.stage_of.ensures c.requires.0.0 c.requires.0.1) ∙ c.in-At.is))) c.row_there.ensures)

pub returns-in-Hit : goal.returns-in-Hit
returns-in-Hit c = λ log stands.
    peeks_as c.args.self.now.start c.args.kind c.args.level _ c.args.row c.args.field Base _ _ _ _ c.in-Base.is c.in-Hit.is (c.stage_of-in-Base.ensures log stands) (reads_row c.args.self.now.start.shape c.args.kind c.args.level c.args.pass c.in-Hit.hand c.args.row c.row_there-in-Hit.result (hand_in c.args.self.now c.requires.0.0 c.requires.0.1 c.args.pass c.args.kind c.args.level (climbs_in c.args.self.now c.requires.0.0 c.requires.0.1 c.args.pass c.args.kind c.args.level c.requires) c.in-Hit.hand (ap row_in_hand (sym (c.stage_of-in-Base.ensures c.requires.0.0 c.requires.0.1) ∙ c.in-Hit.is))) c.row_there-in-Hit.ensures)

pub returns-in-Over : goal.returns-in-Over
returns-in-Over c = λ log stands.
    peeks_as c.args.self.now.start c.args.kind c.args.level _ c.args.row c.args.field Prev _ _ _ _ c.in-Prev.is c.in-Over.is (c.stage_of-in-Prev.ensures log stands) (reads_row c.args.self.now.start.shape c.args.kind c.args.level c.args.pass c.in-Over.hand c.args.row c.row_there-in-Over.result (hand_in c.args.self.now c.requires.0.0 c.requires.0.1 c.args.pass c.args.kind c.args.level (climbs_in c.args.self.now c.requires.0.0 c.requires.0.1 c.args.pass c.args.kind c.args.level c.requires) c.in-Over.hand (ap row_in_hand (sym (c.stage_of-in-Prev.ensures c.requires.0.0 c.requires.0.1) ∙ c.in-Over.is))) c.row_there-in-Over.ensures)
