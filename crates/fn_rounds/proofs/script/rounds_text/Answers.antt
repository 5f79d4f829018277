use Rattle.fn_rounds.proofs.Finished as finished
use Rattle.fn_rounds.proofs.script.rounds_text.Goals as goal

pub make_all-requires-clause-together : goal.make_all-requires-clause-together
make_all-requires-clause-together g c = finished.lanes_together c.args.script.now c.in_ok-table.table c.requires.sound c.in_ok-table.ensures.start c.in_ok-table.lanes.items c.in_ok-table.ensures.lanes

pub make_all-requires-clause-idle : goal.make_all-requires-clause-idle
make_all-requires-clause-idle g c = finished.lanes_idle c.args.script.now c.in_ok-table.table c.requires.sound c.in_ok-table.ensures.start c.in_ok-table.lanes.items c.in_ok-table.ensures.lanes

pub make_all-requires-clause-may : goal.make_all-requires-clause-may
make_all-requires-clause-may g c = finished.lanes_may c.args.script.now c.in_ok-table.table c.requires.sound c.in_ok-table.ensures.start c.requires.changes c.in_ok-table.lanes.items c.in_ok-table.ensures.lanes
