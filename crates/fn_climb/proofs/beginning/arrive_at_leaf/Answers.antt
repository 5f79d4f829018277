use Rattle.fn_climb.proofs.Leaf.{may_see, may_announce, saw_stage, may_arrive, holds_leaf, arrives}
use Rattle.fn_climb.proofs.beginning.arrive_at_leaf.Goals as goal

pub see-seen-requires-clause-may : goal.see-seen-requires-clause-may
see-seen-requires-clause-may c = may_see c.args.pass.now c.args.kind c.args.amount c.args.rows (rw c.number-number.ensures.number at c.number-number.ensures.in_range) c.number-number.ensures.legal c.requires.idle c.requires.change c.requires.amount c.requires.open_rows

pub announce-requires-clause-may : goal.announce-requires-clause-may
announce-requires-clause-may c = may_announce c.args.pass.now c.args.kind c.args.amount c.args.rows (rw c.number-number.ensures.number at c.number-number.ensures.in_range) c.number-number.ensures.legal c.requires.idle c.requires.change c.requires.amount c.requires.open_rows c.see-seen.ensures

pub announce-requires-clause-seen : goal.announce-requires-clause-seen
announce-requires-clause-seen c = saw_stage c.args.pass.now c.args.kind c.args.amount c.args.rows (rw c.number-number.ensures.number at c.number-number.ensures.in_range) c.number-number.ensures.legal c.requires.idle c.requires.change c.requires.amount c.requires.open_rows c.see-seen.ensures

pub arrive-at-requires-clause-may : goal.arrive-at-requires-clause-may
arrive-at-requires-clause-may c = may_arrive c.args.pass.now c.args.kind c.args.amount c.args.rows (rw c.number-number.ensures.number at c.number-number.ensures.in_range) c.number-number.ensures.legal c.requires.idle c.requires.change c.requires.amount c.requires.open_rows c.see-seen.ensures c.announce.ensures.1

pub returns-clause-holds : goal.returns-clause-holds
returns-clause-holds c = holds_leaf c.args.pass.now c.args.kind c.args.amount c.args.rows (rw c.number-number.ensures.number at c.number-number.ensures.in_range) c.number-number.ensures.legal c.requires.idle c.requires.change c.requires.amount c.requires.open_rows c.see-seen.ensures c.announce.ensures.1 c.arrive-at.ensures

pub returns-clause-arrived : goal.returns-clause-arrived
returns-clause-arrived c = arrives c.args.pass.now c.args.kind c.args.amount c.args.rows (rw c.number-number.ensures.number at c.number-number.ensures.in_range) c.number-number.ensures.legal c.requires.idle c.requires.change c.requires.amount c.requires.open_rows c.see-seen.ensures c.announce.ensures.1 c.arrive-at.ensures
