use Rattle.std.proofs.Common.{List, ℕ, sym, subst}
use Rattle.fn_climb.specs.Begin.{AreFirstOpen, finds_of}
use Rattle.fn_climb.proofs.Refusals.{begun_waiting, begun_refused}
use Rattle.fn_climb.proofs.beginning.begin_on.Goals as goal

pub returns-in-Ok-clause-begun : goal.returns-in-Ok-clause-begun
returns-in-Ok-clause-begun c =
    let b = begun_waiting c.args.pass.now c.args.kind c.args.amount c.in-Ok.rows c.find_rows.new.pass c.arrive_at_leaf.new.pass c.in-Ok.ensures c.arrive_at_leaf.ensures.arrived in
    let first = subst (λ (rows : List ℕ). AreFirstOpen c.args.pass.now (finds_of c.args.pass.now c.args.kind b.1.words) rows) (sym c.arrive_at_leaf.ensures.rows) b.4 in
    ((b.0, b.1, b.2, b.3, first), c.arrive_at_leaf.ensures.holds)

pub returns-in-Err-clause-refused : goal.returns-in-Err-clause-refused
returns-in-Err-clause-refused c = begun_refused c.args.pass.now c.args.kind c.args.amount c.in-Err.blocked c.find_rows.new.pass c.requires.idle c.in-Err.ensures
