use Rattle.std.proofs.Common.{◌∙◌}
use Rattle.fn_rows.proofs.Free.{found_read, let_by, not_let}
use Rattle.fn_rows.proofs.state.RowState.has_let.Goals as goal

pub returns-in-Some : goal.returns-in-Some
returns-in-Some c =
    let found = found_read _ _ c.self.view_is c.self.invariant c.args.member c.args.other c.requires.0 c.requires.1 _ c.index.ensures in
    let_by c.args.self.now c.args.member c.args.other c.args.end c.in-Some.word _ (found ∙ c.in-Some.is) c.lets.ensures

pub returns-in-None : goal.returns-in-None
returns-in-None c =
    let found = found_read _ _ c.self.view_is c.self.invariant c.args.member c.args.other c.requires.0 c.requires.1 _ c.index.ensures in
    (λ no. absurd (cc (no)), λ has. absurd (not_let c.args.self.now c.args.member c.args.other c.args.end (found ∙ c.in-None.is) has))
