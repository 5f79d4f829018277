use Rattle.std.proofs.Common.{◌∙◌, ap, subst}
use Rattle.fn_core.specs.Calls.{CoreLog, state_in, IsLegal}
use Rattle.fn_core.proofs.Public.{main_is_value}
use Rattle.fn_table.proofs.book.Book.value.Goals as goal

pub returns : goal.returns
returns c =
    let b : CoreLog = c.args.self.now in
    let legal : IsLegal b = subst IsLegal c.self.view_is c.self.invariant.2 in
    c.self.invariant.0 ∙ ap (λ (x : CoreLog). (state_in x).main) c.self.view_is ∙ (main_is_value b.start b.log legal.0 legal.1).0
