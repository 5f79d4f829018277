use Rattle.std.proofs.Common.{length, drop, sym, ◌∙◌, ap}
use Rattle.std.proofs.lemmas.List.{take_at}
use Rattle.fn_rows.proofs.Taken.{goes_out}
use Rattle.fn_rows.proofs.state.RowState.leave.Goals as goal

pub invariant_of-self : goal.invariant_of-self
invariant_of-self c =
    let found = c.self.inside.found in
    let long = c.forget.auto.found ∙ ap length c.as_mut_slice.ensures.value in
    (goes_out _ _ c.self.view_is c.self.invariant c.args.member c.forget.new.found _ (take_at c.forget.new.found (drop (length c.forget.new.found) found.items) found.len (long ∙ sym found.ok.0)) long (rw c.as_mut_slice.ensures.value at c.forget.ensures) c.requires).reached

pub returns : goal.returns
returns c =
    let found = c.self.inside.found in
    let long = c.forget.auto.found ∙ ap length c.as_mut_slice.ensures.value in
    (goes_out _ _ c.self.view_is c.self.invariant c.args.member c.forget.new.found _ (take_at c.forget.new.found (drop (length c.forget.new.found) found.items) found.len (long ∙ sym found.ok.0)) long (rw c.as_mut_slice.ensures.value at c.forget.ensures) c.requires).steps
