use Rattle.std.proofs.Common.{List, ◌∙◌, sym, ap, inl, inr, ⊎_elim}
use Rattle.std.proofs.lemmas.List.{nil_from_length}
use Rattle.quota_pool.specs.Rooms.{contents}
use Rattle.quota_pool.proofs.Closes.{all_done}
use Rattle.quota_pool.proofs.closing.close_all.Goals as goal

pub returns : goal.returns
returns c =
    let i = c.loop-funnel.invariant in
    all_done _ _ _ _ _ i.ready (⊎_elim (λ funnels. inl (nil_from_length _ (sym i.funnels ∙ funnels.1.0))) (λ rooms. inr (ap contents (nil_from_length _ (sym i.rooms ∙ rooms.1.0)))) c.in-None.ensures.steps) i.closed
