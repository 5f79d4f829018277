use Rattle.std.proofs.Common.{◌∙◌, sym, inl, inr, ⊎_elim}
use Rattle.std.proofs.lemmas.List.{nil_from_length}
use Rattle.quota_bucket.proofs.Dealt.{all_made}
use Rattle.quota_bucket.proofs.opening.deal.Goals as goal

pub returns : goal.returns
returns c =
    let i = c.loop-seat.invariant in
    all_made _ _ _ _ i.so_far (⊎_elim (λ seats. inl (nil_from_length _ (sym i.seats ∙ seats.1.0))) (λ passes. inr (nil_from_length _ (sym i.passes ∙ passes.1.0))) c.in-None.ensures.steps)
