use Rattle.std.proofs.Common.{ℕ, ◌*◌, List, ◌++◌, ◌∷◌, [], ◌∙◌}
use Rattle.tq_cells.proofs.Deals.{upto_more}
use Rattle.tq_cells.proofs.opening.first_words.Goals as goal

pub loop-cell-preserved : goal.loop-cell-preserved
loop-cell-preserved c =
    let n = c.loop-cell.cell in
    ◌∙◌ {A = List ℕ} c.in_ok-push.ensures.items (◌∙◌ {A = List ℕ} (λ i. c.loop-cell.invariant i ++ (4 * c.from.ensures i) ∷ []) (upto_more (λ k. 4 * k) n))
