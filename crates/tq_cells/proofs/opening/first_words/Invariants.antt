use Rattle.std.proofs.Common.{◌≡◌, ◌*◌, map}
use Rattle.running.specs.Running.{upto}
use Rattle.tq_cells.proofs.opening.first_words.Given as goal

abbrev pub invariant-loop-cell : goal.invariant-loop-cell
invariant-loop-cell l = l.all.items ≡ map (λ c. 4 * c) (upto l.cell)
