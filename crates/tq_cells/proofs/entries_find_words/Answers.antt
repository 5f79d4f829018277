use Rattle.running.proofs.Logs.{guard_at, legal_begins}
use Rattle.tq_cells.specs.Machine.{exact}
use Rattle.tq_cells.proofs.entries_find_words.Goals as goal

pub returns-clause-entries : goal.returns-clause-entries
returns-clause-entries g c = λ start log more event legal. guard_at (exact _) start log event more legal

pub returns-clause-beginnings : goal.returns-clause-beginnings
returns-clause-beginnings g c = λ start log more legal. legal_begins (exact _) start log more legal
