use Rattle.fn_core.proofs.Laws.{rows_are_lawful}
use Rattle.fn_core.proofs.Names.{rows_have_names}
use Rattle.fn_core.proofs.Free.{free_rows_stay}
use Rattle.fn_core.proofs.FirstFree.{free_rows_are_found}
use Rattle.fn_core.proofs.Filling.{calls_keep_rows}
use Rattle.fn_core.proofs.Chosen.{chosen_rows_stay}
use Rattle.fn_core.proofs.Needs.{scans_are_enough, unneeded_rows_stay}
use Rattle.fn_core.proofs.rows_are_kept.Goals as goal

pub returns-clause-lawful : goal.returns-clause-lawful
returns-clause-lawful c = rows_are_lawful

pub returns-clause-named : goal.returns-clause-named
returns-clause-named c = rows_have_names

pub returns-clause-stay : goal.returns-clause-stay
returns-clause-stay c = free_rows_stay

pub returns-clause-found : goal.returns-clause-found
returns-clause-found c = free_rows_are_found

pub returns-clause-kept : goal.returns-clause-kept
returns-clause-kept c = calls_keep_rows

pub returns-clause-chosen : goal.returns-clause-chosen
returns-clause-chosen c = chosen_rows_stay

pub returns-clause-enough : goal.returns-clause-enough
returns-clause-enough c = scans_are_enough

pub returns-clause-unneeded : goal.returns-clause-unneeded
returns-clause-unneeded c = unneeded_rows_stay
