use Rattle.fn_core.proofs.Trees.{trees_stand, one_step_an_event}
use Rattle.fn_core.proofs.one_step_for_a_tree.Goals as goal

pub returns-clause-trees : goal.returns-clause-trees
returns-clause-trees c = trees_stand

pub returns-clause-one : goal.returns-clause-one
returns-clause-one c = one_step_an_event
