use Rattle.fn_core.proofs.Laws.{main_is_value, calls_stand_once}
use Rattle.fn_core.proofs.Grows.{histories_grow, places_are_beyond}
use Rattle.fn_core.proofs.main_is_value.Goals as goal

pub returns-clause-value : goal.returns-clause-value
returns-clause-value c = main_is_value

pub returns-clause-once : goal.returns-clause-once
returns-clause-once c = calls_stand_once

pub returns-clause-grows : goal.returns-clause-grows
returns-clause-grows c = histories_grow

pub returns-clause-beyond : goal.returns-clause-beyond
returns-clause-beyond c = places_are_beyond
