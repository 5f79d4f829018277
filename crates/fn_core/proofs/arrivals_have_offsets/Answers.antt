use Rattle.fn_core.proofs.Offsets.{totals_are_sums, passes_stand_at_offsets, offsets_are_apart}
use Rattle.fn_core.proofs.arrivals_have_offsets.Goals as goal

pub returns-clause-totals : goal.returns-clause-totals
returns-clause-totals c = totals_are_sums

pub returns-clause-offsets : goal.returns-clause-offsets
returns-clause-offsets c = passes_stand_at_offsets

pub returns-clause-apart : goal.returns-clause-apart
returns-clause-apart c = offsets_are_apart
