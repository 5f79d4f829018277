-- From what is drawn by a trace to what a run shows of its sources.
use Rattle.std.proofs.Common.{ℕ, Some, Result, Ok, Err, Vec, inr, refl}
use Rattle.std.specs.declared.alloc.Global.{Global}
use Rattle.trace_text.specs.Trace.{Content}
use Rattle.trace_text.specs.Records.{records_of}
use Rattle.picture_run.specs.Asked.{workers_of}
use Rattle.picture_run.specs.Outcome.{HasTrace, Stops}
use Rattle.picture_run.specs.Streams.{Input}
use Rattle.picture_run.specs.Telling.{CantDraw, IsDrawn, IsDrawnBy}
use Rattle.picture_run.specs.declared.ending.Ending.{Ending}
use Rattle.picture_run.specs.declared.ending.Ending.TheVariants.{Done, Words, Refused, ReadFailed, WriteFailed, WriteStuck, NoMemory}
use Rattle.picture_run.specs.declared.ending.Refusal.TheVariants.{LongTrace, LongReport, ByTrace, ByReport, ByTenant}
use Rattle.picture_run.specs.declared.words.Picture.{Picture}
use Rattle.picture_run.proofs.Names.{shown_well}

-- a picture that isn't drawn
undrawn : (picture : Picture) (trace report : Input) (t : Content) (ending : Ending) → HasTrace picture trace t → CantDraw picture t report ending → Stops (Some picture) trace report ending
undrawn picture trace report t Done has cant = absurd cant
undrawn picture trace report t Words has cant = absurd cant
undrawn picture trace report t (Refused LongTrace) has cant = absurd cant
undrawn picture trace report t (Refused LongReport) has cant = (picture, refl, (t, has, cant))
undrawn picture trace report t (Refused (ByTrace found)) has cant = absurd cant
undrawn picture trace report t (Refused ByReport) has cant = (picture, refl, (t, cant.0, has, cant.1))
undrawn picture trace report t (Refused ByTenant) has cant = (picture, refl, (t, cant.0, cant.1, has, cant.2, cant.3))
undrawn picture trace report t ReadFailed has cant = (picture, refl, inr cant)
undrawn picture trace report t WriteFailed has cant = absurd cant
undrawn picture trace report t WriteStuck has cant = absurd cant
undrawn picture trace report t NoMemory has cant = tt

-- with one the picture is drawn by it and the report
pub drawn : (picture : Picture) (trace report : Input) (t : Content) (result : Result (Vec ℕ Global) Ending) → HasTrace picture trace t → IsDrawnBy picture t report result → IsDrawn (Some picture) trace report result
drawn picture trace report t (Ok text) has by = (picture, refl, (t, by.0, by.1, has, by.2, by.3, shown_well picture (workers_of picture) (records_of has.0) t by.0 by.1 text.items has.2 by.3))
drawn picture trace report t (Err ending) has by = undrawn picture trace report t ending has by
