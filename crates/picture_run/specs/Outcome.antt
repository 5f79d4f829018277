-- How a run ends, by what it read and wrote.
--     Draws picture trace report text      the text of a picture, from the trace and the report that were read
--     IsWell picture text      a drawing is well-formed
--     IsRefused picture trace report why      why input is refused
--     Ends asked trace report output ending      what each ending means
use Rattle.std.specs.Prelude.{◌≡◌, ◌⊎◌, ℕ, List, Option, Some, None}
use Rattle.quota_pool.specs.declared.moved.Moved.{Moved}
use Rattle.trace_text.specs.Records.{records_of}
use Rattle.trace_text.specs.Trace.{Content}
use Rattle.trace_text.specs.TraceGrammar.{IsTrace}
use Rattle.trace_text.specs.TraceLaws.{IsFirstFault}
use Rattle.picture_xml.specs.Xml.{IsElement}
use Rattle.picture_run.specs.Asked.{workers_of}
use Rattle.picture_run.specs.Streams.{BreaksOff, Input, IsLong, Output, ReadsAll, ReadsNothing, Writes, WritesNothing}
use Rattle.picture_run.specs.Texts.{IsReportOf, Shows, number_of}
use Rattle.picture_run.specs.declared.ending.Ending.{Ending}
use Rattle.picture_run.specs.declared.ending.Ending.TheVariants.{Done, Words, Refused, ReadFailed, WriteFailed, WriteStuck, NoMemory}
use Rattle.picture_run.specs.declared.ending.Refusal.{Refusal}
use Rattle.picture_run.specs.declared.ending.Refusal.TheVariants.{LongTrace, LongReport, ByTrace, ByReport, ByTenant}
use Rattle.picture_run.specs.declared.ending.TheConstants.{REPORT_LIMIT, TRACE_LIMIT}
use Rattle.picture_run.specs.declared.words.Picture.{Picture}
use Rattle.picture_run.specs.declared.words.Picture.TheVariants.{Lines, Drawing}

-- the source of the trace was read, and spells this one
abbrev pub HasTrace : Picture → Input → Content → Type 0
HasTrace picture trace t = (bytes : List ℕ) × ReadsAll TRACE_LIMIT trace bytes × IsTrace (workers_of picture) (records_of bytes) t

-- the source of the report was read, and is the report of this trace by these answers and values
abbrev pub HasReport : Input → Content → List Moved → List ℕ → Type 0
HasReport report t answers finals = (bytes : List ℕ) × ReadsAll REPORT_LIMIT report bytes × IsReportOf bytes t answers finals

-- a picture asks for a tenant that a trace hasn't
abbrev pub IsMissing : Picture → Content → Type 0
IsMissing (Lines workers) t = ⊥
IsMissing (Drawing workers name) t = number_of name t.tenants ≡ None

-- why input is refused; of a report that isn't read as the trace's it isn't said that it is none
abbrev pub IsRefused : Picture → Input → Input → Refusal → Type 0
IsRefused picture trace report LongTrace = IsLong TRACE_LIMIT trace × ReadsNothing report
IsRefused picture trace report LongReport = (t : Content) × HasTrace picture trace t × IsLong REPORT_LIMIT report
IsRefused picture trace report (ByTrace found) =
    (bytes : List ℕ) × ReadsAll TRACE_LIMIT trace bytes × IsFirstFault (workers_of picture) (records_of bytes) found × ReadsNothing report
IsRefused picture trace report ByReport = (t : Content) × (bytes : List ℕ) × HasTrace picture trace t × ReadsAll REPORT_LIMIT report bytes
IsRefused picture trace report ByTenant =
    (t : Content) × (answers : List Moved) × (finals : List ℕ) × HasTrace picture trace t × HasReport report t answers finals × IsMissing picture t

-- a drawing is well-formed: one XML element
abbrev pub IsWell : Picture → List ℕ → Type 0
IsWell (Lines workers) text = Unit {0}
IsWell (Drawing workers name) text = IsElement text

-- the text of a picture, from the trace and the report that were read
abbrev pub Draws : Picture → Input → Input → List ℕ → Type 0
Draws picture trace report text =
    (t : Content) × (answers : List Moved) × (finals : List ℕ) × HasTrace picture trace t × HasReport report t answers finals × Shows picture t answers finals text × IsWell picture text

-- how a run ends that has no text
abbrev pub Stops : Option Picture → Input → Input → Ending → Type 0
Stops asked trace report Words = (asked ≡ None) × ReadsNothing trace × ReadsNothing report
Stops asked trace report (Refused why) = (picture : Picture) × (asked ≡ Some picture) × IsRefused picture trace report why
Stops asked trace report ReadFailed = (picture : Picture) × (asked ≡ Some picture) × (BreaksOff TRACE_LIMIT trace ⊎ BreaksOff REPORT_LIMIT report)
Stops asked trace report NoMemory = Unit {0}
Stops asked trace report _ = ⊥

-- a run had its text, and wrote it, or a front of it
abbrev pub HasText : Option Picture → Input → Input → Output → Ending → Type 0
HasText asked trace report output ending = (picture : Picture) × (text : List ℕ) × (asked ≡ Some picture) × Draws picture trace report text × Writes output text ending

-- what each ending means
abbrev pub Ends : Option Picture → Input → Input → Output → Ending → Type 0
Ends asked trace report output Done = HasText asked trace report output Done
Ends asked trace report output WriteFailed = HasText asked trace report output WriteFailed
Ends asked trace report output WriteStuck = HasText asked trace report output WriteStuck
Ends asked trace report output ending = Stops asked trace report ending × WritesNothing output
