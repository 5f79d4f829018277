-- What the parts of a run give to each other.
use Rattle.std.specs.Prelude.{◌≡◌, ℕ, List, Option, Some, Result, Ok, Err, Vec}
use Rattle.std.specs.List.{All}
use Rattle.std.specs.declared.alloc.Global.{Global}
use Rattle.picture_report.specs.Told.{IsSmall}
use Rattle.picture_report.specs.declared.reading.Report.{Report}
use Rattle.quota_pool.specs.declared.moved.Moved.{Moved}
use Rattle.trace_text.specs.Records.{records_of}
use Rattle.trace_text.specs.SoundTrace.{IsSoundTrace}
use Rattle.trace_text.specs.Trace.{Content, content}
use Rattle.trace_text.specs.TraceGrammar.{IsTrace}
use Rattle.trace_text.specs.TraceLaws.{IsFirstFault}
use Rattle.trace_text.specs.declared.traces.Trace.{Trace}
use Rattle.picture_run.specs.Outcome.{Draws, HasReport, IsMissing, Stops}
use Rattle.picture_run.specs.Texts.{IsReportOf, Shows}
use Rattle.picture_run.specs.Streams.{BreaksOff, Input, IsLong, Output, ReadsAll, Writes, WritesNothing}
use Rattle.picture_run.specs.declared.ending.Ending.{Ending}
use Rattle.picture_run.specs.declared.ending.Ending.TheVariants.{Refused, ReadFailed, NoMemory}
use Rattle.picture_run.specs.declared.ending.Refusal.{Refusal}
use Rattle.picture_run.specs.declared.ending.Refusal.TheVariants.{LongTrace, LongReport, ByTrace, ByReport, ByTenant}
use Rattle.picture_run.specs.declared.ending.TheConstants.{REPORT_LIMIT, TRACE_LIMIT}
use Rattle.picture_run.specs.declared.words.Picture.{Picture}

-- a source that wasn't read: it is too long, which is refused in this way, or a read failed
abbrev pub CantRead : ℕ → Input → Refusal → Ending → Type 0
CantRead limit input long (Refused why) = (why ≡ long) × IsLong limit input
CantRead limit input long ReadFailed = BreaksOff limit input
CantRead limit input long NoMemory = Unit {0}
CantRead limit input long _ = ⊥

-- the bytes of a source
abbrev pub HasRead : ℕ → Input → Refusal → Result (Vec ℕ Global) Ending → Type 0
HasRead limit input long (Ok bytes) = ReadsAll limit input bytes.items
HasRead limit input long (Err ending) = CantRead limit input long ending

-- bytes that spell no trace
abbrev pub CantSpell : ℕ → List ℕ → Ending → Type 0
CantSpell workers bytes (Refused (ByTrace found)) = IsFirstFault workers (records_of bytes) found
CantSpell workers bytes NoMemory = Unit {0}
CantSpell workers bytes _ = ⊥

-- the trace that bytes spell
abbrev pub Spells : ℕ → List ℕ → Result Trace Ending → Type 0
Spells workers bytes (Ok trace) = IsTrace workers (records_of bytes) (content trace) × IsSoundTrace workers (content trace)
Spells workers bytes (Err ending) = CantSpell workers bytes ending

-- a source that gives no trace
abbrev pub GivesNoTrace : ℕ → Input → Ending → Type 0
GivesNoTrace workers input (Refused LongTrace) = IsLong TRACE_LIMIT input
GivesNoTrace workers input (Refused (ByTrace found)) = (bytes : List ℕ) × ReadsAll TRACE_LIMIT input bytes × IsFirstFault workers (records_of bytes) found
GivesNoTrace workers input ReadFailed = BreaksOff TRACE_LIMIT input
GivesNoTrace workers input NoMemory = Unit {0}
GivesNoTrace workers input _ = ⊥

-- the trace that a source gives
abbrev pub GivesTrace : ℕ → Input → Result Trace Ending → Type 0
GivesTrace workers input (Ok trace) =
    ((bytes : List ℕ) × ReadsAll TRACE_LIMIT input bytes × IsTrace workers (records_of bytes) (content trace)) × IsSoundTrace workers (content trace)
GivesTrace workers input (Err ending) = GivesNoTrace workers input ending

-- bytes that aren't read as a report
abbrev pub CantTell : Ending → Type 0
CantTell (Refused ByReport) = Unit {0}
CantTell NoMemory = Unit {0}
CantTell _ = ⊥

-- the report of a trace that bytes are
abbrev pub Tells : Content → List ℕ → Result Report Ending → Type 0
Tells t bytes (Ok report) = IsReportOf bytes t report.answers.items report.finals.items × All IsSmall report.answers.items
Tells t bytes (Err ending) = CantTell ending

-- a source that gives no report
abbrev pub GivesNoReport : Input → Ending → Type 0
GivesNoReport input (Refused LongReport) = IsLong REPORT_LIMIT input
GivesNoReport input (Refused ByReport) = (bytes : List ℕ) × ReadsAll REPORT_LIMIT input bytes
GivesNoReport input ReadFailed = BreaksOff REPORT_LIMIT input
GivesNoReport input NoMemory = Unit {0}
GivesNoReport input _ = ⊥

-- the report of a trace that a source gives
abbrev pub GivesReport : Content → Input → Result Report Ending → Type 0
GivesReport t input (Ok report) = HasReport input t report.answers.items report.finals.items × All IsSmall report.answers.items
GivesReport t input (Err ending) = GivesNoReport input ending

-- a picture that isn't shown
abbrev pub CantShow : Picture → Content → Ending → Type 0
CantShow picture t (Refused ByTenant) = IsMissing picture t
CantShow picture t NoMemory = Unit {0}
CantShow picture t _ = ⊥

-- the text of a picture, from a trace with its answers
abbrev pub IsShown : Picture → Content → List Moved → List ℕ → Result (Vec ℕ Global) Ending → Type 0
IsShown picture t answers finals (Ok text) = Shows picture t answers finals text.items
IsShown picture t answers finals (Err ending) = CantShow picture t ending

-- a picture of a trace that isn't drawn by a source's report
abbrev pub CantDraw : Picture → Content → Input → Ending → Type 0
CantDraw picture t report (Refused ByTenant) = (answers : List Moved) × (finals : List ℕ) × HasReport report t answers finals × IsMissing picture t
CantDraw picture t report ending = GivesNoReport report ending

-- the text of a picture, from a trace and a source's report
abbrev pub IsDrawnBy : Picture → Content → Input → Result (Vec ℕ Global) Ending → Type 0
IsDrawnBy picture t report (Ok text) = (answers : List Moved) × (finals : List ℕ) × HasReport report t answers finals × Shows picture t answers finals text.items
IsDrawnBy picture t report (Err ending) = CantDraw picture t report ending

-- the text of what words ask for
abbrev pub IsDrawn : Option Picture → Input → Input → Result (Vec ℕ Global) Ending → Type 0
IsDrawn asked trace report (Ok text) = (picture : Picture) × (asked ≡ Some picture) × Draws picture trace report text.items
IsDrawn asked trace report (Err ending) = Stops asked trace report ending

-- what was drawn is written
abbrev pub Finishes : Result (Vec ℕ Global) Ending → Output → Ending → Type 0
Finishes (Ok text) output ending = Writes output text.items ending
Finishes (Err stopped) output ending = (ending ≡ stopped) × WritesNothing output
