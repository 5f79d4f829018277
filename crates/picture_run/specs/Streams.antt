-- What a run sees of its streams.
--     Input, reading      a source, before and after
--     Output, writing      the sink for its text, before and after
--     ReadsAll, IsLong, BreaksOff, ReadsNothing      what was read of a source
--     Writes, WritesNothing      what was written
use Rattle.std.specs.Prelude.{◌≡◌, ℕ, ◌<◌, ◌≤◌, List, length, Option}
use Rattle.std.specs.Io.KnownBytes.{Consumes, Appends, IsAtEnd}
use Rattle.edge_io.specs.Causes.{Rose}
use Rattle.edge_io.specs.Whole.{AppendsPart}
use Rattle.picture_run.specs.declared.ending.Ending.{Ending}
use Rattle.picture_run.specs.declared.ending.Ending.TheVariants.{Done, WriteFailed, WriteStuck}

-- what a run sees of a source, before and after
pub record Input : Type 0 where
  pub left : Option (List ℕ)
  pub left_then : Option (List ℕ)
  pub faults : ℕ
  pub faults_then : ℕ

-- .. and of the sink for its text
pub record Output : Type 0 where
  pub held : Option (List ℕ)
  pub held_then : Option (List ℕ)
  pub faults : ℕ
  pub faults_then : ℕ
  pub empty : ℕ
  pub empty_then : ℕ

abbrev pub reading : Option (List ℕ) → Option (List ℕ) → ℕ → ℕ → Input
reading left left_then faults faults_then = record { left = left; left_then = left_then; faults = faults; faults_then = faults_then }

abbrev pub writing : Option (List ℕ) → Option (List ℕ) → ℕ → ℕ → ℕ → ℕ → Output
writing held held_then faults faults_then empty empty_then =
    record { held = held; held_then = held_then; faults = faults; faults_then = faults_then; empty = empty; empty_then = empty_then }

-- nothing was read
abbrev pub ReadsNothing : Input → Type 0
ReadsNothing input = (input.left_then ≡ input.left) × (input.faults_then ≡ input.faults)

-- a source was read to its end, and gave these bytes, no more than so many
abbrev pub ReadsAll : ℕ → Input → List ℕ → Type 0
ReadsAll limit input bytes = Consumes input.left input.left_then bytes × IsAtEnd input.left_then × (length bytes ≤ limit)

-- a source gave more bytes than so many
abbrev pub IsLong : ℕ → Input → Type 0
IsLong limit input = (bytes : List ℕ) × Consumes input.left input.left_then bytes × (limit < length bytes)

-- a source gave some bytes, no more than so many, and then a read failed
abbrev pub BreaksOff : ℕ → Input → Type 0
BreaksOff limit input = (bytes : List ℕ) × Consumes input.left input.left_then bytes × (length bytes ≤ limit) × Rose input.faults input.faults_then

-- nothing was written
abbrev pub WritesNothing : Output → Type 0
WritesNothing output = output.held_then ≡ output.held

-- a text was written, or a front of it that isn't all
abbrev pub Writes : Output → List ℕ → Ending → Type 0
Writes output text Done = Appends output.held output.held_then text
Writes output text WriteFailed = AppendsPart output.held output.held_then text × Rose output.faults output.faults_then
Writes output text WriteStuck = AppendsPart output.held output.held_then text × Rose output.empty output.empty_then
Writes output text _ = ⊥
