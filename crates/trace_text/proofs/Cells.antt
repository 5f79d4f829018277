-- What one read of a record does to the records that are left.
use Rattle.std.proofs.Common.{◌≡◌, ◌∙◌, ℕ, Bool, true, false, List, [], ◌∷◌, ◌++◌, drop, take, Option, Some, None, Result, Ok, Err, Bor, refl, sym, inl, inr}
use Rattle.std.specs.Prelude.{◌&&◌, ◌==◌, not, IfOk, IfErr, OnOk}
use Rattle.std.proofs.lemmas.Bool.{cases_Bool}
use Rattle.csv.specs.Machine.{Read, next_record}
use Rattle.csv.specs.Reading.{NextIs, ReadRecord, ReadsNext, ReadsOn, Ready, default_config, error_kind, has_failed, source_of, stops_reader, strip_bom, took_first}
use Rattle.csv.specs.declared.error.Error.{Error}
use Rattle.csv.specs.declared.parser.State.{State}
use Rattle.csv.specs.declared.reader.Reader.{Reader}
use Rattle.csv.specs.declared.reader.Trim.TheVariants as trim
use Rattle.trace_text.specs.Left.{ReadsPlainly, records_in}
use Rattle.trace_text.proofs.Turns.{records_in-none, records_in-some}

-- a reader that reads plainly does so after a read, whatever came of it
pub ReadsPlainly-read : (old new : Reader (Bor (List ℕ))) (row : List (List ℕ)) (result : Result Bool Error) → ReadsPlainly old
    → (has_failed old ≡ true → result ≡ Ok false)
    → (old.trim ≡ trim.None → OnOk result (took_first new ≡ true))
    → IfOk result (λ found. old.trim ≡ trim.None → Ready old → ReadRecord (λ s. Some s.now) old new found row)
    → OnOk result (has_failed new ≡ has_failed old)
    → IfErr result (λ e. has_failed new ≡ stops_reader (error_kind e))
    → IfErr result (λ e. stops_reader (error_kind e) ≡ false → ReadsOn old new)
    → ReadsPlainly new
ReadsPlainly-read old new row (Ok found) plain failed ready reads goes fails on fresh =
    let before = plain (sym goes ∙ fresh) in
    let read = reads before.0 before.1 in
    (read.3 ∙ before.0, inl (ready before.0), read.2 ∙ before.2)
ReadsPlainly-read old new row (Err e) plain failed ready reads goes fails on fresh =
    let before : has_failed old ≡ false =
    elim (cases_Bool (has_failed old)) [ inl was ↦ (let stopped = failed was in cc) | inr was ↦ was ] in
    let went_on = on (sym fails ∙ fresh) in
    let p = plain before in
    (went_on.1 ∙ p.0, (went_on.4 p.1).0, went_on.0 ∙ p.2)

-- a reader of bytes in memory knows what it has left, until it fails
source_of-some : (reader : Reader (Bor (List ℕ))) → has_failed reader ≡ false
    → (text : List ℕ) × (source_of (λ (s : Bor (List ℕ)). Some s.now) reader ≡ Some text)
source_of-some reader fresh =
    elim (cases_Bool (not reader.bom_checked && (reader.at == 0) && (reader.filled == 0))) [
      | inl first ↦ (strip_bom reader.rdr.now, rw (fresh, first) refl)
      | inr later ↦ (drop reader.at (take reader.filled reader.buffer) ++ reader.rdr.now, rw (fresh, later) refl)
    ]

-- the records that are left after a record was read
next_is-some : (o : Option Read) (s s2 : State) (text rest : List ℕ) (row : List (List ℕ)) → next_record default_config s [] [] text ≡ o
    → NextIs o true row s2 rest → records_in s (Some text) ≡ row ∷ records_in s2 (Some rest)
next_is-some None s s2 text rest row e next = cc
next_is-some (Some r) s s2 text rest row e next = rw (next.1, next.2, next.3) (records_in-some s text r e)

reads_next-some : (s s2 : State) (text : List ℕ) (rest : Option (List ℕ)) (row : List (List ℕ))
    → ReadsNext default_config s (Some text) rest true row s2 → records_in s (Some text) ≡ row ∷ records_in s2 rest
reads_next-some s s2 text None row next = absurd next
reads_next-some s s2 text (Some rest) row next = next_is-some (next_record default_config s [] [] text) s s2 text rest row refl next

-- the records that are left where none was read
next_is-none : (o : Option Read) (s s2 : State) (text rest : List ℕ) (row : List (List ℕ)) → next_record default_config s [] [] text ≡ o
    → NextIs o false row s2 rest → records_in s (Some text) ≡ []
next_is-none None s s2 text rest row e next = records_in-none s text e
next_is-none (Some r) s s2 text rest row e next = let no = next.0 in cc

reads_next-none : (s s2 : State) (text : List ℕ) (rest : Option (List ℕ)) (row : List (List ℕ))
    → ReadsNext default_config s (Some text) rest false row s2 → records_in s (Some text) ≡ []
reads_next-none s s2 text None row next = absurd next
reads_next-none s s2 text (Some rest) row next = next_is-none (next_record default_config s [] [] text) s s2 text rest row refl next

-- a read that found a record took the first of those that were left
pub records_left-some : (old new : Reader (Bor (List ℕ))) (row : List (List ℕ)) (result : Result Bool Error) → ReadsPlainly old
    → (has_failed old ≡ true → result ≡ Ok false)
    → IfOk result (λ found. old.trim ≡ trim.None → Ready old → ReadRecord (λ s. Some s.now) old new found row)
    → result ≡ Ok true
    → records_in old.state (source_of (λ s. Some s.now) old) ≡ row ∷ records_in new.state (source_of (λ s. Some s.now) new)
records_left-some old new row (Ok false) plain failed reads found = cc
records_left-some old new row (Err e) plain failed reads found = cc
records_left-some old new row (Ok true) plain failed reads found =
    let fresh : has_failed old ≡ false =
    elim (cases_Bool (has_failed old)) [ inl was ↦ (let stopped = failed was in cc) | inr was ↦ was ] in
    let p = plain fresh in
    let read = reads p.0 p.1 in
    let text = source_of-some old fresh in
    rw (read.1, text.1) (reads_next-some old.state new.state text.0 _ row (rw (p.2, text.1) at read.0))

-- a read that found none had none left
pub records_left-none : (old new : Reader (Bor (List ℕ))) (row : List (List ℕ)) (result : Result Bool Error) → ReadsPlainly old
    → IfOk result (λ found. old.trim ≡ trim.None → Ready old → ReadRecord (λ s. Some s.now) old new found row)
    → result ≡ Ok false → records_in old.state (source_of (λ s. Some s.now) old) ≡ []
records_left-none old new row (Ok true) plain reads found = cc
records_left-none old new row (Err e) plain reads found = cc
records_left-none old new row (Ok false) plain reads found =
    elim (cases_Bool (has_failed old)) [
      | inl stopped ↦ rw stopped refl
      | inr fresh ↦
          let p = plain fresh in
          let read = reads p.0 p.1 in
          let text = source_of-some old fresh in
          rw text.1 (reads_next-none old.state new.state text.0 _ row (rw (p.2, text.1) at read.0))
    ]
