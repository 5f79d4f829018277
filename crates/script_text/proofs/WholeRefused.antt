-- The first fault of a whole script, both ways.
use Rattle.std.proofs.Common.{◌≡◌, ◌≢◌, ℕ, suc, ◌+◌, ◌<◌, ◌≤◌, Bool, true, false, List, [], ◌∷◌, ◌++◌, length, Option, Some, None, Result, Ok, Err, IfErr, inl, inr, refl, ◌∙◌, arith}
use Rattle.std.specs.Prelude.{nat_lt, if◌then◌else◌}
use Rattle.std.proofs.lemmas.Bool.{cases_Bool}
use Rattle.std.proofs.lemmas.List.Sums.{sum_by-cons}
use Rattle.script_text.proofs.HeaderFaults.{header-fault, header-refused}
use Rattle.script_text.proofs.Refused.{bind_err, first_line-at_fault, line_faults-first, within_limit-err}
use Rattle.script_text.proofs.SoundLines.{header_of-bound, lines_of-sound, within_limit-ok}
use Rattle.text_lines.proofs.Steps.{lt-false, lt-true}
use Rattle.script_text.proofs.Spelled.{line_of-from, line_of-is, true-lt}
use Rattle.script_text.proofs.Whole.{false-lt, first_with_words-from, first_with_words-is, header_of-from, header_of-is, lines_of-is, none_left, total_with-from, within_limit-from}
use Rattle.script_text.specs.Faults.{IsAtFault}
use Rattle.script_text.specs.Grammar.{SpellsLines}
use Rattle.script_text.specs.Order.{amount}
use Rattle.script_text.specs.Script.{FirstLine, Gives, Header, content, first_with_words, has_words, header_of, is_any, line_of, lines_of, script_from, script_of, total_with, within_limit}
use Rattle.script_text.specs.Sound.{total_amount}
use Rattle.text_lines.specs.Steps.{fault_in}
use Rattle.text_lines.specs.Text.{lines, words}
use Rattle.script_text.specs.WholeFaults.{AreBlank, FirstIsRefused, IsFaultFrom, IsFirstFault, IsLaterFault, IsLineFault, IsRefusedFor, RefusedForFirst}
use Rattle.text_lines.specs.declared.pieces.TheConstants.{MOST_NUMBER}
use Rattle.script_text.specs.declared.reading.TheConstants.{MOST_LINES}
use Rattle.script_text.specs.declared.scripts.Script.{Script}
use Rattle.script_text.specs.declared.scripts.ScriptFault.{ScriptFault}
use Rattle.script_text.specs.declared.scripts.ScriptFault.TheVariants as fault
use Rattle.script_text.specs.declared.scripts.ScriptLine.{ScriptLine}

-- no line with words, or the first of them
nowhere-blank : (at : ℕ) (text : List (List ℕ)) → first_with_words at text ≡ None → AreBlank text
unfolding first_with_words
nowhere-blank at [] h = tt
nowhere-blank at (line ∷ rest) h =
    elim (cases_Bool (has_words line)) [
      | inl is ↦ absurd (let e = rw is at h in cc)
      | inr none ↦ (none_left (words line) none, nowhere-blank (at + 1) rest (rw none at h))
    ]

blank-nowhere : (at : ℕ) (text : List (List ℕ)) → AreBlank text → first_with_words at text ≡ None
unfolding first_with_words
blank-nowhere at [] blank = refl
blank-nowhere at (line ∷ rest) blank = rw blank.0 (blank-nowhere (at + 1) rest blank.1)

first-has : (at : ℕ) (text : List (List ℕ)) (first : FirstLine) → first_with_words at text ≡ Some first → has_words first.line ≡ true
unfolding first_with_words
first-has at [] first h = cc
first-has at (line ∷ rest) first h =
    elim (cases_Bool (has_words line)) [
      | inl is ↦
          let here = rw is at h in
          let same : record { at = at; line = line; rest = rest } ≡ first = cc in
          rw (← same) is
      | inr none ↦ first-has (at + 1) rest first (rw none at h)
    ]

any-some : (all : List (List ℕ)) → is_any all ≡ true → all ≢ []
any-some [] h none = cc
any-some (word ∷ more) h none = cc

some-any : (all : List (List ℕ)) → all ≢ [] → is_any all ≡ true
some-any [] h = absurd (h refl)
some-any (word ∷ more) h = refl

-- the fault of a later line, in the words of the grammar
line-fault : (passes at total : ℕ) (line : List ℕ) (found : ScriptFault) → IsAtFault passes at total line found → IsLineFault passes at total line found
line-fault passes at total line found (inl own) = inl own
line-fault passes at total line found (inr (inl past)) = inr (inl (past.0, (let limit = past.1 in omega arith), past.2))
line-fault passes at total line found (inr (inr above)) =
    let spelled = line_of-is passes at (words line) above.0 above.1 in
    inr (inr (above.0, spelled.0, spelled.1, (let limit = above.2 in omega arith), above.3, above.4))

later-fault : (header : Header) (at : ℕ) (text : List (List ℕ)) (found : ScriptFault) → at ≤ MOST_LINES → header.opening ≤ MOST_NUMBER
    → lines_of header.passes (at + 1) header.opening text ≡ Err found → IsLaterFault header at text found
later-fault header at text found limit opening h =
    let s = first_line-at_fault header.passes (at + 1) header.opening text found h in
    let are = lines_of-is header.passes (at + 1) header.opening s.0 s.3 (omega arith) s.5 in
    let count = are.1 in
    let below = (lines_of-sound header.passes (at + 1) header.opening s.0 s.3 opening s.5).below in
    (s.0, s.1, s.2, s.3, s.4, record { orders = are.0; limit = omega arith; total = omega arith }, line-fault header.passes (at + 1 + length s.0) (header.opening + total_amount s.3) s.1 found s.6)

-- the fault of a script from its first line with words on
limit-err : (b : Bool) (e found : ScriptFault) → (if b then Err e else Ok (tt {0})) ≡ Err found → (b ≡ true) × (found ≡ e)
limit-err true e found h = (refl, cc)
limit-err false e found h = cc

limit-ok : (b : Bool) (e : ScriptFault) (u : Unit {0}) → (if b then Err e else Ok (tt {0})) ≡ Ok u → b ≡ false
limit-ok true e u h = cc
limit-ok false e u h = refl

script-fault : (at : ℕ) (first : List ℕ) (rest : List (List ℕ)) (found : ScriptFault) → script_from (Some (record { at = at; line = first; rest = rest })) ≡ Err found → IsFaultFrom at first rest found
unfolding script_from
script-fault at first rest found h =
    elim (bind_err (if nat_lt (MOST_LINES + 1) at then Err (fault.TooMany (MOST_LINES + 1)) else Ok (tt {0})) _ found h) [
      | inl late ↦ (let is = limit-err (nat_lt (MOST_LINES + 1) at) (fault.TooMany (MOST_LINES + 1)) found late in let past = lt-true (MOST_LINES + 1) at is.0 in inl (omega arith, is.1))
      | inr early ↦
          let within = lt-false (MOST_LINES + 1) at (limit-ok (nat_lt (MOST_LINES + 1) at) (fault.TooMany (MOST_LINES + 1)) early.0 early.1) in
          elim (bind_err (header_of at (words first)) _ found early.2) [
            | inl own ↦ inr (inl (omega arith, header-fault at (words first) found own))
            | inr header ↦
                let spelled = header_of-is at (words first) header.0 header.1 in
                elim (bind_err (within_limit at) _ found header.2) [
                  | inl past ↦ (let limit = within_limit-err at found past in let over = limit.0 in inr (inr (inl (header.0, spelled, omega arith, limit.1))))
                  | inr inside ↦ elim (bind_err (lines_of header.0.passes (at + 1) header.0.opening rest) _ found inside.2) [
                    | inl later ↦ inr (inr (inr (header.0, spelled, later-fault header.0 at rest found (within_limit-ok at inside.0 inside.1) (header_of-bound at (words first) header.0 header.1) later)))
                    | inr all ↦ absurd (let no = all.2 in cc)
                  ]
                ]
          ]
    ]

none-fault : (found : ScriptFault) → script_from None ≡ Err found → found ≡ fault.Header 1
unfolding script_from
none-fault found h = cc

text-fault : (text : List (List ℕ)) (o : Option FirstLine) (found : ScriptFault) → first_with_words 1 text ≡ o → script_from o ≡ Err found → IsFirstFault text found
text-fault text None found is h = inl (nowhere-blank 1 text is, none-fault found h)
text-fault text (Some first) found is h =
    let split = first_with_words-is 1 text first is in
    let spoken = any-some (words first.line) (first-has 1 text first is) in
    inr (split.0, first.line, first.rest, record { whole = split.1; blank = split.2; spoken = spoken }, rw split.3 at (script-fault first.at first.line first.rest found h))

pub refused-for_first : RefusedForFirst
refused-for_first bytes found h = text-fault (lines bytes) (first_with_words 1 (lines bytes)) found refl h

-- a line at fault is refused
some-fault : {A E : Type 0} (r : Result A E) (e : E) → fault_in r ≡ Some e → r ≡ Err e
some-fault (Ok x) e h = cc
some-fault (Err d) e h = cc

no-fault : {A E : Type 0} (r : Result A E) → fault_in r ≡ None → (x : A) × (r ≡ Ok x)
no-fault (Ok x) h = (x, refl)
no-fault (Err d) h = cc

within_limit-past : (at : ℕ) → MOST_LINES < at → within_limit at ≡ Err (fault.TooMany at)
unfolding within_limit
within_limit-past at past = rw (true-lt MOST_LINES at past) refl

total_with-above : (at total : ℕ) (item : ScriptLine) → MOST_NUMBER < total + amount item.order → total_with at total (Some item) ≡ Err (fault.Total at)
unfolding total_with
total_with-above at total item above = rw (true-lt MOST_NUMBER (total + amount item.order) above) refl

line-refused : (passes at total : ℕ) (line : List ℕ) (rest : List (List ℕ)) (found : ScriptFault) → IsLineFault passes at total line found → lines_of passes at total (line ∷ rest) ≡ Err found
unfolding lines_of
line-refused passes at total line rest found (inl own) = rw (some-fault (line_of passes at (words line)) found (line_faults-first passes at (words line) ∙ own)) refl
line-refused passes at total line rest found (inr (inl past)) =
    let read = no-fault (line_of passes at (words line)) (line_faults-first passes at (words line) ∙ past.0) in
    let over = past.1 in
    rw (read.1, within_limit-past at (omega arith), past.2) refl
line-refused passes at total line rest found (inr (inr above)) =
    let limit = above.3 in
    let sum = above.4 in
    rw (line_of-from passes at (words line) above.0 above.1 above.2, within_limit-from at (omega arith), total_with-above at total above.0 (omega arith), above.5) refl

-- lines are refused where the rest after good ones is
blank-later : (passes at total : ℕ) (line : List ℕ) (rest : List (List ℕ)) (found : ScriptFault) → words line ≡ [] → at ≤ MOST_LINES
    → lines_of passes (at + 1) total rest ≡ Err found → lines_of passes at total (line ∷ rest) ≡ Err found
unfolding lines_of line_of total_with
blank-later passes at total line rest found blank within after = rw (blank, within_limit-from at within, after) refl

item-later : (passes at total : ℕ) (line : List ℕ) (rest : List (List ℕ)) (item : ScriptLine) (found : ScriptFault)
    → line_of passes at (words line) ≡ Ok (Some item) → at ≤ MOST_LINES → total + amount item.order ≤ MOST_NUMBER
    → lines_of passes (at + 1) (total + amount item.order) rest ≡ Err found → lines_of passes at total (line ∷ rest) ≡ Err found
unfolding lines_of
item-later passes at total line rest item found was within below after = rw (was, within_limit-from at within, total_with-from at total item below, after) refl

good-later : (passes at total : ℕ) (front rest : List (List ℕ)) (items : List ScriptLine) (found : ScriptFault) → at + length front ≤ MOST_LINES + 1
    → total + total_amount items ≤ MOST_NUMBER → SpellsLines passes at items front
    → lines_of passes (at + length front) (total + total_amount items) rest ≡ Err found → lines_of passes at total (front ++ rest) ≡ Err found
good-later passes at total [] rest items found within below s h =
    let place : at + 0 ≡ at = omega arith in
    let sum : total + total_amount items ≡ total = rw s (omega arith) in
    (rw (place, sum) at h)
good-later passes at total (line ∷ front) rest items found within below (inl s) h =
    let place : at + suc (length front) ≡ at + 1 + length front = omega arith in
    blank-later passes at total line (front ++ rest) found s.0 (omega arith) (good-later passes (at + 1) total front rest items found (omega arith) below s.1 (rw place at h))
good-later passes at total (line ∷ front) rest items found within below (inr s) h =
    let item = s.0 in
    let more = s.1 in
    let all : total_amount items ≡ amount item.order + total_amount more = rw s.2 (sum_by-cons (λ (l : ScriptLine). amount l.order) item more) in
    let place : at + suc (length front) ≡ at + 1 + length front = omega arith in
    let sum : total + total_amount items ≡ total + amount item.order + total_amount more = omega arith in
    item-later passes at total line (front ++ rest) item found (line_of-from passes at (words line) item s.3 s.4) (omega arith) (omega arith)
    (good-later passes (at + 1) (total + amount item.order) front rest more found (omega arith) (omega arith) s.5 (rw (place, sum) at h))

later-refused : (header : Header) (at : ℕ) (text : List (List ℕ)) (found : ScriptFault) → IsLaterFault header at text found
    → (at ≤ MOST_LINES) × (lines_of header.passes (at + 1) header.opening text ≡ Err found)
later-refused header at text found f =
    let good = f.5 in
    let limit = good.limit in
    let total = good.total in (
      omega arith,
      rw f.4 (good-later header.passes (at + 1) header.opening f.0 (f.1 ∷ f.2) f.3 found (omega arith) (omega arith) good.orders
          (line-refused header.passes (at + 1 + length f.0) (header.opening + total_amount f.3) f.1 f.2 found f.6)),
    )

-- a script is refused for its first fault
script-refused : (at : ℕ) (first : List ℕ) (rest : List (List ℕ)) (found : ScriptFault) → IsFaultFrom at first rest found → script_from (Some (record { at = at; line = first; rest = rest })) ≡ Err found
unfolding script_from
script-refused at first rest found (inl late) =
    let past = late.0 in rw (true-lt (MOST_LINES + 1) at (omega arith), late.1) refl
script-refused at first rest found (inr (inl own)) =
    let within = own.0 in rw (false-lt (MOST_LINES + 1) at (omega arith), header-refused at (words first) found own.1) refl
script-refused at first rest found (inr (inr (inl past))) =
    let place = past.2 in rw (false-lt (MOST_LINES + 1) at (omega arith), header_of-from at (words first) past.0 past.1, within_limit-past at (omega arith), past.3) refl
script-refused at first rest found (inr (inr (inr later))) =
    let is = later-refused later.0 at rest found later.2 in
    let within = is.0 in
    rw (false-lt (MOST_LINES + 1) at (omega arith), header_of-from at (words first) later.0 later.1, within_limit-from at within, is.1) refl

none-refused : script_from None ≡ Err (fault.Header 1)
unfolding script_from
none-refused = refl

text-refused : (text : List (List ℕ)) (found : ScriptFault) → IsFirstFault text found → script_from (first_with_words 1 text) ≡ Err found
text-refused text found (inl blank) = rw (blank-nowhere 1 text blank.0, blank.1) none-refused
text-refused text found (inr f) =
    let split = f.3 in
    rw (split.whole, first_with_words-from 1 f.0 f.1 f.2 split.blank (some-any (words f.1) split.spoken)) (script-refused (1 + length f.0) f.1 f.2 found f.4)

pub first-refused : FirstIsRefused
first-refused bytes found f = text-refused (lines bytes) found f

-- a reading that answers a fault is refused for it
pub gives-first : (bytes : List ℕ) (result : Result Script ScriptFault) → Gives content result (script_of bytes) → IfErr result (λ found. IsRefusedFor (lines bytes) found)
gives-first bytes (Ok script) h = tt
gives-first bytes (Err fault.NoMemory) h = tt
gives-first bytes (Err (fault.Header at)) h = refused-for_first bytes (fault.Header at) h
gives-first bytes (Err (fault.Shape why)) h = refused-for_first bytes (fault.Shape why) h
gives-first bytes (Err (fault.Fields at)) h = refused-for_first bytes (fault.Fields at) h
gives-first bytes (Err (fault.Pass at)) h = refused-for_first bytes (fault.Pass at) h
gives-first bytes (Err (fault.Op at)) h = refused-for_first bytes (fault.Op at) h
gives-first bytes (Err (fault.Amount at)) h = refused-for_first bytes (fault.Amount at) h
gives-first bytes (Err (fault.TooMany at)) h = refused-for_first bytes (fault.TooMany at) h
gives-first bytes (Err (fault.Total at)) h = refused-for_first bytes (fault.Total at) h
