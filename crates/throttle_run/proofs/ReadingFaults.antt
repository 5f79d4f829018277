-- The fault that is found is the first, and the first is found.
use Rattle.std.proofs.Common.{◌≡◌, ℕ, suc, ◌+◌, ◌<◌, ◌≤◌, ◌^◌, true, List, [], ◌∷◌, ◌++◌, length, Option, Some, None, Result, Ok, Err, ◌⊎◌, inl, inr, refl, sym, ap, ◌∙◌, arith}
use Rattle.std.specs.Prelude.{nat_lt, option_to_list}
use Rattle.std.specs.List.{sum_by}
use Rattle.std.proofs.lemmas.Bool.{cases_Bool}
use Rattle.std.proofs.lemmas.List.Sums.{sum_by-cons}
use Rattle.text_lines.proofs.Steps.{bind_ok, lt-true}
use Rattle.text_lines.specs.Steps.{◌>>=◌, fault_in}
use Rattle.text_lines.specs.Text.{lines, number, words}
use Rattle.throttle_run.proofs.ReadingSpelled.{line_of-from, line_of-is, lines_of-nothing, takes-read, takes-spelled, total_with-none, total_with-some, true-lt, within_limit-from, within_limit-ok}
use Rattle.throttle_run.specs.Faults.{FirstFaultIsTold, IsAtFault, IsFirstFault, LineFaultsAreFirst, line_fault}
use Rattle.throttle_run.specs.Lines.{amount_of, cost, line_of, lines_of, moment_of, take_of, total_with, within_limit, worker_of}
use Rattle.throttle_run.specs.declared.faults.ThrottleFault.{ThrottleFault}
use Rattle.throttle_run.specs.declared.faults.ThrottleFault.TheVariants as fault
use Rattle.throttle_run.specs.declared.lines.ThrottleLine.{ThrottleLine}
use Rattle.throttle_run.specs.declared.reading.TheConstants.{MOST_LINES, MOST_TOTAL}

-- the three words of a take, by what numbers they are
amount-first : (workers at w n : ℕ) (worker now amount : List ℕ) (o : Option ℕ) → number worker ≡ Some w → nat_lt w workers ≡ true → number now ≡ Some n → number amount ≡ o
    → fault_in (line_of workers at (worker ∷ now ∷ amount ∷ [])) ≡ line_fault workers at (worker ∷ now ∷ amount ∷ [])
unfolding line_of take_of worker_of moment_of amount_of
amount-first workers at w n worker now amount None who below when is = rw (who, below, when, is) refl
amount-first workers at w n worker now amount (Some a) who below when is =
    elim (cases_Bool (nat_lt 0 a)) [ inl least ↦ rw (who, below, when, is, least) refl | inr none ↦ rw (who, below, when, is, none) refl ]

moment-first : (workers at w : ℕ) (worker now amount : List ℕ) (o : Option ℕ) → number worker ≡ Some w → nat_lt w workers ≡ true → number now ≡ o
    → fault_in (line_of workers at (worker ∷ now ∷ amount ∷ [])) ≡ line_fault workers at (worker ∷ now ∷ amount ∷ [])
unfolding line_of take_of worker_of moment_of
moment-first workers at w worker now amount None who below is = rw (who, below, is) refl
moment-first workers at w worker now amount (Some n) who below is = amount-first workers at w n worker now amount (number amount) who below is refl

worker-first : (workers at : ℕ) (worker now amount : List ℕ) (o : Option ℕ) → number worker ≡ o
    → fault_in (line_of workers at (worker ∷ now ∷ amount ∷ [])) ≡ line_fault workers at (worker ∷ now ∷ amount ∷ [])
unfolding line_of take_of worker_of
worker-first workers at worker now amount None is = rw is refl
worker-first workers at worker now amount (Some w) is =
    elim (cases_Bool (nat_lt w workers)) [ inl below ↦ moment-first workers at w worker now amount (number now) is below refl | inr above ↦ rw (is, above) refl ]

-- the first fault of a line
pub line_faults-first : LineFaultsAreFirst
unfolding line_of
line_faults-first workers at [] = refl
line_faults-first workers at (worker ∷ []) = refl
line_faults-first workers at (worker ∷ now ∷ []) = refl
line_faults-first workers at (worker ∷ now ∷ amount ∷ []) = worker-first workers at worker now amount (number worker) refl
line_faults-first workers at (worker ∷ now ∷ amount ∷ next ∷ more) = refl

-- a reading that was refused was so in its first part or in the rest
bind_err : {A B : Type 0} (r : Result A ThrottleFault) (f : A → Result B ThrottleFault) (e : ThrottleFault) → (r >>= f) ≡ Err e
    → (r ≡ Err e) ⊎ ((x : A) × (r ≡ Ok x) × (f x ≡ Err e))
bind_err (Ok x) f e h = inr (x, refl, h)
bind_err (Err d) f e h = inl cc

-- the place and the total of a fault, written in another way
at-place : (workers burst at total place sum : ℕ) (line : List ℕ) (found : ThrottleFault) → place ≡ at → sum ≡ total
    → IsAtFault workers burst at total line found → IsAtFault workers burst place sum line found
at-place workers burst at total place sum line found p s h = rw (p, s) h

within_limit-err : (at : ℕ) (found : ThrottleFault) → within_limit at ≡ Err found → (MOST_LINES < at) × (found ≡ fault.TooMany at)
unfolding within_limit
within_limit-err at found h =
    elim (cases_Bool (nat_lt MOST_LINES at)) [
      | inl past ↦ (lt-true MOST_LINES at past, (let e = rw past at h in cc))
      | inr within ↦ absurd (let e = rw within at h in cc)
    ]

total_with-err : (burst at total : ℕ) (item : ThrottleLine) (found : ThrottleFault) → total_with burst at total (Some item) ≡ Err found
    → (MOST_TOTAL < total + cost burst item) × (found ≡ fault.Total at)
unfolding total_with
total_with-err burst at total item found h =
    elim (cases_Bool (nat_lt MOST_TOTAL (total + cost burst item))) [
      | inl above ↦ (lt-true MOST_TOTAL (total + cost burst item) above, (let e = rw above at h in cc))
      | inr below ↦ absurd (let e = rw below at h in cc)
    ]

total_with-none_ok : (burst at total : ℕ) (found : ThrottleFault) → total_with burst at total None ≡ Err found → ⊥
unfolding total_with
total_with-none_ok burst at total found h = cc

total-fault : (workers burst at total : ℕ) (line : List ℕ) (read : Option ThrottleLine) (found : ThrottleFault) → line_of workers at (words line) ≡ Ok read → at ≤ MOST_LINES
    → total_with burst at total read ≡ Err found → IsAtFault workers burst at total line found
total-fault workers burst at total line None found was within h = absurd (total_with-none_ok burst at total found h)
total-fault workers burst at total line (Some item) found was within h =
    let above = total_with-err burst at total item found h in
    let reached = above.0 in
    inr (inr (item, line_of-is workers at (words line) item was, within, omega arith, above.1))

-- what the lines so far come to with one more
total-after : (burst at total sum : ℕ) (read : Option ThrottleLine) (items : List ThrottleLine) → total_with burst at total read ≡ Ok sum
    → total + sum_by (cost burst) (option_to_list read ++ items) ≡ sum + sum_by (cost burst) items
total-after burst at total sum None items h = let same = total_with-none burst at total sum h in rw same refl
total-after burst at total sum (Some item) items h =
    let same = (total_with-some burst at total sum item h).0 in
    let all = sum_by-cons (cost burst) item items in
    rw (same, all) (omega arith)

lines_of-one : (workers burst at total : ℕ) (line : List ℕ) (rest : List (List ℕ)) (read : Option ThrottleLine) (u : Unit {0}) (sum : ℕ) (more : List ThrottleLine)
    → line_of workers at (words line) ≡ Ok read → within_limit at ≡ Ok u → total_with burst at total read ≡ Ok sum → lines_of workers burst (at + 1) sum rest ≡ Ok more
    → lines_of workers burst at total (line ∷ rest) ≡ Ok (option_to_list read ++ more)
unfolding lines_of
lines_of-one workers burst at total line rest read u sum more was limit counted after = rw (was, limit, counted, after) refl

-- where lines are refused
abbrev StopsAt : ℕ → ℕ → ℕ → ℕ → List (List ℕ) → ThrottleFault → Type 0
StopsAt workers burst at total text found =
    (front : List (List ℕ)) × (line : List ℕ) × (rest : List (List ℕ)) × (items : List ThrottleLine) × (text ≡ front ++ line ∷ rest)
    × (lines_of workers burst at total front ≡ Ok items) × IsAtFault workers burst (at + length front) (total + sum_by (cost burst) items) line found

stops-here : (workers burst at total : ℕ) (line : List ℕ) (rest : List (List ℕ)) (found : ThrottleFault) → IsAtFault workers burst at total line found
    → StopsAt workers burst at total (line ∷ rest) found
stops-here workers burst at total line rest found h =
    ([], line, rest, [], refl, lines_of-nothing workers burst at total, at-place workers burst at total (at + 0) (total + 0) line found (omega arith) (omega arith) h)

stops-later : (workers burst at total : ℕ) (line : List ℕ) (rest : List (List ℕ)) (read : Option ThrottleLine) (u : Unit {0}) (sum : ℕ) (found : ThrottleFault)
    → line_of workers at (words line) ≡ Ok read → within_limit at ≡ Ok u → total_with burst at total read ≡ Ok sum
    → StopsAt workers burst (at + 1) sum rest found → StopsAt workers burst at total (line ∷ rest) found
stops-later workers burst at total line rest read u sum found was limit counted s = (
  line ∷ s.0,
  s.1,
  s.2,
  option_to_list read ++ s.3,
  ap (λ (text : List (List ℕ)). line ∷ text) s.4,
  lines_of-one workers burst at total line s.0 read u sum s.3 was limit counted s.5,
  at-place workers burst (at + 1 + length s.0) (sum + sum_by (cost burst) s.3) (at + suc (length s.0)) (total + sum_by (cost burst) (option_to_list read ++ s.3)) s.1 found
      (omega arith) (total-after burst at total sum read s.3 counted) s.6,
)

own-fault : (workers at : ℕ) (line : List ℕ) (found : ThrottleFault) → line_of workers at (words line) ≡ Err found → line_fault workers at (words line) ≡ Some found
own-fault workers at line found was = sym (line_faults-first workers at (words line)) ∙ ap fault_in was

no-fault : (workers at : ℕ) (line : List ℕ) (read : Option ThrottleLine) → line_of workers at (words line) ≡ Ok read → line_fault workers at (words line) ≡ None
no-fault workers at line read was = sym (line_faults-first workers at (words line)) ∙ ap fault_in was

stops-at : (workers burst at total : ℕ) (text : List (List ℕ)) (found : ThrottleFault) → lines_of workers burst at total text ≡ Err found → StopsAt workers burst at total text found
unfolding lines_of
stops-at workers burst at total [] found h = cc
stops-at workers burst at total (line ∷ rest) found h =
    elim (bind_err (line_of workers at (words line)) _ found h) [
      | inl own ↦ stops-here workers burst at total line rest found (inl (own-fault workers at line found own))
      | inr read ↦ elim (bind_err (within_limit at) _ found read.2) [
        | inl past ↦ (let limit = within_limit-err at found past in
            stops-here workers burst at total line rest found (inr (inl (no-fault workers at line read.0 read.1, limit.0, limit.1))))
        | inr limit ↦ elim (bind_err (total_with burst at total read.0) _ found limit.2) [
          | inl reached ↦ stops-here workers burst at total line rest found (total-fault workers burst at total line read.0 found read.1 (within_limit-ok at limit.0 limit.1) reached)
          | inr sum ↦ elim (bind_err (lines_of workers burst (at + 1) sum.0 rest) _ found sum.2) [
            | inl later ↦ stops-later workers burst at total line rest read.0 limit.0 sum.0 found read.1 limit.1 sum.1 (stops-at workers burst (at + 1) sum.0 rest found later)
            | inr more ↦ absurd (let no = more.2 in cc)
          ]
        ]
      ]
    ]

-- the fault of a reading that was refused, and none of one that went on
fault-err : {A : Type 0} (r : Result A ThrottleFault) (found : ThrottleFault) → fault_in r ≡ Some found → r ≡ Err found
fault-err (Ok x) found h = cc
fault-err (Err why) found h = cc

fault-ok : {A : Type 0} (r : Result A ThrottleFault) → fault_in r ≡ None → (x : A) × (r ≡ Ok x)
fault-ok (Ok x) h = (x, refl)
fault-ok (Err why) h = cc

within_limit-past : (at : ℕ) → MOST_LINES < at → within_limit at ≡ Err (fault.TooMany at)
unfolding within_limit
within_limit-past at past = let is : nat_lt MOST_LINES at ≡ true = true-lt MOST_LINES at past in rw is refl

total_with-above : (burst at total : ℕ) (item : ThrottleLine) → MOST_TOTAL < total + cost burst item → total_with burst at total (Some item) ≡ Err (fault.Total at)
unfolding total_with
total_with-above burst at total item above =
    let is : nat_lt MOST_TOTAL (total + cost burst item) ≡ true = true-lt MOST_TOTAL (total + cost burst item) above in
    rw is refl

-- a line at fault is refused
refused-here : (workers burst at total : ℕ) (line : List ℕ) (rest : List (List ℕ)) (found : ThrottleFault) → IsAtFault workers burst at total line found
    → lines_of workers burst at total (line ∷ rest) ≡ Err found
unfolding lines_of
refused-here workers burst at total line rest found (inl own) =
    let is = fault-err (line_of workers at (words line)) found (line_faults-first workers at (words line) ∙ own) in
    rw is refl
refused-here workers burst at total line rest found (inr (inl past)) =
    let read = fault-ok (line_of workers at (words line)) (line_faults-first workers at (words line) ∙ past.0) in
    rw (read.1, within_limit-past at past.1, past.2) refl
refused-here workers burst at total line rest found (inr (inr above)) =
    let reached = above.3 in
    rw (line_of-from workers at (words line) above.0 above.1, within_limit-from at above.2, total_with-above burst at total above.0 (omega arith), above.4) refl

lines_of-err : (workers burst at total : ℕ) (line : List ℕ) (rest : List (List ℕ)) (read : Option ThrottleLine) (u : Unit {0}) (sum : ℕ) (found : ThrottleFault)
    → line_of workers at (words line) ≡ Ok read → within_limit at ≡ Ok u → total_with burst at total read ≡ Ok sum → lines_of workers burst (at + 1) sum rest ≡ Err found
    → lines_of workers burst at total (line ∷ rest) ≡ Err found
unfolding lines_of
lines_of-err workers burst at total line rest read u sum found was limit counted refused = rw (was, limit, counted, refused) refl

-- a line that is refused after lines that were read
refused-later : (workers burst at total : ℕ) (front : List (List ℕ)) (items : List ThrottleLine) (back : List (List ℕ)) (found : ThrottleFault)
    → lines_of workers burst at total front ≡ Ok items → lines_of workers burst (at + length front) (total + sum_by (cost burst) items) back ≡ Err found
    → lines_of workers burst at total (front ++ back) ≡ Err found
unfolding lines_of
refused-later workers burst at total [] items back found h later =
    let same : items ≡ [] = cc in
    let place : at + 0 ≡ at = omega arith in
    let sum : total + 0 ≡ total = omega arith in
    rw (same, place, sum) at later
refused-later workers burst at total (line ∷ front) items back found h later =
    let read = bind_ok (line_of workers at (words line)) _ items h in
    let limit = bind_ok (within_limit at) _ items read.2 in
    let sum = bind_ok (total_with burst at total read.0) _ items limit.2 in
    let more = bind_ok (lines_of workers burst (at + 1) sum.0 front) _ items sum.2 in
    let made = more.2 in
    let same : items ≡ option_to_list read.0 ++ more.0 = cc in
    let place : at + suc (length front) ≡ at + 1 + length front = omega arith in
    let costs = total-after burst at total sum.0 read.0 more.0 sum.1 in
    let there = rw (same, place, costs) at later in
    let rest = refused-later workers burst (at + 1) sum.0 front more.0 back found more.1 there in
    lines_of-err workers burst at total line (front ++ back) read.0 limit.0 sum.0 found read.1 limit.1 sum.1 rest

-- the first fault is told
pub first-found : (workers burst : ℕ) (text : List (List ℕ)) (found : ThrottleFault) → burst < 2 ^ 63 → lines_of workers burst 1 burst text ≡ Err found → IsFirstFault workers burst text found
first-found workers burst text found small h =
    let s = stops-at workers burst 1 burst text found h in
    record { front = s.0; line = s.1; rest = s.2; items = s.3; whole = s.4; before = takes-spelled workers burst s.0 s.3 small s.5; at_fault = s.6 }

pub first-told : (workers burst : ℕ) (text : List (List ℕ)) (found : ThrottleFault) → IsFirstFault workers burst text found → lines_of workers burst 1 burst text ≡ Err found
first-told workers burst text found s =
    rw s.whole (refused-later workers burst 1 burst s.front s.items (s.line ∷ s.rest) found (takes-read workers burst s.front s.items s.before)
    (refused-here workers burst (1 + length s.front) (burst + sum_by (cost burst) s.items) s.line s.rest found s.at_fault))

pub first_fault-told : FirstFaultIsTold
first_fault-told workers burst bytes found small = (first-found workers burst (lines bytes) found small, first-told workers burst (lines bytes) found)
