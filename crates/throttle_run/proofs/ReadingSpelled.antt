-- What is read is in the grammar, and what is in the grammar is read.
use Rattle.std.proofs.Common.{rules, tests, ◌≡◌, ℕ, ◌+◌, ◌<◌, ◌≤◌, ◌^◌, true, false, List, [], ◌∷◌, ◌++◌, length, Option, Some, None, Ok, inl, inr, refl, sym, arith}
use Rattle.std.specs.Prelude.{nat_lt, option_to_list}
use Rattle.std.specs.List.{AllByRecursion, sum_by}
use Rattle.std.proofs.lemmas.List.Elements.{All-from_recursion}
use Rattle.std.proofs.lemmas.List.Sums.{sum_by-cons}
use Rattle.text_lines.proofs.Steps.{bind_ok, guard_err, guard_ok, lt-false, lt-true, required_ok}
use Rattle.text_lines.specs.Steps.{required}
use Rattle.text_lines.specs.Text.{lines, number, words}
use Rattle.throttle_run.specs.Grammar.{SpellsLines, SpellsTake, SpellsTakes, TakesAreRead}
use Rattle.throttle_run.specs.Lines.{AreSound, amount_of, cost, line_of, lines_of, moment_of, take_of, total_with, within_limit, worker_of}
use Rattle.throttle_run.specs.declared.faults.ThrottleFault.TheVariants as fault
use Rattle.throttle_run.specs.declared.lines.ThrottleLine.{ThrottleLine}
use Rattle.throttle_run.specs.declared.reading.TheConstants.{MOST_LINES, MOST_TOTAL}

-- a worker, a moment and an amount that were read
worker_of-is : (workers at : ℕ) (word : List ℕ) (n : ℕ) → worker_of workers at word ≡ Ok n → (number word ≡ Some n) × (n < workers)
unfolding worker_of
worker_of-is workers at word n h =
    let was = bind_ok (required (fault.Worker at) (number word)) _ n h in
    let below = guard_ok (nat_lt was.0 workers) was.0 n (fault.Worker at) was.2 in
    rw (← below.1) (required_ok (fault.Worker at) (number word) was.0 was.1, lt-true was.0 workers below.0)

moment_of-is : (at : ℕ) (word : List ℕ) (n : ℕ) → moment_of at word ≡ Ok n → number word ≡ Some n
unfolding moment_of
moment_of-is at word n h = required_ok (fault.Amount at) (number word) n h

amount_of-is : (at : ℕ) (word : List ℕ) (n : ℕ) → amount_of at word ≡ Ok n → (number word ≡ Some n) × (1 ≤ n)
unfolding amount_of
amount_of-is at word n h =
    let was = bind_ok (required (fault.Amount at) (number word)) _ n h in
    let least = guard_ok (nat_lt 0 was.0) was.0 n (fault.Amount at) was.2 in
    rw (← least.1) (required_ok (fault.Amount at) (number word) was.0 was.1, lt-true 0 was.0 least.0)

-- a take that was read is spelled so
take_of-is : (workers at : ℕ) (worker now amount : List ℕ) (line : ThrottleLine) → take_of workers at worker now amount ≡ Ok line
    → SpellsTake workers at line (worker ∷ now ∷ amount ∷ [])
unfolding take_of
take_of-is workers at worker now amount line h =
    let who = bind_ok (worker_of workers at worker) _ line h in
    let moment = bind_ok (moment_of at now) _ line who.2 in
    let tokens = bind_ok (amount_of at amount) _ line moment.2 in
    let made = tokens.2 in
    let same : record { at = at; worker = who.0; now = moment.0; amount = tokens.0 } ≡ line = cc in
    let who_is = worker_of-is workers at worker who.0 who.1 in
    let tokens_are = amount_of-is at amount tokens.0 tokens.1 in
    rw (← same) (record {
      worker = worker;
      moment = now;
      tokens = amount;
      spelled = refl;
      worker_is = who_is.0;
      moment_is = moment_of-is at now moment.0 moment.1;
      tokens_are = tokens_are.0;
      below = who_is.1;
      least = tokens_are.1;
      place = refl;
    })

pub line_of-is : (workers at : ℕ) (all : List (List ℕ)) (line : ThrottleLine) → line_of workers at all ≡ Ok (Some line) → SpellsTake workers at line all
unfolding line_of
line_of-is workers at [] line h = cc
line_of-is workers at (worker ∷ []) line h = cc
line_of-is workers at (worker ∷ now ∷ []) line h = cc
line_of-is workers at (worker ∷ now ∷ amount ∷ []) line h =
    let was = bind_ok (take_of workers at worker now amount) _ (Some line) h in
    let same : was.0 ≡ line = (let made = was.2 in cc) in
    rw (← same) (take_of-is workers at worker now amount was.0 was.1)
line_of-is workers at (worker ∷ now ∷ amount ∷ next ∷ more) line h = cc

line_of-blank : (workers at : ℕ) (all : List (List ℕ)) → line_of workers at all ≡ Ok None → all ≡ []
unfolding line_of
line_of-blank workers at [] h = refl
line_of-blank workers at (worker ∷ []) h = cc
line_of-blank workers at (worker ∷ now ∷ []) h = cc
line_of-blank workers at (worker ∷ now ∷ amount ∷ []) h =
    let was = bind_ok (take_of workers at worker now amount) _ None h in
    let no = was.2 in cc
line_of-blank workers at (worker ∷ now ∷ amount ∷ next ∷ more) h = cc

-- a take that is spelled so is read
pub true-lt : (m n : ℕ) → m < n → nat_lt m n ≡ true
true-lt m n h = search (rules, tests)

false-lt : (m n : ℕ) → n ≤ m → nat_lt m n ≡ false
false-lt m n h = search (rules, tests)

worker_of-from : (workers at : ℕ) (word : List ℕ) (n : ℕ) → number word ≡ Some n → n < workers → worker_of workers at word ≡ Ok n
unfolding worker_of
worker_of-from workers at word n is below = rw (is, true-lt n workers below) refl

moment_of-from : (at : ℕ) (word : List ℕ) (n : ℕ) → number word ≡ Some n → moment_of at word ≡ Ok n
unfolding moment_of
moment_of-from at word n is = rw is refl

amount_of-from : (at : ℕ) (word : List ℕ) (n : ℕ) → number word ≡ Some n → 1 ≤ n → amount_of at word ≡ Ok n
unfolding amount_of
amount_of-from at word n is least = rw (is, true-lt 0 n least) refl

pub line_of-from : (workers at : ℕ) (all : List (List ℕ)) (line : ThrottleLine) → SpellsTake workers at line all → line_of workers at all ≡ Ok (Some line)
unfolding line_of take_of
line_of-from workers at all line s =
    rw s.spelled (rw (worker_of-from workers at s.worker line.worker s.worker_is s.below, moment_of-from at s.moment line.now s.moment_is, amount_of-from at s.tokens line.amount s.tokens_are s.least)
    (rw (← s.place) refl))

-- what the burst and all costs come to with a line
pub total_with-none : (burst at total sum : ℕ) → total_with burst at total None ≡ Ok sum → sum ≡ total
unfolding total_with
total_with-none burst at total sum h = cc

pub total_with-some : (burst at total sum : ℕ) (line : ThrottleLine) → total_with burst at total (Some line) ≡ Ok sum → (sum ≡ total + cost burst line) × (total + cost burst line ≤ MOST_TOTAL)
unfolding total_with
total_with-some burst at total sum line h =
    let was = guard_err (nat_lt MOST_TOTAL (total + cost burst line)) (total + cost burst line) sum (fault.Total at) h in
    (sym was.1, lt-false MOST_TOTAL (total + cost burst line) was.0)

total_with-from : (burst at total : ℕ) (line : ThrottleLine) → total + cost burst line ≤ MOST_TOTAL → total_with burst at total (Some line) ≡ Ok (total + cost burst line)
unfolding total_with
total_with-from burst at total line within =
    let below : nat_lt MOST_TOTAL (total + cost burst line) ≡ false = false-lt MOST_TOTAL (total + cost burst line) within in
    rw below refl

-- a line within the limit
pub within_limit-ok : (at : ℕ) (u : Unit {0}) → within_limit at ≡ Ok u → at ≤ MOST_LINES
unfolding within_limit
within_limit-ok at u h = lt-false MOST_LINES at (guard_err (nat_lt MOST_LINES at) tt u (fault.TooMany at) h).0

pub within_limit-from : (at : ℕ) → at ≤ MOST_LINES → within_limit at ≡ Ok tt
unfolding within_limit
within_limit-from at within = let below : nat_lt MOST_LINES at ≡ false = false-lt MOST_LINES at within in rw below refl

-- lines from this number on that say these takes within both limits, where the burst and the costs
-- before them have come to this total
record SpellsFrom (workers burst at total : ℕ) (text : List (List ℕ)) (items : List ThrottleLine) : Type 0 where
  each : SpellsLines workers at items text
  limit : at + length text ≤ MOST_LINES + 1
  below : total + sum_by (cost burst) items ≤ MOST_TOTAL

from-none : (workers burst at total : ℕ) → at ≤ MOST_LINES + 1 → total ≤ MOST_TOTAL → SpellsFrom workers burst at total [] []
from-none workers burst at total within below = record { each = refl; limit = omega arith; below = omega arith }

from-line : (workers burst at total sum : ℕ) (line : List ℕ) (rest : List (List ℕ)) (read : Option ThrottleLine) (more : List ThrottleLine)
    → line_of workers at (words line) ≡ Ok read → total_with burst at total read ≡ Ok sum → SpellsFrom workers burst (at + 1) sum rest more
    → SpellsFrom workers burst at total (line ∷ rest) (option_to_list read ++ more)
from-line workers burst at total sum line rest None more was counted s =
    let same = total_with-none burst at total sum counted in
    let limit = s.limit in
    let below = s.below in
    record { each = inl (line_of-blank workers at (words line) was, s.each); limit = omega arith; below = omega arith }
from-line workers burst at total sum line rest (Some item) more was counted s =
    let same = (total_with-some burst at total sum item counted).0 in
    let all = sum_by-cons (cost burst) item more in
    let limit = s.limit in
    let below = s.below in
    record { each = inr (item, more, refl, line_of-is workers at (words line) item was, s.each); limit = omega arith; below = omega arith }

-- the total after a line is within its limit
total_with-below : (burst at total sum : ℕ) (read : Option ThrottleLine) → total ≤ MOST_TOTAL → total_with burst at total read ≡ Ok sum → sum ≤ MOST_TOTAL
total_with-below burst at total sum None below h = let same = total_with-none burst at total sum h in omega arith
total_with-below burst at total sum (Some line) below h = let was = total_with-some burst at total sum line h in let same = was.0 in let most = was.1 in omega arith

-- lines that were read are spelled so
lines_of-is : (workers burst at total : ℕ) (text : List (List ℕ)) (items : List ThrottleLine) → at ≤ MOST_LINES + 1 → total ≤ MOST_TOTAL
    → lines_of workers burst at total text ≡ Ok items → SpellsFrom workers burst at total text items
unfolding lines_of
lines_of-is workers burst at total [] items within below h = let same : [] ≡ items = cc in rw (← same) (from-none workers burst at total within below)
lines_of-is workers burst at total (line ∷ rest) items within below h =
    let read = bind_ok (line_of workers at (words line)) _ items h in
    let limit = bind_ok (within_limit at) _ items read.2 in
    let sum = bind_ok (total_with burst at total read.0) _ items limit.2 in
    let more = bind_ok (lines_of workers burst (at + 1) sum.0 rest) _ items sum.2 in
    let made = more.2 in
    let same : option_to_list read.0 ++ more.0 ≡ items = cc in
    let inside = within_limit-ok at limit.0 limit.1 in
    let after = lines_of-is workers burst (at + 1) sum.0 rest more.0 (omega arith) (total_with-below burst at total sum.0 read.0 below sum.1) more.1 in
    rw (← same) (from-line workers burst at total sum.0 line rest read.0 more.0 read.1 sum.1 after)

-- lines that are spelled so are read
pub lines_of-nothing : (workers burst at total : ℕ) → lines_of workers burst at total [] ≡ Ok []
unfolding lines_of
lines_of-nothing workers burst at total = refl

lines_of-blank : (workers burst at total : ℕ) (line : List ℕ) (rest : List (List ℕ)) (items : List ThrottleLine) → words line ≡ [] → at ≤ MOST_LINES
    → lines_of workers burst (at + 1) total rest ≡ Ok items → lines_of workers burst at total (line ∷ rest) ≡ Ok items
unfolding lines_of line_of total_with
lines_of-blank workers burst at total line rest items blank within after = rw (blank, within_limit-from at within, after) refl

lines_of-item : (workers burst at total : ℕ) (line : List ℕ) (rest : List (List ℕ)) (item : ThrottleLine) (more : List ThrottleLine)
    → line_of workers at (words line) ≡ Ok (Some item) → at ≤ MOST_LINES → total + cost burst item ≤ MOST_TOTAL
    → lines_of workers burst (at + 1) (total + cost burst item) rest ≡ Ok more → lines_of workers burst at total (line ∷ rest) ≡ Ok (item ∷ more)
unfolding lines_of
lines_of-item workers burst at total line rest item more was within below after =
    rw (was, within_limit-from at within, total_with-from burst at total item below, after) refl

lines_of-from : (workers burst at total : ℕ) (text : List (List ℕ)) (items : List ThrottleLine) → at + length text ≤ MOST_LINES + 1
    → total + sum_by (cost burst) items ≤ MOST_TOTAL → SpellsLines workers at items text → lines_of workers burst at total text ≡ Ok items
lines_of-from workers burst at total [] items within below s = rw s (lines_of-nothing workers burst at total)
lines_of-from workers burst at total (line ∷ rest) items within below (inl s) =
    lines_of-blank workers burst at total line rest items s.0 (omega arith) (lines_of-from workers burst (at + 1) total rest items (omega arith) below s.1)
lines_of-from workers burst at total (line ∷ rest) items within below (inr s) =
    let item = s.0 in
    let more = s.1 in
    let all = sum_by-cons (cost burst) item more in
    let sum : total + (cost burst item + sum_by (cost burst) more) ≤ MOST_TOTAL = rw (s.2, all) at below in
    rw s.2 (lines_of-item workers burst at total line rest item more (line_of-from workers at (words line) item s.3) (omega arith) (omega arith)
    (lines_of-from workers burst (at + 1) (total + cost burst item) rest more (omega arith) (omega arith) s.4))

-- what is read is in the grammar
pub takes-spelled : (workers burst : ℕ) (text : List (List ℕ)) (items : List ThrottleLine) → burst < 2 ^ 63 → lines_of workers burst 1 burst text ≡ Ok items → SpellsTakes workers burst text items
takes-spelled workers burst text items small h =
    let s = lines_of-is workers burst 1 burst text items (omega arith) (omega arith) h in
    let limit = s.limit in
    let below = s.below in
    record { each = s.each; limit = omega arith; total = omega arith }

-- what is in the grammar is read
pub takes-read : (workers burst : ℕ) (text : List (List ℕ)) (items : List ThrottleLine) → SpellsTakes workers burst text items → lines_of workers burst 1 burst text ≡ Ok items
takes-read workers burst text items s =
    let limit = s.limit in
    let total = s.total in
    lines_of-from workers burst 1 burst text items (omega arith) (omega arith) s.each

pub takes-are_read : TakesAreRead
takes-are_read workers burst bytes items small = (takes-spelled workers burst (lines bytes) items small, takes-read workers burst (lines bytes) items)

-- lines in the grammar are sound
spelled-workers : (workers at : ℕ) (items : List ThrottleLine) (text : List (List ℕ)) → SpellsLines workers at items text → AllByRecursion (λ line. line.worker < workers) items
spelled-workers workers at items [] s = rw s tt
spelled-workers workers at items (line ∷ rest) (inl s) = spelled-workers workers (at + 1) items rest s.1
spelled-workers workers at items (line ∷ rest) (inr s) = rw s.2 (s.3.below, spelled-workers workers (at + 1) s.1 rest s.4)

spelled-amounts : (workers at : ℕ) (items : List ThrottleLine) (text : List (List ℕ)) → SpellsLines workers at items text → AllByRecursion (λ line. 1 ≤ line.amount) items
spelled-amounts workers at items [] s = rw s tt
spelled-amounts workers at items (line ∷ rest) (inl s) = spelled-amounts workers (at + 1) items rest s.1
spelled-amounts workers at items (line ∷ rest) (inr s) = rw s.2 (s.3.least, spelled-amounts workers (at + 1) s.1 rest s.4)

pub takes-sound : (workers burst : ℕ) (text : List (List ℕ)) (items : List ThrottleLine) → SpellsTakes workers burst text items → AreSound workers burst items
takes-sound workers burst text items s =
    record {
      workers_are = All-from_recursion _ items (spelled-workers workers 1 items text s.each);
      amounts = All-from_recursion _ items (spelled-amounts workers 1 items text s.each);
      total = s.total;
    }
