-- What is read is sound.
use Rattle.std.proofs.Common.{◌≡◌, ℕ, ◌+◌, ◌<◌, ◌≤◌, List, [], ◌∷◌, ◌++◌, Option, Some, None, Result, Ok, Err, refl, sym, arith}
use Rattle.std.specs.Prelude.{nat_lt, option_to_list, option_and_then, if◌then◌else◌, IfOk}
use Rattle.std.specs.List.{AllByRecursion}
use Rattle.std.proofs.lemmas.List.Elements.{All-from_recursion}
use Rattle.std.proofs.lemmas.List.Sums.{sum_by-cons}
use Rattle.script_text.specs.Order.{amount}
use Rattle.script_text.specs.Script.{capped, Content, FirstLine, Gives, Header, after_funnel, amount_of, content, header_of, header_or, line_of, lines_of, next_number, no_more, order_of, pass_of, script_from, shaped, third_of, total_with, verb_line, verb_of, within_limit}
use Rattle.text_lines.specs.Steps.{◌>>=◌, required}
use Rattle.script_text.specs.Sound.{HasAmount, HasPasses, IsNumbered, IsSound, MeetsBelow, RisesAbove, total_amount}
use Rattle.text_lines.specs.Text.{number, words}
use Rattle.fn_layout.specs.declared.shape.ShapeFault.{ShapeFault}
use Rattle.text_lines.proofs.Steps.{bind_ok, guard_err, guard_ok, lt-false, lt-true, number-bound, required_ok}
use Rattle.text_lines.specs.declared.pieces.TheConstants.{MOST_NUMBER}
use Rattle.script_text.specs.declared.reading.TheConstants.{MOST_LINES}
use Rattle.script_text.specs.declared.orders.Verb.{Verb}
use Rattle.script_text.specs.declared.orders.Verb.TheVariants as verb
use Rattle.script_text.specs.declared.scripts.Order.{Order}
use Rattle.script_text.specs.declared.scripts.Order.TheVariants as order
use Rattle.script_text.specs.declared.scripts.Script.{Script}
use Rattle.script_text.specs.declared.scripts.ScriptFault.{ScriptFault}
use Rattle.script_text.specs.declared.scripts.ScriptFault.TheVariants as fault
use Rattle.script_text.specs.declared.scripts.ScriptLine.{ScriptLine}

-- a pass that was read is there, and an amount that was read is at least 1
pass_of-below : (passes at : ℕ) (word : Option (List ℕ)) (q : ℕ) → pass_of passes at word ≡ Ok q → q < passes
unfolding pass_of
pass_of-below passes at word q h =
    let was = bind_ok (required (fault.Pass at) (option_and_then number word)) _ q h in
    let below = guard_ok (nat_lt was.0 passes) was.0 q (fault.Pass at) was.2 in
    let less = lt-true was.0 passes below.0 in
    rw (← below.1) less

amount_of-least : (at : ℕ) (word : Option (List ℕ)) (n : ℕ) → amount_of at word ≡ Ok n → 1 ≤ n
unfolding amount_of
amount_of-least at word n h =
    let was = bind_ok (required (fault.Amount at) (option_and_then number word)) _ n h in
    let some_amount = guard_ok (nat_lt 0 was.0) was.0 n (fault.Amount at) was.2 in
    let least = lt-true 0 was.0 some_amount.0 in
    rw (← some_amount.1) least

-- an order that was read is sound
amount_order : (passes at : ℕ) (third : Option (List ℕ)) (o : Order) (make : ℕ → Order)
    → ((n : ℕ) → 1 ≤ n → MeetsBelow passes (make n) × HasAmount (make n))
    → (amount_of at third >>= λ n. Ok (make n)) ≡ Ok o → MeetsBelow passes o × HasAmount o
amount_order passes at third o make sound h =
    let was = bind_ok (amount_of at third) (λ n. Ok (make n)) o h in
    let same : make was.0 ≡ o = cc in
    rw (← same) (sound was.0 (amount_of-least at third was.0 was.1))

order_of-sound : (passes at : ℕ) (v : Verb) (third : Option (List ℕ)) (o : Order) → order_of passes at v third ≡ Ok o → MeetsBelow passes o × HasAmount o
unfolding order_of
order_of-sound passes at verb.Add third o h = amount_order passes at third o order.Add (λ n least. (tt, least)) h
order_of-sound passes at verb.Sub third o h = amount_order passes at third o order.Sub (λ n least. (tt, least)) h
order_of-sound passes at verb.Direct third o h = amount_order passes at third o order.Direct (λ n least. (tt, least)) h
order_of-sound passes at verb.SubDirect third o h = amount_order passes at third o order.SubDirect (λ n least. (tt, least)) h
order_of-sound passes at verb.Read third o h = let same : order.Read ≡ o = cc in rw (← same) (tt, tt)
order_of-sound passes at verb.Step third o h = let same : order.Step ≡ o = cc in rw (← same) (tt, tt)
order_of-sound passes at verb.Poll third o h = let same : order.Poll ≡ o = cc in rw (← same) (tt, tt)
order_of-sound passes at verb.Meet third o h =
    let was = bind_ok (pass_of passes at third) (λ q. Ok (order.Meet q)) o h in
    let same : order.Meet was.0 ≡ o = cc in
    rw (← same) (pass_of-below passes at third was.0 was.1, tt)

-- a line that was read is sound, and stands where it was read
record IsSoundLine (passes at : ℕ) (line : ScriptLine) : Type 0 where
  passes_are : HasPasses passes line
  amount_is : HasAmount line.order
  place : line.at ≡ at

verb_line-sound : (passes at : ℕ) (pass : List ℕ) (v : Option Verb) (more : List (List ℕ)) (line : ScriptLine)
    → verb_line passes at pass v more ≡ Ok (Some line) → IsSoundLine passes at line
unfolding verb_line
verb_line-sound passes at pass None more line h =
    let was = bind_ok (pass_of passes at (Some pass)) _ (Some line) h in
    let no = was.2 in cc
verb_line-sound passes at pass (Some v) more line h =
    let third = bind_ok (third_of at v more) _ (Some line) h in
    let p = bind_ok (pass_of passes at (Some pass)) _ (Some line) third.2 in
    let o = bind_ok (order_of passes at v third.0) _ (Some line) p.2 in
    let made = o.2 in
    let sound = order_of-sound passes at v third.0 o.0 o.1 in
    let below = pass_of-below passes at (Some pass) p.0 p.1 in
    let same : record { at = at; pass = p.0; order = o.0 } ≡ line = cc in
    rw (← same) (record { passes_are = (below, sound.0); amount_is = sound.1; place = refl })

line_of-sound : (passes at : ℕ) (all : List (List ℕ)) (line : ScriptLine) → line_of passes at all ≡ Ok (Some line) → IsSoundLine passes at line
unfolding line_of
line_of-sound passes at [] line h = cc
line_of-sound passes at (pass ∷ []) line h = cc
line_of-sound passes at (pass ∷ name ∷ more) line h = verb_line-sound passes at pass (verb_of name) more line h

-- what is read of the lines after the first one, from this number and this total on
pub record AreSoundLines (passes at total : ℕ) (items : List ScriptLine) : Type 0 where
  pub passes_are : AllByRecursion (HasPasses passes) items
  pub amounts_are : AllByRecursion (λ line. HasAmount line.order) items
  pub below : total + total_amount items ≤ MOST_NUMBER
  pub rising : (before : ℕ) → before < at → RisesAbove before items
  pub within : AllByRecursion (λ line. line.at ≤ MOST_LINES) items

sound-none : (passes at total : ℕ) → total ≤ MOST_NUMBER → AreSoundLines passes at total []
sound-none passes at total below = record { passes_are = tt; amounts_are = tt; below = omega arith; rising = λ _ _. tt; within = tt }

sound-skip : (passes at total : ℕ) (items : List ScriptLine) → AreSoundLines passes (at + 1) total items → AreSoundLines passes at total items
sound-skip passes at total items s =
    record { passes_are = s.passes_are; amounts_are = s.amounts_are; below = s.below; rising = λ before less. s.rising before (omega arith); within = s.within }

sound-more : (passes at total : ℕ) (line : ScriptLine) (items : List ScriptLine) → IsSoundLine passes at line → at ≤ MOST_LINES
    → AreSoundLines passes (at + 1) (total + amount line.order) items → AreSoundLines passes at total (line ∷ items)
sound-more passes at total line items first within s =
    record {
      passes_are = (first.passes_are, s.passes_are);
      amounts_are = (first.amount_is, s.amounts_are);
      below = let all = sum_by-cons (λ (l : ScriptLine). amount l.order) line items in let rest = s.below in omega arith;
      rising = λ before less. (let place = first.place in omega arith, rw first.place (s.rising at (omega arith)));
      within = (let place = first.place in omega arith, s.within);
    }

-- the total after a line
pub total_with-ok : (at total sum : ℕ) (line : ScriptLine) → total_with at total (Some line) ≡ Ok sum → sum ≡ total + amount line.order
unfolding total_with
total_with-ok at total sum line h = sym (guard_err (nat_lt MOST_NUMBER (total + amount line.order)) (total + amount line.order) sum (fault.Total at) h).1

pub total_with-bound : (at total sum : ℕ) (line : ScriptLine) → total_with at total (Some line) ≡ Ok sum → sum ≤ MOST_NUMBER
unfolding total_with
total_with-bound at total sum line h =
    let was = guard_err (nat_lt MOST_NUMBER (total + amount line.order)) (total + amount line.order) sum (fault.Total at) h in
    rw (← was.1) (lt-false MOST_NUMBER (total + amount line.order) was.0)

pub total_with-none : (at total sum : ℕ) → total_with at total None ≡ Ok sum → sum ≡ total
unfolding total_with
total_with-none at total sum h = cc

pub within_limit-ok : (at : ℕ) (u : Unit {0}) → within_limit at ≡ Ok u → at ≤ MOST_LINES
unfolding within_limit
within_limit-ok at u h = lt-false MOST_LINES at (guard_err (nat_lt MOST_LINES at) tt u (fault.TooMany at) h).0

sound-read : (passes at total sum : ℕ) (read : Option ScriptLine) (items : List ScriptLine) (all : List (List ℕ))
    → line_of passes at all ≡ Ok read → at ≤ MOST_LINES → total_with at total read ≡ Ok sum
    → AreSoundLines passes (at + 1) sum items → AreSoundLines passes at total (option_to_list read ++ items)
sound-read passes at total sum None items all was within counted rest =
    let same = total_with-none at total sum counted in
    sound-skip passes at total items (rw same at rest)
sound-read passes at total sum (Some line) items all was within counted rest =
    let same = total_with-ok at total sum line counted in
    sound-more passes at total line items (line_of-sound passes at all line was) within (rw same at rest)

total_with-below : (at total sum : ℕ) (read : Option ScriptLine) → total ≤ MOST_NUMBER → total_with at total read ≡ Ok sum → sum ≤ MOST_NUMBER
total_with-below at total sum None below h = let same = total_with-none at total sum h in omega arith
total_with-below at total sum (Some line) below h = total_with-bound at total sum line h

pub lines_of-sound : (passes at total : ℕ) (text : List (List ℕ)) (items : List ScriptLine) → total ≤ MOST_NUMBER
    → lines_of passes at total text ≡ Ok items → AreSoundLines passes at total items
unfolding lines_of
lines_of-sound passes at total [] items below h =
    let same : [] ≡ items = cc in rw (← same) (sound-none passes at total below)
lines_of-sound passes at total (line ∷ rest) items below h =
    let read = bind_ok (line_of passes at (words line)) _ items h in
    let limit = bind_ok (within_limit at) _ items read.2 in
    let sum = bind_ok (total_with at total read.0) _ items limit.2 in
    let more = bind_ok (lines_of passes (at + 1) sum.0 rest) _ items sum.2 in
    let made = more.2 in
    let same : option_to_list read.0 ++ more.0 ≡ items = cc in
    let after = lines_of-sound passes (at + 1) sum.0 rest more.0 (total_with-below at total sum.0 read.0 below sum.1) more.1 in
    rw (← same) (sound-read passes at total sum.0 read.0 more.0 (words line) read.1 (within_limit-ok at limit.0 limit.1) sum.1 after)

-- the opening is a number
next_number-bound : (at : ℕ) (all : List (List ℕ)) (read : ℕ × List (List ℕ)) → next_number at all ≡ Ok read → read.0 ≤ MOST_NUMBER
unfolding next_number
next_number-bound at [] read h = cc
next_number-bound at (word ∷ more) read h =
    let was = bind_ok (required (fault.Header at) (number word)) (λ n. Ok (n, more)) read h in
    let is = required_ok (fault.Header at) (number word) was.0 was.1 in
    let made = was.2 in
    let same : (was.0, more) ≡ read = cc in
    rw (← same) (number-bound word was.0 is)

header_or-opening : (found : Option ShapeFault) (numbers header : Header) → header_or found numbers ≡ Ok header → header.opening ≡ numbers.opening
header_or-opening None numbers header h = let same : numbers ≡ header = cc in rw same refl
header_or-opening (Some found) numbers header h = cc

shaped-opening : (passes leaves levels rows opening : ℕ) (header : Header) → shaped passes leaves levels rows opening ≡ Ok header → header.opening ≡ opening
unfolding shaped
shaped-opening passes leaves levels rows opening header h = header_or-opening _ _ header h

pub header_of-bound : (at : ℕ) (all : List (List ℕ)) (header : Header) → header_of at all ≡ Ok header → header.opening ≤ MOST_NUMBER
unfolding header_of
header_of-bound at all header h =
    let named = bind_ok (after_funnel at all) _ header h in
    let passes = bind_ok (next_number at named.0) _ header named.2 in
    let leaves = bind_ok (next_number at passes.0.1) _ header passes.2 in
    let levels = bind_ok (next_number at leaves.0.1) _ header leaves.2 in
    let rows = bind_ok (next_number at levels.0.1) _ header levels.2 in
    let opening = bind_ok (next_number at rows.0.1) _ header rows.2 in
    let end = bind_ok (no_more at opening.0.1) _ header opening.2 in
    let last = shaped-opening (capped passes.0.0) (capped leaves.0.0) (capped levels.0.0) (capped rows.0.0) opening.0.0 header end.2 in
    rw last (next_number-bound at rows.0.1 opening.0 opening.1)

-- a script that is read from a first line on
pub script_from-sound : (first : FirstLine) (read : Content) → script_from (Some first) ≡ Ok read
    → AreSoundLines read.header.passes (first.at + 1) read.header.opening read.lines
unfolding script_from
script_from-sound first read h =
    let limit = bind_ok (if nat_lt (MOST_LINES + 1) first.at then Err (fault.TooMany (MOST_LINES + 1)) else Ok (tt {0})) _ read h in
    let header = bind_ok (header_of first.at (words first.line)) _ read limit.2 in
    let within = bind_ok (within_limit first.at) _ read header.2 in
    let lines = bind_ok (lines_of header.0.passes (first.at + 1) header.0.opening first.rest) _ read within.2 in
    let made = lines.2 in
    let same : record { header = header.0; lines = lines.0 } ≡ read = cc in
    rw (← same) (lines_of-sound header.0.passes (first.at + 1) header.0.opening first.rest lines.0 (header_of-bound first.at (words first.line) header.0 header.1) lines.1)

pub gives-sound : (first : FirstLine) (result : Result Script ScriptFault) → Gives content result (script_from (Some first)) → IfOk result IsSound
gives-sound first (Err found) h = tt
gives-sound first (Ok script) h =
    let s = script_from-sound first (content script) h in
    record {
      passes = All-from_recursion _ script.lines s.passes_are;
      amounts = All-from_recursion _ script.lines s.amounts_are;
      total = let below = s.below in omega arith;
    }

pub gives-numbered : (first : FirstLine) (result : Result Script ScriptFault) → 1 ≤ first.at → Gives content result (script_from (Some first)) → IfOk result (λ script. IsNumbered script.lines)
gives-numbered first (Err found) from h = tt
gives-numbered first (Ok script) from h =
    let s = script_from-sound first (content script) h in
    record { rising = s.rising 1 (omega arith); within = All-from_recursion _ script.lines s.within }
