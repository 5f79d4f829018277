-- The whole of a script: what is read is in the grammar, and what is in the grammar is read.
use Rattle.std.proofs.Common.{rules, tests, ◌≡◌, ℕ, suc, ◌+◌, ◌<◌, ◌≤◌, Bool, true, false, List, [], ◌∷◌, ◌++◌, length, Option, Some, None, Result, Ok, Err, inl, inr, refl, sym, ap, ◌∙◌, arith, lit<, length-append}
use Rattle.std.specs.Prelude.{◌&&◌, nat_lt, nat_le, option_to_list, if◌then◌else◌, codes, IfOk}
use Rattle.std.specs.List.{AllByRecursion}
use Rattle.std.specs.Str.{bytes_eq}
use Rattle.std.proofs.lemmas.Bool.{cases_Bool}
use Rattle.std.proofs.lemmas.List.Sums.{sum_by-cons}
use Rattle.std.proofs.lemmas.Slice.Eq.{bytes_eq-Decides}
use Rattle.fn_layout.specs.Shape.{first_fault, is_within}
use Rattle.fn_layout.specs.declared.shape.ShapeFault.{ShapeFault}
use Rattle.text_lines.proofs.Steps.{both_hold, bind_ok, guard_ok, required_ok, le-true}
use Rattle.script_text.proofs.SoundLines.{within_limit-ok, script_from-sound}
use Rattle.script_text.proofs.Spelled.{line_of-is, line_of-blank, line_of-from}
use Rattle.script_text.specs.Grammar.{IsScript, SpellsHeader, SpellsLines}
use Rattle.script_text.specs.Order.{amount}
use Rattle.script_text.specs.Script.{Content, FirstLine, Gives, Header, content, after_funnel, capped, first_with_words, has_words, header_of, header_or, is_any, line_of, lines_of, next_number, no_more, script_from, script_of, shaped, total_with, within_limit}
use Rattle.text_lines.specs.Steps.{required}
use Rattle.script_text.specs.Sound.{total_amount}
use Rattle.text_lines.specs.Text.{lines, number, words}
use Rattle.text_lines.specs.declared.pieces.TheConstants.{MOST_NUMBER}
use Rattle.script_text.specs.declared.reading.TheConstants.{MOST_LINES}
use Rattle.script_text.specs.declared.scripts.Script.{Script}
use Rattle.script_text.specs.declared.scripts.ScriptFault.{ScriptFault}
use Rattle.script_text.specs.declared.scripts.ScriptFault.TheVariants as fault
use Rattle.script_text.specs.declared.scripts.ScriptLine.{ScriptLine}

line-is : (passes at : ℕ) (line : List ℕ) (rest : List (List ℕ)) (read : Option ScriptLine) (items more : List ScriptLine)
    → line_of passes at (words line) ≡ Ok read → items ≡ option_to_list read ++ more → SpellsLines passes (at + 1) more rest
    → SpellsLines passes at items (line ∷ rest)
line-is passes at line rest None items more was same after = inl (line_of-blank passes at (words line) was, rw same after)
line-is passes at line rest (Some item) items more was same after =
    let spelled = line_of-is passes at (words line) item was in
    inr (item, more, same, spelled.0, spelled.1, after)

pub false-lt : (m n : ℕ) → n ≤ m → nat_lt m n ≡ false
false-lt m n h = search (rules, tests)

lines_of-nothing : (passes at total : ℕ) → lines_of passes at total [] ≡ Ok []
unfolding lines_of
lines_of-nothing passes at total = refl

-- the lines that were read are spelled so, and none is past the limit
pub lines_of-is : (passes at total : ℕ) (text : List (List ℕ)) (items : List ScriptLine) → at ≤ MOST_LINES + 1 → lines_of passes at total text ≡ Ok items
    → SpellsLines passes at items text × (at + length text ≤ MOST_LINES + 1)
unfolding lines_of
lines_of-is passes at total [] items below h = let same : [] ≡ items = cc in (sym same, omega arith)
lines_of-is passes at total (line ∷ rest) items below h =
    let read = bind_ok (line_of passes at (words line)) _ items h in
    let limit = bind_ok (within_limit at) _ items read.2 in
    let sum = bind_ok (total_with at total read.0) _ items limit.2 in
    let more = bind_ok (lines_of passes (at + 1) sum.0 rest) _ items sum.2 in
    let made = more.2 in
    let same : option_to_list read.0 ++ more.0 ≡ items = cc in
    let within = within_limit-ok at limit.0 limit.1 in
    let after = lines_of-is passes (at + 1) sum.0 rest more.0 (omega arith) more.1 in
    let count = after.1 in
    (line-is passes at line rest read.0 items more.0 read.1 (sym same) after.0, omega arith)

-- lines that are spelled so are read
pub within_limit-from : (at : ℕ) → at ≤ MOST_LINES → within_limit at ≡ Ok tt
unfolding within_limit
within_limit-from at within = let below : nat_lt MOST_LINES at ≡ false = false-lt MOST_LINES at within in rw below refl

pub total_with-from : (at total : ℕ) (line : ScriptLine) → total + amount line.order ≤ MOST_NUMBER → total_with at total (Some line) ≡ Ok (total + amount line.order)
unfolding total_with
total_with-from at total line within =
    let below : nat_lt MOST_NUMBER (total + amount line.order) ≡ false = false-lt MOST_NUMBER (total + amount line.order) within in
    rw below refl

pub lines_of-blank : (passes at total : ℕ) (line : List ℕ) (rest : List (List ℕ)) (items : List ScriptLine) → words line ≡ [] → at ≤ MOST_LINES
    → lines_of passes (at + 1) total rest ≡ Ok items → lines_of passes at total (line ∷ rest) ≡ Ok items
unfolding lines_of line_of total_with
lines_of-blank passes at total line rest items blank within after = rw (blank, within_limit-from at within, after) refl

pub lines_of-item : (passes at total : ℕ) (line : List ℕ) (rest : List (List ℕ)) (item : ScriptLine) (more : List ScriptLine)
    → line_of passes at (words line) ≡ Ok (Some item) → at ≤ MOST_LINES → total + amount item.order ≤ MOST_NUMBER
    → lines_of passes (at + 1) (total + amount item.order) rest ≡ Ok more → lines_of passes at total (line ∷ rest) ≡ Ok (item ∷ more)
unfolding lines_of
lines_of-item passes at total line rest item more was within below after =
    rw (was, within_limit-from at within, total_with-from at total item below, after) refl

pub lines_of-from : (passes at total : ℕ) (text : List (List ℕ)) (items : List ScriptLine) → at + length text ≤ MOST_LINES + 1
    → total + total_amount items ≤ MOST_NUMBER → SpellsLines passes at items text → lines_of passes at total text ≡ Ok items
lines_of-from passes at total [] items within below s = rw s (lines_of-nothing passes at total)
lines_of-from passes at total (line ∷ rest) items within below (inl s) =
    lines_of-blank passes at total line rest items s.0 (omega arith) (lines_of-from passes (at + 1) total rest items (omega arith) below s.1)
lines_of-from passes at total (line ∷ rest) items within below (inr s) =
    let item = s.0 in
    let more = s.1 in
    let all = sum_by-cons (λ (l : ScriptLine). amount l.order) item more in
    let sum : total + (amount item.order + total_amount more) ≤ MOST_NUMBER = rw (s.2, all) at below in
    rw s.2 (lines_of-item passes at total line rest item more (line_of-from passes at (words line) item s.3 s.4) (omega arith) (omega arith)
    (lines_of-from passes (at + 1) (total + amount item.order) rest more (omega arith) (omega arith) s.5))

first_is : (name verb : List ℕ) (rest more : List (List ℕ)) → name ≡ verb → rest ≡ more → name ∷ rest ≡ verb ∷ more
first_is name verb rest more p q = cc

-- the words of the first line, one after the other
pub after_funnel-is : (at : ℕ) (all more : List (List ℕ)) → after_funnel at all ≡ Ok more → all ≡ codes "funnel" ∷ more
unfolding after_funnel
after_funnel-is at [] more h = cc
after_funnel-is at (name ∷ rest) more h =
    let was = guard_ok (bytes_eq name (codes "funnel")) rest more (fault.Header at) h in
    let named = (bytes_eq-Decides name (codes "funnel")).0 was.0 in
    first_is name (codes "funnel") rest more named was.1

pub next_number-is : (at : ℕ) (all : List (List ℕ)) (read : ℕ × List (List ℕ)) → next_number at all ≡ Ok read
    → (word : List ℕ) × (all ≡ word ∷ read.1) × (number word ≡ Some read.0)
unfolding next_number
next_number-is at [] read h = cc
next_number-is at (word ∷ more) read h =
    let was = bind_ok (required (fault.Header at) (number word)) (λ n. Ok (n, more)) read h in
    let is = required_ok (fault.Header at) (number word) was.0 was.1 in
    let same : (was.0, more) ≡ read = (let made = was.2 in cc) in
    rw (← same) (word, refl, is)

pub next_number-from : (at : ℕ) (word : List ℕ) (more : List (List ℕ)) (n : ℕ) → number word ≡ Some n → next_number at (word ∷ more) ≡ Ok (n, more)
unfolding next_number
next_number-from at word more n is = rw is refl

pub no_more-is : (at : ℕ) (all : List (List ℕ)) (u : Unit {0}) → no_more at all ≡ Ok u → all ≡ []
unfolding no_more
no_more-is at [] u h = refl
no_more-is at (word ∷ more) u h = cc

-- a number that a shape has is not capped
within-le : (most n : ℕ) → is_within most n ≡ true → n ≤ most
within-le most n h = le-true n most (both_hold (nat_le 1 n) (nat_le n most) h).1

uncapped : (n most : ℕ) → most < 4294967295 → capped n ≤ most → capped n ≡ n
uncapped n most small within = omega arith

-- each of the numbers of a shape is in its range
picked : (b : Bool) (rest : Option ShapeFault) (found : ShapeFault) → (if b then rest else Some found) ≡ None → (b ≡ true) × (rest ≡ None)
picked true rest found h = (refl, h)
picked false rest found h = cc

record AreSmall (passes leaves levels rows : ℕ) : Type 0 where
  passes_are : passes ≤ 64
  leaves_are : leaves ≤ 64
  levels_are : levels ≤ 64
  rows_are : rows ≤ 64

shape-small : (passes leaves levels rows : ℕ) → first_fault passes leaves levels rows ≡ None → AreSmall passes leaves levels rows
shape-small passes leaves levels rows h =
    let p = picked (is_within 64 passes) _ _ h in
    let l = picked (is_within passes leaves && nat_le leaves 32) _ _ p.1 in
    let v = picked (is_within 3 levels) _ _ l.1 in
    let r = picked (is_within 8 rows) _ _ v.1 in
    let few = within-le 64 passes p.0 in
    let leaf = within-le passes leaves (both_hold (is_within passes leaves) (nat_le leaves 32) l.0).0 in
    let level = within-le 3 levels v.0 in
    let row = within-le 8 rows r.0 in
    record { passes_are = few; leaves_are = omega arith; levels_are = omega arith; rows_are = omega arith }

header_or-is : (found : Option ShapeFault) (numbers header : Header) → header_or found numbers ≡ Ok header → (found ≡ None) × (numbers ≡ header)
header_or-is None numbers header h = (refl, cc)
header_or-is (Some found) numbers header h = cc

shaped-is : (passes leaves levels rows opening : ℕ) (header : Header) → shaped passes leaves levels rows opening ≡ Ok header
    → (first_fault passes leaves levels rows ≡ None) × (record { passes = passes; leaves = leaves; levels = levels; rows = rows; opening = opening } ≡ header)
unfolding shaped
shaped-is passes leaves levels rows opening header h = header_or-is (first_fault passes leaves levels rows) _ header h

pub shaped-from : (passes leaves levels rows opening : ℕ) → first_fault passes leaves levels rows ≡ None
    → shaped passes leaves levels rows opening ≡ Ok (record { passes = passes; leaves = leaves; levels = levels; rows = rows; opening = opening })
unfolding shaped
shaped-from passes leaves levels rows opening is = rw is refl

-- the first line that was read is spelled so
pub chain : (all : List (List ℕ)) (f p l v r o : List ℕ) (a b c d e g : List (List ℕ)) → all ≡ f ∷ a → a ≡ p ∷ b → b ≡ l ∷ c → c ≡ v ∷ d → d ≡ r ∷ e → e ≡ o ∷ g → g ≡ []
    → all ≡ f ∷ p ∷ l ∷ v ∷ r ∷ o ∷ []
chain all f p l v r o a b c d e g h1 h2 h3 h4 h5 h6 h7 = rw (h1, h2, h3, h4, h5, h6, h7) refl

pub header_of-is : (at : ℕ) (all : List (List ℕ)) (header : Header) → header_of at all ≡ Ok header → SpellsHeader header all
unfolding header_of
header_of-is at all header h =
    let named = bind_ok (after_funnel at all) _ header h in
    let passes = bind_ok (next_number at named.0) _ header named.2 in
    let leaves = bind_ok (next_number at passes.0.1) _ header passes.2 in
    let levels = bind_ok (next_number at leaves.0.1) _ header leaves.2 in
    let rows = bind_ok (next_number at levels.0.1) _ header levels.2 in
    let opening = bind_ok (next_number at rows.0.1) _ header rows.2 in
    let end = bind_ok (no_more at opening.0.1) _ header opening.2 in
    let made = shaped-is (capped passes.0.0) (capped leaves.0.0) (capped levels.0.0) (capped rows.0.0) opening.0.0 header end.2 in
    let p = next_number-is at named.0 passes.0 passes.1 in
    let l = next_number-is at passes.0.1 leaves.0 leaves.1 in
    let v = next_number-is at leaves.0.1 levels.0 levels.1 in
    let r = next_number-is at levels.0.1 rows.0 rows.1 in
    let o = next_number-is at rows.0.1 opening.0 opening.1 in
    let small = shape-small (capped passes.0.0) (capped leaves.0.0) (capped levels.0.0) (capped rows.0.0) made.0 in
    rw (← made.1) (record {
      passes = p.0;
      leaves = l.0;
      levels = v.0;
      rows = r.0;
      opening = o.0;
      spelled = chain all (codes "funnel") p.0 l.0 v.0 r.0 o.0 named.0 passes.0.1 leaves.0.1 levels.0.1 rows.0.1 opening.0.1 (after_funnel-is at all named.0 named.1) p.1 l.1 v.1 r.1 o.1 (no_more-is at opening.0.1 end.0 end.1);
      passes_is = p.2 ∙ ap (λ (n : ℕ). Some n) (sym (uncapped passes.0.0 64 (lit< tt) small.passes_are));
      leaves_is = l.2 ∙ ap (λ (n : ℕ). Some n) (sym (uncapped leaves.0.0 64 (lit< tt) small.leaves_are));
      levels_is = v.2 ∙ ap (λ (n : ℕ). Some n) (sym (uncapped levels.0.0 64 (lit< tt) small.levels_are));
      rows_is = r.2 ∙ ap (λ (n : ℕ). Some n) (sym (uncapped rows.0.0 64 (lit< tt) small.rows_are));
      opening_is = o.2;
      shape = made.0;
    })

-- a first line that is spelled so is read
capped-small : (n : ℕ) → n ≤ 64 → capped n ≡ n
capped-small n small = omega arith

pub after_funnel-from : (at : ℕ) (more : List (List ℕ)) → after_funnel at (codes "funnel" ∷ more) ≡ Ok more
unfolding after_funnel
after_funnel-from at more = refl

pub header_of-from : (at : ℕ) (all : List (List ℕ)) (header : Header) → SpellsHeader header all → header_of at all ≡ Ok header
unfolding header_of no_more
header_of-from at all header s =
    let small = shape-small header.passes header.leaves header.levels header.rows s.shape in
    rw (s.spelled, after_funnel-from) (rw (next_number-from at s.passes _ header.passes s.passes_is, next_number-from at s.leaves _ header.leaves s.leaves_is, next_number-from at s.levels _ header.levels s.levels_is, next_number-from at s.rows _ header.rows s.rows_is, next_number-from at s.opening _ header.opening s.opening_is)
    (rw (capped-small header.passes small.passes_are, capped-small header.leaves small.leaves_are, capped-small header.levels small.levels_are, capped-small header.rows small.rows_are)
    (shaped-from header.passes header.leaves header.levels header.rows header.opening s.shape)))

-- the first line with words stands after lines without
pub none_left : (all : List (List ℕ)) → is_any all ≡ false → all ≡ []
none_left [] h = refl
none_left (word ∷ more) h = cc

pub first_with_words-is : (at : ℕ) (text : List (List ℕ)) (first : FirstLine) → first_with_words at text ≡ Some first
    → (front : List (List ℕ)) × (text ≡ front ++ first.line ∷ first.rest) × AllByRecursion (λ line. words line ≡ []) front × (first.at ≡ at + length front)
unfolding first_with_words
first_with_words-is at [] first h = cc
first_with_words-is at (line ∷ rest) first h =
    elim (cases_Bool (has_words line)) [
      | inl is ↦
          let here = rw is at h in
          let same : record { at = at; line = line; rest = rest } ≡ first = cc in
          rw (← same) ([], refl, tt, omega arith)
      | inr none ↦
          let later = rw none at h in
          let split = first_with_words-is (at + 1) rest first later in
          let place = split.3 in
          (line ∷ split.0, ap (λ (text : List (List ℕ)). line ∷ text) split.1, (none_left (words line) none, split.2), omega arith)
    ]

pub first_with_words-from : (at : ℕ) (front : List (List ℕ)) (first : List ℕ) (rest : List (List ℕ)) → AllByRecursion (λ line. words line ≡ []) front → is_any (words first) ≡ true
    → first_with_words at (front ++ first ∷ rest) ≡ Some (record { at = at + length front; line = first; rest = rest })
unfolding first_with_words
first_with_words-from at [] first rest blank has = let e : at ≡ at + 0 = omega arith in rw (has, ← e) refl
first_with_words-from at (line ∷ front) first rest blank has =
    let e : at + 1 + length front ≡ at + suc (length front) = omega arith in
    rw blank.0 (first_with_words-from (at + 1) front first rest blank.1 has ∙ rw e refl)

-- a script that is read from its first line with words on
script_from-is : (first : FirstLine) (read : Content) → script_from (Some first) ≡ Ok read
    → (header_of first.at (words first.line) ≡ Ok read.header) × (lines_of read.header.passes (first.at + 1) read.header.opening first.rest ≡ Ok read.lines) × (first.at ≤ MOST_LINES)
unfolding script_from
script_from-is first read h =
    let limit = bind_ok (if nat_lt (MOST_LINES + 1) first.at then Err (fault.TooMany (MOST_LINES + 1)) else Ok (tt {0})) _ read h in
    let header = bind_ok (header_of first.at (words first.line)) _ read limit.2 in
    let within = bind_ok (within_limit first.at) _ read header.2 in
    let lines = bind_ok (lines_of header.0.passes (first.at + 1) header.0.opening first.rest) _ read within.2 in
    let made = lines.2 in
    let same : record { header = header.0; lines = lines.0 } ≡ read = cc in
    rw (← same) (header.1, lines.1, within_limit-ok first.at within.0 within.1)

script_from-from : (first : FirstLine) (header : Header) (items : List ScriptLine) → first.at ≤ MOST_LINES → header_of first.at (words first.line) ≡ Ok header
    → lines_of header.passes (first.at + 1) header.opening first.rest ≡ Ok items → script_from (Some first) ≡ Ok (record { header = header; lines = items })
unfolding script_from
script_from-from first header items within head body =
    let below : nat_lt (MOST_LINES + 1) first.at ≡ false = false-lt (MOST_LINES + 1) first.at (omega arith) in
    rw (below, head, within_limit-from first.at within, body) refl

nothing-read : (script : Content) → script_from None ≡ Ok script → ⊥
unfolding script_from
nothing-read script h = cc

-- what is read is in the grammar
read-spelled : (bytes : List ℕ) (script : Content) (o : Option FirstLine) → first_with_words 1 (lines bytes) ≡ o → script_from o ≡ Ok script → IsScript bytes script
read-spelled bytes script None none h = absurd (nothing-read script h)
read-spelled bytes script (Some first) is h =
    let split = first_with_words-is 1 (lines bytes) first is in
    let parts = script_from-is first script h in
    let text = lines_of-is script.header.passes (first.at + 1) script.header.opening first.rest script.lines (let within = parts.2 in omega arith) parts.1 in
    let place = split.3 in
    let next : first.at + 1 ≡ length split.0 + 2 = omega arith in
    let sound = script_from-sound first script h in
    let size = ap length split.1 ∙ length-append split.0 (first.line ∷ first.rest) in
    let count = text.1 in
    let below = sound.below in
    record {
      front = split.0;
      first = first.line;
      rest = first.rest;
      whole = split.1;
      blank = split.2;
      header = header_of-is first.at (words first.line) script.header parts.0;
      orders = rw next at text.0;
      limit = omega arith;
      total = omega arith;
    }

pub script-spelled : (bytes : List ℕ) (script : Content) → script_of bytes ≡ Ok script → IsScript bytes script
script-spelled bytes script h = read-spelled bytes script (first_with_words 1 (lines bytes)) refl h

-- what is in the grammar is read
pub script-read : (bytes : List ℕ) (script : Content) → IsScript bytes script → script_of bytes ≡ Ok script
script-read bytes script s =
    let has : is_any (words s.first) ≡ true = rw s.header.spelled refl in
    let first = first_with_words-from 1 s.front s.first s.rest s.blank has in
    let size = ap length s.whole ∙ length-append s.front (s.first ∷ s.rest) in
    let next : 1 + length s.front + 1 ≡ length s.front + 2 = omega arith in
    let limit = s.limit in
    let total = s.total in
    let body = lines_of-from script.header.passes (length s.front + 2) script.header.opening s.rest script.lines (omega arith) (omega arith) s.orders in
    rw (s.whole, first) (script_from-from (record { at = 1 + length s.front; line = s.first; rest = s.rest }) script.header script.lines (omega arith)
    (header_of-from (1 + length s.front) (words s.first) script.header s.header) (rw next body))

-- what was answered about some bytes, from their first line with words on
pub gives-at : (bytes : List ℕ) (text : List (List ℕ)) (o : Option FirstLine) (result : Result Script ScriptFault) → text ≡ lines bytes → first_with_words 1 text ≡ o
    → Gives content result (script_from o) → Gives content result (script_of bytes)
gives-at bytes text o result same is h = rw (← same, is) h

pub gives-found : (bytes : List ℕ) (result : Result Script ScriptFault) → Gives content result (script_of bytes) → IfOk result (λ script. IsScript bytes (content script))
gives-found bytes (Ok script) h = script-spelled bytes (content script) h
gives-found bytes (Err found) h = tt

pub gives-only : (bytes : List ℕ) (result : Result Script ScriptFault) → Gives content result (script_of bytes) → (script : Content) → IsScript bytes script → Gives content result (Ok script)
gives-only bytes result h script s = rw (script-read bytes script s) at h
