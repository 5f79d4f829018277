-- How the first line and the first word are cut from a text.
use Rattle.std.proofs.Common.{◌≡◌, ◌≢◌, ℕ, suc, ◌+◌, ◌-◌, ◌<◌, ◌≤◌, Bool, true, false, List, [], ◌∷◌, ◌++◌, length, take, drop, refl, sym, ap, ◌∙◌, arith, inl, inr}
use Rattle.std.proofs.Common.{length-drop, ne_eqb}
use Rattle.std.proofs.lemmas.List.{drop-drop, take_all, nil_from_length}
use Rattle.std.specs.Prelude.{◌==◌, ◌&&◌, if◌then◌else◌}
use Rattle.std.specs.List.{position_or_len, prefix_len}
use Rattle.std.proofs.lemmas.Bool.{cases_Bool}
use Rattle.text_lines.proofs.Steps.{both_hold}
use Rattle.text_lines.specs.Text.{lines, words, without_return, onto, at_newline}

first_fails : (x y : Bool) → (x && y) ≡ false → y ≡ true → x ≡ false
first_fails true true h holds = cc
first_fails true false h holds = cc
first_fails false y h holds = refl

-- one more byte before a cut
take-after : (b : ℕ) (text : List ℕ) (n : ℕ) → take (1 + n) (b ∷ text) ≡ b ∷ take n text
take-after b text n = let e : 1 + n ≡ suc n = omega arith in rw e refl

drop-after : (b : ℕ) (text : List ℕ) (n : ℕ) → drop (1 + n) (b ∷ text) ≡ drop n text
drop-after b text n = let e : 1 + n ≡ suc n = omega arith in rw e refl

drop-after_one : (b : ℕ) (text : List ℕ) (n : ℕ) → drop (1 + n + 1) (b ∷ text) ≡ drop (n + 1) text
drop-after_one b text n = let e : 1 + n + 1 ≡ suc (n + 1) = omega arith in rw e refl

onto-count : (b : ℕ) (pieces : List (List ℕ)) → length (onto b pieces) ≤ suc (length pieces)
onto-count b [] = omega arith
onto-count b (piece ∷ pieces) = omega arith

-- no text has more lines than bytes
pub lines-count : (text : List ℕ) → length (lines text) ≤ length text
unfolding lines
lines-count [] = omega arith
lines-count (b ∷ text) =
    let less = lines-count text in
    let more = onto-count b (lines text) in
    elim (cases_Bool (b == 10)) [
      | inl is ↦ rw is (omega arith)
      | inr other ↦ elim (cases_Bool ((b == 13) && at_newline text)) [
        | inl dropped ↦ rw (other, dropped) (omega arith)
        | inr kept ↦ rw (other, kept) (omega arith)
      ]
    ]

-- a line that ends in this byte
pub without_return-end : (front : List ℕ) (b : ℕ) → without_return (front ++ b ∷ []) ≡ (if b == 13 then front else (front ++ b ∷ []))
unfolding without_return
without_return-end [] b = refl
without_return-end (c ∷ []) b = elim (cases_Bool (b == 13)) [ inl is ↦ rw is refl | inr other ↦ rw other refl ]
without_return-end (c ∷ d ∷ front) b =
    let rest = without_return-end (d ∷ front) b in
    elim (cases_Bool (b == 13)) [ inl is ↦ rw is (ap (λ l. c ∷ l) (rw is at rest)) | inr other ↦ rw other (ap (λ l. c ∷ l) (rw other at rest)) ]

pub without_return-cut : (line front : List ℕ) (b : ℕ) → line ≡ front ++ b ∷ [] → b ≡ 13 → front ≡ without_return line
without_return-cut line front b is return = rw (is, return) (sym (without_return-end front 13))

pub without_return-kept : (line front : List ℕ) (b : ℕ) → line ≡ front ++ b ∷ [] → b ≢ 13 → line ≡ without_return line
without_return-kept line front b is other =
    let e = without_return-end front b in
    let differs : (b == 13) ≡ false = ne_eqb b 13 other in
    rw is (sym (rw differs at e))

-- a byte before a line that isn't empty, or that is none which a newline drops
without_return-after : (b : ℕ) (text : List ℕ) (n : ℕ) → n ≡ position_or_len (λ other. other == 10) text → n < length text
    → ((b == 13) && at_newline text) ≡ false → without_return (b ∷ take n text) ≡ b ∷ without_return (take n text)
unfolding without_return
without_return-after b [] n is within kept = absurd (omega arith)
without_return-after b (c ∷ text) n is within kept =
    elim (cases_Bool (c == 10)) [
      | inl newline ↦
          let none : n ≡ 0 = rw newline at is in
          let other : (b == 13) ≡ false = first_fails (b == 13) (c == 10) kept newline in
          rw (none, other) refl
      | inr byte ↦ rw (is, byte, take-after) refl
    ]

-- a carriage return before a newline, which stands in no line
without_return-dropped : (b : ℕ) (text : List ℕ) → ((b == 13) && at_newline text) ≡ true
    → without_return (b ∷ take (position_or_len (λ other. other == 10) text) text) ≡ without_return (take (position_or_len (λ other. other == 10) text) text)
unfolding without_return
without_return-dropped b [] dropped = let no = (both_hold (b == 13) false dropped).1 in cc
without_return-dropped b (c ∷ text) dropped =
    let both = both_hold (b == 13) (c == 10) dropped in
    rw both.1 (rw both.0 refl)

-- a line that ends with a newline
pub lines-newline : (text : List ℕ) → position_or_len (λ other. other == 10) text < length text
    → lines text ≡ without_return (take (position_or_len (λ other. other == 10) text) text) ∷ lines (drop (position_or_len (λ other. other == 10) text + 1) text)
unfolding lines without_return
lines-newline [] within = absurd (omega arith)
lines-newline (b ∷ text) within =
    elim (cases_Bool (b == 10)) [
      | inl is ↦ rw is refl
      | inr other ↦
          let m = position_or_len (λ (x : ℕ). x == 10) text in
          let later : m < length text = let w = rw other at within in omega arith in
          let rest = lines-newline text later in
          rw (other, take-after, drop-after_one) (elim (cases_Bool ((b == 13) && at_newline text)) [
            | inl dropped ↦ rw (dropped, without_return-dropped b text dropped) rest
            | inr kept ↦ rw (kept, without_return-after b text m refl later kept, rest) refl
          ])
    ]

-- a last line without a newline
pub lines-last : (text : List ℕ) → position_or_len (λ other. other == 10) text ≡ length text → text ≢ [] → lines text ≡ text ∷ []
unfolding lines
lines-last [] all more = absurd (more refl)
lines-last (b ∷ []) all more =
    elim (cases_Bool (b == 10)) [
      | inl is ↦ absurd (let none = rw is at all in omega arith)
      | inr other ↦ rw other (elim (cases_Bool (b == 13)) [ inl return ↦ rw return refl | inr byte ↦ rw byte refl ])
    ]
lines-last (b ∷ c ∷ text) all more =
    elim (cases_Bool (b == 10)) [
      | inl is ↦ absurd (let none = rw is at all in omega arith)
      | inr other ↦
          let later : position_or_len (λ (x : ℕ). x == 10) (c ∷ text) ≡ suc (length text) = let w = rw other at all in omega arith in
          elim (cases_Bool ((b == 13) && (c == 10))) [
            | inl dropped ↦ absurd (let none = rw (both_hold (b == 13) (c == 10) dropped).1 at later in omega arith)
            | inr kept ↦ rw (other, kept, lines-last (c ∷ text) later (λ (e : c ∷ text ≡ []). cc)) refl
          ]
    ]

-- skipping the spaces at the front skips no word
pub words-spaces : (text : List ℕ) → words (drop (prefix_len (λ byte. byte == 32) text) text) ≡ words text
unfolding words
words-spaces [] = refl
words-spaces (b ∷ text) =
    elim (cases_Bool (b == 32)) [
      | inl is ↦ rw (is, drop-after) (words-spaces text)
      | inr other ↦ rw other (rw other refl)
    ]

-- a letter before a space is a word, and before a letter it begins the next word
words-letter : (b c : ℕ) (text : List ℕ) → (b == 32) ≡ false → (c == 32) ≡ true → words (b ∷ c ∷ text) ≡ (b ∷ []) ∷ words (c ∷ text)
unfolding words
words-letter b c text letter space = rw (letter, space) refl

words-onto : (b c : ℕ) (text : List ℕ) → (b == 32) ≡ false → (c == 32) ≡ false → words (b ∷ c ∷ text) ≡ onto b (words (c ∷ text))
unfolding words
words-onto b c text letter next = rw (letter, next) refl

words-one : (b : ℕ) → (b == 32) ≡ false → words (b ∷ []) ≡ (b ∷ []) ∷ words []
unfolding words
words-one b letter = rw letter refl

-- the first word of a text that begins with a letter
words-from : (b : ℕ) (text : List ℕ) → (b == 32) ≡ false
    → words (b ∷ text) ≡ take (position_or_len (λ other. other == 32) (b ∷ text)) (b ∷ text) ∷ words (drop (position_or_len (λ other. other == 32) (b ∷ text)) (b ∷ text))
words-from b [] letter = rw letter (words-one b letter)
words-from b (c ∷ text) letter =
    elim (cases_Bool (c == 32)) [
      | inl space ↦ rw (letter, take-after, drop-after) (rw space (words-letter b c text letter space))
      | inr next ↦
          let rest = words-from c text next in
          rw (letter, take-after, drop-after) (words-onto b c text letter next ∙ rw rest refl)
    ]

-- where no space stands at the front, the first word does
pub words-word : (text : List ℕ) → prefix_len (λ byte. byte == 32) text ≡ 0 → text ≢ []
    → words text ≡ take (position_or_len (λ other. other == 32) text) text ∷ words (drop (position_or_len (λ other. other == 32) text) text)
words-word [] front more = absurd (more refl)
words-word (b ∷ text) front more =
    elim (cases_Bool (b == 32)) [ inl is ↦ absurd (let some_space = rw is at front in omega arith) | inr letter ↦ words-from b text letter ]

-- what stands after the spaces at the front begins with none
skipped-front : (text : List ℕ) → prefix_len (λ byte. byte == 32) (drop (prefix_len (λ byte. byte == 32) text) text) ≡ 0
skipped-front [] = refl
skipped-front (b ∷ text) =
    elim (cases_Bool (b == 32)) [
      | inl is ↦ rw (is, drop-after) (skipped-front text)
      | inr other ↦ rw other (rw other refl)
    ]

-- the first line of a text in which a newline stands
pub first-line : (text line rest : List ℕ) (n : ℕ) → n ≡ position_or_len (λ other. other == 10) text → line ≡ take n text → rest ≡ drop n text
    → 1 ≤ length rest → lines text ≡ without_return line ∷ lines (drop 1 rest)
first-line text line rest n is front back more =
    let within : n < length text = let l = rw back at more in omega (arith, length-drop n text) in
    rw (front, back, drop-drop 1 n text, is) (lines-newline text (rw is at within))

-- what stands after the first byte, as a slice
pub after-first : (rest : List ℕ) → take (length rest - 1) (drop 1 rest) ≡ drop 1 rest
after-first rest = take_all (length rest - 1) (drop 1 rest) (omega (arith, length-drop 1 rest))

-- the last line of a text in which no newline stands
pub last-line : (text line rest : List ℕ) (n : ℕ) → n ≡ position_or_len (λ other. other == 10) text → n ≤ length text → line ≡ take n text → rest ≡ drop n text
    → length rest < 1 → (length line ≡ 0 → lines text ≡ []) × (length line ≢ 0 → lines text ≡ line ∷ lines rest)
unfolding lines
last-line text line rest n is within front back none =
    let all : n ≡ length text = let l = rw back at none in omega (arith, length-drop n text) in
    let whole : line ≡ text = front ∙ take_all n text (omega arith) in
    let nothing : rest ≡ [] = nil_from_length rest (omega arith) in (
      λ (empty : length line ≡ 0). let no_text : text ≡ [] = nil_from_length text (rw whole at empty) in rw no_text refl,
      λ (more : length line ≢ 0). rw (whole, nothing) (lines-last text (sym is ∙ all) (λ (e : text ≡ []). more (rw (whole, e) refl))),
    )

word-of : (skipped word rest : List ℕ) (m : ℕ) → prefix_len (λ byte. byte == 32) skipped ≡ 0
    → m ≡ position_or_len (λ other. other == 32) skipped → word ≡ take m skipped → rest ≡ drop m skipped
    → (length word ≡ 0 → words skipped ≡ []) × (length word ≢ 0 → words skipped ≡ word ∷ words rest)
unfolding words
word-of [] word rest m none is front back =
    let empty : word ≡ [] = front ∙ rw is refl in
    (λ (_ : length word ≡ 0). refl, λ (more : length word ≢ 0). absurd (more (rw empty refl)))
word-of (b ∷ text) word rest m none is front back =
    elim (cases_Bool (b == 32)) [
      | inl space ↦ absurd (let some_space = rw space at none in omega arith)
      | inr letter ↦
          let long : word ≡ b ∷ take (position_or_len (λ (x : ℕ). x == 32) text) text = front ∙ rw (is, letter, take-after) refl in (
            λ (empty : length word ≡ 0). absurd (let l = rw long at empty in omega arith),
            λ (_ : length word ≢ 0). rw (front, back, is) (words-word (b ∷ text) none (λ (e : b ∷ text ≡ []). cc)),
          )
    ]

-- the first word of a line, if there is one
pub first-word : (text skipped word rest : List ℕ) (n m : ℕ) → n ≡ prefix_len (λ byte. byte == 32) text → skipped ≡ drop n text
    → m ≡ position_or_len (λ other. other == 32) skipped → word ≡ take m skipped → rest ≡ drop m skipped
    → (length word ≡ 0 → words text ≡ []) × (length word ≢ 0 → words text ≡ word ∷ words rest)
first-word text skipped word rest n m spaces after is front back =
    let same : words skipped ≡ words text = rw (after, spaces) (words-spaces text) in
    let none_front : prefix_len (λ (x : ℕ). x == 32) skipped ≡ 0 = rw (after, spaces) (skipped-front text) in
    rw (← same) (word-of skipped word rest m none_front is front back)
