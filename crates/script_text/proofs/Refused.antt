-- The fault that is found is the first.
use Rattle.std.proofs.Common.{rules, tests, ◌≡◌, ℕ, suc, ◌+◌, ◌<◌, ◌≤◌, true, false, List, [], ◌∷◌, ◌++◌, length, Option, Some, None, Result, Ok, Err, ◌⊎◌, inl, inr, refl, sym, ap, ◌∙◌, arith}
use Rattle.std.specs.Prelude.{◌==◌, nat_lt, option_to_list}
use Rattle.std.proofs.lemmas.Bool.{cases_Bool}
use Rattle.std.proofs.lemmas.List.Sums.{sum_by-cons}
use Rattle.script_text.proofs.SoundLines.{total_with-ok, total_with-none, within_limit-ok}
use Rattle.text_lines.proofs.Steps.{lt-true}
use Rattle.script_text.specs.Faults.{FirstLineIsAtFault, IsAtFault, LineFaultsAreFirst, is_pass, line_fault, verb_fault, wrong_count}
use Rattle.script_text.specs.Order.{amount}
use Rattle.script_text.specs.Script.{amount_of, has_third, line_of, lines_of, order_of, pass_of, third_of, total_with, verb_line, verb_of, within_limit}
use Rattle.text_lines.specs.Steps.{◌>>=◌, fault_in}
use Rattle.script_text.specs.Sound.{total_amount}
use Rattle.text_lines.specs.Text.{is_amount, number, words}
use Rattle.script_text.specs.declared.orders.Verb.{Verb}
use Rattle.script_text.specs.declared.orders.Verb.TheVariants as verb
use Rattle.text_lines.specs.declared.pieces.TheConstants.{MOST_NUMBER}
use Rattle.script_text.specs.declared.reading.TheConstants.{MOST_LINES}
use Rattle.script_text.specs.declared.scripts.ScriptFault.{ScriptFault}
use Rattle.script_text.specs.declared.scripts.ScriptFault.TheVariants as fault
use Rattle.script_text.specs.declared.scripts.ScriptLine.{ScriptLine}

-- a word is a pass and is read, or it is none and is refused
abbrev PassCases : ℕ → ℕ → List ℕ → Type 0
PassCases passes at word =
    ((q : ℕ) × (pass_of passes at (Some word) ≡ Ok q) × (is_pass passes word ≡ true))
    ⊎ ((pass_of passes at (Some word) ≡ Err (fault.Pass at)) × (is_pass passes word ≡ false))

pass-by : (passes at : ℕ) (word : List ℕ) (o : Option ℕ) → number word ≡ o → PassCases passes at word
unfolding pass_of
pass-by passes at word None is = inr (rw is refl, rw is refl)
pass-by passes at word (Some n) is =
    elim (cases_Bool (nat_lt n passes)) [ inl below ↦ inl (n, rw (is, below) refl, rw (is, below) refl) | inr above ↦ inr (rw (is, above) refl, rw (is, above) refl) ]

pass-cases : (passes at : ℕ) (word : List ℕ) → PassCases passes at word
pass-cases passes at word = pass-by passes at word (number word) refl

-- a word is an amount and is read, or it is none and is refused
abbrev AmountCases : ℕ → List ℕ → Type 0
AmountCases at word =
    ((n : ℕ) × (amount_of at (Some word) ≡ Ok n) × (is_amount word ≡ true))
    ⊎ ((amount_of at (Some word) ≡ Err (fault.Amount at)) × (is_amount word ≡ false))

amount-by : (at : ℕ) (word : List ℕ) (o : Option ℕ) → number word ≡ o → AmountCases at word
unfolding amount_of
amount-by at word None is = inr (rw is refl, rw is refl)
amount-by at word (Some n) is =
    elim (cases_Bool (nat_lt 0 n)) [ inl least ↦ inl (n, rw (is, least) refl, rw (is, least) refl) | inr none ↦ inr (rw (is, none) refl, rw (is, none) refl) ]

amount-cases : (at : ℕ) (word : List ℕ) → AmountCases at word
amount-cases at word = amount-by at word (number word) refl

-- verbs with an amount
add-fault : (passes at : ℕ) (pass word : List ℕ) → fault_in (verb_line passes at pass (Some verb.Add) (word ∷ [])) ≡ verb_fault passes at pass (Some verb.Add) (word ∷ [])
unfolding verb_line third_of order_of
add-fault passes at pass word =
    elim (pass-cases passes at pass) [
      | inr p ↦ rw (p.0, p.1) refl
      | inl p ↦ rw (p.1, p.2) (elim (amount-cases at word) [ inl a ↦ rw (a.1, a.2) refl | inr a ↦ rw (a.0, a.1) refl ])
    ]

sub-fault : (passes at : ℕ) (pass word : List ℕ) → fault_in (verb_line passes at pass (Some verb.Sub) (word ∷ [])) ≡ verb_fault passes at pass (Some verb.Sub) (word ∷ [])
unfolding verb_line third_of order_of
sub-fault passes at pass word =
    elim (pass-cases passes at pass) [
      | inr p ↦ rw (p.0, p.1) refl
      | inl p ↦ rw (p.1, p.2) (elim (amount-cases at word) [ inl a ↦ rw (a.1, a.2) refl | inr a ↦ rw (a.0, a.1) refl ])
    ]

direct-fault : (passes at : ℕ) (pass word : List ℕ) → fault_in (verb_line passes at pass (Some verb.Direct) (word ∷ [])) ≡ verb_fault passes at pass (Some verb.Direct) (word ∷ [])
unfolding verb_line third_of order_of
direct-fault passes at pass word =
    elim (pass-cases passes at pass) [
      | inr p ↦ rw (p.0, p.1) refl
      | inl p ↦ rw (p.1, p.2) (elim (amount-cases at word) [ inl a ↦ rw (a.1, a.2) refl | inr a ↦ rw (a.0, a.1) refl ])
    ]

subdirect-fault : (passes at : ℕ) (pass word : List ℕ) → fault_in (verb_line passes at pass (Some verb.SubDirect) (word ∷ [])) ≡ verb_fault passes at pass (Some verb.SubDirect) (word ∷ [])
unfolding verb_line third_of order_of
subdirect-fault passes at pass word =
    elim (pass-cases passes at pass) [
      | inr p ↦ rw (p.0, p.1) refl
      | inl p ↦ rw (p.1, p.2) (elim (amount-cases at word) [ inl a ↦ rw (a.1, a.2) refl | inr a ↦ rw (a.0, a.1) refl ])
    ]

meet-fault : (passes at : ℕ) (pass word : List ℕ) → fault_in (verb_line passes at pass (Some verb.Meet) (word ∷ [])) ≡ verb_fault passes at pass (Some verb.Meet) (word ∷ [])
unfolding verb_line third_of order_of
meet-fault passes at pass word =
    elim (pass-cases passes at pass) [
      | inr p ↦ rw (p.0, p.1) refl
      | inl p ↦ rw (p.1, p.2) (elim (pass-cases passes at word) [ inl a ↦ rw (a.1, a.2) refl | inr a ↦ rw (a.0, a.1) refl ])
    ]

-- verbs without a third word
plain-fault : (passes at : ℕ) (pass : List ℕ) (v : Verb) → has_third v ≡ false → fault_in (verb_line passes at pass (Some v) []) ≡ verb_fault passes at pass (Some v) []
unfolding verb_line third_of order_of
plain-fault passes at pass verb.Read none = elim (pass-cases passes at pass) [ inr p ↦ rw (p.0, p.1) refl | inl p ↦ rw (p.1, p.2) refl ]
plain-fault passes at pass verb.Step none = elim (pass-cases passes at pass) [ inr p ↦ rw (p.0, p.1) refl | inl p ↦ rw (p.1, p.2) refl ]
plain-fault passes at pass verb.Poll none = elim (pass-cases passes at pass) [ inr p ↦ rw (p.0, p.1) refl | inl p ↦ rw (p.1, p.2) refl ]
plain-fault passes at pass verb.Add none = cc
plain-fault passes at pass verb.Sub none = cc
plain-fault passes at pass verb.Direct none = cc
plain-fault passes at pass verb.SubDirect none = cc
plain-fault passes at pass verb.Meet none = cc

-- too few or too many words
more-than_one : (word next : List ℕ) (more : List (List ℕ)) (n : ℕ) → n ≤ 1 → (length (word ∷ next ∷ more) == n) ≡ false
more-than_one word next more n small = search (rules, tests)

third-fault : (passes at : ℕ) (pass : List ℕ) (v : Verb) (more : List (List ℕ)) → third_of at v more ≡ Err (fault.Fields at) → wrong_count (Some v) more ≡ true
    → fault_in (verb_line passes at pass (Some v) more) ≡ verb_fault passes at pass (Some v) more
unfolding verb_line
third-fault passes at pass v more refused wrong = rw (refused, wrong) refl

third_of-many : (at : ℕ) (v : Verb) (word next : List ℕ) (more : List (List ℕ)) → third_of at v (word ∷ next ∷ more) ≡ Err (fault.Fields at)
unfolding third_of
third_of-many at v word next more = elim (cases_Bool (has_third v)) [ inl is ↦ rw is refl | inr none ↦ rw none refl ]

wrong-many : (v : Verb) (word next : List ℕ) (more : List (List ℕ)) → wrong_count (Some v) (word ∷ next ∷ more) ≡ true
wrong-many v word next more =
    elim (cases_Bool (has_third v)) [ inl is ↦ rw (is, more-than_one word next more 1 (omega arith)) refl | inr none ↦ rw (none, more-than_one word next more 0 (omega arith)) refl ]

many-fault : (passes at : ℕ) (pass : List ℕ) (v : Verb) (word next : List ℕ) (more : List (List ℕ))
    → fault_in (verb_line passes at pass (Some v) (word ∷ next ∷ more)) ≡ verb_fault passes at pass (Some v) (word ∷ next ∷ more)
many-fault passes at pass v word next more = third-fault passes at pass v (word ∷ next ∷ more) (third_of-many at v word next more) (wrong-many v word next more)

-- the first fault of a line with a verb
verb-fault : (passes at : ℕ) (pass : List ℕ) (v : Option Verb) (more : List (List ℕ)) → fault_in (verb_line passes at pass v more) ≡ verb_fault passes at pass v more
unfolding verb_line third_of
verb-fault passes at pass None more = elim (pass-cases passes at pass) [ inr p ↦ rw (p.0, p.1) refl | inl p ↦ rw (p.1, p.2) refl ]
verb-fault passes at pass (Some v) (word ∷ next ∷ more) = many-fault passes at pass v word next more
verb-fault passes at pass (Some verb.Add) [] = refl
verb-fault passes at pass (Some verb.Sub) [] = refl
verb-fault passes at pass (Some verb.Direct) [] = refl
verb-fault passes at pass (Some verb.SubDirect) [] = refl
verb-fault passes at pass (Some verb.Meet) [] = refl
verb-fault passes at pass (Some verb.Read) [] = plain-fault passes at pass verb.Read refl
verb-fault passes at pass (Some verb.Step) [] = plain-fault passes at pass verb.Step refl
verb-fault passes at pass (Some verb.Poll) [] = plain-fault passes at pass verb.Poll refl
verb-fault passes at pass (Some verb.Add) (word ∷ []) = add-fault passes at pass word
verb-fault passes at pass (Some verb.Sub) (word ∷ []) = sub-fault passes at pass word
verb-fault passes at pass (Some verb.Direct) (word ∷ []) = direct-fault passes at pass word
verb-fault passes at pass (Some verb.SubDirect) (word ∷ []) = subdirect-fault passes at pass word
verb-fault passes at pass (Some verb.Meet) (word ∷ []) = meet-fault passes at pass word
verb-fault passes at pass (Some verb.Read) (word ∷ []) = refl
verb-fault passes at pass (Some verb.Step) (word ∷ []) = refl
verb-fault passes at pass (Some verb.Poll) (word ∷ []) = refl

pub line_faults-first : LineFaultsAreFirst
unfolding line_of
line_faults-first passes at [] = refl
line_faults-first passes at (pass ∷ []) = refl
line_faults-first passes at (pass ∷ name ∷ more) = verb-fault passes at pass (verb_of name) more

-- a reading that was refused was so in its first part or in the rest
pub bind_err : {A B : Type 0} (r : Result A ScriptFault) (f : A → Result B ScriptFault) (e : ScriptFault) → (r >>= f) ≡ Err e
    → (r ≡ Err e) ⊎ ((x : A) × (r ≡ Ok x) × (f x ≡ Err e))
bind_err (Ok x) f e h = inr (x, refl, h)
bind_err (Err d) f e h = inl cc

-- the place and the total of a fault, written in another way
at-place : (passes at total place sum : ℕ) (line : List ℕ) (found : ScriptFault) → place ≡ at → sum ≡ total
    → IsAtFault passes at total line found → IsAtFault passes place sum line found
at-place passes at total place sum line found p s h = rw (p, s) h

pub within_limit-err : (at : ℕ) (found : ScriptFault) → within_limit at ≡ Err found → (MOST_LINES < at) × (found ≡ fault.TooMany at)
unfolding within_limit
within_limit-err at found h =
    elim (cases_Bool (nat_lt MOST_LINES at)) [
      | inl past ↦ (lt-true MOST_LINES at past, (let e = rw past at h in cc))
      | inr within ↦ absurd (let e = rw within at h in cc)
    ]

pub total_with-err : (at total : ℕ) (item : ScriptLine) (found : ScriptFault) → total_with at total (Some item) ≡ Err found
    → (MOST_NUMBER < total + amount item.order) × (found ≡ fault.Total at)
unfolding total_with
total_with-err at total item found h =
    elim (cases_Bool (nat_lt MOST_NUMBER (total + amount item.order))) [
      | inl above ↦ (lt-true MOST_NUMBER (total + amount item.order) above, (let e = rw above at h in cc))
      | inr below ↦ absurd (let e = rw below at h in cc)
    ]

total_with-none_ok : (at total : ℕ) (found : ScriptFault) → total_with at total None ≡ Err found → ⊥
unfolding total_with
total_with-none_ok at total found h = cc

total-fault : (passes at total : ℕ) (line : List ℕ) (read : Option ScriptLine) (found : ScriptFault) → line_of passes at (words line) ≡ Ok read → at ≤ MOST_LINES
    → total_with at total read ≡ Err found → IsAtFault passes at total line found
total-fault passes at total line None found was within h = absurd (total_with-none_ok at total found h)
total-fault passes at total line (Some item) found was within h =
    let above = total_with-err at total item found h in
    let reached = above.0 in
    inr (inr (item, was, within, omega arith, above.1))

-- what the lines so far come to with one more
total-after : (at total sum : ℕ) (read : Option ScriptLine) (items : List ScriptLine) → total_with at total read ≡ Ok sum
    → total + total_amount (option_to_list read ++ items) ≡ sum + total_amount items
total-after at total sum None items h = let same = total_with-none at total sum h in rw same refl
total-after at total sum (Some item) items h =
    let same = total_with-ok at total sum item h in
    let all = sum_by-cons (λ (l : ScriptLine). amount l.order) item items in
    rw (same, all) (omega arith)

lines_of-one : (passes at total : ℕ) (line : List ℕ) (rest : List (List ℕ)) (read : Option ScriptLine) (u : Unit {0}) (sum : ℕ) (more : List ScriptLine)
    → line_of passes at (words line) ≡ Ok read → within_limit at ≡ Ok u → total_with at total read ≡ Ok sum → lines_of passes (at + 1) sum rest ≡ Ok more
    → lines_of passes at total (line ∷ rest) ≡ Ok (option_to_list read ++ more)
unfolding lines_of
lines_of-one passes at total line rest read u sum more was limit counted after = rw (was, limit, counted, after) refl

lines_of-nothing : (passes at total : ℕ) → lines_of passes at total [] ≡ Ok []
unfolding lines_of
lines_of-nothing passes at total = refl

-- where lines are refused
abbrev StopsAt : ℕ → ℕ → ℕ → List (List ℕ) → ScriptFault → Type 0
StopsAt passes at total text found =
    (front : List (List ℕ)) × (line : List ℕ) × (rest : List (List ℕ)) × (items : List ScriptLine) × (text ≡ front ++ line ∷ rest)
    × (lines_of passes at total front ≡ Ok items) × IsAtFault passes (at + length front) (total + total_amount items) line found

stops-here : (passes at total : ℕ) (line : List ℕ) (rest : List (List ℕ)) (found : ScriptFault) → IsAtFault passes at total line found → StopsAt passes at total (line ∷ rest) found
stops-here passes at total line rest found h =
    ([], line, rest, [], refl, lines_of-nothing passes at total, at-place passes at total (at + 0) (total + 0) line found (omega arith) (omega arith) h)

stops-later : (passes at total : ℕ) (line : List ℕ) (rest : List (List ℕ)) (read : Option ScriptLine) (u : Unit {0}) (sum : ℕ) (found : ScriptFault)
    → line_of passes at (words line) ≡ Ok read → within_limit at ≡ Ok u → total_with at total read ≡ Ok sum
    → StopsAt passes (at + 1) sum rest found → StopsAt passes at total (line ∷ rest) found
stops-later passes at total line rest read u sum found was limit counted s = (
  line ∷ s.0,
  s.1,
  s.2,
  option_to_list read ++ s.3,
  ap (λ (text : List (List ℕ)). line ∷ text) s.4,
  lines_of-one passes at total line s.0 read u sum s.3 was limit counted s.5,
  at-place passes (at + 1 + length s.0) (sum + total_amount s.3) (at + suc (length s.0)) (total + total_amount (option_to_list read ++ s.3)) s.1 found (omega arith) (total-after at total sum read s.3 counted) s.6,
)

own-fault : (passes at : ℕ) (line : List ℕ) (found : ScriptFault) → line_of passes at (words line) ≡ Err found → line_fault passes at (words line) ≡ Some found
own-fault passes at line found was = sym (line_faults-first passes at (words line)) ∙ ap fault_in was

no-fault : (passes at : ℕ) (line : List ℕ) (read : Option ScriptLine) → line_of passes at (words line) ≡ Ok read → line_fault passes at (words line) ≡ None
no-fault passes at line read was = sym (line_faults-first passes at (words line)) ∙ ap fault_in was

pub first_line-at_fault : FirstLineIsAtFault
unfolding lines_of
first_line-at_fault passes at total [] found h = cc
first_line-at_fault passes at total (line ∷ rest) found h =
    elim (bind_err (line_of passes at (words line)) _ found h) [
      | inl own ↦ stops-here passes at total line rest found (inl (own-fault passes at line found own))
      | inr read ↦ elim (bind_err (within_limit at) _ found read.2) [
        | inl past ↦ (let limit = within_limit-err at found past in
            stops-here passes at total line rest found (inr (inl (no-fault passes at line read.0 read.1, limit.0, limit.1))))
        | inr limit ↦ elim (bind_err (total_with at total read.0) _ found limit.2) [
          | inl reached ↦ stops-here passes at total line rest found (total-fault passes at total line read.0 found read.1 (within_limit-ok at limit.0 limit.1) reached)
          | inr sum ↦ elim (bind_err (lines_of passes (at + 1) sum.0 rest) _ found sum.2) [
            | inl later ↦ stops-later passes at total line rest read.0 limit.0 sum.0 found read.1 limit.1 sum.1 (first_line-at_fault passes (at + 1) sum.0 rest found later)
            | inr more ↦ absurd (let no = more.2 in cc)
          ]
        ]
      ]
    ]
