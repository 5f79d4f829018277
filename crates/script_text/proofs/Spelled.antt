-- What is read is spelled so, and what is spelled so is read.
use Rattle.std.proofs.Common.{rules, tests, ◌≡◌, ℕ, ◌<◌, ◌≤◌, Bool, true, false, List, [], ◌∷◌, Option, Some, None, Ok, ◌⊎◌, inl, inr, refl, ap, ◌∙◌}
use Rattle.std.specs.Prelude.{nat_lt, option_and_then, if◌then◌else◌, codes}
use Rattle.std.specs.Str.{bytes_eq}
use Rattle.std.proofs.lemmas.Slice.Eq.{bytes_eq-Decides}
use Rattle.text_lines.proofs.Steps.{bind_ok, guard_ok, required_ok, lt-true}
use Rattle.script_text.specs.Grammar.{SpellsAmount, SpellsLine, SpellsOrder}
use Rattle.script_text.specs.Script.{amount_of, line_of, no_third, one_third, order_of, pass_of, spelling, third_of, verb_line, verb_of, verbs}
use Rattle.text_lines.specs.Steps.{◌>>=◌, required}
use Rattle.text_lines.specs.Text.{number, spelled_as}
use Rattle.script_text.specs.declared.orders.Verb.{Verb}
use Rattle.script_text.specs.declared.orders.Verb.TheVariants as verb
use Rattle.script_text.specs.declared.scripts.Order.{Order}
use Rattle.script_text.specs.declared.scripts.Order.TheVariants as order
use Rattle.script_text.specs.declared.scripts.ScriptFault.TheVariants as fault
use Rattle.script_text.specs.declared.scripts.ScriptLine.{ScriptLine}

-- a verb that was found is written as the word
took : (b : Bool) (v w : Verb) (rest : Option Verb) → (if b then Some v else rest) ≡ Some w → ((b ≡ true) × (v ≡ w)) ⊎ (rest ≡ Some w)
took true v w rest h = inl (refl, cc)
took false v w rest h = inr h

spelled_as-is : (name : List ℕ) (others : List Verb) (w : Verb) → spelled_as spelling name others ≡ Some w → name ≡ spelling w
spelled_as-is name [] w h = cc
spelled_as-is name (v ∷ others) w h =
    elim (took (bytes_eq name (spelling v)) v w (spelled_as spelling name others) h) [
      | inl t ↦ (bytes_eq-Decides name (spelling v)).0 t.0 ∙ ap spelling t.1
      | inr later ↦ spelled_as-is name others w later
    ]

verb_of-is : (name : List ℕ) (w : Verb) → verb_of name ≡ Some w → name ≡ spelling w
unfolding verb_of
verb_of-is name w h = spelled_as-is name verbs w h

-- each verb is found
verb_of-spelling : (v : Verb) → verb_of (spelling v) ≡ Some v
unfolding verb_of
verb_of-spelling verb.Add = refl
verb_of-spelling verb.Sub = refl
verb_of-spelling verb.Direct = refl
verb_of-spelling verb.SubDirect = refl
verb_of-spelling verb.Read = refl
verb_of-spelling verb.Step = refl
verb_of-spelling verb.Poll = refl
verb_of-spelling verb.Meet = refl

-- a pass and an amount, both ways
pass_of-is : (passes at : ℕ) (word : Option (List ℕ)) (q : ℕ) → pass_of passes at word ≡ Ok q → (option_and_then number word ≡ Some q) × (q < passes)
unfolding pass_of
pass_of-is passes at word q h =
    let was = bind_ok (required (fault.Pass at) (option_and_then number word)) _ q h in
    let found = required_ok (fault.Pass at) (option_and_then number word) was.0 was.1 in
    let below = guard_ok (nat_lt was.0 passes) was.0 q (fault.Pass at) was.2 in
    let less = lt-true was.0 passes below.0 in
    rw (← below.1) (found, less)

pub true-lt : (m n : ℕ) → m < n → nat_lt m n ≡ true
true-lt m n h = search (rules, tests)

pass_of-from : (passes at : ℕ) (word : List ℕ) (q : ℕ) → number word ≡ Some q → q < passes → pass_of passes at (Some word) ≡ Ok q
unfolding pass_of
pass_of-from passes at word q is below = rw (is, true-lt q passes below) refl

amount_of-is : (at : ℕ) (word : Option (List ℕ)) (n : ℕ) → amount_of at word ≡ Ok n → (option_and_then number word ≡ Some n) × (1 ≤ n)
unfolding amount_of
amount_of-is at word n h =
    let was = bind_ok (required (fault.Amount at) (option_and_then number word)) _ n h in
    let found = required_ok (fault.Amount at) (option_and_then number word) was.0 was.1 in
    let below = guard_ok (nat_lt 0 was.0) was.0 n (fault.Amount at) was.2 in
    let less = lt-true 0 was.0 below.0 in
    rw (← below.1) (found, less)

amount_of-from : (at : ℕ) (word : List ℕ) (n : ℕ) → number word ≡ Some n → 1 ≤ n → amount_of at (Some word) ≡ Ok n
unfolding amount_of
amount_of-from at word n is least = rw (is, true-lt 0 n least) refl

-- the third word of a line, where there is one
one_third-is : (at : ℕ) (more : List (List ℕ)) (third : Option (List ℕ)) → one_third at more ≡ Ok third → (word : List ℕ) × (more ≡ word ∷ []) × (third ≡ Some word)
one_third-is at [] third h = cc
one_third-is at (word ∷ []) third h = (word, refl, cc)
one_third-is at (word ∷ next ∷ more) third h = cc

no_third-is : (at : ℕ) (more : List (List ℕ)) (third : Option (List ℕ)) → no_third at more ≡ Ok third → more ≡ []
no_third-is at [] third h = refl
no_third-is at (word ∷ more) third h = cc

number-at : (third : Option (List ℕ)) (word : List ℕ) (n : ℕ) → third ≡ Some word → option_and_then number third ≡ Some n → number word ≡ Some n
number-at third word n is found = rw is at found

-- an order that was read is spelled so
amount-is : (passes at : ℕ) (name : List ℕ) (more : List (List ℕ)) (third : Option (List ℕ)) (o : Order) (make : ℕ → Order)
    → ((n : ℕ) → SpellsAmount name n (name ∷ more) → SpellsOrder passes (make n) (name ∷ more))
    → one_third at more ≡ Ok third → (amount_of at third >>= λ n. Ok (make n)) ≡ Ok o → SpellsOrder passes o (name ∷ more)
amount-is passes at name more third o make spells one h =
    let word = one_third-is at more third one in
    let was = bind_ok (amount_of at third) (λ n. Ok (make n)) o h in
    let found = amount_of-is at third was.0 was.1 in
    let read = number-at third word.0 was.0 word.2 found.0 in
    let same : make was.0 ≡ o = (let made = was.2 in cc) in
    rw (← same) (spells was.0 (word.0, ap (λ (m : List (List ℕ)). name ∷ m) word.1, read, found.1))

order_of-is : (passes at : ℕ) (v : Verb) (more : List (List ℕ)) (third : Option (List ℕ)) (o : Order)
    → third_of at v more ≡ Ok third → order_of passes at v third ≡ Ok o → SpellsOrder passes o (spelling v ∷ more)
unfolding third_of order_of
order_of-is passes at verb.Add more third o one h = amount-is passes at (codes "add") more third o order.Add (λ n s. s) one h
order_of-is passes at verb.Sub more third o one h = amount-is passes at (codes "sub") more third o order.Sub (λ n s. s) one h
order_of-is passes at verb.Direct more third o one h = amount-is passes at (codes "direct") more third o order.Direct (λ n s. s) one h
order_of-is passes at verb.SubDirect more third o one h = amount-is passes at (codes "subdirect") more third o order.SubDirect (λ n s. s) one h
order_of-is passes at verb.Read more third o none h =
    let nothing = no_third-is at more third none in
    let same : order.Read ≡ o = cc in
    rw (← same) (rw nothing refl)
order_of-is passes at verb.Step more third o none h =
    let nothing = no_third-is at more third none in
    let same : order.Step ≡ o = cc in
    rw (← same) (rw nothing refl)
order_of-is passes at verb.Poll more third o none h =
    let nothing = no_third-is at more third none in
    let same : order.Poll ≡ o = cc in
    rw (← same) (rw nothing refl)
order_of-is passes at verb.Meet more third o one h =
    let word = one_third-is at more third one in
    let was = bind_ok (pass_of passes at third) (λ q. Ok (order.Meet q)) o h in
    let found = pass_of-is passes at third was.0 was.1 in
    let read = number-at third word.0 was.0 word.2 found.0 in
    let same : order.Meet was.0 ≡ o = (let made = was.2 in cc) in
    rw (← same) (word.0, ap (λ (m : List (List ℕ)). codes "meet" ∷ m) word.1, read, found.1)

verb_line-is : (passes at : ℕ) (pass : List ℕ) (v : Option Verb) (name : List ℕ) (more : List (List ℕ)) (line : ScriptLine)
    → ((w : Verb) → v ≡ Some w → name ≡ spelling w)
    → verb_line passes at pass v more ≡ Ok (Some line) → (line.at ≡ at) × SpellsLine passes line (pass ∷ name ∷ more)
unfolding verb_line
verb_line-is passes at pass None name more line spelled h =
    let was = bind_ok (pass_of passes at (Some pass)) _ (Some line) h in
    let no = was.2 in cc
verb_line-is passes at pass (Some v) name more line spelled h =
    let third = bind_ok (third_of at v more) _ (Some line) h in
    let p = bind_ok (pass_of passes at (Some pass)) _ (Some line) third.2 in
    let o = bind_ok (order_of passes at v third.0) _ (Some line) p.2 in
    let made = o.2 in
    let pass_is = pass_of-is passes at (Some pass) p.0 p.1 in
    let order_is = order_of-is passes at v more third.0 o.0 third.1 o.1 in
    let same : record { at = at; pass = p.0; order = o.0 } ≡ line = cc in
    rw (← same, spelled v refl) (refl, (pass, spelling v ∷ more, refl, pass_is.0, pass_is.1, order_is))

verb_line-some : (passes at : ℕ) (pass : List ℕ) (v : Option Verb) (more : List (List ℕ)) → verb_line passes at pass v more ≡ Ok None → ⊥
unfolding verb_line
verb_line-some passes at pass None more h =
    let was = bind_ok (pass_of passes at (Some pass)) _ None h in
    let no = was.2 in cc
verb_line-some passes at pass (Some v) more h =
    let third = bind_ok (third_of at v more) _ None h in
    let p = bind_ok (pass_of passes at (Some pass)) _ None third.2 in
    let o = bind_ok (order_of passes at v third.0) _ None p.2 in
    let no = o.2 in cc

-- a line that was read is spelled so
pub line_of-is : (passes at : ℕ) (all : List (List ℕ)) (line : ScriptLine) → line_of passes at all ≡ Ok (Some line)
    → (line.at ≡ at) × SpellsLine passes line all
unfolding line_of
line_of-is passes at [] line h = cc
line_of-is passes at (pass ∷ []) line h = cc
line_of-is passes at (pass ∷ name ∷ more) line h = verb_line-is passes at pass (verb_of name) name more line (λ w is. verb_of-is name w is) h

pub line_of-blank : (passes at : ℕ) (all : List (List ℕ)) → line_of passes at all ≡ Ok None → all ≡ []
unfolding line_of
line_of-blank passes at [] h = refl
line_of-blank passes at (pass ∷ []) h = cc
line_of-blank passes at (pass ∷ name ∷ more) h = absurd (verb_line-some passes at pass (verb_of name) more h)

-- a line that is spelled so is read
order-from : (passes at : ℕ) (pass : List ℕ) (p : ℕ) (o : Order) (more : List (List ℕ)) → number pass ≡ Some p → p < passes → SpellsOrder passes o more
    → line_of passes at (pass ∷ more) ≡ Ok (Some (record { at = at; pass = p; order = o }))
unfolding line_of verb_line third_of order_of
order-from passes at pass p (order.Add n) more is below s = rw (s.1, verb_of-spelling verb.Add) (rw (pass_of-from passes at pass p is below, amount_of-from at s.0 n s.2 s.3) refl)
order-from passes at pass p (order.Sub n) more is below s = rw (s.1, verb_of-spelling verb.Sub) (rw (pass_of-from passes at pass p is below, amount_of-from at s.0 n s.2 s.3) refl)
order-from passes at pass p (order.Direct n) more is below s = rw (s.1, verb_of-spelling verb.Direct) (rw (pass_of-from passes at pass p is below, amount_of-from at s.0 n s.2 s.3) refl)
order-from passes at pass p (order.SubDirect n) more is below s = rw (s.1, verb_of-spelling verb.SubDirect) (rw (pass_of-from passes at pass p is below, amount_of-from at s.0 n s.2 s.3) refl)
order-from passes at pass p order.Read more is below s = rw (s, verb_of-spelling verb.Read) (rw (pass_of-from passes at pass p is below) refl)
order-from passes at pass p order.Step more is below s = rw (s, verb_of-spelling verb.Step) (rw (pass_of-from passes at pass p is below) refl)
order-from passes at pass p order.Poll more is below s = rw (s, verb_of-spelling verb.Poll) (rw (pass_of-from passes at pass p is below) refl)
order-from passes at pass p (order.Meet q) more is below s = rw (s.1, verb_of-spelling verb.Meet) (rw (pass_of-from passes at pass p is below, pass_of-from passes at s.0 q s.2 s.3) refl)

pub line_of-from : (passes at : ℕ) (all : List (List ℕ)) (line : ScriptLine) → line.at ≡ at → SpellsLine passes line all → line_of passes at all ≡ Ok (Some line)
line_of-from passes at all line place s =
    rw s.2 (order-from passes at s.0 line.pass line.order s.1 s.3 s.4 s.5 ∙ rw (← place) refl)
