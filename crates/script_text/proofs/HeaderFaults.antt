-- The fault of a first line with words, both ways.
use Rattle.std.proofs.Common.{◌≡◌, ℕ, Bool, true, false, List, [], ◌∷◌, map, Option, Some, None, Result, Ok, Err, ◌⊎◌, inl, inr, refl, sym, ap, ◌∙◌}
use Rattle.std.specs.Prelude.{if◌then◌else◌, codes}
use Rattle.std.specs.Str.{bytes_eq}
use Rattle.fn_layout.specs.Shape.{first_fault}
use Rattle.fn_layout.specs.declared.shape.ShapeFault.{ShapeFault}
use Rattle.script_text.proofs.Refused.{bind_err}
use Rattle.script_text.proofs.Whole.{after_funnel-from, after_funnel-is, chain, header_of-is, next_number-from, next_number-is, no_more-is}
use Rattle.script_text.specs.Grammar.{SpellsHeader}
use Rattle.script_text.specs.Script.{Header, after_funnel, capped, header_of, header_or, next_number, no_more, shaped}
use Rattle.text_lines.specs.Steps.{required}
use Rattle.text_lines.specs.Text.{number}
use Rattle.script_text.specs.WholeFaults.{HasNumbers, IsHeaderFault}
use Rattle.script_text.specs.declared.scripts.ScriptFault.{ScriptFault}
use Rattle.script_text.specs.declared.scripts.ScriptFault.TheVariants as fault

-- five words that are numbers
record AreFive (five : List (List ℕ)) (p l v r o : ℕ) : Type 0 where
  pub a : List ℕ
  pub b : List ℕ
  pub c : List ℕ
  pub d : List ℕ
  pub e : List ℕ
  pub are : five ≡ a ∷ b ∷ c ∷ d ∷ e ∷ []
  pub a_is : number a ≡ Some p
  pub b_is : number b ≡ Some l
  pub c_is : number c ≡ Some v
  pub d_is : number d ≡ Some r
  pub e_is : number e ≡ Some o

five-words : (five : List (List ℕ)) (p l v r o : ℕ) → map number five ≡ Some p ∷ Some l ∷ Some v ∷ Some r ∷ Some o ∷ [] → AreFive five p l v r o
five-words [] p l v r o h = cc
five-words (a ∷ []) p l v r o h = cc
five-words (a ∷ b ∷ []) p l v r o h = cc
five-words (a ∷ b ∷ c ∷ []) p l v r o h = cc
five-words (a ∷ b ∷ c ∷ d ∷ []) p l v r o h = cc
five-words (a ∷ b ∷ c ∷ d ∷ e ∷ []) p l v r o h = record { a = a; b = b; c = c; d = d; e = e; are = refl; a_is = cc; b_is = cc; c_is = cc; d_is = cc; e_is = cc }
five-words (a ∷ b ∷ c ∷ d ∷ e ∷ f ∷ more) p l v r o h = cc

-- a first line with its numbers is read as far as its shape
header_of-numbers : (at : ℕ) (all : List (List ℕ)) (p l v r o : ℕ) → HasNumbers all p l v r o → header_of at all ≡ shaped (capped p) (capped l) (capped v) (capped r) o
unfolding header_of no_more
header_of-numbers at all p l v r o h =
    let f = five-words h.0 p l v r o h.2 in
    let is : all ≡ codes "funnel" ∷ f.a ∷ f.b ∷ f.c ∷ f.d ∷ f.e ∷ [] = h.1 ∙ ap (λ (more : List (List ℕ)). codes "funnel" ∷ more) f.are in
    rw (is, after_funnel-from) (rw (next_number-from at f.a _ p f.a_is, next_number-from at f.b _ l f.b_is, next_number-from at f.c _ v f.c_is, next_number-from at f.d _ r f.d_is, next_number-from at f.e _ o f.e_is) refl)

-- how each step of a first line fails
else-err : {A : Type 0} (b : Bool) (x : A) (e found : ScriptFault) → (if b then Ok x else Err e) ≡ Err found → found ≡ e
else-err true x e found h = cc
else-err false x e found h = cc

required-err : {A : Type 0} (e found : ScriptFault) (o : Option A) → required e o ≡ Err found → found ≡ e
required-err e found None h = cc
required-err e found (Some x) h = cc

after_funnel-err : (at : ℕ) (all : List (List ℕ)) (found : ScriptFault) → after_funnel at all ≡ Err found → found ≡ fault.Header at
unfolding after_funnel
after_funnel-err at [] found h = cc
after_funnel-err at (name ∷ more) found h = else-err (bytes_eq name (codes "funnel")) more (fault.Header at) found h

next_number-err : (at : ℕ) (all : List (List ℕ)) (found : ScriptFault) → next_number at all ≡ Err found → found ≡ fault.Header at
unfolding next_number
next_number-err at [] found h = cc
next_number-err at (word ∷ more) found h =
    elim (bind_err (required (fault.Header at) (number word)) (λ n. Ok (n, more)) found h) [
      | inl none ↦ required-err (fault.Header at) found (number word) none
      | inr some_number ↦ absurd (let no = some_number.2 in cc)
    ]

no_more-err : (at : ℕ) (all : List (List ℕ)) (found : ScriptFault) → no_more at all ≡ Err found → found ≡ fault.Header at
unfolding no_more
no_more-err at [] found h = cc
no_more-err at (word ∷ more) found h = cc

header_or-err : (o : Option ShapeFault) (numbers : Header) (found : ScriptFault) → header_or o numbers ≡ Err found → (why : ShapeFault) × (o ≡ Some why) × (found ≡ fault.Shape why)
header_or-err None numbers found h = cc
header_or-err (Some why) numbers found h = (why, refl, cc)

-- a shape's fault
abbrev NoShape : ℕ → ℕ → ℕ → ℕ → ScriptFault → Type 0
NoShape p l v r found = (why : ShapeFault) × (first_fault (capped p) (capped l) (capped v) (capped r) ≡ Some why) × (found ≡ fault.Shape why)

shaped-err : (p l v r o : ℕ) (found : ScriptFault) → shaped (capped p) (capped l) (capped v) (capped r) o ≡ Err found → NoShape p l v r found
unfolding shaped
shaped-err p l v r o found h = header_or-err (first_fault (capped p) (capped l) (capped v) (capped r)) _ found h

shaped-refused : (p l v r o : ℕ) (found : ScriptFault) → NoShape p l v r found → shaped (capped p) (capped l) (capped v) (capped r) o ≡ Err found
unfolding shaped
shaped-refused p l v r o found is = rw (is.1, is.2) refl

-- a first line that is refused
abbrev Numbered : List (List ℕ) → ScriptFault → Type 0
Numbered all found =
    (p : ℕ) × (l : ℕ) × (v : ℕ) × (r : ℕ) × (o : ℕ) × HasNumbers all p l v r o × (shaped (capped p) (capped l) (capped v) (capped r) o ≡ Err found)

header-numbered : (at : ℕ) (all named : List (List ℕ)) (p l v r o : ℕ × List (List ℕ)) (u : Unit {0}) (found : ScriptFault) → after_funnel at all ≡ Ok named → next_number at named ≡ Ok p
    → next_number at p.1 ≡ Ok l → next_number at l.1 ≡ Ok v → next_number at v.1 ≡ Ok r → next_number at r.1 ≡ Ok o → no_more at o.1 ≡ Ok u
    → shaped (capped p.0) (capped l.0) (capped v.0) (capped r.0) o.0 ≡ Err found → Numbered all found
header-numbered at all named p l v r o u found name pn ln vn rn on end h =
    let a = next_number-is at named p pn in
    let b = next_number-is at p.1 l ln in
    let c = next_number-is at l.1 v vn in
    let d = next_number-is at v.1 r rn in
    let e = next_number-is at r.1 o on in
    let is = chain all (codes "funnel") a.0 b.0 c.0 d.0 e.0 named p.1 l.1 v.1 r.1 o.1 (after_funnel-is at all named name) a.1 b.1 c.1 d.1 e.1 (no_more-is at o.1 u end) in
    (p.0, l.0, v.0, r.0, o.0, (a.0 ∷ b.0 ∷ c.0 ∷ d.0 ∷ e.0 ∷ [], is, rw (a.2, b.2, c.2, d.2, e.2) refl), h)

header_of-parts : (at : ℕ) (all : List (List ℕ)) (found : ScriptFault) → header_of at all ≡ Err found → (found ≡ fault.Header at) ⊎ Numbered all found
unfolding header_of
header_of-parts at all found h =
    elim (bind_err (after_funnel at all) _ found h) [
      | inl bad ↦ inl (after_funnel-err at all found bad)
      | inr named ↦ elim (bind_err (next_number at named.0) _ found named.2) [
        | inl bad ↦ inl (next_number-err at named.0 found bad)
        | inr p ↦ elim (bind_err (next_number at p.0.1) _ found p.2) [
          | inl bad ↦ inl (next_number-err at p.0.1 found bad)
          | inr l ↦ elim (bind_err (next_number at l.0.1) _ found l.2) [
            | inl bad ↦ inl (next_number-err at l.0.1 found bad)
            | inr v ↦ elim (bind_err (next_number at v.0.1) _ found v.2) [
              | inl bad ↦ inl (next_number-err at v.0.1 found bad)
              | inr r ↦ elim (bind_err (next_number at r.0.1) _ found r.2) [
                | inl bad ↦ inl (next_number-err at r.0.1 found bad)
                | inr o ↦ elim (bind_err (no_more at o.0.1) _ found o.2) [
                  | inl bad ↦ inl (no_more-err at o.0.1 found bad)
                  | inr u ↦ inr (header-numbered at all named.0 p.0 l.0 v.0 r.0 o.0 u.0 found named.1 p.1 l.1 v.1 r.1 o.1 u.1 u.2)
                ]
              ]
            ]
          ]
        ]
      ]
    ]

shape-no_header : (at : ℕ) (found : ScriptFault) (why : ShapeFault) → found ≡ fault.Header at → found ≡ fault.Shape why → ⊥
shape-no_header at found why is other = cc

pub header-fault : (at : ℕ) (all : List (List ℕ)) (found : ScriptFault) → header_of at all ≡ Err found → IsHeaderFault at all found
header-fault at all found h =
    elim (header_of-parts at all found h) [
      | inl is ↦ inl (λ p l v r o numbers. (let no = shaped-err p l v r o found (sym (header_of-numbers at all p l v r o numbers) ∙ h) in shape-no_header at found no.0 is no.2), is)
      | inr n ↦ inr (n.0, n.1, n.2, n.3, n.4, n.5, shaped-err n.0 n.1 n.2 n.3 n.4 found n.6)
    ]

-- a first line at fault is refused
spelled-numbers : (header : Header) (all : List (List ℕ)) → SpellsHeader header all → HasNumbers all header.passes header.leaves header.levels header.rows header.opening
spelled-numbers header all s =
    (s.passes ∷ s.leaves ∷ s.levels ∷ s.rows ∷ s.opening ∷ [], s.spelled, rw (s.passes_is, s.leaves_is, s.levels_is, s.rows_is, s.opening_is) refl)

result-cases : {A : Type 0} (r : Result A ScriptFault) → ((x : A) × (r ≡ Ok x)) ⊎ ((e : ScriptFault) × (r ≡ Err e))
result-cases (Ok x) = inl (x, refl)
result-cases (Err e) = inr (e, refl)

none-refused : (at : ℕ) (all : List (List ℕ)) (found : ScriptFault) → ((p l v r o : ℕ) → HasNumbers all p l v r o → ⊥) → found ≡ fault.Header at → header_of at all ≡ Err found
none-refused at all found none is =
    elim (result-cases (header_of at all)) [
      | inl read ↦ (let header = read.0 in absurd (none header.passes header.leaves header.levels header.rows header.opening (spelled-numbers header all (header_of-is at all header read.1))))
      | inr e ↦ elim (header-fault at all e.0 e.1) [
        | inl other ↦ rw (e.1, other.1, is) refl
        | inr n ↦ absurd (none n.0 n.1 n.2 n.3 n.4 n.5)
      ]
    ]

pub header-refused : (at : ℕ) (all : List (List ℕ)) (found : ScriptFault) → IsHeaderFault at all found → header_of at all ≡ Err found
header-refused at all found (inl none) = none-refused at all found none.0 none.1
header-refused at all found (inr n) = header_of-numbers at all n.0 n.1 n.2 n.3 n.4 n.5 ∙ shaped-refused n.0 n.1 n.2 n.3 n.4 found n.6
