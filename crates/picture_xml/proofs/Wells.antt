-- Well parts of XML make well wholes.
use Rattle.std.proofs.Common.{◌≡◌, ℕ, zero, suc, ◌<◌, ◌/◌, ◌%◌, ◌==◌, if◌then◌else◌, Bool, true, false, ◌&&◌, not, ◌∙◌, List, [], ◌∷◌, ◌++◌, refl, sym, subst, append_assoc, append-nil, arith}
use Rattle.std.specs.List.{flat_map, list_all}
use Rattle.std.specs.Fmt.{decimal, digit_glyph, digits, digits_onto}
use Rattle.std.proofs.lemmas.List.Folds.{list_all-append}
use Rattle.std.proofs.lemmas.Bool.Decides.{nat_tests}
use Rattle.picture_xml.specs.Xml.{IsContent, is_name_byte, is_text, is_text_byte, is_value}
use Rattle.picture_xml.specs.Xml.IsContent.{nothing, and_text, and_element}

-- content after content
pub content-append : {before after : List ℕ} → IsContent before → IsContent after → IsContent (before ++ after)
content-append {before} known nothing = subst IsContent (sym (append-nil before)) known
content-append {before} known (and_text {before = middle} text more is) =
    subst IsContent (append_assoc before middle text) (and_text text (content-append known more) is)
content-append {before} known (and_element {before = middle} {inside = inner} more is) =
    subst IsContent (append_assoc before middle inner) (and_element (content-append known more) is)

-- content for each of a list
pub contents : {X : Type 0} (f : X → List ℕ) (each : (x : X) → IsContent (f x)) (xs : List X) → IsContent (flat_map f xs)
contents f each [] = nothing
contents f each (x ∷ xs) = content-append (each x) (contents f each xs)

-- one element or one text alone
pub text_alone : (text : List ℕ) → is_text text ≡ true → IsContent text
text_alone text is = and_text text nothing is

-- what holds at each number below ten
below_ten : (P : ℕ → Type 0) → P 0 → P 1 → P 2 → P 3 → P 4 → P 5 → P 6 → P 7 → P 8 → P 9 → (d : ℕ) → d < 10 → P d
below_ten P a b c d e f g h i j zero less = a
below_ten P a b c d e f g h i j (suc zero) less = b
below_ten P a b c d e f g h i j (suc (suc zero)) less = c
below_ten P a b c d e f g h i j (suc (suc (suc zero))) less = d
below_ten P a b c d e f g h i j (suc (suc (suc (suc zero)))) less = e
below_ten P a b c d e f g h i j (suc (suc (suc (suc (suc zero))))) less = f
below_ten P a b c d e f g h i j (suc (suc (suc (suc (suc (suc zero)))))) less = g
below_ten P a b c d e f g h i j (suc (suc (suc (suc (suc (suc (suc zero))))))) less = h
below_ten P a b c d e f g h i j (suc (suc (suc (suc (suc (suc (suc (suc zero)))))))) less = i
below_ten P a b c d e f g h i j (suc (suc (suc (suc (suc (suc (suc (suc (suc zero))))))))) less = j
below_ten P a b c d e f g h i j (suc (suc (suc (suc (suc (suc (suc (suc (suc (suc n)))))))))) less = absurd (omega arith)

-- a test that each digit passes, all digits of a number pass
digits_pass : (p : ℕ → Bool) → ((d : ℕ) → d < 10 → p (digit_glyph false d) ≡ true) → (k n : ℕ) (after : List ℕ) → list_all p after ≡ true → list_all p (digits_onto k 10 false n after) ≡ true
digits_pass p each zero n after known = known
digits_pass p each (suc k) n after known =
    let least : p (digit_glyph false (n % 10)) ≡ true = each (n % 10) (omega arith) in
    let here : list_all p (digit_glyph false (n % 10) ∷ after) ≡ true = rw least known in
    elim (n / 10 == 0) as (λ last. list_all p (if last then digit_glyph false (n % 10) ∷ after else digits_onto k 10 false (n / 10) (digit_glyph false (n % 10) ∷ after)) ≡ true)
    [ true ↦ here | false ↦ digits_pass p each k (n / 10) (digit_glyph false (n % 10) ∷ after) here ]

-- a number is a text and a value
pub decimal_is_text : (n : ℕ) → is_text (decimal n) ≡ true
unfolding digits
decimal_is_text n = digits_pass is_text_byte (below_ten (λ d. is_text_byte (digit_glyph false d) ≡ true) refl refl refl refl refl refl refl refl refl refl) 64 n [] refl

abbrev is_value_byte : ℕ → Bool
is_value_byte byte = is_text_byte byte && not (byte == 34)

pub decimal_is_value : (n : ℕ) → is_value (decimal n) ≡ true
unfolding digits
decimal_is_value n = digits_pass is_value_byte (below_ten (λ d. is_value_byte (digit_glyph false d) ≡ true) refl refl refl refl refl refl refl refl refl refl) 64 n [] refl

-- and so is what is made of the bytes of names
name_byte_is_text : (byte : ℕ) → is_name_byte byte ≡ true → is_text_byte byte ≡ true
name_byte_is_text byte is = grind (arith, nat_tests)

and_both : (a b : Bool) → a && b ≡ true → (a ≡ true) × (b ≡ true)
and_both true b both = (refl, both)
and_both false b both = absurd (cc)

pub name_is_text : (name : List ℕ) → list_all is_name_byte name ≡ true → is_text name ≡ true
name_is_text [] is = refl
name_is_text (byte ∷ rest) is =
    let parts : (is_name_byte byte ≡ true) × (list_all is_name_byte rest ≡ true) = and_both (is_name_byte byte) (list_all is_name_byte rest) is in
    let first : is_text_byte byte ≡ true = name_byte_is_text byte parts.0 in
    rw first (name_is_text rest parts.1)

-- texts after texts are a text, and values after values a value
pub text-append : (before after : List ℕ) → is_text before ≡ true → is_text after ≡ true → is_text (before ++ after) ≡ true
text-append before after first second = list_all-append is_text_byte before after ∙ rw (first, second) refl

pub value-append : (before after : List ℕ) → is_value before ≡ true → is_value after ≡ true → is_value (before ++ after) ≡ true
value-append before after first second = list_all-append is_value_byte before after ∙ rw (first, second) refl
