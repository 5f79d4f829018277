-- A part of XML, over ASCII: elements with attributes, text and elements between their tags, no references, comments or sections.
--     IsElement text      the text is one element
--     IsContent text      the text is what may stand between two tags: text and elements in a row
--     IsAttributes names text      the text is attributes with these names, none of them twice
--     element name attributes inner, leaf name attributes, attribute name value      how they are written
use Rattle.std.specs.Prelude.{◌≡◌, ℕ, ◌==◌, Bool, true, false, not, ◌&&◌, ◌||◌, List, [], ◌∷◌, ◌++◌, codes}
use Rattle.std.specs.Char.{is_ascii_alphabetic, is_ascii_alphanumeric}
use Rattle.std.specs.Int.{is_in_range}
use Rattle.std.specs.List.{list_all, list_any}
use Rattle.std.specs.Str.{bytes_eq}

-- a byte of text: a newline, or from the space to `~` any but `&`, `<` and `>`
abbrev pub is_text_byte : ℕ → Bool
is_text_byte byte = (byte == 10) || (is_in_range 32 126 byte && not (byte == 38) && not (byte == 60) && not (byte == 62))

abbrev pub is_text : List ℕ → Bool
is_text text = list_all is_text_byte text

-- the value of an attribute: such bytes, but no `"`
abbrev pub is_value : List ℕ → Bool
is_value value = list_all (λ byte. is_text_byte byte && not (byte == 34)) value

-- a byte of a name: a letter, a digit, `-`, `.` or `_`
abbrev pub is_name_byte : ℕ → Bool
is_name_byte byte = is_ascii_alphanumeric byte || (byte == 45) || (byte == 46) || (byte == 95)

-- the name of an element or an attribute: a letter, and then such bytes
abbrev pub is_name : List ℕ → Bool
is_name [] = false
is_name (first ∷ rest) = is_ascii_alphabetic first && list_all is_name_byte rest

-- an attribute, with the space before it
unfoldable pub attribute : List ℕ → List ℕ → List ℕ
attribute name value = codes " " ++ name ++ codes "=\"" ++ value ++ codes "\""

-- the tags around what is inside an element
unfoldable pub open_tag : List ℕ → List ℕ → List ℕ
open_tag name attributes = codes "<" ++ name ++ attributes ++ codes ">"

unfoldable pub close_tag : List ℕ → List ℕ
close_tag name = codes "</" ++ name ++ codes ">"

-- an element with its inside, and one without
unfoldable pub element : List ℕ → List ℕ → List ℕ → List ℕ
element name attributes inner = open_tag name attributes ++ inner ++ close_tag name

unfoldable pub leaf : List ℕ → List ℕ → List ℕ
leaf name attributes = codes "<" ++ name ++ attributes ++ codes "/>"

-- attributes in a row, the last one's name first
pub data IsAttributes : List (List ℕ) → List ℕ → Type 0 where
  bare : IsAttributes [] []
  further : {names : List (List ℕ)} {others : List ℕ} (name value : List ℕ) → IsAttributes names others
      → is_name name ≡ true → is_value value ≡ true → list_any (bytes_eq name) names ≡ false
      → IsAttributes (name ∷ names) (others ++ attribute name value)

-- an element has a name and attributes; it is a leaf, or has content; and content is text and elements in a row
mutual
  pub data IsElement : List ℕ → Type 0 where
    empty : {names : List (List ℕ)} {attributes : List ℕ} (name : List ℕ) → is_name name ≡ true → IsAttributes names attributes → IsElement (leaf name attributes)
    filled : {names : List (List ℕ)} {attributes inner : List ℕ} (name : List ℕ) → is_name name ≡ true → IsAttributes names attributes → IsContent inner
        → IsElement (element name attributes inner)

  pub data IsContent : List ℕ → Type 0 where
    nothing : IsContent []
    and_text : {before : List ℕ} (text : List ℕ) → IsContent before → is_text text ≡ true → IsContent (before ++ text)
    and_element : {before inside : List ℕ} → IsContent before → IsElement inside → IsContent (before ++ inside)
