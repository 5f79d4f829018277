-- A command that takes one required word after the other.
use Rattle.std.proofs.Common.{◌≡◌, ◌≤◌, ◌<◌, ◌+◌, ℕ, zero, suc, List, [], length, take, get_or, refl, true, arith, subst, inl, inr, ◌==◌, ◌∷◌, false, String}
use Rattle.std.specs.declared.alloc.Global.{Global}
use Rattle.std.proofs.lemmas.List.{take_more}
use Rattle.std.proofs.lemmas.List.Sums.{fold-append}
use Rattle.std.proofs.lemmas.Bool.Decides.{nat_tests}
use Rattle.clap.specs.Words.{App, HasKind, Kinds, Row, Text, fault_of, is_simple, is_simple_and_free, kind_of, matches_of, with_rule}
use Rattle.clap.specs.declared.error.Error.{Error}
use Rattle.clap.specs.declared.error.kind.ErrorKind.TheVariants.{OutOfMemory}
use Rattle.tool_words.specs.Words.{command_of, required_word, command_with, names, reads, texts_of}

-- one more word
pub command_of-more : (names : List Text) (i : ℕ) → i < length names
    → with_rule (command_of (take i names)) (required_word (get_or names i [])) ≡ command_of (take (i + 1) names)
unfolding command_of
command_of-more names i within = rw (take_more names i [] within, fold-append) refl

-- the command is one whose reading is known
pub command_with-simple : (count : ℕ) → count ≤ 4 → is_simple_and_free (command_with count) ≡ true
unfolding command_with command_of required_word
command_with-simple zero within = refl
command_with-simple (suc zero) within = refl
command_with-simple (suc (suc zero)) within = refl
command_with-simple (suc (suc (suc zero))) within = refl
command_with-simple (suc (suc (suc (suc zero)))) within = refl
command_with-simple (suc (suc (suc (suc (suc count))))) within = absurd (omega arith)

pub command_with-plain : (count : ℕ) → count ≤ 4 → is_simple (command_with count) ≡ true
unfolding command_with command_of required_word
command_with-plain zero within = refl
command_with-plain (suc zero) within = refl
command_with-plain (suc (suc zero)) within = refl
command_with-plain (suc (suc (suc zero))) within = refl
command_with-plain (suc (suc (suc (suc zero)))) within = refl
command_with-plain (suc (suc (suc (suc (suc count))))) within = absurd (omega arith)

pub command_with-names : (count : ℕ) → command_of (take count names) ≡ command_with count
unfolding command_with
command_with-names count = refl

-- what is known of a reading of one command holds of another that is the same
pub same-accepted : (a b : App) (words : List Text) → a ≡ b → is_simple_and_free b ≡ true
    → (is_simple_and_free a ≡ true → fault_of a words ≡ []) → fault_of b words ≡ []
same-accepted a b words e simple known =
    let P : App → Type 0 = λ x. (is_simple_and_free x ≡ true → fault_of x words ≡ []) in subst P e known simple

pub same-given : (a b : App) (words : List Text) (rows : List Row) (X : Type 0) → a ≡ b → is_simple b ≡ true
    → (is_simple a ≡ true → (rows ≡ matches_of a words) × X) → rows ≡ matches_of b words
same-given a b words rows X e simple known =
    let P : App → Type 0 = λ x. (is_simple x ≡ true → (rows ≡ matches_of x words) × X) in (subst P e known simple).0

pub same-refused : (a b : App) (words : List Text) (error : Error) → a ≡ b → is_simple_and_free b ≡ true
    → (is_simple_and_free a ≡ true → HasKind (fault_of a words) error) → (kind_of error ≡ OutOfMemory → ⊥) → fault_of b words ≡ [] → ⊥
same-refused a b words error e simple known other none =
    let P : App → Type 0 = λ x. (is_simple_and_free x ≡ true → HasKind (fault_of x words) error) in
    let has : HasKind (fault_of b words) error = subst P e known simple in
    let Q : Kinds → Type 0 = λ kinds. HasKind kinds error in
    elim (subst Q none has) [ inl memory ↦ other memory | inr among ↦ absurd among ]

-- a reading without a fault takes the words, and one with a fault doesn't
pub accepted-reads : (count : ℕ) (words : List (String Global)) → fault_of (command_with count) (texts_of words) ≡ [] → reads count words ≡ true
accepted-reads count words none = rw none refl

pub refused-reads : (count : ℕ) (words : List (String Global)) → (fault_of (command_with count) (texts_of words) ≡ [] → ⊥) → reads count words ≡ false
refused-reads count words some_fault = go (fault_of (command_with count) (texts_of words)) some_fault
  where
    go : (kinds : Kinds) → (kinds ≡ [] → ⊥) → (length kinds == 0) ≡ false
    go [] none = absurd (none refl)
    go (kind ∷ kinds) none = grind (arith, nat_tests)
