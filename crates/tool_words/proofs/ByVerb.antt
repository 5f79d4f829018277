-- The command of a verb whose words were read.
use Rattle.std.proofs.Common.{◌≡◌, ℕ, List, true, refl, ap, sym, ◌∙◌, Option, String, subst}
use Rattle.std.specs.declared.alloc.Global.{Global}
use Rattle.clap.specs.Words.{Row, first_of, matches_of}
use Rattle.tool_words.specs.Asked.{command_as, count_of, with_verb}
use Rattle.tool_words.specs.Words.{command_with, reads, texts_of}
use Rattle.tool_words.specs.declared.commands.Command.{Command}
use Rattle.tool_words.specs.declared.verbs.Verb.{Verb}

-- words that were read give the command of the rows that were found
pub with_verb-read : (verb : Verb) (count : ℕ) (words : List (String Global)) (rows : List Row) (result : Option Command) → count ≡ count_of verb → reads count words ≡ true
    → rows ≡ matches_of (command_with count) (texts_of words) → result ≡ command_as verb (λ name. first_of name rows) → result ≡ with_verb verb words
with_verb-read verb count words rows result same read found is =
    let P : ℕ → Type 0 = λ n. reads n words ≡ true in
    let Q : ℕ → Type 0 = λ n. rows ≡ matches_of (command_with n) (texts_of words) in
    let read_verb = subst P same read in
    let found_verb = subst Q same found in
    let made : with_verb verb words ≡ command_as verb (λ name. first_of name (matches_of (command_with (count_of verb)) (texts_of words))) = rw read_verb refl in
    is ∙ ap (λ rs. command_as verb (λ name. first_of name rs)) found_verb ∙ sym made
