-- A command's words, read as so many required words.
--     command_with count      the simple command with so many required words and no other argument
--     reads count words, given count words name      whether its reading takes the words behind the first, and which it gives
use Rattle.std.specs.Prelude.{ℕ, ◌==◌, Bool, List, [], ◌∷◌, length, take, fold, map, codes, Option, Some, true, String, string_bytes}
use Rattle.std.specs.declared.alloc.Global.{Global}
use Rattle.clap.specs.Words.{App, Rule, Text, fault_of, first_of, matches_of, new_app, new_rule, with_rule}
use Rattle.clap.specs.declared.builder.action.ArgAction.TheVariants.{Set}

-- the names of the words
abbrev pub names : List Text
names = codes "first" ∷ codes "second" ∷ codes "third" ∷ codes "fourth" ∷ []

-- a required word
unfoldable pub required_word : Text → Rule
required_word name = record (new_rule name) { action = Some Set; required = true }

-- a command with required words of these names
unfoldable pub command_of : List Text → App
command_of = fold (λ app name. with_rule app (required_word name)) (new_app (codes "command"))

-- a simple command with so many required words and no other argument
unfoldable pub command_with : ℕ → App
command_with count = command_of (take count names)

-- the bytes of some words
abbrev pub texts_of : List (String Global) → List Text
texts_of = map string_bytes

-- whether the words behind the first are so many, by the reading of such a command
abbrev pub reads : ℕ → List (String Global) → Bool
reads count words = length (fault_of (command_with count) (texts_of words)) == 0

-- the word of a name that the reading gives
abbrev pub given : ℕ → List (String Global) → Text → Option Text
given count words name = first_of name (matches_of (command_with count) (texts_of words))
