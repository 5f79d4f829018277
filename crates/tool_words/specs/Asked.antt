-- The command that words ask for.
--     InRange command      its numbers are in their ranges
--     asked words      the first word names a verb, as many words stand behind it as the verb has, and each is a number in its range
use Rattle.std.specs.Prelude.{ℕ, ◌≤◌, ◌&&◌, nat_le, if◌then◌else◌, List, [], ◌∷◌, codes, Option, Some, None, String, string_bytes}
use Rattle.std.specs.Option.{option_and_then}
use Rattle.std.specs.declared.alloc.Global.{Global}
use Rattle.clap.specs.Words.{Text}
use Rattle.text_lines.specs.Text.{kept}
use Rattle.text_lines.specs.Text.{number, spelled_as}
use Rattle.tool_words.specs.Words.{given, reads}
use Rattle.tool_words.specs.declared.commands.Command.{Command}
use Rattle.tool_words.specs.declared.commands.Command.TheVariants as command
use Rattle.tool_words.specs.declared.reading.TheConstants.{MOST}
use Rattle.tool_words.specs.declared.verbs.Verb.{Verb}
use Rattle.tool_words.specs.declared.verbs.Verb.TheVariants.{Play, Trial, Replay, Drill, Relay, Rounds, Tally, Throttle}

-- how a verb is written
abbrev pub spelling : Verb → Text
spelling Play = codes "play"
spelling Trial = codes "trial"
spelling Replay = codes "replay"
spelling Drill = codes "drill"
spelling Relay = codes "relay"
spelling Rounds = codes "rounds"
spelling Tally = codes "tally"
spelling Throttle = codes "throttle"

-- the verb that a word is
unfoldable pub verb_of : Text → Option Verb
verb_of word = spelled_as spelling word (Play ∷ Trial ∷ Replay ∷ Drill ∷ Relay ∷ Rounds ∷ Tally ∷ Throttle ∷ [])

-- how many words stand behind a verb
abbrev pub count_of : Verb → ℕ
count_of Play = 0
count_of Trial = 0
count_of Replay = 1
count_of Drill = 3
count_of Relay = 2
count_of Rounds = 0
count_of Tally = 2
count_of Throttle = 4

-- the number that a word is, from low to high
abbrev pub number_in : ℕ → ℕ → Option Text → Option ℕ
number_in low high word = kept (λ n. nat_le low n && nat_le n high) (option_and_then number word)

-- the numbers of a command are in their ranges
abbrev pub InRange : Command → Type 0
InRange command.Play = Unit {0}
InRange command.Trial = Unit {0}
InRange (command.Replay workers) = (1 ≤ workers) × (workers ≤ 64)
InRange (command.Drill seed rows workers) = (seed ≤ 1000000) × (1 ≤ rows) × (rows ≤ 1000000) × (1 ≤ workers) × (workers ≤ 64)
InRange (command.Relay workers capacity) = (1 ≤ workers) × (workers ≤ 64) × (1 ≤ capacity) × (capacity ≤ 65536)
InRange command.Rounds = Unit {0}
InRange (command.Tally workers grain) = (1 ≤ workers) × (workers ≤ 64) × (1 ≤ grain) × (grain ≤ 1024)
InRange (command.Throttle workers burst rate period) = (1 ≤ workers) × (workers ≤ 64) × (1 ≤ burst) × (burst ≤ MOST) × (1 ≤ rate) × (rate ≤ MOST) × (1 ≤ period) × (period ≤ MOST)

-- what is made of such a number
abbrev pub numbered : {A : Type 0} → ℕ → ℕ → Option Text → (ℕ → Option A) → Option A
numbered low high word use_number = option_and_then use_number (number_in low high word)

-- the command of a verb with words of these names behind it
unfoldable pub command_as : Verb → (Text → Option Text) → Option Command
command_as Play word = Some command.Play
command_as Trial word = Some command.Trial
command_as Replay word = numbered 1 64 (word (codes "first")) (λ workers. Some (command.Replay workers))
command_as Drill word =
    numbered 0 1000000 (word (codes "first")) (λ seed.
    numbered 1 1000000 (word (codes "second")) (λ rows.
    numbered 1 64 (word (codes "third")) (λ workers. Some (command.Drill seed rows workers))))
command_as Relay word =
    numbered 1 64 (word (codes "first")) (λ workers.
    numbered 1 65536 (word (codes "second")) (λ capacity. Some (command.Relay workers capacity)))
command_as Rounds word = Some command.Rounds
command_as Tally word =
    numbered 1 64 (word (codes "first")) (λ workers.
    numbered 1 1024 (word (codes "second")) (λ grain. Some (command.Tally workers grain)))
command_as Throttle word =
    numbered 1 64 (word (codes "first")) (λ workers.
    numbered 1 MOST (word (codes "second")) (λ burst.
    numbered 1 MOST (word (codes "third")) (λ rate.
    numbered 1 MOST (word (codes "fourth")) (λ period. Some (command.Throttle workers burst rate period)))))

-- the command of a verb, where the words behind the first are as many as it has
abbrev pub with_verb : Verb → List (String Global) → Option Command
with_verb verb words = if reads (count_of verb) words then command_as verb (given (count_of verb) words) else None

-- the command that words ask for, if they do
unfoldable pub asked : List (String Global) → Option Command
asked [] = None
asked (name ∷ more) = option_and_then (λ verb. with_verb verb (name ∷ more)) (verb_of (string_bytes name))
