-- What some readings of words come to.
use Rattle.std.proofs.Common.{◌≡◌, ◌≢◌, [], ◌∷◌, Some, codes, refl}
use Rattle.clap.specs.Words.{fault_of, matches_of, first_of}
use Rattle.clap.proofs.OnLiterals.{clap_on_literals}
use Rattle.tool_words.specs.Words.{command_with, command_of, required_word}

-- three words
pub three_words : fault_of (command_with 3) (codes "drill" ∷ codes "0" ∷ codes "1" ∷ codes "2" ∷ []) ≡ []
unfolding clap_on_literals command_with command_of required_word
three_words = refl

-- two dashes before them
pub dashes_before : fault_of (command_with 3) (codes "drill" ∷ codes "--" ∷ codes "0" ∷ codes "1" ∷ codes "2" ∷ []) ≡ []
unfolding clap_on_literals command_with command_of required_word
dashes_before = refl

pub second_of : first_of (codes "second") (matches_of (command_with 3) (codes "drill" ∷ codes "--" ∷ codes "0" ∷ codes "1" ∷ codes "2" ∷ [])) ≡ Some (codes "1")
unfolding clap_on_literals command_with command_of required_word
second_of = refl

-- a word too few, a word too many, and one that begins with a dash
pub too_few : fault_of (command_with 3) (codes "drill" ∷ codes "1" ∷ codes "1" ∷ []) ≢ []
unfolding clap_on_literals command_with command_of required_word
too_few e = cc e

pub too_many : fault_of (command_with 1) (codes "replay" ∷ codes "1" ∷ codes "1" ∷ []) ≢ []
unfolding clap_on_literals command_with command_of required_word
too_many e = cc e

pub dash_word : fault_of (command_with 3) (codes "drill" ∷ codes "-1" ∷ codes "1" ∷ codes "1" ∷ []) ≢ []
unfolding clap_on_literals command_with command_of required_word
dash_word e = cc e

pub no_words : fault_of (command_with 0) (codes "play" ∷ []) ≡ []
unfolding clap_on_literals command_with command_of required_word
no_words = refl

pub help_word : fault_of (command_with 1) (codes "replay" ∷ codes "--help" ∷ []) ≢ []
unfolding clap_on_literals command_with command_of required_word
help_word e = cc e
