use Rattle.std.proofs.Common.{◌≡◌, take, map}
use Rattle.clap.specs.Words.{app_of}
use Rattle.tool_words.specs.Words.{command_of}
use Rattle.tool_words.proofs.words.command.Given as goal

abbrev pub invariant-loop-name : goal.invariant-loop-name
invariant-loop-name l = app_of l.command ≡ command_of (take l.name-index (map (λ s. s.now) l.names))
