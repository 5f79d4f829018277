use Rattle.clap.specs.Words.{found_of, rows_of}
use Rattle.tool_words.proofs.ByVerb.{with_verb-read}
use Rattle.tool_words.proofs.reading.read_behind.Goals as goal

pub returns-in-Ok-clause-exact : goal.returns-in-Ok-clause-exact
returns-in-Ok-clause-exact c = with_verb-read c.args.verb c.count_of.result c.args.words.now (rows_of (found_of c.in-Ok.matches)) c.command_as.result c.count_of.ensures.exact c.in-Ok.ensures.accepted c.in-Ok.ensures.given c.command_as.ensures.exact
