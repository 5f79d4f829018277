use Rattle.std.proofs.Common.{rules, ◌∙◌}
use Rattle.clap.proofs.WalkLemmas.{first_value-rows}
use Rattle.clap.specs.Words.{found_of}
use Rattle.tool_words.proofs.reading.number_in.Goals as goal

pub returns-in_err-get_str-clause-exact : goal.returns-in_err-get_str-clause-exact
returns-in_err-get_str-clause-exact c =
    let at = c.get_str.ensures ∙ first_value-rows (found_of c.args.matches.now) c.args.name.now in
    let none = c.in_err-get_str.was in
    rw (← at, none) (search rules)

pub returns-clause-exact : goal.returns-clause-exact
returns-clause-exact c =
    let at = c.get_str.ensures ∙ first_value-rows (found_of c.args.matches.now) c.args.name.now in
    rw (← at, c.in_ok-get_str.was, ← c.as_bytes.ensures.value) c.number_of.ensures.exact
