use Rattle.std.proofs.Common.{◌≡◌, ◌∙◌, ap, sym}
use Rattle.std.proofs.lemmas.List.{take-map}
use Rattle.clap.specs.Words.{app_of}
use Rattle.tool_words.specs.Words.{command_of, command_with}
use Rattle.tool_words.proofs.Simple.{accepted-reads, command_with-names, command_with-plain, command_with-simple, refused-reads, same-accepted, same-given, same-refused}
use Rattle.tool_words.proofs.words.read_words.Goals as goal

pub returns-in-Ok-try_get_matches_from-clause-accepted : goal.returns-in-Ok-try_get_matches_from-clause-accepted
returns-in-Ok-try_get_matches_from-clause-accepted c =
    let made : app_of c.in-Ok.command ≡ command_with c.args.count =
    c.in-Ok.ensures ∙ ap command_of (sym (take-map (λ s. s.now) c.args.count _)) ∙ command_with-names c.args.count in
    accepted-reads c.args.count c.args.words.now (same-accepted _ _ _ made (command_with-simple c.args.count c.requires) c.in-Ok-try_get_matches_from.ensures.kinds)

pub returns-in-Ok-try_get_matches_from-clause-given : goal.returns-in-Ok-try_get_matches_from-clause-given
returns-in-Ok-try_get_matches_from-clause-given c =
    let made : app_of c.in-Ok.command ≡ command_with c.args.count =
    c.in-Ok.ensures ∙ ap command_of (sym (take-map (λ s. s.now) c.args.count _)) ∙ command_with-names c.args.count in
    same-given _ _ _ _ _ made (command_with-plain c.args.count c.requires) c.in-Ok-try_get_matches_from.ensures.matches

pub returns : goal.returns
returns c =
    let made : app_of c.in-Ok.command ≡ command_with c.args.count =
    c.in-Ok.ensures ∙ ap command_of (sym (take-map (λ s. s.now) c.args.count _)) ∙ command_with-names c.args.count in
    record {
      accepted = tt;
      given = tt;
      refused = λ said. refused-reads c.args.count c.args.words.now (λ none. same-refused _ _ _ c.in-Err.error made (command_with-simple c.args.count c.requires) c.in-Err.ensures.kinds
          (λ e. c.in_default-kind.not-OutOfMemory (c.kind.ensures ∙ e)) none);
    }
