use Rattle.std.proofs.Common.{rules, ◌≡◌, ◌∙◌, ◌<◌, [], map, length, get_or, ap₂}
use Rattle.std.proofs.lemmas.List.{get_or-map}
use Rattle.std.proofs.Math.ListN.{length-map}
use Rattle.clap.specs.Words.{rule_of, with_rule}
use Rattle.tool_words.specs.Words.{command_of, required_word}
use Rattle.tool_words.proofs.Simple.{command_of-more}
use Rattle.tool_words.proofs.words.command.Goals as goal

pub loop-name-init : goal.loop-name-init
unfolding command_of
loop-name-init c = c.new-command.ensures.app

pub loop-name-preserved : goal.loop-name-preserved
unfolding required_word
loop-name-preserved c =
    let shape = c.in_ok-command.ensures.shape (search rules) in
    let within : c.loop-name.name-index < length c.args.names.now = search rules in
    let rule : rule_of c.action-word.result ≡ required_word (get_or (map (λ s. s.now) c.args.names.now) c.loop-name.name-index []) =
    (let name = get_or-map (λ s. s.now) c.args.names.now c.loop-name.name-index (record { ref_ptr = (0, 0); now = [] }) [] within in
    rw name (search rules)) in
    shape ∙ ap₂ with_rule c.loop-name.invariant rule ∙ command_of-more (map (λ s. s.now) c.args.names.now) c.loop-name.name-index (rw length-map within)
