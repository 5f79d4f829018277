use Rattle.std.proofs.Common.{sym, ◌∙◌, rules, tests}
use Rattle.text_lines.proofs.Cutting.{first-word}
use Rattle.text_lines.proofs.pieces.Words.next.Goals as goal
use Rattle.text_lines.proofs.pieces.Words.next.Goals.{then-is_empty, else-is_empty}

pub returns : goal.returns
returns c =
    let first = first-word c.self.inside.text.now c.split_at.result.1.now c.split_at-2.result.0.now c.split_at-2.result.1.now c.spaces.result c.bytes_before.result c.spaces.ensures.exact c.split_at.ensures.back c.bytes_before.ensures.exact c.split_at-2.ensures.front c.split_at-2.ensures.back in
    elim c.if-is_empty.branch [ then-is_empty w ↦ rw w.result-is (sym c.self.view_is ∙ first.0 (search (rules, tests))) | else-is_empty w ↦ rw w.result-is (sym c.self.view_is ∙ first.1 (search (rules, tests))) ]
