use Rattle.std.proofs.Common.{sym, ◌∙◌, refl, rules, tests}
use Rattle.text_lines.proofs.Cutting.{first-line, last-line, after-first}
use Rattle.text_lines.proofs.pieces.Lines.next.Goals as goal
use Rattle.text_lines.proofs.pieces.Lines.next.Goals.{then-is_empty, else-is_empty}

pub returns-in-len1-up : goal.returns-in-len1-up
returns-in-len1-up c =
    let first = first-line c.self.inside.text.now c.split_at.result.0.now c.split_at.result.1.now c.bytes_before.result c.bytes_before.ensures.exact c.split_at.ensures.front c.split_at.ensures.back c.in-len1-up.len_at_least in
    sym c.self.view_is ∙ first ∙ rw (c.without_return.ensures, after-first) refl

pub returns-after-is_empty : goal.returns-after-is_empty
returns-after-is_empty c =
    let last = last-line c.self.inside.text.now c.split_at.result.0.now c.split_at.result.1.now c.bytes_before.result c.bytes_before.ensures.exact c.bytes_before.ensures.within c.split_at.ensures.front c.split_at.ensures.back c.in-empty.len_below in
    elim c.if-is_empty.branch [ then-is_empty w ↦ rw w.result-is (sym c.self.view_is ∙ last.0 (search (rules, tests))) | else-is_empty w ↦ rw w.result-is (sym c.self.view_is ∙ last.1 (search (rules, tests))) ]
