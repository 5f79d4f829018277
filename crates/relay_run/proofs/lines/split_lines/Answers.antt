-- There is one line more than newlines, but for one at the end.
use Rattle.std.proofs.Common.{◌≡◌, ◌<◌, length, false, refl, sym, ap, ◌∙◌, arith}
use Rattle.std.specs.Prelude.{◌==◌}
use Rattle.std.specs.List.{slice_split}
use Rattle.std.proofs.lemmas.Bool.Decides.{nat_tests}
use Rattle.relay_run.proofs.Splitting.{lines_some, lines_count}
use Rattle.relay_run.proofs.lines.split_lines.Goals as goal

pub returns-then-newlines-ge-MOST_LINES : goal.returns-then-newlines-ge-MOST_LINES
returns-then-newlines-ge-MOST_LINES c =
    let test : (length c.args.bytes.now == 0) ≡ false = sym c.is_empty.ensures ∙ c.if-is_empty.false in
    let some_byte : 0 < length c.args.bytes.now = grind (arith, nat_tests) in
    (refl, omega (arith, lines_count c.args.bytes.now c.without_newline-text.result.now some_byte c.without_newline-text.ensures, c.newlines.ensures, c.if-newlines-ge-MOST_LINES.true))

pub returns-in-Ok : goal.returns-in-Ok
returns-in-Ok c =
    let test : (length c.args.bytes.now == 0) ≡ false = sym c.is_empty.ensures ∙ c.if-is_empty.false in
    let some_byte : 0 < length c.args.bytes.now = grind (arith, nat_tests) in (
      (rw c.in-Ok.is at c.parts.ensures) ∙ ap (slice_split (λ b. b == 10)) c.without_newline-text.ensures ∙ sym (lines_some c.args.bytes.now some_byte),
      omega (arith, lines_count c.args.bytes.now c.without_newline-text.result.now some_byte c.without_newline-text.ensures, c.newlines.ensures, c.if-newlines-ge-MOST_LINES.false),
    )
