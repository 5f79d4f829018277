use Rattle.std.proofs.Common.{sym, ◌∙◌, ap, arith, length, ◌+◌}
use Rattle.script_text.proofs.OneByOne.{first_with_words-found, first_with_words-later, first_with_words-none}
use Rattle.script_text.proofs.reading.first_line.Goals as goal

pub returns-then-has_words-clause-exact : goal.returns-then-has_words-clause-exact
returns-then-has_words-clause-exact c =
    sym c.loop-line.invariant.same ∙ rw c.in-Some.ensures (first_with_words-found (c.loop-line.at + 1) c.in-Some.line.now c.next.new.self (sym c.has_words.ensures ∙ c.if-has_words.true))

pub loop-line-preserved : goal.loop-line-preserved
loop-line-preserved c = record {
  count = let fewer = ap length c.in-Some.ensures in let before = c.loop-line.invariant.count in omega arith;
  same = sym (first_with_words-later (c.loop-line.at + 1) c.in-Some.line.now c.next.new.self (sym c.has_words.ensures ∙ c.if-has_words.false)) ∙ (rw c.in-Some.ensures at c.loop-line.invariant.same);
}

pub returns-clause-exact : goal.returns-clause-exact
returns-clause-exact c = sym c.loop-line.invariant.same ∙ rw c.in_default.ensures (first_with_words-none (c.loop-line.at + 1))
