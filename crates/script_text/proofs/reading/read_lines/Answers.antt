use Rattle.std.proofs.Common.{sym, ◌∙◌, rules}
use Rattle.std.proofs.lemmas.Result.{err_from_is_err_and}
use Rattle.script_text.proofs.OneByOne.{lines_of-more, lines_of-refused, lines_of-past, lines_of-above, lines_of-none, Fails-from, Fails-through}
use Rattle.script_text.proofs.reading.read_lines.Goals as goal

pub returns-in_err-read : goal.returns-in_err-read
returns-in_err-read c =
    let p = err_from_is_err_and c.from_residual.result c.from_residual.ensures.1 in
    rw (p.1, p.2) (Fails-from _ _ (sym c.loop-line.invariant.same ∙ rw c.in-Some.ensures (lines_of-refused _ _ _ _ _ _ _ (sym c.read_line.ensures ∙ c.in_err-read.was))))

pub returns-in_err-check_limit : goal.returns-in_err-check_limit
returns-in_err-check_limit c =
    let p = err_from_is_err_and c.from_residual-in_err-check_limit.result c.from_residual-in_err-check_limit.ensures.1 in
    rw (p.1, p.2) (Fails-from _ _ (sym c.loop-line.invariant.same ∙ rw c.in-Some.ensures (lines_of-past _ _ _ _ _ _ _ _ (sym c.read_line.ensures ∙ c.in_ok-read.was) (sym c.check_limit.ensures.exact ∙ c.in_err-check_limit.was))))

pub returns-in_err-total : goal.returns-in_err-total
returns-in_err-total c =
    let p = err_from_is_err_and c.from_residual-in_err-total.result c.from_residual-in_err-total.ensures.1 in
    rw (p.1, p.2) (Fails-through _ _ _ (λ counted. sym c.loop-line.invariant.same ∙ rw c.in-Some.ensures (lines_of-above _ _ _ _ _ _ _ _ (sym c.read_line.ensures ∙ c.in_ok-read.was) (sym c.check_limit.ensures.exact ∙ c.in_ok-check_limit.was) counted)) c.in_err-total.ensures.total)

pub loop-line-preserved : goal.loop-line-preserved
loop-line-preserved c = record {
  limit = search rules;
  bound = search rules;
  same = rw c.in_ok-total.ensures.items (lines_of-more _ _ _ _ _ _ _ _ (sym c.read_line.ensures ∙ c.in_ok-read.was) (sym c.check_limit.ensures.exact ∙ c.in_ok-check_limit.was) c.in_ok-total.ensures.total) ∙ (rw c.in-Some.ensures at c.loop-line.invariant.same);
}

pub returns : goal.returns
returns c = sym c.loop-line.invariant.same ∙ rw c.in_default.ensures (lines_of-none _ _ _ _)
