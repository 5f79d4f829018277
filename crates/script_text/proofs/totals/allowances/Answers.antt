use Rattle.std.proofs.Common.{◌≡◌, ◌∙◌, refl, rules, arith, length, replicate, vec_len, ◌≤◌, ◌+◌}
use Rattle.std.proofs.lemmas.Grind.{common_steps}
use Rattle.script_text.proofs.Allowed.{allowances-none, allowances-add, allowances-fit, pass-there, place-there, add_up}
use Rattle.script_text.specs.Sound.{allowances, total_amount}
use Rattle.script_text.proofs.totals.allowances.Goals as goal

pub loop-line-init : goal.loop-line-init
loop-line-init c =
    let zeros : c.in_ok-sums.sums.items ≡ replicate c.args.script.now.shape.passes 0 = search rules in
    zeros ∙ allowances-none c.args.script.now.shape.passes

pub index_mut-requires : goal.index_mut-requires
index_mut-requires c =
    let lines : c.deref-line-items.result.now ≡ c.args.script.now.lines = c.deref-line-items.ensures.value ∙ c.lines.view_is in
    let place = place-there c.deref-line-items.result.now c.args.script.now.lines c.args.script.now.shape.passes c.loop-line.line-index _ c.loop-line.sums.items lines c.requires.passes c.loop-line-test.true c.loop-line.invariant in
    let count : vec_len c.loop-line.sums ≡ length c.loop-line.sums.items = search rules in
    rw count place

pub overflow_add-index_mut : goal.overflow_add-index_mut
overflow_add-index_mut c =
    let lines : c.deref-line-items.result.now ≡ c.args.script.now.lines = c.deref-line-items.ensures.value ∙ c.lines.view_is in
    let fit = allowances-fit c.deref-line-items.result.now c.args.script.now.shape.passes c.loop-line.line-index _ _ c.loop-line.sums.items c.index_mut.result.now c.amount.result c.loop-line-test.true refl (pass-there _ _ _ _ _ lines c.requires.passes c.loop-line-test.true) c.loop-line.invariant c.index_mut.ensures.value c.amount.ensures in
    let all : c.index_mut.result.now + c.amount.result ≤ total_amount c.args.script.now.lines = rw lines at fit in
    let below = c.requires.total in
    search rules

pub loop-line-preserved : goal.loop-line-preserved
loop-line-preserved c =
    let lines : c.deref-line-items.result.now ≡ c.args.script.now.lines = c.deref-line-items.ensures.value ∙ c.lines.view_is in
    allowances-add c.deref-line-items.result.now c.args.script.now.shape.passes c.loop-line.line-index _ _ c.loop-line.sums.items c.index_mut.result.now c.amount.result c.loop-line-test.true refl (pass-there _ _ _ _ _ lines c.requires.passes c.loop-line-test.true) c.loop-line.invariant c.index_mut.ensures.value c.amount.ensures

pub returns-clause-fits : goal.returns-clause-fits
returns-clause-fits c =
    let each : c.loop-line.sums.items ≡ allowances c.args.script.now.lines c.args.script.now.shape.passes = grind (arith, common_steps) in
    let all = add_up c.args.script.now.lines c.args.script.now.shape.passes c.requires.passes in
    let below = c.requires.total in
    rw (each, all) below
