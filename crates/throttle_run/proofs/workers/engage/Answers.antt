use Rattle.std.proofs.Common.{◌<◌, ◌++◌, ◌∷◌, [], List, length, get_or, sym, ap, ◌∙◌, subst, arith, take_all}
use Rattle.std.proofs.lemmas.List.{length-map}
use Rattle.throttle_run.specs.declared.lines.ThrottleLine.{ThrottleLine}
use Rattle.throttle_run.specs.declared.workers.Worker.{Worker}
use Rattle.throttle_run.specs.Work.{desks_in, Each, IsDealt}
use Rattle.throttle_run.proofs.Dealt.{no_line, same_after, desks_of_bare, dealt_none, dealt_more}
use Rattle.throttle_run.proofs.workers.engage.Goals as goal

pub loop-place-init : goal.loop-place-init
loop-place-init c = record {
  desks = ap desks_in c.in_ok-all.ensures ∙ desks_of_bare c.args.desks.items;
  dealt = subst (Each (IsDealt [])) (sym c.in_ok-all.ensures) (dealt_none c.args.desks.items);
}

pub loop-place-preserved : goal.loop-place-preserved
loop-place-preserved c =
    let lines : List ThrottleLine = c.args.lines.now in
    let i = c.loop-place.place in
    let within : i < length lines = omega arith in
    let line : ThrottleLine = get_or lines i no_line in
    let all : List Worker = c.loop-place.all.items in
    let count = length-map all (λ (w : Worker). w.desk) in
    let desks = ap length c.loop-place.invariant.desks in
    let here : line.worker < length all = omega (arith, c.requires i no_line within, count, desks) in
    record {
      desks = same_after (λ (w : Worker). w.desk) all line.worker c.give.new.worker c.index_mut.result.now (c.give.ensures.desk ∙ ap (λ (w : Worker). w.desk) c.index_mut.ensures.value) ∙ c.loop-place.invariant.desks;
      dealt = dealt_more lines all i c.give.new.worker c.index_mut.result.now c.job_of.result within here c.loop-place.invariant.dealt (c.in_ok-give.ensures.jobs ∙ ap (λ (w : Worker). w.jobs ++ c.job_of.result ∷ []) c.index_mut.ensures.value) c.job_of.ensures;
    }

pub returns-clause-dealt : goal.returns-clause-dealt
returns-clause-dealt c = subst (λ (lines : List ThrottleLine). Each (IsDealt lines) c.loop-place.all.items) (take_all c.loop-place.place c.args.lines.now c.loop-place-test.false) c.loop-place.invariant.dealt
