use Rattle.std.proofs.Common.{◌<◌, List, length, get_or, refl, ◌∙◌, subst, arith, take_all}
use Rattle.trace_text.specs.declared.traces.Row.{Row}
use Rattle.replay_run.specs.declared.places.Place.{Place}
use Rattle.replay_run.specs.Work.{no_row, of_worker, IsFresh}
use Rattle.replay_run.proofs.Rows.{same_after}
use Rattle.replay_run.proofs.Dealt.{dealt_none, dealt_more}
use Rattle.replay_run.proofs.places.deal.Goals as goal

pub loop-at-init : goal.loop-at-init
loop-at-init c = record { desks = refl; dealt = dealt_none c.args.rows.now c.args.places.now c.requires.empty }

pub loop-at-preserved : goal.loop-at-preserved
loop-at-preserved c =
    let rows : List Row = c.args.rows.now in
    let i = c.loop-at.at in
    let within : i < length rows = omega arith in
    let row : Row = get_or rows i no_row in
    let here : row.worker < length c.loop-at.places = omega (arith, c.requires.workers i no_row within, c.loop-at.auto.places) in
    record {
      desks = same_after (λ (p : Place). p.desk) c.loop-at.places row.worker c.give.new.place c.index-places-row.result c.give.ensures.desk ∙ c.loop-at.invariant.desks;
      dealt = dealt_more rows c.loop-at.places i c.give.new.place c.index-places-row.result within here c.loop-at.invariant.dealt c.in_ok-give.ensures.numbers c.give.ensures.answers;
    }

pub returns-in_err-give-clause-desks : goal.returns-in_err-give-clause-desks
returns-in_err-give-clause-desks c =
    same_after (λ (p : Place). p.desk) c.loop-at.places (get_or c.args.rows.now c.loop-at.at no_row).worker c.give.new.place c.index-places-row.result c.give.ensures.desk ∙ c.loop-at.invariant.desks

pub returns-clause-rows : goal.returns-clause-rows
returns-clause-rows c =
    λ worker d below. subst (λ (rows : List Row). IsFresh c.args.rows.now (of_worker worker rows) (get_or c.loop-at.places worker d).jobs) (take_all c.loop-at.at c.args.rows.now c.loop-at-test.false) (c.loop-at.invariant.dealt worker d below)
