-- One more worker is engaged.
use Rattle.std.proofs.Common.{◌≡◌, ◌<◌, ◌≤◌, ◌++◌, ◌∷◌, [], length, ap, sym, ◌∙◌, refl, subst, arith, append_assoc, All, Some}
use Rattle.std.specs.Vec.Iter.{into_iter_items}
use Rattle.std.proofs.lemmas.List.{length-append}
use Rattle.std.proofs.lemmas.List.Elements.{All-push}
use Rattle.running.specs.Running.{upto}
use Rattle.relay_run.specs.declared.workers.Worker.{Worker}
use Rattle.tq_queue.specs.Seen.{fresh}
use Rattle.relay_run.specs.declared.lines.TheConstants.{MOST_LINES}
use Rattle.relay_run.specs.declared.shares.Share.{Share}
use Rattle.relay_run.specs.Work.{IsReady, HasPlaces}
use Rattle.relay_run.proofs.Moving.{pass_at_place, is_ready, numbers_more, passes_count}
use Rattle.relay_run.proofs.Strides.{lines_few}
use Rattle.relay_run.proofs.workers.engage.Goals as goal

pub size-owed-requires-clause-worker : goal.size-owed-requires-clause-worker
size-owed-requires-clause-worker c =
    let so_far = c.loop-pass.invariant in
    let here = pass_at_place c.args.queue.now c.args.passes.items c.loop-pass.yielded (into_iter_items c.next.new.self) c.in-Some.pass c.requires.passes (ap (λ l. c.loop-pass.yielded ++ l) (sym c.in-Some.ensures.steps.0) ∙ so_far.rest) in
    omega (arith, so_far.number, here.1, c.requires.workers)

pub overflow_add-worker : goal.overflow_add-worker
overflow_add-worker c =
    let so_far = c.loop-pass.invariant in
    let here = pass_at_place c.args.queue.now c.args.passes.items c.loop-pass.yielded (into_iter_items c.next.new.self) c.in-Some.pass c.requires.passes (ap (λ l. c.loop-pass.yielded ++ l) (sym c.in-Some.ensures.steps.0) ∙ so_far.rest) in
    omega (arith, so_far.number, here.1, c.requires.workers, c.ranges.workers.fits)

pub loop-pass-preserved : goal.loop-pass-preserved
loop-pass-preserved c =
    let so_far = c.loop-pass.invariant in
    let rest = ap (λ l. c.loop-pass.yielded ++ l) (sym c.in-Some.ensures.steps.0) ∙ so_far.rest in
    let here = pass_at_place c.args.queue.now c.args.passes.items c.loop-pass.yielded (into_iter_items c.next.new.self) c.in-Some.pass c.requires.passes rest in
    let inside : c.loop-pass.worker < c.args.workers = omega (arith, so_far.number, here.1, c.requires.workers) in
    let share : Share = record { worker = c.loop-pass.worker; workers = c.args.workers } in
    let worker : Worker = record { share = share; desk = Some (record { pass = c.in-Some.pass; owed = c.size-owed.result }); tickets = c.in_ok-tickets.tickets } in
    let places : length c.in_ok-tickets.tickets.items ≡ c.size-owed.result = omega (arith, c.in_ok-tickets.ensures.len, c.in_ok-tickets.tickets.ok.0) in
    let few : length c.in_ok-tickets.tickets.items ≤ MOST_LINES = omega (arith, places, c.size-owed.ensures, lines_few c.args.workers c.args.lines c.loop-pass.worker, c.requires.lines) in
    let P : Worker → Type 0 = IsReady c.args.queue.now in
    let Q : Worker → Type 0 = HasPlaces c.args.workers c.args.lines in
    record {
      number = omega (arith, so_far.number, length-append c.loop-pass.yielded (c.in-Some.pass ∷ []));
      left = omega (arith, so_far.left, c.in-Some.ensures.steps.1);
      rest = append_assoc c.loop-pass.yielded (c.in-Some.pass ∷ []) (into_iter_items c.next.new.self) ∙ rest;
      numbers = numbers_more c.loop-pass.all.items c.push.new.self.items worker c.loop-pass.worker c.in_ok-push.ensures.items refl so_far.numbers;
      ready = subst (All P) (sym c.in_ok-push.ensures.items)
          (All-push P c.loop-pass.all.items worker so_far.ready (is_ready c.args.queue.now c.loop-pass.worker _ worker refl refl (here.0 ∙ ap (fresh c.args.queue.now) (sym so_far.number)) (sym places) few));
      places = subst (All Q) (sym c.in_ok-push.ensures.items) (All-push Q c.loop-pass.all.items worker so_far.places (record { all = refl; inside = inside; places = places ∙ c.size-owed.ensures }));
    }

pub returns-clause-numbers : goal.returns-clause-numbers
returns-clause-numbers c =
    let so_far = c.loop-pass.invariant in
    let all : c.loop-pass.worker ≡ c.args.workers = omega (arith, so_far.left, c.in-None.ensures.steps.0, passes_count c.args.queue.now c.args.passes.items c.requires.passes, c.requires.workers) in
    so_far.numbers ∙ ap upto all
