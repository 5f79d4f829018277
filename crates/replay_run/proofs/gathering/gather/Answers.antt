use Rattle.std.proofs.Common.{◌≡◌, ◌+◌, ◌<◌, ◌++◌, ◌∷◌, [], ℕ, List, length, take, get_or, set, sym, ap, ◌∙◌, arith, length-append, length-set, append_assoc, length-take-le}
use Rattle.quota_pool.specs.declared.moved.Moved.{Moved}
use Rattle.trace_text.specs.declared.traces.Row.{Row}
use Rattle.replay_run.specs.declared.places.Place.{Place}
use Rattle.replay_run.specs.Work.{Seat, no_row, of_worker, gathered, seats}
use Rattle.replay_run.proofs.Rows.{own_within, own_most}
use Rattle.replay_run.proofs.Counts.{answer_of, length_gathered, gathered-more, next_more}
use Rattle.replay_run.proofs.Seated.{has_answer, answer_is}
use Rattle.replay_run.proofs.gathering.gather.Goals as goal

pub count_up-at-requires-clause-room : goal.count_up-at-requires-clause-room
count_up-at-requires-clause-room c =
    let rows : List Row = c.args.rows.now in
    let i = c.loop-row.row-index in
    let within : i < length rows = omega arith in
    let worker = (get_or rows i no_row).worker in
    let at = c.loop-row.invariant.next worker (c.requires.workers i no_row within) in
    omega (arith, at, own_within rows i within, own_most worker rows)

pub index-requires : goal.index-requires
index-requires c =
    let rows : List Row = c.args.rows.now in
    let i = c.loop-row.row-index in
    let within : i < length rows = omega arith in
    let row : Row = get_or rows i no_row in
    let here : row.worker < length c.args.places.now = c.requires.workers i no_row within in
    let at : c.count_up-at.result ≡ length (of_worker row.worker (take i rows)) = c.count_up-at.ensures.before ∙ c.loop-row.invariant.next row.worker here in
    omega (arith, has_answer rows c.args.places.now i within c.requires.dealt here c.index-places-worker.result c.index-places-worker.is c.count_up-at.result at, c.index-places-worker.result.jobs.answers.ok.0)

pub unreachable-requires : goal.unreachable-requires
unreachable-requires c =
    let rows : List Row = c.args.rows.now in
    let i = c.loop-row.row-index in
    let within : i < length rows = omega arith in
    let all : List Seat = seats rows c.args.places.now in
    let items = ap length c.loop-row.invariant.answers in
    omega (arith, c.in-Err.ensures.full, c.requires.room, c.loop-row.invariant.room, c.loop-row.answers.ok.0, items, length-append c.args.answers.now.items (gathered (take i rows) all), length_gathered [] all (take i rows), length-take-le i rows (omega arith))

pub loop-row-preserved : goal.loop-row-preserved
loop-row-preserved c =
    let rows : List Row = c.args.rows.now in
    let i = c.loop-row.row-index in
    let within : i < length rows = omega arith in
    let row : Row = get_or rows i no_row in
    let places : List Place = c.args.places.now in
    let all : List Seat = seats rows places in
    let here : row.worker < length places = c.requires.workers i no_row within in
    let at : c.count_up-at.result ≡ length (of_worker row.worker (take i rows)) = c.count_up-at.ensures.before ∙ c.loop-row.invariant.next row.worker here in
    let after : c.count_up-at.new.counts ≡ set c.loop-row.next row.worker (get_or c.loop-row.next row.worker 0 + 1) = c.count_up-at.ensures.after ∙ ap (λ (n : ℕ). set c.loop-row.next row.worker (n + 1)) c.count_up-at.ensures.before in
    let answer : c.index.result.now ≡ answer_of (take i rows) all row = c.index.ensures ∙ answer_is rows places i within c.requires.dealt here c.index-places-worker.result c.index-places-worker.is c.count_up-at.result at c.index.result.now in
    record {
      next = λ worker below. ap (λ (ns : List ℕ). get_or ns worker 0) after ∙ next_more rows all i within c.loop-row.next (length places) c.loop-row.invariant.size here c.loop-row.invariant.next worker below;
      size = ap length after ∙ length-set c.loop-row.next row.worker (get_or c.loop-row.next row.worker 0 + 1) ∙ c.loop-row.invariant.size;
      answers = c.in-Ok.ensures.items ∙ ap (λ (xs : List Moved). xs ++ c.index.result.now ∷ []) c.loop-row.invariant.answers
          ∙ append_assoc c.args.answers.now.items (gathered (take i rows) all) (c.index.result.now ∷ [])
          ∙ ap (λ (x : Moved). c.args.answers.now.items ++ (gathered (take i rows) all ++ x ∷ [])) answer ∙ ap (λ (xs : List Moved). c.args.answers.now.items ++ xs) (sym (gathered-more rows all i within));
      room = omega (arith, c.loop-row.invariant.room, c.push.ensures.capacity);
    }
