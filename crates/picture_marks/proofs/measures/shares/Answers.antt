use Rattle.std.proofs.Common.{◌<◌, ◌≤◌, ◌==◌, length, take, get_or, set, ◌+◌, ◌∙◌, sym, ap, arith}
use Rattle.std.proofs.lemmas.Grind.{get_or_default_zero}
use Rattle.std.proofs.lemmas.List.{take_all, length-set, length-take}
use Rattle.std.proofs.lemmas.List.FromFn.{fill_by_all}
use Rattle.std.proofs.lemmas.List.Sums.{count_by-le-length}
use Rattle.picture_marks.specs.declared.marks.Mark.{Mark}
use Rattle.picture_marks.proofs.Counted.{share, share-more, share-none}
use Rattle.picture_marks.proofs.measures.shares.Goals as goal
use Rattle.picture_marks.proofs.measures.shares.Goals.{then-mark-workers, else-mark-workers}

no_mark : Mark
no_mark = record { worker = 0; at = 0; before = 0; after = 0 }

-- no worker has more marks than were passed
pub overflow_add-index_mut : goal.overflow_add-index_mut
unfolding no_mark
overflow_add-index_mut c =
    let worker = (get_or c.args.column.now c.loop-mark.mark-index no_mark).worker in
    let known = c.loop-mark.invariant.each worker c.if-mark-workers.true in
    let few = count_by-le-length (λ (mark : Mark). mark.worker == worker) (take c.loop-mark.mark-index c.args.column.now) in
    let taken = length-take c.loop-mark.mark-index c.args.column.now in
    let held : worker < length c.loop-mark.shares.items = omega (arith, c.if-mark-workers.true, c.loop-mark.invariant.count) in
    let read = c.index_mut.ensures.value ∙ get_or_default_zero c.loop-mark.shares.items worker c.index_mut.result.now held in
    let small : c.index_mut.result.now ≤ c.loop-mark.mark-index = omega (arith, read, known, few, taken) in
    omega arith

pub loop-mark-preserved : goal.loop-mark-preserved
unfolding no_mark
loop-mark-preserved c =
    let marks = c.args.column.now in
    let at = c.loop-mark.mark-index in
    let known = c.loop-mark.invariant in
    elim c.if-mark-workers.branch [
      | then-mark-workers w ↦
          let mine = (get_or marks at no_mark).worker in
          let items = ap (λ shares. shares.items) w.shares-is in
          let held : mine < length c.loop-mark.shares.items = omega (arith, w.if-mark-workers.true, known.count) in
          let read = w.index_mut.ensures.value ∙ get_or_default_zero c.loop-mark.shares.items mine w.index_mut.result.now held in
          record {
            count = ap length items ∙ length-set c.loop-mark.shares.items mine (w.index_mut.result.now + 1) ∙ known.count;
            each = λ worker less.
                ap (λ list. get_or list worker 0) items
                ∙ ap (λ n. get_or (set c.loop-mark.shares.items mine (n + 1)) worker 0) read
                ∙ share-more c.args.workers c.loop-mark.shares.items marks at no_mark c.loop-mark-test.true known.count w.if-mark-workers.true known.each worker less;
          }
      | else-mark-workers w ↦
          let items = ap (λ shares. shares.items) w.shares-is in
          record {
            count = ap length items ∙ known.count;
            each = λ worker less.
                ap (λ list. get_or list worker 0) items ∙ known.each worker less
                ∙ sym (share-none c.args.workers marks at no_mark c.loop-mark-test.true w.if-mark-workers.false worker less);
          }
    ]

pub returns : goal.returns
returns c =
    fill_by_all (share c.args.column.now) c.loop-mark.shares.items c.args.workers 0 c.loop-mark.invariant.count
    (λ worker less. c.loop-mark.invariant.each worker less ∙ ap (λ marks. share marks worker) (take_all c.loop-mark.mark-index c.args.column.now c.loop-mark-test.false))
