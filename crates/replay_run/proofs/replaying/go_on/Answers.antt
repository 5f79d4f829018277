use Rattle.std.proofs.Common.{length, map, ap, ◌∙◌, arith}
use Rattle.std.proofs.lemmas.List.{length-map}
use Rattle.trace_text.specs.declared.traces.Tenant.{Tenant}
use Rattle.replay_run.specs.Replay.{value_in}
use Rattle.replay_run.proofs.replaying.go_on.Goals as goal

pub settle-requires : goal.settle-requires
settle-requires g c =
    let segment = c.in_ok-books.ensures.segment.segment in
    omega (arith, c.requires.sound.one_each, length-map c.args.tenants.now (λ (t : Tenant). t.cap), segment.all, ap length c.deref.ensures.value)

pub keep-requires : goal.keep-requires
keep-requires g c = omega (arith, c.in_ok-books.ensures.segment.segment.all, c.requires.shelf)

pub returns-clause-more : goal.returns-clause-more
returns-clause-more g c =
    let adds = c.in_ok-books.ensures.segment in
    record {
      answers = adds.answers;
      books = c.in_ok-books.books.items;
      more_answers = adds.added;
      more_books = c.keep.ensures.books;
      segment = adds.segment;
      settled = c.settle.ensures ∙ ap (map value_in) c.deref.ensures.value;
    }
