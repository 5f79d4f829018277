use Rattle.std.proofs.Common.{rules, ◌≡◌, ◌<◌, ◌∷◌, ◌++◌, [], length, refl}
use Rattle.std.proofs.lemmas.List.{map-append, take_more}
use Rattle.tool_run.proofs.telling.values_of.Goals as goal

pub loop-book-preserved : goal.loop-book-preserved
loop-book-preserved c =
    let items : c.push.new.self.items ≡ c.loop-book.values.items ++ c.value.result ∷ [] = search rules in
    let within : c.loop-book.book-index < length c.args.books.now = search rules in
    let more = take_more c.args.books.now c.loop-book.book-index c.book-item.result within in
    rw (more, map-append, ← c.book-item.is, items, c.loop-book.invariant, c.value.ensures) refl
