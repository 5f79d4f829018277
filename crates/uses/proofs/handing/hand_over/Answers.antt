-- What comes out is what went in.
use Rattle.std.proofs.Common.{◌≡◌, List, [], ◌∷◌, ◌++◌, sym, ◌∙◌, ap, subst, All}
use Rattle.std.proofs.lemmas.List.Elements.{All-cons, All-nil}
use Rattle.tq_queue.specs.Seen.{QueueView, CallerView, IsOf, IsClosed}
use Rattle.uses.proofs.Handed.{are_two, emptied, same_item, one_ticket}
use Rattle.uses.proofs.handing.hand_over.Goals as goal

pub close-book-requires-clause-together : goal.close-book-requires-clause-together
close-book-requires-clause-together g c =
    let q : QueueView = c.in_ok-queue.queue in
    let giver : CallerView g.row.T.Denot = c.join-giver.result.0 in
    let taker : CallerView g.row.T.Denot = c.join-giver.result.1.0 in
    let left = emptied c.pop-2.new.self.items c.in-Some-Some.giver c.in-Some-Some.taker _ _ (ap (λ (ps : List (CallerView g.row.T.Denot)). ps ++ c.in-Some-Some.taker ∷ []) (sym c.in-Some-Some.ensures'.items) ∙ sym c.in-Some-Some.ensures.items ∙ are_two q c.in_ok-queue.passes.items c.in_ok-queue.ensures.queue c.in_ok-queue.ensures.passes) in
    let are : c.push-2.new.self.items ≡ giver ∷ taker ∷ [] =
    c.in_ok-push-2.ensures.items ∙ ap (λ (ps : List (CallerView g.row.T.Denot)). ps ++ taker ∷ []) (c.in_ok-push.ensures.items ∙ ap (λ (ps : List (CallerView g.row.T.Denot)). ps ++ giver ∷ []) left.0) in
    subst (All (IsOf q)) (sym are) (All-cons (IsOf q) giver (taker ∷ []) c.join-giver.ensures.first.together (All-cons (IsOf q) taker [] c.join-giver.ensures.second.together (All-nil (IsOf q))))

pub returns : goal.returns
returns g c =
    let q : QueueView = c.in_ok-queue.queue in
    let giver : CallerView g.row.T.Denot = c.join-giver.result.0 in
    let taker : CallerView g.row.T.Denot = c.join-giver.result.1.0 in
    let left = emptied c.pop-2.new.self.items c.in-Some-Some.giver c.in-Some-Some.taker _ _ (ap (λ (ps : List (CallerView g.row.T.Denot)). ps ++ c.in-Some-Some.taker ∷ []) (sym c.in-Some-Some.ensures'.items) ∙ sym c.in-Some-Some.ensures.items ∙ are_two q c.in_ok-queue.passes.items c.in_ok-queue.ensures.queue c.in_ok-queue.ensures.passes) in
    let are : c.push-2.new.self.items ≡ giver ∷ taker ∷ [] =
    c.in_ok-push-2.ensures.items ∙ ap (λ (ps : List (CallerView g.row.T.Denot)). ps ++ taker ∷ []) (c.in_ok-push.ensures.items ∙ ap (λ (ps : List (CallerView g.row.T.Denot)). ps ++ giver ∷ []) left.0) in
    let closed = subst (λ (ps : List (CallerView g.row.T.Denot)). IsClosed q ps c.close-book.result) are c.close-book.ensures.closed in
    let same = same_item q c.in-Some-Some.giver c.in-Some-Some.taker giver taker c.args.item c.join-giver.result.1.1 c.close-book.result c.in_ok-queue.ensures.queue left.1 left.2 c.join-giver.ensures.first c.join-giver.ensures.second closed c.close-book.ensures.sound in
    let one = one_ticket q c.in-Some-Some.giver c.in-Some-Some.taker giver taker c.args.item c.join-giver.result.1.1 c.close-book.result c.in_ok-queue.ensures.queue left.1 left.2 c.join-giver.ensures.first c.join-giver.ensures.second closed c.close-book.ensures.sound in
    (same, c.puts.ensures ∙ one)
