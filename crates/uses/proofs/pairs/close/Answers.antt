-- The book has the calls of both passes.
use Rattle.std.proofs.Common.{◌≡◌, [], ◌∷◌, ◌++◌, List, ◌∙◌, ap}
use Rattle.fn_table.specs.Seen.{PassView}
use Rattle.uses.proofs.Books.{is_book}
use Rattle.uses.proofs.pairs.close.Goals as goal

pub returns : goal.returns
returns c =
    let first : PassView = c.args.first in
    let second : PassView = c.args.second in
    let are : c.push-2.new.self.items ≡ first ∷ second ∷ [] = c.in_ok-push-2.ensures.items ∙ ap (λ (ps : List PassView). ps ++ second ∷ []) (c.in_ok-push.ensures.items ∙ ap (λ (ps : List PassView). ps ++ first ∷ []) c.new-passes.ensures.items) in
    is_book c.args.funnel first second c.push-2.new.self.items c.close.result are c.requires.two c.requires.passes.0.together c.requires.passes.0.named c.requires.passes.1.together c.requires.passes.1.named
    (record { start = c.close.ensures.start; closed = c.close.ensures.passes; calls = c.close.ensures.calls })
