-- The newlines of the pieces are those of the text.
use Rattle.std.proofs.Common.{◌≡◌, List, ℕ, length, map, sym, ap, ◌∙◌, subst, Bor}
use Rattle.std.proofs.lemmas.List.{length-map}
use Rattle.std.proofs.lemmas.Result.{IfOk-weaker}
use Rattle.fn_spread.specs.Account.{IsBookOfDraws}
use Rattle.fn_spread.specs.Tally.{newlines_in, pieces_in}
use Rattle.fn_spread.proofs.Tallies.{all_newlines}
use Rattle.fn_spread.proofs.tallying.count_newlines.Goals as goal

pub returns-clause-newlines : goal.returns-clause-newlines
returns-clause-newlines g c =
    let now = λ (piece : Bor (List ℕ)). piece.now in
    IfOk-weaker c.count_pieces.result _ _
    (λ counted counts. all_newlines now c.in_ok-pieces.pieces.items c.args.bytes.now counted.results.items (counts ∙ ap (map (λ (piece : Bor (List ℕ)). newlines_in piece.now)) c.deref.ensures.value) c.in_ok-pieces.ensures) c.count_pieces.ensures.counts

pub returns-clause-book : goal.returns-clause-book
returns-clause-book g c =
    let now = λ (piece : Bor (List ℕ)). piece.now in
    let size : length c.deref.result.now ≡ pieces_in (length c.args.bytes.now) = ap length c.deref.ensures.value ∙ sym (length-map c.in_ok-pieces.pieces.items now) ∙ c.in_ok-pieces.ensures.1 in
    IfOk-weaker c.count_pieces.result _ _ (λ counted book. subst (λ n. IsBookOfDraws c.args.workers c.args.grain n counted.draws.items counted.book) size book) c.count_pieces.ensures.book
