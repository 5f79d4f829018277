-- What a call tells of the own answers of its pass, and what an entry tells of the own entries of its seat.
use Rattle.std.proofs.Common.{◌≡◌, ℕ, List, [], ◌∷◌, ◌++◌, Bool, cond, refl, sym, ◌∙◌, ap}
use Rattle.std.specs.Prelude.{◌==◌, filter}
use Rattle.std.proofs.lemmas.Bool.{eq-eqb}
use Rattle.std.proofs.lemmas.List.Elements.{filter-append}
use mathlib.Core.List.{IsPrefix}
use Rattle.fn_model.specs.declared.Call.{Call}
use Rattle.fn_model.specs.Calls.{own, place}
use Rattle.fn_model.specs.Integer.{before}
use Rattle.fn_core.specs.declared.Start.{Start}
use Rattle.fn_core.specs.Calls.{CoreLog, calls_in, IsLegal}
use Rattle.fn_core.proofs.Public.{histories_go_on}
use Rattle.fn_table.specs.Claims.{past, mine, next_of}
use Rattle.tq_cells.specs.declared.entry.Entry.{Entry}
use Rattle.tq_cells.specs.declared.entry.Event as cell
use Rattle.tq_cells.specs.Seen.{SeatView, IsSame, Entered, entries_of}
use Rattle.tq_queue.specs.Answers.{Answered, answered, answers_of}
use Rattle.tq_queue.specs.Kept.{own_answers}
use Rattle.tq_queue.specs.Laws.{CallsAreAnswered}
use Rattle.tq_queue.proofs.Growing.{answers_stay, answers_push}

-- the history of a log that goes on from another
grown : (old new : CoreLog) → new.start ≡ old.start → IsLegal new → IsPrefix old.log new.log → (more : List Call) × (calls_in new ≡ calls_in old ++ more)
grown old new same legal begins = let further = histories_go_on old new legal same begins in (further.0, sym further.1)

-- the answers of a pass are the same in each later history to which it has added no call
pub answers_kept : (number : ℕ) (old new : CoreLog) → new.start ≡ old.start → IsLegal new → IsPrefix old.log new.log → own number (calls_in new) ≡ own number (calls_in old)
    → answers_of number (answered new.start.cap new.start.opening (calls_in new)) ≡ answers_of number (answered old.start.cap old.start.opening (calls_in old))
answers_kept number old new same legal begins calls =
    let further = grown old new same legal begins in
    ap (λ (start : Start). answers_of number (answered start.cap start.opening (calls_in new))) same
    ∙ ap (λ (xs : List Call). answers_of number (answered old.start.cap old.start.opening xs)) further.1
    ∙ answers_stay old.start.cap number old.start.opening (calls_in old) further.0 (ap (own number) (sym further.1) ∙ calls)

-- a call that a pass has made is its last answer
pub calls_are_answered : CallsAreAnswered
calls_are_answered p kind amount reply q made =
    let call : Call = next_of p kind amount in
    let cap : ℕ = p.seen.start.cap in
    let opening : ℕ = p.seen.start.opening in
    let more : List Call = made.goes_on.0 in
    let is : past q ≡ past p ++ more = sym made.goes_on.1 in
    let joined : own p.number (past p ++ more) ≡ mine p ++ call ∷ [] = ap (own p.number) (sym is) ∙ ap (λ (n : ℕ). own n (past q)) (sym made.same.1) ∙ made.mine_now in
    let i : ℕ = made.met.0 in
    let stands = made.met.1 in
    let reply_is : before cap opening (past p ++ more) i ≡ reply = ap (λ (xs : List Call). before cap opening xs i) (sym is) ∙ made.met.4 in
    ap (λ (n : ℕ). answers_of n (answered q.seen.start.cap q.seen.start.opening (past q))) made.same.1
    ∙ ap (λ (start : Start). answers_of p.number (answered start.cap start.opening (past q))) made.same.2
    ∙ ap (λ (xs : List Call). answers_of p.number (answered cap opening xs)) is
    ∙ answers_push cap p.number opening (past p) more call i refl joined (ap (λ (xs : List Call). place p.number call.number xs) (sym is) ∙ stands) (made.behind i stands)
    ∙ ap (λ (n : ℕ). let last : Answered = record { call = call; met = n } in own_answers p ++ last ∷ []) reply_is

module _ {T : Type 0} where
  -- the same seat, by one that stands between
  pub same_on : (p r q : SeatView T) → IsSame p r → IsSame r q → IsSame p q
  same_on p r q first second = (second.0 ∙ first.0, second.1 ∙ first.1, second.2 ∙ first.2)

  -- an entry joins the seat's own
  pub own_grows : (p : SeatView T) (entry : Entry T) (q : SeatView T) → Entered p entry q → entries_of q.number q.log ≡ entries_of p.number p.log ++ record { seat = p.number; entry = entry } ∷ []
  own_grows p entry q e =
      let event : cell.Event T = record { seat = p.number; entry = entry } in
      ap (λ (s : SeatView T). entries_of s.number s.log) e.now
      ∙ filter-append (λ (x : cell.Event T). x.seat == p.number) e.before (event ∷ [])
      ∙ ap (λ (l : List (cell.Event T)). l ++ filter (λ (x : cell.Event T). x.seat == p.number) (event ∷ [])) e.own
      ∙ ap (λ (b : Bool). entries_of p.number p.log ++ cond b (event ∷ []) []) (eq-eqb p.number p.number refl)
