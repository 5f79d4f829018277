-- The calls of a lane in the history that its pass has seen at the end.
use Rattle.std.proofs.Common.{◌≡◌, ℕ, suc, ◌+◌, ◌≤◌, List, [], ◌∷◌, ◌++◌, length, length-append, sym, ◌∙◌, ap, subst, arith, append_assoc}
use Rattle.std.specs.List.{AllZip}
use Rattle.std.proofs.lemmas.List.{append-nil, get_or_append_left}
use mathlib.Core.List.{IsPrefix}
use Rattle.fn_model.specs.declared.Call.{Call}
use Rattle.fn_model.specs.declared.Kind.{Kind}
use Rattle.fn_model.specs.Calls.{own, place}
use Rattle.fn_model.specs.Integer.{Meets}
use Rattle.fn_model.proofs.Calls.{reply_stays}
use Rattle.fn_core.specs.declared.Start.{Start}
use Rattle.fn_core.specs.Calls.{IsIdle, left_of}
use Rattle.fn_core.specs.Laws.{AreNumbered}
use Rattle.fn_core.proofs.Public.{histories_go_on, own_calls_are_in_order}
use Rattle.fn_table.specs.Seen.{PassView, own_of}
use Rattle.fn_table.specs.Called.{call_of}
use Rattle.fn_table.specs.Claims.{past, mine, left, next_of, Made}
use Rattle.fn_future.specs.Calls.{IsMade}
use Rattle.fn_rounds.specs.Lanes.{HasOnlyScanned, AreMade}
use Rattle.fn_rounds.specs.InOrder.{numbered, MetBehind, MadeInOrder}
use Rattle.fn_rounds.specs.Views.{LaneView}
use Rattle.fn_rounds.specs.declared.lanes.LaneDone.{LaneDone}
use Rattle.fn_rounds.specs.Rounds.{AreAllMade, AreAllInOrder}

-- the number of a call behind others
number_behind : (n : ℕ) (xs : List Call) (call : Call) (ys : List Call) → AreNumbered n (xs ++ call ∷ ys) → call.number ≡ n + length xs
number_behind n [] call ys h = omega (arith, h.0)
number_behind n (x ∷ xs) call ys h = omega (arith, number_behind (suc n) xs call ys h.1)

-- a pass that makes a call has as many own calls in its history as it has made
own_count : (p q : PassView) (kind : Kind) (amount reply : ℕ) → IsMade p kind amount q reply → (own_of p).caller.made ≡ length (mine p)
own_count p q kind amount reply made =
    let legal = made.later.legal in
    let numbers : AreNumbered 0 (own p.number (past q)) = (own_calls_are_in_order q.seen.start q.seen.log legal.0 legal.1 p.number).0 in
    let number = number_behind 0 (mine p) (call_of p kind amount) [] (subst (AreNumbered 0) made.called.joined numbers) in
    omega (arith, number)

-- a call that was made, in words of the integer
pub made_in_words : (p : PassView) (kind : Kind) (amount : ℕ) (q : PassView) (reply : ℕ) → IsMade p kind amount q reply → Made p kind amount reply q
made_in_words p kind amount q reply made =
    let count = own_count p q kind amount reply made in
    let next : call_of p kind amount ≡ next_of p kind amount = λ i. record { pass = p.number; number = count i; kind = kind; amount = amount } in
    let number = made.later.number in
    record {
      same = (made.later.table, number, made.later.start);
      goes_on = histories_go_on p.seen q.seen made.later.legal made.later.start made.later.begins;
      mine_now = ap (λ (n : ℕ). own n (past q)) number ∙ made.called.joined ∙ ap (λ (call : Call). mine p ++ call ∷ []) next;
      behind = λ at stands. made.called.beyond at (ap (λ (n : ℕ). place p.number n (past q)) count ∙ stands);
      met = subst (λ (call : Call). Meets p.seen.start.cap p.seen.start.opening (past q) call reply) next (subst (λ (s : Start). Meets s.cap s.opening (past q) (call_of p kind amount) reply) made.later.start made.called.met);
      within = made.within;
      spent = ap (λ (n : ℕ). left_of q.seen n + amount) number ∙ made.called.spent;
      rests = subst (λ (n : ℕ). IsIdle q.seen n) (sym number) made.called.idle;
    }

-- a reply that was met stays met, in the same place
stays : (start : Start) (first last : List Call) → IsPrefix first last → (call : Call) (reply : ℕ) → Meets start.cap start.opening first call reply → Meets start.cap start.opening last call reply × (place call.pass call.number last ≡ place call.pass call.number first)
stays start first last (more, all) call reply met =
    let kept = reply_stays start.cap start.opening call.pass call.number first more met.0 met.1 in
    let size = length-append first more in
    let within = met.2 in
    let here : Meets start.cap start.opening (first ++ more) call reply = (met.0, kept.0, omega arith, get_or_append_left first more call met.0 met.2 ∙ met.3, kept.1 ∙ met.4) in (
      subst (λ (calls : List Call). Meets start.cap start.opening calls call reply) all here,
      ap (λ (calls : List Call). place call.pass call.number calls) (sym all) ∙ kept.0 ∙ sym met.1,
    )

longer : (first last : List Call) → IsPrefix first last → length first ≤ length last
longer first last (more, all) = omega (arith, ap length all, length-append first more)

goes_on_from : (first middle last : List Call) → IsPrefix first middle → IsPrefix middle last → IsPrefix first last
goes_on_from first middle last (a, e) (b, f) = (a ++ b, sym (append_assoc first a b) ∙ ap (λ (calls : List Call). calls ++ b) e ∙ f)

-- what stands behind many stands behind fewer
behind_fewer : (start : Start) (history : List Call) (few many : ℕ) → few ≤ many → (calls : List Call) (replies : List ℕ) → AllZip (MetBehind start history many) calls replies → AllZip (MetBehind start history few) calls replies
behind_fewer start history few many less [] [] met = met
behind_fewer start history few many less (call ∷ calls) (reply ∷ replies) met = (
  record { met = met.0.met; behind = λ at stands. (let beyond : many ≤ at = met.0.behind at stands in omega arith); within = met.0.within },
  behind_fewer start history few many less calls replies met.1,
)
behind_fewer start history few many less [] (reply ∷ replies) met = absurd met
behind_fewer start history few many less (call ∷ calls) [] met = absurd met

-- a pass that has made no call
none_in_order : (p q : PassView) → HasOnlyScanned p q → MadeInOrder p [] [] q
none_in_order p q scanned =
    let later = scanned.later in
    let number = later.number in
    let kept : left q ≡ left p = ap (λ (n : ℕ). left_of q.seen n) number ∙ scanned.none.left in
    record {
      same = (later.table, number, later.start);
      goes_on = histories_go_on p.seen q.seen later.legal later.start later.begins;
      mine_now = ap (λ (n : ℕ). own n (past q)) number ∙ scanned.none.calls ∙ sym (append-nil (mine p));
      met = tt;
      spent = omega (arith, kept);
      rests = scanned.idle;
    }

-- a call, and then the others
more_in_order : (p : PassView) (order : Kind × ℕ) (orders : List (Kind × ℕ)) (reply : ℕ) (replies : List ℕ) (r q : PassView) → Made p order.0 order.1 reply r → MadeInOrder r orders replies q → MadeInOrder p (order ∷ orders) (reply ∷ replies) q
more_in_order p order orders reply replies r q one others =
    let first : Call = next_of p order.0 order.1 in
    let n : ℕ = length (mine p) in
    let number = one.same.1 in
    let start = one.same.2 in
    let count : length (mine r) ≡ suc n = omega (arith, ap length one.mine_now, length-append (mine p) (first ∷ [])) in
    let same : numbered r.number (length (mine r)) orders ≡ numbered p.number (suc n) orders = ap (λ (w : ℕ). numbered w (length (mine r)) orders) number ∙ ap (λ (m : ℕ). numbered p.number m orders) count in
    let kept = stays p.seen.start (past r) (past q) others.goes_on first reply one.met in
    let less = longer (past p) (past r) one.goes_on in
    let rest : AllZip (MetBehind r.seen.start (past q) (length (past p))) (numbered r.number (length (mine r)) orders) replies = behind_fewer r.seen.start (past q) (length (past p)) (length (past r)) less (numbered r.number (length (mine r)) orders) replies others.met in
    let amount : ℕ = order.1 in
    let spent : left r + amount ≡ left p = one.spent in
    record {
      same = (others.same.0 ∙ one.same.0, others.same.1 ∙ number, others.same.2 ∙ start);
      goes_on = goes_on_from (past p) (past r) (past q) one.goes_on others.goes_on;
      mine_now = others.mine_now ∙ (λ i. one.mine_now i ++ same i) ∙ append_assoc (mine p) (first ∷ []) (numbered p.number (suc n) orders);
      met = (
        record { met = kept.0; behind = λ at stands. one.behind at (sym kept.1 ∙ stands); within = one.within },
        subst (λ (s : Start). AllZip (MetBehind s (past q) (length (past p))) (numbered p.number (suc n) orders) replies) start
            (subst (λ (calls : List Call). AllZip (MetBehind r.seen.start (past q) (length (past p))) calls replies) same rest),
      );
      spent = omega (arith, others.spent, spent);
      rests = others.rests;
    }

-- the own calls of a pass that has made orders one after the other grew by exactly these, in order
pub in_order : (p : PassView) (orders : List (Kind × ℕ)) (replies : List ℕ) (q : PassView) → AreMade p orders replies q → MadeInOrder p orders replies q
in_order p [] [] q made = none_in_order p q made
in_order p (order ∷ orders) (reply ∷ replies) q (r, one, rest) = more_in_order p order orders reply replies r q (made_in_words p order.0 order.1 r reply one) (in_order r orders replies q rest)
in_order p [] (reply ∷ replies) q made = absurd made
in_order p (order ∷ orders) [] q made = absurd made

-- .. and so those of each lane
pub all_in_order : (lanes : List LaneView) (dones : List LaneDone) → AreAllMade lanes dones → AreAllInOrder lanes dones
all_in_order [] [] made = tt
all_in_order (lane ∷ lanes) (done ∷ dones) made = (in_order lane.given lane.orders done.replies done.pass made.0, all_in_order lanes dones made.1)
all_in_order [] (done ∷ dones) made = absurd made
all_in_order (lane ∷ lanes) [] made = absurd made
