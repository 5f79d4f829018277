-- The calls of lanes in the book of their table, which opened for them.
use Rattle.std.proofs.Common.{◌≡◌, ◌≢◌, ◌+◌, ◌-◌, ◌<◌, ◌≤◌, ◌==◌, ℕ, suc, Bool, false, cond, List, [], ◌∷◌, ◌++◌, Some, length, slice_get, get_or, refl, ap, ◌∙◌, subst, arith}
use Rattle.std.proofs.lemmas.Bool.{ne_eqb}
use Rattle.std.proofs.lemmas.List.{length-append, get_or_append_left}
use Rattle.std.proofs.lemmas.List.Elements.{All-head, All-tail, All-weaker}
use Rattle.std.proofs.lemmas.Option.{same_Some}
use Rattle.std.proofs.lemmas.Slice.Zip.{AllZip-long}
use Rattle.std.specs.List.{All, AllZip}
use mathlib.Core.List.{IsPrefix}
use Rattle.fn_model.specs.declared.Call.{Call}
use Rattle.fn_model.specs.declared.Kind.{Kind}
use Rattle.fn_model.specs.Calls.{own}
use Rattle.fn_model.specs.Integer.{Meets}
use Rattle.fn_model.proofs.Calls.{reply_stays}
use Rattle.fn_core.specs.declared.Start.{Start}
use Rattle.fn_core.specs.State.{State, opened, history_in}
use Rattle.fn_core.specs.Calls.{CoreLog, calls_in, state_in, IsLegal}
use Rattle.fn_core.proofs.Public.{calls_are_of_passes}
use Rattle.fn_table.specs.Seen.{TableView, PassView, fresh}
use Rattle.fn_table.proofs.Glances.{glances_idle, glances_run}
use Rattle.fn_table.specs.Claims.{past, mine, left, Rests}
use Rattle.fn_rounds.specs.InOrder.{call_at, numbered, MetBehind, MadeInOrder}

-- a reply stays what its call meets while the history grows
reply_later : (cap opening : ℕ) (first last : List Call) → IsPrefix first last → (call : Call) (reply : ℕ) → Meets cap opening first call reply → Meets cap opening last call reply
reply_later cap opening first last (more, all) call reply met =
    let stays = reply_stays cap opening call.pass call.number first more met.0 met.1 in
    subst (λ (calls : List Call). Meets cap opening calls call reply) all
    (met.0, stays.0, (let size = length-append first more in let within = met.2 in omega arith), get_or_append_left first more call met.0 met.2 ∙ met.3, stays.1 ∙ met.4)

pub length_numbered : (pass n : ℕ) (orders : List (Kind × ℕ)) → length (numbered pass n orders) ≡ length orders
length_numbered pass n [] = refl
length_numbered pass n (order ∷ orders) = ap suc (length_numbered pass (suc n) orders)

-- the reply of the call behind others of its lane
reply_of_next : (start : Start) (history : List Call) (since pass n : ℕ) (earlier : List (Kind × ℕ)) (order : Kind × ℕ) (later : List (Kind × ℕ)) (replies : List ℕ) (reply : ℕ)
    → AllZip (MetBehind start history since) (numbered pass n (earlier ++ order ∷ later)) replies → slice_get replies (length earlier) ≡ Some reply → Meets start.cap start.opening history (call_at pass (n + length earlier) order) reply
reply_of_next start history since pass n [] order later [] reply met at = absurd met
reply_of_next start history since pass n [] order later (first ∷ replies) reply met at =
    let same : n ≡ n + 0 = omega arith in
    subst (λ (m : ℕ). Meets start.cap start.opening history (call_at pass m order) reply) same (subst (λ (r : ℕ). Meets start.cap start.opening history (call_at pass n order) r) (same_Some first reply at) met.0.met)
reply_of_next start history since pass n (one ∷ earlier) order later [] reply met at = absurd met
reply_of_next start history since pass n (one ∷ earlier) order later (first ∷ replies) reply met at =
    let same : suc n + length earlier ≡ n + suc (length earlier) = omega arith in
    subst (λ (m : ℕ). Meets start.cap start.opening history (call_at pass m order) reply) same (reply_of_next start history since pass (suc n) earlier order later replies reply met.1 at)

-- a pass of a table that has just opened has made no call, and all its allowance is left
module _ (t : TableView) (pass : ℕ) where
  abbrev first : PassView
  first = fresh t pass

  as_opened : state_in first.seen ≡ opened t.start
  as_opened = glances_run t.start (opened t.start) (t.start.shape.passes - 1)

  pub fresh_rests : Rests first
  fresh_rests = glances_idle t.start pass (t.start.shape.passes - 1)

  pub fresh_left : left first ≡ get_or t.start.allowances pass 0
  fresh_left = ap (λ (s : State). (s.callers pass).left) as_opened

  fresh_mine : mine first ≡ []
  fresh_mine = ap (λ (s : State). own pass (history_in t.start s)) as_opened

  -- .. so its lane's calls are all that it has made
  module _ (orders : List (Kind × ℕ)) (replies : List ℕ) (q : PassView) (made : MadeInOrder first orders replies q) where
    numbers_are : numbered pass (length (mine first)) orders ≡ numbered pass 0 orders
    numbers_are = ap (λ (calls : List Call). numbered pass (length calls) orders) fresh_mine

    pub its_calls : mine q ≡ numbered pass 0 orders
    its_calls = made.mine_now ∙ (λ i. fresh_mine i ++ numbers_are i)

    pub as_many : length replies ≡ length orders
    as_many = AllZip-long (MetBehind t.start (past q) (length (past first))) (numbered pass (length (mine first)) orders) replies made.met ∙ length_numbered pass (length (mine first)) orders

    -- and each meets its reply in each history that goes on from what the pass has seen
    pub its_reply : (history : List Call) → IsPrefix (past q) history → (earlier : List (Kind × ℕ)) (order : Kind × ℕ) (later : List (Kind × ℕ)) → orders ≡ earlier ++ order ∷ later → (reply : ℕ) → slice_get replies (length earlier) ≡ Some reply
        → Meets t.start.cap t.start.opening history (call_at pass (length earlier) order) reply
    its_reply history begins earlier order later split reply at =
        let since : ℕ = length (past first) in
        let all : AllZip (MetBehind t.start (past q) since) (numbered pass 0 (earlier ++ order ∷ later)) replies =
        subst (λ (calls : List Call). AllZip (MetBehind t.start (past q) since) calls replies) (numbers_are ∙ ap (numbered pass 0) split) made.met in
        let same : 0 + length earlier ≡ length earlier = omega arith in
        let here : Meets t.start.cap t.start.opening (past q) (call_at pass (length earlier) order) reply =
        subst (λ (m : ℕ). Meets t.start.cap t.start.opening (past q) (call_at pass m order) reply) same (reply_of_next t.start (past q) since pass 0 earlier order later replies reply all at) in
        reply_later t.start.cap t.start.opening (past q) history begins (call_at pass (length earlier) order) reply here
