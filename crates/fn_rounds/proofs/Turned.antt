-- How a lane goes on.
use Rattle.std.proofs.Common.{◌≡◌, ℕ, ◌+◌, ◌≤◌, ◌<◌, List, [], ◌∷◌, ◌++◌, length, length-append, take, drop, Option, Some, None, sym, ◌∙◌, ap, subst, arith}
use Rattle.std.specs.Option.{option_to_list}
use Rattle.std.proofs.lemmas.List.{take_more, drop_more, append-nil}
use Rattle.std.proofs.lemmas.List.Elements.{All-head, All-tail}
use Rattle.fn_model.specs.declared.Kind.{Kind}
use Rattle.fn_model.specs.declared.Kind.TheVariants.{Read}
use Rattle.fn_core.specs.declared.Start.{Start}
use Rattle.fn_core.specs.Machine.{IsChange, MaySpend}
use Rattle.fn_core.specs.Calls.{state_in, IsLegal, IsIdle, left_of}
use Rattle.fn_table.specs.Seen.{TableView, PassView, IsOf}
use Rattle.fn_table.specs.Later.{IsLater}
use Rattle.fn_table.proofs.Later.{of_later}
use Rattle.fn_future.specs.Calls.{IsMade}
use Rattle.fn_future.proofs.Between.{underway_begun, underway_more, underway_done, underway_of}
use Rattle.fn_rounds.specs.declared.lanes.Caller.{Caller}
use Rattle.fn_rounds.specs.declared.lanes.Caller.TheVariants.{Idle, Pending, Gone}
use Rattle.fn_rounds.specs.Lanes.{HasOnlyScanned, AreMade, IsOrder, MayMakeAll, MayTurn, CallerWent, order_at}
use Rattle.fn_rounds.specs.InOrder.{asked}
use Rattle.fn_rounds.specs.Standing.{HasEnded, Stands}
use Rattle.fn_rounds.proofs.Made.{rests_here, rests_refused, are_made_rest, are_made_more, are_made_later, idle_after}

-- the next order of a pass that may make them all
pub may_next : (p : PassView) (order : Kind × ℕ) (orders : List (Kind × ℕ)) → MayMakeAll p (order ∷ orders) → IsChange order.0 × MaySpend (state_in p.seen) p.number order.1
may_next p order orders may =
    let first = All-head IsOrder order orders may.each in
    let enough : order.1 + asked orders ≤ left_of p.seen p.number = may.enough in
    (first.0, (first.1, omega arith))

-- .. and the others, when the pass has made that call
pub may_rest : (p : PassView) (order : Kind × ℕ) (orders : List (Kind × ℕ)) → MayMakeAll p (order ∷ orders) → (q : PassView) (reply : ℕ) → IsMade p order.0 order.1 q reply → MayMakeAll q orders
may_rest p order orders may q reply made =
    let enough : order.1 + asked orders ≤ left_of p.seen p.number = may.enough in
    let spent : left_of q.seen p.number + order.1 ≡ left_of p.seen p.number = made.called.spent in
    let here : asked orders ≤ left_of q.seen p.number = omega arith in
    record { each = All-tail IsOrder order orders may.each; enough = subst (λ (n : ℕ). asked orders ≤ left_of q.seen n) (sym made.later.number) here }

-- a pass that found no row may still make them
pub may_still : (p q : PassView) (orders : List (Kind × ℕ)) → HasOnlyScanned p q → MayMakeAll p orders → MayMakeAll q orders
may_still p q orders r may =
    let enough : asked orders ≤ left_of p.seen p.number = may.enough in
    let left : left_of q.seen p.number ≡ left_of p.seen p.number = r.none.left in
    let here : asked orders ≤ left_of q.seen p.number = omega arith in
    record { each = may.each; enough = subst (λ (n : ℕ). asked orders ≤ left_of q.seen n) (sym r.later.number) here }

inside_after : (p q : PassView) → IsLater p q → p.number < p.seen.start.shape.passes → q.number < q.seen.start.shape.passes
inside_after p q later inside = subst (λ (n : ℕ). n < q.seen.start.shape.passes) (sym later.number) (subst (λ (s : Start). p.number < s.shape.passes) (sym later.start) inside)

module _ (given : PassView) (orders : List (Kind × ℕ)) (replies : List ℕ) (some : length replies < length orders) where
  abbrev at : Kind × ℕ
  at = order_at orders replies

  rest : drop (length replies) orders ≡ at ∷ drop (length replies + 1) orders
  rest = drop_more orders (length replies) (Read, 0) some

  may_at : (p : PassView) → HasEnded given orders replies p → MayMakeAll p (at ∷ drop (length replies + 1) orders)
  may_at p ended = subst (MayMakeAll p) rest ended.may

  -- the caller may have its turn
  pub may_turn : (t : TableView) → IsOf t given → (caller : Caller) → Stands given orders replies caller → MayTurn t at.0 at.1 caller
  may_turn t together (Idle p) s =
      let next = may_next p at (drop (length replies + 1) orders) (may_at p s) in
      (of_later t given p (are_made_later given (take (length replies) orders) replies p s.made) together, s.idle, next.0, next.1)
  may_turn t together (Pending now) s =
      underway_of s.0 at.0 at.1 now s.1 s.4 t (of_later t given s.0 (are_made_later given (take (length replies) orders) replies s.0 s.2.made) together)
  may_turn t together Gone s = absurd s

  ended_more : (p : PassView) → HasEnded given orders replies p → (q : PassView) (reply : ℕ) → IsMade p at.0 at.1 q reply → HasEnded given orders (replies ++ reply ∷ []) q
  ended_more p ended q reply made =
      let long : length (replies ++ reply ∷ []) ≡ length replies + 1 = length-append replies (reply ∷ []) in
      record {
        inside = inside_after p q made.later ended.inside;
        some = omega (arith, long, some);
        made =
            subst (λ (os : List (Kind × ℕ)). AreMade given os (replies ++ reply ∷ []) q) (sym (ap (λ (n : ℕ). take n orders) long ∙ take_more orders (length replies) (Read, 0) some))
            (are_made_more given (take (length replies) orders) replies p at reply q ended.made made);
        idle = idle_after p q at.0 at.1 reply made;
        legal = made.later.legal;
        may = subst (λ (n : ℕ). MayMakeAll q (drop n orders)) (sym long) (may_rest p at (drop (length replies + 1) orders) (may_at p ended) q reply made);
      }

  ended_still : (p : PassView) → HasEnded given orders replies p → (q : PassView) → HasOnlyScanned p q → HasEnded given orders replies q
  ended_still p ended q r = record {
    inside = inside_after p q r.later ended.inside;
    some = ended.some;
    made = are_made_rest given (take (length replies) orders) replies p q ended.made r;
    idle = r.idle;
    legal = r.later.legal;
    may = may_still p q (drop (length replies) orders) r ended.may;
  }

  -- what a turn leaves
  pub stands_on : (caller : Caller) (said : Option ℕ) (next : Caller) → Stands given orders replies caller → CallerWent at.0 at.1 caller said next → Stands given orders (replies ++ option_to_list said) next
  stands_on (Idle p) None (Pending b) s went =
      subst (λ (ns : List ℕ). Stands given orders ns (Pending b)) (sym (append-nil replies))
      (p, None, s, some, underway_begun p at.0 at.1 b s.legal s.idle went)
  stands_on (Idle p) None (Idle q) s went =
      subst (λ (ns : List ℕ). Stands given orders ns (Idle q)) (sym (append-nil replies)) (ended_still p s q (rests_refused p q at.0 at.1 went.0 s.inside s.idle went.1))
  stands_on (Pending now) None (Pending next) s went =
      subst (λ (ns : List ℕ). Stands given orders ns (Pending next)) (sym (append-nil replies))
      (s.0, Some went.0, s.2, some, underway_more s.0 at.0 at.1 now s.1 s.4 went.0 next went.1)
  stands_on (Pending now) (Some reply) (Idle q) s went = ended_more s.0 s.2 q reply (underway_done s.0 at.0 at.1 now s.1 s.4 reply q went)
  stands_on (Idle p) None Gone s went = absurd went
  stands_on (Idle p) (Some reply) next s went = absurd went
  stands_on (Pending now) None (Idle q) s went = absurd went
  stands_on (Pending now) None Gone s went = absurd went
  stands_on (Pending now) (Some reply) (Pending next) s went = absurd went
  stands_on (Pending now) (Some reply) Gone s went = absurd went
  stands_on Gone said next s went = absurd s

  -- .. where it gave no reply
  pub stands_silent : (caller next : Caller) → Stands given orders replies caller → CallerWent at.0 at.1 caller None next → Stands given orders replies next
  stands_silent caller next s went = subst (λ (ns : List ℕ). Stands given orders ns next) (append-nil replies) (stands_on caller None next s went)

-- a lane that has just started
pub stands_new : (p given : PassView) (orders : List (Kind × ℕ)) (replies : List ℕ) → given ≡ p → replies ≡ [] → p.number < p.seen.start.shape.passes → IsLegal p.seen → IsIdle p.seen p.number → MayMakeAll p orders → Stands given orders replies (Idle p)
stands_new p given orders replies same none inside legal idle may =
    subst (λ (v : PassView). Stands v orders replies (Idle p)) (sym same)
    (subst (λ (ns : List ℕ). Stands p orders ns (Idle p)) (sym none) (record { inside = inside; some = omega arith; made = rests_here p legal idle; idle = idle; legal = legal; may = may }))
