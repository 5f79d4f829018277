use Rattle.std.proofs.Common.{◌≡◌, ◌+◌, ◌++◌, ◌∷◌, [], suc, All, Some, List, Vec, length, refl, sym, ap, ◌∙◌, subst, arith, append_assoc}
use Rattle.std.specs.declared.alloc.Global.{Global}
use Rattle.fn_table.specs.Seen.{PassView}
use Rattle.quota_pool.specs.Opened.{seated}
use Rattle.quota_pool.specs.Rooms.{Suits, KeepsRoom, contents}
use Rattle.quota_pool.proofs.RoomSteps.{all_less}
use Rattle.quota_pool.proofs.opening.desks_of.Goals as goal

pub invariant_of-push : goal.invariant_of-push
invariant_of-push c =
    let i = c.loop-worker.invariant in
    let s = c.in-Some.ensures.steps in
    let all = subst (λ (rs : List (Vec PassView Global)). All (λ (r : Vec PassView Global). Suits c.args.closing r.items) rs) s.0.0 i.suits in
    λ first. (c.args.closing, c.take-closing.ensures.value ∙ i.first (sym s.1 ∙ first), all 0 c.in-Some.passes (omega arith))

pub loop-worker-preserved : goal.loop-worker-preserved
loop-worker-preserved c =
    let i = c.loop-worker.invariant in
    let s = c.in-Some.ensures.steps in
    let rest = c.next.new.self.iter.rest.items in
    let next : c.next.new.self.count ≡ suc c.in-Some.worker = omega (arith, s.1, s.2) in
    record {
      desks =
          ap (λ ds. ds ++ seated c.next.new.self.count (contents rest)) c.in_ok-push.ensures.items ∙ append_assoc c.loop-worker.desks.items _ (seated c.next.new.self.count (contents rest))
          ∙ ap (λ n. c.loop-worker.desks.items ++ record { worker = c.in-Some.worker; passes = c.in-Some.passes.items } ∷ seated n (contents rest)) next
          ∙ ap (λ n. c.loop-worker.desks.items ++ seated n (c.in-Some.passes.items ∷ contents rest)) s.1
          ∙ ap (λ (rs : List (Vec PassView Global)). c.loop-worker.desks.items ++ seated c.loop-worker.worker-iterator.count (contents rs)) (sym s.0.0) ∙ i.desks;
      few = omega (arith, i.few, ap length s.0.0, s.2);
      first = λ none. absurd (omega (arith, none, s.2));
      suits = all_less (λ (r : Vec PassView Global). Suits c.args.closing r.items) c.in-Some.passes rest (subst (λ (rs : List (Vec PassView Global)). All (λ (r : Vec PassView Global). Suits c.args.closing r.items) rs) s.0.0 i.suits);
    }

pub loop-worker-init : goal.loop-worker-init
loop-worker-init c =
    let gives = c.into_iter-worker-iterator.ensures.into_iter_gives in
    let source = c.enumerate-worker-items.ensures.source in
    let rest : c.into_iter-worker-iterator.result.iter.rest.items ≡ c.args.hands.items = (λ i. (gives i).iter.rest.items) ∙ (λ i. (source i).rest.items) ∙ c.into_iter.ensures.rest in
    let none : c.into_iter-worker-iterator.result.count ≡ 0 = (λ i. (gives i).count) ∙ c.enumerate-worker-items.ensures.count in
    record {
      desks = (λ i. c.in_ok-desks.ensures.items i ++ seated (none i) (contents (rest i)));
      few = omega (arith, none, ap length rest, c.requires.few);
      first = λ none. refl;
      suits = subst (λ (rs : List (Vec PassView Global)). All (λ (r : Vec PassView Global). Suits c.args.closing r.items) rs) (sym rest) c.requires.closing;
    }
