-- How a move goes on, poll by poll.
use Rattle.std.proofs.Common.{◌≡◌, ℕ, zero, suc, ◌≤◌, ◌<◌, min, inl, inr, refl, sym, ◌∙◌, ap, subst, arith, Option, None, Some}
use Rattle.fn_model.specs.declared.Call.{Call}
use Rattle.fn_model.specs.declared.Kind.{Kind}
use Rattle.fn_model.specs.declared.Kind.TheVariants.{Add, Sub}
use Rattle.fn_core.specs.declared.Start.{Start}
use Rattle.fn_core.specs.declared.answer.Blocked.{Blocked}
use Rattle.fn_core.specs.declared.answer.Why.{Why}
use Rattle.fn_core.specs.Machine.{MaySpend}
use Rattle.fn_core.specs.Calls.{state_in, IsLegal, IsIdle}
use Rattle.fn_core.specs.Entries.{IsBatched}
use Rattle.fn_table.specs.Seen.{TableView, PassView, IsOf, own_of}
use Rattle.fn_climb.specs.Next.{PendingView}
use Rattle.fn_climb.specs.Begin.{BeginAnswers}
use Rattle.fn_climb.specs.declared.beginning.Begun.TheVariants.{Waiting, NoRow}
use Rattle.fn_table.proofs.Later.{later_on, of_later}
use Rattle.fn_direct.proofs.Joined.{called_since}
use Rattle.fn_table.specs.Claims.{Made}
use Rattle.fn_table.proofs.Later.{later_none}
use Rattle.fn_funnel.proofs.Straight.{none_since, none_more, same_call}
use Rattle.fn_future.specs.declared.legs.MoveStage.{MoveStage}
use Rattle.fn_future.specs.declared.legs.MoveStage.TheVariants.{Taking, Between, Adding, Over}
use Rattle.fn_future.specs.declared.legs.Leg.{Leg}
use Rattle.fn_future.specs.declared.legs.Leg.TheVariants.{Done, Waits}
use Rattle.fn_future.specs.Calls.{IsMade}
use Rattle.fn_future.specs.Standing.{IsUnderway}
use Rattle.fn_future.specs.Transfers.{AddedTo, Transferred}
use Rattle.fn_future.specs.Moves.{MoveView, MovedInto, IsMoved, TurnedMove, AddedLeg, BeganLeg, AfterTaking, TookLeg, GoesFrom, MayGo, IsOpenStage}
use Rattle.fn_future.specs.Moving.{MayAdd, HasTaken, StandsAt}
use Rattle.fn_future.proofs.Between.{underway_begun, underway_more, underway_done, underway_of, claimed}

-- a pass as it was handed in
pub may_add : (t : TableView) (p : PassView) (amount : ℕ) → p.number < p.seen.start.shape.passes → IsLegal p.seen → IsOf t p → IsIdle p.seen p.number → MaySpend (state_in p.seen) p.number amount → MayAdd t p p amount
may_add t p amount inside legal together idle may = record {
  legal = legal;
  rests = idle;
  inside = inside;
  later = later_none p legal;
  none = record { calls = refl; made = refl; left = refl; idle = idle };
  together = together;
  idle = idle;
  may = may;
}

module _ (t : TableView) (p q : PassView) (amount : ℕ) (m : MayAdd t p q amount) where
  -- .. and less than that
  pub may_less : (less : ℕ) → 1 ≤ less → less ≤ amount → MayAdd t p q less
  may_less less some few = record {
    legal = m.legal;
    rests = m.rests;
    inside = m.inside;
    later = m.later;
    none = m.none;
    together = m.together;
    idle = m.idle;
    may = (some, (let enough : amount ≤ ((state_in q.seen).callers q.number).left = m.may.1 in omega arith));
  }

  -- it found no row, once more
  pub may_refused : (r : PassView) (at : Blocked) → BeginAnswers q Add amount (NoRow r at) → MayAdd t p r amount
  may_refused r at begins =
      let first = begins.1.later in
      let none = none_since q r m.inside m.idle first begins.3 in
      record {
        legal = m.legal;
        rests = m.rests;
        inside = subst (λ (n : ℕ). n < r.seen.start.shape.passes) (sym first.number) (subst (λ (s : Start). q.number < s.shape.passes) (sym first.start) m.inside);
        later = later_on p q r m.later first;
        none = none_more p q r m.later.number m.none none;
        together = of_later t q r first m.together;
        idle = begins.4;
        may = (m.may.0, (let enough : amount ≤ (own_of q).caller.left = m.may.1 in let left : (own_of r).caller.left ≡ (own_of q).caller.left = ap (λ c. c.left) begins.3 in let here : amount ≤ (own_of r).caller.left = omega arith in here));
      }

  -- a call that the pass makes from here on is the one that it makes from before
  pub made_since : (kind : Kind) (n : ℕ) (z : PassView) (reply : ℕ) → IsMade q kind n z reply → IsMade p kind n z reply
  made_since kind n z reply made = record {
    later = later_on p q z m.later made.later;
    called = called_since p q z kind n reply m.later.number m.later.start m.later.legal m.later.begins m.none made.called;
    within = subst (λ (s : Start). reply ≤ s.cap) m.later.start made.within;
    entered = subst (λ (call : Call). IsBatched z.seen call) (same_call p q kind n m.later.number m.none.made) made.entered;
    made = made.made ∙ ap suc m.none.made;
  }

added_to : (p : PassView) (n : ℕ) (q : PassView) → 1 ≤ n → (reply : ℕ) → Made p Add n reply q → AddedTo p n q
added_to p zero q some reply made = absurd (omega arith)
added_to p (suc n) q some reply made = (reply, made)

moved_into : (p : PassView) (n : ℕ) (q : PassView) → 1 ≤ n → (reply : ℕ) → IsMade p Add n q reply → MovedInto p n q
moved_into p zero q some reply made = absurd (omega arith)
moved_into p (suc n) q some reply made = (reply, made)

module _ (from to : TableView) (p q : PassView) (amount : ℕ) where
  -- what a leg leaves
  abbrev pub LegStands : Leg → Type 0
  LegStands (Done o i n) = Transferred p q amount o i n × IsMoved p q amount o i n
  LegStands (Waits stage) = IsOpenStage stage × StandsAt from to p q amount stage

  added : (out : PassView) (now : PendingView) (moved : ℕ) → HasTaken p amount out moved → (i : PassView) → MayAdd to q i moved → (why : Option Why) → IsUnderway i Add moved now why → (leg : Leg) → AddedLeg out now moved leg → LegStands leg
  added out now moved taken i may why u (Done o z n) leg =
      let made = made_since to q i moved may Add moved z leg.2.0 (underway_done i Add moved now why u leg.2.0 z leg.2.1) in
      let claim = claimed q Add moved leg.2.0 z may.legal may.rests made in (
        record {
          before = taken.before;
          taken = subst (λ (v : PassView). Made p Sub amount taken.before v) (sym leg.0) taken.made;
          moved_is = leg.1 ∙ taken.moved_is;
          added = subst (λ (k : ℕ). AddedTo q k z) (sym leg.1) (added_to q moved z taken.some leg.2.0 claim);
          same = claim.same;
          rests = claim.rests;
        },
        record {
          before = taken.before;
          taken = subst (λ (v : PassView). IsMade p Sub amount v taken.before) (sym leg.0) taken.taken;
          moved_is = leg.1 ∙ taken.moved_is;
          added = subst (λ (k : ℕ). MovedInto q k z) (sym leg.1) (moved_into q moved z taken.some leg.2.0 made);
        },
      )
  added out now moved taken i may why u (Waits stage) leg =
      subst (λ (s : MoveStage). IsOpenStage s × StandsAt from to p q amount s) (sym leg.3) (tt, (taken, (i, may, (Some leg.0, underway_more i Add moved now why u leg.0 leg.1 leg.2))))

  began : (out into : PassView) (moved : ℕ) → HasTaken p amount out moved → MayAdd to q into moved → (leg : Leg) → BeganLeg out into moved leg → LegStands leg
  began out into moved taken may leg (inl w) =
      added out w.0 moved taken into may None (underway_begun into Add moved w.0 may.later.legal may.idle w.1) leg w.2
  began out into moved taken may leg (inr w) = subst LegStands (sym w.3) (tt, (taken, may_refused to q into moved may w.0 w.1 w.2))

  after_taking : (before : ℕ) (out : PassView) (moved : ℕ) → moved ≡ min amount before → moved ≤ amount → Made p Sub amount before out → IsMade p Sub amount out before → MayAdd to q q amount → (leg : Leg) → AfterTaking moved out q leg → LegStands leg
  after_taking before out zero is few made taken may leg w =
      subst LegStands (sym w) (record { before = before; taken = made; moved_is = is; added = refl; same = (refl, refl, refl); rests = may.rests }, record { before = before; taken = taken; moved_is = is; added = refl })
  after_taking before out (suc n) is few made taken may leg w =
      began out q (suc n) (record { before = before; made = made; taken = taken; moved_is = is; some = omega arith }) (may_less to q q amount may (suc n) (omega arith) few) leg w

  took : (now : PendingView) (into : PassView) (why : Option Why) → IsOf from p → IsUnderway p Sub amount now why → into ≡ q → MayAdd to q into amount → (leg : Leg) → TookLeg amount now into leg → LegStands leg
  took now into why together u is may leg (inl w) =
      let taken = underway_done p Sub amount now why u w.0 w.1 w.2 in
      after_taking w.0 w.1 (min amount w.0) refl (omega arith) (claimed p Sub amount w.0 w.1 u.legal u.idle taken) taken (subst (λ (v : PassView). MayAdd to q v amount) is may) leg
      (subst (λ (v : PassView). AfterTaking (min amount w.0) w.1 v leg) is w.3)
  took now into why together u is may leg (inr w) = subst LegStands (sym w.3) (tt, (Some w.0, together, underway_more p Sub amount now why u w.0 w.1 w.2, is, may))

  pub leg_stands : (stage : MoveStage) → StandsAt from to p q amount stage → (leg : Leg) → GoesFrom amount stage leg → LegStands leg
  leg_stands (Taking now into) s leg w = took now into s.0 s.1 s.2 s.3 s.4 leg w
  leg_stands (Between out into moved) s leg w = began out into moved s.0 s.1 leg w
  leg_stands (Adding out now moved) s leg w = added out now moved s.0 s.1.0 s.1.1 s.1.2.0 s.1.2.1 leg w
  leg_stands Over s leg w = absurd w

  -- where it stands, it may go on
  pub stands_may : (stage : MoveStage) → IsOpenStage stage → StandsAt from to p q amount stage → MayGo from to amount stage
  stands_may (Taking now into) running s = (underway_of p Sub amount now s.0 s.2 from s.1, s.4.together, s.4.idle, s.4.may)
  stands_may (Between out into moved) running s = (s.1.together, s.1.idle, s.1.may)
  stands_may (Adding out now moved) running s = underway_of s.1.0 Add moved now s.1.2.0 s.1.2.1 to s.1.1.together
  stands_may Over running s = running

  -- a move that has just begun
  pub move_begun : (given waits : PassView) (b : PendingView) → given ≡ p → waits ≡ q → IsOf from p → IsLegal p.seen → IsIdle p.seen p.number → BeginAnswers p Sub amount (Waiting b) → MayAdd to q q amount → StandsAt from to given waits amount (Taking b q)
  move_begun given waits b given_is waits_is together legal idle begins may =
      subst (λ (v : PassView). StandsAt from to v waits amount (Taking b q)) (sym given_is)
      (subst (λ (v : PassView). StandsAt from to p v amount (Taking b q)) (sym waits_is) (None, together, underway_begun p Sub amount b legal idle begins, refl, may))

-- a poll that ends a move, and one that doesn't
pub turned_done : (old : MoveView) (o i : PassView) (n : ℕ) (dest : MoveStage) → dest ≡ Over → GoesFrom old.amount old.stage (Done o i n) → TurnedMove old (Some (o, i, n)) (record old { stage = dest })
turned_done old o i n dest over goes = (Done o i n, goes, (refl, ap (λ (s : MoveStage). record old { stage = s }) over))

pub turned_waits : (old : MoveView) (stage : MoveStage) → GoesFrom old.amount old.stage (Waits stage) → TurnedMove old None (record old { stage = stage })
turned_waits old stage goes = (Waits stage, goes, refl)

-- nothing was taken, or something
pub taken_none : (amount before : ℕ) (out into : PassView) (n : ℕ) → n ≡ min amount before → n ≡ 0 → AfterTaking (min amount before) out into (Done out into 0)
taken_none amount before out into n is none = subst (λ (k : ℕ). AfterTaking k out into (Done out into 0)) (sym none ∙ is) refl

some_taken : (out into : PassView) (n : ℕ) (leg : Leg) → (n ≡ 0 → ⊥) → BeganLeg out into n leg → AfterTaking n out into leg
some_taken out into zero leg some began = absurd (some refl)
some_taken out into (suc n) leg some began = began

pub taken_some : (amount before : ℕ) (out into : PassView) (n : ℕ) (leg : Leg) → n ≡ min amount before → (n ≡ 0 → ⊥) → BeganLeg out into n leg → AfterTaking (min amount before) out into leg
taken_some amount before out into n leg is some began = subst (λ (k : ℕ). AfterTaking k out into leg) is (some_taken out into n leg some began)
