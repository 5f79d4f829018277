-- Calls of a pass, one after the other.
use Rattle.std.proofs.Common.{ℕ, suc, ◌≤◌, ◌<◌, List, [], ◌∷◌, ◌++◌, refl, sym, ◌∙◌, ap, subst}
use Rattle.fn_model.specs.declared.Call.{Call}
use Rattle.fn_model.specs.declared.Kind.{Kind}
use Rattle.fn_core.specs.declared.Start.{Start}
use Rattle.fn_core.specs.declared.answer.Blocked.{Blocked}
use Rattle.fn_core.specs.Calls.{IsLegal, IsIdle}
use Rattle.fn_core.specs.Entries.{IsBatched}
use Rattle.fn_table.specs.Seen.{PassView}
use Rattle.fn_climb.specs.Begin.{BeginAnswers}
use Rattle.fn_table.specs.Later.{IsLater}
use Rattle.fn_climb.specs.declared.beginning.Begun.TheVariants.{NoRow}
use Rattle.fn_table.proofs.Later.{later_on}
use Rattle.fn_direct.proofs.Joined.{called_since}
use Rattle.fn_table.proofs.Later.{later_none}
use Rattle.fn_funnel.proofs.Straight.{none_since, none_more, same_call}
use Rattle.fn_future.specs.Calls.{IsMade}
use Rattle.fn_rounds.specs.Lanes.{HasOnlyScanned, AreMade}

pub rests_here : (p : PassView) → IsLegal p.seen → IsIdle p.seen p.number → HasOnlyScanned p p
rests_here p legal idle = record { later = later_none p legal; none = record { calls = refl; made = refl; left = refl; idle = idle }; idle = idle }

pub rests_more : (p m q : PassView) → HasOnlyScanned p m → HasOnlyScanned m q → HasOnlyScanned p q
rests_more p m q a b = record { later = later_on p m q a.later b.later; none = none_more p m q a.later.number a.none b.none; idle = b.idle }

-- a beginning that found no row
pub rests_refused : (p q : PassView) (kind : Kind) (amount : ℕ) (at : Blocked) → p.number < p.seen.start.shape.passes → IsIdle p.seen p.number → BeginAnswers p kind amount (NoRow q at) → HasOnlyScanned p q
rests_refused p q kind amount at inside idle begins = record { later = begins.1.later; none = none_since p q inside idle begins.1.later begins.3; idle = begins.4 }

-- a call that the pass makes from here on is the one that it makes from before
pub made_from : (p m q : PassView) (kind : Kind) (amount reply : ℕ) → HasOnlyScanned p m → IsMade m kind amount q reply → IsMade p kind amount q reply
made_from p m q kind amount reply r made = record {
  later = later_on p m q r.later made.later;
  called = called_since p m q kind amount reply r.later.number r.later.start r.later.legal r.later.begins r.none made.called;
  within = subst (λ (s : Start). reply ≤ s.cap) r.later.start made.within;
  entered = subst (λ (call : Call). IsBatched q.seen call) (same_call p m kind amount r.later.number r.none.made) made.entered;
  made = made.made ∙ ap suc r.none.made;
}

pub idle_after : (p q : PassView) (kind : Kind) (amount reply : ℕ) → IsMade p kind amount q reply → IsIdle q.seen q.number
idle_after p q kind amount reply made = subst (λ (n : ℕ). IsIdle q.seen n) (sym made.later.number) made.called.idle

-- .. after some calls
pub are_made_rest : (p : PassView) (orders : List (Kind × ℕ)) (replies : List ℕ) (m q : PassView) → AreMade p orders replies m → HasOnlyScanned m q → AreMade p orders replies q
are_made_rest p [] [] m q made rests = rests_more p m q made rests
are_made_rest p (order ∷ orders) (reply ∷ replies) m q made rests = (made.0, made.1, are_made_rest made.0 orders replies m q made.2 rests)
are_made_rest p [] (reply ∷ replies) m q made rests = absurd made
are_made_rest p (order ∷ orders) [] m q made rests = absurd made

-- one call more
pub are_made_more : (p : PassView) (orders : List (Kind × ℕ)) (replies : List ℕ) (m : PassView) (order : Kind × ℕ) (reply : ℕ) (q : PassView) → AreMade p orders replies m → IsMade m order.0 order.1 q reply → AreMade p (orders ++ order ∷ []) (replies ++ reply ∷ []) q
are_made_more p [] [] m order reply q made last = (q, made_from p m q order.0 order.1 reply made last, rests_here q last.later.legal (idle_after m q order.0 order.1 reply last))
are_made_more p (first ∷ orders) (one ∷ replies) m order reply q made last = (made.0, made.1, are_made_more made.0 orders replies m order reply q made.2 last)
are_made_more p [] (one ∷ replies) m order reply q made last = absurd made
are_made_more p (first ∷ orders) [] m order reply q made last = absurd made

-- the pass has seen more
pub are_made_later : (p : PassView) (orders : List (Kind × ℕ)) (replies : List ℕ) (q : PassView) → AreMade p orders replies q → IsLater p q
are_made_later p [] [] q made = made.later
are_made_later p (order ∷ orders) (reply ∷ replies) q made = later_on p made.0 q made.1.later (are_made_later made.0 orders replies q made.2)
are_made_later p [] (reply ∷ replies) q made = absurd made
are_made_later p (order ∷ orders) [] q made = absurd made
