-- What a line leaves of the history, and what its reply says of it.
use Rattle.std.proofs.Common.{◌≡◌, ◌≢◌, inl, inr, ℕ, ◌<◌, ◌≤◌, Bool, true, false, List, [], ◌∷◌, ◌++◌, Option, None, Some, cond, length, refl, sym, ◌∙◌, ap, subst, arith, ne_eqb}
use Rattle.std.specs.Prelude.{if◌then◌else◌, ◌==◌}
use Rattle.std.proofs.lemmas.Bool.{cases_eq}
use Rattle.std.proofs.lemmas.List.{append-nil}
use Rattle.std.proofs.lemmas.List.Elements.{filter-append}
use Rattle.fn_model.specs.declared.Call.{Call}
use Rattle.fn_model.specs.declared.Kind.{Kind}
use Rattle.fn_model.specs.declared.Kind.TheVariants.{Add, Sub, Read}
use Rattle.fn_model.specs.Calls.{own}
use Rattle.fn_core.specs.declared.answer.CoreBegun.{CoreBegun}
use Rattle.fn_core.specs.declared.answer.CoreBegun.TheVariants as begins
use Rattle.fn_core.specs.State.{Caller}
use Rattle.fn_core.specs.Begin.{begun}
use Rattle.fn_core.specs.Calls.{CoreLog, HasCall, IsIdle, IsLegal, left_of, state_in}
use Rattle.script_text.specs.Order.{amount}
use Rattle.script_text.specs.Sound.{HasAmount}
use Rattle.script_text.specs.declared.scripts.Order.{Order}
use Rattle.script_text.specs.declared.scripts.Order.TheVariants as order
use Rattle.script_text.specs.declared.scripts.ScriptLine.{ScriptLine}
use Rattle.script_run.specs.declared.lines.LineAnswer.{LineAnswer}
use Rattle.script_run.specs.declared.lines.LineAnswer.TheVariants as answer
use Rattle.script_run.specs.declared.play.PlayFault.{PlayFault}
use Rattle.script_run.specs.declared.play.PlayFault.TheVariants.{Busy, NothingPending}
use Rattle.fn_core.specs.Polls.{most_steps}
use Rattle.script_run.specs.Play.{after_line, begun_answer, busy, idle, order_answer, order_fault, rests}
use Rattle.script_run.specs.Answered.{asked, made_by}
use Rattle.script_run.proofs.Leaving.{resting-is, resting-not}
use Rattle.script_run.proofs.Orders.{Taken, begin-taken, made_then, meet-taken, own-taken, step-taken}
use Rattle.script_run.proofs.Polled.{poll-taken}
use Rattle.script_run.proofs.Tracks.{Tracks, caller_in, grown, tracks-kept}

-- no fault of a pass that had to rest, or to be in mid-call
busy-none : (test : Bool) (at pass : ℕ) → (let fault : Option PlayFault = Some (Busy at pass) in if test then None else fault) ≡ None → test ≡ true
busy-none true at pass e = refl
busy-none false at pass e = absurd (cc e)

idle-some : (test : Bool) (at pass : ℕ) → (let fault : Option PlayFault = Some (NothingPending at pass) in if test then fault else None) ≡ None → test ≡ false
idle-some true at pass e = absurd (cc e)
idle-some false at pass e = refl

-- a line that asks for no call makes none
pub none-made : (calls : List Call) (line : ScriptLine) (told : LineAnswer) → asked line.pass (length (own line.pass calls)) line.order ≡ [] → calls ++ made_by calls line told ≡ calls
none-made calls line answer.Waits is = ap (λ (x : List Call). calls ++ x) is ∙ append-nil calls
none-made calls line (answer.NoRow blocked) is = append-nil calls
none-made calls line answer.Going is = ap (λ (x : List Call). calls ++ x) is ∙ append-nil calls
none-made calls line (answer.Reply n) is = ap (λ (x : List Call). calls ++ x) is ∙ append-nil calls
none-made calls line (answer.NotYet why) is = ap (λ (x : List Call). calls ++ x) is ∙ append-nil calls
none-made calls line (answer.Lost loaded found) is = append-nil calls
none-made calls line answer.Met is = ap (λ (x : List Call). calls ++ x) is ∙ append-nil calls

-- a beginning makes the call that its line asks for, unless it is refused
begun-made : (calls : List Call) (line : ScriptLine) (call : Call) (told : CoreBegun) → asked line.pass (length (own line.pass calls)) line.order ≡ call ∷ []
    → made_by calls line (begun_answer told) ≡ made_then call told
begun-made calls line call begins.Waiting is = is
begun-made calls line call (begins.NoRow blocked) is = refl

module _ (core : CoreLog) (legal : IsLegal core) (calls : List Call) (at pass : ℕ) (inside : pass < core.start.shape.passes) (underway : (IsIdle core pass → ⊥) → HasCall core pass) (t : Tracks core calls pass) where
  abbrev line : Order → ScriptLine
  line o = record { at = at; pass = pass; order = o }

  abbrev told : Order → LineAnswer
  told o = order_answer core.start (state_in core) pass o

  -- a line of this order is done
  abbrev Done : Order → Type 0
  Done o = Taken core (after_line core (line o)) pass (amount o) (calls ++ made_by calls (line o) (told o)) (told o)

  is-idle : busy (state_in core) at pass ≡ None → IsIdle core pass
  is-idle none = resting-is ((state_in core).callers pass).position (busy-none (rests (state_in core) pass) at pass none)

  has-call : idle (state_in core) at pass ≡ None → HasCall core pass
  has-call none = underway (resting-not ((state_in core).callers pass).position (idle-some (rests (state_in core) pass) at pass none))

  -- a line that makes no call
  quiet-done : (o : Order) → asked pass (length (own pass calls)) o ≡ [] → Taken core (after_line core (line o)) pass (amount o) calls (told o) → Done o
  quiet-done o none taken = subst (λ (x : List Call). Taken core (after_line core (line o)) pass (amount o) x (told o)) (sym (none-made calls (line o) (told o) none)) taken

  -- a beginning
  begin-done : (o : Order) (kind : Kind) (n : ℕ) → asked pass (length (own pass calls)) o ≡ record { pass = pass; number = length (own pass calls); kind = kind; amount = n } ∷ []
      → (let last : CoreBegun = begun core.start (state_in core) pass kind in Taken core (after_line core (line o)) pass n (calls ++ made_then (record { pass = pass; number = length (own pass calls); kind = kind; amount = n }) last) (begun_answer last))
      → (let last : CoreBegun = begun core.start (state_in core) pass kind in Taken core (after_line core (line o)) pass n (calls ++ made_by calls (line o) (begun_answer last)) (begun_answer last))
  begin-done o kind n is taken =
      let last : CoreBegun = begun core.start (state_in core) pass kind in
      let call : Call = record { pass = pass; number = length (own pass calls); kind = kind; amount = n } in
      subst (λ (x : List Call). Taken core (after_line core (line o)) pass n (calls ++ x) (begun_answer last)) (sym (begun-made calls (line o) call last is)) taken

  order-done : (o : Order) → HasAmount o → amount o ≤ left_of core pass → order_fault (state_in core) at pass o ≡ None → Done o
  order-done (order.Add n) some enough none = begin-done (order.Add n) Add n refl (begin-taken core legal pass inside (is-idle none) calls t Add (inl refl) n (some, enough))
  order-done (order.Sub n) some enough none = begin-done (order.Sub n) Sub n refl (begin-taken core legal pass inside (is-idle none) calls t Sub (inr refl) n (some, enough))
  order-done (order.Direct n) some enough none = own-taken core legal pass inside (is-idle none) calls t Add n (some, enough)
  order-done (order.SubDirect n) some enough none = own-taken core legal pass inside (is-idle none) calls t Sub n (some, enough)
  order-done order.Read some enough none = own-taken core legal pass inside (is-idle none) calls t Read 0 refl
  order-done order.Step some enough none = quiet-done order.Step refl (step-taken core legal pass inside calls t (has-call none))
  order-done order.Poll some enough none = quiet-done order.Poll refl (poll-taken (most_steps core.start (state_in core) pass) core legal pass inside calls t (has-call none) (omega arith))
  order-done (order.Meet q) some enough none = quiet-done (order.Meet q) refl (meet-taken core legal pass calls t underway)

-- a line is done
pub line-taken : (core : CoreLog) (calls : List Call) (line : ScriptLine) → IsLegal core → line.pass < core.start.shape.passes → HasAmount line.order → amount line.order ≤ left_of core line.pass
    → ((IsIdle core line.pass → ⊥) → HasCall core line.pass) → Tracks core calls line.pass → order_fault (state_in core) line.at line.pass line.order ≡ None
    → let told = order_answer core.start (state_in core) line.pass line.order in Taken core (after_line core line) line.pass (amount line.order) (calls ++ made_by calls line told) told
line-taken core calls line legal inside some enough underway t none = order-done core legal calls line.at line.pass inside underway t line.order some enough none

-- no call of a line is another pass's
asked-other : (pass number : ℕ) (o : Order) (q : ℕ) → pass ≢ q → own q (asked pass number o) ≡ []
asked-other pass number o q other = by o
  where
    no : (call : Call) → call.pass ≡ pass → own q (call ∷ []) ≡ []
    no call is = ap (λ (b : Bool). cond b (call ∷ []) []) (ne_eqb call.pass q (λ same. other (sym is ∙ same)))

    by : (x : Order) → own q (asked pass number x) ≡ []
    by (order.Add n) = no (record { pass = pass; number = number; kind = Add; amount = n }) refl
    by (order.Sub n) = no (record { pass = pass; number = number; kind = Sub; amount = n }) refl
    by (order.Direct n) = no (record { pass = pass; number = number; kind = Add; amount = n }) refl
    by (order.SubDirect n) = no (record { pass = pass; number = number; kind = Sub; amount = n }) refl
    by order.Read = no (record { pass = pass; number = number; kind = Read; amount = 0 }) refl
    by order.Step = refl
    by order.Poll = refl
    by (order.Meet m) = refl

pub made-other : (calls : List Call) (line : ScriptLine) (told : LineAnswer) (q : ℕ) → line.pass ≢ q → own q (made_by calls line told) ≡ []
made-other calls line answer.Waits q other = asked-other line.pass (length (own line.pass calls)) line.order q other
made-other calls line (answer.NoRow blocked) q other = refl
made-other calls line answer.Going q other = asked-other line.pass (length (own line.pass calls)) line.order q other
made-other calls line (answer.Reply n) q other = asked-other line.pass (length (own line.pass calls)) line.order q other
made-other calls line (answer.NotYet why) q other = asked-other line.pass (length (own line.pass calls)) line.order q other
made-other calls line (answer.Lost loaded found) q other = refl
made-other calls line answer.Met q other = asked-other line.pass (length (own line.pass calls)) line.order q other

-- .. so the calls of the other passes are as they were
pub tracks-all : (core new : CoreLog) (calls : List Call) (line : ScriptLine) (told : LineAnswer) → ((q : ℕ) → Tracks core calls q)
    → Taken core new line.pass (amount line.order) (calls ++ made_by calls line told) told → (q : ℕ) → Tracks new (calls ++ made_by calls line told) q
tracks-all core new calls line told all taken q =
    elim (cases_eq line.pass q) [
      | inl own_line ↦ subst (Tracks new (calls ++ made_by calls line told)) own_line taken.tracks
      | inr other ↦
          let here = taken.leaves.others q (λ e. other (sym e)) in
          let same : own q (calls ++ made_by calls line told) ≡ own q calls =
          filter-append (λ c. c.pass == q) calls (made_by calls line told) ∙ ap (λ (x : List Call). own q calls ++ x) (made-other calls line told q other) ∙ append-nil (own q calls) in
          let P : CoreLog → Type 0 = λ x. ((caller_in x q ≡ caller_in core q) × (HasCall core q → HasCall x q) → Tracks x (calls ++ made_by calls line told) q) in
          let kept : P (grown core taken.more) = λ s. tracks-kept core taken.more calls (calls ++ made_by calls line told) q (all q)
          (ap (λ (c : Caller). c.made) s.0, ap (λ (c : Caller). c.last) s.0) (λ idle. ap (λ (c : Caller). c.position) s.0 ∙ idle) s.1 same in
          subst P (sym taken.grown_is) kept here
    ]
