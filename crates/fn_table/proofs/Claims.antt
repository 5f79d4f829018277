-- What a call tells, in the words of the integer and its history.
use Rattle.std.proofs.Common.{◌≡◌, ℕ, ◌+◌, ◌≤◌, length, [], ◌∷◌, ◌++◌, take, inl, inr, sym, ◌∙◌, ap, subst}
use Rattle.std.proofs.lemmas.Bool.{false≢true}
use Rattle.fn_model.specs.declared.Call.{Call}
use Rattle.fn_model.specs.declared.Kind.{Kind}
use Rattle.fn_model.specs.Calls.{own, place}
use Rattle.fn_model.specs.Integer.{Meets}
use Rattle.fn_model.proofs.Integer.{value_within_cap}
use Rattle.fn_core.specs.declared.Start.{Start}
use Rattle.fn_core.specs.declared.Position.{Position}
use Rattle.fn_core.specs.State.{stage}
use Rattle.fn_core.specs.Batches.{has_come}
use Rattle.fn_core.specs.Positions.{Fits}
use Rattle.fn_core.specs.Laws.{HasReply}
use Rattle.fn_core.specs.Calls.{CoreLog, state_in, calls_in, IsLegal, IsIdle, HasCall, left_of}
use Rattle.fn_core.proofs.Public.{positions_fit, histories_go_on, own_calls_are_in_order}
use Rattle.fn_table.specs.Seen.{PassView, own_of}
use Rattle.fn_table.specs.Later.{IsLater}
use Rattle.fn_table.specs.Called.{call_of, HasCalled, HasMadeNone}
use Rattle.fn_table.specs.Claims.{past, mine, Rests, next_of, Made, MadeNone}
use Rattle.fn_table.proofs.Later.{legal_since}

-- a pass that makes no call has none underway
pub none_underway : (core : CoreLog) (pass : ℕ) → IsLegal core → IsIdle core pass → HasCall core pass → ⊥
none_underway core pass legal idle call =
    let fits = subst (λ (position : Position). Fits core.start.shape.levels (λ k l. stage core.start (state_in core) k l pass) position) idle (positions_fit core.start core.log legal.0 legal.1 pass) in
    false≢true (sym (ap has_come (fits call.0 1)) ∙ call.1)

-- a reply is no more than the cap
pub within_cap : (core : CoreLog) (call : Call) (reply : ℕ) → IsLegal core → HasReply core.start (calls_in core) call reply → reply ≤ core.start.cap
within_cap core call reply legal met = subst (λ (n : ℕ). n ≤ core.start.cap) met.4 (value_within_cap core.start.cap core.start.opening (take met.0 (calls_in core)) legal.0.opening)

-- a pass that rests has as many own calls in its history as it has made
pub own_count : (p : PassView) → IsLegal p.seen → Rests p → length (mine p) ≡ (own_of p).caller.made
own_count p legal rests = elim (own_calls_are_in_order p.seen.start p.seen.log legal.0 legal.1 p.number).1 [
  | inl all ↦ all
  | inr one ↦ absurd (none_underway p.seen p.number legal rests one.1)
]

-- so the call that it makes next is the one that comes behind its own calls
pub next_is : (p : PassView) (kind : Kind) (amount : ℕ) → IsLegal p.seen → Rests p → call_of p kind amount ≡ next_of p kind amount
next_is p kind amount legal rests = λ i. record { pass = p.number; number = sym (own_count p legal rests) i; kind = kind; amount = amount }

-- A call that a pass has made, as its steps tell it, is made in these words too
pub made_by : (p : PassView) (kind : Kind) (amount reply : ℕ) (q : PassView) → IsLegal p.seen → Rests p → IsLater p q → HasCalled p kind amount reply q → reply ≤ p.seen.start.cap → Made p kind amount reply q
made_by p kind amount reply q legal rests later called within =
    let next = next_is p kind amount legal rests in
    let number = own_count p legal rests in
    record {
      same = (later.table, later.number, later.start);
      goes_on = histories_go_on p.seen q.seen later.legal later.start later.begins;
      mine_now = ap (λ (n : ℕ). own n (past q)) later.number ∙ called.joined ∙ ap (λ (call : Call). mine p ++ call ∷ []) next;
      behind = λ at stands. called.beyond at (ap (λ (n : ℕ). place p.number n (past q)) (sym number) ∙ stands);
      met = subst (λ (call : Call). Meets p.seen.start.cap p.seen.start.opening (past q) call reply) next (subst (λ (s : Start). Meets s.cap s.opening (past q) (call_of p kind amount) reply) later.start called.met);
      within = within;
      spent = ap (λ (n : ℕ). left_of q.seen n + amount) later.number ∙ called.spent;
      rests = subst (λ (n : ℕ). IsIdle q.seen n) (sym later.number) called.idle;
    }

-- the reply of a call is no more than the cap
pub within : (p : PassView) (kind : Kind) (amount reply : ℕ) (q : PassView) → IsLater p q → HasCalled p kind amount reply q → reply ≤ p.seen.start.cap
within p kind amount reply q later called = subst (λ (s : Start). reply ≤ s.cap) later.start (within_cap q.seen (call_of p kind amount) reply later.legal called.met)

-- so a pass that rested, and has made a call since, has made it in these words
pub made_since : (p : PassView) (kind : Kind) (amount reply : ℕ) (q : PassView) → Rests p → IsLater p q → HasCalled p kind amount reply q → Made p kind amount reply q
made_since p kind amount reply q rests later called = made_by p kind amount reply q (legal_since p q later) rests later called (within p kind amount reply q later called)

-- a pass that has made no call, as its steps tell it, has made none in these words too
pub made_none : (p q : PassView) → IsLater p q → HasMadeNone p q → MadeNone p q
made_none p q later none = record {
  same = (later.table, later.number, later.start);
  goes_on = histories_go_on p.seen q.seen later.legal later.start later.begins;
  mine_now = ap (λ (n : ℕ). own n (past q)) later.number ∙ none.calls;
  spent = ap (λ (n : ℕ). left_of q.seen n) later.number ∙ none.left;
  rests = subst (λ (n : ℕ). IsIdle q.seen n) (sym later.number) none.idle;
}
