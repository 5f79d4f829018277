-- A call through the funnel, from before its beginning up to its reply.
use Rattle.std.proofs.Common.{◌≡◌, ℕ, suc, ◌+◌, ◌≤◌, length, sum, List, [], ◌∷◌, ◌++◌, Some, sym, ◌∙◌, ap, subst, arith}
use Rattle.std.specs.List.{Contains}
use Rattle.fn_model.specs.declared.Call.{Call}
use Rattle.fn_model.specs.declared.Kind.{Kind}
use Rattle.fn_model.specs.Calls.{own, place}
use Rattle.fn_core.specs.declared.Start.{Start}
use Rattle.fn_core.specs.declared.answer.CoreStep.TheVariants.{Ready}
use Rattle.fn_core.specs.Laws.{HasReply}
use Rattle.fn_core.specs.Calls.{CoreLog, state_in, calls_in, IsLegal, IsIdle, HasCall, left_of}
use Rattle.fn_core.specs.Entries.{IsBatched}
use Rattle.fn_core.proofs.Public.{funnelled_calls_are_batched}
use Rattle.fn_table.specs.Seen.{PassView, own_of}
use Rattle.fn_climb.specs.Begin.{HasBegun}
use Rattle.fn_table.specs.Later.{IsLater}
use Rattle.fn_climb.specs.Next.{PendingView}
use Rattle.fn_climb.specs.Steps.{HasSameCall}
use Rattle.fn_climb.specs.Turns.{Polled}
use Rattle.fn_table.proofs.Later.{later_on}
use Rattle.fn_table.specs.Called.{call_of, HasCalled}
use Rattle.fn_table.proofs.Claims.{none_underway}

-- the pass begins a call, polls it in vain up to here, and then has its reply
module _ (p b : PassView) (u : PendingView) (q : PassView) (kind : Kind) (amount reply : ℕ) (legal : IsLegal p.seen) (idle : IsIdle p.seen p.number) (later : IsLater p u.pass) (begun : HasBegun p kind amount b) (polls : HasSameCall b u.pass) (polled : Polled u (Ready reply) q) where
  number : q.number ≡ p.number
  number = polled.later.number ∙ later.number

  start : q.seen.start ≡ p.seen.start
  start = polled.later.start ∙ later.start

  last : (own_of q).caller.last ≡ call_of p kind amount
  last = polled.same.last ∙ polls.last ∙ begun.last

  made : (own_of q).caller.made ≡ suc (own_of p).caller.made
  made = polled.same.made ∙ polls.made ∙ begun.made

  met : HasReply q.seen.start (calls_in q.seen) (call_of p kind amount) reply
  met = subst (λ (call : Call). HasReply q.seen.start (calls_in q.seen) call reply) (ap (λ (n : ℕ). ((state_in q.seen).callers n).last) (sym polled.later.number) ∙ last) polled.follows.1

  abbrev Joins : Start × ℕ → Type 0
  Joins z =
      let was : CoreLog = record { start = z.0; log = p.seen.log } in
      (HasCall was z.1 → ⊥) → ((state_in q.seen).callers z.1).made ≡ suc ((state_in was).callers z.1).made → own z.1 (calls_in q.seen) ≡ own z.1 (calls_in was) ++ ((state_in q.seen).callers z.1).last ∷ []

  joined : own p.number (calls_in q.seen) ≡ own p.number (calls_in p.seen) ++ call_of p kind amount ∷ []
  joined =
      let grew : Joins (u.seen.start, u.number) = polled.follows.2 p.seen.log later.begins.0 (sym later.begins.1) in
      let here : Joins (p.seen.start, p.number) = subst Joins (λ i. (later.start i, later.number i)) grew in
      here (none_underway p.seen p.number legal idle) (ap (λ (n : ℕ). ((state_in q.seen).callers n).made) (sym number) ∙ made)
      ∙ ap (λ (call : Call). own p.number (calls_in p.seen) ++ call ∷ []) (ap (λ (n : ℕ). ((state_in q.seen).callers n).last) (sym number) ∙ last)

  abbrev Stands : Start × ℕ → Type 0
  Stands z =
      let was : CoreLog = record { start = z.0; log = p.seen.log } in
      ((state_in was).callers z.1).made ≤ (own_of q).caller.last.number → (i : ℕ) → place z.1 (own_of q).caller.last.number (calls_in q.seen) ≡ Some i → length (calls_in was) ≤ i

  beyond : (i : ℕ) → place p.number (call_of p kind amount).number (calls_in q.seen) ≡ Some i → length (calls_in p.seen) ≤ i
  beyond i at =
      let behind : Stands (q.seen.start, q.number) = polled.replied.beyond p.seen.log (let whole = later_on p u.pass q later polled.later in whole.begins) in
      let here : Stands (p.seen.start, p.number) = subst Stands (λ j. (start j, number j)) behind in
      let numbered : (own_of q).caller.last.number ≡ (own_of p).caller.made = ap (λ (call : Call). call.number) last in
      here (omega (arith, numbered)) i (ap (λ (n : ℕ). place p.number n (calls_in q.seen)) numbered ∙ at)

  pub funnelled : HasCalled p kind amount reply q
  funnelled = record {
    met = met;
    joined = joined;
    beyond = beyond;
    bounded = subst (λ (s : Start). reply ≤ s.opening + sum s.allowances) start polled.replied.bounded;
    spent = ap (λ (n : ℕ). left_of q.seen n + amount) (sym number) ∙ ap (λ (n : ℕ). n + amount) (polled.same.left ∙ polls.left) ∙ begun.left;
    idle = subst (λ (n : ℕ). IsIdle q.seen n) later.number polled.follows.0;
  }

-- a call that has met a reply stands in the history
pub has_met : (start : Start) (past : List Call) (call : Call) (reply : ℕ) → HasReply start past call reply → Contains past call
has_met opened past call reply met = (met.0, met.2, met.3)

-- a call that has waited at its leaf, and has its reply, has entered in a batch
pub batched : (p b q : PassView) (kind : Kind) (amount reply : ℕ) → HasBegun p kind amount b → IsLater b q → HasReply q.seen.start (calls_in q.seen) (call_of p kind amount) reply → IsBatched q.seen (call_of p kind amount)
batched p b q kind amount reply begun later met =
    subst (λ (call : Call). Contains (calls_in q.seen) call → IsBatched q.seen call) begun.last (funnelled_calls_are_batched b.seen q.seen later.legal later.start later.begins b.number kind begun.waits)
    (has_met q.seen.start (calls_in q.seen) (call_of p kind amount) reply met)
