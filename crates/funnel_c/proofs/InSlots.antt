-- What a caller tells, told of the slot that it is in.
use Rattle.std.proofs.Common.{◌≡◌, ℕ, Option, Some, Result, Ok, Err, IfOk, sym, subst, arith}
use Rattle.fn_model.specs.declared.Kind.{Kind}
use Rattle.fn_table.specs.Claims.{MadeNone}
use Rattle.fn_callers.specs.declared.caller.Reason.{Reason}
use Rattle.fn_callers.specs.declared.caller.Reason.TheVariants as why
use Rattle.fn_callers.specs.Callers.{CallerView, IsFree}
use Rattle.fn_callers.specs.Told.{ChangeTold, BeginTold, HasMade}
use Rattle.funnel_c.specs.declared.statuses.TheConstants.{OK, NO_ROW, LOST}
use Rattle.funnel_c.specs.Slots.{InBoth}
use Rattle.funnel_c.specs.Told.{status_of, begun_status, reply_or, CallTold}

-- a slot that has these callers before and after
pub in_both : (Tells : CallerView → CallerView → Type 0) (held now : Option CallerView) (old new : CallerView) → held ≡ Some old → now ≡ Some new → Tells old new → InBoth Tells held now
in_both Tells held now old new was is tells = subst (λ (o : Option CallerView). InBoth Tells o now) (sym was) (subst (λ (n : Option CallerView). InBoth Tells (Some old) n) (sym is) tells)

pub call_told : (Tells : CallerView → Result ℕ Reason → CallerView → Type 0) (held now : Option CallerView) (old new : CallerView) (answer : Result ℕ Reason) (status before after : ℕ) → held ≡ Some old → now ≡ Some new → status ≡ status_of answer → after ≡ reply_or before answer → Tells old answer new → CallTold Tells held status before after now
call_told Tells held now old new answer status before after was is says wrote tells =
    subst (λ (o : Option CallerView). CallTold Tells o status before after now) (sym was) (subst (λ (n : Option CallerView). CallTold Tells (Some old) status before after n) (sym is) (answer, says, wrote, tells))

-- a call that lost is none
pub lost_none : (old : CallerView) (kind : Kind) (amount : ℕ) (answer : Result ℕ Reason) (new : CallerView) → status_of answer ≡ LOST → ChangeTold old kind amount answer new → MadeNone old.pass new.pass
lost_none old kind amount (Ok before) new is told = absurd (omega (arith, is))
lost_none old kind amount (Err why.Lost) new is told = told.3
lost_none old kind amount (Err why.Underway) new is told = absurd (omega (arith, is))
lost_none old kind amount (Err why.Spent) new is told = absurd (omega (arith, is))
lost_none old kind amount (Err _) new is told = absurd told

-- nor is one that found no row
pub no_row_none : (old : CallerView) (kind : Kind) (amount : ℕ) (answer : Result (Unit {0}) Reason) (new : CallerView) → begun_status answer ≡ NO_ROW → BeginTold old kind amount answer new → IsFree new × MadeNone old.pass new.pass
no_row_none old kind amount (Ok _) new is told = absurd (omega (arith, is))
no_row_none old kind amount (Err why.NoRow) new is told = (told.2, told.3)
no_row_none old kind amount (Err why.Underway) new is told = absurd (omega (arith, is))
no_row_none old kind amount (Err why.Spent) new is told = absurd (omega (arith, is))
no_row_none old kind amount (Err _) new is told = absurd told

-- a poll that ends the call
pub poll_made : (old : CallerView) (answer : Result ℕ Reason) (new : CallerView) (before after : ℕ) → status_of answer ≡ OK → after ≡ reply_or before answer → IfOk answer (λ reply. HasMade old reply new) → HasMade old after new
poll_made old (Ok reply) new before after is wrote made = subst (λ (n : ℕ). HasMade old n new) (sym wrote) made
poll_made old (Err why.NotYet) new before after is wrote made = absurd (omega (arith, is))
poll_made old (Err why.NoRow) new before after is wrote made = absurd (omega (arith, is))
poll_made old (Err why.Lost) new before after is wrote made = absurd (omega (arith, is))
poll_made old (Err why.Underway) new before after is wrote made = absurd (omega (arith, is))
poll_made old (Err why.Idle) new before after is wrote made = absurd (omega (arith, is))
poll_made old (Err why.Spent) new before after is wrote made = absurd (omega (arith, is))
