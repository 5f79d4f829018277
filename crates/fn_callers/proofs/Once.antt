-- A call that goes to the main word by itself, in the words of the history.
use Rattle.std.proofs.Common.{◌≡◌, ◌<◌, ◌≤◌, ◌≢◌, ℕ, Result, Ok, Err, IfOk, IfErr, sym, subst}
use Rattle.fn_model.specs.declared.Kind.{Kind}
use Rattle.fn_core.specs.declared.Start.{Start}
use Rattle.fn_core.specs.Calls.{IsLegal, IsIdle}
use Rattle.fn_table.specs.Seen.{PassView, own_of}
use Rattle.fn_table.specs.Later.{IsLater}
use Rattle.fn_direct.proofs.Joined.{none_made}
use Rattle.fn_direct.specs.declared.Lost.{Lost}
use Rattle.fn_table.specs.Called.{call_of, HasCalled, HasMadeNone}
use Rattle.fn_direct.specs.Tries.{Tried}
use Rattle.fn_table.specs.Claims.{Rests, Made, MadeNone}
use Rattle.fn_table.proofs.Claims.{within_cap}
use Rattle.fn_table.proofs.Claims.{made_by, made_none}

-- a pass that has the same caller as before has made no call
pub none_since : (p q : PassView) → p.number < p.seen.start.shape.passes → IsIdle p.seen p.number → IsLater p q → (own_of q).caller ≡ (own_of p).caller → HasMadeNone p q
none_since p q inside idle later caller =
    let is : q ≡ record p { seen = q.seen } = (λ i. record q { table = later.table i; number = later.number i }) in
    subst (λ (v : PassView). HasMadeNone p v) (sym is) (none_made p idle inside q.seen later.start later.legal later.begins (subst (λ (v : PassView). (own_of v).caller ≡ (own_of p).caller) is caller))

-- a call that the pass has made, as its steps tell it
pub made_once : (p : PassView) (kind : Kind) (amount reply : ℕ) (q : PassView) → IsLegal p.seen → Rests p → IsLater p q → HasCalled p kind amount reply q → Made p kind amount reply q
made_once p kind amount reply q legal rests later called =
    made_by p kind amount reply q legal rests later called (subst (λ (s : Start). reply ≤ s.cap) later.start (within_cap q.seen (call_of p kind amount) reply later.legal called.met))

-- .. by what a try answers
pub made_if : (p : PassView) (kind : Kind) (amount : ℕ) (q : PassView) (r : Result ℕ Lost) → IsLegal p.seen → Rests p → IsLater p q → IfOk r (λ before. HasCalled p kind amount before q) → IfOk r (λ before. Made p kind amount before q)
made_if p kind amount q (Ok before) legal rests later called = made_once p kind amount before q legal rests later called
made_if p kind amount q (Err lost) legal rests later called = tt

pub none_if : (p : PassView) (kind : Kind) (amount : ℕ) (q : PassView) (r : Result ℕ Lost) → IsLater p q → IfErr r (λ lost. Tried p kind amount lost.loaded lost.found q × (lost.found ≢ lost.loaded) × HasMadeNone p q) → IfErr r (λ _. MadeNone p q)
none_if p kind amount q (Ok before) later lost = tt
none_if p kind amount q (Err e) later lost = made_none p q later lost.2
