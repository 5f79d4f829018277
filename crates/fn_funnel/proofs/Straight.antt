-- A call that goes to the main word by itself, where the first tries lose.
use Rattle.std.proofs.Common.{Bool, true, false, ◌<◌, ◌≡◌, ◌≢◌, ℕ, ◌≤◌, List, [], ◌∷◌, ◌++◌, refl, sym, ◌∙◌, subst, arith}
use Rattle.fn_model.specs.declared.Call.{Call}
use Rattle.fn_model.specs.declared.Kind.{Kind}
use Rattle.fn_core.specs.Machine.{MaySpend}
use Rattle.fn_core.specs.Calls.{state_in, IsLegal, IsIdle}
use Rattle.fn_core.specs.Entries.{IsAlone}
use Rattle.fn_core.specs.declared.Purpose.TheVariants as purpose
use Rattle.fn_core.specs.declared.Move.TheVariants.{Load, Exchange, Direct}
use Rattle.fn_table.specs.Seen.{TableView, PassView, IsOf, own_of}
use Rattle.fn_table.specs.Later.{IsLater}
use Rattle.fn_table.proofs.Later.{later_by, later_on, of_later}
use Rattle.fn_direct.specs.declared.Lost.{Lost}
use Rattle.fn_table.specs.Called.{call_of, HasCalled, HasMadeNone}
use Rattle.fn_direct.specs.Tries.{Tried}
use Rattle.fn_direct.proofs.Told.{later_tried}
use Rattle.fn_direct.proofs.Joined.{none_made, called_since}
use Rattle.fn_funnel.specs.Waiting.{TriesInVain, Exchanges, IsStraight}
use Rattle.fn_table.proofs.Later.{later_none}

-- the pass has tried so far in vain: it has seen more, and made no call
pub record HasTried (t : TableView) (p : PassView) (kind : Kind) (amount : ℕ) (q : PassView) : Type 0 where
  pub losts : List Lost
  pub in_vain : TriesInVain p kind amount losts q
  pub later : IsLater p q
  pub together : IsOf t q
  pub none : HasMadeNone p q
  pub idle : IsIdle q.seen q.number
  pub may : MaySpend (state_in q.seen) q.number amount

-- so often in vain
later_tries : (p : PassView) (kind : Kind) (amount : ℕ) (losts : List Lost) (q : PassView) → IsLegal p.seen → TriesInVain p kind amount losts q → IsLater p q
later_tries p kind amount [] q legal is = subst (λ (v : PassView). IsLater p v) (sym is) (later_none p legal)
later_tries p kind amount (lost ∷ losts) q legal tries =
    let first = later_tried p kind amount lost.loaded lost.found tries.0 tries.1 in
    later_on p tries.0 q first (later_tries tries.0 kind amount losts q first.legal tries.4)

-- a call that went to the main word by itself
pub later_straight : (one : Bool) (p : PassView) (kind : Kind) (amount reply : ℕ) (q : PassView) → IsLegal p.seen → IsStraight one p kind amount reply q → IsLater p q
later_straight true p kind amount reply q legal way = later_by p (Direct amount) reply q way
later_straight false p kind amount reply q legal way =
    later_on p way.until q (later_tries p kind amount way.losts way.until legal way.in_vain) (later_tried way.until kind amount reply reply q way.won)

-- a pass that has the same caller as before has made no call
pub none_since : (p q : PassView) → p.number < p.seen.start.shape.passes → IsIdle p.seen p.number → IsLater p q → (own_of q).caller ≡ (own_of p).caller → HasMadeNone p q
none_since p q inside idle later caller =
    let is : q ≡ record p { seen = q.seen } = (λ i. record q { table = later.table i; number = later.number i }) in
    subst (λ (v : PassView). HasMadeNone p v) (sym is) (none_made p idle inside q.seen later.start later.legal later.begins (subst (λ (v : PassView). (own_of v).caller ≡ (own_of p).caller) is caller))

-- the next call of a pass that has made none
pub same_call : (p m : PassView) (kind : Kind) (amount : ℕ) → m.number ≡ p.number → (own_of m).caller.made ≡ (own_of p).caller.made → call_of m kind amount ≡ call_of p kind amount
same_call p m kind amount number made = λ i. record { pass = number i; number = made i; kind = kind; amount = amount }

pub none_more : (p m q : PassView) → m.number ≡ p.number → HasMadeNone p m → HasMadeNone m q → HasMadeNone p q
none_more p m q number first then_none =
    let here : HasMadeNone (record m { number = p.number }) q = subst (λ (n : ℕ). HasMadeNone (record m { number = n }) q) number then_none in
    record { calls = here.calls ∙ first.calls; made = then_none.made ∙ first.made; left = here.left ∙ first.left; idle = here.idle }

pub tries_more : (p : PassView) (kind : Kind) (amount : ℕ) (losts : List Lost) (m : PassView) (lost : Lost) (q : PassView) → TriesInVain p kind amount losts m → Tried m kind amount lost.loaded lost.found q → lost.found ≢ lost.loaded → HasMadeNone m q → TriesInVain p kind amount (losts ++ lost ∷ []) q
tries_more p kind amount [] m lost q is tried other none =
    subst (λ (v : PassView). TriesInVain v kind amount (lost ∷ []) q) is (q, tried, other, none, refl)
tries_more p kind amount (first ∷ more) m lost q tries tried other none = (tries.0, tries.1, tries.2, tries.3, tries_more tries.0 kind amount more m lost q tries.4 tried other none)

module _ (t : TableView) (p : PassView) (kind : Kind) (amount : ℕ) (together : IsOf t p) (idle : IsIdle p.seen p.number) (may : MaySpend (state_in p.seen) p.number amount) (legal : IsLegal p.seen) where
  pub tried_none : HasTried t p kind amount p
  tried_none = record {
    losts = [];
    in_vain = refl;
    later = later_none p legal;
    together = together;
    none = record { calls = refl; made = refl; left = refl; idle = idle };
    idle = idle;
    may = may;
  }

  module _ (m : PassView) (so_far : HasTried t p kind amount m) where
    -- one more exchange lost
    pub tried_more : (lost : Lost) (q : PassView) → Tried m kind amount lost.loaded lost.found q → lost.found ≢ lost.loaded → HasMadeNone m q → HasTried t p kind amount q
    tried_more lost q tried other none =
        let here = later_tried m kind amount lost.loaded lost.found q tried in
        let later = later_on p m q so_far.later here in
        record {
          losts = so_far.losts ++ lost ∷ [];
          in_vain = tries_more p kind amount so_far.losts m lost q so_far.in_vain tried other none;
          later = later;
          together = of_later t m q here so_far.together;
          none = none_more p m q so_far.later.number so_far.none none;
          idle = subst (λ (n : ℕ). IsIdle q.seen n) (sym here.number) none.idle;
          may = (may.0, subst (λ (n : ℕ). amount ≤ ((state_in q.seen).callers n).left) (sym here.number) (let kept = none.left in let enough = so_far.may.1 in omega (arith, kept, enough)));
        }

    -- one won
    pub won_way : (reply : ℕ) (q : PassView) → Tried m kind amount reply reply q → Exchanges p kind amount reply q
    won_way reply q tried = record { losts = so_far.losts; until = m; in_vain = so_far.in_vain; won = tried }

    pub won_called : (reply : ℕ) (q : PassView) → HasCalled m kind amount reply q → HasCalled p kind amount reply q
    won_called reply q called = called_since p m q kind amount reply so_far.later.number so_far.later.start so_far.later.legal so_far.later.begins so_far.none called

    pub won_alone : (q : PassView) → IsAlone q.seen (call_of m kind amount) → IsAlone q.seen (call_of p kind amount)
    won_alone q alone = subst (λ (call : Call). IsAlone q.seen call) (same_call p m kind amount so_far.later.number so_far.none.made) alone
