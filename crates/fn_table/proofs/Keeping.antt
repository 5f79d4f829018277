-- What a pass keeps of itself after each kind of step.
use Rattle.std.proofs.Common.{◌≡◌, ◌≢◌, Bool, true, false, ℕ, ◌-◌, ◌==◌, refl, sym, ap, ◌∙◌, subst, arith}
use Rattle.std.proofs.lemmas.Bool.Decides.{nat_tests}
use mathlib.Core.Bool.{not}
use Rattle.fn_model.specs.declared.Kind.{Kind}
use Rattle.fn_core.specs.declared.Start.{Start}
use Rattle.fn_core.specs.declared.Move.{Move}
use Rattle.fn_core.specs.declared.Move.TheVariants.{Arrive, Leave, Exchange}
use Rattle.fn_core.specs.declared.Position.{Position}
use Rattle.fn_core.specs.declared.Position.TheVariants.{Climbing}
use Rattle.fn_core.specs.Words.{Own}
use Rattle.fn_core.specs.After.{arrived_own, left_own, exchanged_own, own_after}
use Rattle.fn_table.specs.declared.tally.Tally.{Tally}
use Rattle.fn_table.specs.Seen.{PassView, May, Stepped, own_of, HasLoaded}
use Rattle.fn_table.specs.Kept.{is_calling, KeepsOwn, Keeps, KeepsTally}
use Rattle.fn_table.proofs.Spares.{SparesRows, pointed_after, ends_after, rows_quiet, left_quiet, calling_quiet}

-- what holds at the own that the step leaves holds of the pass
pub keeps_after : (p q : PassView) (step : Move) (n : ℕ) (t : Tally) → Stepped p step n q → KeepsOwn p.seen.start p.number (own_after p.seen.start p.number step n (own_of p)) t → Keeps q t
keeps_after p q step n t s k =
    let start : p.seen.start ≡ q.seen.start = sym (ap (λ (x : PassView). x.seen.start) s.now) in
    let number : p.number ≡ q.number = sym (ap (λ (x : PassView). x.number) s.now) in
    subst (λ (z : Start × ℕ × Own). KeepsOwn z.0 z.1 z.2 t) (λ i. (start i, number i, sym s.own i)) k

-- a step that leaves the rows, by what it leaves of the allowance and of the call
pub keeps_with : (p q : PassView) (step : Move) (n : ℕ) (t : Tally) (left : ℕ) (calling : Bool) → SparesRows step → Keeps p t → Stepped p step n q
    → left ≡ (own_after p.seen.start p.number step n (own_of p)).caller.left → calling ≡ is_calling (own_after p.seen.start p.number step n (own_of p)).caller.position → Keeps q (record t { left = left; calling = calling })
keeps_with p q step n t left calling spares k s left_is calling_is =
    keeps_after p q step n (record t { left = left; calling = calling }) s (record {
      left = left_is;
      calling = calling_is;
      pointed = λ kind level at hi b row h. k.pointed kind level at hi b row (pointed_after p.seen.start p.number step n (own_of p) spares kind level at hi b row h);
      inside = k.inside;
      rows = k.rows;
      ends = λ kind level row slot inside. k.ends kind level row slot inside ∙ sym (ends_after p.seen.start p.number step n (own_of p) spares kind level row);
    })

-- a step that leaves all
pub keeps_quiet : (p q : PassView) (step : Move) (n : ℕ) (t : Tally) → Keeps p t → May p step → KeepsTally step → Stepped p step n q → Keeps q t
keeps_quiet p q step n t k may quiet s =
    keeps_with p q step n t t.left t.calling (rows_quiet step quiet) k s (k.left ∙ left_quiet p.seen.start p.number step n (own_of p) quiet) (k.calling ∙ calling_quiet p step n may quiet)

-- the call of a pass that leaves level 1 is over
left_calling : (cap : ℕ) (kind : Kind) (level : ℕ) (o : Own) → o.caller.position ≡ Climbing kind level → not (level == 1) ≡ is_calling (left_own cap kind level o).caller.position
left_calling cap kind level o climbs = grind (arith, nat_tests)

left_left : (cap : ℕ) (kind : Kind) (level : ℕ) (o : Own) → o.caller.left ≡ (left_own cap kind level o).caller.left
left_left cap kind level o = grind arith

pub keeps_leave : (p q : PassView) (kind : Kind) (level n : ℕ) (t : Tally) → May p (Leave kind level) → Keeps p t → Stepped p (Leave kind level) n q → Keeps q (record t { calling = not (level == 1) })
keeps_leave p q kind level n t may k s =
    keeps_with p q (Leave kind level) n t t.left (not (level == 1)) tt k s (k.left ∙ left_left p.seen.start.cap kind level (own_of p)) (left_calling p.seen.start.cap kind level (own_of p) may.1.0)

-- an arrival at level 1 begins a call
arrived_left : (pass : ℕ) (kind : Kind) (level weight n spent left : ℕ) (o : Own) → (level ≡ 1 → spent ≡ weight) → (level ≢ 1 → spent ≡ 0) → left ≡ o.caller.left → left - spent ≡ (arrived_own pass kind level weight n o).caller.left
arrived_left pass kind level weight n spent left o leaf above is = grind arith

arrived_calling : (pass : ℕ) (kind : Kind) (level weight n : ℕ) (o : Own) → is_calling o.caller.position ≡ is_calling (arrived_own pass kind level weight n o).caller.position
arrived_calling pass kind level weight n o = grind arith

pub keeps_arrive : (p q : PassView) (kind : Kind) (level weight n spent : ℕ) (t : Tally) → (level ≡ 1 → spent ≡ weight) → (level ≢ 1 → spent ≡ 0) → Keeps p t → Stepped p (Arrive kind level weight) n q → Keeps q (record t { left = t.left - spent })
keeps_arrive p q kind level weight n spent t leaf above k s =
    keeps_with p q (Arrive kind level weight) n t (t.left - spent) t.calling tt k s (arrived_left p.number kind level weight n spent t.left (own_of p) leaf above k.left) (k.calling ∙ arrived_calling p.number kind level weight n (own_of p))

-- an exchange leaves whether there is a call underway at an aggregator
exchanged_calling : (pass : ℕ) (kind : Kind) (amount n : ℕ) (o : Own) (position : Position) → o.caller.position ≡ position → is_calling position ≡ is_calling (exchanged_own pass kind amount n o position).caller.position
exchanged_calling pass kind amount n o position is = grind arith

-- .. and if it wins spends what a call takes, where there is none
pub won_left : (pass : ℕ) (kind : Kind) (amount n loaded spent left : ℕ) (o : Own) (position : Position) → HasLoaded loaded position → n ≡ loaded → (is_calling position ≡ false → spent ≡ amount) → (is_calling position ≡ true → spent ≡ 0) → left ≡ o.caller.left → left - spent ≡ (exchanged_own pass kind amount n o position).caller.left
won_left pass kind amount n loaded spent left o position has won direct batch is = grind (arith, nat_tests)

pub lost_left : (pass : ℕ) (kind : Kind) (amount n loaded : ℕ) (o : Own) (position : Position) → HasLoaded loaded position → n ≢ loaded → o.caller.left ≡ (exchanged_own pass kind amount n o position).caller.left
lost_left pass kind amount n loaded o position has lost = grind (arith, nat_tests)

pub keeps_exchange : (p q : PassView) (kind : Kind) (amount n left : ℕ) (t : Tally) → left ≡ (exchanged_own p.number kind amount n (own_of p) (own_of p).caller.position).caller.left → Keeps p t → Stepped p (Exchange kind amount) n q → Keeps q (record t { left = left })
keeps_exchange p q kind amount n left t is k s = keeps_with p q (Exchange kind amount) n t left t.calling tt k s is (k.calling ∙ exchanged_calling p.number kind amount n (own_of p) (own_of p).caller.position refl)
