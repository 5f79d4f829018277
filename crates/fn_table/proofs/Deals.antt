-- The passes are dealt out at the opening.
use Rattle.std.proofs.Common.{◌≡◌, ℕ, suc, ◌+◌, ◌-◌, ◌≤◌, ◌<◌, List, [], ◌∷◌, ◌++◌, refl, sym, ap, ◌∙◌, subst, arith, append-nil}
use Rattle.atomic_table.specs.Table.{Me, Allows}
use Rattle.atomic_table.specs.Seated.{TableId}
use Rattle.running.specs.declared.Part.{Part}
use Rattle.running.specs.Running.{knows, handing, handed, Running, TookAt, Took, numbers_from, numbers_of, part, upto, times}
use Rattle.running.proofs.Keeps.{nothing_more}
use Rattle.running.proofs.Logs.{legal_begins}
use Rattle.running.proofs.Numbers.{numbers_first, times_in}
use Rattle.fn_core.specs.declared.Start.{Start}
use Rattle.fn_core.specs.declared.Event.{Event}
use Rattle.fn_core.specs.declared.Move.TheVariants.{Glance}
use Rattle.fn_core.specs.Machine.{IsStart}
use Rattle.fn_core.specs.Words.{Own}
use Rattle.fn_table.specs.Funnel.{funnel}
use Rattle.fn_table.specs.Seen.{event, glances}
use Rattle.fn_table.specs.declared.spots.Spots.{Spots}
use Rattle.fn_table.specs.Spots.{spots_of}
use Rattle.fn_table.specs.Seats.{Known}
use Rattle.fn_table.proofs.Glances.{Rests, glance_keeps, glances_idle, glances_legal, glance_more}
use Rattle.fn_table.proofs.Owes.{IsSeatOf, event_of}

next_numbers : (k c : ℕ) → k < c → numbers_from k (c - k) ≡ k ∷ numbers_from (k + 1) (c - (k + 1))
next_numbers k c h = numbers_first k (c - k) (omega arith) ∙ ap (λ (z : ℕ × ℕ). k ∷ numbers_from z.0 z.1) (λ i. (let e : suc k ≡ k + 1 = omega arith in e i, let e : c - k - 1 ≡ c - (k + 1) = omega arith in e i))

-- what the seat has after a split that gives a number away
abbrev after_split : Me (Unit {0}) Known → Me (Unit {0}) Known
after_split me = (handing me.0, me.1)

-- the dealer without the number that it gave away
pub dealt : (start : Start) (k : ℕ) (log : List Event) (me : Me (Unit {0}) Known) → k < start.shape.passes → me ≡ (knows start (0 ∷ numbers_from k (start.shape.passes - k)) log, [])
    → after_split me ≡ (knows start (0 ∷ numbers_from (k + 1) (start.shape.passes - (k + 1))) log, [])
dealt start k log me h is =
    ap after_split is ∙ ap (λ (ns : List ℕ). after_split (knows start (0 ∷ ns) log, [])) (next_numbers k start.shape.passes h)

-- the seat that keeps all passes, and what its Glance makes of it
abbrev pub whole : Start → ℕ → Known
whole start k = knows start (0 ∷ numbers_from 1 (start.shape.passes - 1)) (glances k)

pub all_numbers : (start : Start) → 0 < start.shape.passes → upto start.shape.passes ≡ 0 ∷ numbers_from 1 (start.shape.passes - 1)
all_numbers start some = numbers_first 0 start.shape.passes some

glanced : (start : Start) (k : ℕ) (w : Known) → 0 < start.shape.passes → Took funnel (event 0 Glance) (whole start k) w → w ≡ whole start (k + 1)
glanced start k w some t =
    let ns : List ℕ = 0 ∷ numbers_from 1 (start.shape.passes - 1) in
    let legal = legal_begins funnel start t.before (event 0 Glance ∷ []) t.legal in
    let inside : (o : Own) (e : Event) → funnel.Guard start o e → 0 < times e.pass ns =
    λ o e may. subst (λ xs. 0 < times e.pass xs) (all_numbers start some) (times_in e.pass 0 start.shape.passes (omega arith) (let low : e.pass < start.shape.passes = may.3.0 in omega arith)) in
    let same : t.before ≡ glances k = nothing_more funnel start ns (glances k) t.before t.parts.0 legal inside in
    t.now ∙ (λ i. knows start (append-nil ns i) ((ap (λ l. l ++ event 0 Glance ∷ []) same ∙ glance_more k) i))

numbers_whole : (start : Start) (k : ℕ) → numbers_of (whole start k).parts ≡ 0 ∷ numbers_from 1 (start.shape.passes - 1)
numbers_whole start k = append-nil (0 ∷ numbers_from 1 (start.shape.passes - 1))

-- the Glance of the seat that keeps all passes
pub glance_whole : (key : Start) (slots id k : ℕ) (me : Me (Unit {0}) Known) (start : Start) → IsStart start → 0 < start.shape.passes → me ≡ (whole start k, [])
    → Allows (Running funnel key) slots id me 0 (λ n. n) (λ n after. TookAt funnel (event_of me.0 Glance) me.0 n after.0 × (after.1 ≡ me.1))
glance_whole key slots id k me start ok some is =
    let ns : List ℕ = 0 ∷ numbers_from 1 (start.shape.passes - 1) in
    let q : Part Event = part ns (glances k) in
    let one : 0 < times 0 ns = let t : 0 < times 0 (upto start.shape.passes) = times_in 0 0 start.shape.passes (omega arith) (omega arith) in subst (λ xs. 0 < times 0 xs) (all_numbers start some) t in
    let r : Rests 0 (whole start k) q = record {
      first = (numbers_from 1 (start.shape.passes - 1), numbers_whole start k);
      mine = subst (λ xs. 0 < times 0 xs) (sym (numbers_whole start k)) one;
      here = λ log each. each.0;
      kept = one;
      opens = ok;
      inside = some;
      idle = glances_idle start 0 k;
    } in
    glance_keeps key slots id me 0 q (subst (λ (x : Me (Unit {0}) Known). Rests 0 x.0 q) (sym is) r)

pub glance_tells : (start : Start) (k n : ℕ) (me me' : Me (Unit {0}) Known) → 0 < start.shape.passes → me ≡ (whole start k, []) → TookAt funnel (event_of me.0 Glance) me.0 n me'.0 → me'.1 ≡ me.1 → me' ≡ (whole start (k + 1), [])
glance_tells start k n me me' some is t same =
    let t' = subst (λ (x : Me (Unit {0}) Known). TookAt funnel (event_of x.0 Glance) x.0 n me'.0) is t in
    let one = glanced start k me'.0 some t'.took in
    let none : me'.1 ≡ [] = same ∙ ap (λ (x : Me (Unit {0}) Known). x.1) is in
    λ i. (one i, none i)

fresh_seat : (z : TableId) (start : Start) (n k : ℕ) → IsStart start → n < start.shape.passes → IsSeatOf n (spots_of start.shape n) z (knows start (n ∷ []) (glances k), [])
fresh_seat z start n k ok inside = (record { parts = refl }, refl, (ok, glances_legal start k (omega arith)), inside, refl)

-- the seat that gets a number
pub given_seat : (z : TableId) (start : Start) (k taken : ℕ) (me me' : Me (Unit {0}) Known) (spots : Spots) → k < start.shape.passes → IsStart start
    → me ≡ (knows start (0 ∷ numbers_from k (start.shape.passes - k)) (glances taken), []) → me' ≡ (handed me.0, []) → spots ≡ spots_of start.shape k → (me' ≡ (knows start (k ∷ []) (glances taken), [])) × IsSeatOf k spots z me'
given_seat z start k taken me me' spots h ok is is' mine =
    let given : me' ≡ (knows start (k ∷ []) (glances taken), []) =
    is' ∙ (ap (λ (x : Me (Unit {0}) Known). (handed x.0, [])) is ∙ ap (λ (ns : List ℕ). (handed (knows start (0 ∷ ns) (glances taken)), [])) (next_numbers k start.shape.passes h)) in
    (given, subst (λ (x : Spots × Me (Unit {0}) Known). IsSeatOf k x.0 z x.1) (λ i. (sym mine i, sym given i)) (fresh_seat z start k taken ok h))

-- the seat that dealt, once it keeps 0 alone
pub dealer_seat : (z : TableId) (start : Start) (k taken : ℕ) (me : Me (Unit {0}) Known) (spots : Spots) → start.shape.passes ≤ k → 0 < start.shape.passes → IsStart start
    → me ≡ (knows start (0 ∷ numbers_from k (start.shape.passes - k)) (glances taken), []) → spots ≡ spots_of start.shape 0 → (me ≡ (knows start (0 ∷ []) (glances taken), [])) × IsSeatOf 0 spots z me
dealer_seat z start k taken me spots last some ok is mine =
    let none : start.shape.passes - k ≡ 0 = omega arith in
    let here : me ≡ (knows start (0 ∷ []) (glances taken), []) = is ∙ (λ i. (knows start (0 ∷ numbers_from k (none i)) (glances taken), [])) in
    (here, subst (λ (x : Spots × Me (Unit {0}) Known). IsSeatOf 0 x.0 z x.1) (λ i. (sym mine i, sym here i)) (fresh_seat z start 0 taken ok some))
