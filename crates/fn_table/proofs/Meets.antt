-- A pass takes in a note.
use Rattle.std.proofs.Common.{◌≡◌, ℕ, ◌<◌, List, [], ◌∷◌, ◌++◌, length, refl, sym, ap, ◌∙◌, subst, arith}
use Rattle.atomic_table.specs.Table.{Me, Allows}
use Rattle.atomic_table.specs.Seated.{TableId}
use Rattle.running.specs.declared.Part.{Part}
use Rattle.running.specs.Running.{part, log_of, view, knows, joined, Running, TookAt, Each, Fits}
use Rattle.fn_core.specs.declared.Start.{Start}
use Rattle.fn_core.specs.declared.Event.{Event}
use Rattle.fn_core.specs.declared.Move.TheVariants.{Glance}
use Rattle.fn_core.specs.Calls.{IsIdle}
use Rattle.fn_table.specs.Funnel.{funnel}
use Rattle.fn_table.specs.Seen.{PassView, NoteView, event, Met}
use Rattle.fn_table.specs.declared.spots.Spots.{Spots}
use Rattle.fn_table.specs.Spots.{spots_of}
use Rattle.fn_table.specs.Seats.{Known, shown, shown_note, HasOne, HasNone}
use Rattle.fn_table.proofs.Glances.{Rests, glance_keeps}
use Rattle.fn_table.proofs.Owes.{IsSeatOf, event_of, keeps_one, tells}

pub has_part : (n : ℕ) (v : Known) → HasOne n v → 0 < length v.parts
has_part n v one = subst (λ ps. 0 < length ps) (sym one.parts) (omega arith)

-- what the seat knows then
both_parts : (n : ℕ) (v u : Known) → HasOne n v → HasNone u → joined v u ≡ view v.start (part (n ∷ []) (log_of v.parts) ∷ part [] (log_of u.parts) ∷ [])
both_parts n v u one none = λ i. view v.start (one.parts i ++ none.parts i)

-- the Glance that ends a meeting
pub glance_met : (key : Start) (slots id : ℕ) (z : TableId) (n : ℕ) (spots : Spots) (own : Me (Unit {0}) Known) (u : Known) (p : PassView) (me : Me (Unit {0}) Known) (carried : List (ℕ × Unit {0})) → shown z n own.0 ≡ p → IsSeatOf n spots z own → HasNone u
    → IsIdle p.seen p.number → me ≡ (joined own.0 u, carried)
    → Allows (Running funnel key) slots id me 0 (λ k. k) (λ k after. TookAt funnel (event_of me.0 Glance) me.0 k after.0 × (after.1 ≡ me.1))
glance_met key slots id z n spots own u p me carried is seat none idle same =
    let v : Known = own.0 in
    let q : Part Event = part (n ∷ []) (log_of v.parts) in
    let w : Known = view v.start (q ∷ part [] (log_of u.parts) ∷ []) in
    let r : Rests n w q = record {
      first = ([], refl);
      mine = keeps_one n;
      here = λ log each. each.0;
      kept = keeps_one n;
      opens = seat.2.0;
      inside = seat.3;
      idle = subst (λ (x : PassView). IsIdle x.seen x.number) (sym is) idle;
    } in
    let there : me ≡ (w, carried) = same ∙ ap (λ (x : Known). (x, carried)) (both_parts n v u seat.0 none) in
    glance_keeps key slots id me n q (subst (λ (x : Me (Unit {0}) Known). Rests n x.0 q) (sym there) r)

-- what it took, as a step of the pass alone
abbrev took_alone : (n : ℕ) (v u x w : Known) (k : ℕ) → HasOne n v → HasNone u → x ≡ joined v u → TookAt funnel (event_of x Glance) x k w
    → (t : TookAt funnel (event n Glance) (knows v.start (n ∷ []) (log_of v.parts)) k w) × Each (Fits funnel t.took.before) (part [] (log_of u.parts) ∷ [])
took_alone n v u x w k one none met t =
    let t' = subst (λ y. TookAt funnel (event_of y Glance) y k w) (met ∙ both_parts n v u one none) t in
    (record { took = record { before = t'.took.before; now = t'.took.now; legal = t'.took.legal; parts = (t'.took.parts.0, tt) }; answer = t'.answer }, t'.took.parts.1)

-- what a meeting tells
pub meet_tells : (z z' z'' : TableId) (n : ℕ) (spots : Spots) (own : Me (Unit {0}) Known) (u x w : Known) (p : PassView) (q : NoteView) (k : ℕ) → shown z n own.0 ≡ p → shown_note z'' u ≡ q → IsSeatOf n spots z own → HasNone u → z' ≡ z → x ≡ joined own.0 u → TookAt funnel (event_of x Glance) x k w → Met p q (shown z' n w)
meet_tells z z' z'' n spots own u x w p q k is is' seat none same met t =
    let mine = took_alone n own.0 u x w k seat.0 none met t in
    subst (λ (y : PassView × NoteView). Met y.0 y.1 (shown z' n w)) (λ i. (is i, is' i)) (record { stepped = (k, tells z z' n own.0 w Glance k seat.2 same mine.0); note = mine.1.0.begins })

-- and its seat is still that of the pass
pub met_still : (z : TableId) (n : ℕ) (spots : Spots) (own : Me (Unit {0}) Known) (u : Known) (me me' : Me (Unit {0}) Known) (k : ℕ) → IsSeatOf n spots z own → HasNone u → me ≡ (joined own.0 u, own.1) → TookAt funnel (event_of me.0 Glance) me.0 k me'.0 → me'.1 ≡ me.1 → IsSeatOf n spots z me'
met_still z n spots own u me me' k seat none met t same =
    let mine = took_alone n own.0 u me.0 me'.0 k seat.0 none (ap (λ (x : Me (Unit {0}) Known). x.0) met) t in
    let start : own.0.start ≡ me'.0.start = sym (ap (λ (u : Known). u.start) mine.0.took.now) in (
      subst (HasOne n) (sym mine.0.took.now) (record { parts = refl }),
      same ∙ ap (λ (x : Me (Unit {0}) Known). x.1) met ∙ seat.1,
      (tells z z n own.0 me'.0 Glance k seat.2 refl mine.0).legal,
      subst (λ (b : Start). n < b.shape.passes) start seat.3,
      seat.4 ∙ ap (λ (b : Start). spots_of b.shape n) start,
    )
