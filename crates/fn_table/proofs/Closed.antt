-- What is known of a table that is closed.
use Rattle.std.proofs.Common.{◌≡◌, ℕ, zero, suc, ◌-◌, ◌<◌, List, [], ◌∷◌, ◌++◌, length, map, All, slice_get, Some, refl, sym, ap, ◌∙◌, subst, arith}
use mathlib.Core.Option.{some, some-injective}
use lib.ListN.{get_elem?}
use Rattle.atomic_table.specs.Table.{Allows, Final, Seen}
use Rattle.atomic_table.specs.Seated.{TableId}
use Rattle.atomic_table.specs.declared.shared.Seat.{Seat}
use Rattle.running.specs.declared.Part.{Part}
use Rattle.running.specs.Machine as machine
use Rattle.running.specs.Running.{times, upto, numbers_from, part, numbers_of, log_of, Each, noted, Fits, Running, Took, TookAt}
use Rattle.running.proofs.Keeps.{closes}
use Rattle.running.proofs.Numbers.{times_in, numbers_first}
use Rattle.fn_core.specs.declared.Start.{Start}
use Rattle.fn_core.specs.declared.Event.{Event}
use Rattle.fn_core.specs.declared.Move.TheVariants.{Glance}
use Rattle.fn_core.specs.State.{State}
use Rattle.fn_core.specs.Machine.{IsStart}
use Rattle.fn_core.specs.Words.{Own, word, words_of, list_of}
use Rattle.fn_layout.specs.Words.{read, words}
use Rattle.fn_core.specs.Calls.{CoreLog, state_in, IsLegal, IsIdle}
use Rattle.fn_table.specs.Funnel.{funnel}
use Rattle.fn_table.specs.Seen.{TableView, PassView, IsOf, AreAll, IsClosed}
use Rattle.fn_table.specs.Seats.{Known, taken_by, part_of, shown_book, IsGathering}
use Rattle.fn_table.proofs.FunnelLaws.{logs_are_legal}
use Rattle.fn_table.proofs.States.{runs}
use Rattle.fn_table.proofs.Glances.{Rests, glance_keeps}
use Rattle.fn_table.proofs.Owes.{event_of, keeps_one}

head-list_of : (f : ℕ → ℕ) (n : ℕ) → 0 < n → get_elem? (list_of f n) 0 ≡ some (f 0)
unfolding list_of
head-list_of f zero h = absurd (omega arith)
head-list_of f (suc n) h = refl

-- the main word stands first
main_at : (start : Start) (s : State) → get_elem? (words_of start s) 0 ≡ some s.main
main_at start s = head-list_of (λ n. word start s (read start.shape n)) (words start.shape) (omega arith)

numbers_of_parts : (ps : List PassView) → numbers_of (map part_of ps) ≡ map (λ p. p.number) ps
numbers_of_parts [] = refl
numbers_of_parts (p ∷ ps) = ap (λ ns. p.number ∷ ns) (numbers_of_parts ps)

each_at : (P : Part Event → Type 0) (ps : List PassView) (k : ℕ) (p : PassView) → Each P (map part_of ps) → slice_get ps k ≡ Some p → P (part_of p)
each_at P [] k p h e = absurd (cc)
each_at P (q ∷ ps) zero p h e = let is : q ≡ p = cc in subst (λ r. P (part_of r)) is h.0
each_at P (q ∷ ps) (suc k) p h e = each_at P ps k p h.1 e

-- a seat that has gathered all passes of a table
pub record HasGathered (b : Start) (ps : List PassView) (v : Known) : Type 0 where
  pub start : v.start ≡ b
  pub parts : v.parts ≡ part [] (log_of v.parts) ∷ map part_of ps
  pub whole : map (λ p. p.number) ps ≡ upto b.shape.passes
  pub starts : All (λ (p : PassView). p.seen.start ≡ b) ps
  pub idle : All (λ (p : PassView). IsIdle p.seen p.number) ps
  pub opens : IsStart b

pub gathered : (z : TableId) (key : Start) (t : TableView) (ps : List PassView) (s : Seat (Unit {0}) Known) → record { table = z; start = key } ≡ t → IsGathering z key ps s
    → AreAll t ps → All (λ (p : PassView). IsOf t p) ps → All (λ (p : PassView). IsIdle p.seen p.number) ps → IsStart key → HasGathered key ps s.me.0
gathered z key t ps s view g all together idle ok = record {
  start = g.opened;
  parts = g.parts;
  whole = all ∙ ap (λ (x : TableView). upto x.start.shape.passes) (sym view);
  starts = λ i d l. (together i d l).1 ∙ sym (ap (λ (x : TableView). x.start) view);
  idle = idle;
  opens = ok;
}

-- the first of them is the pass of number 0, and makes no call
first_pass : (b : Start) (ps : List PassView) → map (λ (p : PassView). p.number) ps ≡ upto b.shape.passes → All (λ (p : PassView). p.seen.start ≡ b) ps → All (λ (p : PassView). IsIdle p.seen p.number) ps
    → (p : PassView) × (qs : List PassView) × (ps ≡ p ∷ qs) × (p.number ≡ 0) × IsIdle (record { start = b; log = p.seen.log }) 0
first_pass b [] whole starts idle = let numbers = numbers_first 0 b.shape.passes (omega (arith, b.shape.passes_in_range)) in absurd (let e : [] ≡ 0 ∷ numbers_from 1 (b.shape.passes - 1) = whole ∙ numbers in let l : 0 ≡ suc (length (numbers_from 1 (b.shape.passes - 1))) = ap length e in omega arith)
first_pass b (p ∷ qs) whole starts idle =
    let numbers : upto b.shape.passes ≡ 0 ∷ numbers_from 1 (b.shape.passes - 1) = numbers_first 0 b.shape.passes (omega (arith, b.shape.passes_in_range)) in
    let both : p.number ∷ map (λ (q : PassView). q.number) qs ≡ 0 ∷ numbers_from 1 (b.shape.passes - 1) = whole ∙ numbers in
    let zero_th : p.number ≡ 0 = cc in
    let start : p.seen.start ≡ b = starts 0 p (omega arith) in
    let rests : IsIdle p.seen p.number = idle 0 p (omega arith) in
    (p, qs, refl, zero_th, subst (λ (z : Start × ℕ). IsIdle (record { start = z.0; log = p.seen.log }) z.1) (λ i. (start i, zero_th i)) rests)

module _ (b : Start) (ps : List PassView) (v : Known) (g : HasGathered b ps v) where
  numbers : numbers_of v.parts ≡ upto b.shape.passes
  numbers = ap numbers_of g.parts ∙ (numbers_of_parts ps ∙ g.whole)

  first : numbers_of v.parts ≡ 0 ∷ numbers_from 1 (b.shape.passes - 1)
  first = numbers ∙ numbers_first 0 b.shape.passes (omega (arith, b.shape.passes_in_range))

  -- its Glance
  pub last_glance : (key : Start) (slots id : ℕ) (carried : List (ℕ × Unit {0})) → Allows (Running funnel key) slots id (v, carried) 0 (λ k. k) (λ k after. TookAt funnel (event_of v Glance) v k after.0 × (after.1 ≡ carried))
  last_glance key slots id carried =
      let f = first_pass b ps g.whole g.starts g.idle in
      let q : Part Event = part_of f.0 in
      let parts : v.parts ≡ part [] (log_of v.parts) ∷ q ∷ map part_of f.1 = g.parts ∙ ap (λ (rs : List PassView). part [] (log_of v.parts) ∷ map part_of rs) f.2 in
      let r : Rests 0 v q = record {
        first = (numbers_from 1 (b.shape.passes - 1), first);
        mine = subst (λ xs. 0 < times 0 xs) (sym numbers) (times_in 0 0 b.shape.passes (omega arith) (omega (arith, b.shape.passes_in_range)));
        here = λ log each. (subst (Each (Fits funnel log)) parts each).1.0;
        kept = subst (λ n. 0 < times 0 (n ∷ [])) (sym f.3) (keeps_one 0);
        opens = subst IsStart (sym g.start) g.opens;
        inside = subst (λ (s : Start). 0 < s.shape.passes) (sym g.start) (omega (arith, b.shape.passes_in_range));
        idle = subst (λ (s : Start). IsIdle (record { start = s; log = q.log }) 0) (sym g.start) f.4;
      } in
      glance_keeps key slots id (v, carried) 0 q r

  module _ (w u : Known) (t : Took funnel (event_of v Glance) v w) (same : u ≡ noted w) where
    abbrev after : List Event
    after = t.before ++ event_of v Glance ∷ []

    book : shown_book u ≡ record { start = v.start; log = after }
    book = ap shown_book same ∙ ap (λ (x : Known). shown_book (noted x)) t.now

    pub book_start : (shown_book u).start ≡ b
    book_start = ap (λ (x : CoreLog). x.start) book ∙ g.start

    opens : IsStart v.start
    opens = subst IsStart (sym g.start) g.opens

    legal : IsLegal (record { start = v.start; log = after })
    legal = (opens, (logs_are_legal v.start after t.legal).0)

    pub legal_book : IsLegal (shown_book u)
    legal_book = subst IsLegal (sym book) legal

    -- the book has all that the passes have seen
    pub closed_book : IsClosed ps (shown_book u)
    closed_book = subst (IsClosed ps) (sym book) (record {
      before = t.before;
      last = ap (λ ns. t.before ++ taken_by ns Glance ∷ []) first;
      legal = legal;
      each = λ k p at. let fit = each_at (Fits funnel t.before) ps k p (subst (Each (Fits funnel t.before)) g.parts t.parts).1 at in record { begins = fit.begins; events = fit.own p.number (keeps_one p.number) };
    })

    -- and its main word is the one that is left
    pub closed_value : (key : Start) (id n : ℕ) (ws : List ℕ) (xs : List (Unit {0})) → Final (Seen (Running funnel key) id w) ws xs → get_elem? ws 0 ≡ some n → n ≡ (state_in (shown_book u)).main
    closed_value key id n ws xs end at =
        let inside : (o : Own) (e : Event) → funnel.Guard v.start o e → 0 < times e.pass (numbers_of v.parts) =
        λ o e may. subst (λ ns. 0 < times e.pass ns) (sym numbers) (times_in e.pass 0 b.shape.passes (omega arith) (let low : e.pass < b.shape.passes = subst (λ (s : Start). e.pass < s.shape.passes) g.start may.3.0 in omega arith)) in
        let c = closes funnel key id v.start (numbers_of v.parts) after ws xs inside (subst (λ (x : Known). Final (Seen (Running funnel key) id x) ws xs) t.now end) in
        some-injective _ _ (sym at ∙ ap (λ l. get_elem? l 0) c.0 ∙ main_at v.start (machine.state_of funnel v.start after)) ∙ ap (λ (s : State). s.main) (runs v.start after) ∙ ap (λ (x : CoreLog). (state_in x).main) (sym book)
