-- The seats are dealt out at the opening, and gathered at the closing.
use Rattle.std.proofs.Common.{◌≡◌, ℕ, zero, suc, ◌+◌, ◌-◌, ◌≤◌, ◌<◌, List, [], ◌∷◌, ◌++◌, length, map, All, refl, sym, ap, ◌∙◌, subst, append_assoc, arith}
use Rattle.std.proofs.lemmas.List.{map-append}
use Rattle.atomic_table.specs.Table.{Enters, Allows, opening}
use Rattle.atomic_table.specs.Seated.{TableId}
use Rattle.atomic_table.specs.declared.shared.Seat.{Seat}
use Rattle.running.specs.Machine.{IsLegal}
use Rattle.running.specs.Running.{part, log_of, knows, handing, handed, joined, numbers_from, upto, Each, Fits, Running}
use Rattle.running.specs.Looks.{Looked}
use Rattle.running.proofs.Keeps.{begins, enters}
use Rattle.running.proofs.Looks.{looks}
use Rattle.running.proofs.Logs.{guard_at}
use Rattle.running.proofs.Lists.{next_numbers, each_at}
use Rattle.running.proofs.Numbers.{times_once}
use Rattle.tick_table.specs.declared.entry.Start.{Start}
use Rattle.tick_table.specs.declared.entry.Entry.{Entry}
use Rattle.tick_table.specs.Ticks.{ticks}
use Rattle.tick_table.specs.Claims.{reach}
use Rattle.tick_table.specs.Seen.{SeatView, TickLog, IsClosed}
use Rattle.tick_table.specs.Seats.{Known, Seated, shown, shown_log, HasOne, part_of, IsGathering}
use Rattle.tick_table.proofs.Ticks.{keeps_one}

-- the rule at the opening
pub opens : (start : Start) (words : List ℕ) → words ≡ start.tick ∷ [] → Running ticks start (opening {S = Unit {0}} words [] (knows start (upto start.desks) []))
opens start words is = begins ticks start words (upto start.desks) is (λ n. times_once n 0 start.desks)

-- what a seat has after a split that gives a number away
abbrev after_split : Seated → Seated
after_split me = (handing me.0, me.1)

-- the dealer without the number that it gave away
pub dealt : (start : Start) (k : ℕ) (me : Seated) → k < start.desks → me ≡ (knows start (0 ∷ numbers_from k (start.desks - k)) [], [])
    → after_split me ≡ (knows start (0 ∷ numbers_from (k + 1) (start.desks - (k + 1))) [], [])
dealt start k me h is = ap after_split is ∙ ap (λ (ns : List ℕ). after_split (knows start (0 ∷ ns) [], [])) (next_numbers k start.desks h)

-- what holds of the seat of a number
abbrev pub IsSeatOf : ℕ → Seated → Type 0
IsSeatOf n me = HasOne n me.0 × (me.1 ≡ []) × (n < me.0.start.desks)

fresh_seat : (start : Start) (n : ℕ) → n < start.desks → IsSeatOf n (knows start (n ∷ []) [], [])
fresh_seat start n inside = (record { parts = refl }, refl, inside)

-- the seat that gets a number
pub given_seat : (start : Start) (k : ℕ) (me me' : Seated) → k < start.desks → me ≡ (knows start (0 ∷ numbers_from k (start.desks - k)) [], []) → me' ≡ (handed me.0, [])
    → (me' ≡ (knows start (k ∷ []) [], [])) × IsSeatOf k me'
given_seat start k me me' h is is' =
    let given : me' ≡ (knows start (k ∷ []) [], []) =
    is' ∙ (ap (λ (x : Seated). (handed x.0, [])) is ∙ ap (λ (ns : List ℕ). (handed (knows start (0 ∷ ns) []), [])) (next_numbers k start.desks h)) in
    (given, subst (IsSeatOf k) (sym given) (fresh_seat start k h))

-- the seat that dealt, once it keeps 0 alone
pub dealer_seat : (start : Start) (k : ℕ) (me : Seated) → start.desks ≤ k → 0 < start.desks → me ≡ (knows start (0 ∷ numbers_from k (start.desks - k)) [], [])
    → (me ≡ (knows start (0 ∷ []) [], [])) × IsSeatOf 0 me
dealer_seat start k me last some_desk is =
    let none : start.desks - k ≡ 0 = omega arith in
    let mine : me ≡ (knows start (0 ∷ []) [], []) = is ∙ (λ i. (knows start (0 ∷ numbers_from k (none i)) [], [])) in
    (mine, subst (IsSeatOf 0) (sym mine) (fresh_seat start 0 some_desk))

-- a new seat that sees the whole log
pub sits : (key : Start) (slots word : ℕ) → Enters {S = Unit {0}} (Running ticks key) slots word (λ n w. w ≡ knows key [] (log_of w.parts))
sits key slots word = enters ticks key slots word (λ n w. w ≡ knows key [] (log_of w.parts)) (λ n log. refl)

-- it has a part
pub gathering_has : (z : TableId) (b : Start) (ps : List SeatView) (s : Seat (Unit {0}) Known) → IsGathering z b ps s → 0 < length s.me.0.parts
gathering_has z b ps s g = subst (λ qs. 0 < length qs) (sym g.parts) (omega arith)

-- a look of it
pub last_look : (z : TableId) (b : Start) (ps : List SeatView) (s : Seat (Unit {0}) Known) → IsGathering z b ps s → (key : Start) (slots id word : ℕ)
    → Allows (Running ticks key) slots id s.me word (λ n. n) (λ n after. Looked ticks word s.me.0 n after.0 × (after.1 ≡ s.me.1))
last_look z b ps s g key slots id word = looks ticks key slots id s.me word (gathering_has z b ps s g)

-- and with one seat more
pub gathers : (z z' : TableId) (b : Start) (ps : List SeatView) (s s' : Seat (Unit {0}) Known) (p : SeatView) (n : ℕ) (v : Known) → IsGathering z b ps s → shown z' n v ≡ p → HasOne n v
    → s'.table_id ≡ s.table_id → s'.me ≡ (joined s.me.0 v, s.me.1) → IsGathering z b (ps ++ p ∷ []) s'
gathers z z' b ps s s' p n v g is one same met =
    let parts : s'.me.0.parts ≡ (part [] (log_of s.me.0.parts) ∷ map part_of ps) ++ part_of p ∷ [] =
    ap (λ (m : Seated). m.0.parts) met ∙ (λ i. g.parts i ++ (one.parts ∙ ap (λ q. part_of q ∷ []) is) i) in
    let log : log_of s'.me.0.parts ≡ log_of s.me.0.parts = ap log_of parts in
    record {
      table = same ∙ g.table;
      opened = ap (λ (m : Seated). m.0.start) met ∙ g.opened;
      parts = parts ∙ (λ i. part [] (sym log i) ∷ sym (map-append part_of ps (p ∷ [])) i);
      empty = ap (λ (m : Seated). m.1) met ∙ g.empty;
    }

-- each entry of a legal log is of one of the desks
desks_in : (start : Start) (xs ys : List Entry) → IsLegal ticks start (xs ++ ys) → All (λ (e : Entry). e.desk < start.desks) ys
desks_in start xs [] legal i d l = absurd (omega arith)
desks_in start xs (y ∷ ys) legal zero d l = guard_at ticks start xs y ys legal
desks_in start xs (y ∷ ys) legal (suc i) d l = desks_in start (xs ++ y ∷ []) ys (subst (IsLegal ticks start) (sym (append_assoc xs (y ∷ []) ys)) legal) i d (omega arith)

-- what the last look tells
module _ (z : TableId) (b : Start) (ps : List SeatView) (s : Seat (Unit {0}) Known) (w : Known) (n : ℕ) (g : IsGathering z b ps s) (looked : Looked ticks 0 s.me.0 n w) where
  book : shown_log w ≡ record { start = b; log = looked.log }
  book = ap shown_log looked.now ∙ ap (λ (x : Start). record { start = x; log = looked.log }) g.opened

  pub closed_start : (shown_log w).start ≡ b
  closed_start = ap (λ (x : TickLog). x.start) book

  pub closed_tick : n ≡ reach (shown_log w).start.tick (shown_log w).log
  closed_tick = looked.found ∙ ap (λ (x : Start). reach x.tick looked.log) g.opened ∙ ap (λ (x : TickLog). reach x.start.tick x.log) (sym book)

  pub closed_has : IsClosed ps (shown_log w)
  closed_has = subst (IsClosed ps) (sym book) (record {
    each = λ k p at.
        (let fit = each_at (Fits ticks looked.log) part_of ps k p (subst (Each (Fits ticks looked.log)) g.parts looked.parts).1 at in
        record { begins = fit.begins; own = fit.own p.number (keeps_one p.number) });
    desks = desks_in b [] looked.log (subst (λ (x : Start). IsLegal ticks x looked.log) g.opened looked.legal);
  })
