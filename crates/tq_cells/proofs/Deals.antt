-- The seats are dealt out at the opening, and gathered at the closing.
use Rattle.std.proofs.Common.{◌≡◌, ℕ, zero, suc, ◌+◌, ◌-◌, ◌*◌, ◌≤◌, ◌<◌, List, [], ◌∷◌, ◌++◌, length, map, All, ⊎_elim, refl, sym, ap, ◌∙◌, subst, arith}
use Rattle.std.specs.Prelude.{Option, Some, None, replicate, slice_get}
use Rattle.std.proofs.lemmas.List.{map-append}
use mathlib.Core.Option.{some, some-injective, some-ne-none}
use lib.ListN.{get_elem?}
use Rattle.atomic_table.specs.Table.{opening}
use Rattle.atomic_table.specs.Seated.{TableId}
use Rattle.atomic_table.specs.declared.shared.Seat.{Seat}
use Rattle.running.specs.declared.Part.{Part}
use Rattle.running.specs.Running.{knows, handing, handed, joined, numbers_from, part, log_of, upto, Each, HasLog, Fits}
use Rattle.running.proofs.Keeps.{begins_with}
use Rattle.running.proofs.Logs.{guard_at}
use Rattle.running.proofs.Numbers.{numbers_first, numbers_more, times_once}
use Rattle.tq_cells.specs.declared.entry.Start.{Start}
use Rattle.tq_cells.specs.declared.entry.Event.{Event}
use Rattle.tq_cells.specs.Machine.{cells, exact}
use Rattle.tq_cells.specs.Laws.{IsExact, state}
use Rattle.tq_cells.specs.Rule.{Known, Seated, Rule, IsSeat, Looked}
use Rattle.tq_cells.specs.Seen.{CellsView, SeatView, fresh, HasAll, IsClosed}
use Rattle.tq_cells.specs.Seats.{shown, shown_log, part_of, IsGathering}
use Rattle.tq_cells.proofs.Steps.{keeps_one}

next_numbers : (k c : ℕ) → k < c → numbers_from k (c - k) ≡ k ∷ numbers_from (k + 1) (c - (k + 1))
next_numbers k c h = numbers_first k (c - k) (omega arith) ∙ ap (λ (z : ℕ × ℕ). k ∷ numbers_from z.0 z.1) (λ i. (let e : suc k ≡ k + 1 = omega arith in e i, let e : c - k - 1 ≡ c - (k + 1) = omega arith in e i))

-- one number more
pub upto_more : {A : Type 0} (f : ℕ → A) (n : ℕ) → map f (upto n) ++ f n ∷ [] ≡ map f (upto (n + 1))
upto_more f n =
    let one : suc n ≡ n + 1 = omega arith in
    let at : 0 + n ≡ n = omega arith in
    ap (λ k. map f (upto n) ++ f k ∷ []) (sym at) ∙ (sym (map-append f (upto n) ((0 + n) ∷ [])) ∙ (ap (map f) (sym (numbers_more 0 n)) ∙ ap (λ k. map f (upto k)) one))

length-numbers : (f : ℕ → ℕ) (k n : ℕ) → length (map f (numbers_from k n)) ≡ n
length-numbers f k zero = refl
length-numbers f k (suc n) = ap suc (length-numbers f (suc k) n)

-- there are as many words as cells
pub as_many : (f : ℕ → ℕ) (words : List ℕ) (n : ℕ) → words ≡ map f (upto n) → length words ≡ n
as_many f words n is = ap length is ∙ length-numbers f 0 n

-- the slots of cells that open
abbrev pub empties : (T : Type 0) → ℕ → List (Option T)
empties T n = replicate n None

empty_slot : (T : Type 0) (n c : ℕ) → c < n → get_elem? (map some (empties T n)) c ≡ some (some None)
empty_slot T zero c low = absurd (omega arith)
empty_slot T (suc n) zero low = refl
empty_slot T (suc n) (suc c) low = empty_slot T n c (omega arith)

empty_slots : (T : Type 0) (n : ℕ) → length (map some (empties T n)) ≡ n
empty_slots T zero = refl
empty_slots T (suc n) = ap suc (empty_slots T n)

module _ {T : Type 0} where
  -- what a seat has after a split that gives a number away
  abbrev after_split : Seated T → Seated T
  after_split me = (handing me.0, me.1)

  -- the dealer without the number that it gave away
  pub dealt : (start : Start) (k : ℕ) (me : Seated T) → k < start.seats → me ≡ (knows start (0 ∷ numbers_from k (start.seats - k)) [], [])
      → after_split me ≡ (knows start (0 ∷ numbers_from (k + 1) (start.seats - (k + 1))) [], [])
  dealt start k me h is = ap after_split is ∙ ap (λ (ns : List ℕ). after_split (knows start (0 ∷ ns) [], [])) (next_numbers k start.seats h)

  -- what holds of the seat of a number
  abbrev pub IsSeatOf : ℕ → Seated T → Type 0
  IsSeatOf n me = IsSeat n None me.0 × (me.1 ≡ [])

  fresh_seat : (start : Start) (n : ℕ) → n < start.seats → 0 < start.capacity → IsSeatOf n (knows start (n ∷ []) [], [])
  fresh_seat start n inside some_cell = (record { parts = refl; rests = record { exact = tt; own = refl; inside = inside; some_cell = some_cell } }, refl)

  -- the seat that gets a number
  pub given_seat : (start : Start) (k : ℕ) (me me' : Seated T) → k < start.seats → 0 < start.capacity → me ≡ (knows start (0 ∷ numbers_from k (start.seats - k)) [], []) → me' ≡ (handed me.0, [])
      → (me' ≡ (knows start (k ∷ []) [], [])) × IsSeatOf k me'
  given_seat start k me me' h some_cell is is' =
      let given : me' ≡ (knows start (k ∷ []) [], []) =
      is' ∙ (ap (λ (x : Seated T). (handed x.0, [])) is ∙ ap (λ (ns : List ℕ). (handed (knows start (0 ∷ ns) []), [])) (next_numbers k start.seats h)) in
      (given, subst (IsSeatOf k) (sym given) (fresh_seat start k h some_cell))

  -- the seat that dealt, once it keeps 0 alone
  pub dealer_seat : (start : Start) (k : ℕ) (me : Seated T) → start.seats ≤ k → 0 < start.seats → 0 < start.capacity → me ≡ (knows start (0 ∷ numbers_from k (start.seats - k)) [], [])
      → (me ≡ (knows start (0 ∷ []) [], [])) × IsSeatOf 0 me
  dealer_seat start k me last some_seat some_cell is =
      let none : start.seats - k ≡ 0 = omega arith in
      let mine : me ≡ (knows start (0 ∷ []) [], []) = is ∙ (λ i. (knows start (0 ∷ numbers_from k (none i)) [], [])) in
      (mine, subst (IsSeatOf 0) (sym mine) (fresh_seat start 0 some_seat some_cell))

  -- one seat more
  pub one_more : (c : CellsView) (n : ℕ) → 0 < n → map (fresh {T = T} c) (numbers_from 1 (n - 1)) ++ fresh c n ∷ [] ≡ map (fresh c) (numbers_from 1 (n + 1 - 1))
  one_more c n h =
      let at : 1 + (n - 1) ≡ n = omega arith in
      let len : suc (n - 1) ≡ n + 1 - 1 = omega arith in
      ap (λ k. map (fresh {T = T} c) (numbers_from 1 (n - 1)) ++ fresh c k ∷ []) (sym at) ∙ (sym (map-append (fresh {T = T} c) (numbers_from 1 (n - 1)) ((1 + (n - 1)) ∷ []))
      ∙ (ap (map (fresh {T = T} c)) (sym (numbers_more 1 (n - 1))) ∙ ap (λ k. map (fresh {T = T} c) (numbers_from 1 k)) len))

  -- nothing is logged at the opening
  first_log : (start : Start) (numbers : List ℕ) (log : List (Event T)) (id : ℕ) (v : Known T) → get_elem? (knows start numbers [] ∷ []) id ≡ some v → HasLog log v.parts → log ≡ []
  first_log start numbers log zero v at has = ⊎_elim (λ is. sym is) (λ none. absurd none) (subst (λ (u : Known T). HasLog log u.parts) (sym (some-injective _ _ at)) has)
  first_log start numbers log (suc id) v at has = absurd (some-ne-none v (sym at))

  -- the rule at the opening
  pub opens : (start : Start) (words : List ℕ) → words ≡ map (λ c. 4 * c) (upto start.capacity) → Rule start (opening words (empties T start.capacity) (knows start (upto start.seats) []))
  opens start words is =
      let running = begins_with (cells T) (empties T start.capacity) start words (upto start.seats) is (λ n. times_once n 0 start.seats) in
      let seen = running.seen in
      let none : running.log ≡ [] = first_log start (upto start.seats) running.log seen.0 seen.1 seen.2 seen.3 in
      record {
        running = running;
        exact = subst (IsExact start) (sym none) tt;
        count = empty_slots T start.capacity;
        slots = λ c low. empty_slot T start.capacity c low ∙ ap (λ l. some ((state start l).slots c)) (sym none);
      }

  -- the seat that gathers has a part
  pub gathering_has : (z : TableId) (b : Start) (seats : List (SeatView T)) (s : Seat (Option T) (Known T)) → IsGathering z b seats s → 0 < length s.me.0.parts
  gathering_has z b seats s g = subst (λ qs. 0 < length qs) (sym g.parts) (omega arith)

  pub all_head : (P : SeatView T → Type 0) (xs ys : List (SeatView T)) (x : SeatView T) → All P xs → xs ≡ x ∷ ys → P x
  all_head P xs ys x h is = let k : All P (x ∷ ys) = subst (All P) is h in k 0 x (omega arith)

  pub all_tail : (P : SeatView T → Type 0) (xs ys : List (SeatView T)) (x : SeatView T) → All P xs → xs ≡ x ∷ ys → All P ys
  all_tail P xs ys x h is = let k : All P (x ∷ ys) = subst (All P) is h in λ i d l. k (suc i) d (omega arith)

  -- and with one seat more
  pub gathers : (z z' : TableId) (b : Start) (seats : List (SeatView T)) (s s' : Seat (Option T) (Known T)) (p : SeatView T) (n : ℕ) (v : Known T) → IsGathering z b seats s → shown z' n v ≡ p → IsSeat n None v
      → s'.table_id ≡ s.table_id → s'.me ≡ (joined s.me.0 v, s.me.1) → IsGathering z b (seats ++ p ∷ []) s'
  gathers z z' b seats s s' p n v g is one same met =
      let parts : s'.me.0.parts ≡ (part [] (log_of s.me.0.parts) ∷ map part_of seats) ++ part_of p ∷ [] =
      ap (λ (m : Seated T). m.0.parts) met ∙ (λ i. g.parts i ++ (one.parts ∙ ap (λ q. part_of q ∷ []) is) i) in
      let log : log_of s'.me.0.parts ≡ log_of s.me.0.parts = ap log_of parts in
      record {
        table = same ∙ g.table;
        opened = ap (λ (m : Seated T). m.0.start) met ∙ g.opened;
        parts = parts ∙ (λ i. part [] (sym log i) ∷ sym (map-append part_of seats (p ∷ [])) i);
        empty = ap (λ (m : Seated T). m.1) met ∙ g.empty;
      }

  each_at : (P : Part (Event T) → Type 0) (ps : List (SeatView T)) (k : ℕ) (p : SeatView T) → Each P (map part_of ps) → slice_get ps k ≡ Some p → P (part_of p)
  each_at P [] k p h e = absurd (cc)
  each_at P (q ∷ ps) zero p h e = let is : q ≡ p = cc in subst (λ r. P (part_of r)) is h.0
  each_at P (q ∷ ps) (suc k) p h e = each_at P ps k p h.1 e

  -- where the numbers are those from one on, each stands in its place
  number_at : (ps : List (SeatView T)) (from n i : ℕ) → map (λ (p : SeatView T). p.number) ps ≡ numbers_from from n → i < n → (p : SeatView T) × (slice_get ps i ≡ Some p) × (p.number ≡ from + i)
  number_at ps from zero i are low = absurd (omega arith)
  number_at [] from (suc n) i are low = absurd (cc)
  number_at (p ∷ ps) from (suc n) zero are low = let is : p.number ≡ from = cc in (p, refl, omega (arith, is))
  number_at (p ∷ ps) from (suc n) (suc i) are low =
      let others : map (λ (q : SeatView T). q.number) ps ≡ numbers_from (suc from) n = cc in
      let r = number_at ps (suc from) n i others (omega arith) in
      (r.0, r.1, omega (arith, r.2))

  -- what the last look tells
  module _ (z : TableId) (b : Start) (seats : List (SeatView T)) (s : Seat (Option T) (Known T)) (w : Known T) (g : IsGathering z b seats s) (looked : Looked s.me.0 w) where
    pub closed_start : (shown_log w).start ≡ b
    closed_start = ap (λ (x : Known T). x.start) looked.now ∙ g.opened

    pub closed_exact : IsExact (shown_log w).start (shown_log w).log
    closed_exact = subst (λ (x : Known T). IsExact x.start (log_of x.parts)) (sym looked.now) looked.exact

    pub closed_has : map (λ (p : SeatView T). p.number) seats ≡ upto b.seats → IsClosed seats (shown_log w)
    closed_has all = record {
      exact = closed_exact;
      each = λ k p at.
          (let fit = each_at (Fits (cells T) looked.log) seats k p (subst (Each (Fits (cells T) looked.log)) g.parts looked.parts).1 at in
          subst (λ (x : Known T). HasAll (log_of x.parts) p) (sym looked.now) (record { begins = fit.begins; own = fit.own p.number (keeps_one p.number) }));
      only = λ before after event is.
          (let may = (guard_at (exact T) (shown_log w).start before event after (subst (IsExact (shown_log w).start) is closed_exact)).0 in
          let low : event.seat < b.seats = subst (λ (z : Start). event.seat < z.seats) closed_start may.1 in
          let here = number_at seats 0 b.seats event.seat all low in
          (event.seat, here.0, here.1, omega (arith, here.2)));
    }
