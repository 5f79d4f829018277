-- The number of each line stands at its ticket, once the workers' lines are written there.
use Rattle.std.proofs.Common.{◌≡◌, ℕ, zero, suc, ◌+◌, ◌<◌, List, [], ◌∷◌, ◌++◌, length, map, get_or, set, inl, inr, refl, sym, ◌∙◌, ap, subst, arith, get_or-set_same, get_or-set_other}
use Rattle.std.specs.Prelude.{◌==◌, All, count_by, flat_map, if◌then◌else◌}
use Rattle.std.proofs.lemmas.Bool.Decides.{nat_tests}
use Rattle.std.proofs.lemmas.Bool.{cases_eq}
use Rattle.std.proofs.lemmas.List.{length-set}
use Rattle.std.proofs.lemmas.List.Elements.{All-nil, All-cons, All-head, All-tail, All-set}
use Rattle.std.proofs.lemmas.List.Sums.{sum_by-cons}
use Rattle.running.specs.Running.{upto, numbers_from}
use Rattle.tq_cells.specs.declared.entry.Entry.{Entry}
use Rattle.tq_cells.specs.declared.entry.Entry.TheVariants as entries
use Rattle.tq_cells.specs.declared.entry.Event.{Event}
use Rattle.tq_cells.specs.declared.entry.Start.{Start}
use Rattle.tq_cells.specs.Laws.{IsExact, puts}
use Rattle.tq_cells.proofs.Tickets.{entries_stand_alone}
use Rattle.tq_queue.specs.Kept.{tickets_put, ticket_put}
use Rattle.tq_queue.proofs.Laws.{splits_tell}
use Rattle.relay_run.specs.Relay.{items_put, item_put}
use Rattle.relay_run.specs.Work.{line_of}
use Rattle.relay_run.specs.Filling.{filled, all_filled}

-- the item that was put under a ticket stands there
abbrev pub IsRight : List (Event ℕ) → List ℕ → ℕ → Type 0
IsRight log order t = puts t log ≡ get_or order t 0 ∷ []

-- under the tickets stand the lines from this place on, in order
abbrev pub Stand : List (Event ℕ) → ℕ → (ℕ → ℕ) → ℕ → List ℕ → Type 0
Stand log count line k [] = Unit {0}
Stand log count line k (t ∷ ts) = (t < count) × (line k < count) × (puts t log ≡ line k ∷ []) × Stand log count line (suc k) ts

abbrev pub AllStand : List (Event ℕ) → ℕ → ℕ → ℕ → List (List ℕ) → Type 0
AllStand log count workers worker [] = Unit {0}
AllStand log count workers worker (own ∷ rest) = Stand log count (line_of workers worker) 0 own × AllStand log count workers (suc worker) rest

module _ (log : List (Event ℕ)) (count : ℕ) where
  pub stand_below : (line : ℕ → ℕ) (k : ℕ) (ts : List ℕ) → Stand log count line k ts → All (λ t. t < count) ts
  stand_below line k [] s = All-nil (λ t. t < count)
  stand_below line k (t ∷ ts) s = All-cons (λ u. u < count) t ts s.0 (stand_below line (suc k) ts s.3)

  pub length-filled : (line : ℕ → ℕ) (k : ℕ) (ts order : List ℕ) → length (filled line k ts order) ≡ length order
  length-filled line k [] order = refl
  length-filled line k (t ∷ ts) order = length-filled line (suc k) ts (set order t (line k)) ∙ length-set order t (line k)

  pub length-all_filled : (workers worker : ℕ) (all : List (List ℕ)) (order : List ℕ) → length (all_filled workers worker all order) ≡ length order
  length-all_filled workers worker [] order = refl
  length-all_filled workers worker (own ∷ rest) order = length-all_filled workers (suc worker) rest (filled (line_of workers worker) 0 own order) ∙ length-filled (line_of workers worker) 0 own order

  -- a number that is written keeps what was right
  set_right : (order : List ℕ) (t x u : ℕ) → t < length order → puts t log ≡ x ∷ [] → IsRight log order u → IsRight log (set order t x) u
  set_right order t x u within is right = elim (cases_eq u t) [
    | inl same ↦ subst (λ (v : ℕ). IsRight log (set order t x) v) (sym same) (is ∙ ap (λ (y : ℕ). y ∷ []) (sym (get_or-set_same order t x 0 within)))
    | inr other ↦ right ∙ ap (λ (y : ℕ). y ∷ []) (sym (get_or-set_other order t u x 0 other))
  ]

  module _ (line : ℕ → ℕ) where
    keeps_right : (k : ℕ) (ts order : List ℕ) (u : ℕ) → length order ≡ count → Stand log count line k ts → IsRight log order u → IsRight log (filled line k ts order) u
    keeps_right k [] order u size s right = right
    keeps_right k (t ∷ ts) order u size s right =
        let within : t < length order = omega (arith, size, s.0) in
        keeps_right (suc k) ts (set order t (line k)) u (length-set order t (line k) ∙ size) s.3 (set_right order t (line k) u within s.2 right)

    makes_right : (k : ℕ) (ts order : List ℕ) → length order ≡ count → Stand log count line k ts → All (IsRight log (filled line k ts order)) ts
    makes_right k [] order size s = All-nil (IsRight log order)
    makes_right k (t ∷ ts) order size s =
        let within : t < length order = omega (arith, size, s.0) in
        let next : List ℕ = set order t (line k) in
        let sized : length next ≡ count = length-set order t (line k) ∙ size in
        let here : IsRight log next t = s.2 ∙ ap (λ (y : ℕ). y ∷ []) (sym (get_or-set_same order t (line k) 0 within)) in
        All-cons (IsRight log (filled line (suc k) ts next)) t ts (keeps_right (suc k) ts next t sized s.3 here) (makes_right (suc k) ts next sized s.3)

    keeps_below : (k : ℕ) (ts order : List ℕ) → Stand log count line k ts → All (λ x. x < count) order → All (λ x. x < count) (filled line k ts order)
    keeps_below k [] order s all = all
    keeps_below k (t ∷ ts) order s all = keeps_below (suc k) ts (set order t (line k)) s.3 (All-set (λ x. x < count) order t (line k) s.1 all)

  module _ (workers : ℕ) where
    all_keep_right : (worker : ℕ) (all : List (List ℕ)) (order : List ℕ) (u : ℕ) → length order ≡ count → AllStand log count workers worker all → IsRight log order u → IsRight log (all_filled workers worker all order) u
    all_keep_right worker [] order u size s right = right
    all_keep_right worker (own ∷ rest) order u size s right =
        let line : ℕ → ℕ = line_of workers worker in
        all_keep_right (suc worker) rest (filled line 0 own order) u (length-filled line 0 own order ∙ size) s.1 (keeps_right line 0 own order u size s.0 right)

    pub all_make_right : (worker : ℕ) (all : List (List ℕ)) (order : List ℕ) → length order ≡ count → AllStand log count workers worker all → (i t : ℕ) → i < length all → count_by (λ x. x == t) (get_or all i []) ≡ 1 → IsRight log (all_filled workers worker all order) t
    all_make_right worker [] order size s i t inside hit = absurd (omega (arith, inside))
    all_make_right worker (own ∷ rest) order size s zero t inside hit =
        let line : ℕ → ℕ = line_of workers worker in
        all_keep_right (suc worker) rest (filled line 0 own order) t (length-filled line 0 own order ∙ size) s.1 (all_hit (IsRight log (filled line 0 own order)) own t (makes_right line 0 own order size s.0) (omega (arith, hit)))
      where
        all_hit : (P : ℕ → Type 0) (xs : List ℕ) (t : ℕ) → All P xs → 0 < count_by (λ x. x == t) xs → P t
        all_hit P [] t each some_hit = absurd (omega (arith, some_hit))
        all_hit P (x ∷ xs) t each some_hit = elim (cases_eq x t) [
          | inl same ↦ subst P same (All-head P x xs each)
          | inr other ↦ let test : ◌≡◌ {A = ℕ} (if x == t then 1 else 0) 0 = grind (arith, nat_tests) in all_hit P xs t (All-tail P x xs each) (omega (arith, some_hit, test, sum_by-cons (λ y. if y == t then 1 else 0) x xs))
        ]
    all_make_right worker (own ∷ rest) order size s (suc i) t inside hit =
        let line : ℕ → ℕ = line_of workers worker in
        all_make_right (suc worker) rest (filled line 0 own order) (length-filled line 0 own order ∙ size) s.1 i t (omega (arith, inside)) hit

    pub all_keep_below : (worker : ℕ) (all : List (List ℕ)) (order : List ℕ) → AllStand log count workers worker all → All (λ x. x < count) order → All (λ x. x < count) (all_filled workers worker all order)
    all_keep_below worker [] order s all_below = all_below
    all_keep_below worker (own ∷ rest) order s all_below = all_keep_below (suc worker) rest (filled (line_of workers worker) 0 own order) s.1 (keeps_below (line_of workers worker) 0 own order s.0 all_below)

  -- where each number is right, they are the items by rising ticket
  order_from : (k : ℕ) (order : List ℕ) → ((i : ℕ) → i < length order → puts (k + i) log ≡ get_or order i 0 ∷ []) → order ≡ flat_map (λ t. puts t log) (numbers_from k (length order))
  order_from k [] each = refl
  order_from k (x ∷ xs) each =
      let here : puts k log ≡ x ∷ [] = (let same : k ≡ k + 0 = omega arith in ap (λ (t : ℕ). puts t log) same) ∙ each 0 (omega arith) in
      let rest = order_from (suc k) xs (λ i l. (let same : suc k + i ≡ k + suc i = omega arith in ap (λ (t : ℕ). puts t log) same) ∙ each (suc i) (omega (arith, l))) in
      ap (λ (ys : List ℕ). x ∷ ys) rest ∙ ap (λ (ys : List ℕ). ys ++ flat_map (λ t. puts t log) (numbers_from (suc k) (length xs))) (sym here) ∙ ap (λ (m : ℕ). flat_map (λ t. puts t log) (numbers_from k m)) (let sized : suc (length xs) ≡ length (x ∷ xs) = omega arith in sized)

  pub order_is : (order : List ℕ) → length order ≡ count → ((t : ℕ) → t < count → IsRight log order t) → order ≡ flat_map (λ t. puts t log) (upto count)
  order_is order size each =
      order_from 0 order (λ i l. (let same : 0 + i ≡ i = omega arith in ap (λ (t : ℕ). puts t log) same) ∙ each i (omega (arith, size, l)))
      ∙ ap (λ (m : ℕ). flat_map (λ t. puts t log) (upto m)) size

-- an entry that puts is the only one that puts its ticket
abbrev pub StandsAlone : List (Event ℕ) → Entry ℕ → Type 0
StandsAlone log (entries.Put t x) = puts t log ≡ x ∷ []
StandsAlone log _ = Unit {0}

pub all_stand_alone : (start : Start) (log : List (Event ℕ)) → IsExact start log → All (λ (e : Event ℕ). StandsAlone log e.entry) log
all_stand_alone start log exact = splits_tell (λ (e : Event ℕ). StandsAlone log e.entry) log (λ earlier later e is. alone earlier later e.seat e.entry is)
  where
    alone : (earlier later : List (Event ℕ)) (seat : ℕ) (entry : Entry ℕ) → (let e : Event ℕ = record { seat = seat; entry = entry } in log ≡ earlier ++ e ∷ later) → StandsAlone log entry
    alone earlier later seat (entries.Hold t) is = tt
    alone earlier later seat (entries.Put t x) is = ap (puts t) is ∙ (entries_stand_alone start earlier later seat t).0 x (subst (IsExact start) is exact)
    alone earlier later seat (entries.Take t) is = tt
    alone earlier later seat (entries.Free t) is = tt
    alone earlier later seat (entries.Miss expected found) is = tt

-- so the lines that a seat put stand under its tickets
module _ (log : List (Event ℕ)) (count : ℕ) (puts_below : (t x : ℕ) → puts t log ≡ x ∷ [] → t < count) where
  pub seat_stands : (line : ℕ → ℕ) (k n : ℕ) (es : List (Event ℕ)) → All (λ (e : Event ℕ). StandsAlone log e.entry) es → All (λ x. x < count) (items_put es) → items_put es ≡ map line (numbers_from k n) → Stand log count line k (tickets_put es)
  seat_stands line k n [] alone small is = tt
  seat_stands line k n (e ∷ es) alone small is =
      let P : Event ℕ → Type 0 = λ x. StandsAlone log x.entry in
      by e.entry n (All-head P e es alone) small is (λ j m. seat_stands line j m es (All-tail P e es alone))
    where
      by : (entry : Entry ℕ) (m : ℕ) → StandsAlone log entry → All (λ x. x < count) (item_put entry ++ items_put es) → item_put entry ++ items_put es ≡ map line (numbers_from k m)
          → ((j i : ℕ) → All (λ x. x < count) (items_put es) → items_put es ≡ map line (numbers_from j i) → Stand log count line j (tickets_put es)) → Stand log count line k (ticket_put entry ++ tickets_put es)
      by (entries.Hold t) m here below same rest = rest k m below same
      by (entries.Put t x) zero here below same rest = absurd (cc)
      by (entries.Put t x) (suc m) here below same rest =
          let first : x ≡ line k = cc in
          let others : items_put es ≡ map line (numbers_from (suc k) m) = cc in
          let small_one : x < count = All-head (λ y. y < count) x (items_put es) below in
          (puts_below t x here, omega (arith, first, small_one), here ∙ ap (λ (y : ℕ). y ∷ []) first, rest (suc k) m (All-tail (λ y. y < count) x (items_put es) below) others)
      by (entries.Take t) m here below same rest = rest k m below same
      by (entries.Free t) m here below same rest = rest k m below same
      by (entries.Miss expected found) m here below same rest = rest k m below same
