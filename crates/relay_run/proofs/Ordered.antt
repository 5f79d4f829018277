-- The order of the tickets keeps each worker's lines, and has each line once.
use Rattle.std.proofs.Common.{◌≡◌, ℕ, zero, suc, ◌+◌, ◌-◌, ◌%◌, ◌<◌, ◌≤◌, List, [], ◌∷◌, ◌++◌, length, Bool, true, false, cond, inl, inr, refl, sym, ◌∙◌, ap, subst, arith}
use Rattle.std.specs.Prelude.{◌==◌, All, filter, flat_map, count_by, nat_lt, if◌then◌else◌}
use Rattle.std.proofs.lemmas.Bool.Decides.{nat_tests}
use Rattle.std.proofs.lemmas.Bool.{cases_lt, eq-eqb, eqb-true}
use Rattle.std.proofs.lemmas.List.Elements.{All-nil, All-cons, All-head, All-tail, All-append, All-filter, filter-append, filter_passes}
use Rattle.std.proofs.lemmas.List.Sums.{sum_by-cons}
use Rattle.running.specs.Running.{upto, numbers_from}
use Rattle.tq_cells.specs.declared.entry.Entry.{Entry}
use Rattle.tq_cells.specs.declared.entry.Entry.TheVariants as entries
use Rattle.tq_cells.specs.declared.entry.Event.{Event}
use Rattle.tq_cells.specs.Laws.{puts, put_by}
use Rattle.tq_cells.specs.Seen.{entries_of}
use Rattle.tq_queue.specs.Kept.{tickets_put, ticket_put}
use Rattle.tq_queue.specs.Laws.{Rises}
use Rattle.tq_queue.specs.Seen.{BookView}
use Rattle.tq_queue.proofs.Laws.{numbers_stand_once}
use Rattle.relay_run.specs.Relay.{lines_at, items_put, item_put, IsRelay, order_of}
use Rattle.relay_run.specs.Claim.{own_lines}
use Rattle.relay_run.specs.Laws.{RelaysAreOrdered}
use Rattle.relay_run.proofs.Written.{StandsAlone, all_stand_alone}

-- what passes among what is made of each
filter_flat : (p : ℕ → Bool) (f : ℕ → List ℕ) (xs : List ℕ) → filter p (flat_map f xs) ≡ flat_map (λ x. filter p (f x)) xs
filter_flat p f [] = refl
filter_flat p f (x ∷ xs) = filter-append p (f x) (flat_map f xs) ∙ ap (λ (l : List ℕ). filter p (f x) ++ l) (filter_flat p f xs)

-- what is made of the numbers from one on
flat_same : (f g : ℕ → List ℕ) (k n : ℕ) → ((i : ℕ) → k ≤ i → f i ≡ g i) → flat_map f (numbers_from k n) ≡ flat_map g (numbers_from k n)
flat_same f g k zero same = refl
flat_same f g k (suc n) same =
    ap (λ (l : List ℕ). l ++ flat_map f (numbers_from (suc k) n)) (same k (omega arith)) ∙ ap (λ (l : List ℕ). g k ++ l) (flat_same f g (suc k) n (λ i l. same i (omega (arith, l))))

-- .. where nothing is made of the first of them
flat_skip : (f : ℕ → List ℕ) (k d n : ℕ) → ((i : ℕ) → i < k + d → f i ≡ []) → flat_map f (numbers_from k (d + n)) ≡ flat_map f (numbers_from (k + d) n)
flat_skip f k zero n none =
    (let same : zero + n ≡ n = omega arith in ap (λ (m : ℕ). flat_map f (numbers_from k m)) same) ∙ (let same : k ≡ k + zero = omega arith in ap (λ (j : ℕ). flat_map f (numbers_from j n)) same)
flat_skip f k (suc d) n none =
    let more : suc d + n ≡ suc (d + n) = omega arith in
    let first : f k ≡ [] = none k (omega arith) in
    let next : suc k + d ≡ k + suc d = omega arith in
    ap (λ (m : ℕ). flat_map f (numbers_from k m)) more
    ∙ ap (λ (l : List ℕ). l ++ flat_map f (numbers_from (suc k) (d + n))) first
    ∙ flat_skip f (suc k) d n (λ i l. none i (omega (arith, l)))
    ∙ ap (λ (j : ℕ). flat_map f (numbers_from j n)) next

-- what a put of another ticket puts under this one
put_other : (t u x : ℕ) (rest : List ℕ) → (t ≡ u → ⊥) → put_by u (entries.Put t x) ++ rest ≡ rest
put_other t u x rest other = let test : (t == u) ≡ false = grind (arith, nat_tests) in ap (λ (b : Bool). (if b then x ∷ [] else []) ++ rest) test

-- nothing is put below tickets that rise from one on
none_below : (k : ℕ) (es : List (Event ℕ)) → Rises k (tickets_put es) → (u : ℕ) → u < k → puts u es ≡ []
none_below k [] rises u less = refl
none_below k (e ∷ es) rises u less = by e.entry rises (λ j r l. none_below j es r u l)
  where
    by : (entry : Entry ℕ) → Rises k (ticket_put entry ++ tickets_put es) → ((j : ℕ) → Rises j (tickets_put es) → u < j → puts u es ≡ []) → put_by u entry ++ puts u es ≡ []
    by (entries.Hold t) r rest = rest k r less
    by (entries.Put t x) r rest = let most : k ≤ t = r.0 in put_other t u x (puts u es) (λ is. omega (arith, is)) ∙ rest (suc t) r.1 (omega arith)
    by (entries.Take t) r rest = rest k r less
    by (entries.Free t) r rest = rest k r less
    by (entries.Miss expected found) r rest = rest k r less

-- the item of the first of them, and then the others
put_first : (es : List (Event ℕ)) (t x k n : ℕ) → k ≤ t → t < k + n → Rises (suc t) (tickets_put es)
    → flat_map (λ u. put_by u (entries.Put t x) ++ puts u es) (numbers_from k n) ≡ x ∷ flat_map (λ u. puts u es) (numbers_from (suc t) (k + n - suc t))
put_first es t x k n most within rises =
    let f : ℕ → List ℕ = λ u. put_by u (entries.Put t x) ++ puts u es in
    let m : ℕ = k + n - suc t in
    let size : n ≡ (t - k) + suc m = omega arith in
    let there : k + (t - k) ≡ t = omega arith in
    let earlier : (u : ℕ) → u < k + (t - k) → f u ≡ [] = λ u l. put_other t u x (puts u es) (λ is. omega (arith, is, l)) ∙ none_below (suc t) es rises u (omega (arith, l)) in
    let here : f t ≡ x ∷ [] = ap (λ (b : Bool). (if b then x ∷ [] else []) ++ puts t es) (eq-eqb t t refl) ∙ ap (λ (l : List ℕ). x ∷ l) (none_below (suc t) es rises t (omega arith)) in
    let later : (u : ℕ) → suc t ≤ u → f u ≡ puts u es = λ u l. put_other t u x (puts u es) (λ is. omega (arith, is, l)) in
    ap (λ (c : ℕ). flat_map f (numbers_from k c)) size
    ∙ flat_skip f k (t - k) (suc m) earlier
    ∙ ap (λ (j : ℕ). flat_map f (numbers_from j (suc m))) there
    ∙ ap (λ (l : List ℕ). l ++ flat_map f (numbers_from (suc t) m)) here
    ∙ ap (λ (l : List ℕ). x ∷ l) (flat_same f (λ u. puts u es) (suc t) m later)

-- items that were put under rising tickets stand in the order of the tickets
rising_items : (es : List (Event ℕ)) (k n : ℕ) → Rises k (tickets_put es) → All (λ t. t < k + n) (tickets_put es) → flat_map (λ t. puts t es) (numbers_from k n) ≡ items_put es
rising_items [] k n rises below = nothing (numbers_from k n)
  where
    nothing : (xs : List ℕ) → ◌≡◌ {A = List ℕ} (flat_map (λ t. []) xs) []
    nothing [] = refl
    nothing (x ∷ xs) = nothing xs
rising_items (e ∷ es) k n rises below = by e.entry rises below (λ j m r b. rising_items es j m r b)
  where
    by : (entry : Entry ℕ) → Rises k (ticket_put entry ++ tickets_put es) → All (λ t. t < k + n) (ticket_put entry ++ tickets_put es)
        → ((j m : ℕ) → Rises j (tickets_put es) → All (λ t. t < j + m) (tickets_put es) → flat_map (λ t. puts t es) (numbers_from j m) ≡ items_put es)
        → flat_map (λ t. put_by t entry ++ puts t es) (numbers_from k n) ≡ item_put entry ++ items_put es
    by (entries.Hold t) r b rest = rest k n r b
    by (entries.Put t x) r b rest =
        let P : ℕ → Type 0 = λ u. u < k + n in
        let here : t < k + n = All-head P t (tickets_put es) b in
        let all : k + n ≡ suc t + (k + n - suc t) = omega arith in
        put_first es t x k n r.0 here r.1 ∙ ap (λ (l : List ℕ). x ∷ l) (rest (suc t) (k + n - suc t) r.1 (subst (λ (m : ℕ). All (λ u. u < m) (tickets_put es)) all (All-tail P t (tickets_put es) b)))
    by (entries.Take t) r b rest = rest k n r b
    by (entries.Free t) r b rest = rest k n r b
    by (entries.Miss expected found) r b rest = rest k n r b

-- what holds of each seat's entries holds of all
all_seats : (P : Event ℕ → Type 0) (log : List (Event ℕ)) → ((seat : ℕ) → All P (entries_of seat log)) → All P log
all_seats P [] each = All-nil P
all_seats P (e ∷ log) each =
    let here : All P (e ∷ entries_of e.seat log) = subst (λ (b : Bool). All P (cond b (e ∷ entries_of e.seat log) (entries_of e.seat log))) (eq-eqb e.seat e.seat refl) (each e.seat) in
    All-cons P e log (All-head P e (entries_of e.seat log) here) (all_seats P log (λ seat. others seat (e.seat == seat) (each seat)))
  where
    others : (seat : ℕ) (b : Bool) → All P (cond b (e ∷ entries_of seat log) (entries_of seat log)) → All P (entries_of seat log)
    others seat true all = All-tail P e (entries_of seat log) all
    others seat false all = all

-- the first part of a list, and the rest
All-parts : (P : ℕ → Type 0) (xs ys : List ℕ) → All P (xs ++ ys) → All P xs × All P ys
All-parts P [] ys all = (All-nil P, all)
All-parts P (x ∷ xs) ys all = let rest = All-parts P xs ys (All-tail P x (xs ++ ys) all) in (All-cons P x xs (All-head P x (xs ++ ys) all) rest.0, rest.1)

nothing_by : (b : Bool) → ◌≡◌ {A = List ℕ} [] (cond b [] [])
nothing_by true = refl
nothing_by false = refl

module _ (workers : ℕ) where
  -- an entry puts no line but one of its seat's worker
  abbrev PutsOwn : Event ℕ → Type 0
  PutsOwn e = All (λ x. (x % workers == e.seat) ≡ true) (item_put e.entry)

  seat_puts_own : (seat : ℕ) (es : List (Event ℕ)) → All (λ e. e.seat ≡ seat) es → All (λ x. (x % workers == seat) ≡ true) (items_put es) → All PutsOwn es
  seat_puts_own seat [] same all = All-nil PutsOwn
  seat_puts_own seat (e ∷ es) same all =
      let Q : Event ℕ → Type 0 = λ e. e.seat ≡ seat in
      let both = All-parts (λ x. (x % workers == seat) ≡ true) (item_put e.entry) (items_put es) all in
      All-cons PutsOwn e es (subst (λ (s : ℕ). All (λ x. (x % workers == s) ≡ true) (item_put e.entry)) (sym (All-head Q e es same)) both.0) (seat_puts_own seat es (All-tail Q e es same) both.1)

  module _ (worker : ℕ) where
    abbrev mine : ℕ → Bool
    mine line = line % workers == worker

    -- what an entry puts under a ticket is the worker's, where the seat is
    one_mine : (t seat : ℕ) (entry : Entry ℕ) → All (λ x. (x % workers == seat) ≡ true) (item_put entry) → filter mine (put_by t entry) ≡ cond (seat == worker) (put_by t entry) []
    one_mine t seat (entries.Hold u) own = nothing_by (seat == worker)
    one_mine t seat (entries.Put u x) own = by (u == t) (seat == worker) (ap (λ (s : ℕ). s == worker) (eqb-true (x % workers) seat (All-head (λ y. (y % workers == seat) ≡ true) x [] own)))
      where
        by : (b c : Bool) → mine x ≡ c → filter mine (cond b (x ∷ []) []) ≡ cond c (cond b (x ∷ []) []) []
        by true c is = ap (λ (d : Bool). cond d (x ∷ []) []) is
        by false true is = refl
        by false false is = refl
    one_mine t seat (entries.Take u) own = nothing_by (seat == worker)
    one_mine t seat (entries.Free u) own = nothing_by (seat == worker)
    one_mine t seat (entries.Miss expected found) own = nothing_by (seat == worker)

    -- so the worker's lines under a ticket are what its seat put there
    puts_mine : (t : ℕ) (log : List (Event ℕ)) → All PutsOwn log → filter mine (puts t log) ≡ puts t (entries_of worker log)
    puts_mine t [] own = refl
    puts_mine t (e ∷ log) own =
        filter-append mine (put_by t e.entry) (puts t log)
        ∙ ap (λ (l : List ℕ). l ++ filter mine (puts t log)) (one_mine t e.seat e.entry (All-head PutsOwn e log own))
        ∙ ap (λ (l : List ℕ). cond (e.seat == worker) (put_by t e.entry) [] ++ l) (puts_mine t log (All-tail PutsOwn e log own))
        ∙ joined (e.seat == worker)
      where
        joined : (b : Bool) → cond b (put_by t e.entry) [] ++ puts t (entries_of worker log) ≡ puts t (cond b (e ∷ entries_of worker log) (entries_of worker log))
        joined true = refl
        joined false = refl

-- what passes a test is counted among what passes a wider one
count_among : (q p : ℕ → Bool) → ((x : ℕ) → q x ≡ true → p x ≡ true) → (xs : List ℕ) → count_by q xs ≡ count_by q (filter p xs)
count_among q p wider [] = refl
count_among q p wider (x ∷ xs) = sum_by-cons (λ y. cond (q y) 1 0) x xs ∙ ap (λ (n : ℕ). cond (q x) 1 0 + n) (count_among q p wider xs) ∙ by (q x) (p x) refl (wider x)
  where
    by : (b c : Bool) → q x ≡ b → (q x ≡ true → c ≡ true) → cond b 1 0 + count_by q (filter p xs) ≡ count_by q (cond c (x ∷ filter p xs) (filter p xs))
    by b true is wide = ap (λ (d : Bool). cond d 1 0 + count_by q (filter p xs)) (sym is) ∙ sym (sum_by-cons (λ y. cond (q y) 1 0) x (filter p xs))
    by true false is wide = absurd (let e : false ≡ true = wide is in cc)
    by false false is wide = omega arith

-- tickets that are put stand below the count
module _ (count : ℕ) (log : List (Event ℕ)) (often : (ticket : ℕ) → length (puts ticket log) ≡ (if nat_lt ticket count then 1 else 0)) where
  pub puts_below : (t x : ℕ) → puts t log ≡ x ∷ [] → t < count
  puts_below t x is = elim (cases_lt t count) [
    | inl less ↦ less
    | inr most ↦
        let one : length (puts t log) ≡ 1 = ap length is in
        let test : nat_lt t count ≡ false = grind (arith, nat_tests) in
        let none : length (puts t log) ≡ 0 = often t ∙ ap (λ (b : Bool). if b then 1 else 0) test in
        absurd (omega (arith, one, none))
  ]

  tickets_below : (es : List (Event ℕ)) → All (λ (e : Event ℕ). StandsAlone log e.entry) es → All (λ t. t < count) (tickets_put es)
  tickets_below [] alone = All-nil (λ t. t < count)
  tickets_below (e ∷ es) alone =
      let P : Event ℕ → Type 0 = λ x. StandsAlone log x.entry in
      All-append (λ t. t < count) (ticket_put e.entry) (tickets_put es) (one e.entry (All-head P e es alone)) (tickets_below es (All-tail P e es alone))
    where
      one : (entry : Entry ℕ) → StandsAlone log entry → All (λ t. t < count) (ticket_put entry)
      one (entries.Hold t) is = All-nil (λ t. t < count)
      one (entries.Put t x) is = All-cons (λ t. t < count) t [] (puts_below t x is) (All-nil (λ t. t < count))
      one (entries.Take t) is = All-nil (λ t. t < count)
      one (entries.Free t) is = All-nil (λ t. t < count)
      one (entries.Miss expected found) is = All-nil (λ t. t < count)

module _ (workers capacity count : ℕ) (book : BookView ℕ) (relay : IsRelay workers capacity count book) where
  abbrev log : List (Event ℕ)
  log = book.cells.log

  all_put_own : All (PutsOwn workers) log
  all_put_own = all_seats (PutsOwn workers) log (λ seat.
      seat_puts_own workers seat (entries_of seat log) (named seat (entries_of seat log) (filter_passes (λ (e : Event ℕ). e.seat == seat) log))
      (subst (All (λ x. (x % workers == seat) ≡ true)) (sym (relay.lines seat)) (filter_passes (λ line. line % workers == seat) (upto count))))
    where
      named : (seat : ℕ) (es : List (Event ℕ)) → All (λ (e : Event ℕ). (e.seat == seat) ≡ true) es → All (λ (e : Event ℕ). e.seat ≡ seat) es
      named seat [] all = All-nil (λ (e : Event ℕ). e.seat ≡ seat)
      named seat (e ∷ es) all =
          let P : Event ℕ → Type 0 = λ e. (e.seat == seat) ≡ true in
          All-cons (λ (e : Event ℕ). e.seat ≡ seat) e es (eqb-true e.seat seat (All-head P e es all)) (named seat es (All-tail P e es all))

  own_kept : (worker : ℕ) → own_lines workers worker (order_of count book) ≡ lines_at workers count worker
  own_kept worker =
      let es : List (Event ℕ) = entries_of worker log in
      let alone = All-filter (λ (e : Event ℕ). e.seat == worker) (λ (e : Event ℕ). StandsAlone log e.entry) log (all_stand_alone book.cells.start log relay.legal) in
      let all : count ≡ 0 + count = omega arith in
      filter_flat (λ line. line % workers == worker) (λ t. puts t log) (upto count)
      ∙ flat_same (λ t. filter (λ line. line % workers == worker) (puts t log)) (λ t. puts t es) 0 count (λ t l. puts_mine workers worker t log all_put_own)
      ∙ rising_items es 0 count (relay.rising worker) (subst (λ (m : ℕ). All (λ t. t < m) (tickets_put es)) all (tickets_below count log relay.puts es alone))
      ∙ relay.lines worker

  once_kept : (line : ℕ) → count_by (λ number. number == line) (order_of count book) ≡ (if nat_lt line count then 1 else 0)
  once_kept line =
      let its : ℕ → Bool = λ number. number == line in
      let worker : ℕ = line % workers in
      let wider : (x : ℕ) → its x ≡ true → (x % workers == worker) ≡ true = λ x is. eq-eqb (x % workers) worker (ap (λ (n : ℕ). n % workers) (eqb-true x line is)) in
      count_among its (λ x. x % workers == worker) wider (order_of count book)
      ∙ ap (count_by its) (own_kept worker)
      ∙ sym (count_among its (λ x. x % workers == worker) wider (upto count))
      ∙ numbers_stand_once line count

-- the order of the tickets is one of all lines
pub relays_are_ordered : RelaysAreOrdered
relays_are_ordered workers capacity count book relay = record { once = once_kept workers capacity count book relay; own = own_kept workers capacity count book relay }
