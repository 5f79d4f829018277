-- What a step tells of the seat that took it.
use Rattle.std.proofs.Common.{◌≡◌, ℕ, ◌%◌, List, [], ◌∷◌, ◌++◌, refl, sym, ap, ◌∙◌, subst}
use Rattle.std.specs.Prelude.{Option, Some, None}
use Rattle.atomic_table.specs.Seated.{TableId}
use Rattle.running.specs.Running.{log_of}
use Rattle.running.proofs.Logs.{state-append, guard_at}
use Rattle.tq_cells.specs.declared.entry.Start.{Start}
use Rattle.tq_cells.specs.declared.entry.Entry.{Entry}
use Rattle.tq_cells.specs.declared.entry.Entry.TheVariants.{Miss}
use Rattle.tq_cells.specs.declared.entry.Event.{Event}
use Rattle.tq_cells.specs.Machine.{State, held, needs, cells, exact}
use Rattle.tq_cells.specs.Laws.{IsExact, state}
use Rattle.tq_cells.specs.Rule.{Known, Told, IsSeat}
use Rattle.tq_cells.specs.Seen.{CellsView, SeatView, IsSame, Entered, Missed}
use Rattle.tq_cells.specs.Seats.{shown}
use Rattle.tq_cells.proofs.Puts.{put_there}
use Rattle.tq_cells.proofs.Steps.{from_one, keeps_one}

module _ {T : Type 0} where
  -- the seat holds the turn that its entry leaves with it
  pub told_seat : (k : ℕ) (v w : Known T) (entry : Entry T) → IsSeat k (needs entry) v → Told entry v w → IsSeat k (held entry) w
  told_seat k v w entry seat told =
      let t = from_one (λ u. Told entry u w) k (needs entry) v seat told in
      let event : Event T = record { seat = k; entry = entry } in
      subst (IsSeat k (held entry)) (sym t.now) (record {
        parts = refl;
        rests = record {
          exact = t.exact;
          own = ap (λ (x : State T). x.holds k) (state-append (cells T) v.start t.before (event ∷ [])) ∙ put_there (state v.start t.before).holds k (held entry) k refl;
          inside = seat.rests.inside;
          some_cell = seat.rests.some_cell;
        };
      })

  -- and made the entry
  pub told_entered : (z z' : TableId) (k : ℕ) (v w : Known T) (p : SeatView T) (entry : Entry T) → shown z k v ≡ p → IsSeat k (needs entry) v → z' ≡ z → Told entry v w → Entered p entry (shown z' k w)
  told_entered z z' k v w p entry is seat same told =
      let t = from_one (λ u. Told entry u w) k (needs entry) v seat told in
      subst (λ q. Entered q entry (shown z' k w)) is (record {
        before = t.before;
        now = λ i. shown (same i) k (t.now i);
        begins = t.parts.0.begins;
        own = t.parts.0.own k (keeps_one k);
        exact = subst (λ (x : Known T). IsExact x.start (log_of x.parts)) (sym t.now) t.exact;
      })

  -- an entry leaves the seat the same
  pub same_seat : (p : SeatView T) (entry : Entry T) (q : SeatView T) → Entered p entry q → IsSame p q
  same_seat p entry q e = (ap (λ (r : SeatView T). r.table) e.now, ap (λ (r : SeatView T). r.number) e.now, ap (λ (r : SeatView T). r.start) e.now)

  -- a miss tells the word that was found
  pub missed_of : (p : SeatView T) (expected found : ℕ) (q : SeatView T) → Entered p (Miss expected found) q → Missed p expected found q
  missed_of p expected found q e =
      let event : Event T = record { seat = p.number; entry = Miss expected found } in
      let whole : IsExact p.start (e.before ++ event ∷ []) = subst (λ (r : SeatView T). IsExact r.start r.log) e.now e.exact in
      let finds = (guard_at (exact T) p.start e.before event [] whole).1 in
      record { entered = e; another = λ is. finds.1 (finds.0 ∙ is); word = sym finds.0 }

  -- a seat begins where it began
  pub told_start : (v w : Known T) (entry : Entry T) → Told entry v w → w.start ≡ v.start
  told_start v w entry told = ap (λ (x : Known T). x.start) told.now

  -- the seat's table is the cells'
  pub tables : (z : TableId) (k : ℕ) (v : Known T) (p : SeatView T) (own c : CellsView) → shown z k v ≡ p → own ≡ c → p.table ≡ c.table → z ≡ own.table
  tables z k v p own c is is' same = ap (λ (q : SeatView T). q.table) is ∙ same ∙ sym (ap (λ (x : CellsView). x.table) is')

  -- and so is what it began with
  pub cell_there : (z : TableId) (k : ℕ) (v : Known T) (p : SeatView T) (c : CellsView) (t cell : ℕ) → shown z k v ≡ p → p.start ≡ c.start → cell ≡ t % c.start.capacity → cell ≡ t % v.start.capacity
  cell_there z k v p c t cell is same at = at ∙ ap (λ (b : Start). t % b.capacity) (sym same ∙ sym (ap (λ (q : SeatView T). q.start) is))

  pub capacity_there : (z : TableId) (k : ℕ) (v : Known T) (p : SeatView T) (own c : CellsView) (n : ℕ) → shown z k v ≡ p → own ≡ c → p.start ≡ c.start → own.start.capacity ≡ n → v.start.capacity ≡ n
  capacity_there z k v p own c n is is' same at = ap (λ (b : Start). b.capacity) (ap (λ (q : SeatView T). q.start) is ∙ same ∙ sym (ap (λ (x : CellsView). x.start) is')) ∙ at

  -- the item that stands first
  abbrev first_item : List (ℕ × Option T) → Option T
  first_item [] = None
  first_item (y ∷ ys) = y.1

  -- a slot that the seat took last has what it found there
  pub same_slot : (c c' : ℕ) (x y : Option T) (more more' : List (ℕ × Option T)) → (c, x) ∷ more ≡ (c', y) ∷ more' → x ≡ y
  same_slot c c' x y more more' is = ap first_item is

  -- a seat has one item in the slot that it took last
  pub same_item : (c c' : ℕ) (x y : T) (more more' : List (ℕ × Option T)) → (c, Some x) ∷ more ≡ (c', Some y) ∷ more' → x ≡ y
  same_item c c' x y more more' is = let e : Some x ≡ Some y = ap first_item is in cc

  -- two steps, one after the other
  module _ (z z' z'' : TableId) (k : ℕ) (v u u' w : Known T) (p : SeatView T) (first second : Entry T) (is : shown z k v ≡ p) (seat : IsSeat k (needs first) v) (same : z' ≡ z) (same' : z'' ≡ z') (goes : held first ≡ needs second)
      (told : Told first v u) (still : u' ≡ u) (told' : Told second u' w) where
    seat_between : IsSeat k (needs second) u
    seat_between = subst (λ turn. IsSeat k turn u) goes (told_seat k v u first seat told)

    told_after : Told second u w
    told_after = subst (λ x. Told second x w) still told'

    pub told_both : Entered p first (shown z' k u) × Entered (shown z' k u) second (shown z'' k w)
    told_both = (told_entered z z' k v u p first is seat same told, told_entered z' z'' k u w (shown z' k u) second refl seat_between same' told_after)

    pub told_seat_both : IsSeat k (held second) w
    told_seat_both = told_seat k u w second seat_between told_after
