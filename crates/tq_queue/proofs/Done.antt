-- What the account of a put and of a take claims: what the seat has done, and what that tells of its tickets.
use Rattle.std.proofs.Common.{◌≡◌, ℕ, ◌+◌, ◌*◌, List, [], ◌∷◌, ◌++◌, refl, sym, ◌∙◌, ap, subst, arith}
use Rattle.std.specs.Prelude.{flat_map}
use Rattle.std.proofs.lemmas.List.{append-nil}
use Rattle.std.proofs.lemmas.Grind.{flat_map-append}
use mathlib.Core.List.{IsPrefix}
use Rattle.running.proofs.Logs.{prefix_more, prefix_on}
use Rattle.fn_model.specs.declared.Kind.TheVariants.{Add, Sub}
use Rattle.fn_table.specs.Claims.{Made}
use Rattle.tq_cells.specs.declared.entry.Entry.{Entry}
use Rattle.tq_cells.specs.declared.entry.Entry.TheVariants as entries
use Rattle.tq_cells.specs.declared.entry.Event.{Event}
use Rattle.tq_cells.specs.Laws.{IsExact, puts}
use Rattle.tq_cells.specs.Seen.{SeatView, IsSame, Entered, entries_of}
use Rattle.tq_cells.proofs.Tickets.{entries_stand_alone, puts_and_takes_stay}
use Rattle.tq_queue.specs.Seen.{CallerView}
use Rattle.tq_queue.specs.Moves.{HasMissed, Placed, Taken}
use Rattle.tq_queue.specs.Claims.{deed, deeds, HasDone, MadePut, MadeTake}
use Rattle.tq_queue.specs.Kept.{own_puts, own_takes, ticket_put, ticket_taken}
use Rattle.tq_queue.proofs.Told.{own_grows}

-- what entries hand out is what their deeds do
module _ {T X : Type 0} (f : Entry T → List X) (alike : (entry : Entry T) → f entry ≡ flat_map f (deed entry)) where
  abbrev told : List (Event T) → List X
  told log = flat_map (λ (e : Event T). f e.entry) log

  told_by_deeds : (log : List (Event T)) → told log ≡ flat_map f (flat_map (λ (e : Event T). deed e.entry) log)
  told_by_deeds [] = refl
  told_by_deeds (e ∷ log) =
      ap (λ (l : List X). l ++ told log) (alike e.entry)
      ∙ ap (λ (l : List X). flat_map f (deed e.entry) ++ l) (told_by_deeds log)
      ∙ sym (flat_map-append f (deed e.entry) (flat_map (λ (x : Event T). deed x.entry) log))

  pub done_more : (p : SeatView T) (did : Entry T) (q : SeatView T) → deeds q ≡ deeds p ++ did ∷ [] → told (entries_of q.number q.log) ≡ told (entries_of p.number p.log) ++ f did
  done_more p did q is =
      told_by_deeds (entries_of q.number q.log)
      ∙ ap (flat_map f) is
      ∙ flat_map-append f (deeds p) (did ∷ [])
      ∙ ap (λ (l : List X). flat_map f (deeds p) ++ l) (append-nil (f did))
      ∙ ap (λ (l : List X). l ++ f did) (sym (told_by_deeds (entries_of p.number p.log)))

module _ {T : Type 0} where
  -- the tickets that a deed puts, and those that it takes
  pub done_puts : (p : SeatView T) (did : Entry T) (q : SeatView T) → deeds q ≡ deeds p ++ did ∷ [] → own_puts q ≡ own_puts p ++ ticket_put did
  done_puts p did q is = done_more ticket_put alike p did q is
    where
      alike : (entry : Entry T) → ticket_put entry ≡ flat_map ticket_put (deed entry)
      alike (entries.Hold t) = refl
      alike (entries.Put t x) = refl
      alike (entries.Take t) = refl
      alike (entries.Free t) = refl
      alike (entries.Miss expected found) = refl

  pub done_takes : (p : SeatView T) (did : Entry T) (q : SeatView T) → deeds q ≡ deeds p ++ did ∷ [] → own_takes q ≡ own_takes p ++ ticket_taken did
  done_takes p did q is = done_more ticket_taken alike p did q is
    where
      alike : (entry : Entry T) → ticket_taken entry ≡ flat_map ticket_taken (deed entry)
      alike (entries.Hold t) = refl
      alike (entries.Put t x) = refl
      alike (entries.Take t) = refl
      alike (entries.Free t) = refl
      alike (entries.Miss expected found) = refl

  -- an entry goes on from what its seat had seen, and is its last
  entered_on : (p : SeatView T) (entry : Entry T) (q : SeatView T) → Entered p entry q → IsPrefix p.log q.log
  entered_on p entry q e = subst (IsPrefix p.log) (sym (ap (λ (s : SeatView T). s.log) e.now)) (prefix_more p.log e.before (record { seat = p.number; entry = entry } ∷ []) e.begins)

  entered_deeds : (p : SeatView T) (entry : Entry T) (q : SeatView T) → Entered p entry q → deeds q ≡ deeds p ++ deed entry
  entered_deeds p entry q e =
      let own : List (Event T) = entries_of p.number p.log in
      ap (flat_map (λ (x : Event T). deed x.entry)) (own_grows p entry q e) ∙ flat_map-append (λ (x : Event T). deed x.entry) own (record { seat = p.number; entry = entry } ∷ []) ∙ ap (λ (l : List (Entry T)). deeds p ++ l) (append-nil (deed entry))

  -- exchanges that find another word do nothing
  missed_deeds : (p : SeatView T) (expected : ℕ) (founds : List ℕ) (q : SeatView T) → HasMissed p expected founds q → IsPrefix p.log q.log × (deeds q ≡ deeds p)
  missed_deeds p expected [] q is = (([], append-nil p.log ∙ sym (ap (λ (s : SeatView T). s.log) is)), ap (λ (s : SeatView T). deeds s) is)
  missed_deeds p expected (found ∷ earlier) q (r, so_far, missed) =
      let rest = missed_deeds p expected earlier r so_far in (
        prefix_on p.log r.log q.log rest.0 (entered_on r (entries.Miss expected found) q missed.entered),
        entered_deeds r (entries.Miss expected found) q missed.entered ∙ append-nil (deeds r) ∙ rest.1,
      )

  -- a seat that has put an item under a ticket
  pub placed_done : (p : SeatView T) (ticket : ℕ) (item : T) (q : SeatView T) → IsSame p q → Placed p ticket item q → HasDone p (entries.Put ticket item) ticket item q
  placed_done p ticket item q same placed =
      let (between, first, second) = placed.put in
      let until : SeatView T = placed.until in
      let so_far = missed_deeds p (4 * ticket) placed.founds until placed.missed in
      let put : Event T = record { seat = between.number; entry = entries.Put ticket item } in
      let now = ap (λ (s : SeatView T). s.log) second.now in
      record {
        same = same;
        goes_on = prefix_on p.log until.log q.log so_far.0 (prefix_on until.log between.log q.log (entered_on until (entries.Hold ticket) between first) (entered_on between (entries.Put ticket item) q second));
        deeds_now = entered_deeds between (entries.Put ticket item) q second ∙ ap (λ (l : List (Entry T)). l ++ entries.Put ticket item ∷ []) (entered_deeds until (entries.Hold ticket) between first ∙ append-nil (deeds until) ∙ so_far.1);
        under = ap (puts ticket) now ∙ (entries_stand_alone q.start second.before [] between.number ticket).0 item (subst (IsExact q.start) now second.exact);
      }

  -- .. and one that has taken it
  pub taken_done : (p : SeatView T) (ticket : ℕ) (item : T) (q : SeatView T) → IsSame p q → Taken p ticket item q → HasDone p (entries.Take ticket) ticket item q
  taken_done p ticket item q same taken =
      let (between, first, second, it) = taken.removed in
      let until : SeatView T = taken.until in
      let so_far = missed_deeds p (4 * ticket + 2) taken.founds until taken.missed in
      let more = entered_on between (entries.Free ticket) q second in
      let stay = puts_and_takes_stay q.start between.log more.0 ticket (subst (IsExact q.start) (sym more.1) second.exact) in
      record {
        same = same;
        goes_on = prefix_on p.log until.log q.log so_far.0 (prefix_on until.log between.log q.log (entered_on until (entries.Take ticket) between first) more);
        deeds_now = entered_deeds between (entries.Free ticket) q second ∙ append-nil (deeds between) ∙ entered_deeds until (entries.Take ticket) between first ∙ ap (λ (l : List (Entry T)). l ++ entries.Take ticket ∷ []) so_far.1;
        under = ap (puts ticket) (sym more.1) ∙ stay.0 item it;
      }

  -- the three calls of a put, and what its seat has done
  pub made_put : (p q : CallerView T) (item : T) (room ticket more : ℕ) → Made p.passes.free Sub 1 room q.passes.free → (room ≡ 0 → ⊥) → Made p.passes.tail Add 1 ticket q.passes.tail → Made p.passes.items Add 1 more q.passes.items → q.passes.head ≡ p.passes.head → IsSame p.seat q.seat → Placed p.seat ticket item q.seat → MadePut p ticket item q
  made_put p q item room ticket more free some tail items head same seat = (
    record { there = room; some = omega (arith, some); taken = free; drawn = tail; before = more; given = items; kept = head },
    placed_done p.seat ticket item q.seat same seat,
  )

  -- .. and of a take
  pub made_take : (p q : CallerView T) (item : T) (there ticket more : ℕ) → Made p.passes.items Sub 1 there q.passes.items → (there ≡ 0 → ⊥) → Made p.passes.head Add 1 ticket q.passes.head → Made p.passes.free Add 1 more q.passes.free → q.passes.tail ≡ p.passes.tail → IsSame p.seat q.seat → Taken p.seat ticket item q.seat → MadeTake p ticket item q
  made_take p q item there ticket more items some head free tail same seat = (
    record { there = there; some = omega (arith, some); taken = items; drawn = head; before = more; given = free; kept = tail },
    taken_done p.seat ticket item q.seat same seat,
  )
