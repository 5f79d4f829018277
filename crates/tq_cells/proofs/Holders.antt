-- At an odd turn word exactly one seat holds the turn.
use Rattle.std.proofs.Common.{◌≡◌, ◌≢◌, ◌⊎◌, inl, inr, ⊎_elim, ℕ, ◌+◌, ◌*◌, ◌/◌, ◌%◌, arith, refl, sym, ap, ◌∙◌}
use Rattle.std.specs.Prelude.{Option, Some, None}
use mathlib.Core.Logic.{dite}
use native.Mathlib.Decide.{ℕ_discrete}
use Rattle.running.proofs.Logs.{legal_keeps}
use Rattle.tq_cells.specs.declared.entry.Start.{Start}
use Rattle.tq_cells.specs.declared.entry.Entry.{Entry}
use Rattle.tq_cells.specs.declared.entry.Entry.TheVariants.{Hold, Put, Take, Free, Miss}
use Rattle.tq_cells.specs.declared.entry.Event.{Event}
use Rattle.tq_cells.specs.Machine.{State, first, after, cell, turned, held, needs, Finds, put, exact, May}
use Rattle.tq_cells.specs.Laws.{HasHolders, OneSeatHolds}
use Rattle.tq_cells.proofs.Puts.{put_there, put_else}
use Rattle.tq_cells.proofs.Quarters.{quarter}

some_is : (m n : ℕ) → Some m ≡ Some n → m ≡ n
some_is m n is = cc

none_is : (n : ℕ) → None ≡ Some n → ⊥
none_is n is = cc

module _ {T : Type 0} (start : Start) where
  -- the turn that an entry leaves with its seat is the odd word that it leaves in its cell, and isn't the word that it found
  abbrev Leaves : Entry T → ℕ → ℕ → Type 0
  Leaves entry w n = (n % 2 ≡ 1) × (cell start entry ≡ n / 4 % start.capacity) × (turned start entry w ≡ n) × (Finds entry w → w ≢ n)

  leaves : (entry : Entry T) (w n : ℕ) → held entry ≡ Some n → Leaves entry w n
  leaves (Hold t) w n is = let e = some_is (4 * t + 1) n is in (omega (arith, e), ap (λ i. i % start.capacity) (sym (quarter t 1 n (omega arith) (sym e))), e, λ found is'. omega (arith, e, found, is'))
  leaves (Put t x) w n is = absurd (none_is n is)
  leaves (Take t) w n is = let e = some_is (4 * t + 3) n is in (omega (arith, e), ap (λ i. i % start.capacity) (sym (quarter t 3 n (omega arith) (sym e))), e, λ found is'. omega (arith, e, found, is'))
  leaves (Free t) w n is = absurd (none_is n is)
  leaves (Miss expected found) w n is = absurd (none_is n is)

  -- the turn that an entry needs is the word that it finds in its cell
  needed : (entry : Entry T) (w n : ℕ) → needs entry ≡ Some n → Finds entry w → (w ≡ n) × (cell start entry ≡ n / 4 % start.capacity)
  needed (Hold t) w n is finds = absurd (none_is n is)
  needed (Put t x) w n is finds = let e = some_is (4 * t + 1) n is in (finds ∙ e, ap (λ i. i % start.capacity) (sym (quarter t 1 n (omega arith) (sym e))))
  needed (Take t) w n is finds = absurd (none_is n is)
  needed (Free t) w n is finds = let e = some_is (4 * t + 3) n is in (finds ∙ e, ap (λ i. i % start.capacity) (sym (quarter t 3 n (omega arith) (sym e))))
  needed (Miss expected found) w n is finds = absurd (none_is n is)

  -- an odd word that an entry leaves is its seat's turn, or was there before
  left : (entry : Entry T) (w n : ℕ) → turned start entry w ≡ n → n % 2 ≡ 1 → (held entry ≡ Some n) ⊎ ((w ≡ n) × (needs entry ≡ None))
  left (Hold t) w n is odd = inl (ap (λ (m : ℕ). Some m) is)
  left (Put t x) w n is odd = absurd (omega arith)
  left (Take t) w n is odd = inl (ap (λ (m : ℕ). Some m) is)
  left (Free t) w n is odd = let k = t + start.capacity in let e : 4 * k ≡ n = is in absurd (omega (arith, e))
  left (Miss expected found) w n is odd = inr (is, refl)

  -- an odd word that an entry finds is its seat's turn, or it leaves it there
  there : (entry : Entry T) (w : ℕ) → Finds entry w → w % 2 ≡ 1 → (needs entry ≡ Some w) ⊎ (turned start entry w ≡ w)
  there (Hold t) w finds odd = absurd (omega arith)
  there (Put t x) w finds odd = inl (ap (λ (m : ℕ). Some m) (sym finds))
  there (Take t) w finds odd = absurd (omega arith)
  there (Free t) w finds odd = inl (ap (λ (m : ℕ). Some m) (sym finds))
  there (Miss expected found) w finds odd = inr refl

  module _ (s : State T) (event : Event T) (has : HasHolders start s) (may : May start (s.holds event.seat) event) (finds : Finds event.entry (s.turns (cell start event.entry))) where
    abbrev c : ℕ
    c = cell start event.entry

    abbrev w : ℕ
    w = s.turns c

    abbrev k : ℕ
    k = event.seat

    -- whose turn it is after the entry
    abbrev holds' : ℕ → Option ℕ
    holds' = put s.holds k (held event.entry)

    abbrev turns' : ℕ → ℕ
    turns' = put s.turns c (turned start event.entry w)

    -- the seat of the entry, or one that held its turn before
    who : (seat n : ℕ) → holds' seat ≡ Some n → ((seat ≡ k) × (held event.entry ≡ Some n)) ⊎ ((seat ≢ k) × (s.holds seat ≡ Some n))
    who seat n is = dite (ℕ_discrete seat k)
        (λ e. inl (e, sym (put_there s.holds k (held event.entry) seat e) ∙ is))
        (λ apart. inr (apart, sym (put_else s.holds k (held event.entry) seat apart) ∙ is))

    -- another seat's turn is no word that the entry found
    another : (seat n : ℕ) → seat ≢ k → s.holds seat ≡ Some n → w ≡ n → turned start event.entry w ≡ w
    another seat n apart holds is =
        ⊎_elim (λ mine. absurd (apart (has.alone seat k n holds (may.2 ∙ mine ∙ ap (λ (m : ℕ). Some m) is)))) (λ same. same) (there event.entry w finds (ap (λ m. m % 2) is ∙ has.odd seat n holds))

    odd' : (seat n : ℕ) → holds' seat ≡ Some n → n % 2 ≡ 1
    odd' seat n is = ⊎_elim (λ mine. (leaves event.entry w n mine.1).0) (λ other. has.odd seat n other.1) (who seat n is)

    word' : (seat n : ℕ) → holds' seat ≡ Some n → turns' (n / 4 % start.capacity) ≡ n
    word' seat n is = ⊎_elim
        (λ mine. (let l = leaves event.entry w n mine.1 in put_there s.turns c _ (n / 4 % start.capacity) (sym l.1) ∙ l.2))
        (λ other. (let was = has.word seat n other.1 in
        dite (ℕ_discrete (n / 4 % start.capacity) c)
        (λ e. (let is' : w ≡ n = ap s.turns (sym e) ∙ was in put_there s.turns c _ (n / 4 % start.capacity) e ∙ another seat n other.0 other.1 is' ∙ is'))
        (λ apart. put_else s.turns c _ (n / 4 % start.capacity) apart ∙ was)))
        (who seat n is)

    -- the turn that the entry leaves was nobody's
    fresh : (seat n : ℕ) → held event.entry ≡ Some n → s.holds seat ≡ Some n → ⊥
    fresh seat n mine theirs = let l = leaves event.entry w n mine in l.3 finds (ap s.turns l.1 ∙ has.word seat n theirs)

    alone' : (seat other n : ℕ) → holds' seat ≡ Some n → holds' other ≡ Some n → seat ≡ other
    alone' seat other n is is' = ⊎_elim
        (λ mine. ⊎_elim (λ theirs. mine.0 ∙ sym theirs.0) (λ theirs. absurd (fresh other n mine.1 theirs.1)) (who other n is'))
        (λ mine. ⊎_elim (λ theirs. absurd (fresh seat n theirs.1 mine.1)) (λ theirs. has.alone seat other n mine.1 theirs.1) (who other n is'))
        (who seat n is)

    -- a seat that held a turn which the entry doesn't need holds it still
    still : (n : ℕ) → (needs event.entry ≡ Some n → ⊥) → (seat : ℕ) × (s.holds seat ≡ Some n) → (seat : ℕ) × (holds' seat ≡ Some n)
    still n unneeded (seat, holds) = (
      seat,
      dite (ℕ_discrete seat k)
          (λ e. absurd (unneeded (sym may.2 ∙ ap s.holds (sym e) ∙ holds)))
          (λ apart. put_else s.holds k (held event.entry) seat apart ∙ holds),
    )

    holder' : (n : ℕ) → n % 2 ≡ 1 → turns' (n / 4 % start.capacity) ≡ n → (seat : ℕ) × (holds' seat ≡ Some n)
    holder' n odd is = dite (ℕ_discrete (n / 4 % start.capacity) c)
        (λ e. (let is' : turned start event.entry w ≡ n = sym (put_there s.turns c _ (n / 4 % start.capacity) e) ∙ is in
        ⊎_elim (λ mine. (k, put_there s.holds k (held event.entry) k refl ∙ mine))
        (λ (was : (w ≡ n) × (needs event.entry ≡ None)). still n (λ needed. none_is n (sym was.1 ∙ needed)) (has.holder n odd (ap s.turns e ∙ was.0)))
        (left event.entry w n is' odd)))
        (λ apart. still n (λ needs_it. apart (sym (needed event.entry w n needs_it finds).1)) (has.holder n odd (sym (put_else s.turns c _ (n / 4 % start.capacity) apart) ∙ is)))

    pub holders_stay : HasHolders start (after start s event)
    holders_stay = record { odd = odd'; word = word'; alone = alone'; holder = holder' }

  holders_at_first : HasHolders {T = T} start first
  holders_at_first = record {
    odd = λ seat n is. absurd (none_is n is);
    word = λ seat n is. absurd (none_is n is);
    alone = λ seat other n is is'. absurd (none_is n is);
    holder = λ n odd is. absurd (let c = n / 4 % start.capacity in let e : 4 * c ≡ n = is in omega (arith, e));
  }

pub one_seat_holds : {T : Type 0} → OneSeatHolds T
one_seat_holds {T} start log exact_log = legal_keeps (exact T) start (HasHolders start) (holders_at_first start) (λ s event has guard. holders_stay start s event has guard.0 guard.1) log exact_log
