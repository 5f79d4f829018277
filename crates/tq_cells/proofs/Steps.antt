-- What each kind of step on a turn word owes to the rule, and what it tells.
use Rattle.std.proofs.Common.{◌≡◌, ◌≢◌, ℕ, ◌+◌, ◌-◌, ◌*◌, ◌/◌, ◌%◌, ◌<◌, eqb, List, [], ◌∷◌, ◌++◌, length, set, slice_index, length-set, append-nil, refl, sym, ap, ◌∙◌, subst, eq-eqb, arith}
use Rattle.std.specs.Prelude.{Option, Some, None}
use mathlib.Core.Option as maybe
use mathlib.Core.Option.{none, some}
use mathlib.Core.Logic.{dite}
use native.Mathlib.Decide.{ℕ_discrete}
use lib.ListN.{get_elem?}
use prog.Atomic.{either}
use Rattle.atomic_table.specs.Table as table
use Rattle.atomic_table.specs.Table.{Me, Act, keeps, takes, gives, step, Valid, Allows, stepped, carried_after, homes_after, rest}
use Rattle.atomic_table.proofs.Lists.{exchanged, set_here, set_else, set_again}
use Rattle.running.specs.Running.{times, view, knows, log_of}
use Rattle.running.proofs.Logs.{own_same, legal_more, state-append}
use Rattle.running.proofs.Numbers.{word_at}
use Rattle.tq_cells.specs.declared.entry.Start.{Start}
use Rattle.tq_cells.specs.declared.entry.Entry.{Entry}
use Rattle.tq_cells.specs.declared.entry.Entry.TheVariants.{Hold, Put, Take, Free, Miss}
use Rattle.tq_cells.specs.declared.entry.Event.{Event}
use Rattle.tq_cells.specs.Machine.{State, after, cell, turned, filled, needs, Finds, May, cells, exact}
use Rattle.tq_cells.specs.Laws.{IsExact, state, puts}
use Rattle.tq_cells.specs.Rule.{Known, Seated, Rule, Told, Rests, IsSeat, held_turn, gave_item, took_turn, gave_turn}
use Rattle.tq_cells.proofs.Puts.{put_there, put_else}
use Rattle.tq_cells.proofs.Quarters.{quarter, quarter_whole, quarter_next}
use Rattle.tq_cells.proofs.CellLaws.{laws, cell_below}
use Rattle.tq_cells.proofs.Holders.{one_seat_holds}
use Rattle.tq_cells.proofs.Tickets.{tickets_stand_once, puts-last}
use Rattle.tq_cells.proofs.Follows.{follows}

pub keeps_one : (n : ℕ) → 0 < times n (n ∷ [])
keeps_one n = let e = eq-eqb n n refl in rw e (omega arith)

module _ {T : Type 0} (key : Start) (s : table.State (Option T) (Known T)) (r : Rule key s) (id k : ℕ) (log : List (Event T)) (at : get_elem? s.views id ≡ some (knows key (k ∷ []) log))
    (turn : Option ℕ) (rests : Rests key k turn log) where
  abbrev long : List (Event T)
  long = r.running.log

  -- the table, after the whole log
  abbrev now : State T
  now = state key long

  -- the seat's turn is what it knows
  holds : now.holds k ≡ turn
  holds =
      let fit = (r.running.knows id (knows key (k ∷ []) log) at).parts.0 in
      own_same (cells T) key laws k log long r.running.legal fit.begins (fit.own k (keeps_one k)) ∙ rests.own

  -- the word that is found is the one that the log leaves
  word : (c : ℕ) → c < key.capacity → slice_index s.words c ≡ now.turns c
  word c below = ap (λ (ws : List ℕ). slice_index ws c) r.running.words ∙ word_at key.capacity c now.turns below

  -- the seat makes an entry that its turn allows
  entered : (entry : Entry T) → turn ≡ needs entry → Finds entry (now.turns (cell key entry)) → (homes : List (maybe.Option (Option T))) (n : ℕ)
      → homes ≡ set s.homes (cell key entry) (filled entry (now.slots (cell key entry))) → n ≡ turned key entry (now.turns (cell key entry))
      → let w : Known T = knows key (k ∷ []) (long ++ record { seat = k; entry = entry } ∷ []) in
      Rule key (record { words = set s.words (cell key entry) n; homes = homes; views = set s.views id w }) × Told entry (knows key (k ∷ []) log) w
  entered entry allowed finds homes n homes_are is =
      let v : Known T = knows key (k ∷ []) log in
      let event : Event T = record { seat = k; entry = entry } in
      let c : ℕ = cell key entry in
      let below : c < key.capacity = cell_below key entry rests.some_cell in
      let may : May key (now.holds k) event = (rests.some_cell, rests.inside, holds ∙ allowed) in
      let ok : IsExact key (long ++ event ∷ []) = legal_more (exact T) key long event r.exact (may, finds) in
      let f = follows (cells T) laws key s r.running id v event homes n at (keeps_one k) may (is ∙ ap (turned key entry) (sym (word_at key.capacity c now.turns below))) in
      let slot : maybe.Option (Option T) = filled entry (now.slots c) in
      let then' : state key (long ++ event ∷ []) ≡ after key now event = state-append (cells T) key long (event ∷ []) in (
        record {
          running = f.0;
          exact = subst (IsExact key) (sym f.1) ok;
          count = ap length homes_are ∙ (length-set s.homes c slot ∙ r.count);
          slots = λ i low.
              (ap (λ hs. get_elem? hs i) homes_are
              ∙ dite (ℕ_discrete i c)
              (λ e. ap (get_elem? (set s.homes c slot)) e ∙ set_here s.homes c slot (omega (arith, r.count, below)) ∙ ap (λ (y : maybe.Option (Option T)). some y) (sym (put_there now.slots c slot i e)))
              (λ apart. set_else s.homes c i slot apart ∙ r.slots i low ∙ ap (λ (y : maybe.Option (Option T)). some y) (sym (put_else now.slots c slot i apart)))
              ∙ ap (λ (x : State T). some (x.slots i)) (sym then')
              ∙ ap (λ l. some ((state key l).slots i)) (sym f.1));
        },
        record { before = long; now = refl; parts = (r.running.knows id v at).parts; exact = ok },
      )

  -- what a step leads to
  abbrev Goes : ℕ → List (ℕ × Option T) → (ℕ → Me (Option T) (Known T) → Type 0) → ℕ → Type 0
  Goes c cs tells n = (w : Known T) × (a : Act (Option T)) × Valid s.homes cs a × Rule key (stepped s c n id cs w a) × tells (slice_index s.words c) (w, carried_after cs a)

  -- an exchange that found another word leaves all as it was
  missed : (c : ℕ) (cs : List (ℕ × Option T)) (tells : ℕ → Me (Option T) (Known T) → Type 0) (expected : ℕ) → turn ≡ None → c ≡ expected / 4 % key.capacity → slice_index s.words c ≢ expected
      → ((w : Known T) → Told (Miss expected (slice_index s.words c)) (knows key (k ∷ []) log) w → tells (slice_index s.words c) (w, cs)) → Goes c cs tells (slice_index s.words c)
  missed c cs tells expected none_held is other told =
      let n : ℕ = slice_index s.words c in
      let entry : Entry T = Miss expected n in
      let low : cell key entry < key.capacity = cell_below key entry rests.some_cell in
      let here : now.turns (cell key entry) ≡ n = ap now.turns (sym is) ∙ sym (word c (subst (λ i. i < key.capacity) (sym is) low)) in
      let e = entered entry none_held (here, λ same. other (sym here ∙ same)) s.homes n (sym (set_again s.homes (cell key entry) (now.slots (cell key entry)) (r.slots (cell key entry) low))) (sym here) in
      (knows key (k ∷ []) (long ++ record { seat = k; entry = entry } ∷ []), keeps, tt, subst (λ i. Rule key (stepped s i n id cs (knows key (k ∷ []) (long ++ record { seat = k; entry = entry } ∷ [])) keeps)) (sym is) e.0, told _ e.1)

  -- the turn to put
  held : (slots : ℕ) (cs : List (ℕ × Option T)) (t c : ℕ) → turn ≡ None → c ≡ t % key.capacity
      → Goes c cs (held_turn (step slots c (4 * t) (4 * t + 1) none) (knows key (k ∷ []) log, cs)) (either (eqb (slice_index s.words c) (4 * t)) (4 * t + 1) (slice_index s.words c))
  held slots cs t c none_held is =
      let tells : ℕ → Me (Option T) (Known T) → Type 0 = held_turn (step slots c (4 * t) (4 * t + 1) none) (knows key (k ∷ []) log, cs) in
      let low : t % key.capacity < key.capacity = cell_below {T = T} key (Hold t) rests.some_cell in
      let n : ℕ = slice_index s.words c in
      exchanged n (4 * t) (4 * t + 1) (Goes c cs tells)
      (λ hit. (let w : Known T = knows key (k ∷ []) (long ++ record { seat = k; entry = Hold t } ∷ []) in
      let here : now.turns (t % key.capacity) ≡ 4 * t = sym (word (t % key.capacity) low) ∙ ap (slice_index s.words) (sym is) ∙ hit in
      let e = entered (Hold t) none_held here (set s.homes (t % key.capacity) none) (4 * t + 1) refl refl in (
        w,
        takes c None,
        ap (get_elem? s.homes) is ∙ r.slots (t % key.capacity) low ∙ ap (λ (y : maybe.Option (Option T)). some y) ((tickets_stand_once key long t r.exact).empty here),
        subst (λ i. Rule key (stepped s i (4 * t + 1) id cs w (takes i None))) (sym is) e.0,
        ((λ _. (subst (λ q. Told (Hold q) (knows key (k ∷ []) log) w) (sym (quarter_whole t)) e.1, refl)), λ other. absurd (other hit)),
      )))
      (λ other. missed c cs tells (4 * t) none_held (is ∙ ap (λ q. q % key.capacity) (sym (quarter_whole t))) other (λ w told. ((λ hit. absurd (other hit)), λ _. (told, refl))))

  -- the turn to take
  taken : (slots : ℕ) (cs : List (ℕ × Option T)) (t c : ℕ) → turn ≡ None → c ≡ t % key.capacity
      → Goes c cs (took_turn (step slots c (4 * t + 2) (4 * t + 3) none) (knows key (k ∷ []) log, cs)) (either (eqb (slice_index s.words c) (4 * t + 2)) (4 * t + 3) (slice_index s.words c))
  taken slots cs t c none_held is =
      let tells : ℕ → Me (Option T) (Known T) → Type 0 = took_turn (step slots c (4 * t + 2) (4 * t + 3) none) (knows key (k ∷ []) log, cs) in
      let low : t % key.capacity < key.capacity = cell_below {T = T} key (Take t) rests.some_cell in
      let n : ℕ = slice_index s.words c in
      exchanged n (4 * t + 2) (4 * t + 3) (Goes c cs tells)
      (λ hit. (let event : Event T = record { seat = k; entry = Take t } in
      let w : Known T = knows key (k ∷ []) (long ++ event ∷ []) in
      let here : now.turns (t % key.capacity) ≡ 4 * t + 2 = sym (word (t % key.capacity) low) ∙ ap (slice_index s.words) (sym is) ∙ hit in
      let full = (tickets_stand_once key long t r.exact).full here in
      let e = entered (Take t) none_held here (set s.homes (t % key.capacity) none) (4 * t + 3) refl refl in
      let has : puts t (long ++ event ∷ []) ≡ full.0 ∷ [] = puts-last t long event ∙ (append-nil (puts t long) ∙ full.1) in (
        w,
        takes c (Some full.0),
        ap (get_elem? s.homes) is ∙ r.slots (t % key.capacity) low ∙ ap (λ (y : maybe.Option (Option T)). some y) full.2,
        subst (λ i. Rule key (stepped s i (4 * t + 3) id cs w (takes i (Some full.0)))) (sym is) e.0,
        ((λ _. (full.0, subst (λ q. Told (Take q) (knows key (k ∷ []) log) w) (sym (quarter t 2 (4 * t + 2) (omega arith) refl)) e.1, refl, subst (λ q. puts q (long ++ event ∷ []) ≡ full.0 ∷ []) (sym (quarter t 2 (4 * t + 2) (omega arith) refl)) has)), λ other. absurd (other hit)),
      )))
      (λ other. missed c cs tells (4 * t + 2) none_held (is ∙ ap (λ q. q % key.capacity) (sym (quarter t 2 (4 * t + 2) (omega arith) refl))) other (λ w told. ((λ hit. absurd (other hit)), λ _. (told, refl))))

  -- a turn that the seat holds is the word of its cell
  holds_word : (n t : ℕ) → turn ≡ Some n → n / 4 ≡ t → now.turns (t % key.capacity) ≡ n
  holds_word n t mine is = ap (λ q. now.turns (q % key.capacity)) (sym is) ∙ (one_seat_holds key long r.exact).word k n (holds ∙ mine)

  -- the item is given
  gave : (slots : ℕ) (more : List (ℕ × Option T)) (t c : ℕ) (x : T) → turn ≡ Some (4 * t + 1) → c ≡ t % key.capacity
      → Goes c ((c, Some x) ∷ more) (λ _. gave_item (step slots c (4 * t + 2) 0 none) (knows key (k ∷ []) log, (c, Some x) ∷ more) (4 * t + 2)) (4 * t + 2)
  gave slots more t c x mine is =
      let w : Known T = knows key (k ∷ []) (long ++ record { seat = k; entry = Put t x } ∷ []) in
      let e = entered (Put t x) mine (holds_word (4 * t + 1) t mine (quarter t 1 (4 * t + 1) (omega arith) refl)) (set s.homes (t % key.capacity) (some (Some x))) (4 * t + 2) refl refl in (
        w,
        gives,
        tt,
        subst (λ i. Rule key (stepped s i (4 * t + 2) id ((i, Some x) ∷ more) w gives)) (sym is) e.0,
        (x, refl, subst (λ q. Told (Put q x) (knows key (k ∷ []) log) w) (sym (quarter t 2 (4 * t + 2) (omega arith) refl)) e.1, refl),
      )

  -- the turn is given
  freed : (slots : ℕ) (more : List (ℕ × Option T)) (t c : ℕ) → turn ≡ Some (4 * t + 3) → c ≡ t % key.capacity → length s.homes ≡ slots
      → Goes c ((c, None) ∷ more) (λ _. gave_turn (step slots c (4 * (t + key.capacity)) 0 none) (knows key (k ∷ []) log, (c, None) ∷ more) (4 * (t + key.capacity))) (4 * (t + key.capacity))
  freed slots more t c mine is count =
      let w : Known T = knows key (k ∷ []) (long ++ record { seat = k; entry = Free t } ∷ []) in
      let new : ℕ = 4 * (t + key.capacity) in
      let e = entered (Free t) mine (holds_word (4 * t + 3) t mine (quarter t 3 (4 * t + 3) (omega arith) refl)) (set s.homes (t % key.capacity) (some None)) new refl refl in
      let back : t ≡ new / 4 - slots = sym (quarter_next t key.capacity slots (sym count ∙ r.count)) in (
        w,
        gives,
        tt,
        subst (λ i. Rule key (stepped s i new id ((i, None) ∷ more) w gives)) (sym is) e.0,
        (subst (λ q. Told (Free q) (knows key (k ∷ []) log) w) back e.1, refl),
      )

module _ {T : Type 0} where
  -- a table allows a step that goes on at its seat's own start
  allow : (key b : Start) (slots id k : ℕ) (log : List (Event T)) (cs : List (ℕ × Option T)) (c : ℕ) (f : ℕ → ℕ) (tells : ℕ → Seated T → Type 0)
      → ((s : table.State (Option T) (Known T)) → Rule b s → length s.homes ≡ slots → get_elem? s.views id ≡ some (knows b (k ∷ []) log)
      → (w : Known T) × (a : Act (Option T)) × Valid s.homes cs a × Rule b (stepped s c (f (slice_index s.words c)) id cs w a) × tells (slice_index s.words c) (w, carried_after cs a))
      → Allows (Rule key) slots id (knows b (k ∷ []) log, cs) c f tells
  allow key b slots id k log cs c f tells goes s r count at small =
      let start : b ≡ key = (r.running.knows id (knows b (k ∷ []) log) at).start (omega arith) in
      let g = goes s (subst (λ (z : Start). Rule z s) (sym start) r) count at in
      (g.0, g.1, g.2, subst (λ (z : Start). Rule z (stepped s c (f (slice_index s.words c)) id cs g.0 g.1)) start g.3, g.4)

  -- what holds of a seat with one number
  pub at_one : (P : Known T → Type 0) (k : ℕ) (turn : Option ℕ) (v : Known T) → IsSeat k turn v → P (knows v.start (k ∷ []) (log_of v.parts)) → P v
  at_one P k turn v one h = subst (λ ps. P (view v.start ps)) (sym one.parts) h

  pub from_one : (P : Known T → Type 0) (k : ℕ) (turn : Option ℕ) (v : Known T) → IsSeat k turn v → P v → P (knows v.start (k ∷ []) (log_of v.parts))
  from_one P k turn v one h = subst (λ ps. P (view v.start ps)) one.parts h

  module _ (key : Start) (slots id k : ℕ) (me : Seated T) (t c : ℕ) (is : c ≡ t % me.0.start.capacity) where
    -- the exchange that takes the turn to put
    pub holding_allowed : IsSeat k None me.0 → Allows (Rule key) slots id me c (λ n. either (eqb n (4 * t)) (4 * t + 1) n) (held_turn (step slots c (4 * t) (4 * t + 1) none) me)
    holding_allowed seat = at_one (λ v. Allows (Rule key) slots id (v, me.1) c (λ n. either (eqb n (4 * t)) (4 * t + 1) n) (held_turn (step slots c (4 * t) (4 * t + 1) none) (v, me.1))) k None me.0 seat
        (allow key me.0.start slots id k (log_of me.0.parts) me.1 c (λ n. either (eqb n (4 * t)) (4 * t + 1) n) (held_turn (step slots c (4 * t) (4 * t + 1) none) (knows me.0.start (k ∷ []) (log_of me.0.parts), me.1)) (λ s r count at. held me.0.start s r id k (log_of me.0.parts) at None seat.rests slots me.1 t c refl is))

    -- the exchange that takes the turn to take
    pub taking_allowed : IsSeat k None me.0 → Allows (Rule key) slots id me c (λ n. either (eqb n (4 * t + 2)) (4 * t + 3) n) (took_turn (step slots c (4 * t + 2) (4 * t + 3) none) me)
    taking_allowed seat = at_one (λ v. Allows (Rule key) slots id (v, me.1) c (λ n. either (eqb n (4 * t + 2)) (4 * t + 3) n) (took_turn (step slots c (4 * t + 2) (4 * t + 3) none) (v, me.1))) k None me.0 seat
        (allow key me.0.start slots id k (log_of me.0.parts) me.1 c (λ n. either (eqb n (4 * t + 2)) (4 * t + 3) n) (took_turn (step slots c (4 * t + 2) (4 * t + 3) none) (knows me.0.start (k ∷ []) (log_of me.0.parts), me.1)) (λ s r count at. taken me.0.start s r id k (log_of me.0.parts) at None seat.rests slots me.1 t c refl is))

    -- the store that gives the item
    pub giving_allowed : (x : T) (more : List (ℕ × Option T)) → me.1 ≡ (c, Some x) ∷ more → IsSeat k (Some (4 * t + 1)) me.0 → Allows (Rule key) slots id me c (λ _. 4 * t + 2) (λ _. gave_item (step slots c (4 * t + 2) 0 none) me (4 * t + 2))
    giving_allowed x more has seat =
        subst (λ cs. Allows (Rule key) slots id (me.0, cs) c (λ _. 4 * t + 2) (λ _. gave_item (step slots c (4 * t + 2) 0 none) (me.0, cs) (4 * t + 2))) (sym has)
        (at_one (λ v. Allows (Rule key) slots id (v, (c, Some x) ∷ more) c (λ _. 4 * t + 2) (λ _. gave_item (step slots c (4 * t + 2) 0 none) (v, (c, Some x) ∷ more) (4 * t + 2))) k (Some (4 * t + 1)) me.0 seat
        (allow key me.0.start slots id k (log_of me.0.parts) ((c, Some x) ∷ more) c (λ _. 4 * t + 2) (λ _. gave_item (step slots c (4 * t + 2) 0 none) (knows me.0.start (k ∷ []) (log_of me.0.parts), (c, Some x) ∷ more) (4 * t + 2)) (λ s r count at. gave me.0.start s r id k (log_of me.0.parts) at (Some (4 * t + 1)) seat.rests slots more t c x refl is)))

    -- the store that gives the turn
    pub freeing_allowed : (more : List (ℕ × Option T)) (new : ℕ) → new ≡ 4 * (t + me.0.start.capacity) → me.1 ≡ (c, None) ∷ more → IsSeat k (Some (4 * t + 3)) me.0 → Allows (Rule key) slots id me c (λ _. new) (λ _. gave_turn (step slots c new 0 none) me new)
    freeing_allowed more new new_is has seat =
        let n : ℕ = 4 * (t + me.0.start.capacity) in
        subst (λ (z : ℕ × List (ℕ × Option T)). Allows (Rule key) slots id (me.0, z.1) c (λ _. z.0) (λ _. gave_turn (step slots c z.0 0 none) (me.0, z.1) z.0)) (λ i. (sym new_is i, sym has i))
        (at_one (λ v. Allows (Rule key) slots id (v, (c, None) ∷ more) c (λ _. n) (λ _. gave_turn (step slots c n 0 none) (v, (c, None) ∷ more) n)) k (Some (4 * t + 3)) me.0 seat
        (allow key me.0.start slots id k (log_of me.0.parts) ((c, None) ∷ more) c (λ _. n) (λ _. gave_turn (step slots c n 0 none) (knows me.0.start (k ∷ []) (log_of me.0.parts), (c, None) ∷ more) n) (λ s r count at. freed me.0.start s r id k (log_of me.0.parts) at (Some (4 * t + 3)) seat.rests slots more t c refl is count)))
