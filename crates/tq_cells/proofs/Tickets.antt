-- How often a ticket is put and taken is told by its cell's turn word, and what is taken is what was put.
use Rattle.std.proofs.Common.{◌≡◌, ◌≢◌, ℕ, ◌+◌, ◌*◌, ◌%◌, ◌<◌, ◌≤◌, List, [], ◌∷◌, ◌++◌, length, length-append, arith, refl, sym, ap, ◌∙◌, subst, append_assoc, append-nil, eq-eqb, ne_eqb}
use Rattle.std.specs.Prelude.{Option, Some, None}
use mathlib.Core.Option as maybe
use mathlib.Core.Option.{none, some, some-injective}
use mathlib.Core.Logic.{dite}
use native.Mathlib.Decide.{ℕ_discrete, dec_le}
use Rattle.std.proofs.Math.Nat.{mod-le}
use Rattle.atomic_table.proofs.Lists.{one_turn}
use Rattle.running.proofs.Logs.{state-append, legal_begins, guard_at}
use Rattle.tq_cells.specs.declared.entry.Start.{Start}
use Rattle.tq_cells.specs.declared.entry.Entry.{Entry}
use Rattle.tq_cells.specs.declared.entry.Entry.TheVariants.{Hold, Put, Take, Free, Miss}
use Rattle.tq_cells.specs.declared.entry.Event.{Event}
use Rattle.tq_cells.specs.Machine.{State, after, cell, turned, filled, Finds, exact}
use Rattle.tq_cells.specs.Laws.{put_by, taken_by, puts, takes, IsExact, state, turn, Stands, TicketsStandOnce, TakesFollowPuts, PutsAndTakesStay, EntriesStandAlone}
use Rattle.tq_cells.proofs.Puts.{put_there, put_else}
use Rattle.tq_cells.proofs.CellLaws.{logs_keep}

-- a ticket of the same cell, below the next one there, is this one or an earlier one
earlier : (start : Start) (t u : ℕ) → u % start.capacity ≡ t % start.capacity → u < t + start.capacity → u ≤ t
earlier start t u same below = dite (dec_le u t) (λ le. le) (λ not. let e : t ≡ u = one_turn t u start.capacity (omega arith) below (sym same) in omega arith)

module _ {T : Type 0} where
  -- what is put and taken in two logs, one after the other
  puts-append : (u : ℕ) (xs ys : List (Event T)) → puts u (xs ++ ys) ≡ puts u xs ++ puts u ys
  puts-append u [] ys = refl
  puts-append u (x ∷ xs) ys = ap (λ zs. put_by u x.entry ++ zs) (puts-append u xs ys) ∙ sym (append_assoc (put_by u x.entry) (puts u xs) (puts u ys))

  takes-append : (u : ℕ) (xs ys : List (Event T)) → takes u (xs ++ ys) ≡ takes u xs + takes u ys
  takes-append u [] ys = omega arith
  takes-append u (x ∷ xs) ys = omega (arith, takes-append u xs ys)

  -- and with one entry more
  pub puts-last : (u : ℕ) (xs : List (Event T)) (event : Event T) → puts u (xs ++ event ∷ []) ≡ puts u xs ++ put_by u event.entry
  puts-last u xs event = puts-append u xs (event ∷ []) ∙ ap (λ zs. puts u xs ++ zs) (append-nil (put_by u event.entry))

  takes-last : (u : ℕ) (xs : List (Event T)) (event : Event T) → takes u (xs ++ event ∷ []) ≡ takes u xs + taken_by u event.entry
  takes-last u xs event = omega (arith, takes-append u xs (event ∷ []))

  put_mine : (t u : ℕ) (x : T) → t ≡ u → put_by u (Put t x) ≡ x ∷ []
  put_mine t u x is = let e = eq-eqb t u is in rw e refl

  put_else_none : (t u : ℕ) (x : T) → t ≢ u → put_by u (Put t x) ≡ []
  put_else_none t u x apart = let e = ne_eqb t u apart in rw e refl

module _ (T : Type 0) where
  take_mine : (t u : ℕ) → t ≡ u → taken_by {T = T} u (Take t) ≡ 1
  take_mine t u is = let e = eq-eqb t u is in rw e refl

  take_else_none : (t u : ℕ) → t ≢ u → taken_by {T = T} u (Take t) ≡ 0
  take_else_none t u apart = let e = ne_eqb t u apart in rw e refl

module _ {T : Type 0} where
  -- what stands of a ticket where the same was put and taken, and no number between two bounds was passed
  same_stands : (u w w' : ℕ) (slot slot' : maybe.Option (Option T)) (items items' : List T) (n n' : ℕ) → Stands u w slot items n → items' ≡ items → n' ≡ n
      → (w' < 4 * u + 2 → w < 4 * u + 2) → (4 * u + 2 ≤ w' → 4 * u + 2 ≤ w) → (w' < 4 * u + 3 → w < 4 * u + 3) → (4 * u + 3 ≤ w' → 4 * u + 3 ≤ w)
      → (w' ≡ 4 * u → slot' ≡ some None) → (w' ≡ 4 * u + 1 → slot' ≡ none) → (w' ≡ 4 * u + 3 → slot' ≡ none) → (w' ≡ 4 * u + 2 → (w ≡ 4 * u + 2) × (slot' ≡ slot)) → Stands u w' slot' items' n'
  same_stands u w w' slot slot' items items' n n' is same_items same_n a b c d empty putting taking full = record {
    unput = λ h. same_items ∙ is.unput (a h);
    put = λ h. (let p = is.put (b h) in (p.0, same_items ∙ p.1));
    untaken = λ h. same_n ∙ is.untaken (c h);
    taken = λ h. same_n ∙ is.taken (d h);
    empty = empty;
    putting = putting;
    taking = taking;
    full = λ h. (let f = full h in let p = is.full f.0 in (p.0, same_items ∙ p.1, f.1 ∙ p.2));
  }

  -- an entry in the ticket's cell
  stands_here : (start : Start) (u : ℕ) (entry : Entry T) (w : ℕ) (slot : maybe.Option (Option T)) (items : List T) (n : ℕ) → 0 < start.capacity → u % start.capacity ≡ cell start entry → Finds entry w
      → Stands u w slot items n → Stands u (turned start entry w) (filled entry slot) (items ++ put_by u entry) (n + taken_by u entry)
  stands_here start u (Hold t) w slot items n some_cell same found is =
      same_stands u w (4 * t + 1) slot none items (items ++ []) n (n + 0) is (append-nil items) (omega arith) (λ h. omega arith) (λ h. omega arith) (λ h. omega arith) (λ h. omega arith) (λ h. absurd (omega arith)) (λ h. refl) (λ h. refl) (λ h. absurd (omega arith))
  stands_here start u (Put t x) w slot items n some_cell same found is = dite (ℕ_discrete t u)
      (λ mine. (let none_yet : items ≡ [] = is.unput (omega arith) in
      let one : items ++ put_by u (Put t x) ≡ x ∷ [] = ap (λ ys. ys ++ put_by u (Put t x)) none_yet ∙ put_mine t u x mine in
      record {
        unput = λ h. absurd (omega arith);
        put = λ h. (x, one);
        untaken = λ h. (let z = is.untaken (omega arith) in omega (arith, z));
        taken = λ h. absurd (omega arith);
        empty = λ h. absurd (omega arith);
        putting = λ h. absurd (omega arith);
        taking = λ h. absurd (omega arith);
        full = λ h. (x, one, refl);
      }))
      (λ other. same_stands u w (4 * t + 2) slot (some (Some x)) items (items ++ put_by u (Put t x)) n (n + 0) is (ap (λ ys. items ++ ys) (put_else_none t u x other) ∙ append-nil items) (omega arith)
      (λ h. omega arith) (λ h. omega arith) (λ h. omega arith) (λ h. omega arith) (λ h. absurd (omega arith)) (λ h. absurd (omega arith)) (λ h. absurd (omega arith)) (λ h. absurd (omega arith)))
  stands_here start u (Take t) w slot items n some_cell same found is = dite (ℕ_discrete t u)
      (λ mine. (let one = take_mine T t u mine in
      record {
        unput = λ h. absurd (omega arith);
        put = λ h. (let p = is.put (omega arith) in (p.0, append-nil items ∙ p.1));
        untaken = λ h. absurd (omega arith);
        taken = λ h. (let z = is.untaken (omega arith) in omega (arith, z, one));
        empty = λ h. absurd (omega arith);
        putting = λ h. refl;
        taking = λ h. refl;
        full = λ h. absurd (omega arith);
      }))
      (λ other. same_stands u w (4 * t + 3) slot none items (items ++ []) n (n + taken_by {T = T} u (Take t)) is (append-nil items) (omega (arith, take_else_none T t u other))
      (λ h. omega arith) (λ h. omega arith) (λ h. omega arith) (λ h. omega arith) (λ h. absurd (omega arith)) (λ h. refl) (λ h. refl) (λ h. absurd (omega arith)))
  stands_here start u (Free t) w slot items n some_cell same found is =
      let cap : ℕ = start.capacity in
      let back : u < t + cap → u ≤ t = earlier start t u same in
      same_stands u w (4 * (t + cap)) slot (some None) items (items ++ []) n (n + 0) is (append-nil items) (omega arith)
      (λ h. omega arith) (λ h. let le = back (omega arith) in omega (arith, le)) (λ h. omega arith) (λ h. let le = back (omega arith) in omega (arith, le)) (λ h. refl) (λ h. absurd (omega arith)) (λ h. absurd (omega arith)) (λ h. absurd (omega arith))
  stands_here start u (Miss expected found') w slot items n some_cell same found is =
      same_stands u w w slot slot items (items ++ []) n (n + 0) is (append-nil items) (omega arith) (λ h. h) (λ h. h) (λ h. h) (λ h. h) is.empty is.putting is.taking (λ h. (h, refl))

  -- an entry in another cell is of another ticket
  none_here : (start : Start) (u : ℕ) (entry : Entry T) → u % start.capacity ≢ cell start entry → (put_by u entry ≡ []) × (taken_by u entry ≡ 0)
  none_here start u (Hold t) apart = (refl, refl)
  none_here start u (Put t x) apart = (put_else_none t u x (λ is. apart (ap (λ i. i % start.capacity) (sym is))), refl)
  none_here start u (Take t) apart = (refl, take_else_none T t u (λ is. apart (ap (λ i. i % start.capacity) (sym is))))
  none_here start u (Free t) apart = (refl, refl)
  none_here start u (Miss expected found) apart = (refl, refl)

  abbrev StandsIn : Start → State T → List T → ℕ → ℕ → Type 0
  StandsIn start s items n u = Stands u (s.turns (u % start.capacity)) (s.slots (u % start.capacity)) items n

  stands_after : (start : Start) (s : State T) (event : Event T) (u : ℕ) (items : List T) (n : ℕ) → 0 < start.capacity → Finds event.entry (s.turns (cell start event.entry))
      → StandsIn start s items n u → StandsIn start (after start s event) (items ++ put_by u event.entry) (n + taken_by u event.entry) u
  stands_after start s event u items n some_cell found is =
      let c : ℕ = cell start event.entry in
      let i : ℕ = u % start.capacity in
      let w' : ℕ = turned start event.entry (s.turns c) in
      let slot' : maybe.Option (Option T) = filled event.entry (s.slots c) in
      dite (ℕ_discrete i c)
      (λ same. subst (λ (z : ℕ × maybe.Option (Option T)). Stands u z.0 z.1 (items ++ put_by u event.entry) (n + taken_by u event.entry)) (λ j. (sym (put_there s.turns c w' i same) j, sym (put_there s.slots c slot' i same) j))
      (stands_here start u event.entry (s.turns c) (s.slots c) items n some_cell same found (subst (λ k. Stands u (s.turns k) (s.slots k) items n) same is)))
      (λ apart. (let none_of = none_here start u event.entry apart in
      subst (λ (z : ℕ × maybe.Option (Option T) × List T × ℕ). Stands u z.0 z.1 z.2 z.3)
      (λ j. (sym (put_else s.turns c w' i apart) j, sym (put_else s.slots c slot' i apart) j, (sym (append-nil items) ∙ ap (λ ys. items ++ ys) (sym none_of.0)) j, (let e : n ≡ n + taken_by u event.entry = omega (arith, none_of.1) in e) j)) is))

  pub tickets_stand_once : TicketsStandOnce T
  tickets_stand_once start log u legal =
      logs_keep (exact T) start (λ xs. StandsIn start (state start xs) (puts u xs) (takes u xs) u)
      (λ xs event ok guard is. subst (λ (z : State T × List T × ℕ). StandsIn start z.0 z.1 z.2 u)
      (λ j. (sym (state-append (exact T) start xs (event ∷ [])) j, sym (puts-last u xs event) j, sym (takes-last u xs event) j))
      (stands_after start (state start xs) event u (puts u xs) (takes u xs) guard.0.0 guard.1 is))
      (let i : ℕ = u % start.capacity in
      let low : i ≤ u = mod-le u start.capacity in
      record {
        unput = λ h. refl;
        put = λ h. absurd (omega (arith, low));
        untaken = λ h. refl;
        taken = λ h. absurd (omega (arith, low));
        empty = λ h. refl;
        putting = λ h. absurd (omega arith);
        taking = λ h. absurd (omega arith);
        full = λ h. absurd (omega arith);
      }) log legal

  pub takes_follow_puts : TakesFollowPuts T
  takes_follow_puts start log more seat u legal =
      let event : Event T = record { seat = seat; entry = Take u } in
      let found = (guard_at (exact T) start log event more legal).1 in
      let is = tickets_stand_once start log u (legal_begins (exact T) start log (event ∷ more) legal) in
      (is.untaken (omega (arith, found)), is.full found)

  -- no more than one item is put under a ticket
  one_put : (start : Start) (log : List (Event T)) (u : ℕ) → IsExact start log → length (puts u log) ≤ 1
  one_put start log u legal =
      let is = tickets_stand_once start log u legal in
      dite (dec_le (4 * u + 2) (turn start log u)) (λ late. let e = ap length (is.put late).1 in omega (arith, e)) (λ early. let e = ap length (is.unput (omega arith)) in omega (arith, e))

  one_take : (start : Start) (log : List (Event T)) (u : ℕ) → IsExact start log → takes u log ≤ 1
  one_take start log u legal =
      let is = tickets_stand_once start log u legal in
      dite (dec_le (4 * u + 3) (turn start log u)) (λ late. let e = is.taken late in omega (arith, e)) (λ early. let e = is.untaken (omega arith) in omega (arith, e))

  -- a list of one, in a list no longer
  alone : (xs ys : List T) (x : T) → length (xs ++ x ∷ ys) ≤ 1 → xs ++ x ∷ ys ≡ x ∷ []
  alone [] [] x short = refl
  alone [] (y ∷ ys) x short = absurd (omega arith)
  alone (y ∷ xs) ys x short = absurd (let e = length-append xs (x ∷ ys) in omega (arith, e))

  pub puts_and_takes_stay : PutsAndTakesStay T
  puts_and_takes_stay start log more u legal = (
    (λ x is. (let whole : puts u (log ++ more) ≡ x ∷ puts u more = puts-append u log more ∙ ap (λ ys. ys ++ puts u more) is in
        whole ∙ alone [] (puts u more) x (subst (λ ys. length ys ≤ 1) whole (one_put start (log ++ more) u legal)))),
    (λ is. let most = one_take start (log ++ more) u legal in omega (arith, takes-append u log more, is, most)),
  )

  pub entries_stand_alone : EntriesStandAlone T
  entries_stand_alone start log more seat u = (
    (λ x legal. (let put_it : Event T = record { seat = seat; entry = Put u x } in
        let whole : puts u (log ++ put_it ∷ more) ≡ puts u log ++ x ∷ puts u more = puts-append u log (put_it ∷ more) ∙ ap (λ ys. puts u log ++ (ys ++ puts u more)) (put_mine u u x refl) in
        whole ∙ alone (puts u log) (puts u more) x (subst (λ ys. length ys ≤ 1) whole (one_put start (log ++ put_it ∷ more) u legal)))),
    (λ legal. (let take_it : Event T = record { seat = seat; entry = Take u } in
        let most = one_take start (log ++ take_it ∷ more) u legal in
        omega (arith, takes-append u log (take_it ∷ more), take_mine T u u refl, most))),
  )
