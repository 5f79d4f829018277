-- A split, a join, a new seat and a look keep the rule, and enter nothing.
use Rattle.std.proofs.Common.{◌≡◌, ◌≢◌, ◌⊎◌, ℕ, zero, suc, ◌<◌, List, [], ◌∷◌, ◌++◌, length, set, slice_index, refl, sym, ap, ◌∙◌, subst, ⊎_elim, inl, inr, append_assoc, append-nil, arith}
use Rattle.std.specs.Prelude.{Option}
use mathlib.Core.Option.{some}
use mathlib.Core.List.{IsPrefix, append_cancel_left}
use lib.ListN.{get_elem?}
use Rattle.atomic_table.specs.Table.{State, keeps, Splits, Joins, Enters, Allows}
use Rattle.atomic_table.proofs.Lists.{at_set, at_snoc, set_else}
use Rattle.running.specs.declared.Part.{Part}
use Rattle.running.specs.declared.View.{View}
use Rattle.running.specs.Machine.{Machine}
use Rattle.running.specs.Running.{numbers_of, log_of, Each, HasLog, without_one, one_of, knows, kept, IsSeen, joined, spent, handing, handed, Fits, Knows, Running}
use Rattle.running.proofs.Views.{times-append, log_stays, log_first, log_second, set_there, kept_set, kept_last, each_set, seen_set, seen_last}
use Rattle.running.proofs.Keeps.{hands, meets}
use Rattle.tq_cells.specs.declared.entry.Start.{Start}
use Rattle.tq_cells.specs.declared.entry.Event.{Event}
use Rattle.tq_cells.specs.Machine.{cells}
use Rattle.tq_cells.specs.Laws.{IsExact, state}
use Rattle.tq_cells.specs.Rule.{Known, Seated, Rule, Looked}
use Rattle.tq_cells.specs.Seats.{nowhere}
use Rattle.tq_cells.proofs.Follows.{knows_whole}

-- a word that is stored again
set_found : (ws : List ℕ) (i : ℕ) → set ws i (slice_index ws i) ≡ ws
set_found [] i = refl
set_found (w ∷ ws) zero = refl
set_found (w ∷ ws) (suc i) = ap (λ xs. w ∷ xs) (set_found ws i)

module _ {E : Type 0} where
  first_empty : (xs ys : List E) → xs ++ ys ≡ [] → xs ≡ []
  first_empty [] ys is = refl
  first_empty (x ∷ xs) ys is = absurd (cc)

  -- two lists that begin each other are the same
  same_prefix : (xs ys : List E) → IsPrefix xs ys → IsPrefix ys xs → ys ≡ xs
  same_prefix xs ys (more, is) (more', is') =
      let all : xs ++ (more ++ more') ≡ xs ++ [] = sym (append_assoc xs more more') ∙ (ap (λ l. l ++ more') is ∙ (is' ∙ sym (append-nil xs))) in
      let none : more ≡ [] = first_empty more more' (append_cancel_left xs (more ++ more') [] all) in
      sym is ∙ (ap (λ l. xs ++ l) none ∙ append-nil xs)

  -- the logs of a view that was cut are those that it had
  log_of_left : (log : List E) (ps : List (Part E)) → HasLog log (without_one ps) → HasLog log ps
  log_of_left log [] has = has
  log_of_left log (p ∷ ps) has = has

  log_of_right : (log : List E) (ps : List (Part E)) → HasLog log (one_of ps) → HasLog log ps
  log_of_right log [] has = has
  log_of_right log (p ∷ ps) has = ⊎_elim (λ is. inl is) (λ none. absurd none) has

  log_of_either : (log : List E) (ps qs : List (Part E)) → HasLog log (ps ++ qs) → HasLog log ps ⊎ HasLog log qs
  log_of_either log [] qs has = inr has
  log_of_either log (p ∷ ps) qs has = ⊎_elim (λ is. inl (inl is)) (λ later. ⊎_elim (λ first. inl (inr first)) (λ second. inr second) (log_of_either log ps qs later)) has

module _ {B E S O : Type 0} (m : Machine B E S O) where
  -- a log among those of parts that fit the whole log begins it
  has_begins : (log whole : List E) (ps : List (Part E)) → Each (Fits m whole) ps → HasLog log ps → IsPrefix log whole
  has_begins log whole [] fits has = absurd has
  has_begins log whole (p ∷ ps) fits has = ⊎_elim (λ is. subst (λ l. IsPrefix l whole) is fits.0.begins) (λ later. has_begins log whole ps fits.1 later) has

module _ {B E S O T : Type 0} (m : Machine B E S O) where
  -- a log that some seat has seen begins the whole log
  seen_begins : (key : B) (s : State T (View B E)) (rule : Running m key s) (log : List E) → IsSeen log s.views → IsPrefix log rule.log
  seen_begins key s rule log (id, v, at, has) = has_begins m log rule.log v.parts (rule.knows id v at).parts has

  -- the rule has the same log before and after, where no seat has seen another
  same_log : (key : B) (s s' : State T (View B E)) (rule : Running m key s) (rule' : Running m key s') → IsSeen rule.log s'.views → IsSeen rule'.log s.views → rule'.log ≡ rule.log
  same_log key s s' rule rule' there back = same_prefix rule.log rule'.log (seen_begins key s' rule' rule.log there) (seen_begins key s rule rule'.log back)

  -- other views that know the log, one of which has seen it whole, and which keep the same numbers
  other_views : (key : B) (s : State T (View B E)) (rule : Running m key s) (views : List (View B E)) → IsSeen rule.log views
      → ((id : ℕ) (v : View B E) → get_elem? views id ≡ some v → Knows m key rule.log v) → ((n : ℕ) → kept n views ≡ kept n s.views)
      → (rule' : Running m key (record { words = s.words; homes = s.homes; views = views })) × (rule'.log ≡ rule.log)
  other_views key s rule views seen each same = (
    record {
      log = rule.log;
      legal = rule.legal;
      words = rule.words;
      seen = seen;
      knows = each;
      once = λ n. let h = rule.once n in omega (arith, same n);
      silent = λ n none. rule.silent n (sym (same n) ∙ none);
    },
    refl,
  )

module _ {T : Type 0} where
  -- the rule of the cells goes on with the log
  goes_on : (key : Start) (s : State (Option T) (Known T)) (r : Rule key s) (views : List (Known T)) (after : Running (cells T) key (record { words = s.words; homes = s.homes; views = views })) → after.log ≡ r.running.log
      → Rule key (record { words = s.words; homes = s.homes; views = views })
  goes_on key s r views after same = record {
    running = after;
    exact = subst (IsExact key) (sym same) r.exact;
    count = r.count;
    slots = λ c low. r.slots c low ∙ ap (λ (l : List (Event T)). some ((state key l).slots c)) (sym same);
  }

  -- a seat gives its second number to a new seat
  pub rule_hands : (key : Start) (id : ℕ) (v : Known T) → Splits (Rule key) id v (handing v) (handed v)
  rule_hands key id v s r at =
      let left : Known T = handing v in
      let right : Known T = handed v in
      let views : List (Known T) = set s.views id left ++ right ∷ [] in
      let after = hands (cells T) key id v s r.running at in
      let log : List (Event T) = r.running.log in
      let there : IsSeen log views = seen_last log (set s.views id left) right (seen_set log s.views id id v left left at (set_there s.views id v left at) (log_stays log v.parts) r.running.seen) in
      let seen = after.seen in
      let back : IsSeen after.log s.views = ⊎_elim
      (λ was. ⊎_elim
      (λ (here : (seen.0 ≡ id) × (left ≡ seen.1)). (id, v, at, log_of_left after.log v.parts (subst (λ (u : Known T). HasLog after.log u.parts) (sym here.1) seen.3)))
      (λ (else_where : (seen.0 ≢ id) × (get_elem? s.views seen.0 ≡ some seen.1)). (seen.0, seen.1, else_where.1, seen.3))
      (at_set s.views id seen.0 left seen.1 was))
      (λ (is : right ≡ seen.1). (id, v, at, log_of_right after.log v.parts (subst (λ (u : Known T). HasLog after.log u.parts) (sym is) seen.3)))
      (at_snoc (set s.views id left) right seen.1 seen.0 seen.2) in
      goes_on key s r views after (same_log (cells T) key s (record { words = s.words; homes = s.homes; views = views }) r.running after there back)

  -- a seat that has a part takes in another's parts
  pub rule_meets : (key : Start) (id : ℕ) (v : Known T) (other : ℕ) (w : Known T) → 0 < length v.parts → Joins (Rule key) id v other w (joined v w) (spent nowhere)
  rule_meets key id v other w some_mine s r at apart there =
      let both : Known T = joined v w in
      let gone : Known T = spent nowhere in
      let views : List (Known T) = set s.views id both in
      let last : List (Known T) = set views other gone in
      let after = meets (cells T) key id v other w nowhere some_mine s r.running at apart there in
      let log : List (Event T) = r.running.log in
      let here : get_elem? views id ≡ some both = set_there s.views id v both at in
      let was : get_elem? s.views other ≡ some w = sym (set_else s.views id other both apart) ∙ there in
      let seen_there : IsSeen log last = seen_set log views other id w both gone there (set_else views other id gone (λ e. apart (sym e)) ∙ here) (log_second log v.parts w.parts)
      (seen_set log s.views id id v both both at here (log_first log v.parts w.parts) r.running.seen) in
      let seen = after.seen in
      let back : IsSeen after.log s.views = ⊎_elim
      (λ (is : (seen.0 ≡ other) × (gone ≡ seen.1)). absurd (subst (λ (u : Known T). HasLog after.log u.parts) (sym is.1) seen.3))
      (λ (else_where : (seen.0 ≢ other) × (get_elem? views seen.0 ≡ some seen.1)). ⊎_elim
      (λ (is : (seen.0 ≡ id) × (both ≡ seen.1)). ⊎_elim (λ first. (id, v, at, first)) (λ second. (other, w, was, second)) (log_of_either after.log v.parts w.parts (subst (λ (u : Known T). HasLog after.log u.parts) (sym is.1) seen.3)))
      (λ (old : (seen.0 ≢ id) × (get_elem? s.views seen.0 ≡ some seen.1)). (seen.0, seen.1, old.1, seen.3))
      (at_set s.views id seen.0 both seen.1 else_where.1))
      (at_set views other seen.0 gone seen.1 seen.2) in
      goes_on key s r last after (same_log (cells T) key s (record { words = s.words; homes = s.homes; views = last }) r.running after seen_there back)

  -- a new seat sees the whole log, and keeps no number
  pub rule_enters : (key : Start) (slots word : ℕ) → Enters (Rule {T = T} key) slots word (λ n w. w ≡ knows key [] (log_of w.parts))
  rule_enters key slots word s r _ _ =
      let log : List (Event T) = r.running.log in
      let w : Known T = knows key [] log in
      let after = other_views (cells T) key s r.running (s.views ++ w ∷ []) (seen_last log s.views w r.running.seen)
      (λ j u e. ⊎_elim (λ (was : get_elem? s.views j ≡ some u). r.running.knows j u was) (λ (is : w ≡ u). subst (Knows (cells T) key log) is (knows_whole (cells T) key [] log)) (at_snoc s.views w u j e))
      (λ n. omega (arith, kept_last n s.views w)) in
      (w, goes_on key s r (s.views ++ w ∷ []) after.0 after.1, refl)

  looked_at : (key : Start) (s : State (Option T) (Known T)) (r : Rule key s) (id : ℕ) (v : Known T) → get_elem? s.views id ≡ some v
      → Rule key (record { words = s.words; homes = s.homes; views = set s.views id (knows key (numbers_of v.parts) r.running.log) })
  looked_at key s r id v at =
      let log : List (Event T) = r.running.log in
      let w : Known T = knows key (numbers_of v.parts) log in
      let after = other_views (cells T) key s r.running (set s.views id w) (id, w, set_there s.views id v w at, inl refl)
      (each_set (Knows (cells T) key log) s.views id w (λ j u _ e. r.running.knows j u e) (knows_whole (cells T) key (numbers_of v.parts) log))
      (λ n. omega (arith, kept_set n s.views id v w at, times-append n (numbers_of v.parts) [])) in
      goes_on key s r (set s.views id w) after.0 after.1

  -- a seat that has a part sees the whole log by a load
  pub rule_looks : (key : Start) (slots id word : ℕ) (me : Seated T) → 0 < length me.0.parts → Allows (Rule key) slots id me word (λ n. n) (λ n after. Looked me.0 after.0 × (after.1 ≡ me.1))
  rule_looks key slots id word me some_part s r _ at _ =
      let v : Known T = me.0 in
      let begins = r.running.knows id v at in
      let start : v.start ≡ key = begins.start some_part in
      let here : Rule v.start s = subst (λ (b : Start). Rule b s) (sym start) r in
      let w : Known T = knows v.start (numbers_of v.parts) here.running.log in
      let looked = looked_at v.start s here id v at in (
        w,
        keeps,
        tt,
        subst (λ (z : Start × List ℕ). Rule z.0 (record { words = z.1; homes = s.homes; views = set s.views id w })) (λ i. (start i, sym (set_found s.words word) i)) looked,
        (record { log = here.running.log; now = refl; parts = (here.running.knows id v at).parts; exact = here.exact }, refl),
      )
