-- What the beginning of a call tells, and what stands after it.
use Rattle.std.proofs.Common.{◌≡◌, inl, inr, ℕ, zero, suc, ◌+◌, ◌-◌, ◌<◌, ◌≤◌, Bool, true, false, List, [], ◌∷◌, ◌++◌, Option, Some, None, is_none, is_some, not, option_map, unwrap_or, refl, sym, ◌∙◌, ap, subst, arith}
use Rattle.std.specs.Prelude.{if◌then◌else◌}
use Rattle.std.specs.List.{range_with_len, find}
use Rattle.std.proofs.lemmas.Bool.{cases_lt, false≢true}
use Rattle.std.proofs.lemmas.List.{append-nil}
use Rattle.fn_model.specs.declared.Kind.{Kind}
use Rattle.fn_layout.specs.Words.{Announcement}
use Rattle.fn_core.specs.Batches.{has_come}
use Rattle.fn_core.specs.declared.Move.{Move}
use Rattle.fn_core.specs.declared.Move.TheVariants.{Scan}
use Rattle.fn_core.specs.declared.answer.Blocked.{Blocked}
use Rattle.fn_core.specs.declared.answer.CoreBegun.{CoreBegun}
use Rattle.fn_core.specs.declared.answer.CoreBegun.TheVariants.{Waiting, NoRow}
use Rattle.fn_core.specs.State.{Start, Climbing, Caller, State, opened, stage, next_call}
use Rattle.fn_core.specs.Machine.{IsChange, MaySpend}
use Rattle.fn_core.specs.Words.{word}
use Rattle.fn_core.specs.Order.{lets, first_below, is_free, first_free}
use Rattle.fn_core.specs.Tree.{aggregator, member}
use Rattle.fn_layout.specs.Tree.{IsLevel}
use Rattle.fn_core.specs.Begin.{row_end, blocker, is_open, rows_tried, has_open, row_scans, level_scans, is_full, full_level, scans, first_steps, begin_moves, blocked_at, begun_by, begun, events_of, scanned, IsHeld, IsBlocked, WaitsAtLeaf, spent}
use Rattle.fn_core.specs.Calls.{CoreLog, state_in, with_moves, IsIdle}
use Rattle.fn_core.proofs.Among.{Has, EndsIn, IsFound, found_is, all_reached, has_range, from_range, has_append_left, none_found, contains, reaches, range_ends, map_ends, flat_map_ends}
use Rattle.fn_core.proofs.Tries.{any_found, holds_lets, not_true}
use Rattle.fn_core.proofs.Beginning.{other_is}
use Rattle.fn_core.proofs.FirstFree.{first_same}
use Rattle.fn_core.proofs.Opens.{levels_tried, scan_among, IsBlocker, blocker_is, tried_same}
use Rattle.fn_core.proofs.Pushed.{run_append, with_moves_log}
use Rattle.fn_core.proofs.Waits.{stage_waits, caller_arrived, arrived_same, looked, looked_ends, looked_knows, tried, still_looked, left_by, begin_leaves}

-- a beginning that waits met no full level
waits_where : (at : ℕ → Blocked) (o : Option ℕ) → begun_by (option_map at o) ≡ Waiting → o ≡ None
waits_where at None is = refl
waits_where at (Some level) is = absurd (cc)

refused_where : (at : ℕ → Blocked) (o : Option ℕ) (blocked : Blocked) → begun_by (option_map at o) ≡ NoRow blocked → (level : ℕ) × (o ≡ Some level) × (at level ≡ blocked)
refused_where at None blocked is = absurd (cc)
refused_where at (Some level) blocked is = (level, refl, cc)

none_open : {A : Type 0} (o : Option A) → is_some o ≡ false → o ≡ None
none_open None is = refl
none_open (Some x) is = absurd (false≢true (sym is))

some_blocks : {A : Type 0} (o : Option A) → is_none o ≡ false → (x : A) × (o ≡ Some x)
some_blocks None is = absurd (false≢true (sym is))
some_blocks (Some x) is = (x, refl)

-- a word that blocks a row announces a number below the row's end
announces : (word end : ℕ) → not (lets (Some word) end) ≡ true → (word ≡ suc (word - 1)) × (word - 1 < end)
announces zero end is = absurd (false≢true is)
announces (suc n) end is = elim (cases_lt end (suc n)) [
  | inl lt ↦ absurd (false≢true (sym (ap not (holds_lets (suc n) end (inr lt))) ∙ is))
  | inr le ↦ (omega arith, omega (arith, le))
]

-- the load of a row that somebody blocks
module _ (start : Start) (s : State) (pass : ℕ) (kind : Kind) (level : ℕ) (at_level : Has (levels_tried start s kind pass) level) (steps : List Move) (n : ℕ) (at_row : Has (rows_tried start s kind level pass) n) where
  held_by : (q : ℕ) → IsBlocker start s pass kind level n q → IsHeld start s pass kind (scans start s kind pass ++ steps) level n q (word start s (Announcement q kind level) - 1)
  held_by q by =
      let of = other_is start pass kind level q by.found.inside in
      let number = announces (word start s (Announcement q kind level)) (row_end start s kind level pass n) by.found.holds in
      record {
        loaded = contains (scans start s kind pass ++ steps) (Scan kind level q) (has_append_left (scans start s kind pass) steps (Scan kind level q) (scan_among start pass kind s level n q at_level at_row by.reached));
        another = of.1;
        word_is = number.0;
        below = number.1;
      }

-- a full level refuses the call
module _ (start : Start) (s : State) (pass : ℕ) (kind : Kind) (level : ℕ) (full : full_level start s kind pass ≡ Some level) where
  abbrev all : List ℕ
  all = range_with_len 0 start.shape.rows

  abbrev opens : ℕ → Bool
  opens n = is_open start s kind level pass n

  level_found : IsFound (is_full start s kind pass) (range_with_len 1 start.shape.levels) level
  level_found = found_is (is_full start s kind pass) (range_with_len 1 start.shape.levels) level full

  nobody : find opens all ≡ None
  nobody = none_open (find opens all) (sym (any_found opens all) ∙ not_true (has_open start s kind pass level) level_found.holds)

  row_tried : (n : ℕ) → n < start.shape.rows → Has (rows_tried start s kind level pass) n
  row_tried n lt = subst (λ (xs : List ℕ). Has xs n) (sym (all_reached opens all nobody)) (has_range 0 start.shape.rows n (omega arith) (omega (arith, lt)))

  row_blocked : (n : ℕ) → n < start.shape.rows → (q : ℕ) × (blocker start s kind level pass (row_end start s kind level pass n) ≡ Some q)
  row_blocked n lt = some_blocks (blocker start s kind level pass (row_end start s kind level pass n)) (none_found opens all n nobody (has_range 0 start.shape.rows n (omega arith) (omega (arith, lt))))

  scans_end : (last q : ℕ) → suc last ≡ start.shape.rows → IsBlocker start s pass kind level last q → EndsIn (scans start s kind pass) (Scan kind level q)
  scans_end last q is by =
      flat_map_ends (level_scans start s kind pass) (levels_tried start s kind pass) level (Scan kind level q) level_found.last
      (flat_map_ends (row_scans start s kind level pass) (rows_tried start s kind level pass) last (Scan kind level q)
      (subst (λ (xs : List ℕ). EndsIn xs last) (sym (all_reached opens all nobody)) (subst (λ (x : ℕ). EndsIn (range_with_len 0 x) last) is (range_ends 0 last last (omega arith))))
      (map_ends (λ x. Scan kind level x) (scanned start s kind level pass (row_end start s kind level pass last)) q by.last))

  pub full_blocks : IsBlocked start s pass kind (scans start s kind pass ++ []) (blocked_at start s kind pass level)
  full_blocks =
      let inside = from_range 1 start.shape.levels level level_found.inside in
      let some : 1 ≤ start.shape.rows = start.shape.rows_in_range.0 in
      let last : ℕ = start.shape.rows - 1 in
      let within : last < start.shape.rows = omega arith in
      let by = row_blocked last within in
      let is = blocker_is start s pass kind level last by.0 by.1 in
      let named : by.0 ≡ unwrap_or (blocker start s kind level pass (row_end start s kind level pass last)) 0 = sym (ap (λ (o : Option ℕ). unwrap_or o 0) by.1) in
      let ends = scans_end last by.0 (omega arith) is in
      record {
        level = (inside.0, omega (arith, inside.1));
        each = λ n lt. let q = row_blocked n lt in
            (q.0, word start s (Announcement q.0 kind level) - 1, held_by start s pass kind level level_found.reached [] n (row_tried n lt) q.0 (blocker_is start s pass kind level n q.0 q.1));
        row = within;
        held = subst (λ (q : ℕ). IsHeld start s pass kind (scans start s kind pass ++ []) level last q (word start s (Announcement q kind level) - 1)) named (held_by start s pass kind level level_found.reached [] last (row_tried last within) by.0 is);
        last = (ends.0, append-nil (scans start s kind pass) ∙ ends.1 ∙ ap (λ (q : ℕ). ends.0 ++ Scan kind level q ∷ []) named);
      }

-- after a beginning
module _ (old new : CoreLog) (pass : ℕ) (range : pass < old.start.shape.passes) (kind : Kind) (change : IsChange kind) (amount : ℕ) (rests : IsIdle old pass) (taken : new ≡ with_moves old pass (begin_moves old.start (state_in old) pass kind amount)) (told : CoreBegun) (told_is : told ≡ begun old.start (state_in old) pass kind) where
  abbrev s : State
  s = state_in old

  abbrev after : Option ℕ → State
  after o = left_by old.start s pass range kind change amount rests o

  holds_after : (P : Start → State → Type 0) (o : Option ℕ) → full_level old.start s kind pass ≡ o → P old.start (after o) → P new.start (state_in new)
  holds_after P o is p =
      let steps : List Move = begin_moves old.start s pass kind amount in
      subst (λ (c : CoreLog). P c.start (state_in c)) (sym (taken ∙ with_moves_log old pass steps))
      (subst (P old.start) (sym (run_append old.start old.log (events_of pass steps) (opened old.start) ∙ begin_leaves old.start s pass range kind change amount rests ∙ ap after is)) p)

  waiting : told ≡ Waiting → full_level old.start s kind pass ≡ None
  waiting is = waits_where (blocked_at old.start s kind pass) (full_level old.start s kind pass) (sym told_is ∙ is)

  callers_looked : (looked old.start s pass range kind change amount rests).callers ≡ s.callers
  callers_looked = (still_looked old.start s pass range kind change amount rests).callers

  pub after_waits : told ≡ Waiting → WaitsAtLeaf new pass kind
  after_waits is =
      let none = waiting is in
      let at = stage_waits old.start (looked old.start s pass range kind change amount rests) pass range kind change amount in
      let position = holds_after (λ start t. (t.callers pass).position ≡ Climbing kind 1) None none (ap (λ (c : Caller). c.position) (caller_arrived old.start (looked old.start s pass range kind change amount rests) pass range kind change amount)) in
      let waits = holds_after (λ start t. stage start t kind 1 pass ≡ stage old.start (after None) kind 1 pass) None none refl in
      record { call = (kind, ap has_come (waits ∙ at)); position = position; offset = _; waits = waits ∙ at }

  pub after_made : told ≡ Waiting → (((state_in new).callers pass).last ≡ next_call s pass kind amount) × (((state_in new).callers pass).made ≡ suc (s.callers pass).made)
  after_made is =
      let arrived = caller_arrived old.start (looked old.start s pass range kind change amount rests) pass range kind change amount in
      let now : Caller = s.callers pass in
      let same : (looked old.start s pass range kind change amount rests).callers pass ≡ now = ap (λ (f : ℕ → Caller). f pass) callers_looked in
      holds_after (λ start t. ((t.callers pass).last ≡ next_call s pass kind amount) × ((t.callers pass).made ≡ suc (s.callers pass).made)) None (waiting is) (
        ap (λ (c : Caller). c.last) arrived ∙ ap (λ (f : ℕ → Caller). record { pass = pass; number = (f pass).made; kind = kind; amount = amount }) callers_looked,
        ap (λ (c : Caller). c.made) arrived ∙ ap (λ (c : Caller). suc c.made) same,
      )

  refusing : (at : Blocked) → told ≡ NoRow at → (level : ℕ) × (full_level old.start s kind pass ≡ Some level) × (blocked_at old.start s kind pass level ≡ at)
  refusing at is = refused_where (blocked_at old.start s kind pass) (full_level old.start s kind pass) at (sym told_is ∙ is)

  pub after_refused : (at : Blocked) → told ≡ NoRow at → (state_in new).callers pass ≡ s.callers pass
  after_refused at is =
      let full = refusing at is in
      holds_after (λ start t. t.callers pass ≡ s.callers pass) (Some full.0) full.1 (ap (λ (f : ℕ → Caller). f pass) callers_looked)

  pub after_spent : MaySpend s pass amount → ((state_in new).callers pass).left + spent told amount ≡ (s.callers pass).left
  after_spent spend = by told refl
    where
      by : (t : CoreBegun) → told ≡ t → ((state_in new).callers pass).left + spent told amount ≡ (s.callers pass).left
      by Waiting is =
          let left : ((state_in new).callers pass).left ≡ (s.callers pass).left - amount =
          holds_after (λ start t. (t.callers pass).left ≡ (s.callers pass).left - amount) None (waiting is)
          (ap (λ (c : Caller). c.left) (caller_arrived old.start (looked old.start s pass range kind change amount rests) pass range kind change amount) ∙ ap (λ (f : ℕ → Caller). (f pass).left - amount) callers_looked) in
          let most : amount ≤ (s.callers pass).left = spend.1 in
          ap (λ (t : CoreBegun). ((state_in new).callers pass).left + spent t amount) is ∙ omega (arith, left, most)
      by (NoRow at) is = ap (λ (t : CoreBegun). ((state_in new).callers pass).left + spent t amount) is ∙ omega (arith, ap (λ (c : Caller). c.left) (after_refused at is))

  pub after_blocked : (at : Blocked) → told ≡ NoRow at → IsBlocked old.start s pass kind (begin_moves old.start s pass kind amount) at
  after_blocked at is =
      let full = refusing at is in
      let steps : Option ℕ → List Move = λ o. scans old.start s kind pass ++ (if is_none o then first_steps kind amount else []) in
      subst (IsBlocked old.start s pass kind (begin_moves old.start s pass kind amount)) full.2
      (subst (λ (xs : List Move). IsBlocked old.start s pass kind xs (blocked_at old.start s kind pass full.0)) (sym (ap steps full.1)) (full_blocks old.start s pass kind full.0 full.1))

  -- the first row that may be filled is the one that the beginning found open
  pub after_chosen : told ≡ Waiting → (level : ℕ) → IsLevel old.start.shape level → first_free new.start (state_in new) kind level pass ≡ first_below (is_open old.start s kind level pass) old.start.shape.rows
  after_chosen is level inside =
      let start : Start = old.start in
      let none = waiting is in
      let seen : State = looked start s pass range kind change amount rests in
      let same = arrived_same start seen pass range kind change amount in
      let agree = λ (k : ℕ) (lt : k < start.shape.rows) (before : (j : ℕ) → j < k → is_open start s kind level pass j ≡ false).
      tried_same start pass kind s (after None)
      (λ l. (same kind l (aggregator start.shape pass l)).0 ∙ looked_ends start s pass range kind change amount rests l)
      (λ l n q a b h. ap (λ (f : ℕ → ℕ → Option ℕ). f (member start.shape l pass) (member start.shape l q)) (same kind l (aggregator start.shape pass l)).1 ∙ looked_knows start s pass range kind change amount rests l n q a b h)
      level k (tried start s pass range kind change amount rests none level inside.0 inside.1)
      (reaches (is_open start s kind level pass) 0 start.shape.rows k (omega arith) (omega (arith, lt)) (λ j low high. before j high)) in
      holds_after (λ start t. first_free start t kind level pass ≡ first_below (is_open old.start s kind level pass) old.start.shape.rows) None none
      (first_same (is_free start (after None) kind level pass) (is_open start s kind level pass) start.shape.rows agree)
