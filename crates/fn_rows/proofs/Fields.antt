-- Writes to the lists of a value, as changes of the machine's functions.
use Rattle.std.proofs.Common.{◌≡◌, inl, inr, ℕ, zero, suc, ◌*◌, ◌^◌, ◌<◌, ◌≤◌, ◌+◌, List, [], ◌∷◌, ◌++◌, length, get_or, set, replicate, refl, sym, ◌∙◌, ap, subst, arith}
use Rattle.std.specs.Prelude.{Option, Some, None, if◌then◌else◌, nat_lt, Bool, true, false}
use Rattle.std.proofs.Math.Path.{fun_ext}
use Rattle.std.proofs.Math.Nat.{div-lt_iff_lt-mul}
use Rattle.std.proofs.lemmas.Bool.{cases_eq}
use Rattle.std.proofs.lemmas.List.{get_or-set_same, get_or-set_other, get_or_default, length-set, length-replicate}
use Rattle.fn_rows.specs.Machine.{start, AllAllowed, Allowed, Saw, State, Stage, Out, Step, Scan, put, moved, after}
use Rattle.fn_rows.specs.Law.{row_named, IsLawful}
use Rattle.fn_rows.specs.Trace.{Traced, nothing, run}
use Rattle.fn_rows.specs.Found.{Forgets, found_in}
use Rattle.fn_rows.specs.Aggregator.{Aggregator, May, IsReached, Starts, at_or, state_of, IsSized, Steps}
use Rattle.fn_rows.proofs.Laws.{run_append, append_allowed}
use Rattle.fn_rows.proofs.Law.{law}
use Rattle.fn_rows.proofs.Found.{place_below, found_set, found_forgotten}
use Rattle.fn_rows.proofs.Put.{put_here, put_there}

pub set_as_put : {A : Type 0} (default : A) (xs : List A) (k : ℕ) (v : A) → k < length xs → at_or default (set xs k v) ≡ put (at_or default xs) k v
set_as_put default xs k v lt = fun_ext (λ i. elim (cases_eq i k) [
  | inl same ↦ ap (λ j. get_or (set xs k v) j default) same ∙ get_or-set_same xs k v default lt ∙ sym (put_here (at_or default xs) k v i same)
  | inr other ↦ get_or-set_other xs k i v default other ∙ sym (put_there (at_or default xs) k v i other)
])

-- what was read is the function's value
pub read_at : {A : Type 0} (default : A) (xs : List A) (k n : ℕ) (x : A) → length xs ≡ n → k < n → x ≡ get_or xs k x → at_or default xs k ≡ x
read_at default xs k n x long lt read = get_or_default xs k default x (omega (arith, long, lt)) ∙ sym read

pub announced_read : (old a : Aggregator) → old ≡ a → IsReached old → (q : ℕ) → q < a.members → (word : ℕ) → word ≡ get_or old.announced q word → word ≡ (state_of a).announced q
announced_read old a is reached q q_in word read =
    sym (ap (λ (x : Aggregator). at_or 0 x.announced q) (sym is) ∙ read_at 0 old.announced q old.members word reached.sized.announced (omega (arith, q_in, ap (λ (x : Aggregator). x.members) is)) read)

-- a row of the value is one of the fields
pub row_below : (old a : Aggregator) → old ≡ a → (r : ℕ) → r < a.members * a.rows → r < old.members * old.rows
row_below old a is r row = subst (λ (x : Aggregator). r < x.members * x.rows) (sym is) row

-- the law holds of a value that was reached
pub lawful : (a : Aggregator) → IsReached a → (t : Traced) × (t.state ≡ state_of a) × IsLawful a.members a.rows t
lawful a reached = (run reached.steps nothing, reached.state, law a.members a.rows reached.steps reached.allowed)

-- a row that a stage names is one of the rows
pub row_inside : (a : Aggregator) → IsReached a → (m r : ℕ) → row_named ((state_of a).stage m) ≡ Some r → r < a.members * a.rows
row_inside a reached m r names =
    let t = lawful a reached in
    (div-lt_iff_lt-mul reached.some_row).0 (t.2.short.inside m r (ap (λ (x : State). row_named (x.stage m)) t.1 ∙ names))

-- what a member saw leaves room for one more
pub seen_small : (a : Aggregator) → IsReached a → (m seen : ℕ) → (state_of a).stage m ≡ Saw seen → seen < 2 ^ 63
seen_small a reached m seen is =
    let t = lawful a reached in
    let le = t.2.told.saw m seen (ap (λ (x : State). x.stage m) t.1 ∙ is) in
    omega (arith, le, t.2.ordered.counted, ap (λ (x : State). x.total) t.1, reached.small)

-- the new value is the old one after the step, and was reached
pub record Goes (old new : Aggregator) (step : Step) : Type 0 where
  pub steps : Steps old new step
  pub reached : IsReached new

-- the fields before a step stand for this value, from which the step may be taken
module _ (old a : Aggregator) (is : old ≡ a) (reached : IsReached old) (step : Step) (may : May a step) where
  goes : (new : Aggregator) → state_of new ≡ after (state_of a) step → new.members ≡ old.members → new.rows ≡ old.rows → IsSized new → new.total < 2 ^ 63 → Goes a new step
  goes new state members rows sized small = record {
    steps = record {
      state = state;
      members = members ∙ ap (λ (x : Aggregator). x.members) is;
      rows = rows ∙ ap (λ (x : Aggregator). x.rows) is;
    };
    reached = record {
      sized = sized;
      some_member = omega (arith, reached.some_member, members);
      few_members = omega (arith, reached.few_members, members);
      some_row = omega (arith, reached.some_row, rows);
      few_rows = omega (arith, reached.few_rows, rows);
      small = small;
      steps = reached.steps ++ step ∷ [];
      allowed = subst (λ m. AllAllowed m new.rows (reached.steps ++ step ∷ []) start) (sym members) (subst (λ r. AllAllowed old.members r (reached.steps ++ step ∷ []) start) (sym rows) all);
      state = ap (λ (t : Traced). t.state) (run_append reached.steps (step ∷ []) nothing) ∙ ap (λ (x : State). after x step) reached.state ∙ ap (λ (x : Aggregator). after (state_of x) step) is ∙ sym state;
    };
  }
    where
      all : AllAllowed old.members old.rows (reached.steps ++ step ∷ []) start
      all = append_allowed old.members old.rows reached.steps (step ∷ []) nothing reached.allowed
          (subst (λ (x : State). Allowed old.members old.rows x step) (sym reached.state) (subst (λ (x : Aggregator). May x step) (sym is) may), tt)

  same_members : a.members ≡ old.members
  same_members = ap (λ (x : Aggregator). x.members) (sym is)

  -- a member goes on to another stage
  module _ (m : ℕ) (range : m < a.members) (g : Stage) where
    in_stage : m < length old.stage
    in_stage = omega (arith, range, same_members, reached.sized.stage)

    in_announced : m < length old.announced
    in_announced = omega (arith, range, same_members, reached.sized.announced)

    -- from fields of which others have changed
    moves_from : (x : Aggregator) → x.stage ≡ old.stage → moved (state_of x) m g ≡ after (state_of a) step → x.members ≡ old.members → x.rows ≡ old.rows → IsSized x → x.total < 2 ^ 63 → Goes a (record x { stage = set x.stage m g }) step
    moves_from x same state members rows sized small =
        goes (record x { stage = set x.stage m g })
        (ap (λ (f : ℕ → Stage). record (state_of x) { stage = f }) (set_as_put Out x.stage m g (omega (arith, in_stage, ap length same))) ∙ state)
        members rows
        (record {
          announced = sized.announced;
          found = sized.found;
          lo = sized.lo;
          base = sized.base;
          prev = sized.prev;
          end = sized.end;
          stage = length-set x.stage m g ∙ sized.stage;
        })
        small

    pub moves : moved (state_of a) m g ≡ after (state_of a) step → Goes a (record old { stage = set old.stage m g }) step
    moves state = moves_from old refl (ap (λ (x : Aggregator). moved (state_of x) m g) is ∙ state) refl refl reached.sized reached.small

    -- one that announces
    pub announces : (word : ℕ) → moved (record (state_of a) { announced = put (state_of a).announced m word }) m g ≡ after (state_of a) step → Goes a (record old { announced = set old.announced m word; stage = set old.stage m g }) step
    announces word state =
        moves_from (record old { announced = set old.announced m word }) refl
        (ap (λ (f : ℕ → ℕ). moved (record (state_of old) { announced = f }) m g) (set_as_put 0 old.announced m word in_announced)
        ∙ ap (λ (x : Aggregator). moved (record (state_of x) { announced = put (state_of x).announced m word }) m g) is ∙ state)
        refl refl
        (record {
          announced = length-set old.announced m word ∙ reached.sized.announced;
          found = reached.sized.found;
          lo = reached.sized.lo;
          base = reached.sized.base;
          prev = reached.sized.prev;
          end = reached.sized.end;
          stage = reached.sized.stage;
        })
        reached.small

    -- one that arrives
    pub arrives : (total : ℕ) → total < 2 ^ 63 → moved (record (state_of a) { total = total }) m g ≡ after (state_of a) step → Goes a (record old { total = total; stage = set old.stage m g }) step
    arrives total small state =
        moves_from (record old { total = total }) refl (ap (λ (x : Aggregator). moved (record (state_of x) { total = total }) m g) is ∙ state) refl refl
        (record {
          announced = reached.sized.announced;
          found = reached.sized.found;
          lo = reached.sized.lo;
          base = reached.sized.base;
          prev = reached.sized.prev;
          end = reached.sized.end;
          stage = reached.sized.stage;
        })
        small

    -- one that points to its row
    pub points : (last : ℕ) → moved (record (state_of a) { last = last }) m g ≡ after (state_of a) step → Goes a (record old { last = last; stage = set old.stage m g }) step
    points last state =
        moves_from (record old { last = last }) refl (ap (λ (x : Aggregator). moved (record (state_of x) { last = last }) m g) is ∙ state) refl refl
        (record {
          announced = reached.sized.announced;
          found = reached.sized.found;
          lo = reached.sized.lo;
          base = reached.sized.base;
          prev = reached.sized.prev;
          end = reached.sized.end;
          stage = reached.sized.stage;
        })
        reached.small

    -- one that writes to a row
    module _ (r word : ℕ) (row : r < a.members * a.rows) where
      in_rows : r < old.members * old.rows
      in_rows = row_below old a is r row

      pub stores_lo : moved (record (state_of a) { lo = put (state_of a).lo r word }) m g ≡ after (state_of a) step → Goes a (record old { lo = set old.lo r word; stage = set old.stage m g }) step
      stores_lo state =
          moves_from (record old { lo = set old.lo r word }) refl
          (ap (λ (f : ℕ → ℕ). moved (record (state_of old) { lo = f }) m g) (set_as_put 0 old.lo r word (omega (arith, in_rows, reached.sized.lo)))
          ∙ ap (λ (x : Aggregator). moved (record (state_of x) { lo = put (state_of x).lo r word }) m g) is ∙ state)
          refl refl
          (record {
            announced = reached.sized.announced;
            found = reached.sized.found;
            lo = length-set old.lo r word ∙ reached.sized.lo;
            base = reached.sized.base;
            prev = reached.sized.prev;
            end = reached.sized.end;
            stage = reached.sized.stage;
          })
          reached.small

      pub stores_base : moved (record (state_of a) { base = put (state_of a).base r word }) m g ≡ after (state_of a) step → Goes a (record old { base = set old.base r word; stage = set old.stage m g }) step
      stores_base state =
          moves_from (record old { base = set old.base r word }) refl
          (ap (λ (f : ℕ → ℕ). moved (record (state_of old) { base = f }) m g) (set_as_put 0 old.base r word (omega (arith, in_rows, reached.sized.base)))
          ∙ ap (λ (x : Aggregator). moved (record (state_of x) { base = put (state_of x).base r word }) m g) is ∙ state)
          refl refl
          (record {
            announced = reached.sized.announced;
            found = reached.sized.found;
            lo = reached.sized.lo;
            base = length-set old.base r word ∙ reached.sized.base;
            prev = reached.sized.prev;
            end = reached.sized.end;
            stage = reached.sized.stage;
          })
          reached.small

      pub stores_prev : moved (record (state_of a) { prev = put (state_of a).prev r word }) m g ≡ after (state_of a) step → Goes a (record old { prev = set old.prev r word; stage = set old.stage m g }) step
      stores_prev state =
          moves_from (record old { prev = set old.prev r word }) refl
          (ap (λ (f : ℕ → ℕ). moved (record (state_of old) { prev = f }) m g) (set_as_put 0 old.prev r word (omega (arith, in_rows, reached.sized.prev)))
          ∙ ap (λ (x : Aggregator). moved (record (state_of x) { prev = put (state_of x).prev r word }) m g) is ∙ state)
          refl refl
          (record {
            announced = reached.sized.announced;
            found = reached.sized.found;
            lo = reached.sized.lo;
            base = reached.sized.base;
            prev = length-set old.prev r word ∙ reached.sized.prev;
            end = reached.sized.end;
            stage = reached.sized.stage;
          })
          reached.small

      -- one that publishes
      pub publishes : (done : ℕ) → moved (record (state_of a) { done = done; end = put (state_of a).end r word }) m g ≡ after (state_of a) step → Goes a (record old { done = done; end = set old.end r word; stage = set old.stage m g }) step
      publishes done state =
          moves_from (record old { done = done; end = set old.end r word }) refl
          (ap (λ (f : ℕ → ℕ). moved (record (state_of old) { done = done; end = f }) m g) (set_as_put 0 old.end r word (omega (arith, in_rows, reached.sized.end)))
          ∙ ap (λ (x : Aggregator). moved (record (state_of x) { done = done; end = put (state_of x).end r word }) m g) is ∙ state)
          refl refl
          (record {
            announced = reached.sized.announced;
            found = reached.sized.found;
            lo = reached.sized.lo;
            base = reached.sized.base;
            prev = reached.sized.prev;
            end = length-set old.end r word ∙ reached.sized.end;
            stage = reached.sized.stage;
          })
          reached.small

    -- one that leaves
    pub leaves : (found : List (Option ℕ)) → length found ≡ length old.found → Forgets old.found found (m * old.members) old.members
        → moved (record (state_of a) { announced = put (state_of a).announced m 0; found = put (state_of a).found m (λ q. None) }) m g ≡ after (state_of a) step
        → Goes a (record old { announced = set old.announced m 0; found = found; stage = set old.stage m g }) step
    leaves found long forgets state =
        moves_from (record old { announced = set old.announced m 0; found = found }) refl
        ((λ i. moved (record (state_of old) { announced = set_as_put 0 old.announced m 0 in_announced i; found = found_forgotten old.members old.found found m forgets i }) m g)
        ∙ ap (λ (x : Aggregator). moved (record (state_of x) { announced = put (state_of x).announced m 0; found = put (state_of x).found m (λ q. None) }) m g) is ∙ state)
        refl refl
        (record {
          announced = length-set old.announced m 0 ∙ reached.sized.announced;
          found = long ∙ reached.sized.found;
          lo = reached.sized.lo;
          base = reached.sized.base;
          prev = reached.sized.prev;
          end = reached.sized.end;
          stage = reached.sized.stage;
        })
        reached.small

-- a member keeps what it loaded of another
module _ (old a : Aggregator) (is : old ≡ a) (reached : IsReached old) (m q : ℕ) (may : May a (Scan m q)) where
  in_found : m * old.members + q < length old.found
  in_found =
      let members : a.members ≡ old.members = ap (λ (x : Aggregator). x.members) (sym is) in
      let m_in : m < a.members = may.0 in
      let q_in : q < a.members = may.1.0 in
      omega (arith, place_below old.members m q (omega (arith, m_in, members)) (omega (arith, q_in, members)), reached.sized.found)

  pub scans : (word : ℕ) → word ≡ (state_of a).announced q → Goes a (record old { found = set old.found (m * old.members + q) (Some word) }) (Scan m q)
  scans word loaded =
      let q_in : q < a.members = may.1.0 in
      let q_old : q < old.members = omega (arith, q_in, ap (λ (x : Aggregator). x.members) (sym is)) in
      goes old a is reached (Scan m q) may (record old { found = set old.found (m * old.members + q) (Some word) })
      (ap (λ (f : ℕ → ℕ → Option ℕ). record (state_of old) { found = f }) (found_set old.members old.found m q (Some word) q_old in_found)
      ∙ ap (λ (x : Aggregator). record (state_of x) { found = put (state_of x).found m (put ((state_of x).found m) q (Some word)) }) is
      ∙ ap (λ w. record (state_of a) { found = put (state_of a).found m (put ((state_of a).found m) q (Some w)) }) loaded)
      refl refl
      (record {
        announced = reached.sized.announced;
        found = length-set old.found (m * old.members + q) (Some word) ∙ reached.sized.found;
        lo = reached.sized.lo;
        base = reached.sized.base;
        prev = reached.sized.prev;
        end = reached.sized.end;
        stage = reached.sized.stage;
      })
      reached.small

-- a list of equal items as a function
replicate_at : {A : Type 0} (n : ℕ) (a : A) (i : ℕ) → at_or a (replicate n a) i ≡ a
replicate_at zero a i = refl
replicate_at (suc n) a zero = refl
replicate_at (suc n) a (suc i) = replicate_at n a i

same_at : {A : Type 0} (xs : List A) (n : ℕ) (a : A) → xs ≡ replicate n a → at_or a xs ≡ (λ i. a)
same_at xs n a is = ap (at_or a) is ∙ fun_ext (λ i. replicate_at n a i)

none_found : (members : ℕ) (xs : List (Option ℕ)) (n : ℕ) → xs ≡ replicate n None → found_in members xs ≡ (λ m q. None)
unfolding found_in
none_found members xs n is = fun_ext (λ m. fun_ext (λ q. ap (λ x. if nat_lt q members then x else None) (ap (λ ys. get_or ys (m * members + q) None) is ∙ replicate_at n None (m * members + q)) ∙ either None (nat_lt q members)))
  where
    either : (x : Option ℕ) (t : Bool) → (if t then x else x) ≡ x
    either x true = refl
    either x false = refl

-- a value whose lists are all equal items
module _ (a : Aggregator) (sizes : (1 ≤ a.members) × (a.members ≤ 64) × (1 ≤ a.rows) × (a.rows ≤ 8)) (total : a.total ≡ 0) (done : a.done ≡ 0) (last : a.last ≡ 0)
    (announced : a.announced ≡ replicate a.members 0) (lo : a.lo ≡ replicate (a.members * a.rows) 0) (base : a.base ≡ replicate (a.members * a.rows) 0)
    (prev : a.prev ≡ replicate (a.members * a.rows) 0) (end : a.end ≡ replicate (a.members * a.rows) 0)
    (stage : a.stage ≡ replicate a.members Out) (found : a.found ≡ replicate (a.members * a.members) None) where
  is_start : state_of a ≡ start
  is_start = λ i. record {
    total = total i;
    done = done i;
    last = last i;
    announced = same_at a.announced a.members 0 announced i;
    lo = same_at a.lo (a.members * a.rows) 0 lo i;
    base = same_at a.base (a.members * a.rows) 0 base i;
    prev = same_at a.prev (a.members * a.rows) 0 prev i;
    end = same_at a.end (a.members * a.rows) 0 end i;
    stage = same_at a.stage a.members Out stage i;
    found = none_found a.members a.found (a.members * a.members) found i;
  }

  pub starts : Starts a a.members a.rows
  starts = record { state = is_start; members = refl; rows = refl }

  pub start_reached : IsReached a
  start_reached = record {
    sized = record {
      announced = ap length announced ∙ length-replicate a.members 0;
      found = ap length found ∙ length-replicate (a.members * a.members) None;
      stage = ap length stage ∙ length-replicate a.members Out;
      lo = ap length lo ∙ length-replicate (a.members * a.rows) 0;
      base = ap length base ∙ length-replicate (a.members * a.rows) 0;
      prev = ap length prev ∙ length-replicate (a.members * a.rows) 0;
      end = ap length end ∙ length-replicate (a.members * a.rows) 0;
    };
    some_member = sizes.0;
    few_members = sizes.1;
    some_row = sizes.2;
    few_rows = sizes.3;
    small = omega (arith, total);
    steps = [];
    allowed = tt;
    state = sym is_start;
  }
