-- The rows of a level that a beginning tries, up to the first open one.
use Rattle.std.proofs.Common.{◌≡◌, ◌≢◌, ℕ, suc, ◌+◌, ◌-◌, ◌<◌, ◌≤◌, Bool, true, List, [], ◌∷◌, ◌++◌, Option, Some, None, is_none, is_some, map, option_map, refl, sym, ap, subst, ◌∙◌, arith}
use Rattle.std.specs.Prelude.{Ok, Err}
use Rattle.std.specs.List.{range_with_len}
use Rattle.fn_model.specs.declared.Kind.{Kind}
use Rattle.fn_layout.specs.declared.shape.Shape.{Shape}
use Rattle.fn_core.specs.declared.Start.{Start}
use Rattle.fn_core.specs.declared.answer.Blocked.{Blocked}
use Rattle.fn_core.specs.Calls.{IsLegal}
use Rattle.fn_core.specs.Begin.{blocker_by, scanned_by}
use Rattle.fn_core.proofs.Public.{range_step, range_end, any_found}
use Rattle.fn_rows.specs.Machine.{put}
use Rattle.fn_rows.proofs.Public.{put_here}
use Rattle.fn_table.specs.Seen.{PassView, own_of}
use Rattle.fn_climb.specs.Begin.{Taken, Takes, scan_taken, blocked_load, IsStill, IsOpen, RowTried, LevelTried}
use Rattle.fn_climb.proofs.Scans.{takes_on, still_on, still_none}
use Rattle.fn_climb.proofs.Along.{Along, along_start, along_past, along_stop, along_through}

none_told : {A B : Type 0} (f : A → B) (o : Option A) → None ≡ option_map f o → o ≡ None
none_told f None is = refl
none_told f (Some x) is = cc (is)

some_told : {A B : Type 0} (f : A → B) (b : B) (o : Option A) → Some b ≡ option_map f o → (x : A) × (o ≡ Some x) × (b ≡ f x)
some_told f b None is = cc (is)
some_told f b (Some x) is = let same : b ≡ f x = cc (is) in (x, refl, same)

module _ (p : PassView) (kind : Kind) (level : ℕ) where
  abbrev shape : Shape
  shape = p.seen.start.shape

  abbrev ends : ℕ → ℕ
  ends n = (own_of p).ends kind level n

  abbrev out_row : (ℕ → ℕ) → ℕ → List Taken
  out_row words n = map (scan_taken kind level words) (scanned_by shape level p.number words (ends n))

  abbrev blocker_of : (ℕ → ℕ) → ℕ → Option ℕ
  blocker_of words n = blocker_by shape level p.number words (ends n)

  abbrev opens : (ℕ → ℕ) → ℕ → Bool
  opens words n = is_none (blocker_of words n)

  -- a row that was tried, by what the pass was before the first
  pub record RowAt (q : PassView) (n : ℕ) (blocked : Option Blocked) (r : PassView) : Type 0 where
    pub words : ℕ → ℕ
    pub takes : Takes q (out_row words n) r
    pub told : blocked ≡ option_map (blocked_load level n words) (blocker_of words n)
    pub free : blocked ≡ None → IsOpen shape p.number (own_of r) kind level n

  row_at : (q : PassView) (n : ℕ) (blocked : Option Blocked) (r : PassView) → IsStill p q → RowTried q kind level n blocked r → RowAt q n blocked r
  row_at q n blocked r still tried = record {
    words = tried.words;
    takes = subst (λ (z : Start × ℕ × ℕ). Takes q (map (scan_taken kind level tried.words) (scanned_by z.0.shape level z.1 tried.words z.2)) r) (λ i. (still.later.start i, still.later.number i, ap (λ (f : Kind → ℕ → ℕ → ℕ). f kind level n) still.ends i)) tried.takes;
    told = subst (λ (z : Start × ℕ × ℕ). blocked ≡ option_map (blocked_load level n tried.words) (blocker_by z.0.shape level z.1 tried.words z.2)) (λ i. (still.later.start i, still.later.number i, ap (λ (f : Kind → ℕ → ℕ → ℕ). f kind level n) still.ends i)) tried.told;
    free = λ none. subst (λ (z : Start × ℕ). IsOpen z.0.shape z.1 (own_of r) kind level n) (λ i. (still.later.start i, still.later.number i)) (tried.free none);
  }

  -- The rows below i were tried, and none is open; the last load that blocked one is this
  pub record LevelSoFar (i : ℕ) (last : Blocked) (q : PassView) : Type 0 where
    pub ts : List Taken
    pub takes : Takes p ts q
    pub along : Along out_row opens i (range_with_len i (shape.rows - i)) (range_with_len 0 shape.rows) ts
    pub still : IsStill p q
    pub apart : (l : ℕ) → l ≢ level → (own_of q).found kind l ≡ (own_of p).found kind l
    pub last_is : (k : ℕ) → suc k ≡ i → (other : ℕ) × (blocker_of (along.w k) k ≡ Some other) × (last ≡ blocked_load level k (along.w k) other)

  pub level_start : (last : Blocked) → IsLegal p.seen → LevelSoFar 0 last p
  level_start last legal = record {
    ts = [];
    takes = refl;
    along = let all : shape.rows ≡ shape.rows - 0 = omega arith in
        subst (λ (k : ℕ). Along out_row opens 0 (range_with_len 0 k) (range_with_len 0 shape.rows) []) all (along_start out_row opens (λ x y. 0) 0 (range_with_len 0 shape.rows));
    still = still_none p legal;
    apart = λ l other. refl;
    last_is = λ k e. absurd (omega (arith, e));
  }

  module _ (i : ℕ) (last : Blocked) (q : PassView) (so : LevelSoFar i last q) (less : i < shape.rows) (r : PassView) where
    rest_is : range_with_len i (shape.rows - i) ≡ i ∷ range_with_len (i + 1) (shape.rows - (i + 1))
    rest_is = range_step i shape.rows less

    now_apart : (blocked : Option Blocked) → RowTried q kind level i blocked r → (l : ℕ) → l ≢ level → (own_of r).found kind l ≡ (own_of p).found kind l
    now_apart blocked tried l other = tried.apart l other ∙ so.apart l other

    pub level_more : (blocked : Blocked) → RowTried q kind level i (Some blocked) r → LevelSoFar (i + 1) blocked r
    level_more blocked tried =
        let row = row_at q i (Some blocked) r so.still tried in
        let some_one = some_told (blocked_load level i row.words) blocked (blocker_of row.words i) row.told in record {
          ts = so.ts ++ out_row row.words i;
          takes = takes_on p q r so.ts (out_row row.words i) so.takes row.takes;
          along = along_past out_row opens i (range_with_len i (shape.rows - i)) (range_with_len (i + 1) (shape.rows - (i + 1))) (range_with_len 0 shape.rows) so.ts so.along rest_is row.words (ap is_none some_one.1);
          still = still_on p q r so.still tried.still;
          apart = now_apart (Some blocked) tried;
          last_is = λ k e.
              let same : k ≡ i = omega (arith, e) in
              let w : put so.along.w i row.words k ≡ row.words = put_here so.along.w i row.words k same in
              (some_one.0, ap (λ (x : ℕ → ℕ). blocker_of x k) w ∙ ap (blocker_of row.words) same ∙ some_one.1, some_one.2 ∙ (λ j. blocked_load level (sym same j) (sym w j) some_one.0));
        }

    pub level_stop : RowTried q kind level i None r → LevelTried p kind level (Ok i) r
    level_stop tried =
        let row = row_at q i None r so.still tried in
        let open_row : opens row.words i ≡ true = ap is_none (none_told (blocked_load level i row.words) (blocker_of row.words i) row.told) in
        let done = along_stop out_row opens i (range_with_len i (shape.rows - i)) (range_with_len (i + 1) (shape.rows - (i + 1))) (range_with_len 0 shape.rows) so.ts so.along rest_is row.words open_row in record {
          words = done.0;
          takes = subst (λ (us : List Taken). Takes p us r) (sym done.2) (takes_on p q r so.ts (out_row row.words i) so.takes row.takes);
          told = (done.3, less, row.free refl);
          still = still_on p q r so.still tried.still;
          apart = now_apart None tried;
        }

  pub level_through : (i : ℕ) (last : Blocked) (q : PassView) → LevelSoFar i last q → shape.rows ≤ i → i ≤ shape.rows → LevelTried p kind level (Err last) q
  level_through i last q so more no_more =
      let done = along_through out_row opens i (range_with_len i (shape.rows - i)) (range_with_len 0 shape.rows) so.ts so.along (range_end i shape.rows more) in
      let low : 1 ≤ shape.rows = shape.rows_in_range.0 in record {
        words = so.along.w;
        takes = subst (λ (us : List Taken). Takes p us q) (sym done.0) so.takes;
        told = (any_found (λ n. opens (so.along.w n) n) (range_with_len 0 shape.rows) ∙ ap is_some done.1, so.last_is (shape.rows - 1) (omega (arith, more, no_more, low)));
        still = so.still;
        apart = so.apart;
      }
