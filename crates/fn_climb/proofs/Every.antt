-- The levels that a beginning tries, up to the first without an open row.
use Rattle.std.proofs.Common.{◌≡◌, inl, inr, ℕ, ◌+◌, ◌-◌, ◌<◌, ◌≤◌, Bool, false, List, [], ◌∷◌, ◌++◌, Option, Some, is_some, not, length, get_or, set, refl, sym, ap, subst, ◌∙◌, arith}
use Rattle.std.specs.Prelude.{Result, Ok, Err}
use Rattle.std.specs.List.{range_with_len}
use Rattle.std.proofs.lemmas.Bool.{cases_eq}
use Rattle.std.proofs.lemmas.List.{get_or-set_same, get_or-set_other, length-set}
use Rattle.fn_model.specs.declared.Kind.{Kind}
use Rattle.fn_rows.specs.Machine.{Lets, put}
use Rattle.fn_rows.proofs.Public.{put_here, put_there}
use Rattle.fn_layout.specs.declared.shape.Shape.{Shape}
use Rattle.fn_layout.specs.Tree.{member}
use Rattle.fn_core.specs.declared.Start.{Start}
use Rattle.fn_core.specs.declared.answer.Blocked.{Blocked}
use Rattle.fn_core.specs.Words.{Own}
use Rattle.fn_core.specs.Calls.{IsLegal}
use Rattle.fn_core.specs.Begin.{Finds, blocker_by, is_open_by, has_open_by}
use Rattle.fn_core.proofs.Public.{range_step, range_end, any_found}
use Rattle.fn_table.specs.Seen.{PassView, own_of}
use Rattle.fn_climb.specs.Begin.{Taken, Takes, level_takings, blocked_load, IsStill, IsOpen, IsLastLoad, first_open_by, LevelTold, LevelTried, RowsTried}
use Rattle.fn_climb.proofs.Scans.{takes_on, still_on, still_none}
use Rattle.fn_climb.proofs.Along.{Along, along_start, along_past, along_stop, along_through}

-- a row that is open stays so where nothing of it changes
pub open_still : (shape : Shape) (pass : ℕ) (o o' : Own) (kind : Kind) (level n : ℕ) → o'.ends ≡ o.ends → o'.found kind level ≡ o.found kind level → IsOpen shape pass o kind level n → IsOpen shape pass o' kind level n
open_still shape pass o o' kind level n ends found (inl never) = inl (ap (λ (f : Kind → ℕ → ℕ → ℕ). f kind level n) ends ∙ never)
open_still shape pass o o' kind level n ends found (inr each) = inr (λ q less other same.
    let old = each q less other same in
    (old.0, ap (λ (f : ℕ → Option ℕ). f (member shape level q)) found ∙ old.1, subst (Lets old.0) (sym (ap (λ (f : Kind → ℕ → ℕ → ℕ). f kind level n) ends)) old.2))

module _ (p : PassView) (kind : Kind) where
  abbrev shape : Shape
  shape = p.seen.start.shape

  abbrev finds_at : (ℕ → ℕ → ℕ) → ℕ → Finds
  finds_at words level = record { ends = (own_of p).ends kind level; words = words }

  abbrev out_level : (ℕ → ℕ → ℕ) → ℕ → List Taken
  out_level words level = level_takings shape kind p.number (finds_at words level) level

  abbrev is_full : (ℕ → ℕ → ℕ) → ℕ → Bool
  is_full words level = not (has_open_by shape level p.number (finds_at words level))

  abbrev pub levels_from : ℕ → List ℕ
  levels_from i = range_with_len i (shape.levels + 1 - i)

  -- The levels below i were tried, and each has an open row, which this list has
  pub record EverySoFar (i : ℕ) (rows : List ℕ) (q : PassView) : Type 0 where
    pub ts : List Taken
    pub takes : Takes p ts q
    pub along : Along out_level is_full i (levels_from i) (range_with_len 1 shape.levels) ts
    pub still : IsStill p q
    pub three : length rows ≡ 3
    pub each : (l : ℕ) → 1 ≤ l → l < i → (get_or rows (l - 1) 0 < shape.rows) × IsOpen shape p.number (own_of q) kind l (get_or rows (l - 1) 0) × (first_open_by shape l p.number (finds_at (along.w l) l) ≡ Some (get_or rows (l - 1) 0))

  pub every_start : (rows : List ℕ) → length rows ≡ 3 → IsLegal p.seen → EverySoFar 1 rows p
  every_start rows three legal = record {
    ts = [];
    takes = refl;
    along = let all : shape.levels ≡ shape.levels + 1 - 1 = omega arith in
        subst (λ (k : ℕ). Along out_level is_full 1 (range_with_len 1 k) (range_with_len 1 shape.levels) []) all (along_start out_level is_full (λ x y z. 0) 1 (range_with_len 1 shape.levels));
    still = still_none p legal;
    three = three;
    each = λ l low less. absurd (omega (arith, low, less));
  }

  module _ (i : ℕ) (rows : List ℕ) (q : PassView) (so : EverySoFar i rows q) (low : 1 ≤ i) (less : i < shape.levels + 1) (r : PassView) where
    rest_is : levels_from i ≡ i ∷ levels_from (i + 1)
    rest_is = range_step i (shape.levels + 1) less

    takes_at : (found : Result ℕ Blocked) (tried : LevelTried q kind i found r) → Takes q (out_level tried.words i) r
    takes_at found tried =
        subst (λ (z : Start × ℕ × (ℕ → ℕ)). Takes q (level_takings z.0.shape kind z.1 (record { ends = z.2; words = tried.words }) i) r) (λ j. (so.still.later.start j, so.still.later.number j, ap (λ (f : Kind → ℕ → ℕ → ℕ). f kind i) so.still.ends j)) tried.takes

    told_at : (found : Result ℕ Blocked) (tried : LevelTried q kind i found r) → LevelTold p kind i (finds_at tried.words i) r found
    told_at (Ok row) tried =
        subst (λ (z : Start × ℕ × (ℕ → ℕ)). (first_open_by z.0.shape i z.1 (record { ends = z.2; words = tried.words }) ≡ Some row) × (row < z.0.shape.rows) × IsOpen z.0.shape z.1 (own_of r) kind i row)
        (λ j. (so.still.later.start j, so.still.later.number j, ap (λ (f : Kind → ℕ → ℕ → ℕ). f kind i) so.still.ends j)) tried.told
    told_at (Err at) tried =
        subst (λ (z : Start × ℕ × (ℕ → ℕ)). (has_open_by z.0.shape i z.1 (record { ends = z.2; words = tried.words }) ≡ false)
        × ((other : ℕ) × (blocker_by z.0.shape i z.1 (tried.words (z.0.shape.rows - 1)) (z.2 (z.0.shape.rows - 1)) ≡ Some other) × (at ≡ blocked_load i (z.0.shape.rows - 1) (tried.words (z.0.shape.rows - 1)) other)))
        (λ j. (so.still.later.start j, so.still.later.number j, ap (λ (f : Kind → ℕ → ℕ → ℕ). f kind i) so.still.ends j)) tried.told

    pub every_more : (row : ℕ) → LevelTried q kind i (Ok row) r → EverySoFar (i + 1) (set rows (i - 1) row) r
    every_more row tried =
        let told = told_at (Ok row) tried in
        let place : i - 1 < length rows = omega (arith, so.three, low, less, shape.levels_in_range) in record {
          ts = so.ts ++ out_level tried.words i;
          takes = takes_on p q r so.ts (out_level tried.words i) so.takes (takes_at (Ok row) tried);
          along = along_past out_level is_full i (levels_from i) (levels_from (i + 1)) (range_with_len 1 shape.levels) so.ts so.along rest_is tried.words (ap not (any_found (is_open_by shape i p.number (finds_at tried.words i)) (range_with_len 0 shape.rows) ∙ ap is_some told.0));
          still = still_on p q r so.still tried.still;
          three = length-set rows (i - 1) row ∙ so.three;
          each = λ l first below. elim (cases_eq l i) [
            | inl same ↦
                let here : get_or (set rows (i - 1) row) (l - 1) 0 ≡ row = ap (λ (x : ℕ). get_or (set rows (i - 1) row) (x - 1) 0) same ∙ get_or-set_same rows (i - 1) row 0 place in
                let w : put so.along.w i tried.words l ≡ tried.words = put_here so.along.w i tried.words l same in
                let row_here : (z : ℕ × ℕ) → (z ≡ (i, row)) → (z.1 < shape.rows) × IsOpen shape p.number (own_of r) kind z.0 z.1 = λ z e. subst (λ (z : ℕ × ℕ). (z.1 < shape.rows) × IsOpen shape p.number (own_of r) kind z.0 z.1) (sym e) (told.1, told.2) in
                let both = row_here (l, get_or (set rows (i - 1) row) (l - 1) 0) (λ j. (same j, here j)) in
                let first_here = subst (λ (z : (ℕ → ℕ → ℕ) × ℕ × ℕ). first_open_by shape z.1 p.number (finds_at z.0 z.1) ≡ Some z.2) (λ j. (sym w j, sym same j, sym here j)) told.0 in
                (both.0, both.1, first_here)
            | inr other ↦
                let old = so.each l first (omega (arith, below, other)) in
                let here : get_or (set rows (i - 1) row) (l - 1) 0 ≡ get_or rows (l - 1) 0 = get_or-set_other rows (i - 1) (l - 1) row 0 (λ e. other (omega (arith, e, low, first))) in
                let w : put so.along.w i tried.words l ≡ so.along.w l = put_there so.along.w i tried.words l other in
                let both = subst (λ (x : ℕ). (x < shape.rows) × IsOpen shape p.number (own_of r) kind l x) (sym here) (old.0, open_still shape p.number (own_of q) (own_of r) kind l (get_or rows (l - 1) 0) tried.still.ends (tried.apart l other) old.1) in
                let first_before = subst (λ (z : (ℕ → ℕ → ℕ) × ℕ). first_open_by shape l p.number (finds_at z.0 l) ≡ Some z.1) (λ j. (sym w j, sym here j)) old.2 in
                (both.0, both.1, first_before)
          ];
        }

    pub every_stop : (at : Blocked) → LevelTried q kind i (Err at) r → RowsTried p kind (Err at) r
    every_stop at tried =
        let told = told_at (Err at) tried in
        let done = along_stop out_level is_full i (levels_from i) (levels_from (i + 1)) (range_with_len 1 shape.levels) so.ts so.along rest_is tried.words (ap not told.0) in record {
          words = done.0;
          takes = subst (λ (us : List Taken). Takes p us r) (sym done.2) (takes_on p q r so.ts (out_level tried.words i) so.takes (takes_at (Err at) tried));
          told = (i, done.3, subst (λ (w : ℕ → ℕ → ℕ). IsLastLoad p (finds_at w i) i at) (sym done.1) told.1);
          still = still_on p q r so.still tried.still;
        }

  pub every_through : (i : ℕ) (rows : List ℕ) (q : PassView) → EverySoFar i rows q → shape.levels + 1 ≤ i → RowsTried p kind (Ok rows) q
  every_through i rows q so last =
      let done = along_through out_level is_full i (levels_from i) (range_with_len 1 shape.levels) so.ts so.along (range_end i (shape.levels + 1) last) in record {
        words = so.along.w;
        takes = subst (λ (us : List Taken). Takes p us q) (sym done.0) so.takes;
        told = (
          done.1,
          (λ level inside. let row = so.each level inside.0 (omega (arith, inside.1, last)) in (row.0, row.1)),
          (λ level inside. let row = so.each level inside.0 (omega (arith, inside.1, last)) in row.2),
        );
        still = so.still;
      }
