-- A beginning takes the steps that its order tells by what its scans found, and is refused where each row of a level is blocked.
use Rattle.std.proofs.Common.{◌≡◌, ◌≢◌, inl, inr, ℕ, zero, suc, ◌-◌, ◌<◌, ◌≤◌, Bool, true, false, List, [], ◌∷◌, ◌++◌, Option, Some, None, is_none, is_some, not, map, length, refl, sym, ap, subst, ◌∙◌, arith}
use Rattle.std.specs.Prelude.{if◌then◌else◌, Ok, Err}
use Rattle.std.specs.List.{range_with_len, find, flat_map}
use Rattle.std.proofs.lemmas.Bool.{cases_lt, eq-eqb, ne_eqb, false≢true}
use Rattle.std.proofs.lemmas.List.{map-append, append-nil, length-map}
use Rattle.fn_model.specs.declared.Kind.{Kind}
use Rattle.fn_layout.specs.declared.shape.Shape.{Shape}
use Rattle.fn_core.specs.declared.Move.{Move}
use Rattle.fn_core.specs.declared.Move.TheVariants.{Scan}
use Rattle.fn_core.specs.declared.answer.Blocked.{Blocked}
use Rattle.fn_core.specs.Order.{lets}
use Rattle.fn_core.specs.Begin.{Finds, up_to, others, blocks_by, blocker_by, scanned_by, is_open_by, rows_tried_by, has_open_by, row_scans_by, level_scans_by, is_full_by, full_level_by, scans_by, first_steps, begin_moves_by}
use Rattle.fn_core.proofs.Public.{Has, EndsIn, IsFound, found_is, none_found, all_reached, has_range, from_range, has_map, has_flat_map, contains, range_ends, map_ends, flat_map_ends, other_is, begin_short, any_found, holds_lets, not_true}
use Rattle.fn_table.specs.Seen.{PassView, own_of}
use Rattle.fn_model.specs.declared.Call.{Call}
use Rattle.fn_core.specs.State.{Caller}
use Rattle.fn_core.specs.Calls.{IsIdle}
use Rattle.fn_table.specs.Later.{IsLater}
use Rattle.fn_climb.specs.Begin.{EndsAtLeaf, AreFirstOpen, HasBegun, Taken, Takes, scan_taken, row_takings, level_takings, scan_takings, finds_of, first_takings, IsLastLoad, RowsTried, Arrived, IsBeginning, IsHeld, IsRefused}
use Rattle.fn_table.proofs.Later.{later_on}
use Rattle.fn_climb.proofs.Scans.{takes_on, idle_still}

map-flat_map : {A B C : Type 0} (f : B → C) (g : A → List B) (xs : List A) → map f (flat_map g xs) ≡ flat_map (λ x. map f (g x)) xs
map-flat_map f g [] = refl
map-flat_map f g (x ∷ xs) = map-append f (g x) (flat_map g xs) ∙ ap (λ ys. map f (g x) ++ ys) (map-flat_map f g xs)

map-map : {A B C : Type 0} (f : B → C) (g : A → B) (xs : List A) → map f (map g xs) ≡ map (λ x. f (g x)) xs
map-map f g [] = refl
map-map f g (x ∷ xs) = ap (λ ys. f (g x) ∷ ys) (map-map f g xs)

flat_map-same : {A B : Type 0} (g h : A → List B) (xs : List A) → ((x : A) → g x ≡ h x) → flat_map g xs ≡ flat_map h xs
flat_map-same g h [] same = refl
flat_map-same g h (x ∷ xs) same = (λ i. same x i ++ flat_map-same g h xs same i)

abbrev step_of : Taken → Move
step_of t = t.step

module _ (shape : Shape) (kind : Kind) (pass : ℕ) (finds : ℕ → Finds) where
  row_steps : (level n : ℕ) → map step_of (row_takings shape kind level pass (finds level) n) ≡ row_scans_by shape kind level pass (finds level) n
  row_steps level n = map-map step_of (scan_taken kind level ((finds level).words n)) (scanned_by shape level pass ((finds level).words n) ((finds level).ends n))

  level_steps : (level : ℕ) → map step_of (level_takings shape kind pass (finds level) level) ≡ level_scans_by shape kind pass (finds level) level
  level_steps level =
      map-flat_map step_of (row_takings shape kind level pass (finds level)) (rows_tried_by shape level pass (finds level))
      ∙ flat_map-same (λ n. map step_of (row_takings shape kind level pass (finds level) n)) (row_scans_by shape kind level pass (finds level)) (rows_tried_by shape level pass (finds level)) (row_steps level)

  -- the scans are those of the order
  pub scan_steps : map step_of (scan_takings shape kind pass finds) ≡ scans_by shape kind pass finds
  scan_steps =
      let levels : List ℕ = up_to (is_full_by shape pass finds) (range_with_len 1 shape.levels) in
      map-flat_map step_of (λ level. level_takings shape kind pass (finds level) level) levels
      ∙ flat_map-same (λ level. map step_of (level_takings shape kind pass (finds level) level)) (λ level. level_scans_by shape kind pass (finds level) level) levels level_steps

none_open : {A : Type 0} (o : Option A) → is_some o ≡ false → o ≡ None
none_open None is = refl
none_open (Some x) is = absurd (false≢true (sym is))

some_blocks : {A : Type 0} (o : Option A) → is_none o ≡ false → (x : A) × (o ≡ Some x)
some_blocks None is = absurd (false≢true (sym is))
some_blocks (Some x) is = (x, refl)

-- a word that blocks a row announces a number below the row's end
announces : (word end : ℕ) → not (lets (Some word) end) ≡ true → (word ≡ suc (word - 1)) × (word - 1 < end)
announces zero end is = absurd (false≢true is)
announces (suc n) end is = elim (cases_lt end (suc n)) [
  | inl lt ↦ absurd (false≢true (sym (ap not (holds_lets (suc n) end (inr lt))) ∙ is))
  | inr le ↦ (omega arith, omega (arith, le))
]

module _ (p : PassView) (kind : Kind) (words : ℕ → ℕ → ℕ → ℕ) (level : ℕ) (full : full_level_by p.seen.start.shape p.number (finds_of p kind words) ≡ Some level) where
  abbrev shape : Shape
  shape = p.seen.start.shape

  abbrev finds : Finds
  finds = finds_of p kind words level

  abbrev all : List ℕ
  all = range_with_len 0 shape.rows

  abbrev opens : ℕ → Bool
  opens n = is_open_by shape level p.number finds n

  abbrev takings : List Taken
  takings = scan_takings shape kind p.number (finds_of p kind words)

  level_found : IsFound (is_full_by shape p.number (finds_of p kind words)) (range_with_len 1 shape.levels) level
  level_found = found_is (is_full_by shape p.number (finds_of p kind words)) (range_with_len 1 shape.levels) level full

  nobody : find opens all ≡ None
  nobody = none_open (find opens all) (sym (any_found opens all) ∙ not_true (has_open_by shape level p.number finds) level_found.holds)

  row_tried : (n : ℕ) → n < shape.rows → Has (rows_tried_by shape level p.number finds) n
  row_tried n lt = subst (λ (xs : List ℕ). Has xs n) (sym (all_reached opens all nobody)) (has_range 0 shape.rows n (omega arith) (omega (arith, lt)))

  row_blocked : (n : ℕ) → n < shape.rows → (q : ℕ) × (blocker_by shape level p.number (finds.words n) (finds.ends n) ≡ Some q)
  row_blocked n lt = some_blocks (blocker_by shape level p.number (finds.words n) (finds.ends n)) (none_found opens all n nobody (has_range 0 shape.rows n (omega arith) (omega (arith, lt))))

  -- who blocks a row was scanned last for it
  module _ (n : ℕ) (lt : n < shape.rows) (q : ℕ) (is : blocker_by shape level p.number (finds.words n) (finds.ends n) ≡ Some q) where
    filled : finds.ends n ≢ 0
    filled never = let none : None ≡ Some q = sym (ap (λ (b : Bool). if b then None else find (blocks_by (finds.words n) (finds.ends n)) (others shape level p.number)) (eq-eqb (finds.ends n) 0 never)) ∙ is in cc (none)

    found : IsFound (blocks_by (finds.words n) (finds.ends n)) (others shape level p.number) q
    found = found_is (blocks_by (finds.words n) (finds.ends n)) (others shape level p.number) q (sym (ap (λ (b : Bool). if b then None else find (blocks_by (finds.words n) (finds.ends n)) (others shape level p.number)) (ne_eqb (finds.ends n) 0 filled)) ∙ is)

    scanned_is : scanned_by shape level p.number (finds.words n) (finds.ends n) ≡ up_to (blocks_by (finds.words n) (finds.ends n)) (others shape level p.number)
    scanned_is = ap (λ (b : Bool). if b then [] else up_to (blocks_by (finds.words n) (finds.ends n)) (others shape level p.number)) (ne_eqb (finds.ends n) 0 filled)

    number : (finds.words n q ≡ suc (finds.words n q - 1)) × (finds.words n q - 1 < finds.ends n)
    number = announces (finds.words n q) (finds.ends n) found.holds

    among : Has takings (scan_taken kind level (finds.words n) q)
    among =
        has_flat_map (λ l. level_takings shape kind p.number (finds_of p kind words l) l) (up_to (is_full_by shape p.number (finds_of p kind words)) (range_with_len 1 shape.levels)) level (scan_taken kind level (finds.words n) q) level_found.reached
        (has_flat_map (row_takings shape kind level p.number finds) (rows_tried_by shape level p.number finds) n (scan_taken kind level (finds.words n) q) (row_tried n lt)
        (has_map (scan_taken kind level (finds.words n)) (scanned_by shape level p.number (finds.words n) (finds.ends n)) q (subst (λ (xs : List ℕ). Has xs q) (sym scanned_is) found.reached)))

    taken_is : scan_taken kind level (finds.words n) q ≡ record { step = Scan kind level q; number = suc (finds.words n q - 1) }
    taken_is = ap (λ (x : ℕ). let t : Taken = record { step = Scan kind level q; number = x } in t) number.0

    pub held_by : IsHeld p kind takings level n q (finds.words n q - 1)
    held_by = record { loaded = contains takings (record { step = Scan kind level q; number = suc (finds.words n q - 1) }) (subst (Has takings) taken_is among); another = (other_is p.seen.start p.number kind level q found.inside).1; below = number.1 }

    pub ends_with : suc n ≡ shape.rows → EndsIn takings (record { step = Scan kind level q; number = suc (finds.words n q - 1) })
    ends_with last = subst (EndsIn takings) taken_is
        (flat_map_ends (λ l. level_takings shape kind p.number (finds_of p kind words l) l) (up_to (is_full_by shape p.number (finds_of p kind words)) (range_with_len 1 shape.levels)) level (scan_taken kind level (finds.words n) q) level_found.last
        (flat_map_ends (row_takings shape kind level p.number finds) (rows_tried_by shape level p.number finds) n (scan_taken kind level (finds.words n) q)
        (subst (λ (xs : List ℕ). EndsIn xs n) (sym (all_reached opens all nobody)) (subst (λ (x : ℕ). EndsIn (range_with_len 0 x) n) last (range_ends 0 n n (omega arith))))
        (map_ends (scan_taken kind level (finds.words n)) (scanned_by shape level p.number (finds.words n) (finds.ends n)) q (subst (λ (xs : List ℕ). EndsIn xs q) (sym scanned_is) found.last))))

  pub refused_at : (at : Blocked) → IsLastLoad p finds level at → IsRefused p kind takings at
  refused_at at (other, is, same) =
      let inside = from_range 1 shape.levels level level_found.inside in
      let low : 1 ≤ shape.rows = shape.rows_in_range.0 in
      let last : ℕ = shape.rows - 1 in
      let within : last < shape.rows = omega (arith, low) in
      subst (IsRefused p kind takings) (sym same) (record {
        level = (inside.0, omega (arith, inside.1));
        each = λ n lt. let q = row_blocked n lt in (q.0, finds.words n q.0 - 1, held_by n lt q.0 q.1);
        row = (let e : suc last ≡ shape.rows = omega (arith, low) in e);
        held = held_by last within other is;
        last = ends_with last within other is (omega (arith, low));
      })

-- the steps of a beginning that ends so
module _ (p : PassView) (kind : Kind) (amount : ℕ) where
  -- in all, few steps
  abbrev begins : (words : ℕ → ℕ → ℕ → ℕ) (rest : List Taken) (r : PassView) → Takes p (scan_takings p.seen.start.shape kind p.number (finds_of p kind words) ++ rest) r → (later : IsLater p r)
      → map step_of rest ≡ (if is_none (full_level_by p.seen.start.shape p.number (finds_of p kind words)) then first_steps kind amount else []) → IsBeginning p kind amount (scan_takings p.seen.start.shape kind p.number (finds_of p kind words) ++ rest) r
  begins words rest r takes later steps =
      let finds : ℕ → Finds = finds_of p kind words in
      let all : List Taken = scan_takings p.seen.start.shape kind p.number finds ++ rest in
      let same : map step_of all ≡ begin_moves_by p.seen.start.shape p.number kind amount finds = map-append step_of (scan_takings p.seen.start.shape kind p.number finds) rest ∙ (λ i. scan_steps p.seen.start.shape kind p.number finds i ++ steps i) in record {
        takes = takes;
        words = words;
        steps = same;
        scans = (rest, refl);
        short = omega (arith, length-map all step_of, ap length same, begin_short p.seen.start.shape p.number kind finds amount);
        later = later;
      }

  pub begun_waiting : (rows : List ℕ) (q r : PassView) → RowsTried p kind (Ok rows) q → Arrived q kind amount r → (takings : List Taken) × (b : IsBeginning p kind amount takings r) × EndsAtLeaf kind amount takings × HasBegun p kind amount r × AreFirstOpen p (finds_of p kind b.words) rows
  begun_waiting rows q r tried arrived =
      let scans : List Taken = scan_takings p.seen.start.shape kind p.number (finds_of p kind tried.words) in
      let rest : List Taken = first_takings kind amount arrived.a arrived.b arrived.n in (
        scans ++ rest,
        begins tried.words rest r (takes_on p q r scans rest tried.takes arrived.takes) (later_on p q r tried.still.later arrived.later)
            (sym (ap (λ (o : Option ℕ). if is_none o then first_steps kind amount else []) tried.told.0)),
        (scans, arrived.a, arrived.b, arrived.n, refl),
        record {
          waits = arrived.begun.waits;
          last = arrived.begun.last ∙ (λ i. let call : Call = record { pass = tried.still.later.number i; number = (tried.still.caller i).made; kind = kind; amount = amount } in call);
          made = arrived.begun.made ∙ ap (λ (c : Caller). suc c.made) tried.still.caller;
          left = arrived.begun.left ∙ ap (λ (c : Caller). c.left) tried.still.caller;
        },
        tried.told.2,
      )

  pub begun_refused : (at : Blocked) (q : PassView) → IsIdle p.seen p.number → RowsTried p kind (Err at) q
      → (takings : List Taken) × IsBeginning p kind amount takings q × IsRefused p kind takings at × ((own_of q).caller ≡ (own_of p).caller) × IsIdle q.seen q.number
  begun_refused at q idle tried =
      let scans : List Taken = scan_takings p.seen.start.shape kind p.number (finds_of p kind tried.words) in (
        scans ++ [],
        begins tried.words [] q (subst (λ (ts : List Taken). Takes p ts q) (sym (append-nil scans)) tried.takes) tried.still.later
            (sym (ap (λ (o : Option ℕ). if is_none o then first_steps kind amount else []) tried.told.1)),
        subst (λ (ts : List Taken). IsRefused p kind ts at) (sym (append-nil scans)) (refused_at p kind tried.words tried.told.0 tried.told.1 at tried.told.2),
        tried.still.caller,
        idle_still p q tried.still idle,
      )
