-- From the passes that open to what their workers hand in.
use Rattle.std.proofs.Common.{◌≡◌, ◌-◌, ◌+◌, ◌*◌, ◌<◌, ℕ, zero, suc, List, [], ◌∷◌, length, map, get_or, slice_get, Some, Result, Ok, refl, sym, ap, ◌∙◌, subst, arith, All}
use Rattle.std.proofs.lemmas.List.{length-map, map-id, get_or-map, get_or-replicate}
use Rattle.std.proofs.lemmas.List.Elements.{All-map}
use Rattle.std.proofs.lemmas.Option.{none-some, same_Some}
use Rattle.std.specs.List.{AllZip, flat_map}
use denote.Ref.{Bor}
use denote.Param.Members.{Shared}
use Rattle.running.specs.Running.{numbers_from, upto}
use Rattle.fn_core.specs.State.{State, history_in}
use Rattle.fn_core.specs.State as first
use Rattle.fn_table.specs.Seen.{TableView, PassView, IsOf, IsWhole, AreAll, fresh}
use Rattle.fn_table.proofs.Glances.{glances_run}
use Rattle.fn_table.specs.Claims.{past, Rests}
use Rattle.fn_spread.specs.declared.memory.NoMemory.{NoMemory}
use Rattle.fn_spread.specs.declared.parts.Part.{Part}
use Rattle.fn_spread.specs.declared.parts.Worked.{Worked}
use Rattle.fn_spread.specs.Ranges.{ranges_of}
use Rattle.fn_spread.specs.Account.{IsFunnelFor}
use Rattle.fn_spread.specs.Worked.{OpensFor, MayDraw, IsPart, HasWorked, HandsIn, AreWorked, IsGathered}
use Rattle.fn_spread.proofs.Numbers.{length_numbers}
use Rattle.fn_spread.proofs.Zips.{zip_all, zip_same, zip_made, zip_from_made, all_parts}
use Rattle.fn_spread.proofs.Draws.{has_drawn}

-- a new pass has seen no call
pub nothing_seen : (table : TableView) (number : ℕ) → past (fresh table number) ≡ []
nothing_seen table number = ap (λ (s : State). history_in table.start s) (glances_run table.start (first.opened table.start) (table.start.shape.passes - 1))

pub number_at : (from n k : ℕ) → k < n → (d : ℕ) → get_or (numbers_from from n) k d ≡ from + k
number_at from zero k below d = absurd (omega arith)
number_at from (suc n) zero below d = omega arith
number_at from (suc n) (suc k) below d = let e = number_at (suc from) n k (omega arith) d in omega (arith, e)

pub number_got : (from n k x : ℕ) → slice_get (numbers_from from n) k ≡ Some x → x ≡ from + k
number_got from zero k x at = absurd (none-some x at)
number_got from (suc n) zero x at = let same = same_Some from x at in omega (arith, same)
number_got from (suc n) (suc k) x at = let e = number_got (suc from) n k x at in omega (arith, e)

module _ {workers grain count : ℕ} {table : TableView} {passes : List PassView} (opens : OpensFor workers grain count table passes) where
  pub new_passes : passes ≡ map (fresh table) (upto workers)
  new_passes = opens.opened.fresh ∙ ap (λ n. map (fresh table) (upto n)) opens.start.has_shape.0

  length_passes : length passes ≡ workers
  length_passes = ap length new_passes ∙ length-map (upto workers) (fresh table) ∙ length_numbers 0 workers

  pass_at : (i : ℕ) (d : PassView) → i < workers → get_or passes i d ≡ fresh table i
  pass_at i d below =
      let at = number_at 0 workers i below 0 in
      let same : get_or (upto workers) i 0 ≡ i = omega (arith, at) in
      ap (λ ps. get_or ps i d) new_passes ∙ get_or-map (fresh table) (upto workers) i 0 d (omega (arith, below, length_numbers 0 workers)) ∙ ap (fresh table) same

  -- each new pass may draw
  pub may_draw : All (MayDraw grain count table) passes
  may_draw i d within =
      let below : i < workers = omega (arith, within, length_passes) in
      let at : get_or passes i d ≡ fresh table i = pass_at i d below in
      let whole : IsWhole (fresh table i) = subst IsWhole at (opens.opened.idle i d within) in
      let has : get_or table.start.allowances i 0 ≡ suc (ranges_of grain count) * grain = ap (λ ns. get_or ns i 0) opens.start.has_allowances ∙ get_or-replicate workers i (suc (ranges_of grain count) * grain) 0 below in
      subst (MayDraw grain count table) (sym at) (record { together = (refl, refl); rests = whole.0; enough = whole.1 ∙ has })

-- All workers have handed in, each of which began with its new pass
pub record AreDone {F T R : Type 0} (g : Shared F (Bor T × Unit {0}) R) (f : F) (workers grain : ℕ) (items : List T) (table : TableView) (passes : List PassView) (draws : List ℕ) (parts : List (Part R)) : Type 0 where
  pub start : IsFunnelFor workers grain (length items) table.start
  pub all : List (Worked R)
  pub each : AllZip (λ worker one. HasWorked g f grain items table (fresh table worker) one) (upto workers) all
  pub passes_are : passes ≡ map (λ one. one.pass) all
  pub draws_are : draws ≡ map (λ one. one.draws) all
  pub parts_are : parts ≡ flat_map (λ one. one.parts.items) all

module _ {F T R : Type 0} {g : Shared F (Bor T × Unit {0}) R} {f : F} {workers grain : ℕ} {items : List T} {table : TableView} where
  pub done : {new passes : List PassView} {given : List (Result (Worked R) NoMemory)} {draws : List ℕ} {parts : List (Part R)}
      → OpensFor workers grain (length items) table new → AreWorked g f grain items table new given → IsGathered given passes draws parts → AreDone g f workers grain items table passes draws parts
  done {new = new} {given = given} opens worked gathered = record {
    start = opens.start;
    all = gathered.all;
    each = zip_from_made (λ pass one. HasWorked g f grain items table pass one) (fresh table) (upto workers) gathered.all
        (zip_made (HandsIn g f grain items table) Ok (map (fresh table) (upto workers)) gathered.all
        (subst (λ ps. AllZip (HandsIn g f grain items table) ps (map Ok gathered.all)) (new_passes opens)
        (subst (λ rs. AllZip (HandsIn g f grain items table) new rs) gathered.whole worked.each)));
    passes_are = gathered.passes_are;
    draws_are = gathered.draws_are;
    parts_are = gathered.parts_are;
  }

  module _ {passes : List PassView} {draws : List ℕ} {parts : List (Part R)} (are : AreDone g f workers grain items table passes draws parts) where
    abbrev pub Works : ℕ → Worked R → Type 0
    Works worker one = HasWorked g f grain items table (fresh table worker) one

    of_all : (P : PassView → Type 0) → ((worker : ℕ) (one : Worked R) → Works worker one → P one.pass) → All P passes
    of_all P each = subst (All P) (sym are.passes_are) (All-map P (λ (one : Worked R). one.pass) are.all (zip_all Works (λ one. P one.pass) each (upto workers) are.all are.each))

    pub all_together : All (IsOf table) passes
    all_together = of_all (IsOf table) (λ worker one works. works.together)

    pub all_rest : All Rests passes
    all_rest = of_all Rests (λ worker one works. works.rests)

    -- the passes are all of the table's
    pub numbers_are : map (λ (p : PassView). p.number) passes ≡ upto workers
    numbers_are = ap (map (λ (p : PassView). p.number)) are.passes_are ∙ numbers are.all ∙ zip_same Works (λ n. n) (λ one. one.pass.number) own_number (upto workers) are.all are.each ∙ map-id (upto workers)
      where
        own_number : (worker : ℕ) (one : Worked R) → Works worker one → one.pass.number ≡ worker
        own_number worker one works = (has_drawn grain (fresh table worker) works.replies one.pass works.drew).number

        numbers : (ws : List (Worked R)) → map (λ (p : PassView). p.number) (map (λ (one : Worked R). one.pass) ws) ≡ map (λ (one : Worked R). one.pass.number) ws
        numbers [] = refl
        numbers (w ∷ ws) = ap (λ ns. w.pass.number ∷ ns) (numbers ws)

    pub are_all : AreAll table passes
    are_all = numbers_are ∙ ap upto (sym are.start.has_shape.0)

    -- each part has the results of its range
    pub all_sound : All (IsPart g f grain items) parts
    all_sound =
        subst (All (IsPart g f grain items)) (sym are.parts_are)
        (all_parts (IsPart g f grain items) (λ (one : Worked R). one.parts.items) are.all (zip_all Works (λ one. All (IsPart g f grain items) one.parts.items) (λ worker one works. works.parts) (upto workers) are.all are.each))
