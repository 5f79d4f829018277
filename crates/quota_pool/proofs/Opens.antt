-- A pool's tenants and desks as it opens.
use Rattle.std.proofs.Common.{◌≡◌, ◌≢◌, ◌+◌, ◌<◌, ◌≤◌, All, ℕ, zero, suc, ◌-◌, List, [], ◌∷◌, ◌++◌, map, set, take, drop, length, get_or, slice_get, Option, Some, None, refl, sym, ap, ◌∙◌, subst, arith, inl, inr, ◌⊎◌, Bool, true, false, Vec, sum, ◌^◌}
use Rattle.std.specs.Prelude.{nat_le, nat_lt, if◌then◌else◌, replicate}
use Rattle.std.proofs.lemmas.Bool.Decides.{nat_tests}
use Rattle.std.proofs.lemmas.List.Elements.{All-append}
use Rattle.std.proofs.lemmas.List.{map-append, length-map, get_or-map}
use Rattle.std.specs.declared.alloc.Global.{Global}
use Rattle.std.specs.Vec.{vec_capacity}
use Rattle.std.proofs.lemmas.Option.{slice_get-map, get_or_from_slice_get}
use Rattle.std.specs.Option.{option_map}
use Rattle.running.specs.Running.{numbers_from, upto}
use Rattle.running.proofs.Lists.{length_numbers}
use Rattle.fn_core.specs.declared.Start.{Start}
use Rattle.fn_core.specs.State.{State, history_in}
use Rattle.fn_core.specs.State as first
use Rattle.fn_core.specs.declared.answer.OpenFault.TheVariants as opens
use Rattle.fn_core.specs.Calls.{calls_in, newly_opened, open_fault}
use Rattle.fn_layout.specs.declared.shape.Shape.{Shape}
use Rattle.fn_table.specs.Seen.{TableView, PassView, IsOf, IsWhole, fresh, fresh_passes, AreOpened}
use Rattle.fn_table.specs.Claims.{Rests}
use Rattle.fn_table.proofs.Glances.{glances_run}
use Rattle.fn_layout.specs.Workers.{IsShapeFor}
use Rattle.fn_model.specs.declared.TheConstants.{NO_CAP}
use Rattle.quota_pool.specs.declared.faults.PoolFault.{PoolFault}
use Rattle.quota_pool.specs.declared.faults.PoolFault.TheVariants.{TooMuch, AboveCap}
use Rattle.quota_pool.specs.Faults.{too_much_from, above_cap_from, first_of_two, pool_fault}
use Rattle.quota_pool.specs.declared.closing.Closing.{Closing}
use Rattle.quota_pool.specs.Rooms.{HasPlace, HasPlaceFor, IsBare, Suits, contents, handed}
use Rattle.quota_pool.specs.Views.{PoolView, DeskView, Belongs}
use Rattle.quota_pool.specs.Opened.{fresh_desk, fresh_hand, seated, IsNew, IsOpen, AreOpen, IsOpened}
use Rattle.quota_pool.proofs.Closes.{all_more, found_at}
use Rattle.quota_pool.proofs.RoomSteps.{all_less}

-- the rooms of workers that get a new table's passes
pub handed_fresh : (tables : List TableView) (table : TableView) (from count : ℕ) → handed (map (fresh_hand tables) (numbers_from from count)) (map (fresh table) (numbers_from from count)) ≡ map (fresh_hand (tables ++ table ∷ [])) (numbers_from from count)
handed_fresh tables table from zero = refl
handed_fresh tables table from (suc count) =
    let here : fresh_hand tables from ++ fresh table from ∷ [] ≡ fresh_hand (tables ++ table ∷ []) from = sym (map-append (λ t. fresh t from) tables (table ∷ [])) in
    (λ i. here i ∷ handed_fresh tables table (suc from) count i)

-- bare rooms are those of workers without a table
bare_hands : (rooms : List (Vec PassView Global)) (places from : ℕ) → All (IsBare places) rooms → contents rooms ≡ map (fresh_hand []) (numbers_from from (length rooms))
bare_hands [] places from bare = refl
bare_hands (room ∷ rooms) places from bare =
    let none : room.items ≡ [] = (bare 0 room (omega arith)).0 in
    (λ i. none i ∷ bare_hands rooms places (suc from) (all_less (IsBare places) room rooms bare) i)

pub hands_bare : (rooms : List (Vec PassView Global)) (places workers : ℕ) → length rooms ≡ workers → All (IsBare places) rooms → contents rooms ≡ map (fresh_hand []) (upto workers)
hands_bare rooms places workers count bare = bare_hands rooms places 0 bare ∙ ap (λ n. map (fresh_hand []) (upto n)) count

-- they have place for so many passes
pub bare_places : (rooms : List (Vec PassView Global)) (places : ℕ) → All (IsBare places) rooms → All (HasPlaceFor places) rooms
bare_places rooms places bare k d within =
    let here = bare k d within in
    let none : length (get_or rooms k d).items ≡ 0 = ap length here.0 in
    let size : places ≤ vec_capacity (get_or rooms k d) = here.1 in
    omega (arith, none, size)

-- seated workers with such passes are the desks
seated_fresh : (tables : List TableView) (from count : ℕ) → seated from (map (fresh_hand tables) (numbers_from from count)) ≡ map (fresh_desk tables) (numbers_from from count)
seated_fresh tables from zero = refl
seated_fresh tables from (suc count) = ap (λ ds. fresh_desk tables from ∷ ds) (seated_fresh tables (suc from) count)

pub desks_fresh : (tables : List TableView) (workers : ℕ) (hands : List (List PassView)) (desks : List DeskView) → hands ≡ map (fresh_hand tables) (upto workers) → desks ≡ seated 0 hands → desks ≡ map (fresh_desk tables) (upto workers)
desks_fresh tables workers hands desks are sit = sit ∙ ap (λ hs. seated 0 hs) are ∙ seated_fresh tables 0 workers

-- a place of a list with one more element
pub got_more : {A : Type 0} (xs : List A) (x y : A) (i : ℕ) → slice_get (xs ++ x ∷ []) i ≡ Some y → (slice_get xs i ≡ Some y) ⊎ ((i ≡ length xs) × (x ≡ y))
got_more [] x y zero at = let same : Some x ≡ Some y = at in inr (refl, cc)
got_more [] x y (suc i) at = inl at
got_more (z ∷ xs) x y zero at = inl at
got_more (z ∷ xs) x y (suc i) at = elim (got_more xs x y i at) [ inl here ↦ inl here | inr (e, is) ↦ inr (ap suc e, is) ]

-- what holds of each number holds of a list of them
all_numbers : {A : Type 0} (P : A → Type 0) (f : ℕ → A) (from count : ℕ) → ((n : ℕ) → n < from + count → P (f n)) → All P (map f (numbers_from from count))
all_numbers P f from zero holds = λ k d within. absurd (omega arith)
all_numbers P f from (suc count) holds = all_more P (f from) (map f (numbers_from (suc from) count)) (holds from (omega arith)) (all_numbers P f (suc from) count (λ n below. holds n (omega arith)))

-- a new pass has seen no call
pub nothing_seen : (table : TableView) (number : ℕ) → calls_in (fresh table number).seen ≡ []
nothing_seen table number = ap (λ (s : State). history_in table.start s) (glances_run table.start (first.opened table.start) (table.start.shape.passes - 1))

-- what stands in a place of a list of numbers
number_at : {A : Type 0} (f : ℕ → A) (from count i : ℕ) (d : A) → i < count → get_or (map f (numbers_from from count)) i d ≡ f (from + i)
number_at f from zero i d below = absurd (omega arith)
number_at f from (suc count) zero d below = ap f (omega arith)
number_at f from (suc count) (suc i) d below = number_at f (suc from) count i d (omega arith) ∙ ap f (omega arith)

-- each pass of a table that opens is whole
fresh_whole : (table : TableView) (passes : List PassView) (worker : ℕ) → AreOpened table passes → worker < table.start.shape.passes → IsWhole (fresh table worker)
fresh_whole table passes worker opened below =
    let all : All IsWhole (fresh_passes table) = subst (λ ps. All IsWhole ps) opened.fresh opened.idle in
    let numbers = length-map (upto table.start.shape.passes) (fresh table) in
    subst IsWhole (number_at (fresh table) 0 table.start.shape.passes worker (fresh table 0) below ∙ ap (fresh table) (omega arith)) (all worker (fresh table 0) (omega (arith, below, numbers, length_numbers 0 table.start.shape.passes)))

-- a table that opens
pub opens_new : (workers opening cap : ℕ) (plan : List ℕ) (shape : Shape) (table : TableView) (passes : List PassView) → IsShapeFor workers shape → table.start ≡ (newly_opened shape opening cap plan).start → AreOpened table passes → IsOpen workers opening cap plan table
opens_new workers opening cap plan shape table passes is start opened = let passes_are : table.start.shape.passes ≡ workers = ap (λ (s : Start). s.shape.passes) start ∙ is.0 in record {
  opens = record { has_shape = subst (λ (s : Shape). IsShapeFor workers s) (sym (ap (λ (s : Start). s.shape) start)) is; has_opening = ap (λ (s : Start). s.opening) start; has_cap = ap (λ (s : Start). s.cap) start; has_plan = ap (λ (s : Start). s.allowances) start };
  new = λ worker below. let whole = fresh_whole table passes worker opened (omega (arith, below, passes_are)) in (whole.0, whole.1, nothing_seen table worker);
}

-- the desks of a pool that has just been opened are its own, and their passes are new
module _ (workers : ℕ) (openings caps : List ℕ) (plans : List (List ℕ)) (tables : List TableView) (opened : AreOpen workers openings caps plans tables) where
  abbrev pool : PoolView
  pool = record { workers = workers; tables = tables }

  new_at : (worker t : ℕ) (table : TableView) → worker < workers → slice_get tables t ≡ Some table → IsNew (fresh table worker)
  new_at worker t table below here = (opened.each t table here).new worker below

  pass_at : (worker t : ℕ) (table : TableView) (pass : PassView) → slice_get tables t ≡ Some table → slice_get (fresh_desk tables worker).passes t ≡ Some pass → fresh table worker ≡ pass
  pass_at worker t table pass here there =
      let same : Some (fresh table worker) ≡ Some pass = ap (λ o. option_map (λ table. fresh table worker) o) (sym here) ∙ sym (slice_get-map (λ table. fresh table worker) tables t) ∙ there in
      cc

  desk_belongs : (worker : ℕ) → worker < workers → Belongs pool (fresh_desk tables worker)
  desk_belongs worker below = record {
    tenants = length-map tables (λ table. fresh table worker);
    worker = below;
    each = λ t table pass here there.
        let Stands : PassView → Type 0 = λ p. IsOf table p × (p.number ≡ worker) × Rests p in
        let stands : Stands (fresh table worker) = ((refl, refl), refl, (new_at worker t table below here).0) in
        subst Stands (pass_at worker t table pass here there) stands;
  }

  desk_new : (worker : ℕ) → worker < workers → All IsNew (fresh_desk tables worker).passes
  desk_new worker below k d within =
      let found = found_at tables k (omega (arith, within, length-map tables (λ table. fresh table worker))) in
      let at : slice_get (fresh_desk tables worker).passes k ≡ Some (fresh found.0 worker) = slice_get-map (λ table. fresh table worker) tables k ∙ ap (λ o. option_map (λ table. fresh table worker) o) found.1 in
      subst IsNew (sym (get_or_from_slice_get (fresh_desk tables worker).passes k (fresh found.0 worker) d at)) (new_at worker k found.0 below found.1)

  pub is_opened : (desks : List DeskView) → length plans ≡ length openings → desks ≡ map (fresh_desk tables) (upto workers) → IsOpened openings caps workers plans pool desks
  is_opened desks one_each is = record {
    count = refl;
    tenants = opened.tenants ∙ one_each;
    each = λ t table here. (opened.each t table here).opens;
    fresh = is;
    together = subst (λ ds. All (Belongs pool) ds) (sym is) (all_numbers (Belongs pool) (fresh_desk tables) 0 workers (λ n below. desk_belongs n (omega (arith, below))));
    new = subst (λ ds. All (λ (desk : DeskView). All IsNew desk.passes) ds) (sym is) (all_numbers (λ (desk : DeskView). All IsNew desk.passes) (fresh_desk tables) 0 workers (λ n below. desk_new n (omega (arith, below))));
  }

-- one more table has opened
pub each_more : (workers : ℕ) (openings caps : List ℕ) (plans : List (List ℕ)) (tables : List TableView) (table : TableView) (i : ℕ) → i ≡ length tables
    → ((t : ℕ) (x : TableView) → slice_get tables t ≡ Some x → IsOpen workers (get_or openings t 0) (get_or caps t 0) (get_or plans t []) x)
    → IsOpen workers (get_or openings i 0) (get_or caps i 0) (get_or plans i []) table
    → (t : ℕ) (x : TableView) → slice_get (tables ++ table ∷ []) t ≡ Some x → IsOpen workers (get_or openings t 0) (get_or caps t 0) (get_or plans t []) x
each_more workers openings caps plans tables table i last each here t x at =
    let Here : ℕ → TableView → Type 0 = λ n y. IsOpen workers (get_or openings n 0) (get_or caps n 0) (get_or plans n []) y in
    elim (got_more tables table x t at) [
      | inl before ↦ each t x before
      | inr (e, is) ↦ let same : i ≡ t = last ∙ sym e in subst (λ y. Here t y) is (subst (λ n. Here n table) same here)
    ]

-- .. and the workers have got its passes
pub hands_more : (tables : List TableView) (table : TableView) (workers : ℕ) (old new : List (List PassView)) (passes : List PassView) → old ≡ map (fresh_hand tables) (upto workers)
    → table.start.shape.passes ≡ workers → passes ≡ fresh_passes table → new ≡ handed old passes → new ≡ map (fresh_hand (tables ++ table ∷ [])) (upto workers)
hands_more tables table workers old new passes are count fresh_are given =
    let theirs : passes ≡ map (fresh table) (upto workers) = fresh_are ∙ ap (λ n. map (fresh table) (upto n)) count in
    given ∙ (λ i. handed (are i) (theirs i)) ∙ handed_fresh tables table 0 workers

-- a table has a pass for each worker's room
pub pass_each : (tables : List TableView) (table : TableView) (workers : ℕ) (hands : List (Vec PassView Global)) (passes : List PassView) → contents hands ≡ map (fresh_hand tables) (upto workers)
    → table.start.shape.passes ≡ workers → passes ≡ fresh_passes table → length passes ≡ length hands
pass_each tables table workers hands passes are count fresh_are =
    let theirs : length passes ≡ table.start.shape.passes = ap length fresh_are ∙ length-map (upto table.start.shape.passes) (fresh table) ∙ length_numbers 0 table.start.shape.passes in
    let rooms : length hands ≡ workers = sym (length-map hands (λ (r : Vec PassView Global). r.items)) ∙ ap length are ∙ length-map (upto workers) (fresh_hand tables) ∙ length_numbers 0 workers in
    theirs ∙ count ∙ sym rooms

-- a test that is asked first is false where no fault is found, and then none is found behind it
first_none : {F : Type 0} (b : Bool) (fault : F) (others : Option F) → (if b then Some fault else others) ≡ None → (b ≡ false) × (others ≡ None)
first_none true fault others none = let clash : Some fault ≡ None = none in absurd (cc)
first_none false fault others none = (refl, none)

-- of two faults that there aren't
neither : (one other : Option PoolFault) → first_of_two one other ≡ None → (one ≡ None) × (other ≡ None)
neither None other none = (refl, none)
neither (Some fault) other none = let clash : Some fault ≡ None = none in absurd (cc)

-- the sum of the first tenant isn't too much, and neither is that of the others
sum_below : (tenant opening : ℕ) (openings : List ℕ) (plan : List ℕ) (plans : List (List ℕ)) → too_much_from tenant (opening ∷ openings) (plan ∷ plans) ≡ None → (nat_le (2 ^ 63) (opening + sum plan) ≡ false) × (too_much_from (suc tenant) openings plans ≡ None)
sum_below tenant opening openings plan plans none = first_none (nat_le (2 ^ 63) (opening + sum plan)) (TooMuch tenant opening (opening + sum plan)) (too_much_from (suc tenant) openings plans) none

-- where no sum is too much, that of each tenant isn't
too_much_at : (tenant : ℕ) (openings : List ℕ) (plans : List (List ℕ)) → too_much_from tenant openings plans ≡ None → (i : ℕ) → i < length openings → i < length plans → nat_le (2 ^ 63) (get_or openings i 0 + sum (get_or plans i [])) ≡ false
too_much_at tenant [] plans none i within inside = absurd (omega arith)
too_much_at tenant (opening ∷ openings) [] none i within inside = absurd (omega arith)
too_much_at tenant (opening ∷ openings) (plan ∷ plans) none zero within inside = (sum_below tenant opening openings plan plans none).0
too_much_at tenant (opening ∷ openings) (plan ∷ plans) none (suc i) within inside = too_much_at (suc tenant) openings plans (sum_below tenant opening openings plan plans none).1 i (omega arith) (omega arith)

-- and where no opening is above its cap, that of each tenant isn't
above_cap_at : (tenant : ℕ) (openings caps : List ℕ) → above_cap_from tenant openings caps ≡ None → (i : ℕ) → i < length openings → i < length caps → nat_lt (get_or caps i 0) (get_or openings i 0) ≡ false
above_cap_at tenant [] caps none i within inside = absurd (omega arith)
above_cap_at tenant (opening ∷ openings) [] none i within inside = absurd (omega arith)
above_cap_at tenant (opening ∷ openings) (cap ∷ caps) none zero within inside = (first_none (nat_lt cap opening) (AboveCap tenant opening cap) (above_cap_from (suc tenant) openings caps) none).0
above_cap_at tenant (opening ∷ openings) (cap ∷ caps) none (suc i) within inside =
    above_cap_at (suc tenant) openings caps (first_none (nat_lt cap opening) (AboveCap tenant opening cap) (above_cap_from (suc tenant) openings caps) none).1 i (omega arith) (omega arith)

-- so a tenant's numbers are no fault of its funnel where they are none of the pool
pub none_at : (openings caps : List ℕ) (plans : List (List ℕ)) → pool_fault openings caps plans ≡ None → (i : ℕ) → i < length openings → i < length caps → i < length plans → open_fault (get_or openings i 0) (get_or caps i 0) (get_or plans i []) ≡ None
none_at openings caps plans none i within inside there =
    let both = neither (too_much_from 0 openings plans) (above_cap_from 0 openings caps) none in
    let opening : ℕ = get_or openings i 0 in
    let cap : ℕ = get_or caps i 0 in
    let total : ℕ = opening + sum (get_or plans i []) in
    ap (λ b. if b then Some (opens.TooMuch opening total) else (if nat_lt cap opening then Some (opens.AboveCap opening cap) else None)) (too_much_at 0 openings plans both.0 i within there)
    ∙ ap (λ b. if b then Some (opens.AboveCap opening cap) else None) (above_cap_at 0 openings caps both.1 i within inside)

-- no opening that keeps its sum below 2^63 is above the highest cap
pub none_above : (tenant : ℕ) (openings : List ℕ) (plans : List (List ℕ)) → length plans ≡ length openings → too_much_from tenant openings plans ≡ None → above_cap_from tenant openings (replicate (length openings) NO_CAP) ≡ None
none_above tenant [] plans one_each none = refl
none_above tenant (opening ∷ openings) [] one_each none = absurd (omega arith)
none_above tenant (opening ∷ openings) (plan ∷ plans) one_each none =
    let first = sum_below tenant opening openings plan plans none in
    let below : nat_le (2 ^ 63) (opening + sum plan) ≡ false = first.0 in
    let fits : nat_lt NO_CAP opening ≡ false = grind (arith, nat_tests, below) in
    ap (λ b. if b then Some (AboveCap tenant opening NO_CAP) else above_cap_from (suc tenant) openings (replicate (length openings) NO_CAP)) fits ∙ none_above (suc tenant) openings plans (omega arith) first.1

-- one more element at the end
pub all_end : {A : Type 0} (P : A → Type 0) (xs : List A) (x : A) → All P xs → P x → All P (xs ++ x ∷ [])
all_end P xs x all here = All-append P xs (x ∷ []) all (all_more P x [] here (λ k d within. absurd (omega arith)))

-- so where no sum is too much, nothing is at fault under the highest cap
pub no_fault : (openings : List ℕ) (plans : List (List ℕ)) → length plans ≡ length openings → too_much_from 0 openings plans ≡ None → pool_fault openings (replicate (length openings) NO_CAP) plans ≡ None
no_fault openings plans one_each none = ap (λ f. first_of_two f (above_cap_from 0 openings (replicate (length openings) NO_CAP))) none ∙ none_above 0 openings plans one_each none

-- what was made for closing suits each worker's passes
pub suits_all : (workers : ℕ) (tables : List TableView) (closing : Closing) (hands : List (List PassView)) → HasPlace workers (length tables) closing → All (λ (table : TableView). table.start.shape.passes ≡ workers) tables
    → hands ≡ map (fresh_hand tables) (upto workers) → All (Suits closing) hands
suits_all workers tables closing hands place counts is =
    subst (λ hs. All (Suits closing) hs) (sym is) (all_numbers (Suits closing) (fresh_hand tables) 0 workers (λ worker below. (
      workers,
      subst (λ n. HasPlace workers n closing) (sym (length-map tables (λ table. fresh table worker))) place,
      λ k d within.
          let inside : k < length tables = omega (arith, within, length-map tables (λ table. fresh table worker)) in
          let found = found_at tables k inside in
          let at : slice_get (fresh_hand tables worker) k ≡ Some (fresh found.0 worker) = slice_get-map (λ table. fresh table worker) tables k ∙ ap (λ o. option_map (λ table. fresh table worker) o) found.1 in
          let same : found.0.start.shape.passes ≡ workers = subst (λ (t : TableView). t.start.shape.passes ≡ workers) (get_or_from_slice_get tables k found.0 found.0 found.1) (counts k found.0 inside) in
          subst (λ (p : PassView). p.seen.start.shape.passes ≤ workers) (sym (get_or_from_slice_get (fresh_hand tables worker) k (fresh found.0 worker) d at)) (let e : found.0.start.shape.passes ≤ workers = omega (arith, same) in e),
    )))

-- .. and so each room of them
pub suits_rooms : (workers : ℕ) (tables : List TableView) (closing : Closing) (hands : List (Vec PassView Global)) → HasPlace workers (length tables) closing → All (λ (table : TableView). table.start.shape.passes ≡ workers) tables
    → contents hands ≡ map (fresh_hand tables) (upto workers) → All (λ (hand : Vec PassView Global). Suits closing hand.items) hands
suits_rooms workers tables closing hands place counts is k d within =
    let all = suits_all workers tables closing (contents hands) place counts is k d.items (omega (arith, within, length-map hands (λ (r : Vec PassView Global). r.items))) in
    subst (λ (ps : List PassView). Suits closing ps) (get_or-map (λ (r : Vec PassView Global). r.items) hands k d d.items within) all

-- there is a room for each worker
pub hands_count : (tables : List TableView) (workers : ℕ) (hands : List (Vec PassView Global)) → contents hands ≡ map (fresh_hand tables) (upto workers) → length hands ≡ workers
hands_count tables workers hands are = sym (length-map hands (λ (r : Vec PassView Global). r.items)) ∙ ap length are ∙ length-map (upto workers) (fresh_hand tables) ∙ length_numbers 0 workers
