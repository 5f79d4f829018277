-- A pool's tenants when it closes.
use Rattle.std.proofs.Common.{◌≡◌, ◌<◌, ◌≤◌, ◌⊎◌, All, ℕ, zero, suc, List, [], ◌∷◌, ◌++◌, map, length, get_or, slice_get, Option, Some, None, Vec, refl, sym, ap, ◌∙◌, subst, arith, inl, inr}
use Rattle.std.proofs.lemmas.List.{length-map, get_or-map, append-nil}
use Rattle.std.specs.declared.alloc.Global.{Global}
use Rattle.std.specs.Prelude.{remove}
use Rattle.std.specs.Vec.{vec_capacity}
use Rattle.std.proofs.lemmas.Option.{none-some, same_Some, slice_get-map, slice_get_cases, slice_get_within, get_or_from_slice_get}
use Rattle.std.specs.Option.{option_map, option_to_list}
use Rattle.running.specs.Running.{upto}
use Rattle.running.proofs.Lists.{length_numbers}
use Rattle.fn_core.specs.Calls.{CoreLog, IsIdle}
use Rattle.fn_table.specs.Seen.{TableView, PassView, IsOf}
use Rattle.fn_table.specs.Claims.{Rests}
use Rattle.running.proofs.Numbers.{numbers_first}
use Rattle.fn_core.specs.declared.Start.{Start}
use Rattle.quota_pool.specs.declared.closing.Closing.{Closing}
use Rattle.quota_pool.specs.Views.{PoolView, DeskView, Belongs}
use Rattle.quota_pool.specs.Rooms.{IsBare, HasPlaceFor, Suits, KeepsRoom, contents, handed, rooms_after}
use Rattle.quota_pool.specs.Closed.{passes_at, MayClose, ClosesWith, MayCloseAll, AreClosedFrom}
use Rattle.quota_pool.proofs.RoomSteps.{all_less, rooms_at, after_count}

-- The books are those of the pool's tables, in order, each closed with the desks' passes at its tenant
pub record EachCloses (pool : PoolView) (desks : List DeskView) (books : List CoreLog) : Type 0 where
  pub tenants : length books ≡ length pool.tables
  pub each : (tenant : ℕ) (table : TableView) (book : CoreLog) → slice_get pool.tables tenant ≡ Some table → slice_get books tenant ≡ Some book
      → ClosesWith table (passes_at tenant desks) book

-- one more element of which something holds
pub all_more : {A : Type 0} (P : A → Type 0) (x : A) (xs : List A) → P x → All P xs → All P (x ∷ xs)
all_more P x xs here more zero d within = here
all_more P x xs here more (suc k) d within = more k d (omega arith)

-- what is found in a place that is in a list
pub found_at : {A : Type 0} (xs : List A) (i : ℕ) → i < length xs → (x : A) × (slice_get xs i ≡ Some x)
found_at xs i within = elim ((slice_get_cases xs i).1) [ inl (x, inside, at, got) ↦ (x, at) | inr past ↦ absurd (omega (arith, within, past.0)) ]

-- the desks are as many as the workers
pub count_of_desks : (ds : List DeskView) (workers : ℕ) → map (λ d. d.worker) ds ≡ upto workers → length ds ≡ workers
count_of_desks ds workers all = sym (length-map ds (λ d. d.worker)) ∙ ap length all ∙ length_numbers 0 workers

module _ (pool : PoolView) (t : ℕ) (table : TableView) (here : slice_get pool.tables t ≡ Some table) where
  -- the desk's pass there
  pub its_pass : (d : DeskView) → Belongs pool d → (p : PassView) × (slice_get d.passes t ≡ Some p) × IsOf table p × (p.number ≡ d.worker) × Rests p
  its_pass d belongs =
      let within : t < length d.passes = omega (arith, belongs.tenants, slice_get_within pool.tables t table here) in
      let found = found_at d.passes t within in
      let stands = belongs.each t table found.0 here found.1 in
      (found.0, found.1, stands.0, stands.1, stands.2)

  their_numbers : (ds : List DeskView) → All (Belongs pool) ds → map (λ p. p.number) (passes_at t ds) ≡ map (λ d. d.worker) ds
  their_numbers [] all = refl
  their_numbers (d ∷ ds) all =
      let its = its_pass d (all 0 d (omega arith)) in
      ap (λ o. map (λ p. p.number) (option_to_list o ++ passes_at t ds)) its.1
      ∙ ap (λ (n : ℕ). n ∷ map (λ (p : PassView). p.number) (passes_at t ds)) its.3
      ∙ ap (λ ns. d.worker ∷ ns) (their_numbers ds (all_less (Belongs pool) d ds all))

  all_stand : (P : PassView → Type 0) → ((p : PassView) → IsOf table p → IsIdle p.seen p.number → P p) → (ds : List DeskView) → All (Belongs pool) ds → All P (passes_at t ds)
  all_stand P holds [] all = λ k d within. absurd (omega arith)
  all_stand P holds (x ∷ ds) all =
      let its = its_pass x (all 0 x (omega arith)) in
      let More : Option PassView → Type 0 = λ o. All P (option_to_list o ++ passes_at t ds) in
      subst More (sym its.1) (all_more P its.0 (passes_at t ds) (holds its.0 its.2 its.4) (all_stand P holds ds (all_less (Belongs pool) x ds all)))

  -- the desks' passes are all that the table has
  pub may_close : (ds : List DeskView) → All (Belongs pool) ds → map (λ d. d.worker) ds ≡ upto pool.workers → table.start.shape.passes ≡ pool.workers → MayClose table (passes_at t ds)
  may_close ds all workers count = record {
    together = all_stand (IsOf table) (λ p of idle. of) ds all;
    all = their_numbers ds all ∙ workers ∙ ap upto (sym count);
    idle = all_stand (λ p. IsIdle p.seen p.number) (λ p of idle. idle) ds all;
  }

-- where each table may be closed with the passes of its number, all may be
pub all_may_close : (tables : List TableView) (rooms : List (List PassView)) → length rooms ≡ length tables
    → ((t : ℕ) (table : TableView) (passes : List PassView) → slice_get tables t ≡ Some table → slice_get rooms t ≡ Some passes → MayClose table passes) → MayCloseAll tables rooms
all_may_close [] [] one_each may = tt
all_may_close [] (r ∷ rs) one_each may = absurd (omega (arith, one_each))
all_may_close (f ∷ fs) [] one_each may = absurd (omega (arith, one_each))
all_may_close (f ∷ fs) (r ∷ rs) one_each may = (may 0 f r refl refl, all_may_close fs rs (omega (arith, one_each)) (λ t table passes here there. may (suc t) table passes here there))

-- there are as many books as tables
length_closed : (tables : List TableView) (rooms : List (List PassView)) (books : List CoreLog) → AreClosedFrom tables rooms books → length books ≡ length tables
length_closed [] [] [] closed = refl
length_closed [] [] (b ∷ bs) closed = absurd closed
length_closed [] (r ∷ rs) books closed = absurd closed
length_closed (f ∷ fs) [] books closed = absurd closed
length_closed (f ∷ fs) (r ∷ rs) [] closed = absurd closed
length_closed (f ∷ fs) (r ∷ rs) (b ∷ bs) closed = ap suc (length_closed fs rs bs closed.1)

-- each table's book
closed_at : (tables : List TableView) (rooms : List (List PassView)) (books : List CoreLog) (t : ℕ) (table : TableView) (passes : List PassView) (book : CoreLog) → AreClosedFrom tables rooms books
    → slice_get tables t ≡ Some table → slice_get rooms t ≡ Some passes → slice_get books t ≡ Some book → ClosesWith table passes book
closed_at [] rooms books t table passes book closed here room there = absurd (none-some table here)
closed_at (f ∷ fs) [] books t table passes book closed here room there = absurd (none-some passes room)
closed_at (f ∷ fs) (r ∷ rs) [] t table passes book closed here room there = absurd (none-some book there)
closed_at (f ∷ fs) (r ∷ rs) (b ∷ bs) zero table passes book closed here room there =
    subst (λ (x : TableView). ClosesWith x passes book) (same_Some f table here)
    (subst (λ (x : List PassView). ClosesWith f x book) (same_Some r passes room) (subst (λ (x : CoreLog). ClosesWith f r x) (same_Some b book there) closed.0))
closed_at (f ∷ fs) (r ∷ rs) (b ∷ bs) (suc t) table passes book closed here room there = closed_at fs rs bs t table passes book closed.1 here room there

-- a list begins with its first element
pub first_and_others : {A : Type 0} (xs : List A) (x : A) (ys : List A) → 0 < length xs → x ≡ get_or xs 0 x → ys ≡ remove xs 0 → xs ≡ x ∷ ys
first_and_others [] x ys some is others = absurd (omega arith)
first_and_others (z ∷ zs) x ys some is others = (λ i. sym is i ∷ sym others i)

-- a bare room, when the desks have handed in their passes
room_filled : (workers : ℕ) (bare : List (Vec PassView Global)) (ds : List DeskView) → All (IsBare workers) bare → (t : ℕ) → t < length bare → slice_get (rooms_after (contents bare) ds) t ≡ Some (passes_at t ds)
room_filled workers bare ds all t within =
    let found = found_at bare t within in
    let none : found.0.items ≡ [] = subst (λ (r : Vec PassView Global). r.items ≡ []) (get_or_from_slice_get bare t found.0 found.0 found.1) (all t found.0 within).0 in
    let first : slice_get (contents bare) t ≡ Some [] = slice_get-map (λ (r : Vec PassView Global). r.items) bare t ∙ ap (λ o. option_map (λ (r : Vec PassView Global). r.items) o) found.1 ∙ ap (λ r. Some r) none in
    rooms_at (contents bare) ds t ∙ ap (λ o. option_map (λ r. r ++ passes_at t ds) o) first

-- a pool that closes, with its first desk
module _ (self : PoolView) (desks : List DeskView) (first : DeskView) (others : List DeskView) (some : 1 ≤ self.workers) (counts : All (λ (table : TableView). table.start.shape.passes ≡ self.workers) self.tables)
    (together : All (Belongs self) desks) (numbers : map (λ d. d.worker) desks ≡ upto self.workers) (is : first ≡ get_or desks 0 first) (rest : others ≡ remove desks 0) where
  pub count : length desks ≡ self.workers
  count = count_of_desks desks self.workers numbers

  parts : desks ≡ first ∷ others
  parts = first_and_others desks first others (omega (arith, count, some)) is rest

  first_belongs : Belongs self first
  first_belongs = subst (Belongs self) (sym is) (together 0 first (omega (arith, count, some)))

  first_worker : first.worker ≡ 0
  first_worker =
      let here : get_or (map (λ (d : DeskView). d.worker) desks) 0 0 ≡ first.worker = get_or-map (λ (d : DeskView). d.worker) desks 0 first 0 (omega (arith, count, some)) ∙ ap (λ (d : DeskView). d.worker) (sym is) in
      let zeroth : get_or (upto self.workers) 0 0 ≡ 0 = ap (λ ns. get_or ns 0 0) (numbers_first 0 self.workers (omega (arith, some))) in
      sym here ∙ ap (λ ns. get_or ns 0 0) numbers ∙ zeroth

  -- the first desk keeps the room for closing
  pub first_room : (closing : Option Closing) → KeepsRoom closing first → (kept : Closing) × (closing ≡ Some kept) × Suits kept first.passes
  first_room closing keeps = keeps first_worker

  module _ (closing : Option Closing) (kept : Closing) (keeps : KeepsRoom closing first) (here : closing ≡ Some kept) where
    suits : Suits kept first.passes
    suits =
        let all = keeps first_worker in
        let both : Some all.0 ≡ Some kept = sym all.1 ∙ here in
        subst (λ (c : Closing). Suits c first.passes) (same_Some all.0 kept both) all.2

    -- one for each tenant
    rooms_count : length kept.rooms.items ≡ length self.tables
    rooms_count = suits.1.rooms ∙ first_belongs.tenants

    pub first_each : length first.passes ≡ length kept.rooms.items
    first_each = sym suits.1.rooms

    pub others_each : All (λ (desk : DeskView). length desk.passes ≡ length kept.rooms.items) others
    others_each = all_less (λ (desk : DeskView). length desk.passes ≡ length kept.rooms.items) first others
        (subst (λ ds. All (λ (desk : DeskView). length desk.passes ≡ length kept.rooms.items) ds) parts (λ k d within. (together k d within).tenants ∙ sym rooms_count))

    -- .. with place for the passes of all desks
    pub places : All (HasPlaceFor (suc (length others))) kept.rooms.items
    places k d within =
        let inside : k < length self.tables = omega (arith, within, rooms_count) in
        let table = found_at self.tables k inside in
        let pass = found_at first.passes k (omega (arith, inside, first_belongs.tenants)) in
        let stands = first_belongs.each k table.0 pass.0 table.1 pass.1 in
        let most : pass.0.seen.start.shape.passes ≤ suits.0 = subst (λ (p : PassView). p.seen.start.shape.passes ≤ suits.0) (get_or_from_slice_get first.passes k pass.0 pass.0 pass.1) (suits.2 k pass.0 (omega (arith, inside, first_belongs.tenants))) in
        let fits : table.0.start.shape.passes ≤ suits.0 = subst (λ (s : Start). s.shape.passes ≤ suits.0) stands.0.1 most in
        let all : table.0.start.shape.passes ≡ self.workers = subst (λ (x : TableView). x.start.shape.passes ≡ self.workers) (get_or_from_slice_get self.tables k table.0 table.0 table.1) (counts k table.0 inside) in
        let bare = suits.1.bare k d within in
        let none : length (get_or kept.rooms.items k d).items ≡ 0 = ap length bare.0 in
        let size : suits.0 ≤ vec_capacity (get_or kept.rooms.items k d) = bare.1 in
        let desks_are : suc (length others) ≡ self.workers = sym (ap length parts) ∙ count in
        omega (arith, fits, all, none, size, desks_are)

    pub books_place : length self.tables ≤ vec_capacity kept.books
    books_place = omega (arith, suits.1.books.1, first_belongs.tenants)

    pub books_none : kept.books.items ≡ []
    books_none = suits.1.books.0

    module _ (rooms : List (List PassView)) (filled : rooms ≡ rooms_after (handed (contents kept.rooms.items) first.passes) others) where
      rooms_are : rooms ≡ rooms_after (contents kept.rooms.items) desks
      rooms_are = filled ∙ ap (λ ds. rooms_after (contents kept.rooms.items) ds) (sym parts)

      room_has : (t : ℕ) (table : TableView) → slice_get self.tables t ≡ Some table → slice_get rooms t ≡ Some (passes_at t desks)
      room_has t table at = ap (λ rs. slice_get rs t) rooms_are ∙ room_filled suits.0 kept.rooms.items desks suits.1.bare t (omega (arith, rooms_count, slice_get_within self.tables t table at))

      -- so each table may be closed with the passes in its room
      pub tables_ready : MayCloseAll self.tables rooms
      tables_ready = all_may_close self.tables rooms (ap length rooms_are ∙ after_count (contents kept.rooms.items) desks ∙ length-map kept.rooms.items (λ (r : Vec PassView Global). r.items) ∙ rooms_count) (λ t table passes at room.
          let all : table.start.shape.passes ≡ self.workers = subst (λ (x : TableView). x.start.shape.passes ≡ self.workers) (get_or_from_slice_get self.tables t table table at) (counts t table (slice_get_within self.tables t table at)) in
          subst (λ ps. MayClose table ps) (same_Some (passes_at t desks) passes (sym (room_has t table at) ∙ room)) (may_close self t table at desks together numbers all))

      -- and the books are the pool's
      pub pool_closed : (books : List CoreLog) → AreClosedFrom self.tables rooms books → EachCloses self desks books
      pool_closed books closed = record {
        tenants = length_closed self.tables rooms books closed;
        each = λ t table book at there. closed_at self.tables rooms books t table (passes_at t desks) book closed at (room_has t table at) there;
      }

-- where no table is left, or no room, all are closed
pub all_done : (tables : List TableView) (rooms : List (List PassView)) (all : List TableView) (whole : List (List PassView)) (books : List CoreLog) → MayCloseAll tables rooms → (tables ≡ []) ⊎ (rooms ≡ [])
    → ((more : List CoreLog) → AreClosedFrom tables rooms more → AreClosedFrom all whole (books ++ more)) → AreClosedFrom all whole books
all_done [] [] all whole books may none closed = subst (λ bs. AreClosedFrom all whole bs) (append-nil books) (closed [] tt)
all_done [] (r ∷ rs) all whole books may none closed = absurd may
all_done (f ∷ fs) [] all whole books may none closed = absurd may
all_done (f ∷ fs) (r ∷ rs) all whole books may (inl none) closed = let clash = ap length none in absurd (omega (arith, clash))
all_done (f ∷ fs) (r ∷ rs) all whole books may (inr none) closed = let clash = ap length none in absurd (omega (arith, clash))
