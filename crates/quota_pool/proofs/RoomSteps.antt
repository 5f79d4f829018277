-- Steps by which passes come into rooms.
use Rattle.std.proofs.Common.{◌≡◌, ◌+◌, ◌<◌, ◌≤◌, All, ℕ, zero, suc, List, [], ◌∷◌, ◌++◌, set, map, take, drop, length, get_or, slice_get, Option, Some, None, Vec, refl, sym, ap, ◌∙◌, subst, arith, append_assoc, append-nil, length-append}
use Rattle.std.proofs.Math.Seq.{drop-cons}
use Rattle.std.proofs.lemmas.List.{drop-set-lt, length-map, with_items_is}
use Rattle.std.specs.Option.{option_map, option_to_list}
use Rattle.std.specs.Vec.{vec_capacity, with_items}
use Rattle.std.specs.declared.alloc.Global.{Global}
use Rattle.fn_table.specs.Seen.{PassView}
use Rattle.quota_pool.specs.Views.{DeskView}
use Rattle.quota_pool.specs.Rooms.{HasPlaceFor, HaveSizes, IsBare, contents, handed, rooms_after}
use Rattle.quota_pool.specs.Closed.{passes_at}

-- what holds of all elements holds of all but the first
pub all_less : {A : Type 0} (P : A → Type 0) (x : A) (xs : List A) → All P (x ∷ xs) → All P xs
all_less P x xs all k d within = all (suc k) d (omega arith)

-- of rooms that have place from one on, that one has place, and those behind it, whatever stands there
pub place_here : (rs : List (Vec PassView Global)) (i : ℕ) (d : Vec PassView Global) → i < length rs → All (HasPlaceFor 1) (drop i rs) → HasPlaceFor 1 (get_or rs i d)
place_here rs i d within all =
    let Each : List (Vec PassView Global) → Type 0 = λ xs. All (HasPlaceFor 1) xs in
    subst Each (drop-cons rs i d within) all 0 d (omega arith)

pub place_behind : (rs : List (Vec PassView Global)) (i : ℕ) (u : Vec PassView Global) → i < length rs → All (HasPlaceFor 1) (drop i rs) → All (HasPlaceFor 1) (drop (suc i) (set rs i u))
place_behind rs i u within all =
    let Each : List (Vec PassView Global) → Type 0 = λ xs. All (HasPlaceFor 1) xs in
    subst Each (sym (drop-set-lt (suc i) rs i u (omega arith))) (all_less (HasPlaceFor 1) (get_or rs i u) (drop (suc i) rs) (subst Each (drop-cons rs i u within) all))

-- one more pass has come into its room
pub more_handed : (rs : List (Vec PassView Global)) (i : ℕ) (d u : Vec PassView Global) (p : PassView) (ps : List PassView) → i < length rs → u.items ≡ (get_or rs i d).items ++ p ∷ []
    → take (suc i) (contents (set rs i u)) ++ handed (drop (suc i) (contents (set rs i u))) ps ≡ take i (contents rs) ++ handed (drop i (contents rs)) (p ∷ ps)
more_handed [] i d u p ps within put = absurd (omega arith)
more_handed (x ∷ xs) zero d u p ps within put = ap (λ room. room ∷ handed (contents xs) ps) put
more_handed (x ∷ xs) (suc i) d u p ps within put = ap (λ more. x.items ∷ more) (more_handed xs i d u p ps (omega arith) put)

-- with nothing to hand in, rooms stay as they are
pub none_handed : (rs : List (List PassView)) → handed rs [] ≡ rs
none_handed [] = refl
none_handed (r ∷ rs) = refl

-- rooms of the same sizes are as many
pub same_count : (old new : List (Vec PassView Global)) → HaveSizes old new → length new ≡ length old
same_count old new sizes = sym (length-map new (λ (r : Vec PassView Global). vec_capacity r)) ∙ ap length sizes ∙ length-map old (λ (r : Vec PassView Global). vec_capacity r)

-- where rooms have place for more than one, they have place for one
pub place_one : (n : ℕ) (rs : List (Vec PassView Global)) → All (HasPlaceFor (suc n)) rs → All (HasPlaceFor 1) rs
place_one n rs all k d within = let here = all k d within in omega (arith, here)

-- a pass more takes one place in each room
pub place_left : (n : ℕ) (old new : List (Vec PassView Global)) (ps : List PassView) → length ps ≡ length old → contents new ≡ handed (contents old) ps → HaveSizes old new → All (HasPlaceFor (suc n)) old → All (HasPlaceFor n) new
place_left n old [] ps one_each are sizes all k d within = absurd (omega arith)
place_left n [] (y ∷ ys) ps one_each are sizes all k d within = let clash = same_count [] (y ∷ ys) sizes in absurd (omega (arith, clash))
place_left n (x ∷ xs) (y ∷ ys) [] one_each are sizes all k d within = absurd (omega (arith, one_each))
place_left n (x ∷ xs) (y ∷ ys) (p ∷ ps) one_each are sizes all zero d within =
    let put : y.items ≡ x.items ++ p ∷ [] = ap (λ (rs : List (List PassView)). get_or rs 0 []) are in
    let size : vec_capacity y ≡ vec_capacity x = ap (λ ns. get_or ns 0 0) sizes in
    let had : length x.items + suc n ≤ vec_capacity x = all 0 x (omega arith) in
    let longer = ap length put ∙ length-append x.items (p ∷ []) in
    omega (arith, size, had, longer)
place_left n (x ∷ xs) (y ∷ ys) (p ∷ ps) one_each are sizes all (suc k) d within =
    place_left n xs ys ps (omega (arith, one_each)) (ap (λ (rs : List (List PassView)). drop 1 rs) are) (ap (λ ns. drop 1 ns) sizes) (all_less (HasPlaceFor (suc n)) x xs all) k d (omega arith)

-- nothing is put into a room
nothing_more : (o : Option (List PassView)) → o ≡ option_map (λ r. r ++ []) o
nothing_more None = refl
nothing_more (Some r) = ap (λ z. Some z) (sym (append-nil r))

-- twice something is put into a room
twice_more : (a b : List PassView) (o : Option (List PassView)) → option_map (λ r. r ++ b) (option_map (λ r. r ++ a) o) ≡ option_map (λ r. r ++ (a ++ b)) o
twice_more a b None = refl
twice_more a b (Some r) = ap (λ z. Some z) (append_assoc r a b)

-- a room after each has got one of these passes
handed_at : (rs : List (List PassView)) (ps : List PassView) (t : ℕ) → slice_get (handed rs ps) t ≡ option_map (λ r. r ++ option_to_list (slice_get ps t)) (slice_get rs t)
handed_at [] ps t = refl
handed_at (r ∷ rs) [] zero = ap (λ z. Some z) (sym (append-nil r))
handed_at (r ∷ rs) [] (suc t) = nothing_more (slice_get rs t)
handed_at (r ∷ rs) (p ∷ ps) zero = refl
handed_at (r ∷ rs) (p ∷ ps) (suc t) = handed_at rs ps t

-- .. and after each has got one of each of these desks
pub rooms_at : (rs : List (List PassView)) (ds : List DeskView) (t : ℕ) → slice_get (rooms_after rs ds) t ≡ option_map (λ r. r ++ passes_at t ds) (slice_get rs t)
rooms_at rs [] t = nothing_more (slice_get rs t)
rooms_at rs (d ∷ ds) t =
    rooms_at (handed rs d.passes) ds t ∙ ap (λ o. option_map (λ r. r ++ passes_at t ds) o) (handed_at rs d.passes t) ∙ twice_more (option_to_list (slice_get d.passes t)) (passes_at t ds) (slice_get rs t)

-- rooms that have got passes are as many as before
handed_count : (rs : List (List PassView)) (ps : List PassView) → length (handed rs ps) ≡ length rs
handed_count [] ps = refl
handed_count (r ∷ rs) [] = refl
handed_count (r ∷ rs) (p ∷ ps) = ap suc (handed_count rs ps)

pub after_count : (rs : List (List PassView)) (ds : List DeskView) → length (rooms_after rs ds) ≡ length rs
after_count rs [] = refl
after_count rs (d ∷ ds) = after_count (handed rs d.passes) ds ∙ handed_count rs d.passes

-- Rooms after each has got one of these passes, with place for so many more
pub record Handing (n : ℕ) (old new : List (Vec PassView Global)) (ps : List PassView) : Type 0 where
  pub count : length new ≡ length old
  pub place : All (HasPlaceFor n) new
  pub passes : contents new ≡ handed (contents old) ps

-- so are the rooms of a list that is lent for it
pub after_hand : (n : ℕ) (v : Vec (Vec PassView Global) Global) (shown new : List (Vec PassView Global)) (ps : List PassView) → shown ≡ v.items → length ps ≡ length v.items → All (HasPlaceFor (suc n)) v.items
    → contents new ≡ handed (contents shown) ps → HaveSizes shown new → Handing n v.items (with_items v new).items ps
after_hand n v shown new ps all one_each place passes sizes =
    let count : length new ≡ length v.items = same_count shown new sizes ∙ ap length all in
    let whole : (with_items v new).items ≡ new = with_items_is v new (count ∙ sym v.ok.0) in
    let now : contents new ≡ handed (contents v.items) ps = passes ∙ ap (λ rs. handed (contents rs) ps) all in
    let same : HaveSizes v.items new = subst (λ rs. HaveSizes rs new) all sizes in
    subst (λ rs. Handing n v.items rs ps) (sym whole) (record { count = count; place = place_left n v.items new ps one_each now same place; passes = now })
