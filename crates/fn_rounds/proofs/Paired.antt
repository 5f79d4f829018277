-- Lists place by place.
use Rattle.std.proofs.Common.{◌≡◌, ℕ, zero, suc, ◌<◌, Bool, true, false, List, [], ◌∷◌, ◌++◌, length, get_or, take, drop, arith, Option, Some, None, IfSome, IsSomeAnd, refl, sym, ◌∙◌, ap, subst}
use Rattle.std.specs.Prelude.{All, ◌||◌}
use Rattle.std.specs.List.{list_any}
use Rattle.std.proofs.lemmas.Bool.{false≢true}
use Rattle.std.proofs.Math.Seq.{take-append_seam}
use Rattle.std.proofs.lemmas.List.{drop_more}
use Rattle.std.proofs.lemmas.List.Elements.{All-head, All-tail}
use Rattle.fn_model.specs.declared.Kind.{Kind}
use Rattle.fn_table.specs.Seen.{TableView, PassView, IsOf}
use Rattle.fn_rounds.specs.Views.{LaneView, RoundsView}
use Rattle.fn_rounds.specs.declared.lanes.Lane.{Lane}
use Rattle.fn_rounds.specs.declared.lanes.LaneDone.{LaneDone}
use Rattle.fn_rounds.specs.Lanes.{AreMade, LaneWent, LaneTurned, has_left}
use Rattle.fn_rounds.specs.Rounds.{AreStarted, LaneMade, HaveTurned, AreAllInOrder, AreAllMade, HasGiven, RoundEnds, Round, SomeLeft, LeavesSome}
use Rattle.fn_rounds.proofs.Histories.{all_in_order}

cons_at : {A : Type 0} (P : A → Type 0) (x : A) (xs : List A) → P x → All P xs → (k : ℕ) (d : A) → k < suc (length xs) → P (get_or (x ∷ xs) k d)
cons_at P x xs one all zero d less = one
cons_at P x xs one all (suc k) d less = all k d (omega arith)

all_cons : {A : Type 0} (P : A → Type 0) (x : A) (xs : List A) → P x → All P xs → All P (x ∷ xs)
all_cons P x xs one all = cons_at P x xs one all

-- what is left of two lists begins with the same
pub same_head : {A : Type 0} (xs ys : List A) (i : ℕ) (d : A) → i < length xs → i < length ys → drop i xs ≡ drop i ys → get_or xs i d ≡ get_or ys i d
same_head xs ys i d less also is = ap (λ zs. get_or zs 0 d) (sym (drop_more xs i d less) ∙ is ∙ drop_more ys i d also)

-- a lane keeps the pass that was handed in, and its orders
same_lane : (old new : LaneView) (b : Bool) → has_left old ≡ b → LaneTurned old new → (new.given ≡ old.given) × (new.orders ≡ old.orders)
same_lane old new true left t = (ap (λ (l : LaneView). l.given) (t.left left).now, ap (λ (l : LaneView). l.orders) (t.left left).now)
same_lane old new false left t = (ap (λ (l : LaneView). l.given) (t.done left), ap (λ (l : LaneView). l.orders) (t.done left))

pub made_before : (old new : LaneView) → LaneTurned old new → (done : LaneDone) → LaneMade new done → LaneMade old done
made_before old new t done made =
    let same = same_lane old new (has_left old) refl t in
    subst (λ (p : PassView). AreMade p old.orders done.replies done.pass) same.0 (subst (λ (os : List (Kind × ℕ)). AreMade new.given os done.replies done.pass) same.1 made)

pub all_made_before : (olds news : List LaneView) → HaveTurned olds news → (dones : List LaneDone) → AreAllMade news dones → AreAllMade olds dones
all_made_before [] [] t [] made = tt
all_made_before (old ∷ olds) (new ∷ news) t (done ∷ dones) made = (made_before old new t.0 done made.0, all_made_before olds news t.1 dones made.1)
all_made_before [] [] t (done ∷ dones) made = absurd made
all_made_before (old ∷ olds) (new ∷ news) t [] made = absurd made
all_made_before [] (new ∷ news) t dones made = absurd t
all_made_before (old ∷ olds) [] t dones made = absurd t

-- the lanes stay at their table
pub all_of_table : (t : TableView) (olds news : List LaneView) → HaveTurned olds news → All (λ l. IsOf t l.given) olds → All (λ l. IsOf t l.given) news
all_of_table t [] [] turned of = of
all_of_table t (old ∷ olds) (new ∷ news) turned of =
    let same = same_lane old new (has_left old) refl turned.0 in
    all_cons (λ (l : LaneView). IsOf t l.given) new news (subst (IsOf t) (sym same.0) (All-head (λ (l : LaneView). IsOf t l.given) old olds of)) (all_of_table t olds news turned.1 (All-tail (λ (l : LaneView). IsOf t l.given) old olds of))
all_of_table t [] (new ∷ news) turned of = absurd turned
all_of_table t (old ∷ olds) [] turned of = absurd turned

-- the lanes as they were handed in
pub started_of_table : (t : TableView) (lanes : List Lane) (ls : List LaneView) → AreStarted lanes ls → All (λ lane. IsOf t lane.pass) lanes → All (λ l. IsOf t l.given) ls
started_of_table t [] [] started of = λ k d less. absurd (omega arith)
started_of_table t (lane ∷ lanes) (l ∷ ls) started of =
    all_cons (λ (v : LaneView). IsOf t v.given) l ls (subst (λ (v : LaneView). IsOf t v.given) (sym started.0) (All-head (λ (v : Lane). IsOf t v.pass) lane lanes of))
    (started_of_table t lanes ls started.1 (All-tail (λ (v : Lane). IsOf t v.pass) lane lanes of))
started_of_table t [] (l ∷ ls) started of = absurd started
started_of_table t (lane ∷ lanes) [] started of = absurd started

-- one element less
pub all_less : {A : Type 0} (P : A → Type 0) (xs ys : List A) (x : A) → All P xs → xs ≡ x ∷ ys → P x × All P ys
all_less P xs ys x all is = let here : All P (x ∷ ys) = subst (All P) is all in (All-head P x ys here, All-tail P x ys here)

-- what all lanes have made, in words of the integer too
pub given_all : (lanes : List LaneView) (dones : List LaneDone) → AreAllMade lanes dones → AreAllInOrder lanes dones × AreAllMade lanes dones
given_all lanes dones made = (all_in_order lanes dones made, made)

-- a poll that is pending leaves to give what the calls before it had to give
round_keeps_at : (old new : RoundsView) (o : Option (List LaneView)) → IsSomeAnd o (λ lanes. (turned : List LaneView) × HaveTurned lanes turned × RoundEnds turned None new.lanes × (new.table ≡ old.table)) → (dones : List LaneDone) → HasGiven new dones
    → IfSome o (λ ls. AreAllInOrder ls dones × AreAllMade ls dones)
round_keeps_at old new None h dones given = tt
round_keeps_at old new (Some lanes) h dones given =
    let turned = subst (λ (n : Option (List LaneView)). IfSome n (λ ls. AreAllInOrder ls dones × AreAllMade ls dones)) h.2.1 given in
    given_all lanes dones (all_made_before lanes h.0 h.1 dones turned.1)

pub round_keeps : (old new : RoundsView) → Round old None new → (dones : List LaneDone) → HasGiven new dones → HasGiven old dones
round_keeps old new round dones given = round_keeps_at old new old.lanes round dones given

-- a lane that has an order left had its turn
went_on : (old new : LaneView) (b : Bool) → has_left old ≡ b → LaneTurned old new → has_left new ≡ true → LaneWent old new
went_on old new true is t left = t.left is
went_on old new false is t left = absurd (false≢true (sym is ∙ sym (ap has_left (t.done is)) ∙ left))

left_at : (old new : LaneView) (olds news : List LaneView) → LaneTurned old new → (b : Bool) → has_left new ≡ b → (b || list_any has_left news) ≡ true → (list_any has_left news ≡ true → SomeLeft olds news) → SomeLeft (old ∷ olds) (new ∷ news)
left_at old new olds news t true is any others = record { at = 0; old = old; new = new; was = refl; is = refl; went = went_on old new (has_left old) refl t is; left = is }
left_at old new olds news t false is any others =
    let one = others any in
    record { at = suc one.at; old = one.old; new = one.new; was = one.was; is = one.is; went = one.went; left = one.left }

some_left : (olds news : List LaneView) → HaveTurned olds news → list_any has_left news ≡ true → SomeLeft olds news
some_left [] [] turned any = absurd (false≢true any)
some_left (old ∷ olds) (new ∷ news) turned any = left_at old new olds news turned.0 (has_left new) refl any (some_left olds news turned.1)
some_left [] (new ∷ news) turned any = absurd turned
some_left (old ∷ olds) [] turned any = absurd turned

-- so a round that doesn't end all has left some
round_left_at : (old new : RoundsView) (o : Option (List LaneView)) → IsSomeAnd o (λ lanes. (turned : List LaneView) × HaveTurned lanes turned × RoundEnds turned None new.lanes × (new.table ≡ old.table)) → IsSomeAnd o (λ olds. IsSomeAnd new.lanes (SomeLeft olds))
round_left_at old new None h = absurd h
round_left_at old new (Some lanes) h = subst (λ (n : Option (List LaneView)). IsSomeAnd n (SomeLeft lanes)) (sym h.2.1) (some_left lanes h.0 h.1 h.2.0)

pub round_left : (old new : RoundsView) → Round old None new → LeavesSome old new
round_left old new round = round_left_at old new old.lanes round

-- both are told of the calls that were handed in
pub first_given : (o : Option (List LaneView)) (dones : List LaneDone) → IfSome o (λ ls. AreAllInOrder ls dones × AreAllMade ls dones) → IfSome o (λ ls. AreAllInOrder ls dones)
first_given None dones given = tt
first_given (Some lanes) dones given = given.0

pub second_given : (o : Option (List LaneView)) (dones : List LaneDone) → IfSome o (λ ls. AreAllInOrder ls dones × AreAllMade ls dones) → IfSome o (λ ls. AreAllMade ls dones)
second_given None dones given = tt
second_given (Some lanes) dones given = given.1

-- a list that was written place by place
pub written : {A : Type 0} (olds news : List A) (n : ℕ) → length news ≡ length olds → n ≡ length olds → take n (news ++ drop (length news) olds) ≡ news
written olds news n same all =
    let here : n ≡ length news = omega (arith, same, all) in
    ap (λ (k : ℕ). take k (news ++ drop (length news) olds)) here ∙ take-append_seam news (drop (length news) olds)
