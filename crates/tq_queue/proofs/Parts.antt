-- The parts of the passes of a queue.
use Rattle.std.proofs.Common.{◌≡◌, ℕ, zero, suc, ◌+◌, ◌<◌, ◌≤◌, List, [], ◌∷◌, ◌++◌, map, Some, slice_get, refl, sym, ◌∙◌, ap, subst, arith, append_assoc}
use Rattle.std.specs.Prelude.{All}
use Rattle.std.proofs.lemmas.List.{map-append}
use Rattle.std.proofs.lemmas.List.Elements.{All-nil, All-cons, All-head, All-tail}
use Rattle.running.specs.Running.{upto, numbers_from}
use Rattle.fn_table.specs.Seen.{PassView}
use Rattle.tq_cells.specs.Seen.{SeatView}
use Rattle.tq_queue.specs.declared.fours.Four.{Four}
use Rattle.tq_queue.specs.Fours.{Which, pick, AllFour}
use Rattle.tq_queue.specs.Seen.{CallerView}
use Rattle.tq_queue.proofs.Each.{each_of, all_of}

-- one more part
pub parted : {X Y : Type 0} (f : X → Y) (xs : List X) (x : X) (old new : List Y) (y : Y) → new ≡ old ++ y ∷ [] → old ≡ map f xs → y ≡ f x → new ≡ map f (xs ++ x ∷ [])
parted f xs x old new y is so_far here = is ∙ ap (λ zs. zs ++ y ∷ []) so_far ∙ ap (λ z. map f xs ++ z ∷ []) here ∙ sym (map-append f xs (x ∷ []))

-- a list with room for all that is to come has room for the rest
pub roomy : (len cap left less newer room : ℕ) → newer ≡ len + 1 → room ≡ cap → less + 1 ≡ left → len + left ≤ cap → newer + less ≤ room
roomy len cap left less newer room more same fewer is = omega (arith, more, same, fewer, is)

-- .. of each of four
pub four_parted : {T : Type 0} (xs : List (CallerView T)) (x : CallerView T) (seat : SeatView T) (own : Four PassView) (old new : Which → List PassView) → (let it : CallerView T = record { seat = seat; passes = own } in it ≡ x)
    → AllFour (λ w. new w ≡ old w ++ pick w own ∷ []) → AllFour (λ w. old w ≡ map (λ (p : CallerView T). pick w p.passes) xs) → AllFour (λ w. new w ≡ map (λ (p : CallerView T). pick w p.passes) (xs ++ x ∷ []))
four_parted {T} xs x seat own old new view is so_far = all_of (λ w. new w ≡ map (λ (p : CallerView T). pick w p.passes) (xs ++ x ∷ [])) (λ w.
    parted (λ (p : CallerView T). pick w p.passes) xs x (old w) (new w) (pick w own)
    (each_of (λ v. new v ≡ old v ++ pick v own ∷ []) is w)
    (each_of (λ v. old v ≡ map (λ (p : CallerView T). pick v p.passes) xs) so_far w)
    (ap (λ (p : CallerView T). pick w p.passes) view))

pub four_roomy : (left less : ℕ) (len cap newer room : Which → ℕ) → AllFour (λ w. newer w ≡ len w + 1) → AllFour (λ w. room w ≡ cap w) → less + 1 ≡ left → AllFour (λ w. len w + left ≤ cap w) → AllFour (λ w. newer w + less ≤ room w)
four_roomy left less len cap newer room more same fewer is = all_of (λ w. newer w + less ≤ room w) (λ w.
    roomy (len w) (cap w) left less (newer w) (room w) (each_of (λ v. newer v ≡ len v + 1) more w) (each_of (λ v. room v ≡ cap v) same w) fewer (each_of (λ v. len v + left ≤ cap v) is w))

-- what holds of the parts of each
pub all_parts : {X Y : Type 0} (P : X → Type 0) (Q : Y → Type 0) (f : X → Y) → ((x : X) → P x → Q (f x)) → (xs : List X) → All P xs → All Q (map f xs)
all_parts P Q f each [] all = All-nil Q
all_parts P Q f each (x ∷ xs) all = All-cons Q (f x) (map f xs) (each x (All-head P x xs all)) (all_parts P Q f each xs (All-tail P x xs all))

-- both of two facts of each
pub all_both : {X : Type 0} (P Q : X → Type 0) (xs : List X) → All P xs → All Q xs → All (λ x. P x × Q x) xs
all_both P Q [] ps qs = All-nil (λ x. P x × Q x)
all_both P Q (x ∷ xs) ps qs = All-cons (λ y. P y × Q y) x xs (All-head P x xs ps, All-head Q x xs qs) (all_both P Q xs (All-tail P x xs ps) (All-tail Q x xs qs))

-- the numbers of the parts are those of the whole
pub numbers_same : {X Y : Type 0} (f : X → Y) (number : X → ℕ) (key : Y → ℕ) (xs : List X) → All (λ x. key (f x) ≡ number x) xs → map key (map f xs) ≡ map number xs
numbers_same f number key [] same = refl
numbers_same f number key (x ∷ xs) same =
    let P : _ → Type 0 = λ y. key (f y) ≡ number y in
    let here : key (f x) ≡ number x = All-head P x xs same in
    let rest : map key (map f xs) ≡ map number xs = numbers_same f number key xs (All-tail P x xs same) in
    ap (λ (n : ℕ). n ∷ map key (map f xs)) here ∙ ap (λ (ns : List ℕ). number x ∷ ns) rest

-- among those numbered from `first` on there is one with each number, at its place
pub record IsThere {X : Type 0} (xs : List X) (n at : ℕ) (number : X → ℕ) : Type 0 where
  pub it : X
  pub is : slice_get xs at ≡ Some it
  pub by : number it ≡ n

there_from : {X : Type 0} (number : X → ℕ) (first count : ℕ) (xs : List X) → map number xs ≡ numbers_from first count → (at : ℕ) → at < count → IsThere xs (first + at) at number
there_from number first zero xs is at range = absurd (omega arith)
there_from number first (suc count) [] is at range = absurd (cc)
there_from number first (suc count) (x ∷ xs) is zero range = record { it = x; is = refl; by = let here : number x ≡ first = cc in omega (arith, here) }
there_from number first (suc count) (x ∷ xs) is (suc at) range =
    let rest : map number xs ≡ numbers_from (suc first) count = cc in
    let more = there_from number (suc first) count xs rest at (omega arith) in
    record { it = more.it; is = more.is; by = omega (arith, more.by) }

pub there : {X : Type 0} (number : X → ℕ) (count : ℕ) (xs : List X) → map number xs ≡ upto count → (n : ℕ) → n < count → IsThere xs n n number
there number count xs is n range = let more = there_from number 0 count xs is n range in record { it = more.it; is = more.is; by = omega (arith, more.by) }

-- .. and each of them has a number below the count
below_from : {X : Type 0} (number : X → ℕ) (first count : ℕ) (xs : List X) → map number xs ≡ numbers_from first count → (at : ℕ) (x : X) → slice_get xs at ≡ Some x → number x < first + count
below_from number first count [] is at x here = absurd (cc)
below_from number first zero (y ∷ xs) is at x here = absurd (cc)
below_from number first (suc count) (y ∷ xs) is zero x here = let same : y ≡ x = cc in let by : number y ≡ first = cc in omega (arith, by, ap number same)
below_from number first (suc count) (y ∷ xs) is (suc at) x here = let rest : map number xs ≡ numbers_from (suc first) count = cc in omega (arith, below_from number (suc first) count xs rest at x here)

pub below : {X : Type 0} (number : X → ℕ) (count : ℕ) (xs : List X) → map number xs ≡ upto count → (at : ℕ) (x : X) → slice_get xs at ≡ Some x → number x < count
below number count xs is at x here = omega (arith, below_from number 0 count xs is at x here)

-- what stands at a place of a list
pub all_at : {X : Type 0} (P : X → Type 0) (xs : List X) (at : ℕ) (x : X) → All P xs → slice_get xs at ≡ Some x → P x
all_at P [] at x all here = absurd (cc)
all_at P (y ∷ xs) zero x all here = let same : y ≡ x = cc in subst P same (All-head P y xs all)
all_at P (y ∷ xs) (suc at) x all here = all_at P xs at x (All-tail P y xs all) here

pub get-map : {X Y : Type 0} (f : X → Y) (xs : List X) (at : ℕ) (x : X) → slice_get xs at ≡ Some x → slice_get (map f xs) at ≡ Some (f x)
get-map f [] at x here = absurd (cc)
get-map f (y ∷ xs) zero x here = let same : y ≡ x = cc in ap (λ z. Some (f z)) same
get-map f (y ∷ xs) (suc at) x here = get-map f xs at x here

-- what holds of whatever stands between two parts of a list holds of all of it
pub all_between : {X : Type 0} (P : X → Type 0) (earlier later xs : List X) → xs ≡ earlier ++ later → ((before after : List X) (x : X) → xs ≡ before ++ x ∷ after → P x) → All P later
all_between P earlier [] xs is each = All-nil P
all_between P earlier (x ∷ later) xs is each = All-cons P x later (each earlier later x is) (all_between P (earlier ++ x ∷ []) later xs (is ∙ sym (append_assoc earlier (x ∷ []) later)) each)
