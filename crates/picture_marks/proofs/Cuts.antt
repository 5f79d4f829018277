-- The columns of marks.
use Rattle.std.proofs.Common.{◌≡◌, ℕ, zero, suc, ◌+◌, ◌-◌, ◌*◌, ◌/◌, ◌%◌, ◌<◌, ◌≤◌, min, List, [], ◌∷◌, ◌++◌, length, take, get_or, map, refl, sym, ap, ◌∙◌, arith, subst, inl, inr, nat_lt, length-take, length-drop, Option, Some, None, IfSome, Bor}
use Rattle.std.specs.Option.{option_map}
use Rattle.std.proofs.Math.Nat.{mul-le-mul_left, mul-le-mul_right, mod-add-div'}
use Rattle.std.proofs.lemmas.Bool.{cases_Bool}
use Rattle.std.proofs.lemmas.Bool.Decides.{nat_tests}
use Rattle.std.proofs.Math.Seq.{take-add}
use Rattle.std.proofs.lemmas.Grind.{div_ceil_times, flat_map-append}
use Rattle.std.proofs.lemmas.List.{take_all, append-nil, get_or-map, length-map}
use Rattle.std.proofs.lemmas.Nat.{div-mul-add}
use Rattle.std.proofs.lemmas.List.FromFn.{fill_by_all, map-range_with_len_more, length-map-range_with_len, get_or-map-range_with_len}
use Rattle.std.specs.Fork.{slice_chunk}
use Rattle.std.specs.Int.{div_ceil}
use Rattle.picture_marks.specs.Marks.{run_length}
use Rattle.std.specs.List.{All, IsSubsliceAt, flat_map, range_with_len}

-- the columns of so many each
abbrev pub cut : {X : Type 0} → ℕ → List X → List (List X)
cut size xs = map (slice_chunk xs size) (range_with_len 0 (div_ceil (length xs) size))

-- the first so many columns, joined together
joined : {X : Type 0} (size : ℕ) (xs : List X) (count : ℕ) → flat_map (λ column. column) (map (slice_chunk xs size) (range_with_len 0 count)) ≡ take (count * size) xs
joined size xs zero = let none : 0 * size ≡ 0 = omega arith in rw none refl
joined {X} size xs (suc count) =
    let same = λ (column : List X). column in
    let front = λ (n : ℕ). map (slice_chunk xs size) (range_with_len 0 n) in
    let next : count + 1 ≡ suc count = omega arith in
    let wide : (count + 1) * size ≡ count * size + size = omega arith in
    let more : front (count + 1) ≡ front count ++ slice_chunk xs size count ∷ [] = map-range_with_len_more (slice_chunk xs size) 0 count count (omega arith) in
    let one : flat_map same (front (count + 1)) ≡ flat_map same (front count) ++ slice_chunk xs size count =
    ap (flat_map same) more ∙ flat_map-append same (front count) (slice_chunk xs size count ∷ []) ∙ ap (λ l. flat_map same (front count) ++ l) (append-nil (slice_chunk xs size count)) in
    let whole : take ((count + 1) * size) xs ≡ take (count * size) xs ++ slice_chunk xs size count = rw wide (take-add (count * size) size xs) in
    subst (λ (n : ℕ). flat_map same (front n) ≡ take (n * size) xs) next (one ∙ ap (λ l. l ++ slice_chunk xs size count) (joined size xs count) ∙ sym whole)

-- so many columns that all marks are in one, joined together
pub cut-joins : {X : Type 0} (size : ℕ) (xs : List X) → 0 < size → flat_map (λ column. column) (cut size xs) ≡ xs
cut-joins size xs some_marks =
    let count = div_ceil_times (length xs) size some_marks in
    joined size xs (div_ceil (length xs) size) ∙ take_all (div_ceil (length xs) size * size) xs (omega (arith, count))

-- a column that begins before the end has a mark
chunk_has_marks : {X : Type 0} (size : ℕ) (xs : List X) (number : ℕ) → 0 < size → number * size < length xs → 0 < length (slice_chunk xs size number)
chunk_has_marks size xs number some_marks before = simp (length-take, length-drop) (omega arith)

-- what stands before the last column begins before the end
before_end : (n size count number : ℕ) → number < count → count * size < n + size → number * size < n
before_end n size count number less room =
    let rises = mul-le-mul_right {m = suc number} {n = count} size less in
    omega arith

-- each of them has a mark
pub cut-has_marks : {X : Type 0} (size : ℕ) (xs : List X) → 0 < size → All (λ column. 0 < length column) (cut size xs)
cut-has_marks {X} size xs some_marks number d less =
    let count = div_ceil_times (length xs) size some_marks in
    let inside : number < div_ceil (length xs) size = omega (arith, length-map-range_with_len (slice_chunk xs size) 0 (div_ceil (length xs) size)) in
    let read = get_or-map-range_with_len (slice_chunk xs size) 0 (div_ceil (length xs) size) number number d inside (omega arith) in
    rw read (chunk_has_marks size xs number some_marks (before_end (length xs) size (div_ceil (length xs) size) number inside count.1))

at_most : (count most size n : ℕ) → count * size < n + size → n ≤ most * size → count ≤ most
at_most count most size n made room =
    elim (cases_Bool (nat_lt most count)) [
      | inl many ↦ absurd (let more : most < count = grind (arith, nat_tests) in let rises = mul-le-mul_right {m = suc most} {n = count} size more in omega arith)
      | inr few ↦ grind (arith, nat_tests)
    ]

-- marks that so many runs have room for make no more runs
pub runs-few : (n size most : ℕ) → 0 < size → n ≤ most * size → div_ceil n size ≤ most
runs-few n size most some_marks room = at_most (div_ceil n size) most size n (div_ceil_times n size some_marks).1 room

-- whole runs and a rest, counted up
round_up : (q r size : ℕ) → r < size → (q * size + r + size - 1) / size ≡ q + min 1 r
round_up q zero size less =
    let same : q * size + zero + size - 1 ≡ q * size + (size - 1) = omega arith in
    rw (same, div-mul-add q size (size - 1) (omega arith)) (omega arith)
round_up q (suc r) size less =
    let wide : (q + 1) * size ≡ q * size + size = omega arith in
    let same : q * size + suc r + size - 1 ≡ (q + 1) * size + r = omega arith in
    rw (same, div-mul-add (q + 1) size r (omega arith)) (omega arith)

-- how many columns there are, as they are counted where they are cut
count-is : (n size : ℕ) → 0 < size → min n ((n + size - 1) / size) ≡ div_ceil n size
count-is n size some_marks =
    let parts = mod-add-div' n size in
    let less : n % size < size = omega arith in
    let whole : n + size - 1 ≡ n / size * size + n % size + size - 1 = omega arith in
    let up = round_up (n / size) (n % size) size less in
    let wide = mul-le-mul_left {m = 1} {n = size} (n / size) some_marks in
    rw (whole, up) (omega arith)

-- a place that is read has what is known of it
at_read : {X : Type 0} (place : Option X) (x : X) (P : X → Type 0) → option_map (λ y. y) place ≡ Some x → IfSome place P → P x
at_read None x P reads known = cc
at_read (Some y) x P reads known = let same : y ≡ x = cc in subst P same known

-- the pieces that a slice is cut into are the columns
pieces-are : {A : Type 0} (items : List (Bor (List A))) (place : ℕ → Option (Bor (List A))) (size len : ℕ) (xs : List A) → 0 < size → len ≡ length items → len ≡ min (length xs) ((length xs + size - 1) / size)
    → ((k : ℕ) (d : Bor (List A)) → k < len → option_map (λ y. y) (place k) ≡ Some (get_or items k d))
    → ((k : ℕ) → IfSome (place k) (λ piece. (0 < length piece.now) × (k * size < length xs) × IsSubsliceAt size xs (k * size) piece.now))
    → map (λ piece. piece.now) items ≡ cut size xs
pieces-are {A} [] place size len xs some_marks long counted reads known =
    let count = count-is (length xs) size some_marks in
    let none : div_ceil (length xs) size ≡ 0 = omega arith in
    rw none refl
pieces-are {A} (first ∷ rest) place size len xs some_marks long counted reads known =
    let count = count-is (length xs) size some_marks in
    let now = λ (piece : Bor (List A)). piece.now in
    let as_many : length (map now (first ∷ rest)) ≡ div_ceil (length xs) size = simp length-map (omega arith) in
    fill_by_all (slice_chunk xs size) (map now (first ∷ rest)) (div_ceil (length xs) size) [] as_many
    (λ k less.
    let inside : k < length (first ∷ rest) = omega arith in
    let piece = at_read (place k) (get_or (first ∷ rest) k first) (λ (piece : Bor (List A)). (0 < length piece.now) × (k * size < length xs) × IsSubsliceAt size xs (k * size) piece.now) (reads k first (omega arith)) (known k) in
    get_or-map now (first ∷ rest) k first [] inside ∙ piece.2.0)

pub pieces-of : {A : Type 0} (items : List (Bor (List A))) (place : ℕ → Option (Bor (List A))) (size len : ℕ) (xs : List A) (wanted : ℕ) (all : List A) → 0 < wanted → size ≡ wanted → xs ≡ all
    → len ≡ length items → len ≡ min (length xs) ((length xs + size - 1) / size)
    → ((k : ℕ) (d : Bor (List A)) → k < len → option_map (λ y. y) (place k) ≡ Some (get_or items k d))
    → ((k : ℕ) → IfSome (place k) (λ piece. (0 < length piece.now) × (k * size < length xs) × IsSubsliceAt size xs (k * size) piece.now))
    → map (λ piece. piece.now) items ≡ cut wanted all
pieces-of items place size len xs wanted all some_marks same_size same_list long counted reads known =
    pieces-are items place size len xs (omega arith) long counted reads known ∙ ap (λ n. cut n xs) same_size ∙ ap (cut wanted) same_list

-- there are at most so many columns of the length that is chosen for that
pub columns-few : (most n : ℕ) → 1 ≤ most → div_ceil n (run_length most n) ≤ most
columns-few most n some_columns =
    let room = (div_ceil_times n most some_columns).0 in
    let wide = mul-le-mul_left {m = div_ceil n most} {n = run_length most n} most (omega arith) in
    runs-few n (run_length most n) most (omega arith) (omega arith)

-- and no smaller length is enough
pub runs-short : (most n size : ℕ) → 1 ≤ most → 1 ≤ size → div_ceil n size ≤ most → run_length most n ≤ size
runs-short most n size some_columns some_marks few =
    let room = (div_ceil_times n size some_marks).0 in
    let wide = mul-le-mul_right {m = div_ceil n size} {n = most} size few in
    let less = runs-few n most size some_columns (omega arith) in
    omega arith

-- a fact of each column, from what holds of each run of marks
pub cut-All : {X : Type 0} (P : List X → Type 0) (size : ℕ) (xs : List X) → ((number : ℕ) → P (slice_chunk xs size number)) → All P (cut size xs)
cut-All P size xs each number d less =
    let inside : number < div_ceil (length xs) size = omega (arith, length-map-range_with_len (slice_chunk xs size) 0 (div_ceil (length xs) size)) in
    subst P (sym (get_or-map-range_with_len (slice_chunk xs size) 0 (div_ceil (length xs) size) number number d inside (omega arith))) (each number)
