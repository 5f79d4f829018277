-- The words of a funnel that has just been opened.
use Rattle.std.proofs.Common.{◌≡◌, ℕ, zero, suc, ◌+◌, ◌-◌, ◌*◌, ◌/◌, ◌^◌, ◌<◌, ◌≤◌, inl, inr, List, [], ◌∷◌, ◌++◌, length, map, refl, sym, ◌∙◌, ap, subst, arith}
use Rattle.std.specs.Prelude.{Some, slice_get, sum, option_map}
use Rattle.std.proofs.lemmas.Bool.{cases_lt}
use Rattle.std.proofs.lemmas.List.{length-append}
use Rattle.std.proofs.lemmas.Nat.{pow_pos, le-div}
use Rattle.std.proofs.lemmas.Option.{slice_get-map, slice_get-get_or}
use Rattle.std.proofs.Math.Nat.{mul-pos}
use Rattle.fn_model.specs.declared.Kind.TheVariants.{Add, Sub, Read}
use Rattle.fn_rows.specs.Aggregator.{Aggregator, Starts}
use Rattle.fn_rows.specs.Trace.{nothing}
use Rattle.fn_layout.specs.declared.shape.Shape.{Shape}
use Rattle.fn_layout.specs.Tree.{width_above, width, first_widths, first_leaf, leaves_under, members}
use Rattle.fn_layout.specs.Words.{aggregators}
use Rattle.fn_layout.proofs.Members.{first_leaf_within, members-is}
use Rattle.fn_core.specs.declared.machine.Machine.{Machine}
use Rattle.fn_core.specs.declared.machine.Standing.{Standing}
use Rattle.fn_core.specs.State.{Start, opened}
use Rattle.fn_core.specs.Machine.{IsStart, no_cap}
use Rattle.fn_core.specs.Fields.{IsPlace, ArePlaces, AreStandings, Stands}
use Rattle.fn_core.specs.Opening.{IsUnreachedAt, AreFirst, AreLevel, AreBelow, AreKind, unreached, resting}

-- an aggregator of the shape has a member
pub members_some : (s : Shape) (level index : ℕ) → index < width s level → 1 ≤ members s level index
members_some s level index inside =
    let under : ℕ = leaves_under s level index in
    let turns : ℕ = s.passes / s.leaves in
    let first : first_leaf level index < s.leaves = first_leaf_within s level index inside in
    let power : 0 < 2 ^ (level - 1) = pow_pos (level - 1) in
    let leaves : (1 ≤ s.leaves) × (s.leaves ≤ s.passes) = (omega (arith, s.leaves_in_range), omega (arith, s.leaves_in_range)) in
    let reached : 0 < under = omega (arith, first, power) in
    let turned : 1 ≤ turns = le-div 1 s.passes s.leaves leaves.0 (omega (arith, leaves)) in
    let product : 0 < turns * under = mul-pos turned reached in
    omega (arith, members-is s level index under (first_leaf level index) refl refl, product)

get_left : {A : Type 0} (xs ys : List A) (i : ℕ) (a : A) → slice_get xs i ≡ Some a → slice_get (xs ++ ys) i ≡ Some a
get_left [] ys i a is = absurd (cc)
get_left (x ∷ xs) ys zero a is = is
get_left (x ∷ xs) ys (suc i) a is = get_left xs ys i a is

get_right : {A : Type 0} (xs ys : List A) (k i : ℕ) → k ≡ length xs + i → slice_get (xs ++ ys) k ≡ slice_get ys i
get_right [] ys k i e = ap (slice_get ys) (let same : k ≡ i = omega (arith, e) in same)
get_right (x ∷ xs) ys zero i e = absurd (omega (arith, e))
get_right (x ∷ xs) ys (suc k) i e = get_right xs ys k i (omega (arith, e))

-- an aggregator keeps its place in a longer list
stands_left : (shape : Shape) (xs ys : List Aggregator) (at level index : ℕ) → IsUnreachedAt shape xs at level index → IsUnreachedAt shape (xs ++ ys) at level index
stands_left shape xs ys at level index (a, is, place) = (a, get_left xs ys at a is, place)

stands_right : (shape : Shape) (xs ys : List Aggregator) (k at level index : ℕ) → k ≡ length xs + at → IsUnreachedAt shape ys at level index → IsUnreachedAt shape (xs ++ ys) k level index
stands_right shape xs ys k at level index e (a, is, place) = (a, get_right xs ys k at e ∙ is, place)

-- an aggregator that was just made
pub place_starts : (shape : Shape) (level index m r : ℕ) (a : Aggregator) → m ≡ members shape level index → r ≡ shape.rows → Starts a m r → IsPlace shape level index nothing a
place_starts shape level index m r a few some starts = record {
  members_are = starts.members ∙ few;
  rows_are = starts.rows ∙ some;
  state_is = starts.state;
}

-- one more aggregator of a level
pub first_push : (shape : Shape) (level n : ℕ) (places : List Aggregator) (a : Aggregator) → AreFirst shape level n places → IsPlace shape level n nothing a → AreFirst shape level (n + 1) (places ++ a ∷ [])
first_push shape level n places a (size, all) place = (
  omega (arith, size, length-append places (a ∷ [])),
  λ index less. elim (cases_lt index n) [
    | inl older ↦ stands_left shape places (a ∷ []) index level index (all index older)
    | inr last ↦
        let same : n ≡ index = omega (arith, less, last) in
        stands_right shape places (a ∷ []) index 0 level index (omega (arith, size, same)) (a, refl, subst (λ (i : ℕ). IsPlace shape level i nothing a) same place)
  ],
)

-- one more level
pub below_push : (shape : Shape) (level : ℕ) (lower places : List Aggregator) → 1 ≤ level → AreBelow shape level lower → AreLevel shape level places → AreBelow shape (level + 1) (lower ++ places)
below_push shape zero lower places low below these = absurd (omega (arith, low))
below_push shape (suc l) lower places low (size, all) (count, each) =
    let next : suc l + 1 - 1 ≡ suc l = omega arith in
    let here : suc l - 1 ≡ l = omega arith in
    let wide : length places ≡ width_above shape.leaves l = count in
    let sums : first_widths shape.leaves (suc l) ≡ first_widths shape.leaves l + width_above shape.leaves l = refl in (
      omega (arith, size, wide, sums, length-append lower places, ap (first_widths shape.leaves) next, ap (first_widths shape.leaves) here),
      λ level index some less inside. elim (cases_lt level (suc l)) [
        | inl older ↦ stands_left shape lower places (first_widths shape.leaves (level - 1) + index) level index (all level index some older inside)
        | inr last ↦
            let same : suc l ≡ level = omega (arith, less, last) in
            subst (λ (x : ℕ). index < width shape x → IsUnreachedAt shape (lower ++ places) (first_widths shape.leaves (x - 1) + index) x index) same
            (λ within. stands_right shape lower places (first_widths shape.leaves (suc l - 1) + index) index (suc l) index (omega (arith, size)) (each index within)) inside
      ],
    )

-- the aggregators of both kinds
pub kinds_are : (shape : Shape) (adds subs : List Aggregator) → AreKind shape adds → AreKind shape subs → ArePlaces shape (adds ++ subs) unreached
kinds_are shape adds subs (count, all) (count', all') Add level index (is, levels, inside) =
    let here = all level index levels.0 (omega (arith, levels.1)) inside in
    let at : 0 * aggregators shape + (first_widths shape.leaves (level - 1) + index) ≡ first_widths shape.leaves (level - 1) + index = omega arith in
    subst (λ (k : ℕ). IsUnreachedAt shape (adds ++ subs) k level index) (sym at) (stands_left shape adds subs (first_widths shape.leaves (level - 1) + index) level index here)
kinds_are shape adds subs (count, all) (count', all') Sub level index (is, levels, inside) =
    let here = all' level index levels.0 (omega (arith, levels.1)) inside in
    stands_right shape adds subs (1 * aggregators shape + (first_widths shape.leaves (level - 1) + index)) (first_widths shape.leaves (level - 1) + index) level index (let top : shape.levels + 1 - 1 ≡ shape.levels = omega arith in omega (arith, count, ap (first_widths shape.leaves) top)) here
kinds_are shape adds subs (count, all) (count', all') Read level index (is, levels, inside) = absurd (is refl)

-- the passes rest
pub standings_are : (start : Start) → length start.allowances ≡ start.shape.passes → AreStandings start.shape (map resting start.allowances) (opened start).callers
standings_are start each pass inside =
    slice_get-map resting start.allowances pass ∙ ap (option_map resting) (slice_get-get_or start.allowances pass 0 (omega (arith, each, inside)))

-- a machine that has just been opened
pub stands_open : (m : Machine) → IsStart m.start → m.main ≡ m.start.opening → ArePlaces m.start.shape m.rows.items unreached → m.standings.items ≡ map resting m.start.allowances → Stands m []
stands_open m ok main places rests = record {
  start_ok = ok;
  legal = tt;
  fields = record {
    main_is = main;
    places = places;
    standings = subst (λ (xs : List Standing). AreStandings m.start.shape xs (opened m.start).callers) (sym rests) (standings_are m.start ok.one_each);
  };
}

-- the numbers with which a funnel may open
pub start_is : (shape : Shape) (opening cap : ℕ) (allowances : List ℕ) → length allowances ≡ shape.passes → cap ≤ no_cap → opening ≤ cap → opening + sum allowances < 2 ^ 63 → IsStart (record { shape = shape; opening = opening; cap = cap; allowances = allowances })
start_is shape opening cap allowances each limit below small = record {
  shape = record {
    passes = omega (arith, shape.passes_in_range);
    leaves = omega (arith, shape.leaves_in_range);
    levels = omega (arith, shape.levels_in_range);
    rows = omega (arith, shape.rows_in_range);
  };
  opening = below;
  cap = limit;
  one_each = each;
  sum = small;
}
