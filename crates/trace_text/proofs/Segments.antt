-- The sums of one tenant, segment by segment, where rows and cuts come one after the other.
use Rattle.std.proofs.Common.{◌≡◌, ℕ, ◌+◌, ◌-◌, ◌<◌, ◌≤◌, false, List, [], ◌∷◌, ◌++◌, length, get_or, take, drop, ◌∙◌, arith, ne_eqb, length-drop}
use Rattle.std.specs.Prelude.{◌==◌, ◌^◌, min, if◌then◌else◌}
use Rattle.std.specs.List.{All, sum_by}
use Rattle.std.proofs.lemmas.List.{drop-append-le, drop_all, take-append-le, take_all}
use Rattle.std.proofs.lemmas.List.Elements.{All-drop, All-take}
use Rattle.std.proofs.lemmas.List.Sums.{sum_by-append, sum_by-cons, sum_by-le}
use Rattle.trace_text.specs.SoundTrace.{CutsRise, StaysBelow, additions, amounts}
use Rattle.trace_text.specs.Trace.{added}
use Rattle.trace_text.specs.declared.traces.Cut.{Cut}
use Rattle.trace_text.specs.declared.traces.Row.{Row}

-- what a row adds to the amounts of a tenant, and to what can be added
abbrev pub cost : ℕ → Row → ℕ
cost tenant row = if row.tenant == tenant then row.amount else 0

abbrev pub gain : ℕ → Row → ℕ
gain tenant row = if row.tenant == tenant then added row.op row.amount else 0

-- the bound of a tenant after some rows of a segment
abbrev bound_after : ℕ → ℕ → ℕ → List Row → ℕ
bound_after tenant cap bound rows = min cap (bound + additions tenant rows)

-- the bound of a tenant with what the rows of the last segment come to, counted in this way
unfoldable pub ended : (List Row → ℕ) → ℕ → ℕ → ℕ → ℕ → List Row → List Cut → ℕ
ended count tenant cap bound before rows [] = bound + count rows
ended count tenant cap bound before rows (cut ∷ cuts) =
    ended count tenant cap (bound_after tenant cap bound (take (cut.rows - before) rows)) cut.rows (drop (cut.rows - before) rows) cuts

-- the bound of a tenant with all that the last segment can add, and with all its amounts
abbrev pub reached : ℕ → ℕ → ℕ → List Row → List Cut → ℕ
reached tenant cap bound rows cuts = ended (additions tenant) tenant cap bound 0 rows cuts

abbrev pub spent_in : ℕ → ℕ → ℕ → List Row → List Cut → ℕ
spent_in tenant cap bound rows cuts = ended (amounts tenant) tenant cap bound 0 rows cuts

-- cuts that rise begin at most at the end
CutsRise-most : (before all : ℕ) (cuts : List Cut) → CutsRise before all cuts → before ≤ all
CutsRise-most before all [] h = h
CutsRise-most before all (cut ∷ cuts) h = let rest = CutsRise-most cut.rows all cuts h.1 in let first = h.0 in omega arith

-- one more row, and a cut at the end
pub CutsRise-more : (before all : ℕ) (cuts : List Cut) → CutsRise before all cuts → CutsRise before (all + 1) cuts
CutsRise-more before all [] h = omega arith
CutsRise-more before all (cut ∷ cuts) h = (h.0, CutsRise-more cut.rows all cuts h.1)

pub CutsRise-cut : (before all : ℕ) (cuts : List Cut) (last : Cut) → CutsRise before all cuts → last.rows ≡ all → CutsRise before all (cuts ++ last ∷ [])
CutsRise-cut before all [] last h is = (omega arith, omega arith)
CutsRise-cut before all (cut ∷ cuts) last h is = (h.0, CutsRise-cut cut.rows all cuts last h.1 is)

-- the rows after a cut
pub inside : (before : ℕ) (rows : List Row) (cut : Cut) (cuts : List Cut) → CutsRise before (before + length rows) (cut ∷ cuts) → cut.rows - before ≤ length rows
inside before rows cut cuts h = let most = CutsRise-most cut.rows (before + length rows) cuts h.1 in omega arith

pub behind : (before : ℕ) (rows : List Row) (cut : Cut) (cuts : List Cut) → CutsRise before (before + length rows) (cut ∷ cuts)
    → before + length rows ≡ cut.rows + length (drop (cut.rows - before) rows)
behind before rows cut cuts h =
    let most = CutsRise-most cut.rows (before + length rows) cuts h.1 in let first = h.0 in omega (arith, length-drop (cut.rows - before) rows)

pub after-cut : (before : ℕ) (rows : List Row) (cut : Cut) (cuts : List Cut) → CutsRise before (before + length rows) (cut ∷ cuts)
    → CutsRise cut.rows (cut.rows + length (drop (cut.rows - before) rows)) cuts
after-cut before rows cut cuts h = let same = behind before rows cut cuts h in rw same at h.1

-- sums with one more row
pub sum-push : {X : Type 0} (f : X → ℕ) (xs : List X) (x : X) → sum_by f (xs ++ x ∷ []) ≡ sum_by f xs + f x
sum-push f xs x = let all = sum_by-append f xs (x ∷ []) in let one = sum_by-cons f x [] in omega arith

-- one more row
pub ended-row : (f : Row → ℕ) (tenant cap bound before : ℕ) (rows : List Row) (row : Row) (cuts : List Cut) → CutsRise before (before + length rows) cuts
    → ended (sum_by f) tenant cap bound before (rows ++ row ∷ []) cuts ≡ ended (sum_by f) tenant cap bound before rows cuts + f row
unfolding ended
ended-row f tenant cap bound before rows row [] h = let more = sum-push f rows row in omega arith
ended-row f tenant cap bound before rows row (cut ∷ cuts) h =
    let le = inside before rows cut cuts h in
    rw (take-append-le (cut.rows - before) rows (row ∷ []) le, drop-append-le (cut.rows - before) rows (row ∷ []) le)
    (ended-row f tenant cap (bound_after tenant cap bound (take (cut.rows - before) rows)) cut.rows (drop (cut.rows - before) rows) row cuts (after-cut before rows cut cuts h))

pub StaysBelow-row : (tenant cap bound before : ℕ) (rows : List Row) (row : Row) (cuts : List Cut) → CutsRise before (before + length rows) cuts
    → StaysBelow tenant cap bound before rows cuts → ended (amounts tenant) tenant cap bound before rows cuts + cost tenant row < 2 ^ 63
    → StaysBelow tenant cap bound before (rows ++ row ∷ []) cuts
unfolding ended
StaysBelow-row tenant cap bound before rows row [] h was small = let more = sum-push (cost tenant) rows row in omega arith
StaysBelow-row tenant cap bound before rows row (cut ∷ cuts) h was small =
    let le = inside before rows cut cuts h in
    rw (take-append-le (cut.rows - before) rows (row ∷ []) le, drop-append-le (cut.rows - before) rows (row ∷ []) le)
    (was.0, StaysBelow-row tenant cap (bound_after tenant cap bound (take (cut.rows - before) rows)) cut.rows (drop (cut.rows - before) rows) row cuts (after-cut before rows cut cuts h) was.1 small)

-- one more cut at the end
pub ended-cut : (count : List Row → ℕ) (tenant cap bound before : ℕ) (rows : List Row) (cuts : List Cut) (last : Cut) → count [] ≡ 0
    → CutsRise before (before + length rows) cuts → last.rows ≡ before + length rows
    → ended count tenant cap bound before rows (cuts ++ last ∷ []) ≡ min cap (ended (additions tenant) tenant cap bound before rows cuts)
unfolding ended
ended-cut count tenant cap bound before rows [] last none h is =
    let all : length rows ≤ last.rows - before = omega arith in
    rw (take_all (last.rows - before) rows all, drop_all (last.rows - before) rows all) (omega arith)
ended-cut count tenant cap bound before rows (cut ∷ cuts) last none h is =
    ended-cut count tenant cap (bound_after tenant cap bound (take (cut.rows - before) rows)) cut.rows (drop (cut.rows - before) rows) cuts last none (after-cut before rows cut cuts h)
    (is ∙ behind before rows cut cuts h)

pub StaysBelow-cut : (tenant cap bound before : ℕ) (rows : List Row) (cuts : List Cut) (last : Cut) → CutsRise before (before + length rows) cuts → last.rows ≡ before + length rows
    → StaysBelow tenant cap bound before rows cuts → min cap (ended (additions tenant) tenant cap bound before rows cuts) < 2 ^ 63
    → StaysBelow tenant cap bound before rows (cuts ++ last ∷ [])
unfolding ended
StaysBelow-cut tenant cap bound before rows [] last h is was small =
    let all : length rows ≤ last.rows - before = omega arith in
    rw (take_all (last.rows - before) rows all, drop_all (last.rows - before) rows all) (was, omega arith)
StaysBelow-cut tenant cap bound before rows (cut ∷ cuts) last h is was small = (
  was.0,
  StaysBelow-cut tenant cap (bound_after tenant cap bound (take (cut.rows - before) rows)) cut.rows (drop (cut.rows - before) rows) cuts last (after-cut before rows cut cuts h)
      (is ∙ behind before rows cut cuts h) was.1 small,
)

-- a tenant that no row names: what counts its own rows alone comes to nothing
abbrev pub CountsOwn : ℕ → (Row → ℕ) → Type 0
CountsOwn tenant f = (row : Row) → row.tenant < tenant → f row ≤ 0

own-alone : (tenant n : ℕ) (row : Row) → row.tenant < tenant → (if row.tenant == tenant then n else 0) ≤ 0
own-alone tenant n row less =
    let other : (row.tenant == tenant) ≡ false = ne_eqb row.tenant tenant (λ same. absurd (omega (arith, same))) in rw other (omega arith)

pub cost-own : (tenant : ℕ) → CountsOwn tenant (cost tenant)
cost-own tenant row less = own-alone tenant row.amount row less

pub gain-own : (tenant : ℕ) → CountsOwn tenant (gain tenant)
gain-own tenant row less = own-alone tenant (added row.op row.amount) row less

sum-none : (f : Row → ℕ) (tenant : ℕ) (rows : List Row) → CountsOwn tenant f → All (λ row. row.tenant < tenant) rows → sum_by f rows ≡ 0
sum-none f tenant rows own h = let small = sum_by-le f 0 rows (λ k d less. own (get_or rows k d) (h k d less)) in omega arith

none-taken : (tenant n : ℕ) (rows : List Row) → All (λ row. row.tenant < tenant) rows → All (λ row. row.tenant < tenant) (take n rows)
none-taken tenant n rows h = All-take (λ (row : Row). row.tenant < tenant) n rows h

none-dropped : (tenant n : ℕ) (rows : List Row) → All (λ row. row.tenant < tenant) rows → All (λ row. row.tenant < tenant) (drop n rows)
none-dropped tenant n rows h = All-drop (λ (row : Row). row.tenant < tenant) n rows h

bound-kept : (tenant cap bound : ℕ) (rows : List Row) → All (λ row. row.tenant < tenant) rows → bound ≤ cap → bound_after tenant cap bound rows ≡ bound
bound-kept tenant cap bound rows h le = let none = sum-none (gain tenant) tenant rows (gain-own tenant) h in omega arith

pub ended-fresh : (f : Row → ℕ) (tenant cap bound before : ℕ) (rows : List Row) (cuts : List Cut) → CountsOwn tenant f → All (λ row. row.tenant < tenant) rows → bound ≤ cap
    → ended (sum_by f) tenant cap bound before rows cuts ≡ bound
unfolding ended
ended-fresh f tenant cap bound before rows [] own h le = let none = sum-none f tenant rows own h in omega arith
ended-fresh f tenant cap bound before rows (cut ∷ cuts) own h le =
    rw (bound-kept tenant cap bound (take (cut.rows - before) rows) (none-taken tenant (cut.rows - before) rows h) le)
    (ended-fresh f tenant cap bound cut.rows (drop (cut.rows - before) rows) cuts own (none-dropped tenant (cut.rows - before) rows h) le)

pub StaysBelow-fresh : (tenant cap bound before : ℕ) (rows : List Row) (cuts : List Cut) → All (λ row. row.tenant < tenant) rows → bound ≤ cap → bound < 2 ^ 63
    → StaysBelow tenant cap bound before rows cuts
StaysBelow-fresh tenant cap bound before rows [] h le small = let none = sum-none (cost tenant) tenant rows (cost-own tenant) h in omega arith
StaysBelow-fresh tenant cap bound before rows (cut ∷ cuts) h le small =
    let none = sum-none (cost tenant) tenant (take (cut.rows - before) rows) (cost-own tenant) (none-taken tenant (cut.rows - before) rows h) in (
      omega arith,
      rw (bound-kept tenant cap bound (take (cut.rows - before) rows) (none-taken tenant (cut.rows - before) rows h) le)
          (StaysBelow-fresh tenant cap bound cut.rows (drop (cut.rows - before) rows) cuts (none-dropped tenant (cut.rows - before) rows h) le small),
    )
