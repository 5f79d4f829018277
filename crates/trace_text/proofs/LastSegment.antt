-- The sums of one tenant in the last segment, and before one more row or cut.
use Rattle.std.proofs.Common.{◌≡◌, ℕ, ◌+◌, ◌-◌, ◌<◌, ◌≤◌, List, [], ◌∷◌, ◌++◌, length, take, drop, refl, ◌∙◌, arith}
use Rattle.std.specs.Prelude.{◌^◌, min}
use Rattle.std.proofs.lemmas.List.{drop-append-le, take-append-le, take_all}
use Rattle.trace_text.proofs.Segments.{after-cut, behind, cost, ended, inside, sum-push}
use Rattle.trace_text.specs.SoundTrace.{CutsRise, StaysBelow, additions, amounts}
use Rattle.trace_text.specs.TraceLaws.{last_bound, last_rows}
use Rattle.trace_text.specs.declared.traces.Cut.{Cut}
use Rattle.trace_text.specs.declared.traces.Row.{Row}

-- the bound at the next cut
abbrev next : ℕ → ℕ → ℕ → ℕ → List Row → Cut → ℕ
next tenant cap bound before rows cut = min cap (bound + additions tenant (take (cut.rows - before) rows))

-- what the last segment comes to, from the bound at the last cut
pub ended-last : (count : List Row → ℕ) (tenant cap bound before : ℕ) (rows : List Row) (cuts : List Cut)
    → ended count tenant cap bound before rows cuts ≡ last_bound tenant cap bound before rows cuts + count (last_rows before rows cuts)
unfolding ended
ended-last count tenant cap bound before rows [] = refl
ended-last count tenant cap bound before rows (cut ∷ cuts) = ended-last count tenant cap (next tenant cap bound before rows cut) cut.rows (drop (cut.rows - before) rows) cuts

-- the last segment stays below 2^63
pub StaysBelow-last : (tenant cap bound before : ℕ) (rows : List Row) (cuts : List Cut) → StaysBelow tenant cap bound before rows cuts
    → ended (amounts tenant) tenant cap bound before rows cuts < 2 ^ 63
unfolding ended
StaysBelow-last tenant cap bound before rows [] h = h
StaysBelow-last tenant cap bound before rows (cut ∷ cuts) h = StaysBelow-last tenant cap (next tenant cap bound before rows cut) cut.rows (drop (cut.rows - before) rows) cuts h.1

-- sums that stay below 2^63 did so before the last row
pub StaysBelow-unrow : (tenant cap bound before : ℕ) (rows : List Row) (row : Row) (cuts : List Cut) → CutsRise before (before + length rows) cuts
    → StaysBelow tenant cap bound before (rows ++ row ∷ []) cuts → StaysBelow tenant cap bound before rows cuts
StaysBelow-unrow tenant cap bound before rows row [] rises h = let more = sum-push (cost tenant) rows row in omega arith
StaysBelow-unrow tenant cap bound before rows row (cut ∷ cuts) rises h =
    let le = inside before rows cut cuts rises in
    let was = (rw (take-append-le (cut.rows - before) rows (row ∷ []) le, drop-append-le (cut.rows - before) rows (row ∷ []) le) at h) in
    (was.0, StaysBelow-unrow tenant cap (next tenant cap bound before rows cut) cut.rows (drop (cut.rows - before) rows) row cuts (after-cut before rows cut cuts rises) was.1)

-- sums that stay below 2^63 did so before the last cut
pub StaysBelow-uncut : (tenant cap bound before : ℕ) (rows : List Row) (cuts : List Cut) (last : Cut) → CutsRise before (before + length rows) cuts → last.rows ≡ before + length rows
    → StaysBelow tenant cap bound before rows (cuts ++ last ∷ []) → StaysBelow tenant cap bound before rows cuts
StaysBelow-uncut tenant cap bound before rows [] last rises is h =
    let all : length rows ≤ last.rows - before = omega arith in
    (rw (take_all (last.rows - before) rows all) at h.0)
StaysBelow-uncut tenant cap bound before rows (cut ∷ cuts) last rises is h = (
  h.0,
  StaysBelow-uncut tenant cap (next tenant cap bound before rows cut) cut.rows (drop (cut.rows - before) rows) cuts last (after-cut before rows cut cuts rises)
      (is ∙ behind before rows cut cuts rises) h.1,
)
