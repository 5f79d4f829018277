-- How many answers and books a replay has.
use Rattle.std.proofs.Common.{◌≡◌, ℕ, ◌+◌, ◌*◌, ◌-◌, List, [], ◌∷◌, length, map, take, drop, sym, ◌∙◌, ap, arith, length-append}
use Rattle.std.proofs.lemmas.List.{take-append-drop}
use Rattle.fn_core.specs.Calls.{CoreLog}
use Rattle.quota_pool.specs.declared.moved.Moved.{Moved}
use Rattle.trace_text.specs.declared.traces.Cut.{Cut}
use Rattle.trace_text.specs.declared.traces.Row.{Row}
use Rattle.trace_text.specs.declared.traces.Tenant.{Tenant}
use Rattle.replay_run.specs.Segments.{segments_from}
use Rattle.replay_run.specs.Replay.{value_in, AreReplayed}

-- so many and those left are all
all_of : {A : Type 0} (n : ℕ) (xs : List A) → length (take n xs) + length (drop n xs) ≡ length xs
all_of n xs = sym (length-append (take n xs) (drop n xs)) ∙ ap length (take-append-drop n xs)

-- an answer for each row, and a book for each tenant in each segment
pub replayed_counts : (workers before : ℕ) (tenants : List Tenant) (openings : List ℕ) (rows : List Row) (cuts : List Cut) (answers : List Moved) (books : List CoreLog)
    → AreReplayed workers tenants openings (segments_from before rows cuts) answers books → (length answers ≡ length rows) × (length books ≡ (length cuts + 1) * length tenants)
replayed_counts workers before tenants openings rows [] answers books replayed =
    let one = replayed.0.one_each in
    let all = replayed.0.all in
    let answers_in = all_of (length rows) answers in
    let books_in = all_of (length tenants) books in
    let no_answers = ap length replayed.1.0 in
    let no_books = ap length replayed.1.1 in
    (omega arith, omega arith)
replayed_counts workers before tenants openings rows (cut ∷ cuts) answers books replayed =
    let now : List Row = take (cut.rows - before) rows in
    let rest = replayed_counts workers cut.rows tenants (map value_in (take (length tenants) books)) (drop (cut.rows - before) rows) cuts (drop (length now) answers) (drop (length tenants) books) replayed.1 in
    let one = replayed.0.one_each in
    let all = replayed.0.all in
    let answers_in = all_of (length now) answers in
    let books_in = all_of (length tenants) books in
    let rows_in = all_of (cut.rows - before) rows in
    let later_answers = rest.0 in
    let later_books = rest.1 in
    (omega arith, omega arith)
