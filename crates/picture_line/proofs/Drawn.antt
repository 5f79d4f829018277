-- The bars of columns.
use Rattle.std.proofs.Common.{◌≡◌, ℕ, suc, ◌-◌, ◌<◌, ◌≤◌, List, [], ◌∷◌, ◌++◌, length, get_or, map, take, refl, sym, ap, ◌∙◌, subst, arith, Bor}
use Rattle.std.proofs.lemmas.List.{get_or-map, length-map, take_all}
use Rattle.std.specs.Fork.{slice_chunk}
use Rattle.std.specs.List.{flat_map}
use Rattle.picture_line.specs.Line.{column_bar, left_by}
use Rattle.picture_marks.specs.Marks.{columns_of, greatest_of, run_length, top}
use Rattle.picture_marks.specs.declared.marks.Heading.{Heading}
use Rattle.picture_marks.specs.declared.marks.Mark.{Mark}
use Rattle.picture_marks.proofs.Bounds.{greatest_of-chunk}
use Rattle.picture_marks.proofs.Cuts.{cut-All}

-- the value that the last mark left, by its place
pub left_by-last : (marks : List Mark) (d : Mark) → 1 ≤ length marks → (get_or marks (length marks - 1) d).after ≡ left_by marks
left_by-last [] d some_marks = absurd (omega arith)
left_by-last (mark ∷ []) d some_marks = refl
left_by-last (mark ∷ next ∷ marks) d some_marks =
    let place : length (mark ∷ next ∷ marks) - 1 ≡ suc (length (next ∷ marks) - 1) = omega arith in
    ap (λ n. (get_or (mark ∷ next ∷ marks) n d).after) place ∙ left_by-last (next ∷ marks) d (omega arith)

-- it isn't above the greatest number
left_by-below : (marks : List Mark) → left_by marks ≤ greatest_of marks
left_by-below [] = omega arith
left_by-below (mark ∷ []) = omega arith
left_by-below (mark ∷ next ∷ marks) = let rest = left_by-below (next ∷ marks) in omega arith

-- what a column leaves stands below the top
column-below : (most : ℕ) (heading : Heading) (marks : List Mark) (items : List (Bor (List Mark))) (i : ℕ) (d : Bor (List Mark)) → map (λ column. column.now) items ≡ columns_of most marks
    → i < length items → left_by (get_or items i d).now ≤ top heading marks
column-below most heading marks items i d cut inside =
    let now = λ (column : Bor (List Mark)). column.now in
    let size = run_length most (length marks) in
    let each = cut-All (λ (column : List Mark). left_by column ≤ top heading marks) size marks
    (λ number. let below = left_by-below (slice_chunk marks size number) in let within = greatest_of-chunk size marks number in omega arith) in
    let as_many : length items ≡ length (columns_of most marks) = sym (length-map items now) ∙ ap length cut in
    let column : get_or (columns_of most marks) i d.now ≡ (get_or items i d).now = ap (λ l. get_or l i d.now) (sym cut) ∙ get_or-map now items i d d.now inside in
    subst (λ (column : List Mark). left_by column ≤ top heading marks) column (each i d.now (omega arith))

-- .. where the column was read from a vector, and the top computed
pub left-within : (most : ℕ) (heading : Heading) (marks : List Mark) (items held : List (Bor (List Mark))) (i : ℕ) (d : Bor (List Mark)) (left highest : ℕ) → items ≡ held
    → map (λ column. column.now) held ≡ columns_of most marks → i < length items → left ≡ left_by (get_or items i d).now → highest ≡ top heading marks → left ≤ highest
left-within most heading marks items held i d left highest same cut inside is room =
    let now = λ (column : Bor (List Mark)). column.now in
    let below = column-below most heading marks items i d (ap (map now) same ∙ cut) inside in
    omega arith

-- a text of each column is one of each item that holds a column
flat_map-now : (f : List Mark → List ℕ) (items : List (Bor (List Mark))) → flat_map (λ column. f column.now) items ≡ flat_map f (map (λ column. column.now) items)
flat_map-now f [] = refl
flat_map-now f (item ∷ items) = ap (λ rest. f item.now ++ rest) (flat_map-now f items)

-- and so the bars of all items are those of all columns
pub bars-drawn : (highest room : ℕ) (items held : List (Bor (List Mark))) (columns : List (List Mark)) (i : ℕ) → length items ≤ i → items ≡ held → map (λ column. column.now) held ≡ columns → highest ≡ room
    → flat_map (λ column. column_bar highest column.now) (take i items) ≡ flat_map (column_bar room) columns
bars-drawn highest room items held columns i past same cut is =
    let draws = λ (column : Bor (List Mark)). column_bar highest column.now in
    ap (flat_map draws) (take_all i items past ∙ same) ∙ flat_map-now (column_bar highest) held ∙ ap (flat_map (column_bar highest)) cut ∙ ap (λ n. flat_map (column_bar n) columns) is
