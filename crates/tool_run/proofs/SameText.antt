-- What a script says tells the script.
use Rattle.std.proofs.Common.{◌≡◌, ◌≤◌, ℕ, sym, ◌∙◌, ap, subst}
use Rattle.std.proofs.Math.Bridge.{le_prop}
use Rattle.fn_layout.specs.declared.shape.Shape.{Shape}
use Rattle.fn_layout.specs.declared.shape.TheConstants.{MAX_PASSES, MAX_LEAVES, MAX_LEVELS, MAX_ROWS}
use Rattle.script_text.specs.Script.{content}
use Rattle.script_text.specs.declared.scripts.Script.{Script}
use Rattle.script_text.specs.declared.scripts.ScriptLine.{ScriptLine}
use Rattle.std.specs.Prelude.{List}
use Rattle.script_run.specs.Play.{play_text}

two-same : (a b c d : ℕ) (x y : (a ≤ b) × (c ≤ d)) → x ≡ y
two-same a b c d x y =
    let first : (x.0, x.1) ≡ (y.0, x.1) = ap (λ (u : a ≤ b). (u, x.1)) (le_prop x.0 y.0) in
    let second : (y.0, x.1) ≡ (y.0, y.1) = ap (λ (u : c ≤ d). (y.0, u)) (le_prop x.1 y.1) in
    first ∙ second

three-same : (a b c d e f : ℕ) (x y : (a ≤ b) × (c ≤ d) × (e ≤ f)) → x ≡ y
three-same a b c d e f x y =
    let first : (x.0, x.1, x.2) ≡ (y.0, x.1, x.2) = ap (λ (u : a ≤ b). (u, x.1, x.2)) (le_prop x.0 y.0) in
    let second : (y.0, x.1, x.2) ≡ (y.0, y.1, x.2) = ap (λ (u : c ≤ d). (y.0, u, x.2)) (le_prop x.1 y.1) in
    let third : (y.0, y.1, x.2) ≡ (y.0, y.1, y.2) = ap (λ (u : e ≤ f). (y.0, y.1, u)) (le_prop x.2 y.2) in
    first ∙ second ∙ third

-- a shape by its numbers
abbrev shape_of : (p l v r : ℕ) → (1 ≤ p) × (p ≤ MAX_PASSES) → (1 ≤ l) × (l ≤ p) × (l ≤ MAX_LEAVES) → (1 ≤ v) × (v ≤ MAX_LEVELS) → (1 ≤ r) × (r ≤ MAX_ROWS) → Shape
shape_of p l v r a b c d = record { passes = p; leaves = l; levels = v; rows = r; passes_in_range = a; leaves_in_range = b; levels_in_range = c; rows_in_range = d }

abbrev Is : Shape → ℕ → ℕ → ℕ → ℕ → Type 0
Is s p l v r = (a : (1 ≤ p) × (p ≤ MAX_PASSES)) (b : (1 ≤ l) × (l ≤ p) × (l ≤ MAX_LEAVES)) (c : (1 ≤ v) × (v ≤ MAX_LEVELS)) (d : (1 ≤ r) × (r ≤ MAX_ROWS)) → shape_of p l v r a b c d ≡ s

own-numbers : (s : Shape) → Is s s.passes s.leaves s.levels s.rows
own-numbers s a b c d =
    ap (λ x. shape_of s.passes s.leaves s.levels s.rows x b c d) (two-same _ _ _ _ a s.passes_in_range)
    ∙ ap (λ x. shape_of s.passes s.leaves s.levels s.rows s.passes_in_range x c d) (three-same _ _ _ _ _ _ b s.leaves_in_range)
    ∙ ap (λ x. shape_of s.passes s.leaves s.levels s.rows s.passes_in_range s.leaves_in_range x d) (two-same _ _ _ _ c s.levels_in_range)
    ∙ ap (λ x. shape_of s.passes s.leaves s.levels s.rows s.passes_in_range s.leaves_in_range s.levels_in_range x) (two-same _ _ _ _ d s.rows_in_range)

-- shapes with the same numbers are the same
same-shape : (s t : Shape) → t.passes ≡ s.passes → t.leaves ≡ s.leaves → t.levels ≡ s.levels → t.rows ≡ s.rows → s ≡ t
same-shape s t p l v r =
    let first : Is t s.passes t.leaves t.levels t.rows = subst (λ x. Is t x t.leaves t.levels t.rows) p (own-numbers t) in
    let second : Is t s.passes s.leaves t.levels t.rows = subst (λ x. Is t s.passes x t.levels t.rows) l first in
    let third : Is t s.passes s.leaves s.levels t.rows = subst (λ x. Is t s.passes s.leaves x t.rows) v second in
    let fourth : Is t s.passes s.leaves s.levels s.rows = subst (λ x. Is t s.passes s.leaves s.levels x) r third in
    fourth s.passes_in_range s.leaves_in_range s.levels_in_range s.rows_in_range

-- .. and so are scripts that say the same
same-script : (a b : Script) → a.shape ≡ b.shape → a.opening ≡ b.opening → a.lines ≡ b.lines → play_text a ≡ play_text b
same-script a b shape opening lines =
    let first : play_text a ≡ play_text (record { shape = b.shape; opening = a.opening; lines = a.lines }) = ap (λ (x : Shape). play_text (record { shape = x; opening = a.opening; lines = a.lines })) shape in
    let second : play_text (record { shape = b.shape; opening = a.opening; lines = a.lines }) ≡ play_text (record { shape = b.shape; opening = b.opening; lines = a.lines }) = ap (λ (x : ℕ). play_text (record { shape = b.shape; opening = x; lines = a.lines })) opening in
    let third : play_text (record { shape = b.shape; opening = b.opening; lines = a.lines }) ≡ play_text b = ap (λ (x : List ScriptLine). play_text (record { shape = b.shape; opening = b.opening; lines = x })) lines in
    first ∙ second ∙ third

pub same-text : (a b : Script) → content a ≡ content b → play_text a ≡ play_text b
same-text a b e =
    let shape : a.shape ≡ b.shape = same-shape a.shape b.shape (sym (ap (λ x. x.header.passes) e)) (sym (ap (λ x. x.header.leaves) e)) (sym (ap (λ x. x.header.levels) e)) (sym (ap (λ x. x.header.rows) e)) in
    same-script a b shape (ap (λ x. x.header.opening) e) (ap (λ x. x.lines) e)
