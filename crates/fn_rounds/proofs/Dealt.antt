-- One more line that is dealt to the lane of its pass.
use Rattle.std.proofs.Common.{◌≡◌, ◌+◌, ◌<◌, ℕ, zero, suc, List, [], ◌∷◌, ◌++◌, length, map, take, drop, set, get_or, refl, sym, ap, ◌∙◌, arith}
use Rattle.std.proofs.lemmas.List.{take_more}
use Rattle.running.specs.Running.{numbers_from, upto}
use Rattle.fn_model.specs.declared.Kind.{Kind}
use Rattle.fn_table.specs.Seen.{PassView}
use Rattle.script_text.specs.declared.scripts.ScriptLine.{ScriptLine}
use Rattle.fn_rounds.specs.declared.lanes.Lane.{Lane}
use Rattle.fn_rounds.specs.Script.{order_of, orders_of}
use Rattle.fn_rounds.specs.Dealing.{lane_for, lanes_for}
use Rattle.fn_rounds.proofs.LineOrders.{no_line, orders_more, orders_same}

abbrev numbers : List PassView → List ℕ
numbers passes = map (λ (p : PassView). p.number) passes

-- the first number, and the others
first_number : (p : PassView) (passes : List PassView) (from : ℕ) → numbers (p ∷ passes) ≡ numbers_from from (suc (length passes)) → (p.number ≡ from) × (numbers passes ≡ numbers_from (suc from) (length passes))
first_number p passes from all = (ap (λ (ns : List ℕ). get_or ns 0 0) all, ap (λ (ns : List ℕ). drop 1 ns) all)

module _ (lines : List ScriptLine) (line : ScriptLine) where
  abbrev more : List ScriptLine
  more = lines ++ line ∷ []

  with_orders : (p : PassView) (os : List (Kind × ℕ)) → orders_of p.number more ≡ os → (let lane : Lane = record { pass = p; orders = os } in lane ≡ lane_for more p)
  with_orders p os is = ap (λ (xs : List (Kind × ℕ)). let lane : Lane = record { pass = p; orders = xs } in lane) (sym is)

  -- the lanes of other passes stay
  lanes_stay : (passes : List PassView) (from : ℕ) → numbers passes ≡ numbers_from from (length passes) → line.pass < from → lanes_for lines passes ≡ lanes_for more passes
  lanes_stay [] from all before = refl
  lanes_stay (p ∷ passes) from all before =
      let parts = first_number p passes from all in
      let number : p.number ≡ from = parts.0 in
      let here : lane_for lines p ≡ lane_for more p = with_orders p (orders_of p.number lines) (orders_same p.number lines line (λ is. omega (arith, is, number, before))) in
      let rest : lanes_for lines passes ≡ lanes_for more passes = lanes_stay passes (suc from) parts.1 (omega (arith, before)) in
      λ i. here i ∷ rest i

  -- and the lane of the line's pass has its order last
  lane_set : (passes : List PassView) (from j : ℕ) → numbers passes ≡ numbers_from from (length passes) → j < length passes → line.pass ≡ from + j → (d lane : Lane)
      → lane ≡ record (get_or (lanes_for lines passes) j d) { orders = (get_or (lanes_for lines passes) j d).orders ++ order_of line.order ∷ [] } → set (lanes_for lines passes) j lane ≡ lanes_for more passes
  lane_set [] from j all below here d lane is = absurd (omega arith)
  lane_set (p ∷ passes) from zero all below here d lane is =
      let parts = first_number p passes from all in
      let number : p.number ≡ from = parts.0 in
      let mine : line.pass ≡ p.number = omega (arith, here, number) in
      let first : lane ≡ lane_for more p = is ∙ with_orders p (orders_of p.number lines ++ order_of line.order ∷ []) (orders_more p.number lines line mine) in
      let rest : lanes_for lines passes ≡ lanes_for more passes = lanes_stay passes (suc from) parts.1 (omega (arith, here)) in
      λ i. first i ∷ rest i
  lane_set (p ∷ passes) from (suc j) all below here d lane is =
      let parts = first_number p passes from all in
      let number : p.number ≡ from = parts.0 in
      let first : lane_for lines p ≡ lane_for more p = with_orders p (orders_of p.number lines) (orders_same p.number lines line (λ same. omega (arith, same, number, here))) in
      let rest : set (lanes_for lines passes) j lane ≡ lanes_for more passes = lane_set passes (suc from) j parts.1 (omega (arith, below)) (omega (arith, here)) d lane is in
      λ i. first i ∷ rest i

-- one more of the lines
pub dealt_more : (lines : List ScriptLine) (i : ℕ) (passes : List PassView) (lanes : List Lane) (old new : Lane) → i < length lines → numbers passes ≡ upto (length passes) → (get_or lines i no_line).pass < length passes
    → lanes ≡ lanes_for (take i lines) passes → old ≡ get_or lanes (get_or lines i no_line).pass old → new ≡ record old { orders = old.orders ++ order_of (get_or lines i no_line).order ∷ [] }
    → set lanes (get_or lines i no_line).pass new ≡ lanes_for (take (i + 1) lines) passes
dealt_more lines i passes lanes old new within all below known found is =
    let line : ScriptLine = get_or lines i no_line in
    let there : old ≡ get_or (lanes_for (take i lines) passes) line.pass old = found ∙ ap (λ (ls : List Lane). get_or ls line.pass old) known in
    let now : new ≡ record (get_or (lanes_for (take i lines) passes) line.pass old) { orders = (get_or (lanes_for (take i lines) passes) line.pass old).orders ++ order_of line.order ∷ [] } =
    is ∙ ap (λ (l : Lane). let lane : Lane = record l { orders = l.orders ++ order_of line.order ∷ [] } in lane) there in
    ap (λ (ls : List Lane). set ls line.pass new) known ∙ lane_set (take i lines) line passes 0 line.pass all below (omega arith) old new now ∙ ap (λ (ls : List ScriptLine). lanes_for ls passes) (sym (take_more lines i no_line within))
