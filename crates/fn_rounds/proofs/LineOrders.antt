-- What the lines of a script ask of each pass.
use Rattle.std.proofs.Common.{◌≡◌, ◌≢◌, ◌+◌, ◌<◌, ◌≤◌, ◌==◌, ℕ, Bool, true, cond, List, [], ◌∷◌, ◌++◌, Some, length, map, filter, take, drop, slice_get, get_or, refl, sym, ap, ◌∙◌, arith, inl, inr, eq-eqb, ne_eqb, append-nil, take-append-drop, if◌then◌else◌}
use Rattle.std.proofs.lemmas.Bool.{cases_eq, false≢true}
use Rattle.std.proofs.lemmas.List.{map-append, drop_more, length-append, length-map}
use Rattle.std.proofs.lemmas.List.Elements.{All-head, All-tail, All-filter, All-map, filter-append}
use Rattle.std.proofs.lemmas.List.Sums.{sum_by-cons, length-filter, count_by-le-length}
use Rattle.std.proofs.lemmas.Option.{slice_get_within, slice_get-get_or, get_or_from_slice_get}
use Rattle.std.specs.List.{All}
use Rattle.fn_model.specs.declared.Kind.{Kind}
use Rattle.script_text.specs.Order.{amount}
use Rattle.script_text.specs.Sound.{HasPasses, HasAmount, allowance}
use Rattle.script_text.specs.declared.scripts.Order.{Order}
use Rattle.script_text.specs.declared.scripts.Order.TheVariants.{Add, Sub}
use Rattle.script_text.specs.declared.scripts.ScriptLine.{ScriptLine}
use Rattle.fn_rounds.specs.InOrder.{asked}
use Rattle.fn_rounds.specs.Lanes.{IsOrder}
use Rattle.fn_rounds.specs.Script.{order_of, is_change, IsChangeOrder, orders_of}

abbrev pub no_line : ScriptLine
no_line = record { at = 0; pass = 0; order = Add 0 }

-- what a line asks for
abbrev its : ScriptLine → Kind × ℕ
its line = order_of line.order

abbrev is_of : ℕ → ScriptLine → Bool
is_of pass line = line.pass == pass

pub orders_append : (pass : ℕ) (xs ys : List ScriptLine) → orders_of pass (xs ++ ys) ≡ orders_of pass xs ++ orders_of pass ys
orders_append pass xs ys = ap (map its) (filter-append (is_of pass) xs ys) ∙ map-append its (filter (is_of pass) xs) (filter (is_of pass) ys)

module _ (pass : ℕ) (line : ScriptLine) (lines : List ScriptLine) where
  abbrev kept : Bool → List (Kind × ℕ)
  kept b = map its (cond b (line ∷ filter (is_of pass) lines) (filter (is_of pass) lines))

  -- a line of the pass in front of others, and one of another pass
  pub orders_mine : line.pass ≡ pass → orders_of pass (line ∷ lines) ≡ order_of line.order ∷ orders_of pass lines
  orders_mine mine = ap kept (eq-eqb line.pass pass mine)

  pub orders_other : line.pass ≢ pass → orders_of pass (line ∷ lines) ≡ orders_of pass lines
  orders_other other = ap kept (ne_eqb line.pass pass other)

-- .. and behind them
pub orders_more : (pass : ℕ) (lines : List ScriptLine) (line : ScriptLine) → line.pass ≡ pass → orders_of pass (lines ++ line ∷ []) ≡ orders_of pass lines ++ order_of line.order ∷ []
orders_more pass lines line mine = orders_append pass lines (line ∷ []) ∙ ap (λ (os : List (Kind × ℕ)). orders_of pass lines ++ os) (orders_mine pass line [] mine)

pub orders_same : (pass : ℕ) (lines : List ScriptLine) (line : ScriptLine) → line.pass ≢ pass → orders_of pass (lines ++ line ∷ []) ≡ orders_of pass lines
orders_same pass lines line other =
    orders_append pass lines (line ∷ []) ∙ ap (λ (os : List (Kind × ℕ)). orders_of pass lines ++ os) (orders_other pass line [] other) ∙ append-nil (orders_of pass lines)

-- a pass that isn't there has no line
pub no_orders : (passes : ℕ) (lines : List ScriptLine) → All (HasPasses passes) lines → (pass : ℕ) → passes ≤ pass → orders_of pass lines ≡ []
no_orders passes [] all pass outside = refl
no_orders passes (line ∷ lines) all pass outside =
    let inside : line.pass < passes = (All-head (HasPasses passes) line lines all).0 in
    orders_other pass line lines (λ is. omega (arith, inside, outside, is)) ∙ no_orders passes lines (All-tail (HasPasses passes) line lines all) pass outside

-- a line among those of its pass
module _ (lines : List ScriptLine) (k : ℕ) (line : ScriptLine) (at : slice_get lines k ≡ Some line) where
  within : k < length lines
  within = slice_get_within lines k line at

  split : lines ≡ take k lines ++ line ∷ drop (k + 1) lines
  split = sym (take-append-drop k lines) ∙ ap (λ (ls : List ScriptLine). take k lines ++ ls) (drop_more lines k line within ∙ ap (λ (l : ScriptLine). l ∷ drop (k + 1) lines) (get_or_from_slice_get lines k line line at))

  pub orders_split : orders_of line.pass lines ≡ orders_of line.pass (take k lines) ++ order_of line.order ∷ orders_of line.pass (drop (k + 1) lines)
  orders_split =
      ap (orders_of line.pass) split ∙ orders_append line.pass (take k lines) (line ∷ drop (k + 1) lines)
      ∙ ap (λ (os : List (Kind × ℕ)). orders_of line.pass (take k lines) ++ os) (orders_mine line.pass line (drop (k + 1) lines) refl)

-- so fewer are before it than in all
pub orders_before : (lines : List ScriptLine) (i : ℕ) → i < length lines → length (orders_of (get_or lines i no_line).pass (take i lines)) < length (orders_of (get_or lines i no_line).pass lines)
orders_before lines i inside =
    let line : ScriptLine = get_or lines i no_line in
    let all = ap length (orders_split lines i line (slice_get-get_or lines i no_line inside)) in
    omega (arith, all, length-append (orders_of line.pass (take i lines)) (order_of line.order ∷ orders_of line.pass (drop (i + 1) lines)))

-- and no pass has more of them than there are lines
pub orders_most : (pass : ℕ) (lines : List ScriptLine) → length (orders_of pass lines) ≤ length lines
orders_most pass lines = omega (arith, length-map (filter (is_of pass) lines) its, length-filter (is_of pass) lines, count_by-le-length (is_of pass) lines)

-- each of them is an addition or a subtraction of at least 1
is_order : (order : Order) → is_change order ≡ true → HasAmount order → IsOrder (order_of order)
is_order (Add n) change some = (inl refl, some)
is_order (Sub n) change some = (inr refl, some)
is_order _ change some = absurd (false≢true change)

all_orders : (lines : List ScriptLine) → All (λ (l : ScriptLine). IsChangeOrder l.order) lines → All (λ (l : ScriptLine). HasAmount l.order) lines → All (λ (l : ScriptLine). IsOrder (its l)) lines
all_orders lines changes amounts = λ k d below. is_order (get_or lines k d).order (changes k d below) (amounts k d below)

pub each_order : (pass : ℕ) (lines : List ScriptLine) → All (λ (l : ScriptLine). IsChangeOrder l.order) lines → All (λ (l : ScriptLine). HasAmount l.order) lines → All IsOrder (orders_of pass lines)
each_order pass lines changes amounts = All-map IsOrder its (filter (is_of pass) lines) (All-filter (is_of pass) (λ (l : ScriptLine). IsOrder (its l)) lines (all_orders lines changes amounts))

-- they ask for no more than the pass is allowed
asks_least : (order : Order) → (order_of order).1 ≤ amount order
asks_least (Add n) = omega arith
asks_least (Sub n) = omega arith
asks_least _ = omega arith

abbrev allows : ℕ → ScriptLine → ℕ
allows pass line = if line.pass == pass then amount line.order else 0

pub asked_within : (pass : ℕ) (lines : List ScriptLine) → asked (orders_of pass lines) ≤ allowance lines pass
asked_within pass [] = omega arith
asked_within pass (line ∷ lines) =
    let rest = asked_within pass lines in
    let sum = sum_by-cons (allows pass) line lines in
    elim (cases_eq line.pass pass) [
      | inl mine ↦
          let one : allows pass line ≡ amount line.order = ap (λ (b : Bool). if b then amount line.order else 0) (eq-eqb line.pass pass mine) in
          let all : asked (orders_of pass (line ∷ lines)) ≡ (order_of line.order).1 + asked (orders_of pass lines) = ap asked (orders_mine pass line lines mine) in
          omega (arith, rest, sum, one, all, asks_least line.order)
      | inr other ↦
          let all : asked (orders_of pass (line ∷ lines)) ≡ asked (orders_of pass lines) = ap asked (orders_other pass line lines other) in
          omega (arith, rest, sum, all)
    ]
