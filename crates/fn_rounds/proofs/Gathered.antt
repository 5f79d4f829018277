-- The answers of lines, and those of each pass among them.
use Rattle.std.proofs.Common.{◌≡◌, ◌≢◌, ◌+◌, ◌<◌, ◌≤◌, ◌==◌, ℕ, zero, suc, Bool, cond, List, [], ◌∷◌, ◌++◌, Some, length, map, filter, take, drop, set, slice_get, get_or, refl, sym, ap, ◌∙◌, subst, arith, inl, inr, eq-eqb, ne_eqb, append-nil, get_or-set_same, get_or-set_other, length-append, append_assoc}
use Rattle.std.proofs.lemmas.Bool.{cases_eq}
use Rattle.std.proofs.lemmas.List.{map-append, take_more, length-set, length-take-le, get_or_default, drop_more, drop_all}
use Rattle.std.proofs.lemmas.List.Elements.{filter-append}
use Rattle.std.proofs.lemmas.Option.{none-some, same_Some}
use Rattle.std.specs.List.{zip}
use Rattle.fn_model.specs.declared.Kind.{Kind}
use Rattle.script_text.specs.declared.scripts.ScriptLine.{ScriptLine}
use Rattle.fn_rounds.specs.Script.{order_of, orders_of, reply_line, reply_lines}
use Rattle.fn_rounds.specs.Dealing.{answers_of, replies_of}
use Rattle.fn_rounds.proofs.LineOrders.{no_line, orders_mine, orders_other, orders_more, orders_same, orders_before, orders_most}

abbrev is_of : ℕ → ScriptLine × ℕ → Bool
is_of pass a = a.0.pass == pass

abbrev reply : ScriptLine × ℕ → ℕ
reply a = a.1

abbrev kept : ℕ → ScriptLine × ℕ → List (ScriptLine × ℕ) → Bool → List ℕ
kept pass a told b = map reply (cond b (a ∷ filter (is_of pass) told) (filter (is_of pass) told))

pub answers_mine : (pass : ℕ) (line : ScriptLine) (lines : List ScriptLine) (answer : ℕ) (answers : List ℕ) → line.pass ≡ pass → answers_of pass (line ∷ lines) (answer ∷ answers) ≡ answer ∷ answers_of pass lines answers
answers_mine pass line lines answer answers mine = ap (kept pass (line, answer) (zip lines answers)) (eq-eqb line.pass pass mine)

pub answers_other : (pass : ℕ) (line : ScriptLine) (lines : List ScriptLine) (answer : ℕ) (answers : List ℕ) → line.pass ≢ pass → answers_of pass (line ∷ lines) (answer ∷ answers) ≡ answers_of pass lines answers
answers_other pass line lines answer answers other = ap (kept pass (line, answer) (zip lines answers)) (ne_eqb line.pass pass other)

-- lists side by side, each with one element more
zip_more : {A B : Type 0} (xs : List A) (ys : List B) (x : A) (y : B) → length ys ≡ length xs → zip (xs ++ x ∷ []) (ys ++ y ∷ []) ≡ zip xs ys ++ (x, y) ∷ []
zip_more [] [] x y same = refl
zip_more [] (b ∷ ys) x y same = absurd (omega (arith, same))
zip_more (a ∷ xs) [] x y same = absurd (omega (arith, same))
zip_more (a ∷ xs) (b ∷ ys) x y same = ap (λ zs. (a, b) ∷ zs) (zip_more xs ys x y (omega (arith, same)))

answers_append : (pass : ℕ) (lines : List ScriptLine) (answers : List ℕ) (line : ScriptLine) (answer : ℕ) → length answers ≡ length lines
    → answers_of pass (lines ++ line ∷ []) (answers ++ answer ∷ []) ≡ answers_of pass lines answers ++ answers_of pass (line ∷ []) (answer ∷ [])
answers_append pass lines answers line answer same =
    ap (λ told. map reply (filter (is_of pass) told)) (zip_more lines answers line answer same) ∙ ap (map reply) (filter-append (is_of pass) (zip lines answers) ((line, answer) ∷ []))
    ∙ map-append reply (filter (is_of pass) (zip lines answers)) (filter (is_of pass) ((line, answer) ∷ []))

-- the answer of a line is its pass's reply of that number
pub answer_at : (lines : List ScriptLine) (answers : List ℕ) (k : ℕ) (line : ScriptLine) (answer : ℕ) → slice_get lines k ≡ Some line → slice_get answers k ≡ Some answer
    → slice_get (answers_of line.pass lines answers) (length (orders_of line.pass (take k lines))) ≡ Some answer
answer_at [] answers k line answer at got = absurd (none-some line at)
answer_at (first ∷ lines) [] k line answer at got = absurd (none-some answer got)
answer_at (first ∷ lines) (one ∷ answers) zero line answer at got =
    let same : first.pass ≡ line.pass = ap (λ (l : ScriptLine). l.pass) (same_Some first line at) in
    ap (λ (ns : List ℕ). slice_get ns 0) (answers_mine line.pass first lines one answers same) ∙ got
answer_at (first ∷ lines) (one ∷ answers) (suc k) line answer at got =
    let rest = answer_at lines answers k line answer at got in
    elim (cases_eq first.pass line.pass) [
      | inl mine ↦
          (λ i. slice_get (answers_mine line.pass first lines one answers mine i) (length (orders_mine line.pass first (take k lines) mine i))) ∙ rest
      | inr other ↦
          (λ i. slice_get (answers_other line.pass first lines one answers other i) (length (orders_other line.pass first (take k lines) other i))) ∙ rest
    ]

-- how far the answers have come: so many of each pass's replies stand there
pub record HaveCome (lines : List ScriptLine) (replies : List (List ℕ)) (next answers : List ℕ) : Type 0 where
  pub one_each : length answers ≡ length lines
  pub size : length next ≡ length replies
  pub counted : (pass : ℕ) → pass < length replies → get_or next pass 0 ≡ length (orders_of pass lines)
  pub sorted : (pass : ℕ) → pass < length replies → answers_of pass lines answers ≡ take (length (orders_of pass lines)) (replies_of replies pass)

-- and with one line more
module _ (lines : List ScriptLine) (replies : List (List ℕ)) (next answers : List ℕ) (come : HaveCome lines replies next answers) (line : ScriptLine) (here : line.pass < length replies)
    (left : length (orders_of line.pass lines) < length (replies_of replies line.pass)) where
  abbrev n : ℕ
  n = length (orders_of line.pass lines)

  abbrev answer : ℕ
  answer = get_or (replies_of replies line.pass) n 0

  abbrev more : List ScriptLine
  more = lines ++ line ∷ []

  count_mine : length (orders_of line.pass more) ≡ n + 1
  count_mine = ap length (orders_more line.pass lines line refl) ∙ length-append (orders_of line.pass lines) (order_of line.order ∷ [])

  sorted_mine : answers_of line.pass more (answers ++ answer ∷ []) ≡ take (length (orders_of line.pass more)) (replies_of replies line.pass)
  sorted_mine =
      answers_append line.pass lines answers line answer come.one_each ∙ (λ i. come.sorted line.pass here i ++ answers_mine line.pass line [] answer [] refl i)
      ∙ sym (ap (λ (m : ℕ). take m (replies_of replies line.pass)) count_mine ∙ take_more (replies_of replies line.pass) n 0 left)

  sorted_other : (pass : ℕ) → line.pass ≢ pass → pass < length replies → answers_of pass more (answers ++ answer ∷ []) ≡ take (length (orders_of pass more)) (replies_of replies pass)
  sorted_other pass other below =
      answers_append pass lines answers line answer come.one_each ∙ (λ i. come.sorted pass below i ++ answers_other pass line [] answer [] other i) ∙ append-nil (take (length (orders_of pass lines)) (replies_of replies pass))
      ∙ ap (λ (os : List (Kind × ℕ)). take (length os) (replies_of replies pass)) (sym (orders_same pass lines line other))

  next_mine : get_or (set next line.pass (n + 1)) line.pass 0 ≡ length (orders_of line.pass more)
  next_mine = get_or-set_same next line.pass (n + 1) 0 (omega (arith, here, come.size)) ∙ sym count_mine

  next_other : (pass : ℕ) → line.pass ≢ pass → pass < length replies → get_or (set next line.pass (n + 1)) pass 0 ≡ length (orders_of pass more)
  next_other pass other below = get_or-set_other next line.pass pass (n + 1) 0 (λ e. other (sym e)) ∙ come.counted pass below ∙ ap length (sym (orders_same pass lines line other))

  pub one_more_come : HaveCome more replies (set next line.pass (n + 1)) (answers ++ answer ∷ [])
  one_more_come = record {
    one_each = omega (arith, length-append answers (answer ∷ []), length-append lines (line ∷ []), come.one_each);
    size = length-set next line.pass (n + 1) ∙ come.size;
    counted = λ pass below. elim (cases_eq line.pass pass) [
      | inl mine ↦ subst (λ (p : ℕ). get_or (set next line.pass (n + 1)) p 0 ≡ length (orders_of p more)) mine next_mine
      | inr other ↦ next_other pass other below
    ];
    sorted = λ pass below. elim (cases_eq line.pass pass) [
      | inl mine ↦ subst (λ (p : ℕ). answers_of p more (answers ++ answer ∷ []) ≡ take (length (orders_of p more)) (replies_of replies p)) mine sorted_mine
      | inr other ↦ sorted_other pass other below
    ];
  }

-- one more of the lines
module _ (lines : List ScriptLine) (i : ℕ) (within : i < length lines) (replies : List (List ℕ)) (next answers : List ℕ) (come : HaveCome (take i lines) replies next answers)
    (here : (get_or lines i no_line).pass < length replies) (counts : (pass : ℕ) → pass < length replies → length (replies_of replies pass) ≡ length (orders_of pass lines)) where
  abbrev line_there : ScriptLine
  line_there = get_or lines i no_line

  abbrev pub its_place : ℕ
  its_place = length (orders_of line_there.pass (take i lines))

  pub place_is : (at : ℕ) → at ≡ get_or next line_there.pass at → at ≡ its_place
  place_is at is = is ∙ get_or_default next line_there.pass at 0 (omega (arith, here, come.size)) ∙ come.counted line_there.pass here

  pub few_before : its_place ≤ i
  few_before = omega (arith, orders_most line_there.pass (take i lines), length-take-le i lines (omega (arith, within)))

  pub reply_left : its_place < length (replies_of replies line_there.pass)
  reply_left = omega (arith, counts line_there.pass here, orders_before lines i within)

  pub replies_found : (rs : List ℕ) → rs ≡ get_or replies line_there.pass rs → rs ≡ replies_of replies line_there.pass
  replies_found rs is = is ∙ get_or_default replies line_there.pass rs [] here

  pub come_more : (at : ℕ) (rs : List ℕ) (answer : ℕ) (now : List ℕ) → at ≡ get_or next line_there.pass at → rs ≡ get_or replies line_there.pass rs → answer ≡ get_or rs at 0 → now ≡ answers ++ answer ∷ []
      → HaveCome (take (i + 1) lines) replies (set next line_there.pass (at + 1)) now
  come_more at rs answer now place found is pushed =
      let at_is : its_place ≡ at = sym (place_is at place) in
      let answer_is : get_or (replies_of replies line_there.pass) its_place 0 ≡ answer = (λ j. get_or (sym (replies_found rs found) j) (at_is j) 0) ∙ sym is in
      let more = one_more_come (take i lines) replies next answers come line_there here reply_left in
      subst (λ (ls : List ScriptLine). HaveCome ls replies (set next line_there.pass (at + 1)) now) (sym (take_more lines i no_line within))
      (subst (λ (xs : List ℕ). HaveCome (take i lines ++ line_there ∷ []) replies (set next line_there.pass (at + 1)) xs) (ap (λ (n : ℕ). answers ++ n ∷ []) answer_is ∙ sym pushed)
      (subst (λ (n : ℕ). HaveCome (take i lines ++ line_there ∷ []) replies (set next line_there.pass (n + 1)) (answers ++ get_or (replies_of replies line_there.pass) its_place 0 ∷ [])) at_is more))

-- the lines of replies that are left begin with that of the next
lines_left : (lines : List ScriptLine) (replies : List ℕ) (i : ℕ) → i < length lines → length replies ≡ length lines
    → reply_lines (drop i lines) (drop i replies) ≡ reply_line (get_or lines i no_line) (get_or replies i 0) ++ reply_lines (drop (i + 1) lines) (drop (i + 1) replies)
lines_left lines replies i within same = (λ j. reply_lines (drop_more lines i no_line within j) (drop_more replies i 0 (omega (arith, within, same)) j))

-- a text with the next line
pub line_pushed : (lines : List ScriptLine) (replies : List ℕ) (i : ℕ) (text longer whole : List ℕ) → i < length lines → length replies ≡ length lines → longer ≡ text ++ reply_line (get_or lines i no_line) (get_or replies i 0)
    → text ++ reply_lines (drop i lines) (drop i replies) ≡ whole → longer ++ reply_lines (drop (i + 1) lines) (drop (i + 1) replies) ≡ whole
line_pushed lines replies i text longer whole within same grown known =
    let line : List ℕ = reply_line (get_or lines i no_line) (get_or replies i 0) in
    let rest : List ℕ = reply_lines (drop (i + 1) lines) (drop (i + 1) replies) in
    ap (λ (t : List ℕ). t ++ rest) grown ∙ append_assoc text line rest ∙ ap (λ (t : List ℕ). text ++ t) (sym (lines_left lines replies i within same)) ∙ known

-- .. and with all
pub lines_pushed : (lines : List ScriptLine) (replies : List ℕ) (i : ℕ) (text whole : List ℕ) → length lines ≤ i → text ++ reply_lines (drop i lines) (drop i replies) ≡ whole → text ≡ whole
lines_pushed lines replies i text whole past known =
    sym (append-nil text) ∙ ap (λ (ls : List ScriptLine). text ++ reply_lines ls (drop i replies)) (sym (drop_all i lines past)) ∙ known
