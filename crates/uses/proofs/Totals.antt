-- What the calls of two passes come to, in whatever order they stand.
use Rattle.std.proofs.Common.{◌≡◌, ◌⊎◌, inl, inr, ℕ, ◌+◌, ◌≤◌, ◌<◌, ◌==◌, List, [], ◌∷◌, min, Bool, true, false, cond, refl, sym, ◌∙◌, ap, subst, arith, All, sum_by}
use Rattle.std.proofs.lemmas.Bool.Decides.{nat_tests}
use Rattle.std.proofs.lemmas.List.Elements.{All-head, All-tail}
use Rattle.std.proofs.lemmas.List.Sums.{sum_by-cons}
use Rattle.fn_model.specs.declared.Call.{Call}
use Rattle.fn_model.specs.declared.Kind.{Kind}
use Rattle.fn_model.specs.declared.Kind.TheVariants.{Add, Sub, Read}
use Rattle.fn_model.specs.Integer.{after, value}
use Rattle.fn_core.specs.declared.Start.{Start}
use Rattle.fn_core.specs.Calls.{CoreLog, calls_in}
use Rattle.fn_table.specs.Seen.{TableView, PassView}
use Rattle.tq_queue.specs.Answers.{Answered, answered, answers_of, raised, lowered, raised_by, lowered_by}
use Rattle.tq_queue.specs.Kept.{own_answers}
use Rattle.tq_queue.specs.Laws.{answers_in}
use Rattle.tq_queue.proofs.Laws.{answers_are_shared}
use Rattle.uses.specs.Books.{IsBookOf}
use Rattle.uses.specs.Counts.{HasAdded, HasDrawn, HasReturned, Settles, MayGive, owes}

-- an addition that no cap stops, and that nothing else is taken from
one_up : (cap v amount : ℕ) (kind : Kind) → lowered_by kind amount v ≡ 0 → v + raised_by kind amount ≤ cap → after cap v kind amount ≡ v + raised_by kind amount
one_up cap v amount Add down room = omega arith
one_up cap v amount Sub down room = omega (arith, down)
one_up cap v amount Read down room = omega arith

counted_up : (cap v : ℕ) (calls : List Call) → lowered (answered cap v calls) ≡ 0 → v + raised (answered cap v calls) ≤ cap → value cap v calls ≡ v + raised (answered cap v calls)
counted_up cap v [] down room = omega arith
counted_up cap v (c ∷ calls) down room =
    let next : ℕ = after cap v c.kind c.amount in
    let here : Answered = record { call = c; met = v } in
    let ups = sum_by-cons (λ (a : Answered). raised_by a.call.kind a.call.amount) here (answered cap next calls) in
    let downs = sum_by-cons (λ (a : Answered). lowered_by a.call.kind a.call.amount a.met) here (answered cap next calls) in
    let step : next ≡ v + raised_by c.kind c.amount = one_up cap v c.amount c.kind (omega (arith, down, downs)) (omega (arith, room, ups)) in
    let rest : value cap next calls ≡ next + raised (answered cap next calls) = counted_up cap next calls (omega (arith, down, downs)) (omega (arith, step, ups, room)) in
    omega (arith, rest, step, ups)

-- what all calls come to is what those of the two passes do
by_two : (weight : Answered → ℕ) (answers : List Answered) → All (λ (a : Answered). a.call.pass < 2) answers → sum_by weight answers ≡ sum_by weight (answers_of 0 answers) + sum_by weight (answers_of 1 answers)
by_two weight answers inside = let both = answers_are_shared weight 2 answers inside in omega (arith, both)

-- an integer that two passes have raised, and not lowered, ends at the sum
pub count_of : (t : TableView) (first second : PassView) (n m : ℕ) (book : CoreLog) → IsBookOf t first second book → raised (own_answers first) ≡ n → lowered (own_answers first) ≡ 0 → raised (own_answers second) ≡ m → lowered (own_answers second) ≡ 0
    → t.start.opening + n + m ≤ t.start.cap → value book.start.cap book.start.opening (calls_in book) ≡ t.start.opening + n + m
count_of t first second n m book is up down other_up other_down room =
    let answers : List Answered = answers_in book in
    let ups : raised answers ≡ n + m = omega (arith, by_two (λ (a : Answered). raised_by a.call.kind a.call.amount) answers is.inside, ap raised is.first_calls, ap raised is.second_calls, up, other_up) in
    let downs : lowered answers ≡ 0 = omega (arith, by_two (λ (a : Answered). lowered_by a.call.kind a.call.amount a.met) answers is.inside, ap lowered is.first_calls, ap lowered is.second_calls, down, other_down) in
    let cap_is : book.start.cap ≡ t.start.cap = ap (λ (s : Start). s.cap) is.start in
    let opening_is : book.start.opening ≡ t.start.opening = ap (λ (s : Start). s.opening) is.start in
    omega (arith, counted_up book.start.cap book.start.opening (calls_in book) downs (omega (arith, ups, cap_is, opening_is, room)), ups, opening_is)

pub count_is : (t : TableView) (p q first second : PassView) (n m : ℕ) (book : CoreLog) → IsBookOf t first second book → HasAdded t p n first → HasAdded t q m second → t.start.opening + n + m ≤ t.start.cap
    → value book.start.cap book.start.opening (calls_in book) ≡ t.start.opening + n + m
count_is t p q first second n m book is one other room = count_of t first second n m book is one.up one.down other.up other.down room

-- whether a call is of the second of two passes
other_of : (call : Call) (mine : Bool) → call.pass < 2 → (call.pass == 0) ≡ mine → (call.pass == 1) ≡ cond mine false true
other_of call true below is = grind (arith, nat_tests)
other_of call false below is = grind (arith, nat_tests)

-- giving back and taking leave the sum of what is there and what is owed
kept_one : (cap v owed amount : ℕ) (kind : Kind) → MayGive owed kind amount → v + owed ≤ cap → after cap v kind amount + owes owed kind amount v ≡ v + owed
kept_one cap v owed amount Add may room = omega (arith, may)
kept_one cap v owed amount Sub may room = omega arith
kept_one cap v owed amount Read may room = omega arith

whole_by : (cap v a b : ℕ) (c : Call) (calls : List Call) (mine : Bool) (first second : List Answered) → (v + a + b ≤ cap)
    → Settles a (cond mine (record { call = c; met = v } ∷ first) first) → Settles b (cond (cond mine false true) (record { call = c; met = v } ∷ second) second)
    → ((x y : ℕ) → Settles x first → Settles y second → after cap v c.kind c.amount + x + y ≤ cap → value cap (after cap v c.kind c.amount) calls ≡ after cap v c.kind c.amount + x + y)
    → value cap (after cap v c.kind c.amount) calls ≡ v + a + b
whole_by cap v a b c calls true first second room one other rest =
    let kept = kept_one cap v a c.amount c.kind one.0 (omega arith) in
    omega (arith, kept, rest (owes a c.kind c.amount v) b one.1 other (omega (arith, kept)))
whole_by cap v a b c calls false first second room one other rest =
    let kept = kept_one cap v b c.amount c.kind other.0 (omega arith) in
    omega (arith, kept, rest a (owes b c.kind c.amount v) one other.1 (omega (arith, kept)))

-- what two passes owe comes back
whole : (cap v a b : ℕ) (calls : List Call) → All (λ (x : Answered). x.call.pass < 2) (answered cap v calls) → Settles a (answers_of 0 (answered cap v calls)) → Settles b (answers_of 1 (answered cap v calls)) → v + a + b ≤ cap → value cap v calls ≡ v + a + b
whole cap v a b [] inside one other room = omega (arith, one, other)
whole cap v a b (c ∷ calls) inside one other room =
    let P : Answered → Type 0 = λ x. x.call.pass < 2 in
    let next : ℕ = after cap v c.kind c.amount in
    let here : Answered = record { call = c; met = v } in
    let more : List Answered = answered cap next calls in
    let is_other = other_of c (c.pass == 0) (All-head P here more inside) refl in
    let second : Settles b (cond (cond (c.pass == 0) false true) (here ∷ answers_of 1 more) (answers_of 1 more)) = subst (λ (t : Bool). Settles b (cond t (here ∷ answers_of 1 more) (answers_of 1 more))) is_other other in
    whole_by cap v a b c calls (c.pass == 0) (answers_of 0 more) (answers_of 1 more) room one second (λ x y first last. whole cap next x y calls (All-tail P here more inside) first last)

pub quota_is_whole : (t : TableView) (p q first second : PassView) (book : CoreLog) → IsBookOf t first second book → HasReturned t p first → HasReturned t q second → t.start.opening ≤ t.start.cap
    → value book.start.cap book.start.opening (calls_in book) ≡ t.start.opening
quota_is_whole t p q first second book is one other room =
    let cap_is : book.start.cap ≡ t.start.cap = ap (λ (s : Start). s.cap) is.start in
    let opening_is : book.start.opening ≡ t.start.opening = ap (λ (s : Start). s.opening) is.start in
    let all = whole book.start.cap book.start.opening 0 0 (calls_in book) is.inside (subst (Settles 0) (sym is.first_calls) one.settled) (subst (Settles 0) (sym is.second_calls) other.settled) (omega (arith, cap_is, opening_is, room)) in
    omega (arith, all, opening_is)

-- where one pass has no calls, the one call of the other meets what there is
alone_by : (v : ℕ) (here one : Answered) (mine : Bool) (none some : List Answered) → here.met ≡ v → cond mine (here ∷ none) none ≡ [] → cond (cond mine false true) (here ∷ some) some ≡ one ∷ [] → one.met ≡ v
alone_by v here one true none some met empty is = absurd (cc)
alone_by v here one false none some met empty is =
    let same : here ≡ one = cc in
    ap (λ (a : Answered). a.met) (sym same) ∙ met

-- the test of the second pass is the other one
not_first : (c : Call) → c.pass < 2 → cond (c.pass == 0) false true ≡ (c.pass == 1)
not_first c below = sym (other_of c (c.pass == 0) below refl)

not_second : (c : Call) → c.pass < 2 → cond (c.pass == 1) false true ≡ (c.pass == 0)
not_second c below = by (c.pass == 0) refl
  where
    by : (mine : Bool) → (c.pass == 0) ≡ mine → cond (c.pass == 1) false true ≡ (c.pass == 0)
    by true is = ap (λ (b : Bool). cond b false true) (other_of c true below is) ∙ sym is
    by false is = ap (λ (b : Bool). cond b false true) (other_of c false below is) ∙ sym is

second_alone : (cap v : ℕ) (calls : List Call) (one : Answered) → All (λ (x : Answered). x.call.pass < 2) (answered cap v calls) → answers_of 0 (answered cap v calls) ≡ [] → answers_of 1 (answered cap v calls) ≡ one ∷ [] → one.met ≡ v
second_alone cap v [] one inside none is = absurd (cc)
second_alone cap v (c ∷ calls) one inside none is =
    let more : List Answered = answered cap (after cap v c.kind c.amount) calls in
    let here : Answered = record { call = c; met = v } in
    let below : c.pass < 2 = All-head (λ (x : Answered). x.call.pass < 2) here more inside in
    alone_by v here one (c.pass == 0) (answers_of 0 more) (answers_of 1 more) refl none (ap (λ (b : Bool). cond b (here ∷ answers_of 1 more) (answers_of 1 more)) (not_first c below) ∙ is)

first_alone : (cap v : ℕ) (calls : List Call) (one : Answered) → All (λ (x : Answered). x.call.pass < 2) (answered cap v calls) → answers_of 1 (answered cap v calls) ≡ [] → answers_of 0 (answered cap v calls) ≡ one ∷ [] → one.met ≡ v
first_alone cap v [] one inside none is = absurd (cc)
first_alone cap v (c ∷ calls) one inside none is =
    let more : List Answered = answered cap (after cap v c.kind c.amount) calls in
    let here : Answered = record { call = c; met = v } in
    let below : c.pass < 2 = All-head (λ (x : Answered). x.call.pass < 2) here more inside in
    alone_by v here one (c.pass == 1) (answers_of 1 more) (answers_of 0 more) refl none (ap (λ (b : Bool). cond b (here ∷ answers_of 0 more) (answers_of 0 more)) (not_second c below) ∙ is)

-- one of the two calls comes first, and the other meets what it leaves
turn_by : (cap v : ℕ) (c : Call) (a b : Answered) (mine : Bool) (first second : List Answered) → cond mine (record { call = c; met = v } ∷ first) first ≡ a ∷ [] → cond (cond mine false true) (record { call = c; met = v } ∷ second) second ≡ b ∷ []
    → (first ≡ [] → second ≡ b ∷ [] → b.met ≡ after cap v c.kind c.amount) → (second ≡ [] → first ≡ a ∷ [] → a.met ≡ after cap v c.kind c.amount)
    → ((a.met ≡ v) × (b.met ≡ after cap v a.call.kind a.call.amount)) ⊎ ((b.met ≡ v) × (a.met ≡ after cap v b.call.kind b.call.amount))
turn_by cap v c a b true first second one other after_it otherwise =
    let here : Answered = record { call = c; met = v } in
    let same : here ≡ a = cc in
    let none : first ≡ [] = cc in
    inl (sym (ap (λ (x : Answered). x.met) same), after_it none other ∙ ap (λ (x : Answered). after cap v x.call.kind x.call.amount) same)
turn_by cap v c a b false first second one other after_it otherwise =
    let here : Answered = record { call = c; met = v } in
    let same : here ≡ b = cc in
    let none : second ≡ [] = cc in
    inr (sym (ap (λ (x : Answered). x.met) same), otherwise none one ∙ ap (λ (x : Answered). after cap v x.call.kind x.call.amount) same)

in_turn : (cap v : ℕ) (calls : List Call) (a b : Answered) → All (λ (x : Answered). x.call.pass < 2) (answered cap v calls) → answers_of 0 (answered cap v calls) ≡ a ∷ [] → answers_of 1 (answered cap v calls) ≡ b ∷ []
    → ((a.met ≡ v) × (b.met ≡ after cap v a.call.kind a.call.amount)) ⊎ ((b.met ≡ v) × (a.met ≡ after cap v b.call.kind b.call.amount))
in_turn cap v [] a b inside one other = absurd (cc)
in_turn cap v (c ∷ calls) a b inside one other =
    let P : Answered → Type 0 = λ x. x.call.pass < 2 in
    let next : ℕ = after cap v c.kind c.amount in
    let more : List Answered = answered cap next calls in
    let here : Answered = record { call = c; met = v } in
    let below : c.pass < 2 = All-head P here more inside in
    let rest = All-tail P here more inside in
    turn_by cap v c a b (c.pass == 0) (answers_of 0 more) (answers_of 1 more) one (ap (λ (t : Bool). cond t (here ∷ answers_of 1 more) (answers_of 1 more)) (not_first c below) ∙ other)
    (λ none is. second_alone cap next calls b rest none is) (λ none is. first_alone cap next calls a rest none is)

-- two ranges that are drawn lie side by side
pub ranges_are : (t : TableView) (p q first second : PassView) (size low high : ℕ) (book : CoreLog) → IsBookOf t first second book → HasDrawn t p size low first → HasDrawn t q size high second → t.start.opening ≡ 0 → size ≤ t.start.cap
    → ((low ≡ 0) × (high ≡ size)) ⊎ ((low ≡ size) × (high ≡ 0))
ranges_are t p q first second size low high book is one other at_zero room =
    let a : Answered = record { call = one.call; met = low } in
    let b : Answered = record { call = other.call; met = high } in
    let cap_is : book.start.cap ≡ t.start.cap = ap (λ (s : Start). s.cap) is.start in
    let zero_is : book.start.opening ≡ 0 = ap (λ (s : Start). s.opening) is.start ∙ at_zero in
    let small : min book.start.cap (book.start.opening + size) ≡ size = omega (arith, cap_is, zero_is, room) in
    let up : (call : Call) → call.kind ≡ Add → call.amount ≡ size → after book.start.cap book.start.opening call.kind call.amount ≡ size =
    λ call kind amount. ap (λ k. after book.start.cap book.start.opening k call.amount) kind ∙ ap (λ n. min book.start.cap (book.start.opening + n)) amount ∙ small in
    elim (in_turn book.start.cap book.start.opening (calls_in book) a b is.inside (is.first_calls ∙ one.one) (is.second_calls ∙ other.one)) [
      | inl (first_met, then_met) ↦ inl (first_met ∙ zero_is, then_met ∙ up one.call one.kind_is one.size_is)
      | inr (first_met, then_met) ↦ inr (then_met ∙ up other.call other.kind_is other.size_is, first_met ∙ zero_is)
    ]
