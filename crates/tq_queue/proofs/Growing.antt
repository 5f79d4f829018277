-- How the answers of one pass grow with a history.
use Rattle.std.proofs.Common.{◌≡◌, ℕ, suc, ◌+◌, ◌≤◌, List, [], ◌∷◌, ◌++◌, length, take, Bool, true, false, cond, not, refl, sym, ◌∙◌, ap, arith}
use Rattle.std.specs.Prelude.{filter, Some, None, nat_lt, ◌==◌}
use Rattle.std.specs.List.{position_or_len}
use Rattle.std.proofs.lemmas.Bool.Decides.{nat_tests}
use Rattle.std.proofs.lemmas.List.{append-nil, append_cancel_left}
use Rattle.std.proofs.lemmas.List.Elements.{filter-append}
use Rattle.std.proofs.Math.Seq.{take-append-add}
use Rattle.fn_model.specs.declared.Call.{Call}
use Rattle.fn_model.specs.Calls.{own, is_call, place}
use Rattle.fn_model.specs.Integer.{after, value, before}
use Rattle.fn_model.proofs.Histories.{is_call_itself}
use Rattle.fn_model.proofs.Integer.{value-append}
use Rattle.tq_queue.specs.Answers.{Answered, answered, answers_of}

-- the calls of a history that goes on meet what they met
pub answered-append : (cap v : ℕ) (past more : List Call) → answered cap v (past ++ more) ≡ answered cap v past ++ answered cap (value cap v past) more
answered-append cap v [] more = refl
answered-append cap v (c ∷ past) more = let here : Answered = record { call = c; met = v } in ap (λ (xs : List Answered). here ∷ xs) (answered-append cap (after cap v c.kind c.amount) past more)

-- a pass has as many answers as calls
none_by : (cap pass v : ℕ) (c : Call) (calls : List Call) (mine : Bool) → (cond mine (c ∷ own pass calls) (own pass calls) ≡ []) → (own pass calls ≡ [] → answers_of pass (answered cap (after cap v c.kind c.amount) calls) ≡ [])
    → cond mine (record { call = c; met = v } ∷ answers_of pass (answered cap (after cap v c.kind c.amount) calls)) (answers_of pass (answered cap (after cap v c.kind c.amount) calls)) ≡ []
none_by cap pass v c calls true is rest = absurd (cc)
none_by cap pass v c calls false is rest = rest is

pub none_answered : (cap pass v : ℕ) (calls : List Call) → own pass calls ≡ [] → answers_of pass (answered cap v calls) ≡ []
none_answered cap pass v [] is = refl
none_answered cap pass v (c ∷ calls) is = none_by cap pass v c calls (c.pass == pass) is (none_answered cap pass (after cap v c.kind c.amount) calls)

-- what one pass has been told stays while others call
pub answers_stay : (cap pass v : ℕ) (past more : List Call) → own pass (past ++ more) ≡ own pass past → answers_of pass (answered cap v (past ++ more)) ≡ answers_of pass (answered cap v past)
answers_stay cap pass v past more same =
    let test : Call → Bool = λ c. c.pass == pass in
    let mine : Answered → Bool = λ a. a.call.pass == pass in
    let rest : own pass more ≡ [] = append_cancel_left (own pass past) (own pass more) [] (sym (filter-append test past more) ∙ same ∙ sym (append-nil (own pass past))) in
    ap (filter mine) (answered-append cap v past more)
    ∙ filter-append mine (answered cap v past) (answered cap (value cap v past) more)
    ∙ ap (λ (xs : List Answered). answers_of pass (answered cap v past) ++ xs) (none_answered cap pass (value cap v past) more rest)
    ∙ append-nil (answers_of pass (answered cap v past))

-- the place of a call of the pass
abbrev at_call : ℕ → Call → List Call → ℕ
at_call pass call calls = position_or_len (is_call pass call.number) calls

-- the one call of the pass, with the integer at its place
one_by : (cap pass v : ℕ) (call c : Call) (calls : List Call) (mine : Bool) → call.pass ≡ pass → (c.pass == pass) ≡ mine → cond mine (c ∷ own pass calls) (own pass calls) ≡ call ∷ []
    → (own pass calls ≡ call ∷ [] → answers_of pass (answered cap (after cap v c.kind c.amount) calls) ≡ record { call = call; met = value cap (after cap v c.kind c.amount) (take (at_call pass call calls) calls) } ∷ [])
    → cond mine (record { call = c; met = v } ∷ answers_of pass (answered cap (after cap v c.kind c.amount) calls)) (answers_of pass (answered cap (after cap v c.kind c.amount) calls))
    ≡ record { call = call; met = value cap v (take (at_call pass call (c ∷ calls)) (c ∷ calls)) } ∷ []
one_by cap pass v call c calls true by test is rest =
    let same : c ≡ call = cc in
    let none : own pass calls ≡ [] = cc in
    let passes : is_call pass call.number c ≡ true = ap (λ (x : Call). is_call pass call.number x) same ∙ ap (λ (n : ℕ). is_call n call.number call) (sym by) ∙ is_call_itself call in
    let first : at_call pass call (c ∷ calls) ≡ 0 = ap (λ (b : Bool). cond (not b) (1 + at_call pass call calls) 0) passes in
    ap (λ (xs : List Answered). let here : Answered = record { call = c; met = v } in here ∷ xs) (none_answered cap pass (after cap v c.kind c.amount) calls none)
    ∙ ap (λ (x : Call). let here : Answered = record { call = x; met = v } in here ∷ []) same
    ∙ ap (λ (n : ℕ). let here : Answered = record { call = call; met = value cap v (take n (c ∷ calls)) } in here ∷ []) (sym first)
one_by cap pass v call c calls false by test is rest =
    let fails : is_call pass call.number c ≡ false = grind (arith, nat_tests) in
    let next : at_call pass call (c ∷ calls) ≡ suc (at_call pass call calls) = ap (λ (b : Bool). cond (not b) (1 + at_call pass call calls) 0) fails ∙ omega arith in
    rest is ∙ ap (λ (n : ℕ). let here : Answered = record { call = call; met = value cap v (take n (c ∷ calls)) } in here ∷ []) (sym next)

one_answered : (cap pass v : ℕ) (call : Call) (calls : List Call) → call.pass ≡ pass → own pass calls ≡ call ∷ [] → answers_of pass (answered cap v calls) ≡ record { call = call; met = value cap v (take (at_call pass call calls) calls) } ∷ []
one_answered cap pass v call [] by is = absurd (cc)
one_answered cap pass v call (c ∷ calls) by is = one_by cap pass v call c calls (c.pass == pass) by refl is (one_answered cap pass (after cap v c.kind c.amount) call calls by)

-- a place behind a beginning is a place in the rest
behind_by : (passes : Bool) (m n l : ℕ) → suc l ≤ cond (not passes) (1 + n) 0 → (l ≤ n → n ≡ l + m) → cond (not passes) (1 + n) 0 ≡ suc l + m
behind_by true m n l far rest = absurd (omega arith)
behind_by false m n l far rest = let e : n ≡ l + m = rest (omega arith) in omega arith

behind : (p : Call → Bool) (past more : List Call) → length past ≤ position_or_len p (past ++ more) → position_or_len p (past ++ more) ≡ length past + position_or_len p more
behind p [] more far = omega arith
behind p (c ∷ past) more far = behind_by (p c) (position_or_len p more) (position_or_len p (past ++ more)) (length past) far (behind p past more)

-- a place is the first that passes
place_is : (n l : ℕ) (i : ℕ) (b : Bool) → nat_lt n l ≡ b → cond b (Some n) None ≡ Some i → n ≡ i
place_is n l i true e h = cc
place_is n l i false e h = absurd (cc)

-- where one call of the pass came in, it met the integer at its place
pub answers_push : (cap pass v : ℕ) (past more : List Call) (call : Call) (i : ℕ) → call.pass ≡ pass → own pass (past ++ more) ≡ own pass past ++ call ∷ [] → place pass call.number (past ++ more) ≡ Some i → length past ≤ i
    → answers_of pass (answered cap v (past ++ more)) ≡ answers_of pass (answered cap v past) ++ record { call = call; met = before cap v (past ++ more) i } ∷ []
answers_push cap pass v past more call i by joined stands far =
    let test : Call → Bool = λ c. c.pass == pass in
    let mine : Answered → Bool = λ a. a.call.pass == pass in
    let rest : own pass more ≡ call ∷ [] = append_cancel_left (own pass past) (own pass more) (call ∷ []) (sym (filter-append test past more) ∙ joined) in
    let at : at_call pass call (past ++ more) ≡ i = place_is (at_call pass call (past ++ more)) (length (past ++ more)) i (nat_lt (at_call pass call (past ++ more)) (length (past ++ more))) refl stands in
    let there : i ≡ length past + at_call pass call more = sym at ∙ behind (is_call pass call.number) past more (omega arith) in
    let met : value cap (value cap v past) (take (at_call pass call more) more) ≡ before cap v (past ++ more) i =
    sym (value-append cap v past (take (at_call pass call more) more)) ∙ ap (value cap v) (sym (take-append-add past more (at_call pass call more)) ∙ ap (λ (n : ℕ). take n (past ++ more)) (sym there)) in
    ap (filter mine) (answered-append cap v past more)
    ∙ filter-append mine (answered cap v past) (answered cap (value cap v past) more)
    ∙ ap (λ (xs : List Answered). answers_of pass (answered cap v past) ++ xs) (one_answered cap pass (value cap v past) call more by rest ∙ ap (λ (n : ℕ). let here : Answered = record { call = call; met = n } in here ∷ []) met)
