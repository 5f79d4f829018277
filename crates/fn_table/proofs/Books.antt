-- Whose calls stand in the history of a book.
use Rattle.std.proofs.Common.{◌≡◌, ◌≢◌, ◌<◌, ◌≤◌, ◌==◌, ℕ, Bool, false, cond, List, [], ◌∷◌, All, refl, ◌∙◌, ap, arith}
use Rattle.std.proofs.lemmas.Bool.{ne_eqb}
use Rattle.std.proofs.lemmas.List.Elements.{All-head, All-tail, All-weaker}
use Rattle.fn_model.specs.declared.Call.{Call}
use Rattle.fn_model.specs.Calls.{own}
use Rattle.fn_core.specs.Calls.{CoreLog, calls_in, IsLegal}
use Rattle.fn_core.proofs.Public.{calls_are_of_passes}

-- a pass that made none of these calls has no own calls among them
pub none_own : (pass : ℕ) (calls : List Call) → All (λ (c : Call). c.pass ≢ pass) calls → own pass calls ≡ []
none_own pass [] others = refl
none_own pass (call ∷ calls) others =
    let test : (call.pass == pass) ≡ false = ne_eqb call.pass pass (All-head (λ (c : Call). c.pass ≢ pass) call calls others) in
    ap (λ (b : Bool). cond b (call ∷ own pass calls) (own pass calls)) test ∙ none_own pass calls (All-tail (λ (c : Call). c.pass ≢ pass) call calls others)

-- a pass that isn't there makes no call
pub none_outside : (book : CoreLog) → IsLegal book → (pass : ℕ) → book.start.shape.passes ≤ pass → own pass (calls_in book) ≡ []
none_outside book legal pass outside =
    let inside = calls_are_of_passes book.start book.log legal.0 legal.1 in
    none_own pass (calls_in book) (All-weaker (λ (c : Call). c.pass < book.start.shape.passes) (λ c. c.pass ≢ pass) (λ c below is. absurd (omega (arith, below, is, outside))) (calls_in book) inside)
