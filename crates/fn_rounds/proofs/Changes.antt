-- A script without another order has additions and subtractions alone.
use Rattle.std.proofs.Common.{◌≡◌, List, [], ◌∷◌, None, Bool, true, false, refl}
use Rattle.std.specs.List.{All}
use Rattle.std.proofs.lemmas.List.Elements.{All-cons, All-nil}
use Rattle.script_text.specs.declared.scripts.ScriptLine.{ScriptLine}
use Rattle.fn_rounds.specs.Script.{IsChangeOrder, is_change, other_order}

pub no_other-all : (lines : List ScriptLine) → other_order lines ≡ None → All (λ line. IsChangeOrder line.order) lines
no_other-all [] none = All-nil (λ line. IsChangeOrder line.order)
no_other-all (line ∷ lines) none = by_test (is_change line.order) refl (λ rest. no_other-all lines rest)
  where
    by_test : (test : Bool) → is_change line.order ≡ test → (other_order lines ≡ None → All (λ line. IsChangeOrder line.order) lines) → All (λ line. IsChangeOrder line.order) (line ∷ lines)
    by_test true is all = All-cons (λ line. IsChangeOrder line.order) line lines is (all (rw is at none))
    by_test false is all = absurd (cc (rw is at none))
