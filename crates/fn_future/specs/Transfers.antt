-- What a move between two funnels comes to, in the words of their histories.
--     AddedTo pass moved after      the pass has added so much, or nothing
--     Transferred out into amount out' into' moved      the one pass has subtracted, and the other has added what was there
use Rattle.std.specs.Prelude.{◌≡◌, ℕ, zero, suc, min}
use Rattle.fn_model.specs.declared.Kind.TheVariants.{Add, Sub}
use Rattle.fn_table.specs.Seen.{PassView}
use Rattle.fn_table.specs.Claims.{Rests, Made}

-- the pass has added so much, in one call; where that is 0 it is the very pass that was handed in
abbrev pub AddedTo : PassView → ℕ → PassView → Type 0
AddedTo p zero q = q ≡ p
AddedTo p (suc n) q = (reply : ℕ) × Made p Add (suc n) reply q

-- The one pass has subtracted the amount. What was there of it was moved: the other pass has added it. The other pass is the same one, and rests
pub record Transferred (p q : PassView) (amount : ℕ) (out into : PassView) (moved : ℕ) : Type 0 where
  pub before : ℕ
  pub taken : Made p Sub amount before out
  pub moved_is : moved ≡ min amount before
  pub added : AddedTo q moved into
  pub same : (into.table ≡ q.table) × (into.number ≡ q.number) × (into.seen.start ≡ q.seen.start)
  pub rests : Rests into
