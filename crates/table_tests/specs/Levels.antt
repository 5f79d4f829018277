-- Where an addition stands at a level, with the batches that it has closed below.
--     AreClosed stages level under      these are its batches below the level, from the one just below down to its leaf
--     Stands table n pass level stage under      the addition of pass n has come to this stage at the level, with these batches below
--     StandsBelow table n pass level stage under      .. to this stage one level below
--     IsLast under batch      the first of the batches is this one
--     HoldsRow table n pass level stage owner under      .. and has the first row of another pass in hand
--     IsFirstRow table n level owner row      the row is that one
--     AreNew pass      no row that the pass would fill first was published
use Rattle.std.specs.Prelude.{◌≡◌, ℕ, suc, ◌-◌, ◌≤◌, List, [], ◌∷◌}
use Rattle.fn_model.specs.declared.Kind.TheVariants.{Add}
use Rattle.fn_rows.specs.declared.Stage.{Stage}
use Rattle.fn_rows.specs.declared.Stage.TheVariants.{Shut}
use Rattle.fn_layout.specs.Tree.{aggregator}
use Rattle.fn_layout.specs.Words.{IsSlot, row_number}
use Rattle.fn_core.specs.declared.Position.TheVariants.{Climbing}
use Rattle.fn_core.specs.Machine.{Names}
use Rattle.fn_table.specs.Seen.{TableView, PassView, IsOf, own_of}

-- the batches below a level, each by its offset and its end
abbrev pub AreClosed : (ℕ → Stage) → ℕ → List (ℕ × ℕ) → Type 0
AreClosed stages level [] = level ≡ 1
AreClosed stages level (batch ∷ under) = (lower : ℕ) × (level ≡ suc lower) × (stages lower ≡ Shut batch.0 batch.1) × AreClosed stages lower under

pub record Stands (t : TableView) (n : ℕ) (p : PassView) (level : ℕ) (g : Stage) (under : List (ℕ × ℕ)) : Type 0 where
  pub together : IsOf t p
  pub named : p.number ≡ n
  pub slot : IsSlot t.start.shape n Add level
  pub climbs : (own_of p).caller.position ≡ Climbing Add level
  pub stage : (own_of p).stages Add level ≡ g
  pub closed : AreClosed ((own_of p).stages Add) level under

abbrev pub StandsBelow : TableView → ℕ → PassView → ℕ → Stage → List (ℕ × ℕ) → Type 0
StandsBelow t n p level g [] = ⊥
StandsBelow t n p level g (batch ∷ under) = Stands t n p (level - 1) g under

abbrev pub IsLast : List (ℕ × ℕ) → ℕ × ℕ → Type 0
IsLast [] batch = ⊥
IsLast (first ∷ under) batch = first ≡ batch

-- the row in hand is named by its number at the aggregator
pub record HoldsRow (t : TableView) (n : ℕ) (p : PassView) (level : ℕ) (g : ℕ → Stage) (owner : ℕ) (under : List (ℕ × ℕ)) : Type 0 where
  pub row : ℕ
  pub slot : IsSlot t.start.shape n Add level
  pub stands : Stands t n p level (g row) under
  pub names : Names t.start.shape Add level (aggregator t.start.shape n level) (row_number t.start.shape owner Add level 0) row

abbrev pub AreNew : PassView → Type 0
AreNew p = (level : ℕ) → 1 ≤ level → level ≤ p.seen.start.shape.levels → (own_of p).ends Add level 0 ≡ 0

-- the row is the first of another pass that has the same aggregator
abbrev pub IsFirstRow : TableView → ℕ → ℕ → ℕ → ℕ → Type 0
IsFirstRow t n level owner row = (aggregator t.start.shape owner level ≡ aggregator t.start.shape n level) × (row ≡ row_number t.start.shape owner Add level 0)
