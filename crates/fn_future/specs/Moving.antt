-- How a move stands between its polls.
--     MayAdd table given now amount      the pass has only looked for rows since it was handed in
--     IsMoving move      where it stands, this holds
use Rattle.std.specs.Prelude.{◌≡◌, ◌<◌, ◌≤◌, ⊤, ℕ, min, Option}
use Rattle.fn_model.specs.declared.Kind.TheVariants.{Add, Sub}
use Rattle.fn_core.specs.declared.answer.Why.{Why}
use Rattle.fn_core.specs.Machine.{MaySpend}
use Rattle.fn_core.specs.Calls.{state_in, IsLegal, IsIdle}
use Rattle.fn_table.specs.Seen.{TableView, PassView, IsOf}
use Rattle.fn_table.specs.Later.{IsLater}
use Rattle.fn_table.specs.Called.{HasMadeNone}
use Rattle.fn_future.specs.declared.legs.MoveStage.{MoveStage}
use Rattle.fn_future.specs.declared.legs.MoveStage.TheVariants.{Taking, Between, Adding, Over}
use Rattle.fn_table.specs.Claims.{Rests, Made}
use Rattle.fn_future.specs.Calls.{IsMade}
use Rattle.fn_future.specs.Moves.{MoveView}
use Rattle.fn_future.specs.Standing.{IsUnderway}

-- the pass has made no call since it was handed in, and may add so much
pub record MayAdd (t : TableView) (p : PassView) (q : PassView) (amount : ℕ) : Type 0 where
  pub legal : IsLegal p.seen
  pub rests : Rests p
  pub inside : q.number < q.seen.start.shape.passes
  pub later : IsLater p q
  pub none : HasMadeNone p q
  pub together : IsOf t q
  pub idle : IsIdle q.seen q.number
  pub may : MaySpend (state_in q.seen) q.number amount

-- the subtraction has its reply, by which so much goes on
pub record HasTaken (p : PassView) (amount : ℕ) (out : PassView) (moved : ℕ) : Type 0 where
  pub before : ℕ
  pub made : Made p Sub amount before out
  pub taken : IsMade p Sub amount out before
  pub moved_is : moved ≡ min amount before
  pub some : 1 ≤ moved

-- where a move of these passes stands, this holds
abbrev pub StandsAt : TableView → TableView → PassView → PassView → ℕ → MoveStage → Type 0
StandsAt from to p q amount (Taking now into) = (why : Option Why) × IsOf from p × IsUnderway p Sub amount now why × (into ≡ q) × MayAdd to q into amount
StandsAt from to p q amount (Between out into moved) = HasTaken p amount out moved × MayAdd to q into moved
StandsAt from to p q amount (Adding out now moved) = HasTaken p amount out moved × ((i : PassView) × MayAdd to q i moved × ((why : Option Why) × IsUnderway i Add moved now why))
StandsAt from to p q amount Over = ⊤

abbrev pub IsMoving : MoveView → Type 0
IsMoving m = StandsAt m.from m.to m.out m.into m.amount m.stage
