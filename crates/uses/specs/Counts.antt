-- What a thread has done with its pass.
--     Follows table old new      it is the same pass, and makes no call
--     HasAdded table old n new      it has raised the integer by n, and lowered it by nothing
--     HasDrawn table old size reply new      it has made one addition, which met the reply
--     Settles owed answers      calls by which as much is given back as was taken
--     HasReturned table old new      the pass has given back what it took
use Rattle.std.specs.Prelude.{◌≡◌, ℕ, ◌+◌, ◌-◌, ◌≤◌, ⊤, min, List, [], ◌∷◌}
use Rattle.fn_model.specs.declared.Call.{Call}
use Rattle.fn_model.specs.declared.Kind.{Kind}
use Rattle.fn_model.specs.declared.Kind.TheVariants.{Add, Sub, Read}
use Rattle.fn_table.specs.Seen.{TableView, PassView, IsOf}
use Rattle.fn_table.specs.Claims.{Rests}
use Rattle.tq_queue.specs.Answers.{Answered, raised, lowered}
use Rattle.tq_queue.specs.Kept.{own_answers}

-- it is the same pass of the funnel, and makes no call
pub record Follows (t : TableView) (p q : PassView) : Type 0 where
  pub together : IsOf t q
  pub named : q.number ≡ p.number
  pub rests : Rests q

-- the pass has raised the integer by n in all, and lowered it by nothing
pub record HasAdded (t : TableView) (p : PassView) (n : ℕ) (q : PassView) : Type 0 where
  pub follows : Follows t p q
  pub up : raised (own_answers q) ≡ n
  pub down : lowered (own_answers q) ≡ 0

-- the pass has made one call, an addition of this size, which met the reply
pub record HasDrawn (t : TableView) (p : PassView) (size reply : ℕ) (q : PassView) : Type 0 where
  pub follows : Follows t p q
  pub call : Call
  pub kind_is : call.kind ≡ Add
  pub size_is : call.amount ≡ size
  pub one : own_answers q ≡ record { call = call; met = reply } ∷ []

-- what a pass owes after a call
abbrev pub owes : ℕ → Kind → ℕ → ℕ → ℕ
owes owed Add amount met = owed - amount
owes owed Sub amount met = owed + min amount met
owes owed Read amount met = owed

-- it gives back no more than it owes
abbrev pub MayGive : ℕ → Kind → ℕ → Type 0
MayGive owed Add amount = amount ≤ owed
MayGive owed Sub amount = ⊤
MayGive owed Read amount = ⊤

-- by these calls a pass that owes so much gives back all that it owes
abbrev pub Settles : ℕ → List Answered → Type 0
Settles owed [] = owed ≡ 0
Settles owed (answer ∷ more) = MayGive owed answer.call.kind answer.call.amount × Settles (owes owed answer.call.kind answer.call.amount answer.met) more

-- the pass has given back what it took
pub record HasReturned (t : TableView) (p q : PassView) : Type 0 where
  pub follows : Follows t p q
  pub settled : Settles 0 (own_answers q)
