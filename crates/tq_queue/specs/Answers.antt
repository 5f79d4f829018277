-- The calls of a history, each with the integer that it met.
--     answered cap v calls, answers_of pass answers      all of them, where the first meets v, and those of one pass
--     raised answers, lowered answers      by how much the additions raised the integer, and the subtractions lowered it
--     AreTickets answers tickets      they are additions of 1 that met these tickets
use Rattle.std.specs.Prelude.{◌≡◌, ℕ, ◌==◌, min, List, [], ◌∷◌, All, map, filter, sum_by}
use Rattle.fn_model.specs.declared.Call.{Call}
use Rattle.fn_model.specs.declared.Kind.{Kind}
use Rattle.fn_model.specs.declared.Kind.TheVariants.{Add, Sub, Read}
use Rattle.fn_model.specs.Integer.{after}

-- a call, and the integer that it met
pub record Answered : Type 0 where
  pub call : Call
  pub met : ℕ

-- the calls with what each meets, where the first meets v
abbrev pub answered : ℕ → ℕ → List Call → List Answered
answered cap v [] = []
answered cap v (call ∷ calls) = record { call = call; met = v } ∷ answered cap (after cap v call.kind call.amount) calls

-- those of one pass, in order
abbrev pub answers_of : ℕ → List Answered → List Answered
answers_of pass answers = filter (λ answer. answer.call.pass == pass) answers

-- by how much a call raised the integer, where no cap stops it
abbrev pub raised_by : Kind → ℕ → ℕ
raised_by Add amount = amount
raised_by Sub amount = 0
raised_by Read amount = 0

-- .. and by how much it lowered the integer
abbrev pub lowered_by : Kind → ℕ → ℕ → ℕ
lowered_by Add amount met = 0
lowered_by Sub amount met = min amount met
lowered_by Read amount met = 0

-- by how much all of them raised the integer
abbrev pub raised : List Answered → ℕ
raised answers = sum_by (λ answer. raised_by answer.call.kind answer.call.amount) answers

-- by how much all of them lowered it
abbrev pub lowered : List Answered → ℕ
lowered answers = sum_by (λ answer. lowered_by answer.call.kind answer.call.amount answer.met) answers

-- the call is an addition of 1
abbrev pub AddsOne : Answered → Type 0
AddsOne answer = (answer.call.kind ≡ Add) × (answer.call.amount ≡ 1)

-- the calls are additions of 1, which met these tickets
pub record AreTickets (answers : List Answered) (tickets : List ℕ) : Type 0 where
  pub ones : All AddsOne answers
  pub met : map (λ answer. answer.met) answers ≡ tickets
