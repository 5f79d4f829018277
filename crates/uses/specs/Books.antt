-- Two passes of one funnel, from its opening to its book.
--     IsNew table allowance pass, AreNew table first second      passes that have made no call yet
--     IsBookOf table first second book      the book that the funnel of these two passes closed into
use Rattle.std.specs.Prelude.{◌≡◌, ◌<◌, ℕ, [], All, get_or}
use Rattle.fn_core.specs.Calls.{CoreLog, IsLegal}
use Rattle.fn_table.specs.Seen.{TableView, PassView, IsOf}
use Rattle.fn_table.specs.Claims.{left, Rests}
use Rattle.tq_queue.specs.Answers.{answers_of}
use Rattle.tq_queue.specs.Kept.{own_answers}
use Rattle.tq_queue.specs.Laws.{answers_in}

-- the pass is one of this funnel, makes no call, has made none, and may still ask for so much
pub record IsNew (t : TableView) (allowance : ℕ) (p : PassView) : Type 0 where
  pub together : IsOf t p
  pub rests : Rests p
  pub none : own_answers p ≡ []
  pub whole : left p ≡ allowance

-- the two passes of a funnel are new, each with its allowance
pub record AreNew (t : TableView) (first second : PassView) : Type 0 where
  pub first_is : IsNew t (get_or t.start.allowances 0 0) first
  pub second_is : IsNew t (get_or t.start.allowances 1 0) second
  pub first_named : first.number ≡ 0
  pub second_named : second.number ≡ 1

-- the book has the calls of both passes, and no others
pub record IsBookOf (t : TableView) (first second : PassView) (book : CoreLog) : Type 0 where
  pub start : book.start ≡ t.start
  pub legal : IsLegal book
  pub inside : All (λ answer. answer.call.pass < 2) (answers_in book)
  pub first_calls : answers_of 0 (answers_in book) ≡ own_answers first
  pub second_calls : answers_of 1 (answers_in book) ≡ own_answers second
