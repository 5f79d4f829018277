use Rattle.tq_queue.proofs.Laws.{calls_are_answered, books_have_answers, answers_are_shared}
use Rattle.tq_queue.proofs.answer_laws.Goals as goal

pub returns-clause-called : goal.returns-clause-called
returns-clause-called c = calls_are_answered

pub returns-clause-closed : goal.returns-clause-closed
returns-clause-closed c = books_have_answers

pub returns-clause-shared : goal.returns-clause-shared
returns-clause-shared c = answers_are_shared
