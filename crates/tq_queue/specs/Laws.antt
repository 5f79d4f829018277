-- The laws of a closed queue, and of what calls meet.
--     Rises at tickets      the tickets rise, from `at` on
--     IsSound book      each ticket is put once and taken once at most, in order and without a gap, and the four integers say how many
--     answers_in book      all calls of a book, each with the integer that it met
--     CallsAreAnswered      a call that a pass has made is the last of its answers
--     BooksHaveAnswers      a closed funnel's book has the answers of its passes, and no others
--     AnswersAreShared      what answers add up to is what those of each pass do
use Rattle.std.specs.Prelude.{◌≡◌, ℕ, suc, ◌+◌, ◌-◌, ◌≤◌, ◌<◌, nat_lt, if◌then◌else◌, List, [], ◌∷◌, ◌++◌, length, slice_get, Some, All, sum_by}
use Rattle.fn_model.specs.declared.Kind.{Kind}
use Rattle.fn_model.specs.Order.{sum_below}
use Rattle.fn_core.specs.Calls.{CoreLog, calls_in}
use Rattle.fn_table.specs.Claims.{next_of, Made}
use Rattle.fn_table.specs.Seen.{TableView, PassView, IsOf}
use Rattle.tq_cells.specs.Laws.{puts, takes}
use Rattle.tq_cells.specs.Seen.{entries_of}
use Rattle.tq_queue.specs.Answers.{Answered, answered, answers_of}
use Rattle.tq_queue.specs.Kept.{own_answers, tickets_put, tickets_taken}
use Rattle.tq_queue.specs.Seen.{BookView, HasClosed, value_of}

-- the tickets rise, each at least `at`
abbrev pub Rises : ℕ → List ℕ → Type 0
Rises at [] = Unit {0}
Rises at (ticket ∷ tickets) = (at ≤ ticket) × Rises (suc ticket) tickets

-- The tickets put are those below the value of `tail`, each once, and the tickets taken those below the value of `head`. Those of one seat rise
pub record IsSound {T : Type 0} (b : BookView T) : Type 0 where
  pub puts : (ticket : ℕ) → length (puts ticket b.cells.log) ≡ (if nat_lt ticket (value_of b.funnels.tail) then 1 else 0)
  pub takes : (ticket : ℕ) → takes ticket b.cells.log ≡ (if nat_lt ticket (value_of b.funnels.head) then 1 else 0)
  pub rising_puts : (seat : ℕ) → Rises 0 (tickets_put (entries_of seat b.cells.log))
  pub rising_takes : (seat : ℕ) → Rises 0 (tickets_taken (entries_of seat b.cells.log))
  pub order : (value_of b.funnels.head ≤ value_of b.funnels.tail) × (value_of b.funnels.tail ≤ value_of b.funnels.head + b.cells.start.capacity)
  pub items : value_of b.funnels.items ≡ value_of b.funnels.tail - value_of b.funnels.head
  pub free : value_of b.funnels.free ≡ b.cells.start.capacity - (value_of b.funnels.tail - value_of b.funnels.head)

-- all calls of a book, in order, each with the integer that it met
abbrev pub answers_in : CoreLog → List Answered
answers_in book = answered book.start.cap book.start.opening (calls_in book)

-- a call that a pass has made is the last of its answers, and met the reply
abbrev pub CallsAreAnswered : Type 0
CallsAreAnswered = (p : PassView) (kind : Kind) (amount reply : ℕ) (q : PassView) → Made p kind amount reply q → own_answers q ≡ own_answers p ++ record { call = next_of p kind amount; met = reply } ∷ []

-- a closed funnel's book has the answers of each of its passes, as the pass has been told, and no others
abbrev pub BooksHaveAnswers : Type 0
BooksHaveAnswers = (table : TableView) (passes : List PassView) (book : CoreLog) → HasClosed table passes book
    → ((k : ℕ) (p : PassView) → slice_get passes k ≡ Some p → IsOf table p → answers_of p.number (answers_in book) ≡ own_answers p) × All (λ answer. answer.call.pass < table.start.shape.passes) (answers_in book)

-- what the answers of passes add up to is what those of each of them do
abbrev pub AnswersAreShared : Type 0
AnswersAreShared = (weight : Answered → ℕ) (passes : ℕ) (answers : List Answered) → All (λ answer. answer.call.pass < passes) answers → sum_by weight answers ≡ sum_below passes (λ pass. sum_by weight (answers_of pass answers))
