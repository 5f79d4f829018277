-- Two passes of one funnel, from its opening to its book.
use Rattle.std.proofs.Common.{◌≡◌, ℕ, ◌<◌, ◌-◌, List, [], ◌∷◌, slice_get, ap, subst, All}
use Rattle.fn_model.specs.declared.Call.{Call}
use Rattle.fn_core.specs.State.{State, history_in}
use Rattle.fn_core.specs.State as first_state
use Rattle.fn_core.specs.Calls.{CoreLog, calls_in}
use Rattle.fn_table.specs.Seen.{TableView, PassView, IsOf, fresh}
use Rattle.fn_table.proofs.Glances.{glances_run}
use Rattle.tq_queue.specs.Answers.{Answered, answered, answers_of}
use Rattle.tq_queue.specs.Kept.{own_answers}
use Rattle.tq_queue.specs.Laws.{answers_in}
use Rattle.tq_queue.specs.Seen.{HasClosed}
use Rattle.tq_queue.proofs.Laws.{books_have_answers}
use Rattle.uses.specs.Books.{IsBookOf}

-- a new pass has seen no call
nothing_seen : (t : TableView) (number : ℕ) → calls_in (fresh t number).seen ≡ []
nothing_seen t number = ap (λ (s : State). history_in t.start s) (glances_run t.start (first_state.opened t.start) (t.start.shape.passes - 1))

pub none_yet : (t : TableView) (number : ℕ) → own_answers (fresh t number) ≡ []
none_yet t number = ap (λ (calls : List Call). answers_of number (answered t.start.cap t.start.opening calls)) (nothing_seen t number)

pub is_book : (t : TableView) (first second : PassView) (passes : List PassView) (book : CoreLog) → passes ≡ first ∷ second ∷ [] → t.start.shape.passes ≡ 2 → IsOf t first → first.number ≡ 0 → IsOf t second → second.number ≡ 1 → HasClosed t passes book → IsBookOf t first second book
is_book t first second passes book are two one one_named other other_named closed =
    let all = books_have_answers t passes book closed in
    record {
      start = closed.start;
      legal = closed.closed.legal;
      inside = subst (λ n. All (λ (a : Answered). a.call.pass < n) (answers_in book)) two all.1;
      first_calls = subst (λ n. answers_of n (answers_in book) ≡ own_answers first) one_named (all.0 0 first (ap (λ (ps : List PassView). slice_get ps 0) are) one);
      second_calls = subst (λ n. answers_of n (answers_in book) ≡ own_answers second) other_named (all.0 1 second (ap (λ (ps : List PassView). slice_get ps 1) are) other);
    }
