-- A poll takes few steps, and at most one exchange.
use Rattle.std.proofs.Common.{◌≡◌, ⊎_elim, ℕ, zero, suc, ◌*◌, ◌<◌, ◌≤◌, Bool, true, false, List, [], ◌∷◌, ◌++◌, length, refl, sym, ap, subst, arith}
use Rattle.std.specs.Prelude.{if◌then◌else◌}
use Rattle.std.proofs.lemmas.Bool.{false≢true}
use Rattle.fn_model.specs.declared.Kind.{Kind}
use Rattle.fn_rows.specs.declared.Stage.{Stage}
use Rattle.fn_rows.specs.declared.Stage.TheVariants.{Out, Saw, Told, Waiting, Lead, Late, Shut, Based, Headed, FilledLo, FilledBase, Filled, Pointed, At, Over, Hit, Got}
use Rattle.fn_core.specs.declared.Event.{Event}
use Rattle.fn_core.specs.declared.Move.{Move}
use Rattle.fn_core.specs.declared.Move.TheVariants.{Exchange}
use Rattle.fn_core.specs.declared.answer.CoreStep.{CoreStep}
use Rattle.fn_core.specs.declared.answer.CoreStep.TheVariants.{Going, Ready, NotYet}
use Rattle.fn_core.specs.State.{Start, Climbing, Deciding, State, opened, stage}
use Rattle.fn_core.specs.Machine.{IsStart, Legal, run, moves}
use Rattle.fn_core.specs.Bound.{rank, visited_by, steps_left, steps_left_by}
use Rattle.fn_core.specs.Order.{next_move}
use Rattle.fn_core.specs.Positions.{is_out, IsClimbing}
use Rattle.fn_core.specs.Laws.{IsUnderway, HoldsRows}
use Rattle.fn_core.specs.Calls.{CoreLog, with_move, step_answer, Follows}
use Rattle.fn_core.specs.Polls.{is_going, most_steps, poll_moves, is_exchange, exchanges, StepsFollow, PollsAreShort}
use Rattle.fn_core.proofs.Whole.{stages_of, climbing}
use Rattle.fn_core.proofs.Grows.{holds}
use Rattle.fn_core.proofs.Filling.{calls_always_go_on, legal_push, run_push}
use Rattle.fn_core.proofs.Follows.{in_call, few_left, follows}

-- a member that stands somewhere has a step left
rank_some : (n visited : ℕ) (g : Stage) → is_out g ≡ false → 1 ≤ rank n visited g
rank_some n visited Out is = absurd (false≢true (sym is))
rank_some n visited (Saw seen) is = omega arith
rank_some n visited (Told seen) is = omega arith
rank_some n visited (Waiting at) is = omega arith
rank_some n visited (Lead at) is = omega arith
rank_some n visited (Late at) is = omega arith
rank_some n visited (Shut at hi) is = omega arith
rank_some n visited (Based at hi b) is = omega arith
rank_some n visited (Headed at hi b h) is = omega arith
rank_some n visited (FilledLo at hi b h r) is = omega arith
rank_some n visited (FilledBase at hi b h r) is = omega arith
rank_some n visited (Filled at hi b r) is = omega arith
rank_some n visited (Pointed at hi b r) is = omega arith
rank_some n visited (At at r) is = omega arith
rank_some n visited (Over at r) is = omega arith
rank_some n visited (Hit at r lo) is = omega arith
rank_some n visited (Got b ahead) is = omega arith

-- what a number bounds, and counts for nothing where it is below another
abbrev AreFew : ℕ → ℕ → List Move → Type 0
AreFew left limit steps = (length steps ≤ left) × (exchanges steps ≤ 1) × (left < limit → exchanges steps ≡ 0)

-- one step before the others
few_more : (left less limit : ℕ) (move : Move) (steps : List Move) → less < left → (is_exchange move ≡ true → left ≡ limit) → AreFew less limit steps → AreFew left limit (move ∷ steps)
few_more left less limit move steps fewer at few = (omega (arith, few.0, fewer), (by (is_exchange move) at).0, (by (is_exchange move) at).1)
  where
    by : (b : Bool) → (b ≡ true → left ≡ limit) → ((if b then suc (exchanges steps) else exchanges steps) ≤ 1) × (left < limit → (if b then suc (exchanges steps) else exchanges steps) ≡ 0)
    by true at = (omega (arith, few.2 (omega (arith, at refl, fewer))), (λ below. absurd (omega (arith, at refl, below))))
    by false at = (few.1, (λ below. few.2 (omega (arith, below, fewer))))

module _ (start : Start) (ok : IsStart start) (p n : ℕ) (range : p < start.shape.passes) (rows : HoldsRows start p n) where
  -- a call underway has a step left
  some_left : (log : List Event) → Legal start log (opened start) → IsUnderway start (run start log (opened start)) p → 1 ≤ steps_left start (run start log (opened start)) p n
  some_left log legal u = ⊎_elim climbs decides (in_call start log ok legal p range u)
    where
      s : State
      s = run start log (opened start)

      climbs : (kind : Kind) × (level : ℕ) × ((s.callers p).position ≡ Climbing kind level) → 1 ≤ steps_left start s p n
      climbs (kind, level, is) =
          let up : IsClimbing start.shape.levels (stages_of start s p) kind level = climbing start ok s (holds start log ok legal).0 p kind level is in
          omega (arith, ap (steps_left_by start s p n) is, rank_some n (visited_by start s p kind level) (stage start s kind level p) up.there)

      decides : (kind : Kind) × (level word : ℕ) × ((s.callers p).position ≡ Deciding kind level word) → 1 ≤ steps_left start s p n
      decides (kind, level, word, is) = omega (arith, ap (steps_left_by start s p n) is)

  -- an exchange comes with just so many steps left
  at_exchange : (log : List Event) (legal : Legal start log (opened start)) → IsUnderway start (run start log (opened start)) p → (move : Move) → next_move start (run start log (opened start)) p ≡ move → is_exchange move ≡ true
      → steps_left start (run start log (opened start)) p n ≡ 8 * start.shape.levels
  at_exchange log legal u (Exchange kind amount) same is = (few_left start log ok legal p range u n rows).1 kind amount same
  at_exchange log legal u _ same is = absurd (false≢true is)

  few : (most : ℕ) (log : List Event) → Legal start log (opened start) → IsUnderway start (run start log (opened start)) p
      → AreFew (steps_left start (run start log (opened start)) p n) (8 * start.shape.levels) (poll_moves most start (run start log (opened start)) p)
  few zero log legal u = (omega arith, omega arith, (λ below. refl))
  few (suc most) log legal u = by (step_answer start s p) refl (few most)
    where
      s : State
      s = run start log (opened start)

      move : Move
      move = next_move start s p

      event : Event
      event = record { pass = p; step = move }

      old : CoreLog
      old = record { start = start; log = log }

      so : Follows old (with_move old p move) p (step_answer start s p)
      so = follows start log ok legal p range u

      Few : List Move → Type 0
      Few steps = AreFew (steps_left start s p n) (8 * start.shape.levels) steps

      last : Few (move ∷ [])
      last = few_more (steps_left start s p n) 0 (8 * start.shape.levels) move [] (some_left log legal u) (at_exchange log legal u move refl) (omega arith, omega arith, (λ below. refl))

      by : (told : CoreStep) → step_answer start s p ≡ told
          → ((log : List Event) → Legal start log (opened start) → IsUnderway start (run start log (opened start)) p → AreFew (steps_left start (run start log (opened start)) p n) (8 * start.shape.levels) (poll_moves most start (run start log (opened start)) p))
          → Few (move ∷ (if is_going told then poll_moves most start (moves start s p move) p else []))
      by (Ready reply) is rest = last
      by (NotYet why) is rest = last
      by Going is rest =
          let goes : Follows old (with_move old p move) p Going = subst (Follows old (with_move old p move) p) is so in
          let next : List Event = log ++ event ∷ [] in
          let further = rest next (legal_push start log event (opened start) legal (calls_always_go_on start log ok legal p range u)) goes.0 in
          few_more (steps_left start s p n) (steps_left start (run start next (opened start)) p n) (8 * start.shape.levels) move (poll_moves most start (moves start s p move) p) (goes.1 n rows) (at_exchange log legal u move refl)
          (subst (λ (x : State). AreFew (steps_left start (run start next (opened start)) p n) (8 * start.shape.levels) (poll_moves most start x p)) (run_push start log event (opened start)) further)

pub steps_follow : StepsFollow
steps_follow core pass legal range u = follows core.start core.log legal.0 legal.1 pass range u

pub polls_are_short : PollsAreShort
polls_are_short start log ok legal pass n range u rows =
    let s : State = run start log (opened start) in
    let short = few start ok pass n range rows (most_steps start s pass) log legal u in
    let left = few_left start log ok legal pass range u n rows in
    (omega (arith, short.0, left.0), short.1)
