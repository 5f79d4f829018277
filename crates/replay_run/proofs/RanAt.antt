-- What a desk's calls come to at one tenant.
use Rattle.std.proofs.Common.{◌≡◌, ◌≢◌, ◌+◌, ℕ, zero, suc, List, [], ◌∷◌, ◌++◌, length, take, slice_get, Some, refl, sym, ap, ◌∙◌, subst, arith, inl, inr, append-nil, append_assoc}
use Rattle.std.proofs.lemmas.Bool.{cases_eq}
use Rattle.std.proofs.lemmas.Option.{none-some, same_Some, slice_get_within}
use Rattle.std.proofs.lemmas.List.Elements.{All-head, All-tail}
use Rattle.std.specs.List.{All}
use mathlib.Core.List.{IsPrefix, append_cancel_left}
use Rattle.fn_model.specs.declared.Call.{Call}
use Rattle.fn_model.specs.Calls.{own}
use Rattle.fn_model.proofs.Lists.{slice_get-set_same}
use Rattle.fn_table.specs.Seen.{PassView}
use Rattle.running.proofs.Logs.{prefix_on, prefix_refl}
use Rattle.fn_table.specs.Called.{call_of as next_call}
use Rattle.fn_table.specs.Claims.{past, mine, next_of, Made}
use Rattle.quota_pool.specs.Views.{PoolView, DeskView}
use Rattle.quota_pool.specs.Calls.{Called as PassCalled}
use Rattle.quota_pool.specs.declared.moved.Moved.{Moved}
use Rattle.trace_text.specs.declared.traces.Row.{Row}
use Rattle.replay_run.specs.Segments.{kind_of, goes_through, rows_of, call_of, call_after, calls_from}
use Rattle.replay_run.specs.Work.{Job, rows_in, Ran}
use Rattle.replay_run.proofs.Runs.{other_place}
use Rattle.replay_run.proofs.Numbered.{length_calls, calls_push, rows_push, rows_pass}

-- a row's call, by which a pass went on that has seen what q has
pub record Reached (q : PassView) (earlier : List Row) (row : Row) (answer : Moved) : Type 0 where
  pub pass : PassView
  pub after : PassView
  pub worker : pass.number ≡ row.worker
  pub start : after.seen.start ≡ q.seen.start
  pub seen : IsPrefix after.seen.log q.seen.log
  pub called : PassCalled pass (kind_of row.op) (goes_through row.op) row.amount answer after
  pub same : next_call pass (kind_of row.op) row.amount ≡ call_after earlier row

-- the pass p, whose worker had made the calls of earlier rows, has become q by the calls of these jobs
pub record RanAt (worker tenant : ℕ) (p q : PassView) (earlier : List Row) (jobs : List Job) : Type 0 where
  pub number : q.number ≡ p.number
  pub start : q.seen.start ≡ p.seen.start
  pub begins : IsPrefix p.seen.log q.seen.log
  pub calls : own worker (past q) ≡ calls_from 0 (rows_of worker tenant (earlier ++ rows_in jobs))
  pub each : (n : ℕ) (job : Job) → slice_get jobs n ≡ Some job → job.row.tenant ≡ tenant → Reached q (earlier ++ take n (rows_in jobs)) job.row job.answer

-- the call that a pass makes next is the row's
module _ (worker tenant : ℕ) (earlier : List Row) (row : Row) (answer : Moved) (p q : PassView) (its : row.worker ≡ worker) (here : row.tenant ≡ tenant) (number : p.number ≡ worker)
    (made : Made p (kind_of row.op) row.amount answer.before q) (calls : own worker (past p) ≡ calls_from 0 (rows_of worker tenant earlier)) where
  abbrev next : Call
  next = next_of p (kind_of row.op) row.amount

  abbrev count : ℕ
  count = length (rows_of worker tenant earlier)

  mine_is : mine p ≡ calls_from 0 (rows_of worker tenant earlier)
  mine_is = ap (λ (w : ℕ). own w (past p)) number ∙ calls

  next_is : next ≡ call_of count row
  next_is =
      let pass : p.number ≡ row.worker = number ∙ sym its in
      let size : length (mine p) ≡ count = ap length mine_is ∙ length_calls 0 (rows_of worker tenant earlier) in
      (λ i. record { pass = pass i; number = size i; kind = kind_of row.op; amount = row.amount })

  pub own_then : own worker (past q) ≡ calls_from 0 (rows_of worker tenant (earlier ++ row ∷ []))
  own_then =
      let n : count ≡ 0 + count = omega arith in
      let pass : q.number ≡ worker = made.same.1 ∙ number in
      ap (λ (w : ℕ). own w (past q)) (sym pass) ∙ made.mine_now ∙ ap (λ (cs : List Call). cs ++ next ∷ []) mine_is
      ∙ ap (λ (call : Call). calls_from 0 (rows_of worker tenant earlier) ++ call ∷ []) (next_is ∙ ap (λ (m : ℕ). call_of m row) n) ∙ sym (calls_push 0 (rows_of worker tenant earlier) row)
      ∙ ap (calls_from 0) (sym (rows_push worker tenant earlier row its here))

  -- also where its steps tell which call it is
  pub same_is : PassCalled p (kind_of row.op) (goes_through row.op) row.amount answer q → next_call p (kind_of row.op) row.amount ≡ call_after earlier row
  same_is called =
      let call : Call = next_call p (kind_of row.op) row.amount in
      let lasts : mine p ++ call ∷ [] ≡ mine p ++ next ∷ [] = sym called.called.joined ∙ ap (λ (w : ℕ). own w (past q)) (sym made.same.1) ∙ made.mine_now in
      let one : call ∷ [] ≡ next ∷ [] = append_cancel_left (mine p) (call ∷ []) (next ∷ []) lasts in
      let same : call ≡ next = cc in
      let at : count ≡ length (rows_of row.worker row.tenant earlier) = ap (λ (w : ℕ). length (rows_of w tenant earlier)) (sym its) ∙ ap (λ (t : ℕ). length (rows_of row.worker t earlier)) (sym here) in
      same ∙ next_is ∙ ap (λ (m : ℕ). call_of m row) at

-- one row more before the others
shifted : (earlier : List Row) (row : Row) (rows : List Row) → (earlier ++ row ∷ []) ++ rows ≡ earlier ++ row ∷ rows
shifted earlier row rows = append_assoc earlier (row ∷ []) rows

module _ (pool : PoolView) (worker tenant : ℕ) where
  abbrev Came : PassView → DeskView → List Row → List Job → Type 0
  Came p new earlier jobs = (q : PassView) × (slice_get new.passes tenant ≡ Some q) × RanAt worker tenant p q earlier jobs

  came_none : (p : PassView) (new : DeskView) (earlier : List Row) → slice_get new.passes tenant ≡ Some p → own worker (past p) ≡ calls_from 0 (rows_of worker tenant earlier) → Came p new earlier []
  came_none p new earlier at calls = (
    p,
    at,
    record {
      number = refl;
      start = refl;
      begins = prefix_refl p.seen.log;
      calls = calls ∙ ap (λ (rows : List Row). calls_from 0 (rows_of worker tenant rows)) (sym (append-nil earlier));
      each = λ n job none here. absurd (none-some job none);
    },
  )

  -- a call at this tenant comes before the others
  came_here : (p r : PassView) (new : DeskView) (earlier : List Row) (job : Job) (jobs : List Job) → job.row.worker ≡ worker → p.number ≡ worker → PassCalled p (kind_of job.row.op) (goes_through job.row.op) job.row.amount job.answer r
      → next_call p (kind_of job.row.op) job.row.amount ≡ call_after earlier job.row → Came r new (earlier ++ job.row ∷ []) jobs → Came p new earlier (job ∷ jobs)
  came_here p r new earlier job jobs its number called same (q, at, ran) = (
    q,
    at,
    record {
      number = ran.number ∙ called.later.number;
      start = ran.start ∙ called.later.start;
      begins = prefix_on p.seen.log r.seen.log q.seen.log called.later.begins ran.begins;
      calls = ran.calls ∙ ap (λ (rows : List Row). calls_from 0 (rows_of worker tenant rows)) (shifted earlier job.row (rows_in jobs));
      each = each;
    },
  )
    where
      first : Reached q (earlier ++ []) job.row job.answer
      first = subst (λ (rows : List Row). Reached q rows job.row job.answer) (sym (append-nil earlier)) (record {
        pass = p;
        after = r;
        worker = number ∙ sym its;
        start = sym ran.start;
        seen = ran.begins;
        called = called;
        same = same;
      })

      each : (n : ℕ) (j : Job) → slice_get (job ∷ jobs) n ≡ Some j → j.row.tenant ≡ tenant → Reached q (earlier ++ take n (rows_in (job ∷ jobs))) j.row j.answer
      each zero j is there = subst (λ (x : Job). Reached q (earlier ++ []) x.row x.answer) (same_Some job j is) first
      each (suc n) j is there = subst (λ (rows : List Row). Reached q rows j.row j.answer) (shifted earlier job.row (take n (rows_in jobs))) (ran.each n j is there)

  -- .. and one at another
  came_else : (p : PassView) (new : DeskView) (earlier : List Row) (job : Job) (jobs : List Job) → job.row.tenant ≢ tenant → Came p new (earlier ++ job.row ∷ []) jobs → Came p new earlier (job ∷ jobs)
  came_else p new earlier job jobs other (q, at, ran) = (
    q,
    at,
    record {
      number = ran.number;
      start = ran.start;
      begins = ran.begins;
      calls = ran.calls ∙ ap (λ (rows : List Row). calls_from 0 (rows_of worker tenant rows)) (shifted earlier job.row (rows_in jobs));
      each = each;
    },
  )
    where
      each : (n : ℕ) (j : Job) → slice_get (job ∷ jobs) n ≡ Some j → j.row.tenant ≡ tenant → Reached q (earlier ++ take n (rows_in (job ∷ jobs))) j.row j.answer
      each zero j is there = absurd (other (ap (λ (x : Job). x.row.tenant) (same_Some job j is) ∙ there))
      each (suc n) j is there = subst (λ (rows : List Row). Reached q rows j.row j.answer) (shifted earlier job.row (take n (rows_in jobs))) (ran.each n j is there)

  -- the calls of a worker's jobs, one after the other
  pub came : (old : DeskView) (jobs : List Job) (new : DeskView) (p : PassView) (earlier : List Row) → Ran pool old jobs new → All (λ (job : Job). job.row.worker ≡ worker) jobs → slice_get old.passes tenant ≡ Some p → p.number ≡ worker
      → own worker (past p) ≡ calls_from 0 (rows_of worker tenant earlier) → Came p new earlier jobs
  came old [] new p earlier is all at number calls = came_none p new earlier (ap (λ (d : DeskView). slice_get d.passes tenant) is ∙ at) calls
  came old (job ∷ jobs) new p earlier (next, called, rest) all at number calls =
      let its : job.row.worker ≡ worker = All-head (λ (j : Job). j.row.worker ≡ worker) job jobs all in
      let others = All-tail (λ (j : Job). j.row.worker ≡ worker) job jobs all in
      let made = called.made in
      elim (cases_eq tenant job.row.tenant) [
        | inl same ↦
            let found : slice_get old.passes tenant ≡ Some made.pass = ap (λ (t : ℕ). slice_get old.passes t) same ∙ made.at in
            let is : made.pass ≡ p = same_Some made.pass p (sym found ∙ at) in
            let inside = slice_get_within old.passes job.row.tenant made.pass made.at in
            let now : slice_get next.passes job.row.tenant ≡ Some made.after = ap (λ (d : DeskView). slice_get d.passes job.row.tenant) made.desk ∙ slice_get-set_same old.passes job.row.tenant made.after inside in
            let claim : Made p (kind_of job.row.op) job.row.amount job.answer.before made.after = subst (λ (v : PassView). Made v (kind_of job.row.op) job.row.amount job.answer.before made.after) is made.made in
            let way : PassCalled p (kind_of job.row.op) (goes_through job.row.op) job.row.amount job.answer made.after =
            subst (λ (v : PassView). PassCalled v (kind_of job.row.op) (goes_through job.row.op) job.row.amount job.answer made.after) is (called.way made.pass made.after made.at now) in
            came_here p made.after new earlier job jobs its number way (same_is worker tenant earlier job.row job.answer p made.after its (sym same) number claim calls way)
            (came next jobs new made.after (earlier ++ job.row ∷ []) rest others (ap (λ (t : ℕ). slice_get next.passes t) same ∙ now) (claim.same.1 ∙ number) (own_then worker tenant earlier job.row job.answer p made.after its (sym same) number claim calls))
        | inr other ↦
            let still : slice_get next.passes tenant ≡ Some p = ap (λ (d : DeskView). slice_get d.passes tenant) made.desk ∙ other_place old.passes job.row.tenant tenant made.after other ∙ at in
            let same : own worker (past p) ≡ calls_from 0 (rows_of worker tenant (earlier ++ job.row ∷ [])) =
            calls ∙ ap (calls_from 0) (sym (rows_pass worker tenant earlier job.row (λ e. other (sym e)))) in
            came_else p new earlier job jobs (λ e. other (sym e)) (came next jobs new p (earlier ++ job.row ∷ []) rest others still number same)
      ]
