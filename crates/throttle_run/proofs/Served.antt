-- What a desk's takes come to, one after the other.
use Rattle.std.proofs.Common.{◌≡◌, ℕ, zero, suc, ◌+◌, ◌-◌, ◌/◌, ◌≤◌, ◌==◌, min, max, Bool, List, [], ◌∷◌, ◌++◌, length, map, get_or, set, cond, refl, sym, ap, ◌∙◌, subst, append_assoc, append-nil, arith, inl, inr, eq-eqb, ne_eqb, if◌then◌else◌}
use Rattle.std.proofs.lemmas.Bool.{cases_eq}
use Rattle.std.proofs.lemmas.List.{length-append}
use Rattle.std.proofs.lemmas.List.Elements.{filter-append, All-head, All-tail}
use Rattle.std.proofs.lemmas.List.Sums.{sum_by-cons}
use mathlib.Core.List.{IsPrefix}
use Rattle.fn_model.specs.declared.Call.{Call}
use Rattle.fn_model.specs.Integer.{Meets}
use Rattle.fn_table.specs.Seen.{PassView}
use Rattle.fn_table.specs.Claims.{past, mine, left}
use Rattle.tick_table.specs.declared.entry.Entry.{Entry}
use Rattle.tick_table.specs.declared.entry.Start.{Start}
use Rattle.tick_table.specs.Claims.{reach}
use Rattle.tick_table.specs.Seen.{SeatView, entries_of, entry}
use Rattle.tick_table.proofs.Claims.{between_length}
use Rattle.quota_bucket.specs.declared.desks.Taken.{Taken}
use Rattle.quota_bucket.specs.Seen.{BucketView, DeskView, Belongs, burst}
use Rattle.quota_bucket.specs.Taking as desk
use Rattle.quota_bucket.specs.Taking.{Takes, tokens}
use Rattle.quota_bucket.proofs.Standing.{takes_stand}
use Rattle.throttle_run.specs.declared.lines.ThrottleLine.{ThrottleLine}
use Rattle.throttle_run.specs.declared.workers.Job.{Job}
use Rattle.throttle_run.specs.Lines.{cost}
use Rattle.throttle_run.specs.Throttled.{take_calls, taking, calls_from, AreMet, claims_of}
use Rattle.throttle_run.specs.Work.{lines_in, tolds, MayRun, Ran}

prefix_trans : {A : Type 0} (xs ys zs : List A) → IsPrefix xs ys → IsPrefix ys zs → IsPrefix xs zs
prefix_trans xs ys zs first second = (first.0 ++ second.0, sym (append_assoc xs first.0 second.0) ∙ ap (λ l. l ++ second.0) first.1 ∙ second.1)

-- the claims of a desk's entries go on from the reach of those before
pub claims-append : (desk from : ℕ) (xs ys : List Entry) → claims_of desk from (xs ++ ys) ≡ claims_of desk from xs ++ claims_of desk (reach from xs) ys
claims-append desk from [] ys = refl
claims-append desk from (e ∷ xs) ys =
    let first : List ℕ = if e.desk == desk then (e.tick - from) ∷ [] else [] in
    ap (λ (ns : List ℕ). first ++ ns) (claims-append desk (max from e.tick) xs ys) ∙ sym (append_assoc first (claims_of desk (max from e.tick) xs) (claims_of desk (reach (max from e.tick) xs) ys))

abbrev kept : Entry → List Entry → Bool → List Entry
kept e log b = cond b (e ∷ log) log

-- entries of others claim nothing for the desk
pub no_claims : (desk from : ℕ) (log : List Entry) → entries_of desk log ≡ [] → claims_of desk from log ≡ []
no_claims desk from [] none = refl
no_claims desk from (e ∷ log) none = elim (cases_eq e.desk desk) [
  | inl mine ↦
      let some : e ∷ entries_of desk log ≡ [] = sym (ap (kept e (entries_of desk log)) (eq-eqb e.desk desk mine)) ∙ none in
      absurd (omega (arith, ap length some))
  | inr other ↦
      ap (λ (b : Bool). (if b then (e.tick - from) ∷ [] else []) ++ claims_of desk (max from e.tick) log) (ne_eqb e.desk desk other)
      ∙ no_claims desk (max from e.tick) log (sym (ap (kept e (entries_of desk log)) (ne_eqb e.desk desk other)) ∙ none)
]

nothing_more : {A : Type 0} (xs ys : List A) → xs ++ ys ≡ xs → ys ≡ []
nothing_more [] ys is = is
nothing_more (x ∷ xs) ys is = nothing_more xs ys (cc)

-- so where a log goes on with no entry of the desk, its claims stay
pub claims_stay : (desk from : ℕ) (log longer : List Entry) → IsPrefix log longer → entries_of desk longer ≡ entries_of desk log → claims_of desk from longer ≡ claims_of desk from log
claims_stay desk from log longer (more, is) same =
    let others : entries_of desk more ≡ [] = nothing_more (entries_of desk log) (entries_of desk more) (sym (filter-append (λ (e : Entry). e.desk == desk) log more) ∙ ap (entries_of desk) is ∙ same) in
    ap (claims_of desk from) (sym is) ∙ claims-append desk from log more ∙ ap (λ (ns : List ℕ). claims_of desk from log ++ ns) (no_claims desk (reach from log) more others) ∙ append-nil (claims_of desk from log)

one_claim : (desk from tick : ℕ) → claims_of desk from (entry desk tick ∷ []) ≡ (tick - from) ∷ []
one_claim desk from tick = ap (λ (b : Bool). (if b then (tick - from) ∷ [] else []) ++ []) (eq-eqb desk desk refl)

-- the calls of a take, in words of numbers
same_calls : (b : BucketView) (p : PassView) (ticks amount : ℕ) → desk.take_calls b p ticks amount ≡ take_calls (burst b) b.rate p.number (length (mine p)) ticks amount
same_calls b p zero amount = refl
same_calls b p (suc ticks) amount = refl

same_taking : (p : PassView) (ticks amount : ℕ) → desk.taking p ticks amount ≡ taking p.number (length (mine p)) ticks amount
same_taking p zero amount = refl
same_taking p (suc ticks) amount = refl

-- What a take comes to, of the worker of this number
pub record Step (b : BucketView) (w : ℕ) (p : DeskView) (now amount : ℕ) (told : Taken) (q : DeskView) : Type 0 where
  pub number : q.seat.number ≡ w
  pub together : Belongs b q
  pub goes_on : IsPrefix (past p.pass) (past q.pass)
  pub entries : entries_of w q.seat.log ≡ entries_of w p.seat.log ++ entry w (now / b.period) ∷ []
  pub claims : claims_of w b.ticks.start.tick q.seat.log ≡ claims_of w b.ticks.start.tick p.seat.log ++ told.refilled ∷ []
  pub calls : mine q.pass ≡ mine p.pass ++ take_calls (burst b) b.rate w (length (mine p.pass)) told.refilled amount
  pub met : (whole : List Call) → IsPrefix (past q.pass) whole → Meets (burst b) b.funnel.start.opening whole (taking w (length (mine p.pass)) told.refilled amount) told.before
  pub moved : told.moved ≡ min amount told.before

module _ (b : BucketView) (p : DeskView) (now amount : ℕ) (told : Taken) (q : DeskView) (belongs : Belongs b p) (takes : Takes b p now amount told q) where
  abbrev w : ℕ
  w = p.seat.number

  abbrev from : ℕ
  from = b.ticks.start.tick

  abbrev tick : ℕ
  tick = now / b.period

  abbrev before : List Entry
  before = takes.claimed.before

  last_is : takes.last ≡ reach from before
  last_is = takes.claimed.word ∙ ap (λ (s : Start). reach s.tick before) belongs.seat.1

  refilled_is : tick - reach from before ≡ told.refilled
  refilled_is = ap (λ (n : ℕ). tick - n) (sym last_is) ∙ sym (takes.refilled ∙ between_length takes.last tick)

  claims_now : claims_of w from q.seat.log ≡ claims_of w from p.seat.log ++ told.refilled ∷ []
  claims_now =
      ap (λ (s : SeatView). claims_of w from s.log) takes.claimed.now ∙ claims-append w from before (entry w tick ∷ [])
      ∙ (λ i. claims_stay w from p.seat.log before takes.claimed.begins takes.claimed.own i ++ one_claim w (reach from before) tick i) ∙ ap (λ (n : ℕ). claims_of w from p.seat.log ++ n ∷ []) refilled_is

  step : Step b w p now amount told q
  step = record {
    number = ap (λ (s : SeatView). s.number) takes.claimed.now;
    together = takes.together;
    goes_on = takes.goes_on;
    entries = takes.entries;
    claims = claims_now;
    calls = takes.mine_now ∙ ap (λ (cs : List Call). mine p.pass ++ cs) (same_calls b p.pass told.refilled amount ∙ ap (λ (n : ℕ). take_calls (burst b) b.rate n (length (mine p.pass)) told.refilled amount) belongs.number);
    met = λ whole begins. subst (λ (call : Call). Meets (burst b) b.funnel.start.opening whole call told.before) (same_taking p.pass told.refilled amount ∙ ap (λ (n : ℕ). taking n (length (mine p.pass)) told.refilled amount) belongs.number)
        (takes_stand b p q now amount told takes whole begins);
    moved = takes.moved;
  }

  pub step_of : (n : ℕ) → p.seat.number ≡ n → Step b n p now amount told q
  step_of n is = subst (λ (m : ℕ). Step b m p now amount told q) is step

-- What the takes of jobs come to
pub record Told (b : BucketView) (w : ℕ) (p : DeskView) (jobs : List Job) (q : DeskView) : Type 0 where
  pub number : q.seat.number ≡ w
  pub together : Belongs b q
  pub goes_on : IsPrefix (past p.pass) (past q.pass)
  pub entries : entries_of w q.seat.log ≡ entries_of w p.seat.log ++ map (λ line. entry w (line.now / b.period)) (lines_in jobs)
  pub claims : claims_of w b.ticks.start.tick q.seat.log ≡ claims_of w b.ticks.start.tick p.seat.log ++ map (λ told. told.refilled) (tolds jobs)
  pub calls : mine q.pass ≡ mine p.pass ++ calls_from (burst b) b.rate w (length (mine p.pass)) (lines_in jobs) (tolds jobs)
  pub met : (whole : List Call) → IsPrefix (past q.pass) whole → AreMet (burst b) b.rate w (length (mine p.pass)) whole (lines_in jobs) (tolds jobs)

module _ (b : BucketView) (full : b.funnel.start.opening ≡ burst b) (w : ℕ) where
  none_told : (p q : DeskView) → p.seat.number ≡ w → Belongs b p → q ≡ p → Told b w p [] q
  none_told p q number belongs is = subst (Told b w p []) (sym is) (record {
    number = number;
    together = belongs;
    goes_on = ([], append-nil (past p.pass));
    entries = sym (append-nil (entries_of w p.seat.log));
    claims = sym (append-nil (claims_of w b.ticks.start.tick p.seat.log));
    calls = sym (append-nil (mine p.pass));
    met = λ whole begins. tt;
  })

  more_told : (p r q : DeskView) (job : Job) (jobs : List Job) → Step b w p job.line.now job.line.amount job.told r → Told b w r jobs q → Told b w p (job ∷ jobs) q
  more_told p r q job jobs one others =
      let n : ℕ = length (mine p.pass) in
      let first : List Call = take_calls (burst b) b.rate w n job.told.refilled job.line.amount in
      let count : length (mine r.pass) ≡ n + length first = ap length one.calls ∙ length-append (mine p.pass) first in
      record {
        number = others.number;
        together = others.together;
        goes_on = prefix_trans (past p.pass) (past r.pass) (past q.pass) one.goes_on others.goes_on;
        entries = others.entries ∙ ap (λ (es : List Entry). es ++ map (λ (line : ThrottleLine). entry w (line.now / b.period)) (lines_in jobs)) one.entries
            ∙ append_assoc (entries_of w p.seat.log) (entry w (job.line.now / b.period) ∷ []) (map (λ (line : ThrottleLine). entry w (line.now / b.period)) (lines_in jobs));
        claims = others.claims ∙ ap (λ (ns : List ℕ). ns ++ map (λ (told : Taken). told.refilled) (tolds jobs)) one.claims
            ∙ append_assoc (claims_of w b.ticks.start.tick p.seat.log) (job.told.refilled ∷ []) (map (λ (told : Taken). told.refilled) (tolds jobs));
        calls = others.calls ∙ (λ i. one.calls i ++ calls_from (burst b) b.rate w (count i) (lines_in jobs) (tolds jobs))
            ∙ append_assoc (mine p.pass) first (calls_from (burst b) b.rate w (n + length first) (lines_in jobs) (tolds jobs));
        met = λ whole begins. (
          subst (λ (opening : ℕ). Meets (burst b) opening whole (taking w n job.told.refilled job.line.amount) job.told.before) full (one.met whole (prefix_trans (past r.pass) (past q.pass) whole others.goes_on begins)),
          one.moved,
          subst (λ (m : ℕ). AreMet (burst b) b.rate w m whole (lines_in jobs) (tolds jobs)) count (others.met whole begins),
        );
      }

  pub told_by : (p : DeskView) (jobs : List Job) (q : DeskView) → p.seat.number ≡ w → Belongs b p → Ran b p jobs q → Told b w p jobs q
  told_by p [] q number belongs is = none_told p q number belongs is
  told_by p (job ∷ jobs) q number belongs (r, takes, rest) =
      let one = step_of b p job.line.now job.line.amount job.told r belongs takes w number in
      more_told p r q job jobs one (told_by r jobs q one.number one.together rest)

-- the desk made one more take
pub ran_more : (b : BucketView) (p : DeskView) (jobs : List Job) (r : DeskView) (job : Job) (q : DeskView) → Ran b p jobs r → Takes b r job.line.now job.line.amount job.told q → Ran b p (jobs ++ job ∷ []) q
ran_more b p [] r job q is takes = (q, subst (λ (d : DeskView). Takes b d job.line.now job.line.amount job.told q) is takes, refl)
ran_more b p (first ∷ jobs) r job q (next, one, rest) takes = (next, one, ran_more b next jobs r job q rest takes)

-- .. and has enough left for the others
pub may_more : (b : BucketView) (p : DeskView) (line : ThrottleLine) (lines : List ThrottleLine) (told : Taken) (q : DeskView) → MayRun b p (line ∷ lines) → Takes b p line.now line.amount told q → MayRun b q lines
may_more b p line lines told q may takes =
    let spent = takes.spent in
    let sum = sum_by-cons (cost (burst b)) line lines in
    let enough = may.left in
    record {
      together = takes.together;
      amounts = All-tail (λ (l : ThrottleLine). 1 ≤ l.amount) line lines may.amounts;
      left = omega (arith, spent, sum, enough);
    }

pub first_left : (b : BucketView) (p : DeskView) (line : ThrottleLine) (lines : List ThrottleLine) → MayRun b p (line ∷ lines) → line.amount + burst b ≤ left p.pass
first_left b p line lines may = let sum = sum_by-cons (cost (burst b)) line lines in let enough = may.left in omega (arith, sum, enough)

pub first_amount : (b : BucketView) (p : DeskView) (line : ThrottleLine) (lines : List ThrottleLine) → MayRun b p (line ∷ lines) → 1 ≤ line.amount
first_amount b p line lines may = All-head (λ (l : ThrottleLine). 1 ≤ l.amount) line lines may.amounts

pub same_lines : (jobs : List Job) (i : ℕ) (job d : Job) → job.line ≡ (get_or jobs i d).line → lines_in (set jobs i job) ≡ lines_in jobs
same_lines [] i job d is = refl
same_lines (j ∷ js) zero job d is = ap (λ (l : ThrottleLine). l ∷ lines_in js) is
same_lines (j ∷ js) (suc i) job d is = ap (λ (ls : List ThrottleLine). j.line ∷ ls) (same_lines js i job d is)
