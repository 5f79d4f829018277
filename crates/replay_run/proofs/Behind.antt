-- A history behind an earlier one: its calls' numbers are raised by the calls that their passes have made before, and what is told of it is told of it there.
use Rattle.std.proofs.Common.{◌≡◌, ◌+◌, ◌==◌, ℕ, List, ◌++◌, length, take, map, get_or, Some, refl, sym, ap, ◌∙◌, subst, arith, append_assoc}
use Rattle.std.proofs.lemmas.List.{length-map, length-append, map-append, take-map, get_or_append_left, get_or-append-add}
use mathlib.Core.List.{IsPrefix}
use Rattle.std.proofs.lemmas.List.Elements.{filter-append}
use Rattle.std.proofs.lemmas.Option.{slice_get-map, slice_get-get_or, get_or_from_slice_get}
use Rattle.std.specs.Option.{option_map}
use Rattle.fn_model.specs.declared.Call.{Call}
use Rattle.fn_model.specs.Calls.{own, count}
use Rattle.fn_model.specs.Integer.{value, Meets}
use Rattle.fn_model.proofs.Calls.{reply_stays}
use Rattle.fn_model.proofs.Integer.{value-append}
use Rattle.quota_pool.specs.declared.moved.Moved.{Moved}
use Rattle.trace_text.specs.declared.traces.Row.{Row}
use Rattle.trace_text.specs.declared.traces.Tenant.{Tenant}
use Rattle.replay_run.specs.Segments.{is_of, rows_of, call_of, call_after, calls_from}
use Rattle.replay_run.specs.Claim.{AreCallsOf, Answers, Settles}
use Rattle.replay_run.proofs.Numbered.{length_calls}
use Rattle.replay_run.proofs.Raised.{raised, calls_append, rows_mine, no_call_past, place_behind, place-raised, value-raised, own-raised, calls-raised}
use Rattle.replay_run.proofs.Shifts.{take_later}

-- the calls that a pass has made
abbrev pub made_in : List Call → ℕ → ℕ
made_in past pass = length (own pass past)

-- a history behind an earlier one
abbrev pub behind : List Call → List Call → List Call
behind past history = past ++ map (raised (made_in past)) history

-- a tenant that opens with what earlier calls leave
abbrev pub left_by : Tenant → List Call → Tenant
left_by tenant past = record tenant { opening = value tenant.cap tenant.opening past }

-- it goes on from what the earlier calls leave
pub value_behind : (cap opening : ℕ) (past history : List Call) → value cap opening (behind past history) ≡ value cap (value cap opening past) history
value_behind cap opening past history = value-append cap opening past (map (raised (made_in past)) history) ∙ value-raised (made_in past) cap (value cap opening past) history

-- a call meets the same where more calls follow
pub meets_later : (cap opening : ℕ) (past later : List Call) → IsPrefix past later → (call : Call) (n : ℕ) → Meets cap opening past call n → Meets cap opening later call n
meets_later cap opening past later (more, all) call n meets =
    let stays = reply_stays cap opening call.pass call.number past more meets.0 meets.1 in
    subst (λ (calls : List Call). Meets cap opening calls call n) all
    (meets.0, stays.0, omega (arith, meets.2, length-append past more), get_or_append_left past more call meets.0 meets.2 ∙ meets.3, stays.1 ∙ meets.4)

-- so its answer stays
pub answers_stay : (tenant : Tenant) (past more : List Call) (call : Call) (answer : Moved) → Answers tenant past call answer → Answers tenant (past ++ more) call answer
answers_stay tenant past more call answer has = record { met = meets_later tenant.cap tenant.opening past (past ++ more) (more, refl) call answer.before has.met; moved = has.moved }

-- what a call meets by itself it meets behind earlier calls, where none of these is that call
meets_behind : (cap opening : ℕ) (past history : List Call) (call : Call) (n : ℕ) → count call.pass (made_in past call.pass + call.number) past ≡ 0
    → Meets cap (value cap opening past) history call n → Meets cap opening (behind past history) (raised (made_in past) call) n
meets_behind cap opening past history call n none meets =
    let i : ℕ = meets.0 in
    let made : ℕ → ℕ = made_in past in
    let later : List Call = map (raised made) history in
    let raised_call : Call = raised made call in
    let there : get_or later i raised_call ≡ raised_call =
    get_or_from_slice_get later i raised_call raised_call (slice_get-map (raised made) history i ∙ ap (λ o. option_map (raised made) o) (slice_get-get_or history i call meets.2 ∙ ap Some meets.3)) in (
      length past + i,
      place_behind call.pass (made call.pass + call.number) past later i none (place-raised made call.pass call.number history ∙ meets.1),
      omega (arith, meets.2, length-append past later, length-map history (raised made)),
      get_or-append-add past later i raised_call ∙ there,
      ap (value cap opening) (take_later past later i (length past + i) refl ∙ ap (λ (calls : List Call). past ++ calls) (take-map (raised made) i history)) ∙ value_behind cap opening past (take i history) ∙ meets.4,
    )

module _ (tenant : Tenant) (t : ℕ) (rows : List Row) (past : List Call) (calls : AreCallsOf t rows past) where
  made_so : (worker : ℕ) → made_in past worker ≡ length (rows_of worker t rows)
  made_so worker = ap length (calls worker) ∙ length_calls 0 (rows_of worker t rows)

  -- the calls of later rows follow
  pub calls_behind : (more : List Row) (history : List Call) → AreCallsOf t more history → AreCallsOf t (rows ++ more) (behind past history)
  calls_behind more history its worker =
      let made : ℕ → ℕ = made_in past in
      let mine : List Row = rows_of worker t rows in
      let others : List Row = rows_of worker t more in
      let number : made worker + 0 ≡ 0 + length mine = omega (arith, made_so worker) in
      let later : own worker (map (raised made) history) ≡ calls_from (0 + length mine) others =
      own-raised made worker history ∙ ap (map (raised made)) (its worker) ∙ calls-raised made worker 0 others (rows_mine worker t more) ∙ ap (λ (n : ℕ). calls_from n others) number in
      filter-append (λ call. call.pass == worker) past (map (raised made) history)
      ∙ ap (λ (cs : List Call). cs ++ own worker (map (raised made) history)) (calls worker)
      ∙ ap (λ (cs : List Call). calls_from 0 mine ++ cs) later
      ∙ sym (calls_append 0 mine others)
      ∙ ap (calls_from 0) (sym (filter-append (is_of worker t) rows more))

  -- a later row is answered there as it is by itself
  pub answers_behind : (more : List Row) (history : List Call) (row : Row) (answer : Moved) (j k : ℕ) → row.tenant ≡ t → length rows + j ≡ k
      → Answers (left_by tenant past) history (call_after (take j more) row) answer → Answers tenant (behind past history) (call_after (take k (rows ++ more)) row) answer
  answers_behind more history row answer j k here at has =
      let made : ℕ → ℕ = made_in past in
      let w : ℕ = row.worker in
      let d : ℕ = row.tenant in
      let call : Call = call_after (take j more) row in
      let count_all : length (rows_of w d (take k (rows ++ more))) ≡ length (rows_of w d rows) + length (rows_of w d (take j more)) =
      ap (λ (rs : List Row). length (rows_of w d rs)) (take_later rows more j k at) ∙ ap length (filter-append (is_of w d) rows (take j more)) ∙ length-append (rows_of w d rows) (rows_of w d (take j more)) in
      let count_mine : made w ≡ length (rows_of w d rows) = made_so w ∙ ap (λ (x : ℕ). length (rows_of w x rows)) (sym here) in
      let number : made w + length (rows_of w d (take j more)) ≡ length (rows_of w d (take k (rows ++ more))) = omega (arith, count_all, count_mine) in
      let same : raised made call ≡ call_after (take k (rows ++ more)) row = ap (λ (n : ℕ). call_of n row) number in
      let none : count w (made w + call.number) past ≡ 0 = no_call_past w 0 (made w + call.number) past (rows_of w t rows) (calls w) (omega (arith, made_so w)) in
      subst (λ (c : Call). Answers tenant (behind past history) c answer) same
      (record { met = meets_behind tenant.cap tenant.opening past history call answer.before none has.met; moved = has.moved })

  -- the calls of the rows stand in front
  pub settles_first : (history : List Call) → Settles tenant (behind past history) t rows (value tenant.cap tenant.opening past)
  settles_first history = record { front = past; in_front = (map (raised (made_in past)) history, refl); calls = calls; left = refl }

  -- what settles later settles there too
  pub settles_behind : (more : List Row) (history : List Call) (final : ℕ) → Settles (left_by tenant past) history t more final → Settles tenant (behind past history) t (rows ++ more) final
  settles_behind more history final its =
      let made : ℕ → ℕ = made_in past in
      let rest : List Call = map (raised made) its.in_front.0 in
      record {
        front = behind past its.front;
        in_front = (
          rest,
          append_assoc past (map (raised made) its.front) rest ∙ ap (λ (cs : List Call). past ++ cs) (sym (map-append (raised made) its.front its.in_front.0)) ∙ ap (behind past) its.in_front.1,
        );
        calls = calls_behind more its.front its.calls;
        left = its.left ∙ sym (value_behind tenant.cap tenant.opening past its.front);
      }
