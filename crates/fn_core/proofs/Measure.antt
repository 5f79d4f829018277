-- Each own step of a call leaves fewer.
use Rattle.std.proofs.Common.{◌≡◌, ◌≢◌, ◌⊎◌, inl, inr, ⊎_elim, ℕ, zero, suc, ◌+◌, ◌-◌, ◌*◌, ◌<◌, ◌≤◌, length, Bool, refl, sym, ◌∙◌, ap, subst, arith}
use Rattle.std.specs.Prelude.{if◌then◌else◌}
use Rattle.std.proofs.lemmas.Bool.{cases_eq, eq-eqb}
use Rattle.std.proofs.Math.Nat.{add-mul, mul-le-mul_left, suc-mul, zero-mul}
use Rattle.fn_model.specs.declared.Kind.{Kind}
use Rattle.fn_model.specs.declared.Kind.TheVariants as kinds
use Rattle.fn_rows.specs.declared.Stage.{Stage}
use Rattle.fn_rows.specs.declared.Stage.TheVariants.{Out, Saw, Told, Waiting, Lead, Late, Shut, Based, Headed, FilledLo, FilledBase, Filled, Pointed, At, Over, Hit, Got}
use Rattle.fn_rows.specs.declared.Field.{Field}
use Rattle.fn_rows.specs.Machine as local_step
use Rattle.fn_rows.specs.Trace.{Traced, traced, nothing}
use Rattle.fn_rows.specs.Trace as trace
use Rattle.fn_rows.specs.Law.{IsShort}
use Rattle.fn_rows.proofs.Invariant.{Inv, inv_start}
use Rattle.fn_rows.proofs.Put.{put_here}
use Rattle.fn_rows.proofs.Steps.{reaches}
use Rattle.fn_rows.proofs.Walks.{walks_start, walks_reach, short}
use Rattle.fn_core.specs.declared.Purpose.TheVariants as purpose
use Rattle.fn_core.specs.declared.Move.{Move}
use Rattle.fn_core.specs.declared.Move.TheVariants.{Scan, See, Announce, Arrive, Look, Close, Apply, Head, Fill, Point, Publish, Peek, Leave, Load, Exchange, Direct, Glance}
use Rattle.fn_core.specs.Tree.{aggregator, member, members}
use Rattle.fn_core.specs.State.{Start, Position, Resting, Trying, Climbing, Deciding, Caller, State, opened, stage, local, goes_to, after_call, next_call}
use Rattle.fn_core.specs.Machine.{IsStart, May, Climbs, run, effect, moves, applies, arrives, applied_by, filled_by, peeked_by, loaded_by, exchanged_by, leaves, fills, local_row, word_of}
use Rattle.fn_core.specs.Positions.{IsClimbing}
use Rattle.fn_core.specs.Steps.{loaded}
use Rattle.fn_core.specs.Bound.{rank, to_climb, climb_cost, left_at, visited_by, steps_left, steps_left_by}
use Rattle.fn_core.specs.Laws.{IsInCall, IsBehind, HasLost, HoldsRows, IsLeftAlone, StepsRunOut, CallsAreShort, OthersCostNothing}
use Rattle.fn_core.proofs.Bound.{announce_drops, arrive_drops, look_drops, close_drops, head_drops, fill_drops, point_drops, publish_drops, peek_drops, hand_drops, hand_stage}
use Rattle.fn_core.proofs.Turns.{sees}
use Rattle.fn_core.proofs.Members.{member_within}
use Rattle.fn_core.proofs.Places.{put_at_here}
use Rattle.fn_core.proofs.Whole.{Whole, stages_of, FitsAt, climbing}
use Rattle.fn_core.proofs.Climbs.{not_below}
use Rattle.fn_core.proofs.Counted.{opened_counted, log_counted}
use Rattle.fn_core.proofs.Descends.{here'}
use Rattle.fn_core.proofs.Locality.{events_are_local}
use Rattle.fn_core.proofs.Log.{opened_whole, moves_keep}

-- no walk is longer than there are rows
walk_short : (start : Start) → IsStart start → (s : State) → Whole start s → (kind : Kind) (level index m : ℕ) → length ((s.rows kind level index).walk m) ≤ members start.shape level index * start.shape.rows
walk_short start ok s w kind level index m =
    let count : ℕ = members start.shape level index in
    let rows : ℕ = start.shape.rows in
    let reached = w.good.reached kind level index in
    let walks = walks_reach count rows reached.0 nothing (inv_start count rows) (walks_start count rows) reached.1 in
    let law : IsShort count rows (s.rows kind level index) = subst (IsShort count rows) reached.2 (short count rows (trace.run reached.0 nothing) (reaches count rows reached.0 nothing (inv_start count rows) reached.1) walks) in
    law.length ok.shape.rows m

module _ (start : Start) (ok : IsStart start) (s : State) (w : Whole start s) (p : ℕ) (range : p < start.shape.passes) (n : ℕ) (holds : HoldsRows start p n) where
  abbrev Fewer : State → Type 0
  Fewer next = steps_left start next p n < steps_left start s p n

  -- what a pass has left, by its position
  left_by : (x : State) (position : Position) → (x.callers p).position ≡ position → steps_left start x p n ≡ steps_left_by start x p n position
  left_by x position e = ap (steps_left_by start x p n) e

  module _ (kind : Kind) (below : ℕ) where
    abbrev index : ℕ
    index = aggregator start.shape p (suc below)

    abbrev m : ℕ
    m = member start.shape (suc below) p

    abbrev t : Traced
    t = s.rows kind (suc below) index

    abbrev count : ℕ
    count = members start.shape (suc below) index

    abbrev cost : ℕ
    cost = climb_cost n (start.shape.levels - suc below)

    abbrev inv : Inv count start.shape.rows t
    inv = w.good.inv kind (suc below) index

    within : m < count
    within = member_within start.shape ok.shape below p range

    abbrev left_in : Traced → ℕ
    left_in x = left_at n start.shape.levels (suc below) (length (x.walk m)) (x.stage m)

    -- a step at the level of the climb
    drops : (next : State) (new : Traced) → next.rows kind (suc below) index ≡ new → (next.callers p).position ≡ Climbing kind (suc below) → (s.callers p).position ≡ Climbing kind (suc below) → left_in new < left_in t → Fewer next
    drops next new same position is less = omega (arith, left_by next (Climbing kind (suc below)) position, ap left_in same, left_by s (Climbing kind (suc below)) is)

    here : (step : ℕ → local_step.Step) → (local start s kind (suc below) p step).rows kind (suc below) index ≡ traced t (step m)
    here step = put_at_here s.rows kind (suc below) index (traced t (step m))

    walk_fits : suc below ≤ start.shape.levels → (next : State) → Whole start next → (new : Traced) → next.rows kind (suc below) index ≡ new → length (new.walk m) ≤ n
    walk_fits high next w' new same = omega (arith, walk_short start ok next w' kind (suc below) index m, holds (suc below) high, ap (λ (x : Traced). length (x.walk m)) same)

  nowhere : {A : Type 0} (kind : Kind) → (s.callers p).position ≡ Climbing kind 0 → A
  nowhere kind is = absurd (not_below start ok s w p range kind is)

  -- a pass that makes no call isn't in one
  resting : {A : Type 0} → (s.callers p).position ≡ Resting → IsInCall s p → A
  resting is (inl (k, l, e)) = absurd (cc (is, e))
  resting is (inr (k, l, word, e)) = absurd (cc (is, e))

  trying : {A : Type 0} (x : ℕ) → (s.callers p).position ≡ Trying x → IsInCall s p → A
  trying x is (inl (k, l, e)) = absurd (cc (is, e))
  trying x is (inr (k, l, word, e)) = absurd (cc (is, e))

  abbrev Result : Move → Type 0
  Result move = Fewer (moves start s p move) ⊎ (IsBehind start s (record { pass = p; step = move }) ⊎ HasLost s (record { pass = p; step = move }))

  see_fewer : (kind : Kind) (level : ℕ) → May start s p (See kind level) → IsInCall s p → Result (See kind level)
  see_fewer kind zero may called = absurd may
  see_fewer kind (suc zero) may called = resting may.0 called
  see_fewer kind (suc (suc below)) may called =
      let seen : State = local start s kind (suc (suc below)) p (λ i. local_step.See i) in
      let next : State = goes_to seen p (Climbing kind (suc (suc below))) in
      let up = climbing start ok s w p kind (suc below) may.0 in
      let u : Traced = t kind (suc below) in
      let turn = sees (count kind (suc below)) start.shape.rows u (inv kind (suc below)) (m kind (suc below)) (within kind (suc below)) (up.above (suc (suc below)) (omega arith)) in
      let position : (next.callers p).position ≡ Climbing kind (suc (suc below)) = ap (λ (c : Caller). c.position) (put_here s.callers p (record (s.callers p) { position = Climbing kind (suc (suc below)) }) p refl) in
      let after_it : steps_left start next p n ≡ left_at n start.shape.levels (suc (suc below)) (length ((traced u (local_step.See (m kind (suc below)))).walk (m kind (suc below)))) (Saw u.done) =
      left_by next (Climbing kind (suc (suc below))) position
      ∙ ap (left_in kind (suc below)) (here kind (suc below) (λ i. local_step.See i))
      ∙ ap (left_at n start.shape.levels (suc (suc below)) (length ((traced u (local_step.See (m kind (suc below)))).walk (m kind (suc below))))) turn.here in
      let before_it : steps_left start s p n ≡ left_at n start.shape.levels (suc below) (length ((t kind below).walk (m kind below))) (Shut may.1.0 may.1.1) =
      left_by s (Climbing kind (suc below)) may.0 ∙ ap (left_at n start.shape.levels (suc below) (length ((t kind below).walk (m kind below)))) may.1.2 in
      let one_more : climb_cost n (start.shape.levels - suc below) ≡ climb_cost n (start.shape.levels - suc (suc below)) + (2 * n + 13) = ap (climb_cost n) (let e : start.shape.levels - suc below ≡ suc (start.shape.levels - suc (suc below)) = (let h : suc (suc below) ≤ start.shape.levels = may.2 in omega arith) in e) in
      inl (omega (arith, after_it, before_it, one_more))

  arrive_fewer : (kind : Kind) (level weight : ℕ) → May start s p (Arrive kind level weight) → Result (Arrive kind level weight)
  arrive_fewer kind zero weight may = absurd may.1
  arrive_fewer kind (suc zero) weight may = inl (drops kind 0 (arrives start s p kind 1 weight) (traced (t kind 0) (local_step.Arrive (m kind 0) weight)) (here kind 0 (λ i. local_step.Arrive i weight))
      (ap (λ (c : Caller). c.position) (put_here s.callers p (after_call (s.callers p) (next_call s p kind weight)) p refl) ∙ may.0.0) may.0.0
      (let less = arrive_drops (count kind 0) start.shape.rows (t kind 0) (inv kind 0) (m kind 0) (within kind 0) n (cost kind 0) weight may.0.1 in omega (arith, less)))
  arrive_fewer kind (suc (suc below)) weight may = inl (drops kind (suc below) (arrives start s p kind (suc (suc below)) weight) (traced (t kind (suc below)) (local_step.Arrive (m kind (suc below)) weight)) (here kind (suc below) (λ i. local_step.Arrive i weight)) may.0.0 may.0.0
      (let less = arrive_drops (count kind (suc below)) start.shape.rows (t kind (suc below)) (inv kind (suc below)) (m kind (suc below)) (within kind (suc below)) n (cost kind (suc below)) weight may.0.1 in omega (arith, less)))

  -- a step at one aggregator of a call that climbs
  local_fewer : (kind : Kind) (below : ℕ) (step : ℕ → local_step.Step) → (s.callers p).position ≡ Climbing kind (suc below) → left_in kind below (traced (t kind below) (step (m kind below))) < left_in kind below (t kind below) → Fewer (local start s kind (suc below) p step)
  local_fewer kind below step is less = drops kind below (local start s kind (suc below) p step) (traced (t kind below) (step (m kind below))) (here kind below step) is is less

  announce_fewer : (kind : Kind) (level : ℕ) → May start s p (Announce kind level) → Result (Announce kind level)
  announce_fewer kind zero may = nowhere kind may.0
  announce_fewer kind (suc below) may = inl (local_fewer kind below (λ i. local_step.Announce i) may.0
      (let less = announce_drops (count kind below) start.shape.rows (t kind below) (inv kind below) (m kind below) (within kind below) n (cost kind below) may.1 in omega (arith, less)))

  look_fewer : (kind : Kind) (level : ℕ) → May start s p (Look kind level) → Result (Look kind level)
  look_fewer kind zero may = nowhere kind may.0
  look_fewer kind (suc below) may = elim (look_drops (count kind below) start.shape.rows (t kind below) (inv kind below) (m kind below) (within kind below) n (cost kind below) may.1) [
    | inl less ↦ inl (local_fewer kind below (λ i. local_step.Look i) may.0 (omega (arith, less)))
    | inr behind ↦ inr (inl (kind, suc below, behind.0, refl, ap (λ (x : Traced). x.stage (m kind below)) (here kind below (λ i. local_step.Look i)) ∙ behind.1))
  ]

  close_fewer : (kind : Kind) (level : ℕ) → May start s p (Close kind level) → Result (Close kind level)
  close_fewer kind zero may = nowhere kind may.0
  close_fewer kind (suc below) may = inl (local_fewer kind below (λ i. local_step.Close i) may.0
      (let less = close_drops (count kind below) start.shape.rows (t kind below) (inv kind below) (m kind below) (within kind below) n (cost kind below) may.1 in omega (arith, less)))

  head_fewer : (kind : Kind) (level : ℕ) → May start s p (Head kind level) → Result (Head kind level)
  head_fewer kind zero may = nowhere kind may.0
  head_fewer kind (suc below) may =
      let next : State = local start s kind (suc below) p (λ i. local_step.Head i) in
      let fits = walk_fits kind below (climbing start ok s w p kind (suc below) may.0).high next (moves_keep start ok s w p range (Head kind (suc below)) may) (traced (t kind below) (local_step.Head (m kind below))) (here kind below (λ i. local_step.Head i)) in
      inl (local_fewer kind below (λ i. local_step.Head i) may.0
      (let less = head_drops (count kind below) start.shape.rows (t kind below) (inv kind below) (m kind below) (within kind below) n (cost kind below) fits may.1 in omega (arith, less)))

  point_fewer : (kind : Kind) (level row : ℕ) → May start s p (Point kind level row) → Result (Point kind level row)
  point_fewer kind zero row may = nowhere kind may.0.0
  point_fewer kind (suc below) row may = inl (local_fewer kind below (λ i. local_step.Point i) may.0.0
      (let less = point_drops (count kind below) start.shape.rows (t kind below) (inv kind below) (m kind below) (within kind below) n (cost kind below) may.0.1 in omega (arith, less)))

  publish_fewer : (kind : Kind) (level : ℕ) → May start s p (Publish kind level) → Result (Publish kind level)
  publish_fewer kind zero may = nowhere kind may.0
  publish_fewer kind (suc below) may = inl (local_fewer kind below (λ i. local_step.Publish i) may.0
      (let less = publish_drops (count kind below) start.shape.rows (t kind below) (inv kind below) (m kind below) (within kind below) n (cost kind below) may.1 in omega (arith, less)))

  fill_fewer : (row : ℕ) (field : Field) (kind : Kind) (level : ℕ) → Climbs start s p kind level (fills start s kind level p row field) → Fewer (local start s kind level p (fills start s kind level p row field))
  fill_fewer row field kind zero climbs = nowhere kind climbs.0
  fill_fewer row field kind (suc below) climbs = local_fewer kind below (fills start s kind (suc below) p row field) climbs.0
      (let less = fill_drops (count kind below) start.shape.rows (t kind below) (inv kind below) (m kind below) (within kind below) n (cost kind below) (local_row start.shape (suc below) p row) field (word_of field (stage start s kind (suc below) p)) climbs.1 in omega (arith, less))

  peek_fewer : (row : ℕ) (field : Field) (may : May start s p (Peek row field)) (kind : Kind) (level : ℕ) → Climbs start s p kind level (λ m. local_step.Peek m) → Fewer (local start s kind level p (λ m. local_step.Peek m))
  peek_fewer row field may kind zero climbs = nowhere kind climbs.0
  peek_fewer row field may kind (suc below) climbs =
      let next : State = local start s kind (suc below) p (λ m. local_step.Peek m) in
      let same : moves start s p (Peek row field) ≡ next = ap (peeked_by start s p) climbs.0 in
      let w' : Whole start next = subst (Whole start) same (moves_keep start ok s w p range (Peek row field) may) in
      let fits = walk_fits kind below (climbing start ok s w p kind (suc below) climbs.0).high next w' (traced (t kind below) (local_step.Peek (m kind below))) (here kind below (λ m. local_step.Peek m)) in
      local_fewer kind below (λ m. local_step.Peek m) climbs.0
      (let less = peek_drops (count kind below) start.shape.rows (t kind below) (inv kind below) (m kind below) (within kind below) n (cost kind below) fits climbs.1 in omega (arith, less))

  leave_fewer : (kind : Kind) (level : ℕ) → May start s p (Leave kind level) → Result (Leave kind level)
  leave_fewer kind zero may = nowhere kind may.0
  leave_fewer kind (suc zero) may =
      let out : State = local start s kind 1 p (λ i. local_step.Leave i) in
      let position : ((goes_to out p Resting).callers p).position ≡ Resting = ap (λ (c : Caller). c.position) (put_here s.callers p (record (s.callers p) { position = Resting }) p refl) in
      inl (omega (arith, left_by (goes_to out p Resting) Resting position, left_by s (Climbing kind 1) may.0, ap (left_at n start.shape.levels 1 (length ((t kind 0).walk (m kind 0)))) may.1.2))
  leave_fewer kind (suc (suc below)) may =
      let next : State = leaves start s p kind (suc (suc below)) in
      let position : (next.callers p).position ≡ Climbing kind (suc below) = ap (λ (c : Caller). c.position) (put_here s.callers p (record (s.callers p) { position = Climbing kind (suc below) }) p refl) in
      let based = here' start ok s w p range kind below may in
      inl (omega (
        arith,
        left_by next (Climbing kind (suc below)) position,
        ap (left_at n start.shape.levels (suc below) (length ((next.rows kind (suc below) (index kind below)).walk (m kind below)))) based,
        left_by s (Climbing kind (suc (suc below))) may.0,
        ap (left_at n start.shape.levels (suc (suc below)) (length ((t kind (suc below)).walk (m kind (suc below))))) may.1.2,
      ))

  -- a batch enters the main word
  applied_left : (kind : Kind) (below amount at hi : ℕ) → stage start s kind (suc below) p ≡ Shut at hi → (x : State) → x.rows kind (suc below) (index kind below) ≡ (applies start s p kind (suc below) amount).rows kind (suc below) (index kind below) → (x.callers p).position ≡ Climbing kind (suc below) → steps_left start x p n ≤ 7 + 8 * (suc below - 1)
  applied_left kind below amount at hi e x same position =
      let new : Traced = traced (t kind below) (local_step.Hand_base (m kind below) s.main) in
      let less = hand_drops (count kind below) start.shape.rows (t kind below) (inv kind below) (m kind below) (within kind below) n 0 s.main (at, hi, e) in
      let based = hand_stage (count kind below) start.shape.rows (t kind below) (inv kind below) (m kind below) (within kind below) s.main (at, hi, e) in
      omega (arith, left_by x (Climbing kind (suc below)) position, ap (left_in kind below) (same ∙ here kind below (λ i. local_step.Hand_base i s.main)), ap (left_at n start.shape.levels (suc below) (length (new.walk (m kind below)))) based.2)

  apply_fewer : (weight : ℕ) (level : ℕ) (is : (s.callers p).position ≡ Climbing kinds.Add level) (at hi : ℕ) → stage start s kinds.Add level p ≡ Shut at hi → Fewer (applies start s p kinds.Add level weight)
  apply_fewer weight zero is at hi e = nowhere kinds.Add is
  apply_fewer weight (suc below) is at hi e =
      omega (arith, applied_left kinds.Add below weight at hi e (applies start s p kinds.Add (suc below) weight) refl is, left_by s (Climbing kinds.Add (suc below)) is, ap (left_at n start.shape.levels (suc below) (length ((t kinds.Add below).walk (m kinds.Add below)))) e)

  exchange_fewer : (kind : Kind) (amount level word : ℕ) → (s.callers p).position ≡ Deciding kind level word → (s.main ≡ word) ⊎ (s.main ≢ word) → Result (Exchange kind amount)
  exchange_fewer kind amount level word is (inr lost) = inr (inr (kind, amount, refl, λ e. lost (e ∙ ap loaded is)))
  exchange_fewer kind amount zero word is (inl won) =
      let fit : FitsAt start s p (Deciding kind 0 word) = subst (FitsAt start s p) is (w.fits p) in
      let up : IsClimbing start.shape.levels (stages_of start s p) kind 0 = fit.0 in
      let low : 1 ≤ 0 = up.low in
      absurd (omega arith)
  exchange_fewer kind amount (suc below) word is (inl won) =
      let fit : FitsAt start s p (Deciding kind (suc below) word) = subst (FitsAt start s p) is (w.fits p) in
      let applied : State = applies start s p kind (suc below) amount in
      let next : State = goes_to applied p (Climbing kind (suc below)) in
      let same : moves start s p (Exchange kind amount) ≡ next = ap (exchanged_by start s p kind amount) is ∙ ap (λ (b : Bool). if b then next else goes_to s p (Climbing kind (suc below))) (eq-eqb s.main word won) in
      let position : (next.callers p).position ≡ Climbing kind (suc below) = ap (λ (c : Caller). c.position) (put_here s.callers p (record (s.callers p) { position = Climbing kind (suc below) }) p refl) in
      inl (subst Fewer (sym same) (omega (arith, applied_left kind below amount fit.2 fit.3 fit.4 next refl position, left_by s (Deciding kind (suc below) word) is)))

  load_fewer : (kind : Kind) (level at hi : ℕ) → (s.callers p).position ≡ Climbing kind level → stage start s kind level p ≡ Shut at hi → Fewer (goes_to s p (Deciding kind level s.main))
  load_fewer kind zero at hi is e = nowhere kind is
  load_fewer kind (suc below) at hi is e =
      let next : State = goes_to s p (Deciding kind (suc below) s.main) in
      let position : (next.callers p).position ≡ Deciding kind (suc below) s.main = ap (λ (c : Caller). c.position) (put_here s.callers p (record (s.callers p) { position = Deciding kind (suc below) s.main }) p refl) in
      omega (arith, left_by next (Deciding kind (suc below) s.main) position, left_by s (Climbing kind (suc below)) is, ap (left_at n start.shape.levels (suc below) (length ((t kind below).walk (m kind below)))) e)

  moves_fewer : (move : Move) → May start s p move → IsInCall s p → Result move
  moves_fewer (Scan kind level other) may called = resting may.0 called
  moves_fewer (See kind level) may called = see_fewer kind level may called
  moves_fewer (Announce kind level) may called = announce_fewer kind level may
  moves_fewer (Arrive kind level weight) may called = arrive_fewer kind level weight may
  moves_fewer (Look kind level) may called = look_fewer kind level may
  moves_fewer (Close kind level) may called = close_fewer kind level may
  moves_fewer (Apply weight) may called = inl (subst (λ (x : Position). Fewer (applied_by start s p weight x)) (sym may.1) (apply_fewer weight may.0 may.1 may.2.1.0 may.2.1.1 may.2.1.2))
  moves_fewer (Head kind level) may called = head_fewer kind level may
  moves_fewer (Fill row field) may called = inl (subst (λ (x : Position). Fewer (filled_by start s p row field x)) (sym may.3.0) (fill_fewer row field may.0 may.1 may.3))
  moves_fewer (Point kind level row) may called = point_fewer kind level row may
  moves_fewer (Publish kind level) may called = publish_fewer kind level may
  moves_fewer (Peek row field) may called = inl (subst (λ (x : Position). Fewer (peeked_by start s p x)) (sym may.2.0) (peek_fewer row field may may.0 may.1 may.2))
  moves_fewer (Leave kind level) may called = leave_fewer kind level may
  moves_fewer (Load purpose.Try) (inl is) called = resting is called
  moves_fewer (Load purpose.Try) (inr may) called = inl (subst (λ (x : Position). Fewer (loaded_by s p x)) (sym may.2) (load_fewer may.0 may.1 may.3.1.0 may.3.1.1 may.2 may.3.1.2))
  moves_fewer (Load purpose.Read) is called = resting is called
  moves_fewer (Exchange kind amount) (inl may) called = trying may.0 may.1 called
  moves_fewer (Exchange kind amount) (inr may) called = exchange_fewer kind amount may.0 may.1 may.2 (cases_eq s.main may.1)
  moves_fewer (Direct amount) may called = resting may.0 called
  moves_fewer Glance is called = resting is called

pub steps_run_out : StepsRunOut
steps_run_out start log ok legal event n allowed holds called =
    let both = log_counted start ok log (opened start) (opened_whole start ok) (opened_counted start) legal in
    moves_fewer start ok (run start log (opened start)) both.0 event.pass allowed.0 n holds event.step allowed.1 called

-- what the climb costs in all
climb_sum : (n k : ℕ) → climb_cost n k ≡ k * (2 * n + 13)
climb_sum n zero = sym (zero-mul (2 * n + 13))
climb_sum n (suc k) = ap (λ (x : ℕ). x + (2 * n + 13)) (climb_sum n k) ∙ sym (suc-mul k (2 * n + 13))

-- the steps at an aggregator, with those of the further climb
stage_cost : (n visited cost : ℕ) (g : Stage) → rank n visited g + to_climb cost g ≤ 2 * n + 13 + cost
stage_cost n visited cost Out = omega arith
stage_cost n visited cost (Saw seen) = omega arith
stage_cost n visited cost (Told seen) = omega arith
stage_cost n visited cost (Waiting at) = omega arith
stage_cost n visited cost (Lead at) = omega arith
stage_cost n visited cost (Late at) = omega arith
stage_cost n visited cost (Shut at hi) = omega arith
stage_cost n visited cost (Based at hi b) = omega arith
stage_cost n visited cost (Headed at hi b h) = omega arith
stage_cost n visited cost (FilledLo at hi b h r) = omega arith
stage_cost n visited cost (FilledBase at hi b h r) = omega arith
stage_cost n visited cost (Filled at hi b r) = omega arith
stage_cost n visited cost (Pointed at hi b r) = omega arith
stage_cost n visited cost (At at r) = omega arith
stage_cost n visited cost (Over at r) = omega arith
stage_cost n visited cost (Hit at r lo) = omega arith
stage_cost n visited cost (Got b ahead) = omega arith

-- the levels above, this one, and those below
level_sum : (n above below : ℕ) → above * (2 * n + 13) + (2 * n + 13) + 8 * below ≤ (above + suc below) * (2 * n + 14)
level_sum n above below =
    let each : ℕ = 2 * n + 14 in
    let parts : (above + suc below) * each ≡ above * each + suc below * each = add-mul above (suc below) each in
    let first : suc below * each ≡ below * each + each = suc-mul below each in
    let climb : above * (2 * n + 13) ≤ above * each = mul-le-mul_left above (omega arith) in
    let down : below * 8 ≤ below * each = mul-le-mul_left below (omega arith) in
    omega (arith, parts, first, climb, down)

pub calls_are_short : CallsAreShort
calls_are_short start log ok legal p n called = (⊎_elim climbing_short deciding_short called, (λ kind level word is. decided kind level word is))
  where
    s : State
    s = run start log (opened start)

    levels : ℕ
    levels = start.shape.levels

    whole : Whole start s
    whole = (log_counted start ok log (opened start) (opened_whole start ok) (opened_counted start) legal).0

    decided : (kind : Kind) (level word : ℕ) → (s.callers p).position ≡ Deciding kind level word → steps_left start s p n ≡ 8 * levels
    decided kind level word is =
        let fit : FitsAt start s p (Deciding kind level word) = subst (FitsAt start s p) is (whole.fits p) in
        let up : IsClimbing levels (stages_of start s p) kind level = fit.0 in
        let low : 1 ≤ level = up.low in
        let top : level ≡ levels = fit.1 in
        ap (steps_left_by start s p n) is ∙ omega (arith, low, top)

    climbing_short : (kind : Kind) × (level : ℕ) × ((s.callers p).position ≡ Climbing kind level) → steps_left start s p n ≤ levels * (2 * n + 14)
    climbing_short (kind, level, is) =
        let up : IsClimbing levels (stages_of start s p) kind level = climbing start ok s whole p kind level is in
        let low : 1 ≤ level = up.low in
        let high : level ≤ levels = up.high in
        let above : ℕ = levels - level in
        let below : ℕ = level - 1 in
        let parts : above + suc below ≡ levels = omega (arith, low, high) in
        let now : steps_left start s p n ≡ left_at n levels level (visited_by start s p kind level) (stage start s kind level p) = ap (steps_left_by start s p n) is in
        let cost = stage_cost n (visited_by start s p kind level) (climb_cost n above) (stage start s kind level p) in
        omega (arith, now, cost, climb_sum n above, level_sum n above below, ap (λ (x : ℕ). x * (2 * n + 14)) parts)

    deciding_short : (kind : Kind) × (level word : ℕ) × ((s.callers p).position ≡ Deciding kind level word) → steps_left start s p n ≤ levels * (2 * n + 14)
    deciding_short (kind, level, word, is) =
        let most : levels * 8 ≤ levels * (2 * n + 14) = mul-le-mul_left levels (omega arith) in
        omega (arith, decided kind level word is, most)

-- what a pass has left, by its position, its stages and how many rows it has had in hand
pub others_cost_nothing : OthersCostNothing
others_cost_nothing start log ok legal event allowed other n ne =
    let s : State = run start log (opened start) in
    let next : State = effect start s event in
    let alone : IsLeftAlone start s next other = events_are_local start log ok legal event allowed other ne in
    ap (λ (c : Caller). steps_left_by start next other n c.position) alone.caller ∙ by_position s next alone (s.callers other).position
  where
    by_position : (s next : State) → IsLeftAlone start s next other → (position : Position) → steps_left_by start next other n position ≡ steps_left_by start s other n position
    by_position s next alone (Climbing kind level) i = left_at n start.shape.levels level (length ((alone.places kind level).walk i)) ((alone.places kind level).stage i)
    by_position s next alone (Deciding kind level word) i = 8 + 8 * (level - 1)
    by_position s next alone _ i = 0
