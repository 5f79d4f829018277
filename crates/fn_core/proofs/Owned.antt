-- The own calls of a pass stand in the history in order.
use Rattle.std.proofs.Common.{◌≡◌, ◌≢◌, ◌⊎◌, inl, inr, ℕ, zero, suc, ◌-◌, ◌<◌, ◌≤◌, List, [], ◌∷◌, ◌++◌, length, Bool, true, false, refl, sym, ◌∙◌, ap, subst, arith}
use Rattle.std.specs.Prelude.{if◌then◌else◌}
use Rattle.std.proofs.lemmas.Bool.{cases_eq, cases_lt, false≢true, eq-eqb, ne_eqb}
use Rattle.std.proofs.lemmas.List.{append-nil}
use Rattle.fn_model.specs.declared.Call.{Call}
use Rattle.fn_model.specs.declared.Kind.{Kind}
use Rattle.fn_model.specs.declared.Kind.TheVariants as kinds
use Rattle.fn_model.specs.Arrivals.{Arrival, Own, Batch, calls_of, expand}
use Rattle.fn_model.specs.Calls.{own, count}
use Rattle.fn_model.specs.Histories.{MainStep, OwnStep, BatchStep, StandsIn, calls_of_step}
use Rattle.fn_model.proofs.Histories.{history_push, history_grows}
use Rattle.fn_model.proofs.Orderly.{grows_by_arrival}
use Rattle.fn_model.proofs.Once.{count-append}
use Rattle.fn_model.specs.Integer.{after}
use Rattle.fn_rows.specs.declared.Stage.TheVariants.{Out, Shut, Got}
use Rattle.fn_rows.specs.declared.Field.{Field}
use Rattle.fn_rows.specs.declared.Field.TheVariants.{Lo, Base, Prev}
use Rattle.fn_rows.specs.Machine.{put, Guard, looked, peeked}
use Rattle.fn_rows.specs.Machine as local_step
use Rattle.fn_rows.specs.Trace.{Traced, traced}
use Rattle.fn_rows.proofs.Invariant.{Inv}
use Rattle.fn_rows.proofs.Put.{put_here}
use Rattle.fn_rows.proofs.Steps.{looked_cases, peeked_cases}
use Rattle.fn_core.specs.Batches.{has_come}
use Rattle.fn_core.specs.declared.Purpose.TheVariants as purpose
use Rattle.fn_core.specs.declared.Move.{Move}
use Rattle.fn_core.specs.declared.Move.TheVariants.{Scan, See, Announce, Arrive, Look, Close, Apply, Head, Fill, Point, Publish, Peek, Leave, Load, Exchange, Direct, Glance}
use Rattle.fn_core.specs.declared.Event.{Event}
use Rattle.fn_core.specs.Tree.{aggregator, member, members}
use Rattle.fn_core.specs.State.{Start, Position, Resting, Trying, Climbing, Deciding, Caller, State, opened, history_in, stage, local, goes_to, after_call, next_call, lo_of, hi_of, reply_of}
use Rattle.fn_core.specs.Machine.{IsStart, May, MayTake, Climbs, Legal, run, effect, moves, makes, applies, arrives, applied_by, filled_by, peeked_by, loaded_by, exchanged_by, leaves, fills, local_row, word_of}
use Rattle.fn_core.specs.Laws.{AreNumbered, IsUnderway, OwnCallsAreInOrder, IsLeftAlone}
use Rattle.fn_core.proofs.Turns.{announces, looks, closes, hands, heads, heads_late, fills_lo, fills_base, fills_prev, points, publishes, peeks_lo, peeks_prev, peeks_base}
use Rattle.fn_core.proofs.Members.{member_within}
use Rattle.fn_core.proofs.Places.{same_place, put_at_there, stage_here, kind_cases}
use Rattle.fn_core.specs.Positions.{IsClimbing}
use Rattle.fn_core.proofs.Whole.{Whole, stages_of, FitsAt, climbing, knows_at}
use Rattle.fn_core.proofs.Arrives.{here' as arrived_here}
use Rattle.fn_core.proofs.Descends.{here'}
use Rattle.fn_core.proofs.Begins.{rests_out}
use Rattle.fn_core.proofs.Climbs.{not_below}
use Rattle.fn_core.proofs.Counted.{IsCounted, opened_counted, counts_keep}
use Rattle.fn_core.proofs.Log.{opened_whole, moves_keep}
use Rattle.fn_core.proofs.Locality.{moves_alone}
use Rattle.fn_core.proofs.Sums.{stands_once}
use Rattle.fn_core.proofs.Numbers.{stands_counts, order_grows, how_many}

-- all calls of a pass stand in the history, but perhaps the last one while it is underway; and they stand there in order
pub record Owned (start : Start) (s : State) : Type 0 where
  pub earlier : (p n : ℕ) → suc n < (s.callers p).made → 1 ≤ count p n (history_in start s)
  pub all : (p : ℕ) → (IsUnderway start s p → ⊥) → (n : ℕ) → n < (s.callers p).made → 1 ≤ count p n (history_in start s)
  pub order : (p : ℕ) → AreNumbered 0 (own p (history_in start s))

-- steps by which a member neither arrives nor leaves
abbrev pub IsPlain : local_step.Step → Type 0
IsPlain (local_step.Arrive m weight) = ⊥
IsPlain (local_step.Leave m) = ⊥
IsPlain (local_step.Scan m q) = ⊥
IsPlain _ = Unit {0}

-- by them a member that has come stays so
module _ (members rows : ℕ) (t : Traced) (inv : Inv members rows t) (m : ℕ) (range : m < members) where
  pub announce_stays : Guard members rows t.state (local_step.Announce m) → has_come ((traced t (local_step.Announce m)).stage m) ≡ has_come (t.stage m)
  announce_stays (seen, e) = ap has_come (announces members rows t inv m range seen e).here ∙ sym (ap has_come e)

  pub look_stays : Guard members rows t.state (local_step.Look m) → has_come ((traced t (local_step.Look m)).stage m) ≡ has_come (t.stage m)
  look_stays (at, e) = ap has_come (looks members rows t inv m range at e).here ∙ looked_cases (λ x. has_come x ≡ true) at t.done (λ x. refl) (λ x. refl) (λ x. refl) ∙ sym (ap has_come e)

  pub close_stays : Guard members rows t.state (local_step.Close m) → has_come ((traced t (local_step.Close m)).stage m) ≡ has_come (t.stage m)
  close_stays (at, e) = ap has_come (closes members rows t inv m range at e).here ∙ sym (ap has_come e)

  pub hand_stays : (b : ℕ) → Guard members rows t.state (local_step.Hand_base m b) → has_come ((traced t (local_step.Hand_base m b)).stage m) ≡ has_come (t.stage m)
  hand_stays b (at, hi, e) = ap has_come (hands members rows t inv m range at hi b e).here ∙ sym (ap has_come e)

  pub head_stays : Guard members rows t.state (local_step.Head m) → has_come ((traced t (local_step.Head m)).stage m) ≡ has_come (t.stage m)
  head_stays (inl (at, hi, b, e)) = ap has_come (heads members rows t inv m range at hi b e).here ∙ sym (ap has_come e)
  head_stays (inr (at, e)) = ap has_come (heads_late members rows t inv m range at e).here ∙ sym (ap has_come e)

  pub fill_stays : (r : ℕ) (field : Field) (word : ℕ) → Guard members rows t.state (local_step.Fill m r field word) → has_come ((traced t (local_step.Fill m r field word)).stage m) ≡ has_come (t.stage m)
  fill_stays r Lo word (at, hi, b, h, e, own, free, same) = ap has_come (fills_lo members rows t inv m range at hi b h r word e own free same).here ∙ sym (ap has_come e)
  fill_stays r Base word (at, hi, b, h, e, same) = ap has_come (fills_base members rows t inv m range at hi b h r word e same).here ∙ sym (ap has_come e)
  fill_stays r Prev word (at, hi, b, h, e, same) = ap has_come (fills_prev members rows t inv m range at hi b h r word e same).here ∙ sym (ap has_come e)

  pub point_stays : Guard members rows t.state (local_step.Point m) → has_come ((traced t (local_step.Point m)).stage m) ≡ has_come (t.stage m)
  point_stays (at, hi, b, r, e) = ap has_come (points members rows t inv m range at hi b r e).here ∙ sym (ap has_come e)

  pub publish_stays : Guard members rows t.state (local_step.Publish m) → has_come ((traced t (local_step.Publish m)).stage m) ≡ has_come (t.stage m)
  publish_stays (at, hi, b, r, e) = ap has_come (publishes members rows t inv m range at hi b r e).here ∙ sym (ap has_come e)

  pub peek_stays : Guard members rows t.state (local_step.Peek m) → has_come ((traced t (local_step.Peek m)).stage m) ≡ has_come (t.stage m)
  peek_stays (inl (at, r, e)) = ap has_come (peeks_lo members rows t inv m range at r e).here ∙ peeked_cases (λ x. has_come x ≡ true) at r (t.lo r) (λ x. refl) (λ x. refl) ∙ sym (ap has_come e)
  peek_stays (inr (inl (at, r, e))) = ap has_come (peeks_prev members rows t inv m range at r e).here ∙ sym (ap has_come e)
  peek_stays (inr (inr (at, r, lo, e))) = ap has_come (peeks_base members rows t inv m range at r lo e).here ∙ sym (ap has_come e)

-- the history after a step: as before, or with one more main step
module _ (start : Start) (ok : IsStart start) (s : State) (w : Whole start s) (c : IsCounted start s) (o : Owned start s) (next : State) (w' : Whole start next) (c' : IsCounted start next) (more : List Call) (grown : history_in start next ≡ history_in start s ++ more) where
  counts_grow : (p n : ℕ) → count p n (history_in start s) ≤ count p n (history_in start next)
  counts_grow p n = omega (arith, ap (count p n) grown, count-append p n (history_in start s) more)

  pub owned_step : ((p n : ℕ) → suc n < (next.callers p).made → 1 ≤ count p n (history_in start s)) → ((p : ℕ) → (IsUnderway start next p → ⊥) → (n : ℕ) → n < (next.callers p).made → 1 ≤ count p n (history_in start next)) → Owned start next
  owned_step earlier all = record {
    earlier = λ p n lt. omega (arith, earlier p n lt, counts_grow p n);
    all = all;
    order = λ p. subst (λ (past : List Call). AreNumbered 0 (own p past)) (sym grown)
        (order_grows p ((next.callers p).made - 1) (history_in start s) more (o.order p)
        (λ n lt. earlier p n (omega arith))
        (λ n lt. let beyond = (stands_once start ok next w' c' p n).1 (omega arith) in ap (count p n) (sym grown) ∙ beyond)
        (λ n. omega (arith, ap (count p n) grown, (stands_once start ok next w' c' p n).0)));
  }

module _ (start : Start) (ok : IsStart start) (s : State) (w : Whole start s) (c : IsCounted start s) (o : Owned start s) (p : ℕ) (range : p < start.shape.passes) where
  pub nowhere : {A : Type 0} (kind : Kind) → (s.callers p).position ≡ Climbing kind 0 → A
  nowhere kind is = absurd (not_below start ok s w p range kind is)

  -- what a step of the pass has to show for itself
  module _ (step : Move) (may : May start s p step) (next : State) (same : moves start s p step ≡ next) (more : List Call) (grown : history_in start next ≡ history_in start s ++ more) where
    w' : Whole start next
    w' = subst (Whole start) same (moves_keep start ok s w p range step may)

    c' : IsCounted start next
    c' = subst (IsCounted start) same (counts_keep start ok s w c p range step may)

    alone : (q : ℕ) → q ≢ p → IsLeftAlone start s next q
    alone q ne = subst (λ (x : State). IsLeftAlone start s x q) same (moves_alone start ok s w p range q ne step may)

    by_own : ((n : ℕ) → suc n < (next.callers p).made → 1 ≤ count p n (history_in start s)) → ((IsUnderway start next p → ⊥) → (n : ℕ) → n < (next.callers p).made → 1 ≤ count p n (history_in start next)) → Owned start (moves start s p step)
    by_own earlier all = subst (Owned start) (sym same) (owned_step start ok s w c o next w' c' more grown
        (λ q n lt. elim (cases_eq q p) [
          | inl e ↦ subst (λ (i : ℕ). 1 ≤ count i n (history_in start s)) (sym e) (earlier n (omega (arith, ap (λ (i : ℕ). (next.callers i).made) e, lt)))
          | inr ne ↦ let a = alone q ne in o.earlier q n (omega (arith, ap (λ (x : Caller). x.made) a.caller, lt))
        ])
        (λ q not n lt. elim (cases_eq q p) [
          | inl e ↦ subst (λ (i : ℕ). 1 ≤ count i n (history_in start next)) (sym e) (all (λ u. not (subst (IsUnderway start next) (sym e) u)) n (omega (arith, ap (λ (i : ℕ). (next.callers i).made) e, lt)))
          | inr ne ↦
              let a = alone q ne in
              omega (arith, counts_grow start ok s w c o next w' c' more grown q n, o.all q (λ u. not (u.0, ap has_come (a.places u.0 1).stage ∙ u.1)) n (omega (arith, ap (λ (x : Caller). x.made) a.caller, lt)))
        ]))

    -- no call begins or ends
    by_kept : (next.callers p).made ≡ (s.callers p).made → (IsUnderway start s p → IsUnderway start next p) → Owned start (moves start s p step)
    by_kept made kept = by_own (λ n lt. o.earlier p n (omega (arith, made, lt)))
        (λ not n lt. omega (arith, counts_grow start ok s w c o next w' c' more grown p n, o.all p (λ u. not (kept u)) n (omega (arith, made, lt))))

  -- the pass's stage at its leaf, where it takes a step elsewhere
  pub own_there : (x : State) (kind : Kind) (below : ℕ) (step : ℕ → local_step.Step) (k : Kind) → (1 ≡ suc below → k ≡ kind → ⊥) → stage start (local start x kind (suc below) p step) k 1 p ≡ stage start x k 1 p
  own_there x kind below step k not = elim (same_place k kind 1 (suc below) (aggregator start.shape p 1) (aggregator start.shape p (suc below))) [
    | inl is ↦ absurd (not is.1 is.0)
    | inr other ↦ ap (λ (t : Traced). t.stage (member start.shape 1 p)) (put_at_there x.rows kind (suc below) (aggregator start.shape p (suc below)) (traced (x.rows kind (suc below) (aggregator start.shape p (suc below))) (step (member start.shape (suc below) p))) k 1 (aggregator start.shape p 1) other)
  ]

  -- a call that is underway stays so
  pub local_kept : (kind : Kind) (below : ℕ) (step : ℕ → local_step.Step)
      → has_come ((traced (s.rows kind (suc below) (aggregator start.shape p (suc below))) (step (member start.shape (suc below) p))).stage (member start.shape (suc below) p)) ≡ has_come (stage start s kind (suc below) p)
      → IsUnderway start s p → IsUnderway start (local start s kind (suc below) p step) p
  local_kept kind (suc b) step stays u = (u.0, ap has_come (own_there s kind (suc b) step u.0 (λ x y. omega (arith, x))) ∙ u.1)
  local_kept kind zero step stays u = elim (kind_cases u.0 kind) [
    | inr ne ↦ (u.0, ap has_come (own_there s kind 0 step u.0 (λ x y. ne y)) ∙ u.1)
    | inl e ↦ (kind, ap has_come (stage_here start ok.shape s kind 0 p step) ∙ stays ∙ ap (λ (k : Kind). has_come (stage start s k 1 p)) (sym e) ∙ u.1)
  ]

  -- nothing is underway where the pass stands nowhere
  pub out_idle : ((k : Kind) (l : ℕ) → stage start s k l p ≡ Out) → IsUnderway start s p → ⊥
  out_idle out u = false≢true (sym (ap has_come (out u.0 1)) ∙ u.1)

  abbrev pub inv_at : (kind : Kind) (below : ℕ) → Inv (members start.shape (suc below) (aggregator start.shape p (suc below))) start.shape.rows (s.rows kind (suc below) (aggregator start.shape p (suc below)))
  inv_at kind below = w.good.inv kind (suc below) (aggregator start.shape p (suc below))

  unchanged : history_in start s ≡ history_in start s ++ []
  unchanged = sym (append-nil (history_in start s))

  -- a step at one aggregator of a call that climbs
  climbs_owned : (step : Move) (may : May start s p step) (kind : Kind) (level : ℕ) (take : ℕ → local_step.Step) → moves start s p step ≡ local start s kind level p take → (s.callers p).position ≡ Climbing kind level
      → ((below : ℕ) → level ≡ suc below → has_come ((traced (s.rows kind (suc below) (aggregator start.shape p (suc below))) (take (member start.shape (suc below) p))).stage (member start.shape (suc below) p)) ≡ has_come (stage start s kind (suc below) p)) → Owned start (moves start s p step)
  climbs_owned step may kind zero take same is stays = nowhere kind is
  climbs_owned step may kind (suc below) take same is stays = by_kept step may (local start s kind (suc below) p take) same [] unchanged refl (local_kept kind below take (stays below refl))

  -- a call by itself
  makes_owned : (step : Move) (may : May start s p step) (next : State) (same : moves start s p step ≡ next) (kind : Kind) (amount : ℕ) → ((k : Kind) (l : ℕ) → stage start s k l p ≡ Out) → history_in start next ≡ history_in start (makes start s p kind amount) → (next.callers p).made ≡ suc (s.callers p).made → Owned start (moves start s p step)
  makes_owned step may next same kind amount out grown made =
      let call : Call = next_call s p kind amount in
      let pushed : history_in start next ≡ history_in start s ++ call ∷ [] = grown ∙ history_push s.arrivals start.shape.levels s.steps (OwnStep call) in
      by_own step may next same (call ∷ []) pushed
      (λ n lt. o.all p (out_idle out) n (omega (arith, made, lt)))
      (λ not n lt. elim (cases_lt n (s.callers p).made) [
        | inl older ↦ omega (arith, o.all p (out_idle out) n older, ap (count p n) pushed, count-append p n (history_in start s) (call ∷ []))
        | inr ge ↦
            let it_is : (s.callers p).made ≡ n = omega (arith, made, lt) in
            let one : 1 ≤ count p (s.callers p).made (call ∷ []) = stands_counts start.cap start.opening (call ∷ []) call start.opening (record { earlier = []; later = []; order = refl; met = refl }) in
            omega (arith, ap (count p n) pushed, count-append p n (history_in start s) (call ∷ []), subst (λ (i : ℕ). 1 ≤ count p i (call ∷ [])) it_is one)
      ])

  made_goes : (x : State) (position : Position) → ((goes_to x p position).callers p).made ≡ (x.callers p).made
  made_goes x position = ap (λ (y : Caller). y.made) (put_here x.callers p (record (x.callers p) { position = position }) p refl)

  made_makes : (kind : Kind) (amount : ℕ) → ((makes start s p kind amount).callers p).made ≡ suc (s.callers p).made
  made_makes kind amount = ap (λ (y : Caller). y.made) (put_here s.callers p (after_call (s.callers p) (next_call s p kind amount)) p refl)

  -- a batch enters the main word
  abbrev batch_of : Kind → ℕ → MainStep
  batch_of kind level = BatchStep kind (aggregator start.shape p level) (lo_of (stage start s kind level p)) (hi_of (stage start s kind level p))

  pub applies_kept : (kind : Kind) (level amount at hi : ℕ) → 1 ≤ level → stage start s kind level p ≡ Shut at hi → IsUnderway start s p → IsUnderway start (applies start s p kind level amount) p
  applies_kept kind zero amount at hi low e u = absurd (omega arith)
  applies_kept kind (suc below) amount at hi low e u =
      local_kept kind below (λ m. local_step.Hand_base m s.main) (hand_stays (members start.shape (suc below) (aggregator start.shape p (suc below))) start.shape.rows (s.rows kind (suc below) (aggregator start.shape p (suc below))) (inv_at kind below) (member start.shape (suc below) p) (member_within start.shape ok.shape below p range) s.main (at, hi, e)) u

  -- an exchange that loses
  lost_owned : (step : Move) (may : May start s p step) (position : Position) → moves start s p step ≡ goes_to s p position → Owned start (moves start s p step)
  lost_owned step may position same = by_kept step may (goes_to s p position) same [] unchanged (made_goes s position) (λ u. u)

  leave_owned : (kind : Kind) (level : ℕ) (may : May start s p (Leave kind level)) → Owned start (moves start s p (Leave kind level))
  leave_owned kind zero may = nowhere kind may.0
  leave_owned kind (suc zero) may =
      let b : ℕ = after start.cap may.1.0 kind may.1.1 in
      let last : Call = (s.callers p).last in
      let known = knows_at start ok s w p kind 0 (Got may.1.0 may.1.1) may.1.2 in
      let stands : StandsIn start.cap start.opening (history_in start s) (last ∷ []) b = subst (λ (a : Arrival). StandsIn start.cap start.opening (history_in start s) (calls_of (expand (s.arrivals kind) 0) a) b) known.1 known.3 in
      let one : 1 ≤ count last.pass last.number (history_in start s) = stands_counts start.cap start.opening (history_in start s) last b stands in
      let own_last = c.last p in
      by_own (Leave kind 1) may (leaves start s p kind 1) refl [] unchanged
      (λ n lt. o.earlier p n (omega (arith, lt, made_goes (local start s kind 1 p (λ m. local_step.Leave m)) Resting)))
      (λ not n lt. elim (cases_lt (suc n) (s.callers p).made) [
        | inl older ↦ o.earlier p n older
        | inr ge ↦
            let most : n < (s.callers p).made = omega (arith, lt, made_goes (local start s kind 1 p (λ m. local_step.Leave m)) Resting) in
            let number : last.number ≡ n = omega (arith, own_last.1 (omega arith)) in
            subst (λ (i : ℕ). 1 ≤ count p i (history_in start s)) number (subst (λ (i : ℕ). 1 ≤ count i last.number (history_in start s)) own_last.0 one)
      ])
  leave_owned kind (suc (suc zero)) may = by_kept (Leave kind 2) may (leaves start s p kind 2) refl [] unchanged
      (made_goes (local start s kind 2 p (λ m. local_step.Leave m)) (Climbing kind 1))
      (λ u. (kind, ap has_come (here' start ok s w p range kind 0 may)))
  leave_owned kind (suc (suc (suc below))) may =
      let middle : State = local start s kind (suc (suc (suc below))) p (λ m. local_step.Leave m) in
      by_kept (Leave kind (suc (suc (suc below)))) may (leaves start s p kind (suc (suc (suc below)))) refl [] unchanged
      (made_goes middle (Climbing kind (suc (suc below))))
      (λ u. (u.0, ap has_come (own_there middle kind (suc below) (λ m. local_step.Hand_base m (reply_of start.cap kind (stage start s kind (suc (suc (suc below))) p))) u.0 (λ x y. omega (arith, x)) ∙ own_there s kind (suc (suc below)) (λ m. local_step.Leave m) u.0 (λ x y. omega (arith, x))) ∙ u.1))

  arrive_owned : (kind : Kind) (level weight : ℕ) (may : May start s p (Arrive kind level weight)) → Owned start (moves start s p (Arrive kind level weight))
  arrive_owned kind zero weight may = absurd may.1
  arrive_owned kind (suc zero) weight may =
      let up = climbing start ok s w p kind 1 may.0.0 in
      let next : State = arrives start s p kind 1 weight in
      let idle : IsUnderway start s p → ⊥ = λ u. elim (kind_cases u.0 kind) [
        | inl e ↦ false≢true (sym (ap has_come (ap (λ (k : Kind). stage start s k 1 p) e ∙ may.0.1.1)) ∙ u.1)
        | inr ne ↦ false≢true (sym (ap has_come (up.other u.0 1 ne)) ∙ u.1)
      ] in
      let made : (next.callers p).made ≡ suc (s.callers p).made = ap (λ (y : Caller). y.made) (put_here s.callers p (after_call (s.callers p) (next_call s p kind weight)) p refl) in
      by_own (Arrive kind 1 weight) may next refl []
      (history_grows s.arrivals next.arrivals start.shape.levels w.good.orderly.formed (λ k. grows_by_arrival s.arrivals kind 1 (aggregator start.shape p 1) (Own (next_call s p kind weight)) k) s.steps w.good.orderly.sound_steps ∙ unchanged)
      (λ n lt. o.all p idle n (omega (arith, made, lt)))
      (λ not n lt. absurd (not (kind, ap has_come (arrived_here start ok s w p range kind weight may.0 may.1))))
  arrive_owned kind (suc (suc below)) weight may =
      let next : State = arrives start s p kind (suc (suc below)) weight in
      let batch : Arrival = Batch (aggregator start.shape p (suc below)) (lo_of (stage start s kind (suc below) p)) (hi_of (stage start s kind (suc below) p)) in
      by_kept (Arrive kind (suc (suc below)) weight) may next refl []
      (history_grows s.arrivals next.arrivals start.shape.levels w.good.orderly.formed (λ k. grows_by_arrival s.arrivals kind (suc (suc below)) (aggregator start.shape p (suc (suc below))) batch k) s.steps w.good.orderly.sound_steps ∙ unchanged)
      refl
      (λ u. (u.0, ap has_come (own_there s kind (suc below) (λ m. local_step.Arrive m weight) u.0 (λ x y. omega (arith, x))) ∙ u.1))

  apply_owned : (weight : ℕ) (may : May start s p (Apply weight)) → Owned start (moves start s p (Apply weight))
  apply_owned weight may =
      let up = climbing start ok s w p kinds.Add may.0 may.1 in
      by_kept (Apply weight) may (applies start s p kinds.Add may.0 weight) (ap (applied_by start s p weight) may.1)
      (calls_of_step s.arrivals start.shape.levels (batch_of kinds.Add may.0)) (history_push s.arrivals start.shape.levels s.steps (batch_of kinds.Add may.0)) refl
      (applies_kept kinds.Add may.0 weight may.2.1.0 may.2.1.1 up.low may.2.1.2)

  direct_exchange_owned : (kind : Kind) (amount word : ℕ) (may : May start s p (Exchange kind amount)) → (s.callers p).position ≡ Trying word → (s.main ≡ word) ⊎ (s.main ≢ word) → Owned start (moves start s p (Exchange kind amount))
  direct_exchange_owned kind amount word may is (inl won) =
      let made : State = makes start s p kind amount in
      let next : State = goes_to made p Resting in
      makes_owned (Exchange kind amount) may next (ap (exchanged_by start s p kind amount) is ∙ ap (λ (t : Bool). if t then next else goes_to s p Resting) (eq-eqb s.main word won)) kind amount
      (subst (FitsAt start s p) is (w.fits p)) refl (made_goes made Resting ∙ made_makes kind amount)
  direct_exchange_owned kind amount word may is (inr lost) =
      lost_owned (Exchange kind amount) may Resting (ap (exchanged_by start s p kind amount) is ∙ ap (λ (t : Bool). if t then goes_to (makes start s p kind amount) p Resting else goes_to s p Resting) (ne_eqb s.main word lost))

  batch_exchange_owned : (kind : Kind) (amount level word : ℕ) (may : May start s p (Exchange kind amount)) → (s.callers p).position ≡ Deciding kind level word → (s.main ≡ word) ⊎ (s.main ≢ word) → Owned start (moves start s p (Exchange kind amount))
  batch_exchange_owned kind amount level word may is (inl won) =
      let fit : FitsAt start s p (Deciding kind level word) = subst (FitsAt start s p) is (w.fits p) in
      let up : IsClimbing start.shape.levels (stages_of start s p) kind level = fit.0 in
      let applied : State = applies start s p kind level amount in
      let next : State = goes_to applied p (Climbing kind level) in
      by_kept (Exchange kind amount) may next (ap (exchanged_by start s p kind amount) is ∙ ap (λ (t : Bool). if t then next else goes_to s p (Climbing kind level)) (eq-eqb s.main word won))
      (calls_of_step s.arrivals start.shape.levels (batch_of kind level)) (history_push s.arrivals start.shape.levels s.steps (batch_of kind level)) (made_goes applied (Climbing kind level))
      (applies_kept kind level amount fit.2 fit.3 up.low fit.4)
  batch_exchange_owned kind amount level word may is (inr lost) =
      lost_owned (Exchange kind amount) may (Climbing kind level) (ap (exchanged_by start s p kind amount) is ∙ ap (λ (t : Bool). if t then goes_to (applies start s p kind level amount) p (Climbing kind level) else goes_to s p (Climbing kind level)) (ne_eqb s.main word lost))

  -- what a step at one aggregator needs
  module _ (kind : Kind) (below : ℕ) where
    abbrev pub count_here : ℕ
    count_here = members start.shape (suc below) (aggregator start.shape p (suc below))

    abbrev pub t_here : Traced
    t_here = s.rows kind (suc below) (aggregator start.shape p (suc below))

    abbrev pub m_here : ℕ
    m_here = member start.shape (suc below) p

    pub in_range : m_here < count_here
    in_range = member_within start.shape ok.shape below p range

  -- a guard at a level, one above that below
  pub at_level : (kind : Kind) (level below : ℕ) (step : ℕ → local_step.Step) → level ≡ suc below → MayTake start s kind level p step → MayTake start s kind (suc below) p step
  at_level kind level below step e guard = subst (λ (l : ℕ). MayTake start s kind l p step) e guard

  fill_owned : (row : ℕ) (field : Field) (may : May start s p (Fill row field)) (kind : Kind) (level : ℕ) → Climbs start s p kind level (fills start s kind level p row field) → Owned start (moves start s p (Fill row field))
  fill_owned row field may kind zero climbs = nowhere kind climbs.0
  fill_owned row field may kind (suc below) climbs =
      by_kept (Fill row field) may (local start s kind (suc below) p (fills start s kind (suc below) p row field)) (ap (filled_by start s p row field) climbs.0) [] unchanged refl
      (local_kept kind below (fills start s kind (suc below) p row field)
      (fill_stays (count_here kind below) start.shape.rows (t_here kind below) (inv_at kind below) (m_here kind below) (in_range kind below) (local_row start.shape (suc below) p row) field (word_of field (stage start s kind (suc below) p)) climbs.1))

  peek_owned : (row : ℕ) (field : Field) (may : May start s p (Peek row field)) (kind : Kind) (level : ℕ) → Climbs start s p kind level (λ m. local_step.Peek m) → Owned start (moves start s p (Peek row field))
  peek_owned row field may kind zero climbs = nowhere kind climbs.0
  peek_owned row field may kind (suc below) climbs =
      by_kept (Peek row field) may (local start s kind (suc below) p (λ m. local_step.Peek m)) (ap (peeked_by start s p) climbs.0) [] unchanged refl
      (local_kept kind below (λ m. local_step.Peek m)
      (peek_stays (count_here kind below) start.shape.rows (t_here kind below) (inv_at kind below) (m_here kind below) (in_range kind below) climbs.1))

  pub owned_keeps : (step : Move) → May start s p step → Owned start (moves start s p step)
  owned_keeps (Scan kind zero other) may = absurd (omega (arith, may.2))
  owned_keeps (Scan kind (suc below) other) may =
      by_kept (Scan kind (suc below) other) may (local start s kind (suc below) p (λ m. local_step.Scan m (member start.shape (suc below) other))) refl [] unchanged refl
      (λ u. absurd (out_idle (rests_out start ok s w p range may.0) u))
  owned_keeps (See kind zero) may = absurd may
  owned_keeps (See kind (suc zero)) may =
      by_kept (See kind 1) may (goes_to (local start s kind 1 p (λ m. local_step.See m)) p (Climbing kind 1)) refl [] unchanged (made_goes (local start s kind 1 p (λ m. local_step.See m)) (Climbing kind 1))
      (λ u. absurd (out_idle (rests_out start ok s w p range may.0) u))
  owned_keeps (See kind (suc (suc below))) may =
      let seen : State = local start s kind (suc (suc below)) p (λ m. local_step.See m) in
      by_kept (See kind (suc (suc below))) may (goes_to seen p (Climbing kind (suc (suc below)))) refl [] unchanged (made_goes seen (Climbing kind (suc (suc below))))
      (λ u. (u.0, ap has_come (own_there s kind (suc below) (λ m. local_step.See m) u.0 (λ x y. omega (arith, x))) ∙ u.1))
  owned_keeps (Announce kind level) may = climbs_owned (Announce kind level) may kind level (λ m. local_step.Announce m) refl may.0
      (λ below e. announce_stays (count_here kind below) start.shape.rows (t_here kind below) (inv_at kind below) (m_here kind below) (in_range kind below) (at_level kind level below (λ m. local_step.Announce m) e may.1))
  owned_keeps (Arrive kind level weight) may = arrive_owned kind level weight may
  owned_keeps (Look kind level) may = climbs_owned (Look kind level) may kind level (λ m. local_step.Look m) refl may.0
      (λ below e. look_stays (count_here kind below) start.shape.rows (t_here kind below) (inv_at kind below) (m_here kind below) (in_range kind below) (at_level kind level below (λ m. local_step.Look m) e may.1))
  owned_keeps (Close kind level) may = climbs_owned (Close kind level) may kind level (λ m. local_step.Close m) refl may.0
      (λ below e. close_stays (count_here kind below) start.shape.rows (t_here kind below) (inv_at kind below) (m_here kind below) (in_range kind below) (at_level kind level below (λ m. local_step.Close m) e may.1))
  owned_keeps (Apply weight) may = apply_owned weight may
  owned_keeps (Head kind level) may = climbs_owned (Head kind level) may kind level (λ m. local_step.Head m) refl may.0
      (λ below e. head_stays (count_here kind below) start.shape.rows (t_here kind below) (inv_at kind below) (m_here kind below) (in_range kind below) (at_level kind level below (λ m. local_step.Head m) e may.1))
  owned_keeps (Fill row field) may = fill_owned row field may may.0 may.1 may.3
  owned_keeps (Point kind level row) may = climbs_owned (Point kind level row) may kind level (λ m. local_step.Point m) refl may.0.0
      (λ below e. point_stays (count_here kind below) start.shape.rows (t_here kind below) (inv_at kind below) (m_here kind below) (in_range kind below) (at_level kind level below (λ m. local_step.Point m) e may.0.1))
  owned_keeps (Publish kind level) may = climbs_owned (Publish kind level) may kind level (λ m. local_step.Publish m) refl may.0
      (λ below e. publish_stays (count_here kind below) start.shape.rows (t_here kind below) (inv_at kind below) (m_here kind below) (in_range kind below) (at_level kind level below (λ m. local_step.Publish m) e may.1))
  owned_keeps (Peek row field) may = peek_owned row field may may.0 may.1 may.2
  owned_keeps (Leave kind level) may = leave_owned kind level may
  owned_keeps (Load purpose.Try) (inl is) = lost_owned (Load purpose.Try) (inl is) (Trying s.main) (ap (loaded_by s p) is)
  owned_keeps (Load purpose.Try) (inr may) = lost_owned (Load purpose.Try) (inr may) (Deciding may.0 may.1 s.main) (ap (loaded_by s p) may.2)
  owned_keeps (Load purpose.Read) is = makes_owned (Load purpose.Read) is (makes start s p kinds.Read 0) refl kinds.Read 0 (rests_out start ok s w p range is) refl (made_makes kinds.Read 0)
  owned_keeps (Exchange kind amount) (inl may) = direct_exchange_owned kind amount may.0 (inl may) may.1 (cases_eq s.main may.0)
  owned_keeps (Exchange kind amount) (inr may) = batch_exchange_owned kind amount may.0 may.1 (inr may) may.2 (cases_eq s.main may.1)
  owned_keeps (Direct amount) may = makes_owned (Direct amount) may (makes start s p kinds.Add amount) refl kinds.Add amount (rests_out start ok s w p range may.0) refl (made_makes kinds.Add amount)
  owned_keeps Glance may = by_kept Glance may s refl [] unchanged refl (λ u. u)

pub opened_owned : (start : Start) → Owned start (opened start)
opened_owned start = record {
  earlier = λ p n lt. absurd (omega arith);
  all = λ p not n lt. absurd (omega arith);
  order = λ p. tt;
}

-- all that holds after a legal log
pub log_owned : (start : Start) → IsStart start → (log : List Event) (s : State) → Whole start s → IsCounted start s → Owned start s → Legal start log s → Whole start (run start log s) × IsCounted start (run start log s) × Owned start (run start log s)
log_owned start ok [] s w c o legal = (w, c, o)
log_owned start ok (event ∷ log) s w c o legal = log_owned start ok log (effect start s event)
    (moves_keep start ok s w event.pass legal.0.0 event.step legal.0.1) (counts_keep start ok s w c event.pass legal.0.0 event.step legal.0.1) (owned_keeps start ok s w c o event.pass legal.0.0 event.step legal.0.1) legal.1

-- a pass has a call underway, or none
pub underway_cases : (start : Start) (s : State) (p : ℕ) → IsUnderway start s p ⊎ (IsUnderway start s p → ⊥)
underway_cases start s p = go (has_come (stage start s kinds.Add 1 p)) (has_come (stage start s kinds.Sub 1 p)) (has_come (stage start s kinds.Read 1 p)) refl refl refl
  where
    none : (k : Kind) → has_come (stage start s kinds.Add 1 p) ≡ false → has_come (stage start s kinds.Sub 1 p) ≡ false → has_come (stage start s kinds.Read 1 p) ≡ false → has_come (stage start s k 1 p) ≡ false
    none kinds.Add a b c = a
    none kinds.Sub a b c = b
    none kinds.Read a b c = c

    go : (a b c : Bool) → has_come (stage start s kinds.Add 1 p) ≡ a → has_come (stage start s kinds.Sub 1 p) ≡ b → has_come (stage start s kinds.Read 1 p) ≡ c → IsUnderway start s p ⊎ (IsUnderway start s p → ⊥)
    go true b c x y z = inl (kinds.Add, x)
    go false true c x y z = inl (kinds.Sub, y)
    go false false true x y z = inl (kinds.Read, z)
    go false false false x y z = inr (λ u. false≢true (sym (none u.0 x y z) ∙ u.1))

-- how many own calls of a pass stand in the history
pub own_sizes : (start : Start) → IsStart start → (s : State) → Whole start s → IsCounted start s → Owned start s → (p : ℕ) → (length (own p (history_in start s)) ≡ (s.callers p).made) ⊎ ((suc (length (own p (history_in start s))) ≡ (s.callers p).made) × IsUnderway start s p)
own_sizes start ok s w c o p =
    let past : List Call = history_in start s in
    let made : ℕ = (s.callers p).made in
    let none : count p made past ≡ 0 = (stands_once start ok s w c p made).1 (omega arith) in
    elim (underway_cases start s p) [
      | inr not ↦ inl (how_many p made past (o.order p) (o.all p not) none)
      | inl u ↦ elim (cases_lt 0 made) [
        | inr ge ↦ inl (how_many p made past (o.order p) (λ n lt. absurd (omega arith)) none)
        | inl lt ↦ elim (cases_lt 0 (count p (made - 1) past)) [
          | inl there ↦ inl (how_many p made past (o.order p) (λ n less. elim (cases_eq n (made - 1)) [
            | inl e ↦ omega (arith, ap (λ (i : ℕ). count p i past) e)
            | inr ne ↦ o.earlier p n (omega arith)
          ]) none)
          | inr missing ↦ inr (omega (arith, how_many p (made - 1) past (o.order p) (λ n less. o.earlier p n (omega arith)) (omega arith)), u)
        ]
      ]
    ]

pub own_size : (start : Start) → IsStart start → (s : State) → Whole start s → IsCounted start s → Owned start s → (p : ℕ) → length (own p (history_in start s)) ≤ (s.callers p).made
own_size start ok s w c o p = elim (own_sizes start ok s w c o p) [
  | inl e ↦ omega (arith, e)
  | inr e ↦ omega (arith, e.0)
]

pub own_calls_are_in_order : OwnCallsAreInOrder
own_calls_are_in_order start log ok legal p =
    let s : State = run start log (opened start) in
    let all = log_owned start ok log (opened start) (opened_whole start ok) (opened_counted start) (opened_owned start) legal in
    (all.2.order p, own_sizes start ok s all.0 all.1 all.2 p)
