-- A call that is underway stays so until it leaves its leaf.
use Rattle.std.proofs.Common.{◌≡◌, ◌≢◌, ◌⊎◌, ◌<◌, inl, inr, ℕ, zero, suc, Bool, refl, sym, ◌∙◌, ap, subst, arith}
use Rattle.std.specs.Prelude.{if◌then◌else◌}
use Rattle.std.proofs.lemmas.Bool.{cases_eq, false≢true, eq-eqb, ne_eqb}
use Rattle.fn_model.specs.declared.Kind.{Kind}
use Rattle.fn_model.specs.declared.Kind.TheVariants as kinds
use Rattle.fn_rows.specs.declared.Field.{Field}
use Rattle.fn_rows.specs.declared.Stage.TheVariants.{Shut}
use Rattle.fn_rows.specs.Machine as local_step
use Rattle.fn_rows.specs.Trace.{traced}
use Rattle.fn_core.specs.Batches.{has_come}
use Rattle.fn_core.specs.declared.Purpose.TheVariants as purpose
use Rattle.fn_core.specs.declared.Move.{Move}
use Rattle.fn_core.specs.declared.Move.TheVariants.{Scan, See, Announce, Arrive, Look, Close, Apply, Head, Fill, Point, Publish, Peek, Leave, Load, Exchange, Direct, Glance}
use Rattle.fn_core.specs.Tree.{aggregator, member}
use Rattle.fn_core.specs.State.{Start, Position, Resting, Climbing, Deciding, State, stage, local, goes_to, reply_of}
use Rattle.fn_core.specs.Machine.{IsStart, May, Climbs, moves, applies, applied_by, filled_by, peeked_by, loaded_by, exchanged_by, fills, local_row, word_of}
use Rattle.fn_core.specs.Laws.{IsUnderway}
use Rattle.fn_core.specs.Positions.{IsClimbing}
use Rattle.fn_core.proofs.Whole.{Whole, stages_of, FitsAt, climbing}
use Rattle.fn_core.proofs.Begins.{rests_out}
use Rattle.fn_core.proofs.Places.{kind_cases}
use Rattle.fn_core.proofs.Descends.{here'}
use Rattle.fn_core.proofs.Counted.{IsCounted}
use Rattle.fn_core.proofs.Owned.{Owned, announce_stays, look_stays, close_stays, head_stays, fill_stays, point_stays, publish_stays, peek_stays, nowhere, own_there, local_kept, out_idle, inv_at, applies_kept, count_here, t_here, m_here, in_range, at_level}

module _ (start : Start) (ok : IsStart start) (s : State) (w : Whole start s) (c : IsCounted start s) (o : Owned start s) (p : ℕ) (range : p < start.shape.passes) where
  -- nothing is underway where a pass rests
  rests : {A : Type 0} → (s.callers p).position ≡ Resting → IsUnderway start s p → A
  rests is u = absurd (out_idle start ok s w c o p range (rests_out start ok s w p range is) u)

  -- a step at one aggregator of a call that climbs
  climbs_kept : (kind : Kind) (level : ℕ) (take : ℕ → local_step.Step) → (s.callers p).position ≡ Climbing kind level
      → ((below : ℕ) → level ≡ suc below → has_come ((traced (s.rows kind (suc below) (aggregator start.shape p (suc below))) (take (member start.shape (suc below) p))).stage (member start.shape (suc below) p)) ≡ has_come (stage start s kind (suc below) p))
      → IsUnderway start s p → IsUnderway start (local start s kind level p take) p
  climbs_kept kind zero take is stays u = nowhere start ok s w c o p range kind is
  climbs_kept kind (suc below) take is stays u = local_kept start ok s w c o p range kind below take (stays below refl) u

  exchange_kept : (kind : Kind) (amount level word : ℕ) → (s.callers p).position ≡ Deciding kind level word → (s.main ≡ word) ⊎ (s.main ≢ word) → IsUnderway start s p → IsUnderway start (moves start s p (Exchange kind amount)) p
  exchange_kept kind amount level word is (inl won) u =
      let fit : FitsAt start s p (Deciding kind level word) = subst (FitsAt start s p) is (w.fits p) in
      let up : IsClimbing start.shape.levels (stages_of start s p) kind level = fit.0 in
      let next : State = goes_to (applies start s p kind level amount) p (Climbing kind level) in
      let same : moves start s p (Exchange kind amount) ≡ next = ap (exchanged_by start s p kind amount) is ∙ ap (λ (t : Bool). if t then next else goes_to s p (Climbing kind level)) (eq-eqb s.main word won) in
      let kept = applies_kept start ok s w c o p range kind level amount fit.2 fit.3 up.low fit.4 u in
      subst (λ (x : State). IsUnderway start x p) (sym same) (kept.0, kept.1)
  exchange_kept kind amount level word is (inr lost) u =
      let next : State = goes_to s p (Climbing kind level) in
      let same : moves start s p (Exchange kind amount) ≡ next = ap (exchanged_by start s p kind amount) is ∙ ap (λ (t : Bool). if t then goes_to (applies start s p kind level amount) p (Climbing kind level) else next) (ne_eqb s.main word lost) in
      subst (λ (x : State). IsUnderway start x p) (sym same) u

  arrive_kept : (kind : Kind) (level weight : ℕ) → May start s p (Arrive kind level weight) → IsUnderway start s p → IsUnderway start (moves start s p (Arrive kind level weight)) p
  arrive_kept kind zero weight may u = absurd may.1
  arrive_kept kind (suc zero) weight may u =
      let up = climbing start ok s w p kind 1 may.0.0 in
      absurd (elim (kind_cases u.0 kind) [
        | inl e ↦ false≢true (sym (ap has_come (ap (λ (k : Kind). stage start s k 1 p) e ∙ may.0.1.1)) ∙ u.1)
        | inr ne ↦ false≢true (sym (ap has_come (up.other u.0 1 ne)) ∙ u.1)
      ])
  arrive_kept kind (suc (suc below)) weight may u =
      (u.0, ap has_come (own_there start ok s w c o p range s kind (suc below) (λ m. local_step.Arrive m weight) u.0 (λ x y. omega (arith, x))) ∙ u.1)

  leave_kept : (kind : Kind) (level : ℕ) → May start s p (Leave kind level) → (level ≡ 1 → ⊥) → IsUnderway start s p → IsUnderway start (moves start s p (Leave kind level)) p
  leave_kept kind zero may higher u = nowhere start ok s w c o p range kind may.0
  leave_kept kind (suc zero) may higher u = absurd (higher refl)
  leave_kept kind (suc (suc zero)) may higher u = (kind, ap has_come (here' start ok s w p range kind 0 may))
  leave_kept kind (suc (suc (suc below))) may higher u =
      let middle : State = local start s kind (suc (suc (suc below))) p (λ m. local_step.Leave m) in
      let base : ℕ = reply_of start.cap kind (stage start s kind (suc (suc (suc below))) p) in (
        u.0,
        ap has_come (own_there start ok s w c o p range middle kind (suc below) (λ m. local_step.Hand_base m base) u.0 (λ x y. omega (arith, x))
            ∙ own_there start ok s w c o p range s kind (suc (suc below)) (λ m. local_step.Leave m) u.0 (λ x y. omega (arith, x))) ∙ u.1,
      )

  fill_kept : (row : ℕ) (field : Field) (kind : Kind) (level : ℕ) → Climbs start s p kind level (fills start s kind level p row field) → IsUnderway start s p → IsUnderway start (moves start s p (Fill row field)) p
  fill_kept row field kind zero climbs u = nowhere start ok s w c o p range kind climbs.0
  fill_kept row field kind (suc below) climbs u =
      subst (λ (x : Position). IsUnderway start (filled_by start s p row field x) p) (sym climbs.0)
      (local_kept start ok s w c o p range kind below (fills start s kind (suc below) p row field)
      (fill_stays (count_here start ok s w c o p range kind below) start.shape.rows (t_here start ok s w c o p range kind below) (inv_at start ok s w c o p range kind below) (m_here start ok s w c o p range kind below) (in_range start ok s w c o p range kind below) (local_row start.shape (suc below) p row) field (word_of field (stage start s kind (suc below) p)) climbs.1) u)

  peek_kept : (row : ℕ) (field : Field) (kind : Kind) (level : ℕ) → Climbs start s p kind level (λ m. local_step.Peek m) → IsUnderway start s p → IsUnderway start (moves start s p (Peek row field)) p
  peek_kept row field kind zero climbs u = nowhere start ok s w c o p range kind climbs.0
  peek_kept row field kind (suc below) climbs u =
      subst (λ (x : Position). IsUnderway start (peeked_by start s p x) p) (sym climbs.0)
      (local_kept start ok s w c o p range kind below (λ m. local_step.Peek m)
      (peek_stays (count_here start ok s w c o p range kind below) start.shape.rows (t_here start ok s w c o p range kind below) (inv_at start ok s w c o p range kind below) (m_here start ok s w c o p range kind below) (in_range start ok s w c o p range kind below) climbs.1) u)

  apply_kept : (weight level : ℕ) → (s.callers p).position ≡ Climbing kinds.Add level → (at hi : ℕ) → stage start s kinds.Add level p ≡ Shut at hi → IsUnderway start s p → IsUnderway start (moves start s p (Apply weight)) p
  apply_kept weight level is at hi e u =
      let up = climbing start ok s w p kinds.Add level is in
      subst (λ (x : Position). IsUnderway start (applied_by start s p weight x) p) (sym is) (applies_kept start ok s w c o p range kinds.Add level weight at hi up.low e u)

  -- a call that is underway stays so by each step but its last
  pub underway_kept : (step : Move) → May start s p step → ((kind : Kind) → step ≡ Leave kind 1 → ⊥) → IsUnderway start s p → IsUnderway start (moves start s p step) p
  underway_kept (Scan kind level other) may higher u = rests may.0 u
  underway_kept (See kind zero) may higher u = absurd may
  underway_kept (See kind (suc zero)) may higher u = rests may.0 u
  underway_kept (See kind (suc (suc below))) may higher u =
      (u.0, ap has_come (own_there start ok s w c o p range s kind (suc below) (λ m. local_step.See m) u.0 (λ x y. omega (arith, x))) ∙ u.1)
  underway_kept (Announce kind level) may higher u = climbs_kept kind level (λ m. local_step.Announce m) may.0
      (λ below e. announce_stays (count_here start ok s w c o p range kind below) start.shape.rows (t_here start ok s w c o p range kind below) (inv_at start ok s w c o p range kind below) (m_here start ok s w c o p range kind below) (in_range start ok s w c o p range kind below) (at_level start ok s w c o p range kind level below (λ m. local_step.Announce m) e may.1)) u
  underway_kept (Look kind level) may higher u = climbs_kept kind level (λ m. local_step.Look m) may.0
      (λ below e. look_stays (count_here start ok s w c o p range kind below) start.shape.rows (t_here start ok s w c o p range kind below) (inv_at start ok s w c o p range kind below) (m_here start ok s w c o p range kind below) (in_range start ok s w c o p range kind below) (at_level start ok s w c o p range kind level below (λ m. local_step.Look m) e may.1)) u
  underway_kept (Close kind level) may higher u = climbs_kept kind level (λ m. local_step.Close m) may.0
      (λ below e. close_stays (count_here start ok s w c o p range kind below) start.shape.rows (t_here start ok s w c o p range kind below) (inv_at start ok s w c o p range kind below) (m_here start ok s w c o p range kind below) (in_range start ok s w c o p range kind below) (at_level start ok s w c o p range kind level below (λ m. local_step.Close m) e may.1)) u
  underway_kept (Head kind level) may higher u = climbs_kept kind level (λ m. local_step.Head m) may.0
      (λ below e. head_stays (count_here start ok s w c o p range kind below) start.shape.rows (t_here start ok s w c o p range kind below) (inv_at start ok s w c o p range kind below) (m_here start ok s w c o p range kind below) (in_range start ok s w c o p range kind below) (at_level start ok s w c o p range kind level below (λ m. local_step.Head m) e may.1)) u
  underway_kept (Publish kind level) may higher u = climbs_kept kind level (λ m. local_step.Publish m) may.0
      (λ below e. publish_stays (count_here start ok s w c o p range kind below) start.shape.rows (t_here start ok s w c o p range kind below) (inv_at start ok s w c o p range kind below) (m_here start ok s w c o p range kind below) (in_range start ok s w c o p range kind below) (at_level start ok s w c o p range kind level below (λ m. local_step.Publish m) e may.1)) u
  underway_kept (Point kind level row) may higher u = climbs_kept kind level (λ m. local_step.Point m) may.0.0
      (λ below e. point_stays (count_here start ok s w c o p range kind below) start.shape.rows (t_here start ok s w c o p range kind below) (inv_at start ok s w c o p range kind below) (m_here start ok s w c o p range kind below) (in_range start ok s w c o p range kind below) (at_level start ok s w c o p range kind level below (λ m. local_step.Point m) e may.0.1)) u
  underway_kept (Arrive kind level weight) may higher u = arrive_kept kind level weight may u
  underway_kept (Apply weight) may higher u = apply_kept weight may.0 may.1 may.2.1.0 may.2.1.1 may.2.1.2 u
  underway_kept (Fill row field) may higher u = fill_kept row field may.0 may.1 may.3 u
  underway_kept (Peek row field) may higher u = peek_kept row field may.0 may.1 may.2 u
  underway_kept (Leave kind level) may higher u = leave_kept kind level may (λ e. higher kind (ap (Leave kind) e)) u
  underway_kept (Load purpose.Try) (inl is) higher u = rests is u
  underway_kept (Load purpose.Try) (inr may) higher u = subst (λ (x : Position). IsUnderway start (loaded_by s p x) p) (sym may.2) u
  underway_kept (Load purpose.Read) is higher u = rests is u
  underway_kept (Exchange kind amount) (inl may) higher u = absurd (out_idle start ok s w c o p range (subst (FitsAt start s p) may.1 (w.fits p)) u)
  underway_kept (Exchange kind amount) (inr may) higher u = exchange_kept kind amount may.0 may.1 may.2 (cases_eq s.main may.1) u
  underway_kept (Direct amount) may higher u = rests may.0 u
  underway_kept Glance is higher u = rests is u
