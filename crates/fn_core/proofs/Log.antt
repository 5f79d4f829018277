-- Each event keeps what holds, so it holds after every legal log.
use Rattle.std.proofs.Common.{◌≡◌, inl, inr, ℕ, zero, suc, ◌<◌, ◌≤◌, [], Bool, true, false, refl, sym, subst, arith}
use Rattle.std.specs.Prelude.{if◌then◌else◌, ◌==◌}
use Rattle.fn_model.specs.declared.Kind.{Kind}
use Rattle.fn_model.specs.declared.Kind.TheVariants as kinds
use Rattle.fn_model.proofs.Orderly.{orderly_at_first}
use Rattle.fn_rows.specs.declared.Stage.TheVariants.{Out}
use Rattle.fn_rows.specs.declared.Field.{Field}
use Rattle.fn_rows.specs.Machine as local_step
use Rattle.fn_rows.proofs.Invariant.{inv_start}
use Rattle.fn_core.specs.declared.Purpose.TheVariants as purpose
use Rattle.fn_core.specs.declared.Move.{Move}
use Rattle.fn_core.specs.declared.Move.TheVariants.{Scan, See, Announce, Arrive, Look, Close, Apply, Head, Fill, Point, Publish, Peek, Leave, Load, Exchange, Direct, Glance}
use Rattle.fn_core.specs.Tree.{leaf, parent, members}
use Rattle.fn_core.specs.State.{Start, Position, Resting, Trying, Climbing, Deciding, State, opened, stage, local, goes_to}
use Rattle.fn_core.specs.Machine.{IsStart, Climbs, May, IsAtTop, weight_of, moves, fills, applies, makes, applied_by, filled_by, peeked_by, loaded_by, exchanged_by}
use Rattle.fn_core.specs.Positions.{IsClimbing}
use Rattle.fn_core.proofs.Whole.{Whole, stages_of, FitsAt, climbing, goes_whole}
use Rattle.fn_core.proofs.Climbs.{not_below, announce_keeps, look_keeps, close_keeps, head_keeps, late_keeps, fill_keeps, point_keeps, publish_keeps, peek_lo_keeps, peek_prev_keeps, peek_base_keeps}
use Rattle.fn_core.proofs.Begins.{rests_out, scan_keeps, see_keeps, end_keeps}
use Rattle.fn_core.proofs.Arrives.{first_keeps, rises_keeps}
use Rattle.fn_core.proofs.Enters.{makes_keeps}
use Rattle.fn_core.proofs.Applies.{applies_keeps, exchange_keeps}
use Rattle.fn_core.proofs.Descends.{descends_keeps}

-- at the opening nothing has happened
pub opened_whole : (start : Start) → IsStart start → Whole start (opened start)
opened_whole start ok = record {
  good = record {
    inv = λ kind level index. inv_start (members start.shape level index) start.shape.rows;
    reached = λ kind level index. ([], tt, refl);
    known = λ p kind below. tt;
    batches = λ kind level index b is. absurd is;
    main = refl;
    orderly = orderly_at_first (leaf start.shape) parent start.shape.levels;
  };
  fits = λ p k l. refl;
  totals = λ kind level index. refl;
  contiguous = record {
    gone = λ p kind below hi is. absurd is;
    back = λ kind below index. inl ((λ top. refl), (λ not. refl));
  };
}

either : (start : Start) (test : Bool) (x y : State) → Whole start x → Whole start y → Whole start (if test then x else y)
either start true x y a b = a
either start false x y a b = b

module _ (start : Start) (ok : IsStart start) (s : State) (w : Whole start s) (p : ℕ) (range : p < start.shape.passes) where
  nowhere : {A : Type 0} (kind : Kind) → (s.callers p).position ≡ Climbing kind 0 → A
  nowhere kind is = absurd (not_below start ok s w p range kind is)

  apply_keeps : (weight : ℕ) (level : ℕ) → (s.callers p).position ≡ Climbing kinds.Add level → IsAtTop start s p kinds.Add level → weight ≡ weight_of start s p kinds.Add level → Whole start (applies start s p kinds.Add level weight)
  apply_keeps weight zero is at_top weighs = nowhere kinds.Add is
  apply_keeps weight (suc below) is at_top weighs = applies_keeps start ok s w p range kinds.Add below weight (climbing start ok s w p kinds.Add (suc below) is) at_top.0 at_top.1.0 at_top.1.1 at_top.1.2 weighs is

  filling_keeps : (row : ℕ) (field : Field) (kind : Kind) (level : ℕ) → Climbs start s p kind level (fills start s kind level p row field) → Whole start (local start s kind level p (fills start s kind level p row field))
  filling_keeps row field kind zero climbs = nowhere kind climbs.0
  filling_keeps row field kind (suc below) climbs = fill_keeps start ok s w p range kind below climbs.0 row field climbs.1

  peeking_keeps : (kind : Kind) (level : ℕ) → Climbs start s p kind level (λ m. local_step.Peek m) → Whole start (local start s kind level p (λ m. local_step.Peek m))
  peeking_keeps kind zero climbs = nowhere kind climbs.0
  peeking_keeps kind (suc below) climbs = elim climbs.1 [
    | inl g ↦ peek_lo_keeps start ok s w p range kind below climbs.0 g.0 g.1 g.2
    | inr (inl g) ↦ peek_prev_keeps start ok s w p range kind below climbs.0 g.0 g.1 g.2
    | inr (inr g) ↦ peek_base_keeps start ok s w p range kind below climbs.0 g.0 g.1 g.2 g.3
  ]

  -- a direct call: its exchange wins or loses
  direct_exchange : (kind : Kind) (amount word : ℕ) → (s.callers p).position ≡ Trying word → Whole start (exchanged_by start s p kind amount (Trying word))
  direct_exchange kind amount word is =
      let out : (k : Kind) (l : ℕ) → stage start s k l p ≡ Out = subst (FitsAt start s p) is (w.fits p) in
      either start (s.main == word) (goes_to (makes start s p kind amount) p Resting) (goes_to s p Resting)
      (goes_whole start ok (makes start s p kind amount) (makes_keeps start ok s w p kind amount out) p Resting out)
      (goes_whole start ok s w p Resting out)

  -- a delegate's
  batch_exchange : (kind : Kind) (amount word level : ℕ) → (s.callers p).position ≡ Deciding kind level word → amount ≡ weight_of start s p kind level → Whole start (exchanged_by start s p kind amount (Deciding kind level word))
  batch_exchange kind amount word zero is weighs =
      let fit : FitsAt start s p (Deciding kind 0 word) = subst (FitsAt start s p) is (w.fits p) in
      let up : IsClimbing start.shape.levels (stages_of start s p) kind 0 = fit.0 in
      let low : 1 ≤ 0 = up.low in
      absurd (omega arith)
  batch_exchange kind amount word (suc below) is weighs =
      let fit : FitsAt start s p (Deciding kind (suc below) word) = subst (FitsAt start s p) is (w.fits p) in
      either start (s.main == word) (goes_to (applies start s p kind (suc below) amount) p (Climbing kind (suc below))) (goes_to s p (Climbing kind (suc below)))
      (exchange_keeps start ok s w p range kind below amount fit.0 fit.1 fit.2 fit.3 fit.4 weighs)
      (goes_whole start ok s w p (Climbing kind (suc below)) fit.0)

  pub moves_keep : (step : Move) → May start s p step → Whole start (moves start s p step)
  moves_keep (Scan kind level other) may = scan_keeps start ok s w p range kind level other may
  moves_keep (See kind level) may = see_keeps start ok s w p range kind level may
  moves_keep (Announce kind zero) may = nowhere kind may.0
  moves_keep (Announce kind (suc below)) may = announce_keeps start ok s w p range kind below may.0 may.1.0 may.1.1
  moves_keep (Arrive kind zero weight) may = absurd may.1
  moves_keep (Arrive kind (suc zero) weight) may = first_keeps start ok s w p range kind weight may.0 may.1
  moves_keep (Arrive kind (suc (suc below)) weight) may = rises_keeps start ok s w p range kind weight below may.0 may.1
  moves_keep (Look kind zero) may = nowhere kind may.0
  moves_keep (Look kind (suc below)) may = look_keeps start ok s w p range kind below may.0 may.1.0 may.1.1
  moves_keep (Close kind zero) may = nowhere kind may.0
  moves_keep (Close kind (suc below)) may = close_keeps start ok s w p range kind below may.0 may.1.0 may.1.1
  moves_keep (Apply weight) may = subst (λ (x : Position). Whole start (applied_by start s p weight x)) (sym may.1) (apply_keeps weight may.0 may.1 may.2 may.4)
  moves_keep (Head kind zero) may = nowhere kind may.0
  moves_keep (Head kind (suc below)) may = elim may.1 [
    | inl g ↦ head_keeps start ok s w p range kind below may.0 g.0 g.1 g.2 g.3
    | inr g ↦ late_keeps start ok s w p range kind below may.0 g.0 g.1
  ]
  moves_keep (Fill row field) may = subst (λ (x : Position). Whole start (filled_by start s p row field x)) (sym may.3.0) (filling_keeps row field may.0 may.1 may.3)
  moves_keep (Point kind zero row) may = nowhere kind may.0.0
  moves_keep (Point kind (suc below) row) may = point_keeps start ok s w p range kind below may.0.0 may.0.1.0 may.0.1.1 may.0.1.2 may.0.1.3 may.0.1.4
  moves_keep (Publish kind zero) may = nowhere kind may.0
  moves_keep (Publish kind (suc below)) may = publish_keeps start ok s w p range kind below may.0 may.1.0 may.1.1 may.1.2 may.1.3 may.1.4
  moves_keep (Peek row field) may = subst (λ (x : Position). Whole start (peeked_by start s p x)) (sym may.2.0) (peeking_keeps may.0 may.1 may.2)
  moves_keep (Leave kind zero) may = nowhere kind may.0
  moves_keep (Leave kind (suc zero)) may = end_keeps start ok s w p range kind may
  moves_keep (Leave kind (suc (suc below))) may = descends_keeps start ok s w p range kind below may
  moves_keep (Load purpose.Try) (inl is) = subst (λ (x : Position). Whole start (loaded_by s p x)) (sym is) (goes_whole start ok s w p (Trying s.main) (rests_out start ok s w p range is))
  moves_keep (Load purpose.Try) (inr may) = subst (λ (x : Position). Whole start (loaded_by s p x)) (sym may.2)
      (goes_whole start ok s w p (Deciding may.0 may.1 s.main) (climbing start ok s w p may.0 may.1 may.2, may.3.0, may.3.1.0, may.3.1.1, may.3.1.2))
  moves_keep (Load purpose.Read) is = makes_keeps start ok s w p kinds.Read 0 (rests_out start ok s w p range is)
  moves_keep (Exchange kind amount) (inl may) = subst (λ (x : Position). Whole start (exchanged_by start s p kind amount x)) (sym may.1) (direct_exchange kind amount may.0 may.1)
  moves_keep (Exchange kind amount) (inr may) = subst (λ (x : Position). Whole start (exchanged_by start s p kind amount x)) (sym may.2) (batch_exchange kind amount may.1 may.0 may.2 may.3)
  moves_keep (Direct amount) may = makes_keeps start ok s w p kinds.Add amount (rests_out start ok s w p range may.0)
  moves_keep Glance may = w
