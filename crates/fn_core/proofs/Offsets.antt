-- What is known of passes says what stands at their offsets.
use Rattle.std.proofs.Common.{◌≡◌, ℕ, zero, suc, List, [], ◌∷◌, ◌++◌, refl, sym, ◌∙◌, ap, subst, arith}
use Rattle.std.specs.Prelude.{Some, All}
use Rattle.std.proofs.lemmas.List.Elements.{All-head, All-tail}
use Rattle.fn_model.specs.declared.Call.{Call}
use Rattle.fn_model.specs.declared.Kind.{Kind}
use Rattle.fn_model.specs.Arrivals.{Arrival, Batch, Table, ArrivesAt, total, weight}
use Rattle.fn_model.proofs.Arrivals.{Weighs, total-cons}
use Rattle.fn_model.proofs.Expansion.{all_weigh}
use Rattle.fn_rows.specs.declared.Stage.{Stage}
use Rattle.fn_rows.specs.declared.Stage.TheVariants.{Waiting, Lead, Late, Shut, Based, Headed, FilledLo, FilledBase, Filled, Pointed, At, Over, Hit}
use Rattle.fn_rows.specs.Machine.{offset}
use Rattle.fn_core.specs.Tree.{aggregator}
use Rattle.fn_core.specs.State.{Start, State, opened, history_in, stage, lo_of, hi_of}
use Rattle.fn_core.specs.Machine.{run}
use Rattle.fn_core.specs.Offsets.{brought, TotalsAreSums, PassesStandAtOffsets, OffsetsAreApart}
use Rattle.fn_core.proofs.Known.{Brings, Rides, Knows}
use Rattle.fn_core.proofs.Whole.{Whole}
use Rattle.fn_core.proofs.Laws.{holds}

module _ (cap opening : ℕ) (kind : Kind) (table : Table) (past : List Call) (below index : ℕ) (Brought : Arrival → Type 0) where
  abbrev Known : Stage → Type 0
  Known = Knows cap opening kind table past below index Brought

  abbrev Stands : ℕ → Type 0
  Stands = Rides (table (suc below) index) Brought

  same_offset : (a at : ℕ) → Stands a → Some a ≡ Some at → Stands at
  same_offset a at rides is = let same : a ≡ at = cc (is) in subst Stands same rides

  -- what is at a pass's offset is what the pass brought
  rides_at : (g : Stage) (at : ℕ) → Known g → offset g ≡ Some at → Stands at
  rides_at (Waiting a) at known is = same_offset a at known is
  rides_at (Lead a) at known is = same_offset a at known is
  rides_at (Late a) at known is = same_offset a at known is
  rides_at (Shut a h) at known is = same_offset a at known.0 is
  rides_at (Based a h b) at known is = same_offset a at known.0.0 is
  rides_at (Headed a h b w) at known is = same_offset a at known.0.0 is
  rides_at (FilledLo a h b w r) at known is = same_offset a at known.0.0 is
  rides_at (FilledBase a h b w r) at known is = same_offset a at known.0.0 is
  rides_at (Filled a h b r) at known is = same_offset a at known.0.0 is
  rides_at (Pointed a h b r) at known is = same_offset a at known.0.0 is
  rides_at (At a r) at known is = same_offset a at known is
  rides_at (Over a r) at known is = same_offset a at known is
  rides_at (Hit a r lo) at known is = same_offset a at known is
  rides_at _ at known is = absurd (cc (is))

-- what a pass brings is told by its call and its stages
brings : (start : Start) (s : State) (p : ℕ) (kind : Kind) (below : ℕ) (arrival : Arrival) → Brings (s.callers p).last (aggregator start.shape p below) below (stage start s kind below p) arrival → arrival ≡ brought start s p kind below
brings start s p kind zero arrival is = is
brings start s p kind (suc below) arrival (lo, hi, shut, is) =
    let child : ℕ = aggregator start.shape p (suc below) in
    is ∙ ap (λ (g : Stage). Batch child (lo_of g) (hi_of g)) (sym shut)

-- arrivals that weigh something and have one offset are one
one_place : (xs ys ls ms : List Arrival) (a b : Arrival) → All Weighs (xs ++ a ∷ ls) → xs ++ a ∷ ls ≡ ys ++ b ∷ ms → All Weighs (ys ++ b ∷ ms) → total xs ≡ total ys → (xs ≡ ys) × (a ≡ b)
one_place [] [] ls ms a b w same v offsets = (refl, cc (same))
one_place [] (y ∷ ys) ls ms a b w same v offsets = absurd (omega (arith, offsets, total-cons y ys, All-head Weighs y (ys ++ b ∷ ms) v))
one_place (x ∷ xs) [] ls ms a b w same v offsets = absurd (omega (arith, offsets, total-cons x xs, All-head Weighs x (xs ++ a ∷ ls) w))
one_place (x ∷ xs) (y ∷ ys) ls ms a b w same v offsets =
    let head : x ≡ y = cc (same) in
    let tail : xs ++ a ∷ ls ≡ ys ++ b ∷ ms = cc (same) in
    let rest = one_place xs ys ls ms a b (All-tail Weighs x (xs ++ a ∷ ls) w) tail (All-tail Weighs y (ys ++ b ∷ ms) v) (omega (arith, offsets, total-cons x xs, total-cons y ys, ap weight head)) in
    (cc (head, rest.0), rest.1)

pub totals_are_sums : TotalsAreSums
totals_are_sums start log ok legal = (holds start log ok legal).0.totals

pub passes_stand_at_offsets : PassesStandAtOffsets
passes_stand_at_offsets start log ok legal pass kind below at is =
    let s : State = run start log (opened start) in
    let w : Whole start s = (holds start log ok legal).0 in
    let index : ℕ = aggregator start.shape pass (suc below) in
    let rides = rides_at start.cap start.opening kind (s.arrivals kind) (history_in start s) below index (Brings (s.callers pass).last (aggregator start.shape pass below) below (stage start s kind below pass)) (stage start s kind (suc below) pass) at (w.good.known pass kind below) is in
    subst (λ (a : Arrival). ArrivesAt (s.arrivals kind (suc below) index) at a) (brings start s pass kind below rides.0 rides.1) rides.2

pub offsets_are_apart : OffsetsAreApart
offsets_are_apart start log ok legal kind below index at one other first second =
    let s : State = run start log (opened start) in
    let w : Whole start s = (holds start log ok legal).0 in
    let all = all_weigh kind (s.arrivals kind) (w.good.orderly.formed kind) below index in
    one_place first.earlier second.earlier first.later second.later one other (subst (All Weighs) first.order all) (sym first.order ∙ second.order) (subst (All Weighs) second.order all) (first.offset ∙ sym second.offset)
