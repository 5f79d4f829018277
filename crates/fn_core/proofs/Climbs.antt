-- The steps of a call that climbs, at one aggregator.
use Rattle.std.proofs.Common.{◌≡◌, inl, inr, ⊎_elim, ℕ, suc, ◌-◌, ◌<◌, ◌≤◌, ◌∷◌, refl, sym, ◌∙◌, ap, subst, arith, false}
use Rattle.std.proofs.lemmas.Bool.{false≢true}
use Rattle.fn_model.specs.declared.Kind.{Kind}
use Rattle.fn_model.specs.Arrivals.{IsBoundary}
use Rattle.fn_model.specs.Integer.{after}
use Rattle.fn_model.proofs.Expansion.{boundary_within}
use Rattle.fn_model.proofs.Orderly.{boundary_total, boundary_offset}
use Rattle.fn_rows.specs.declared.Stage.{Stage}
use Rattle.fn_rows.specs.declared.Stage.TheVariants.{Saw, Told, Waiting, Lead, Late, Shut, Based, Headed, FilledLo, FilledBase, Filled, Pointed, At, Over, Hit, Got}
use Rattle.fn_rows.specs.declared.Field.{Field}
use Rattle.fn_rows.specs.declared.Field.TheVariants.{Lo, Base, Prev}
use Rattle.fn_rows.specs.Machine.{Step, offset, looked, peeked}
use Rattle.fn_rows.specs.Machine as local_step
use Rattle.fn_rows.specs.Trace.{Traced, traced, batch}
use Rattle.fn_rows.proofs.Invariant.{Inv, Calm, Leading, IsOurs}
use Rattle.fn_rows.proofs.Steps.{looked_cases, peeked_cases}
use Rattle.fn_core.specs.Positions.{is_out}
use Rattle.fn_core.specs.Tree.{aggregator, member, members}
use Rattle.fn_core.specs.State.{Start, Climbing, State, history_in, stage, local}
use Rattle.fn_core.specs.Machine.{IsStart, MayTake, fills, local_row, word_of, place}
use Rattle.fn_core.proofs.Turns.{announces, looks, closes, heads, heads_late, fills_lo, fills_base, fills_prev, points, publishes, peeks_lo, peeks_prev, peeks_base}
use Rattle.fn_core.proofs.Members.{member_within}
use Rattle.fn_core.proofs.Known.{Brings, Replied, IsKnownBatch}
use Rattle.fn_core.proofs.Good.{KnownAs, AreKnown}
use Rattle.fn_core.proofs.Replies.{finds, first_of_batch}
use Rattle.fn_core.proofs.Contiguous.{AreAlike, contiguous_published}
use Rattle.fn_core.proofs.Whole.{Whole, climbing, knows_at, here, there, climbs_on, climbs_alike}
use Rattle.fn_core.proofs.Places.{put_at_here, put_at_there, same_place}

module _ (start : Start) (ok : IsStart start) (s : State) (w : Whole start s) (p : ℕ) (range : p < start.shape.passes) (kind : Kind) where
  -- no call climbs at level 0
  pub not_below : (s.callers p).position ≡ Climbing kind 0 → ⊥
  not_below is = let up = climbing start ok s w p kind 0 is in let l : 1 ≤ 0 = up.low in omega arith

  module _ (below : ℕ) (is : (s.callers p).position ≡ Climbing kind (suc below)) where
    abbrev index : ℕ
    index = aggregator start.shape p (suc below)

    abbrev m : ℕ
    m = member start.shape (suc below) p

    abbrev t : Traced
    t = s.rows kind (suc below) index

    abbrev inv : Inv (members start.shape (suc below) index) start.shape.rows t
    inv = w.good.inv kind (suc below) index

    abbrev within : m < members start.shape (suc below) index
    within = member_within start.shape ok.shape below p range

    abbrev Then : (ℕ → Step) → Type 0
    Then step = Whole start (local start s kind (suc below) p step)

    abbrev As : Stage → Type 0
    As g = KnownAs start s p kind below (stage start s kind below p) g

    known_batches : AreKnown start s kind (suc below) index t.linked
    known_batches = w.good.batches kind (suc below) index

    calm_at : (g : Stage) → t.stage m ≡ g → Calm t.done (t.announced m) t.linked g
    calm_at g e = subst (Calm t.done (t.announced m) t.linked) e (inv.calm m)

    leading_at : (g : Stage) → t.stage m ≡ g → Leading t t.total (IsOurs start.shape.rows t m) g
    leading_at g e = subst (Leading t t.total (IsOurs start.shape.rows t m)) e (inv.leading m)

    as_at : (g : Stage) → t.stage m ≡ g → As g
    as_at g e = knows_at start ok s w p kind below g e

    pub announce_keeps : (seen : ℕ) → t.stage m ≡ Saw seen → Then (λ i. local_step.Announce i)
    announce_keeps seen e = climbs_alike start ok s w p kind below (λ i. local_step.Announce i) (Told seen) t.total t.done t.linked (announces (members start.shape (suc below) index) start.shape.rows t inv m within seen e) is refl tt known_batches (Saw seen) e refl (record { come = refl; to = λ h x. x; from = λ h x. x }) refl

    pub look_keeps : (at : ℕ) → t.stage m ≡ Waiting at → Then (λ i. local_step.Look i)
    look_keeps at e = climbs_alike start ok s w p kind below (λ i. local_step.Look i) (looked at t.done) t.total t.done t.linked (looks (members start.shape (suc below) index) start.shape.rows t inv m within at e) is refl
        (looked_cases As at t.done (λ x. as_at (Waiting at) e) (λ x. as_at (Waiting at) e) (λ x. as_at (Waiting at) e)) known_batches (Waiting at) e refl (looked_cases (AreAlike (Waiting at)) at t.done (λ x. record { come = refl; to = λ h y. y; from = λ h y. y }) (λ x. record { come = refl; to = λ h y. y; from = λ h y. y }) (λ x. record { come = refl; to = λ h y. y; from = λ h y. y })) (looked_cases (λ x. is_out x ≡ false) at t.done (λ x. refl) (λ x. refl) (λ x. refl))

    pub close_keeps : (at : ℕ) → t.stage m ≡ Lead at → Then (λ i. local_step.Close i)
    close_keeps at e = climbs_alike start ok s w p kind below (λ i. local_step.Close i) (Shut at t.total) t.total t.done t.linked (closes (members start.shape (suc below) index) start.shape.rows t inv m within at e) is refl
        (as_at (Lead at) e, subst (IsBoundary (s.arrivals kind (suc below) index)) (sym (w.totals kind (suc below) index)) (boundary_total (s.arrivals kind (suc below) index))) known_batches (Lead at) e refl (record { come = refl; to = λ h x. absurd x; from = λ h x. absurd (false≢true x.1) }) refl

    pub head_keeps : (at hi b : ℕ) → t.stage m ≡ Based at hi b → Then (λ i. local_step.Head i)
    head_keeps at hi b e = climbs_alike start ok s w p kind below (λ i. local_step.Head i) (Headed at hi b t.last) t.total t.done t.linked (heads (members start.shape (suc below) index) start.shape.rows t inv m within at hi b e) is refl (as_at (Based at hi b) e) known_batches (Based at hi b) e refl (record { come = refl; to = λ h x. x; from = λ h x. x }) refl

    pub late_keeps : (at : ℕ) → t.stage m ≡ Late at → Then (λ i. local_step.Head i)
    late_keeps at e = climbs_alike start ok s w p kind below (λ i. local_step.Head i) (At at (t.last - 1)) t.total t.done t.linked (heads_late (members start.shape (suc below) index) start.shape.rows t inv m within at e) is refl (as_at (Late at) e) known_batches (Late at) e refl (record { come = refl; to = λ h x. x; from = λ h x. x }) refl

    pub fill_keeps : (row : ℕ) (field : Field) → MayTake start s kind (suc below) p (fills start s kind (suc below) p row field) → Then (fills start s kind (suc below) p row field)
    fill_keeps row Lo (at, hi, b, h, e, own, free, word) = climbs_alike start ok s w p kind below (fills start s kind (suc below) p row Lo) (FilledLo at hi b h (local_row start.shape (suc below) p row)) t.total t.done t.linked
        (fills_lo (members start.shape (suc below) index) start.shape.rows t inv m within at hi b h (local_row start.shape (suc below) p row) (word_of Lo (t.stage m)) e own free word) is refl (as_at (Headed at hi b h) e) known_batches (Headed at hi b h) e refl (record { come = refl; to = λ h x. x; from = λ h x. x }) refl
    fill_keeps row Base (at, hi, b, h, e, word) = climbs_alike start ok s w p kind below (fills start s kind (suc below) p row Base) (FilledBase at hi b h (local_row start.shape (suc below) p row)) t.total t.done t.linked
        (fills_base (members start.shape (suc below) index) start.shape.rows t inv m within at hi b h (local_row start.shape (suc below) p row) (word_of Base (t.stage m)) e word) is refl (as_at (FilledLo at hi b h (local_row start.shape (suc below) p row)) e) known_batches (FilledLo at hi b h (local_row start.shape (suc below) p row)) e refl (record { come = refl; to = λ h x. x; from = λ h x. x }) refl
    fill_keeps row Prev (at, hi, b, h, e, word) = climbs_alike start ok s w p kind below (fills start s kind (suc below) p row Prev) (Filled at hi b (local_row start.shape (suc below) p row)) t.total t.done t.linked
        (fills_prev (members start.shape (suc below) index) start.shape.rows t inv m within at hi b h (local_row start.shape (suc below) p row) (word_of Prev (t.stage m)) e word) is refl (as_at (FilledBase at hi b h (local_row start.shape (suc below) p row)) e) known_batches (FilledBase at hi b h (local_row start.shape (suc below) p row)) e refl (record { come = refl; to = λ h x. x; from = λ h x. x }) refl

    pub point_keeps : (at hi b r : ℕ) → t.stage m ≡ Filled at hi b r → Then (λ i. local_step.Point i)
    point_keeps at hi b r e =
        let known = as_at (Filled at hi b r) e in
        climbs_alike start ok s w p kind below (λ i. local_step.Point i) (Pointed at hi b r) t.total t.done (batch t.state at hi b r ∷ t.linked) (points (members start.shape (suc below) index) start.shape.rows t inv m within at hi b r e) is refl known
        (λ x i. ⊎_elim
        (λ new. subst (IsKnownBatch start.cap start.opening (s.arrivals kind) (history_in start s) (suc below) index) (sym new)
        (boundary_offset (s.arrivals kind (suc below) index) at known.0.0.0 known.0.0.2, boundary_within (s.arrivals kind (suc below) index) hi known.0.1, known.1))
        (λ old. known_batches x old) i) (Filled at hi b r) e refl (record { come = refl; to = λ h x. x; from = λ h x. x }) refl

    pub publish_keeps : (at hi b r : ℕ) → t.stage m ≡ Pointed at hi b r → Then (λ i. local_step.Publish i)
    publish_keeps at hi b r e =
        let known = as_at (Pointed at hi b r) e in
        let leads = leading_at (Pointed at hi b r) e in
        let turn = publishes (members start.shape (suc below) index) start.shape.rows t inv m within at hi b r e in
        let then : State = local start s kind (suc below) p (λ i. local_step.Publish i) in
        let up = climbing start ok s w p kind (suc below) is in
        climbs_on start ok s w p kind below (λ i. local_step.Publish i) (Got b 0) t.total hi t.linked turn is refl
        (first_of_batch start.cap start.opening ok.opening kind (s.arrivals kind) (w.good.orderly.formed kind) (history_in start s) below index (Brings (s.callers p).last (aggregator start.shape p below) below (stage start s kind below p)) at hi b leads.0.1 known.1 known.0.0)
        known_batches
        (contiguous_published start s then p kind below (Pointed at hi b r) (Got b 0) e (up.above (suc (suc below)) (omega arith)) (here start ok s w p kind below (λ i. local_step.Publish i) (Got b 0) t.total hi t.linked turn) (there start ok s w p kind below (λ i. local_step.Publish i) (Got b 0) t.total hi t.linked turn)
        hi refl refl (λ h x. x) (λ k b i e h. h)
        (ap (λ (x : Traced). x.done) (put_at_here s.rows kind (suc below) index (traced t (local_step.Publish m))) ∙ turn.done_is)
        (λ k l i not. elim (same_place k kind l (suc below) i index) [
          | inl place ↦ absurd (not place.0 place.1 place.2)
          | inr other ↦ ap (λ (x : Traced). x.done) (put_at_there s.rows kind (suc below) index (traced t (local_step.Publish m)) k l i other)
        ])
        w.contiguous) refl

    pub peek_lo_keeps : (at r : ℕ) → t.stage m ≡ At at r → Then (λ i. local_step.Peek i)
    peek_lo_keeps at r e = climbs_alike start ok s w p kind below (λ i. local_step.Peek i) (peeked at r (t.lo r)) t.total t.done t.linked (peeks_lo (members start.shape (suc below) index) start.shape.rows t inv m within at r e) is refl
        (peeked_cases As at r (t.lo r) (λ x. as_at (At at r) e) (λ x. as_at (At at r) e)) known_batches (At at r) e refl (peeked_cases (AreAlike (At at r)) at r (t.lo r) (λ x. record { come = refl; to = λ h y. y; from = λ h y. y }) (λ x. record { come = refl; to = λ h y. y; from = λ h y. y })) (peeked_cases (λ x. is_out x ≡ false) at r (t.lo r) (λ x. refl) (λ x. refl))

    pub peek_prev_keeps : (at r : ℕ) → t.stage m ≡ Over at r → Then (λ i. local_step.Peek i)
    peek_prev_keeps at r e = climbs_alike start ok s w p kind below (λ i. local_step.Peek i) (At at (t.prev r - 1)) t.total t.done t.linked (peeks_prev (members start.shape (suc below) index) start.shape.rows t inv m within at r e) is refl (as_at (Over at r) e) known_batches (Over at r) e refl (record { come = refl; to = λ h x. x; from = λ h x. x }) refl

    pub peek_base_keeps : (at r lo : ℕ) → t.stage m ≡ Hit at r lo → Then (λ i. local_step.Peek i)
    peek_base_keeps at r lo e =
        let c = calm_at (Hit at r lo) e in
        let known = known_batches c.0 c.1 in
        let base_is : t.base r ≡ c.0.base = ap t.base (sym c.2) ∙ (inv.standing m at c.0 (ap offset e) c.1 c.3).1 in
        let reply : after start.cap (t.base r) kind (at - lo) ≡ after start.cap c.0.base kind (at - c.0.lo) =
        ap (λ (b : ℕ). after start.cap b kind (at - lo)) base_is ∙ ap (λ (l : ℕ). after start.cap c.0.base kind (at - l)) c.5 in
        climbs_alike start ok s w p kind below (λ i. local_step.Peek i) (Got (t.base r) (at - lo)) t.total t.done t.linked (peeks_base (members start.shape (suc below) index) start.shape.rows t inv m within at r lo e) is refl
        (subst (λ (b : ℕ). Replied start.cap start.opening kind (s.arrivals kind) (history_in start s) below (Brings (s.callers p).last (aggregator start.shape p below) below (stage start s kind below p)) b) (sym reply)
        (finds start.cap start.opening ok.opening kind (s.arrivals kind) (w.good.orderly.formed kind) (history_in start s) below index (Brings (s.callers p).last (aggregator start.shape p below) below (stage start s kind below p)) c.0.lo c.0.hi c.0.base at known.0 c.4 c.3 known.2 (as_at (Hit at r lo) e)))
        known_batches (Hit at r lo) e refl (record { come = refl; to = λ h x. x; from = λ h x. x }) refl
