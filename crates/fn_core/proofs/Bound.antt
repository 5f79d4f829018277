-- Each own step of a call leaves fewer, but for looks below its offset and tries that lose.
use Rattle.std.proofs.Common.{◌≡◌, ◌⊎◌, inl, inr, ℕ, suc, ◌+◌, ◌-◌, ◌<◌, ◌≤◌, [], ◌∷◌, length, refl, ◌∙◌, ap, arith}
use Rattle.fn_rows.specs.declared.Stage.{Stage}
use Rattle.fn_rows.specs.declared.Stage.TheVariants.{Saw, Told, Waiting, Lead, Late, Shut, Based, Headed, FilledLo, FilledBase, Filled, Pointed, At, Over, Hit, Got}
use Rattle.fn_rows.specs.declared.Field.{Field}
use Rattle.fn_rows.specs.declared.Field.TheVariants.{Lo, Base, Prev}
use Rattle.fn_rows.specs.Machine.{Guard, looked, peeked}
use Rattle.fn_rows.specs.Machine as local_step
use Rattle.fn_rows.specs.Trace.{Traced, traced, head_noted, peek_noted}
use Rattle.fn_rows.proofs.Invariant.{Inv}
use Rattle.fn_rows.proofs.Put.{put_here}
use Rattle.fn_rows.proofs.Steps.{looked_cases, peeked_cases}
use Rattle.fn_core.specs.Bound.{rank, to_climb}
use Rattle.fn_core.proofs.Turns.{announces, comes, looks, closes, hands, heads, heads_late, fills_lo, fills_base, fills_prev, points, publishes, peeks_lo, peeks_prev, peeks_base}

module _ (members rows : ℕ) (t : Traced) (inv : Inv members rows t) (m : ℕ) (range : m < members) (n cost : ℕ) where
  -- what a member has left at its aggregator
  abbrev left : Traced → ℕ
  left s = rank n (length (s.walk m)) (s.stage m) + to_climb cost (s.stage m)

  abbrev at_stage : Traced → Stage → ℕ
  at_stage s g = rank n (length (s.walk m)) g + to_climb cost g

  left_is : (s : Traced) (g : Stage) → s.stage m ≡ g → left s ≡ at_stage s g
  left_is s g e = ap (at_stage s) e

  pub announce_drops : Guard members rows t.state (local_step.Announce m) → left (traced t (local_step.Announce m)) < left t
  announce_drops (seen, e) = omega (arith, left_is (traced t (local_step.Announce m)) (Told seen) (announces members rows t inv m range seen e).here, left_is t (Saw seen) e)

  pub arrive_drops : (weight : ℕ) → Guard members rows t.state (local_step.Arrive m weight) → left (traced t (local_step.Arrive m weight)) < left t
  arrive_drops weight (seen, e, some) = omega (arith, left_is (traced t (local_step.Arrive m weight)) (Waiting t.total) (comes members rows t inv m range seen weight e some).here, left_is t (Told seen) e)

  pub look_drops : Guard members rows t.state (local_step.Look m) → (left (traced t (local_step.Look m)) < left t) ⊎ ((at : ℕ) × ((traced t (local_step.Look m)).stage m ≡ Waiting at))
  look_drops (at, e) =
      let next : Traced = traced t (local_step.Look m) in
      let here : next.stage m ≡ looked at t.done = (looks members rows t inv m range at e).here in
      looked_cases (λ x. next.stage m ≡ x → (left next < left t) ⊎ ((at : ℕ) × (next.stage m ≡ Waiting at))) at t.done
      (λ below is. inr (at, is))
      (λ equal is. inl (omega (arith, left_is next (Lead at) is, left_is t (Waiting at) e)))
      (λ above is. inl (omega (arith, left_is next (Late at) is, left_is t (Waiting at) e)))
      here

  pub close_drops : Guard members rows t.state (local_step.Close m) → left (traced t (local_step.Close m)) < left t
  close_drops (at, e) = omega (arith, left_is (traced t (local_step.Close m)) (Shut at t.total) (closes members rows t inv m range at e).here, left_is t (Lead at) e)

  pub head_drops : length ((traced t (local_step.Head m)).walk m) ≤ n → Guard members rows t.state (local_step.Head m) → left (traced t (local_step.Head m)) < left t
  head_drops short (inl (at, hi, b, e)) = omega (arith, left_is (traced t (local_step.Head m)) (Headed at hi b t.last) (heads members rows t inv m range at hi b e).here, left_is t (Based at hi b) e)
  head_drops short (inr (at, e)) =
      let next : Traced = traced t (local_step.Head m) in
      let walk : length (next.walk m) ≡ 1 = ap (λ (g : Stage). length ((head_noted t.state t.books m g).walk m)) e ∙ ap length (put_here t.walk m ((t.last - 1) ∷ []) m refl) in
      omega (arith, left_is next (At at (t.last - 1)) (heads_late members rows t inv m range at e).here, left_is t (Late at) e)

  pub fill_drops : (r : ℕ) (field : Field) (word : ℕ) → Guard members rows t.state (local_step.Fill m r field word) → left (traced t (local_step.Fill m r field word)) < left t
  fill_drops r Lo word (at, hi, b, h, e, own, free, same) = omega (arith, left_is (traced t (local_step.Fill m r Lo word)) (FilledLo at hi b h r) (fills_lo members rows t inv m range at hi b h r word e own free same).here, left_is t (Headed at hi b h) e)
  fill_drops r Base word (at, hi, b, h, e, same) = omega (arith, left_is (traced t (local_step.Fill m r Base word)) (FilledBase at hi b h r) (fills_base members rows t inv m range at hi b h r word e same).here, left_is t (FilledLo at hi b h r) e)
  fill_drops r Prev word (at, hi, b, h, e, same) = omega (arith, left_is (traced t (local_step.Fill m r Prev word)) (Filled at hi b r) (fills_prev members rows t inv m range at hi b h r word e same).here, left_is t (FilledBase at hi b h r) e)

  pub point_drops : Guard members rows t.state (local_step.Point m) → left (traced t (local_step.Point m)) < left t
  point_drops (at, hi, b, r, e) = omega (arith, left_is (traced t (local_step.Point m)) (Pointed at hi b r) (points members rows t inv m range at hi b r e).here, left_is t (Filled at hi b r) e)

  pub publish_drops : Guard members rows t.state (local_step.Publish m) → left (traced t (local_step.Publish m)) < left t
  publish_drops (at, hi, b, r, e) = omega (arith, left_is (traced t (local_step.Publish m)) (Got b 0) (publishes members rows t inv m range at hi b r e).here, left_is t (Pointed at hi b r) e)

  pub peek_drops : length ((traced t (local_step.Peek m)).walk m) ≤ n → Guard members rows t.state (local_step.Peek m) → left (traced t (local_step.Peek m)) < left t
  peek_drops short (inl (at, r, e)) =
      let next : Traced = traced t (local_step.Peek m) in
      let walk : length (next.walk m) ≡ length (t.walk m) = ap (λ (g : Stage). length ((peek_noted t.state t.books m g).walk m)) e in
      peeked_cases (λ x. next.stage m ≡ x → left next < left t) at r (t.lo r)
      (λ hit is. omega (arith, left_is next (Hit at r (t.lo r)) is, left_is t (At at r) e))
      (λ over is. omega (arith, left_is next (Over at r) is, left_is t (At at r) e, walk))
      (peeks_lo members rows t inv m range at r e).here
  peek_drops short (inr (inl (at, r, e))) =
      let next : Traced = traced t (local_step.Peek m) in
      let walk : length (next.walk m) ≡ suc (length (t.walk m)) = ap (λ (g : Stage). length ((peek_noted t.state t.books m g).walk m)) e ∙ ap length (put_here t.walk m ((t.prev r - 1) ∷ t.walk m) m refl) in
      omega (arith, left_is next (At at (t.prev r - 1)) (peeks_prev members rows t inv m range at r e).here, left_is t (Over at r) e, walk, short)
  peek_drops short (inr (inr (at, r, lo, e))) = omega (arith, left_is (traced t (local_step.Peek m)) (Got (t.base r) (at - lo)) (peeks_base members rows t inv m range at r lo e).here, left_is t (Hit at r lo) e)

  pub hand_drops : (b : ℕ) → Guard members rows t.state (local_step.Hand_base m b) → left (traced t (local_step.Hand_base m b)) + 1 < left t
  hand_drops b (at, hi, e) = omega (arith, left_is (traced t (local_step.Hand_base m b)) (Based at hi b) (hands members rows t inv m range at hi b e).here, left_is t (Shut at hi) e)

-- a member that gets its base
pub hand_stage : (members rows : ℕ) (t : Traced) (inv : Inv members rows t) (m : ℕ) (range : m < members) (b : ℕ) → Guard members rows t.state (local_step.Hand_base m b) → (at hi : ℕ) × ((traced t (local_step.Hand_base m b)).stage m ≡ Based at hi b)
hand_stage members rows t inv m range b (at, hi, e) = (at, hi, (hands members rows t inv m range at hi b e).here)
