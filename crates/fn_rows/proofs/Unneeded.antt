-- Who doesn't need a row doesn't until the row is published again.
use Rattle.std.proofs.Common.{◌≡◌, ◌⊎◌, inl, inr, ℕ, ◌-◌, List, [], ◌∷◌, refl, sym, ◌∙◌, ap, subst, arith}
use Rattle.std.specs.Prelude.{Some, None}
use Rattle.fn_rows.specs.Machine.{Stage, Out, Saw, Told, Waiting, Lead, Late, Shut, Based, Headed, FilledLo, FilledBase, Filled, Pointed, At, Over, Hit, Got, offset, Field, Lo, Base, Prev, State, Step, Scan, See, Announce, Arrive, Look, Close, Hand_base, Head, Fill, Point, Publish, Peek, Leave, put, after, announce_by, look_by, close_by, hand_by, head_by, filled, fill_by, point_by, publish_by, peek_by, AllAllowed}
use Rattle.fn_rows.specs.Trace.{Traced, traced, run}
use Rattle.fn_rows.specs.Law.{HasArrived, Publishes, NonePublishes}
use Rattle.fn_rows.proofs.Put.{put_case, put_there}
use Rattle.fn_rows.proofs.Invariant.{IsUnneededBy, Inv}
use Rattle.fn_rows.proofs.Moves.{end_done}
use Rattle.fn_rows.proofs.Steps.{looked_cases, peeked_cases, keeps}

module _ (s : Traced) (r : ℕ) where
  -- an offset is kept or given out anew
  abbrev From : ℕ → ℕ → Type 0
  From q at = HasArrived s.state q at ⊎ (s.total ≡ at)

  -- each offset is kept or given out anew, and the row's end is as it was
  abbrev Still : State → Type 0
  Still new = ((q at : ℕ) → HasArrived new q at → From q at) × (new.end r ≡ s.end r)

  from_move : (m : ℕ) (g : Stage) → ((at : ℕ) → offset g ≡ Some at → From m at) → (q at : ℕ) → offset (put s.stage m g q) ≡ Some at → From q at
  from_move m g new q at h = put_case (λ x. offset x ≡ Some at → From q at) s.stage m g q (λ same o. subst (λ i. From i at) (sym same) (new at o)) (λ other o. inl o) h

  from_same : (m : ℕ) (old g : Stage) → s.stage m ≡ old → offset g ≡ offset old → (q at : ℕ) → offset (put s.stage m g q) ≡ Some at → From q at
  from_same m old g is same = from_move m g (λ at o. inl (ap offset is ∙ sym same ∙ o))

  from_none : (m : ℕ) (g : Stage) → offset g ≡ None → (q at : ℕ) → offset (put s.stage m g q) ≡ Some at → From q at
  from_none m g none = from_move m g (λ at o. absurd (cc (none, o)))

  still : Still s.state
  still = (λ q at h. inl h, refl)

  announce_still : (m : ℕ) (g : Stage) → Still (announce_by s.state m g)
  announce_still m (Saw seen) = (from_none m (Told seen) refl, refl)
  announce_still m _ = still

  look_still : (m : ℕ) (g : Stage) → s.stage m ≡ g → Still (look_by s.state m g)
  look_still m (Waiting a) is = (
    λ q at. looked_cases (λ g. offset (put s.stage m g q) ≡ Some at → From q at) a s.done
        (λ below. from_same m (Waiting a) (Waiting a) is refl q at)
        (λ equal. from_same m (Waiting a) (Lead a) is refl q at)
        (λ above. from_same m (Waiting a) (Late a) is refl q at),
    refl,
  )
  look_still m _ is = still

  close_still : (m : ℕ) (g : Stage) → s.stage m ≡ g → Still (close_by s.state m g)
  close_still m (Lead a) is = (from_same m (Lead a) (Shut a s.total) is refl, refl)
  close_still m _ is = still

  hand_still : (m b : ℕ) (g : Stage) → s.stage m ≡ g → Still (hand_by s.state m b g)
  hand_still m b (Shut a hi) is = (from_same m (Shut a hi) (Based a hi b) is refl, refl)
  hand_still m b _ is = still

  head_still : (m : ℕ) (g : Stage) → s.stage m ≡ g → Still (head_by s.state m g)
  head_still m (Based a hi b) is = (from_same m (Based a hi b) (Headed a hi b s.last) is refl, refl)
  head_still m (Late a) is = (from_same m (Late a) (At a (s.last - 1)) is refl, refl)
  head_still m _ is = still

  filled_offset : (row : ℕ) (g : Stage) → offset (filled row g) ≡ offset g
  filled_offset row (Headed a hi b h) = refl
  filled_offset row (FilledLo a hi b h x) = refl
  filled_offset row (FilledBase a hi b h x) = refl
  filled_offset row _ = refl

  fill_still : (m row : ℕ) (field : Field) (word : ℕ) → Still (fill_by s.state m row field word (s.stage m))
  fill_still m row Lo word = (from_same m (s.stage m) (filled row (s.stage m)) refl (filled_offset row (s.stage m)), refl)
  fill_still m row Base word = (from_same m (s.stage m) (filled row (s.stage m)) refl (filled_offset row (s.stage m)), refl)
  fill_still m row Prev word = (from_same m (s.stage m) (filled row (s.stage m)) refl (filled_offset row (s.stage m)), refl)

  point_still : (m : ℕ) (g : Stage) → s.stage m ≡ g → Still (point_by s.state m g)
  point_still m (Filled a hi b x) is = (from_same m (Filled a hi b x) (Pointed a hi b x) is refl, refl)
  point_still m _ is = still

  publish_still : (m : ℕ) (g : Stage) → s.stage m ≡ g → (Publishes s.state r (Publish m) → ⊥) → Still (publish_by s.state m g)
  publish_still m (Pointed a hi b x) is not = (from_none m (Got b 0) refl, put_there s.end x hi r (λ same. not (m, a, hi, b, refl, is ∙ ap (λ row. Pointed a hi b row) (sym same))))
  publish_still m _ is not = still

  peek_still : (m : ℕ) (g : Stage) → s.stage m ≡ g → Still (peek_by s.state m g)
  peek_still m (At a x) is = (
    λ q at. peeked_cases (λ g. offset (put s.stage m g q) ≡ Some at → From q at) a x (s.lo x)
        (λ hit. from_same m (At a x) (Hit a x (s.lo x)) is refl q at)
        (λ over. from_same m (At a x) (Over a x) is refl q at),
    refl,
  )
  peek_still m (Over a x) is = (from_same m (Over a x) (At a (s.prev x - 1)) is refl, refl)
  peek_still m (Hit a x l) is = (from_none m (Got (s.base x) (a - l)) refl, refl)
  peek_still m _ is = still

  step_still : (step : Step) → (Publishes s.state r step → ⊥) → Still (after s.state step)
  step_still (Scan m other) not = still
  step_still (See m) not = (from_none m (Saw s.done) refl, refl)
  step_still (Announce m) not = announce_still m (s.stage m)
  step_still (Arrive m weight) not = (from_move m (Waiting s.total) (λ at o. inr (cc (o))), refl)
  step_still (Look m) not = look_still m (s.stage m) refl
  step_still (Close m) not = close_still m (s.stage m) refl
  step_still (Hand_base m b) not = hand_still m b (s.stage m) refl
  step_still (Head m) not = head_still m (s.stage m) refl
  step_still (Fill m row field word) not = fill_still m row field word
  step_still (Point m) not = point_still m (s.stage m) refl
  step_still (Publish m) not = publish_still m (s.stage m) refl not
  step_still (Peek m) not = peek_still m (s.stage m) refl
  step_still (Leave m) not = (from_none m Out refl, refl)

  -- who doesn't need a row doesn't after a step that doesn't publish it
  pub unneeded_after : (members rows : ℕ) → Inv members rows s → (step : Step) (q : ℕ) → (Publishes s.state r step → ⊥) → IsUnneededBy s q r → IsUnneededBy (traced s step) q r
  unneeded_after members rows inv step q not unneeded at h =
      let kept = step_still step not in
      elim (kept.0 q at h) [
        | inl old ↦ omega (arith, kept.1, unneeded at old)
        | inr new ↦ omega (arith, kept.1, new, end_done members rows s inv r, inv.done_total)
      ]

-- nor after any steps of which none publishes it
pub unneeded_until : (members rows : ℕ) (steps : List Step) (s : Traced) (q r : ℕ) → Inv members rows s → AllAllowed members rows steps s.state → NonePublishes r steps s.state → IsUnneededBy s q r → IsUnneededBy (run steps s) q r
unneeded_until members rows [] s q r inv a none unneeded = unneeded
unneeded_until members rows (step ∷ steps) s q r inv a none unneeded =
    unneeded_until members rows steps (traced s step) q r (keeps members rows s inv step a.0) a.1 none.1 (unneeded_after s r members rows inv step q none.0 unneeded)
