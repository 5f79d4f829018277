-- Scans, and the steps by which a call begins, goes up, and ends.
use Rattle.std.proofs.Common.{◌≡◌, ◌≢◌, inl, inr, ℕ, zero, suc, ◌<◌, refl, sym, ◌∙◌, ap, subst, arith, false}
use Rattle.std.proofs.lemmas.Bool.{cases_eq}
use Rattle.fn_model.specs.declared.Kind.{Kind}
use Rattle.fn_rows.specs.declared.Stage.{Stage}
use Rattle.fn_rows.specs.declared.Stage.TheVariants.{Out, Saw, Got}
use Rattle.fn_rows.specs.Machine.{Step}
use Rattle.fn_rows.specs.Machine as local_step
use Rattle.fn_rows.specs.Trace.{Traced}
use Rattle.fn_core.specs.declared.Move.TheVariants.{Scan}
use Rattle.fn_core.specs.Tree.{aggregator, member, members}
use Rattle.fn_core.specs.State.{Start, Resting, Climbing, State, stage, local, goes_to}
use Rattle.fn_core.specs.Machine.{IsStart, May, MaySee, Climbs, leaves}
use Rattle.fn_core.proofs.Turns.{scans, sees, goes_out}
use Rattle.fn_core.proofs.Members.{member_within, member_apart}
use Rattle.fn_core.proofs.Places.{kind_cases}
use Rattle.fn_core.proofs.Good.{local_keeps}
use Rattle.fn_core.proofs.Contiguous.{contiguous_bottom}
use Rattle.fn_core.specs.Positions.{is_out, IsClimbing}
use Rattle.fn_core.proofs.Positions.{fits_same, climbing_begins, climbing_up, climbing_ends}
use Rattle.fn_core.proofs.Whole.{Whole, stages_of, FitsAt, climbing, here, there, others_fit, quiet_totals, quiet_done, alike, local_goes}

module _ (start : Start) (ok : IsStart start) (s : State) (w : Whole start s) (p : ℕ) (range : p < start.shape.passes) where
  -- a pass that makes no call stands nowhere
  pub rests_out : (s.callers p).position ≡ Resting → (k : Kind) (l : ℕ) → stage start s k l p ≡ Out
  rests_out is = subst (FitsAt start s p) is (w.fits p)

  pub scan_keeps : (kind : Kind) (level other : ℕ) → May start s p (Scan kind level other) → Whole start (local start s kind level p (λ m. local_step.Scan m (member start.shape level other)))
  scan_keeps kind zero other may = absurd (omega (arith, may.2))
  scan_keeps kind (suc below) other may =
      let index : ℕ = aggregator start.shape p (suc below) in
      let m : ℕ = member start.shape (suc below) p in
      let t : Traced = s.rows kind (suc below) index in
      let out = rests_out may.0 in
      let n : ℕ = member start.shape (suc below) other in
      let lt : n < members start.shape (suc below) index = subst (λ (i : ℕ). n < members start.shape (suc below) i) may.6 (member_within start.shape ok.shape below other may.4) in
      let ne : n ≢ m = λ e. may.5 (member_apart start.shape ok.shape below other p may.6 e) in
      let step : ℕ → Step = λ i. local_step.Scan i n in
      let then : State = local start s kind (suc below) p step in
      let turn = scans (members start.shape (suc below) index) start.shape.rows t (w.good.inv kind (suc below) index) m (member_within start.shape ok.shape below p range) n lt ne (out kind (suc below)) in
      let here' : stage start then kind (suc below) p ≡ Out = here start ok s w p kind below step Out t.total t.done t.linked turn in
      let there' = there start ok s w p kind below step Out t.total t.done t.linked turn in
      let same : (k : Kind) (l : ℕ) → stage start then k l p ≡ stage start s k l p = λ k l. elim (kind_cases k kind) [
        | inr a ↦ there' k l p (λ x y z. a x)
        | inl a ↦ elim (cases_eq l (suc below)) [
          | inr b ↦ there' k l p (λ x y z. b y)
          | inl b ↦ ap (λ (x : Kind). stage start then x l p) a ∙ ap (λ (x : ℕ). stage start then kind x p) b ∙ here' ∙ sym (out k l)
        ]
      ] in
      record {
        good = local_keeps start ok.shape s w.good p kind below step Out t.total t.done t.linked turn (out kind (suc (suc below))) tt (w.good.batches kind (suc below) index);
        fits = λ q. elim (cases_eq q p) [
          | inr other_pass ↦ others_fit start ok s w p kind below step Out t.total t.done t.linked turn q other_pass
          | inl is ↦ subst (λ (i : ℕ). FitsAt start then i (s.callers i).position) (sym is) (fits_same start.shape.levels (stages_of start s p) (stages_of start then p) (s.callers p).position same (w.fits p))
        ];
        totals = quiet_totals start ok s w p kind below step Out t.total t.done t.linked turn refl;
        contiguous = alike start ok s w p kind below step Out t.total t.done t.linked turn (out kind (suc (suc below))) Out (out kind (suc below)) refl (record { come = refl; to = λ h x. x; from = λ h x. x });
      }

  -- a call looks at `done` where it stands nowhere yet, and climbs there from now on
  see_at : (kind : Kind) (below : ℕ) → stage start s kind (suc below) p ≡ Out → stage start s kind (suc (suc below)) p ≡ Out
      → ((new : Kind → ℕ → Stage) → ((k : Kind) (l : ℕ) → (k ≡ kind → l ≡ suc below → ⊥) → new k l ≡ stage start s k l p) → is_out (new kind (suc below)) ≡ false → IsClimbing start.shape.levels new kind (suc below)) → Whole start (goes_to (local start s kind (suc below) p (λ m. local_step.See m)) p (Climbing kind (suc below)))
  see_at kind below out upper fit =
      let index : ℕ = aggregator start.shape p (suc below) in
      let t : Traced = s.rows kind (suc below) index in
      let step : ℕ → Step = λ i. local_step.See i in
      let turn = sees (members start.shape (suc below) index) start.shape.rows t (w.good.inv kind (suc below) index) (member start.shape (suc below) p) (member_within start.shape ok.shape below p range) out in
      local_goes start ok s w p kind below step (Saw t.done) t.total t.done t.linked turn (Climbing kind (suc below)) upper refl tt (w.good.batches kind (suc below) index)
      (alike start ok s w p kind below step (Saw t.done) t.total t.done t.linked turn upper Out out refl (record { come = refl; to = λ h x. x; from = λ h x. x }))
      (fit (stages_of start (local start s kind (suc below) p step) p) (λ k l not. there start ok s w p kind below step (Saw t.done) t.total t.done t.linked turn k l p (λ x y z. not x y)) (ap is_out (here start ok s w p kind below step (Saw t.done) t.total t.done t.linked turn)))

  pub see_keeps : (kind : Kind) (level : ℕ) → MaySee start s p kind level → Whole start (goes_to (local start s kind level p (λ m. local_step.See m)) p (Climbing kind level))
  see_keeps kind zero may = absurd may
  see_keeps kind (suc zero) may =
      let out = rests_out may.0 in
      see_at kind 0 (out kind 1) (out kind 2) (λ new same stands. climbing_begins start.shape.levels (stages_of start s p) new kind ok.shape.levels same out stands may.1)
  see_keeps kind (suc (suc below)) may =
      let up = climbing start ok s w p kind (suc below) may.0 in
      see_at kind (suc below) (up.above (suc (suc below)) (omega arith)) (up.above (suc (suc (suc below))) (omega arith)) (λ new same stands. climbing_up start.shape.levels (stages_of start s p) new kind (suc below) may.2 same may.1.0 may.1.1 may.1.2 stands up)

  -- a call ends
  pub end_keeps : (kind : Kind) → Climbs start s p kind 1 (λ m. local_step.Leave m) → Whole start (leaves start s p kind 1)
  end_keeps kind may =
      let index : ℕ = aggregator start.shape p 1 in
      let t : Traced = s.rows kind 1 index in
      let step : ℕ → Step = λ i. local_step.Leave i in
      let up = climbing start ok s w p kind 1 may.0 in
      let b : ℕ = may.1.0 in
      let ahead : ℕ = may.1.1 in
      let turn = goes_out (members start.shape 1 index) start.shape.rows t (w.good.inv kind 1 index) (member start.shape 1 p) (member_within start.shape ok.shape 0 p range) b ahead may.1.2 in
      let then : State = local start s kind 1 p step in
      let there' = there start ok s w p kind 0 step Out t.total t.done t.linked turn in
      let here' = here start ok s w p kind 0 step Out t.total t.done t.linked turn in
      local_goes start ok s w p kind 0 step Out t.total t.done t.linked turn Resting (up.above 2 (omega arith)) refl tt (w.good.batches kind 1 index)
      (contiguous_bottom start s then p kind 0 (Got b ahead) Out may.1.2 (up.above 2 (omega arith)) here' there' refl (λ h x. x) (λ h x. x) (λ k b i e h. h) (quiet_done start ok s w p kind 0 step Out t.total t.done t.linked turn refl) w.contiguous)
      (climbing_ends start.shape.levels (stages_of start s p) (stages_of start then p) kind (λ k l not. there' k l p (λ x y z. not x y)) here' up)
