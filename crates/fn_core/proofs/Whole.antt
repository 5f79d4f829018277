-- What holds in each state of the machine: the calls are known, positions fit the stages, and totals are those of the arrivals.
use Rattle.std.proofs.Common.{ap, ◌≡◌, ◌≢◌, inl, inr, ℕ, suc, List, refl, sym, ◌∙◌, subst, arith, false}
use Rattle.std.proofs.lemmas.Bool.{cases_eq}
use Rattle.fn_model.specs.declared.Kind.{Kind}
use Rattle.fn_model.specs.Arrivals.{total}
use Rattle.fn_rows.specs.declared.Stage.{Stage}
use Rattle.fn_rows.specs.declared.Stage.TheVariants.{Out}
use Rattle.fn_rows.specs.Machine.{Step, put}
use Rattle.fn_rows.specs.Trace as trace
use Rattle.fn_rows.specs.Trace.{Traced, traced}
use Rattle.fn_rows.proofs.Put.{put_case}
use Rattle.fn_core.specs.Tree.{aggregator, member, members}
use Rattle.fn_core.specs.State.{Start, Position, Climbing, Caller, State, stage, local, goes_to}
use Rattle.fn_core.specs.Machine.{IsStart}
use Rattle.fn_core.proofs.Turns.{Turn}
use Rattle.fn_core.proofs.Places.{put_at_case}
use Rattle.fn_core.proofs.Good.{Good, KnownAs, AreKnown, known_as, local_stage, local_other, local_keeps, goes_keeps}
use Rattle.fn_core.specs.Batches.{IsContiguous}
use Rattle.fn_core.proofs.Contiguous.{AreAlike, contiguous_alike}
use Rattle.fn_core.specs.Positions.{is_out, IsClimbing, Fits}
use Rattle.fn_core.proofs.Positions.{fits_same, climbing_here}

-- where a pass stands
abbrev pub stages_of : Start → State → ℕ → Kind → ℕ → Stage
stages_of start s p = λ kind level. stage start s kind level p

-- the pass's stages go with this position
abbrev pub FitsAt : Start → State → ℕ → Position → Type 0
FitsAt start s p position = Fits start.shape.levels (stages_of start s p) position

pub record Whole (start : Start) (s : State) : Type 0 where
  pub good : Good start s
  pub fits : (p : ℕ) → FitsAt start s p (s.callers p).position
  pub totals : (kind : Kind) (level index : ℕ) → (s.rows kind level index).total ≡ total (s.arrivals kind level index)
  pub contiguous : IsContiguous start s

-- one caller changed
pub put_fits : (start : Start) (s : State) (callers : ℕ → Caller) (p : ℕ) (c : Caller) → ((q : ℕ) → q ≢ p → FitsAt start s q (callers q).position) → FitsAt start s p c.position → (q : ℕ) → FitsAt start s q (put callers p c q).position
put_fits start s callers p c others own q = put_case (λ (x : Caller). FitsAt start s q x.position) callers p c q (λ is. subst (λ (i : ℕ). FitsAt start s i c.position) (sym is) own) (λ other. others q other)

module _ (start : Start) (ok : IsStart start) (s : State) (w : Whole start s) where
  -- a pass that climbs
  pub climbing : (p : ℕ) (kind : Kind) (level : ℕ) → (s.callers p).position ≡ Climbing kind level → IsClimbing start.shape.levels (stages_of start s p) kind level
  climbing p kind level is = subst (FitsAt start s p) is (w.fits p)

  -- what is known at a stage
  pub knows_at : (p : ℕ) (kind : Kind) (below : ℕ) (g : Stage) → stage start s kind (suc below) p ≡ g → KnownAs start s p kind below (stage start s kind below p) g
  knows_at p kind below g is = known_as start s p kind below (stage start s kind below p) (stage start s kind below p) (stage start s kind (suc below) p) g refl (sym is) (w.good.known p kind below)

  module _ (p : ℕ) (kind : Kind) (below : ℕ) (step : ℕ → Step) (g : Stage) (all done : ℕ) (linked : List trace.Batch) where
    abbrev index : ℕ
    index = aggregator start.shape p (suc below)

    abbrev number : ℕ
    number = member start.shape (suc below) p

    abbrev old : Traced
    old = s.rows kind (suc below) index

    abbrev then : State
    then = local start s kind (suc below) p step

    module _ (turn : Turn (members start.shape (suc below) index) start.shape.rows old (traced old (step number)) number g all done linked) where
      pub here : stage start then kind (suc below) p ≡ g
      here = local_stage start ok.shape s w.good p kind below step g all done linked turn

      pub there : (k : Kind) (l q : ℕ) → (k ≡ kind → l ≡ suc below → q ≡ p → ⊥) → stage start then k l q ≡ stage start s k l q
      there = local_other start ok.shape s w.good p kind below step g all done linked turn

      -- other passes stand where they stood
      pub others_fit : (q : ℕ) → q ≢ p → FitsAt start then q (s.callers q).position
      others_fit q ne = fits_same start.shape.levels (stages_of start s q) (stages_of start then q) (s.callers q).position (λ k l. there k l q (λ x y z. ne z)) (w.fits q)

      -- so do totals where nothing arrives
      pub quiet_totals : all ≡ old.total → (k : Kind) (l i : ℕ) → (then.rows k l i).total ≡ total (s.arrivals k l i)
      quiet_totals same = λ k l i. put_at_case (λ k l i t. t.total ≡ total (s.arrivals k l i)) s.rows kind (suc below) index (traced old (step number)) (turn.total_is ∙ same ∙ w.totals kind (suc below) index) k l i (w.totals k l i)

      -- `done` is as it was where the step leaves it
      pub quiet_done : done ≡ old.done → (k : Kind) (l i : ℕ) → (then.rows k l i).done ≡ (s.rows k l i).done
      quiet_done same = λ k l i. put_at_case (λ k l i t. t.done ≡ (s.rows k l i).done) s.rows kind (suc below) index (traced old (step number)) (turn.done_is ∙ same) k l i refl

      pub alike : stage start s kind (suc (suc below)) p ≡ Out → (was : Stage) → stage start s kind (suc below) p ≡ was → done ≡ old.done → AreAlike was g → IsContiguous start then
      alike upper was e same like = contiguous_alike start s then p kind below was g e upper here there like (λ k b i e h. h) (quiet_done same) w.contiguous

      -- the pass's call goes on at its level
      pub climbs_on : (s.callers p).position ≡ Climbing kind (suc below) → all ≡ old.total → KnownAs start s p kind below (stage start s kind below p) g → AreKnown start s kind (suc below) index linked → IsContiguous start then → is_out g ≡ false → Whole start then
      climbs_on is same knows fresh contiguous stands =
          let up = climbing p kind (suc below) is in
          record {
            good = local_keeps start ok.shape s w.good p kind below step g all done linked turn (up.above (suc (suc below)) (omega arith)) knows fresh;
            fits = λ q. elim (cases_eq q p) [
              | inr ne ↦ others_fit q ne
              | inl same_pass ↦ subst (λ (i : ℕ). FitsAt start then i (s.callers i).position) (sym same_pass)
                  (subst (FitsAt start then p) (sym is) (climbing_here start.shape.levels (stages_of start s p) (stages_of start then p) kind (suc below) (λ k l not. there k l p (λ x y z. not x y)) (ap is_out here ∙ stands) up))
            ];
            totals = quiet_totals same;
            contiguous = contiguous;
          }

      pub climbs_alike : (s.callers p).position ≡ Climbing kind (suc below) → all ≡ old.total → KnownAs start s p kind below (stage start s kind below p) g → AreKnown start s kind (suc below) index linked → (was : Stage) → stage start s kind (suc below) p ≡ was → done ≡ old.done → AreAlike was g → is_out g ≡ false → Whole start then
      climbs_alike is same knows fresh was e same_done like stands =
          let up = climbing p kind (suc below) is in
          climbs_on is same knows fresh (alike (up.above (suc (suc below)) (omega arith)) was e same_done like) stands

      -- the pass goes on to another position
      pub local_goes : (position : Position) → stage start s kind (suc (suc below)) p ≡ Out → all ≡ old.total → KnownAs start s p kind below (stage start s kind below p) g → AreKnown start s kind (suc below) index linked → IsContiguous start then → FitsAt start then p position → Whole start (goes_to then p position)
      local_goes position upper same knows fresh contiguous fit = record {
        good = goes_keeps start ok.shape then (local_keeps start ok.shape s w.good p kind below step g all done linked turn upper knows fresh) p position;
        fits = put_fits start then s.callers p (record (s.callers p) { position = position }) others_fit fit;
        totals = quiet_totals same;
        contiguous = record { gone = contiguous.gone; back = contiguous.back };
      }

  -- only the position changes
  pub goes_whole : (p : ℕ) (position : Position) → FitsAt start s p position → Whole start (goes_to s p position)
  goes_whole p position fit = record {
    good = goes_keeps start ok.shape s w.good p position;
    fits = put_fits start s s.callers p (record (s.callers p) { position = position }) (λ q ne. w.fits q) fit;
    totals = w.totals;
    contiguous = record { gone = w.contiguous.gone; back = w.contiguous.back };
  }
