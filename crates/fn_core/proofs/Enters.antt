-- The steps of the main word.
use Rattle.std.proofs.Common.{◌≡◌, inl, inr, ℕ, suc, List, [], ◌∷◌, ◌++◌, cond, refl, sym, ◌∙◌, ap, subst}
use Rattle.std.proofs.lemmas.List.{append-nil}
use Rattle.fn_model.specs.declared.Call.{Call}
use Rattle.fn_model.specs.declared.Kind.{Kind}
use Rattle.fn_model.specs.Arrivals.{Arrival, Batch}
use Rattle.fn_model.specs.Calls.{same_kind}
use Rattle.fn_model.specs.Histories.{MainStep, OwnStep, BatchStep}
use Rattle.fn_model.specs.Integer.{after}
use Rattle.fn_model.specs.Order.{batches_of, end_of_batches}
use Rattle.fn_model.proofs.Arrivals.{chosen}
use Rattle.fn_model.proofs.Integer.{value-append}
use Rattle.fn_rows.specs.declared.Stage.TheVariants.{Out}
use Rattle.fn_core.specs.Tree.{aggregator}
use Rattle.fn_core.specs.State.{Start, State, history_in, stage, after_call, enters, next_call}
use Rattle.fn_core.specs.Machine.{IsStart, makes}
use Rattle.fn_core.proofs.Known.{Knows}
use Rattle.fn_core.proofs.Good.{Good, enters_keeps, spends_keeps}
use Rattle.fn_core.specs.Batches.{IsUp}
use Rattle.fn_core.proofs.Whole.{Whole, put_fits}

pub batches-push : (kind : Kind) (steps : List MainStep) (step : MainStep) → batches_of kind (steps ++ step ∷ []) ≡ batches_of kind steps ++ batches_of kind (step ∷ [])
batches-push kind [] step = refl
batches-push kind (OwnStep call ∷ steps) step = batches-push kind steps step
batches-push kind (BatchStep other index lo hi ∷ steps) step =
    ap (λ (zs : List Arrival). cond (same_kind other kind) (Batch index lo hi ∷ zs) zs) (batches-push kind steps step)
    ∙ chosen (same_kind other kind) (Batch index lo hi) (batches_of kind steps) (batches_of kind (step ∷ []))

module _ (start : Start) (ok : IsStart start) (s : State) (w : Whole start s) (p : ℕ) where
  -- a call of a pass that stands nowhere enters the main word
  module _ (kind : Kind) (amount : ℕ) (out : (k : Kind) (l : ℕ) → stage start s k l p ≡ Out) where
    abbrev call : Call
    call = next_call s p kind amount

    abbrev entered : State
    entered = enters start s kind amount (OwnStep call)

    good_entered : Good start entered
    good_entered = enters_keeps start ok.shape s w.good kind amount (OwnStep call) tt tt
        (value-append start.cap start.opening (history_in start s) (call ∷ []) ∙ ap (λ (v : ℕ). after start.cap v kind amount) (sym w.good.main))

    own_batches : (k : Kind) → batches_of k (s.steps ++ OwnStep call ∷ []) ≡ batches_of k s.steps
    own_batches k = batches-push k s.steps (OwnStep call) ∙ append-nil (batches_of k s.steps)

    up_same : (k : Kind) (b i e : ℕ) → IsUp start s k (suc b) i e → IsUp start (makes start s p kind amount) k (suc b) i e
    up_same k b i e is = ((λ top. ap (end_of_batches i 0) (own_batches k) ∙ is.0 top), is.1)

    pub makes_keeps : Whole start (makes start s p kind amount)
    makes_keeps = record {
      good = spends_keeps start ok.shape entered good_entered p call (λ k. subst (Knows start.cap start.opening k (s.arrivals k) (history_in start entered) 0 (aggregator start.shape p 1) (λ a. ⊥)) (sym (out k 1)) tt);
      fits = put_fits start s s.callers p (after_call (s.callers p) call) (λ q ne. w.fits q) (w.fits p);
      totals = w.totals;
      contiguous = record {
        gone = λ q k b hi is. up_same k b (aggregator start.shape q (suc b)) hi (w.contiguous.gone q k b hi is);
        back = λ k b i. elim (w.contiguous.back k b i) [
          | inl is ↦ inl (up_same k b i (s.rows k (suc b) i).done is)
          | inr h ↦ inr h
        ];
      };
    }
