-- A batch enters the main word.
use Rattle.std.proofs.Common.{◌≡◌, ◌≢◌, ◌⊎◌, inl, inr, ℕ, suc, ◌+◌, ◌-◌, ◌<◌, List, [], ◌∷◌, ◌++◌, Bool, cond, refl, sym, ◌∙◌, ap, subst, arith}
use Rattle.std.proofs.lemmas.Bool.{cases_eq}
use Rattle.std.proofs.lemmas.List.{append-nil}
use Rattle.fn_model.specs.declared.Kind.{Kind}
use Rattle.fn_model.specs.Arrivals.{Batch, total, expand, IsBoundary}
use Rattle.fn_model.specs.Calls.{same_kind, amounts}
use Rattle.fn_model.specs.Histories.{MainStep, BatchStep, StandsIn, calls_of_step, IsSoundStep}
use Rattle.fn_model.specs.Integer.{after, value}
use Rattle.fn_model.specs.Order.{batches_of, end_of_batches, StepGoesOn}
use Rattle.fn_model.proofs.Expansion.{amounts-expand}
use Rattle.fn_model.proofs.Integer.{amounts-append}
use Rattle.fn_model.proofs.Histories.{history_push, stands_when_applied, value-batch}
use Rattle.fn_model.proofs.Orderly.{boundary_offset}
use Rattle.fn_rows.specs.declared.Stage.{Stage}
use Rattle.fn_rows.specs.declared.Stage.TheVariants.{Out, Shut, Based}
use Rattle.fn_rows.specs.Machine.{Step}
use Rattle.fn_rows.specs.Machine as local_step
use Rattle.fn_rows.specs.Trace.{Traced, traced}
use Rattle.fn_rows.specs.Law.{leads}
use Rattle.fn_rows.proofs.Invariant.{Leading, IsOurs}
use Rattle.fn_core.specs.Tree.{aggregator, member, members}
use Rattle.fn_core.specs.State.{Start, Climbing, State, history_in, stage, local, goes_to, enters, lo_of, hi_of}
use Rattle.fn_core.specs.Machine.{IsStart, weight_of, applies}
use Rattle.fn_core.proofs.Turns.{Turn, hands}
use Rattle.fn_core.proofs.Members.{member_within}
use Rattle.fn_core.proofs.Places.{same_kind-refl, different_kind, put_at_case}
use Rattle.fn_core.proofs.Known.{Meets}
use Rattle.fn_core.proofs.Good.{Good, KnownAs, known_as, local_stage, local_other, local_keeps, enters_keeps, goes_keeps}
use Rattle.fn_core.specs.Positions.{is_out, IsClimbing}
use Rattle.fn_core.proofs.Positions.{fits_same, climbing_here}
use Rattle.fn_core.specs.Batches.{Gone, IsContiguous, has_come}
use Rattle.fn_core.proofs.Contiguous.{gone_as, gone_cases, lower_to, lower_from, rest_to, rest_from, contiguous_up, up_at, end_here, end_there}
use Rattle.fn_core.proofs.Whole.{Whole, stages_of, FitsAt, put_fits, knows_at}
use Rattle.fn_core.proofs.Enters.{batches-push}

-- the last batch of an aggregator among the main steps, after one more
batch_here : (kind : Kind) (steps : List MainStep) (i lo hi : ℕ) → end_of_batches i 0 (batches_of kind (steps ++ BatchStep kind i lo hi ∷ [])) ≡ hi
batch_here kind steps i lo hi =
    ap (end_of_batches i 0) (batches-push kind steps (BatchStep kind i lo hi) ∙ ap (λ (t : Bool). batches_of kind steps ++ cond t (Batch i lo hi ∷ []) []) (same_kind-refl kind))
    ∙ end_here i 0 (batches_of kind steps) lo hi

batch_there : (k kind : Kind) (steps : List MainStep) (child i lo hi : ℕ) → (k ≡ kind → child ≡ i → ⊥) → end_of_batches i 0 (batches_of k (steps ++ BatchStep kind child lo hi ∷ [])) ≡ end_of_batches i 0 (batches_of k steps)
batch_there k kind steps child i lo hi not =
    ap (end_of_batches i 0) (batches-push k steps (BatchStep kind child lo hi))
    ∙ elim (different_kind kind k) [
      | inr differ ↦ ap (λ (t : Bool). end_of_batches i 0 (batches_of k steps ++ cond t (Batch child lo hi ∷ []) [])) differ ∙ ap (end_of_batches i 0) (append-nil (batches_of k steps))
      | inl same ↦ ap (λ (t : Bool). end_of_batches i 0 (batches_of k steps ++ cond t (Batch child lo hi ∷ []) [])) (ap (λ (x : Kind). same_kind x k) same ∙ same_kind-refl k)
          ∙ end_there i 0 (batches_of k steps) child lo hi (λ e. not (sym same) e)
    ]

module _ (start : Start) (ok : IsStart start) (s : State) (w : Whole start s) (p : ℕ) (range : p < start.shape.passes) (kind : Kind) (below amount : ℕ)
    (climb : IsClimbing start.shape.levels (stages_of start s p) kind (suc below)) (top : suc below ≡ start.shape.levels) (at hi : ℕ) (is_shut : stage start s kind (suc below) p ≡ Shut at hi) (weighs : amount ≡ weight_of start s p kind (suc below)) where
  abbrev index : ℕ
  index = aggregator start.shape p (suc below)

  abbrev m : ℕ
  m = member start.shape (suc below) p

  abbrev t : Traced
  t = s.rows kind (suc below) index

  abbrev g : Stage
  g = stage start s kind (suc below) p

  abbrev main_step : MainStep
  main_step = BatchStep kind index (lo_of g) (hi_of g)

  abbrev entered : State
  entered = enters start s kind amount main_step

  closed : Leading t t.total (IsOurs start.shape.rows t m) (Shut at hi)
  closed = subst (Leading t t.total (IsOurs start.shape.rows t m)) is_shut ((w.good.inv kind (suc below) index).leading m)

  known : KnownAs start s p kind below (stage start s kind below p) (Shut at hi)
  known = knows_at start ok s w p kind below (Shut at hi) is_shut

  from_here : IsBoundary (s.arrivals kind (suc below) index) at
  from_here = boundary_offset (s.arrivals kind (suc below) index) at known.0.0 known.0.2

  upper_out : stage start s kind (suc (suc below)) p ≡ Out
  upper_out = climb.above (suc (suc below)) (omega arith)

  sound : IsSoundStep s.arrivals start.shape.levels main_step
  sound = subst (λ (x : Stage). IsSoundStep s.arrivals start.shape.levels (BatchStep kind index (lo_of x) (hi_of x))) (sym is_shut)
      (closed.1, subst (λ (l : ℕ). IsBoundary (s.arrivals kind l index) at) top from_here, subst (λ (l : ℕ). IsBoundary (s.arrivals kind l index) hi) top known.1)

  goes_on : StepGoesOn s.steps main_step
  goes_on = (up_at start ok.shape s w.good.inv w.contiguous p kind below at hi is_shut (ap has_come upper_out)).0 top ∙ sym (ap lo_of is_shut)

  moves : value start.cap start.opening (history_in start s ++ calls_of_step s.arrivals start.shape.levels main_step) ≡ after start.cap s.main kind amount
  moves =
      let some : at < hi = closed.1 in
      ap (λ (x : Stage). value start.cap start.opening (history_in start s ++ expand (s.arrivals kind) start.shape.levels index (lo_of x) (hi_of x))) is_shut
      ∙ ap (λ (l : ℕ). value start.cap start.opening (history_in start s ++ expand (s.arrivals kind) l index at hi)) (sym top)
      ∙ value-batch start.cap start.opening (history_in start s) kind (s.arrivals kind) below index at hi ok.opening (w.good.orderly.formed kind) (omega arith) from_here known.1
      ∙ ap (λ (v : ℕ). after start.cap v kind (hi - at)) (sym w.good.main)
      ∙ ap (λ (n : ℕ). after start.cap s.main kind n) (sym (weighs ∙ ap (λ (x : Stage). hi_of x - lo_of x) is_shut))

  -- the history grows by the weight
  pub amount_enters : amounts (history_in start entered) ≡ amounts (history_in start s) + amount
  amount_enters =
      let some : at < hi = closed.1 in
      let weight_is : amount ≡ hi - at = weighs ∙ ap (λ (x : Stage). hi_of x - lo_of x) is_shut in
      let batch : amounts (expand (s.arrivals kind) start.shape.levels index (lo_of g) (hi_of g)) ≡ hi - at =
      ap (λ (x : Stage). amounts (expand (s.arrivals kind) start.shape.levels index (lo_of x) (hi_of x))) is_shut
      ∙ ap (λ (l : ℕ). amounts (expand (s.arrivals kind) l index at hi)) (sym top)
      ∙ amounts-expand kind (s.arrivals kind) (w.good.orderly.formed kind) below index at hi (omega arith) from_here known.1 in
      ap amounts (history_push s.arrivals start.shape.levels s.steps main_step)
      ∙ amounts-append (history_in start s) (expand (s.arrivals kind) start.shape.levels index (lo_of g) (hi_of g))
      ∙ ap (λ (n : ℕ). amounts (history_in start s) + n) (batch ∙ sym weight_is)

  good_entered : Good start entered
  good_entered = enters_keeps start ok.shape s w.good kind amount main_step sound goes_on moves

  meets : Meets start.cap start.opening (s.arrivals kind) (history_in start entered) (suc below) index at hi s.main
  meets =
      let raw = stands_when_applied start.cap start.opening s.arrivals start.shape.levels s.steps kind index (lo_of g) (hi_of g) in
      let cut = subst (λ (x : Stage). StandsIn start.cap start.opening (history_in start entered) (expand (s.arrivals kind) start.shape.levels index (lo_of x) (hi_of x)) (value start.cap start.opening (history_in start s))) is_shut raw in
      let low = subst (λ (l : ℕ). StandsIn start.cap start.opening (history_in start entered) (expand (s.arrivals kind) l index at hi) (value start.cap start.opening (history_in start s))) (sym top) cut in
      subst (λ (v : ℕ). StandsIn start.cap start.opening (history_in start entered) (expand (s.arrivals kind) (suc below) index at hi) v) (sym w.good.main) low

  ends : KnownAs start entered p kind below (stage start s kind below p) (Shut at hi)
  ends = known_as start entered p kind below (stage start s kind below p) (stage start s kind below p) g (Shut at hi) refl (sym is_shut) (good_entered.known p kind below)

  abbrev step : ℕ → Step
  step i = local_step.Hand_base i s.main

  turn : Turn (members start.shape (suc below) index) start.shape.rows t (traced t (step m)) m (Based at hi s.main) t.total t.done t.linked
  turn = hands (members start.shape (suc below) index) start.shape.rows t (w.good.inv kind (suc below) index) m (member_within start.shape ok.shape below p range) at hi s.main is_shut

  abbrev then : State
  then = local start entered kind (suc below) p step

  here' : stage start then kind (suc below) p ≡ Based at hi s.main
  here' = local_stage start ok.shape entered good_entered p kind below step (Based at hi s.main) t.total t.done t.linked turn

  there' : (k : Kind) (l q : ℕ) → (k ≡ kind → l ≡ suc below → q ≡ p → ⊥) → stage start then k l q ≡ stage start s k l q
  there' = local_other start ok.shape entered good_entered p kind below step (Based at hi s.main) t.total t.done t.linked turn

  good_then : Good start then
  good_then = local_keeps start ok.shape entered good_entered p kind below step (Based at hi s.main) t.total t.done t.linked turn upper_out (ends, meets) (good_entered.batches kind (suc below) index)

  others : (q : ℕ) → q ≢ p → FitsAt start then q (s.callers q).position
  others q ne = fits_same start.shape.levels (stages_of start s q) (stages_of start then q) (s.callers q).position (λ k l. there' k l q (λ x y z. ne z)) (w.fits q)

  own_fits : IsClimbing start.shape.levels (stages_of start then p) kind (suc below)
  own_fits = climbing_here start.shape.levels (stages_of start s p) (stages_of start then p) kind (suc below) (λ k l not. there' k l p (λ x y z. not x y)) (ap is_out here') climb

  abbrev From : ℕ → Kind → ℕ → Type 0
  From q k b = (h : ℕ) → Gone start then q k (suc b) h → (Gone start s q k (suc b) h × (k ≡ kind → b ≡ below → q ≡ p → ⊥)) ⊎ ((q ≡ p) × (k ≡ kind) × (b ≡ below) × (hi ≡ h))

  from : (q : ℕ) (k : Kind) (b : ℕ) → From q k b
  from = gone_cases start s then p kind below (Shut at hi) (Based at hi s.main) is_shut upper_out here' there' From
      (λ h is. inr (refl, refl, refl, gone_as (stage start then kind (suc below) p) (Based at hi s.main) (stage start then kind (suc (suc below)) p) (stage start then kind (suc (suc below)) p) h (sym here') refl is))
      (λ b e h is. inl (lower_from start s then p kind below (Shut at hi) (Based at hi s.main) is_shut upper_out here' there' refl b e h is, λ x y z. omega (arith, y, e)))
      (λ q k b not under e f h is. inl (rest_from start s then p kind below (Shut at hi) (Based at hi s.main) is_shut upper_out here' there' q k b e f h is, not))

  abbrev To : ℕ → Kind → ℕ → Type 0
  To q k b = (h : ℕ) → (k ≡ kind → b ≡ below → q ≡ p → ⊥) → Gone start s q k (suc b) h → Gone start then q k (suc b) h

  to : (q : ℕ) (k : Kind) (b : ℕ) → To q k b
  to = gone_cases start s then p kind below (Shut at hi) (Based at hi s.main) is_shut upper_out here' there' To
      (λ h not is. absurd (not refl refl refl))
      (λ b e h not is. lower_to start s then p kind below (Shut at hi) (Based at hi s.main) is_shut upper_out here' there' refl b e h is)
      (λ q k b not under e f h skip is. rest_to start s then p kind below (Shut at hi) (Based at hi s.main) is_shut upper_out here' there' q k b e f h is)

  contiguous_then : IsContiguous start then
  contiguous_then = contiguous_up start ok.shape s then w.good.inv p kind below hi (ap leads is_shut) (λ q k b h is. from q k b h is) (λ q k b h not is. to q k b h not is)
      (gone_as (Based at hi s.main) (stage start then kind (suc below) p) (stage start then kind (suc (suc below)) p) (stage start then kind (suc (suc below)) p) hi here' refl refl)
      ((λ e. batch_here kind s.steps index (lo_of g) (hi_of g) ∙ ap hi_of is_shut), (λ ne. absurd (ne top)))
      (λ k b i e not is. ((λ lv. batch_there k kind s.steps index i (lo_of g) (hi_of g) (λ x y. not x (omega (arith, lv, top)) (sym y)) ∙ is.0 lv), is.1))
      (λ k l i. put_at_case (λ k l i t. t.done ≡ (s.rows k l i).done) s.rows kind (suc below) index (traced t (step m)) turn.done_is k l i refl)
      w.contiguous

  totals_then : (k : Kind) (l i : ℕ) → (then.rows k l i).total ≡ total (s.arrivals k l i)
  totals_then k l i = put_at_case (λ k l i t. t.total ≡ total (s.arrivals k l i)) s.rows kind (suc below) index (traced t (step m)) (turn.total_is ∙ w.totals kind (suc below) index) k l i (w.totals k l i)

  -- by one step
  pub applies_keeps : (s.callers p).position ≡ Climbing kind (suc below) → Whole start (applies start s p kind (suc below) amount)
  applies_keeps is = record {
    good = good_then;
    fits = λ q. elim (cases_eq q p) [
      | inr ne ↦ others q ne
      | inl same ↦ subst (λ (i : ℕ). FitsAt start then i (s.callers i).position) (sym same) (subst (FitsAt start then p) (sym is) own_fits)
    ];
    totals = totals_then;
    contiguous = contiguous_then;
  }

  -- by an exchange
  pub exchange_keeps : Whole start (goes_to (applies start s p kind (suc below) amount) p (Climbing kind (suc below)))
  exchange_keeps = record {
    good = goes_keeps start ok.shape then good_then p (Climbing kind (suc below));
    fits = put_fits start then s.callers p (record (s.callers p) { position = Climbing kind (suc below) }) others own_fits;
    totals = totals_then;
    contiguous = record { gone = contiguous_then.gone; back = contiguous_then.back };
  }
