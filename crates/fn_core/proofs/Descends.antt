-- A delegate takes the base of its batch down one level.
use Rattle.std.proofs.Common.{◌≡◌, ◌≢◌, ◌⊎◌, inl, inr, ℕ, suc, ◌<◌, refl, sym, ◌∙◌, ap, subst, arith}
use Rattle.std.proofs.lemmas.Bool.{cases_eq}
use Rattle.fn_model.specs.declared.Kind.{Kind}
use Rattle.fn_model.specs.Arrivals.{Arrival, calls_of, expand}
use Rattle.fn_model.specs.Histories.{StandsIn}
use Rattle.fn_model.specs.Integer.{after}
use Rattle.fn_rows.specs.declared.Stage.TheVariants.{Out, Shut, Based, Got}
use Rattle.fn_rows.specs.Machine.{Step}
use Rattle.fn_rows.specs.Machine as local_step
use Rattle.fn_rows.specs.Trace.{Traced, traced}
use Rattle.fn_core.specs.Tree.{aggregator, member, members}
use Rattle.fn_core.specs.State.{Start, Climbing, State, history_in, stage, local, reply_of}
use Rattle.fn_core.specs.Machine.{IsStart, Climbs, leaves}
use Rattle.fn_core.proofs.Turns.{Turn, hands, goes_out}
use Rattle.fn_core.proofs.Members.{member_within}
use Rattle.fn_core.proofs.Places.{kind_cases, put_at_case}
use Rattle.fn_core.proofs.Known.{Meets}
use Rattle.fn_core.proofs.Good.{Good, KnownAs, known_as, local_stage, local_other, local_keeps, goes_keeps}
use Rattle.fn_core.specs.Positions.{is_out, IsClimbing}
use Rattle.fn_core.proofs.Positions.{fits_same, climbing_down}
use Rattle.fn_core.specs.Batches.{Gone, has_come}
use Rattle.fn_core.proofs.Contiguous.{gone_as, gone_below, contiguous_same}
use Rattle.fn_core.proofs.Whole.{Whole, stages_of, put_fits, climbing, knows_at}

module _ (start : Start) (ok : IsStart start) (s : State) (w : Whole start s) (p : ℕ) (range : p < start.shape.passes) (kind : Kind) (below : ℕ) (climbs : Climbs start s p kind (suc (suc below)) (λ m. local_step.Leave m)) where
  abbrev upper_index : ℕ
  upper_index = aggregator start.shape p (suc (suc below))

  abbrev child : ℕ
  child = aggregator start.shape p (suc below)

  abbrev n : ℕ
  n = member start.shape (suc (suc below)) p

  abbrev m : ℕ
  m = member start.shape (suc below) p

  abbrev u : Traced
  u = s.rows kind (suc (suc below)) upper_index

  abbrev b : ℕ
  b = climbs.1.0

  abbrev ahead : ℕ
  ahead = climbs.1.1

  abbrev reply : ℕ
  reply = after start.cap b kind ahead

  abbrev climb : IsClimbing start.shape.levels (stages_of start s p) kind (suc (suc below))
  climb = climbing start ok s w p kind (suc (suc below)) climbs.0

  pub known : KnownAs start s p kind (suc below) (stage start s kind (suc below) p) (Got b ahead)
  known = knows_at start ok s w p kind (suc below) (Got b ahead) climbs.1.2

  abbrev at : ℕ
  at = known.1.0

  abbrev hi : ℕ
  hi = known.1.1

  pub is_shut : stage start s kind (suc below) p ≡ Shut at hi
  is_shut = known.1.2

  upper_out : stage start s kind (suc (suc (suc below))) p ≡ Out
  upper_out = climb.above (suc (suc (suc below))) (omega arith)

  abbrev out_step : ℕ → Step
  out_step i = local_step.Leave i

  out_turn : Turn (members start.shape (suc (suc below)) upper_index) start.shape.rows u (traced u (out_step n)) n Out u.total u.done u.linked
  out_turn = goes_out (members start.shape (suc (suc below)) upper_index) start.shape.rows u (w.good.inv kind (suc (suc below)) upper_index) n (member_within start.shape ok.shape (suc below) p range) b ahead climbs.1.2

  abbrev middle : State
  middle = local start s kind (suc (suc below)) p out_step

  middle_here : stage start middle kind (suc (suc below)) p ≡ Out
  middle_here = local_stage start ok.shape s w.good p kind (suc below) out_step Out u.total u.done u.linked out_turn

  pub middle_there : (k : Kind) (l q : ℕ) → (k ≡ kind → l ≡ suc (suc below) → q ≡ p → ⊥) → stage start middle k l q ≡ stage start s k l q
  middle_there = local_other start ok.shape s w.good p kind (suc below) out_step Out u.total u.done u.linked out_turn

  good_middle : Good start middle
  good_middle = local_keeps start ok.shape s w.good p kind (suc below) out_step Out u.total u.done u.linked out_turn upper_out tt (w.good.batches kind (suc (suc below)) upper_index)

  middle_shut : stage start middle kind (suc below) p ≡ Shut at hi
  middle_shut = middle_there kind (suc below) p (λ x y z. omega (arith, y)) ∙ is_shut

  abbrev base : ℕ
  base = reply_of start.cap kind (stage start s kind (suc (suc below)) p)

  base_is : base ≡ reply
  base_is = ap (reply_of start.cap kind) climbs.1.2

  meets : Meets start.cap start.opening (s.arrivals kind) (history_in start s) (suc below) child at hi base
  meets = subst (λ (v : ℕ). Meets start.cap start.opening (s.arrivals kind) (history_in start s) (suc below) child at hi v) (sym base_is)
      (subst (λ (a : Arrival). StandsIn start.cap start.opening (history_in start s) (calls_of (expand (s.arrivals kind) (suc below)) a) reply) known.1.3 known.3)

  ends : KnownAs start middle p kind below (stage start middle kind below p) (Shut at hi)
  ends = known_as start middle p kind below (stage start middle kind below p) (stage start middle kind below p) (stage start middle kind (suc below) p) (Shut at hi) refl (sym middle_shut) (good_middle.known p kind below)

  abbrev t : Traced
  t = middle.rows kind (suc below) child

  abbrev hand : ℕ → Step
  hand i = local_step.Hand_base i base

  hand_turn : Turn (members start.shape (suc below) child) start.shape.rows t (traced t (hand m)) m (Based at hi base) t.total t.done t.linked
  hand_turn = hands (members start.shape (suc below) child) start.shape.rows t (good_middle.inv kind (suc below) child) m (member_within start.shape ok.shape below p range) at hi base middle_shut

  abbrev then : State
  then = local start middle kind (suc below) p hand

  pub here' : stage start then kind (suc below) p ≡ Based at hi base
  here' = local_stage start ok.shape middle good_middle p kind below hand (Based at hi base) t.total t.done t.linked hand_turn

  there' : (k : Kind) (l q : ℕ) → (k ≡ kind → l ≡ suc below → q ≡ p → ⊥) → stage start then k l q ≡ stage start middle k l q
  there' = local_other start ok.shape middle good_middle p kind below hand (Based at hi base) t.total t.done t.linked hand_turn

  upper_here : stage start then kind (suc (suc below)) p ≡ Out
  upper_here = there' kind (suc (suc below)) p (λ x y z. omega (arith, y)) ∙ middle_here

  same : (k : Kind) (l q : ℕ) → (k ≡ kind → l ≡ suc below → q ≡ p → ⊥) → (k ≡ kind → l ≡ suc (suc below) → q ≡ p → ⊥) → stage start then k l q ≡ stage start s k l q
  same k l q x y = there' k l q x ∙ middle_there k l q y

  good_then : Good start then
  good_then = local_keeps start ok.shape middle good_middle p kind below hand (Based at hi base) t.total t.done t.linked hand_turn middle_here (ends, meets) (good_middle.batches kind (suc below) child)

  -- the pass's stages at the two levels, and those elsewhere
  both_cases : (P : ℕ → Kind → ℕ → Type 0) → P p kind (suc below) → P p kind below → ((c : ℕ) → suc c ≡ below → P p kind c) → ((q : ℕ) (k : Kind) (c : ℕ) → stage start then k (suc c) q ≡ stage start s k (suc c) q → stage start then k (suc (suc c)) q ≡ stage start s k (suc (suc c)) q → P q k c) → (q : ℕ) (k : Kind) (c : ℕ) → P q k c
  both_cases P high own low rest q k c = go (cases_eq q p) (kind_cases k kind) (cases_eq c (suc below)) (cases_eq c below) (cases_eq (suc c) below)
    where
      elsewhere : (k ≡ kind → c ≡ suc below → q ≡ p → ⊥) → (k ≡ kind → c ≡ below → q ≡ p → ⊥) → (k ≡ kind → suc c ≡ below → q ≡ p → ⊥) → P q k c
      elsewhere x y z = rest q k c (same k (suc c) q (λ d e f. y d (omega (arith, e)) f) (λ d e f. x d (omega (arith, e)) f)) (same k (suc (suc c)) q (λ d e f. z d (omega (arith, e)) f) (λ d e f. y d (omega (arith, e)) f))

      go : (q ≡ p) ⊎ (q ≢ p) → (k ≡ kind) ⊎ (k ≢ kind) → (c ≡ suc below) ⊎ (c ≢ suc below) → (c ≡ below) ⊎ (c ≢ below) → (suc c ≡ below) ⊎ (suc c ≢ below) → P q k c
      go (inr x) a d e f = elsewhere (λ g h i. x i) (λ g h i. x i) (λ g h i. x i)
      go (inl a) (inr x) d e f = elsewhere (λ g h i. x g) (λ g h i. x g) (λ g h i. x g)
      go (inl a) (inl d) (inl e) f g = subst (λ (i : ℕ). P i k c) (sym a) (subst (λ (i : Kind). P p i c) (sym d) (subst (λ (i : ℕ). P p kind i) (sym e) high))
      go (inl a) (inl d) (inr x) (inl e) g = subst (λ (i : ℕ). P i k c) (sym a) (subst (λ (i : Kind). P p i c) (sym d) (subst (λ (i : ℕ). P p kind i) (sym e) own))
      go (inl a) (inl d) (inr x) (inr y) (inl e) = subst (λ (i : ℕ). P i k c) (sym a) (subst (λ (i : Kind). P p i c) (sym d) (low c e))
      go (inl a) (inl d) (inr x) (inr y) (inr z) = elsewhere (λ g h i. x h) (λ g h i. y h) (λ g h i. z h)

  abbrev To : ℕ → Kind → ℕ → Type 0
  To q k c = (h : ℕ) → Gone start s q k (suc c) h → Gone start then q k (suc c) h

  to : (q : ℕ) (k : Kind) (c : ℕ) → To q k c
  to = both_cases To
      (λ h is. absurd (gone_as (stage start s kind (suc (suc below)) p) (Got b ahead) (stage start s kind (suc (suc (suc below))) p) (stage start s kind (suc (suc (suc below))) p) h (sym climbs.1.2) refl is))
      (λ h is. gone_as (Based at hi base) (stage start then kind (suc below) p) Out (stage start then kind (suc (suc below)) p) h here' upper_here
      (gone_as (stage start s kind (suc below) p) (Shut at hi) (stage start s kind (suc (suc below)) p) (stage start s kind (suc (suc below)) p) h (sym is_shut) refl is).0)
      (λ c e h is. gone_as (stage start s kind (suc c) p) (stage start then kind (suc c) p) (stage start then kind (suc (suc c)) p) (stage start then kind (suc (suc c)) p) h (same kind (suc c) p (λ x y z. omega (arith, y, e)) (λ x y z. omega (arith, y, e))) refl
      (gone_below (stage start s kind (suc c) p) (stage start s kind (suc (suc c)) p) (stage start then kind (suc (suc c)) p) h
      (subst (λ (l : ℕ). has_come (stage start then kind (suc l) p) ≡ has_come (stage start s kind (suc l) p)) (sym e) (ap has_come here' ∙ sym (ap has_come is_shut))) is))
      (λ q k c e f h is. gone_as (stage start s k (suc c) q) (stage start then k (suc c) q) (stage start s k (suc (suc c)) q) (stage start then k (suc (suc c)) q) h e f is)

  abbrev From : ℕ → Kind → ℕ → Type 0
  From q k c = (h : ℕ) → Gone start then q k (suc c) h → Gone start s q k (suc c) h

  from : (q : ℕ) (k : Kind) (c : ℕ) → From q k c
  from = both_cases From
      (λ h is. absurd (gone_as (stage start then kind (suc (suc below)) p) Out (stage start then kind (suc (suc (suc below))) p) (stage start then kind (suc (suc (suc below))) p) h (sym upper_here) refl is))
      (λ h is. gone_as (Shut at hi) (stage start s kind (suc below) p) (Got b ahead) (stage start s kind (suc (suc below)) p) h is_shut climbs.1.2
      (gone_as (stage start then kind (suc below) p) (Based at hi base) (stage start then kind (suc (suc below)) p) (stage start then kind (suc (suc below)) p) h (sym here') refl is, refl))
      (λ c e h is. gone_as (stage start then kind (suc c) p) (stage start s kind (suc c) p) (stage start s kind (suc (suc c)) p) (stage start s kind (suc (suc c)) p) h (sym (same kind (suc c) p (λ x y z. omega (arith, y, e)) (λ x y z. omega (arith, y, e)))) refl
      (gone_below (stage start then kind (suc c) p) (stage start then kind (suc (suc c)) p) (stage start s kind (suc (suc c)) p) h
      (subst (λ (l : ℕ). has_come (stage start s kind (suc l) p) ≡ has_come (stage start then kind (suc l) p)) (sym e) (ap has_come is_shut ∙ sym (ap has_come here'))) is))
      (λ q k c e f h is. gone_as (stage start then k (suc c) q) (stage start s k (suc c) q) (stage start then k (suc (suc c)) q) (stage start s k (suc (suc c)) q) h (sym e) (sym f) is)

  done_same : (k : Kind) (l i : ℕ) → (then.rows k l i).done ≡ (s.rows k l i).done
  done_same k l i =
      put_at_case (λ k l i t. t.done ≡ (middle.rows k l i).done) middle.rows kind (suc below) child (traced t (hand m)) hand_turn.done_is k l i refl
      ∙ put_at_case (λ k l i t. t.done ≡ (s.rows k l i).done) s.rows kind (suc (suc below)) upper_index (traced u (out_step n)) out_turn.done_is k l i refl

  total_same : (k : Kind) (l i : ℕ) → (then.rows k l i).total ≡ (s.rows k l i).total
  total_same k l i =
      put_at_case (λ k l i t. t.total ≡ (middle.rows k l i).total) middle.rows kind (suc below) child (traced t (hand m)) hand_turn.total_is k l i refl
      ∙ put_at_case (λ k l i t. t.total ≡ (s.rows k l i).total) s.rows kind (suc (suc below)) upper_index (traced u (out_step n)) out_turn.total_is k l i refl

  pub descends_keeps : Whole start (leaves start s p kind (suc (suc below)))
  descends_keeps = record {
    good = goes_keeps start ok.shape then good_then p (Climbing kind (suc below));
    fits = put_fits start then s.callers p (record (s.callers p) { position = Climbing kind (suc below) })
        (λ q ne. fits_same start.shape.levels (stages_of start s q) (stages_of start then q) (s.callers q).position (λ k l. same k l q (λ x y z. ne z) (λ x y z. ne z)) (w.fits q))
        (climbing_down start.shape.levels (stages_of start s p) (stages_of start then p) kind (suc below) (omega arith) (λ k l x y. same k l p (λ d e f. x d e) (λ d e f. y d e)) upper_here (ap is_out here') climb);
    totals = λ k l i. total_same k l i ∙ w.totals k l i;
    contiguous =
        let c = contiguous_same start s then (λ q k c h is. to q k c h is) (λ q k c h is. from q k c h is) (λ k b i e h. h) done_same w.contiguous in
        record { gone = c.gone; back = c.back };
  }
