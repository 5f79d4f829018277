-- The batches of an aggregator that have gone up: where the last of them ends.
use Rattle.std.proofs.Common.{◌≡◌, ◌≢◌, ◌⊎◌, inl, inr, ℕ, suc, List, [], ◌∷◌, ◌++◌, Bool, true, false, cond, refl, sym, ◌∙◌, ap, subst, arith}
use Rattle.std.specs.Prelude.{◌==◌}
use Rattle.std.proofs.lemmas.Bool.{cases_eq, false≢true, eq-eqb, ne_eqb}
use Rattle.fn_model.specs.declared.Kind.{Kind}
use Rattle.fn_model.specs.Arrivals.{Arrival, Own, Batch}
use Rattle.fn_model.specs.Order.{end_of_batches}
use Rattle.fn_rows.specs.declared.Stage.{Stage}
use Rattle.fn_rows.specs.declared.Stage.TheVariants.{Out, Shut, Based, Headed, FilledLo, FilledBase, Filled, Pointed}
use Rattle.fn_rows.specs.Law.{leads}
use Rattle.fn_rows.proofs.Invariant.{Inv, Leading, IsOurs}
use Rattle.fn_rows.proofs.Moves.{one_leader}
use Rattle.fn_core.specs.Tree.{aggregator, member, members, IsShape}
use Rattle.fn_core.specs.State.{Start, State, stage}
use Rattle.fn_core.specs.Batches.{has_come, HasGone, Gone, IsUp, Backs, IsContiguous}
use Rattle.fn_core.proofs.Members.{member_apart}
use Rattle.fn_core.proofs.Places.{kind_cases}

pub gone_leads : (g upper : Stage) (hi : ℕ) → HasGone g upper hi → leads g ≡ true
gone_leads (Shut at h) upper hi is = refl
gone_leads (Based at h b) upper hi is = refl
gone_leads (Headed at h b w) upper hi is = refl
gone_leads (FilledLo at h b w r) upper hi is = refl
gone_leads (FilledBase at h b w r) upper hi is = refl
gone_leads (Filled at h b r) upper hi is = refl
gone_leads (Pointed at h b r) upper hi is = refl
gone_leads _ upper hi is = absurd is

-- the stage above matters only for whether it has come
pub gone_below : (g upper upper' : Stage) (hi : ℕ) → has_come upper' ≡ has_come upper → HasGone g upper hi → HasGone g upper' hi
gone_below (Shut at h) upper upper' hi same is = (is.0, same ∙ is.1)
gone_below (Based at h b) upper upper' hi same is = is
gone_below (Headed at h b w) upper upper' hi same is = is
gone_below (FilledLo at h b w r) upper upper' hi same is = is
gone_below (FilledBase at h b w r) upper upper' hi same is = is
gone_below (Filled at h b r) upper upper' hi same is = is
gone_below (Pointed at h b r) upper upper' hi same is = is
gone_below _ upper upper' hi same is = absurd is

-- the same at other stages
pub gone_as : (g g' upper upper' : Stage) (hi : ℕ) → g' ≡ g → upper' ≡ upper → HasGone g upper hi → HasGone g' upper' hi
gone_as g g' upper upper' hi e f is = subst (λ (x : Stage). HasGone x upper' hi) (sym e) (subst (λ (x : Stage). HasGone g x hi) (sym f) is)

-- two passes that lead at an aggregator are one
pub one_pass : (start : Start) → IsShape start.shape → (s : State) → ((kind : Kind) (level index : ℕ) → Inv (members start.shape level index) start.shape.rows (s.rows kind level index)) → (kind : Kind) (below p q : ℕ) → aggregator start.shape q (suc below) ≡ aggregator start.shape p (suc below) → leads (stage start s kind (suc below) p) ≡ true → leads (stage start s kind (suc below) q) ≡ true → q ≡ p
one_pass start ok s inv kind below p q same lead_p lead_q =
    let index : ℕ = aggregator start.shape p (suc below) in
    member_apart start.shape ok below q p same
    (one_leader (members start.shape (suc below) index) start.shape.rows (s.rows kind (suc below) index) (inv kind (suc below) index) (member start.shape (suc below) q) (member start.shape (suc below) p)
    (subst (λ (i : ℕ). leads ((s.rows kind (suc below) i).stage (member start.shape (suc below) q)) ≡ true) same lead_q) lead_p)

-- two stages of a call that climbs here are alike for what has gone up
pub record AreAlike (g g' : Stage) : Type 0 where
  pub come : has_come g' ≡ has_come g
  pub to : (hi : ℕ) → HasGone g Out hi → HasGone g' Out hi
  pub from : (hi : ℕ) → HasGone g' Out hi → HasGone g Out hi

-- where all that has gone up is the same, and the words are
pub contiguous_same : (start : Start) (s new : State) → ((q : ℕ) (k : Kind) (b hi : ℕ) → Gone start s q k (suc b) hi → Gone start new q k (suc b) hi) → ((q : ℕ) (k : Kind) (b hi : ℕ) → Gone start new q k (suc b) hi → Gone start s q k (suc b) hi)
    → ((k : Kind) (b i e : ℕ) → IsUp start s k (suc b) i e → IsUp start new k (suc b) i e) → ((k : Kind) (l i : ℕ) → (new.rows k l i).done ≡ (s.rows k l i).done) → IsContiguous start s → IsContiguous start new
contiguous_same start s new to from up done c = record {
  gone = λ q k b hi g. up k b (aggregator start.shape q (suc b)) hi (c.gone q k b hi (from q k b hi g));
  back = λ k b i. elim (c.back k b i) [
    | inl is ↦ inl (subst (IsUp start new k (suc b) i) (sym (done k (suc b) i)) (up k b i (s.rows k (suc b) i).done is))
    | inr h ↦ inr (h.0, h.1, h.2, to h.0 k b h.1 h.3)
  ];
}

module _ (start : Start) (s new : State) (p : ℕ) (kind : Kind) (below : ℕ) (g g' : Stage)
    (was : stage start s kind (suc below) p ≡ g) (upper : stage start s kind (suc (suc below)) p ≡ Out) (here : stage start new kind (suc below) p ≡ g')
    (there : (k : Kind) (l q : ℕ) → (k ≡ kind → l ≡ suc below → q ≡ p → ⊥) → stage start new k l q ≡ stage start s k l q) where
  upper_new : stage start new kind (suc (suc below)) p ≡ Out
  upper_new = there kind (suc (suc below)) p (λ x y z. omega (arith, y)) ∙ upper

  -- what holds of the pass at this level and at the one below, and elsewhere where two stages are the same, holds of all
  pub gone_cases : (P : ℕ → Kind → ℕ → Type 0) → P p kind below → ((b : ℕ) → suc b ≡ below → P p kind b) → ((q : ℕ) (k : Kind) (b : ℕ) → (k ≡ kind → b ≡ below → q ≡ p → ⊥) → (k ≡ kind → suc b ≡ below → q ≡ p → ⊥) → stage start new k (suc b) q ≡ stage start s k (suc b) q → stage start new k (suc (suc b)) q ≡ stage start s k (suc (suc b)) q → P q k b) → (q : ℕ) (k : Kind) (b : ℕ) → P q k b
  gone_cases P own lower rest q k b = go (cases_eq q p) (kind_cases k kind) (cases_eq b below) (cases_eq (suc b) below)
    where
      elsewhere : (k ≡ kind → b ≡ below → q ≡ p → ⊥) → (k ≡ kind → suc b ≡ below → q ≡ p → ⊥) → P q k b
      elsewhere not under = rest q k b not under (there k (suc b) q (λ x y z. not x (omega (arith, y)) z)) (there k (suc (suc b)) q (λ x y z. under x (omega (arith, y)) z))

      go : (q ≡ p) ⊎ (q ≢ p) → (k ≡ kind) ⊎ (k ≢ kind) → (b ≡ below) ⊎ (b ≢ below) → (suc b ≡ below) ⊎ (suc b ≢ below) → P q k b
      go (inr n) x y z = elsewhere (λ c d e. n e) (λ c d e. n e)
      go (inl m) (inr n) y z = elsewhere (λ c d e. n c) (λ c d e. n c)
      go (inl m) (inl x) (inl y) z = subst (λ (i : ℕ). P i k b) (sym m) (subst (λ (i : Kind). P p i b) (sym x) (subst (λ (i : ℕ). P p kind i) (sym y) own))
      go (inl m) (inl x) (inr y) (inl z) = subst (λ (i : ℕ). P i k b) (sym m) (subst (λ (i : Kind). P p i b) (sym x) (lower b z))
      go (inl m) (inl x) (inr y) (inr z) = elsewhere (λ c d e. y d) (λ c d e. z d)

  pub own_to : ((hi : ℕ) → HasGone g Out hi → HasGone g' Out hi) → (hi : ℕ) → Gone start s p kind (suc below) hi → Gone start new p kind (suc below) hi
  own_to to hi is = gone_as g' (stage start new kind (suc below) p) Out (stage start new kind (suc (suc below)) p) hi here upper_new (to hi (gone_as (stage start s kind (suc below) p) g (stage start s kind (suc (suc below)) p) Out hi (sym was) (sym upper) is))

  pub own_from : ((hi : ℕ) → HasGone g' Out hi → HasGone g Out hi) → (hi : ℕ) → Gone start new p kind (suc below) hi → Gone start s p kind (suc below) hi
  own_from from hi is = gone_as g (stage start s kind (suc below) p) Out (stage start s kind (suc (suc below)) p) hi was upper (from hi (gone_as (stage start new kind (suc below) p) g' (stage start new kind (suc (suc below)) p) Out hi (sym here) (sym upper_new) is))

  pub lower_to : has_come g' ≡ has_come g → (b : ℕ) → suc b ≡ below → (hi : ℕ) → Gone start s p kind (suc b) hi → Gone start new p kind (suc b) hi
  lower_to come b e hi is = gone_as (stage start s kind (suc b) p) (stage start new kind (suc b) p) (stage start new kind (suc (suc b)) p) (stage start new kind (suc (suc b)) p) hi (there kind (suc b) p (λ x y z. omega (arith, y, e))) refl
      (gone_below (stage start s kind (suc b) p) (stage start s kind (suc (suc b)) p) (stage start new kind (suc (suc b)) p) hi
      (subst (λ (l : ℕ). has_come (stage start new kind (suc l) p) ≡ has_come (stage start s kind (suc l) p)) (sym e) (ap has_come here ∙ come ∙ sym (ap has_come was))) is)

  pub lower_from : has_come g' ≡ has_come g → (b : ℕ) → suc b ≡ below → (hi : ℕ) → Gone start new p kind (suc b) hi → Gone start s p kind (suc b) hi
  lower_from come b e hi is = gone_as (stage start new kind (suc b) p) (stage start s kind (suc b) p) (stage start s kind (suc (suc b)) p) (stage start s kind (suc (suc b)) p) hi (sym (there kind (suc b) p (λ x y z. omega (arith, y, e)))) refl
      (gone_below (stage start new kind (suc b) p) (stage start new kind (suc (suc b)) p) (stage start s kind (suc (suc b)) p) hi
      (subst (λ (l : ℕ). has_come (stage start s kind (suc l) p) ≡ has_come (stage start new kind (suc l) p)) (sym e) (ap has_come was ∙ sym come ∙ sym (ap has_come here))) is)

  pub rest_to : (q : ℕ) (k : Kind) (b : ℕ) → stage start new k (suc b) q ≡ stage start s k (suc b) q → stage start new k (suc (suc b)) q ≡ stage start s k (suc (suc b)) q → (hi : ℕ) → Gone start s q k (suc b) hi → Gone start new q k (suc b) hi
  rest_to q k b e f hi is = gone_as (stage start s k (suc b) q) (stage start new k (suc b) q) (stage start s k (suc (suc b)) q) (stage start new k (suc (suc b)) q) hi e f is

  pub rest_from : (q : ℕ) (k : Kind) (b : ℕ) → stage start new k (suc b) q ≡ stage start s k (suc b) q → stage start new k (suc (suc b)) q ≡ stage start s k (suc (suc b)) q → (hi : ℕ) → Gone start new q k (suc b) hi → Gone start s q k (suc b) hi
  rest_from q k b e f hi is = gone_as (stage start new k (suc b) q) (stage start s k (suc b) q) (stage start new k (suc (suc b)) q) (stage start s k (suc (suc b)) q) hi (sym e) (sym f) is

  -- one pass takes a step, and its stages at this level are alike
  pub contiguous_alike : AreAlike g g' → ((k : Kind) (b i e : ℕ) → IsUp start s k (suc b) i e → IsUp start new k (suc b) i e) → ((k : Kind) (l i : ℕ) → (new.rows k l i).done ≡ (s.rows k l i).done) → IsContiguous start s → IsContiguous start new
  contiguous_alike like up done c = contiguous_same start s new
      (gone_cases (λ q k b. (hi : ℕ) → Gone start s q k (suc b) hi → Gone start new q k (suc b) hi) (own_to like.to) (lower_to like.come) (λ q k b not under e f. rest_to q k b e f))
      (gone_cases (λ q k b. (hi : ℕ) → Gone start new q k (suc b) hi → Gone start s q k (suc b) hi) (own_from like.from) (lower_from like.come) (λ q k b not under e f. rest_from q k b e f))
      up done c

  -- at the leaves no batch goes up from below
  pub contiguous_bottom : below ≡ 0 → ((hi : ℕ) → HasGone g Out hi → HasGone g' Out hi) → ((hi : ℕ) → HasGone g' Out hi → HasGone g Out hi) → ((k : Kind) (b i e : ℕ) → IsUp start s k (suc b) i e → IsUp start new k (suc b) i e) → ((k : Kind) (l i : ℕ) → (new.rows k l i).done ≡ (s.rows k l i).done) → IsContiguous start s → IsContiguous start new
  contiguous_bottom none to from up done c = contiguous_same start s new
      (gone_cases (λ q k b. (hi : ℕ) → Gone start s q k (suc b) hi → Gone start new q k (suc b) hi) (own_to to) (λ b e. absurd (omega (arith, e, none))) (λ q k b not under e f. rest_to q k b e f))
      (gone_cases (λ q k b. (hi : ℕ) → Gone start new q k (suc b) hi → Gone start s q k (suc b) hi) (own_from from) (λ b e. absurd (omega (arith, e, none))) (λ q k b not under e f. rest_from q k b e f))
      up done c

  -- the pass publishes
  pub contiguous_published : (hi : ℕ) → HasGone g Out hi → has_come g' ≡ has_come g → ((h : ℕ) → HasGone g' Out h → ⊥) → ((k : Kind) (b i e : ℕ) → IsUp start s k (suc b) i e → IsUp start new k (suc b) i e)
      → ((new.rows kind (suc below) (aggregator start.shape p (suc below))).done ≡ hi) → ((k : Kind) (l i : ℕ) → (k ≡ kind → l ≡ suc below → i ≡ aggregator start.shape p (suc below) → ⊥) → (new.rows k l i).done ≡ (s.rows k l i).done) → IsContiguous start s → IsContiguous start new
  contiguous_published hi leads come none up done others c =
      let from = gone_cases (λ q k b. (h : ℕ) → Gone start new q k (suc b) h → Gone start s q k (suc b) h) (own_from (λ h is. absurd (none h is))) (lower_from come) (λ q k b not under e f. rest_from q k b e f) in
      let to = gone_cases (λ q k b. (k ≡ kind → b ≡ below → q ≡ p → ⊥) → (h : ℕ) → Gone start s q k (suc b) h → Gone start new q k (suc b) h) (λ not h is. absurd (not refl refl refl)) (λ b e not. lower_to come b e) (λ q k b not under e f skip. rest_to q k b e f) in
      record {
        gone = λ q k b h is. up k b (aggregator start.shape q (suc b)) h (c.gone q k b h (from q k b h is));
        back = λ k b i. by_place k b i (kind_cases k kind) (cases_eq b below) (cases_eq i (aggregator start.shape p (suc below))) to;
      }
    where
      other_place : (k : Kind) (b i : ℕ) → (k ≡ kind → b ≡ below → i ≡ aggregator start.shape p (suc below) → ⊥) → ((q : ℕ) (k : Kind) (b : ℕ) → (k ≡ kind → b ≡ below → q ≡ p → ⊥) → (h : ℕ) → Gone start s q k (suc b) h → Gone start new q k (suc b) h) → Backs start new k b i
      other_place k b i not to = elim (c.back k b i) [
        | inl is ↦ inl (subst (IsUp start new k (suc b) i) (sym (others k (suc b) i (λ x y z. not x (omega (arith, y)) z))) (up k b i (s.rows k (suc b) i).done is))
        | inr h ↦ inr (h.0, h.1, h.2, to h.0 k b (λ x y z. not x y (sym h.2 ∙ ap (λ (j : ℕ). aggregator start.shape j (suc b)) z ∙ ap (λ (j : ℕ). aggregator start.shape p (suc j)) y)) h.1 h.3)
      ]

      by_place : (k : Kind) (b i : ℕ) → (k ≡ kind) ⊎ (k ≢ kind) → (b ≡ below) ⊎ (b ≢ below) → (i ≡ aggregator start.shape p (suc below)) ⊎ (i ≢ aggregator start.shape p (suc below)) → ((q : ℕ) (k : Kind) (b : ℕ) → (k ≡ kind → b ≡ below → q ≡ p → ⊥) → (h : ℕ) → Gone start s q k (suc b) h → Gone start new q k (suc b) h) → Backs start new k b i
      by_place k b i (inr n) y z to = other_place k b i (λ c d e. n c) to
      by_place k b i (inl x) (inr n) z to = other_place k b i (λ c d e. n d) to
      by_place k b i (inl x) (inl y) (inr n) to = other_place k b i (λ c d e. n e) to
      by_place k b i (inl x) (inl y) (inl z) to =
          subst (λ (a : Kind). Backs start new a b i) (sym x) (subst (λ (a : ℕ). Backs start new kind a i) (sym y) (subst (λ (a : ℕ). Backs start new kind below a) (sym z)
          (inl (subst (IsUp start new kind (suc below) (aggregator start.shape p (suc below))) (sym done) (up kind below (aggregator start.shape p (suc below)) hi
          (c.gone p kind below hi (gone_as g (stage start s kind (suc below) p) Out (stage start s kind (suc (suc below)) p) hi was upper leads)))))))

-- a pass's batch goes up
module _ (start : Start) (ok : IsShape start.shape) (s new : State) (inv : (kind : Kind) (level index : ℕ) → Inv (members start.shape level index) start.shape.rows (s.rows kind level index)) (p : ℕ) (kind : Kind) (below hi : ℕ) (leads_p : leads (stage start s kind (suc below) p) ≡ true)
    (from : (q : ℕ) (k : Kind) (b h : ℕ) → Gone start new q k (suc b) h → (Gone start s q k (suc b) h × (k ≡ kind → b ≡ below → q ≡ p → ⊥)) ⊎ ((q ≡ p) × (k ≡ kind) × (b ≡ below) × (hi ≡ h)))
    (to : (q : ℕ) (k : Kind) (b h : ℕ) → (k ≡ kind → b ≡ below → q ≡ p → ⊥) → Gone start s q k (suc b) h → Gone start new q k (suc b) h)
    (own : Gone start new p kind (suc below) hi)
    (up_here : IsUp start new kind (suc below) (aggregator start.shape p (suc below)) hi)
    (up_there : (k : Kind) (b i e : ℕ) → (k ≡ kind → b ≡ below → i ≡ aggregator start.shape p (suc below) → ⊥) → IsUp start s k (suc b) i e → IsUp start new k (suc b) i e)
    (done : (k : Kind) (l i : ℕ) → (new.rows k l i).done ≡ (s.rows k l i).done)
    (c : IsContiguous start s) where
  -- whoever leads there is the pass
  same_leader : (q : ℕ) (k : Kind) (b h : ℕ) → Gone start s q k (suc b) h → k ≡ kind → b ≡ below → aggregator start.shape q (suc b) ≡ aggregator start.shape p (suc below) → q ≡ p
  same_leader q k b h is x y z =
      one_pass start ok s inv kind below p q (ap (λ (j : ℕ). aggregator start.shape q (suc j)) (sym y) ∙ z) leads_p
      (subst (λ (a : Kind). leads (stage start s a (suc below) q) ≡ true) x (subst (λ (a : ℕ). leads (stage start s k (suc a) q) ≡ true) y (gone_leads (stage start s k (suc b) q) (stage start s k (suc (suc b)) q) h is)))

  other_place : (k : Kind) (b i : ℕ) → (k ≡ kind → b ≡ below → i ≡ aggregator start.shape p (suc below) → ⊥) → Backs start new k b i
  other_place k b i not = elim (c.back k b i) [
    | inl is ↦ inl (subst (IsUp start new k (suc b) i) (sym (done k (suc b) i)) (up_there k b i (s.rows k (suc b) i).done not is))
    | inr h ↦ inr (h.0, h.1, h.2, to h.0 k b h.1 (λ x y z. not x y (sym h.2 ∙ ap (λ (j : ℕ). aggregator start.shape j (suc b)) z ∙ ap (λ (j : ℕ). aggregator start.shape p (suc j)) y)) h.3)
  ]

  by_place : (k : Kind) (b i : ℕ) → (k ≡ kind) ⊎ (k ≢ kind) → (b ≡ below) ⊎ (b ≢ below) → (i ≡ aggregator start.shape p (suc below)) ⊎ (i ≢ aggregator start.shape p (suc below)) → Backs start new k b i
  by_place k b i (inr n) y z = other_place k b i (λ c d e. n c)
  by_place k b i (inl x) (inr n) z = other_place k b i (λ c d e. n d)
  by_place k b i (inl x) (inl y) (inr n) = other_place k b i (λ c d e. n e)
  by_place k b i (inl x) (inl y) (inl z) =
      subst (λ (a : Kind). Backs start new a b i) (sym x) (subst (λ (a : ℕ). Backs start new kind a i) (sym y) (subst (λ (a : ℕ). Backs start new kind below a) (sym z) (inr (p, hi, refl, own))))

  pub contiguous_up : IsContiguous start new
  contiguous_up = record {
    gone = λ q k b h is. elim (from q k b h is) [
      | inl old ↦ up_there k b (aggregator start.shape q (suc b)) h (λ x y z. old.1 x y (same_leader q k b h old.0 x y z)) (c.gone q k b h old.0)
      | inr new_one ↦
          subst (λ (a : ℕ). IsUp start new k (suc b) (aggregator start.shape a (suc b)) h) (sym new_one.0)
          (subst (λ (a : Kind). IsUp start new a (suc b) (aggregator start.shape p (suc b)) h) (sym new_one.1)
          (subst (λ (a : ℕ). IsUp start new kind (suc a) (aggregator start.shape p (suc a)) h) (sym new_one.2)
          (subst (IsUp start new kind (suc below) (aggregator start.shape p (suc below))) new_one.3 up_here)))
    ];
    back = λ k b i. by_place k b i (kind_cases k kind) (cases_eq b below) (cases_eq i (aggregator start.shape p (suc below)));
  }

-- a leader whose batch hasn't gone up begins where the last one that has gone up ends
pub up_at : (start : Start) → IsShape start.shape → (s : State) → ((kind : Kind) (level index : ℕ) → Inv (members start.shape level index) start.shape.rows (s.rows kind level index)) → IsContiguous start s → (p : ℕ) (kind : Kind) (below at hi : ℕ) → stage start s kind (suc below) p ≡ Shut at hi → has_come (stage start s kind (suc (suc below)) p) ≡ false → IsUp start s kind (suc below) (aggregator start.shape p (suc below)) at
up_at start ok s inv c p kind below at hi shut low =
    let index : ℕ = aggregator start.shape p (suc below) in
    let m : ℕ = member start.shape (suc below) p in
    let t = s.rows kind (suc below) index in
    let known : Leading t t.total (IsOurs start.shape.rows t m) (Shut at hi) = subst (Leading t t.total (IsOurs start.shape.rows t m)) shut ((inv kind (suc below) index).leading m) in
    elim (c.back kind below index) [
      | inl is ↦ subst (IsUp start s kind (suc below) index) (sym known.0) is
      | inr h ↦
          let leads_q : leads (stage start s kind (suc below) h.0) ≡ true = gone_leads (stage start s kind (suc below) h.0) (stage start s kind (suc (suc below)) h.0) h.1 h.3 in
          let same : h.0 ≡ p = one_pass start ok s inv kind below p h.0 h.2 (ap leads shut) leads_q in
          let gone : Gone start s p kind (suc below) h.1 = subst (λ (q : ℕ). Gone start s q kind (suc below) h.1) same h.3 in
          let come = (gone_as (stage start s kind (suc below) p) (Shut at hi) (stage start s kind (suc (suc below)) p) (stage start s kind (suc (suc below)) p) h.1 (sym shut) refl gone).1 in
          absurd (false≢true (sym low ∙ come))
    ]

-- where the last batch of a child ends after one more arrival
pub end-push : (child at : ℕ) (xs : List Arrival) (i lo hi : ℕ) → end_of_batches child at (xs ++ Batch i lo hi ∷ []) ≡ cond (i == child) hi (end_of_batches child at xs)
end-push child at [] i lo hi = refl
end-push child at (Own call ∷ xs) i lo hi = end-push child at xs i lo hi
end-push child at (Batch j a b ∷ xs) i lo hi = end-push child (cond (j == child) b at) xs i lo hi

pub end_here : (child at : ℕ) (xs : List Arrival) (lo hi : ℕ) → end_of_batches child at (xs ++ Batch child lo hi ∷ []) ≡ hi
end_here child at xs lo hi = end-push child at xs child lo hi ∙ ap (λ (t : Bool). cond t hi (end_of_batches child at xs)) (eq-eqb child child refl)

pub end_there : (child at : ℕ) (xs : List Arrival) (i lo hi : ℕ) → i ≢ child → end_of_batches child at (xs ++ Batch i lo hi ∷ []) ≡ end_of_batches child at xs
end_there child at xs i lo hi ne = end-push child at xs i lo hi ∙ ap (λ (t : Bool). cond t hi (end_of_batches child at xs)) (ne_eqb i child ne)
