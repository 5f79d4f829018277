-- What holds in each state of the machine, and how the parts of a step keep it.
use Rattle.std.proofs.Common.{◌≡◌, ◌≢◌, ◌⊎◌, inl, inr, ℕ, zero, suc, List, [], ◌++◌, refl, sym, ◌∙◌, ap, subst, arith}
use Rattle.std.proofs.lemmas.Bool.{cases_eq}
use Rattle.std.proofs.lemmas.List.{append-nil}
use Rattle.fn_model.specs.declared.Call.{Call}
use Rattle.fn_model.specs.declared.Kind.{Kind}
use Rattle.fn_model.specs.Arrivals.{Arrival, Table, IsSound, Grows}
use Rattle.fn_model.specs.Histories.{MainStep, calls_of_step, IsSoundStep}
use Rattle.fn_model.specs.Integer.{after, value}
use Rattle.fn_model.specs.Order.{IsPlaced, GoesOn, StepGoesOn, IsOrderly}
use Rattle.fn_model.proofs.Histories.{history_grows, history_push}
use Rattle.fn_model.proofs.Orderly.{grows_by_arrival, orderly_arrival, orderly_step}
use Rattle.fn_rows.specs.declared.Stage.{Stage}
use Rattle.fn_rows.specs.declared.Stage.TheVariants.{Out}
use Rattle.fn_rows.specs.Machine.{Step}
use Rattle.fn_rows.specs.Trace as trace
use Rattle.fn_rows.specs.Trace.{Traced, traced}
use Rattle.fn_rows.specs.Law.{IsIn}
use Rattle.fn_rows.proofs.Invariant.{Inv}
use Rattle.fn_rows.proofs.Put.{put_case, put_there}
use Rattle.fn_core.specs.Tree.{leaf, parent, aggregator, member, members, IsShape}
use Rattle.fn_core.specs.State.{Start, Position, Caller, State, history_in, stage, local, goes_to, after_call, spends, receives, enters}
use Rattle.fn_core.proofs.Turns.{Turn, IsReached}
use Rattle.fn_core.proofs.Places.{put_at_case, stage_here, stage_there, kind_cases}
use Rattle.fn_core.proofs.Known.{Brings, Knows, IsKnownBatch, batch_grows, knows_grows}

-- what is known of a pass one level above `below`, where its stages are these
abbrev pub KnownAs : Start → State → ℕ → Kind → ℕ → Stage → Stage → Type 0
KnownAs start s pass kind below lower g = Knows start.cap start.opening kind (s.arrivals kind) (history_in start s) below (aggregator start.shape pass (suc below)) (Brings (s.callers pass).last (aggregator start.shape pass below) below lower) g

abbrev pub IsKnown : Start → State → ℕ → Kind → ℕ → Type 0
IsKnown start s pass kind below = KnownAs start s pass kind below (stage start s kind below pass) (stage start s kind (suc below) pass)

-- the batches of an aggregator stand in the history
abbrev pub AreKnown : Start → State → Kind → ℕ → ℕ → List trace.Batch → Type 0
AreKnown start s kind level index batches = (b : trace.Batch) → IsIn b batches → IsKnownBatch start.cap start.opening (s.arrivals kind) (history_in start s) level index b

pub record Good (start : Start) (s : State) : Type 0 where
  pub inv : (kind : Kind) (level index : ℕ) → Inv (members start.shape level index) start.shape.rows (s.rows kind level index)
  pub reached : (kind : Kind) (level index : ℕ) → IsReached (members start.shape level index) start.shape.rows (s.rows kind level index)
  pub known : (pass : ℕ) (kind : Kind) (below : ℕ) → IsKnown start s pass kind below
  pub batches : (kind : Kind) (level index : ℕ) → AreKnown start s kind level index (s.rows kind level index).linked
  pub main : s.main ≡ value start.cap start.opening (history_in start s)
  pub orderly : IsOrderly (leaf start.shape) parent s.arrivals start.shape.levels s.steps

-- the same at other stages
pub known_as : (start : Start) (s : State) (pass : ℕ) (kind : Kind) (below : ℕ) (lower lower' g g' : Stage) → lower' ≡ lower → g' ≡ g → KnownAs start s pass kind below lower g → KnownAs start s pass kind below lower' g'
known_as start s pass kind below lower lower' g g' e f h = subst (λ (x : Stage). KnownAs start s pass kind below x g') (sym e) (subst (λ (x : Stage). KnownAs start s pass kind below lower x) (sym f) h)

module _ (start : Start) (ok : IsShape start.shape) (s : State) (good : Good start s) where
  -- a step at one aggregator
  module _ (p : ℕ) (kind : Kind) (below : ℕ) (step : ℕ → Step) (g : Stage) (total done : ℕ) (linked : List trace.Batch) where
    abbrev index : ℕ
    index = aggregator start.shape p (suc below)

    abbrev number : ℕ
    number = member start.shape (suc below) p

    abbrev old : Traced
    old = s.rows kind (suc below) index

    abbrev then : State
    then = local start s kind (suc below) p step

    module _ (turn : Turn (members start.shape (suc below) index) start.shape.rows old (traced old (step number)) number g total done linked) where
      pub local_stage : stage start then kind (suc below) p ≡ g
      local_stage = stage_here start ok s kind below p step ∙ turn.here

      pub local_other : (k : Kind) (l q : ℕ) → (k ≡ kind → l ≡ suc below → q ≡ p → ⊥) → stage start then k l q ≡ stage start s k l q
      local_other k l q other = stage_there start ok s kind below p step turn.there k l q other

      known_then : stage start s kind (suc (suc below)) p ≡ Out → KnownAs start s p kind below (stage start s kind below p) g → (q : ℕ) (k : Kind) (b : ℕ) → IsKnown start then q k b
      known_then upper knows q k b = go (cases_eq q p) (kind_cases k kind) (cases_eq b below) (cases_eq b (suc below))
        where
          elsewhere : (k ≡ kind → b ≡ below → q ≡ p → ⊥) → (k ≡ kind → b ≡ suc below → q ≡ p → ⊥) → IsKnown start then q k b
          elsewhere not above = known_as start s q k b (stage start s k b q) (stage start then k b q) (stage start s k (suc b) q) (stage start then k (suc b) q)
              (local_other k b q (λ x y z. above x y z)) (local_other k (suc b) q (λ x y z. not x (omega (arith, y)) z)) (good.known q k b)

          go : (q ≡ p) ⊎ (q ≢ p) → (k ≡ kind) ⊎ (k ≢ kind) → (b ≡ below) ⊎ (b ≢ below) → (b ≡ suc below) ⊎ (b ≢ suc below) → IsKnown start then q k b
          go (inr n) x y z = elsewhere (λ c d e. n e) (λ c d e. n e)
          go (inl m) (inr n) y z = elsewhere (λ c d e. n c) (λ c d e. n c)
          go (inl m) (inl x) (inl y) z =
              subst (λ (i : ℕ). IsKnown start then i k b) (sym m) (subst (λ (i : Kind). IsKnown start then p i b) (sym x) (subst (λ (i : ℕ). IsKnown start then p kind i) (sym y)
              (known_as start s p kind below (stage start s kind below p) (stage start then kind below p) g (stage start then kind (suc below) p) (local_other kind below p (λ c d e. omega (arith, d))) local_stage knows)))
          go (inl m) (inl x) (inr y) (inl z) =
              subst (λ (i : ℕ). IsKnown start then i k b) (sym m) (subst (λ (i : Kind). IsKnown start then p i b) (sym x) (subst (λ (i : ℕ). IsKnown start then p kind i) (sym z)
              (known_as start s p kind (suc below) (stage start then kind (suc below) p) (stage start then kind (suc below) p) Out (stage start then kind (suc (suc below)) p) refl (local_other kind (suc (suc below)) p (λ c d e. omega (arith, d)) ∙ upper) tt)))
          go (inl m) (inl x) (inr y) (inr z) = elsewhere (λ c d e. y d) (λ c d e. z d)

      pub local_keeps : stage start s kind (suc (suc below)) p ≡ Out → KnownAs start s p kind below (stage start s kind below p) g → AreKnown start s kind (suc below) index linked → Good start then
      local_keeps upper knows fresh = record {
        inv = λ k j i. put_at_case (λ k j i t. Inv (members start.shape j i) start.shape.rows t) s.rows kind (suc below) index (traced old (step number)) turn.inv k j i (good.inv k j i);
        reached = λ k j i. put_at_case (λ k j i t. IsReached (members start.shape j i) start.shape.rows t) s.rows kind (suc below) index (traced old (step number)) (turn.reached (good.reached kind (suc below) index)) k j i (good.reached k j i);
        known = known_then upper knows;
        batches = λ k j i. put_at_case (λ k j i t. AreKnown start s k j i t.linked) s.rows kind (suc below) index (traced old (step number)) (subst (λ (l : List trace.Batch). AreKnown start s kind (suc below) index l) (sym turn.linked_is) fresh) k j i (good.batches k j i);
        main = good.main;
        orderly = good.orderly;
      }

  -- one more arrival
  module _ (kind : Kind) (below index : ℕ) (arrival : Arrival) (sound : IsSound kind (s.arrivals kind) below arrival) (placed : IsPlaced (leaf start.shape) parent below index arrival) (on : GoesOn (s.arrivals kind (suc below) index) arrival) where
    abbrev more : State
    more = receives s kind (suc below) index arrival

    same_history : history_in start more ≡ history_in start s
    same_history = history_grows s.arrivals more.arrivals start.shape.levels good.orderly.formed (λ k. grows_by_arrival s.arrivals kind (suc below) index arrival k) s.steps good.orderly.sound_steps

    joined : history_in start s ++ [] ≡ history_in start more
    joined = append-nil (history_in start s) ∙ sym same_history

    pub receives_keeps : Good start more
    receives_keeps = record {
      inv = good.inv;
      reached = good.reached;
      known = λ q k b. subst (λ (past : List Call). Knows start.cap start.opening k (more.arrivals k) past b (aggregator start.shape q (suc b)) (Brings (s.callers q).last (aggregator start.shape q b) b (stage start s k b q)) (stage start s k (suc b) q)) joined
          (knows_grows start.cap start.opening k (s.arrivals k) (more.arrivals k) (history_in start s) [] (good.orderly.formed k) (grows_by_arrival s.arrivals kind (suc below) index arrival k) b (aggregator start.shape q (suc b)) (Brings (s.callers q).last (aggregator start.shape q b) b (stage start s k b q)) (Brings (s.callers q).last (aggregator start.shape q b) b (stage start s k b q)) (λ a h. h) (stage start s k (suc b) q) (good.known q k b));
      batches = λ k j i b is. subst (λ (past : List Call). IsKnownBatch start.cap start.opening (more.arrivals k) past j i b) joined
          (batch_grows start.cap start.opening k (s.arrivals k) (more.arrivals k) (history_in start s) [] (good.orderly.formed k) (grows_by_arrival s.arrivals kind (suc below) index arrival k) j i b (good.batches k j i b is));
      main = good.main ∙ ap (value start.cap start.opening) (sym same_history);
      orderly = orderly_arrival (leaf start.shape) parent s.arrivals start.shape.levels s.steps kind below index arrival good.orderly sound placed on;
    }

  -- one more step of the main word
  module _ (kind : Kind) (amount : ℕ) (step : MainStep) (sound : IsSoundStep s.arrivals start.shape.levels step) (on : StepGoesOn s.steps step) (moves : value start.cap start.opening (history_in start s ++ calls_of_step s.arrivals start.shape.levels step) ≡ after start.cap s.main kind amount) where
    abbrev entered : State
    entered = enters start s kind amount step

    longer : history_in start s ++ calls_of_step s.arrivals start.shape.levels step ≡ history_in start entered
    longer = sym (history_push s.arrivals start.shape.levels s.steps step)

    same_table : (table : Table) → Grows table table
    same_table table = record { further = λ level i. []; behind = λ level i. sym (append-nil (table level i)) }

    pub enters_keeps : Good start entered
    enters_keeps = record {
      inv = good.inv;
      reached = good.reached;
      known = λ q k b. subst (λ (past : List Call). Knows start.cap start.opening k (s.arrivals k) past b (aggregator start.shape q (suc b)) (Brings (s.callers q).last (aggregator start.shape q b) b (stage start s k b q)) (stage start s k (suc b) q)) longer
          (knows_grows start.cap start.opening k (s.arrivals k) (s.arrivals k) (history_in start s) (calls_of_step s.arrivals start.shape.levels step) (good.orderly.formed k) (same_table (s.arrivals k)) b (aggregator start.shape q (suc b)) (Brings (s.callers q).last (aggregator start.shape q b) b (stage start s k b q)) (Brings (s.callers q).last (aggregator start.shape q b) b (stage start s k b q)) (λ a h. h) (stage start s k (suc b) q) (good.known q k b));
      batches = λ k j i b is. subst (λ (past : List Call). IsKnownBatch start.cap start.opening (s.arrivals k) past j i b) longer
          (batch_grows start.cap start.opening k (s.arrivals k) (s.arrivals k) (history_in start s) (calls_of_step s.arrivals start.shape.levels step) (good.orderly.formed k) (same_table (s.arrivals k)) j i b (good.batches k j i b is));
      main = sym moves ∙ ap (value start.cap start.opening) longer;
      orderly = orderly_step (leaf start.shape) parent s.arrivals start.shape.levels s.steps step good.orderly sound on;
    }

  -- another position
  pub goes_keeps : (p : ℕ) (position : Position) → Good start (goes_to s p position)
  goes_keeps p position = record {
    inv = good.inv;
    reached = good.reached;
    known = λ q k b. subst (λ (last : Call). Knows start.cap start.opening k (s.arrivals k) (history_in start s) b (aggregator start.shape q (suc b)) (Brings last (aggregator start.shape q b) b (stage start s k b q)) (stage start s k (suc b) q))
        (put_case (λ (c : Caller). (s.callers q).last ≡ c.last) s.callers p (record (s.callers p) { position = position }) q (λ is. ap (λ (i : ℕ). (s.callers i).last) is) (λ other. refl)) (good.known q k b);
    batches = good.batches;
    main = good.main;
    orderly = good.orderly;
  }

  -- one more call of a pass whose leaf doesn't know of the last one
  module _ (p : ℕ) (call : Call) (idle : (k : Kind) → Knows start.cap start.opening k (s.arrivals k) (history_in start s) 0 (aggregator start.shape p 1) (λ a. ⊥) (stage start s k 1 p)) where
    abbrev spent : State
    spent = spends s p call

    same_table' : (table : Table) → Grows table table
    same_table' table = record { further = λ level i. []; behind = λ level i. sym (append-nil (table level i)) }

    known_own : (k : Kind) (b : ℕ) → IsKnown start spent p k b
    known_own k zero = subst (λ (past : List Call). Knows start.cap start.opening k (s.arrivals k) past 0 (aggregator start.shape p 1) (Brings (spent.callers p).last (aggregator start.shape p 0) 0 (stage start s k 0 p)) (stage start s k 1 p)) (append-nil (history_in start s))
        (knows_grows start.cap start.opening k (s.arrivals k) (s.arrivals k) (history_in start s) [] (good.orderly.formed k) (same_table' (s.arrivals k)) 0 (aggregator start.shape p 1) (λ a. ⊥) (Brings (spent.callers p).last (aggregator start.shape p 0) 0 (stage start s k 0 p)) (λ a h. absurd h) (stage start s k 1 p) (idle k))
    known_own k (suc b) = good.known p k (suc b)

    pub spends_keeps : Good start spent
    spends_keeps = record {
      inv = good.inv;
      reached = good.reached;
      known = λ q k b. elim (cases_eq q p) [
        | inl is ↦ subst (λ (i : ℕ). IsKnown start spent i k b) (sym is) (known_own k b)
        | inr ne ↦ subst (λ (last : Call). Knows start.cap start.opening k (s.arrivals k) (history_in start s) b (aggregator start.shape q (suc b)) (Brings last (aggregator start.shape q b) b (stage start s k b q)) (stage start s k (suc b) q)) (ap (λ (c : Caller). c.last) (sym (put_there s.callers p (after_call (s.callers p) call) q ne))) (good.known q k b)
      ];
      batches = good.batches;
      main = good.main;
      orderly = good.orderly;
    }
