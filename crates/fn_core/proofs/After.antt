-- What a step of an aggregator leaves of its member.
use Rattle.std.proofs.Common.{◌≡◌, inl, inr, Bool, true, false, cond, ℕ, ◌+◌, ◌-◌, ◌*◌, ◌%◌, ◌==◌, refl, sym, ap, ◌∙◌, eq-eqb, ne_eqb}
use Rattle.std.specs.Prelude.{◌&&◌}
use Rattle.std.proofs.lemmas.Bool.{cases_eq, and_right}
use Rattle.fn_model.specs.declared.Kind.{Kind}
use Rattle.fn_model.specs.Calls.{same_kind}
use Rattle.fn_rows.specs.declared.Field.{Field}
use Rattle.fn_rows.specs.declared.Field.TheVariants.{Lo, Base, Prev}
use Rattle.fn_rows.specs.declared.Stage.{Stage}
use Rattle.fn_rows.specs.declared.Stage.TheVariants.{Saw, Told, Waiting, Lead, Late, Shut, Based, Headed, Filled, Pointed, At, Got}
use Rattle.fn_rows.specs.Machine as step
use Rattle.fn_rows.specs.Machine.{Step, put, moved, announce_by, arrive_by, look_by, looked, close_by, hand_by, head_by, stored, filled, fill_by, point_by, publish_by, peek_by, peeked}
use Rattle.fn_rows.specs.Trace.{Traced, traced}
use Rattle.fn_rows.proofs.Put.{put_here}
use Rattle.fn_layout.specs.Tree.{aggregator, member}
use Rattle.fn_core.specs.declared.Start.{Start}
use Rattle.fn_model.specs.declared.Call.{Call}
use Rattle.fn_core.specs.State.{State, Position, local, goes_to, spends, after_call}
use Rattle.fn_core.specs.Machine.{place}
use Rattle.fn_core.specs.Words.{own}
use Rattle.fn_core.specs.After.{put_level, own_with, in_stage, in_position, told_stage, looked_stage, closed_stage, based_stage, headed_stage, pointed_stage, published_stage, published_ends}
use Rattle.fn_core.proofs.Put.{same_place, put_at_there}

and_all : (x y z : Bool) → (x && (y && z)) ≡ true → (x && y) ≡ true
and_all true true z h = refl
and_all true false z h = absurd (cc)
and_all false y z h = absurd (cc)

and_none : (x y z : Bool) → z ≡ true → (x && (y && z)) ≡ false → (x && y) ≡ false
and_none true true z e h = sym e ∙ h
and_none true false z e h = refl
and_none false y z e h = refl

module _ (start : Start) (s : State) (kind : Kind) (level pass : ℕ) (step : ℕ → Step) where
  abbrev next : Traced
  next = traced (place start s kind level pass) (step (member start.shape level pass))

  -- a reading of the pass's aggregators after a step of one of them
  level_read : {A : Type 0} (read : ℕ → Traced → A) (k : Kind) (j : ℕ)
      → read j ((local start s kind level pass step).rows k j (aggregator start.shape pass j)) ≡ put_level (λ k' j'. read j' (s.rows k' j' (aggregator start.shape pass j'))) kind level (read level (next)) k j
  level_read read k j =
      let shape = start.shape in
      let index : ℕ = aggregator shape pass level in
      elim (same_place k kind j level (aggregator shape pass j) index) [
        | inl is ↦ ap (λ (x : Bool). read j (cond x (traced (s.rows kind level index) (step (member shape level pass))) (s.rows k j (aggregator shape pass j)))) is.3
            ∙ ap (λ (x : ℕ). read x (traced (s.rows kind level index) (step (member shape level pass)))) is.1
            ∙ sym (ap (λ (x : Bool). cond x (read level (traced (s.rows kind level index) (step (member shape level pass)))) (read j (s.rows k j (aggregator shape pass j)))) (and_all (same_kind k kind) (j == level) (aggregator shape pass j == index) is.3))
        | inr not ↦ ap (read j) (put_at_there s.rows kind level index (traced (s.rows kind level index) (step (member shape level pass))) k j (aggregator shape pass j) not)
            ∙ sym (ap (λ (x : Bool). cond x (read level (traced (s.rows kind level index) (step (member shape level pass)))) (read j (s.rows k j (aggregator shape pass j)))) (level_none k j not))
      ]
    where
      level_none : (k : Kind) (j : ℕ) → (same_kind k kind && ((j == level) && (aggregator start.shape pass j == aggregator start.shape pass level))) ≡ false → (same_kind k kind && (j == level)) ≡ false
      level_none k j not = elim (cases_eq j level) [
        | inl e ↦ and_none (same_kind k kind) (j == level) (aggregator start.shape pass j == aggregator start.shape pass level) (eq-eqb (aggregator start.shape pass j) (aggregator start.shape pass level) (ap (aggregator start.shape pass) e)) not
        | inr ne ↦ and_right (same_kind k kind) (j == level) (ne_eqb j level ne)
      ]

  -- the pass's own after a step of its aggregator
  pub own_local : own start (local start s kind level pass step) pass
      ≡ own_with (own start s pass) kind level (next.stage (member start.shape level pass)) (next.found (member start.shape level pass)) (λ r. next.end (member start.shape level pass * start.shape.rows + r % start.shape.rows))
  own_local i = record {
    caller = s.callers pass;
    stages = λ k j. level_read (λ l t. t.stage (member start.shape l pass)) k j i;
    found = λ k j. level_read (λ l t. t.found (member start.shape l pass)) k j i;
    ends = λ k j. level_read (λ l t r. t.end (member start.shape l pass * start.shape.rows + r % start.shape.rows)) k j i;
  }

  -- .. where only its stage changes
  pub turns : (stage : Stage) → next.stage (member start.shape level pass) ≡ stage → ((q : ℕ) → next.found (member start.shape level pass) q ≡ (place start s kind level pass).found (member start.shape level pass) q)
      → ((r : ℕ) → next.end r ≡ (place start s kind level pass).end r) → own start (local start s kind level pass step) pass ≡ in_stage (own start s pass) kind level stage
  turns stage a b c = own_local ∙ (λ i. own_with (own start s pass) kind level (a i) (λ q. b q i) (λ r. c (member start.shape level pass * start.shape.rows + r % start.shape.rows) i))

-- the caller goes on
pub own_goes : (start : Start) (s : State) (pass : ℕ) (position : Position) → own start (goes_to s pass position) pass ≡ in_position (own start s pass) position
own_goes start s pass position i = record {
  caller = put_here s.callers pass (record (s.callers pass) { position = position }) pass refl i;
  stages = (own start s pass).stages;
  found = (own start s pass).found;
  ends = (own start s pass).ends;
}

pub own_spends : (start : Start) (s : State) (pass : ℕ) (call : Call) → own start (spends s pass call) pass ≡ record { caller = after_call (s.callers pass) call; stages = (own start s pass).stages; found = (own start s pass).found; ends = (own start s pass).ends }
own_spends start s pass call i = record {
  caller = put_here s.callers pass (after_call (s.callers pass) call) pass refl i;
  stages = (own start s pass).stages;
  found = (own start s pass).found;
  ends = (own start s pass).ends;
}

-- the stages that the steps leave
module _ (s : step.State) (m : ℕ) where
  pub announce_stage : (stage : Stage) → s.stage m ≡ stage → ((announce_by s m stage).stage m ≡ told_stage stage) × ((q : ℕ) → (announce_by s m stage).found m q ≡ s.found m q) × ((r : ℕ) → (announce_by s m stage).end r ≡ s.end r)
  announce_stage (Saw seen) e = (put_here s.stage m (Told seen) m refl, (λ q. refl), (λ r. refl))
  announce_stage _ e = (e, (λ q. refl), (λ r. refl))

  pub look_stage : (stage : Stage) → s.stage m ≡ stage → ((look_by s m stage).stage m ≡ looked_stage s.done stage) × ((q : ℕ) → (look_by s m stage).found m q ≡ s.found m q) × ((r : ℕ) → (look_by s m stage).end r ≡ s.end r)
  look_stage (Waiting at) e = (put_here s.stage m (looked at s.done) m refl, (λ q. refl), (λ r. refl))
  look_stage _ e = (e, (λ q. refl), (λ r. refl))

  pub close_stage : (stage : Stage) → s.stage m ≡ stage → ((close_by s m stage).stage m ≡ closed_stage s.total stage) × ((q : ℕ) → (close_by s m stage).found m q ≡ s.found m q) × ((r : ℕ) → (close_by s m stage).end r ≡ s.end r)
  close_stage (Lead at) e = (put_here s.stage m (Shut at s.total) m refl, (λ q. refl), (λ r. refl))
  close_stage _ e = (e, (λ q. refl), (λ r. refl))

  pub hand_stage : (b : ℕ) (stage : Stage) → s.stage m ≡ stage → ((hand_by s m b stage).stage m ≡ based_stage b stage) × ((q : ℕ) → (hand_by s m b stage).found m q ≡ s.found m q) × ((r : ℕ) → (hand_by s m b stage).end r ≡ s.end r)
  hand_stage b (Shut at hi) e = (put_here s.stage m (Based at hi b) m refl, (λ q. refl), (λ r. refl))
  hand_stage b _ e = (e, (λ q. refl), (λ r. refl))

  pub head_stage : (stage : Stage) → s.stage m ≡ stage → ((head_by s m stage).stage m ≡ headed_stage s.last stage) × ((q : ℕ) → (head_by s m stage).found m q ≡ s.found m q) × ((r : ℕ) → (head_by s m stage).end r ≡ s.end r)
  head_stage (Based at hi b) e = (put_here s.stage m (Headed at hi b s.last) m refl, (λ q. refl), (λ r. refl))
  head_stage (Late at) e = (put_here s.stage m (At at (s.last - 1)) m refl, (λ q. refl), (λ r. refl))
  head_stage _ e = (e, (λ q. refl), (λ r. refl))

  pub point_stage : (stage : Stage) → s.stage m ≡ stage → ((point_by s m stage).stage m ≡ pointed_stage stage) × ((q : ℕ) → (point_by s m stage).found m q ≡ s.found m q) × ((r : ℕ) → (point_by s m stage).end r ≡ s.end r)
  point_stage (Filled at hi b r) e = (put_here s.stage m (Pointed at hi b r) m refl, (λ q. refl), (λ r. refl))
  point_stage _ e = (e, (λ q. refl), (λ r. refl))

  pub fill_stage : (row : ℕ) (field : Field) (word : ℕ) (stage : Stage) → ((fill_by s m row field word stage).stage m ≡ filled row stage) × ((q : ℕ) → (fill_by s m row field word stage).found m q ≡ s.found m q) × ((r : ℕ) → (fill_by s m row field word stage).end r ≡ s.end r)
  fill_stage row Lo word stage = (put_here s.stage m (filled row stage) m refl, (λ q. refl), (λ r. refl))
  fill_stage row Base word stage = (put_here s.stage m (filled row stage) m refl, (λ q. refl), (λ r. refl))
  fill_stage row Prev word stage = (put_here s.stage m (filled row stage) m refl, (λ q. refl), (λ r. refl))

  pub publish_stage : (rows : ℕ) (stage : Stage) → s.stage m ≡ stage → ((publish_by s m stage).stage m ≡ published_stage stage) × ((q : ℕ) → (publish_by s m stage).found m q ≡ s.found m q)
      × ((r : ℕ) → (publish_by s m stage).end (m * rows + r % rows) ≡ published_ends rows m stage (λ x. s.end (m * rows + x % rows)) r)
  publish_stage rows (Pointed at hi b row) e = (put_here s.stage m (Got b 0) m refl, (λ q. refl), (λ r. refl))
  publish_stage rows _ e = (e, (λ q. refl), (λ r. refl))
