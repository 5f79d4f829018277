-- How the fields of a machine in code follow the changes of its state.
use Rattle.std.proofs.Common.{◌≡◌, ◌≢◌, inl, inr, ℕ, ◌<◌, List, length, get_or, set, sym, ◌∙◌, ap, subst, arith}
use Rattle.std.specs.Prelude.{Some, slice_get, slice_index_or, cond, ◌==◌}
use Rattle.std.proofs.lemmas.Bool.{eq-eqb, false≢true}
use Rattle.std.proofs.lemmas.Option.{get_or_from_slice_get, slice_get_within}
use Rattle.fn_model.specs.declared.Kind.{Kind}
use Rattle.fn_model.specs.Calls.{same_kind}
use Rattle.fn_model.proofs.Lists.{slice_get-set_same, slice_get-set_other}
use Rattle.fn_rows.specs.Aggregator.{Aggregator, Steps, state_of}
use Rattle.fn_rows.specs.Machine.{Step, Guard, member_of, put, after}
use Rattle.fn_rows.specs.Machine as rows_machine
use Rattle.fn_rows.specs.Aggregator as rows
use Rattle.fn_rows.specs.Trace.{Traced, traced}
use Rattle.fn_rows.proofs.Put.{put_case}
use Rattle.fn_layout.specs.declared.shape.Shape.{Shape}
use Rattle.fn_layout.specs.Tree.{aggregator, member, members}
use Rattle.fn_layout.specs.Words.{Value, IsAggregator, IsSlot, aggregator_number, number}
use Rattle.fn_layout.proofs.Tree.{aggregator_below}
use Rattle.fn_layout.proofs.Read.{names_are_distinct}
use Rattle.fn_layout.proofs.Members.{members_are_numbered}
use Rattle.fn_core.specs.declared.machine.Standing.{Standing}
use Rattle.fn_core.specs.declared.machine.Machine.{Machine}
use Rattle.fn_core.specs.State.{State, Caller, put_at, local}
use Rattle.fn_core.specs.Fields.{IsPlace, ArePlaces, AreStandings, Mirrors, standing_of}
use Rattle.fn_core.proofs.Places.{same_place, put_at_there, test_true, same_kind-refl}

-- an aggregator of a pass that makes calls at this level
pub own_place : (shape : Shape) (pass : ℕ) (kind : Kind) (level : ℕ) → IsSlot shape pass kind level → IsAggregator shape kind level (aggregator shape pass level)
own_place shape pass kind level slot = (slot.1, slot.2, aggregator_below shape pass level)

-- aggregators with one number are one
same_number : (shape : Shape) (k kind : Kind) (l level i index : ℕ) → IsAggregator shape k l i → IsAggregator shape kind level index → aggregator_number shape k l i ≡ aggregator_number shape kind level index
    → (k ≡ kind) × (l ≡ level) × (i ≡ index)
same_number shape k kind l level i index here there same =
    let names : Value k l i ≡ Value kind level index = names_are_distinct shape (Value k l i) (Value kind level index) here there (omega (arith, same)) in
    (cc, cc, cc)

module _ (shape : Shape) (places : List Aggregator) (rows : Kind → ℕ → ℕ → Traced) (are : ArePlaces shape places rows) (kind : Kind) (level index : ℕ) (inside : IsAggregator shape kind level index) where
  abbrev place_number : ℕ
  place_number = aggregator_number shape kind level index

  -- the aggregator has its place
  pub place_within : place_number < length places
  place_within = let here = are kind level index inside in slice_get_within places place_number here.0 here.1

  -- what was read there is the aggregator's value
  pub place_read : (a : Aggregator) → a ≡ get_or places place_number a → IsPlace shape level index (rows kind level index) a
  place_read a read =
      let here = are kind level index inside in
      subst (IsPlace shape level index (rows kind level index)) (sym (read ∙ get_or_from_slice_get places place_number here.0 a here.1)) here.2

  -- after a step of one aggregator
  pub places_after : (a b : Aggregator) (step : Step) → a ≡ get_or places place_number a → Steps a b step → ArePlaces shape (set places place_number b) (put_at rows kind level index (traced (rows kind level index) step))
  places_after a b step read steps k l i there =
      let here : IsPlace shape level index (rows kind level index) a = place_read a read in
      elim (same_place k kind l level i index) [
        | inl is ↦ (
          b,
          ap (slice_get (set places place_number b)) (ap (λ (x : Kind). aggregator_number shape x l i) is.0 ∙ ap (λ (x : ℕ). aggregator_number shape kind x i) is.1 ∙ ap (aggregator_number shape kind level) is.2)
              ∙ slice_get-set_same places place_number b place_within,
          record {
            members_are = steps.members ∙ here.members_are ∙ ap (λ (x : ℕ). members shape x index) (sym is.1) ∙ ap (members shape l) (sym is.2);
            rows_are = steps.rows ∙ here.rows_are;
            state_is = steps.state ∙ ap (λ (x : _). after x step) here.state_is ∙ sym (ap (λ t. (cond t (traced (rows kind level index) step) (rows k l i)).state) is.3);
          },
        )
        | inr not ↦
            let old = are k l i there in
            let other : aggregator_number shape k l i ≢ place_number = λ same. let e = same_number shape k kind l level i index there inside same in absurd (false≢true (sym not ∙ test_true (same_kind k kind) (l == level) (i == index) (ap (λ (x : Kind). same_kind k x) (sym e.0) ∙ same_kind-refl k) (eq-eqb l level e.1) (eq-eqb i index e.2))) in
            (old.0, slice_get-set_other places place_number (aggregator_number shape k l i) b old.0 other old.1, subst (λ (x : Traced). IsPlace shape l i x old.0) (sym (put_at_there rows kind level index (traced (rows kind level index) step) k l i not)) old.2)
      ]

module _ (shape : Shape) (standings : List Standing) (callers : ℕ → Caller) (are : AreStandings shape standings callers) (pass : ℕ) (inside : pass < shape.passes) where
  -- the pass has its place
  pub standing_within : pass < length standings
  standing_within = slice_get_within standings pass (standing_of (callers pass)) (are pass inside)

  -- what was read there is the pass's standing
  pub standing_read : (t : Standing) → t ≡ get_or standings pass t → t ≡ standing_of (callers pass)
  standing_read t read = read ∙ get_or_from_slice_get standings pass (standing_of (callers pass)) t (are pass inside)

  -- after one pass goes on
  pub standings_after : (t : Standing) (c : Caller) → t ≡ standing_of c → AreStandings shape (set standings pass t) (put callers pass c)
  standings_after t c is q range =
      put_case (λ (x : Caller). slice_get (set standings pass t) q ≡ Some (standing_of x)) callers pass c q
      (λ same. ap (slice_get (set standings pass t)) same ∙ slice_get-set_same standings pass t standing_within ∙ ap Some is)
      (λ other. slice_get-set_other standings pass q t (standing_of (callers q)) other (are q range))

-- after a step of the pass at its aggregator
module _ (m : Machine) (s : State) (w : Mirrors m s) (pass : ℕ) (kind : Kind) (level : ℕ) (slot : IsSlot m.start.shape pass kind level) where
  abbrev here : Traced
  here = s.rows kind level (aggregator m.start.shape pass level)

  abbrev here_number : ℕ
  here_number = aggregator_number m.start.shape kind level (aggregator m.start.shape pass level)

  pub here_within : here_number < length m.rows.items
  here_within = place_within m.start.shape m.rows.items s.rows w.places kind level (aggregator m.start.shape pass level) (own_place m.start.shape pass kind level slot)

  -- what was read is the pass's aggregator
  pub here_read : (k : ℕ) (a : Aggregator) → k ≡ here_number → a ≡ slice_index_or m.rows.items k a → IsPlace m.start.shape level (aggregator m.start.shape pass level) here a
  here_read k a is read =
      place_read m.start.shape m.rows.items s.rows w.places kind level (aggregator m.start.shape pass level) (own_place m.start.shape pass kind level slot) a
      (subst (λ (i : ℕ). a ≡ slice_index_or m.rows.items i a) is read)

  -- the pass may take there what the state lets it take
  pub here_may : (k : ℕ) (a : Aggregator) → k ≡ here_number → a ≡ slice_index_or m.rows.items k a → (n : ℕ) → n ≡ member m.start.shape level pass → (step : ℕ → Step) → member_of (step n) ≡ n
      → Guard (members m.start.shape level (aggregator m.start.shape pass level)) m.start.shape.rows here.state (step (member m.start.shape level pass)) → rows.May a (step n)
  here_may k a is read n number step own guard =
      let place = here_read k a is read in
      let inside : member m.start.shape level pass < members m.start.shape level (aggregator m.start.shape pass level) = (members_are_numbered m.start.shape pass level slot.0).0 in (
        omega (arith, own, number, place.members_are, inside),
        subst (λ (x : ℕ). Guard a.members a.rows (state_of a) (step x)) (sym number)
            (subst (λ (x : rows_machine.State). Guard a.members a.rows x (step (member m.start.shape level pass))) (sym place.state_is)
            (subst (λ (x : ℕ). Guard a.members x here.state (step (member m.start.shape level pass))) (sym place.rows_are)
            (subst (λ (x : ℕ). Guard x m.start.shape.rows here.state (step (member m.start.shape level pass))) (sym place.members_are) guard))),
      )

  pub here_takes : (k : ℕ) (a b : Aggregator) → k ≡ here_number → a ≡ slice_index_or m.rows.items k a → (n : ℕ) → n ≡ member m.start.shape level pass → (step : ℕ → Step) → Steps a b (step n)
      → ArePlaces m.start.shape (set m.rows.items k b) (local m.start s kind level pass step).rows
  here_takes k a b is read n number step steps =
      subst (λ (i : ℕ). ArePlaces m.start.shape (set m.rows.items i b) (local m.start s kind level pass step).rows) (sym is)
      (places_after m.start.shape m.rows.items s.rows w.places kind level (aggregator m.start.shape pass level) (own_place m.start.shape pass kind level slot) a b (step (member m.start.shape level pass))
      (subst (λ (i : ℕ). a ≡ slice_index_or m.rows.items i a) is read) (subst (λ (i : ℕ). Steps a b (step i)) number steps))
