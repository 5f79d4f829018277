-- Which row a call may fill.
use Rattle.std.proofs.Common.{◌≡◌, ℕ, ◌*◌, ◌/◌, ◌%◌, ◌<◌, arith, Bool, false, List, refl, sym, ap, subst, ◌∙◌, slice_index_or}
use Rattle.std.specs.Prelude.{IsTrue, ◌↔◌}
use Rattle.std.proofs.lemmas.Bool.{false≢true}
use Rattle.std.proofs.lemmas.Nat.{div-mul-add, mod_below, row_fits}
use Rattle.fn_model.specs.declared.Kind.{Kind}
use Rattle.fn_rows.specs.Aggregator.{Aggregator, state_of}
use Rattle.fn_rows.specs.Machine as rows
use Rattle.fn_rows.specs.Machine.{IsFree}
use Rattle.fn_rows.specs.declared.Field.{Field}
use Rattle.fn_rows.specs.declared.Field.TheVariants.{Lo}
use Rattle.fn_rows.specs.declared.Stage.TheVariants.{Headed}
use Rattle.fn_layout.specs.Tree.{aggregator, member, members}
use Rattle.fn_layout.specs.Words.{IsSlot, aggregator_number}
use Rattle.fn_layout.proofs.Members.{members_are_numbered}
use Rattle.fn_core.specs.declared.Event.{Event}
use Rattle.fn_core.specs.declared.machine.Machine.{Machine}
use Rattle.fn_core.specs.declared.Move.TheVariants.{Fill}
use Rattle.fn_core.specs.State.{Start, Position, Resting, Trying, Climbing, Deciding, State, stage, opened}
use Rattle.fn_core.specs.Machine.{Climbs, IsRow, May, fills, local_row, place, run, word_of}
use Rattle.fn_core.specs.Fields.{Stands}
use Rattle.fn_core.proofs.Taken.{there}

-- a fill by where the pass stands
abbrev pub MayFillAt : Start → State → ℕ → ℕ → Field → Position → Type 0
MayFillAt start s pass row field (Climbing kind level) = ((n : ℕ) × IsRow start.shape pass kind level row n) × Climbs start s pass kind level (fills start s kind level pass row field)
MayFillAt start s pass row field _ = ⊥

fills_at : (start : Start) (s : State) (pass row : ℕ) (field : Field) (position : Position) → May start s pass (Fill row field) → (s.callers pass).position ≡ position → MayFillAt start s pass row field position
fills_at start s pass row field position (kind, level, n, climbs, mine) is = subst (MayFillAt start s pass row field) (sym climbs.0 ∙ is) ((n, mine), climbs)

at_fills : (start : Start) (s : State) (pass row : ℕ) (field : Field) (position : Position) → MayFillAt start s pass row field position → May start s pass (Fill row field)
at_fills start s pass row field (Climbing kind level) (own, climbs) = (kind, level, own.0, climbs, own.1)
at_fills start s pass row field Resting h = absurd h
at_fills start s pass row field (Trying word) h = absurd h
at_fills start s pass row field (Deciding kind level word) h = absurd h

pub decides_fill : (start : Start) (s : State) (pass row : ℕ) (field : Field) (position : Position) (result : Bool) → (s.callers pass).position ≡ position → IsTrue result ↔ MayFillAt start s pass row field position → IsTrue result ↔ May start s pass (Fill row field)
decides_fill start s pass row field position result is tied = ((λ yes. at_fills start s pass row field position (tied.0 yes)), (λ may. tied.1 (fills_at start s pass row field position may is)))

-- no fill
pub no_fill : (start : Start) (s : State) (pass row : ℕ) (field : Field) (position : Position) → ((kind : Kind) (level : ℕ) → position ≡ Climbing kind level → ⊥) → IsTrue false ↔ MayFillAt start s pass row field position
no_fill start s pass row field (Climbing kind level) never = absurd (never kind level refl)
no_fill start s pass row field Resting never = ((λ yes. absurd (false≢true yes)), (λ h. absurd h))
no_fill start s pass row field (Trying word) never = ((λ yes. absurd (false≢true yes)), (λ h. absurd h))
no_fill start s pass row field (Deciding kind level word) never = ((λ yes. absurd (false≢true yes)), (λ h. absurd h))

module _ (start : Start) (s : State) (pass : ℕ) (kind : Kind) (level row : ℕ) where
  abbrev number : ℕ
  number = local_row start.shape level pass row

  -- the row may be filled
  abbrev pub HasFree : Type 0
  HasFree = IsFree (members start.shape level (aggregator start.shape pass level)) (place start s kind level pass).state (member start.shape level pass) number

  is_free : Climbs start s pass kind level (fills start s kind level pass row Lo) → HasFree
  is_free (place, (at, hi, b, h, is, mine, free, stores)) = free

  lo_fills : (at hi b h : ℕ) → (s.callers pass).position ≡ Climbing kind level → stage start s kind level pass ≡ Headed at hi b h → HasFree → Climbs start s pass kind level (fills start s kind level pass row Lo)
  lo_fills at hi b h climbs is free =
      let m : ℕ = member start.shape level pass in
      let mine : number / start.shape.rows ≡ m = div-mul-add m start.shape.rows (row % start.shape.rows) (mod_below row start.shape.rows (omega arith)) in
      (climbs, (at, hi, b, h, is, mine, free, ap (word_of Lo) is))

  -- a call begins to fill a row where the row is free
  pub fills_first : (field : Field) (at hi b h : ℕ) (result : Bool) → field ≡ Lo → (s.callers pass).position ≡ Climbing kind level → stage start s kind level pass ≡ Headed at hi b h → IsTrue result ↔ HasFree
      → IsTrue result ↔ Climbs start s pass kind level (fills start s kind level pass row field)
  fills_first field at hi b h result first climbs is tied =
      subst (λ (f : Field). IsTrue result ↔ Climbs start s pass kind level (fills start s kind level pass row f)) (sym first)
      ((λ yes. lo_fills at hi b h climbs is (tied.0 yes)), (λ may. tied.1 (is_free may)))

-- a row of the pass is free where it is free in what was read
pub free_there : (m : Machine) (log : List Event) (stands : Stands m log) (pass : ℕ) (kind : Kind) (level : ℕ) (slot : IsSlot m.start.shape pass kind level) (row k : ℕ) (a : Aggregator) → k ≡ aggregator_number m.start.shape kind level (aggregator m.start.shape pass level) → a ≡ slice_index_or m.rows.items k a
    → (n number : ℕ) → n ≡ member m.start.shape level pass → number ≡ local_row m.start.shape level pass row → (result : Bool) → IsTrue result ↔ IsFree a.members (state_of a) n number
    → IsTrue result ↔ HasFree m.start (run m.start log (opened m.start)) pass kind level row
free_there m log stands pass kind level slot row k a is read n number own named result tied =
    let at = there m log stands pass kind level slot k a is read in
    let t = (place m.start (run m.start log (opened m.start)) kind level pass).state in
    let all : ℕ = members m.start.shape level (aggregator m.start.shape pass level) in
    let same : IsFree a.members (state_of a) n number ≡ HasFree m.start (run m.start log (opened m.start)) pass kind level row =
    ap (λ (x : ℕ). IsFree x (state_of a) n number) at.members_are ∙ ap (λ (x : rows.State). IsFree all x n number) at.state_is ∙ ap (λ (x : ℕ). IsFree all t x number) own ∙ ap (IsFree all t (member m.start.shape level pass)) named in
    subst (λ (X : Type 0). IsTrue result ↔ X) same tied

-- .. which has the row
pub row_in : (m : Machine) (log : List Event) (stands : Stands m log) (pass : ℕ) (kind : Kind) (level : ℕ) (slot : IsSlot m.start.shape pass kind level) (row k : ℕ) (a : Aggregator) → k ≡ aggregator_number m.start.shape kind level (aggregator m.start.shape pass level) → a ≡ slice_index_or m.rows.items k a
    → (number : ℕ) → number ≡ local_row m.start.shape level pass row → number < a.members * a.rows
row_in m log stands pass kind level slot row k a is read number named =
    let at = there m log stands pass kind level slot k a is read in
    let fits = row_fits (member m.start.shape level pass) m.start.shape.rows (members m.start.shape level (aggregator m.start.shape pass level)) m.start.shape.rows (members_are_numbered m.start.shape pass level slot.0).0 (omega arith) in
    rw (named, at.members_are, at.rows_are) (omega (arith, fits, mod_below row m.start.shape.rows (omega arith)))
