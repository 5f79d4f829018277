-- The members of an aggregator in turn: between two of them stands none of its passes.
use Rattle.std.proofs.Common.{◌≡◌, ◌≢◌, ℕ, zero, suc, ◌+◌, ◌<◌, ◌≤◌, inl, inr, sym, ap, ◌∙◌, arith, add-one}
use Rattle.std.proofs.lemmas.Bool.{cases_order}
use Rattle.fn_layout.specs.declared.shape.Shape.{Shape}
use Rattle.fn_layout.specs.Tree.{width, aggregator, members, member, pass_of}
use Rattle.fn_layout.proofs.Members.{members_are_numbered, numbers_are_members, members_rise}

-- the passes below this number were gone by, once so many members were
abbrev pub passed : Shape → ℕ → ℕ → ℕ → ℕ
passed shape level index zero = 0
passed shape level index (suc number) = suc (pass_of shape level index number)

-- .. and with the member at hand
pub passed_more : (shape : Shape) (level index number : ℕ) → pass_of shape level index number + 1 ≡ passed shape level index (number + 1)
passed_more shape level index number = add-one (pass_of shape level index number) ∙ sym (ap (passed shape level index) (add-one number))

-- From one pass up to another, none is of the aggregator
pub record HasNone (shape : Shape) (level index from to : ℕ) : Type 0 where
  pub rises : from ≤ to
  pub within : to ≤ shape.passes
  pub none : (pass : ℕ) → from ≤ pass → pass < to → aggregator shape pass level ≢ index

module _ (shape : Shape) (level index : ℕ) (inside : index < width shape level) where
  -- a pass of the aggregator that is ahead has a number that is
  number_ahead : (number pass : ℕ) → number ≤ members shape level index → aggregator shape pass level ≡ index → passed shape level index number ≤ pass → number ≤ member shape level pass
  number_ahead zero pass few same ahead = omega arith
  number_ahead (suc number) pass few same ahead =
      let at = numbers_are_members shape level index number inside (omega (arith, few)) in
      omega (arith, members_rise shape (pass_of shape level index number) pass level (at.1 ∙ sym same) (omega (arith, ahead)), at.2)

  passed_before : (number : ℕ) → number < members shape level index → passed shape level index number ≤ pass_of shape level index number
  passed_before zero less = omega arith
  passed_before (suc number) less =
      let earlier = numbers_are_members shape level index number inside (omega (arith, less)) in
      let later = numbers_are_members shape level index (suc number) inside less in
      elim (cases_order (pass_of shape level index (suc number)) (pass_of shape level index number)) [
        | inl e ↦ absurd (omega (arith, ap (member shape level) e, earlier.2, later.2))
        | inr o ↦ (elim o [
          | inl less ↦ absurd (omega (arith, members_rise shape (pass_of shape level index (suc number)) (pass_of shape level index number) level (later.1 ∙ sym earlier.1) less, earlier.2, later.2))
          | inr more ↦ omega (arith, more)
        ])
      ]

  passed_within : (number : ℕ) → number ≤ members shape level index → passed shape level index number ≤ shape.passes
  passed_within zero few = omega arith
  passed_within (suc number) few = omega (arith, (numbers_are_members shape level index number inside (omega (arith, few))).0)

  -- none stands before the next member
  pub before_next : (number : ℕ) → number < members shape level index → HasNone shape level index (passed shape level index number) (pass_of shape level index number)
  before_next number less =
      let at = numbers_are_members shape level index number inside less in record {
        rises = passed_before number less;
        within = omega (arith, at.0);
        none = λ pass ahead before same.
            omega (arith, number_ahead number pass (omega (arith, less)) same ahead, members_rise shape pass (pass_of shape level index number) level (same ∙ sym at.1) before, at.2);
      }

  -- .. and none behind the last
  pub behind_last : (number : ℕ) → number ≡ members shape level index → HasNone shape level index (passed shape level index number) shape.passes
  behind_last number last = record {
    rises = passed_within number (omega (arith, last));
    within = omega arith;
    none = λ pass ahead before same.
        omega (arith, number_ahead number pass (omega (arith, last)) same ahead, (members_are_numbered shape pass level before).0, ap (members shape level) same, last);
  }
