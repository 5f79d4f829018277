-- The rows that words name have passes, and rows of members are few.
use Rattle.std.proofs.Common.{◌≡◌, ◌≢◌, inl, inr, ℕ, zero, suc, ◌-◌, ◌/◌, ◌%◌, ◌<◌, refl, sym, ap, subst, ◌∙◌, arith}
use Rattle.std.proofs.lemmas.Nat.{div-mul-add, mod_below}
use Rattle.fn_model.specs.declared.Kind.{Kind}
use Rattle.fn_layout.specs.declared.shape.Shape.{Shape}
use Rattle.fn_layout.specs.Tree.{members, pass_of}
use Rattle.fn_layout.specs.Words.{IsAggregator, slot_number, row_number}
use Rattle.fn_layout.proofs.Members.{numbers_are_members}
use Rattle.fn_layout.proofs.Read.{ReadsSlot, reads_slot}
use Rattle.fn_core.specs.Words.{link, row_there, NamesMine}
use Rattle.fn_core.proofs.Public.{members_few}
use Rattle.fn_climb.specs.Course.{IsLink}

-- the row of a member is one of few
pub member_few : (shape : Shape) (level index n : ℕ) → n < members shape level index → n < 64
member_few shape level index n range = omega (arith, range, members_few shape level index)

owner_in : (shape : Shape) (kind : Kind) (level index r : ℕ) → IsAggregator shape kind level index → r / shape.rows < members shape level index → row_there shape kind level index r / shape.rows / shape.levels / 2 < shape.passes
owner_in shape kind level index r at range =
    let p : ℕ = pass_of shape level index (r / shape.rows) in
    let m = numbers_are_members shape level index (r / shape.rows) at.2 range in
    let within : r % shape.rows < shape.rows = mod_below r shape.rows (omega arith) in
    let whole : row_number shape p kind level (r % shape.rows) / shape.rows ≡ slot_number shape p kind level = div-mul-add (slot_number shape p kind level) shape.rows (r % shape.rows) within in
    let read : ReadsSlot shape p kind level (slot_number shape p kind level) = reads_slot shape p kind level at.0 at.1 in
    let owner : row_there shape kind level index r / shape.rows / shape.levels / 2 ≡ p = ap (λ (x : ℕ). x / shape.levels / 2) whole ∙ read.of_pass in
    let inside : p < shape.passes = m.0 in
    omega (arith, owner, inside)

owner_of : (shape : Shape) (kind : Kind) (level index row : ℕ) → IsAggregator shape kind level index → NamesMine shape level index row → link shape kind level index row ≢ 0 → (link shape kind level index row - 1) / shape.rows / shape.levels / 2 < shape.passes
owner_of shape kind level index zero at mine some_row = absurd (some_row refl)
owner_of shape kind level index (suc r) at (inl none) some_row = absurd (omega (arith, none))
owner_of shape kind level index (suc r) at (inr (q, e, range)) some_row =
    let same : q ≡ r = omega (arith, e) in
    let less : suc (row_there shape kind level index r) - 1 ≡ row_there shape kind level index r = omega arith in
    subst (λ (x : ℕ). x / shape.rows / shape.levels / 2 < shape.passes) (sym less) (owner_in shape kind level index r at (subst (λ (x : ℕ). x / shape.rows < members shape level index) same range))

-- the row that a word names is a pass's
pub owner_below : (shape : Shape) (word : ℕ) → IsLink shape word → word ≢ 0 → (word - 1) / shape.rows / shape.levels / 2 < shape.passes
owner_below shape word (kind, level, index, row, at, mine, is) some_row =
    subst (λ (x : ℕ). (x - 1) / shape.rows / shape.levels / 2 < shape.passes) (sym is) (owner_of shape kind level index row at mine (λ none. some_row (is ∙ none)))
