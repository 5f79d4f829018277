-- Which row a late call may read.
use Rattle.std.proofs.Common.{◌≡◌, ◌⊎◌, inl, inr, ℕ, ◌+◌, ◌*◌, ◌/◌, ◌%◌, ◌<◌, arith, Bool, false, refl, sym, ap, subst, ◌∙◌}
use Rattle.std.specs.Prelude.{IsTrue, ◌↔◌, ◌==◌}
use Rattle.std.proofs.lemmas.Bool.{false≢true, eqb-true, eq-eqb}
use Rattle.std.proofs.lemmas.Nat.{div-mul-add, mod-mul-add, mod_below}
use Rattle.fn_model.specs.declared.Kind.{Kind}
use Rattle.fn_rows.specs.declared.Field.{Field}
use Rattle.fn_rows.specs.declared.Stage.{Stage}
use Rattle.fn_rows.specs.declared.Stage.TheVariants.{At, Over, Hit}
use Rattle.fn_layout.specs.declared.shape.Shape.{Shape}
use Rattle.fn_layout.specs.Tree.{aggregator, member, members}
use Rattle.fn_layout.specs.Words.{slot_number, row_number}
use Rattle.fn_layout.proofs.Members.{member_apart}
use Rattle.fn_core.specs.declared.Move.TheVariants.{Peek}
use Rattle.fn_core.specs.State.{Start, Position, Resting, Trying, Climbing, Deciding, State, stage}
use Rattle.fn_core.specs.Machine.{May, MayPeek, Names}
use Rattle.fn_core.specs.Words.{row_there}
use Rattle.fn_core.proofs.Names.{there_named}

-- what a number at an aggregator says of the row that it names
names_parts : (shape : Shape) (pass : ℕ) (kind : Kind) (level row n number : ℕ) → n < shape.rows → row ≡ row_number shape pass kind level n → number ≡ member shape level pass * shape.rows + row % shape.rows → (number / shape.rows ≡ member shape level pass) × (number % shape.rows ≡ n)
names_parts shape pass kind level row n number less is same =
    let below : row % shape.rows < shape.rows = mod_below row shape.rows (omega arith) in (
      ap (λ (x : ℕ). x / shape.rows) same ∙ div-mul-add (member shape level pass) shape.rows (row % shape.rows) below,
      ap (λ (x : ℕ). x % shape.rows) same ∙ mod-mul-add (member shape level pass) shape.rows (row % shape.rows) below ∙ ap (λ (x : ℕ). x % shape.rows) is ∙ mod-mul-add (slot_number shape pass kind level) shape.rows n less,
    )

-- only one row has a number at an aggregator
one_row : (shape : Shape) (kind : Kind) (level index row other number : ℕ) → Names shape kind level index row number → Names shape kind level index other number → row ≡ other
one_row shape kind level index row other number (p, n, at, (less, is), same) (q, k, there, (under, also), too) =
    let a = names_parts shape p kind level row n number less is same in
    let b = names_parts shape q kind level other k number under also too in
    let pass : p ≡ q = member_apart shape p q level (at ∙ sym there) (sym a.0 ∙ b.0) in
    is ∙ ap (λ (x : ℕ). row_number shape x kind level n) pass ∙ ap (row_number shape q kind level) (sym a.1 ∙ b.1) ∙ sym also

-- the row that has this number is the one that the number names
pub reads_row : (shape : Shape) (kind : Kind) (level pass r row there : ℕ) → r / shape.rows < members shape level (aggregator shape pass level) → there ≡ row_there shape kind level (aggregator shape pass level) r
    → IsTrue (there == row) ↔ Names shape kind level (aggregator shape pass level) row r
reads_row shape kind level pass r row there range is =
    let index : ℕ = aggregator shape pass level in
    let named = there_named shape kind level pass r range in (
      (λ yes. subst (λ (x : ℕ). Names shape kind level index x r) (sym is ∙ eqb-true there row yes) named),
      (λ names. eq-eqb there row (is ∙ one_row shape kind level index (row_there shape kind level index r) row r named names)),
    )

-- a peek by where the pass stands
abbrev pub MayPeekAt : Start → State → ℕ → ℕ → Field → Position → Type 0
MayPeekAt start s pass row field (Climbing kind level) = MayPeek start kind level (aggregator start.shape pass level) (stage start s kind level pass) row field
MayPeekAt start s pass row field _ = ⊥

peek_guard : (start : Start) (kind : Kind) (level index row : ℕ) (g : Stage) (field : Field) → MayPeek start kind level index g row field → ((at r : ℕ) × (g ≡ At at r)) ⊎ (((at r : ℕ) × (g ≡ Over at r)) ⊎ ((at r lo : ℕ) × (g ≡ Hit at r lo)))
peek_guard start kind level index row (At at r) field h = inl (at, r, refl)
peek_guard start kind level index row (Over at r) field h = inr (inl (at, r, refl))
peek_guard start kind level index row (Hit at r lo) field h = inr (inr (at, r, lo, refl))
peek_guard start kind level index row _ field h = absurd h

peeks_at : (start : Start) (s : State) (pass row : ℕ) (field : Field) (position : Position) → May start s pass (Peek row field) → (s.callers pass).position ≡ position → MayPeekAt start s pass row field position
peeks_at start s pass row field position (kind, level, climbs, asks) is = subst (MayPeekAt start s pass row field) (sym climbs.0 ∙ is) asks

at_peeks : (start : Start) (s : State) (pass row : ℕ) (field : Field) (position : Position) → (s.callers pass).position ≡ position → MayPeekAt start s pass row field position → May start s pass (Peek row field)
at_peeks start s pass row field (Climbing kind level) is h = (kind, level, (is, peek_guard start kind level (aggregator start.shape pass level) row (stage start s kind level pass) field h), h)
at_peeks start s pass row field Resting is h = absurd h
at_peeks start s pass row field (Trying word) is h = absurd h
at_peeks start s pass row field (Deciding kind level word) is h = absurd h

pub decides_peek : (start : Start) (s : State) (pass row : ℕ) (field : Field) (position : Position) (result : Bool) → (s.callers pass).position ≡ position → IsTrue result ↔ MayPeekAt start s pass row field position → IsTrue result ↔ May start s pass (Peek row field)
decides_peek start s pass row field position result is tied = ((λ yes. at_peeks start s pass row field position is (tied.0 yes)), (λ may. tied.1 (peeks_at start s pass row field position may is)))

-- no peek
pub no_peek : (start : Start) (s : State) (pass row : ℕ) (field : Field) (position : Position) → ((kind : Kind) (level : ℕ) → position ≡ Climbing kind level → ⊥) → IsTrue false ↔ MayPeekAt start s pass row field position
no_peek start s pass row field (Climbing kind level) never = absurd (never kind level refl)
no_peek start s pass row field Resting never = ((λ yes. absurd (false≢true yes)), (λ h. absurd h))
no_peek start s pass row field (Trying word) never = ((λ yes. absurd (false≢true yes)), (λ h. absurd h))
no_peek start s pass row field (Deciding kind level word) never = ((λ yes. absurd (false≢true yes)), (λ h. absurd h))

-- the field and the stage of a peek are these
pub peeks_as : (start : Start) (kind : Kind) (level index row : ℕ) (field next : Field) (g held here : Stage) (result : Bool) → field ≡ next → held ≡ g → held ≡ here → IsTrue result ↔ MayPeek start kind level index g row next → IsTrue result ↔ MayPeek start kind level index here row field
peeks_as start kind level index row field next g held here result asked is there tied =
    subst (λ (f : Field). IsTrue result ↔ MayPeek start kind level index here row f) (sym asked) (subst (λ (x : Stage). IsTrue result ↔ MayPeek start kind level index x row next) (sym is ∙ there) tied)
