-- The row that a late call has in hand has a number in the layout.
use Rattle.std.proofs.Common.{◌≡◌, ℕ, ◌+◌, ◌*◌, ◌/◌, ◌%◌, ◌<◌, List, refl, sym, ◌∙◌, ap, subst, arith}
use Rattle.std.specs.Prelude.{Some}
use Rattle.std.proofs.lemmas.Nat.{mod-mul-add, mod_below, div-add-mod'}
use Rattle.fn_model.specs.declared.Kind.{Kind}
use Rattle.fn_rows.specs.declared.Stage.{Stage}
use Rattle.fn_rows.specs.declared.Stage.TheVariants.{At, Over, Hit}
use Rattle.fn_rows.specs.Trace.{Batch, Traced}
use Rattle.fn_rows.specs.Law.{IsIn, row_in_hand}
use Rattle.fn_rows.proofs.Invariant.{Inv, Calm}
use Rattle.fn_layout.specs.declared.shape.Shape.{Shape}
use Rattle.fn_layout.specs.Tree.{aggregator, member, members, pass_of}
use Rattle.fn_layout.specs.Words.{slot_number, row_number}
use Rattle.fn_layout.proofs.Tree.{aggregator_below}
use Rattle.fn_layout.proofs.Members.{numbers_are_members}
use Rattle.fn_core.specs.declared.Event.{Event}
use Rattle.fn_core.specs.State.{Start, State, stage, opened}
use Rattle.fn_core.specs.Machine.{IsStart, Legal, Names, run}
use Rattle.fn_core.specs.Words.{row_there}
use Rattle.fn_core.specs.Laws.{RowsHaveNames}
use Rattle.fn_core.proofs.Laws.{holds}
use Rattle.fn_core.proofs.Linked.{linked_owned}

-- a row of a member has a number
pub there_named : (shape : Shape) (kind : Kind) (level p r : ℕ) → r / shape.rows < members shape level (aggregator shape p level) → Names shape kind level (aggregator shape p level) (row_there shape kind level (aggregator shape p level) r) r
there_named shape kind level p r range =
    let index : ℕ = aggregator shape p level in
    let q : ℕ = pass_of shape level index (r / shape.rows) in
    let n : ℕ = r % shape.rows in
    let m = numbers_are_members shape level index (r / shape.rows) (aggregator_below shape p level) range in
    let less : n < shape.rows = mod_below r shape.rows (omega arith) in
    let rest : row_number shape q kind level n % shape.rows ≡ n = mod-mul-add (slot_number shape q kind level) shape.rows n less in
    (q, n, m.1, (less, refl), sym (div-add-mod' r shape.rows) ∙ ap (λ (x : ℕ). x * shape.rows + n) (sym m.2) ∙ ap (λ (x : ℕ). member shape level q * shape.rows + x) (sym rest))

-- the batch that a late member has in hand
batch_in_hand : (done announced : ℕ) (linked : List Batch) (g : Stage) (r : ℕ) → row_in_hand g ≡ Some r → Calm done announced linked g → (b : Batch) × IsIn b linked × (b.row ≡ r)
batch_in_hand done announced linked (At at row) r is c = let same : row ≡ r = cc (is) in (c.0, c.1, c.2 ∙ same)
batch_in_hand done announced linked (Over at row) r is c = let same : row ≡ r = cc (is) in (c.0, c.1, c.2 ∙ same)
batch_in_hand done announced linked (Hit at row lo) r is c = let same : row ≡ r = cc (is) in (c.0, c.1, c.2 ∙ same)
batch_in_hand done announced linked _ r is c = absurd (cc (is))

-- the row that a late call has in hand is a member's
pub hand_owned : (start : Start) (log : List Event) → IsStart start → Legal start log (opened start) → (p : ℕ) (kind : Kind) (level r : ℕ) → row_in_hand (stage start (run start log (opened start)) kind level p) ≡ Some r
    → r / start.shape.rows < members start.shape level (aggregator start.shape p level)
hand_owned start log ok legal p kind level r is =
    let s : State = run start log (opened start) in
    let index : ℕ = aggregator start.shape p level in
    let m : ℕ = member start.shape level p in
    let t : Traced = s.rows kind level index in
    let inv : Inv (members start.shape level index) start.shape.rows t = (holds start log ok legal).0.good.inv kind level index in
    let batch = batch_in_hand t.done (t.announced m) t.linked (t.stage m) r is (inv.calm m) in
    subst (λ (x : ℕ). x / start.shape.rows < members start.shape level index) batch.2 (linked_owned start log ok legal kind level index batch.0 batch.1)

pub rows_have_names : RowsHaveNames
rows_have_names start log ok legal p kind level r is = there_named start.shape kind level p r (hand_owned start log ok legal p kind level r is)
