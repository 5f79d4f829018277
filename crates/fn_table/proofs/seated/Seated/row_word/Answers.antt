use Rattle.std.proofs.Common.{◌≡◌, ◌+◌, ◌*◌, sym, ap, ◌∙◌, arith}
use Rattle.fn_rows.specs.declared.Field.TheVariants.{Lo}
use Rattle.fn_layout.specs.declared.shape.Shape.{Shape}
use Rattle.fn_layout.specs.Words.{row_word_number}
use Rattle.fn_layout.proofs.Numbers.{field_number_below}
use Rattle.fn_layout.proofs.Read.{row_named_below, number-row_name}
use Rattle.fn_table.specs.declared.spots.Spots.{Spots}
use Rattle.fn_table.specs.Seen.{PassView}
use Rattle.fn_layout.proofs.Rows.{rows_begin_low, rows_few}
use Rattle.fn_table.proofs.seated.Seated.row_word.Goals as goal

-- where the rows of the pass's table begin
begin : (v : PassView) (shape : Shape) (spots : Spots) → shape ≡ v.seen.start.shape → spots.rows ≡ row_word_number shape 0 Lo → spots.rows ≡ row_word_number v.seen.start.shape 0 Lo
begin v shape spots same is = is ∙ ap (λ (s : Shape). row_word_number s 0 Lo) same

pub overflow_mul-result : goal.overflow_mul-result
overflow_mul-result c =
    let few = rows_few c.args.self.now.seen.start.shape c.args.row c.args.field c.requires in
    omega (arith, few)

pub overflow_add-result : goal.overflow_add-result
overflow_add-result c =
    let few = rows_few c.args.self.now.seen.start.shape c.args.row c.args.field c.requires in
    omega (arith, few, c.field_number.ensures, field_number_below c.args.field)

pub overflow_add-result-2 : goal.overflow_add-result-2
overflow_add-result-2 c =
    let shape = c.args.self.now.seen.start.shape in
    let rows = begin c.args.self.now _ c.self.inside.spots (ap (λ (p : PassView). p.seen.start.shape) c.self.view_is) (ap (λ (x : Spots). x.rows) c.self.invariant.4) in
    omega (arith, rows, rows_begin_low shape, rows_few shape c.args.row c.args.field c.requires, c.field_number.ensures, field_number_below c.args.field)

pub returns : goal.returns
returns c =
    let shape = c.args.self.now.seen.start.shape in
    let rows = begin c.args.self.now _ c.self.inside.spots (ap (λ (p : PassView). p.seen.start.shape) c.self.view_is) (ap (λ (x : Spots). x.rows) c.self.invariant.4) in
    let name = number-row_name shape c.args.row c.args.field (row_named_below shape c.args.row c.args.field c.requires) in
    let sum : c.self.inside.spots.rows + (3 * c.args.row + c.field_number.result) ≡ row_word_number shape c.args.row c.args.field = omega (arith, rows, c.field_number.ensures) in
    sum ∙ sym name
