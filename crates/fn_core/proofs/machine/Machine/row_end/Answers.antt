use Rattle.std.proofs.Common.{◌≡◌, ℕ, ◌+◌, ◌*◌, ◌%◌, ◌<◌, mul_comm, sym, subst, ◌∙◌, ap, arith}
use Rattle.std.proofs.lemmas.Nat.{mul-add-lt, mod-mul-add, mod_below}
use Rattle.fn_layout.specs.Tree.{aggregator, member, members}
use Rattle.fn_layout.proofs.Members.{members_are_numbered}
use Rattle.fn_rows.specs.Machine as rows
use Rattle.fn_core.proofs.Mirror.{here_read}
use Rattle.fn_core.proofs.Taken.{in_rows, there}
use Rattle.fn_core.proofs.machine.Machine.row_end.Goals as goal

pub index-requires : goal.index-requires
index-requires c = in_rows c.args.self.now c.requires.reached.0 c.requires.reached.1 c.args.pass c.args.kind c.args.level c.requires.slot _ c.seat-place.ensures.place

pub end-requires : goal.end-requires
end-requires c =
    let m = c.args.self.now in
    let shape = m.start.shape in
    let place = there m c.requires.reached.0 c.requires.reached.1 c.args.pass c.args.kind c.args.level c.requires.slot _ _ c.seat-place.ensures.place c.index.ensures in
    let few = (members_are_numbered shape c.args.pass c.args.level c.requires.slot.0).0 in
    let within = mul-add-lt (member shape c.args.level c.args.pass) shape.rows (c.args.row % shape.rows) (members shape c.args.level (aggregator shape c.args.pass c.args.level)) few (mod_below c.args.row shape.rows (omega arith)) in
    let a = c.index.result.now in
    let product : shape.rows * members shape c.args.level (aggregator shape c.args.pass c.args.level) ≡ a.members * a.rows =
    mul_comm shape.rows (members shape c.args.level (aggregator shape c.args.pass c.args.level)) ∙ ap (λ (x : ℕ). x * shape.rows) (sym place.members_are) ∙ ap (λ (x : ℕ). a.members * x) (sym place.rows_are) in
    subst (λ (x : ℕ). c.local_row.result < x) product (subst (λ (x : ℕ). x < shape.rows * members shape c.args.level (aggregator shape c.args.pass c.args.level)) (sym c.local_row.ensures) within)

pub returns : goal.returns
returns c = λ s w.
    let m = c.args.self.now in
    let shape = m.start.shape in
    let place = here_read m s w c.args.pass c.args.kind c.args.level c.requires.slot _ _ c.seat-place.ensures.place c.index.ensures in
    let t = s.rows c.args.kind c.args.level (aggregator shape c.args.pass c.args.level) in
    let small : c.args.row % shape.rows ≡ c.args.row = ap (λ (x : ℕ). x % shape.rows) (let e : c.args.row ≡ 0 * shape.rows + c.args.row = omega arith in e) ∙ mod-mul-add 0 shape.rows c.args.row c.requires.in_range in
    c.end.ensures ∙ ap (λ (x : rows.State). x.end c.local_row.result) place.state_is ∙ ap t.end (c.local_row.ensures ∙ ap (λ (x : ℕ). member shape c.args.level c.args.pass * shape.rows + x) small)
