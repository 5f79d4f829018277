use Rattle.std.proofs.Common.{◌∙◌, ap, arith}
use Rattle.fn_layout.specs.Tree.{aggregator}
use Rattle.fn_layout.proofs.Members.{members_are_numbered}
use Rattle.fn_rows.specs.Machine as rows
use Rattle.fn_core.proofs.Mirror.{here_read}
use Rattle.fn_core.proofs.Taken.{in_rows, there}
use Rattle.fn_core.proofs.machine.Machine.announced.Goals as goal

pub index-requires : goal.index-requires
index-requires c = in_rows c.args.self.now c.requires.reached.0 c.requires.reached.1 c.args.pass c.args.kind c.args.level c.requires.slot _ c.requires.place

pub announced-requires : goal.announced-requires
announced-requires c =
    let m = c.args.self.now in
    let place = there m c.requires.reached.0 c.requires.reached.1 c.args.pass c.args.kind c.args.level c.requires.slot _ _ c.requires.place c.index.ensures in
    let few = (members_are_numbered m.start.shape c.args.pass c.args.level c.requires.slot.0).0 in
    omega (arith, c.member-member.ensures.exact, place.members_are, few)

pub returns : goal.returns
returns c = λ s w.
    let m = c.args.self.now in
    let place = here_read m s w c.args.pass c.args.kind c.args.level c.requires.slot _ _ c.requires.place c.index.ensures in
    let t = s.rows c.args.kind c.args.level (aggregator m.start.shape c.args.pass c.args.level) in
    c.announced.ensures ∙ ap (λ (x : rows.State). x.announced c.member-member.result) place.state_is ∙ ap t.announced c.member-member.ensures.exact
