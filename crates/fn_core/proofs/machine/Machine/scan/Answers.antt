use Rattle.std.proofs.Common.{refl, ap, ◌∙◌}
use Rattle.fn_rows.specs.Machine as rows
use Rattle.fn_core.specs.declared.answer.Answer.TheVariants.{Word}
use Rattle.fn_core.proofs.Taken.{in_rows, may_there, steps_there}
use Rattle.fn_core.proofs.Seats.{scan_slot, scan_other, scan_may, scanned_there, scanned_word}
use Rattle.fn_core.proofs.machine.Machine.scan.Goals as goal

pub seat-place-requires : goal.seat-place-requires
seat-place-requires c = scan_slot c.args.self.now c.requires.0 c.requires.1 c.args.pass c.args.kind c.args.level c.args.other c.requires.2

pub member-scanned-requires : goal.member-scanned-requires
member-scanned-requires c =
    let slot = scan_other c.args.self.now c.requires.0 c.requires.1 c.args.pass c.args.kind c.args.level c.args.other c.requires.2 in
    record { level_in_range = slot.2; pass_in_range = slot.0 }

pub index_mut-requires : goal.index_mut-requires
index_mut-requires c =
    in_rows c.args.self.now c.requires.0 c.requires.1 c.args.pass c.args.kind c.args.level (scan_slot c.args.self.now c.requires.0 c.requires.1 c.args.pass c.args.kind c.args.level c.args.other c.requires.2) _ c.seat-place.ensures.place

pub scan-requires : goal.scan-requires
scan-requires c =
    may_there c.args.self.now c.requires.0 c.requires.1 c.args.pass c.args.kind c.args.level (scan_slot c.args.self.now c.requires.0 c.requires.1 c.args.pass c.args.kind c.args.level c.args.other c.requires.2) _ _ c.seat-place.ensures.place c.index_mut.ensures.value _ c.seat-place.ensures.member
    (λ n. rows.Scan n c.member-scanned.result) refl (scan_may c.args.self.now c.requires.0 c.requires.1 c.args.pass c.args.kind c.args.level c.args.other c.requires.2 _ c.member-scanned.ensures.exact)

pub returns-clause-takes : goal.returns-clause-takes
returns-clause-takes c = λ log stands may. (
    let slot = scan_slot c.args.self.now log stands c.args.pass c.args.kind c.args.level c.args.other may in (
      scanned_there c.args.self.now log stands c.args.pass c.args.kind c.args.level c.args.other may _ _ c.member-scanned.ensures.exact
          (steps_there c.args.self.now log stands c.args.pass c.args.kind c.args.level slot _ _ _ c.seat-place.ensures.place c.index_mut.ensures.value _ c.seat-place.ensures.member (λ n. rows.Scan n c.member-scanned.result) c.scan.ensures.step),
      ap Word (c.scan.ensures.word ∙ scanned_word c.args.self.now log stands c.args.pass c.args.kind c.args.level c.args.other may _ _ c.seat-place.ensures.place c.index_mut.ensures.value _ c.member-scanned.ensures.exact),
    )
    )
