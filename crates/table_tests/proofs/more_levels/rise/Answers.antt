use Rattle.std.proofs.Common.{◌≤◌, refl, ap, arith}
use Rattle.fn_layout.specs.declared.shape.Shape.{Shape}
use Rattle.table_tests.proofs.Levels.{may_rise, may_announce, may_arrive, at_saw, at_told, at_waiting}
use Rattle.table_tests.proofs.more_levels.rise.Goals as goal

pub see-seen-requires-clause-may : goal.see-seen-requires-clause-may
see-seen-requires-clause-may c =
    let t = c.args.table.now in
    let within : c.args.level ≤ t.start.shape.levels = omega (arith, c.if-levels-level.false, c.levels-levels.ensures, ap (λ (s : Shape). s.levels) c.shape.ensures) in
    may_rise t c.args.number c.args.pass.now c.args.pass.now c.args.level c.args.batch c.args.under.now (omega (arith, c.if-level-lt2.false)) within c.requires.shut c.requires.last

pub announce-requires-clause-may : goal.announce-requires-clause-may
announce-requires-clause-may c =
    let t = c.args.table.now in
    let within : c.args.level ≤ t.start.shape.levels = omega (arith, c.if-levels-level.false, c.levels-levels.ensures, ap (λ (s : Shape). s.levels) c.shape.ensures) in
    may_announce t c.args.number _ c.args.level c.args.under.now _ (at_saw t c.args.number c.args.pass.now _ c.args.level c.args.batch c.args.under.now _ (omega (arith, c.if-level-lt2.false)) within c.requires.shut c.requires.last c.see-seen.ensures)

pub announce-requires-clause-seen : goal.announce-requires-clause-seen
announce-requires-clause-seen c =
    let t = c.args.table.now in
    let within : c.args.level ≤ t.start.shape.levels = omega (arith, c.if-levels-level.false, c.levels-levels.ensures, ap (λ (s : Shape). s.levels) c.shape.ensures) in
    (at_saw t c.args.number c.args.pass.now _ c.args.level c.args.batch c.args.under.now _ (omega (arith, c.if-level-lt2.false)) within c.requires.shut c.requires.last c.see-seen.ensures).stage

pub arrive-at-requires-clause-may : goal.arrive-at-requires-clause-may
arrive-at-requires-clause-may c =
    let t = c.args.table.now in
    let within : c.args.level ≤ t.start.shape.levels = omega (arith, c.if-levels-level.false, c.levels-levels.ensures, ap (λ (s : Shape). s.levels) c.shape.ensures) in
    let saw = at_saw t c.args.number c.args.pass.now _ c.args.level c.args.batch c.args.under.now _ (omega (arith, c.if-level-lt2.false)) within c.requires.shut c.requires.last c.see-seen.ensures in
    may_arrive t c.args.number _ c.args.pass.now c.args.level c.args.batch c.args.under.now _ _ (omega (arith, c.if-level-lt2.false)) (omega (arith, c.if-end-at.false)) refl c.requires.last (at_told t c.args.number _ _ c.args.level _ c.args.under.now _ saw c.announce.ensures.1)

pub returns : goal.returns
returns c =
    let t = c.args.table.now in
    let within : c.args.level ≤ t.start.shape.levels = omega (arith, c.if-levels-level.false, c.levels-levels.ensures, ap (λ (s : Shape). s.levels) c.shape.ensures) in
    let saw = at_saw t c.args.number c.args.pass.now _ c.args.level c.args.batch c.args.under.now _ (omega (arith, c.if-level-lt2.false)) within c.requires.shut c.requires.last c.see-seen.ensures in
    record { waits = at_waiting t c.args.number _ _ c.args.level _ c.args.under.now _ _ (at_told t c.args.number _ _ c.args.level _ c.args.under.now _ saw c.announce.ensures.1) c.arrive-at.ensures }
