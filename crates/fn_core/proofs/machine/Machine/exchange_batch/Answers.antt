use Rattle.std.proofs.Common.{refl}
use Rattle.fn_rows.specs.Machine as rows
use Rattle.fn_core.proofs.Taken.{in_rows, in_standings, may_there}
use Rattle.fn_core.proofs.OnMain.{applies_there, deciding_at, wins_batch, loses_batch}
use Rattle.fn_core.proofs.machine.Machine.exchange_batch.Goals as goal

pub seat-place-requires : goal.seat-place-requires
seat-place-requires c = (deciding_at c.args.self.now c.requires.may.0 c.requires.may.1 c.args.pass c.requires.may.2.0 c.args.kind c.args.level c.args.loaded c.requires.deciding).0

pub index_mut-requires : goal.index_mut-requires
index_mut-requires c =
    let at = deciding_at c.args.self.now c.requires.may.0 c.requires.may.1 c.args.pass c.requires.may.2.0 c.args.kind c.args.level c.args.loaded c.requires.deciding in
    in_rows c.args.self.now c.requires.may.0 c.requires.may.1 c.args.pass c.args.kind c.args.level at.0 _ c.seat-place.ensures.place

pub hand_base-requires : goal.hand_base-requires
hand_base-requires c =
    let at = deciding_at c.args.self.now c.requires.may.0 c.requires.may.1 c.args.pass c.requires.may.2.0 c.args.kind c.args.level c.args.loaded c.requires.deciding in
    may_there c.args.self.now c.requires.may.0 c.requires.may.1 c.args.pass c.args.kind c.args.level at.0 _ _ c.seat-place.ensures.place c.index_mut.ensures.value _ c.seat-place.ensures.member (λ n. rows.Hand_base n c.args.self.now.main) refl at.1

pub index_mut-requires-then-base-loaded : goal.index_mut-requires-then-base-loaded
index_mut-requires-then-base-loaded c = in_standings c.args.self.now c.requires.may.0 c.requires.may.1 c.args.pass c.requires.may.2.0

pub index_mut-requires-else-base-loaded : goal.index_mut-requires-else-base-loaded
index_mut-requires-else-base-loaded c = in_standings c.args.self.now c.requires.may.0 c.requires.may.1 c.args.pass c.requires.may.2.0

pub returns-then-base-loaded-clause-takes : goal.returns-then-base-loaded-clause-takes
returns-then-base-loaded-clause-takes c = λ log stands may. (
    let at = deciding_at c.args.self.now log stands c.args.pass may.0 c.args.kind c.args.level c.args.loaded c.requires.deciding in
    let applied = applies_there c.args.self.now log stands c.args.pass c.args.kind c.args.level at.0 _ _ _ c.seat-place.ensures.place c.index_mut.ensures.value _ c.seat-place.ensures.member c.hand_base.ensures c.args.weight _ c.after_capped-self.ensures in
    wins_batch c.args.self.now log stands c.args.pass may.0 c.args.kind c.args.level c.args.weight c.args.loaded c.requires.deciding c.if-base-loaded.true _ applied refl _ c.index_mut-then-base-loaded.ensures.value
    )

pub returns-else-base-loaded-clause-takes : goal.returns-else-base-loaded-clause-takes
returns-else-base-loaded-clause-takes c = λ log stands may.
    loses_batch c.args.self.now log stands c.args.pass may.0 c.args.kind c.args.level c.args.weight c.args.loaded c.requires.deciding c.if-base-loaded.false _ c.index_mut-else-base-loaded.ensures.value
