use Rattle.std.proofs.Common.{ap, sym, subst}
use Rattle.std.specs.Vec.{with_item}
use Rattle.fn_core.specs.declared.Purpose.{Purpose}
use Rattle.fn_core.specs.declared.Move.TheVariants.{Load}
use Rattle.fn_core.specs.declared.answer.Answer.TheVariants.{Word}
use Rattle.fn_core.specs.Fields.{Takes}
use Rattle.fn_core.proofs.OnMain.{reads_there, tries_there}
use Rattle.fn_core.proofs.machine.Machine.load.Goals as goal

pub returns-in-Read-clause-takes : goal.returns-in-Read-clause-takes
returns-in-Read-clause-takes c =
    subst (λ (p : Purpose). Takes c.args.self.now c.args.self.now c.args.pass (Load p) (Word c.args.self.now.main)) (sym c.in-Read.is)
    (λ log stands may. (reads_there c.args.self.now log stands c.args.pass may.0, ap Word stands.fields.main_is))

pub returns-in-Try-clause-takes : goal.returns-in-Try-clause-takes
returns-in-Try-clause-takes c =
    subst (λ (p : Purpose). Takes c.args.self.now (record c.args.self.now { standings = with_item c.args.self.now.standings c.args.pass (record c.index_mut.result.now { position = c.tried-position.result }) }) c.args.pass (Load p) (Word c.args.self.now.main)) (sym c.in-Try.is)
    (λ log stands may. (tries_there c.args.self.now log stands c.args.pass may.0 _ _ c.index_mut.ensures.value c.index.ensures _ c.tried-position.ensures, ap Word stands.fields.main_is))
