use Rattle.std.proofs.Common.{sym, subst, None, Some}
use Rattle.fn_future.specs.declared.legs.MoveStage.{MoveStage}
use Rattle.fn_future.specs.declared.legs.Leg.{Leg}
use Rattle.fn_future.specs.declared.legs.Leg.TheVariants.{Done, Waits}
use Rattle.fn_future.specs.Moves.{MoveView, GoesFrom, MayGo, GivesMove, IsOpen, IsOpenStage, TurnedMove}
use Rattle.fn_future.proofs.Journeys.{leg_stands, stands_may, turned_done, turned_waits}
use Rattle.fn_future.proofs.moving.MoveFuture.turn.Goals as goal

pub go-requires : goal.go-requires
go-requires c =
    let i = c.self.inside in
    let running : IsOpenStage i.stage = subst (λ (v : MoveView). IsOpen v) (sym c.self.view_is) c.requires in
    subst (λ (s : MoveStage). MayGo i.from.now i.to.now i.amount s) (sym c.replace-stage.ensures.value) (stands_may i.from.now i.to.now i.out.value i.into.value i.amount i.stage running c.self.invariant)

pub invariant_of-self-in-Waits : goal.invariant_of-self-in-Waits
invariant_of-self-in-Waits c =
    let i = c.self.inside in
    let goes : GoesFrom i.amount i.stage (Waits c.in-Waits.stage) = subst (λ (s : MoveStage). GoesFrom i.amount s (Waits c.in-Waits.stage)) c.replace-stage.ensures.value c.in-Waits.ensures in
    (leg_stands i.from.now i.to.now i.out.value i.into.value i.amount i.stage c.self.invariant (Waits c.in-Waits.stage) goes).1

pub returns-in-Done-clause-turned : goal.returns-in-Done-clause-turned
returns-in-Done-clause-turned c =
    let i = c.self.inside in
    let old : MoveView = record { from = i.from.now; to = i.to.now; out = i.out.value; into = i.into.value; amount = i.amount; stage = i.stage } in
    let leg : Leg = Done c.in-Done.out c.in-Done.into c.in-Done.moved in
    let goes : GoesFrom i.amount i.stage leg = subst (λ (s : MoveStage). GoesFrom i.amount s leg) c.replace-stage.ensures.value c.in-Done.ensures in
    subst (λ (v : MoveView). TurnedMove v (Some (c.in-Done.out, c.in-Done.into, c.in-Done.moved)) (record old { stage = c.replace-stage.new.dest })) c.self.view_is
    (turned_done old c.in-Done.out c.in-Done.into c.in-Done.moved c.replace-stage.new.dest c.replace-stage.ensures.after goes)

pub returns-in-Done-clause-moved : goal.returns-in-Done-clause-moved
returns-in-Done-clause-moved c =
    let i = c.self.inside in
    let leg : Leg = Done c.in-Done.out c.in-Done.into c.in-Done.moved in
    let goes : GoesFrom i.amount i.stage leg = subst (λ (s : MoveStage). GoesFrom i.amount s leg) c.replace-stage.ensures.value c.in-Done.ensures in
    subst (λ (v : MoveView). GivesMove v (c.in-Done.out, c.in-Done.into, c.in-Done.moved)) c.self.view_is
    (leg_stands i.from.now i.to.now i.out.value i.into.value i.amount i.stage c.self.invariant leg goes)

pub returns-in-Waits-clause-turned : goal.returns-in-Waits-clause-turned
returns-in-Waits-clause-turned c =
    let i = c.self.inside in
    let old : MoveView = record { from = i.from.now; to = i.to.now; out = i.out.value; into = i.into.value; amount = i.amount; stage = i.stage } in
    let goes : GoesFrom i.amount i.stage (Waits c.in-Waits.stage) = subst (λ (s : MoveStage). GoesFrom i.amount s (Waits c.in-Waits.stage)) c.replace-stage.ensures.value c.in-Waits.ensures in
    subst (λ (v : MoveView). TurnedMove v None (record old { stage = c.in-Waits.stage })) c.self.view_is (turned_waits old c.in-Waits.stage goes)

pub returns-in-Waits-clause-open : goal.returns-in-Waits-clause-open
returns-in-Waits-clause-open c =
    let i = c.self.inside in
    let goes : GoesFrom i.amount i.stage (Waits c.in-Waits.stage) = subst (λ (s : MoveStage). GoesFrom i.amount s (Waits c.in-Waits.stage)) c.replace-stage.ensures.value c.in-Waits.ensures in
    (leg_stands i.from.now i.to.now i.out.value i.into.value i.amount i.stage c.self.invariant (Waits c.in-Waits.stage) goes).0
