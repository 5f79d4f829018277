use Rattle.std.proofs.Common.{◌<◌, refl, arith}
use Rattle.fn_model.specs.declared.Kind.TheVariants.{Sub}
use Rattle.fn_future.specs.declared.legs.MoveStage.TheVariants.{Taking}
use Rattle.fn_future.specs.Moves.{MoveView}
use Rattle.fn_future.proofs.Between.{refused_none}
use Rattle.fn_future.proofs.Journeys.{move_begun, may_add}
use Rattle.fn_future.proofs.moving.MoveFuture.new.Goals as goal

pub invariant_of-result : goal.invariant_of-result
invariant_of-result c =
    let inside : c.args.into.number < c.args.into.seen.start.shape.passes = omega (arith, c.number-2.ensures.number, c.number-2.ensures.in_range) in
    move_begun c.args.from.now c.args.to.now c.args.out c.args.into c.args.amount c.of-given.result.value c.of-waits.result.value c.in-Waiting.pending c.of-given.ensures c.of-waits.ensures c.requires.from c.number.ensures.legal c.requires.rest.0 c.in-Waiting.ensures
    (may_add c.args.to.now c.args.into c.args.amount inside c.number-2.ensures.legal c.requires.to c.requires.rest.1 (c.requires.amount.0, c.requires.amount.2))

pub returns-in-Waiting-clause-call : goal.returns-in-Waiting-clause-call
returns-in-Waiting-clause-call c = record { out_is = c.of-given.ensures; into_is = c.of-waits.ensures; amount_is = refl; runs = tt }

pub returns-in-Waiting-clause-way : goal.returns-in-Waiting-clause-way
returns-in-Waiting-clause-way c = (
  c.in-Waiting.pending,
  c.in-Waiting.ensures,
  (λ i.
      let m : MoveView = record { from = c.args.from.now; to = c.args.to.now; out = c.of-given.ensures i; into = c.of-waits.ensures i; amount = c.args.amount; stage = Taking c.in-Waiting.pending c.args.into } in m),
)

pub returns-in-NoRow-clause-refused : goal.returns-in-NoRow-clause-refused
returns-in-NoRow-clause-refused c =
    let inside : c.args.out.number < c.args.out.seen.start.shape.passes = omega (arith, c.number.ensures.number, c.number.ensures.in_range) in
    (refused_none c.args.out Sub c.args.amount c.in-NoRow.out c.in-NoRow.blocked inside c.requires.rest.0 c.in-NoRow.ensures, refl)
