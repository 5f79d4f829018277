use Rattle.fn_funnel.proofs.Straight.{tried_none, tried_more, won_way, won_called, won_alone}
use Rattle.fn_funnel.proofs.waiting.exchange.Goals as goal

pub loop-init : goal.loop-init
loop-init g c = (tt, tt, tried_none c.args.table.now c.args.pass.now c.args.kind c.args.amount c.requires.together c.requires.idle c.requires.amount c.number-in_range.ensures.legal)

pub returns-in-Ok-clause-way : goal.returns-in-Ok-clause-way
returns-in-Ok-clause-way g c =
    won_way c.args.table.now c.args.pass.now c.args.kind c.args.amount c.requires.together c.requires.idle c.requires.amount c.number-in_range.ensures.legal c.loop.pass c.loop.invariant.2 c.in-Ok.before c.try_exchange.new.pass c.in-Ok.ensures.called.0

pub returns-in-Ok-clause-called : goal.returns-in-Ok-clause-called
returns-in-Ok-clause-called g c =
    won_called c.args.table.now c.args.pass.now c.args.kind c.args.amount c.requires.together c.requires.idle c.requires.amount c.number-in_range.ensures.legal c.loop.pass c.loop.invariant.2 c.in-Ok.before c.try_exchange.new.pass c.in-Ok.ensures.called.1

pub returns-in-Ok-clause-alone : goal.returns-in-Ok-clause-alone
returns-in-Ok-clause-alone g c =
    won_alone c.args.table.now c.args.pass.now c.args.kind c.args.amount c.requires.together c.requires.idle c.requires.amount c.number-in_range.ensures.legal c.loop.pass c.loop.invariant.2 c.try_exchange.new.pass c.in-Ok.ensures.alone

pub loop-preserved : goal.loop-preserved
loop-preserved g c = (
  tt,
  tt,
  tried_more c.args.table.now c.args.pass.now c.args.kind c.args.amount c.requires.together c.requires.idle c.requires.amount c.number-in_range.ensures.legal c.loop.pass c.loop.invariant.2 c.in-Err.field-0 c.try_exchange.new.pass c.in-Err.ensures.lost.0 c.in-Err.ensures.lost.1
      c.in-Err.ensures.lost.2,
)
