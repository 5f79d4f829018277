use Rattle.fn_direct.proofs.Told.{made_by_two, none_by_two}
use Rattle.std.proofs.Common.{refl}
use Rattle.fn_direct.proofs.Joined.{exchange_calls, exchange_alone, exchange_makes_none}
use Rattle.fn_direct.proofs.try_exchange.Goals as goal

pub returns-in-Ok-clause-called : goal.returns-in-Ok-clause-called
returns-in-Ok-clause-called c =
    let load = c.load_try-loaded.ensures in
    let exchange = c.in-Ok.ensures.step in (
      record { between = c.load_try-loaded.new.pass; load = load; exchange = exchange },
      exchange_calls c.args.pass.now c.requires.idle c.load_try-loaded.new.pass c.exchange.new.pass c.args.kind c.args.amount c.load_try-loaded.result c.load_try-loaded.result load exchange refl c.requires.amount.1,
    )

pub returns-in-Err-clause-lost : goal.returns-in-Err-clause-lost
returns-in-Err-clause-lost c =
    let load = c.load_try-loaded.ensures in
    let exchange = c.in-Err.ensures.step in (
      record { between = c.load_try-loaded.new.pass; load = load; exchange = exchange },
      c.in-Err.ensures.lost,
      exchange_makes_none c.args.pass.now c.requires.idle c.load_try-loaded.new.pass c.exchange.new.pass c.args.kind c.args.amount c.load_try-loaded.result c.in-Err.found load exchange c.in-Err.ensures.lost,
    )

pub returns-in-Ok-clause-alone : goal.returns-in-Ok-clause-alone
returns-in-Ok-clause-alone c = exchange_alone c.args.pass.now c.requires.idle c.load_try-loaded.new.pass c.exchange.new.pass c.args.kind c.args.amount c.load_try-loaded.result c.load_try-loaded.result c.load_try-loaded.ensures c.in-Ok.ensures.step refl

pub returns-in-Ok-clause-made : goal.returns-in-Ok-clause-made
returns-in-Ok-clause-made c =
    let load = c.load_try-loaded.ensures in
    let exchange = c.in-Ok.ensures.step in
    made_by_two c.args.pass.now c.args.kind c.args.amount c.load_try-loaded.result c.exchange.new.pass c.requires.idle (record { between = c.load_try-loaded.new.pass; load = load; exchange = exchange })
    (exchange_calls c.args.pass.now c.requires.idle c.load_try-loaded.new.pass c.exchange.new.pass c.args.kind c.args.amount c.load_try-loaded.result c.load_try-loaded.result load exchange refl c.requires.amount.1)

pub returns-in-Err-clause-made_none : goal.returns-in-Err-clause-made_none
returns-in-Err-clause-made_none c =
    let load = c.load_try-loaded.ensures in
    let exchange = c.in-Err.ensures.step in
    none_by_two c.args.pass.now c.args.kind c.args.amount c.load_try-loaded.result c.in-Err.found c.exchange.new.pass (record { between = c.load_try-loaded.new.pass; load = load; exchange = exchange })
    (exchange_makes_none c.args.pass.now c.requires.idle c.load_try-loaded.new.pass c.exchange.new.pass c.args.kind c.args.amount c.load_try-loaded.result c.in-Err.found load exchange c.in-Err.ensures.lost)
