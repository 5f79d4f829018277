use Rattle.std.proofs.Common.{◌∙◌}
use Rattle.fn_table.proofs.Deals.{glance_whole, glance_tells}
use Rattle.fn_table.proofs.dealing.glance.Goals as goal

pub load-requires : goal.load-requires
load-requires c = let d = c.requires.dealer in (d.table, c.requires.words, glance_whole _ _ _ c.args.taken _ c.args.seat.now.me.0.start d.opens c.requires.some d.knows)

pub returns : goal.returns
returns c =
    let d = c.requires.dealer in
    let l = c.load.ensures in
    record { table = l.0 ∙ d.table; knows = glance_tells c.args.seat.now.me.0.start c.args.taken _ _ _ c.requires.some d.knows l.2.0 l.2.1; opens = d.opens }
