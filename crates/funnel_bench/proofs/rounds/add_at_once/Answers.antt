use Rattle.std.proofs.Common.{sym, subst}
use Rattle.fn_core.specs.Calls.{IsIdle}
use Rattle.fn_table.specs.Seen.{IsOf}
use Rattle.funnel_bench.proofs.rounds.add_at_once.Goals as goal

pub map_vec-requires-after_bounds : goal.map_vec-requires-after_bounds
map_vec-requires-after_bounds g c κs within i x less is = (subst (λ v. IsOf c.args.funnel.now v) (sym is) (c.requires.together i x less), subst (λ v. IsIdle v.seen v.number) (sym is) (c.requires.idle i x less).0)
