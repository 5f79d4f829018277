use Rattle.fn_rounds.proofs.Finished.{all_have_made}
use Rattle.fn_rounds.proofs.script.make_all.Goals as goal

pub returns : goal.returns
returns g c = all_have_made c.args.lanes.items c.in_ok-calls.calls.lanes c.finish_all.result c.in_ok-calls.ensures.1 c.finish_all.ensures.made
