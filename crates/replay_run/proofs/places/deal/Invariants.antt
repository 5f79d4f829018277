use Rattle.std.proofs.Common.{◌≡◌}
use Rattle.replay_run.specs.Work.{desks_at}
use Rattle.replay_run.proofs.Dealt.{DealtTo}
use Rattle.replay_run.proofs.places.deal.Given as goal

abbrev pub invariant-loop-at : goal.invariant-loop-at
invariant-loop-at l = record {
  desks : desks_at l.places ≡ desks_at l.fn.places;
  dealt : DealtTo l.rows l.at l.places;
}
