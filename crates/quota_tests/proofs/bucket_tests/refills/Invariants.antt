use Rattle.std.proofs.Common.{◌≡◌}
use Rattle.quota_bucket.specs.Seen.{Belongs}
use Rattle.quota_tests.proofs.bucket_tests.refills.Given as goal

abbrev pub invariant-loop-turn : goal.invariant-loop-turn
invariant-loop-turn g l = Belongs l.bucket l.desk × (l.desk.seat.number ≡ l.fn.desk.seat.number)
