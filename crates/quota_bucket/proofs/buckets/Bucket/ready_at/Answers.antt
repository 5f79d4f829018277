use Rattle.std.proofs.Common.{arith}
use Rattle.quota_bucket.proofs.Ready.{ready_now, far_if, ready_if, never_if}
use Rattle.quota_bucket.proofs.buckets.Bucket.ready_at.Goals as goal

pub returns-then-amount-held-clause-ready : goal.returns-then-amount-held-clause-ready
returns-then-amount-held-clause-ready c = ready_now _ _ c.self.view_is _ _ _ (omega (arith, c.if-amount-cap.false, c.cap.ensures)) c.if-amount-held.true

pub returns-in_err-checked_add-clause-never : goal.returns-in_err-checked_add-clause-never
returns-in_err-checked_add-clause-never c =
    far_if _ _ c.self.view_is _ _ _ _ c.self.invariant.rate c.self.invariant.period (omega (arith, c.if-amount-held.false)) c.div_ceil-ticks.ensures _ c.in_err-checked_add.ensures

pub returns-clause-ready : goal.returns-clause-ready
returns-clause-ready c = ready_if _ _ c.self.view_is _ _ _ _ c.self.invariant.rate c.self.invariant.period (omega (arith, c.if-amount-held.false)) c.div_ceil-ticks.ensures _ c.in_ok-checked_add.ensures.1 (omega (arith, c.if-amount-cap.false, c.cap.ensures)) _ c.checked_mul.ensures

pub returns-clause-never : goal.returns-clause-never
returns-clause-never c = never_if _ _ c.self.view_is _ _ _ _ c.self.invariant.rate c.self.invariant.period (omega (arith, c.if-amount-held.false)) c.div_ceil-ticks.ensures _ c.in_ok-checked_add.ensures.1 _ c.checked_mul.ensures
