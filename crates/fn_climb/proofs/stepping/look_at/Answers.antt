use Rattle.fn_climb.proofs.Goes.{looked_behind, looked_on, leads_now, late_now}
use Rattle.fn_climb.proofs.stepping.look_at.Goals as goal

pub returns-then-done-at : goal.returns-then-done-at
returns-then-done-at c = looked_behind c.requires.holds c.requires.free c.requires.waits c.look-done.ensures c.if-done-at.true

pub returns-then-at-done : goal.returns-then-at-done
returns-then-at-done c = rw (c.go_to.ensures, ← leads_now c.args.at c.look-done.result c.if-done-at.false c.if-at-done.true) (looked_on c.requires.holds c.requires.free c.requires.waits c.look-done.ensures c.if-done-at.false)

pub returns-else-at-done : goal.returns-else-at-done
returns-else-at-done c = rw (c.go_to-else-at-done.ensures, ← late_now c.args.at c.look-done.result c.if-done-at.false c.if-at-done.false) (looked_on c.requires.holds c.requires.free c.requires.waits c.look-done.ensures c.if-done-at.false)
