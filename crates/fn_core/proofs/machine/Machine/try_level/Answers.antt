use Rattle.std.proofs.Common.{◌≡◌, ℕ, suc, ◌+◌, ◌-◌, ◌≤◌, Bool, List, Option, None, Some, is_none, is_some, not, option_map, refl, sym, ◌∙◌, ap, subst, arith}
use Rattle.std.specs.Prelude.{if◌then◌else◌}
use Rattle.std.specs.List.{range_with_len}
use Rattle.fn_core.specs.declared.Event.{Event}
use Rattle.fn_core.specs.declared.answer.Blocked.{Blocked}
use Rattle.fn_core.specs.Begin.{is_open, row_scans, blocked_by, blocked_at, blocker, row_end, events_of}
use Rattle.fn_core.proofs.Among.{has_range, none_found}
use Rattle.fn_core.proofs.Tries.{Goes, all_events, all_events_more, any_found, goes_past, stops_at, goes_through, range_step, range_end, none_mapped, some_mapped}
use Rattle.fn_core.proofs.machine.Machine.try_level.Goals as goal

pub returns-then-is_none-clause-steps : goal.returns-then-is_none-clause-steps
returns-then-is_none-clause-steps c = λ s w.
    let m = c.args.self.now in
    let row = c.loop-row.row in
    let scans = row_scans m.start s c.args.kind c.args.level c.args.pass in
    let test = is_open m.start s c.args.kind c.args.level c.args.pass in
    let all = range_with_len 0 m.start.shape.rows in
    let by = blocked_by m.start s c.args.kind c.args.level row in
    let is = sym (none_mapped by (blocker m.start s c.args.kind c.args.level c.args.pass (row_end m.start s c.args.kind c.args.level c.args.pass row))) ∙ ap is_none (sym (c.in_ok-last.ensures.told s w)) ∙ ap not c.is_none.ensures ∙ ap (λ (b : Bool). not (not b)) c.if-is_none.true in
    c.in_ok-last.ensures.steps s w
    ∙ (stops_at (all_events c.args.pass scans) (λ n. events_of c.args.pass (scans n)) (all_events_more c.args.pass scans) refl test c.args.events.now.items c.loop-row.events.items _ all (c.loop-row.invariant s w).0 row _ (range_step row c.rows-row-end.result c.loop-row-test.true) is).0

pub returns-then-is_none-clause-told : goal.returns-then-is_none-clause-told
returns-then-is_none-clause-told c = λ s w.
    let m = c.args.self.now in
    let row = c.loop-row.row in
    let scans = row_scans m.start s c.args.kind c.args.level c.args.pass in
    let test = is_open m.start s c.args.kind c.args.level c.args.pass in
    let all = range_with_len 0 m.start.shape.rows in
    let by = blocked_by m.start s c.args.kind c.args.level row in
    let is = sym (none_mapped by (blocker m.start s c.args.kind c.args.level c.args.pass (row_end m.start s c.args.kind c.args.level c.args.pass row))) ∙ ap is_none (sym (c.in_ok-last.ensures.told s w)) ∙ ap not c.is_none.ensures ∙ ap (λ (b : Bool). not (not b)) c.if-is_none.true in
    let found = (stops_at (all_events c.args.pass scans) (λ n. events_of c.args.pass (scans n)) (all_events_more c.args.pass scans) refl test c.args.events.now.items c.loop-row.events.items _ all (c.loop-row.invariant s w).0 row _ (range_step row c.rows-row-end.result c.loop-row-test.true) is).1 in
    let at : Option Blocked = Some (blocked_at m.start s c.args.kind c.args.pass c.args.level) in
    sym (ap (λ (b : Bool). if b then None else at) (any_found test all ∙ ap is_some found))

pub loop-row-preserved : goal.loop-row-preserved
loop-row-preserved c = λ s w.
    let m = c.args.self.now in
    let row = c.loop-row.row in
    let scans = row_scans m.start s c.args.kind c.args.level c.args.pass in
    let test = is_open m.start s c.args.kind c.args.level c.args.pass in
    let all = range_with_len 0 m.start.shape.rows in
    let left : List ℕ = range_with_len (row + 1) (c.rows-row-end.result - (row + 1)) in
    let by = blocked_by m.start s c.args.kind c.args.level row in
    let is = sym (none_mapped by (blocker m.start s c.args.kind c.args.level c.args.pass (row_end m.start s c.args.kind c.args.level c.args.pass row))) ∙ ap is_none (sym (c.in_ok-last.ensures.told s w)) ∙ ap not c.is_none.ensures ∙ ap (λ (b : Bool). not (not b)) c.if-is_none.false in (
      subst (λ (xs : List Event). Goes (all_events c.args.pass scans) test c.args.events.now.items xs left all) (sym (c.in_ok-last.ensures.steps s w))
          (goes_past (all_events c.args.pass scans) (λ n. events_of c.args.pass (scans n)) (all_events_more c.args.pass scans) refl test c.args.events.now.items c.loop-row.events.items _ all (c.loop-row.invariant s w).0 row left (range_step row c.rows-row-end.result c.loop-row-test.true) is),
      λ k e. let same : row ≡ k = omega (arith, e) in
          subst (λ (x : ℕ). c.in_ok-last.last ≡ option_map (blocked_by m.start s c.args.kind c.args.level x) (blocker m.start s c.args.kind c.args.level c.args.pass (row_end m.start s c.args.kind c.args.level c.args.pass x))) same (c.in_ok-last.ensures.told s w),
    )

pub returns-clause-told : goal.returns-clause-told
returns-clause-told c = λ s w.
    let m = c.args.self.now in
    let row = c.loop-row.row in
    let last : ℕ = m.start.shape.rows - 1 in
    let scans = row_scans m.start s c.args.kind c.args.level c.args.pass in
    let test = is_open m.start s c.args.kind c.args.level c.args.pass in
    let all = range_with_len 0 m.start.shape.rows in
    let found = (goes_through (all_events c.args.pass scans) (λ n. events_of c.args.pass (scans n)) (all_events_more c.args.pass scans) refl test c.args.events.now.items c.loop-row.events.items _ all (c.loop-row.invariant s w).0 (range_end row c.rows-row-end.result c.loop-row-test.false)).1 in
    let some : 1 ≤ m.start.shape.rows = m.start.shape.rows_in_range.0 in
    let is = none_found test all last found (has_range 0 m.start.shape.rows last (omega arith) (omega arith)) in
    let at : Option Blocked = Some (blocked_at m.start s c.args.kind c.args.pass c.args.level) in
    let ended : suc last ≡ row = omega (arith, c.loop-row-test.false, c.loop-row.auto.row-end, c.rows-row-end.ensures) in
    (c.loop-row.invariant s w).1 last ended
    ∙ some_mapped (blocked_by m.start s c.args.kind c.args.level last) (blocker m.start s c.args.kind c.args.level c.args.pass (row_end m.start s c.args.kind c.args.level c.args.pass last)) is
    ∙ sym (ap (λ (b : Bool). if b then None else at) (any_found test all ∙ ap is_some found))

pub returns-clause-steps : goal.returns-clause-steps
returns-clause-steps c = λ s w.
    let m = c.args.self.now in
    let scans = row_scans m.start s c.args.kind c.args.level c.args.pass in
    let test = is_open m.start s c.args.kind c.args.level c.args.pass in
    let all = range_with_len 0 m.start.shape.rows in
    (goes_through (all_events c.args.pass scans) (λ n. events_of c.args.pass (scans n)) (all_events_more c.args.pass scans) refl test c.args.events.now.items c.loop-row.events.items _ all (c.loop-row.invariant s w).0 (range_end c.loop-row.row c.rows-row-end.result c.loop-row-test.false)).0
