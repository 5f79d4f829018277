use Rattle.std.proofs.Common.{ℕ, ◌+◌, ◌-◌, Bool, List, Option, None, Some, is_some, option_map, refl, sym, ◌∙◌, ap, subst}
use Rattle.std.specs.Prelude.{if◌then◌else◌}
use Rattle.std.specs.List.{range_with_len}
use Rattle.fn_core.specs.declared.Event.{Event}
use Rattle.fn_core.specs.declared.answer.Blocked.{Blocked}
use Rattle.fn_core.specs.Begin.{is_full, has_open, level_scans, blocked_at, events_of}
use Rattle.fn_core.proofs.Tries.{Goes, all_events, all_events_more, goes_past, stops_at, goes_through, range_end, range_step, some_unless, not_true}
use Rattle.fn_core.proofs.machine.Machine.try_levels.Goals as goal

pub returns-then-is_some-clause-steps : goal.returns-then-is_some-clause-steps
returns-then-is_some-clause-steps c = λ s w.
    let m = c.args.self.now in
    let level = c.loop-level.level in
    let scans = level_scans m.start s c.args.kind c.args.pass in
    let is = sym (some_unless (blocked_at m.start s c.args.kind c.args.pass level) (has_open m.start s c.args.kind c.args.pass level)) ∙ ap is_some (sym (c.in_ok-blocked.ensures.told s w)) ∙ sym c.is_some.ensures ∙ c.if-is_some.true in
    c.in_ok-blocked.ensures.steps s w
    ∙ (stops_at (all_events c.args.pass scans) (λ n. events_of c.args.pass (scans n)) (all_events_more c.args.pass scans) refl (is_full m.start s c.args.kind c.args.pass) c.args.events.now.items c.loop-level.events.items _ (range_with_len 1 m.start.shape.levels) (c.loop-level.invariant s w) level _ (range_step level _ c.loop-level-test.true) is).0

pub returns-then-is_some-clause-told : goal.returns-then-is_some-clause-told
returns-then-is_some-clause-told c = λ s w.
    let m = c.args.self.now in
    let level = c.loop-level.level in
    let scans = level_scans m.start s c.args.kind c.args.pass in
    let at = blocked_at m.start s c.args.kind c.args.pass in
    let here : Option Blocked = Some (at level) in
    let is = sym (some_unless (at level) (has_open m.start s c.args.kind c.args.pass level)) ∙ ap is_some (sym (c.in_ok-blocked.ensures.told s w)) ∙ sym c.is_some.ensures ∙ c.if-is_some.true in
    let found = (stops_at (all_events c.args.pass scans) (λ n. events_of c.args.pass (scans n)) (all_events_more c.args.pass scans) refl (is_full m.start s c.args.kind c.args.pass) c.args.events.now.items c.loop-level.events.items _ (range_with_len 1 m.start.shape.levels) (c.loop-level.invariant s w) level _ (range_step level _ c.loop-level-test.true) is).1 in
    c.in_ok-blocked.ensures.told s w
    ∙ ap (λ (b : Bool). if b then None else here) (not_true (has_open m.start s c.args.kind c.args.pass level) is)
    ∙ sym (ap (option_map at) found)

pub loop-level-preserved : goal.loop-level-preserved
loop-level-preserved c = λ s w.
    let m = c.args.self.now in
    let level = c.loop-level.level in
    let scans = level_scans m.start s c.args.kind c.args.pass in
    let test = is_full m.start s c.args.kind c.args.pass in
    let all = range_with_len 1 m.start.shape.levels in
    let left : List ℕ = range_with_len (level + 1) (c.levels-level-end.result + 1 - (level + 1)) in
    let is = sym (some_unless (blocked_at m.start s c.args.kind c.args.pass level) (has_open m.start s c.args.kind c.args.pass level)) ∙ ap is_some (sym (c.in_ok-blocked.ensures.told s w)) ∙ sym c.is_some.ensures ∙ c.if-is_some.false in
    subst (λ (xs : List Event). Goes (all_events c.args.pass scans) test c.args.events.now.items xs left all) (sym (c.in_ok-blocked.ensures.steps s w))
    (goes_past (all_events c.args.pass scans) (λ n. events_of c.args.pass (scans n)) (all_events_more c.args.pass scans) refl test c.args.events.now.items c.loop-level.events.items _ all (c.loop-level.invariant s w) level left (range_step level _ c.loop-level-test.true) is)

pub returns-clause-steps : goal.returns-clause-steps
returns-clause-steps c = λ s w.
    let m = c.args.self.now in
    let scans = level_scans m.start s c.args.kind c.args.pass in
    let all = range_with_len 1 m.start.shape.levels in
    (goes_through (all_events c.args.pass scans) (λ n. events_of c.args.pass (scans n)) (all_events_more c.args.pass scans) refl (is_full m.start s c.args.kind c.args.pass) c.args.events.now.items c.loop-level.events.items _ all (c.loop-level.invariant s w) (range_end c.loop-level.level _ c.loop-level-test.false)).0

pub returns-clause-told : goal.returns-clause-told
returns-clause-told c = λ s w.
    let m = c.args.self.now in
    let scans = level_scans m.start s c.args.kind c.args.pass in
    let all = range_with_len 1 m.start.shape.levels in
    let at = blocked_at m.start s c.args.kind c.args.pass in
    sym (ap (option_map at) (goes_through (all_events c.args.pass scans) (λ n. events_of c.args.pass (scans n)) (all_events_more c.args.pass scans) refl (is_full m.start s c.args.kind c.args.pass) c.args.events.now.items c.loop-level.events.items _ all (c.loop-level.invariant s w) (range_end c.loop-level.level _ c.loop-level-test.false)).1)
