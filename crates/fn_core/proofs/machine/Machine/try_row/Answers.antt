use Rattle.std.proofs.Common.{◌≡◌, ℕ, ◌+◌, ◌-◌, true, false, not, List, [], ◌∷◌, ◌++◌, Some, option_map, refl, sym, ◌∙◌, ap, subst}
use Rattle.std.specs.List.{range_with_len, filter}
use Rattle.fn_core.specs.declared.Event.{Event}
use Rattle.fn_core.specs.declared.answer.Blocked.{Blocked}
use Rattle.fn_core.specs.Order.{lets}
use Rattle.fn_core.specs.Begin.{is_other, others, blocks, blocked_by, blocker, scanned}
use Rattle.fn_core.proofs.Tries.{Goes, scan_events, goes_on_same, goes_past, stops_at, goes_through, range_end, filter_keeps, filter_skips, lets_where, blocks_where, scanned_filled, blocker_filled}
use Rattle.fn_core.proofs.machine.Machine.try_row.Goals as goal

pub loop-other-preserved-then-not-is_other : goal.loop-other-preserved-then-not-is_other
loop-other-preserved-then-not-is_other c = λ s w.
    let m = c.args.self.now in
    let test = is_other m.start.shape c.args.level c.args.pass in
    goes_on_same (scan_events c.args.pass c.args.kind c.args.level) (blocks m.start s c.args.kind c.args.level c.row_end-end.result) c.args.events.now.items c.loop-other.events.items _ _ (others m.start.shape c.args.level c.args.pass)
    (filter_skips test c.loop-other.other c.passes-other-end.result c.loop-other-test.true (sym c.is_other.ensures ∙ c.if-not-is_other.true)) (c.loop-other.invariant s w)

pub loop-other-preserved : goal.loop-other-preserved
loop-other-preserved c = λ s w.
    let m = c.args.self.now in
    let other = c.loop-other.other in
    let out = scan_events c.args.pass c.args.kind c.args.level in
    let test = blocks m.start s c.args.kind c.args.level c.row_end-end.result in
    let all = others m.start.shape c.args.level c.args.pass in
    let left : List ℕ = filter (is_other m.start.shape c.args.level c.args.pass) (range_with_len (other + 1) (c.passes-other-end.result - (other + 1))) in
    let kept = filter_keeps (is_other m.start.shape c.args.level c.args.pass) other c.passes-other-end.result c.loop-other-test.true (sym c.is_other.ensures ∙ c.if-not-is_other.false) in
    let open_yet = subst (λ (x : ℕ). not (lets (Some x) c.row_end-end.result) ≡ false) (c.announced-word.ensures s w) (lets_where c.announced-word.result c.row_end-end.result c.lets.result c.lets.ensures c.if-not-lets.false) in
    subst (λ (xs : List Event). Goes out test c.args.events.now.items xs left all) (sym c.in_ok-push.ensures.items)
    (goes_past out (λ q. out (q ∷ [])) (λ x xs. refl) refl test c.args.events.now.items c.loop-other.events.items _ all (c.loop-other.invariant s w) other left kept open_yet)

pub returns-then-not-lets-clause-steps : goal.returns-then-not-lets-clause-steps
returns-then-not-lets-clause-steps c = λ s w.
    let m = c.args.self.now in
    let other = c.loop-other.other in
    let out = scan_events c.args.pass c.args.kind c.args.level in
    let test = blocks m.start s c.args.kind c.args.level c.row_end-end.result in
    let all = others m.start.shape c.args.level c.args.pass in
    let left : List ℕ = filter (is_other m.start.shape c.args.level c.args.pass) (range_with_len (other + 1) (c.passes-other-end.result - (other + 1))) in
    let kept = filter_keeps (is_other m.start.shape c.args.level c.args.pass) other c.passes-other-end.result c.loop-other-test.true (sym c.is_other.ensures ∙ c.if-not-is_other.false) in
    let blocked = subst (λ (x : ℕ). not (lets (Some x) c.row_end-end.result) ≡ true) (c.announced-word.ensures s w) (blocks_where c.announced-word.result c.row_end-end.result c.lets.result c.lets.ensures c.if-not-lets.true) in
    c.in_ok-push.ensures.items
    ∙ (stops_at out (λ q. out (q ∷ [])) (λ x xs. refl) refl test c.args.events.now.items c.loop-other.events.items _ all (c.loop-other.invariant s w) other left kept blocked).0
    ∙ ap (λ (qs : List ℕ). c.args.events.now.items ++ out qs) (sym (scanned_filled m.start s c.args.kind c.args.level c.args.pass c.row_end-end.result c.if-end-eq0.false))
    ∙ ap (λ (end : ℕ). c.args.events.now.items ++ out (scanned m.start s c.args.kind c.args.level c.args.pass end)) (c.row_end-end.ensures s w)

pub returns-then-not-lets-clause-told : goal.returns-then-not-lets-clause-told
returns-then-not-lets-clause-told c = λ s w.
    let m = c.args.self.now in
    let other = c.loop-other.other in
    let out = scan_events c.args.pass c.args.kind c.args.level in
    let test = blocks m.start s c.args.kind c.args.level c.row_end-end.result in
    let all = others m.start.shape c.args.level c.args.pass in
    let left : List ℕ = filter (is_other m.start.shape c.args.level c.args.pass) (range_with_len (other + 1) (c.passes-other-end.result - (other + 1))) in
    let kept = filter_keeps (is_other m.start.shape c.args.level c.args.pass) other c.passes-other-end.result c.loop-other-test.true (sym c.is_other.ensures ∙ c.if-not-is_other.false) in
    let blocked = subst (λ (x : ℕ). not (lets (Some x) c.row_end-end.result) ≡ true) (c.announced-word.ensures s w) (blocks_where c.announced-word.result c.row_end-end.result c.lets.result c.lets.ensures c.if-not-lets.true) in
    let found = (stops_at out (λ q. out (q ∷ [])) (λ x xs. refl) refl test c.args.events.now.items c.loop-other.events.items _ all (c.loop-other.invariant s w) other left kept blocked).1 in
    let by = blocked_by m.start s c.args.kind c.args.level c.args.row in
    let told : ℕ → Blocked = λ (x : ℕ). record { level = c.args.level; row = c.args.row; pass = other; announced = x - 1 } in
    ap (λ (x : ℕ). Some (told x)) (c.announced-word.ensures s w)
    ∙ sym (ap (option_map by) (sym (ap (blocker m.start s c.args.kind c.args.level c.args.pass) (c.row_end-end.ensures s w)) ∙ blocker_filled m.start s c.args.kind c.args.level c.args.pass c.row_end-end.result c.if-end-eq0.false ∙ found))

pub returns-clause-steps : goal.returns-clause-steps
returns-clause-steps c = λ s w.
    let m = c.args.self.now in
    let out = scan_events c.args.pass c.args.kind c.args.level in
    let test = blocks m.start s c.args.kind c.args.level c.row_end-end.result in
    let all = others m.start.shape c.args.level c.args.pass in
    let ended = ap (filter (is_other m.start.shape c.args.level c.args.pass)) (range_end c.loop-other.other c.passes-other-end.result c.loop-other-test.false) in
    (goes_through out (λ q. out (q ∷ [])) (λ x xs. refl) refl test c.args.events.now.items c.loop-other.events.items _ all (c.loop-other.invariant s w) ended).0
    ∙ ap (λ (qs : List ℕ). c.args.events.now.items ++ out qs) (sym (scanned_filled m.start s c.args.kind c.args.level c.args.pass c.row_end-end.result c.if-end-eq0.false))
    ∙ ap (λ (end : ℕ). c.args.events.now.items ++ out (scanned m.start s c.args.kind c.args.level c.args.pass end)) (c.row_end-end.ensures s w)

pub returns-clause-told : goal.returns-clause-told
returns-clause-told c = λ s w.
    let m = c.args.self.now in
    let out = scan_events c.args.pass c.args.kind c.args.level in
    let test = blocks m.start s c.args.kind c.args.level c.row_end-end.result in
    let all = others m.start.shape c.args.level c.args.pass in
    let ended = ap (filter (is_other m.start.shape c.args.level c.args.pass)) (range_end c.loop-other.other c.passes-other-end.result c.loop-other-test.false) in
    let found = (goes_through out (λ q. out (q ∷ [])) (λ x xs. refl) refl test c.args.events.now.items c.loop-other.events.items _ all (c.loop-other.invariant s w) ended).1 in
    let by = blocked_by m.start s c.args.kind c.args.level c.args.row in
    sym (ap (option_map by) (sym (ap (blocker m.start s c.args.kind c.args.level c.args.pass) (c.row_end-end.ensures s w)) ∙ blocker_filled m.start s c.args.kind c.args.level c.args.pass c.row_end-end.result c.if-end-eq0.false ∙ found))
