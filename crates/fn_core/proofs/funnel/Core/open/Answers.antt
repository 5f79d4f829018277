use Rattle.std.proofs.Common.{ℕ, List, map, refl, sym, ◌∙◌, ap, subst}
use Rattle.fn_core.specs.declared.machine.Machine.{Machine}
use Rattle.fn_core.specs.Machine.{IsStart}
use Rattle.fn_core.specs.Opening.{resting}
use Rattle.fn_core.specs.Fields.{Stands}
use Rattle.fn_core.proofs.Opened.{start_is, stands_open}
use Rattle.fn_core.proofs.funnel.Core.open.Goals as goal

pub invariant_of-result : goal.invariant_of-result
invariant_of-result c =
    let kept = c.in_ok-from_slice.field-0 in
    let machine : Machine = record { start = record { shape = c.args.shape; opening = c.args.opening; cap = c.args.cap; allowances = kept.items }; main = c.args.opening; rows = c.in_ok-rows.rows; standings = c.in_ok-standings.standings } in
    let ok : IsStart machine.start = subst (λ (xs : List ℕ). IsStart (record { shape = c.args.shape; opening = c.args.opening; cap = c.args.cap; allowances = xs })) (sym c.in_ok-from_slice.ensures.items)
    (start_is c.args.shape c.args.opening c.args.cap c.args.allowances.now c.requires.one_each c.requires.cap_below_limit c.requires.opening_below_cap c.requires.total_below_limit) in
    subst (Stands machine) (sym c.new.ensures)
    (stands_open machine ok refl c.in_ok-rows.ensures (c.in_ok-standings.ensures ∙ ap (map resting) (sym c.in_ok-from_slice.ensures.items)))
