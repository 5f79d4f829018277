-- No addition to a word wraps.
use Rattle.std.proofs.Common.{◌≡◌, ℕ, zero, suc, ◌+◌, ◌≤◌, ◌<◌, ◌^◌, List, [], ◌∷◌, ◌++◌, length, slice_index, get_or-set_same, arith, sym, ap, subst, ◌∙◌}
use Rattle.std.specs.Prelude.{Some}
use Rattle.fn_model.specs.declared.Kind.{Kind}
use Rattle.running.specs.Machine.{IsLegal, own_of, found, state_of}
use Rattle.running.proofs.Logs.{legal_more}
use Rattle.fn_layout.specs.Tree.{aggregator}
use Rattle.fn_layout.specs.Words.{Name, Main, Value, IsNamed, number, read, words}
use Rattle.fn_layout.proofs.Tree.{aggregator_below}
use Rattle.fn_layout.proofs.Read.{names_are_read}
use Rattle.fn_core.specs.declared.Event.{Event}
use Rattle.fn_core.specs.declared.Start.{Start}
use Rattle.fn_core.specs.declared.Move.{Move}
use Rattle.fn_core.specs.declared.Move.TheVariants.{Arrive, Apply, Direct}
use Rattle.fn_core.specs.State.{State}
use Rattle.fn_core.specs.Machine.{IsStart}
use Rattle.fn_core.specs.Words.{word, words_of, IsPlaced}
use Rattle.fn_core.proofs.Public.{length-list_of, word_found, words_are_small}
use Rattle.fn_table.specs.Funnel.{MayTake, funnel, AdditionsFit, addition}
use Rattle.fn_table.proofs.FunnelLaws.{guards_are_own, logs_are_legal, placed_after, within_after, laws}

arrival_fits : (start : Start) (log : List Event) (pass : ℕ) (kind : Kind) (below weight : ℕ) → let event : Event = record { pass = pass; step = Arrive kind (suc below) weight } in
    IsLegal funnel start log → MayTake start (own_of funnel start log pass) event → found funnel start log event + weight < 2 ^ 63
arrival_fits start log pass kind below weight legal guard =
    let event : Event = record { pass = pass; step = Arrive kind (suc below) weight } in
    let s : State = state_of funnel start log in
    let more : List Event = log ++ event ∷ [] in
    let may = (guards_are_own start s event guard).1 in
    let placed = subst (IsPlaced start.shape) may.0.0 (placed_after start log legal pass) in
    let index : ℕ = aggregator start.shape pass (suc below) in
    let name : Name = Value kind (suc below) index in
    let at : ℕ = number start.shape name in
    let named : IsNamed start.shape name = (placed.0, placed.1, aggregator_below start.shape pass (suc below)) in
    let n : ℕ = found funnel start log event + weight in
    let l = logs_are_legal start more (legal_more funnel start log event legal guard) in
    let small : ((state_of funnel start more).rows kind (suc below) index).total < 2 ^ 63 =
    subst (λ (x : State). (x.rows kind (suc below) index).total < 2 ^ 63) l.1 ((words_are_small start more guard.0 l.0).0 kind below index) in
    let inside : at < length (words_of start s) = omega (arith, (names_are_read start.shape name named).1, length-list_of (λ i. word start s (read start.shape i)) (words start.shape)) in
    let same : n ≡ ((state_of funnel start more).rows kind (suc below) index).total =
    sym (get_or-set_same (words_of start s) at n 0 inside) ∙ ap (λ (xs : List ℕ). slice_index xs at) (sym (laws.one_word start log event legal guard)) ∙ word_found start (state_of funnel start more) name named in
    rw same small

main_fits : (start : Start) (log : List Event) (weight main : ℕ) → IsStart start → main ≡ (state_of funnel start log).main → (state_of funnel start log).main + weight ≤ start.cap → main + weight < 2 ^ 63
main_fits start log weight main ok is within = let c : start.cap ≤ 9223372036854775807 = ok.cap in omega arith

fits : (start : Start) (log : List Event) (pass : ℕ) (step : Move) (weight : ℕ) → let event : Event = record { pass = pass; step = step } in
    IsLegal funnel start log → MayTake start (own_of funnel start log pass) event → addition step ≡ Some weight → found funnel start log event + weight < 2 ^ 63
fits start log pass (Arrive kind zero w) weight legal guard is = absurd ((guards_are_own start (state_of funnel start log) (record { pass = pass; step = Arrive kind 0 w }) guard).1.1)
fits start log pass (Arrive kind (suc below) w) weight legal guard is = let e : w ≡ weight = cc in omega (arith, e, arrival_fits start log pass kind below w legal guard)
fits start log pass (Apply w) weight legal guard is =
    let e : w ≡ weight = cc in
    omega (arith, e, main_fits start log w (found funnel start log (record { pass = pass; step = Apply w })) guard.0 (word_found start (state_of funnel start log) Main tt) (within_after start log (record { pass = pass; step = Apply w }) legal guard))
fits start log pass (Direct w) weight legal guard is =
    let e : w ≡ weight = cc in
    omega (arith, e, main_fits start log w (found funnel start log (record { pass = pass; step = Direct w })) guard.0 (word_found start (state_of funnel start log) Main tt) (within_after start log (record { pass = pass; step = Direct w }) legal guard))
fits start log pass _ weight legal guard is = cc

pub additions_fit : AdditionsFit
additions_fit start log event weight legal guard is = fits start log event.pass event.step weight legal guard is
