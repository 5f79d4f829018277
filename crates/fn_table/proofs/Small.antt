-- The numbers that steps store and add stay below 2^63.
use Rattle.std.proofs.Common.{◌≡◌, ℕ, zero, suc, ◌+◌, ◌%◌, ◌^◌, ◌<◌, ◌≤◌, subst, sym, ◌∙◌, arith}
use Rattle.std.specs.Prelude.{Some}
use Rattle.fn_model.specs.declared.Kind.{Kind}
use Rattle.fn_rows.specs.declared.Stage.TheVariants.{Saw}
use Rattle.running.specs.Machine as machine
use Rattle.fn_layout.specs.Tree.{aggregator, member}
use Rattle.fn_core.specs.declared.Move.{Move}
use Rattle.fn_core.specs.declared.Move.TheVariants.{Announce}
use Rattle.fn_core.specs.declared.Start.{Start}
use Rattle.fn_core.specs.Words.{Own, change}
use Rattle.fn_core.specs.Calls.{IsLegal}
use Rattle.fn_core.proofs.Public.{rows_are_lawful, words_are_small}
use Rattle.fn_table.specs.Funnel.{MayTake, funnel, addition}
use Rattle.fn_table.specs.Seen.{PassView, May, own_of, event}
use Rattle.fn_table.specs.Seats.{IsStep}
use Rattle.fn_table.proofs.Fit.{additions_fit}
use Rattle.fn_table.proofs.Owes.{named, may_take}

-- what a pass saw is the end of a batch, and so is small
pub seen_small : (p : PassView) (kind : Kind) (level seen : ℕ) → IsLegal p.seen → May p (Announce kind level) → (own_of p).stages kind level ≡ Saw seen → seen < 2 ^ 63
seen_small p kind zero seen legal may is = let n = named p (Announce kind 0) legal may in let low : 1 ≤ 0 = n.2.0 in absurd (omega arith)
seen_small p kind (suc below) seen legal may is =
    let index : ℕ = aggregator p.seen.start.shape p.number (suc below) in
    let law = rows_are_lawful p.seen.start p.seen.log legal.0 legal.1 kind (suc below) index in
    let within = law.told.saw (member p.seen.start.shape (suc below) p.number) seen is in
    let counted = law.ordered.counted in
    let small = (words_are_small p.seen.start p.seen.log legal.0 legal.1).0 kind below index in
    omega (arith, within, counted, small)

small_mod : (n : ℕ) → n < 2 ^ 63 → n % 2 ^ 64 ≡ n
small_mod n h = omega arith

-- what an addition makes of the number found
adds_all : (start : Start) (o : Own) (pass : ℕ) (step : Move) (amount n : ℕ) → addition step ≡ Some amount → change start o pass step n ≡ n + amount
adds_all start o pass step amount n is = grind arith

-- additions don't wrap
pub adds : (p : PassView) (step : Move) (amount : ℕ) → IsLegal p.seen → addition step ≡ Some amount → IsStep p step (λ n. (n + amount) % 2 ^ 64)
adds p step amount legal is = record {
  change = λ may log ok same.
      (let e = event p.number step in
      small_mod (machine.found funnel p.seen.start log e + amount) (additions_fit p.seen.start log e amount ok (subst (λ (o : Own). MayTake p.seen.start o e) (sym same) (may_take p step legal may)) is)
      ∙ sym (adds_all p.seen.start (own_of p) p.number step amount (machine.found funnel p.seen.start log e) is));
}
