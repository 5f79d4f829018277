-- What the lines of each worker may move, as it is added up.
use Rattle.std.proofs.Common.{◌≡◌, ◌+◌, ◌<◌, ◌^◌, ℕ, List, [], ◌∷◌, length, take, set, get_or, sum, sym, ap, ◌∙◌, subst, arith, inl, inr, get_or-set_same, get_or-set_other}
use Rattle.std.proofs.lemmas.Bool.{cases_eq}
use Rattle.std.proofs.lemmas.List.{length-set}
use Rattle.std.proofs.lemmas.List.Sums.{sum_by-set, sum_by-append, sum_by-cons, sum_by_more, sum_by-take-le}
use Rattle.std.specs.List.{sum_by}
use Rattle.throttle_run.specs.declared.lines.ThrottleLine.{ThrottleLine}
use Rattle.throttle_run.specs.Lines.{cost, AreSound}
use Rattle.throttle_run.specs.Throttled.{lines_of}
use Rattle.throttle_run.proofs.Dealt.{no_line, own_more, other_more, own_costs}

-- each worker has the costs of its lines, and all together those of all
pub record AreAllowed (workers burst : ℕ) (lines : List ThrottleLine) (all : List ℕ) : Type 0 where
  pub count : length all ≡ workers
  pub total : sum all ≡ sum_by (cost burst) lines
  pub each : (w : ℕ) → w < workers → get_or all w 0 ≡ sum_by (cost burst) (lines_of w lines)

module _ (workers burst : ℕ) (lines : List ThrottleLine) (sound : AreSound workers burst lines) (i : ℕ) (within : i < length lines) (all : List ℕ) (so_far : AreAllowed workers burst (take i lines) all) where
  abbrev line : ThrottleLine
  line = get_or lines i no_line

  abbrev f : ThrottleLine → ℕ
  f = cost burst

  inside : line.worker < workers
  inside = sound.workers_are i no_line within

  sum_now : sum_by f (take (i + 1) lines) ≡ sum_by f (take i lines) + f line
  sum_now = sum_by_more f lines i no_line within

  own_now : sum_by f (lines_of line.worker (take (i + 1) lines)) ≡ sum_by f (lines_of line.worker (take i lines)) + f line
  own_now = ap (sum_by f) (own_more lines i within) ∙ sum_by-append f (lines_of line.worker (take i lines)) (line ∷ []) ∙ ap (λ (n : ℕ). sum_by f (lines_of line.worker (take i lines)) + n) (let one = sum_by-cons f line [] in omega (arith, one))

  pub fits : get_or all line.worker 0 + (line.amount + burst) < 2 ^ 63
  fits =
      let here = so_far.each line.worker inside in
      let all_of = own_costs f line.worker (take (i + 1) lines) in
      let some = sum_by-take-le f lines (i + 1) in
      let total = sound.total in
      omega (arith, here, own_now, all_of, some, total)

  pub one_more_allowed : AreAllowed workers burst (take (i + 1) lines) (set all line.worker (get_or all line.worker 0 + (line.amount + burst)))
  one_more_allowed = record {
    count = length-set all line.worker (get_or all line.worker 0 + (line.amount + burst)) ∙ so_far.count;
    total = (let grown = sum_by-set (λ (n : ℕ). n) all line.worker (get_or all line.worker 0 + (line.amount + burst)) 0 (omega (arith, inside, so_far.count)) in omega (arith, grown, sum_now, so_far.total));
    each = λ w below. elim (cases_eq line.worker w) [
      | inl mine ↦
          subst (λ (n : ℕ). get_or (set all line.worker (get_or all line.worker 0 + (line.amount + burst))) n 0 ≡ sum_by f (lines_of n (take (i + 1) lines))) mine
          (get_or-set_same all line.worker (get_or all line.worker 0 + (line.amount + burst)) 0 (omega (arith, inside, so_far.count)) ∙ ap (λ (n : ℕ). n + f line) (so_far.each line.worker inside) ∙ sym own_now)
      | inr other ↦
          get_or-set_other all line.worker w (get_or all line.worker 0 + (line.amount + burst)) 0 (λ e. other (sym e)) ∙ so_far.each w below ∙ ap (sum_by f) (sym (other_more lines i within w other))
    ];
  }
