-- The words of a funnel that opens, and the list of its passes.
use Rattle.std.proofs.Common.{◌≡◌, ℕ, zero, suc, ◌+◌, ◌-◌, ◌<◌, List, [], ◌∷◌, ◌++◌, map, All, slice_set, refl, sym, ap, ◌∙◌, subst, arith}
use Rattle.std.specs.Prelude.{replicate}
use Rattle.running.specs.Running.{numbers_from, upto}
use Rattle.running.proofs.Numbers.{numbers_more}
use Rattle.fn_layout.specs.Words.{Name, number, read, words}
use Rattle.fn_layout.proofs.Read.{numbers_are_named}
use Rattle.fn_core.specs.declared.Start.{Start}
use Rattle.fn_core.specs.State.{State, opened}
use Rattle.fn_core.specs.Words.{word, words_of, list_of}
use Rattle.fn_core.proofs.Public.{list_of-set}
use Rattle.fn_table.specs.Seen.{TableView, PassView, IsOf, IsWhole, AreOpened, fresh, fresh_passes}
use Rattle.fn_table.proofs.Glances.{glances_run, glances_idle}

zeros : (n : ℕ) → list_of (λ _. 0) n ≡ replicate n 0
unfolding list_of
zeros zero = refl
zeros (suc n) = ap (λ (xs : List ℕ). 0 ∷ xs) (zeros n)

-- each word but main is 0
empty_word : (start : Start) (name : Name) (n : ℕ) → number start.shape name ≡ n → 0 < n → word start (opened start) name ≡ 0
empty_word start name n is some = grind arith

pub first_words_are : (start : Start) → words_of start (opened start) ≡ slice_set (replicate (words start.shape) 0) 0 start.opening
first_words_are start =
    let n = words start.shape in
    let f : ℕ → ℕ = λ i. word start (opened start) (read start.shape i) in
    list_of-set (λ _. 0) f n 0 (omega arith) (λ i inside other. empty_word start (read start.shape i) i (numbers_are_named start.shape i inside).1 (omega arith))
    ∙ ap (λ (xs : List ℕ). slice_set xs 0 start.opening) (zeros n)

pub map-last : {A B : Type 0} (f : A → B) (xs : List A) (x : A) → map f (xs ++ x ∷ []) ≡ map f xs ++ f x ∷ []
map-last f [] x = refl
map-last f (y ∷ ys) x = ap (λ zs. f y ∷ zs) (map-last f ys x)

-- one pass more
pub one_more : (t : TableView) (n : ℕ) → 0 < n → map (fresh t) (numbers_from 1 (n - 1)) ++ fresh t n ∷ [] ≡ map (fresh t) (numbers_from 1 (n + 1 - 1))
one_more t n h =
    let at : 1 + (n - 1) ≡ n = omega arith in
    let len : suc (n - 1) ≡ n + 1 - 1 = omega arith in
    ap (λ k. map (fresh t) (numbers_from 1 (n - 1)) ++ fresh t k ∷ []) (sym at) ∙ (sym (map-last (fresh t) (numbers_from 1 (n - 1)) (1 + (n - 1)))
    ∙ (ap (map (fresh t)) (sym (numbers_more 1 (n - 1))) ∙ ap (λ k. map (fresh t) (numbers_from 1 k)) len))

-- each of them makes no call, and has its whole allowance
pub each_whole : (t : TableView) (ns : List ℕ) → All IsWhole (map (fresh t) ns)
each_whole t [] i d l = absurd (omega arith)
each_whole t (n ∷ ns) zero d l = (glances_idle t.start n (t.start.shape.passes - 1), ap (λ (s : State). (s.callers n).left) (glances_run t.start (opened t.start) (t.start.shape.passes - 1)))
each_whole t (n ∷ ns) (suc i) d l = each_whole t ns i d (omega arith)

each_of : (t : TableView) (ns : List ℕ) → All (IsOf t) (map (fresh t) ns)
each_of t [] i d l = absurd (omega arith)
each_of t (n ∷ ns) zero d l = (refl, refl)
each_of t (n ∷ ns) (suc i) d l = each_of t ns i d (omega arith)

numbers_fresh : (t : TableView) (ns : List ℕ) → map (λ (p : PassView). p.number) (map (fresh t) ns) ≡ ns
numbers_fresh t [] = refl
numbers_fresh t (n ∷ ns) = ap (λ (xs : List ℕ). n ∷ xs) (numbers_fresh t ns)

pub are_opened : (t : TableView) (ps : List PassView) → ps ≡ fresh_passes t → AreOpened t ps
are_opened t ps is =
    subst (AreOpened t) (sym is) (record { fresh = refl; all = numbers_fresh t (upto t.start.shape.passes); together = each_of t (upto t.start.shape.passes); idle = each_whole t (upto t.start.shape.passes) })
