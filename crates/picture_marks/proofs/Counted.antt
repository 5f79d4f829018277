-- How many marks each worker has.
use Rattle.std.proofs.Common.{◌≡◌, ◌≢◌, ℕ, zero, suc, ◌+◌, ◌<◌, ◌≤◌, ◌==◌, cond, true, false, List, [], ◌∷◌, length, take, get_or, set, sum, refl, sym, ap, ◌∙◌, subst, arith, inl, inr, get_or-set_other, get_or-set_same, nat_lt}
use Rattle.std.proofs.lemmas.Bool.{cases_eq}
use Rattle.std.proofs.lemmas.Bool.Decides.{nat_tests}
use Rattle.std.proofs.lemmas.List.Elements.{All-head, All-tail}
use Rattle.std.proofs.lemmas.List.FromFn.{sum_by-map-range_with_len_more}
use Rattle.std.proofs.lemmas.List.Sums.{count_by_more_no, count_by_more_yes, sum_by-cons}
use Rattle.std.specs.List.{All, count_by}
use Rattle.picture_marks.specs.Marks.{shares_of}
use Rattle.picture_marks.specs.declared.marks.Mark.{Mark}

is_same : (a b : ℕ) → a ≡ b → (a == b) ≡ true
is_same a b same = grind (arith, nat_tests)

is_other : (a b : ℕ) → b ≢ a → (a == b) ≡ false
is_other a b other = grind (arith, nat_tests)

-- how many marks a worker has
abbrev pub share : List Mark → ℕ → ℕ
share marks worker = count_by (λ mark. mark.worker == worker) marks

-- how many marks the workers below a number have
abbrev below : ℕ → List Mark → ℕ
below workers marks = count_by (λ mark. nat_lt mark.worker workers) marks

one_more : (worker n : ℕ) → cond {A = ℕ} (nat_lt worker (n + 1)) 1 0 ≡ cond (nat_lt worker n) 1 0 + cond (worker == n) 1 0
one_more worker n = grind (arith, nat_tests)

none_inside : (worker : ℕ) → cond {A = ℕ} (nat_lt worker 0) 1 0 ≡ 0
none_inside worker = grind (arith, nat_tests)

one_inside : (worker n : ℕ) → worker < n → cond {A = ℕ} (nat_lt worker n) 1 0 ≡ 1
one_inside worker n less = grind (arith, nat_tests)

none_below : (marks : List Mark) → below 0 marks ≡ 0
none_below [] = refl
none_below (mark ∷ marks) =
    let first = sum_by-cons (λ (m : Mark). cond (nat_lt m.worker 0) 1 0) mark marks in
    let rest = none_below marks in
    let out = none_inside mark.worker in
    omega arith

more_below : (n : ℕ) (marks : List Mark) → below (n + 1) marks ≡ below n marks + share marks n
more_below n [] = refl
more_below n (mark ∷ marks) =
    let longer = sum_by-cons (λ (m : Mark). cond (nat_lt m.worker (n + 1)) 1 0) mark marks in
    let first = sum_by-cons (λ (m : Mark). cond (nat_lt m.worker n) 1 0) mark marks in
    let same = sum_by-cons (λ (m : Mark). cond (m.worker == n) 1 0) mark marks in
    let one = one_more mark.worker n in
    let rest = more_below n marks in
    omega arith

all_below : (workers : ℕ) (marks : List Mark) → All (λ mark. mark.worker < workers) marks → below workers marks ≡ length marks
all_below workers [] within = refl
all_below workers (mark ∷ marks) within =
    let first = sum_by-cons (λ (m : Mark). cond (nat_lt m.worker workers) 1 0) mark marks in
    let less = All-head (λ (m : Mark). m.worker < workers) mark marks within in
    let rest = all_below workers marks (All-tail (λ (m : Mark). m.worker < workers) mark marks within) in
    let one = one_inside mark.worker workers less in
    omega arith

shares_below : (workers : ℕ) (marks : List Mark) → sum (shares_of workers marks) ≡ below workers marks
shares_below zero marks = sym (none_below marks)
shares_below (suc n) marks =
    let more = sum_by-map-range_with_len_more (λ (x : ℕ). x) (share marks) 0 n n (omega arith) in
    let rest = shares_below n marks in
    let now = more_below n marks in
    let next : n + 1 ≡ suc n = omega arith in
    subst (λ (k : ℕ). sum (shares_of k marks) ≡ below k marks) next (more ∙ ap (λ s. s + share marks n) rest ∙ sym now)

-- marks of such workers are all in a share
pub shares-sum : (workers : ℕ) (column : List Mark) → All (λ mark. mark.worker < workers) column → sum (shares_of workers column) ≡ length column
shares-sum workers column within = shares_below workers column ∙ all_below workers column within

-- with one more mark, the worker that it is of has one more
pub share-more : (workers : ℕ) (shares : List ℕ) (marks : List Mark) (i : ℕ) (d : Mark) → i < length marks → length shares ≡ workers → (get_or marks i d).worker < workers
    → ((worker : ℕ) → worker < workers → get_or shares worker 0 ≡ share (take i marks) worker)
    → (worker : ℕ) → worker < workers → get_or (set shares (get_or marks i d).worker (get_or shares (get_or marks i d).worker 0 + 1)) worker 0 ≡ share (take (i + 1) marks) worker
share-more workers shares marks i d within counted inside known worker less =
    let at = (get_or marks i d).worker in
    let mine = λ (mark : Mark). mark.worker == worker in
    elim (cases_eq worker at) [
      | inl here ↦
          let fits : at < length shares = omega arith in
          let test : mine (get_or marks i d) ≡ true = is_same at worker (sym here) in
          let more = count_by_more_yes mine marks i d within test in
          let now : get_or (set shares at (get_or shares at 0 + 1)) worker 0 ≡ get_or shares at 0 + 1 = rw here (get_or-set_same shares at (get_or shares at 0 + 1) 0 fits) in
          let before : get_or shares at 0 ≡ share (take i marks) worker = rw (sym here) (known worker less) in
          now ∙ ap (λ n. n + 1) before ∙ sym more
      | inr other ↦
          let test : mine (get_or marks i d) ≡ false = is_other at worker other in
          let now : get_or (set shares at (get_or shares at 0 + 1)) worker 0 ≡ get_or shares worker 0 = rw get_or-set_other refl in
          now ∙ known worker less ∙ sym (count_by_more_no mine marks i d within test)
    ]

-- .. and with one of no worker that counts, none
pub share-none : (workers : ℕ) (marks : List Mark) (i : ℕ) (d : Mark) → i < length marks → workers ≤ (get_or marks i d).worker
    → (worker : ℕ) → worker < workers → share (take (i + 1) marks) worker ≡ share (take i marks) worker
share-none workers marks i d within past worker less =
    let at = (get_or marks i d).worker in
    count_by_more_no (λ (mark : Mark). mark.worker == worker) marks i d within (is_other at worker (λ e. absurd (omega arith)))
