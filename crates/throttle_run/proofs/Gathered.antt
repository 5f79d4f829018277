-- The answers of lines, and those of each worker among them.
use Rattle.std.proofs.Common.{◌≡◌, ◌≢◌, ◌+◌, ◌<◌, ◌≤◌, ◌==◌, ℕ, Bool, cond, List, [], ◌∷◌, ◌++◌, length, map, filter, take, take_all, drop, set, get_or, refl, sym, ap, ◌∙◌, subst, arith, inl, inr, eq-eqb, ne_eqb, append-nil, get_or-set_same, get_or-set_other, length-append, append_assoc}
use Rattle.std.proofs.lemmas.Bool.{cases_eq}
use Rattle.std.proofs.lemmas.List.{map-append, length-map, take_more, length-set, length-take-le, get_or_default, get_or-map, drop_more, drop_all}
use Rattle.std.proofs.lemmas.List.Elements.{filter-append}
use Rattle.std.specs.List.{zip}
use Rattle.quota_bucket.specs.declared.desks.Taken.{Taken}
use Rattle.throttle_run.specs.declared.lines.ThrottleLine.{ThrottleLine}
use Rattle.throttle_run.specs.declared.workers.Job.{Job}
use Rattle.throttle_run.specs.declared.workers.Worker.{Worker}
use Rattle.throttle_run.specs.Throttled.{lines_of, answers_of, line_text, lines_text}
use Rattle.throttle_run.specs.Work.{lines_in, tolds, jobs_of, job_at, Each, IsDealt}
use Rattle.throttle_run.proofs.Dealt.{no_line, other_more, own_count, own_within, own_most}

abbrev is_of : ℕ → ThrottleLine × Taken → Bool
is_of worker a = a.0.worker == worker

abbrev answer_in : ThrottleLine × Taken → Taken
answer_in a = a.1

abbrev pub none : Taken
none = record { refilled = 0; before = 0; moved = 0 }

abbrev kept : ThrottleLine × Taken → Bool → List Taken
kept a b = map answer_in (cond b (a ∷ []) [])

one_mine : (worker : ℕ) (line : ThrottleLine) (answer : Taken) → line.worker ≡ worker → answers_of worker (line ∷ []) (answer ∷ []) ≡ answer ∷ []
one_mine worker line answer mine = ap (kept (line, answer)) (eq-eqb line.worker worker mine)

one_other : (worker : ℕ) (line : ThrottleLine) (answer : Taken) → line.worker ≢ worker → answers_of worker (line ∷ []) (answer ∷ []) ≡ []
one_other worker line answer other = ap (kept (line, answer)) (ne_eqb line.worker worker other)

-- lists side by side, each with one element more
zip_more : {A B : Type 0} (xs : List A) (ys : List B) (x : A) (y : B) → length ys ≡ length xs → zip (xs ++ x ∷ []) (ys ++ y ∷ []) ≡ zip xs ys ++ (x, y) ∷ []
zip_more [] [] x y same = refl
zip_more [] (b ∷ ys) x y same = absurd (omega (arith, same))
zip_more (a ∷ xs) [] x y same = absurd (omega (arith, same))
zip_more (a ∷ xs) (b ∷ ys) x y same = ap (λ zs. (a, b) ∷ zs) (zip_more xs ys x y (omega (arith, same)))

answers_append : (worker : ℕ) (lines : List ThrottleLine) (answers : List Taken) (line : ThrottleLine) (answer : Taken) → length answers ≡ length lines
    → answers_of worker (lines ++ line ∷ []) (answers ++ answer ∷ []) ≡ answers_of worker lines answers ++ answers_of worker (line ∷ []) (answer ∷ [])
answers_append worker lines answers line answer same =
    ap (λ told. map answer_in (filter (is_of worker) told)) (zip_more lines answers line answer same) ∙ ap (map answer_in) (filter-append (is_of worker) (zip lines answers) ((line, answer) ∷ []))
    ∙ map-append answer_in (filter (is_of worker) (zip lines answers)) (filter (is_of worker) ((line, answer) ∷ []))

-- how far the answers have come: so many of each worker's stand there
pub record HaveCome (all : List Worker) (lines : List ThrottleLine) (next : List ℕ) (answers : List Taken) : Type 0 where
  pub one_each : length answers ≡ length lines
  pub size : length next ≡ length all
  pub counted : (w : ℕ) → w < length all → get_or next w 0 ≡ length (lines_of w lines)
  pub sorted : (w : ℕ) → w < length all → answers_of w lines answers ≡ take (length (lines_of w lines)) (tolds (jobs_of all w))

pub none_come : (all : List Worker) (next : List ℕ) → length next ≡ length all → ((w : ℕ) → w < length all → get_or next w 0 ≡ 0) → HaveCome all [] next []
none_come all next size zeros = record { one_each = refl; size = size; counted = zeros; sorted = λ w below. refl }

-- and with one line more
module _ (all : List Worker) (lines : List ThrottleLine) (dealt : Each (IsDealt lines) all) (i : ℕ) (within : i < length lines) (next : List ℕ) (answers : List Taken) (come : HaveCome all (take i lines) next answers)
    (here : (get_or lines i no_line).worker < length all) where
  abbrev line : ThrottleLine
  line = get_or lines i no_line

  abbrev n : ℕ
  n = length (lines_of line.worker (take i lines))

  pub place_is : (at : ℕ) → at ≡ get_or next line.worker at → at ≡ n
  place_is at is = is ∙ get_or_default next line.worker at 0 (omega (arith, here, come.size)) ∙ come.counted line.worker here

  pub few_before : n ≤ i
  few_before = omega (arith, own_most line.worker (take i lines), length-take-le i lines (omega (arith, within)))

  module _ (d : Worker) where
    abbrev worker : Worker
    worker = get_or all line.worker d

    jobs_there : jobs_of all line.worker ≡ worker.jobs
    jobs_there = get_or-map (λ (w : Worker). w.jobs) all line.worker d [] here

    pub job_left : n < length worker.jobs
    job_left =
        let many : length worker.jobs ≡ length (lines_of line.worker lines) = sym (length-map worker.jobs (λ (j : Job). j.line)) ∙ ap length (dealt line.worker d here) in
        omega (arith, many, own_within lines i within)

    abbrev answer : Taken
    answer = (job_at worker.jobs n).told

    mine_now : take (n + 1) (tolds (jobs_of all line.worker)) ≡ take n (tolds (jobs_of all line.worker)) ++ answer ∷ []
    mine_now =
        let jobs : tolds (jobs_of all line.worker) ≡ tolds worker.jobs = ap tolds jobs_there in
        ap (take (n + 1)) jobs ∙ take_more (tolds worker.jobs) n none (omega (arith, job_left, length-map worker.jobs (λ (j : Job). j.told)))
        ∙ (λ k. take n (sym jobs k) ++ get_or-map (λ (j : Job). j.told) worker.jobs n (job_at [] 0) none (job_left) k ∷ [])

    longer : (w : ℕ) → answers_of w (take (i + 1) lines) (answers ++ answer ∷ []) ≡ answers_of w (take i lines) answers ++ answers_of w (line ∷ []) (answer ∷ [])
    longer w = ap (λ (ls : List ThrottleLine). answers_of w ls (answers ++ answer ∷ [])) (take_more lines i no_line within) ∙ answers_append w (take i lines) answers line answer come.one_each

    sorted_mine : answers_of line.worker (take (i + 1) lines) (answers ++ answer ∷ []) ≡ take (length (lines_of line.worker (take (i + 1) lines))) (tolds (jobs_of all line.worker))
    sorted_mine =
        longer line.worker ∙ (λ k. come.sorted line.worker here k ++ one_mine line.worker line answer refl k) ∙ sym mine_now
        ∙ ap (λ (m : ℕ). take m (tolds (jobs_of all line.worker))) (sym (own_count lines i within))

    sorted_other : (w : ℕ) → line.worker ≢ w → w < length all → answers_of w (take (i + 1) lines) (answers ++ answer ∷ []) ≡ take (length (lines_of w (take (i + 1) lines))) (tolds (jobs_of all w))
    sorted_other w other below =
        longer w ∙ (λ k. come.sorted w below k ++ one_other w line answer other k) ∙ append-nil (take (length (lines_of w (take i lines))) (tolds (jobs_of all w)))
        ∙ ap (λ (ls : List ThrottleLine). take (length ls) (tolds (jobs_of all w))) (sym (other_more lines i within w other))

    next_mine : get_or (set next line.worker (n + 1)) line.worker 0 ≡ length (lines_of line.worker (take (i + 1) lines))
    next_mine = get_or-set_same next line.worker (n + 1) 0 (omega (arith, here, come.size)) ∙ sym (own_count lines i within)

    next_other : (w : ℕ) → line.worker ≢ w → w < length all → get_or (set next line.worker (n + 1)) w 0 ≡ length (lines_of w (take (i + 1) lines))
    next_other w other below = get_or-set_other next line.worker w (n + 1) 0 (λ e. other (sym e)) ∙ come.counted w below ∙ ap length (sym (other_more lines i within w other))

    one_more_come : HaveCome all (take (i + 1) lines) (set next line.worker (n + 1)) (answers ++ answer ∷ [])
    one_more_come = record {
      one_each = omega (arith, length-append answers (answer ∷ []), ap length (take_more lines i no_line within), length-append (take i lines) (line ∷ []), come.one_each);
      size = length-set next line.worker (n + 1) ∙ come.size;
      counted = λ w below. elim (cases_eq line.worker w) [
        | inl mine ↦ subst (λ (p : ℕ). get_or (set next line.worker (n + 1)) p 0 ≡ length (lines_of p (take (i + 1) lines))) mine next_mine
        | inr other ↦ next_other w other below
      ];
      sorted = λ w below. elim (cases_eq line.worker w) [
        | inl mine ↦ subst (λ (p : ℕ). answers_of p (take (i + 1) lines) (answers ++ answer ∷ []) ≡ take (length (lines_of p (take (i + 1) lines))) (tolds (jobs_of all p))) mine sorted_mine
        | inr other ↦ sorted_other w other below
      ];
    }

    pub come_more : (at : ℕ) (told : Taken) (now : List Taken) → at ≡ get_or next line.worker at → told ≡ (job_at worker.jobs at).told → now ≡ answers ++ told ∷ [] → HaveCome all (take (i + 1) lines) (set next line.worker (at + 1)) now
    come_more at told now place is pushed =
        let at_is : n ≡ at = sym (place_is at place) in
        let told_is : answer ≡ told = ap (λ (m : ℕ). (job_at worker.jobs m).told) at_is ∙ sym is in
        subst (HaveCome all (take (i + 1) lines) (set next line.worker (at + 1))) (ap (λ (t : Taken). answers ++ t ∷ []) told_is ∙ sym pushed)
        (subst (λ (m : ℕ). HaveCome all (take (i + 1) lines) (set next line.worker (m + 1)) (answers ++ answer ∷ [])) at_is one_more_come)

-- all answers have come
pub all_come : (all : List Worker) (lines : List ThrottleLine) → Each (IsDealt lines) all → (next : List ℕ) (answers : List Taken) → HaveCome all lines next answers → (w : ℕ) → w < length all → answers_of w lines answers ≡ tolds (jobs_of all w)
all_come [] lines dealt next answers come w below = absurd (omega arith)
all_come (first ∷ rest) lines dealt next answers come w below =
    let all : List Worker = first ∷ rest in
    let jobs : jobs_of all w ≡ (get_or all w first).jobs = get_or-map (λ (x : Worker). x.jobs) all w first [] below in
    let many : length (tolds (jobs_of all w)) ≡ length (lines_of w lines) =
    length-map (jobs_of all w) (λ (j : Job). j.told) ∙ sym (length-map (jobs_of all w) (λ (j : Job). j.line)) ∙ ap (λ (js : List Job). length (lines_in js)) jobs ∙ ap length (dealt w first below) in
    come.sorted w below ∙ take_all (length (lines_of w lines)) (tolds (jobs_of all w)) (omega (arith, many))

-- the text of lines that is left begins with that of the next
lines_left : (lines : List ThrottleLine) (answers : List Taken) (i : ℕ) → i < length lines → length answers ≡ length lines
    → lines_text (drop i lines) (drop i answers) ≡ line_text (get_or lines i no_line) (get_or answers i none) ++ lines_text (drop (i + 1) lines) (drop (i + 1) answers)
lines_left lines answers i within same = (λ j. lines_text (drop_more lines i no_line within j) (drop_more answers i none (omega (arith, within, same)) j))

-- a text with the next line
pub line_pushed : (lines : List ThrottleLine) (answers : List Taken) (i : ℕ) (text longer whole : List ℕ) → i < length lines → length answers ≡ length lines → longer ≡ text ++ line_text (get_or lines i no_line) (get_or answers i none)
    → text ++ lines_text (drop i lines) (drop i answers) ≡ whole → longer ++ lines_text (drop (i + 1) lines) (drop (i + 1) answers) ≡ whole
line_pushed lines answers i text longer whole within same grown known =
    let line : List ℕ = line_text (get_or lines i no_line) (get_or answers i none) in
    let rest : List ℕ = lines_text (drop (i + 1) lines) (drop (i + 1) answers) in
    ap (λ (t : List ℕ). t ++ rest) grown ∙ append_assoc text line rest ∙ ap (λ (t : List ℕ). text ++ t) (sym (lines_left lines answers i within same)) ∙ known

-- .. and with all
pub lines_pushed : (lines : List ThrottleLine) (answers : List Taken) (i : ℕ) (text whole : List ℕ) → length lines ≤ i → text ++ lines_text (drop i lines) (drop i answers) ≡ whole → text ≡ whole
lines_pushed lines answers i text whole past known =
    sym (append-nil text) ∙ ap (λ (ls : List ThrottleLine). text ++ lines_text ls (drop i answers)) (sym (drop_all i lines past)) ∙ known
