-- Steps of a call one after the other: they are few, with at most one exchange among them, and what the last one tells is so from the first on.
use Rattle.std.proofs.Common.{◌≡◌, ⊎_elim, inl, inr, ℕ, suc, ◌*◌, ◌<◌, ◌≤◌, Bool, true, false, List, [], ◌∷◌, ◌++◌, length, refl, sym, ◌∙◌, ap, subst, arith, length-append}
use Rattle.std.specs.Prelude.{if◌then◌else◌}
use Rattle.std.proofs.lemmas.Bool.{false≢true}
use Rattle.std.proofs.lemmas.Nat.{mul-le}
use Rattle.fn_model.specs.declared.Kind.{Kind}
use Rattle.fn_rows.specs.declared.Stage.{Stage}
use Rattle.fn_rows.specs.declared.Stage.TheVariants.{Out}
use Rattle.fn_layout.specs.Tree.{aggregator, members}
use Rattle.fn_core.specs.declared.Start.{Start}
use Rattle.fn_core.specs.declared.Move.{Move}
use Rattle.fn_core.specs.declared.Move.TheVariants.{Exchange}
use Rattle.fn_core.specs.declared.Position.TheVariants.{Climbing, Deciding}
use Rattle.fn_core.specs.declared.answer.CoreStep.{CoreStep}
use Rattle.fn_core.specs.declared.answer.CoreStep.TheVariants as told
use Rattle.fn_core.specs.State.{State, stage}
use Rattle.fn_core.specs.Bound.{rank, visited_by, steps_left, steps_left_by}
use Rattle.fn_core.specs.Positions.{is_out, IsClimbing, Fits}
use Rattle.fn_core.specs.Laws.{HoldsRows}
use Rattle.fn_core.specs.Calls.{CoreLog, state_in, IsLegal, HasCall, Follows, HasFewLeft}
use Rattle.fn_core.specs.Polls.{is_going, is_exchange, exchanges}
use Rattle.fn_core.proofs.Public.{members_few, positions_fit, in_call}
use Rattle.fn_table.specs.Seen.{TableView, PassView, IsOf}
use Rattle.fn_table.specs.Later.{IsLater}
use Rattle.fn_table.proofs.Later.{later_none, later_on, legal_since, of_later}
use Rattle.fn_climb.specs.declared.course.Course.{Course}
use Rattle.fn_climb.specs.Course.{Holds, pending_of}
use Rattle.fn_climb.specs.Next.{PendingView}
use Rattle.fn_climb.specs.Steps.{HasSameCall, HoldsStill, Went, Advanced}
use Rattle.fn_climb.specs.Turns.{GoesOn, Ran, Polled}
use Rattle.fn_climb.proofs.Onward.{joined_from, next_cases}

-- a member that stands somewhere has a step left
rank_some : (n visited : ℕ) (g : Stage) → is_out g ≡ false → 1 ≤ rank n visited g
rank_some n visited Out is = absurd (false≢true (sym is))
rank_some n visited g is = omega arith

-- so a call has a step left
some_left : (core : CoreLog) (p n : ℕ) → IsLegal core → p < core.start.shape.passes → HasCall core p → 1 ≤ steps_left core.start (state_in core) p n
some_left core p n legal range u = ⊎_elim climbs decides (in_call core.start core.log legal.0 legal.1 p range u)
  where
    s : State
    s = state_in core

    climbs : (kind : Kind) × (level : ℕ) × ((s.callers p).position ≡ Climbing kind level) → 1 ≤ steps_left core.start s p n
    climbs (kind, level, is) =
        let stages : Kind → ℕ → Stage = λ k l. stage core.start s k l p in
        let up : IsClimbing core.start.shape.levels stages kind level = subst (Fits core.start.shape.levels stages) is (positions_fit core.start core.log legal.0 legal.1 p) in
        omega (arith, ap (steps_left_by core.start s p n) is, rank_some n (visited_by core.start s p kind level) (stage core.start s kind level p) up.there)

    decides : (kind : Kind) × (level word : ℕ) × ((s.callers p).position ≡ Deciding kind level word) → 1 ≤ steps_left core.start s p n
    decides (kind, level, word, is) = omega (arith, ap (steps_left_by core.start s p n) is)

-- what a number bounds, and counts for nothing where it is below another
abbrev AreFew : ℕ → ℕ → List Move → Type 0
AreFew left limit steps = (length steps ≤ left) × (exchanges steps ≤ 1) × (left < limit → exchanges steps ≡ 0)

-- one step before the others
few_more : {left less limit : ℕ} (step : Move) (steps : List Move) → less < left → (is_exchange step ≡ true → left ≡ limit) → AreFew less limit steps → AreFew left limit (step ∷ steps)
few_more {left} {less} {limit} step steps fewer at few = let counts = by (is_exchange step) at in (omega (arith, few.0, fewer), counts.0, counts.1)
  where
    by : (b : Bool) → (b ≡ true → left ≡ limit) → ((if b then suc (exchanges steps) else exchanges steps) ≤ 1) × (left < limit → (if b then suc (exchanges steps) else exchanges steps) ≡ 0)
    by true at = (omega (arith, few.2 (omega (arith, at refl, fewer))), (λ below. absurd (omega (arith, at refl, below))))
    by false at = (few.1, (λ below. few.2 (omega (arith, below, fewer))))

exchange_is : (step : Move) → is_exchange step ≡ true → (kind : Kind) × (amount : ℕ) × (step ≡ Exchange kind amount)
exchange_is (Exchange kind amount) is = (kind, amount, refl)
exchange_is _ is = absurd (false≢true is)

-- a call with its pass elsewhere
abbrev pub on : PendingView → PassView → PendingView
on p r = record p { pass = r }

-- the steps that a pass's call has left, where no aggregator has more rows than this
abbrev left : PassView → ℕ → ℕ
left p n = steps_left p.seen.start (state_in p.seen) p.number n

abbrev FewRows : PassView → ℕ → Type 0
FewRows p n = HoldsRows p.seen.start p.number n

-- no aggregator has more rows than all passes have
abbrev all : PassView → ℕ
all p = p.seen.start.shape.passes * p.seen.start.shape.rows

all_rows : (p : PassView) → FewRows p (all p)
all_rows p level inside =
    let shape = p.seen.start.shape in
    let index : ℕ = aggregator shape p.number level in
    mul-le (members shape level index) shape.rows shape.passes shape.rows (members_few shape level index) (omega arith)

module _ {p : PendingView} {told : CoreStep} {q : PassView} (w : Went p told q) (n : ℕ) (rows : FewRows p.pass n) where
  rows_then : FewRows q n
  rows_then = subst (λ (z : Start × ℕ). HoldsRows z.0 z.1 n) (λ i. (sym w.later.start i, sym w.later.number i)) rows

  -- an exchange comes with just so many steps left
  at_exchange : is_exchange w.step ≡ true → left p.pass n ≡ 8 * p.seen.start.shape.levels
  at_exchange is = elim (next_cases p w.step w.next) [
    | inl same ↦ let e = exchange_is w.step is in (w.few n rows).1 e.0 e.1 (same ∙ e.2)
    | inr other ↦ absurd (false≢true (sym (ap is_exchange other.3) ∙ is))
  ]

-- a step that leaves the call going leaves it fewer steps
falls_by : {p : PendingView} {r : PassView} (w : Went p told.Going r) (n : ℕ) → FewRows p.pass n → left r n < left p.pass n
falls_by {p} {r} w n rows =
    let fewer = w.follows.1 n rows in
    let same : left r n ≡ steps_left r.seen.start (state_in r.seen) p.number n = ap (λ (k : ℕ). steps_left r.seen.start (state_in r.seen) k n) w.later.number in
    omega (arith, fewer, same)

-- a call has few steps with its last one
few_along : (p : PendingView) {until q : PassView} {told : CoreStep} (steps : List Move) → GoesOn p steps until → (w : Went (on p until) told q) → (n : ℕ) → FewRows p.pass n → AreFew (left p.pass n) (8 * p.seen.start.shape.levels) (steps ++ w.step ∷ [])
few_along p {until} [] is w n rows =
    let there = subst (λ (v : PassView). FewRows v n) (sym is) rows in
    let some = some_left until.seen until.number n (legal_since until _ w.later) w.inside w.call in
    subst (λ (v : PassView). AreFew (left v n) (8 * v.seen.start.shape.levels) (w.step ∷ [])) is (few_more {less = 0} w.step [] (omega (arith, some)) (at_exchange w n there) (omega arith, omega arith, λ below. refl))
few_along p (step ∷ steps) (r, v, same, goes) w n rows =
    let rest = few_along (on p r) steps goes w n (rows_then v n rows) in
    subst (λ (m : Move). AreFew (left p.pass n) (8 * p.seen.start.shape.levels) (m ∷ (steps ++ w.step ∷ []))) same
    (few_more v.step (steps ++ w.step ∷ []) (falls_by v n rows) (at_exchange v n rows) (subst (λ (s : Start). AreFew (left r n) (8 * s.shape.levels) (steps ++ w.step ∷ [])) v.later.start rest))

-- what is so of a pass after steps, of one that has seen more since too
later_along : (p : PendingView) {until q : PassView} (steps : List Move) → GoesOn p steps until → IsLater until q → IsLater p.pass q
later_along p {q = q} [] is later = subst (λ (v : PassView). IsLater v q) is later
later_along p {q = q} (step ∷ steps) (r, v, same, goes) later = later_on p.pass r q v.later (later_along (on p r) steps goes later)

same_along : (p : PendingView) {until q : PassView} (steps : List Move) → GoesOn p steps until → HasSameCall until q → HasSameCall p.pass q
same_along p {q = q} [] is same = subst (λ (v : PassView). HasSameCall v q) is same
same_along p (step ∷ steps) (r, v, is, goes) same = let on_from = same_along (on p r) steps goes same in record { made = on_from.made ∙ v.same.made; last = on_from.last ∙ v.same.last; left = on_from.left ∙ v.same.left }

few_first : (p : PendingView) (r : PassView) (steps : List Move) → GoesOn p steps r → HasFewLeft r.seen r.number → HasFewLeft p.seen p.number
few_first p r [] is few = subst (λ (v : PassView). HasFewLeft v.seen v.number) is few
few_first p r (step ∷ steps) goes few = goes.1.few

-- what a step tells that doesn't leave the call going is so from before on
follows_from : (p r q : PassView) (how : CoreStep) → is_going how ≡ false → IsLater p r → Follows r.seen q.seen r.number how → Follows p.seen q.seen p.number how
follows_from p r q how ends later f = by how ends (subst (λ (z : Start × ℕ). Follows (record { start = z.0; log = r.seen.log }) q.seen z.1 how) (λ i. (later.start i, later.number i)) f)
  where
    by : (how : CoreStep) → is_going how ≡ false → Follows (record { start = p.seen.start; log = r.seen.log }) q.seen p.number how → Follows p.seen q.seen p.number how
    by (told.Ready reply) ends f = (f.0, f.1, joined_from p.seen.start p.seen.log r.seen.log q.seen p.number later.begins f.2)
    by (told.NotYet why) ends f = f
    by told.Going ends f = absurd (false≢true (sym ends))

-- steps that leave the call going, and one that doesn't, are a poll
polled : {p : PendingView} {until q : PassView} (told : CoreStep) (steps : List Move) → GoesOn p steps until → Went (on p until) told q → is_going told ≡ false → Polled p told q
polled {p} {until} {q} told steps goes w ends = record {
  steps = steps;
  until = until;
  goes = goes;
  last = w;
  ends = ends;
  short = λ n rows. let few = (few_along p steps goes w n rows).0 in omega (arith, few, length-append steps (w.step ∷ []), (few_first p until steps goes w.few n rows).0);
  once = (few_along p steps goes w (all p.pass) (all_rows p.pass)).1;
  later = later_along p steps goes w.later;
  follows = follows_from p.pass until q told ends (later_along p steps goes (later_none until (legal_since until q w.later))) w.follows;
  replied = w.replied;
  same = same_along p steps goes w.same;
}

-- more steps than a call has left
abbrev pub left_in : PassView → ℕ
left_in p = left p (all p)

pub falls : {p : PendingView} {r : PassView} → Went p told.Going r → left_in r < left_in p.pass
falls {p} {r} w =
    let same : left_in r ≡ left r (all p.pass) = (λ i. left r ((w.later.start i).shape.passes * (w.later.start i).shape.rows)) in
    omega (arith, falls_by w (all p.pass) (all_rows p.pass), same)

falls_along : (p : PendingView) (r : PassView) (steps : List Move) → GoesOn p steps r → left_in r ≤ left_in p.pass
falls_along p r [] is = let e : left_in r ≡ left_in p.pass = ap left_in is in omega (arith, e)
falls_along p s (step ∷ steps) (r, v, same, goes) = omega (arith, falls v, falls_along (on p r) s steps goes)

-- steps, and then others
goes_both : (p : PendingView) (r s : PassView) (steps more : List Move) → GoesOn p steps r → GoesOn (on p r) more s → GoesOn p (steps ++ more) s
goes_both p r s [] more is goes = subst (λ (v : PassView). GoesOn (on p v) more s) is goes
goes_both p r s (step ∷ steps) more goes after = (goes.0, goes.1, goes.2, goes_both (on p goes.0) r s steps more goes.3 after)

-- no step is a run, and one is
pub ran_none : {p : PassView} {c : Course} → Holds p c → Ran (pending_of p c) told.Going p c
ran_none {p} holds = record { steps = []; until = p; goes = refl; ends = (refl, (holds, refl)) }

pub ran_one : {p : PendingView} {q : PassView} {c : Course} (told : CoreStep) → Advanced p told q c → Ran p told q c
ran_one {q = q} told.Going (w, still) = record { steps = w.step ∷ []; until = q; goes = (q, w, refl, refl); ends = (refl, still) }
ran_one {p} (told.Ready reply) advanced = record { steps = []; until = p.pass; goes = refl; ends = advanced }
ran_one {p} (told.NotYet why) advanced = record { steps = []; until = p.pass; goes = refl; ends = advanced }

-- a run, and another
pub ran_more : {p : PendingView} {r q : PassView} {c d : Course} {how : CoreStep} → Ran p told.Going r c → Ran (pending_of r c) how q d → Ran p how q d
ran_more {p} {r} {q} {d = d} {how} first next =
    let then_on = subst (λ (xs : List ℕ). Ran (record { pass = r; rows = xs }) how q d) first.ends.1.1 next in record {
      steps = first.steps ++ then_on.steps;
      until = then_on.until;
      goes = goes_both p r then_on.until first.steps then_on.steps (subst (GoesOn p first.steps) (sym first.ends.0) first.goes) then_on.goes;
      ends = then_on.ends;
    }

-- it stays with its table
pub ran_of : {t : TableView} {p : PendingView} {q : PassView} {c : Course} → IsOf t p.pass → Ran p told.Going q c → IsOf t q
ran_of {t} {p} {q} of ran = of_later t p.pass q (later_along p ran.steps ran.goes (subst (λ (v : PassView). IsLater v q) ran.ends.0 (later_none q ran.ends.1.0.legal))) of

-- and leaves no more steps
pub ran_falls : {p : PendingView} {q : PassView} {c : Course} → Ran p told.Going q c → left_in q ≤ left_in p.pass
ran_falls {p} ran = let e = ap left_in ran.ends.0 in omega (arith, e, falls_along p ran.until ran.steps ran.goes)

-- one that doesn't leave the call going is a poll
pub ran_polled : {p : PendingView} {q : PassView} {c : Course} (how : CoreStep) → (how ≡ told.Going → ⊥) → Ran p how q c → Polled p how q × HoldsStill p how q c
ran_polled told.Going never ran = absurd (never refl)
ran_polled (told.Ready reply) never ran = (polled (told.Ready reply) ran.steps ran.goes ran.ends.0 refl, ran.ends.1)
ran_polled (told.NotYet why) never ran = (polled (told.NotYet why) ran.steps ran.goes ran.ends.0 refl, ran.ends.1)
