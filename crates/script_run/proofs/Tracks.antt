-- What the history has of a pass's calls, along the lines of a script.
use Rattle.std.proofs.Common.{◌≡◌, ◌⊎◌, inl, inr, ℕ, suc, ◌<◌, Bool, cond, List, [], ◌∷◌, ◌++◌, length, eq-eqb, refl, sym, ◌∙◌, ap, subst, arith, append_assoc}
use Rattle.std.specs.Prelude.{◌==◌}
use Rattle.std.proofs.lemmas.List.{append-nil, length-append}
use Rattle.std.proofs.lemmas.List.Elements.{filter-append}
use Rattle.fn_model.specs.declared.Call.{Call}
use Rattle.fn_model.specs.Calls.{own}
use Rattle.fn_core.specs.declared.Event.{Event}
use Rattle.fn_core.specs.State.{Caller, State, opened, history_in}
use Rattle.fn_core.specs.Machine.{Legal, run}
use Rattle.fn_core.specs.Calls.{CoreLog, HasCall, IsIdle, IsLegal, calls_in, state_in}
use Rattle.fn_core.specs.Orders.{HasSameCalls}
use Rattle.fn_core.proofs.Public.{own_calls_stay, logs_are_parted_and_joined, resting_passes_have_no_call, runs_go_on, own_calls_are_in_order}

-- the core after further events
abbrev pub grown : CoreLog → List Event → CoreLog
grown core more = record { start = core.start; log = core.log ++ more }

-- the core after these events alone
abbrev pub after : CoreLog → List Event → CoreLog
after core log = record { start = core.start; log = log }

abbrev pub caller_in : CoreLog → ℕ → Caller
caller_in core pass = (state_in core).callers pass

-- the pass rests, and the history had all of its calls at that earlier moment already
abbrev pub HasAll : CoreLog → CoreLog → List Call → ℕ → Type 0
HasAll core was calls pass = IsIdle core pass × ((caller_in core pass).made ≡ (caller_in was pass).made) × (own pass (calls_in was) ≡ own pass calls)

-- the pass has made one call since, which is underway
abbrev pub LacksOne : CoreLog → CoreLog → List Call → ℕ → Type 0
LacksOne core was calls pass =
    (pass < core.start.shape.passes) × HasCall core pass × ((caller_in core pass).made ≡ suc (caller_in was pass).made) × (own pass calls ≡ own pass (calls_in was) ++ (caller_in core pass).last ∷ [])

-- the calls that a pass has made by some lines, and those of it in the history at an earlier moment at which none of them was underway
pub record Tracks (core : CoreLog) (calls : List Call) (pass : ℕ) : Type 0 where
  pub earlier : List Event
  pub later : List Event
  pub split : core.log ≡ earlier ++ later
  pub quiet : HasCall (after core earlier) pass → ⊥
  pub now : HasAll core (after core earlier) calls pass ⊎ LacksOne core (after core earlier) calls pass

-- events that leave the pass's calls as they are
pub tracks-kept : (core : CoreLog) (more : List Event) (calls now : List Call) (pass : ℕ) → Tracks core calls pass → HasSameCalls (caller_in (grown core more) pass) (caller_in core pass)
    → (IsIdle core pass → IsIdle (grown core more) pass) → (HasCall core pass → HasCall (grown core more) pass) → own pass now ≡ own pass calls → Tracks (grown core more) now pass
tracks-kept core more calls now pass t same idle call own_same = record {
  earlier = t.earlier;
  later = t.later ++ more;
  split = ap (λ (x : List Event). x ++ more) t.split ∙ append_assoc t.earlier t.later more;
  quiet = t.quiet;
  now = elim t.now [
    | inl all ↦ inl (idle all.0, same.0 ∙ all.1, all.2 ∙ sym own_same)
    | inr one ↦ inr (one.0, call one.1, same.0 ∙ one.2, own_same ∙ one.3 ∙ ap (λ (c : Call). own pass (calls_in (after core t.earlier)) ++ c ∷ []) (sym same.1))
  ];
}

-- the history has all calls of a pass that rests
pub tracks-here : (core : CoreLog) (calls : List Call) (pass : ℕ) → (HasCall core pass → ⊥) → IsIdle core pass → own pass (calls_in core) ≡ own pass calls → Tracks core calls pass
tracks-here core calls pass quiet idle all = record {
  earlier = core.log;
  later = [];
  split = sym (append-nil core.log);
  quiet = quiet;
  now = inl (idle, refl, all);
}

-- a pass whose calls were all in the history has made one more
pub tracks-begun : (core : CoreLog) (more : List Event) (now : List Call) (pass : ℕ) → pass < core.start.shape.passes → (HasCall core pass → ⊥) → HasCall (grown core more) pass
    → (caller_in (grown core more) pass).made ≡ suc (caller_in core pass).made → own pass now ≡ own pass (calls_in core) ++ (caller_in (grown core more) pass).last ∷ [] → Tracks (grown core more) now pass
tracks-begun core more now pass inside quiet call made joined = record {
  earlier = core.log;
  later = more;
  split = refl;
  quiet = quiet;
  now = inr (inside, call, made, joined);
}

-- the parts of a legal log
pub legal-later : (core : CoreLog) (earlier later : List Event) → IsLegal core → core.log ≡ earlier ++ later
    → IsLegal (after core earlier) × Legal core.start later (state_in (after core earlier)) × (state_in core ≡ run core.start later (state_in (after core earlier)))
legal-later core earlier later legal split =
    let parts = (logs_are_parted_and_joined core.start earlier later (opened core.start)).0 (subst (λ (l : List Event). Legal core.start l (opened core.start)) split legal.1) in (
      (legal.0, parts.0),
      parts.1,
      ap (λ (l : List Event). run core.start l (opened core.start)) split ∙ runs_go_on core.start earlier later (opened core.start),
    )

-- nothing has come to the calls of a pass that rests since the history had them all
pub all-there : (core : CoreLog) (calls : List Call) (pass : ℕ) → IsLegal core → (t : Tracks core calls pass) → HasAll core (after core t.earlier) calls pass → own pass (calls_in core) ≡ own pass calls
all-there core calls pass legal t all =
    let was : CoreLog = after core t.earlier in
    let parts = legal-later core t.earlier t.later legal t.split in
    let made : ((run core.start t.later (state_in was)).callers pass).made ≡ (caller_in was pass).made = ap (λ (s : State). (s.callers pass).made) (sym parts.2) ∙ all.1 in
    ap (λ (s : State). own pass (history_in core.start s)) parts.2
    ∙ own_calls_stay core.start t.earlier legal.0 parts.0.1 t.later parts.1 pass t.quiet made ∙ all.2

pub rests-has-all : (core : CoreLog) (calls : List Call) (pass : ℕ) → IsLegal core → Tracks core calls pass → IsIdle core pass → own pass (calls_in core) ≡ own pass calls
rests-has-all core calls pass legal t idle = elim t.now [
  | inl all ↦ all-there core calls pass legal t all
  | inr one ↦ absurd (resting_passes_have_no_call core legal pass one.0 idle one.1)
]

-- so the next call of a pass has the number of its calls as its own
quiet-number : (core : CoreLog) (pass : ℕ) → IsLegal core → (HasCall core pass → ⊥) → length (own pass (calls_in core)) ≡ (caller_in core pass).made
quiet-number core pass legal quiet = elim (own_calls_are_in_order core.start core.log legal.0 legal.1 pass).1 [
  | inl size ↦ size
  | inr less ↦ absurd (quiet less.1)
]

pub next-number : (core : CoreLog) (calls : List Call) (pass : ℕ) → IsLegal core → Tracks core calls pass → (caller_in core pass).made ≡ length (own pass calls)
next-number core calls pass legal t =
    let was : CoreLog = after core t.earlier in
    let size : length (own pass (calls_in was)) ≡ (caller_in was pass).made = quiet-number was pass (legal-later core t.earlier t.later legal t.split).0 t.quiet in
    elim t.now [
      | inl all ↦ all.1 ∙ sym size ∙ ap (λ (x : List Call). length x) all.2
      | inr one ↦
          let longer : length (own pass calls) ≡ length (own pass (calls_in was) ++ (caller_in core pass).last ∷ []) = ap (λ (x : List Call). length x) one.3 in
          let more = length-append (own pass (calls_in was)) ((caller_in core pass).last ∷ []) in
          let made = one.2 in
          omega (arith, made, size, longer, more)
    ]

-- one more call of a pass
pub own-more : (calls : List Call) (call : Call) (pass : ℕ) → call.pass ≡ pass → own pass (calls ++ call ∷ []) ≡ own pass calls ++ call ∷ []
own-more calls call pass is =
    let one : own pass (call ∷ []) ≡ call ∷ [] = ap (λ (b : Bool). cond b (call ∷ []) []) (eq-eqb call.pass pass is) in
    filter-append (λ c. c.pass == pass) calls (call ∷ []) ∙ ap (λ (x : List Call). own pass calls ++ x) one
