-- What each kind of step of a call tells, and how far the call has come then.
use Rattle.std.proofs.Common.{◌≡◌, ◌≢◌, ℕ, ◌<◌, ◌≤◌, Bool, true, false, Option, None, refl, sym, ap, subst, ◌∙◌, arith}
use Rattle.std.specs.Prelude.{◌==◌, ◌&&◌, if◌then◌else◌, nat_lt}
use Rattle.std.proofs.lemmas.Bool.{eq-eqb, ne_eqb, lt-ltb, le-ltb, false≢true}
use Rattle.fn_model.specs.declared.Kind.{Kind}
use Rattle.fn_rows.specs.declared.Stage.{Stage}
use Rattle.fn_rows.specs.declared.Stage.TheVariants.{Out, Waiting, Lead, Late, Shut, Got}
use Rattle.fn_rows.specs.Machine.{looked}
use Rattle.fn_core.specs.declared.Start.{Start}
use Rattle.fn_core.specs.declared.Move.{Move}
use Rattle.fn_core.specs.declared.Move.TheVariants.{Look}
use Rattle.fn_core.specs.declared.Position.{Position}
use Rattle.fn_core.specs.declared.Position.TheVariants.{Climbing}
use Rattle.fn_core.specs.declared.answer.Answer.TheVariants as answers
use Rattle.fn_core.specs.declared.answer.Why.{Why}
use Rattle.fn_core.specs.declared.answer.Why.TheVariants.{Behind}
use Rattle.fn_core.specs.declared.answer.CoreStep.{CoreStep}
use Rattle.fn_core.specs.declared.answer.CoreStep.TheVariants as told
use Rattle.fn_core.specs.State.{Caller}
use Rattle.fn_core.specs.Words.{Own}
use Rattle.fn_core.specs.After.{in_stage, put_level, looked_stage}
use Rattle.fn_core.specs.Positions.{is_out}
use Rattle.fn_core.specs.Fields.{answer_of}
use Rattle.fn_core.specs.Calls.{state_in, look_told, told_by, stage_for}
use Rattle.fn_core.proofs.Public.{same_kind-refl}
use Rattle.fn_table.specs.Seen.{PassView, Stepped, own_of, with_log}
use Rattle.fn_climb.specs.declared.course.Course.{Course}
use Rattle.fn_climb.specs.Next.{IsNext}
use Rattle.fn_climb.specs.Course.{position_by, goes_on, IsCourseOf, Holds, Moved, at_stage, pending_of}
use Rattle.fn_climb.specs.Steps.{HasSameCall, Went, Advanced}
use Rattle.fn_climb.proofs.Underway.{climbing_at, next_at_stage, stage_now}
use Rattle.fn_climb.proofs.Onward.{own_before, tells, went, holds_then, plain}

-- a function changed for a kind and level, there and at another level
pub level_same : {A : Type 0} (f : Kind → ℕ → A) (k : Kind) (l : ℕ) (g : A) → put_level f k l g k l ≡ g
level_same f k l g = ap (λ (b : Bool). if b && (l == l) then g else f k l) (same_kind-refl k) ∙ ap (λ (b : Bool). if b then g else f k l) (eq-eqb l l refl)

pub level_other : (f : Kind → ℕ → Stage) (k : Kind) (l : ℕ) (g : Stage) (j : ℕ) → j ≢ l → put_level f k l g k j ≡ f k j
level_other f k l g j other = ap (λ (b : Bool). if b && (j == l) then g else f k j) (same_kind-refl k) ∙ ap (λ (b : Bool). if b then g else f k j) (ne_eqb j l other)

-- a call that has gone on to a stage at its level
pub course_on : {start : Start} {o o' : Own} {c : Course} {g : Stage} → IsCourseOf start o c → o'.caller.position ≡ Climbing c.kind c.level → o'.stages ≡ put_level o.stages c.kind c.level g → IsCourseOf start o' (at_stage c g)
course_on {o = o} {c = c} {g = g} is position stages = record {
  position = position;
  here = sym (ap (λ (f : Kind → ℕ → Stage). f c.kind c.level) stages ∙ level_same o.stages c.kind c.level g);
  two = is.two;
  under = λ l low less. ap (λ (f : Kind → ℕ → Stage). f c.kind l) stages ∙ level_other o.stages c.kind c.level g l (λ e. omega (arith, e, less)) ∙ is.under l low less;
}

-- .. and one that has loaded a word, or has lost it
pub course_with : {start : Start} {o o' : Own} {c : Course} (word : Option ℕ) → IsCourseOf start o c → o'.caller.position ≡ position_by c.kind c.level word → o'.stages ≡ o.stages → IsCourseOf start o' (record c { word = word })
course_with {c = c} word is position stages = record {
  position = position;
  here = is.here ∙ ap (λ (f : Kind → ℕ → Stage). f c.kind c.level) (sym stages);
  two = is.two;
  under = λ l low less. ap (λ (f : Kind → ℕ → Stage). f c.kind l) stages ∙ is.under l low less;
}

-- a stage at which a call goes on, where it is none of the others
pub goes_left : (g : Stage) → is_out g ≡ false → ((a : ℕ) → g ≡ Waiting a → ⊥) → ((a b : ℕ) → g ≡ Shut a b → ⊥) → ((a b : ℕ) → g ≡ Got a b → ⊥) → goes_on g ≡ true
goes_left Out there waiting shut got = absurd (false≢true (sym there))
goes_left (Waiting a) there waiting shut got = absurd (waiting a refl)
goes_left (Shut a b) there waiting shut got = absurd (shut a b refl)
goes_left (Got a b) there waiting shut got = absurd (got a b refl)
goes_left g there waiting shut got = refl

-- what a look shows
waits_still : (at n : ℕ) → n < at → looked at n ≡ Waiting at
waits_still at n less = ap (λ (b : Bool). if b then Waiting at else (if at == n then Lead at else Late at)) (lt-ltb n at less)

pub leads_now : (at n : ℕ) → at ≤ n → at ≡ n → looked at n ≡ Lead at
leads_now at n more same = ap (λ (b : Bool). if b then Waiting at else (if at == n then Lead at else Late at)) (le-ltb n at more) ∙ ap (λ (b : Bool). if b then Lead at else Late at) (eq-eqb at n same)

pub late_now : (at n : ℕ) → at ≤ n → at ≢ n → looked at n ≡ Late at
late_now at n more other = ap (λ (b : Bool). if b then Waiting at else (if at == n then Lead at else Late at)) (le-ltb n at more) ∙ ap (λ (b : Bool). if b then Lead at else Late at) (ne_eqb at n other)

module _ {p : PassView} {c : Course} (h : Holds p c) where
  abbrev start : Start
  start = p.seen.start

  -- a pass of which only the position changes has the same call
  same_call : (q : PassView) (position : Position) → (own_of q).caller ≡ record (own_of p).caller { position = position } → HasSameCall p q
  same_call q position is = record { made = ap (λ (x : Caller). x.made) is; last = ap (λ (x : Caller). x.last) is; left = ap (λ (x : Caller). x.left) is }

  module _ {step : Move} {n : ℕ} {q : PassView} (t : Stepped p step n q) (nx : IsNext (pending_of p c) step) where
    -- what the step tells
    abbrev pub tells_here : CoreStep
    tells_here = let before = state_in (with_log p t.before) in told_by start.cap step (stage_for start before p.number step) (answer_of start before p.number step)

    module _ {o : Own} (after : own_of q ≡ o) {position : Position} (caller : o.caller ≡ record (own_of p).caller { position = position }) where
      pub goes_told : {told : CoreStep} → tells_here ≡ told → Went (pending_of p c) told q
      goes_told so = went h t nx _ (sym (tells h t nx ∙ so)) (same_call q position (ap (λ (x : Own). x.caller) after ∙ caller))

      -- the call goes on, or waits, and has come so far
      module _ {c' : Course} (kind : c'.kind ≡ c.kind) (rows : c'.rows ≡ c.rows) (course : IsCourseOf start o c') where
        course_now : IsCourseOf start (own_of q) c'
        course_now = subst (λ (x : Own). IsCourseOf start x c') (sym after) course

        pub goes_to : tells_here ≡ told.Going → Advanced (pending_of p c) told.Going q c'
        goes_to so = let w = goes_told so in (w, (holds_then h t nx c' kind rows course_now w.follows.0, rows))

        pub waits_at : {why : Why} → tells_here ≡ told.NotYet why → Advanced (pending_of p c) (told.NotYet why) q c'
        waits_at so = let w = goes_told so in (w, (holds_then h t nx c' kind rows course_now w.follows, rows))

  module _ (free : c.word ≡ None) where
    abbrev here : Caller
    here = (own_of p).caller

    -- a pass that stays where it is
    pub at_rest : here ≡ record here { position = Climbing c.kind c.level }
    at_rest = ap (λ (x : Position). let r : Caller = record here { position = x } in r) (climbing_at h free)

    -- a step to another stage at the call's level
    pub moved : {g : Stage} {q : PassView} → Moved p c g q → Advanced (pending_of p c) told.Going q (at_stage c g)
    moved m =
        let caller = m.caller ∙ at_rest in
        goes_to m.stepped m.next refl caller refl refl (course_on h.course (ap (λ (x : Caller). x.position) caller) m.stages) (m.going _ _)

    module _ {at : ℕ} (is : c.stage ≡ Waiting at) {n : ℕ} {q : PassView} (t : Stepped p (Look c.kind c.level) n q) where
      next : IsNext (pending_of p c) (Look c.kind c.level)
      next = plain p c (next_at_stage h free is)

      sees : tells_here t next ≡ (if nat_lt n at then told.NotYet (Behind n at) else told.Going)
      sees = (λ i. look_told ((ap (λ (o : Own). o.stages c.kind c.level) (own_before h t) ∙ stage_now h free is) i) (answers.Word (sym t.answer i)))

      after : own_of q ≡ in_stage (own_of p) c.kind c.level (looked at n)
      after = t.own ∙ ap (λ (g : Stage). in_stage (own_of p) c.kind c.level (looked_stage n g)) (stage_now h free is)

      course : IsCourseOf start (in_stage (own_of p) c.kind c.level (looked at n)) (at_stage c (looked at n))
      course = course_on h.course (climbing_at h free) refl

      pub looked_behind : n < at → Advanced (pending_of p c) (told.NotYet (Behind n at)) q c
      looked_behind less =
          let same : at_stage c (looked at n) ≡ c = λ i. record c { word = sym free i; stage = (waits_still at n less ∙ sym is) i } in
          waits_at t next after at_rest refl refl (subst (IsCourseOf start (in_stage (own_of p) c.kind c.level (looked at n))) same course) (sees ∙ ap (λ (b : Bool). if b then told.NotYet (Behind n at) else told.Going) (lt-ltb n at less))

      pub looked_on : at ≤ n → Advanced (pending_of p c) told.Going q (at_stage c (looked at n))
      looked_on more = goes_to t next after at_rest refl refl course (sees ∙ ap (λ (b : Bool). if b then told.NotYet (Behind n at) else told.Going) (le-ltb n at more))
