-- The steps by which a call changes its level, or goes to the main word, and the one by which it ends.
use Rattle.std.proofs.Common.{◌≡◌, ◌≢◌, inl, inr, ℕ, suc, ◌+◌, ◌-◌, ◌<◌, ◌≤◌, Bool, true, false, Some, None, set, get_or, refl, sym, ap, subst, ◌∙◌, arith}
use Rattle.std.specs.Prelude.{◌==◌, ◌&&◌, if◌then◌else◌}
use Rattle.std.proofs.lemmas.Bool.{cases_eq, eq-eqb, ne_eqb}
use Rattle.std.proofs.lemmas.List.{get_or-set_same, get_or-set_other, length-set}
use Rattle.fn_model.specs.declared.Kind.{Kind}
use Rattle.fn_model.specs.declared.Kind.TheVariants.{Add, Sub, Read}
use Rattle.fn_model.specs.Calls.{same_kind}
use Rattle.fn_model.specs.Integer.{after}
use Rattle.fn_rows.specs.declared.Stage.{Stage}
use Rattle.fn_rows.specs.declared.Stage.TheVariants.{Out, Saw, Shut, Based, Got}
use Rattle.fn_layout.specs.declared.shape.Shape.{Shape}
use Rattle.fn_core.specs.declared.Start.{Start}
use Rattle.fn_core.specs.declared.Move.{Move}
use Rattle.fn_core.specs.declared.Move.TheVariants.{See, Apply, Leave, Load, Exchange}
use Rattle.fn_core.specs.declared.Purpose.TheVariants.{Try}
use Rattle.fn_core.specs.declared.Position.TheVariants.{Resting, Climbing}
use Rattle.fn_core.specs.declared.answer.Answer.TheVariants as answers
use Rattle.fn_core.specs.declared.answer.Answer.{Answer}
use Rattle.fn_core.specs.declared.answer.Why.TheVariants.{Lost}
use Rattle.fn_core.specs.declared.answer.CoreStep.{CoreStep}
use Rattle.fn_core.specs.declared.answer.CoreStep.TheVariants as told
use Rattle.fn_core.specs.State.{stage, reply_of, hi_of, lo_of}
use Rattle.fn_core.specs.Machine.{no_cap}
use Rattle.fn_core.specs.Words.{Own}
use Rattle.fn_core.specs.After.{out_of, in_stage, in_position, put_level, based_stage, based_own, loaded_own, exchanged_own, left_own}
use Rattle.fn_core.specs.Fields.{exchange_answer}
use Rattle.fn_core.specs.Order.{enters_main}
use Rattle.fn_core.specs.Calls.{state_in, exchange_told, told_by}
use Rattle.fn_table.specs.Seen.{PassView, May, Stepped, own_of}
use Rattle.fn_climb.specs.declared.course.Batch.{Batch}
use Rattle.fn_climb.specs.declared.course.Course.{Course}
use Rattle.fn_climb.specs.Next.{next_step, IsNext}
use Rattle.fn_climb.specs.Course.{IsCourseOf, batch_of, batch_below, at_stage, risen, sunk, Holds, pending_of}
use Rattle.fn_climb.specs.Steps.{Went, Advanced}
use Rattle.fn_climb.proofs.Underway.{placed, climbing_at, deciding_at, next_at_stage, may_at_stage, next_exchange, stage_now, held_is}
use Rattle.fn_climb.proofs.Moves.{level_low}
use Rattle.fn_climb.proofs.Onward.{own_before, plain}
use Rattle.fn_climb.proofs.Goes.{level_same, level_other, course_on, course_with, tells_here, goes_told, goes_to, waits_at, at_rest}

-- a kind that isn't Add
pub not_added : (kind : Kind) (b : Bool) → (kind ≡ Add → ⊥) → (same_kind kind Add && b) ≡ false
not_added Add b never = absurd (never refl)
not_added Sub b never = refl
not_added Read b never = refl

-- how the call's level stands to the top of its table
pub below_top : {mine its : Start} {shape : Shape} {levels level : ℕ} → mine ≡ its → shape ≡ its.shape → levels ≡ shape.levels → level < levels → level < mine.shape.levels
below_top of is top less = omega (arith, less, top, ap (λ (x : Shape). x.levels) is, ap (λ (x : Start). x.shape.levels) of)

pub top_at : {p : PassView} {c : Course} (h : Holds p c) {its : Start} {shape : Shape} {levels : ℕ} → p.seen.start ≡ its → shape ≡ its.shape → levels ≡ shape.levels → levels ≤ c.level → c.level ≡ p.seen.start.shape.levels
top_at h of is top more =
    let high = (placed h).1.1 in
    omega (arith, more, high, top, ap (λ (x : Shape). x.levels) is, ap (λ (x : Start). x.shape.levels) of)

module _ {p : PassView} {c : Course} (h : Holds p c) where
  abbrev start : Start
  start = p.seen.start

  abbrev weight : ℕ
  weight = hi_of c.stage - lo_of c.stage

  -- a batch gets a base at its level
  abbrev based : ℕ → Own
  based n = in_stage (own_of p) c.kind c.level (based_stage n ((own_of p).stages c.kind c.level))

  course_based : {o : Own} (n : ℕ) → o.caller.position ≡ Climbing c.kind c.level → o.stages ≡ (based n).stages → IsCourseOf start o (at_stage c (based_stage n c.stage))
  course_based n position stages = course_on h.course position (stages ∙ ap (λ (g : Stage). put_level (own_of p).stages c.kind c.level (based_stage n g)) (sym (held_is h)))

  -- the exchange of a delegate
  module _ {word : ℕ} (loaded : c.word ≡ Some word) {n : ℕ} {q : PassView} (t : Stepped p (Exchange c.kind weight) n q) where
    next : IsNext (pending_of p c) (Exchange c.kind weight)
    next = plain p c (next_exchange h loaded)

    -- what it tells, and where the pass stands then
    abbrev told_after : Bool → CoreStep
    told_after won = exchange_told (if won then answers.Won else answers.Lost word n)

    abbrev own_after_it : Bool → Own
    own_after_it won = if won then in_position (based n) (Climbing c.kind c.level) else in_position (own_of p) (Climbing c.kind c.level)

    tells_it : tells_here h t next ≡ told_after (n == word)
    tells_it = λ i. exchange_told (exchange_answer (sym t.answer i) ((ap (λ (o : Own). o.caller.position) (own_before h t) ∙ deciding_at h loaded) i))

    leaves_own : own_of q ≡ own_after_it (n == word)
    leaves_own = t.own ∙ ap (exchanged_own p.number c.kind weight n (own_of p)) (deciding_at h loaded)

    pub exchange_won : n ≡ word → Advanced (pending_of p c) told.Going q (at_stage c (based_stage n c.stage))
    exchange_won same =
        let won : (n == word) ≡ true = eq-eqb n word same in
        goes_to h t next (leaves_own ∙ ap own_after_it won) refl refl refl (course_based n refl refl) (tells_it ∙ ap told_after won)

    pub exchange_lost : n ≢ word → Advanced (pending_of p c) (told.NotYet (Lost word n)) q (at_stage c c.stage)
    exchange_lost other =
        let lost : (n == word) ≡ false = ne_eqb n word other in
        waits_at h t next (leaves_own ∙ ap own_after_it lost) refl refl refl (course_with None h.course refl refl) (tells_it ∙ ap told_after lost)

  module _ (free : c.word ≡ None) where
    module _ {at hi : ℕ} (is : c.stage ≡ Shut at hi) where
      -- its next step goes up, or to the main word at the top
      abbrev next_shut : Bool → Move
      next_shut top = if top then enters_main start (state_in p.seen) p.number c.kind c.level else See c.kind (suc c.level)

      next_by : {top : Bool} → (c.level == start.shape.levels) ≡ top → next_step p ≡ next_shut top
      next_by which = next_at_stage h free is ∙ ap next_shut which

      may_by : {top : Bool} → (c.level == start.shape.levels) ≡ top → May p (next_shut top)
      may_by which = subst (λ (b : Bool). May p (next_shut b)) which (may_at_stage h free is)

      -- below the top the batch goes up
      module _ (below : c.level < start.shape.levels) where
        -- it stands where it was closed
        abbrev none_there : Batch
        none_there = record { at = 0; hi = 0 }

        under_risen : (l : ℕ) → 1 ≤ l → l < c.level + 1 → (own_of p).stages c.kind l ≡ (let b = get_or (set c.below (c.level - 1) (batch_of c.stage)) (l - 1) none_there in Shut b.at b.hi)
        under_risen l low less = elim (cases_eq l c.level) [
          | inl same ↦
              ap ((own_of p).stages c.kind) same ∙ sym h.course.here ∙ is
              ∙ ap (λ (b : Batch). Shut b.at b.hi) (sym (ap (λ (x : ℕ). get_or (set c.below (c.level - 1) (batch_of c.stage)) (x - 1) none_there) same
              ∙ get_or-set_same c.below (c.level - 1) (batch_of c.stage) none_there (omega (arith, h.course.two, below, low, same, start.shape.levels_in_range)) ∙ ap batch_of is))
          | inr other ↦
              h.course.under l low (omega (arith, less, other))
              ∙ ap (λ (b : Batch). Shut b.at b.hi) (sym (get_or-set_other c.below (c.level - 1) (l - 1) (batch_of c.stage) none_there (λ e. other (omega (arith, e, low, less)))))
        ]

        not_top : (c.level == start.shape.levels) ≡ false
        not_top = ne_eqb c.level start.shape.levels (λ e. omega (arith, e, below))

        above : suc c.level ≡ c.level + 1
        above = omega arith

        pub may_see : May p (See c.kind (c.level + 1))
        may_see = subst (λ (l : ℕ). May p (See c.kind l)) above (may_by not_top)

        pub saw_above : {n : ℕ} {q : PassView} → Stepped p (See c.kind (c.level + 1)) n q → Advanced (pending_of p c) told.Going q (risen c n)
        saw_above {n} t =
            goes_to h t (plain p c (next_by not_top ∙ ap (See c.kind) above)) t.own refl refl refl (record {
              position = refl;
              here = sym (level_same (own_of p).stages c.kind (c.level + 1) (Saw n));
              two = length-set c.below (c.level - 1) (batch_of c.stage) ∙ h.course.two;
              under = λ l low less. level_other (own_of p).stages c.kind (c.level + 1) (Saw n) l (λ e. omega (arith, e, less)) ∙ under_risen l low less;
            }) refl

      -- at the top it enters the main word
      module _ (top : c.level ≡ start.shape.levels) where
        abbrev enters : Bool → Move
        enters adds = if adds then Apply (hi_of (stage start (state_in p.seen) c.kind c.level p.number) - lo_of (stage start (state_in p.seen) c.kind c.level p.number)) else Load Try

        at_top : (c.level == start.shape.levels) ≡ true
        at_top = eq-eqb c.level start.shape.levels top

        -- it is added where nothing caps it
        module _ (adds : c.kind ≡ Add) (uncapped : start.cap ≡ no_cap) where
          applies : enters_main start (state_in p.seen) p.number c.kind c.level ≡ Apply weight
          applies =
              ap enters (ap (λ (k : Kind). same_kind k Add && (start.cap == no_cap)) adds ∙ eq-eqb start.cap no_cap uncapped)
              ∙ ap (λ (g : Stage). Apply (hi_of g - lo_of g)) (sym (held_is h))

          pub applied : {n : ℕ} {q : PassView} → Stepped p (Apply weight) n q → Advanced (pending_of p c) told.Going q (at_stage c (based_stage n c.stage))
          applied {n} t =
              let after = t.own ∙ ap (based_own n (own_of p)) (climbing_at h free) in
              goes_to h t (plain p c (next_by at_top ∙ applies)) after (at_rest h free) refl refl (course_based n (climbing_at h free) refl) refl

        -- else the word is loaded, to be exchanged
        module _ (tries : (same_kind c.kind Add && (start.cap == no_cap)) ≡ false) where
          pub loaded_word : {n : ℕ} {q : PassView} → Stepped p (Load Try) n q → Advanced (pending_of p c) told.Going q (record c { word = Some n })
          loaded_word {n} t =
              let after = t.own ∙ ap (loaded_own n (own_of p)) (climbing_at h free) in
              goes_to h t (plain p c (next_by at_top ∙ ap enters tries)) after refl refl refl (course_with (Some n) h.course refl refl) refl

    -- the call leaves its aggregator with a base
    module _ {base ahead : ℕ} (is : c.stage ≡ Got base ahead) {n : ℕ} {q : PassView} (t : Stepped p (Leave c.kind c.level) n q) where
      abbrev reply : ℕ
      reply = after start.cap base c.kind ahead

      next_leave : IsNext (pending_of p c) (Leave c.kind c.level)
      next_leave = plain p c (next_at_stage h free is)

      replies : reply_of start.cap c.kind ((own_of p).stages c.kind c.level) ≡ reply
      replies = ap (reply_of start.cap c.kind) (stage_now h free is)

      -- at a leaf it ends
      pub left_leaf : c.level ≡ 1 → Went (pending_of p c) (told.Ready reply) q
      left_leaf one =
          let there = ap (λ (o : Own). o.stages c.kind c.level) (own_before h t) in
          let rests = subst (λ (l : ℕ). left_own start.cap c.kind l (own_of p) ≡ in_position (out_of (own_of p) c.kind l) Resting) (sym one) refl in
          let ends = subst (λ (l : ℕ). (stood : Stage) (answer : Answer) → told_by start.cap (Leave c.kind l) stood answer ≡ told.Ready (reply_of start.cap c.kind stood)) (sym one) (λ stood answer. refl) in
          goes_told h t next_leave (t.own ∙ rests) refl (ends _ _ ∙ ap told.Ready (ap (reply_of start.cap c.kind) there ∙ replies))

      -- or it goes down a level
      module _ {lowest : ℕ} (up : c.level ≡ suc (suc lowest)) where
        abbrev below : ℕ
        below = suc lowest

        abbrev left : Own
        left = out_of (own_of p) c.kind c.level

        abbrev batch : Batch
        batch = batch_below c below

        abbrev lower : Stage
        lower = Based batch.at batch.hi reply

        abbrev down_to : ℕ → Stage → Own
        down_to l g = in_position (in_stage (out_of (own_of p) c.kind l) c.kind below g) (Climbing c.kind below)

        abbrev lower_from : ℕ → Stage
        lower_from l = based_stage (reply_of start.cap c.kind ((own_of p).stages c.kind l)) ((out_of (own_of p) c.kind l).stages c.kind below)

        lower_is : lower_from c.level ≡ lower
        lower_is =
            (λ i. based_stage (replies i) (level_other (own_of p).stages c.kind c.level Out below (λ e. omega (arith, e, up)) i))
            ∙ ap (based_stage reply) (h.course.under below (omega arith) (omega (arith, up)))

        gone : own_of q ≡ down_to c.level lower
        gone = t.own ∙ subst (λ (l : ℕ). left_own start.cap c.kind l (own_of p) ≡ down_to l (lower_from l)) (sym up) refl ∙ ap (down_to c.level) lower_is

        goes_on : (stood : Stage) (answer : Answer) → told_by start.cap (Leave c.kind c.level) stood answer ≡ told.Going
        goes_on = subst (λ (l : ℕ). (stood : Stage) (answer : Answer) → told_by start.cap (Leave c.kind l) stood answer ≡ told.Going) (sym up) (λ stood answer. refl)

        -- what stands below that level
        under_sunk : (l : ℕ) → 1 ≤ l → l < below → put_level left.stages c.kind below lower c.kind l ≡ Shut (batch_below c l).at (batch_below c l).hi
        under_sunk l some less =
            level_other left.stages c.kind below lower l (λ e. omega (arith, e, less))
            ∙ level_other (own_of p).stages c.kind c.level Out l (λ e. omega (arith, e, less, up)) ∙ h.course.under l some (omega (arith, less, up))

        goes_down : Advanced (pending_of p c) told.Going q (sunk c reply)
        goes_down =
            let down : below ≡ c.level - 1 = omega (arith, up) in
            goes_to h t next_leave gone refl refl refl (record {
              position = ap (Climbing c.kind) down;
              here = rw (← down) (sym (level_same left.stages c.kind below lower));
              two = h.course.two;
              under = λ l some less. under_sunk l some (omega (arith, less, down));
            }) (goes_on _ _)

      pub left_down : c.level ≢ 1 → Advanced (pending_of p c) told.Going q (sunk c reply)
      left_down other = let low = level_low h in goes_down {lowest = c.level - 2} (omega (arith, low, other))
