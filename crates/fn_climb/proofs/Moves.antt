-- The steps of a call that lead to another stage at its level: what each needs, and what it leaves.
use Rattle.std.proofs.Common.{◌≡◌, inl, inr, ℕ, zero, suc, ◌+◌, ◌-◌, ◌*◌, ◌/◌, ◌%◌, ◌<◌, ◌≤◌, Bool, true, Some, None, refl, sym, ap, subst, ◌∙◌, arith}
use Rattle.std.specs.Prelude.{if◌then◌else◌, slice_index_or}
use Rattle.std.proofs.lemmas.Bool.{eq-eqb, ne_eqb, false≢true}
use Rattle.fn_rows.specs.declared.Field.{Field}
use Rattle.fn_rows.specs.declared.Field.TheVariants.{Lo, Base, Prev}
use Rattle.fn_rows.specs.declared.Stage.{Stage}
use Rattle.fn_rows.specs.declared.Stage.TheVariants.{Saw, Told, Waiting, Lead, Late, Shut, Based, Headed, FilledLo, FilledBase, Filled, Pointed, At, Over, Got}
use Rattle.fn_rows.specs.Machine.{filled}
use Rattle.fn_rows.specs.Law.{row_in_hand}
use Rattle.fn_layout.specs.declared.shape.Shape.{Shape}
use Rattle.fn_layout.specs.Tree.{aggregator, member, members}
use Rattle.fn_layout.specs.Words.{slot_number, row_number}
use Rattle.fn_layout.proofs.Numbers.{row_number_below, all_rows_le}
use Rattle.fn_core.specs.declared.Start.{Start}
use Rattle.fn_core.specs.declared.Move.{Move}
use Rattle.fn_core.specs.declared.Move.TheVariants.{Announce, Arrive, Close, Head, Fill, Point, Publish}
use Rattle.fn_core.specs.declared.Position.{Position}
use Rattle.fn_core.specs.declared.answer.Answer.{Answer}
use Rattle.fn_core.specs.declared.answer.CoreStep.TheVariants.{Going}
use Rattle.fn_core.specs.State.{State, stage, hi_of, lo_of}
use Rattle.fn_core.specs.Machine.{local_row, place, word_of}
use Rattle.fn_core.specs.Words.{Own, row_there, NamesMine, fill_word, filled_word}
use Rattle.fn_core.specs.After.{own_after, in_stage, put_level, told_stage, closed_stage, headed_stage, pointed_stage, published_stage, peeked_stage, arrived_own, filled_own, peeked_own, row_read}
use Rattle.fn_core.specs.Order.{next_at, own_row, first_free}
use Rattle.fn_core.specs.Order as order
use Rattle.fn_core.specs.Filling.{FillsAt, fills_later}
use Rattle.fn_core.specs.Batches.{has_come}
use Rattle.fn_core.specs.Calls.{state_in, told_by}
use Rattle.std.proofs.lemmas.Nat.{mod-mul-add}
use Rattle.fn_core.specs.Laws.{IsFreeFor}
use Rattle.fn_core.proofs.Public.{found_last_is_mine, hand_owned, rows_have_names, kind_cases, peek_word, last_mine, over_mine}
use Rattle.fn_table.specs.Seen.{PassView, May, Stepped, own_of, with_log}
use Rattle.fn_table.specs.declared.spots.Spot.{Spot}
use Rattle.fn_table.specs.Spots.{spot_of}
use Rattle.fn_layout.proofs.Rows.{row_follows}
use Rattle.fn_climb.specs.declared.course.Course.{Course}
use Rattle.fn_climb.specs.Next.{in_kept_row, IsNext}
use Rattle.fn_climb.specs.Course.{batch_below, weight_below, peek_of, chosen_at, IsLink, Holds, Moved, pending_of}
use Rattle.fn_climb.proofs.Underway.{placed, slot, its_aggregator, climbs, held_is, climbing_at, next_at_stage, may_at_stage, stage_now}
use Rattle.fn_climb.proofs.Onward.{legal_before, own_before, plain}

module _ {p : PassView} {c : Course} (h : Holds p c) where
  -- its level is one of few
  pub level_low : 1 ≤ c.level
  level_low = (placed h).1.0

  pub level_high : c.level ≤ 3
  level_high = let l = (placed h).1.1 in omega (arith, l, p.seen.start.shape.levels_in_range)

  -- a row of the pass at its level is one of few
  pub row_fits : {n : ℕ} {spot : Spot} → n < p.seen.start.shape.rows → spot ≡ spot_of p.seen.start.shape p.number c.kind c.level → spot.row + n < 3072
  row_fits {n} {spot} few at =
      let shape : Shape = p.seen.start.shape in
      let follows = row_follows shape p.number c.kind c.level n (ap (λ (x : Spot). x.row) at) in
      omega (arith, follows, row_number_below shape p.number c.kind c.level n (slot h) few, all_rows_le shape)

  module _ (free : c.word ≡ None) where
    abbrev s : State
    s = state_in p.seen

    abbrev start : Start
    start = p.seen.start

    abbrev index : ℕ
    index = aggregator start.shape p.number c.level

    abbrev there : Stage
    there = (own_of p).stages c.kind c.level

    abbrev own_row_at : ℕ → ℕ
    own_row_at r = own_row start.shape p.number c.kind c.level r

    -- a step that leads from a stage to another
    module _ {g : Stage} (is : c.stage ≡ g) {step : Move} {n : ℕ} {q : PassView} (t : Stepped p step n q) (going : (stood : Stage) (answer : Answer) → told_by start.cap step stood answer ≡ Going) (to : Stage → Stage) where
      moved_by : IsNext (pending_of p c) step → (o : Own) → own_after start p.number step n (own_of p) ≡ o → o.caller ≡ (own_of p).caller → o.stages ≡ put_level (own_of p).stages c.kind c.level (to there) → Moved p c (to g) q
      moved_by next o after caller stages = record {
        step = step;
        next = next;
        number = n;
        stepped = t;
        caller = ap (λ (x : Own). x.caller) (t.own ∙ after) ∙ caller;
        stages = ap (λ (x : Own). x.stages) (t.own ∙ after) ∙ stages ∙ ap (λ (x : Stage). put_level (own_of p).stages c.kind c.level (to x)) (stage_now h free is);
        going = going;
      }

      -- .. where the order tells the step
      staged : in_kept_row (pending_of p c) (next_at start s p.number c.kind c.level g) (own_of p).caller.position ≡ step → own_after start p.number step n (own_of p) ≡ in_stage (own_of p) c.kind c.level (to there) → Moved p c (to g) q
      staged next after = moved_by (plain p c (next_at_stage h free is) ∙ next) (in_stage (own_of p) c.kind c.level (to there)) after refl refl

    pub announced : {seen n : ℕ} {q : PassView} → c.stage ≡ Saw seen → Stepped p (Announce c.kind c.level) n q → Moved p c (Told seen) q
    announced is t = staged is t (λ stood answer. refl) told_stage refl refl

    pub closed : {at n : ℕ} {q : PassView} → c.stage ≡ Lead at → Stepped p (Close c.kind c.level) n q → Moved p c (Shut at n) q
    closed {n = n} is t = staged is t (λ stood answer. refl) (closed_stage n) refl refl

    pub headed_late : {at n : ℕ} {q : PassView} → c.stage ≡ Late at → Stepped p (Head c.kind c.level) n q → Moved p c (At at (row_read start.shape n - 1)) q
    headed_late {n = n} is t = staged is t (λ stood answer. refl) (headed_stage (row_read start.shape n)) refl refl

    pub headed_lead : {at hi base n : ℕ} {q : PassView} → c.stage ≡ Based at hi base → Stepped p (Head c.kind c.level) n q → Moved p c (Headed at hi base (row_read start.shape n)) q
    headed_lead {n = n} is t = staged is t (λ stood answer. refl) (headed_stage (row_read start.shape n)) refl refl

    -- what is stored in a row's field, by where the call stands
    pub fill_stores : (field : Field) {g : Stage} → c.stage ≡ g → fill_word start (own_of p) p.number field (own_of p).caller.position ≡ filled_word start.shape c.kind c.level index field g
    fill_stores field is = ap (fill_word start (own_of p) p.number field) (climbing_at h free) ∙ ap (filled_word start.shape c.kind c.level index field) (stage_now h free is)

    -- what a Fill of a row leaves of the pass
    fills_own : (row : ℕ) → filled_own start.shape p.number row (own_of p) (own_of p).caller.position ≡ in_stage (own_of p) c.kind c.level (filled (local_row start.shape c.level p.number row) there)
    fills_own row = ap (filled_own start.shape p.number row (own_of p)) (climbing_at h free)

    -- the row that the call chose, where its row is still to be filled
    abbrev chosen : ℕ
    chosen = slice_index_or c.rows (c.level - 1) 0

    pub may_choose : {g : Stage} → c.stage ≡ g → fills_later g ≡ true → (chosen < start.shape.rows) × IsFreeFor start s p.number c.kind c.level (chosen_at p c c.level)
    may_choose is later =
        h.chosen.rows c.level (placed h).1 (subst (λ (x : Position). FillsAt (own_of p).stages x c.kind c.level) (sym (climbing_at h free)) (refl, inr (inl (refl, ap fills_later (stage_now h free is) ∙ later))))

    module _ {at hi base last : ℕ} (is : c.stage ≡ Headed at hi base last) {row : ℕ} (is_row : row ≡ own_row_at (chosen_at p c c.level)) where
      may : (chosen < start.shape.rows) × IsFreeFor start s p.number c.kind c.level (chosen_at p c c.level)
      may = may_choose is refl

      named : row ≡ row_number start.shape p.number c.kind c.level chosen
      named = is_row ∙ ap (row_number start.shape p.number c.kind c.level) (mod-mul-add (member start.shape c.level p.number) start.shape.rows chosen may.0)

      local_is : local_row start.shape c.level p.number row ≡ chosen_at p c c.level
      local_is =
          ap (λ (x : ℕ). member start.shape c.level p.number * start.shape.rows + x % start.shape.rows) named
          ∙ ap (λ (x : ℕ). member start.shape c.level p.number * start.shape.rows + x) (mod-mul-add (slot_number start.shape p.number c.kind c.level) start.shape.rows chosen may.0)

      pub may_fill_first : May p (Fill row Lo)
      may_fill_first =
          let stands = stage_now h free is in
          let free_for = subst (IsFreeFor start s p.number c.kind c.level) (sym local_is) may.1 in
          (h.inside, (c.kind, c.level, chosen, (climbing_at h free, (at, hi, base, last, stands, free_for.0, free_for.1, ap (word_of Lo) stands)), (may.0, named)))

      kept : IsNext (pending_of p c) (Fill row Lo)
      kept = (λ i. in_kept_row (pending_of p c) (next_at_stage h free is i) (climbing_at h free i)) ∙ ap (λ (r : ℕ). Fill r Lo) (sym named)

      pub filled_first : {n : ℕ} {q : PassView} → Stepped p (Fill row Lo) n q → Moved p c (FilledLo at hi base last (chosen_at p c c.level)) q
      filled_first {q = q} t =
          subst (λ (r : ℕ). Moved p c (FilledLo at hi base last r) q) local_is
          (moved_by is t (λ stood answer. refl) (filled (local_row start.shape c.level p.number row)) kept _ (fills_own row) refl refl)

    pub filled_base : {at hi base last r n : ℕ} {q : PassView} → c.stage ≡ FilledLo at hi base last r → Stepped p (Fill (own_row_at r) Base) n q → Moved p c (FilledBase at hi base last r) q
    filled_base {r = r} is t = staged is t (λ stood answer. refl) (filled (local_row start.shape c.level p.number (own_row_at r))) refl (fills_own (own_row_at r))

    pub filled_prev : {at hi base last r n : ℕ} {q : PassView} → c.stage ≡ FilledBase at hi base last r → Stepped p (Fill (own_row_at r) Prev) n q → Moved p c (Filled at hi base r) q
    filled_prev {r = r} is t = staged is t (λ stood answer. refl) (filled (local_row start.shape c.level p.number (own_row_at r))) refl (fills_own (own_row_at r))

    -- what the call found in `last` names a member's row
    pub last_named : {at hi base last r : ℕ} → c.stage ≡ FilledBase at hi base last r → NamesMine start.shape c.level index last
    last_named {at} {hi} {base} {last} {r} is = found_last_is_mine start p.seen.log h.legal.0 h.legal.1 p.number c.kind c.level at hi base last r (stage_now h free is)

    pub pointed : {at hi base r n : ℕ} {q : PassView} → c.stage ≡ Filled at hi base r → Stepped p (Point c.kind c.level (own_row_at r)) n q → Moved p c (Pointed at hi base r) q
    pointed is t = staged is t (λ stood answer. refl) pointed_stage refl refl

    pub published : {at hi base r n : ℕ} {q : PassView} → c.stage ≡ Pointed at hi base r → Stepped p (Publish c.kind c.level) n q → Moved p c (Got base 0) q
    published is t = moved_by is t (λ stood answer. refl) published_stage (plain p c (next_at_stage h free is)) _ refl refl refl

    -- a Peek of the row in hand
    module _ (r : ℕ) (field : Field) {g : Stage} (is : c.stage ≡ g) (next : next_at start s p.number c.kind c.level g ≡ peek_of p c r field) {n : ℕ} {q : PassView} (t : Stepped p (peek_of p c r field) n q) where
      peeked_at : Moved p c (peeked_stage n (row_read start.shape n) g) q
      peeked_at = staged is t (λ stood answer. refl) (peeked_stage n (row_read start.shape n)) (ap (λ (m : Move). in_kept_row (pending_of p c) m (own_of p).caller.position) next) (ap (peeked_own start n (own_of p)) (climbing_at h free))

    pub peeked_prev : {at r n : ℕ} {q : PassView} → c.stage ≡ Over at r → Stepped p (peek_of p c r Prev) n q → Moved p c (At at (row_read start.shape n - 1)) q
    peeked_prev {r = r} is = peeked_at r Prev is refl

    -- the row in hand is a member's
    pub in_hand : {r : ℕ} → row_in_hand (c.stage) ≡ Some r → r / start.shape.rows < members start.shape c.level index
    in_hand {r} is = hand_owned start p.seen.log h.legal.0 h.legal.1 p.number c.kind c.level r (ap row_in_hand (sym (held_is h)) ∙ is)

    -- the words found name rows
    pub head_link : {n : ℕ} {q : PassView} → Stepped p (Head c.kind c.level) n q → IsLink start.shape n
    head_link t =
        let l = legal_before h t in
        (c.kind, c.level, index, (place start (state_in (with_log p t.before)) c.kind c.level p.number).last, its_aggregator h, last_mine start t.before l.0 l.1 p.number c.kind c.level, t.answer)

    pub prev_link : {at r n : ℕ} {q : PassView} → c.stage ≡ Over at r → Stepped p (peek_of p c r Prev) n q → IsLink start.shape n
    prev_link {at} {r} is t =
        let l = legal_before h t in
        let before : State = state_in (with_log p t.before) in
        let over : stage start before c.kind c.level p.number ≡ Over at r = ap (λ (o : Own). o.stages c.kind c.level) (own_before h t) ∙ stage_now h free is in
        let named = rows_have_names start t.before l.0 l.1 p.number c.kind c.level r (ap row_in_hand over) in (
          c.kind,
          c.level,
          index,
          (place start before c.kind c.level p.number).prev r,
          its_aggregator h,
          over_mine start t.before l.0 l.1 p.number c.kind c.level at r over,
          t.answer ∙ peek_word start before p.number c.kind c.level (placed h).0 (placed h).1 (row_there start.shape c.kind c.level index r) r Prev named,
        )

    -- the weight that arrives above the leaves is the one below
    weighs : (l : ℕ) → l ≡ c.level → weight_below c ≡ order.weight_below start s p.number c.kind l
    weighs zero is = absurd (let low = level_low in omega (arith, low))
    weighs (suc zero) is =
        ap (λ (x : Bool). if x then 0 else (batch_below c (c.level - 1)).hi - (batch_below c (c.level - 1)).at) (eq-eqb c.level 1 (sym is))
        ∙ ap (λ (g : Stage). hi_of g - lo_of g) (sym (climbs h).bottom)
    weighs (suc (suc below)) is =
        let less : c.level - 1 ≡ suc below = omega (arith, is) in
        ap (λ (x : Bool). if x then 0 else (batch_below c (c.level - 1)).hi - (batch_below c (c.level - 1)).at) (ne_eqb c.level 1 (λ one. omega (arith, one, is)))
        ∙ ap (λ (x : ℕ). (batch_below c x).hi - (batch_below c x).at) less
        ∙ ap (λ (g : Stage). hi_of g - lo_of g) (sym (h.course.under (suc below) (omega arith) (omega (arith, is))))

    next_arrive : next_at start s p.number c.kind c.level (Told 0) ≡ Arrive c.kind c.level (weight_below c)
    next_arrive = ap (Arrive c.kind c.level) (sym (weighs c.level refl))

    pub may_arrive : {seen : ℕ} → c.stage ≡ Told seen → May p (Arrive c.kind c.level (weight_below c))
    may_arrive is = subst (May p) next_arrive (may_at_stage h free is)

    -- a call that is underway has arrived at its leaf
    leaf_come : c.level ≡ 1 → has_come (c.stage) ≡ true
    leaf_come one =
        elim (kind_cases h.call.0 c.kind) [
          | inl same ↦ ap has_come (held_is h ∙ (λ i. (own_of p).stages (sym same i) (one i))) ∙ h.call.1
          | inr other ↦ absurd (false≢true (sym (ap has_come ((climbs h).other h.call.0 1 other)) ∙ h.call.1))
        ]

    arrived_as : (l weight n : ℕ) → l ≡ c.level → (l ≡ 1 → ⊥) → arrived_own p.number c.kind l weight n (own_of p) ≡ in_stage (own_of p) c.kind l (Waiting n)
    arrived_as zero weight n is other = absurd (let low = level_low in omega (arith, low))
    arrived_as (suc zero) weight n is other = absurd (other refl)
    arrived_as (suc (suc below)) weight n is other = refl

    pub arrived : {seen n : ℕ} {q : PassView} → c.stage ≡ Told seen → Stepped p (Arrive c.kind c.level (weight_below c)) n q → Moved p c (Waiting n) q
    arrived {n = n} is t =
        staged is t (λ stood answer. refl) (λ g. Waiting n) next_arrive (arrived_as c.level (weight_below c) n refl (λ one. false≢true (ap has_come (sym is) ∙ leaf_come one)))
