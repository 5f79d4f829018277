-- What a pass finds at its aggregator, on the fields of a machine that has taken a legal log, and what its further steps leave there.
use Rattle.std.proofs.Common.{◌≡◌, ◌≢◌, inl, inr, ℕ, zero, suc, ◌+◌, ◌-◌, ◌/◌, ◌%◌, ◌<◌, ◌≤◌, ◌^◌, List, refl, sym, ◌∙◌, ap, subst, arith, slice_index_or, vec_len}
use Rattle.std.specs.Prelude.{Option, Some, None}
use Rattle.std.specs.Vec.{with_item}
use Rattle.std.proofs.lemmas.Nat.{mod_below, div-add-mod'}
use Rattle.fn_model.specs.declared.Kind.{Kind}
use Rattle.fn_rows.specs.declared.Field.{Field}
use Rattle.fn_rows.specs.declared.Field.TheVariants.{Lo, Base, Prev}
use Rattle.fn_rows.specs.declared.Stage.{Stage}
use Rattle.fn_rows.specs.declared.Stage.TheVariants.{Out, Filled, At, Over, Hit}
use Rattle.fn_rows.specs.Aggregator.{Aggregator, Steps, state_of, asked}
use Rattle.fn_rows.specs.Aggregator as rows
use Rattle.fn_rows.specs.Machine.{Step}
use Rattle.fn_rows.specs.Machine as local_step
use Rattle.fn_rows.specs.Trace.{Traced, traced}
use Rattle.fn_rows.specs.Law.{row_named}
use Rattle.fn_layout.specs.declared.shape.Shape.{Shape}
use Rattle.fn_layout.specs.Tree.{aggregator, member, members}
use Rattle.fn_layout.specs.Words.{IsSlot, aggregator_number, row_name}
use Rattle.fn_layout.proofs.Members.{members_are_numbered, member_apart}
use Rattle.fn_core.specs.declared.Event.{Event}
use Rattle.fn_core.specs.declared.Move.TheVariants.{Scan, Arrive, Fill, Point, Peek, Leave}
use Rattle.fn_core.specs.declared.machine.Machine.{Machine}
use Rattle.fn_core.specs.declared.machine.Standing.{Standing}
use Rattle.fn_core.specs.State.{Start, Position, Climbing, State, stage, opened, local, goes_to, after_call, next_call, reply_of}
use Rattle.fn_core.specs.Machine.{MayTake, MayArrive, MayPeek, MayPoint, MaySpend, Names, run, place, moves, local_row, word_of, fills, leaves, filled_by, peeked_by}
use Rattle.fn_core.specs.Words.{told_field, word, row_word, NamesMine}
use Rattle.fn_core.specs.Fields.{Stands, Mirrors, May, AreStandings, standing_of}
use Rattle.fn_core.specs.Positions.{IsClimbing}
use Rattle.fn_core.proofs.Members.{row_few}
use Rattle.fn_core.proofs.Places.{same_place, put_at_here, put_at_there}
use Rattle.fn_core.proofs.Begins.{rests_out}
use Rattle.fn_core.proofs.Whole.{Whole, stages_of, climbing}
use Rattle.fn_core.proofs.Counted.{IsCounted, counts_keep}
use Rattle.fn_core.proofs.Log.{moves_keep}
use Rattle.fn_core.proofs.Sums.{total_small}
use Rattle.fn_core.proofs.Laws.{holds}
use Rattle.fn_core.proofs.Tells.{over_mine, peek_word, hand_mine}
use Rattle.fn_core.proofs.Mirror.{here_within, here_takes, standing_read, standings_after}
use Rattle.fn_core.proofs.Reached.{change_funnelled, whole}
use Rattle.fn_core.proofs.Taken.{there}

module _ (m : Machine) (log : List Event) (stands : Stands m log) (pass : ℕ) (kind : Kind) (level : ℕ) (slot : IsSlot m.start.shape pass kind level) where
  abbrev seated : State
  seated = run m.start log (opened m.start)

  abbrev seat_index : ℕ
  seat_index = aggregator m.start.shape pass level

  abbrev seat_number : ℕ
  seat_number = aggregator_number m.start.shape kind level seat_index

  -- the pass is a member there
  pub member_there : (k : ℕ) (a : Aggregator) → k ≡ seat_number → a ≡ slice_index_or m.rows.items k a → (n : ℕ) → n ≡ member m.start.shape level pass → n < a.members
  member_there k a is read n own =
      let place = there m log stands pass kind level slot k a is read in
      omega (arith, own, place.members_are, (members_are_numbered m.start.shape pass level slot.0).0)

  -- .. and stands where the state has it
  pub stage_there : (k : ℕ) (a : Aggregator) → k ≡ seat_number → a ≡ slice_index_or m.rows.items k a → (n : ℕ) → n ≡ member m.start.shape level pass → (state_of a).stage n ≡ stage m.start seated kind level pass
  stage_there k a is read n own =
      let place = there m log stands pass kind level slot k a is read in
      ap (λ (t : local_step.State). t.stage n) place.state_is ∙ ap (seated.rows kind level seat_index).stage own

-- a pass that scans makes no call, and the other pass is another member there
module _ (m : Machine) (log : List Event) (stands : Stands m log) (pass : ℕ) (kind : Kind) (level other : ℕ) (may : May m log pass (Scan kind level other)) where
  pub scan_slot : IsSlot m.start.shape pass kind level
  scan_slot = (may.0, change_funnelled kind may.1.1, (may.1.2, may.1.3))

  pub scan_other : IsSlot m.start.shape other kind level
  scan_other = (may.1.4, change_funnelled kind may.1.1, (may.1.2, may.1.3))

  pub scan_may : (n : ℕ) → n ≡ member m.start.shape level other → MayTake m.start (run m.start log (opened m.start)) kind level pass (λ i. local_step.Scan i n)
  scan_may n is =
      let shape : Shape = m.start.shape in
      let out : stage m.start (run m.start log (opened m.start)) kind level pass ≡ Out = rests_out m.start stands.start_ok (run m.start log (opened m.start)) (whole m log stands pass may.0) pass may.0 may.1.0 kind level in
      let range : member shape level other < members shape level (aggregator shape other level) = (members_are_numbered shape other level may.1.4).0 in (
        subst (λ (i : ℕ). i < members shape level (aggregator shape pass level)) (sym is) (subst (λ (i : ℕ). member shape level other < members shape level i) may.1.6 range),
        λ same. may.1.5 (member_apart shape other pass level may.1.6 (sym is ∙ same)),
        out,
      )

  pub scanned_there : (new : Machine) (n : ℕ) → n ≡ member m.start.shape level other → Mirrors new (local m.start (run m.start log (opened m.start)) kind level pass (λ i. local_step.Scan i n)) → Mirrors new (moves m.start (run m.start log (opened m.start)) pass (Scan kind level other))
  scanned_there new n is w = subst (λ (x : ℕ). Mirrors new (local m.start (run m.start log (opened m.start)) kind level pass (λ i. local_step.Scan i x))) is w

  pub scanned_word : (k : ℕ) (a : Aggregator) → k ≡ aggregator_number m.start.shape kind level (aggregator m.start.shape pass level) → a ≡ slice_index_or m.rows.items k a → (n : ℕ) → n ≡ member m.start.shape level other
      → (state_of a).announced n ≡ (place m.start (run m.start log (opened m.start)) kind level other).announced (member m.start.shape level other)
  scanned_word k a is read n own =
      let here = there m log stands pass kind level scan_slot k a is read in
      let st : State = run m.start log (opened m.start) in
      ap (λ (t : local_step.State). t.announced n) here.state_is ∙ ap (λ (i : ℕ). (st.rows kind level i).announced n) (sym may.1.6) ∙ ap (place m.start st kind level other).announced own

-- a row of a member has a small number
pub hand_few : (shape : Shape) (level index r : ℕ) → r / shape.rows < members shape level index → r < 512
hand_few shape level index r range = omega (arith, row_few shape level index (r / shape.rows) (r % shape.rows) range (mod_below r shape.rows (omega arith)), div-add-mod' r shape.rows)

-- a position tells its kind and level
pub same_climb : (P : Kind → ℕ → Type 0) (k kind : Kind) (l level : ℕ) → Climbing k l ≡ Climbing kind level → P k l → P kind level
same_climb P k kind l level same p =
    let a : k ≡ kind = cc in
    let b : l ≡ level = cc in
    subst (P kind) b (subst (λ (x : Kind). P x l) a p)

-- the next word of a row in hand, by its field
told_is : (shape : Shape) (kind : Kind) (level index r : ℕ) (t : local_step.State) (field : Field) → row_word shape kind level index t r field ≡ told_field shape kind level index field (rows.word_of t r field)
told_is shape kind level index r t Lo = refl
told_is shape kind level index r t Base = refl
told_is shape kind level index r t Prev = refl

-- .. and which field and row are asked for
abbrev field_asked : Option (ℕ × Field) → Field
field_asked (Some pair) = pair.1
field_asked None = Lo

abbrev row_asked : Option (ℕ × Field) → ℕ
row_asked (Some pair) = pair.0
row_asked None = 0

asks_prev : (g : Stage) (r : ℕ) → asked g ≡ Some (r, Prev) → (at : ℕ) × (g ≡ Over at r)
asks_prev (Over at row) r is = (at, ap (λ (x : Option (ℕ × Field)). Over at (row_asked x)) is)
asks_prev (At at row) r is = let same : Lo ≡ Prev = ap field_asked is in absurd (cc)
asks_prev (Hit at row lo) r is = let same : Base ≡ Prev = ap field_asked is in absurd (cc)
asks_prev _ r is = let same : Lo ≡ Prev = ap field_asked is in absurd (cc)

module _ (m : Machine) (log : List Event) (stands : Stands m log) (pass : ℕ) (inside : pass < m.start.shape.passes) where
  -- where the pass stands
  pub position_there : (t : Standing) → t ≡ slice_index_or m.standings.items pass t → ((run m.start log (opened m.start)).callers pass).position ≡ t.position
  position_there t read =
      sym (ap (λ (x : Standing). x.position) (standing_read m.start.shape m.standings.items (run m.start log (opened m.start)).callers stands.fields.standings pass inside t read))

-- a fill, at the place where the call has climbed
module _ (m : Machine) (log : List Event) (pass row : ℕ) (field : Field) (may : May m log pass (Fill row field)) (kind : Kind) (level : ℕ) (position : ((run m.start log (opened m.start)).callers pass).position ≡ Climbing kind level) where
  abbrev at_fill : State
  at_fill = run m.start log (opened m.start)

  pub fill_may : (number word : ℕ) → number ≡ local_row m.start.shape level pass row → word ≡ word_of field (stage m.start at_fill kind level pass) → MayTake m.start at_fill kind level pass (λ i. local_step.Fill i number field word)
  fill_may number word is stores =
      let may_fill : MayTake m.start at_fill kind level pass (fills m.start at_fill kind level pass row field) =
      same_climb (λ (k : Kind) (l : ℕ). MayTake m.start at_fill k l pass (fills m.start at_fill k l pass row field)) may.1.0 kind may.1.1 level (sym may.1.3.0 ∙ position) may.1.3.1 in
      subst (λ (x : ℕ). MayTake m.start at_fill kind level pass (λ i. local_step.Fill i x field word)) (sym is)
      (subst (λ (x : ℕ). MayTake m.start at_fill kind level pass (λ i. local_step.Fill i (local_row m.start.shape level pass row) field x)) (sym stores) may_fill)

  pub filled_there : (new : Machine) (number word : ℕ) → number ≡ local_row m.start.shape level pass row → word ≡ word_of field (stage m.start at_fill kind level pass) → Mirrors new (local m.start at_fill kind level pass (λ i. local_step.Fill i number field word))
      → Mirrors new (moves m.start at_fill pass (Fill row field))
  filled_there new number word is stores w =
      subst (λ (x : Position). Mirrors new (filled_by m.start at_fill pass row field x)) (sym position)
      (subst (λ (x : ℕ). Mirrors new (local m.start at_fill kind level pass (λ i. local_step.Fill i (local_row m.start.shape level pass row) field x))) stores
      (subst (λ (x : ℕ). Mirrors new (local m.start at_fill kind level pass (λ i. local_step.Fill i x field word))) is w))

-- a peek, at the place where the call has climbed
module _ (m : Machine) (log : List Event) (stands : Stands m log) (pass row : ℕ) (field : Field) (may : May m log pass (Peek row field)) (kind : Kind) (level : ℕ) (position : ((run m.start log (opened m.start)).callers pass).position ≡ Climbing kind level) where
  abbrev at_peek : State
  at_peek = run m.start log (opened m.start)

  abbrev hand_index : ℕ
  hand_index = aggregator m.start.shape pass level

  pub peek_may : MayTake m.start at_peek kind level pass (λ i. local_step.Peek i)
  peek_may = same_climb (λ (k : Kind) (l : ℕ). MayTake m.start at_peek k l pass (λ i. local_step.Peek i)) may.1.0 kind may.1.1 level (sym may.1.2.0 ∙ position) may.1.2.1

  peek_asks : MayPeek m.start kind level hand_index (stage m.start at_peek kind level pass) row field
  peek_asks = same_climb (λ (k : Kind) (l : ℕ). MayPeek m.start k l (aggregator m.start.shape pass l) (stage m.start at_peek k l pass) row field) may.1.0 kind may.1.1 level (sym may.1.2.0 ∙ position) may.1.3

  -- the row in hand
  pub hand : (r : ℕ) × Names m.start.shape kind level hand_index row r × (r / m.start.shape.rows < members m.start.shape level hand_index) × (asked (stage m.start at_peek kind level pass) ≡ Some (r, field))
  hand = hand_mine m.start log stands.start_ok stands.legal pass kind level row field (stage m.start at_peek kind level pass) refl peek_asks

  pub hand_small : (number : ℕ) (g : Stage) → g ≡ stage m.start at_peek kind level pass → ((r : ℕ) (f : Field) → asked g ≡ Some (r, f) → number ≡ r) → number < 512
  hand_small number g is in_hand = omega (arith, in_hand hand.0 field (ap asked is ∙ hand.3), hand_few m.start.shape level hand_index hand.0 hand.2)

  pub hand_asked : (number : ℕ) (g : Stage) → g ≡ stage m.start at_peek kind level pass → ((r : ℕ) (f : Field) → asked g ≡ Some (r, f) → number ≡ r) → asked g ≡ Some (number, field)
  hand_asked number g is in_hand = ap asked is ∙ hand.3 ∙ ap (λ (x : ℕ). Some (x, field)) (sym (in_hand hand.0 field (ap asked is ∙ hand.3)))

  module _ (number : ℕ) (asks : asked (stage m.start at_peek kind level pass) ≡ Some (number, field)) where
    same_row : number ≡ hand.0
    same_row = ap row_asked (sym asks ∙ hand.3)

    -- the word of its last batch names a member's row
    pub peek_mine : field ≡ Prev → NamesMine m.start.shape level hand_index (rows.word_of (place m.start at_peek kind level pass).state number field)
    peek_mine is =
        let over = asks_prev (stage m.start at_peek kind level pass) number (asks ∙ ap (λ (x : Field). Some (number, x)) is) in
        subst (λ (x : Field). NamesMine m.start.shape level hand_index (rows.word_of (place m.start at_peek kind level pass).state number x)) (sym is) (over_mine m.start log stands.start_ok stands.legal pass kind level over.0 number over.1)

    pub peek_found : IsSlot m.start.shape pass kind level → told_field m.start.shape kind level hand_index field (rows.word_of (place m.start at_peek kind level pass).state number field) ≡ word m.start at_peek (row_name m.start.shape row field)
    peek_found slot =
        ap (λ (x : ℕ). told_field m.start.shape kind level hand_index field (rows.word_of (place m.start at_peek kind level pass).state x field)) same_row
        ∙ sym (told_is m.start.shape kind level hand_index hand.0 (place m.start at_peek kind level pass).state field)
        ∙ sym (peek_word m.start at_peek pass kind level slot.1 slot.2 row hand.0 field hand.1)

  pub peeked_there : (new : Machine) → Mirrors new (local m.start at_peek kind level pass (λ i. local_step.Peek i)) → Mirrors new (moves m.start at_peek pass (Peek row field))
  peeked_there new w = subst (λ (x : Position). Mirrors new (peeked_by m.start at_peek pass x)) (sym position) w

-- the row that a pass may point to is the one that it has filled
pub point_row : (m : Machine) (log : List Event) (pass : ℕ) (kind : Kind) (level row : ℕ) → (may : May m log pass (Point kind level row)) → (g : Stage) → g ≡ stage m.start (run m.start log (opened m.start)) kind level pass
    → (number : ℕ) → number ≡ local_row m.start.shape level pass row → row_named g ≡ Some number
point_row m log pass kind level row may g here number is =
    let filled : stage m.start (run m.start log (opened m.start)) kind level pass ≡ Filled may.1.0.1.0 may.1.0.1.1 may.1.0.1.2 may.1.0.1.3 = may.1.0.1.4 in
    let same : local_row m.start.shape level pass row ≡ may.1.0.1.3 = subst (MayPoint (local_row m.start.shape level pass row)) filled may.1.3 in
    ap row_named (here ∙ filled) ∙ ap Some (sym (is ∙ same))

-- an arrival
module _ (m : Machine) (log : List Event) (stands : Stands m log) (pass : ℕ) (kind : Kind) where
  abbrev at_arrival : State
  at_arrival = run m.start log (opened m.start)

  pub arrive_room : (level weight : ℕ) → May m log pass (Arrive kind level weight) → (place m.start at_arrival kind level pass).total + weight < 2 ^ 63
  arrive_room zero weight may = absurd may.1.1
  arrive_room (suc below) weight may =
      let both = holds m.start log stands.start_ok stands.legal in
      let next : State = moves m.start at_arrival pass (Arrive kind (suc below) weight) in
      let next_whole : Whole m.start next = moves_keep m.start stands.start_ok at_arrival both.0 pass may.0 (Arrive kind (suc below) weight) may.1 in
      let next_counted : IsCounted m.start next = counts_keep m.start stands.start_ok at_arrival both.0 both.1 pass may.0 (Arrive kind (suc below) weight) may.1 in
      room below (total_small m.start stands.start_ok next next_whole next_counted kind below (aggregator m.start.shape pass (suc below)))
    where
      here : (l : ℕ) → ℕ
      here l = aggregator m.start.shape pass l

      after_it : (l : ℕ) → Traced
      after_it l = traced (at_arrival.rows kind l (here l)) (local_step.Arrive (member m.start.shape l pass) weight)

      room : (b : ℕ) → ((moves m.start at_arrival pass (Arrive kind (suc b) weight)).rows kind (suc b) (aggregator m.start.shape pass (suc b))).total < 2 ^ 63 → (place m.start at_arrival kind (suc b) pass).total + weight < 2 ^ 63
      room zero small = subst (λ (t : Traced). t.total < 2 ^ 63) (put_at_here at_arrival.rows kind 1 (here 1) (after_it 1)) small
      room (suc b) small = subst (λ (t : Traced). t.total < 2 ^ 63) (put_at_here at_arrival.rows kind (suc (suc b)) (here (suc (suc b))) (after_it (suc (suc b)))) small

  pub arrive_spends : (level weight : ℕ) → level ≡ 1 → May m log pass (Arrive kind level weight) → (t : Standing) → t ≡ slice_index_or m.standings.items pass t → weight ≤ t.left
  arrive_spends level weight first may t read =
      let may_spend : MaySpend at_arrival pass weight = subst (λ (l : ℕ). MayArrive m.start at_arrival pass kind l weight) first may.1.1 in
      let is : t ≡ standing_of (at_arrival.callers pass) = standing_read m.start.shape m.standings.items at_arrival.callers stands.fields.standings pass may.0 t read in
      subst (λ (x : Standing). weight ≤ x.left) (sym is) may_spend.1

  -- a call spends its amount
  pub arrives_first : (level weight : ℕ) → level ≡ 1 → pass < m.start.shape.passes → (new : Machine) → new.start ≡ m.start → Mirrors new (local m.start at_arrival kind level pass (λ i. local_step.Arrive i weight))
      → (t : Standing) → t ≡ slice_index_or m.standings.items pass t → new.standings ≡ m.standings → Mirrors (record new { standings = with_item m.standings pass (record t { left = t.left - weight }) }) (moves m.start at_arrival pass (Arrive kind level weight))
  arrives_first zero weight first inside new same w t read still = absurd (omega (arith, first))
  arrives_first (suc (suc below)) weight first inside new same w t read still = absurd (omega (arith, first))
  arrives_first (suc zero) weight first inside new same w t read still =
      let is : t ≡ standing_of (at_arrival.callers pass) = standing_read m.start.shape m.standings.items at_arrival.callers stands.fields.standings pass inside t read in
      record {
        main_is = w.main_is;
        places = w.places;
        standings = subst (λ (x : Start). AreStandings x.shape (with_item m.standings pass (record t { left = t.left - weight })).items (moves m.start at_arrival pass (Arrive kind 1 weight)).callers) (sym same)
            (standings_after m.start.shape m.standings.items at_arrival.callers stands.fields.standings pass inside (record t { left = t.left - weight }) (after_call (at_arrival.callers pass) (next_call at_arrival pass kind weight)) (ap (λ (x : Standing). record x { left = x.left - weight }) is));
      }

  -- a batch arrives above
  pub arrives_above : (level weight : ℕ) → level ≢ 1 → May m log pass (Arrive kind level weight) → (new : Machine) → Mirrors new (local m.start at_arrival kind level pass (λ i. local_step.Arrive i weight)) → Mirrors new (moves m.start at_arrival pass (Arrive kind level weight))
  arrives_above zero weight above may new w = absurd may.1.1
  arrives_above (suc zero) weight above may new w = absurd (above refl)
  arrives_above (suc (suc below)) weight above may new w = record { main_is = w.main_is; places = w.places; standings = w.standings }

-- a step at the aggregator, where the fields are those of a state
module _ (m : Machine) (s : State) (w : Mirrors m s) (pass : ℕ) (kind : Kind) (level : ℕ) (slot : IsSlot m.start.shape pass kind level) where
  pub in_place : (k : ℕ) → k ≡ aggregator_number m.start.shape kind level (aggregator m.start.shape pass level) → k < vec_len m.rows
  in_place k is = omega (arith, m.rows.ok.0, is, here_within m s w pass kind level slot)

  pub steps_in_place : (k : ℕ) (a b : Aggregator) → k ≡ aggregator_number m.start.shape kind level (aggregator m.start.shape pass level) → a ≡ slice_index_or m.rows.items k a → (n : ℕ) → n ≡ member m.start.shape level pass → (step : ℕ → Step) → Steps a b (step n)
      → Mirrors (record m { rows = with_item m.rows k b }) (local m.start s kind level pass step)
  steps_in_place k a b is read n own step steps = record {
    main_is = w.main_is;
    places = here_takes m s w pass kind level slot k a b is read n own step steps;
    standings = w.standings;
  }

-- what a pass leaves that goes down a level
leaves_down : (start : Start) (s : State) (pass : ℕ) (kind : Kind) (level : ℕ) → level ≢ 1 → 1 ≤ level
    → goes_to (local start (local start s kind level pass (λ i. local_step.Leave i)) kind (level - 1) pass (λ i. local_step.Hand_base i (reply_of start.cap kind (stage start s kind level pass)))) pass (Climbing kind (level - 1)) ≡ leaves start s pass kind level
leaves_down start s pass kind zero above low = absurd (omega arith)
leaves_down start s pass kind (suc zero) above low = absurd (above refl)
leaves_down start s pass kind (suc (suc below)) above low =
    let e : suc (suc below) - 1 ≡ suc below = omega arith in
    ap (λ (l : ℕ). goes_to (local start (local start s kind (suc (suc below)) pass (λ i. local_step.Leave i)) kind l pass (λ i. local_step.Hand_base i (reply_of start.cap kind (stage start s kind (suc (suc below)) pass)))) pass (Climbing kind l)) e

-- going down: the batch one level below is closed, and waits for its base
module _ (m : Machine) (log : List Event) (stands : Stands m log) (pass : ℕ) (kind : Kind) (level : ℕ) (above : level ≢ 1) (may : May m log pass (Leave kind level)) where
  abbrev at_leave : State
  at_leave = run m.start log (opened m.start)

  abbrev left : State
  left = local m.start at_leave kind level pass (λ i. local_step.Leave i)

  climb : IsClimbing m.start.shape.levels (stages_of m.start at_leave pass) kind level
  climb = climbing m.start stands.start_ok at_leave (whole m log stands pass may.0) pass kind level may.1.0

  pub lower_slot : IsSlot m.start.shape pass kind (level - 1)
  lower_slot = let low = climb.low in let high = climb.high in (may.0, change_funnelled kind climb.change, (omega arith, omega arith))

  still_there : stage m.start left kind (level - 1) pass ≡ stage m.start at_leave kind (level - 1) pass
  still_there =
      let low = climb.low in
      let index : ℕ = aggregator m.start.shape pass level in
      let lower : ℕ = aggregator m.start.shape pass (level - 1) in
      elim (same_place kind kind (level - 1) level lower index) [
        | inl is ↦ absurd (omega (arith, is.1))
        | inr not ↦ ap (λ (t : Traced). t.stage (member m.start.shape (level - 1) pass)) (put_at_there at_leave.rows kind level index (traced (at_leave.rows kind level index) (local_step.Leave (member m.start.shape level pass))) kind (level - 1) lower not)
      ]

  pub lower_may : (base : ℕ) → MayTake m.start left kind (level - 1) pass (λ i. local_step.Hand_base i base)
  lower_may base =
      let low = climb.low in
      let closed = climb.closed (level - 1) (omega arith) (omega arith) in
      (closed.0, closed.1, still_there ∙ closed.2)

  pub goes_down : (new : Machine) (base : ℕ) → base ≡ reply_of m.start.cap kind (stage m.start at_leave kind level pass)
      → Mirrors new (goes_to (local m.start left kind (level - 1) pass (λ i. local_step.Hand_base i base)) pass (Climbing kind (level - 1))) → Mirrors new (moves m.start at_leave pass (Leave kind level))
  goes_down new base is w =
      subst (Mirrors new) (leaves_down m.start at_leave pass kind level above climb.low)
      (subst (λ (b : ℕ). Mirrors new (goes_to (local m.start left kind (level - 1) pass (λ i. local_step.Hand_base i b)) pass (Climbing kind (level - 1)))) is w)
