-- One word for each kind of event.
use Rattle.std.proofs.Common.{◌≡◌, ◌≢◌, inl, inr, Bool, cond, ℕ, zero, suc, ◌+◌, ◌*◌, ◌/◌, ◌%◌, ◌<◌, ◌==◌, if◌then◌else◌, refl, sym, ap, subst, ◌∙◌, arith, slice_index, slice_set, eq-eqb, ne_eqb}
use Rattle.std.proofs.lemmas.Bool.{cases_eq}
use Rattle.std.proofs.lemmas.Nat.{div-mul-add, mod-mul-add, mod_below}
use Rattle.fn_model.specs.declared.Kind.{Kind}
use Rattle.fn_model.specs.declared.Kind.TheVariants.{Add, Read}
use Rattle.fn_model.specs.Integer.{after}
use Rattle.fn_model.specs.Histories.{BatchStep}
use Rattle.fn_rows.specs.declared.Field.{Field}
use Rattle.fn_rows.specs.declared.Field.TheVariants.{Lo, Base, Prev}
use Rattle.fn_rows.specs.declared.Stage.{Stage}
use Rattle.fn_rows.specs.declared.Stage.TheVariants.{Saw}
use Rattle.fn_rows.specs.Machine.{Step}
use Rattle.fn_rows.specs.Machine as step
use Rattle.fn_rows.specs.Trace.{Traced}
use Rattle.fn_layout.specs.Kinds.{IsFunnelled}
use Rattle.fn_layout.specs.Tree.{aggregator, member, pass_of, IsLevel}
use Rattle.fn_layout.specs.Words.{Name, Main, Value, Last, Done, Announcement, RowWord, IsNamed, IsSlot, number, slot_number, row_number, row_name}
use Rattle.fn_layout.proofs.Tree.{aggregator_below}
use Rattle.fn_layout.proofs.Read.{row_name-number}
use Rattle.fn_layout.proofs.Members.{members_are_numbered}
use Rattle.fn_core.specs.declared.Purpose.{Purpose}
use Rattle.fn_core.specs.declared.Purpose.TheVariants as purpose
use Rattle.fn_core.specs.declared.Move.{Move}
use Rattle.fn_core.specs.declared.Move.TheVariants.{Scan, See, Announce, Arrive, Look, Close, Apply, Head, Fill, Point, Publish, Peek, Leave, Load, Exchange, Direct, Glance}
use Rattle.fn_core.specs.State.{Start, Position, Resting, Trying, Climbing, Deciding, State, stage, local, goes_to, enters, reply_of, lo_of, hi_of}
use Rattle.fn_core.specs.Machine.{May, place, IsRow, local_row, word_of, fills, applied_by, filled_by, peeked_by, loaded_by, exchanged_by, applies, makes, MayPoint}
use Rattle.fn_core.specs.Words.{word, words_of, own, exchanged, row_there, fill_word, filled_word, name_of, announced_by, end_by, ChangesOneWord, IsPlaced, IsWithin}
use Rattle.fn_core.proofs.Homes.{Total, Newest, Finished, Announced, RowAt, Home, Root, At, told, word_at, words_same, word_found}
use Rattle.fn_core.proofs.Local.{moved_same, scan_same, look_same, close_same, hand_same, head_same, peek_same, announce_writes, arrive_writes, point_writes, publish_writes, leave_writes, fill_writes}
use Rattle.fn_core.proofs.OneWord.{quiet, local_quiet, local_unmoved, local_event, main_event}

module _ (start : Start) where
  -- a step that touches no aggregator leaves their words
  aside : (s t : State) → ((k : Kind) (j i : ℕ) → t.rows k j i ≡ s.rows k j i) → (here : Home) → here ≢ Root → word_at start t here ≡ word_at start s here
  aside s t rows Root ne = absurd (ne refl)
  aside s t rows (At k j i l) ne = ap (λ (x : Traced). word_at start (record s { rows = λ k' j' i'. x }) (At k j i l)) (rows k j i)

  still : (s t : State) → t.main ≡ s.main → ((k : Kind) (j i : ℕ) → t.rows k j i ≡ s.rows k j i) → (here : Home) → word_at start t here ≡ word_at start s here
  still s t main rows Root = main
  still s t main rows (At k j i l) = aside s t rows (At k j i l) (λ e. cc)

  module _ (s : State) (pass : ℕ) (inside : pass < start.shape.passes) where
    placed : (kind : Kind) (level : ℕ) → IsPlaced start.shape (s.callers pass).position → (s.callers pass).position ≡ Climbing kind level → IsFunnelled kind × IsLevel start.shape level
    placed kind level ok e = subst (IsPlaced start.shape) e ok

    -- the number of the word of a step
    abbrev at : Move → ℕ
    at step = number start.shape (name_of start.shape pass step)

    -- the pass's aggregator, and its number there
    abbrev there : Kind → ℕ → step.State
    there kind level = (place start s kind level pass).state

    abbrev me : ℕ → ℕ
    me level = member start.shape level pass

    one_scan : (kind : Kind) (level other : ℕ) → ChangesOneWord start s pass (Scan kind level other)
    one_scan kind level other =
        local_unmoved start s kind level pass (λ m. step.Scan m (member start.shape level other)) (at (Scan kind level other)) (scan_same (there kind level) (me level) (member start.shape level other))

    one_see : (kind : Kind) (level : ℕ) → ChangesOneWord start s pass (See kind level)
    one_see kind level = local_unmoved start s kind level pass (λ m. step.See m) (at (See kind level)) (moved_same (there kind level) (me level) (Saw (there kind level).done))

    one_look : (kind : Kind) (level : ℕ) → ChangesOneWord start s pass (Look kind level)
    one_look kind level = local_unmoved start s kind level pass (λ m. step.Look m) (at (Look kind level)) (look_same (there kind level) (me level) (stage start s kind level pass))

    one_close : (kind : Kind) (level : ℕ) → ChangesOneWord start s pass (Close kind level)
    one_close kind level = local_unmoved start s kind level pass (λ m. step.Close m) (at (Close kind level)) (close_same (there kind level) (me level) (stage start s kind level pass))

    one_head : (kind : Kind) (level : ℕ) → ChangesOneWord start s pass (Head kind level)
    one_head kind level = local_unmoved start s kind level pass (λ m. step.Head m) (at (Head kind level)) (head_same (there kind level) (me level) (stage start s kind level pass))

    one_peek : (row : ℕ) (field : Field) → May start s pass (Peek row field) → ChangesOneWord start s pass (Peek row field)
    one_peek row field (kind, level, climbs, _) =
        ap (λ (p : Position). words_of start (peeked_by start s pass p)) climbs.0
        ∙ local_unmoved start s kind level pass (λ m. step.Peek m) (at (Peek row field))
        (peek_same (there kind level) (me level) (stage start s kind level pass))

    one_announce : (kind : Kind) (level : ℕ) → IsPlaced start.shape (s.callers pass).position → May start s pass (Announce kind level) → ChangesOneWord start s pass (Announce kind level)
    one_announce kind level ok h =
        let p = placed kind level ok h.0 in
        local_event start s kind level pass (λ m. step.Announce m) (Announced (me level)) (Announcement pass kind level) (announced_by (stage start s kind level pass)) (inside, p.0, p.1) refl
        (announce_writes (there kind level) (me level) (stage start s kind level pass) h.1.0 h.1.1)

    one_arrive : (kind : Kind) (level weight : ℕ) → IsPlaced start.shape (s.callers pass).position → May start s pass (Arrive kind level weight) → ChangesOneWord start s pass (Arrive kind level weight)
    one_arrive kind zero weight ok h = absurd h.1
    one_arrive kind (suc zero) weight ok h =
        let p = placed kind 1 ok h.0.0 in
        let named : IsNamed start.shape (Value kind 1 (aggregator start.shape pass 1)) = (p.0, p.1, aggregator_below start.shape pass 1) in
        local_event start s kind 1 pass (λ m. step.Arrive m weight) Total (Value kind 1 (aggregator start.shape pass 1)) ((there kind 1).total + weight) named refl (arrive_writes (there kind 1) (me 1) weight)
        ∙ ap (λ (n : ℕ). slice_set (words_of start s) (at (Arrive kind 1 weight)) (n + weight)) (sym (word_found start s (Value kind 1 (aggregator start.shape pass 1)) named))
    one_arrive kind (suc (suc below)) weight ok h =
        let level : ℕ = suc (suc below) in
        let p = placed kind level ok h.0.0 in
        let named : IsNamed start.shape (Value kind level (aggregator start.shape pass level)) = (p.0, p.1, aggregator_below start.shape pass level) in
        local_event start s kind level pass (λ m. step.Arrive m weight) Total (Value kind level (aggregator start.shape pass level)) ((there kind level).total + weight) named refl (arrive_writes (there kind level) (me level) weight)
        ∙ ap (λ (n : ℕ). slice_set (words_of start s) (at (Arrive kind level weight)) (n + weight)) (sym (word_found start s (Value kind level (aggregator start.shape pass level)) named))

    one_publish : (kind : Kind) (level : ℕ) → IsPlaced start.shape (s.callers pass).position → May start s pass (Publish kind level) → ChangesOneWord start s pass (Publish kind level)
    one_publish kind level ok h =
        let p = placed kind level ok h.0 in
        let g = h.1 in
        local_event start s kind level pass (λ m. step.Publish m) Finished (Done kind level (aggregator start.shape pass level)) (end_by (stage start s kind level pass)) (p.0, p.1, aggregator_below start.shape pass level) refl
        (publish_writes (there kind level) (me level) (stage start s kind level pass) g.0 g.1 g.2 g.3 g.4)

    one_leave : (kind : Kind) (level : ℕ) → IsPlaced start.shape (s.callers pass).position → May start s pass (Leave kind level) → ChangesOneWord start s pass (Leave kind level)
    one_leave kind zero ok h = absurd (let p = placed kind 0 ok h.0 in omega (arith, p.1))
    one_leave kind (suc zero) ok h =
        let p = placed kind 1 ok h.0 in
        local_event start s kind 1 pass (λ m. step.Leave m) (Announced (me 1)) (Announcement pass kind 1) 0 (inside, p.0, p.1) refl (leave_writes (there kind 1) (me 1))
    one_leave kind (suc (suc below)) ok h =
        let level : ℕ = suc (suc below) in
        let p = placed kind level ok h.0 in
        let left : State = local start s kind level pass (λ m. step.Leave m) in
        let handed : State = local start left kind (suc below) pass (λ m. step.Hand_base m (reply_of start.cap kind (stage start s kind level pass))) in
        words_same start left handed
        (local_quiet start left kind (suc below) pass (λ m. step.Hand_base m (reply_of start.cap kind (stage start s kind level pass)))
        (hand_same (place start left kind (suc below) pass).state (me (suc below)) (reply_of start.cap kind (stage start s kind level pass)) (stage start left kind (suc below) pass)))
        ∙ local_event start s kind level pass (λ m. step.Leave m) (Announced (me level)) (Announcement pass kind level) 0 (inside, p.0, p.1) refl (leave_writes (there kind level) (me level))

    -- the place of a row of the pass, by its number in the layout
    row_place : (kind : Kind) (level row n : ℕ) → IsRow start.shape pass kind level row n → row % start.shape.rows ≡ n
    row_place kind level row n h = ap (λ (r : ℕ). r % start.shape.rows) h.1 ∙ mod-mul-add (slot_number start.shape pass kind level) start.shape.rows n h.0

    -- the number in the layout of a row of the pass, by its number at the aggregator
    row_back : (kind : Kind) (level row n : ℕ) → IsRow start.shape pass kind level row n → row_there start.shape kind level (aggregator start.shape pass level) (local_row start.shape level pass row) ≡ row
    row_back kind level row n h =
        let shape = start.shape in
        let index : ℕ = aggregator shape pass level in
        let r : ℕ = local_row shape level pass row in
        let within : row % shape.rows < shape.rows = mod_below row shape.rows (omega arith) in
        let whole : r / shape.rows ≡ me level = div-mul-add (me level) shape.rows (row % shape.rows) within in
        let rest : r % shape.rows ≡ n = mod-mul-add (me level) shape.rows (row % shape.rows) within ∙ row_place kind level row n h in
        ap (λ (x : ℕ). row_number shape (pass_of shape level index x) kind level (r % shape.rows)) whole
        ∙ ap (λ (x : ℕ). row_number shape x kind level (r % shape.rows)) (members_are_numbered shape pass level inside).1
        ∙ ap (λ (x : ℕ). row_number shape pass kind level x) rest ∙ sym h.1

    told-filled : (kind : Kind) (level : ℕ) (field : Field) (row : ℕ) (stage : Stage)
        → told start.shape kind level (aggregator start.shape pass level) (RowAt row field) (word_of field stage) ≡ filled_word start.shape kind level (aggregator start.shape pass level) field stage
    told-filled kind level Lo row stage = refl
    told-filled kind level Base row stage = refl
    told-filled kind level Prev row stage = refl

    one_fill : (row : ℕ) (field : Field) → IsPlaced start.shape (s.callers pass).position → May start s pass (Fill row field) → ChangesOneWord start s pass (Fill row field)
    one_fill row field ok (kind, level, n, climbs, of_pass) =
        let shape = start.shape in
        let index : ℕ = aggregator shape pass level in
        let p = placed kind level ok climbs.0 in
        let slot : IsSlot shape pass kind level = (inside, p.0, p.1) in
        let name : row_name shape row field ≡ RowWord pass kind level n field = ap (λ (r : ℕ). row_name shape r field) of_pass.1 ∙ row_name-number shape pass kind level n field p.0 p.1 of_pass.0 in
        let r : ℕ = local_row shape level pass row in
        let w : ℕ = word_of field (stage start s kind level pass) in
        ap (λ (p : Position). words_of start (filled_by start s pass row field p)) climbs.0
        ∙ local_event start s kind level pass (fills start s kind level pass row field) (RowAt r field) (RowWord pass kind level n field) w (slot, of_pass.0)
        (ap (λ (x : ℕ). At kind level index (RowAt (me level * shape.rows + x) field)) (sym (row_place kind level row n of_pass)))
        (fill_writes (there kind level) (me level) r field w (stage start s kind level pass))
        ∙ ap (λ (x : Name). slice_set (words_of start s) (number shape x) (told shape kind level index (RowAt r field) w)) (sym name)
        ∙ ap (slice_set (words_of start s) (at (Fill row field))) (told-filled kind level field r (stage start s kind level pass) ∙ ap (fill_word start (own start s pass) pass field) (sym climbs.0))

    one_point : (kind : Kind) (level row : ℕ) → IsPlaced start.shape (s.callers pass).position → May start s pass (Point kind level row) → ChangesOneWord start s pass (Point kind level row)
    one_point kind level row ok (climbs, n, of_pass, may) =
        let shape = start.shape in
        let index : ℕ = aggregator shape pass level in
        let p = placed kind level ok climbs.0 in
        let g = climbs.1 in
        let same : local_row shape level pass row ≡ g.3 = subst (MayPoint (local_row shape level pass row)) g.4 may in
        local_event start s kind level pass (λ m. step.Point m) Newest (Last kind level index) (suc g.3) (p.0, p.1, aggregator_below shape pass level) refl
        (point_writes (there kind level) (me level) (stage start s kind level pass) g.0 g.1 g.2 g.3 g.4)
        ∙ ap (λ (x : ℕ). slice_set (words_of start s) (at (Point kind level row)) (suc x)) (ap (row_there shape kind level index) (sym same) ∙ row_back kind level row n of_pass)

    loaded_same : (position : Position) → words_of start (loaded_by s pass position) ≡ words_of start s
    loaded_same Resting = refl
    loaded_same (Trying word) = refl
    loaded_same (Climbing kind level) = refl
    loaded_same (Deciding kind level word) = refl

    one_load : (purpose : Purpose) → ChangesOneWord start s pass (Load purpose)
    one_load purpose.Try = quiet start s (loaded_by s pass (s.callers pass).position) 0 (loaded_same (s.callers pass).position)
    one_load purpose.Read = quiet start s (makes start s pass Read 0) 0 refl

    one_glance : ChangesOneWord start s pass Glance
    one_glance = quiet start s s 0 refl

    -- the number found in the main word
    main_found : slice_index (words_of start s) 0 ≡ s.main
    main_found = word_found start s Main tt

    one_direct : (amount : ℕ) → IsWithin start s (Direct amount) → ChangesOneWord start s pass (Direct amount)
    one_direct amount within =
        main_event start s (makes start s pass Add amount) (aside s (makes start s pass Add amount) (λ k j i. refl))
        ∙ ap (slice_set (words_of start s) 0) (omega (arith, main_found))

    -- a batch enters the main word and its base is handed to its aggregator
    applies_one : (kind : Kind) (level amount : ℕ) → words_of start (applies start s pass kind level amount) ≡ slice_set (words_of start s) 0 (after start.cap s.main kind amount)
    applies_one kind level amount =
        let entered : State = enters start s kind amount (BatchStep kind (aggregator start.shape pass level) (lo_of (stage start s kind level pass)) (hi_of (stage start s kind level pass))) in
        main_event start s (applies start s pass kind level amount)
        (λ here ne. local_quiet start entered kind level pass (λ m. step.Hand_base m s.main) (hand_same (there kind level) (me level) s.main (stage start s kind level pass)) here
        ∙ aside s entered (λ k j i. refl) here ne)

    one_apply : (weight : ℕ) → IsWithin start s (Apply weight) → May start s pass (Apply weight) → ChangesOneWord start s pass (Apply weight)
    one_apply weight within (level, climbs, _, _, _) =
        ap (λ (p : Position). words_of start (applied_by start s pass weight p)) climbs ∙ applies_one Add level weight ∙ ap (slice_set (words_of start s) 0) (omega (arith, main_found))

    -- a compare-exchange, where a win enters a call or a batch and a loss changes nothing
    exchange_one : (won lost : State) (kind : Kind) (amount loaded : ℕ) → words_of start won ≡ slice_set (words_of start s) 0 (after start.cap s.main kind amount) → words_of start lost ≡ words_of start s
        → words_of start (if s.main == loaded then won else lost) ≡ slice_set (words_of start s) 0 (if slice_index (words_of start s) 0 == loaded then after start.cap loaded kind amount else slice_index (words_of start s) 0)
    exchange_one won lost kind amount loaded wins loses = elim (cases_eq s.main loaded) [
      | inl e ↦ ap (λ (b : Bool). words_of start (cond b won lost)) (eq-eqb s.main loaded e) ∙ wins
          ∙ ap (λ (n : ℕ). slice_set (words_of start s) 0 (after start.cap n kind amount)) e
          ∙ ap (slice_set (words_of start s) 0) (sym (ap (λ (b : Bool). cond b (after start.cap loaded kind amount) (slice_index (words_of start s) 0)) (eq-eqb (slice_index (words_of start s) 0) loaded (main_found ∙ e))))
      | inr ne ↦ ap (λ (b : Bool). words_of start (cond b won lost)) (ne_eqb s.main loaded ne) ∙ quiet start s lost 0 loses
          ∙ ap (slice_set (words_of start s) 0) (sym (ap (λ (b : Bool). cond b (after start.cap loaded kind amount) (slice_index (words_of start s) 0)) (ne_eqb (slice_index (words_of start s) 0) loaded (λ e. ne (sym main_found ∙ e)))))
    ]

    one_exchange : (kind : Kind) (amount : ℕ) → May start s pass (Exchange kind amount) → ChangesOneWord start s pass (Exchange kind amount)
    one_exchange kind amount (inl (loaded, tries, _, _)) =
        ap (λ (p : Position). words_of start (exchanged_by start s pass kind amount p)) tries
        ∙ exchange_one (goes_to (makes start s pass kind amount) pass Resting) (goes_to s pass Resting) kind amount loaded
        (main_event start s (makes start s pass kind amount) (aside s (makes start s pass kind amount) (λ k j i. refl))) refl
        ∙ ap (λ (p : Position). slice_set (words_of start s) 0 (exchanged start kind amount p (slice_index (words_of start s) 0))) (sym tries)
    one_exchange kind amount (inr (level, loaded, decides, _)) =
        ap (λ (p : Position). words_of start (exchanged_by start s pass kind amount p)) decides
        ∙ exchange_one (goes_to (applies start s pass kind level amount) pass (Climbing kind level)) (goes_to s pass (Climbing kind level)) kind amount loaded (applies_one kind level amount) refl
        ∙ ap (λ (p : Position). slice_set (words_of start s) 0 (exchanged start kind amount p (slice_index (words_of start s) 0))) (sym decides)

    -- each event changes one word alone
    pub one_word : (step : Move) → IsPlaced start.shape (s.callers pass).position → IsWithin start s step → May start s pass step → ChangesOneWord start s pass step
    one_word (Scan kind level other) ok within may = one_scan kind level other
    one_word (See kind level) ok within may = one_see kind level
    one_word (Announce kind level) ok within may = one_announce kind level ok may
    one_word (Arrive kind level weight) ok within may = one_arrive kind level weight ok may
    one_word (Look kind level) ok within may = one_look kind level
    one_word (Close kind level) ok within may = one_close kind level
    one_word (Apply weight) ok within may = one_apply weight within may
    one_word (Head kind level) ok within may = one_head kind level
    one_word (Fill row field) ok within may = one_fill row field ok may
    one_word (Point kind level row) ok within may = one_point kind level row ok may
    one_word (Publish kind level) ok within may = one_publish kind level ok may
    one_word (Peek row field) ok within may = one_peek row field may
    one_word (Leave kind level) ok within may = one_leave kind level ok may
    one_word (Load purpose) ok within may = one_load purpose
    one_word (Exchange kind amount) ok within may = one_exchange kind amount may
    one_word (Direct amount) ok within may = one_direct amount within
    one_word Glance ok within may = one_glance
