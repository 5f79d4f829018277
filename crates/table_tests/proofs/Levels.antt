-- An addition goes from stage to stage at each of its levels.
use Rattle.std.proofs.Common.{◌≡◌, ◌≢◌, inl, inr, Bool, ℕ, zero, suc, ◌+◌, ◌-◌, ◌*◌, ◌/◌, ◌%◌, ◌≤◌, ◌<◌, ◌==◌, List, [], ◌∷◌, ◌++◌, refl, sym, ap, ◌∙◌, subst, arith}
use Rattle.std.specs.Prelude.{if◌then◌else◌}
use Rattle.std.proofs.lemmas.Bool.{eq-eqb, ne_eqb, lt-ltb, le-ltb, le-leb, lt-leb}
use Rattle.std.proofs.lemmas.Nat.{div-mul-add, mod-mul-add, mod_below}
use Rattle.std.proofs.Math.Nat.{mod-eq_of_lt}
use Rattle.running.proofs.Logs.{legal_begins}
use Rattle.fn_model.specs.declared.Kind.TheVariants.{Add}
use Rattle.fn_model.specs.declared.Kind.{Kind}
use Rattle.fn_model.specs.Integer.{after}
use Rattle.fn_rows.specs.declared.Field.{Field}
use Rattle.fn_rows.specs.declared.Field.TheVariants.{Lo, Base, Prev}
use Rattle.fn_rows.specs.declared.Stage.{Stage}
use Rattle.fn_rows.specs.declared.Stage.TheVariants.{Out, Saw, Told, Waiting, Lead, Late, Shut, Based, Headed, FilledLo, FilledBase, Filled, Pointed, At, Over, Hit, Got}
use Rattle.fn_rows.specs.Machine.{filled, looked, peeked}
use Rattle.fn_layout.specs.Tree.{aggregator, member}
use Rattle.fn_layout.specs.Words.{IsSlot, row_number, slot_number}
use Rattle.fn_layout.proofs.Read.{ReadsSlot, reads_slot}
use Rattle.fn_layout.proofs.Tree.{aggregator_below}
use Rattle.fn_core.specs.declared.Start.{Start}
use Rattle.fn_core.specs.declared.Move.{Move}
use Rattle.fn_core.specs.declared.Move.TheVariants.{See, Announce, Arrive, Look, Close, Apply, Head, Fill, Point, Publish, Peek, Leave}
use Rattle.fn_core.specs.declared.Position.{Position}
use Rattle.fn_core.specs.declared.Position.TheVariants.{Climbing}
use Rattle.fn_core.specs.State.{State, hi_of, lo_of, reply_of}
use Rattle.fn_core.specs.Machine.{local_row, no_cap, HasFreeRow, MayArrive, MaySee, MayPeek, MayPoint, Names, weight_of, word_of}
use Rattle.fn_core.specs.Words.{Own, link, fill_word, filled_word}
use Rattle.fn_core.specs.After.{own_after, put_level, in_stage, in_position, out_of, told_stage, looked_stage, closed_stage, based_stage, headed_stage, pointed_stage, published_stage, peeked_stage, arrived_own, based_own, filled_own, peeked_own, left_own, row_read}
use Rattle.fn_core.specs.Calls.{IsLegal, left_of, state_in}
use Rattle.fn_core.proofs.Public.{row_read-link, last_mine}
use Rattle.fn_table.specs.Funnel.{funnel}
use Rattle.fn_table.specs.Seen.{TableView, PassView, May, Stepped, own_of, event, with_log}
use Rattle.fn_table.specs.Standing.{IsNumbered}
use Rattle.fn_table.proofs.FunnelLaws.{logs_are_legal}
use Rattle.fn_table.proofs.States.{is_legal}
use Rattle.table_tests.specs.Levels.{AreClosed, Stands, StandsBelow, IsLast, HoldsRow, IsFirstRow, AreNew}

-- what is put for a level stands there, and leaves the others
put_same : {A : Type 0} (f : Kind → ℕ → A) (l : ℕ) (value : A) → put_level f Add l value Add l ≡ value
put_same f l value = ap (λ (b : Bool). if b then value else f Add l) (eq-eqb l l refl)

put_other : {A : Type 0} (f : Kind → ℕ → A) (l : ℕ) (value : A) (j : ℕ) → j ≢ l → put_level f Add l value Add j ≡ f Add j
put_other f l value j other = ap (λ (b : Bool). if b then value else f Add j) (ne_eqb j l other)

-- and so do the batches below
closed_put : (f : Kind → ℕ → Stage) (l : ℕ) (g : Stage) (level : ℕ) (under : List (ℕ × ℕ)) → level ≤ l → AreClosed (f Add) level under → AreClosed (put_level f Add l g Add) level under
closed_put f l g level [] low is = is
closed_put f l g level (batch ∷ under) low (lower, is, stage, closed) =
    let other : lower ≢ l = λ same. omega (arith, same, is, low) in
    (lower, is, put_other f l g lower other ∙ stage, closed_put f l g lower under (omega (arith, is, low)) closed)

closed_low : (f : ℕ → Stage) (level : ℕ) (under : List (ℕ × ℕ)) → AreClosed f level under → 1 ≤ level
closed_low f level [] is = omega (arith, is)
closed_low f level (batch ∷ under) (lower, is, stage, closed) = omega (arith, is)

-- what an arrival leaves
arrived_position : (pass level weight k : ℕ) (o : Own) → 1 ≤ level → (arrived_own pass Add level weight k o).caller.position ≡ o.caller.position
arrived_position pass zero weight k o low = absurd (omega (arith, low))
arrived_position pass (suc zero) weight k o low = refl
arrived_position pass (suc (suc below)) weight k o low = refl

arrived_stages : (pass level weight k : ℕ) (o : Own) → 1 ≤ level → (arrived_own pass Add level weight k o).stages ≡ put_level o.stages Add level (Waiting k)
arrived_stages pass zero weight k o low = absurd (omega (arith, low))
arrived_stages pass (suc zero) weight k o low = refl
arrived_stages pass (suc (suc below)) weight k o low = refl

-- a batch arrives above its level, and is seen there first
arrives_above : (start : Start) (s : State) (pass lower weight : ℕ) → 1 ≤ lower → weight ≡ weight_of start s pass Add lower → MayArrive start s pass Add (suc lower) weight
arrives_above start s pass zero weight low is = absurd (omega (arith, low))
arrives_above start s pass (suc below) weight low is = is

sees_above : (p : PassView) (lower at hi : ℕ) → 1 ≤ lower → suc lower ≤ p.seen.start.shape.levels → (own_of p).caller.position ≡ Climbing Add lower → (own_of p).stages Add lower ≡ Shut at hi → MaySee p.seen.start (state_in p.seen) p.number Add (suc lower)
sees_above p zero at hi low high climbs shut = absurd (omega (arith, low))
sees_above p (suc below) at hi low high climbs shut = (climbs, (at, hi, shut), high)

-- what a pass leaves that goes down a level
left_down : (cap lower : ℕ) (o : Own) → 1 ≤ lower → left_own cap Add (suc lower) o ≡ in_position (in_stage (out_of o Add (suc lower)) Add lower (based_stage (reply_of cap Add (o.stages Add (suc lower))) ((out_of o Add (suc lower)).stages Add lower))) (Climbing Add lower)
left_down cap zero o low = absurd (omega (arith, low))
left_down cap (suc below) o low = refl

-- what a look shows
pub waits_still : (at n : ℕ) → n < at → looked at n ≡ Waiting at
waits_still at n less = ap (λ (b : Bool). if b then Waiting at else (if at == n then Lead at else Late at)) (lt-ltb n at less)

pub leads_now : (at n : ℕ) → at ≡ n → looked at n ≡ Lead at
leads_now at n same =
    let more : at ≤ n = omega (arith, same) in
    ap (λ (b : Bool). if b then Waiting at else (if at == n then Lead at else Late at)) (le-ltb n at more) ∙ ap (λ (b : Bool). if b then Lead at else Late at) (eq-eqb at n same)

pub late_now : (at n : ℕ) → at < n → looked at n ≡ Late at
late_now at n less =
    let more : at ≤ n = omega (arith, less) in
    let other : at ≢ n = λ same. omega (arith, same, less) in
    ap (λ (b : Bool). if b then Waiting at else (if at == n then Lead at else Late at)) (le-ltb n at more) ∙ ap (λ (b : Bool). if b then Lead at else Late at) (ne_eqb at n other)

-- what is known of a pass that stands at a level
module _ (t : TableView) (n : ℕ) (p : PassView) (level : ℕ) (g : Stage) (under : List (ℕ × ℕ)) (a : Stands t n p level g under) where
  pub slot_here : IsSlot p.seen.start.shape p.number Add level
  slot_here = subst (λ (z : Start × ℕ). IsSlot z.0.shape z.1 Add level) (λ i. (sym a.together.1 i, sym a.named i)) a.slot

  pub inside : p.number < p.seen.start.shape.passes
  inside = slot_here.0

  pub local_is : (row : ℕ) → local_row p.seen.start.shape level p.number row ≡ local_row t.start.shape level n row
  local_is row = λ i. local_row (a.together.1 i).shape level (a.named i) row

  index_is : aggregator p.seen.start.shape p.number level ≡ aggregator t.start.shape n level
  index_is = λ i. aggregator (a.together.1 i).shape (a.named i) level

  own_row : (row : ℕ) → row ≡ row_number t.start.shape n Add level 0 → (0 < p.seen.start.shape.rows) × (row ≡ row_number p.seen.start.shape p.number Add level 0)
  own_row row mine = (omega (arith, p.seen.start.shape.rows_in_range), mine ∙ (λ i. row_number (sym a.together.1 i).shape (sym a.named i) Add level 0))

  -- the word that a fill stores
  pub word_filled : (field : Field) → fill_word p.seen.start (own_of p) p.number field (own_of p).caller.position ≡ filled_word t.start.shape Add level (aggregator t.start.shape n level) field g
  word_filled field =
      ap (λ (x : Position). fill_word p.seen.start (own_of p) p.number field x) a.climbs
      ∙ (λ i. filled_word (a.together.1 i).shape Add level (index_is i) field (a.stage i))

-- a step by which the call goes on at its level
module _ (t : TableView) (n : ℕ) (p q : PassView) (level k : ℕ) (under : List (ℕ × ℕ)) where
  at_next : (step : Move) (g next : Stage) → Stands t n p level g under → Stepped p step k q → (own_after p.seen.start p.number step k (own_of p)).caller.position ≡ Climbing Add level
      → (own_after p.seen.start p.number step k (own_of p)).stages ≡ put_level (own_of p).stages Add level next → Stands t n q level next under
  at_next step g next a s climbs stages =
      let same : (own_of q).stages ≡ put_level (own_of p).stages Add level next = ap (λ (o : Own). o.stages) s.own ∙ stages in
      let low : level ≤ level = omega arith in record {
        together = (ap (λ (x : PassView). x.table) s.now ∙ a.together.0, ap (λ (x : PassView). x.seen.start) s.now ∙ a.together.1);
        named = ap (λ (x : PassView). x.number) s.now ∙ a.named;
        slot = a.slot;
        climbs = ap (λ (o : Own). o.caller.position) s.own ∙ climbs;
        stage = ap (λ (f : Kind → ℕ → Stage). f Add level) same ∙ put_same (own_of p).stages level next;
        closed = subst (λ (f : Kind → ℕ → Stage). AreClosed (f Add) level under) (sym same) (closed_put (own_of p).stages level next level under low a.closed);
      }

  pub at_told : (seen : ℕ) → Stands t n p level (Saw seen) under → Stepped p (Announce Add level) k q → Stands t n q level (Told seen) under
  at_told seen a s = at_next (Announce Add level) (Saw seen) (Told seen) a s a.climbs (ap (λ (g : Stage). put_level (own_of p).stages Add level (told_stage g)) a.stage)

  pub at_waiting : (seen weight : ℕ) → Stands t n p level (Told seen) under → Stepped p (Arrive Add level weight) k q → Stands t n q level (Waiting k) under
  at_waiting seen weight a s =
      let low : 1 ≤ level = a.slot.2.0 in
      at_next (Arrive Add level weight) (Told seen) (Waiting k) a s (arrived_position p.number level weight k (own_of p) low ∙ a.climbs) (arrived_stages p.number level weight k (own_of p) low)

  pub at_looked : (at : ℕ) (next : Stage) → looked at k ≡ next → Stands t n p level (Waiting at) under → Stepped p (Look Add level) k q → Stands t n q level next under
  at_looked at next is a s =
      at_next (Look Add level) (Waiting at) next a s a.climbs (ap (λ (g : Stage). put_level (own_of p).stages Add level (looked_stage k g)) a.stage ∙ ap (put_level (own_of p).stages Add level) is)

  pub at_shut : (at : ℕ) → Stands t n p level (Lead at) under → Stepped p (Close Add level) k q → Stands t n q level (Shut at k) under
  at_shut at a s = at_next (Close Add level) (Lead at) (Shut at k) a s a.climbs (ap (λ (g : Stage). put_level (own_of p).stages Add level (closed_stage k g)) a.stage)

  pub at_based : (at hi weight : ℕ) → Stands t n p level (Shut at hi) under → Stepped p (Apply weight) k q → Stands t n q level (Based at hi k) under
  at_based at hi weight a s =
      at_next (Apply weight) (Shut at hi) (Based at hi k) a s
      (ap (λ (x : Position). (based_own k (own_of p) x).caller.position) a.climbs ∙ a.climbs)
      (ap (λ (x : Position). (based_own k (own_of p) x).stages) a.climbs ∙ ap (λ (g : Stage). put_level (own_of p).stages Add level (based_stage k g)) a.stage)

  pub at_headed : (at hi b : ℕ) → Stands t n p level (Based at hi b) under → Stepped p (Head Add level) k q → Stands t n q level (Headed at hi b (row_read t.start.shape k)) under
  at_headed at hi b a s =
      at_next (Head Add level) (Based at hi b) (Headed at hi b (row_read t.start.shape k)) a s a.climbs
      (λ i. put_level (own_of p).stages Add level (headed_stage (row_read (a.together.1 i).shape k) (a.stage i)))

  pub at_first : (at : ℕ) → Stands t n p level (Late at) under → Stepped p (Head Add level) k q → Stands t n q level (At at (row_read t.start.shape k - 1)) under
  at_first at a s =
      at_next (Head Add level) (Late at) (At at (row_read t.start.shape k - 1)) a s a.climbs
      (λ i. put_level (own_of p).stages Add level (headed_stage (row_read (a.together.1 i).shape k) (a.stage i)))

  pub at_filled : (row : ℕ) (field : Field) (g : Stage) → Stands t n p level g under → Stepped p (Fill row field) k q → Stands t n q level (filled (local_row t.start.shape level n row) g) under
  at_filled row field g a s =
      at_next (Fill row field) g (filled (local_row t.start.shape level n row) g) a s
      (ap (λ (x : Position). (filled_own p.seen.start.shape p.number row (own_of p) x).caller.position) a.climbs ∙ a.climbs)
      (ap (λ (x : Position). (filled_own p.seen.start.shape p.number row (own_of p) x).stages) a.climbs
      ∙ (λ i. put_level (own_of p).stages Add level (filled (local_is t n p level g under a row i) (a.stage i))))

  pub at_pointed : (at hi b r row : ℕ) → Stands t n p level (Filled at hi b r) under → Stepped p (Point Add level row) k q → Stands t n q level (Pointed at hi b r) under
  at_pointed at hi b r row a s = at_next (Point Add level row) (Filled at hi b r) (Pointed at hi b r) a s a.climbs (ap (λ (g : Stage). put_level (own_of p).stages Add level (pointed_stage g)) a.stage)

  pub at_got : (at hi b r : ℕ) → Stands t n p level (Pointed at hi b r) under → Stepped p (Publish Add level) k q → Stands t n q level (Got b 0) under
  at_got at hi b r a s = at_next (Publish Add level) (Pointed at hi b r) (Got b 0) a s a.climbs (ap (λ (g : Stage). put_level (own_of p).stages Add level (published_stage g)) a.stage)

  pub at_peeked : (row : ℕ) (field : Field) (g next : Stage) → peeked_stage k (row_read t.start.shape k) g ≡ next → Stands t n p level g under → Stepped p (Peek row field) k q → Stands t n q level next under
  at_peeked row field g next is a s =
      at_next (Peek row field) g next a s
      (ap (λ (x : Position). (peeked_own p.seen.start k (own_of p) x).caller.position) a.climbs ∙ a.climbs)
      (ap (λ (x : Position). (peeked_own p.seen.start k (own_of p) x).stages) a.climbs
      ∙ (λ i. put_level (own_of p).stages Add level (peeked_stage k (row_read (a.together.1 i).shape k) (a.stage i)))
      ∙ ap (put_level (own_of p).stages Add level) is)

-- what an addition at a level may do next
module _ (t : TableView) (n : ℕ) (p : PassView) (level : ℕ) (under : List (ℕ × ℕ)) where
  pub may_announce : (seen : ℕ) → Stands t n p level (Saw seen) under → May p (Announce Add level)
  may_announce seen a = (inside t n p level (Saw seen) under a, (a.climbs, (seen, a.stage)))

  pub may_look : (at : ℕ) → Stands t n p level (Waiting at) under → May p (Look Add level)
  may_look at a = (inside t n p level (Waiting at) under a, (a.climbs, (at, a.stage)))

  pub may_close : (at : ℕ) → Stands t n p level (Lead at) under → May p (Close Add level)
  may_close at a = (inside t n p level (Lead at) under a, (a.climbs, (at, a.stage)))

  pub may_apply : (at hi weight : ℕ) → level ≡ t.start.shape.levels → t.start.cap ≡ no_cap → weight ≡ hi - at → Stands t n p level (Shut at hi) under → May p (Apply weight)
  may_apply at hi weight top cap is a =
      (inside t n p level (Shut at hi) under a, (level, a.climbs, (top ∙ sym (ap (λ (b : Start). b.shape.levels) a.together.1), (at, hi, a.stage)), ap (λ (b : Start). b.cap) a.together.1 ∙ cap, is ∙ sym (ap (λ (g : Stage). hi_of g - lo_of g) a.stage)))

  pub may_head : (at hi b : ℕ) → Stands t n p level (Based at hi b) under → May p (Head Add level)
  may_head at hi b a = (inside t n p level (Based at hi b) under a, (a.climbs, inl (at, hi, b, a.stage)))

  pub may_head_late : (at : ℕ) → Stands t n p level (Late at) under → May p (Head Add level)
  may_head_late at a = (inside t n p level (Late at) under a, (a.climbs, inr (at, a.stage)))

  pub may_leave : (b ahead : ℕ) → Stands t n p level (Got b ahead) under → May p (Leave Add level)
  may_leave b ahead a = (inside t n p level (Got b ahead) under a, (a.climbs, (b, ahead, a.stage)))

  pub may_publish : (at hi b r : ℕ) → Stands t n p level (Pointed at hi b r) under → May p (Publish Add level)
  may_publish at hi b r a = (inside t n p level (Pointed at hi b r) under a, (a.climbs, (at, hi, b, r, a.stage)))

  module _ (row : ℕ) (mine : row ≡ row_number t.start.shape n Add level 0) where
    abbrev r : ℕ
    r = local_row t.start.shape level n row

    -- the pass's first row is its first at its aggregator too
    first_row : (own_of p).ends Add level 0 ≡ 0 → (g : Stage) → Stands t n p level g under → (own_of p).ends Add level row ≡ 0
    first_row unused g a =
        let shape = p.seen.start.shape in
        let some : 0 < shape.rows = omega (arith, shape.rows_in_range) in
        let read : row % shape.rows ≡ 0 = ap (λ (x : ℕ). x % shape.rows) (own_row t n p level g under a row mine).1 ∙ mod-mul-add (slot_number shape p.number Add level) shape.rows 0 some in
        let zeroth : 0 % shape.rows ≡ 0 = mod-eq_of_lt some in
        ap (λ (x : ℕ). ((state_in p.seen).rows Add level (aggregator shape p.number level)).end (member shape level p.number * shape.rows + x)) (read ∙ sym zeroth) ∙ unused

    row_of_member : local_row p.seen.start.shape level p.number row / p.seen.start.shape.rows ≡ member p.seen.start.shape level p.number
    row_of_member = let shape = p.seen.start.shape in div-mul-add (member shape level p.number) shape.rows (row % shape.rows) (mod_below row shape.rows (omega (arith, shape.rows_in_range)))

    pub may_fill_lo : (at hi b h : ℕ) → (own_of p).ends Add level 0 ≡ 0 → Stands t n p level (Headed at hi b h) under → May p (Fill row Lo)
    may_fill_lo at hi b h unused a =
        let g : Stage = Headed at hi b h in
        (inside t n p level g under a, (Add, level, 0, (a.climbs, (at, hi, b, h, a.stage, row_of_member, inl (first_row unused g a), ap (word_of Lo) a.stage)), own_row t n p level g under a row mine))

    pub may_fill_base : (at hi b h : ℕ) → Stands t n p level (FilledLo at hi b h r) under → May p (Fill row Base)
    may_fill_base at hi b h a =
        let g : Stage = FilledLo at hi b h r in
        let here = a.stage ∙ ap (FilledLo at hi b h) (sym (local_is t n p level g under a row)) in
        (inside t n p level g under a, (Add, level, 0, (a.climbs, (at, hi, b, h, here, ap (word_of Base) a.stage)), own_row t n p level g under a row mine))

    pub may_fill_prev : (at hi b h : ℕ) → Stands t n p level (FilledBase at hi b h r) under → May p (Fill row Prev)
    may_fill_prev at hi b h a =
        let g : Stage = FilledBase at hi b h r in
        let here = a.stage ∙ ap (FilledBase at hi b h) (sym (local_is t n p level g under a row)) in
        (inside t n p level g under a, (Add, level, 0, (a.climbs, (at, hi, b, h, here, ap (word_of Prev) a.stage)), own_row t n p level g under a row mine))

    pub may_point : (at hi b : ℕ) → Stands t n p level (Filled at hi b r) under → May p (Point Add level row)
    may_point at hi b a =
        let g : Stage = Filled at hi b r in
        (inside t n p level g under a, ((a.climbs, (at, hi, b, r, a.stage)), 0, own_row t n p level g under a row mine, subst (λ (x : Stage). MayPoint (local_row p.seen.start.shape level p.number row) x) (sym a.stage) (local_is t n p level g under a row)))

-- an addition begins at its leaf
module _ (t : TableView) (n : ℕ) (p q : PassView) (rests : IsNumbered t p n) (within : p.number < p.seen.start.shape.passes) where
  pub may_begin : AreNew p → May p (See Add 1)
  may_begin new =
      let free : (level : ℕ) → 1 ≤ level → level ≤ p.seen.start.shape.levels → HasFreeRow p.seen.start (state_in p.seen) Add level p.number =
      λ level low high. let shape = p.seen.start.shape in
      (member shape level p.number * shape.rows + 0 % shape.rows, div-mul-add (member shape level p.number) shape.rows (0 % shape.rows) (mod_below 0 shape.rows (omega (arith, shape.rows_in_range))), inl (new level low high)) in
      (within, (rests.idle, inl refl, free))

  pub at_saw_leaf : (k : ℕ) → Stepped p (See Add 1) k q → Stands t n q 1 (Saw k) []
  at_saw_leaf k s =
      let high : 1 ≤ t.start.shape.levels = omega (arith, t.start.shape.levels_in_range) in
      let low : 1 ≤ 1 = omega arith in record {
        together = (ap (λ (x : PassView). x.table) s.now ∙ rests.together.0, ap (λ (x : PassView). x.seen.start) s.now ∙ rests.together.1);
        named = ap (λ (x : PassView). x.number) s.now ∙ rests.named;
        slot = (subst (λ (z : Start × ℕ). z.1 < z.0.shape.passes) (λ i. (rests.together.1 i, rests.named i)) within, (λ e. cc), (low, high));
        climbs = ap (λ (o : Own). o.caller.position) s.own;
        stage = ap (λ (o : Own). o.stages Add 1) s.own;
        closed = refl;
      }

pub may_arrive_leaf : (t : TableView) (n : ℕ) (p : PassView) (seen weight : ℕ) → 1 ≤ weight → weight ≤ left_of p.seen p.number → Stands t n p 1 (Told seen) [] → May p (Arrive Add 1 weight)
may_arrive_leaf t n p seen weight some most a = (inside t n p 1 (Told seen) [] a, ((a.climbs, (seen, a.stage, omega (arith, some))), (some, most)))

-- .. and goes up by its batch
closed_below : (t : TableView) (n : ℕ) (p : PassView) (level : ℕ) (batch : ℕ × ℕ) (under : List (ℕ × ℕ)) → 2 ≤ level → StandsBelow t n p level (Shut batch.0 batch.1) under → IsLast under batch
    → (rest : List (ℕ × ℕ)) × (under ≡ batch ∷ rest) × (level ≡ suc (level - 1)) × Stands t n p (level - 1) (Shut batch.0 batch.1) rest
closed_below t n p level batch [] high a last = absurd last
closed_below t n p level batch (first ∷ rest) high a last = (rest, ap (λ (b : ℕ × ℕ). b ∷ rest) last, omega (arith, high), a)

module _ (t : TableView) (n : ℕ) (p q : PassView) (level : ℕ) (batch : ℕ × ℕ) (under : List (ℕ × ℕ)) where
  pub may_rise : 2 ≤ level → level ≤ t.start.shape.levels → StandsBelow t n p level (Shut batch.0 batch.1) under → IsLast under batch → May p (See Add level)
  may_rise high within shut last =
      let b = closed_below t n p level batch under high shut last in
      let a = b.3 in
      let fits : suc (level - 1) ≤ p.seen.start.shape.levels = omega (arith, high, within, ap (λ (x : Start). x.shape.levels) a.together.1) in
      (inside t n p (level - 1) (Shut batch.0 batch.1) b.0 a, subst (λ (l : ℕ). MaySee p.seen.start (state_in p.seen) p.number Add l) (sym b.2) (sees_above p (level - 1) batch.0 batch.1 (omega (arith, high)) fits a.climbs a.stage))

  pub at_saw : (k : ℕ) → 2 ≤ level → level ≤ t.start.shape.levels → StandsBelow t n p level (Shut batch.0 batch.1) under → IsLast under batch → Stepped p (See Add level) k q → Stands t n q level (Saw k) under
  at_saw k high within shut last s =
      let b = closed_below t n p level batch under high shut last in
      let a = b.3 in
      let low : 1 ≤ level = omega (arith, high) in
      let less : level - 1 ≤ level = omega arith in
      let other : (level - 1) ≢ level = λ same. omega (arith, same, high) in
      let stages : (own_of q).stages ≡ put_level (own_of p).stages Add level (Saw k) = ap (λ (o : Own). o.stages) s.own in
      let kept : AreClosed (put_level (own_of p).stages Add level (Saw k) Add) level (batch ∷ b.0) =
      (level - 1, b.2, put_other (own_of p).stages level (Saw k) (level - 1) other ∙ a.stage, closed_put (own_of p).stages level (Saw k) (level - 1) b.0 less a.closed) in record {
        together = (ap (λ (x : PassView). x.table) s.now ∙ a.together.0, ap (λ (x : PassView). x.seen.start) s.now ∙ a.together.1);
        named = ap (λ (x : PassView). x.number) s.now ∙ a.named;
        slot = (a.slot.0, a.slot.1, (low, within));
        climbs = ap (λ (o : Own). o.caller.position) s.own;
        stage = ap (λ (f : Kind → ℕ → Stage). f Add level) stages ∙ put_same (own_of p).stages level (Saw k);
        closed = subst (λ (z : (Kind → ℕ → Stage) × List (ℕ × ℕ)). AreClosed (z.0 Add) level z.1) (λ i. (sym stages i, sym b.1 i)) kept;
      }

  pub may_arrive : (seen weight : ℕ) → 2 ≤ level → 1 ≤ weight → weight ≡ batch.1 - batch.0 → IsLast under batch → Stands t n p level (Told seen) under → May p (Arrive Add level weight)
  may_arrive seen weight high some is last a = (inside t n p level (Told seen) under a, ((a.climbs, (seen, a.stage, omega (arith, some))), carried under last a.closed))
    where
      carried : (held : List (ℕ × ℕ)) → IsLast held batch → AreClosed ((own_of p).stages Add) level held → MayArrive p.seen.start (state_in p.seen) p.number Add level weight
      carried [] last closed = absurd last
      carried (first ∷ rest) last (lower, up, stage, closed) =
          let shut : (own_of p).stages Add lower ≡ Shut batch.0 batch.1 = stage ∙ ap (λ (b : ℕ × ℕ). Shut b.0 b.1) last in
          subst (λ (l : ℕ). MayArrive p.seen.start (state_in p.seen) p.number Add l weight) (sym up)
          (arrives_above p.seen.start (state_in p.seen) p.number lower weight (omega (arith, up, high)) (is ∙ sym (ap (λ (g : Stage). hi_of g - lo_of g) shut)))

  -- .. and down, with the base of its batch
  pub at_down : (k base ahead reply : ℕ) → reply ≡ after t.start.cap base Add ahead → IsLast under batch → Stands t n p level (Got base ahead) under → Stepped p (Leave Add level) k q → StandsBelow t n q level (Based batch.0 batch.1 reply) under
  at_down k base ahead reply told last a s = down under last a.closed
    where
      down : (held : List (ℕ × ℕ)) → IsLast held batch → AreClosed ((own_of p).stages Add) level held → StandsBelow t n q level (Based batch.0 batch.1 reply) held
      down [] last closed = absurd last
      down (first ∷ rest) last (lower, up, stage, closed) =
          let low : 1 ≤ lower = closed_low ((own_of p).stages Add) lower rest closed in
          let o : Own = own_of p in
          let below : level - 1 ≡ lower = omega (arith, up) in
          let other : lower ≢ level = λ same. omega (arith, same, up) in
          let less : lower ≤ level = omega (arith, up) in
          let out : Own = out_of o Add level in
          let own : own_of q ≡ in_position (in_stage out Add lower (based_stage (reply_of p.seen.start.cap Add (o.stages Add level)) (out.stages Add lower))) (Climbing Add lower) =
          s.own ∙ ap (λ (l : ℕ). left_own p.seen.start.cap Add l o) up ∙ left_down p.seen.start.cap lower o low
          ∙ ap (λ (l : ℕ). in_position (in_stage (out_of o Add l) Add lower (based_stage (reply_of p.seen.start.cap Add (o.stages Add l)) ((out_of o Add l).stages Add lower))) (Climbing Add lower)) (sym up) in
          let met : reply_of p.seen.start.cap Add (o.stages Add level) ≡ reply = ap (reply_of p.seen.start.cap Add) a.stage ∙ ap (λ (b : Start). after b.cap base Add ahead) a.together.1 ∙ sym told in
          let shut : out.stages Add lower ≡ Shut batch.0 batch.1 = put_other o.stages level Out lower other ∙ stage ∙ ap (λ (b : ℕ × ℕ). Shut b.0 b.1) last in
          let next : Stage = Based batch.0 batch.1 reply in
          let stages : (own_of q).stages ≡ put_level out.stages Add lower next = ap (λ (x : Own). x.stages) own ∙ (λ i. put_level out.stages Add lower (based_stage (met i) (shut i))) in
          let reach : lower ≤ t.start.shape.levels = omega (arith, less, a.slot.2.1) in
          let same : lower ≤ lower = omega arith in
          let done : Stands t n q lower next rest = record {
            together = (ap (λ (x : PassView). x.table) s.now ∙ a.together.0, ap (λ (x : PassView). x.seen.start) s.now ∙ a.together.1);
            named = ap (λ (x : PassView). x.number) s.now ∙ a.named;
            slot = (a.slot.0, a.slot.1, (low, reach));
            climbs = ap (λ (x : Own). x.caller.position) own;
            stage = ap (λ (f : Kind → ℕ → Stage). f Add lower) stages ∙ put_same out.stages lower next;
            closed = subst (λ (f : Kind → ℕ → Stage). AreClosed (f Add) lower rest) (sym stages) (closed_put out.stages lower next lower rest same (closed_put o.stages level Out lower rest less closed));
          } in
          subst (λ (l : ℕ). Stands t n q l next rest) (sym below) done

-- .. until it ends at its leaf
pub at_rest : (t : TableView) (n : ℕ) (p q : PassView) (k b ahead : ℕ) → Stands t n p 1 (Got b ahead) [] → Stepped p (Leave Add 1) k q → IsNumbered t q n
at_rest t n p q k b ahead a s = record {
  together = (ap (λ (x : PassView). x.table) s.now ∙ a.together.0, ap (λ (x : PassView). x.seen.start) s.now ∙ a.together.1);
  named = ap (λ (x : PassView). x.number) s.now ∙ a.named;
  idle = ap (λ (o : Own). o.caller.position) s.own;
}

-- the word that Head found names the row which it is read as
pub head_links : (t : TableView) (n : ℕ) (p q : PassView) (level k : ℕ) (g : Stage) (under : List (ℕ × ℕ)) → Stands t n p level g under → Stepped p (Head Add level) k q
    → link t.start.shape Add level (aggregator t.start.shape n level) (row_read t.start.shape k) ≡ k
head_links t n p q level k g under a s =
    let start = p.seen.start in
    let index : ℕ = aggregator start.shape p.number level in
    let now : IsLegal (record { start = start; log = s.before ++ event p.number (Head Add level) ∷ [] }) = subst (λ (x : PassView). IsLegal x.seen) s.now s.legal in
    let before = (logs_are_legal start s.before (legal_begins funnel start s.before (event p.number (Head Add level) ∷ []) (is_legal start (s.before ++ event p.number (Head Add level) ∷ []) now.0 now.1))).0 in
    let last : ℕ = ((state_in (with_log p s.before)).rows Add level index).last in
    let here = slot_here t n p level g under a in
    let read : row_read start.shape (link start.shape Add level index last) ≡ last = row_read-link start.shape Add level index here.1 here.2 (aggregator_below start.shape p.number level) last (last_mine start s.before now.0 before p.number Add level) in
    (λ i. link (sym a.together.1 i).shape Add level (aggregator (sym a.together.1 i).shape (sym a.named i) level) (row_read (sym a.together.1 i).shape k))
    ∙ ap (λ (x : ℕ). link start.shape Add level index (row_read start.shape x)) s.answer ∙ ap (link start.shape Add level index) read ∙ sym s.answer

-- the word that names the first row of a pass names it at its aggregator
names_first : (t : TableView) (n level owner row k : ℕ) → IsSlot t.start.shape n Add level → IsFirstRow t n level owner row → k ≡ row + 1
    → Names t.start.shape Add level (aggregator t.start.shape n level) (row_number t.start.shape owner Add level 0) (row_read t.start.shape k - 1)
names_first t n level owner row k here first next =
    let shape = t.start.shape in
    let some : 0 < shape.rows = omega (arith, shape.rows_in_range) in
    let number : ℕ = row_number shape owner Add level 0 in
    let slot : ℕ = slot_number shape owner Add level in
    let same : k ≡ suc number = omega (arith, next, first.1) in
    let whole : number / shape.rows ≡ slot = div-mul-add slot shape.rows 0 some in
    let read : ReadsSlot shape owner Add level slot = reads_slot shape owner Add level here.1 here.2 in
    let found : row_read shape k ≡ suc (local_row shape level owner number) =
    ap (row_read shape) same
    ∙ ap (λ (x : ℕ). suc (local_row shape (suc (x % shape.levels)) (x / shape.levels / 2) number)) whole
    ∙ ap (λ (x : ℕ). suc (local_row shape x (slot / shape.levels / 2) number)) read.of_level
    ∙ ap (λ (x : ℕ). suc (local_row shape level x number)) read.of_pass in
    (owner, 0, first.0, (some, refl), omega (arith, found))

-- a late call walks along rows, each the first of its pass
module _ (t : TableView) (n : ℕ) (p q : PassView) (level at owner row k : ℕ) (under : List (ℕ × ℕ)) (first : IsFirstRow t n level owner row) where
  pub holds_first : k ≡ row + 1 → Stands t n p level (Late at) under → Stepped p (Head Add level) k q → HoldsRow t n q level (At at) owner under
  holds_first next a s = record { row = row_read t.start.shape k - 1; slot = a.slot; stands = at_first t n p q level k under at a s; names = names_first t n level owner row k a.slot first next }

  names_here : (g : ℕ → Stage) (h : HoldsRow t n p level g owner under) → Names p.seen.start.shape Add level (aggregator p.seen.start.shape p.number level) row h.row
  names_here g h =
      subst (λ (z : Start × ℕ). Names z.0.shape Add level (aggregator z.0.shape z.1 level) row h.row) (λ i. (sym h.stands.together.1 i, sym h.stands.named i))
      (subst (λ (x : ℕ). Names t.start.shape Add level (aggregator t.start.shape n level) x h.row) (sym first.1) h.names)

  pub may_peek_lo : HoldsRow t n p level (At at) owner under → May p (Peek row Lo)
  may_peek_lo h =
      let a = h.stands in
      let g : Stage = At at h.row in
      (inside t n p level g under a, (Add, level, (a.climbs, inl (at, h.row, a.stage)), subst (λ (x : Stage). MayPeek p.seen.start Add level (aggregator p.seen.start.shape p.number level) x row Lo) (sym a.stage) (names_here (At at) h)))

  pub may_peek_prev : HoldsRow t n p level (Over at) owner under → May p (Peek row Prev)
  may_peek_prev h =
      let a = h.stands in
      let g : Stage = Over at h.row in
      (inside t n p level g under a, (Add, level, (a.climbs, inr (inl (at, h.row, a.stage))), subst (λ (x : Stage). MayPeek p.seen.start Add level (aggregator p.seen.start.shape p.number level) x row Prev) (sym a.stage) (names_here (Over at) h)))

  pub may_peek_base : (lo : ℕ) → HoldsRow t n p level (λ r. Hit at r lo) owner under → May p (Peek row Base)
  may_peek_base lo h =
      let a = h.stands in
      let g : Stage = Hit at h.row lo in
      (inside t n p level g under a, (Add, level, (a.climbs, inr (inr (at, h.row, lo, a.stage))), subst (λ (x : Stage). MayPeek p.seen.start Add level (aggregator p.seen.start.shape p.number level) x row Base) (sym a.stage) (names_here (λ r. Hit at r lo) h)))

  pub at_hit : k ≤ at → HoldsRow t n p level (At at) owner under → Stepped p (Peek row Lo) k q → HoldsRow t n q level (λ r. Hit at r k) owner under
  at_hit less h s =
      let is : peeked at h.row k ≡ Hit at h.row k = ap (λ (b : Bool). if b then Hit at h.row k else Over at h.row) (le-leb k at less) in
      record { row = h.row; slot = h.slot; stands = at_peeked t n p q level k under row Lo (At at h.row) (Hit at h.row k) is h.stands s; names = h.names }

  pub at_over : at < k → HoldsRow t n p level (At at) owner under → Stepped p (Peek row Lo) k q → HoldsRow t n q level (Over at) owner under
  at_over less h s =
      let is : peeked at h.row k ≡ Over at h.row = ap (λ (b : Bool). if b then Hit at h.row k else Over at h.row) (lt-leb k at less) in
      record { row = h.row; slot = h.slot; stands = at_peeked t n p q level k under row Lo (At at h.row) (Over at h.row) is h.stands s; names = h.names }

  pub at_before : (next before : ℕ) → IsFirstRow t n level next before → k ≡ before + 1 → HoldsRow t n p level (Over at) owner under → Stepped p (Peek row Prev) k q → HoldsRow t n q level (At at) next under
  at_before next before its is h s =
      record { row = row_read t.start.shape k - 1; slot = h.slot; stands = at_peeked t n p q level k under row Prev (Over at h.row) (At at (row_read t.start.shape k - 1)) refl h.stands s; names = names_first t n level next before k h.stands.slot its is }

  pub at_met : (lo ahead : ℕ) → ahead ≡ at - lo → HoldsRow t n p level (λ r. Hit at r lo) owner under → Stepped p (Peek row Base) k q → Stands t n q level (Got k ahead) under
  at_met lo ahead is h s = at_peeked t n p q level k under row Base (Hit at h.row lo) (Got k ahead) (ap (Got k) (sym is)) h.stands s
