-- After every legal log, each step tells its pass what it is then.
use Rattle.std.proofs.Common.{◌≡◌, ℕ, zero, suc, ◌+◌, ◌-◌, ◌*◌, ◌/◌, ◌%◌, ◌<◌, List, [], ◌∷◌, refl, sym, ap, subst, ◌∙◌, arith}
use Rattle.std.specs.Prelude.{Some}
use Rattle.std.proofs.lemmas.Nat.{div-mul-add, mod-mul-add, mod_below}
use Rattle.fn_model.specs.declared.Kind.{Kind}
use Rattle.fn_model.specs.declared.Kind.TheVariants.{Add, Read}
use Rattle.fn_rows.specs.declared.Field.{Field}
use Rattle.fn_rows.specs.declared.Field.TheVariants.{Lo, Base, Prev}
use Rattle.fn_rows.specs.declared.Stage.{Stage}
use Rattle.fn_rows.specs.declared.Stage.TheVariants.{Out, Saw, Told, Waiting, Lead, Late, Shut, Based, Headed, FilledLo, FilledBase, Filled, Pointed, At, Over, Hit, Got}
use Rattle.fn_rows.specs.Machine.{offset, peek_by, peeked}
use Rattle.fn_rows.specs.Machine as step
use Rattle.fn_rows.specs.Aggregator.{asked}
use Rattle.fn_rows.specs.Trace.{Batch, Traced}
use Rattle.fn_rows.specs.Law.{IsIn}
use Rattle.fn_rows.proofs.Invariant.{Inv, Calm}
use Rattle.fn_rows.proofs.Put.{put_here}
use Rattle.fn_layout.specs.Kinds.{IsFunnelled}
use Rattle.fn_layout.specs.Tree.{aggregator, member, members, pass_of, IsLevel}
use Rattle.fn_layout.specs.Words.{RowWord, IsNamed, IsSlot, IsAggregator, slot_number, row_name}
use Rattle.fn_layout.proofs.Tree.{aggregator_below}
use Rattle.fn_layout.proofs.Members.{numbers_are_members, member_apart}
use Rattle.fn_layout.proofs.Read.{row_name-number}
use Rattle.fn_core.specs.declared.Purpose.TheVariants as purpose
use Rattle.fn_core.specs.declared.Event.{Event}
use Rattle.fn_core.specs.declared.Start.{Start}
use Rattle.fn_core.specs.declared.Move.{Move}
use Rattle.fn_core.specs.declared.Move.TheVariants.{Scan, See, Announce, Arrive, Look, Close, Apply, Head, Fill, Point, Publish, Peek, Leave, Load, Exchange, Direct, Glance}
use Rattle.fn_core.specs.State.{State, Position, Climbing, opened, stage}
use Rattle.fn_core.specs.Machine.{Names, MayPeek, May, IsStart, Legal, run, moves, place, peeked_by}
use Rattle.fn_core.specs.Words.{own, word, row_word, name_of, IsPlaced, NamesMine}
use Rattle.fn_core.specs.After.{peeked_own, row_read, peeked_stage, GoesOn, StepsTell, WordsAreFound}
use Rattle.fn_core.proofs.Laws.{holds}
use Rattle.fn_core.proofs.After.{turns}
use Rattle.fn_core.proofs.GoesOn.{on_scan, on_see, on_announce, on_arrive, on_look, on_close, on_apply, on_head, on_fill, on_point, on_publish, on_leave, on_try, on_exchange, makes_own}
use Rattle.fn_core.proofs.Linked.{row_read-link, link_mine, prev_mine, linked_owned}
use Rattle.fn_core.proofs.Others.{IsTidy, passes, tidy_opened, funnelled}
use Rattle.fn_core.proofs.Homes.{word_found}

module _ (start : Start) (s : State) (pass : ℕ) (kind : Kind) (level : ℕ) (f : IsFunnelled kind) (l : IsLevel start.shape level) where
  abbrev there : step.State
  there = (place start s kind level pass).state

  abbrev index : ℕ
  index = aggregator start.shape pass level

  -- the word of a row in hand
  pub peek_word : (row r : ℕ) (field : Field) → Names start.shape kind level index row r → word start s (row_name start.shape row field) ≡ row_word start.shape kind level index there r field
  peek_word row r field (p, n, same, of_pass, number) =
      let shape = start.shape in
      let m : ℕ = member shape level p in
      let rest : row % shape.rows ≡ n = ap (λ (x : ℕ). x % shape.rows) of_pass.1 ∙ mod-mul-add (slot_number shape p kind level) shape.rows n of_pass.0 in
      ap (word start s) (ap (λ (x : ℕ). row_name shape x field) of_pass.1 ∙ row_name-number shape p kind level n field f l of_pass.0)
      ∙ ap (λ (x : ℕ). row_word shape kind level x (s.rows kind level x).state (m * shape.rows + n) field) same
      ∙ ap (λ (x : ℕ). row_word shape kind level index there x field) (ap (λ (x : ℕ). m * shape.rows + x) (sym rest) ∙ sym number)

  -- what a Peek leaves of its member
  Peeks : ℕ → Field → Stage → Type 0
  Peeks row field g =
      let n = word start s (row_name start.shape row field) in
      let t = peek_by there (member start.shape level pass) g in
      (t.stage (member start.shape level pass) ≡ peeked_stage n (row_read start.shape n) g)
      × ((q : ℕ) → t.found (member start.shape level pass) q ≡ there.found (member start.shape level pass) q) × ((r : ℕ) → t.end r ≡ there.end r)

  peek_facts : (row : ℕ) (field : Field) (g : Stage) → MayPeek start kind level index g row field → ((at r : ℕ) → g ≡ Over at r → NamesMine start.shape level index (there.prev r)) → Peeks row field g
  unfolding Peeks
  peek_facts row Lo (At at r) h prev =
      (put_here there.stage (member start.shape level pass) (peeked at r (there.lo r)) (member start.shape level pass) refl ∙ ap (peeked at r) (sym (peek_word row r Lo h)), (λ q. refl), (λ x. refl))
  peek_facts row Prev (Over at r) h prev = (
    put_here there.stage (member start.shape level pass) (At at (there.prev r - 1)) (member start.shape level pass) refl
        ∙ ap (λ (x : ℕ). At at (x - 1)) (sym (row_read-link start.shape kind level index f l (aggregator_below start.shape pass level) (there.prev r) (prev at r refl)) ∙ ap (row_read start.shape) (sym (peek_word row r Prev h))),
    (λ q. refl),
    (λ x. refl),
  )
  peek_facts row Base (Hit at r lo) h prev =
      (put_here there.stage (member start.shape level pass) (Got (there.base r) (at - lo)) (member start.shape level pass) refl ∙ ap (λ (x : ℕ). Got x (at - lo)) (sym (peek_word row r Base h)), (λ q. refl), (λ x. refl))
  peek_facts row Base (At at r) h prev = absurd h
  peek_facts row Prev (At at r) h prev = absurd h
  peek_facts row Lo (Over at r) h prev = absurd h
  peek_facts row Base (Over at r) h prev = absurd h
  peek_facts row Lo (Hit at r lo) h prev = absurd h
  peek_facts row Prev (Hit at r lo) h prev = absurd h
  peek_facts row field Out h prev = absurd h
  peek_facts row field (Saw seen) h prev = absurd h
  peek_facts row field (Told seen) h prev = absurd h
  peek_facts row field (Waiting at) h prev = absurd h
  peek_facts row field (Lead at) h prev = absurd h
  peek_facts row field (Late at) h prev = absurd h
  peek_facts row field (Shut at hi) h prev = absurd h
  peek_facts row field (Based at hi b) h prev = absurd h
  peek_facts row field (Headed at hi b w) h prev = absurd h
  peek_facts row field (FilledLo at hi b w r) h prev = absurd h
  peek_facts row field (FilledBase at hi b w r) h prev = absurd h
  peek_facts row field (Filled at hi b r) h prev = absurd h
  peek_facts row field (Pointed at hi b r) h prev = absurd h
  peek_facts row field (Got b ahead) h prev = absurd h

  on_peek : (row : ℕ) (field : Field) → (s.callers pass).position ≡ Climbing kind level → MayPeek start kind level index (stage start s kind level pass) row field
      → ((at r : ℕ) → stage start s kind level pass ≡ Over at r → NamesMine start.shape level index (there.prev r)) → GoesOn start s pass (Peek row field)
  unfolding Peeks
  on_peek row field position may prev =
      let n : ℕ = word start s (row_name start.shape row field) in
      let facts = peek_facts row field (stage start s kind level pass) may prev in
      ap (λ (p : Position). own start (peeked_by start s pass p) pass) position
      ∙ turns start s kind level pass (λ m. step.Peek m) (peeked_stage n (row_read start.shape n) (stage start s kind level pass)) facts.0 facts.1 facts.2
      ∙ ap (peeked_own start n (own start s pass)) (sym position)

pub tidy_run : (start : Start) (log : List Event) (s : State) → IsTidy start s → Legal start log s → IsTidy start (run start log s)
tidy_run start [] s tidy legal = tidy
tidy_run start (event ∷ log) s tidy legal = tidy_run start log (moves start s event.pass event.step) (passes start event.pass s event.step tidy legal.0.1).tidy legal.1

module _ (start : Start) (log : List Event) (ok : IsStart start) (legal : Legal start log (opened start)) (pass : ℕ) where
  abbrev s : State
  s = run start log (opened start)

  placed_at : (kind : Kind) (level : ℕ) → (s.callers pass).position ≡ Climbing kind level → IsFunnelled kind × IsLevel start.shape level
  placed_at kind level position = subst (IsPlaced start.shape) position ((tidy_run start log (opened start) (tidy_opened start) legal).placed pass)

  -- the word that names the newest row names a member's
  pub last_mine : (kind : Kind) (level : ℕ) → NamesMine start.shape level (aggregator start.shape pass level) (place start s kind level pass).last
  last_mine kind level =
      let index : ℕ = aggregator start.shape pass level in
      let inv : Inv (members start.shape level index) start.shape.rows (place start s kind level pass) = (holds start log ok legal).0.good.inv kind level index in
      subst (NamesMine start.shape level index) (sym inv.last_is) (link_mine start.shape level index (place start s kind level pass).linked (linked_owned start log ok legal kind level index))

  -- and so does `prev` of the row that a late member goes over
  pub over_mine : (kind : Kind) (level at r : ℕ) → stage start s kind level pass ≡ Over at r → NamesMine start.shape level (aggregator start.shape pass level) ((place start s kind level pass).prev r)
  over_mine kind level at r e =
      let index : ℕ = aggregator start.shape pass level in
      let m : ℕ = member start.shape level pass in
      let t : Traced = place start s kind level pass in
      let inv : Inv (members start.shape level index) start.shape.rows t = (holds start log ok legal).0.good.inv kind level index in
      let calm : Calm t.done (t.announced m) t.linked (Over at r) = subst (Calm t.done (t.announced m) t.linked) e (inv.calm m) in
      let stands = inv.standing m at calm.0 (ap offset e) calm.1 calm.3 in
      let same : t.prev r ≡ calm.0.prev = ap t.prev (sym calm.2) ∙ stands.2 in
      subst (NamesMine start.shape level index) (sym same) (prev_mine start.shape level index t.linked (linked_owned start log ok legal kind level index) inv.chained calm.0 calm.1)

  pub tells : (step : Move) → May start s pass step → GoesOn start s pass step
  tells (Scan kind level other) may = on_scan start s pass kind level other may.6
  tells (See kind level) may = on_see start s pass kind level
  tells (Announce kind level) may = on_announce start s pass kind level
  tells (Arrive kind level weight) may = on_arrive start s pass kind level weight
  tells (Look kind level) may = on_look start s pass kind level
  tells (Close kind level) may = on_close start s pass kind level
  tells (Apply weight) may = on_apply start s pass weight
  tells (Head kind level) may =
      let p = placed_at kind level may.0 in
      on_head start s pass kind level (row_read-link start.shape kind level (aggregator start.shape pass level) p.0 p.1 (aggregator_below start.shape pass level) (place start s kind level pass).last (last_mine kind level))
  tells (Fill row field) may = on_fill start s pass row field
  tells (Point kind level row) may = on_point start s pass kind level row
  tells (Publish kind level) may = on_publish start s pass kind level
  tells (Peek row field) (kind, level, climbs, may) =
      let p = placed_at kind level climbs.0 in
      on_peek start s pass kind level p.0 p.1 row field climbs.0 may (over_mine kind level)
  tells (Leave kind level) may = on_leave start s pass kind level
  tells (Load purpose.Try) may = on_try start s pass
  tells (Load purpose.Read) may = makes_own start s pass Read 0
  tells (Exchange kind amount) may = on_exchange start s pass kind amount
  tells (Direct amount) may = makes_own start s pass Add amount
  tells Glance may = refl

  slot : (kind : Kind) (level : ℕ) → pass < start.shape.passes → (s.callers pass).position ≡ Climbing kind level → IsSlot start.shape pass kind level
  slot kind level inside position = let p = placed_at kind level position in (inside, p.0, p.1)

  aggregator_of : (kind : Kind) (level : ℕ) → (s.callers pass).position ≡ Climbing kind level → IsAggregator start.shape kind level (aggregator start.shape pass level)
  aggregator_of kind level position = let p = placed_at kind level position in (p.0, p.1, aggregator_below start.shape pass level)

  -- the row that a late member has in hand is a member's
  pub hand_mine : (kind : Kind) (level row : ℕ) (field : Field) (g : Stage) → stage start s kind level pass ≡ g → MayPeek start kind level (aggregator start.shape pass level) g row field
      → (r : ℕ) × Names start.shape kind level (aggregator start.shape pass level) row r × (r / start.shape.rows < members start.shape level (aggregator start.shape pass level)) × (asked g ≡ Some (r, field))
  hand_mine kind level row field g e may = go field g e may
    where
      calm : (g : Stage) → stage start s kind level pass ≡ g → Calm (place start s kind level pass).done ((place start s kind level pass).announced (member start.shape level pass)) (place start s kind level pass).linked g
      calm g e = subst (Calm (place start s kind level pass).done ((place start s kind level pass).announced (member start.shape level pass)) (place start s kind level pass).linked) e
          (((holds start log ok legal).0.good.inv kind level (aggregator start.shape pass level)).calm (member start.shape level pass))

      mine : (r : ℕ) (b : Batch) → IsIn b (place start s kind level pass).linked → b.row ≡ r → r / start.shape.rows < members start.shape level (aggregator start.shape pass level)
      mine r b i e = subst (λ (x : ℕ). x / start.shape.rows < members start.shape level (aggregator start.shape pass level)) e (linked_owned start log ok legal kind level (aggregator start.shape pass level) b i)

      go : (field : Field) (g : Stage) → stage start s kind level pass ≡ g → MayPeek start kind level (aggregator start.shape pass level) g row field
          → (r : ℕ) × Names start.shape kind level (aggregator start.shape pass level) row r × (r / start.shape.rows < members start.shape level (aggregator start.shape pass level)) × (asked g ≡ Some (r, field))
      go Lo (At at r) e h = let c = calm (At at r) e in (r, h, mine r c.0 c.1 c.2, refl)
      go Prev (Over at r) e h = let c = calm (Over at r) e in (r, h, mine r c.0 c.1 c.2, refl)
      go Base (Hit at r lo) e h = let c = calm (Hit at r lo) e in (r, h, mine r c.0 c.1 c.2, refl)
      go Base (At at r) e h = absurd h
      go Prev (At at r) e h = absurd h
      go Lo (Over at r) e h = absurd h
      go Base (Over at r) e h = absurd h
      go Lo (Hit at r lo) e h = absurd h
      go Prev (Hit at r lo) e h = absurd h
      go field Out e h = absurd h
      go field (Saw seen) e h = absurd h
      go field (Told seen) e h = absurd h
      go field (Waiting at) e h = absurd h
      go field (Lead at) e h = absurd h
      go field (Late at) e h = absurd h
      go field (Shut at hi) e h = absurd h
      go field (Based at hi b) e h = absurd h
      go field (Headed at hi b w) e h = absurd h
      go field (FilledLo at hi b w r) e h = absurd h
      go field (FilledBase at hi b w r) e h = absurd h
      go field (Filled at hi b r) e h = absurd h
      go field (Pointed at hi b r) e h = absurd h
      go field (Got b ahead) e h = absurd h

  -- so the word that it peeks at is one of the funnel's
  peek_named : (kind : Kind) (level row : ℕ) (field : Field) → IsFunnelled kind → IsLevel start.shape level → (r : ℕ) → Names start.shape kind level (aggregator start.shape pass level) row r
      → r / start.shape.rows < members start.shape level (aggregator start.shape pass level) → IsNamed start.shape (row_name start.shape row field)
  peek_named kind level row field f l r (p, n, same, of_pass, number) range =
      let shape = start.shape in
      let index : ℕ = aggregator shape pass level in
      let m : ℕ = member shape level p in
      let whole : r / shape.rows ≡ m = ap (λ (x : ℕ). x / shape.rows) number ∙ div-mul-add m shape.rows (row % shape.rows) (mod_below row shape.rows (omega arith)) in
      let q = numbers_are_members shape level index (r / shape.rows) (aggregator_below shape pass level) range in
      let is : pass_of shape level index (r / shape.rows) ≡ p = member_apart shape (pass_of shape level index (r / shape.rows)) p level (q.1 ∙ sym same) (q.2 ∙ whole) in
      let inside : p < shape.passes = subst (λ (x : ℕ). x < shape.passes) is q.0 in
      let name : row_name shape row field ≡ RowWord p kind level n field = ap (λ (x : ℕ). row_name shape x field) of_pass.1 ∙ row_name-number shape p kind level n field f l of_pass.0 in
      subst (IsNamed shape) (sym name) ((inside, f, l), of_pass.0)

  named : (step : Move) → pass < start.shape.passes → May start s pass step → IsNamed start.shape (name_of start.shape pass step)
  named (Scan kind level other) inside may = (may.4, funnelled start pass kind may.1, (may.2, may.3))
  named (See kind zero) inside may = absurd may
  named (See kind (suc zero)) inside may = (funnelled start pass kind may.1, (omega arith, omega arith), aggregator_below start.shape pass 1)
  named (See kind (suc (suc below))) inside may = ((placed_at kind (suc below) may.0).0, (omega arith, may.2), aggregator_below start.shape pass (suc (suc below)))
  named (Announce kind level) inside may = slot kind level inside may.0
  named (Arrive kind level weight) inside may = aggregator_of kind level may.0.0
  named (Look kind level) inside may = aggregator_of kind level may.0
  named (Close kind level) inside may = aggregator_of kind level may.0
  named (Apply weight) inside may = tt
  named (Head kind level) inside may = aggregator_of kind level may.0
  named (Fill row field) inside (kind, level, n, climbs, of_pass) =
      let p = placed_at kind level climbs.0 in
      subst (IsNamed start.shape) (sym (ap (λ (x : ℕ). row_name start.shape x field) of_pass.1 ∙ row_name-number start.shape pass kind level n field p.0 p.1 of_pass.0)) ((inside, p.0, p.1), of_pass.0)
  named (Point kind level row) inside may = aggregator_of kind level may.0.0
  named (Publish kind level) inside may = aggregator_of kind level may.0
  named (Peek row field) inside (kind, level, climbs, may) =
      let p = placed_at kind level climbs.0 in
      let h = hand_mine kind level row field (stage start s kind level pass) refl may in
      peek_named kind level row field p.0 p.1 h.0 h.1 h.2
  named (Leave kind level) inside may = slot kind level inside may.0
  named (Load purpose) inside may = tt
  named (Exchange kind amount) inside may = tt
  named (Direct amount) inside may = tt
  named Glance inside may = tt

pub steps_tell : StepsTell
steps_tell start log event ok legal allowed = tells start log ok legal event.pass event.step allowed.1

pub words_are_found : WordsAreFound
words_are_found start log event ok legal allowed =
    let n = named start log ok legal event.pass event.step allowed.0 allowed.1 in
    (n, word_found start (run start log (opened start)) (name_of start.shape event.pass event.step) n)
