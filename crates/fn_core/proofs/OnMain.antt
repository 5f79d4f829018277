-- A step on the main word, on the fields of a machine that has taken a legal log.
use Rattle.std.proofs.Common.{◌≡◌, ◌≢◌, ℕ, ◌-◌, ◌<◌, Bool, true, false, List, refl, sym, ◌∙◌, ap, subst, arith, slice_index_or}
use Rattle.std.specs.Prelude.{Some, slice_get, ◌==◌, if◌then◌else◌}
use Rattle.std.specs.Vec.{with_item}
use Rattle.std.proofs.lemmas.Bool.{eq-eqb, ne_eqb}
use Rattle.std.proofs.lemmas.Option.{get_or_from_slice_get}
use Rattle.fn_rows.proofs.Put.{put_case}
use Rattle.fn_model.specs.declared.Kind.{Kind}
use Rattle.fn_model.specs.declared.Kind.TheVariants.{Add, Read}
use Rattle.fn_model.specs.Integer.{after}
use Rattle.fn_rows.specs.Aggregator.{Aggregator, Steps}
use Rattle.fn_rows.specs.Machine as rows
use Rattle.fn_layout.specs.Tree.{aggregator, member}
use Rattle.fn_layout.specs.Words.{IsSlot, aggregator_number}
use Rattle.fn_core.specs.declared.Event.{Event}
use Rattle.fn_core.specs.declared.machine.Machine.{Machine}
use Rattle.fn_core.specs.declared.machine.Standing.{Standing}
use Rattle.fn_core.specs.declared.Move.TheVariants.{Apply}
use Rattle.fn_core.specs.State.{Start, Caller, stage, Position, Resting, Trying, Climbing, Deciding, State, opened, goes_to, next_call, after_call}
use Rattle.fn_core.specs.declared.answer.Answer.{Answer}
use Rattle.fn_core.specs.declared.answer.Answer.TheVariants.{Won, Lost}
use Rattle.fn_core.specs.Machine.{HasClosed, May as MayIn, run, applied_by, applies, makes, loaded_by, exchanged_by}
use Rattle.fn_core.specs.Fields.{Stands, Mirrors, StandsAt, tried, standing_of, exchange_answer}
use Rattle.fn_core.proofs.Mirror.{standing_read, standings_after}
use Rattle.fn_core.specs.Positions.{Fits}
use Rattle.fn_core.proofs.Reached.{change_funnelled, whole}
use Rattle.fn_core.proofs.Taken.{steps_there, goes_there}

-- a batch that may be applied was closed at the top
pub top_closed : (start : Start) (s : State) (pass weight level : ℕ) → level ≡ start.shape.levels → MayIn start s pass (Apply weight) → ((s.callers pass).position ≡ Climbing Add level) × HasClosed start s pass Add level
top_closed start s pass weight level is (l, at, (top, closed), uncapped, weighs) = let same : l ≡ level = top ∙ sym is in (at ∙ ap (Climbing Add) same, subst (HasClosed start s pass Add) same closed)

-- a batch enters the main word
pub applies_there : (m : Machine) (log : List Event) (stands : Stands m log) (pass : ℕ) (kind : Kind) (level : ℕ) (slot : IsSlot m.start.shape pass kind level) (k : ℕ) (a b : Aggregator) → k ≡ aggregator_number m.start.shape kind level (aggregator m.start.shape pass level) → a ≡ slice_index_or m.rows.items k a
    → (n : ℕ) → n ≡ member m.start.shape level pass → Steps a b (rows.Hand_base n m.main) → (weight main : ℕ) → main ≡ after m.start.cap m.main kind weight
    → Mirrors (record m { rows = with_item m.rows k b; main = main }) (applies m.start (run m.start log (opened m.start)) pass kind level weight)
applies_there m log stands pass kind level slot k a b is read n own steps weight main new =
    let s : State = run m.start log (opened m.start) in
    let stepped = steps_there m log stands pass kind level slot k a b is read n own (λ x. rows.Hand_base x s.main) (subst (λ (x : ℕ). Steps a b (rows.Hand_base n x)) stands.fields.main_is steps) in
    record { main_is = new ∙ ap (λ (x : ℕ). after m.start.cap x kind weight) stands.fields.main_is; places = stepped.places; standings = stepped.standings }

-- a load for a try changes the position alone
pub loads_as : (s : State) (pass : ℕ) (position : Position) → loaded_by s pass position ≡ goes_to s pass (tried position s.main)
loads_as s pass Resting = refl
loads_as s pass (Trying word) = refl
loads_as s pass (Climbing kind level) = refl
loads_as s pass (Deciding kind level word) = refl

-- where a batch is applied
pub applied_there : (m : Machine) (log : List Event) (pass weight level : ℕ) (new : Machine) → ((run m.start log (opened m.start)).callers pass).position ≡ Climbing Add level → Mirrors new (applies m.start (run m.start log (opened m.start)) pass Add level weight)
    → Mirrors new (applied_by m.start (run m.start log (opened m.start)) pass weight ((run m.start log (opened m.start)).callers pass).position)
applied_there m log pass weight level new at w = subst (λ (p : Position). Mirrors new (applied_by m.start (run m.start log (opened m.start)) pass weight p)) (sym at) w

module _ (m : Machine) (log : List Event) (stands : Stands m log) (pass : ℕ) (inside : pass < m.start.shape.passes) where
  abbrev s : State
  s = run m.start log (opened m.start)

  -- a pass stands where its standing says
  pub position_is : (position : Position) → StandsAt m pass position → (s.callers pass).position ≡ position
  position_is position at =
      let standing : Standing = record { position = position; left = at.0 } in
      let here = get_or_from_slice_get m.standings.items pass (standing_of (s.callers pass)) standing (stands.fields.standings pass inside) in
      ap (λ (x : Standing). x.position) (sym here ∙ get_or_from_slice_get m.standings.items pass standing standing at.1)

  -- a pass stands where what was read of it says
  pub stood_at : (t : Standing) (position : Position) → t ≡ slice_index_or m.standings.items pass t → t.position ≡ position → (s.callers pass).position ≡ position
  stood_at t position read is = ap (λ (x : Standing). x.position) (sym (standing_read m.start.shape m.standings.items s.callers stands.fields.standings pass inside t read)) ∙ is

  pub standing_is : (t : Standing) (position : Position) → t ≡ slice_index_or m.standings.items pass t → t.position ≡ position → StandsAt m pass position
  standing_is t position read is = (
    (s.callers pass).left,
    stands.fields.standings pass inside ∙ ap (λ (p : Position). Some (record { position = p; left = (s.callers pass).left })) (stood_at t position read is),
  )

  -- a load for a try
  pub tries_there : (t u : Standing) → t ≡ slice_index_or m.standings.items pass t → u ≡ slice_index_or m.standings.items pass u → (position : Position) → position ≡ tried u.position m.main
      → Mirrors (record m { standings = with_item m.standings pass (record t { position = position }) }) (loaded_by s pass (s.callers pass).position)
  tries_there t u read again position is =
      let stood : u ≡ standing_of (s.callers pass) = standing_read m.start.shape m.standings.items s.callers stands.fields.standings pass inside u again in
      let same : position ≡ tried (s.callers pass).position s.main = is ∙ ap (λ (x : Standing). tried x.position m.main) stood ∙ ap (tried (s.callers pass).position) stands.fields.main_is in
      subst (λ (x : State). Mirrors (record m { standings = with_item m.standings pass (record t { position = position }) }) x) (ap (goes_to s pass) same ∙ sym (loads_as s pass (s.callers pass).position)) (goes_there m s stands.fields pass inside t read position)

  -- a read leaves all fields as they are
  pub reads_there : Mirrors m (makes m.start s pass Read 0)
  reads_there =
      let caller : Caller = s.callers pass in
      record {
        main_is = stands.fields.main_is;
        places = stands.fields.places;
        standings = λ q range.
            put_case (λ (x : Caller). slice_get m.standings.items q ≡ Some (standing_of x)) s.callers pass (after_call caller (next_call s pass Read 0)) q
            (λ same. stands.fields.standings q range ∙ ap (λ (x : ℕ). Some (standing_of (s.callers x))) same ∙ ap (λ (x : ℕ). Some (record { position = caller.position; left = x })) (omega arith))
            (λ other. stands.fields.standings q range);
      }

  -- a call of its own enters the main word
  pub makes_there : (kind : Kind) (amount main : ℕ) → main ≡ after m.start.cap m.main kind amount → (t : Standing) → t ≡ slice_index_or m.standings.items pass t
      → Mirrors (record m { main = main; standings = with_item m.standings pass (record t { left = t.left - amount }) }) (makes m.start s pass kind amount)
  makes_there kind amount main new t read = record {
    main_is = new ∙ ap (λ (x : ℕ). after m.start.cap x kind amount) stands.fields.main_is;
    places = stands.fields.places;
    standings = standings_after m.start.shape m.standings.items s.callers stands.fields.standings pass inside (record t { left = t.left - amount }) (after_call (s.callers pass) (next_call s pass kind amount))
        (ap (λ (x : Standing). record x { left = x.left - amount }) (standing_read m.start.shape m.standings.items s.callers stands.fields.standings pass inside t read));
  }

  -- an exchange ends by whether the main word is still the loaded one
  abbrev Ends : Machine → Kind → ℕ → Answer → Type 0
  Ends new kind amount answer = Mirrors new (exchanged_by m.start s pass kind amount (s.callers pass).position) × (answer ≡ exchange_answer s.main (s.callers pass).position)

  ends_at : (new : Machine) (kind : Kind) (amount : ℕ) (answer : Answer) (position : Position) → StandsAt m pass position → Mirrors new (exchanged_by m.start s pass kind amount position) → answer ≡ exchange_answer s.main position → Ends new kind amount answer
  ends_at new kind amount answer position at w is =
      let same = position_is position at in
      (subst (λ (p : Position). Mirrors new (exchanged_by m.start s pass kind amount p)) (sym same) w, is ∙ ap (exchange_answer s.main) (sym same))

  pub wins_direct : (kind : Kind) (amount loaded main : ℕ) → StandsAt m pass (Trying loaded) → m.main ≡ loaded → main ≡ after m.start.cap m.main kind amount → (t u : Standing) → t ≡ slice_index_or m.standings.items pass t
      → u ≡ slice_index_or (with_item m.standings pass (record t { left = t.left - amount })).items pass u
      → Ends (record m { main = main; standings = with_item (with_item m.standings pass (record t { left = t.left - amount })) pass (record u { position = Resting }) }) kind amount Won
  wins_direct kind amount loaded main at same new t u read again =
      let found : (s.main == loaded) ≡ true = eq-eqb s.main loaded (sym stands.fields.main_is ∙ same) in
      let made = makes_there kind amount main new t read in
      let next : Machine = record m { main = main; standings = with_item m.standings pass (record t { left = t.left - amount }) } in
      let gone = goes_there next (makes m.start s pass kind amount) made pass inside u again Resting in
      ends_at (record next { standings = with_item next.standings pass (record u { position = Resting }) }) kind amount Won (Trying loaded) at
      (subst (λ (b : Bool). Mirrors (record next { standings = with_item next.standings pass (record u { position = Resting }) }) (if b then goes_to (makes m.start s pass kind amount) pass Resting else goes_to s pass Resting)) (sym found) gone)
      (ap (λ (b : Bool). if b then Won else Lost loaded s.main) (sym found))

  pub loses_direct : (kind : Kind) (amount loaded : ℕ) → StandsAt m pass (Trying loaded) → m.main ≢ loaded → (u : Standing) → u ≡ slice_index_or m.standings.items pass u
      → Ends (record m { standings = with_item m.standings pass (record u { position = Resting }) }) kind amount (Lost loaded m.main)
  loses_direct kind amount loaded at other u read =
      let found : (s.main == loaded) ≡ false = ne_eqb s.main loaded (λ e. other (stands.fields.main_is ∙ e)) in
      let gone = goes_there m s stands.fields pass inside u read Resting in
      let new : Machine = record m { standings = with_item m.standings pass (record u { position = Resting }) } in
      ends_at new kind amount (Lost loaded m.main) (Trying loaded) at (subst (λ (b : Bool). Mirrors new (if b then goes_to (makes m.start s pass kind amount) pass Resting else goes_to s pass Resting)) (sym found) gone)
      (ap (Lost loaded) stands.fields.main_is ∙ ap (λ (b : Bool). if b then Won else Lost loaded s.main) (sym found))

  pub loses_batch : (kind : Kind) (level amount loaded : ℕ) → StandsAt m pass (Deciding kind level loaded) → m.main ≢ loaded → (u : Standing) → u ≡ slice_index_or m.standings.items pass u
      → Ends (record m { standings = with_item m.standings pass (record u { position = Climbing kind level }) }) kind amount (Lost loaded m.main)
  loses_batch kind level amount loaded at other u read =
      let found : (s.main == loaded) ≡ false = ne_eqb s.main loaded (λ e. other (stands.fields.main_is ∙ e)) in
      let gone = goes_there m s stands.fields pass inside u read (Climbing kind level) in
      let new : Machine = record m { standings = with_item m.standings pass (record u { position = Climbing kind level }) } in
      ends_at new kind amount (Lost loaded m.main) (Deciding kind level loaded) at (subst (λ (b : Bool). Mirrors new (if b then goes_to (applies m.start s pass kind level amount) pass (Climbing kind level) else goes_to s pass (Climbing kind level))) (sym found) gone)
      (ap (Lost loaded) stands.fields.main_is ∙ ap (λ (b : Bool). if b then Won else Lost loaded s.main) (sym found))

  -- what a pass knows of a batch that has loaded the main word
  pub deciding_at : (kind : Kind) (level loaded : ℕ) → StandsAt m pass (Deciding kind level loaded) → IsSlot m.start.shape pass kind level × HasClosed m.start s pass kind level
  deciding_at kind level loaded at =
      let is = position_is (Deciding kind level loaded) at in
      let fits = subst (Fits m.start.shape.levels (λ k l. stage m.start s k l pass)) is ((whole m log stands pass inside).fits pass) in
      ((inside, change_funnelled kind fits.0.change, (fits.0.low, fits.0.high)), (fits.2, fits.3, fits.4))

  pub wins_batch : (kind : Kind) (level amount loaded : ℕ) → StandsAt m pass (Deciding kind level loaded) → m.main ≡ loaded → (new : Machine) → Mirrors new (applies m.start s pass kind level amount) → new.start ≡ m.start
      → (u : Standing) → u ≡ slice_index_or new.standings.items pass u → Ends (record new { standings = with_item new.standings pass (record u { position = Climbing kind level }) }) kind amount Won
  wins_batch kind level amount loaded at same new w started u read =
      let found : (s.main == loaded) ≡ true = eq-eqb s.main loaded (sym stands.fields.main_is ∙ same) in
      let gone = goes_there new (applies m.start s pass kind level amount) w pass (subst (λ (x : Start). pass < x.shape.passes) (sym started) inside) u read (Climbing kind level) in
      ends_at (record new { standings = with_item new.standings pass (record u { position = Climbing kind level }) }) kind amount Won (Deciding kind level loaded) at
      (subst (λ (b : Bool). Mirrors (record new { standings = with_item new.standings pass (record u { position = Climbing kind level }) }) (if b then goes_to (applies m.start s pass kind level amount) pass (Climbing kind level) else goes_to s pass (Climbing kind level))) (sym found) gone)
      (ap (λ (b : Bool). if b then Won else Lost loaded s.main) (sym found))
