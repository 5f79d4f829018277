-- A call keeps a free row at each level at which it may come to fill one.
use Rattle.std.proofs.Common.{◌≡◌, ◌≢◌, ◌⊎◌, inl, inr, ⊎_elim, ℕ, zero, suc, ◌<◌, ◌≤◌, List, [], ◌∷◌, ◌++◌, Bool, true, false, refl, sym, ◌∙◌, ap, subst, arith}
use Rattle.std.specs.Prelude.{◌==◌, if◌then◌else◌}
use Rattle.std.proofs.lemmas.Bool.{cases_eq, cases_lt, eq-eqb, ne_eqb, false≢true, and_from, and_right}
use Rattle.fn_model.specs.declared.Kind.{Kind}
use Rattle.fn_model.specs.declared.Kind.TheVariants as kinds
use Rattle.fn_model.specs.Calls.{same_kind}
use Rattle.fn_rows.specs.declared.Stage.{Stage}
use Rattle.fn_rows.specs.declared.Stage.TheVariants.{Out, Saw, Told, Waiting, Lead, Late, Shut, Based, Headed, FilledLo, FilledBase, Filled, Pointed, At, Over, Hit, Got}
use Rattle.fn_rows.specs.declared.Field.{Field}
use Rattle.fn_rows.specs.declared.Field.TheVariants.{Lo, Base, Prev}
use Rattle.fn_rows.specs.Machine.{filled}
use Rattle.fn_rows.proofs.Steps.{peeked_cases}
use Rattle.fn_core.specs.declared.Purpose.TheVariants as purpose
use Rattle.fn_core.specs.declared.Move.{Move}
use Rattle.fn_core.specs.declared.Move.TheVariants.{Scan, See, Announce, Arrive, Look, Close, Apply, Head, Fill, Point, Publish, Peek, Leave, Load, Exchange, Direct, Glance}
use Rattle.fn_core.specs.declared.Event.{Event}
use Rattle.fn_core.specs.State.{Start, Position, Resting, Climbing, Deciding, State, opened, stage, reply_of}
use Rattle.fn_core.specs.Machine.{IsStart, May, Allowed, HasFreeRow, Legal, run, effect, local_row}
use Rattle.fn_core.specs.Words.{Own, own, word, name_of}
use Rattle.fn_core.specs.After.{put_level, own_after, in_stage, in_position, with_call, told_stage, looked_stage, closed_stage, based_stage, based_own, headed_stage, filled_own, pointed_stage, published_stage, peeked_stage, peeked_own, loaded_own, exchanged_own, out_of, row_read}
use Rattle.fn_core.specs.Filling.{fills_later, climbs_later, MayFillAt, FillsAt}
use Rattle.fn_core.specs.Positions.{IsClimbing}
use Rattle.fn_core.specs.Laws.{Spares, Begins, CallsKeepRows, CallsAlwaysGoOn}
use Rattle.fn_core.proofs.Whole.{Whole, stages_of, FitsAt, climbing}
use Rattle.fn_core.proofs.Laws.{holds}
use Rattle.fn_core.proofs.Put.{same_kind-refl}
use Rattle.fn_core.proofs.Tells.{tells}
use Rattle.fn_core.proofs.Stays.{own_stays}
use Rattle.fn_core.proofs.Free.{free_rows_stay}
use Rattle.fn_core.proofs.Names.{rows_have_names}
use Rattle.fn_core.proofs.Onward.{goes_on}

level_here : {A : Type 0} (f : Kind → ℕ → A) (k : Kind) (l : ℕ) (value : A) → put_level f k l value k l ≡ value
level_here f k l value = ap (λ (b : Bool). if b then value else f k l) (and_from (same_kind k k) (l == l) (same_kind-refl k) (eq-eqb l l refl))

level_there : {A : Type 0} (f : Kind → ℕ → A) (k : Kind) (l : ℕ) (value : A) (j : ℕ) → j ≢ l → put_level f k l value k j ≡ f k j
level_there f k l value j ne = ap (λ (b : Bool). if b then value else f k j) (and_right (same_kind k k) (j == l) (ne_eqb j l ne))

-- where a member that goes on to the second stage may come to fill a row, so may one at the first
abbrev Sooner : Stage → Stage → Type 0
Sooner old new = (fills_later new ≡ true → fills_later old ≡ true) × (climbs_later new ≡ true → climbs_later old ≡ true)

sooner_fills : (here level : ℕ) (old new : Stage) → Sooner old new → MayFillAt here new level → MayFillAt here old level
sooner_fills here level old new sooner (inl below) = inl below
sooner_fills here level old new sooner (inr (inl (same, is))) = inr (inl (same, sooner.0 is))
sooner_fills here level old new sooner (inr (inr (above, is))) = inr (inr (above, sooner.1 is))

-- one that goes up may come to fill a row at each level
any_level : (here level : ℕ) (old : Stage) → fills_later old ≡ true → climbs_later old ≡ true → MayFillAt here old level
any_level here level old fills climbs = elim (cases_lt level here) [
  | inl below ↦ inl below
  | inr not ↦ elim (cases_eq level here) [
    | inl same ↦ inr (inl (same, fills))
    | inr other ↦ inr (inr (omega arith, climbs))
  ]
]

-- one that has its base goes up no more, and one that has its reply fills no row
below_based : (here level at hi b : ℕ) → MayFillAt here (Based at hi b) level → level ≤ here
below_based here level at hi b (inl below) = omega arith
below_based here level at hi b (inr (inl (same, is))) = omega arith
below_based here level at hi b (inr (inr (above, is))) = absurd (false≢true is)

below_got : (here level b ahead : ℕ) → MayFillAt here (Got b ahead) level → level < here
below_got here level b ahead (inl below) = below
below_got here level b ahead (inr (inl (same, is))) = absurd (false≢true is)
below_got here level b ahead (inr (inr (above, is))) = absurd (false≢true is)

-- what the pass's own says of where its call may come to fill a row
abbrev pub Fills : Own → Kind → ℕ → Type 0
Fills o kind level = FillsAt o.stages o.caller.position kind level

module _ (start : Start) (log : List Event) (ok : IsStart start) (legal : Legal start log (opened start)) (p : ℕ) where
  abbrev s : State
  s = run start log (opened start)

  abbrev o : Own
  o = own start s p

  module _ (kind : Kind) (level : ℕ) (low : 1 ≤ level) (high : level ≤ start.shape.levels) where
    -- the call might come to fill a row here before the move too, or begins by it, and the move spares the rows here
    abbrev Ready : Move → Type 0
    Ready move = (Fills o kind level ⊎ Begins move kind) × Spares move kind level

    -- from where the call stood before
    from : (k : Kind) (here : ℕ) (old : Stage) → (s.callers p).position ≡ Climbing k here → stage start s k here p ≡ old → kind ≡ k → MayFillAt here old level → Fills o kind level
    from k here old is at same fills = (subst (λ (x : Position). FillsAt o.stages x kind level) (sym is) (same, subst (λ (g : Stage). MayFillAt here g level) (sym at) fills))

    -- a step at the level of the climb, which changes the stage by f
    steps : (k : Kind) (here : ℕ) (f : Stage → Stage) (old : Stage) → (s.callers p).position ≡ Climbing k here → stage start s k here p ≡ old → Sooner old (f old)
        → FillsAt (put_level o.stages k here (f (o.stages k here))) (s.callers p).position kind level → Fills o kind level
    steps k here f old is at sooner fills =
        let now : (kind ≡ k) × MayFillAt here (put_level o.stages k here (f (o.stages k here)) k here) level = subst (λ (x : Position). FillsAt (put_level o.stages k here (f (o.stages k here))) x kind level) is fills in
        from k here old is at now.0 (sooner_fills here level old (f old) sooner (subst (λ (g : Stage). MayFillAt here g level) (level_here o.stages k here (f (o.stages k here)) ∙ ap f at) now.1))

    -- no call, no row
    rests : {A : Type 0} (stages : Kind → ℕ → Stage) (position : Position) → position ≡ Resting → FillsAt stages position kind level → A
    rests stages position is fills = absurd (subst (λ (x : Position). FillsAt stages x kind level) is fills)

    decided : (k : Kind) (here word : ℕ) → (s.callers p).position ≡ Deciding k here word → kind ≡ k → Fills o kind level
    decided k here word is same =
        let fit : FitsAt start s p (Deciding k here word) = subst (FitsAt start s p) is ((holds start log ok legal).0.fits p) in
        let top : here ≡ start.shape.levels = fit.1 in
        (subst (λ (x : Position). FillsAt o.stages x kind level) (sym is) (same, omega arith))

    sees : (k : Kind) (here n : ℕ) → May start s p (See k here) → Fills (own_after start p (See k here) n o) kind level → Fills o kind level ⊎ Begins (See k here) kind
    sees k zero n may fills = absurd may
    sees k (suc zero) n may fills = inr (sym fills.0)
    sees k (suc (suc below)) n may fills = inl (from k (suc below) (Shut may.1.0 may.1.1) may.0 may.1.2 fills.0 (any_level (suc below) level (Shut may.1.0 may.1.1) refl refl))

    arrives_at : (k : Kind) (here weight n : ℕ) → May start s p (Arrive k here weight) → Fills (own_after start p (Arrive k here weight) n o) kind level → Fills o kind level
    arrives_at k zero weight n may fills = absurd may.1
    arrives_at k (suc zero) weight n may fills = steps k 1 (λ g. Waiting n) (Told may.0.1.0) may.0.0 may.0.1.1 ((λ h. refl), (λ h. refl)) fills
    arrives_at k (suc (suc below)) weight n may fills = steps k (suc (suc below)) (λ g. Waiting n) (Told may.0.1.0) may.0.0 may.0.1.1 ((λ h. refl), (λ h. refl)) fills

    fills_row : (k : Kind) (here row : ℕ) (old : Stage) → (s.callers p).position ≡ Climbing k here → stage start s k here p ≡ old → Sooner old (filled (local_row start.shape here p row) old) → Fills (filled_own start.shape p row o (s.callers p).position) kind level → Fills o kind level
    fills_row k here row old is at sooner fills = steps k here (filled (local_row start.shape here p row)) old is at sooner (subst (λ (x : Position). Fills (filled_own start.shape p row o x) kind level) is fills)

    peeks_row : (k : Kind) (here n : ℕ) (old : Stage) → (s.callers p).position ≡ Climbing k here → stage start s k here p ≡ old → Sooner old (peeked_stage n (row_read start.shape n) old) → Fills (peeked_own start n o (s.callers p).position) kind level → Fills o kind level
    peeks_row k here n old is at sooner fills = steps k here (peeked_stage n (row_read start.shape n)) old is at sooner (subst (λ (x : Position). Fills (peeked_own start n o x) kind level) is fills)

    leaves_row : (k : Kind) (here n : ℕ) → May start s p (Leave k here) → Fills (own_after start p (Leave k here) n o) kind level → Ready (Leave k here)
    leaves_row k zero n may fills = (let up = climbing start ok s (holds start log ok legal).0 p k 0 may.0 in let l : 1 ≤ 0 = up.low in absurd (omega arith))
    leaves_row k (suc zero) n may fills = absurd fills
    leaves_row k (suc (suc below)) n may fills =
        let up : IsClimbing start.shape.levels (stages_of start s p) k (suc (suc below)) = climbing start ok s (holds start log ok legal).0 p k (suc (suc below)) may.0 in
        let closed = up.closed (suc below) (omega arith) (omega arith) in
        let b : ℕ = reply_of start.cap k (o.stages k (suc (suc below))) in
        let left : Kind → ℕ → Stage = (out_of o k (suc (suc below))).stages in
        let shut : left k (suc below) ≡ Shut closed.0 closed.1 = level_there o.stages k (suc (suc below)) Out (suc below) (λ e. omega (arith, e)) ∙ closed.2 in
        let based : put_level left k (suc below) (based_stage b (left k (suc below))) k (suc below) ≡ Based closed.0 closed.1 b = level_here left k (suc below) (based_stage b (left k (suc below))) ∙ ap (based_stage b) shut in
        let within : level ≤ suc below = below_based (suc below) level closed.0 closed.1 b (subst (λ (g : Stage). MayFillAt (suc below) g level) based fills.1) in
        (inl (from k (suc (suc below)) (Got may.1.0 may.1.1) may.0 may.1.2 fills.0 (inl (omega arith))), (λ x y. omega (arith, y)))

    loads : (n : ℕ) → May start s p (Load purpose.Try) → Fills (loaded_own n o (s.callers p).position) kind level → Fills o kind level
    loads n (inl is) fills = absurd (subst (λ (x : Position). Fills (loaded_own n o x) kind level) is fills)
    loads n (inr (k, here, is, at_top, most)) fills =
        let now : (kind ≡ k) × (level ≤ here) = subst (λ (x : Position). Fills (loaded_own n o x) kind level) is fills in
        from k here (Shut at_top.1.0 at_top.1.1) is at_top.1.2 now.0 (any_level here level (Shut at_top.1.0 at_top.1.1) refl refl)

    exchanges : (k : Kind) (amount n : ℕ) → May start s p (Exchange k amount) → Fills (exchanged_own p k amount n o (s.callers p).position) kind level → Fills o kind level
    exchanges k amount n (inl may) fills = by_test (n == may.0) (subst (λ (x : Position). Fills (exchanged_own p k amount n o x) kind level) may.1 fills)
      where
        by_test : (b : Bool) → Fills (if b then in_position (with_call o p k amount) Resting else in_position o Resting) kind level → Fills o kind level
        by_test true h = absurd h
        by_test false h = absurd h
    exchanges k amount n (inr may) fills = by_test (n == may.1) (subst (λ (x : Position). Fills (exchanged_own p k amount n o x) kind level) may.2 fills)
      where
        by_test : (b : Bool) → Fills (if b then in_position (in_stage o k may.0 (based_stage n (o.stages k may.0))) (Climbing k may.0) else in_position o (Climbing k may.0)) kind level → Fills o kind level
        by_test true h = decided k may.0 may.1 may.2 h.0
        by_test false h = decided k may.0 may.1 may.2 h.0

    fill_ready : (field : Field) (row n : ℕ) → May start s p (Fill row field) → Fills (own_after start p (Fill row field) n o) kind level → Fills o kind level
    fill_ready Lo row n (k, here, place, (is, (at, hi, b, h, e, own, free, word)), row_is) fills = fills_row k here row (Headed at hi b h) is e ((λ x. refl), (λ x. x)) fills
    fill_ready Base row n (k, here, place, (is, (at, hi, b, h, e, word)), row_is) fills = fills_row k here row (FilledLo at hi b h (local_row start.shape here p row)) is e ((λ x. x), (λ x. x)) fills
    fill_ready Prev row n (k, here, place, (is, (at, hi, b, h, e, word)), row_is) fills = fills_row k here row (FilledBase at hi b h (local_row start.shape here p row)) is e ((λ x. x), (λ x. x)) fills

    peek_ready : (field : Field) (row n : ℕ) → May start s p (Peek row field) → Fills (own_after start p (Peek row field) n o) kind level → Fills o kind level
    peek_ready field row n (k, here, (is, inl (at, r, e)), names) fills = peeks_row k here n (At at r) is e (peeked_cases (Sooner (At at r)) at r n (λ x. ((λ y. y), (λ y. y))) (λ x. ((λ y. y), (λ y. y)))) fills
    peek_ready field row n (k, here, (is, inr (inl (at, r, e))), names) fills = peeks_row k here n (Over at r) is e ((λ y. y), (λ y. y)) fills
    peek_ready field row n (k, here, (is, inr (inr (at, r, lo, e))), names) fills = peeks_row k here n (Hit at r lo) is e ((λ y. y), (λ y. y)) fills

    head_ready : (k : Kind) (here n : ℕ) → May start s p (Head k here) → Fills (own_after start p (Head k here) n o) kind level → Fills o kind level
    head_ready k here n (is, inl (at, hi, b, e)) fills = steps k here (headed_stage (row_read start.shape n)) (Based at hi b) is e ((λ x. refl), (λ x. x)) fills
    head_ready k here n (is, inr (at, e)) fills = steps k here (headed_stage (row_read start.shape n)) (Late at) is e ((λ x. x), (λ x. x)) fills

    publish_ready : (k : Kind) (here n : ℕ) → May start s p (Publish k here) → Fills (own_after start p (Publish k here) n o) kind level → Ready (Publish k here)
    publish_ready k here n (is, (at, hi, b, r, e)) fills =
        let now : (kind ≡ k) × MayFillAt here (put_level o.stages k here (published_stage (o.stages k here)) k here) level = subst (λ (x : Position). FillsAt (put_level o.stages k here (published_stage (o.stages k here))) x kind level) is fills in
        let within : level < here = below_got here level b 0 (subst (λ (g : Stage). MayFillAt here g level) (level_here o.stages k here (published_stage (o.stages k here)) ∙ ap published_stage e) now.1) in
        (inl (from k here (Pointed at hi b r) is e now.0 (inl within)), (λ x y. omega (arith, y)))

    -- of each move after which the call may come to fill a row here
    ready : (move : Move) (n : ℕ) → May start s p move → Fills (own_after start p move n o) kind level → Ready move
    ready (Scan k here other) n may fills = rests (own_after start p (Scan k here other) n o).stages (s.callers p).position may.0 fills
    ready (See k here) n may fills = (sees k here n may fills, tt)
    ready (Announce k here) n (is, (seen, e)) fills = (inl (steps k here told_stage (Saw seen) is e ((λ x. refl), (λ x. refl)) fills), tt)
    ready (Arrive k here weight) n may fills = (inl (arrives_at k here weight n may fills), tt)
    ready (Look k here) n (is, (at, e)) fills = (inl (steps k here (looked_stage n) (Waiting at) is e ((λ x. refl), (λ x. refl)) fills), tt)
    ready (Close k here) n (is, (at, e)) fills = (inl (steps k here (closed_stage n) (Lead at) is e ((λ x. refl), (λ x. refl)) fills), tt)
    ready (Apply weight) n (here, is, at_top, most, weighs) fills =
        (inl (steps kinds.Add here (based_stage n) (Shut at_top.1.0 at_top.1.1) is at_top.1.2 ((λ x. refl), (λ x. refl)) (subst (λ (x : Position). Fills (based_own n o x) kind level) is fills)), tt)
    ready (Head k here) n may fills = (inl (head_ready k here n may fills), tt)
    ready (Fill row field) n may fills = (inl (fill_ready field row n may fills), tt)
    ready (Point k here row) n ((is, (at, hi, b, r, e)), place, row_is, points) fills = (inl (steps k here pointed_stage (Filled at hi b r) is e ((λ x. x), (λ x. x)) fills), tt)
    ready (Publish k here) n may fills = publish_ready k here n may fills
    ready (Peek row field) n may fills = (inl (peek_ready field row n may fills), tt)
    ready (Leave k here) n may fills = leaves_row k here n may fills
    ready (Load purpose.Try) n may fills = (inl (loads n may fills), tt)
    ready (Load purpose.Read) n may fills = rests o.stages (s.callers p).position may fills
    ready (Exchange k amount) n may fills = (inl (exchanges k amount n may fills), tt)
    ready (Direct amount) n may fills = rests o.stages (s.callers p).position may.0 fills
    ready Glance n may fills = rests o.stages (s.callers p).position may fills

module _ (start : Start) (log : List Event) (ok : IsStart start) (legal : Legal start log (opened start)) (event : Event) (allowed : Allowed start (run start log (opened start)) event) (pass : ℕ) (kind : Kind) (level : ℕ) (low : 1 ≤ level) (high : level ≤ start.shape.levels) where
  abbrev now : State
  now = run start log (opened start)

  abbrev next : State
  next = effect start now event

  -- a call that may come to fill a row after an event might before it, or begins by it; and if the event is its own, it spares the rows there
  pub fills_before : Fills (own start next pass) kind level → (Fills (own start now pass) kind level ⊎ ((event.pass ≡ pass) × Begins event.step kind)) × (event.pass ≡ pass → Spares event.step kind level)
  fills_before fills = elim (cases_eq pass event.pass) [
    | inr other ↦ (inl (subst (λ (x : Own). Fills x kind level) (own_stays start log legal event allowed pass other) fills), (λ e. absurd (other (sym e))))
    | inl same ↦
        let p : ℕ = event.pass in
        let found : ℕ = word start now (name_of start.shape p event.step) in
        let mine : Fills (own_after start p event.step found (own start now p)) kind level =
        subst (λ (x : Own). Fills x kind level) (tells start log ok legal p event.step allowed.1) (subst (λ (q : ℕ). Fills (own start next q) kind level) same fills) in
        let was = ready start log ok legal p kind level low high event.step found allowed.1 mine in
        (⊎_elim (λ before. inl (subst (λ (q : ℕ). Fills (own start now q) kind level) (sym same) before)) (λ begins. inr (sym same, begins)) was.0, (λ e. was.1))
  ]

-- a call begins only where it has a free row at each level
begins_free : (start : Start) (s : State) (p : ℕ) (move : Move) (kind : Kind) (level : ℕ) → 1 ≤ level → level ≤ start.shape.levels → May start s p move → Begins move kind → HasFreeRow start s kind level p
begins_free start s p (See k (suc zero)) kind level low high may begins = subst (λ (x : Kind). HasFreeRow start s x level p) begins (may.2 level low high)
begins_free start s p _ kind level low high may begins = absurd begins

-- each call keeps its free rows
abbrev KeepsRows : Start → State → Type 0
KeepsRows start s = (pass : ℕ) (kind : Kind) (level : ℕ) → 1 ≤ level → level ≤ start.shape.levels → Fills (own start s pass) kind level → HasFreeRow start s kind level pass

event_keeps : (start : Start) (log : List Event) → IsStart start → Legal start log (opened start) → KeepsRows start (run start log (opened start)) → (event : Event) → Allowed start (run start log (opened start)) event → KeepsRows start (effect start (run start log (opened start)) event)
event_keeps start log ok legal kept event allowed pass kind level low high fills =
    let s : State = run start log (opened start) in
    let before = fills_before start log ok legal event allowed pass kind level low high fills in
    let free : HasFreeRow start s kind level pass = ⊎_elim (kept pass kind level low high)
    (λ begins. subst (λ (q : ℕ). HasFreeRow start s kind level q) begins.0 (begins_free start s event.pass event.step kind level low high allowed.1 begins.1)) before.0 in
    let stays = free_rows_stay start log ok legal event allowed pass kind level free.0 (free.1, free.2) before.1 in
    (free.0, stays.0, stays.1)

pub legal_push : (start : Start) (log : List Event) (event : Event) (s : State) → Legal start log s → Allowed start (run start log s) event → Legal start (log ++ event ∷ []) s
legal_push start [] event s legal allowed = (allowed, tt)
legal_push start (x ∷ log) event s legal allowed = (legal.0, legal_push start log event (effect start s x) legal.1 allowed)

pub run_push : (start : Start) (log : List Event) (event : Event) (s : State) → run start (log ++ event ∷ []) s ≡ effect start (run start log s) event
run_push start [] event s = refl
run_push start (x ∷ log) event s = run_push start log event (effect start s x)

log_keeps : (start : Start) (log later : List Event) → IsStart start → Legal start log (opened start) → Legal start later (run start log (opened start)) → KeepsRows start (run start log (opened start)) → KeepsRows start (run start later (run start log (opened start)))
log_keeps start log [] ok legal more kept = kept
log_keeps start log (event ∷ later) ok legal more kept =
    let same : run start (log ++ event ∷ []) (opened start) ≡ effect start (run start log (opened start)) event = run_push start log event (opened start) in
    subst (λ (x : State). KeepsRows start (run start later x)) same
    (log_keeps start (log ++ event ∷ []) later ok (legal_push start log event (opened start) legal more.0) (subst (Legal start later) (sym same) more.1) (subst (KeepsRows start) (sym same) (event_keeps start log ok legal kept event more.0)))

pub calls_keep_rows : CallsKeepRows
calls_keep_rows start log ok legal = log_keeps start [] log ok tt legal (λ pass kind level low high fills. absurd fills)

pub calls_always_go_on : CallsAlwaysGoOn
calls_always_go_on start log ok legal p range u =
    let s : State = run start log (opened start) in
    let whole : Whole start s = (holds start log ok legal).0 in (
      range,
      goes_on start ok s whole p (λ kind level r is. rows_have_names start log ok legal p kind level r is)
          (λ kind level at hi base head is headed.
          let up : IsClimbing start.shape.levels (stages_of start s p) kind level = climbing start ok s whole p kind level is in
          calls_keep_rows start log ok legal p kind level up.low up.high (subst (λ (x : Position). FillsAt (stages_of start s p) x kind level) (sym is) (refl, inr (inl (refl, ap fills_later headed))))) u,
    )
