-- A pass goes on by its own step, as the number found tells it.
use Rattle.std.proofs.Common.{◌≡◌, Bool, true, false, ℕ, zero, suc, ◌==◌, if◌then◌else◌, refl, sym, ap, ◌∙◌}
use Rattle.std.specs.Prelude.{Option, Some, None}
use Rattle.fn_model.specs.declared.Kind.{Kind}
use Rattle.fn_model.specs.Histories.{BatchStep, OwnStep}
use Rattle.fn_rows.specs.declared.Field.{Field}
use Rattle.fn_rows.specs.declared.Stage.TheVariants.{Out, Saw, Waiting}
use Rattle.fn_rows.specs.Machine as step
use Rattle.fn_rows.specs.Machine.{put}
use Rattle.fn_rows.proofs.Put.{put_here}
use Rattle.fn_layout.specs.Tree.{aggregator, member}
use Rattle.fn_core.specs.declared.Purpose.TheVariants as purpose
use Rattle.fn_core.specs.declared.Move.TheVariants.{Scan, See, Announce, Arrive, Look, Close, Apply, Head, Fill, Point, Publish, Leave, Load, Exchange}
use Rattle.fn_core.specs.declared.Start.{Start}
use Rattle.fn_core.specs.State.{State, Position, Resting, Trying, Climbing, Deciding, stage, local, goes_to, receives, enters, next_call, reply_of, lo_of, hi_of}
use Rattle.fn_core.specs.Machine.{place, local_row, word_of, fills, arrival_at, applied_by, filled_by, loaded_by, exchanged_by, applies, makes}
use Rattle.fn_core.specs.Words.{Own, own, link}
use Rattle.fn_core.specs.After.{own_with, in_stage, in_position, with_call, row_read, out_of, based_own, filled_own, loaded_own, exchanged_own, GoesOn, told_stage, looked_stage, closed_stage, based_stage, headed_stage, pointed_stage}
use Rattle.fn_core.proofs.After.{turns, own_local, own_goes, own_spends, announce_stage, look_stage, close_stage, hand_stage, head_stage, point_stage, fill_stage, publish_stage}

module _ (start : Start) (s : State) (pass : ℕ) where
  abbrev mine : Own
  mine = own start s pass

  abbrev there : Kind → ℕ → step.State
  there kind level = (place start s kind level pass).state

  abbrev me : ℕ → ℕ
  me level = member start.shape level pass

  pub on_scan : (kind : Kind) (level other : ℕ) → aggregator start.shape other level ≡ aggregator start.shape pass level → GoesOn start s pass (Scan kind level other)
  on_scan kind level other same =
      let q : ℕ = member start.shape level other in
      own_local start s kind level pass (λ m. step.Scan m q)
      ∙ ap (λ (f : ℕ → Option ℕ). own_with mine kind level (mine.stages kind level) f (mine.ends kind level))
      (put_here (there kind level).found (me level) (put ((there kind level).found (me level)) q (Some ((there kind level).announced q))) (me level) refl)
      ∙ ap (λ (index : ℕ). own_with mine kind level (mine.stages kind level) (put ((there kind level).found (me level)) q (Some ((s.rows kind level index).announced q))) (mine.ends kind level)) (sym same)

  pub on_see : (kind : Kind) (level : ℕ) → GoesOn start s pass (See kind level)
  on_see kind level =
      own_goes start (local start s kind level pass (λ m. step.See m)) pass (Climbing kind level)
      ∙ ap (λ (o : Own). in_position o (Climbing kind level))
      (turns start s kind level pass (λ m. step.See m) (Saw (there kind level).done) (put_here (there kind level).stage (me level) (Saw (there kind level).done) (me level) refl) (λ q. refl) (λ r. refl))

  pub on_announce : (kind : Kind) (level : ℕ) → GoesOn start s pass (Announce kind level)
  on_announce kind level =
      let f = announce_stage (there kind level) (me level) (stage start s kind level pass) refl in
      turns start s kind level pass (λ m. step.Announce m) (told_stage (stage start s kind level pass)) f.0 f.1 f.2

  pub on_look : (kind : Kind) (level : ℕ) → GoesOn start s pass (Look kind level)
  on_look kind level =
      let f = look_stage (there kind level) (me level) (stage start s kind level pass) refl in
      turns start s kind level pass (λ m. step.Look m) (looked_stage (there kind level).done (stage start s kind level pass)) f.0 f.1 f.2

  pub on_close : (kind : Kind) (level : ℕ) → GoesOn start s pass (Close kind level)
  on_close kind level =
      let f = close_stage (there kind level) (me level) (stage start s kind level pass) refl in
      turns start s kind level pass (λ m. step.Close m) (closed_stage (there kind level).total (stage start s kind level pass)) f.0 f.1 f.2

  pub on_point : (kind : Kind) (level row : ℕ) → GoesOn start s pass (Point kind level row)
  on_point kind level row =
      let f = point_stage (there kind level) (me level) (stage start s kind level pass) refl in
      turns start s kind level pass (λ m. step.Point m) (pointed_stage (stage start s kind level pass)) f.0 f.1 f.2

  -- the word that names the newest row is read back
  pub on_head : (kind : Kind) (level : ℕ) → row_read start.shape (link start.shape kind level (aggregator start.shape pass level) (there kind level).last) ≡ (there kind level).last → GoesOn start s pass (Head kind level)
  on_head kind level back =
      let f = head_stage (there kind level) (me level) (stage start s kind level pass) refl in
      turns start s kind level pass (λ m. step.Head m) (headed_stage (there kind level).last (stage start s kind level pass)) f.0 f.1 f.2
      ∙ ap (λ (x : ℕ). in_stage mine kind level (headed_stage x (stage start s kind level pass))) (sym back)

  pub on_publish : (kind : Kind) (level : ℕ) → GoesOn start s pass (Publish kind level)
  on_publish kind level =
      let f = publish_stage (there kind level) (me level) start.shape.rows (stage start s kind level pass) refl in
      own_local start s kind level pass (λ m. step.Publish m) ∙ (λ i. own_with mine kind level (f.0 i) (λ q. f.1 q i) (λ r. f.2 r i))

  pub on_arrive : (kind : Kind) (level weight : ℕ) → GoesOn start s pass (Arrive kind level weight)
  on_arrive kind zero weight = refl
  on_arrive kind (suc zero) weight =
      let stepped : State = local start s kind 1 pass (λ m. step.Arrive m weight) in
      let received : State = receives stepped kind 1 (aggregator start.shape pass 1) (arrival_at start s pass kind 0 weight) in
      own_spends start received pass (next_call s pass kind weight)
      ∙ ap (λ (o : Own). with_call o pass kind weight)
      (turns start s kind 1 pass (λ m. step.Arrive m weight) (Waiting (there kind 1).total) (put_here (there kind 1).stage (me 1) (Waiting (there kind 1).total) (me 1) refl) (λ q. refl) (λ r. refl))
  on_arrive kind (suc (suc below)) weight =
      let level : ℕ = suc (suc below) in
      turns start s kind level pass (λ m. step.Arrive m weight) (Waiting (there kind level).total) (put_here (there kind level).stage (me level) (Waiting (there kind level).total) (me level) refl) (λ q. refl) (λ r. refl)

  pub on_fill : (row : ℕ) (field : Field) → GoesOn start s pass (Fill row field)
  on_fill row field = at_position (s.callers pass).position
    where
      at_position : (position : Position) → own start (filled_by start s pass row field position) pass ≡ filled_own start.shape pass row mine position
      at_position (Climbing kind level) =
          let r : ℕ = local_row start.shape level pass row in
          let f = fill_stage (there kind level) (me level) r field (word_of field (stage start s kind level pass)) (stage start s kind level pass) in
          turns start s kind level pass (fills start s kind level pass row field) (step.filled r (stage start s kind level pass)) f.0 f.1 f.2
      at_position Resting = refl
      at_position (Trying loaded) = refl
      at_position (Deciding kind level loaded) = refl

  leaves_own : (kind : Kind) (level : ℕ) → own start (local start s kind level pass (λ m. step.Leave m)) pass ≡ out_of mine kind level
  leaves_own kind level = own_local start s kind level pass (λ m. step.Leave m)
      ∙ (λ i. own_with mine kind level (put_here (there kind level).stage (me level) Out (me level) refl i) (put_here (there kind level).found (me level) (λ q. None) (me level) refl i) (mine.ends kind level))

  pub on_leave : (kind : Kind) (level : ℕ) → GoesOn start s pass (Leave kind level)
  on_leave kind zero = refl
  on_leave kind (suc zero) =
      own_goes start (local start s kind 1 pass (λ m. step.Leave m)) pass Resting ∙ ap (λ (o : Own). in_position o Resting) (leaves_own kind 1)
  on_leave kind (suc (suc below)) =
      let b : ℕ = reply_of start.cap kind (stage start s kind (suc (suc below)) pass) in
      let left : State = local start s kind (suc (suc below)) pass (λ m. step.Leave m) in
      let handed : State = local start left kind (suc below) pass (λ m. step.Hand_base m b) in
      let f = hand_stage (place start left kind (suc below) pass).state (me (suc below)) b (stage start left kind (suc below) pass) refl in
      own_goes start handed pass (Climbing kind (suc below))
      ∙ ap (λ (o : Own). in_position o (Climbing kind (suc below)))
      (turns start left kind (suc below) pass (λ m. step.Hand_base m b) (based_stage b (stage start left kind (suc below) pass)) f.0 f.1 f.2)
      ∙ ap (λ (o : Own). in_position (in_stage o kind (suc below) (based_stage b (o.stages kind (suc below)))) (Climbing kind (suc below))) (leaves_own kind (suc (suc below)))

  pub makes_own : (kind : Kind) (amount : ℕ) → own start (makes start s pass kind amount) pass ≡ with_call mine pass kind amount
  makes_own kind amount = own_spends start (enters start s kind amount (OwnStep (next_call s pass kind amount))) pass (next_call s pass kind amount)

  applies_own : (kind : Kind) (level amount : ℕ) → own start (applies start s pass kind level amount) pass ≡ in_stage mine kind level (based_stage s.main (stage start s kind level pass))
  applies_own kind level amount =
      let entered : State = enters start s kind amount (BatchStep kind (aggregator start.shape pass level) (lo_of (stage start s kind level pass)) (hi_of (stage start s kind level pass))) in
      let f = hand_stage (there kind level) (me level) s.main (stage start s kind level pass) refl in
      turns start entered kind level pass (λ m. step.Hand_base m s.main) (based_stage s.main (stage start s kind level pass)) f.0 f.1 f.2

  pub on_apply : (weight : ℕ) → GoesOn start s pass (Apply weight)
  on_apply weight = at_position (s.callers pass).position
    where
      at_position : (position : Position) → own start (applied_by start s pass weight position) pass ≡ based_own s.main mine position
      at_position (Climbing kind level) = applies_own kind level weight
      at_position Resting = refl
      at_position (Trying loaded) = refl
      at_position (Deciding kind level loaded) = refl

  pub on_try : GoesOn start s pass (Load purpose.Try)
  on_try = at_position (s.callers pass).position
    where
      at_position : (position : Position) → own start (loaded_by s pass position) pass ≡ loaded_own s.main mine position
      at_position (Climbing kind level) = own_goes start s pass (Deciding kind level s.main)
      at_position Resting = own_goes start s pass (Trying s.main)
      at_position (Trying loaded) = own_goes start s pass (Trying s.main)
      at_position (Deciding kind level loaded) = own_goes start s pass (Trying s.main)

  one_of : (won lost : State) (a b : Own) (test : Bool) → own start won pass ≡ a → own start lost pass ≡ b → own start (if test then won else lost) pass ≡ (if test then a else b)
  one_of won lost a b true h k = h
  one_of won lost a b false h k = k

  pub on_exchange : (kind : Kind) (amount : ℕ) → GoesOn start s pass (Exchange kind amount)
  on_exchange kind amount = at_position (s.callers pass).position
    where
      at_position : (position : Position) → own start (exchanged_by start s pass kind amount position) pass ≡ exchanged_own pass kind amount s.main mine position
      at_position (Trying loaded) =
          one_of (goes_to (makes start s pass kind amount) pass Resting) (goes_to s pass Resting) (in_position (with_call mine pass kind amount) Resting) (in_position mine Resting) (s.main == loaded)
          (own_goes start (makes start s pass kind amount) pass Resting ∙ ap (λ (o : Own). in_position o Resting) (makes_own kind amount)) (own_goes start s pass Resting)
      at_position (Deciding k level loaded) =
          one_of (goes_to (applies start s pass k level amount) pass (Climbing k level)) (goes_to s pass (Climbing k level))
          (in_position (in_stage mine k level (based_stage s.main (stage start s k level pass))) (Climbing k level)) (in_position mine (Climbing k level)) (s.main == loaded)
          (own_goes start (applies start s pass k level amount) pass (Climbing k level) ∙ ap (λ (o : Own). in_position o (Climbing k level)) (applies_own k level amount)) (own_goes start s pass (Climbing k level))
      at_position Resting = refl
      at_position (Climbing k level) = refl
