-- A free row stays free while its pass climbs to it.
use Rattle.std.proofs.Common.{◌≡◌, inl, inr, ⊎_elim, ℕ, refl, sym, ◌∙◌, ap, subst}
use Rattle.std.specs.Prelude.{Option}
use Rattle.std.proofs.lemmas.Bool.{cases_eq}
use Rattle.fn_model.specs.declared.Kind.{Kind}
use Rattle.fn_rows.specs.declared.Stage.{Stage}
use Rattle.fn_rows.specs.declared.Stage.TheVariants.{Saw, Waiting, Lead, Late, Shut, Based, Filled, At, Over, Hit}
use Rattle.fn_rows.specs.declared.Field.{Field}
use Rattle.fn_rows.specs.declared.Field.TheVariants.{Lo, Base, Prev}
use Rattle.fn_rows.specs.Machine.{Lets, IsFree, announce_by, look_by, close_by, hand_by, head_by, fill_by, point_by, peek_by, after}
use Rattle.fn_rows.specs.Machine as local_step
use Rattle.fn_rows.specs.Trace.{Traced}
use Rattle.fn_core.specs.declared.Move.{Move}
use Rattle.fn_core.specs.declared.Move.TheVariants.{Scan, See, Announce, Arrive, Look, Close, Apply, Head, Fill, Point, Publish, Peek, Leave, Load, Exchange, Direct, Glance}
use Rattle.fn_core.specs.Tree.{aggregator, member, members}
use Rattle.fn_core.specs.State.{Start, State, opened}
use Rattle.fn_core.specs.Machine.{run, effect}
use Rattle.fn_core.specs.Steps.{IsStepOf}
use Rattle.fn_core.specs.Laws.{Spares, FreeRowsStay}
use Rattle.fn_core.proofs.Guards.{free_is}
use Rattle.fn_core.proofs.Stays.{own_stays}
use Rattle.fn_core.proofs.Steps.{events_are_steps}

-- the ends of the rows and what the scans found are as they were
abbrev pub Spared : local_step.State → local_step.State → Type 0
Spared old new = (new.end ≡ old.end) × (new.found ≡ old.found)

announce_spares : (s : local_step.State) (m : ℕ) (g : Stage) → Spared s (announce_by s m g)
announce_spares s m (Saw seen) = (refl, refl)
announce_spares s m _ = (refl, refl)

look_spares : (s : local_step.State) (m : ℕ) (g : Stage) → Spared s (look_by s m g)
look_spares s m (Waiting at) = (refl, refl)
look_spares s m _ = (refl, refl)

close_spares : (s : local_step.State) (m : ℕ) (g : Stage) → Spared s (close_by s m g)
close_spares s m (Lead at) = (refl, refl)
close_spares s m _ = (refl, refl)

hand_spares : (s : local_step.State) (m b : ℕ) (g : Stage) → Spared s (hand_by s m b g)
hand_spares s m b (Shut at hi) = (refl, refl)
hand_spares s m b _ = (refl, refl)

head_spares : (s : local_step.State) (m : ℕ) (g : Stage) → Spared s (head_by s m g)
head_spares s m (Based at hi b) = (refl, refl)
head_spares s m (Late at) = (refl, refl)
head_spares s m _ = (refl, refl)

fill_spares : (s : local_step.State) (m r : ℕ) (field : Field) (word : ℕ) (g : Stage) → Spared s (fill_by s m r field word g)
fill_spares s m r Lo word g = (refl, refl)
fill_spares s m r Base word g = (refl, refl)
fill_spares s m r Prev word g = (refl, refl)

point_spares : (s : local_step.State) (m : ℕ) (g : Stage) → Spared s (point_by s m g)
point_spares s m (Filled at hi b r) = (refl, refl)
point_spares s m _ = (refl, refl)

peek_spares : (s : local_step.State) (m : ℕ) (g : Stage) → Spared s (peek_by s m g)
peek_spares s m (At at r) = (refl, refl)
peek_spares s m (Over at r) = (refl, refl)
peek_spares s m (Hit at r lo) = (refl, refl)
peek_spares s m _ = (refl, refl)

-- a step that is no scan, no publish and no leave
abbrev IsSparing : local_step.Step → Type 0
IsSparing (local_step.Scan m q) = ⊥
IsSparing (local_step.Publish m) = ⊥
IsSparing (local_step.Leave m) = ⊥
IsSparing _ = Unit {0}

pub step_spares : (s : local_step.State) (step : local_step.Step) → IsSparing step → Spared s (after s step)
step_spares s (local_step.Scan m q) is = absurd is
step_spares s (local_step.See m) is = (refl, refl)
step_spares s (local_step.Announce m) is = announce_spares s m (s.stage m)
step_spares s (local_step.Arrive m weight) is = (refl, refl)
step_spares s (local_step.Look m) is = look_spares s m (s.stage m)
step_spares s (local_step.Close m) is = close_spares s m (s.stage m)
step_spares s (local_step.Hand_base m b) is = hand_spares s m b (s.stage m)
step_spares s (local_step.Head m) is = head_spares s m (s.stage m)
step_spares s (local_step.Fill m r field word) is = fill_spares s m r field word (s.stage m)
step_spares s (local_step.Point m) is = point_spares s m (s.stage m)
step_spares s (local_step.Publish m) is = absurd is
step_spares s (local_step.Peek m) is = peek_spares s m (s.stage m)
step_spares s (local_step.Leave m) is = absurd is

free_spared : (count : ℕ) (old new : local_step.State) (m r : ℕ) → Spared old new → IsFree count old m r → IsFree count new m r
free_spared count old new m r same free =
    let end : new.end r ≡ old.end r = ap (λ (f : ℕ → ℕ). f r) same.0 in
    ⊎_elim (λ never. inl (end ∙ never))
    (λ scanned. inr (λ q lt ne. let found = scanned q lt ne in (found.0, ap (λ (f : ℕ → ℕ → Option ℕ). f m q) same.1 ∙ found.1, subst (Lets found.0) (sym end) found.2))) free

-- a move that spares a place takes a sparing step there
pub sparing : (start : Start) (s : State) (p : ℕ) (move : Move) (kind : Kind) (level : ℕ) (step : local_step.Step) → Spares move kind level → IsStepOf start s p move kind level step → IsSparing step
sparing start s p (Scan k l other) kind level step spares is = absurd (spares (sym is.0) (sym is.1))
sparing start s p (See k l) kind level step spares is = subst IsSparing (sym is.2) tt
sparing start s p (Announce k l) kind level step spares is = subst IsSparing (sym is.2) tt
sparing start s p (Arrive k l weight) kind level step spares is = subst IsSparing (sym is.2) tt
sparing start s p (Look k l) kind level step spares is = subst IsSparing (sym is.2) tt
sparing start s p (Close k l) kind level step spares is = subst IsSparing (sym is.2) tt
sparing start s p (Apply weight) kind level step spares is = subst IsSparing (sym is.1) tt
sparing start s p (Head k l) kind level step spares is = subst IsSparing (sym is.2) tt
sparing start s p (Fill row field) kind level step spares is = subst IsSparing (sym is.1) tt
sparing start s p (Point k l row) kind level step spares is = subst IsSparing (sym is.2) tt
sparing start s p (Publish k l) kind level step spares is = absurd (spares (sym is.0) (sym is.1))
sparing start s p (Peek row field) kind level step spares is = subst IsSparing (sym is.1) tt
sparing start s p (Leave k l) kind level step spares (e, inl is) = absurd (spares (sym e) (sym is.0))
sparing start s p (Leave k l) kind level step spares (e, inr is) = subst IsSparing (sym is.1) tt
sparing start s p (Load x) kind level step spares is = absurd is
sparing start s p (Exchange k amount) kind level step spares is = subst IsSparing (sym is.3) tt
sparing start s p (Direct amount) kind level step spares is = absurd is
sparing start s p Glance kind level step spares is = absurd is

pub free_rows_stay : FreeRowsStay
free_rows_stay start log ok legal event allowed pass kind level r free spares =
    let s : State = run start log (opened start) in
    let next : State = effect start s event in
    let index : ℕ = aggregator start.shape pass level in
    let m : ℕ = member start.shape level pass in
    let count : ℕ = members start.shape level index in
    elim (cases_eq pass event.pass) [
      | inr ne ↦ (free.0, free_is start pass s next (own_stays start log legal event allowed pass ne) kind level count r free.0 free.1)
      | inl same ↦ elim ((events_are_steps start log ok legal event allowed).0 kind level index) [
        | inl unchanged ↦ (free.0, subst (λ (t : Traced). IsFree count t.state m r) (sym unchanged) free.1)
        | inr step ↦ (
          free.0,
          subst (λ (t : Traced). IsFree count t.state m r) (sym step.3)
              (free_spared count (s.rows kind level index).state (after (s.rows kind level index).state step.0) m r (step_spares (s.rows kind level index).state step.0 (sparing start s event.pass event.step kind level step.0 (spares (sym same)) step.2)) free.1),
        )
      ]
    ]
