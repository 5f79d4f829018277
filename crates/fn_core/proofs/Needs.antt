-- Who doesn't need a row doesn't after any events of which none publishes it.
use Rattle.std.proofs.Common.{◌≡◌, inl, inr, ℕ, List, [], ◌∷◌, ◌++◌, sym, ◌∙◌, ap, subst}
use Rattle.std.proofs.lemmas.Bool.{cases_lt}
use Rattle.fn_model.specs.declared.Kind.{Kind}
use Rattle.fn_rows.specs.Machine as local_step
use Rattle.fn_rows.specs.Trace.{Traced}
use Rattle.fn_rows.specs.Law.{HasArrived, Needs}
use Rattle.fn_rows.specs.Law as law
use Rattle.fn_rows.proofs.Invariant.{Inv, IsUnneededBy}
use Rattle.fn_rows.proofs.Words.{let_by}
use Rattle.fn_rows.proofs.Laws.{not_needed}
use Rattle.fn_rows.proofs.Unneeded.{unneeded_after}
use Rattle.fn_core.specs.declared.Move.{Move}
use Rattle.fn_core.specs.declared.Move.TheVariants.{Scan, See, Announce, Arrive, Look, Close, Apply, Head, Fill, Point, Publish, Peek, Leave, Load, Exchange, Direct, Glance}
use Rattle.fn_core.specs.declared.Event.{Event}
use Rattle.fn_core.specs.Tree.{aggregator, member, members}
use Rattle.fn_core.specs.State.{Start, State, opened}
use Rattle.fn_core.specs.Machine.{IsStart, Allowed, Legal, run, effect}
use Rattle.fn_core.specs.Steps.{IsStepOf}
use Rattle.fn_core.specs.Needs.{Publishes, NonePublishes, ScansAreEnough, UnneededRowsStay}
use Rattle.fn_core.proofs.Filling.{legal_push, run_push}
use Rattle.fn_core.proofs.Laws.{holds}
use Rattle.fn_core.proofs.Steps.{events_are_steps}

-- only a publish takes a step that publishes
pub publish_alone : (start : Start) (s : State) (p : ℕ) (move : Move) (kind : Kind) (level : ℕ) (step : local_step.Step) (m : ℕ) → IsStepOf start s p move kind level step → step ≡ local_step.Publish m → (move ≡ Publish kind level) × (m ≡ member start.shape level p)
publish_alone start s p (Scan k l other) kind level step m is e = absurd (cc (is.2, e))
publish_alone start s p (See k l) kind level step m is e = absurd (cc (is.2, e))
publish_alone start s p (Announce k l) kind level step m is e = absurd (cc (is.2, e))
publish_alone start s p (Arrive k l weight) kind level step m is e = absurd (cc (is.2, e))
publish_alone start s p (Look k l) kind level step m is e = absurd (cc (is.2, e))
publish_alone start s p (Close k l) kind level step m is e = absurd (cc (is.2, e))
publish_alone start s p (Apply weight) kind level step m is e = absurd (cc (is.1, e))
publish_alone start s p (Head k l) kind level step m is e = absurd (cc (is.2, e))
publish_alone start s p (Fill row field) kind level step m is e = absurd (cc (is.1, e))
publish_alone start s p (Point k l row) kind level step m is e = absurd (cc (is.2, e))
publish_alone start s p (Publish k l) kind level step m is e =
    let same : m ≡ member start.shape l p = cc (is.2, e) in
    (cc (is.0, is.1), same ∙ ap (λ (x : ℕ). member start.shape x p) (sym is.1))
publish_alone start s p (Peek row field) kind level step m is e = absurd (cc (is.1, e))
publish_alone start s p (Leave k l) kind level step m (c, inl is) e = absurd (cc (is.1, e))
publish_alone start s p (Leave k l) kind level step m (c, inr is) e = absurd (cc (is.1, e))
publish_alone start s p (Load x) kind level step m is e = absurd is
publish_alone start s p (Exchange k amount) kind level step m is e = absurd (cc (is.3, e))
publish_alone start s p (Direct amount) kind level step m is e = absurd is
publish_alone start s p Glance kind level step m is e = absurd is

module _ (start : Start) (kind : Kind) (level index q r : ℕ) where
  abbrev IsUnneeded : State → Type 0
  IsUnneeded s = IsUnneededBy (s.rows kind level index) q r

  -- a step that publishes is an event that does
  publishes : (s : State) (event : Event) (step : local_step.Step) → index ≡ aggregator start.shape event.pass level → IsStepOf start s event.pass event.step kind level step → law.Publishes (s.rows kind level index).state r step → Publishes start s event kind level index r
  publishes s event step here is (m, at, hi, b, publish, pointed) =
      let alone = publish_alone start s event.pass event.step kind level step m is publish in
      (alone.0, sym here, (at, hi, b, ap (s.rows kind level (aggregator start.shape event.pass level)).stage (sym alone.1) ∙ ap (λ (i : ℕ). (s.rows kind level i).stage m) (sym here) ∙ pointed))

  inv_at : (log : List Event) → IsStart start → Legal start log (opened start) → Inv (members start.shape level index) start.shape.rows ((run start log (opened start)).rows kind level index)
  inv_at log ok legal = (holds start log ok legal).0.good.inv kind level index

  -- after one event
  unneeded_next : (log : List Event) → IsStart start → Legal start log (opened start) → (event : Event) → Allowed start (run start log (opened start)) event → (Publishes start (run start log (opened start)) event kind level index r → ⊥) → IsUnneeded (run start log (opened start)) → IsUnneeded (effect start (run start log (opened start)) event)
  unneeded_next log ok legal event allowed not unneeded =
      let s : State = run start log (opened start) in
      elim ((events_are_steps start log ok legal event allowed).0 kind level index) [
        | inl same ↦ subst (λ (t : Traced). IsUnneededBy t q r) (sym same) unneeded
        | inr step ↦ subst (λ (t : Traced). IsUnneededBy t q r) (sym step.3)
            (unneeded_after (s.rows kind level index) r (members start.shape level index) start.shape.rows (inv_at log ok legal) step.0 q (λ h. not (publishes s event step.0 step.1 step.2 h)) unneeded)
      ]

  -- after more events
  unneeded_until : (log later : List Event) → IsStart start → Legal start log (opened start) → Legal start later (run start log (opened start)) → NonePublishes start kind level index r later (run start log (opened start)) → IsUnneeded (run start log (opened start)) → IsUnneeded (run start later (run start log (opened start)))
  unneeded_until log [] ok legal more none unneeded = unneeded
  unneeded_until log (event ∷ later) ok legal more none unneeded =
      let same : run start (log ++ event ∷ []) (opened start) ≡ effect start (run start log (opened start)) event = run_push start log event (opened start) in
      subst (λ (x : State). IsUnneeded (run start later x)) same
      (unneeded_until (log ++ event ∷ []) later ok (legal_push start log event (opened start) legal more.0) (subst (Legal start later) (sym same) more.1) (subst (NonePublishes start kind level index r later) (sym same) none.1)
      (subst IsUnneeded (sym same) (unneeded_next log ok legal event more.0 none.0 unneeded)))

pub scans_are_enough : ScansAreEnough
scans_are_enough start log ok legal later more kind level index q r lets none needs =
    let old : Traced = (run start log (opened start)).rows kind level index in
    let unneeded = let_by (members start.shape level index) start.shape.rows old (inv_at start kind level index q r log ok legal) q r lets in
    not_needed ((run start later (run start log (opened start))).rows kind level index) q r (unneeded_until start kind level index q r log later ok legal more none unneeded) needs

pub unneeded_rows_stay : UnneededRowsStay
unneeded_rows_stay start log ok legal later more kind level index q r free none needs =
    let old : Traced = (run start log (opened start)).rows kind level index in
    let unneeded : IsUnneededBy old q r = λ at h. elim (cases_lt at (old.end r)) [
      | inl below ↦ absurd (free (at, h, below))
      | inr past ↦ past
    ] in
    not_needed ((run start later (run start log (opened start))).rows kind level index) q r (unneeded_until start kind level index q r log later ok legal more none unneeded) needs
