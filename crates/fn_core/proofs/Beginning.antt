-- The scans of a call's beginning: they change nothing that a beginning reads, and each stays known.
use Rattle.std.proofs.Common.{◌≡◌, ◌≢◌, ◌⊎◌, inl, inr, ℕ, ◌<◌, ◌≤◌, Bool, true, false, List, [], ◌∷◌, Option, Some, not, refl, sym, ◌∙◌, ap, subst, arith}
use Rattle.std.specs.Prelude.{if◌then◌else◌, ◌==◌}
use Rattle.std.specs.List.{range_with_len}
use Rattle.std.proofs.lemmas.Bool.{cases_eq, eqb-true, eq-eqb, false≢true, and_parts}
use Rattle.fn_model.specs.declared.Kind.{Kind}
use Rattle.fn_layout.specs.Words.{Announcement}
use Rattle.fn_rows.specs.Machine as local_step
use Rattle.fn_rows.specs.Machine.{put}
use Rattle.fn_rows.specs.Trace.{Traced, traced}
use Rattle.fn_rows.proofs.Put.{put_case, put_here}
use Rattle.fn_core.specs.declared.Move.{Move}
use Rattle.fn_core.specs.declared.Move.TheVariants.{Scan}
use Rattle.fn_core.specs.Tree.{aggregator, member}
use Rattle.fn_core.specs.State.{Start, Resting, Caller, State, local}
use Rattle.fn_core.specs.Machine.{IsChange, May, place, moves, Legal, run}
use Rattle.fn_core.specs.Words.{word}
use Rattle.fn_core.specs.Begin.{up_to, is_other, others, row_end, blocks, scanned, row_scans, rows_tried, level_scans, is_full, scans, events_of}
use Rattle.fn_core.proofs.Places.{put_at_case, put_at_here}
use Rattle.fn_core.proofs.Among.{Has, has_up_to, from_map, from_flat_map, from_filter, from_range}

-- what a beginning reads of a state is what it was
pub record Still (old new : State) : Type 0 where
  pub callers : new.callers ≡ old.callers
  pub announced : (kind : Kind) (level index : ℕ) → (new.rows kind level index).announced ≡ (old.rows kind level index).announced
  pub ends : (kind : Kind) (level index : ℕ) → (new.rows kind level index).end ≡ (old.rows kind level index).end

pub still_same : (s : State) → Still s s
still_same s = record { callers = refl; announced = λ kind level index. refl; ends = λ kind level index. refl }

pub still_longer : (first then_was now : State) → Still first then_was → Still then_was now → Still first now
still_longer first then_was now a b = record {
  callers = b.callers ∙ a.callers;
  announced = λ kind level index. b.announced kind level index ∙ a.announced kind level index;
  ends = λ kind level index. b.ends kind level index ∙ a.ends kind level index;
}

-- the step is a scan that the pass may take while it rests
pub record IsScan (start : Start) (pass : ℕ) (kind : Kind) (step : Move) : Type 0 where
  pub level : ℕ
  pub other : ℕ
  pub is : step ≡ Scan kind level other
  pub low : 1 ≤ level
  pub high : level ≤ start.shape.levels
  pub range : other < start.shape.passes
  pub another : other ≢ pass
  pub same : aggregator start.shape other level ≡ aggregator start.shape pass level

abbrev pub AreScans : Start → ℕ → Kind → List Move → Type 0
AreScans start pass kind steps = (step : Move) → Has steps step → IsScan start pass kind step

module _ (start : Start) (pass : ℕ) (kind : Kind) where
  -- the pass loads an announcement
  abbrev pub scan_of : State → ℕ → ℕ → State
  scan_of s level other = local start s kind level pass (λ m. local_step.Scan m (member start.shape level other))

  -- what the pass found of another is what that one announces
  abbrev pub Knows : State → State → ℕ → ℕ → Type 0
  Knows s now level other = (place start now kind level pass).found (member start.shape level pass) (member start.shape level other) ≡ Some (word start s (Announcement other kind level))

  still_scan : (s : State) (level other : ℕ) → Still s (scan_of s level other)
  still_scan s level other =
      let index : ℕ = aggregator start.shape pass level in
      let later : Traced = traced (s.rows kind level index) (local_step.Scan (member start.shape level pass) (member start.shape level other)) in
      record {
        callers = refl;
        announced = λ k l i. put_at_case (λ k l i t. t.announced ≡ (s.rows k l i).announced) s.rows kind level index later refl k l i refl;
        ends = λ k l i. put_at_case (λ k l i t. t.end ≡ (s.rows k l i).end) s.rows kind level index later refl k l i refl;
      }

  module _ (s now : State) (still : Still s now) where
    -- what stands in the place of a scan that the pass makes now
    abbrev then_there : ℕ → ℕ → Traced
    then_there level other = traced (place start now kind level pass) (local_step.Scan (member start.shape level pass) (member start.shape level other))

    announces : (level other : ℕ) → aggregator start.shape other level ≡ aggregator start.shape pass level → (place start now kind level pass).announced (member start.shape level other) ≡ word start s (Announcement other kind level)
    announces level other same =
        ap (λ (f : ℕ → ℕ). f (member start.shape level other)) (still.announced kind level (aggregator start.shape pass level))
        ∙ ap (λ (i : ℕ). (s.rows kind level i).announced (member start.shape level other)) (sym same)

    found_here : (level scanned other : ℕ) → aggregator start.shape other level ≡ aggregator start.shape pass level → (other ≡ scanned) ⊎ Knows s now level other
        → (then_there level scanned).found (member start.shape level pass) (member start.shape level other) ≡ Some (word start s (Announcement other kind level))
    found_here level scanned other same known =
        let m : ℕ = member start.shape level pass in
        let q : ℕ = member start.shape level other in
        let t : Traced = place start now kind level pass in
        let p : ℕ = member start.shape level scanned in
        let row : ℕ → Option ℕ = put (t.found m) p (Some (t.announced p)) in
        let result : Option ℕ = Some (word start s (Announcement other kind level)) in
        ap (λ (f : ℕ → Option ℕ). f q) (put_here t.found m row m refl)
        ∙ put_case (λ (x : Option ℕ). x ≡ result) (t.found m) p (Some (t.announced p)) q
        (λ is. ap (λ (x : ℕ). Some (t.announced x)) (sym is) ∙ ap Some (announces level other same))
        (λ apart. elim known [ inl is ↦ absurd (apart (ap (member start.shape level) is)) | inr before ↦ before ])

    -- after one more scan
    knows_after : (level at scanned other : ℕ) → aggregator start.shape other level ≡ aggregator start.shape pass level → ((level ≡ at) × (other ≡ scanned)) ⊎ Knows s now level other → Knows s (scan_of now at scanned) level other
    knows_after level at scanned other same known =
        let m : ℕ = member start.shape level pass in
        let q : ℕ = member start.shape level other in
        let index : ℕ = aggregator start.shape pass level in
        let result : Option ℕ = Some (word start s (Announcement other kind level)) in
        elim (cases_eq level at) [
          | inl here ↦ subst (λ (l : ℕ). Knows s (scan_of now l scanned) level other) here
              (ap (λ (t : Traced). t.found m q) (put_at_here now.rows kind level index (then_there level scanned)) ∙ found_here level scanned other same (elim known [ inl both ↦ inl both.1 | inr before ↦ inr before ]))
          | inr apart ↦ elim known [
            | inl both ↦ absurd (apart both.0)
            | inr before ↦ put_at_case (λ k l i t. l ≢ at → t.found m q ≡ result) now.rows kind at (aggregator start.shape pass at) (then_there at scanned) (λ ne. absurd (ne refl)) kind level index (λ ne. before) apart
          ]
        ]

  module _ (range : pass < start.shape.passes) (change : IsChange kind) where
    -- scans may be made while the pass rests, and change nothing that a beginning reads
    pub scans_happen : (steps : List Move) → AreScans start pass kind steps → (s : State) → (s.callers pass).position ≡ Resting → Legal start (events_of pass steps) s × Still s (run start (events_of pass steps) s)
    scans_happen [] are s rests = (tt, still_same s)
    scans_happen (step ∷ steps) are s rests =
        let is = are step (inl refl) in
        let next : State = moves start s pass step in
        let still : Still s next = subst (λ (x : Move). Still s (moves start s pass x)) (sym is.is) (still_scan s is.level is.other) in
        let more = scans_happen steps (λ x has. are x (inr has)) next (ap (λ (f : ℕ → Caller). (f pass).position) still.callers ∙ rests) in (
          ((range, subst (λ (x : Move). May start s pass x) (sym is.is) (rests, change, is.low, is.high, is.range, is.another, is.same)), more.0),
          still_longer s next (run start (events_of pass steps) next) still more.1,
        )

  -- what was scanned stays known
  pub scans_know : (steps : List Move) → AreScans start pass kind steps → (s now : State) → Still s now → (level other : ℕ) → aggregator start.shape other level ≡ aggregator start.shape pass level
      → Has steps (Scan kind level other) ⊎ Knows s now level other → Knows s (run start (events_of pass steps) now) level other
  scans_know [] are s now still level other same (inl has) = absurd has
  scans_know [] are s now still level other same (inr known) = known
  scans_know (step ∷ steps) are s now still level other same either =
      let is = are step (inl refl) in
      let next : State = moves start now pass step in
      let on : Still now next = subst (λ (x : Move). Still now (moves start now pass x)) (sym is.is) (still_scan now is.level is.other) in
      let rest = scans_know steps (λ x has. are x (inr has)) s next (still_longer s now next still on) level other same in
      let here : ((level ≡ is.level) × (other ≡ is.other)) ⊎ Knows s now level other → Knows s next level other = λ k. subst (λ (x : Move). Knows s (moves start now pass x) level other) (sym is.is) (knows_after s now still level is.level is.other other same k) in
      elim either [
        | inl (inl first) ↦ let e : Scan kind level other ≡ Scan kind is.level is.other = first ∙ is.is in rest (inr (here (inl (cc, cc))))
        | inl (inr later) ↦ rest (inl later)
        | inr known ↦ rest (inr (here (inr known)))
      ]

  -- another pass of the aggregator
  pub other_is : (level q : ℕ) → Has (others start.shape level pass) q → (q < start.shape.passes) × (q ≢ pass) × (aggregator start.shape q level ≡ aggregator start.shape pass level)
  other_is level q has =
      let kept = from_filter (is_other start.shape level pass) (range_with_len 0 start.shape.passes) q has in
      let inside = from_range 0 start.shape.passes q kept.0 in
      let both = and_parts (aggregator start.shape q level == aggregator start.shape pass level) (not (q == pass)) kept.1 in
      (omega (arith, inside.1), (λ same. absurd (false≢true (sym (ap not (eq-eqb q pass same)) ∙ both.1))), eqb-true (aggregator start.shape q level) (aggregator start.shape pass level) both.0)

  pub scanned_other : (xs : List ℕ) (test : ℕ → Bool) (b : Bool) (q : ℕ) → Has (if b then [] else up_to test xs) q → Has xs q
  scanned_other xs test true q has = absurd has
  scanned_other xs test false q has = has_up_to test xs q has

  -- the scans of a beginning
  pub scans_are : (s : State) → AreScans start pass kind (scans start s kind pass)
  scans_are s step has =
      let at_level = from_flat_map (level_scans start s kind pass) (up_to (is_full start s kind pass) (range_with_len 1 start.shape.levels)) step has in
      let level : ℕ = at_level.0 in
      let inside = from_range 1 start.shape.levels level (has_up_to (is_full start s kind pass) (range_with_len 1 start.shape.levels) level at_level.1) in
      let at_row = from_flat_map (row_scans start s kind level pass) (rows_tried start s kind level pass) step at_level.2 in
      let end : ℕ = row_end start s kind level pass at_row.0 in
      let scan = from_map (λ q. Scan kind level q) (scanned start s kind level pass end) step at_row.2 in
      let other = other_is level scan.0 (scanned_other (others start.shape level pass) (blocks start s kind level end) (end == 0) scan.0 scan.1) in
      record { level = level; other = scan.0; is = scan.2; low = inside.0; high = omega (arith, inside.1); range = other.0; another = other.1; same = other.2 }
