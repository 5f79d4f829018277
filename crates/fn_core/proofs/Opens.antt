-- A row that was tried may be filled, by what the pass has found of the others, just where nobody blocks it.
use Rattle.std.proofs.Common.{◌≡◌, ◌≢◌, inl, inr, ℕ, ◌+◌, ◌*◌, ◌<◌, Bool, true, false, List, [], ◌∷◌, ◌++◌, Option, Some, None, is_none, not, refl, sym, ◌∙◌, ap, subst, arith}
use Rattle.std.specs.Prelude.{if◌then◌else◌, ◌==◌}
use Rattle.std.specs.List.{range_with_len, find}
use Rattle.std.proofs.lemmas.Bool.{cases_eq, eq-eqb, ne_eqb, false≢true, and_from}
use Rattle.fn_model.specs.declared.Kind.{Kind}
use Rattle.fn_layout.specs.Tree.{pass_of}
use Rattle.fn_layout.specs.Words.{Announcement}
use Rattle.fn_layout.proofs.Tree.{aggregator_below}
use Rattle.fn_layout.proofs.Members.{members_are_numbered, numbers_are_members}
use Rattle.fn_layout.proofs.Members as layout
use Rattle.fn_rows.specs.Machine.{Lets}
use Rattle.fn_core.specs.declared.Move.TheVariants.{Scan}
use Rattle.fn_core.specs.Tree.{aggregator, member, members}
use Rattle.fn_core.specs.State.{Start, State}
use Rattle.fn_core.specs.Machine.{place}
use Rattle.fn_core.specs.Words.{word}
use Rattle.fn_core.specs.Order.{lets, is_free}
use Rattle.fn_core.specs.Begin.{up_to, is_other, others, row_end, blocks, blocker, scanned, is_open, rows_tried, row_scans, level_scans, is_full, scans}
use Rattle.fn_core.proofs.FirstFree.{is_free_means, means_is_free}
use Rattle.fn_core.proofs.Among.{Has, IsFound, found_is, all_reached, has_range, has_filter, has_map, has_flat_map, none_found}
use Rattle.fn_core.proofs.Tries.{scanned_filled, blocker_filled, lets_holds, holds_lets, not_false, none_is}
use Rattle.fn_core.proofs.Beginning.{Knows, other_is}

-- the levels that a beginning tries
abbrev pub levels_tried : Start → State → Kind → ℕ → List ℕ
levels_tried start s kind pass = up_to (is_full start s kind pass) (range_with_len 1 start.shape.levels)

-- each scan of a beginning is known
abbrev pub KnowsAll : Start → ℕ → Kind → State → State → Type 0
KnowsAll start pass kind s now =
    (level n q : ℕ) → Has (levels_tried start s kind pass) level → Has (rows_tried start s kind level pass) n → Has (scanned start s kind level pass (row_end start s kind level pass n)) q → Knows start pass kind s now level q

-- a pass that is scanned for a row that is tried is among the scans
pub scan_among : (start : Start) (pass : ℕ) (kind : Kind) (s : State) (level n q : ℕ) → Has (levels_tried start s kind pass) level → Has (rows_tried start s kind level pass) n → Has (scanned start s kind level pass (row_end start s kind level pass n)) q → Has (scans start s kind pass) (Scan kind level q)
scan_among start pass kind s level n q at_level at_row has =
    has_flat_map (level_scans start s kind pass) (levels_tried start s kind pass) level (Scan kind level q) at_level
    (has_flat_map (row_scans start s kind level pass) (rows_tried start s kind level pass) n (Scan kind level q) at_row
    (has_map (λ x. Scan kind level x) (scanned start s kind level pass (row_end start s kind level pass n)) q has))

-- who blocks a row was scanned last, and blocks it
pub record IsBlocker (start : Start) (s : State) (pass : ℕ) (kind : Kind) (level n q : ℕ) : Type 0 where
  pub filled : row_end start s kind level pass n ≢ 0
  pub found : IsFound (blocks start s kind level (row_end start s kind level pass n)) (others start.shape level pass) q
  pub reached : Has (scanned start s kind level pass (row_end start s kind level pass n)) q
  pub last : (earlier : List ℕ) × (scanned start s kind level pass (row_end start s kind level pass n) ≡ earlier ++ q ∷ [])

pub blocker_is : (start : Start) (s : State) (pass : ℕ) (kind : Kind) (level n q : ℕ) → blocker start s kind level pass (row_end start s kind level pass n) ≡ Some q → IsBlocker start s pass kind level n q
blocker_is start s pass kind level n q is =
    let end : ℕ = row_end start s kind level pass n in
    let test : ℕ → Bool = blocks start s kind level end in
    let all : List ℕ = others start.shape level pass in
    elim (cases_eq end 0) [
      | inl never ↦ let none : None ≡ Some q = sym (ap (λ (b : Bool). if b then None else find test all) (eq-eqb end 0 never)) ∙ is in absurd (cc)
      | inr filled ↦
          let found = found_is test all q (sym (blocker_filled start s kind level pass end filled) ∙ is) in
          let same = scanned_filled start s kind level pass end filled in
          record { filled = filled; found = found; reached = subst (λ (xs : List ℕ). Has xs q) (sym same) found.reached; last = (found.last.0, same ∙ found.last.1) }
    ]

module _ (start : Start) (pass : ℕ) (kind : Kind) (s now : State) (ends : (level : ℕ) → (place start now kind level pass).end ≡ (place start s kind level pass).end) (knows : KnowsAll start pass kind s now) (level n : ℕ) (at_level : Has (levels_tried start s kind pass) level) (at_row : Has (rows_tried start s kind level pass) n) where
  abbrev m : ℕ
  m = member start.shape level pass

  abbrev r : ℕ
  r = m * start.shape.rows + n

  abbrev index : ℕ
  index = aggregator start.shape pass level

  abbrev end : ℕ
  end = row_end start s kind level pass n

  same_end : (place start now kind level pass).end r ≡ end
  same_end = ap (λ (f : ℕ → ℕ). f r) (ends level)

  -- what a pass found of the passes that it scanned lets a row be filled that nobody blocks
  all_let : end ≢ 0 → blocker start s kind level pass end ≡ None → (q : ℕ) → q < members start.shape level index → q ≢ m → (word : ℕ) × ((place start now kind level pass).found m q ≡ Some word) × Lets word ((place start now kind level pass).end r)
  all_let filled nobody q within apart =
      let test : ℕ → Bool = blocks start s kind level end in
      let all : List ℕ = others start.shape level pass in
      let none : find test all ≡ None = sym (blocker_filled start s kind level pass end filled) ∙ nobody in
      let other : ℕ = pass_of start.shape level index q in
      let of = numbers_are_members start.shape level index q (aggregator_below start.shape pass level) within in
      let another : other ≢ pass = λ e. apart (sym of.2 ∙ ap (member start.shape level) e) in
      let among : Has all other = has_filter (is_other start.shape level pass) (range_with_len 0 start.shape.passes) other (has_range 0 start.shape.passes other (omega arith) (omega (arith, of.0)))
      (and_from (aggregator start.shape other level == index) (not (other == pass)) (eq-eqb (aggregator start.shape other level) index of.1) (ap not (ne_eqb other pass another))) in
      let reached : Has (scanned start s kind level pass end) other = subst (λ (xs : List ℕ). Has xs other) (sym (scanned_filled start s kind level pass end filled ∙ all_reached test all none)) among in
      let loaded : ℕ = word start s (Announcement other kind level) in (
        loaded,
        ap (λ (x : ℕ). (place start now kind level pass).found m x) (sym of.2) ∙ knows level n other at_level at_row reached,
        subst (λ (x : ℕ). Lets loaded x) (sym same_end) (lets_holds loaded end (not_false (lets (Some loaded) end) (none_found test all other none among))),
      )

  open_is_free : is_open start s kind level pass n ≡ true → is_free start now kind level pass n ≡ true
  open_is_free is = means_is_free start now kind level pass n (elim (cases_eq end 0) [
    | inl never ↦ inl (same_end ∙ never)
    | inr filled ↦ inr (all_let filled (none_is (blocker start s kind level pass end) is))
  ])

  blocked_is_not_free : (q : ℕ) → blocker start s kind level pass end ≡ Some q → is_free start now kind level pass n ≡ true → ⊥
  blocked_is_not_free q is free =
      let by = blocker_is start s pass kind level n q is in
      let of = other_is start pass kind level q by.found.inside in
      let loaded : ℕ = word start s (Announcement q kind level) in
      elim (is_free_means start now kind level pass n free) [
        | inl never ↦ by.filled (sym same_end ∙ never)
        | inr each ↦
            let within = subst (λ (i : ℕ). member start.shape level q < members start.shape level i) of.2 (members_are_numbered start.shape q level of.0).0 in
            let found = each (member start.shape level q) within (λ e. of.1 (layout.member_apart start.shape q pass level of.2 e)) in
            let same : Some found.0 ≡ Some loaded = sym found.1 ∙ knows level n q at_level at_row by.reached in
            let word_is : found.0 ≡ loaded = cc in
            let holds : lets (Some loaded) end ≡ true = holds_lets loaded end (subst (λ (x : ℕ). Lets x end) word_is (subst (λ (x : ℕ). Lets found.0 x) same_end found.2)) in
            false≢true (sym (ap not holds) ∙ by.found.holds)
      ]

  -- a row that was tried is free just where it is open
  pub tried_same : is_free start now kind level pass n ≡ is_open start s kind level pass n
  tried_same = by (blocker start s kind level pass end) refl (is_free start now kind level pass n) refl
    where
      by : (o : Option ℕ) → blocker start s kind level pass end ≡ o → (b : Bool) → is_free start now kind level pass n ≡ b → is_free start now kind level pass n ≡ is_open start s kind level pass n
      by None is b free = open_is_free (ap is_none is) ∙ sym (ap is_none is)
      by (Some q) is true free = absurd (blocked_is_not_free q is free)
      by (Some q) is false free = free ∙ sym (ap is_none is)
