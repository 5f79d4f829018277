-- What the invariant says.
use Rattle.std.proofs.Common.{◌≡◌, ◌⊎◌, inl, inr, ⊎_elim, ℕ, zero, suc, ◌-◌, ◌<◌, ◌≤◌, List, [], ◌∷◌, ◌++◌, refl, sym, ◌∙◌, ap, subst, arith}
use Rattle.std.specs.Prelude.{Some, None, true}
use Rattle.fn_rows.specs.Machine.{Stage, FilledLo, FilledBase, Filled, Pointed, At, Over, Hit, offset, Field, Lo, Base, Prev, Step, Fill, start, Lets, Allowed, AllAllowed}
use Rattle.fn_rows.specs.Trace.{Batch, Traced, nothing, traced, run}
use Rattle.fn_rows.specs.Law.{end_of, link_of, IsChained, IsIn, Stands, Needs, leads, row_filled, row_mixed, row_in_hand, follow, HoldsBatch, IsOrdered, IsTold, IsKept, NonePublishes}
use Rattle.fn_rows.proofs.Invariant.{Calm, Leading, IsUnneededBy, IsUnneeded, IsOurs, Inv, inv_start, in_below, led}
use Rattle.fn_rows.proofs.Moves.{one_leader, chained_published, linked_total, end_done, not_awaited, IsNotPointed}
use Rattle.fn_rows.proofs.Words.{free_unneeded, let_by}
use Rattle.fn_rows.proofs.Steps.{reaches}
use Rattle.fn_rows.proofs.Unneeded.{unneeded_until}

-- a member that doesn't need a row doesn't
pub not_needed : (s : Traced) (q r : ℕ) → IsUnneededBy s q r → Needs s.state q r → ⊥
not_needed s q r unneeded needs = let le = unneeded needs.0 needs.1 in omega (arith, le, needs.2)

-- one that leads and has begun to fill a row
pub filled_unneeded : (s : Traced) (total : ℕ) (mine : ℕ → Type 0) (g : Stage) (r : ℕ) → row_filled g ≡ Some r → Leading s total mine g → mine r
filled_unneeded s total mine (FilledLo at hi b h row) r is l = let same : row ≡ r = cc (is) in subst mine same l.2
filled_unneeded s total mine (FilledBase at hi b h row) r is l = let same : row ≡ r = cc (is) in subst mine same l.2
filled_unneeded s total mine (Filled at hi b row) r is l = let same : row ≡ r = cc (is) in subst mine same l.1
filled_unneeded s total mine (Pointed at hi b row) r is l = let same : row ≡ r = cc (is) in subst mine same l.1
filled_unneeded s total mine _ r is l = absurd (cc (is))

mixed_filled : (g : Stage) (r : ℕ) → row_mixed g ≡ Some r → row_filled g ≡ Some r
mixed_filled (FilledLo at hi b h row) r is = is
mixed_filled (FilledBase at hi b h row) r is = is
mixed_filled (Filled at hi b row) r is = is
mixed_filled _ r is = absurd (cc (is))

mixed_leads : (g : Stage) (r : ℕ) → row_mixed g ≡ Some r → leads g ≡ true
mixed_leads (FilledLo at hi b h row) r is = refl
mixed_leads (FilledBase at hi b h row) r is = refl
mixed_leads (Filled at hi b row) r is = refl
mixed_leads _ r is = absurd (cc (is))

mixed_not_pointed : (g : Stage) (r : ℕ) → row_mixed g ≡ Some r → IsNotPointed g
mixed_not_pointed g r is at hi b row same = let none : row_mixed g ≡ None = ap row_mixed same in absurd (cc (none, is))

-- the newest batch, by its row
newest_row : (l : List Batch) (r : ℕ) → link_of l ≡ suc r → (c : Batch) × IsIn c l × (c.row ≡ r) × (end_of l ≡ c.hi)
newest_row [] r is = absurd (omega arith)
newest_row (c ∷ cs) r is = (c, inl refl, omega arith, refl)

-- the batch that a late member has in hand
abbrev pub InHand : ℕ → List Batch → ℕ → ℕ → Type 0
InHand done linked at r = (b : Batch) × IsIn b linked × (b.row ≡ r) × (at < b.hi) × (at < done)

pub hand_batch : (done announced : ℕ) (linked : List Batch) (g : Stage) (at r : ℕ) → Calm done announced linked g → offset g ≡ Some at → row_in_hand g ≡ Some r → InHand done linked at r
hand_batch done announced linked (At a row) at r c o is = let at_is : a ≡ at = cc (o) in let row_is : row ≡ r = cc (is) in (c.0, c.1, c.2 ∙ row_is, omega (arith, c.3), omega (arith, c.4))
hand_batch done announced linked (Over a row) at r c o is = let at_is : a ≡ at = cc (o) in let row_is : row ≡ r = cc (is) in (c.0, c.1, c.2 ∙ row_is, omega (arith, c.3), omega (arith, c.5))
hand_batch done announced linked (Hit a row lo) at r c o is = let at_is : a ≡ at = cc (o) in let row_is : row ≡ r = cc (is) in (c.0, c.1, c.2 ∙ row_is, omega (arith, c.3), omega (arith, c.6))
hand_batch done announced linked _ at r c o is = absurd (cc (is))

-- from the newest batch to one that ends past the offset, along rows that stand
reach : (s : Traced) (at : ℕ) (l : List Batch) (b : Batch) → IsChained l → ((c : Batch) → IsIn c l → at < c.hi → Stands s.state c) → IsIn b l → at < b.hi → (links : ℕ) × (follow s.prev links (link_of l) ≡ suc b.row)
reach s at [] b ch stand i lt = absurd i
reach s at (x ∷ xs) b ch stand (inl e) lt = (zero, ap (λ (y : Batch). suc y.row) (sym e))
reach s at (x ∷ xs) b ch stand (inr i) lt =
    let rest = reach s at xs b ch.3 (λ c j. stand c (inr j)) i lt in
    let stands = stand x (inl refl) (omega (arith, ch.0, ch.1, in_below xs b ch.3 i, lt)) in
    let one : suc x.row - 1 ≡ x.row = omega arith in
    (suc rest.0, ap (λ w. follow s.prev rest.0 w) (ap s.prev one ∙ stands.2 ∙ ch.2) ∙ rest.1)

module _ (members rows : ℕ) (s : Traced) (inv : Inv members rows s) where
  published_linked : (b : Batch) → IsIn b s.published → IsIn b s.linked
  published_linked b i = elim inv.linked_is [
    | inl same ↦ subst (IsIn b) (sym same) i
    | inr awaited ↦ subst (IsIn b) (sym awaited.1) (inr i)
  ]

  -- a batch is published, or begins past every offset below `done`
  published_or_past : (b : Batch) (at : ℕ) → IsIn b s.linked → at < s.done → IsIn b s.published ⊎ (at < b.lo)
  published_or_past b at i lt = elim inv.linked_is [
    | inl same ↦ inl (subst (IsIn b) same i)
    | inr awaited ↦
        let ch = subst IsChained awaited.1 inv.chained in
        let j : (b ≡ awaited.0) ⊎ IsIn b s.published = subst (IsIn b) awaited.1 i in
        ⊎_elim (λ new. inr (omega (arith, lt, inv.done_is, ch.0, ap (λ (y : Batch). y.lo) new))) (λ old. inl old) j
  ]

  pub ordered : IsOrdered s
  ordered = record {
    published = chained_published members rows s inv;
    done = inv.done_is;
    linked = inv.linked_is;
    last = inv.last_is;
    one_leader = one_leader members rows s inv;
    leader = λ m is. led s s.total (IsOurs rows s m) (s.stage m) is (inv.leading m);
    apart = inv.apart;
    arrived = λ m at h. (inv.known m at h).1;
    counted = inv.done_total;
    closed = λ b i. omega (arith, in_below s.linked b inv.chained i, linked_total members rows s inv);
  }

  pub told : IsTold rows s
  told = record {
    saw = λ m seen is. subst (Calm s.done (s.announced m) s.linked) is (inv.calm m);
    told = λ m at h. (inv.known m at h).2;
    scanned = λ m q word r silent own found lets. not_needed s q r (inv.clear m silent q word r own found lets);
  }

  fill_unneeded : (m r word : ℕ) (field : Field) → Allowed members rows s.state (Fill m r field word) → IsUnneeded s r
  fill_unneeded m r word Lo a = let g = a.1 in free_unneeded members rows s inv m r (ap leads g.4) g.5 g.6
  fill_unneeded m r word Base a = let g = a.1 in (filled_unneeded s s.total (IsOurs rows s m) (s.stage m) r (ap row_filled g.4) (inv.leading m)).1
  fill_unneeded m r word Prev a = let g = a.1 in (filled_unneeded s s.total (IsOurs rows s m) (s.stage m) r (ap row_filled g.4) (inv.leading m)).1

  needed_holds : (q r : ℕ) → Needs s.state q r → HoldsBatch s r
  needed_holds q r needs = elim (inv.ended r) [
    | inl none ↦ absurd (omega (arith, none, needs.2))
    | inr has ↦
        let b = has.0 in
        let i = published_linked b has.1 in
        let past : needs.0 < b.hi = omega (arith, has.3, needs.2) in
        let way = reach s needs.0 s.linked b inv.chained (λ c j lt. inv.standing q needs.0 c needs.1 j lt) i past in
        (b, has.1, has.2, has.3, inv.standing q needs.0 b needs.1 i past, (way.0, ap (λ w. follow s.prev way.0 w) inv.last_is ∙ way.1 ∙ ap suc has.2))
  ]

  -- while the row that `last` names is filled again, nobody needs any row
  none_needed : (m r q row : ℕ) → row_mixed (s.stage m) ≡ Some r → s.last ≡ suc r → Needs s.state q row → ⊥
  none_needed m r q row is names needs =
      let m_leads = mixed_leads (s.stage m) r is in
      let unneeded = (filled_unneeded s s.total (IsOurs rows s m) (s.stage m) r (mixed_filled (s.stage m) r is) (inv.leading m)).1 in
      let same = not_awaited members rows s inv m m_leads (mixed_not_pointed (s.stage m) r is) in
      let top = newest_row s.published r (ap link_of (sym same) ∙ sym inv.last_is ∙ names) in
      let end_is : top.0.hi ≤ s.end r = subst (λ x. top.0.hi ≤ s.end x) top.2 (inv.ends top.0 top.1) in
      omega (arith, end_is, top.3, inv.done_is, unneeded q needs.0 needs.1, needs.2, end_done members rows s inv row)

  pub kept : IsKept members rows s
  kept = record {
    fill = λ m r word q field a. not_needed s q r (fill_unneeded m r word field a q);
    filled = λ m r q is. not_needed s q r ((filled_unneeded s s.total (IsOurs rows s m) (s.stage m) r is (inv.leading m)).1 q);
    mixed = none_needed;
    needed = needed_holds;
    pointed = λ m at hi b r is. (subst (Leading s s.total (IsOurs rows s m)) is (inv.leading m)).2;
    awaited = λ a. let ch = subst IsChained a.1 inv.chained in (inv.standing a.2.0 a.0.lo a.0 (ap offset a.2.1) (subst (IsIn a.0) (sym a.1) (inl refl)) ch.1, inv.last_is ∙ ap link_of a.1);
    standing = inv.standing;
    in_hand = λ q at r h is.
        let c = hand_batch s.done (s.announced q) s.linked (s.stage q) at r (inv.calm q) h is in
        (c.0, c.1, c.2, inv.standing q at c.0 h c.1 c.3, c.3, published_or_past c.0 at c.1 c.4);
    hit = λ q at r lo is.
        let c = subst (Calm s.done (s.announced q) s.linked) is (inv.calm q) in
        let published : IsIn c.0 s.published = ⊎_elim (λ old. old) (λ past. absurd (omega (arith, past, c.4))) (published_or_past c.0 at c.1 c.6) in
        (c.0, published, c.2, inv.standing q at c.0 (ap offset is) c.1 c.3, c.5, c.4, c.3);
  }

-- steps and then more steps
pub run_append : (before later : List Step) (s : Traced) → run (before ++ later) s ≡ run later (run before s)
run_append [] later s = refl
run_append (step ∷ steps) later s = run_append steps later (traced s step)

pub allowed_append : (members rows : ℕ) (before later : List Step) (s : Traced) → AllAllowed members rows (before ++ later) s.state → AllAllowed members rows before s.state × AllAllowed members rows later (run before s).state
allowed_append members rows [] later s a = (tt, a)
allowed_append members rows (step ∷ steps) later s a = let rest = allowed_append members rows steps later (traced s step) a.1 in ((a.0, rest.0), rest.1)

pub append_allowed : (members rows : ℕ) (before later : List Step) (s : Traced) → AllAllowed members rows before s.state → AllAllowed members rows later (run before s).state → AllAllowed members rows (before ++ later) s.state
append_allowed members rows [] later s a b = b
append_allowed members rows (step ∷ steps) later s a b = (a.0, append_allowed members rows steps later (traced s step) a.1 b)

pub scanned_until : (members rows q r : ℕ) (before later : List Step) → AllAllowed members rows (before ++ later) start → Lets ((run before nothing).announced q) ((run before nothing).end r) → NonePublishes r later (run before nothing).state → Needs (run (before ++ later) nothing).state q r → ⊥
scanned_until members rows q r before later allowed lets none needs =
    let parts = allowed_append members rows before later nothing allowed in
    let s = run before nothing in
    let inv = reaches members rows before nothing (inv_start members rows) parts.0 in
    let unneeded = unneeded_until members rows later s q r inv parts.1 none (let_by members rows s inv q r lets) in
    not_needed (run later s) q r unneeded (subst (λ t. Needs t.state q r) (run_append before later nothing) needs)
