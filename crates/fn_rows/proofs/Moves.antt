-- A member goes on to another stage, and no word changes.
use Rattle.std.proofs.Common.{◌≡◌, ◌≢◌, inl, inr, ⊎_elim, ℕ, ◌<◌, ◌≤◌, sym, ◌∙◌, ap, subst, arith}
use Rattle.std.specs.Prelude.{Some, None, true, false}
use Rattle.std.proofs.lemmas.Bool.{cases_Bool}
use Rattle.fn_rows.specs.Machine.{Stage, Pointed, offset, moved}
use Rattle.fn_rows.specs.Trace.{Batch, Traced}
use Rattle.fn_rows.specs.Law.{end_of, IsChained, IsIn, Stands, HasArrived, leads, has_reply}
use Rattle.fn_rows.proofs.Put.{put_case}
use Rattle.fn_rows.proofs.Invariant.{Calm, Leading, IsUnneededBy, IsOurs, IsKnown, Clears, Inv, in_below, led, leading_more}

-- the stage isn't that of a member that has pointed to its batch
abbrev pub IsNotPointed : Stage → Type 0
IsNotPointed g = (at hi b r : ℕ) → g ≡ Pointed at hi b r → ⊥

-- the member goes on to this stage
abbrev pub onto : Traced → ℕ → Stage → Traced
onto s p g = record s { state = moved s.state p g }

-- what the new stage needs
pub record Fits (members rows : ℕ) (s : Traced) (p : ℕ) (g : Stage) : Type 0 where
  pub known : (at : ℕ) → offset g ≡ Some at → IsKnown members s p at
  pub apart : (q at : ℕ) → q ≢ p → offset g ≡ Some at → HasArrived s.state q at → ⊥
  pub standing : (at : ℕ) (b : Batch) → offset g ≡ Some at → IsIn b s.linked → at < b.hi → Stands s.state b
  pub needless : (r at : ℕ) → offset g ≡ Some at → IsUnneededBy s p r → s.end r ≤ at
  pub calm : Calm s.done (s.announced p) s.linked g
  pub leading : Leading s s.total (IsOurs rows s p) g
  pub clear : has_reply g ≡ false → Clears rows s p
  pub not_pointed : IsNotPointed (s.stage p)

module _ (members rows : ℕ) (s : Traced) (inv : Inv members rows s) where
  -- the members that lead are one
  pub one_leader : (m q : ℕ) → leads (s.stage m) ≡ true → leads (s.stage q) ≡ true → m ≡ q
  one_leader m q a b = inv.apart m q s.done (led s s.total (IsOurs rows s m) (s.stage m) a (inv.leading m)) (led s s.total (IsOurs rows s q) (s.stage q) b (inv.leading q))

  pub chained_published : IsChained s.published
  chained_published = elim inv.linked_is [
    | inl same ↦ subst IsChained same inv.chained
    | inr awaited ↦ (subst IsChained awaited.1 inv.chained).3
  ]

  pub linked_total : end_of s.linked ≤ s.total
  linked_total = elim inv.linked_is [
    | inl same ↦ omega (arith, inv.done_total, inv.done_is, ap end_of same)
    | inr awaited ↦
        let m = awaited.2.0 in
        let is = awaited.2.1 in
        let c = awaited.0 in
        let l : Leading s s.total (IsOurs rows s m) (Pointed c.lo c.hi c.base c.row) = subst (Leading s s.total (IsOurs rows s m)) is (inv.leading m) in
        omega (arith, l.0.2, ap end_of awaited.1)
  ]

  -- `done` isn't past the newest batch that `last` has named
  pub done_linked : s.done ≤ end_of s.linked
  done_linked = elim inv.linked_is [
    | inl same ↦ omega (arith, inv.done_is, ap end_of same)
    | inr awaited ↦
        let ch = subst IsChained awaited.1 inv.chained in
        omega (arith, inv.done_is, ap end_of awaited.1, ch.0, ch.1)
  ]

  -- no row's end is past `done`
  pub end_done : (r : ℕ) → s.end r ≤ s.done
  end_done r = elim (inv.ended r) [
    | inl none ↦ omega (arith, none)
    | inr has ↦ omega (arith, inv.done_is, has.3, in_below s.published has.0 chained_published has.1)
  ]

  -- while a member leads and hasn't pointed, nothing is awaited
  pub not_awaited : (p : ℕ) → leads (s.stage p) ≡ true → IsNotPointed (s.stage p) → s.linked ≡ s.published
  not_awaited p is not = elim inv.linked_is [
    | inl same ↦ same
    | inr awaited ↦
        let m = awaited.2.0 in
        let same : m ≡ p = one_leader m p (ap leads awaited.2.1) is in
        absurd (not _ _ _ _ (subst (λ (i : ℕ). s.stage i ≡ Pointed awaited.0.lo awaited.0.hi awaited.0.base awaited.0.row) same awaited.2.1))
  ]

  -- a member that leads finds the others not leading
  pub follower : (p m : ℕ) → leads (s.stage p) ≡ true → m ≢ p → leads (s.stage m) ≡ false
  follower p m is other = elim (cases_Bool (leads (s.stage m))) [
    | inl too ↦ absurd (other (one_leader m p too is))
    | inr not ↦ not
  ]

  module _ (p : ℕ) (g : Stage) where
    -- the offset stays
    pub stays : offset g ≡ offset (s.stage p) → Calm s.done (s.announced p) s.linked g → Leading s s.total (IsOurs rows s p) g → has_reply (s.stage p) ≡ false → IsNotPointed (s.stage p) → Fits members rows s p g
    stays same calm leading silent not_pointed = record {
      known = λ at o. inv.known p at (sym same ∙ o);
      apart = λ q at other o h. other (inv.apart q p at h (sym same ∙ o));
      standing = λ at b o i lt. inv.standing p at b (sym same ∙ o) i lt;
      needless = λ r at o u. u at (sym same ∙ o);
      calm = calm;
      leading = leading;
      clear = λ g_silent. inv.clear p silent;
      not_pointed = not_pointed;
    }

    -- the member isn't waiting for a reply
    pub rests : offset g ≡ None → Calm s.done (s.announced p) s.linked g → Leading s s.total (IsOurs rows s p) g → (has_reply g ≡ false → Clears rows s p) → IsNotPointed (s.stage p) → Fits members rows s p g
    rests none calm leading clear not_pointed = record {
      known = λ at o. absurd (cc);
      apart = λ q at other o h. cc;
      standing = λ at b o i lt. absurd (cc);
      needless = λ r at o u. absurd (cc);
      calm = calm;
      leading = leading;
      clear = clear;
      not_pointed = not_pointed;
    }

    module _ (fits : Fits members rows s p g) where
      abbrev then : Traced
      then = onto s p g

      keeps_unneeded : (q r : ℕ) → IsUnneededBy s q r → IsUnneededBy then q r
      keeps_unneeded q r unneeded at h =
          put_case (λ x. offset x ≡ Some at → s.end r ≤ at) s.stage p g q (λ is o. fits.needless r at o (subst (λ i. IsUnneededBy s i r) is unneeded)) (λ other o. unneeded at o) h

      pub go_on : Inv members rows then
      go_on = record {
        chained = inv.chained;
        last_is = inv.last_is;
        done_is = inv.done_is;
        linked_is = ⊎_elim (λ same. inl same) (λ awaited. inr (
          awaited.0,
          awaited.1,
          (
            awaited.2.0,
            put_case (λ x. x ≡ Pointed awaited.0.lo awaited.0.hi awaited.0.base awaited.0.row) s.stage p g awaited.2.0
                (λ is. absurd (fits.not_pointed _ _ _ _ (subst (λ i. s.stage i ≡ Pointed awaited.0.lo awaited.0.hi awaited.0.base awaited.0.row) is awaited.2.1)))
                (λ other. awaited.2.1),
          ),
        )) inv.linked_is;
        done_total = inv.done_total;
        known = λ m at h. put_case (λ x. offset x ≡ Some at → IsKnown members s m at) s.stage p g m (λ is o. subst (λ i. IsKnown members s i at) (sym is) (fits.known at o)) (λ other o. inv.known m at o) h;
        apart = λ m q at h k. put_case (λ x. offset x ≡ Some at → m ≡ q) s.stage p g m
            (λ is o. put_case (λ x. offset x ≡ Some at → m ≡ q) s.stage p g q (λ is' o'. is ∙ sym is') (λ other' o'. absurd (fits.apart q at other' o o')) k)
            (λ other o. put_case (λ x. offset x ≡ Some at → m ≡ q) s.stage p g q (λ is' o'. absurd (fits.apart m at other o' o)) (λ other' o'. inv.apart m q at o o') k)
            h;
        calm = λ m. put_case (λ x. Calm s.done (s.announced m) s.linked x) s.stage p g m (λ is. subst (λ i. Calm s.done (s.announced i) s.linked g) (sym is) fits.calm) (λ other. inv.calm m);
        leading = λ m. put_case (λ x. Leading s s.total (IsOurs rows then m) x) s.stage p g m
            (λ is. subst (λ i. Leading s s.total (IsOurs rows then i) g) (sym is) (leading_more s s.total s.total (IsOurs rows s p) (IsOurs rows then p) g (omega arith) (λ r ours. (ours.0, λ q. keeps_unneeded q r (ours.1 q))) fits.leading))
            (λ other. leading_more s s.total s.total (IsOurs rows s m) (IsOurs rows then m) (s.stage m) (omega arith) (λ r ours. (ours.0, λ q. keeps_unneeded q r (ours.1 q))) (inv.leading m));
        standing = λ m at b h i lt. put_case (λ x. offset x ≡ Some at → Stands s.state b) s.stage p g m (λ is o. fits.standing at b o i lt) (λ other o. inv.standing m at b o i lt) h;
        ends = inv.ends;
        ended = inv.ended;
        clear = λ m. put_case (λ x. has_reply x ≡ false → Clears rows then m) s.stage p g m
            (λ is silent q word r own found lets. keeps_unneeded q r (fits.clear silent q word r (own ∙ is) (subst (λ i. s.found i q ≡ Some word) is found) lets))
            (λ other silent q word r own found lets. keeps_unneeded q r (inv.clear m silent q word r own found lets));
      }
