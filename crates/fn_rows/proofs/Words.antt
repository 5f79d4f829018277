-- A step's change of the words.
use Rattle.std.proofs.Common.{◌≡◌, ◌≢◌, ◌⊎◌, inl, inr, ⊎_elim, ℕ, suc, ◌+◌, ◌/◌, ◌≤◌, List, ◌∷◌, refl, sym, ◌∙◌, ap, subst, arith}
use Rattle.std.specs.Prelude.{Some, None, true, false}
use Rattle.std.proofs.lemmas.Bool.{cases_eq, true≢false, false≢true}
use Rattle.fn_rows.specs.Machine.{Stage, Saw, Filled, Pointed, Got, offset, put, moved, scan_by, Lets, IsFree}
use Rattle.fn_rows.specs.Trace.{Batch, Traced, batch}
use Rattle.fn_rows.specs.Law.{end_of, IsIn, Stands, HasArrived, leads, has_reply}
use Rattle.fn_rows.proofs.Put.{put_case, put_here, put_there}
use Rattle.fn_rows.proofs.Invariant.{Calm, HasClosed, Leading, IsUnneededBy, IsUnneeded, IsOurs, Clears, Inv, in_below, led, not_leading, leading_more, calm_more}
use Rattle.fn_rows.proofs.Moves.{IsNotPointed, chained_published, end_done, not_awaited, follower}

-- a member that leads has no reply
pub leads-silent : (g : Stage) → leads g ≡ true → has_reply g ≡ false
leads-silent (Got b ahead) is = absurd (false≢true is)
leads-silent _ is = refl

module _ (members rows : ℕ) (s : Traced) (inv : Inv members rows s) where
  -- a member that announced what lets the row be filled doesn't need it
  pub let_by : (q r : ℕ) → Lets (s.announced q) (s.end r) → IsUnneededBy s q r
  let_by q r (inl none) at h = let k = inv.known q at h in absurd (omega (arith, none, k.2.1))
  let_by q r (inr above) at h = let k = inv.known q at h in omega (arith, above, k.2.1, k.2.2)

  pub scan_keeps : (p other : ℕ) → Inv members rows (record s { state = scan_by s.state p other })
  scan_keeps p other = record {
    chained = inv.chained;
    last_is = inv.last_is;
    done_is = inv.done_is;
    linked_is = inv.linked_is;
    done_total = inv.done_total;
    known = inv.known;
    apart = inv.apart;
    calm = inv.calm;
    leading = inv.leading;
    standing = inv.standing;
    ends = inv.ends;
    ended = inv.ended;
    clear = λ m silent q word r own found lets.
        put_case (λ x. x q ≡ Some word → IsUnneededBy s q r) s.found p (put (s.found p) other (Some (s.announced other))) m
        (λ is. put_case (λ x. x ≡ Some word → IsUnneededBy s q r) (s.found p) other (Some (s.announced other)) q
        (λ same e. let word_is : s.announced other ≡ word = cc in let_by q r (subst (λ w. Lets w (s.end r)) (sym word_is ∙ ap s.announced (sym same)) lets))
        (λ elsewhere e. inv.clear m silent q word r own (subst (λ i. s.found i q ≡ Some word) (sym is) e) lets))
        (λ elsewhere e. inv.clear m silent q word r own e lets) found;
  }

  -- a member that hasn't arrived and isn't Told announces something
  pub announce_keeps : (p seen word : ℕ) → s.stage p ≡ Saw seen → Inv members rows (record s { state = record s.state { announced = put s.announced p word } })
  announce_keeps p seen word is = record {
    chained = inv.chained;
    last_is = inv.last_is;
    done_is = inv.done_is;
    linked_is = inv.linked_is;
    done_total = inv.done_total;
    apart = inv.apart;
    leading = inv.leading;
    standing = inv.standing;
    ends = inv.ends;
    ended = inv.ended;
    clear = inv.clear;
    known = λ m at h. let k = inv.known m at h in (k.0, k.1, put_case (λ x. (f : ℕ) × (x ≡ suc f) × (f ≤ at)) s.announced p word m (λ same. let none : offset (s.stage m) ≡ None = ap (λ i. offset (s.stage i)) same ∙ ap offset is in absurd (cc (none, h))) (λ other. k.2));
    calm = λ m. put_case (λ x. Calm s.done x s.linked (s.stage m)) s.announced p word m
        (λ same. subst (λ g. Calm s.done word s.linked g) (sym (ap s.stage same ∙ is)) (subst (λ g. Calm s.done (s.announced m) s.linked g) (ap s.stage same ∙ is) (inv.calm m)))
        (λ other. inv.calm m);
  }

  -- one leaves the words, with its reply
  pub leave_keeps : (p b ahead : ℕ) → s.stage p ≡ Got b ahead → Inv members rows (record s { state = record s.state { announced = put s.announced p 0; found = put s.found p (λ q. None) } })
  leave_keeps p b ahead is = record {
    chained = inv.chained;
    last_is = inv.last_is;
    done_is = inv.done_is;
    linked_is = inv.linked_is;
    done_total = inv.done_total;
    apart = inv.apart;
    leading = inv.leading;
    standing = inv.standing;
    ends = inv.ends;
    ended = inv.ended;
    known = λ m at h. let k = inv.known m at h in (k.0, k.1, put_case (λ x. (f : ℕ) × (x ≡ suc f) × (f ≤ at)) s.announced p 0 m (λ same. let none : offset (s.stage m) ≡ None = ap (λ i. offset (s.stage i)) same ∙ ap offset is in absurd (cc (none, h))) (λ other. k.2));
    calm = λ m. put_case (λ x. Calm s.done x s.linked (s.stage m)) s.announced p 0 m
        (λ same. subst (λ g. Calm s.done 0 s.linked g) (sym (ap s.stage same ∙ is)) tt)
        (λ other. inv.calm m);
    clear = λ m silent q word r own found lets.
        put_case (λ x. x q ≡ Some word → IsUnneededBy s q r) s.found p (λ q. None) m
        (λ same e. absurd (cc (e)))
        (λ elsewhere e. inv.clear m silent q word r own e lets) found;
  }

  -- the total grows
  pub total_keeps : (weight : ℕ) → Inv members rows (record s { state = record s.state { total = s.total + weight } })
  total_keeps weight = record {
    chained = inv.chained;
    last_is = inv.last_is;
    done_is = inv.done_is;
    linked_is = inv.linked_is;
    apart = inv.apart;
    standing = inv.standing;
    ends = inv.ends;
    ended = inv.ended;
    clear = inv.clear;
    calm = inv.calm;
    done_total = omega (arith, inv.done_total);
    known = λ m at h. let k = inv.known m at h in (k.0, omega (arith, k.1), k.2);
    leading = λ m. leading_more s s.total (s.total + weight) (IsOurs rows s m) (IsOurs rows s m) (s.stage m) (omega arith) (λ r ours. ours) (inv.leading m);
  }

  -- a leader that hasn't pointed writes the words of a row that nobody needs
  module _ (p r : ℕ) (lo' base' prev' : ℕ → ℕ) where
    abbrev pub written : Traced
    written = record s { state = record s.state { lo = lo'; base = base'; prev = prev' } }

    pub write_keeps : ((x : ℕ) → x ≢ r → (lo' x ≡ s.lo x) × (base' x ≡ s.base x) × (prev' x ≡ s.prev x)) → leads (s.stage p) ≡ true → IsNotPointed (s.stage p) → IsUnneeded s r → Leading written s.total (IsOurs rows s p) (s.stage p) → Inv members rows written
    write_keeps elsewhere is not unneeded leading = record {
      chained = inv.chained;
      last_is = inv.last_is;
      done_is = inv.done_is;
      linked_is = inv.linked_is;
      done_total = inv.done_total;
      known = inv.known;
      apart = inv.apart;
      calm = inv.calm;
      ends = inv.ends;
      ended = inv.ended;
      clear = inv.clear;
      leading = λ m. elim (cases_eq m p) [
        | inl same ↦ subst (λ i. Leading written s.total (IsOurs rows s i) (s.stage i)) (sym same) leading
        | inr other ↦ not_leading written s.total (IsOurs rows s m) (s.stage m) (follower members rows s inv p m is other)
      ];
      standing = λ m at b h i lt.
          let old = inv.standing m at b h i lt in
          let published : IsIn b s.published = subst (IsIn b) (not_awaited members rows s inv p is not) i in
          let away = elsewhere b.row (λ same. let past : b.hi ≤ s.end r = subst (λ x. b.hi ≤ s.end x) same (inv.ends b published) in let below : s.end r ≤ at = unneeded m at h in absurd (omega (arith, past, below, lt))) in
          (away.0 ∙ old.0, away.1 ∙ old.1, away.2 ∙ old.2);
    }

  -- a row that the member's scans found free is needed by nobody
  pub free_unneeded : (p r : ℕ) → leads (s.stage p) ≡ true → r / rows ≡ p → IsFree members s.state p r → IsUnneeded s r
  free_unneeded p r is own (inl none) q at h = omega (arith, none)
  free_unneeded p r is own (inr free) q at h = elim (cases_eq q p) [
    | inl same ↦
        let at_done : offset (s.stage q) ≡ Some s.done = subst (λ i. offset (s.stage i) ≡ Some s.done) (sym same) (led s s.total (IsOurs rows s p) (s.stage p) is (inv.leading p)) in
        let at_is : at ≡ s.done = cc in
        omega (arith, end_done members rows s inv r, at_is)
    | inr other ↦
        let f = free q (inv.known q at h).0 other in
        inv.clear p (leads-silent (s.stage p) is) q f.0 r own f.1 f.2 at h
  ]

  -- a leader points to its batch
  module _ (p at hi b r : ℕ) (is : s.stage p ≡ Filled at hi b r) where
    abbrev point_then : Traced
    point_then = record { state = moved (record s.state { last = suc r }) p (Pointed at hi b r); books = record s.books { linked = batch s.state at hi b r ∷ s.linked } }

    abbrev point_known : Type 0
    point_known = HasClosed s s.total at hi × IsOurs rows s p r × (s.lo r ≡ at) × (s.base r ≡ b) × (s.prev r ≡ s.last)

    point_knows : point_known
    point_knows = subst (Leading s s.total (IsOurs rows s p)) is (inv.leading p)

    point_same : s.linked ≡ s.published
    point_same = not_awaited members rows s inv p (ap leads is) (λ at' hi' b' r' e. cc)

    point_arrived : (m at' : ℕ) → HasArrived point_then.state m at' → HasArrived s.state m at'
    point_arrived m at' h = put_case (λ x. offset x ≡ Some at' → HasArrived s.state m at') s.stage p (Pointed at hi b r) m (λ same o. ap (λ i. offset (s.stage i)) same ∙ ap offset is ∙ o) (λ other o. o) h

    pub point_keeps : Inv members rows point_then
    point_keeps = record {
      chained = (point_knows.0.0 ∙ inv.done_is ∙ ap end_of (sym point_same), point_knows.0.1, point_knows.4 ∙ inv.last_is, inv.chained);
      last_is = refl;
      done_is = inv.done_is;
      linked_is = inr (batch s.state at hi b r, ap (λ (l : List Batch). batch s.state at hi b r ∷ l) point_same, (p, put_here s.stage p (Pointed at hi b r) p refl));
      done_total = inv.done_total;
      known = λ m at' h. inv.known m at' (point_arrived m at' h);
      apart = λ m q at' h k. inv.apart m q at' (point_arrived m at' h) (point_arrived q at' k);
      calm = λ m. put_case (λ x. Calm s.done (s.announced m) (batch s.state at hi b r ∷ s.linked) x) s.stage p (Pointed at hi b r) m (λ same. tt) (λ other. calm_more s.done s.done (s.announced m) s.linked (batch s.state at hi b r ∷ s.linked) (s.stage m) (omega arith) (λ c i. inr i) (inv.calm m));
      leading = λ m. put_case (λ x. Leading point_then s.total (IsOurs rows point_then m) x) s.stage p (Pointed at hi b r) m
          (λ same. (point_knows.0, (point_knows.1.0 ∙ sym same, λ q at' h. point_knows.1.1 q at' (point_arrived q at' h)), ap (λ (l : List Batch). batch s.state at hi b r ∷ l) point_same))
          (λ other. not_leading point_then s.total (IsOurs rows point_then m) (s.stage m) (follower members rows s inv p m (ap leads is) other));
      standing = λ m at' c h i lt. elim i [
        | inl new ↦ subst (Stands s.state) (sym new) (point_knows.2, point_knows.3, refl)
        | inr old ↦ inv.standing m at' c (point_arrived m at' h) old lt
      ];
      ends = inv.ends;
      ended = inv.ended;
      clear = λ m. put_case (λ x. has_reply x ≡ false → Clears rows point_then m) s.stage p (Pointed at hi b r) m
          (λ same silent q word row own found lets at' h. inv.clear m (ap (λ i. has_reply (s.stage i)) same ∙ ap has_reply is) q word row own found lets at' (point_arrived q at' h))
          (λ other silent q word row own found lets at' h. inv.clear m silent q word row own found lets at' (point_arrived q at' h));
    }

  -- a leader publishes its batch
  module _ (p at hi b r : ℕ) (is : s.stage p ≡ Pointed at hi b r) where
    abbrev publish_then : Traced
    publish_then = record { state = moved (record s.state { done = hi; end = put s.end r hi }) p (Got b 0); books = record s.books { published = batch s.state at hi b r ∷ s.published } }

    abbrev publish_known : Type 0
    publish_known = HasClosed s s.total at hi × IsOurs rows s p r × (s.linked ≡ batch s.state at hi b r ∷ s.published)

    publish_knows : publish_known
    publish_knows = subst (Leading s s.total (IsOurs rows s p)) is (inv.leading p)

    publish_arrived : (m at' : ℕ) → HasArrived publish_then.state m at' → HasArrived s.state m at'
    publish_arrived m at' h = put_case (λ x. offset x ≡ Some at' → HasArrived s.state m at') s.stage p (Got b 0) m (λ same o. absurd (cc (o))) (λ other o. o) h

    publish_end : (row : ℕ) → row ≢ r → put s.end r hi row ≡ s.end row
    publish_end row other = put_there s.end r hi row other

    pub publish_keeps : Inv members rows publish_then
    publish_keeps = record {
      chained = inv.chained;
      last_is = inv.last_is;
      done_is = refl;
      linked_is = inl publish_knows.2;
      done_total = publish_knows.0.2;
      known = λ m at' h. inv.known m at' (publish_arrived m at' h);
      apart = λ m q at' h k. inv.apart m q at' (publish_arrived m at' h) (publish_arrived q at' k);
      calm = λ m. put_case (λ x. Calm hi (s.announced m) s.linked x) s.stage p (Got b 0) m (λ same. tt) (λ other. calm_more s.done hi (s.announced m) s.linked s.linked (s.stage m) (omega (arith, publish_knows.0.0, publish_knows.0.1)) (λ c i. i) (inv.calm m));
      leading = λ m. put_case (λ x. Leading publish_then s.total (IsOurs rows publish_then m) x) s.stage p (Got b 0) m (λ same. tt) (λ other. not_leading publish_then s.total (IsOurs rows publish_then m) (s.stage m) (follower members rows s inv p m (ap leads is) other));
      standing = λ m at' c h i lt. inv.standing m at' c (publish_arrived m at' h) i lt;
      ends = λ c i. elim i [
        | inl new ↦ let row_is : c.row ≡ r = ap (λ (y : Batch). y.row) new in let hi_is : c.hi ≡ hi = ap (λ (y : Batch). y.hi) new in omega (arith, put_here s.end r hi c.row row_is, hi_is)
        | inr old ↦ put_case (λ x. c.hi ≤ x) s.end r hi c.row (λ same. omega (arith, in_below s.published c (chained_published members rows s inv) old, inv.done_is, publish_knows.0.0, publish_knows.0.1)) (λ other. inv.ends c old)
      ];
      ended = λ row. put_case (λ x. (x ≡ 0) ⊎ ((c : Batch) × IsIn c (batch s.state at hi b r ∷ s.published) × (c.row ≡ row) × (c.hi ≡ x))) s.end r hi row
          (λ same. inr (batch s.state at hi b r, inl refl, sym same, refl))
          (λ other. ⊎_elim (λ none. inl none) (λ has. inr (has.0, inr has.1, has.2, has.3)) (inv.ended row));
      clear = λ m. put_case (λ x. has_reply x ≡ false → Clears rows publish_then m) s.stage p (Got b 0) m
          (λ same silent. absurd (true≢false silent))
          (λ other silent q word row own found lets at' h.
          let away : row ≢ r = λ same. other (sym own ∙ ap (λ x. x / rows) same ∙ publish_knows.1.0) in
          let end_is = publish_end row away in
          subst (λ x. x ≤ at') (sym end_is) (inv.clear m silent q word row own found (subst (λ x. Lets word x) end_is lets) at' (publish_arrived q at' h)));
    }
