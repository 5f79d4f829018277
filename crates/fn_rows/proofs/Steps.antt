-- Each step keeps the invariant.
use Rattle.std.proofs.Common.{◌≡◌, inl, inr, ℕ, suc, ◌+◌, ◌-◌, ◌/◌, ◌<◌, ◌≤◌, List, [], ◌∷◌, refl, sym, ◌∙◌, ap, subst, arith}
use Rattle.std.specs.Prelude.{Some, None, if◌then◌else◌, ◌==◌}
use Rattle.std.proofs.lemmas.Bool.{cases_eq, cases_lt, true≢false, eq-eqb, ne_eqb, lt-ltb, le-ltb, le-leb, lt-leb}
use Rattle.fn_rows.specs.Machine.{Stage, Out, Saw, Told, Waiting, Lead, Late, Shut, Based, Headed, FilledLo, FilledBase, Filled, At, Over, Hit, Got, offset, Lo, Base, Prev, Step, Scan, See, Announce, Arrive, Look, Close, Hand_base, Head, Fill, Point, Publish, Peek, Leave, put, moved, announce_by, arrive_by, looked, look_by, close_by, hand_by, head_by, stored, fill_by, point_by, publish_by, peeked, peek_by, leave_by, IsFree, Allowed, AllAllowed}
use Rattle.fn_rows.specs.Trace.{Batch, Traced, head_noted, point_noted, publish_noted, peek_noted, traced, run}
use Rattle.fn_rows.specs.Law.{end_of, link_of, IsChained, IsIn, HasArrived, leads, has_reply}
use Rattle.fn_rows.proofs.Put.{put_here, put_there}
use Rattle.fn_rows.proofs.Invariant.{Calm, Leading, IsOurs, Inv, in_below}
use Rattle.fn_rows.proofs.Moves.{linked_total, done_linked, end_done, onto, stays, rests, go_on}
use Rattle.fn_rows.proofs.Words.{scan_keeps, announce_keeps, leave_keeps, total_keeps, write_keeps, free_unneeded, point_keeps, publish_keeps}

-- what a look says
pub looked_cases : (P : Stage → Type 0) (at done : ℕ) → (done < at → P (Waiting at)) → (at ≡ done → P (Lead at)) → (at < done → P (Late at)) → P (looked at done)
looked_cases P at done below equal above = elim (cases_lt done at) [
  | inl lt ↦ subst (λ t. P (if t then Waiting at else (if at == done then Lead at else Late at))) (sym (lt-ltb done at lt)) (below lt)
  | inr ge ↦ subst (λ t. P (if t then Waiting at else (if at == done then Lead at else Late at))) (sym (le-ltb done at ge)) (elim (cases_eq at done) [
    | inl same ↦ subst (λ t. P (if t then Lead at else Late at)) (sym (eq-eqb at done same)) (equal same)
    | inr other ↦ subst (λ t. P (if t then Lead at else Late at)) (sym (ne_eqb at done other)) (above (omega arith))
  ])
]

pub peeked_cases : (P : Stage → Type 0) (at r lo : ℕ) → (lo ≤ at → P (Hit at r lo)) → (at < lo → P (Over at r)) → P (peeked at r lo)
peeked_cases P at r lo hit over = elim (cases_lt at lo) [
  | inl lt ↦ subst (λ t. P (if t then Hit at r lo else Over at r)) (sym (lt-leb lo at lt)) (over lt)
  | inr le ↦ subst (λ t. P (if t then Hit at r lo else Over at r)) (sym (le-leb lo at le)) (hit le)
]

-- the batch before one that begins past the offset
pub before_it : (l : List Batch) (b : Batch) (at : ℕ) → IsChained l → IsIn b l → at < b.lo → (c : Batch) × IsIn c l × (b.prev ≡ suc c.row) × (at < c.hi) × (c.hi ≡ b.lo)
before_it [] b at ch i lt = absurd i
before_it (x ∷ []) b at ch (inl e) lt = absurd (omega (arith, ch.0, ap (λ (y : Batch). y.lo) e))
before_it (x ∷ c ∷ cs) b at ch (inl e) lt = (c, inr (inl refl), ap (λ (y : Batch). y.prev) e ∙ ch.2, omega (arith, ch.0, ap (λ (y : Batch). y.lo) e), sym ch.0 ∙ sym (ap (λ (y : Batch). y.lo) e))
before_it (x ∷ xs) b at ch (inr i) lt = let c = before_it xs b at ch.3 i lt in (c.0, inr c.1, c.2, c.3, c.4)

-- the newest batch, where something ends past the offset
pub newest : (l : List Batch) (at : ℕ) → at < end_of l → (c : Batch) × IsIn c l × (link_of l ≡ suc c.row) × (at < c.hi)
newest [] at lt = absurd (omega arith)
newest (c ∷ cs) at lt = (c, inl refl, refl, lt)

pub sub-one-suc : (n m : ℕ) → n ≡ suc m → n - 1 ≡ m
sub-one-suc n m e = omega arith

module _ (members rows : ℕ) (s : Traced) (inv : Inv members rows s) (p : ℕ) (range : p < members) where
  -- what the member knows at its stage
  calm_at : (g : Stage) → s.stage p ≡ g → Calm s.done (s.announced p) s.linked g
  calm_at g is = subst (Calm s.done (s.announced p) s.linked) is (inv.calm p)

  leading_at : (g : Stage) → s.stage p ≡ g → Leading s s.total (IsOurs rows s p) g
  leading_at g is = subst (Leading s s.total (IsOurs rows s p)) is (inv.leading p)

  offset_at : (g : Stage) (at : ℕ) → s.stage p ≡ g → offset g ≡ Some at → HasArrived s.state p at
  offset_at g at is o = ap offset is ∙ o

  see_keeps : s.stage p ≡ Out → Inv members rows (onto s p (Saw s.done))
  see_keeps is = go_on members rows s inv p (Saw s.done) (rests members rows s inv p (Saw s.done) refl (omega arith) tt (λ silent. inv.clear p (ap has_reply is)) (λ at hi b r e. cc))

  look_keeps : (at : ℕ) → s.stage p ≡ Waiting at → Inv members rows (onto s p (looked at s.done))
  look_keeps at is = looked_cases (λ g. Inv members rows (onto s p g)) at s.done
      (λ below. go_on members rows s inv p (Waiting at) (stays members rows s inv p (Waiting at) (sym (ap offset is)) tt tt (ap has_reply is) (λ at' hi' b' r' e. cc)))
      (λ equal. go_on members rows s inv p (Lead at) (stays members rows s inv p (Lead at) (sym (ap offset is)) tt equal (ap has_reply is) (λ at' hi' b' r' e. cc)))
      (λ above. go_on members rows s inv p (Late at) (stays members rows s inv p (Late at) (sym (ap offset is)) above tt (ap has_reply is) (λ at' hi' b' r' e. cc)))

  close_keeps : (at : ℕ) → s.stage p ≡ Lead at → Inv members rows (onto s p (Shut at s.total))
  close_keeps at is = go_on members rows s inv p (Shut at s.total) (stays members rows s inv p (Shut at s.total) (sym (ap offset is)) tt (leading_at (Lead at) is, (inv.known p at (offset_at (Lead at) at is refl)).1, omega arith) (ap has_reply is) (λ at' hi' b' r' e. cc))

  hand_keeps : (at hi b : ℕ) → s.stage p ≡ Shut at hi → Inv members rows (onto s p (Based at hi b))
  hand_keeps at hi b is = go_on members rows s inv p (Based at hi b) (stays members rows s inv p (Based at hi b) (sym (ap offset is)) tt (leading_at (Shut at hi) is) (ap has_reply is) (λ at' hi' b' r' e. cc))

  headed_keeps : (at hi b : ℕ) → s.stage p ≡ Based at hi b → Inv members rows (onto s p (Headed at hi b s.last))
  headed_keeps at hi b is = go_on members rows s inv p (Headed at hi b s.last) (stays members rows s inv p (Headed at hi b s.last) (sym (ap offset is)) tt (leading_at (Based at hi b) is, refl) (ap has_reply is) (λ at' hi' b' r' e. cc))

  late_keeps : (at : ℕ) → s.stage p ≡ Late at → Inv members rows (onto s p (At at (s.last - 1)))
  late_keeps at is =
      let late : at < s.done = calm_at (Late at) is in
      let c = newest s.linked at (omega (arith, done_linked members rows s inv)) in
      go_on members rows s inv p (At at (s.last - 1)) (stays members rows s inv p (At at (s.last - 1)) (sym (ap offset is)) (c.0, c.1, sym (sub-one-suc s.last c.0.row (inv.last_is ∙ c.2)), c.3, late) tt (ap has_reply is) (λ at' hi' b' r' e. cc))

  at_keeps : (at r : ℕ) → s.stage p ≡ At at r → Inv members rows (onto s p (peeked at r (s.lo r)))
  at_keeps at r is =
      let c = calm_at (At at r) is in
      let stands = inv.standing p at c.0 (offset_at (At at r) at is refl) c.1 c.3 in
      let lo_is : s.lo r ≡ c.0.lo = ap s.lo (sym c.2) ∙ stands.0 in
      peeked_cases (λ g. Inv members rows (onto s p g)) at r (s.lo r)
      (λ hit. go_on members rows s inv p (Hit at r (s.lo r)) (stays members rows s inv p (Hit at r (s.lo r)) (sym (ap offset is)) (c.0, c.1, c.2, c.3, omega arith, lo_is, c.4) tt (ap has_reply is) (λ at' hi' b' r' e. cc)))
      (λ over. go_on members rows s inv p (Over at r) (stays members rows s inv p (Over at r) (sym (ap offset is)) (c.0, c.1, c.2, c.3, omega arith, c.4) tt (ap has_reply is) (λ at' hi' b' r' e. cc)))

  over_keeps : (at r : ℕ) → s.stage p ≡ Over at r → Inv members rows (onto s p (At at (s.prev r - 1)))
  over_keeps at r is =
      let b = calm_at (Over at r) is in
      let stands = inv.standing p at b.0 (offset_at (Over at r) at is refl) b.1 b.3 in
      let prev_is : s.prev r ≡ b.0.prev = ap s.prev (sym b.2) ∙ stands.2 in
      let c = before_it s.linked b.0 at inv.chained b.1 b.4 in
      go_on members rows s inv p (At at (s.prev r - 1)) (stays members rows s inv p (At at (s.prev r - 1)) (sym (ap offset is)) (c.0, c.1, sym (sub-one-suc (s.prev r) c.0.row (prev_is ∙ c.2)), c.3, b.5) tt (ap has_reply is) (λ at' hi' b' r' e. cc))

  hit_keeps : (at r lo : ℕ) → s.stage p ≡ Hit at r lo → Inv members rows (onto s p (Got (s.base r) (at - lo)))
  hit_keeps at r lo is = go_on members rows s inv p (Got (s.base r) (at - lo)) (rests members rows s inv p (Got (s.base r) (at - lo)) refl tt tt (λ silent. absurd (true≢false silent)) (λ at' hi' b' r' e. cc))

  announced_keeps : (seen : ℕ) → s.stage p ≡ Saw seen → Inv members rows (record s { state = announce_by s.state p (Saw seen) })
  announced_keeps seen is =
      let next = record s { state = record s.state { announced = put s.announced p (suc seen) } } in
      go_on members rows next (announce_keeps members rows s inv p seen (suc seen) is) p (Told seen)
      (rests members rows next (announce_keeps members rows s inv p seen (suc seen) is) p (Told seen) refl (calm_at (Saw seen) is, put_here s.announced p (suc seen) p refl) tt (λ silent. inv.clear p (ap has_reply is)) (λ at hi b r e. cc))

  arrive_keeps : (seen weight : ℕ) → s.stage p ≡ Told seen → 0 < weight → Inv members rows (record s { state = arrive_by s.state p weight })
  arrive_keeps seen weight is some =
      let next = record s { state = record s.state { total = s.total + weight } } in
      let told = calm_at (Told seen) is in
      go_on members rows next (total_keeps members rows s inv weight) p (Waiting s.total) (record {
        known = λ at o. let at_is : s.total ≡ at = cc in (range, omega arith, (seen, told.1, omega (arith, told.0, inv.done_total)));
        apart = λ q at other o h. let at_is : s.total ≡ at = cc in let k = inv.known q at h in absurd (omega (arith, k.1, at_is));
        standing = λ at b o i lt. let at_is : s.total ≡ at = cc in absurd (omega (arith, at_is, in_below s.linked b inv.chained i, linked_total members rows s inv));
        needless = λ r at o u. let at_is : s.total ≡ at = cc in omega (arith, at_is, end_done members rows s inv r, inv.done_total);
        calm = tt;
        leading = tt;
        clear = λ silent. inv.clear p (ap has_reply is);
        not_pointed = λ at hi b r e. cc;
      })

  left_keeps : (b ahead : ℕ) → s.stage p ≡ Got b ahead → Inv members rows (record s { state = leave_by s.state p })
  left_keeps b ahead is =
      let next = record s { state = record s.state { announced = put s.announced p 0; found = put s.found p (λ q. None) } } in
      let kept = leave_keeps members rows s inv p b ahead is in
      go_on members rows next kept p Out
      (rests members rows next kept p Out refl tt tt
      (λ silent q word r own found lets. let none : put s.found p (λ q. None) p q ≡ None = ap (λ f. f q) (put_here s.found p (λ q. None) p refl) in absurd (cc (none, found)))
      (λ at hi b' r e. cc))

  fill_lo_keeps : (at hi b h r word : ℕ) → s.stage p ≡ Headed at hi b h → r / rows ≡ p → IsFree members s.state p r → word ≡ at → Inv members rows (record s { state = moved (stored s.state r Lo word) p (FilledLo at hi b h r) })
  fill_lo_keeps at hi b h r word is own free word_is =
      let next = record s { state = stored s.state r Lo word } in
      let unneeded = free_unneeded members rows s inv p r (ap leads is) own free in
      let known = leading_at (Headed at hi b h) is in
      let kept = write_keeps members rows s inv p r (put s.lo r word) s.base s.prev (λ x other. (put_there s.lo r word x other, refl, refl)) (ap leads is) (λ at' hi' b' r' e. cc) unneeded
      (subst (Leading next s.total (IsOurs rows s p)) (sym is) known) in
      go_on members rows next kept p (FilledLo at hi b h r)
      (stays members rows next kept p (FilledLo at hi b h r) (sym (ap offset is)) tt (known.0, known.1, (own, unneeded), put_here s.lo r word r refl ∙ word_is) (ap has_reply is) (λ at' hi' b' r' e. cc))

  fill_base_keeps : (at hi b h r word : ℕ) → s.stage p ≡ FilledLo at hi b h r → word ≡ b → Inv members rows (record s { state = moved (stored s.state r Base word) p (FilledBase at hi b h r) })
  fill_base_keeps at hi b h r word is word_is =
      let next = record s { state = stored s.state r Base word } in
      let known = leading_at (FilledLo at hi b h r) is in
      let kept = write_keeps members rows s inv p r s.lo (put s.base r word) s.prev (λ x other. (refl, put_there s.base r word x other, refl)) (ap leads is) (λ at' hi' b' r' e. cc) known.2.1
      (subst (Leading next s.total (IsOurs rows s p)) (sym is) known) in
      go_on members rows next kept p (FilledBase at hi b h r)
      (stays members rows next kept p (FilledBase at hi b h r) (sym (ap offset is)) tt (known.0, known.1, known.2, known.3, put_here s.base r word r refl ∙ word_is) (ap has_reply is) (λ at' hi' b' r' e. cc))

  fill_prev_keeps : (at hi b h r word : ℕ) → s.stage p ≡ FilledBase at hi b h r → word ≡ h → Inv members rows (record s { state = moved (stored s.state r Prev word) p (Filled at hi b r) })
  fill_prev_keeps at hi b h r word is word_is =
      let next = record s { state = stored s.state r Prev word } in
      let known = leading_at (FilledBase at hi b h r) is in
      let kept = write_keeps members rows s inv p r s.lo s.base (put s.prev r word) (λ x other. (refl, refl, put_there s.prev r word x other)) (ap leads is) (λ at' hi' b' r' e. cc) known.2.1
      (subst (Leading next s.total (IsOurs rows s p)) (sym is) known) in
      go_on members rows next kept p (Filled at hi b r)
      (stays members rows next kept p (Filled at hi b r) (sym (ap offset is)) tt (known.0, known.2, known.3, known.4, put_here s.prev r word r refl ∙ word_is ∙ known.1) (ap has_reply is) (λ at' hi' b' r' e. cc))

-- the bookkeeping of walks is nothing to the rest
pub walk_keeps : (members rows : ℕ) (s : Traced) → Inv members rows s → (walk : ℕ → List ℕ) → Inv members rows (record s { books = record s.books { walk = walk } })
walk_keeps members rows s inv walk = record {
  chained = inv.chained;
  last_is = inv.last_is;
  done_is = inv.done_is;
  linked_is = inv.linked_is;
  done_total = inv.done_total;
  known = inv.known;
  apart = inv.apart;
  calm = inv.calm;
  leading = inv.leading;
  standing = inv.standing;
  ends = inv.ends;
  ended = inv.ended;
  clear = inv.clear;
}

pub keeps : (members rows : ℕ) (s : Traced) → Inv members rows s → (step : Step) → Allowed members rows s.state step → Inv members rows (traced s step)
keeps members rows s inv (Scan m q) a = scan_keeps members rows s inv m q
keeps members rows s inv (See m) a = see_keeps members rows s inv m a.0 a.1
keeps members rows s inv (Announce m) a = subst (λ g. Inv members rows (record s { state = announce_by s.state m g })) (sym a.1.1) (announced_keeps members rows s inv m a.0 a.1.0 a.1.1)
keeps members rows s inv (Arrive m weight) a = arrive_keeps members rows s inv m a.0 a.1.0 weight a.1.1 a.1.2
keeps members rows s inv (Look m) a = subst (λ g. Inv members rows (record s { state = look_by s.state m g })) (sym a.1.1) (look_keeps members rows s inv m a.0 a.1.0 a.1.1)
keeps members rows s inv (Close m) a = subst (λ g. Inv members rows (record s { state = close_by s.state m g })) (sym a.1.1) (close_keeps members rows s inv m a.0 a.1.0 a.1.1)
keeps members rows s inv (Hand_base m b) a = subst (λ g. Inv members rows (record s { state = hand_by s.state m b g })) (sym a.1.2) (hand_keeps members rows s inv m a.0 a.1.0 a.1.1 b a.1.2)
keeps members rows s inv (Head m) a = elim a.1 [
  | inl g ↦ subst (λ x. Inv members rows (record { state = head_by s.state m x; books = head_noted s.state s.books m x })) (sym g.3) (headed_keeps members rows s inv m a.0 g.0 g.1 g.2 g.3)
  | inr g ↦ subst (λ x. Inv members rows (record { state = head_by s.state m x; books = head_noted s.state s.books m x })) (sym g.1) (walk_keeps members rows (onto s m (At g.0 (s.last - 1))) (late_keeps members rows s inv m a.0 g.0 g.1) (put s.walk m ((s.last - 1) ∷ [])))
]
keeps members rows s inv (Fill m r Lo word) a = let g = a.1 in subst (λ x. Inv members rows (record s { state = fill_by s.state m r Lo word x })) (sym g.4) (fill_lo_keeps members rows s inv m a.0 g.0 g.1 g.2 g.3 r word g.4 g.5 g.6 g.7)
keeps members rows s inv (Fill m r Base word) a = let g = a.1 in subst (λ x. Inv members rows (record s { state = fill_by s.state m r Base word x })) (sym g.4) (fill_base_keeps members rows s inv m a.0 g.0 g.1 g.2 g.3 r word g.4 g.5)
keeps members rows s inv (Fill m r Prev word) a = let g = a.1 in subst (λ x. Inv members rows (record s { state = fill_by s.state m r Prev word x })) (sym g.4) (fill_prev_keeps members rows s inv m a.0 g.0 g.1 g.2 g.3 r word g.4 g.5)
keeps members rows s inv (Point m) a = let g = a.1 in subst (λ x. Inv members rows (record { state = point_by s.state m x; books = point_noted s.state s.books x })) (sym g.4) (point_keeps members rows s inv m g.0 g.1 g.2 g.3 g.4)
keeps members rows s inv (Publish m) a = let g = a.1 in subst (λ x. Inv members rows (record { state = publish_by s.state m x; books = publish_noted s.state s.books x })) (sym g.4) (publish_keeps members rows s inv m g.0 g.1 g.2 g.3 g.4)
keeps members rows s inv (Peek m) a = elim a.1 [
  | inl g ↦ subst (λ x. Inv members rows (record { state = peek_by s.state m x; books = peek_noted s.state s.books m x })) (sym g.2) (at_keeps members rows s inv m a.0 g.0 g.1 g.2)
  | inr (inl g) ↦ subst (λ x. Inv members rows (record { state = peek_by s.state m x; books = peek_noted s.state s.books m x })) (sym g.2) (walk_keeps members rows (onto s m (At g.0 (s.prev g.1 - 1))) (over_keeps members rows s inv m a.0 g.0 g.1 g.2) (put s.walk m ((s.prev g.1 - 1) ∷ s.walk m)))
  | inr (inr g) ↦ subst (λ x. Inv members rows (record { state = peek_by s.state m x; books = peek_noted s.state s.books m x })) (sym g.3) (hit_keeps members rows s inv m a.0 g.0 g.1 g.2 g.3)
]
keeps members rows s inv (Leave m) a = left_keeps members rows s inv m a.0 a.1.0 a.1.1 a.1.2

pub reaches : (members rows : ℕ) (steps : List Step) (s : Traced) → Inv members rows s → AllAllowed members rows steps s.state → Inv members rows (run steps s)
reaches members rows [] s inv a = inv
reaches members rows (step ∷ steps) s inv a = reaches members rows steps (traced s step) (keeps members rows s inv step a.0) a.1
