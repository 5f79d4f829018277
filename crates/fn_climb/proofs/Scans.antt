-- The scans of a beginning: what each leaves, and what they tell of a row.
use Rattle.std.proofs.Common.{◌≡◌, ◌≢◌, inl, inr, ℕ, zero, suc, ◌+◌, ◌-◌, ◌<◌, ◌≤◌, Bool, true, false, List, [], ◌∷◌, ◌++◌, Option, Some, None, not, map, option_map, refl, sym, ap, subst, ◌∙◌, arith}
use Rattle.std.specs.Prelude.{◌==◌, ◌&&◌, if◌then◌else◌}
use Rattle.std.specs.List.{range_with_len, filter, find}
use Rattle.std.proofs.lemmas.Bool.{cases_eq, eq-eqb, ne_eqb, eqb-true, false≢true, and_parts, and_from}
use Rattle.running.proofs.Logs.{prefix_refl}
use Rattle.fn_model.specs.declared.Kind.{Kind}
use Rattle.fn_rows.specs.Machine.{put, Lets}
use Rattle.fn_rows.proofs.Public.{put_here, put_there}
use Rattle.fn_layout.specs.declared.shape.Shape.{Shape}
use Rattle.fn_layout.specs.Tree.{aggregator, member, members, pass_of}
use Rattle.fn_layout.proofs.Members as layout
use Rattle.fn_layout.proofs.Tree.{aggregator_below}
use Rattle.fn_core.specs.declared.Start.{Start}
use Rattle.fn_core.specs.declared.Move.{Move}
use Rattle.fn_core.specs.declared.Move.TheVariants.{Scan}
use Rattle.fn_core.specs.declared.answer.Blocked.{Blocked}
use Rattle.fn_core.specs.State.{Caller}
use Rattle.fn_core.specs.Words.{Own}
use Rattle.fn_core.specs.After.{put_level}
use Rattle.fn_core.specs.Order.{lets}
use Rattle.fn_core.specs.Calls.{IsLegal, IsIdle}
use Rattle.fn_core.specs.Begin.{up_to, is_other, others, blocks_by, blocker_by, scanned_by}
use Rattle.fn_core.proofs.Public.{range_end, filter_keeps, filter_skips}
use Rattle.fn_table.specs.declared.spots.Spot.{Spot}
use Rattle.fn_table.specs.Spots.{spot_of}
use Rattle.fn_table.specs.Seen.{PassView, Stepped, own_of}
use Rattle.fn_table.proofs.Spares.{level_case}
use Rattle.fn_climb.specs.Begin.{Taken, Takes, scan_taken, blocked_load, IsStill, RowTried}
use Rattle.fn_table.proofs.Later.{later_by, later_on}
use Rattle.fn_climb.proofs.Goes.{level_same}
use Rattle.fn_climb.proofs.Members.{passed, passed_more, HasNone, before_next, behind_last}
use Rattle.fn_climb.proofs.Along.{flat_map-one, yields, finds_first, Along, along_start, along_skip, along_past, along_stop, along_through}

-- a function that is put where it stands
pub same_put : {A : Type 0} (f : Kind → ℕ → A) (k : Kind) (l : ℕ) → put_level f k l (f k l) ≡ f
same_put f k l = λ i x y. level_case (λ v. v ≡ f x y) f k l (f k l) x y (λ e d. (λ j. f (sym e j) (sym d j))) refl i

pub takes_more : (p q r : PassView) (ts : List Taken) (step : Move) (n : ℕ) → Takes p ts q → Stepped q step n r → Takes p (ts ++ record { step = step; number = n } ∷ []) r
takes_more p q r [] step n is t = (r, subst (λ (v : PassView). Stepped v step n r) is t, refl)
takes_more p q r (first ∷ ts) step n takes t = (takes.0, takes.1, takes_more takes.0 q r ts step n takes.2 t)

pub takes_on : (p q r : PassView) (ts us : List Taken) → Takes p ts q → Takes q us r → Takes p (ts ++ us) r
takes_on p q r [] us is takes = subst (λ (v : PassView). Takes v us r) is takes
takes_on p q r (first ∷ ts) us takes more = (takes.0, takes.1, takes_on takes.0 q r ts us takes.2 more)

pub still_on : (p q r : PassView) → IsStill p q → IsStill q r → IsStill p r
still_on p q r a b = record { later = later_on p q r a.later b.later; caller = b.caller ∙ a.caller; stages = b.stages ∙ a.stages; ends = b.ends ∙ a.ends }

pub still_none : (p : PassView) → IsLegal p.seen → IsStill p p
still_none p legal = record { later = record { table = refl; number = refl; start = refl; begins = prefix_refl p.seen.log; legal = legal }; caller = refl; stages = refl; ends = refl }

module _ (q r : PassView) (kind : Kind) (level other n : ℕ) (t : Stepped q (Scan kind level other) n r) where
  pub still_scan : IsStill q r
  still_scan = record {
    later = later_by q (Scan kind level other) n r t;
    caller = ap (λ (o : Own). o.caller) t.own;
    stages = ap (λ (o : Own). o.stages) t.own ∙ same_put (own_of q).stages kind level;
    ends = ap (λ (o : Own). o.ends) t.own ∙ same_put (own_of q).ends kind level;
  }

  finds_now : (l : ℕ) → (own_of r).found kind l ≡ put_level (own_of q).found kind level (put ((own_of q).found kind level) (member q.seen.start.shape level other) (Some n)) kind l
  finds_now l = ap (λ (o : Own). o.found kind l) t.own

  pub found_there : (own_of r).found kind level ≡ put ((own_of q).found kind level) (member q.seen.start.shape level other) (Some n)
  found_there = finds_now level ∙ level_same (own_of q).found kind level (put ((own_of q).found kind level) (member q.seen.start.shape level other) (Some n))

  pub found_apart : (l : ℕ) → l ≢ level → (own_of r).found kind l ≡ (own_of q).found kind l
  found_apart l apart = finds_now l ∙ level_case (λ v. v ≡ (own_of q).found kind l) (own_of q).found kind level (put ((own_of q).found kind level) (member q.seen.start.shape level other) (Some n)) kind l (λ e d. absurd (apart d)) refl

pub idle_still : (p q : PassView) → IsStill p q → IsIdle p.seen p.number → IsIdle q.seen q.number
idle_still p q still idle = ap (λ (x : Caller). x.position) still.caller ∙ idle

not_and : (a b : Bool) → b ≡ false → (a && b) ≡ false
not_and true b is = is
not_and false b is = refl

module _ (p : PassView) (kind : Kind) (level n : ℕ) where
  abbrev shape : Shape
  shape = p.seen.start.shape

  abbrev end : ℕ
  end = (own_of p).ends kind level n

  abbrev out_scan : ℕ → ℕ → List Taken
  out_scan w x = record { step = Scan kind level x; number = w } ∷ []

  abbrev blocks_row : ℕ → ℕ → Bool
  blocks_row w x = not (lets (Some w) end)

  abbrev pub left_from : ℕ → List ℕ
  left_from i = filter (is_other shape level p.number) (range_with_len i (shape.passes - i))

  -- The passes below i were scanned for the row, and none blocked it
  pub record RowSoFar (i : ℕ) (q : PassView) : Type 0 where
    pub ts : List Taken
    pub takes : Takes p ts q
    pub along : Along out_scan blocks_row i (left_from i) (others shape level p.number) ts
    pub still : IsStill p q
    pub apart : (l : ℕ) → l ≢ level → (own_of q).found kind l ≡ (own_of p).found kind l
    pub let_by : (x : ℕ) → x < i → x ≢ p.number → aggregator shape x level ≡ aggregator shape p.number level → (word : ℕ) × ((own_of q).found kind level (member shape level x) ≡ Some word) × Lets word end

  pub row_start : IsLegal p.seen → RowSoFar 0 p
  row_start legal = record {
    ts = [];
    takes = refl;
    along = let all : shape.passes ≡ shape.passes - 0 = omega arith in
        subst (λ (k : ℕ). Along out_scan blocks_row 0 (filter (is_other shape level p.number) (range_with_len 0 k)) (others shape level p.number) []) all (along_start out_scan blocks_row (λ x. 0) 0 (others shape level p.number));
    still = still_none p legal;
    apart = λ l other. refl;
    let_by = λ x less another same. absurd (omega arith);
  }

  is_other_yes : (x : ℕ) → x ≢ p.number → aggregator shape x level ≡ aggregator shape p.number level → is_other shape level p.number x ≡ true
  is_other_yes x another same = and_from (aggregator shape x level == aggregator shape p.number level) (not (x == p.number)) (eq-eqb (aggregator shape x level) (aggregator shape p.number level) same) (ap not (ne_eqb x p.number another))

  row_skip : (i : ℕ) (q : PassView) → RowSoFar i q → i < shape.passes → is_other shape level p.number i ≡ false → RowSoFar (i + 1) q
  row_skip i q so less none = record {
    ts = so.ts;
    takes = so.takes;
    along = along_skip out_scan blocks_row i (left_from i) (left_from (i + 1)) (others shape level p.number) so.ts so.along (filter_skips (is_other shape level p.number) i shape.passes less none);
    still = so.still;
    apart = so.apart;
    let_by = λ x below another same. elim (cases_eq x i) [
      | inl e ↦ absurd (false≢true (sym none ∙ ap (is_other shape level p.number) (sym e) ∙ is_other_yes x another same))
      | inr ne ↦ so.let_by x (omega (arith, below, ne)) another same
    ];
  }

  -- the pass's aggregator at the level
  abbrev pub home : ℕ
  home = aggregator shape p.number level

  apart_is_no_other : (x : ℕ) → aggregator shape x level ≢ home → is_other shape level p.number x ≡ false
  apart_is_no_other x apart = ap (λ (b : Bool). b && not (x == p.number)) (ne_eqb (aggregator shape x level) home apart)

  itself_is_no_other : (x : ℕ) → x ≡ p.number → is_other shape level p.number x ≡ false
  itself_is_no_other x same = not_and (aggregator shape x level == home) (not (x == p.number)) (ap not (eq-eqb x p.number same))

  skips : (gap i j : ℕ) (q : PassView) → i + gap ≡ j → j ≤ shape.passes → ((x : ℕ) → i ≤ x → x < j → aggregator shape x level ≢ home) → RowSoFar i q → RowSoFar j q
  skips zero i j q is within none so = subst (λ (k : ℕ). RowSoFar k q) (let e : i ≡ j = omega (arith, is) in e) so
  skips (suc gap) i j q is within none so =
      skips gap (i + 1) j q (omega (arith, is)) within (λ x from before. none x (omega (arith, from)) before)
      (row_skip i q so (omega (arith, is, within)) (apart_is_no_other i (none i (omega arith) (omega (arith, is)))))

  -- passes of other aggregators are left out
  row_past : (i j : ℕ) (q : PassView) → HasNone shape level home i j → RowSoFar i q → RowSoFar j q
  row_past i j q none so = skips (j - i) i j q (omega (arith, none.rises)) none.within none.none so

  -- The members of the pass's aggregator below m were scanned for the row
  abbrev pub MembersSoFar : ℕ → PassView → Type 0
  MembersSoFar m q = RowSoFar (passed shape level home m) q

  -- The m-th member of the pass's aggregator
  pub record IsMember (m x : ℕ) : Type 0 where
    pub less : m < members shape level home
    pub is : x ≡ pass_of shape level home m

  pub is_member : {s : Shape} {spot : Spot} {m x : ℕ} → s ≡ shape → spot ≡ spot_of shape p.number kind level → m < spot.members → x ≡ pass_of s level spot.index m → IsMember m x
  is_member {m = m} same there less is = record {
    less = subst (λ (k : ℕ). m < k) (ap (λ (z : Spot). z.members) there) less;
    is = is ∙ (λ i. pass_of (same i) level ((ap (λ (z : Spot). z.index) there) i) m);
  }

  module _ {m x : ℕ} (at : IsMember m x) where
    member_inside : x < shape.passes
    member_inside = omega (arith, (layout.numbers_are_members shape level home m (aggregator_below shape p.number level) at.less).0, at.is)

    member_other : x ≢ p.number → is_other shape level p.number x ≡ true
    member_other another = is_other_yes x another (ap (λ (k : ℕ). aggregator shape k level) at.is ∙ (layout.numbers_are_members shape level home m (aggregator_below shape p.number level) at.less).1)

    -- the passes before it are scanned with the members before it
    before_member : (q : PassView) → MembersSoFar m q → RowSoFar x q
    before_member q so =
        subst (λ (k : ℕ). RowSoFar k q) (sym at.is)
        (row_past (passed shape level home m) (pass_of shape level home m) q (before_next shape level home (aggregator_below shape p.number level) m at.less) so)

    past_member : (q : PassView) → RowSoFar (x + 1) q → MembersSoFar (m + 1) q
    past_member q so = subst (λ (k : ℕ). RowSoFar k q) (ap (λ (k : ℕ). k + 1) at.is ∙ passed_more shape level home m) so

    -- the pass itself is no other one
    pub member_skip : {q : PassView} → MembersSoFar m q → x ≡ p.number → MembersSoFar (m + 1) q
    member_skip {q} so same = past_member q (row_skip x q (before_member q so) member_inside (itself_is_no_other x same))

  -- .. and all passes with all members
  past_all : (m : ℕ) (q : PassView) → MembersSoFar m q → m ≡ members shape level home → RowSoFar shape.passes q
  past_all m q so last = row_past (passed shape level home m) shape.passes q (behind_last shape level home (aggregator_below shape p.number level) m last) so

  -- what is scanned for a row that was filled before
  as_takings : end ≢ 0 → (words : ℕ → ℕ) → map (scan_taken kind level words) (scanned_by shape level p.number words end) ≡ yields out_scan blocks_row words (others shape level p.number)
  as_takings filled words =
      ap (λ (b : Bool). map (scan_taken kind level words) (if b then [] else up_to (blocks_by words end) (others shape level p.number))) (ne_eqb end 0 filled)
      ∙ sym (flat_map-one (scan_taken kind level words) (up_to (blocks_by words end) (others shape level p.number)))

  as_blocker : end ≢ 0 → (words : ℕ → ℕ) → blocker_by shape level p.number words end ≡ finds_first out_scan blocks_row words (others shape level p.number)
  as_blocker filled words = ap (λ (b : Bool). if b then None else find (blocks_by words end) (others shape level p.number)) (ne_eqb end 0 filled)

  module _ (i : ℕ) (q : PassView) (so : RowSoFar i q) (less : i < shape.passes) (other : is_other shape level p.number i ≡ true) (w : ℕ) (r : PassView) (t : Stepped q (Scan kind level i) w r) where
    now_still : IsStill p r
    now_still = still_on p q r so.still (still_scan q r kind level i w t)

    now_apart : (l : ℕ) → l ≢ level → (own_of r).found kind l ≡ (own_of p).found kind l
    now_apart l apart = found_apart q r kind level i w t l apart ∙ so.apart l apart

    found_is : (own_of r).found kind level ≡ put ((own_of q).found kind level) (member shape level i) (Some w)
    found_is = found_there q r kind level i w t ∙ ap (λ (b : Start). put ((own_of q).found kind level) (member b.shape level i) (Some w)) so.still.later.start

    same_place : aggregator shape i level ≡ aggregator shape p.number level
    same_place = eqb-true (aggregator shape i level) (aggregator shape p.number level) (and_parts (aggregator shape i level == aggregator shape p.number level) (not (i == p.number)) other).0

    row_more : Lets w end → not (lets (Some w) end) ≡ false → RowSoFar (i + 1) r
    row_more holds lets_it = record {
      ts = so.ts ++ out_scan w i;
      takes = takes_more p q r so.ts (Scan kind level i) w so.takes t;
      along = along_past out_scan blocks_row i (left_from i) (left_from (i + 1)) (others shape level p.number) so.ts so.along (filter_keeps (is_other shape level p.number) i shape.passes less other) w lets_it;
      still = now_still;
      apart = now_apart;
      let_by = λ x below another same. elim (cases_eq x i) [
        | inl e ↦ (w, ap (λ (f : ℕ → Option ℕ). f (member shape level x)) found_is ∙ put_here ((own_of q).found kind level) (member shape level i) (Some w) (member shape level x) (ap (member shape level) e), holds)
        | inr ne ↦
            let old = so.let_by x (omega (arith, below, ne)) another same in (
              old.0,
              ap (λ (f : ℕ → Option ℕ). f (member shape level x)) found_is
                  ∙ put_there ((own_of q).found kind level) (member shape level i) (Some w) (member shape level x) (λ e. ne (layout.member_apart shape x i level (same ∙ sym same_place) e)) ∙ old.1,
              old.2,
            )
      ];
    }

    row_stop : end ≢ 0 → not (lets (Some w) end) ≡ true → RowTried p kind level n (Some (record { level = level; row = n; pass = i; announced = w - 1 })) r
    row_stop filled blocks =
        let done = along_stop out_scan blocks_row i (left_from i) (left_from (i + 1)) (others shape level p.number) so.ts so.along (filter_keeps (is_other shape level p.number) i shape.passes less other) w blocks in record {
          words = done.0;
          takes = subst (λ (us : List Taken). Takes p us r) (sym (as_takings filled done.0 ∙ done.2)) (takes_more p q r so.ts (Scan kind level i) w so.takes t);
          told = sym (ap (option_map (blocked_load level n done.0)) (as_blocker filled done.0 ∙ done.3) ∙ ap (λ (x : ℕ). Some (let b : Blocked = record { level = level; row = n; pass = i; announced = x - 1 } in b)) done.1);
          still = now_still;
          apart = now_apart;
          free = λ none. absurd (cc (none));
        }

  row_through : (i : ℕ) (q : PassView) → RowSoFar i q → shape.passes ≤ i → end ≢ 0 → RowTried p kind level n None q
  row_through i q so last filled =
      let done = along_through out_scan blocks_row i (left_from i) (others shape level p.number) so.ts so.along (ap (filter (is_other shape level p.number)) (range_end i shape.passes last)) in record {
        words = so.along.w;
        takes = subst (λ (us : List Taken). Takes p us q) (sym (as_takings filled so.along.w ∙ done.0)) so.takes;
        told = sym (ap (option_map (blocked_load level n so.along.w)) (as_blocker filled so.along.w ∙ done.1));
        still = so.still;
        apart = so.apart;
        free = λ none. inr (λ x less another same.
            let old = so.let_by x (omega (arith, less, last)) another same in
            (old.0, old.1, subst (λ (k : ℕ). Lets old.0 k) (sym (ap (λ (f : Kind → ℕ → ℕ → ℕ). f kind level n) so.still.ends)) old.2));
      }

  -- where another member is scanned, the row is let by it or blocked
  module _ {m x : ℕ} (at : IsMember m x) {q : PassView} (so : MembersSoFar m q) (another : x ≢ p.number) where
    module _ {w : ℕ} {r : PassView} (t : Stepped q (Scan kind level x) w r) where
      pub member_more : Lets w end → not (lets (Some w) end) ≡ false → MembersSoFar (m + 1) r
      member_more holds lets_it = past_member at r (row_more x q (before_member at q so) (member_inside at) (member_other at another) w r t holds lets_it)

      pub member_stop : end ≢ 0 → not (lets (Some w) end) ≡ true → RowTried p kind level n (Some (record { level = level; row = n; pass = x; announced = w - 1 })) r
      member_stop = row_stop x q (before_member at q so) (member_inside at) (member_other at another) w r t

  pub members_through : {m : ℕ} {q : PassView} → MembersSoFar m q → m ≡ members shape level home → end ≢ 0 → RowTried p kind level n None q
  members_through {m} {q} so last = row_through shape.passes q (past_all m q so last) (omega arith)

  -- a row that was never filled is open
  pub row_unused : IsLegal p.seen → end ≡ 0 → RowTried p kind level n None p
  row_unused legal never = record {
    words = λ x. 0;
    takes = subst (λ (us : List Taken). Takes p us p) (sym (ap (λ (b : Bool). map (scan_taken kind level (λ x. 0)) (if b then [] else up_to (blocks_by (λ x. 0) end) (others shape level p.number))) (eq-eqb end 0 never))) refl;
    told = sym (ap (λ (b : Bool). option_map (blocked_load level n (λ x. 0)) (if b then None else find (blocks_by (λ x. 0) end) (others shape level p.number))) (eq-eqb end 0 never));
    still = still_none p legal;
    apart = λ l other. refl;
    free = λ none. inl never;
  }
