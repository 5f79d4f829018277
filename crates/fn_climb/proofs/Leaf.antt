-- A pass with an open row at each level arrives at its leaf.
use Rattle.std.proofs.Common.{◌≡◌, inl, inr, ℕ, ◌+◌, ◌-◌, ◌*◌, ◌%◌, ◌<◌, List, [], ◌∷◌, Option, None, get_or, refl, sym, ap, subst, ◌∙◌, arith}
use Rattle.std.proofs.lemmas.Nat.{div-mul-add, mod-mul-add}
use Rattle.fn_model.specs.declared.Kind.{Kind}
use Rattle.fn_rows.specs.Machine.{Lets, IsFree}
use Rattle.fn_rows.specs.declared.Stage.TheVariants.{Saw, Told, Waiting}
use Rattle.fn_layout.specs.Tree.{IsLevel, aggregator, member, members, pass_of}
use Rattle.fn_layout.proofs.Tree.{aggregator_below}
use Rattle.fn_layout.proofs.Members.{numbers_are_members}
use Rattle.fn_core.specs.declared.Start.{Start}
use Rattle.fn_core.specs.declared.Move.TheVariants.{See, Announce, Arrive}
use Rattle.fn_core.specs.declared.Position.TheVariants.{Climbing}
use Rattle.fn_core.specs.Machine.{IsChange, MaySpend, place}
use Rattle.fn_core.specs.Words.{Own}
use Rattle.fn_core.specs.After.{in_stage, in_position, with_call, told_stage}
use Rattle.fn_core.specs.Batches.{has_come}
use Rattle.fn_core.specs.Laws.{IsFreeFor}
use Rattle.fn_core.specs.Calls.{IsLegal, IsIdle, state_in}
use Rattle.fn_table.specs.Seen.{PassView, May, Stepped, own_of}
use Rattle.fn_climb.specs.declared.course.Course.{Course}
use Rattle.fn_climb.specs.Course.{Holds}
use Rattle.fn_table.specs.Later.{IsLater}
use Rattle.fn_climb.specs.Begin.{IsOpen, AreOpen, Arrived}
use Rattle.fn_table.proofs.Later.{later_by, later_on}
use Rattle.fn_climb.proofs.Goes.{level_same}
use Rattle.fn_climb.proofs.Scans.{same_put}
use Rattle.fn_climb.proofs.Every.{open_still}

module _ (p : PassView) (kind : Kind) (level n : ℕ) (less : n < p.seen.start.shape.rows) where
  abbrev m : ℕ
  m = member p.seen.start.shape level p.number

  abbrev r : ℕ
  r = m * p.seen.start.shape.rows + n

  small : n % p.seen.start.shape.rows ≡ n
  small = let e : 0 * p.seen.start.shape.rows + n ≡ n = omega arith in ap (λ (x : ℕ). x % p.seen.start.shape.rows) (sym e) ∙ mod-mul-add 0 p.seen.start.shape.rows n less

  end_is : (own_of p).ends kind level n ≡ (place p.seen.start (state_in p.seen) kind level p.number).end r
  end_is = ap (λ (x : ℕ). (place p.seen.start (state_in p.seen) kind level p.number).end (m * p.seen.start.shape.rows + x)) small

  free_by : IsOpen p.seen.start.shape p.number (own_of p) kind level n → IsFree (members p.seen.start.shape level (aggregator p.seen.start.shape p.number level)) (place p.seen.start (state_in p.seen) kind level p.number).state m r
  free_by (inl never) = inl (sym end_is ∙ never)
  free_by (inr each) = inr (λ q within apart.
      let index : ℕ = aggregator p.seen.start.shape p.number level in
      let other : ℕ = pass_of p.seen.start.shape level index q in
      let of = numbers_are_members p.seen.start.shape level index q (aggregator_below p.seen.start.shape p.number level) within in
      let found = each other of.0 (λ e. apart (sym of.2 ∙ ap (member p.seen.start.shape level) e)) of.1 in
      (found.0, ap ((own_of p).found kind level) (sym of.2) ∙ found.1, subst (Lets found.0) end_is found.2))

-- an open row may be filled
pub open_free : (p : PassView) (kind : Kind) (level n : ℕ) → IsOpen p.seen.start.shape p.number (own_of p) kind level n → n < p.seen.start.shape.rows → IsFreeFor p.seen.start (state_in p.seen) p.number kind level (member p.seen.start.shape level p.number * p.seen.start.shape.rows + n)
open_free p kind level n open_row less = (div-mul-add (member p.seen.start.shape level p.number) p.seen.start.shape.rows n less, free_by p kind level n less open_row)

module _ (p : PassView) (kind : Kind) (amount : ℕ) (rows : List ℕ) (inside : p.number < p.seen.start.shape.passes) (legal : IsLegal p.seen) (idle : IsIdle p.seen p.number) (change : IsChange kind) (spend : MaySpend (state_in p.seen) p.number amount) (open_rows : AreOpen p kind rows) where
  pub may_see : May p (See kind 1)
  may_see = (
    inside,
    (
      idle,
      change,
      λ level low high.
          let row = open_rows level (low, high) in
          let free = open_free p kind level (get_or rows (level - 1) 0) row.1 row.0 in
          (member p.seen.start.shape level p.number * p.seen.start.shape.rows + get_or rows (level - 1) 0, free.0, free.1),
    ),
  )

  module _ {a : ℕ} {q : PassView} (t : Stepped p (See kind 1) a q) where
    abbrev saw : Own
    saw = in_position (in_stage (own_of p) kind 1 (Saw a)) (Climbing kind 1)

    saw_is : own_of q ≡ saw
    saw_is = t.own

    pub saw_stage : (own_of q).stages kind 1 ≡ Saw a
    saw_stage = ap (λ (o : Own). o.stages kind 1) saw_is ∙ level_same (own_of p).stages kind 1 (Saw a)

    inside_next : (v : PassView) → IsLater p v → v.number < v.seen.start.shape.passes
    inside_next v later = subst (λ (z : ℕ × Start). z.0 < z.1.shape.passes) (λ i. (sym later.number i, sym later.start i)) inside

    pub may_announce : May q (Announce kind 1)
    may_announce = (inside_next q (later_by p (See kind 1) a q t), (ap (λ (o : Own). o.caller.position) saw_is, (a, saw_stage)))

    module _ {b : ℕ} {r : PassView} (u : Stepped q (Announce kind 1) b r) where
      abbrev told : Own
      told = in_stage saw kind 1 (told_stage (saw.stages kind 1))

      told_is : own_of r ≡ told
      told_is = u.own ∙ ap (λ (o : Own). in_stage o kind 1 (told_stage (o.stages kind 1))) saw_is

      told_stage_is : (own_of r).stages kind 1 ≡ Told a
      told_stage_is = ap (λ (o : Own). o.stages kind 1) told_is ∙ level_same saw.stages kind 1 (told_stage (saw.stages kind 1)) ∙ ap told_stage (level_same (own_of p).stages kind 1 (Saw a))

      later_r : IsLater p r
      later_r = later_on p q r (later_by p (See kind 1) a q t) (later_by q (Announce kind 1) b r u)

      pub may_arrive : May r (Arrive kind 1 amount)
      may_arrive = (
        inside_next r later_r,
        ((ap (λ (o : Own). o.caller.position) told_is, (a, told_stage_is, omega (arith, spend.0))), (spend.0, omega (arith, spend.1, ap (λ (o : Own). o.caller.left) told_is))),
      )

      module _ {n : ℕ} {v : PassView} (w : Stepped r (Arrive kind 1 amount) n v) where
        abbrev waiting : Own
        waiting = with_call (in_stage told kind 1 (Waiting n)) p.number kind amount

        later_v : IsLater p v
        later_v = later_on p r v later_r (later_by r (Arrive kind 1 amount) n v w)

        waiting_is : own_of v ≡ waiting
        waiting_is = w.own ∙ (λ i. with_call (in_stage (told_is i) kind 1 (Waiting n)) (later_r.number i) kind amount)

        stage_leaf : (own_of v).stages kind 1 ≡ Waiting n
        stage_leaf = ap (λ (o : Own). o.stages kind 1) waiting_is ∙ level_same told.stages kind 1 (Waiting n)

        found_same : (own_of v).found ≡ (own_of p).found
        found_same = ap (λ (o : Own). o.found) waiting_is ∙ same_put told.found kind 1 ∙ same_put saw.found kind 1 ∙ same_put (own_of p).found kind 1

        ends_same : (own_of v).ends ≡ (own_of p).ends
        ends_same = ap (λ (o : Own). o.ends) waiting_is ∙ same_put told.ends kind 1 ∙ same_put saw.ends kind 1 ∙ same_put (own_of p).ends kind 1

        abbrev course : Course
        course = record { kind = kind; level = 1; word = None; stage = Waiting n; below = record { at = 0; hi = 0 } ∷ record { at = 0; hi = 0 } ∷ []; rows = rows }

        open_then : (level : ℕ) → IsLevel v.seen.start.shape level → (get_or rows (level - 1) 0 < v.seen.start.shape.rows) × IsOpen v.seen.start.shape v.number (own_of v) kind level (get_or rows (level - 1) 0)
        open_then level there =
            let row = open_rows level (subst (λ (b : Start). IsLevel b.shape level) later_v.start there) in
            subst (λ (z : Start × ℕ). (get_or rows (level - 1) 0 < z.0.shape.rows) × IsOpen z.0.shape z.1 (own_of v) kind level (get_or rows (level - 1) 0)) (λ i. (sym later_v.start i, sym later_v.number i))
            (row.0, open_still p.seen.start.shape p.number (own_of p) (own_of v) kind level (get_or rows (level - 1) 0) ends_same (ap (λ (f : Kind → ℕ → ℕ → Option ℕ). f kind level) found_same) row.1)

        pub holds_leaf : Holds v course
        holds_leaf = record {
          inside = inside_next v later_v;
          legal = w.legal;
          call = (kind, ap has_come stage_leaf);
          course = record {
            position = ap (λ (o : Own). o.caller.position) waiting_is;
            here = sym stage_leaf;
            two = refl;
            under = λ l low less. absurd (omega (arith, low, less));
          };
          chosen = record { rows = λ level there fills. let row = open_then level there in (row.0, open_free v kind level (get_or rows (level - 1) 0) row.1 row.0) };
        }

        pub arrives : Arrived p kind amount v
        arrives = record {
          a = a;
          b = b;
          n = n;
          takes = (q, t, (r, u, (v, w, refl)));
          later = later_v;
          begun = record {
            waits = record { call = (kind, ap has_come stage_leaf); position = ap (λ (o : Own). o.caller.position) waiting_is; offset = n; waits = stage_leaf };
            last = ap (λ (o : Own). o.caller.last) waiting_is;
            made = ap (λ (o : Own). o.caller.made) waiting_is;
            left = let e : (own_of v).caller.left ≡ (own_of p).caller.left - amount = ap (λ (o : Own). o.caller.left) waiting_is in omega (arith, e, spend.1);
          };
        }
