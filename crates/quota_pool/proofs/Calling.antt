-- A desk after one of its passes has made a call: what it claims, and how the call was made.
use Rattle.std.proofs.Common.{◌≡◌, ◌+◌, ◌<◌, ◌≤◌, ◌⊎◌, get_or, get_or-set_same, get_or-set_other, ◌-◌, min, true, false, ℕ, List, map, set, length, slice_get, Option, Some, None, Bool, Vec, refl, sym, ap, ◌∙◌, subst, arith, inl, inr}
use Rattle.std.proofs.lemmas.List.{with_items_is, set-set, length-set}
use Rattle.std.proofs.lemmas.Bool.{cases_eq}
use Rattle.std.proofs.lemmas.Option.{slice_get_cases, slice_get_within, slice_get_read, get_or_from_slice_get}
use Rattle.std.specs.declared.alloc.Global.{Global}
use Rattle.std.specs.Vec.{with_item, with_items}
use Rattle.fn_model.specs.declared.Kind.{Kind}
use Rattle.fn_model.specs.declared.Kind.TheVariants.{Add, Read}
use Rattle.fn_core.specs.declared.Start.{Start}
use Rattle.fn_core.specs.Entries.{IsAlone}
use Rattle.fn_model.specs.Integer.{moved_amount}
use Rattle.fn_model.proofs.Lists.{slice_get-set_same, slice_get-set_other}
use Rattle.fn_core.specs.declared.Move.TheVariants.{Load}
use Rattle.fn_core.specs.declared.Purpose.TheVariants as purpose
use Rattle.fn_table.specs.Seen.{TableView, PassView, IsOf, Stepped}
use Rattle.fn_table.specs.Later.{IsLater}
use Rattle.fn_table.proofs.Later.{later_by}
use Rattle.fn_table.specs.Called.{call_of, HasCalled}
use Rattle.fn_table.specs.Claims.{left, Rests, Made}
use Rattle.fn_funnel.specs.declared.waiting.Added.{Added}
use Rattle.fn_funnel.specs.Waiting.{Waited, IsStraight, is_one_step}
use Rattle.quota_pool.specs.declared.moved.Moved.{Moved}
use Rattle.quota_pool.specs.declared.closing.Closing.{Closing}
use Rattle.quota_pool.specs.Rooms.{HasPlace, KeepsRoom}
use Rattle.quota_pool.specs.Views.{PoolView, DeskView, Belongs, left_in, left_at}
use Rattle.quota_pool.specs.Claims.{MadeAt}
use Rattle.quota_pool.specs.Calls.{Called, WentAt}

-- where two lookups of one place have found something, they have found the same
found_same : {A : Type 0} (o : Option A) (x y : A) → o ≡ Some x → o ≡ Some y → x ≡ y
found_same o x y e f = let both : Some x ≡ Some y = sym e ∙ f in cc

-- a place of a changed list holds what was written, or what it held before
pub written : {A : Type 0} (xs : List A) (i j : ℕ) (x y : A) → slice_get (set xs i x) j ≡ Some y → ((j ≡ i) × (y ≡ x)) ⊎ (slice_get xs j ≡ Some y)
written xs i j x y at =
    let inside : j < length xs = subst (λ n. j < n) (length-set xs i x) (slice_get_within (set xs i x) j y at) in
    elim (cases_eq j i) [
      | inl same ↦
          let here : slice_get (set xs i x) i ≡ Some x = slice_get-set_same xs i x (subst (λ n. n < length xs) same inside) in
          inl (same, found_same (slice_get (set xs i x) i) y x (ap (λ n. slice_get (set xs i x) n) (sym same) ∙ at) here)
      | inr other ↦
          elim ((slice_get_cases xs j).1) [
            | inl (z, within, was, got) ↦
                let still : slice_get (set xs i x) j ≡ Some z = slice_get-set_other xs i j x z other was in
                inr (was ∙ ap (λ v. Some v) (found_same (slice_get (set xs i x) j) z y still at))
            | inr past ↦ absurd (omega (arith, inside, past.0))
          ]
    ]

-- a desk with another pass at a tenant
abbrev with_pass : DeskView → ℕ → PassView → DeskView
with_pass desk tenant q = record { worker = desk.worker; passes = set desk.passes tenant q }

module _ (pool : PoolView) (old : DeskView) (belongs : Belongs pool old) (tenant : ℕ) (p q : PassView) (kind : Kind) (amount reply : ℕ) (at : slice_get old.passes tenant ≡ Some p) (made : Made p kind amount reply q) where
  abbrev new : DeskView
  new = with_pass old tenant q

  each : (t : ℕ) (table : TableView) (pass : PassView) → slice_get pool.tables t ≡ Some table → slice_get new.passes t ≡ Some pass → IsOf table pass × (pass.number ≡ old.worker) × Rests pass
  each t table pass here there =
      elim (written old.passes tenant t q pass there) [
        | inl (same, is) ↦
            let was = belongs.each t table p here (ap (λ n. slice_get old.passes n) same ∙ at) in
            let Stands : PassView → Type 0 = λ v. IsOf table v × (v.number ≡ old.worker) × Rests v in
            let stands : Stands q = ((made.same.0 ∙ was.0.0, made.same.2 ∙ was.0.1), made.same.1 ∙ was.1, made.rests) in
            subst Stands (sym is) stands
        | inr still ↦ belongs.each t table pass here still
      ]

  -- the desk is still one of the pool
  pub belongs_after : Belongs pool new
  belongs_after = record { tenants = length-set old.passes tenant q ∙ belongs.tenants; worker = belongs.worker; each = each }

-- the desk of the first worker keeps its room
pub room_kept : (closing : Option Closing) (pool : PoolView) (old : DeskView) (tenant : ℕ) (kind : Kind) (amount : ℕ) (answer : Moved) (new : DeskView) → KeepsRoom closing old → MadeAt pool old tenant kind amount answer new → KeepsRoom closing new
room_kept closing pool old tenant kind amount answer new keeps call =
    let Keeps : DeskView → Type 0 = λ d. KeepsRoom closing d in
    subst Keeps (sym call.desk) (λ worker.
    let kept = keeps worker in
    let suits = kept.2 in
    let same : length (set old.passes tenant call.after) ≡ length old.passes = length-set old.passes tenant call.after in
    let few : call.pass.seen.start.shape.passes ≤ suits.0 = subst (λ (p : PassView). p.seen.start.shape.passes ≤ suits.0) (get_or_from_slice_get old.passes tenant call.pass call.pass call.at) (suits.2 tenant call.pass (slice_get_within old.passes tenant call.pass call.at)) in
    let after : call.after.seen.start.shape.passes ≤ suits.0 = subst (λ (s : Start). s.shape.passes ≤ suits.0) (sym call.made.same.2) few in (
      kept.0,
      kept.1,
      (
        suits.0,
        subst (λ n. HasPlace suits.0 n kept.0) (sym same) suits.1,
        λ k d within.
            elim (cases_eq k tenant) [
              | inl here ↦
                  let inside : tenant < length old.passes = slice_get_within old.passes tenant call.pass call.at in
                  subst (λ (p : PassView). p.seen.start.shape.passes ≤ suits.0) (sym (ap (λ n. get_or (set old.passes tenant call.after) n d) here ∙ get_or-set_same old.passes tenant call.after d inside)) after
              | inr other ↦ subst (λ (p : PassView). p.seen.start.shape.passes ≤ suits.0) (sym (get_or-set_other old.passes tenant k call.after d other)) (suits.2 k d (omega (arith, within, same)))
            ],
      ),
    ))

module _ (old : DeskView) (worker : ℕ) (passes : List PassView) (tenant : ℕ) (p q : PassView) (is : (record { worker = worker; passes = passes }) ≡ old) (within : tenant < length old.passes) (had : p ≡ get_or passes tenant p) where
  -- the desk has the pass in place of the one that it had
  desk_after : (record { worker = worker; passes = set passes tenant q }) ≡ with_pass old tenant q
  desk_after = ap (λ (d : DeskView). with_pass d tenant q) is

  -- it had the pass that made the call
  pub had_at : slice_get old.passes tenant ≡ Some p
  had_at = ap (λ (d : DeskView). slice_get d.passes tenant) (sym is) ∙ slice_get_read passes (length passes) tenant p refl (subst (λ (d : DeskView). tenant < length d.passes) (sym is) within) had

  -- what it claims of the call that was made
  pub made_at : (pool : PoolView) → Belongs pool old → (kind : Kind) (amount : ℕ) (answer : Moved) → Made p kind amount answer.before q
      → answer.moved ≡ moved_amount p.seen.start.cap answer.before kind amount → MadeAt pool old tenant kind amount answer (record { worker = worker; passes = set passes tenant q })
  made_at pool belongs kind amount answer made moved = record {
    pass = p;
    after = q;
    at = had_at;
    made = made;
    moved = moved;
    desk = desk_after;
    together = subst (λ (d : DeskView). Belongs pool d) (sym desk_after) (belongs_after pool old belongs tenant p q kind amount answer.before had_at made);
  }

  -- and how it was made
  pub went_at : (kind : Kind) (through : Bool) (amount : ℕ) (answer : Moved) → Called p kind through amount answer q → WentAt old tenant kind through amount answer (record { worker = worker; passes = set passes tenant q })
  went_at kind through amount answer called first last was is_last =
      let there : slice_get (set old.passes tenant q) tenant ≡ Some q = slice_get-set_same old.passes tenant q (slice_get_within old.passes tenant p had_at) in
      let here : slice_get (set old.passes tenant q) tenant ≡ Some last = ap (λ (d : DeskView). slice_get d.passes tenant) (sym desk_after) ∙ is_last in
      subst (λ (v : PassView). Called v kind through amount answer last) (found_same (slice_get old.passes tenant) p first had_at was)
      (subst (λ (v : PassView). Called p kind through amount answer v) (found_same (slice_get (set old.passes tenant q) tenant) q last there here) called)

  -- the room that it keeps stays
  pub room_stays : (closing : Option Closing) → KeepsRoom closing (record { worker = worker; passes = passes }) → (pool : PoolView) → Belongs pool old → (kind : Kind) (amount : ℕ) (answer : Moved) → Made p kind amount answer.before q
      → answer.moved ≡ moved_amount p.seen.start.cap answer.before kind amount → KeepsRoom closing (record { worker = worker; passes = set passes tenant q })
  room_stays closing keeps pool belongs kind amount answer made moved =
      let Keeps : DeskView → Type 0 = λ d. KeepsRoom closing d in
      room_kept closing pool old tenant kind amount answer (record { worker = worker; passes = set passes tenant q }) (subst Keeps is keeps) (made_at pool belongs kind amount answer made moved)

-- the cap of a desk's pass is that of its table, and it rests
pub cap_is : (pool : PoolView) (desk : DeskView) (tenant : ℕ) (table : TableView) (p : PassView) → Belongs pool desk → slice_get pool.tables tenant ≡ Some table → slice_get desk.passes tenant ≡ Some p → p.seen.start.cap ≡ table.start.cap
cap_is pool desk tenant table p belongs here there = ap (λ (start : Start). start.cap) ((belongs.each tenant table p here there).0.1)

pub rests_at : (pool : PoolView) (desk : DeskView) (tenant : ℕ) (table : TableView) (p : PassView) → Belongs pool desk → slice_get pool.tables tenant ≡ Some table → slice_get desk.passes tenant ≡ Some p → Rests p
rests_at pool desk tenant table p belongs here there = (belongs.each tenant table p here there).2

-- how much an addition moves
pub moved_so : (p : PassView) (amount before n cap : ℕ) → p.seen.start.cap ≡ cap → n ≡ min amount (cap - before) → n ≡ moved_amount p.seen.start.cap before Add amount
moved_so p amount before n cap is moved = moved ∙ ap (λ limit. min amount (limit - before)) (sym is)

-- a call that waited for its reply
pub waited_by : (p q : PassView) (kind : Kind) (amount : ℕ) (added : Added) (n : ℕ) → Waited p kind amount added q → n ≡ moved_amount p.seen.start.cap added.before kind amount → Called p kind true amount (record { before = added.before; moved = n; way = Some added.way }) q
waited_by p q kind amount added n waited moved = record { later = waited.later; called = waited.called; moved = moved; way = waited.way; entered = waited.entered }

-- an addition past the funnel
pub directed_by : (p q : PassView) (amount before n : ℕ) → IsLater p q → HasCalled p Add amount before q → IsStraight (is_one_step Add p.seen.start.cap) p Add amount before q → n ≡ moved_amount p.seen.start.cap before Add amount → IsAlone q.seen (call_of p Add amount)
    → Called p Add false amount (record { before = before; moved = n; way = None }) q
directed_by p q amount before n later called way moved alone = record { later = later; called = called; moved = moved; way = way; entered = alone }

-- a read
pub read_by : (p q : PassView) (before : ℕ) → Stepped p (Load purpose.Read) before q → HasCalled p Read 0 before q → IsAlone q.seen (call_of p Read 0) → Called p Read false 0 (record { before = before; moved = 0; way = None }) q
read_by p q before stepped called alone = record { later = later_by p (Load purpose.Read) before q stepped; called = called; moved = refl; way = stepped; entered = alone }

-- what the desk has left at the tenant after a call
pub left_after : (pool : PoolView) (old : DeskView) (tenant : ℕ) (kind : Kind) (amount : ℕ) (answer : Moved) (new : DeskView) → MadeAt pool old tenant kind amount answer new → left_at new tenant + amount ≡ left_at old tenant
left_after pool old tenant kind amount answer new call =
    let inside = slice_get_within old.passes tenant call.pass call.at in
    let now : left_at new tenant ≡ left call.after = ap (λ (d : DeskView). left_at d tenant) call.desk ∙ ap left_in (slice_get-set_same old.passes tenant call.after inside) in
    ap (λ (n : ℕ). n + amount) now ∙ call.made.spent ∙ sym (ap left_in call.at)
