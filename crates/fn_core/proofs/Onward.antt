-- The next step of a call is allowed.
use Rattle.std.proofs.Common.{◌≡◌, ◌≢◌, inl, inr, ℕ, zero, suc, ◌+◌, ◌-◌, ◌*◌, ◌/◌, ◌%◌, ◌<◌, ◌≤◌, Bool, true, false, refl, sym, ◌∙◌, ap, subst, arith}
use Rattle.std.specs.Prelude.{Some, ◌&&◌, ◌==◌, if◌then◌else◌}
use Rattle.std.proofs.lemmas.Bool.{cases_eq, eq-eqb, ne_eqb, eqb-true, eqb-false, false≢true}
use Rattle.std.proofs.lemmas.Nat.{mod-mul-add, mod_below, div-add-mod', div-mul-add}
use Rattle.fn_model.specs.declared.Kind.{Kind}
use Rattle.fn_model.specs.declared.Kind.TheVariants as kinds
use Rattle.fn_model.specs.Calls.{same_kind}
use Rattle.fn_rows.specs.declared.Stage.{Stage}
use Rattle.fn_rows.specs.declared.Stage.TheVariants.{Out, Saw, Told, Waiting, Lead, Late, Shut, Based, Headed, FilledLo, FilledBase, Filled, Pointed, At, Over, Hit, Got}
use Rattle.fn_rows.specs.declared.Field.TheVariants.{Lo, Base, Prev}
use Rattle.fn_rows.specs.Machine.{IsFree}
use Rattle.fn_rows.specs.Trace.{Traced}
use Rattle.fn_rows.specs.Law.{row_in_hand}
use Rattle.fn_rows.proofs.Invariant.{Leading, IsOurs}
use Rattle.fn_layout.specs.declared.shape.Shape.{Shape}
use Rattle.fn_layout.specs.Words.{slot_number, row_number}
use Rattle.fn_core.specs.declared.Purpose.TheVariants.{Try}
use Rattle.fn_core.specs.declared.Move.TheVariants.{See, Apply, Load}
use Rattle.fn_core.specs.Tree.{aggregator, member, members}
use Rattle.fn_core.specs.State.{Start, Position, Resting, Trying, Climbing, Deciding, State, stage, lo_of, hi_of}
use Rattle.fn_core.specs.Machine.{IsStart, IsChange, Names, May, HasFreeRow, local_row, word_of, weight_of, no_cap, place, MayPoint, MayPeek}
use Rattle.fn_core.specs.Words.{row_there}
use Rattle.fn_core.specs.Order.{own_row, enters_main, next_at, next_by, next_move, first_free}
use Rattle.fn_core.specs.Batches.{has_come}
use Rattle.fn_core.specs.Positions.{IsClimbing, is_out}
use Rattle.fn_core.specs.Laws.{IsUnderway}
use Rattle.fn_core.proofs.Whole.{Whole, stages_of, FitsAt}
use Rattle.fn_core.proofs.FirstFree.{first_is_free}
use Rattle.fn_core.proofs.Places.{kind_cases}

-- the pass's row of this number has its place among those of its aggregator
pub row_local : (shape : Shape) (kind : Kind) (level p n : ℕ) → n < shape.rows → local_row shape level p (row_number shape p kind level n) ≡ member shape level p * shape.rows + n
row_local shape kind level p n less = ap (λ (y : ℕ). member shape level p * shape.rows + y) (mod-mul-add (slot_number shape p kind level) shape.rows n less)

-- a pass's own row has a number in the layout
pub own_local : (shape : Shape) (kind : Kind) (level p r : ℕ) → r / shape.rows ≡ member shape level p → (r % shape.rows < shape.rows) × (local_row shape level p (own_row shape p kind level r) ≡ r)
own_local shape kind level p r own =
    let n : ℕ = r % shape.rows in
    let less : n < shape.rows = mod_below r shape.rows (omega arith) in
    (less, row_local shape kind level p n less ∙ ap (λ (y : ℕ). y * shape.rows + n) (sym own) ∙ div-add-mod' r shape.rows)

module _ (start : Start) (ok : IsStart start) (s : State) (w : Whole start s) (p : ℕ)
    (names : (kind : Kind) (level r : ℕ) → row_in_hand (stage start s kind level p) ≡ Some r → Names start.shape kind level (aggregator start.shape p level) (row_there start.shape kind level (aggregator start.shape p level) r) r)
    (free : (kind : Kind) (level at hi base head : ℕ) → (s.callers p).position ≡ Climbing kind level → stage start s kind level p ≡ Headed at hi base head → HasFreeRow start s kind level p) where
  -- at the top the batch enters the main word
  at_top : (kind : Kind) (level at hi : ℕ) → IsChange kind → (s.callers p).position ≡ Climbing kind level → level ≡ start.shape.levels → stage start s kind level p ≡ Shut at hi → May start s p (enters_main start s p kind level)
  at_top kind level at hi (inr sub) is top e =
      subst (May start s p) (sym (ap (λ (k : Kind). if same_kind k kinds.Add && (start.cap == no_cap) then Apply (weight_of start s p kind level) else Load Try) sub))
      (inr (kind, level, is, (top, (at, hi, e)), λ add. absurd (cc (add, sub))))
  at_top kind level at hi (inl add) is top e = by_cap (start.cap == no_cap) refl
    where
      by_cap : (b : Bool) → (start.cap == no_cap) ≡ b → May start s p (enters_main start s p kind level)
      by_cap true high =
          subst (May start s p) (sym (ap (λ (k : Kind). if same_kind k kinds.Add && (start.cap == no_cap) then Apply (weight_of start s p k level) else Load Try) add ∙ ap (λ (b : Bool). if b then Apply (weight_of start s p kinds.Add level) else Load Try) high))
          (level, is ∙ ap (λ (k : Kind). Climbing k level) add, (top, (at, hi, subst (λ (k : Kind). stage start s k level p ≡ Shut at hi) add e)), eqb-true start.cap no_cap high, refl)
      by_cap false low =
          subst (May start s p) (sym (ap (λ (k : Kind). if same_kind k kinds.Add && (start.cap == no_cap) then Apply (weight_of start s p k level) else Load Try) add ∙ ap (λ (b : Bool). if b then Apply (weight_of start s p kinds.Add level) else Load Try) low))
          (inr (kind, level, is, (top, (at, hi, e)), λ same. (let most : start.cap ≤ no_cap = ok.cap in let other : start.cap ≢ no_cap = eqb-false start.cap no_cap low in omega arith)))

  module _ (kind : Kind) (below : ℕ) (is : (s.callers p).position ≡ Climbing kind (suc below)) (up : IsClimbing start.shape.levels (stages_of start s p) kind (suc below)) (came : suc below ≡ 1 → has_come (stage start s kind 1 p) ≡ true) where
    abbrev m : ℕ
    m = member start.shape (suc below) p

    abbrev t : Traced
    t = place start s kind (suc below) p

    abbrev level : ℕ
    level = suc below

    abbrev index : ℕ
    index = aggregator start.shape p (suc below)

    -- the next step may be taken
    abbrev Goes : Stage → Type 0
    Goes g = May start s p (next_at start s p kind (suc below) g)

    leading : (g : Stage) → stage start s kind (suc below) p ≡ g → Leading t t.total (IsOurs start.shape.rows t m) g
    leading g e = subst (Leading t t.total (IsOurs start.shape.rows t m)) e ((w.good.inv kind (suc below) index).leading m)

    -- what arrives weighs something
    weighs : (b : ℕ) → below ≡ suc b → 0 < weight_of start s p kind below
    weighs b e =
        let closed = up.closed below (omega arith) (omega arith) in
        let shut : stage start s kind (suc b) p ≡ Shut closed.0 closed.1 = subst (λ (l : ℕ). stage start s kind l p ≡ Shut closed.0 closed.1) e closed.2 in
        let u : Traced = place start s kind (suc b) p in
        let n : ℕ = member start.shape (suc b) p in
        let known : Leading u u.total (IsOurs start.shape.rows u n) (Shut closed.0 closed.1) = subst (Leading u u.total (IsOurs start.shape.rows u n)) shut ((w.good.inv kind (suc b) (aggregator start.shape p (suc b))).leading n) in
        let some : closed.0 < closed.1 = known.1 in
        omega (arith, ap (λ (g : Stage). hi_of g - lo_of g) closed.2)

    -- a batch arrives
    told_goes : (b seen : ℕ) → below ≡ b → stage start s kind (suc below) p ≡ Told seen → Goes (Told seen)
    told_goes zero seen e at = absurd (false≢true (ap has_come (sym at) ∙ subst (λ (l : ℕ). has_come (stage start s kind (suc l) p) ≡ true) (sym e) (came (omega arith))))
    told_goes (suc b) seen e at = subst (λ (x : ℕ). May start s p (next_at start s p kind (suc x) (Told seen))) (sym e)
        ((subst (λ (x : ℕ). (s.callers p).position ≡ Climbing kind (suc x)) e is, (seen, subst (λ (x : ℕ). stage start s kind (suc x) p ≡ Told seen) e at, subst (λ (x : ℕ). 0 < weight_of start s p kind x) e (weighs b e))), refl)

    -- the batch goes up
    shut_goes : (at hi : ℕ) → stage start s kind (suc below) p ≡ Shut at hi → Goes (Shut at hi)
    shut_goes at hi e = elim (cases_eq (suc below) start.shape.levels) [
      | inl top ↦ subst (λ (b : Bool). May start s p (if b then enters_main start s p kind (suc below) else See kind (suc (suc below)))) (sym (eq-eqb (suc below) start.shape.levels top)) (at_top kind (suc below) at hi up.change is top e)
      | inr lower ↦ subst (λ (b : Bool). May start s p (if b then enters_main start s p kind (suc below) else See kind (suc (suc below)))) (sym (ne_eqb (suc below) start.shape.levels lower))
          (is, (at, hi, e), (let high : suc below ≤ start.shape.levels = up.high in omega arith))
    ]

    goes : (g : Stage) → stage start s kind (suc below) p ≡ g → Goes g
    goes Out e = absurd (false≢true (sym up.there ∙ ap is_out e))
    goes (Saw seen) e = (is, (seen, e))
    goes (Told seen) e = told_goes below seen refl e
    goes (Waiting at) e = (is, (at, e))
    goes (Lead at) e = (is, (at, e))
    goes (Late at) e = (is, inr (at, e))
    goes (Shut at hi) e = shut_goes at hi e
    goes (Based at hi b) e = (is, inl (at, hi, b, e))
    goes (Headed at hi b h) e =
        let n : ℕ = first_free start s kind (suc below) p in
        let first = first_is_free start s kind (suc below) p (free kind (suc below) at hi b h is e) in
        let same = row_local start.shape kind (suc below) p n first.0 in
        let mine : (m * start.shape.rows + n) / start.shape.rows ≡ m = div-mul-add m start.shape.rows n first.0 in
        (kind, suc below, n, (is, (at, hi, b, h, e, ap (λ (x : ℕ). x / start.shape.rows) same ∙ mine, subst (IsFree (members start.shape (suc below) index) t.state m) (sym same) first.1, ap (word_of Lo) e)), (first.0, refl))
    goes (FilledLo at hi b h r) e =
        let named = own_local start.shape kind (suc below) p r (leading (FilledLo at hi b h r) e).2.0 in
        (kind, suc below, r % start.shape.rows, (is, (at, hi, b, h, e ∙ ap (FilledLo at hi b h) (sym named.1), ap (word_of Base) e)), (named.0, refl))
    goes (FilledBase at hi b h r) e =
        let named = own_local start.shape kind (suc below) p r (leading (FilledBase at hi b h r) e).2.0 in
        (kind, suc below, r % start.shape.rows, (is, (at, hi, b, h, e ∙ ap (FilledBase at hi b h) (sym named.1), ap (word_of Prev) e)), (named.0, refl))
    goes (Filled at hi b r) e =
        let named = own_local start.shape kind (suc below) p r (leading (Filled at hi b r) e).1.0 in
        ((is, (at, hi, b, r, e)), r % start.shape.rows, (named.0, refl), subst (MayPoint (local_row start.shape (suc below) p (own_row start.shape p kind (suc below) r))) (sym e) named.1)
    goes (Pointed at hi b r) e = (is, (at, hi, b, r, e))
    goes (At at r) e =
        (kind, suc below, (is, inl (at, r, e)), subst (λ (g : Stage). MayPeek start kind (suc below) index g (row_there start.shape kind (suc below) index r) Lo) (sym e) (names kind (suc below) r (ap row_in_hand e)))
    goes (Over at r) e =
        (kind, suc below, (is, inr (inl (at, r, e))), subst (λ (g : Stage). MayPeek start kind (suc below) index g (row_there start.shape kind (suc below) index r) Prev) (sym e) (names kind (suc below) r (ap row_in_hand e)))
    goes (Hit at r lo) e =
        (kind, suc below, (is, inr (inr (at, r, lo, e))), subst (λ (g : Stage). MayPeek start kind (suc below) index g (row_there start.shape kind (suc below) index r) Base) (sym e) (names kind (suc below) r (ap row_in_hand e)))
    goes (Got b ahead) e = (is, (b, ahead, e))

  -- a pass whose call is underway climbs, or has loaded a word at the top
  pub goes_on : IsUnderway start s p → May start s p (next_move start s p)
  goes_on u = by_position (s.callers p).position refl (w.fits p)
    where
      here_too : (kind : Kind) (level : ℕ) → IsClimbing start.shape.levels (stages_of start s p) kind level → level ≡ 1 → has_come (stage start s kind 1 p) ≡ true
      here_too kind level up e = elim (kind_cases u.0 kind) [
        | inl same ↦ ap (λ (k : Kind). has_come (stage start s k 1 p)) (sym same) ∙ u.1
        | inr ne ↦ absurd (false≢true (sym (ap has_come (up.other u.0 1 ne)) ∙ u.1))
      ]

      climbs : (kind : Kind) (level : ℕ) → (s.callers p).position ≡ Climbing kind level → IsClimbing start.shape.levels (stages_of start s p) kind level → May start s p (next_by start s p (Climbing kind level))
      climbs kind zero is up = (let low : 1 ≤ 0 = up.low in absurd (omega arith))
      climbs kind (suc below) is up = goes kind below is up (λ e. here_too kind (suc below) up e) (stage start s kind (suc below) p) refl

      by_position : (position : Position) → (s.callers p).position ≡ position → FitsAt start s p position → May start s p (next_by start s p position)
      by_position Resting is fit = absurd (false≢true (sym (ap has_come (fit u.0 1)) ∙ u.1))
      by_position (Trying word) is fit = absurd (false≢true (sym (ap has_come (fit u.0 1)) ∙ u.1))
      by_position (Climbing kind level) is fit = climbs kind level is fit
      by_position (Deciding kind level word) is fit = inr (level, word, is, refl)
