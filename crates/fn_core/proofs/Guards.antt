-- A guard reads nothing but what is the pass's own.
use Rattle.std.proofs.Common.{◌≡◌, inl, inr, ℕ, zero, suc, ◌+◌, ◌-◌, ◌*◌, ◌/◌, ◌%◌, ◌≤◌, sym, ap, subst, ◌∙◌}
use Rattle.std.proofs.lemmas.Nat.{div-add-mod'}
use Rattle.fn_model.specs.declared.Kind.{Kind}
use Rattle.fn_rows.specs.declared.Field.{Field}
use Rattle.fn_rows.specs.declared.Field.TheVariants.{Lo, Base, Prev}
use Rattle.fn_rows.specs.declared.Stage.{Stage}
use Rattle.fn_rows.specs.Machine.{Step, IsFree, Lets, Guard}
use Rattle.fn_rows.specs.Machine as step
use Rattle.fn_layout.specs.Tree.{aggregator, member, members}
use Rattle.fn_core.specs.declared.Purpose.TheVariants as purpose
use Rattle.fn_core.specs.declared.Move.{Move}
use Rattle.fn_core.specs.declared.Move.TheVariants.{Scan, See, Announce, Arrive, Look, Close, Apply, Head, Fill, Point, Publish, Peek, Leave, Load, Exchange, Direct, Glance}
use Rattle.fn_core.specs.State.{Start, Caller, State, stage, lo_of, hi_of}
use Rattle.fn_core.specs.Machine.{May, MayTake, MayArrive, MayPeek, MayPoint, MaySpend, HasClosed, place, local_row, weight_of, word_of, fills}
use Rattle.fn_core.specs.Words.{Own, own}

module _ (start : Start) (pass : ℕ) (s t : State) (same : own start t pass ≡ own start s pass) where
  caller : t.callers pass ≡ s.callers pass
  caller = ap (λ (o : Own). o.caller) same

  pub position : (t.callers pass).position ≡ (s.callers pass).position
  position = ap (λ (c : Caller). c.position) caller

  pub stage_is : (kind : Kind) (level : ℕ) → stage start t kind level pass ≡ stage start s kind level pass
  stage_is kind level = ap (λ (o : Own). o.stages kind level) same

  pub found_is : (kind : Kind) (level other : ℕ) → (place start t kind level pass).found (member start.shape level pass) other ≡ (place start s kind level pass).found (member start.shape level pass) other
  found_is kind level other = ap (λ (o : Own). o.found kind level other) same

  -- the end of a row of the pass
  pub end_is : (kind : Kind) (level r : ℕ) → r / start.shape.rows ≡ member start.shape level pass → (place start t kind level pass).end r ≡ (place start s kind level pass).end r
  end_is kind level r mine =
      let rows : ℕ = start.shape.rows in
      let e : r ≡ member start.shape level pass * rows + r % rows = sym (div-add-mod' r rows) ∙ ap (λ (x : ℕ). x * rows + r % rows) mine in
      ap (place start t kind level pass).end e ∙ ap (λ (o : Own). o.ends kind level r) same ∙ ap (place start s kind level pass).end (sym e)

  pub free_is : (kind : Kind) (level n r : ℕ) → r / start.shape.rows ≡ member start.shape level pass → IsFree n (place start s kind level pass).state (member start.shape level pass) r → IsFree n (place start t kind level pass).state (member start.shape level pass) r
  free_is kind level n r mine (inl never) = inl (end_is kind level r mine ∙ never)
  free_is kind level n r mine (inr scans) = inr (λ q a b. let w = scans q a b in (w.0, found_is kind level q ∙ w.1, subst (Lets w.0) (sym (end_is kind level r mine)) w.2))

  pub weight_is : (kind : Kind) (level : ℕ) → weight_of start t pass kind level ≡ weight_of start s pass kind level
  weight_is kind level = ap (λ (x : Stage). hi_of x - lo_of x) (stage_is kind level)

  spend_is : (amount : ℕ) → MaySpend s pass amount → MaySpend t pass amount
  spend_is amount (a, b) = (a, subst (λ (c : Caller). amount ≤ c.left) (sym caller) b)

  closed_is : (kind : Kind) (level : ℕ) → HasClosed start s pass kind level → HasClosed start t pass kind level
  closed_is kind level (at, hi, e) = (at, hi, stage_is kind level ∙ e)

  see_is : (kind : Kind) (level : ℕ) → May start s pass (See kind level) → May start t pass (See kind level)
  see_is kind zero h = h
  see_is kind (suc zero) (at, change, free) =
      (position ∙ at, change, λ level a b. let f = free level a b in (f.0, f.1, free_is kind level (members start.shape level (aggregator start.shape pass level)) f.0 f.1 f.2))
  see_is kind (suc (suc below)) (at, closed, high) = (position ∙ at, closed_is kind (suc below) closed, high)

  arrive_is : (kind : Kind) (level weight : ℕ) → MayArrive start s pass kind level weight → MayArrive start t pass kind level weight
  arrive_is kind zero weight h = h
  arrive_is kind (suc zero) weight h = spend_is weight h
  arrive_is kind (suc (suc below)) weight h = h ∙ sym (weight_is kind (suc below))

  fill_is : (kind : Kind) (level row : ℕ) (field : Field) → MayTake start s kind level pass (fills start s kind level pass row field) → MayTake start t kind level pass (fills start t kind level pass row field)
  fill_is kind level row Lo (at, hi, b, h, e, mine, free, word) =
      (at, hi, b, h, stage_is kind level ∙ e, mine, free_is kind level (members start.shape level (aggregator start.shape pass level)) (local_row start.shape level pass row) mine free, ap (word_of Lo) (stage_is kind level) ∙ word)
  fill_is kind level row Base (at, hi, b, h, e, word) = (at, hi, b, h, stage_is kind level ∙ e, ap (word_of Base) (stage_is kind level) ∙ word)
  fill_is kind level row Prev (at, hi, b, h, e, word) = (at, hi, b, h, stage_is kind level ∙ e, ap (word_of Prev) (stage_is kind level) ∙ word)

  head_is : (kind : Kind) (level : ℕ) → MayTake start s kind level pass (λ m. step.Head m) → MayTake start t kind level pass (λ m. step.Head m)
  head_is kind level (inl (at, hi, b, e)) = inl (at, hi, b, stage_is kind level ∙ e)
  head_is kind level (inr (at, e)) = inr (at, stage_is kind level ∙ e)

  peek_is : (kind : Kind) (level : ℕ) → MayTake start s kind level pass (λ m. step.Peek m) → MayTake start t kind level pass (λ m. step.Peek m)
  peek_is kind level (inl (at, r, e)) = inl (at, r, stage_is kind level ∙ e)
  peek_is kind level (inr (inl (at, r, e))) = inr (inl (at, r, stage_is kind level ∙ e))
  peek_is kind level (inr (inr (at, r, lo, e))) = inr (inr (at, r, lo, stage_is kind level ∙ e))

  load_is : May start s pass (Load purpose.Try) → May start t pass (Load purpose.Try)
  load_is (inl at) = inl (position ∙ at)
  load_is (inr (kind, level, at, top, cap)) = inr (kind, level, position ∙ at, (top.0, closed_is kind level top.1), cap)

  exchange_is : (kind : Kind) (amount : ℕ) → May start s pass (Exchange kind amount) → May start t pass (Exchange kind amount)
  exchange_is kind amount (inl (word, at, change, spend)) = inl (word, position ∙ at, change, spend_is amount spend)
  exchange_is kind amount (inr (level, word, at, weight)) = inr (level, word, position ∙ at, weight ∙ sym (weight_is kind level))

  -- where what is its own is the same, a pass may take the same steps
  pub may_is : (step : Move) → May start s pass step → May start t pass step
  may_is (Scan kind level other) (at, change, low, high, inside, other_pass, same_place) = (position ∙ at, change, low, high, inside, other_pass, same_place)
  may_is (See kind level) h = see_is kind level h
  may_is (Announce kind level) (at, (seen, e)) = (position ∙ at, (seen, stage_is kind level ∙ e))
  may_is (Arrive kind level weight) ((at, (seen, e, some)), may) = ((position ∙ at, (seen, stage_is kind level ∙ e, some)), arrive_is kind level weight may)
  may_is (Look kind level) (at, (x, e)) = (position ∙ at, (x, stage_is kind level ∙ e))
  may_is (Close kind level) (at, (x, e)) = (position ∙ at, (x, stage_is kind level ∙ e))
  may_is (Apply weight) (level, at, top, cap, w) = (level, position ∙ at, (top.0, closed_is _ level top.1), cap, w ∙ sym (weight_is _ level))
  may_is (Head kind level) (at, h) = (position ∙ at, head_is kind level h)
  may_is (Fill row field) (kind, level, n, (at, h), is) = (kind, level, n, (position ∙ at, fill_is kind level row field h), is)
  may_is (Point kind level row) ((at, (x, hi, b, r, e)), n, is, may) = ((position ∙ at, (x, hi, b, r, stage_is kind level ∙ e)), n, is, subst (MayPoint (local_row start.shape level pass row)) (sym (stage_is kind level)) may)
  may_is (Publish kind level) (at, (x, hi, b, r, e)) = (position ∙ at, (x, hi, b, r, stage_is kind level ∙ e))
  may_is (Peek row field) (kind, level, (at, h), may) =
      (kind, level, (position ∙ at, peek_is kind level h), subst (λ (x : Stage). MayPeek start kind level (aggregator start.shape pass level) x row field) (sym (stage_is kind level)) may)
  may_is (Leave kind level) (at, (b, ahead, e)) = (position ∙ at, (b, ahead, stage_is kind level ∙ e))
  may_is (Load purpose.Try) h = load_is h
  may_is (Load purpose.Read) at = position ∙ at
  may_is (Exchange kind amount) h = exchange_is kind amount h
  may_is (Direct amount) (at, cap, spend) = (position ∙ at, cap, spend_is amount spend)
  may_is Glance at = position ∙ at
