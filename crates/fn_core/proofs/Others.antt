-- Each event leaves what the other passes' guards read.
use Rattle.std.proofs.Common.{◌≡◌, ◌≢◌, inl, inr, Bool, true, false, ℕ, zero, suc, ◌+◌, ◌*◌, ◌/◌, ◌%◌, ◌==◌, if◌then◌else◌, refl, sym, ap, subst, ◌∙◌, arith}
use Rattle.std.specs.Prelude.{Option}
use Rattle.std.proofs.lemmas.Bool.{cases_eq}
use Rattle.std.proofs.lemmas.Nat.{div-mul-add, mod_below}
use Rattle.fn_model.specs.declared.Call.{Call}
use Rattle.fn_model.specs.declared.Kind.{Kind}
use Rattle.fn_model.specs.declared.Kind.TheVariants.{Add, Read}
use Rattle.fn_model.specs.Histories.{BatchStep, OwnStep}
use Rattle.fn_rows.specs.declared.Field.{Field}
use Rattle.fn_rows.specs.Machine.{Step, member_of, after}
use Rattle.fn_rows.specs.Machine as step
use Rattle.fn_rows.specs.Trace.{Traced, traced}
use Rattle.fn_rows.proofs.Put.{put_there, put_case}
use Rattle.fn_layout.specs.Kinds.{IsFunnelled}
use Rattle.fn_layout.specs.Tree.{aggregator, member}
use Rattle.fn_layout.proofs.Members.{member_apart}
use Rattle.fn_core.specs.declared.Purpose.TheVariants as purpose
use Rattle.fn_core.specs.declared.Move.{Move}
use Rattle.fn_core.specs.declared.Move.TheVariants.{Scan, See, Announce, Arrive, Look, Close, Apply, Head, Fill, Point, Publish, Peek, Leave, Load, Exchange, Direct, Glance}
use Rattle.fn_core.specs.State.{Start, Position, Resting, Trying, Climbing, Deciding, Caller, State, opened, stage, local, goes_to, spends, after_call, receives, enters, next_call, reply_of, lo_of, hi_of}
use Rattle.fn_core.specs.Machine.{May, IsChange, moves, place, local_row, fills, arrival_at, arrives, applied_by, filled_by, peeked_by, loaded_by, exchanged_by, applies, makes, leaves}
use Rattle.fn_core.specs.Words.{own, IsPlaced, LeavesOthers}
use Rattle.fn_core.proofs.Put.{put_at_case}
use Rattle.fn_core.proofs.Keeps.{IsOwnRow, FillsOwn, Keeps, after_keeps}

-- calls stand at levels of the shape, and a row that is being filled is its member's
pub record IsTidy (start : Start) (s : State) : Type 0 where
  pub placed : (q : ℕ) → IsPlaced start.shape (s.callers q).position
  pub own_rows : (kind : Kind) (level index m : ℕ) → IsOwnRow start.shape.rows m ((s.rows kind level index).stage m)

-- where all is tidy before, the other passes are left and all is tidy afterwards
pub record Passes (start : Start) (pass : ℕ) (s t : State) : Type 0 where
  pub others : LeavesOthers start pass s t
  pub tidy : IsTidy start t

module _ (start : Start) (pass : ℕ) where
  -- what is read is the same where its parts are
  same_own : (s t : State) (q : ℕ) → t.callers q ≡ s.callers q
      → ((k : Kind) (j : ℕ) → stage start t k j q ≡ stage start s k j q)
      → ((k : Kind) (j o : ℕ) → (own start t q).found k j o ≡ (own start s q).found k j o)
      → ((k : Kind) (j r : ℕ) → (own start t q).ends k j r ≡ (own start s q).ends k j r) → own start t q ≡ own start s q
  same_own s t q a b c d i = record { caller = a i; stages = λ k j. b k j i; found = λ k j o. c k j o i; ends = λ k j r. d k j r i }

  both : (s t u : State) → Passes start pass s t → (IsTidy start t → Passes start pass t u) → Passes start pass s u
  both s t u first next = let n = next first.tidy in record { others = λ q ne. n.others q ne ∙ first.others q ne; tidy = n.tidy }

  stays : (s : State) → IsTidy start s → Passes start pass s s
  stays s tidy = record { others = λ q ne. refl; tidy = tidy }

  -- the caller goes on
  calls : (s : State) (caller : Caller) → IsPlaced start.shape caller.position → IsTidy start s → Passes start pass s (record s { callers = step.put s.callers pass caller })
  calls s caller ok tidy = record {
    others = λ q ne. same_own s (record s { callers = step.put s.callers pass caller }) q (put_there s.callers pass caller q ne) (λ k j. refl) (λ k j o. refl) (λ k j r. refl);
    tidy = record {
      placed = λ q. put_case (λ (c : Caller). IsPlaced start.shape c.position) s.callers pass caller q (λ e. ok) (λ ne. tidy.placed q);
      own_rows = tidy.own_rows;
    };
  }

  goes : (s : State) (position : Position) → IsPlaced start.shape position → IsTidy start s → Passes start pass s (goes_to s pass position)
  goes s position ok tidy = calls s (record (s.callers pass) { position = position }) ok tidy

  spent : (s : State) (call : Call) → IsTidy start s → Passes start pass s (spends s pass call)
  spent s call tidy = calls s (after_call (s.callers pass) call) (tidy.placed pass) tidy

  -- what no guard reads
  aside : (s t : State) → ((q : ℕ) → t.callers q ≡ s.callers q) → ((k : Kind) (j i : ℕ) → t.rows k j i ≡ s.rows k j i) → IsTidy start s → Passes start pass s t
  aside s t callers rows tidy = record {
    others = λ q ne. same_own s t q (callers q) (λ k j. ap (λ (x : Traced). x.stage (member start.shape j q)) (rows k j (aggregator start.shape q j)))
        (λ k j o. ap (λ (x : Traced). x.found (member start.shape j q) o) (rows k j (aggregator start.shape q j)))
        (λ k j r. ap (λ (x : Traced). x.end (member start.shape j q * start.shape.rows + r % start.shape.rows)) (rows k j (aggregator start.shape q j)));
    tidy = record {
      placed = λ q. subst (λ (c : Caller). IsPlaced start.shape c.position) (sym (callers q)) (tidy.placed q);
      own_rows = λ k j i m. subst (λ (x : Traced). IsOwnRow start.shape.rows m (x.stage m)) (sym (rows k j i)) (tidy.own_rows k j i m);
    };
  }

  -- a step of the pass at its aggregator
  module _ (s : State) (kind : Kind) (level : ℕ) (step : ℕ → Step) (tidy : IsTidy start s)
      (kept : Keeps start.shape.rows (member start.shape level pass) (place start s kind level pass).state (after (place start s kind level pass).state (step (member start.shape level pass)))) where
    -- another pass of the aggregator has another number there
    another : (q : ℕ) → q ≢ pass → aggregator start.shape pass level ≡ aggregator start.shape q level → member start.shape level q ≢ member start.shape level pass
    another q ne same e = ne (member_apart start.shape q pass level (sym same) e)

    next : Traced
    next = traced (place start s kind level pass) (step (member start.shape level pass))

    steps : Passes start pass s (local start s kind level pass step)
    unfolding next
    steps =
        let shape = start.shape in
        let index : ℕ = aggregator shape pass level in
        record {
          others = λ q ne. same_own s (local start s kind level pass step) q refl
              (λ k j. put_at_case (λ k' j' i' v. i' ≡ aggregator shape q j' → v.stage (member shape j' q) ≡ (s.rows k' j' i').stage (member shape j' q)) s.rows kind level index next
              (λ e. kept.stage (member shape level q) (another q ne e)) k j (aggregator shape q j) (λ e. refl) refl)
              (λ k j o. put_at_case (λ k' j' i' v. i' ≡ aggregator shape q j' → v.found (member shape j' q) o ≡ (s.rows k' j' i').found (member shape j' q) o) s.rows kind level index next
              (λ e. ap (λ (f : ℕ → Option ℕ). f o) (kept.found (member shape level q) (another q ne e))) k j (aggregator shape q j) (λ e. refl) refl)
              (λ k j r. put_at_case (λ k' j' i' v. i' ≡ aggregator shape q j' → v.end (member shape j' q * shape.rows + r % shape.rows) ≡ (s.rows k' j' i').end (member shape j' q * shape.rows + r % shape.rows)) s.rows kind level index next
              (λ e. kept.ends (member shape level q * shape.rows + r % shape.rows) (λ d. another q ne e (sym (div-mul-add (member shape level q) shape.rows (r % shape.rows) (mod_below r shape.rows (omega arith))) ∙ d))) k j (aggregator shape q j) (λ e. refl) refl);
          tidy = record {
            placed = tidy.placed;
            own_rows = λ k j i m. put_at_case (λ k' j' i' v. IsOwnRow shape.rows m (v.stage m)) s.rows kind level index next
                (elim (cases_eq m (member shape level pass)) [
                  | inl e ↦ subst (λ (x : ℕ). IsOwnRow shape.rows x (next.stage x)) (sym e) kept.own
                  | inr d ↦ subst (IsOwnRow shape.rows m) (sym (kept.stage m d)) (tidy.own_rows kind level index m)
                ]) k j i (tidy.own_rows k j i m);
          };
        }

  -- the steps of aggregators
  module _ (s : State) (tidy : IsTidy start s) where
    abbrev there : Kind → ℕ → step.State
    there kind level = (place start s kind level pass).state

    abbrev me : ℕ → ℕ
    me level = member start.shape level pass

    takes : (kind : Kind) (level : ℕ) (step : ℕ → Step) → member_of (step (me level)) ≡ me level → FillsOwn start.shape.rows (step (me level)) → Passes start pass s (local start s kind level pass step)
    takes kind level step is fills =
        steps s kind level step tidy (subst (λ (x : ℕ). Keeps start.shape.rows x (there kind level) (after (there kind level) (step (me level)))) is
        (after_keeps start.shape.rows (there kind level) (step (me level)) fills (tidy.own_rows kind level (aggregator start.shape pass level) (member_of (step (me level))))))

  pub funnelled : (kind : Kind) → IsChange kind → IsFunnelled kind
  funnelled kind (inl e) = λ r. cc
  funnelled kind (inr e) = λ r. cc

  -- a row's number at the aggregator is one of the pass's
  fills_own : (level row : ℕ) → local_row start.shape level pass row / start.shape.rows ≡ member start.shape level pass
  fills_own level row = div-mul-add (member start.shape level pass) start.shape.rows (row % start.shape.rows) (mod_below row start.shape.rows (omega arith))

  applied : (s : State) (kind : Kind) (level amount : ℕ) → IsTidy start s → Passes start pass s (applies start s pass kind level amount)
  applied s kind level amount tidy =
      let entered : State = enters start s kind amount (BatchStep kind (aggregator start.shape pass level) (lo_of (stage start s kind level pass)) (hi_of (stage start s kind level pass))) in
      both s entered (applies start s pass kind level amount) (aside s entered (λ q. refl) (λ k j i. refl) tidy)
      (λ t. takes entered t kind level (λ m. step.Hand_base m s.main) refl tt)

  made : (s : State) (kind : Kind) (amount : ℕ) → IsTidy start s → Passes start pass s (makes start s pass kind amount)
  made s kind amount tidy =
      let entered : State = enters start s kind amount (OwnStep (next_call s pass kind amount)) in
      both s entered (makes start s pass kind amount) (aside s entered (λ q. refl) (λ k j i. refl) tidy) (λ t. spent entered (next_call s pass kind amount) t)

  sees : (s : State) (kind : Kind) (level : ℕ) → IsTidy start s → May start s pass (See kind level) → Passes start pass s (moves start s pass (See kind level))
  sees s kind zero tidy may = absurd may
  sees s kind (suc zero) tidy may =
      both s (local start s kind 1 pass (λ m. step.See m)) (moves start s pass (See kind 1)) (takes s tidy kind 1 (λ m. step.See m) refl tt)
      (λ t. goes (local start s kind 1 pass (λ m. step.See m)) (Climbing kind 1) (funnelled kind may.1, (omega arith, omega arith)) t)
  sees s kind (suc (suc below)) tidy may =
      let ok = subst (IsPlaced start.shape) may.0 (tidy.placed pass) in
      both s (local start s kind (suc (suc below)) pass (λ m. step.See m)) (moves start s pass (See kind (suc (suc below)))) (takes s tidy kind (suc (suc below)) (λ m. step.See m) refl tt)
      (λ t. goes (local start s kind (suc (suc below)) pass (λ m. step.See m)) (Climbing kind (suc (suc below))) (ok.0, (omega arith, may.2)) t)

  comes : (s : State) (kind : Kind) (level weight : ℕ) → IsTidy start s → Passes start pass s (arrives start s pass kind level weight)
  comes s kind zero weight tidy = stays s tidy
  comes s kind (suc zero) weight tidy =
      let stepped : State = local start s kind 1 pass (λ m. step.Arrive m weight) in
      let received : State = receives stepped kind 1 (aggregator start.shape pass 1) (arrival_at start s pass kind 0 weight) in
      both s stepped (spends received pass (next_call s pass kind weight)) (takes s tidy kind 1 (λ m. step.Arrive m weight) refl tt)
      (λ t. both stepped received (spends received pass (next_call s pass kind weight)) (aside stepped received (λ q. refl) (λ k j i. refl) t) (λ u. spent received (next_call s pass kind weight) u))
  comes s kind (suc (suc below)) weight tidy =
      let level : ℕ = suc (suc below) in
      let stepped : State = local start s kind level pass (λ m. step.Arrive m weight) in
      let received : State = receives stepped kind level (aggregator start.shape pass level) (arrival_at start s pass kind (suc below) weight) in
      both s stepped received (takes s tidy kind level (λ m. step.Arrive m weight) refl tt) (λ t. aside stepped received (λ q. refl) (λ k j i. refl) t)

  goes_down : (s : State) (kind : Kind) (level : ℕ) → IsTidy start s → (s.callers pass).position ≡ Climbing kind level → Passes start pass s (leaves start s pass kind level)
  goes_down s kind zero tidy at = stays s tidy
  goes_down s kind (suc zero) tidy at =
      let left : State = local start s kind 1 pass (λ m. step.Leave m) in
      both s left (goes_to left pass Resting) (takes s tidy kind 1 (λ m. step.Leave m) refl tt) (λ t. goes left Resting tt t)
  goes_down s kind (suc (suc below)) tidy at =
      let ok = subst (IsPlaced start.shape) at (tidy.placed pass) in
      let b : ℕ = reply_of start.cap kind (stage start s kind (suc (suc below)) pass) in
      let left : State = local start s kind (suc (suc below)) pass (λ m. step.Leave m) in
      let handed : State = local start left kind (suc below) pass (λ m. step.Hand_base m b) in
      both s left (goes_to handed pass (Climbing kind (suc below))) (takes s tidy kind (suc (suc below)) (λ m. step.Leave m) refl tt)
      (λ t. both left handed (goes_to handed pass (Climbing kind (suc below))) (takes left t kind (suc below) (λ m. step.Hand_base m b) refl tt)
      (λ u. goes handed (Climbing kind (suc below)) (ok.0, (omega arith, omega (arith, ok.1))) u))

  by_apply : (s : State) (weight : ℕ) (position : Position) → IsTidy start s → Passes start pass s (applied_by start s pass weight position)
  by_apply s weight (Climbing kind level) tidy = applied s kind level weight tidy
  by_apply s weight Resting tidy = stays s tidy
  by_apply s weight (Trying loaded) tidy = stays s tidy
  by_apply s weight (Deciding kind level loaded) tidy = stays s tidy

  by_fill : (s : State) (row : ℕ) (field : Field) (position : Position) → IsTidy start s → Passes start pass s (filled_by start s pass row field position)
  by_fill s row field (Climbing kind level) tidy = takes s tidy kind level (fills start s kind level pass row field) refl (fills_own level row)
  by_fill s row field Resting tidy = stays s tidy
  by_fill s row field (Trying loaded) tidy = stays s tidy
  by_fill s row field (Deciding kind level loaded) tidy = stays s tidy

  by_peek : (s : State) (position : Position) → IsTidy start s → Passes start pass s (peeked_by start s pass position)
  by_peek s (Climbing kind level) tidy = takes s tidy kind level (λ m. step.Peek m) refl tt
  by_peek s Resting tidy = stays s tidy
  by_peek s (Trying loaded) tidy = stays s tidy
  by_peek s (Deciding kind level loaded) tidy = stays s tidy

  by_load : (s : State) (position : Position) → IsPlaced start.shape position → IsTidy start s → Passes start pass s (loaded_by s pass position)
  by_load s (Climbing kind level) ok tidy = goes s (Deciding kind level s.main) ok tidy
  by_load s Resting ok tidy = goes s (Trying s.main) tt tidy
  by_load s (Trying loaded) ok tidy = goes s (Trying s.main) tt tidy
  by_load s (Deciding kind level loaded) ok tidy = goes s (Trying s.main) tt tidy

  one_of : (s won lost : State) (b : Bool) → Passes start pass s won → Passes start pass s lost → Passes start pass s (if b then won else lost)
  one_of s won lost true h k = h
  one_of s won lost false h k = k

  by_exchange : (s : State) (kind : Kind) (amount : ℕ) (position : Position) → IsPlaced start.shape position → IsTidy start s → Passes start pass s (exchanged_by start s pass kind amount position)
  by_exchange s kind amount (Trying loaded) ok tidy =
      one_of s (goes_to (makes start s pass kind amount) pass Resting) (goes_to s pass Resting) (s.main == loaded)
      (both s (makes start s pass kind amount) (goes_to (makes start s pass kind amount) pass Resting) (made s kind amount tidy) (λ t. goes (makes start s pass kind amount) Resting tt t)) (goes s Resting tt tidy)
  by_exchange s kind amount (Deciding k level loaded) ok tidy =
      one_of s (goes_to (applies start s pass k level amount) pass (Climbing k level)) (goes_to s pass (Climbing k level)) (s.main == loaded)
      (both s (applies start s pass k level amount) (goes_to (applies start s pass k level amount) pass (Climbing k level)) (applied s k level amount tidy) (λ t. goes (applies start s pass k level amount) (Climbing k level) ok t))
      (goes s (Climbing k level) ok tidy)
  by_exchange s kind amount Resting ok tidy = stays s tidy
  by_exchange s kind amount (Climbing k level) ok tidy = stays s tidy

  -- each event leaves what the other passes' guards read
  pub passes : (s : State) (step : Move) → IsTidy start s → May start s pass step → Passes start pass s (moves start s pass step)
  passes s (Scan kind level other) tidy may = takes s tidy kind level (λ m. step.Scan m (member start.shape level other)) refl tt
  passes s (See kind level) tidy may = sees s kind level tidy may
  passes s (Announce kind level) tidy may = takes s tidy kind level (λ m. step.Announce m) refl tt
  passes s (Arrive kind level weight) tidy may = comes s kind level weight tidy
  passes s (Look kind level) tidy may = takes s tidy kind level (λ m. step.Look m) refl tt
  passes s (Close kind level) tidy may = takes s tidy kind level (λ m. step.Close m) refl tt
  passes s (Apply weight) tidy may = by_apply s weight (s.callers pass).position tidy
  passes s (Head kind level) tidy may = takes s tidy kind level (λ m. step.Head m) refl tt
  passes s (Fill row field) tidy may = by_fill s row field (s.callers pass).position tidy
  passes s (Point kind level row) tidy may = takes s tidy kind level (λ m. step.Point m) refl tt
  passes s (Publish kind level) tidy may = takes s tidy kind level (λ m. step.Publish m) refl tt
  passes s (Peek row field) tidy may = by_peek s (s.callers pass).position tidy
  passes s (Leave kind level) tidy may = goes_down s kind level tidy may.0
  passes s (Load purpose.Try) tidy may = by_load s (s.callers pass).position (tidy.placed pass) tidy
  passes s (Load purpose.Read) tidy may = made s Read 0 tidy
  passes s (Exchange kind amount) tidy may = by_exchange s kind amount (s.callers pass).position (tidy.placed pass) tidy
  passes s (Direct amount) tidy may = made s Add amount tidy
  passes s Glance tidy may = stays s tidy

-- all is tidy at the opening
pub tidy_opened : (start : Start) → IsTidy start (opened start)
tidy_opened start = record { placed = λ q. tt; own_rows = λ kind level index m. tt }
