-- What a member's step does to its aggregator.
use Rattle.std.proofs.Common.{◌≡◌, ◌≢◌, inl, inr, ℕ, suc, ◌+◌, ◌-◌, ◌/◌, ◌<◌, List, [], ◌∷◌, ◌++◌, refl, sym, ◌∙◌, ap, subst}
use Rattle.std.specs.Prelude.{None}
use Rattle.fn_rows.specs.declared.Stage.{Stage}
use Rattle.fn_rows.specs.declared.Stage.TheVariants.{Out, Saw, Told, Waiting, Lead, Late, Shut, Based, Headed, FilledLo, FilledBase, Filled, Pointed, At, Over, Hit, Got}
use Rattle.fn_rows.specs.declared.Field.TheVariants.{Lo, Base, Prev}
use Rattle.fn_rows.specs.Machine.{State, Step, Scan, See, Announce, Arrive, Look, Close, Hand_base, Head, Fill, Point, Publish, Peek, Leave, put, moved, announce_by, look_by, close_by, hand_by, head_by, stored, fill_by, point_by, publish_by, peek_by, looked, peeked, after, IsFree, Allowed, AllAllowed, start as rows_start}
use Rattle.fn_rows.specs.Trace.{Batch, Traced, batch, head_noted, point_noted, publish_noted, peek_noted, noted, traced, nothing, run}
use Rattle.fn_rows.proofs.Put.{put_here, put_there}
use Rattle.fn_rows.proofs.Invariant.{Inv}
use Rattle.fn_rows.proofs.Steps.{keeps}

-- allowed steps lead to it from nothing
abbrev pub IsReached : ℕ → ℕ → Traced → Type 0
IsReached members rows t = (steps : List Step) × AllAllowed members rows steps rows_start × (run steps nothing ≡ t)

all_push : (members rows : ℕ) (steps : List Step) (t : Traced) (step : Step) → AllAllowed members rows steps t.state → Allowed members rows (run steps t).state step → AllAllowed members rows (steps ++ step ∷ []) t.state
all_push members rows [] t step all one = (one, tt)
all_push members rows (x ∷ xs) t step all one = (all.0, all_push members rows xs (traced t x) step all.1 one)

run_push : (steps : List Step) (t : Traced) (step : Step) → run (steps ++ step ∷ []) t ≡ traced (run steps t) step
run_push [] t step = refl
run_push (x ∷ xs) t step = run_push xs (traced t x) step

reaches_on : (members rows : ℕ) (t : Traced) (step : Step) → Allowed members rows t.state step → IsReached members rows t → IsReached members rows (traced t step)
reaches_on members rows t step allowed before = (
  before.0 ++ step ∷ [],
  all_push members rows before.0 nothing step before.1 (subst (λ (x : Traced). Allowed members rows x.state step) (sym before.2) allowed),
  run_push before.0 nothing step ∙ ap (λ (x : Traced). traced x step) before.2,
)

-- the aggregator keeps its law, the member goes on to this stage, no other moves, and these are the words and batches afterwards
pub record Turn (members rows : ℕ) (t next : Traced) (m : ℕ) (g : Stage) (total done : ℕ) (linked : List Batch) : Type 0 where
  pub inv : Inv members rows next
  pub reached : IsReached members rows t → IsReached members rows next
  pub here : next.stage m ≡ g
  pub there : (q : ℕ) → q ≢ m → next.stage q ≡ t.stage q
  pub total_is : next.total ≡ total
  pub done_is : next.done ≡ done
  pub linked_is : next.linked ≡ linked

module _ (members rows : ℕ) (t : Traced) (inv : Inv members rows t) (m : ℕ) (range : m < members) where
  turn : (step : Step) (base : State) (g : Stage) (linked : List Batch) → Allowed members rows t.state step → ((q : ℕ) → base.stage q ≡ t.stage q) → after t.state step ≡ moved base m g → (noted t.state t.books step).linked ≡ linked → Turn members rows t (traced t step) m g base.total base.done linked
  turn step base g linked allowed same e l = record {
    inv = keeps members rows t inv step allowed;
    reached = reaches_on members rows t step allowed;
    here = ap (λ (x : State). x.stage m) e ∙ put_here base.stage m g m refl;
    there = λ q ne. ap (λ (x : State). x.stage q) e ∙ put_there base.stage m g q ne ∙ same q;
    total_is = ap (λ (x : State). x.total) e;
    done_is = ap (λ (x : State). x.done) e;
    linked_is = l;
  }

  pub scans : (q : ℕ) → q < members → q ≢ m → t.stage m ≡ Out → Turn members rows t (traced t (Scan m q)) m Out t.total t.done t.linked
  scans q lt ne is = record {
    inv = keeps members rows t inv (Scan m q) (range, (lt, ne, is));
    reached = reaches_on members rows t (Scan m q) (range, (lt, ne, is));
    here = is;
    there = λ i other. refl;
    total_is = refl;
    done_is = refl;
    linked_is = refl;
  }

  pub sees : t.stage m ≡ Out → Turn members rows t (traced t (See m)) m (Saw t.done) t.total t.done t.linked
  sees is = turn (See m) t.state (Saw t.done) t.linked (range, is) (λ q. refl) refl refl

  pub announces : (seen : ℕ) → t.stage m ≡ Saw seen → Turn members rows t (traced t (Announce m)) m (Told seen) t.total t.done t.linked
  announces seen is = turn (Announce m) (record t.state { announced = put t.announced m (suc seen) }) (Told seen) t.linked (range, (seen, is)) (λ q. refl) (ap (announce_by t.state m) is) refl

  pub comes : (seen weight : ℕ) → t.stage m ≡ Told seen → 0 < weight → Turn members rows t (traced t (Arrive m weight)) m (Waiting t.total) (t.total + weight) t.done t.linked
  comes seen weight is some = turn (Arrive m weight) (record t.state { total = t.total + weight }) (Waiting t.total) t.linked (range, (seen, is, some)) (λ q. refl) refl refl

  pub looks : (at : ℕ) → t.stage m ≡ Waiting at → Turn members rows t (traced t (Look m)) m (looked at t.done) t.total t.done t.linked
  looks at is = turn (Look m) t.state (looked at t.done) t.linked (range, (at, is)) (λ q. refl) (ap (look_by t.state m) is) refl

  pub closes : (at : ℕ) → t.stage m ≡ Lead at → Turn members rows t (traced t (Close m)) m (Shut at t.total) t.total t.done t.linked
  closes at is = turn (Close m) t.state (Shut at t.total) t.linked (range, (at, is)) (λ q. refl) (ap (close_by t.state m) is) refl

  pub hands : (at hi b : ℕ) → t.stage m ≡ Shut at hi → Turn members rows t (traced t (Hand_base m b)) m (Based at hi b) t.total t.done t.linked
  hands at hi b is = turn (Hand_base m b) t.state (Based at hi b) t.linked (range, (at, hi, is)) (λ q. refl) (ap (hand_by t.state m b) is) refl

  pub heads : (at hi b : ℕ) → t.stage m ≡ Based at hi b → Turn members rows t (traced t (Head m)) m (Headed at hi b t.last) t.total t.done t.linked
  heads at hi b is = turn (Head m) t.state (Headed at hi b t.last) t.linked (range, inl (at, hi, b, is)) (λ q. refl) (ap (head_by t.state m) is) (ap (λ (x : Stage). (head_noted t.state t.books m x).linked) is)

  pub heads_late : (at : ℕ) → t.stage m ≡ Late at → Turn members rows t (traced t (Head m)) m (At at (t.last - 1)) t.total t.done t.linked
  heads_late at is = turn (Head m) t.state (At at (t.last - 1)) t.linked (range, inr (at, is)) (λ q. refl) (ap (head_by t.state m) is) (ap (λ (x : Stage). (head_noted t.state t.books m x).linked) is)

  pub fills_lo : (at hi b h r word : ℕ) → t.stage m ≡ Headed at hi b h → r / rows ≡ m → IsFree members t.state m r → word ≡ at → Turn members rows t (traced t (Fill m r Lo word)) m (FilledLo at hi b h r) t.total t.done t.linked
  fills_lo at hi b h r word is own free same = turn (Fill m r Lo word) (stored t.state r Lo word) (FilledLo at hi b h r) t.linked (range, (at, hi, b, h, is, own, free, same)) (λ q. refl) (ap (fill_by t.state m r Lo word) is) refl

  pub fills_base : (at hi b h r word : ℕ) → t.stage m ≡ FilledLo at hi b h r → word ≡ b → Turn members rows t (traced t (Fill m r Base word)) m (FilledBase at hi b h r) t.total t.done t.linked
  fills_base at hi b h r word is same = turn (Fill m r Base word) (stored t.state r Base word) (FilledBase at hi b h r) t.linked (range, (at, hi, b, h, is, same)) (λ q. refl) (ap (fill_by t.state m r Base word) is) refl

  pub fills_prev : (at hi b h r word : ℕ) → t.stage m ≡ FilledBase at hi b h r → word ≡ h → Turn members rows t (traced t (Fill m r Prev word)) m (Filled at hi b r) t.total t.done t.linked
  fills_prev at hi b h r word is same = turn (Fill m r Prev word) (stored t.state r Prev word) (Filled at hi b r) t.linked (range, (at, hi, b, h, is, same)) (λ q. refl) (ap (fill_by t.state m r Prev word) is) refl

  pub points : (at hi b r : ℕ) → t.stage m ≡ Filled at hi b r → Turn members rows t (traced t (Point m)) m (Pointed at hi b r) t.total t.done (batch t.state at hi b r ∷ t.linked)
  points at hi b r is = turn (Point m) (record t.state { last = suc r }) (Pointed at hi b r) (batch t.state at hi b r ∷ t.linked) (range, (at, hi, b, r, is)) (λ q. refl) (ap (point_by t.state m) is) (ap (λ (x : Stage). (point_noted t.state t.books x).linked) is)

  pub publishes : (at hi b r : ℕ) → t.stage m ≡ Pointed at hi b r → Turn members rows t (traced t (Publish m)) m (Got b 0) t.total hi t.linked
  publishes at hi b r is = turn (Publish m) (record t.state { done = hi; end = put t.end r hi }) (Got b 0) t.linked (range, (at, hi, b, r, is)) (λ q. refl) (ap (publish_by t.state m) is) (ap (λ (x : Stage). (publish_noted t.state t.books x).linked) is)

  pub peeks_lo : (at r : ℕ) → t.stage m ≡ At at r → Turn members rows t (traced t (Peek m)) m (peeked at r (t.lo r)) t.total t.done t.linked
  peeks_lo at r is = turn (Peek m) t.state (peeked at r (t.lo r)) t.linked (range, inl (at, r, is)) (λ q. refl) (ap (peek_by t.state m) is) (ap (λ (x : Stage). (peek_noted t.state t.books m x).linked) is)

  pub peeks_prev : (at r : ℕ) → t.stage m ≡ Over at r → Turn members rows t (traced t (Peek m)) m (At at (t.prev r - 1)) t.total t.done t.linked
  peeks_prev at r is = turn (Peek m) t.state (At at (t.prev r - 1)) t.linked (range, inr (inl (at, r, is))) (λ q. refl) (ap (peek_by t.state m) is) (ap (λ (x : Stage). (peek_noted t.state t.books m x).linked) is)

  pub peeks_base : (at r lo : ℕ) → t.stage m ≡ Hit at r lo → Turn members rows t (traced t (Peek m)) m (Got (t.base r) (at - lo)) t.total t.done t.linked
  peeks_base at r lo is = turn (Peek m) t.state (Got (t.base r) (at - lo)) t.linked (range, inr (inr (at, r, lo, is))) (λ q. refl) (ap (peek_by t.state m) is) (ap (λ (x : Stage). (peek_noted t.state t.books m x).linked) is)

  pub goes_out : (b ahead : ℕ) → t.stage m ≡ Got b ahead → Turn members rows t (traced t (Leave m)) m Out t.total t.done t.linked
  goes_out b ahead is = turn (Leave m) (record t.state { announced = put t.announced m 0; found = put t.found m (λ q. None) }) Out t.linked (range, (b, ahead, is)) (λ q. refl) refl refl
