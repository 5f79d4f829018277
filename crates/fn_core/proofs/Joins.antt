-- A call joins its pass's own calls, and no other does.
use Rattle.std.proofs.Common.{◌≡◌, ℕ, suc, ◌+◌, ◌≤◌, List, [], ◌∷◌, ◌++◌, length, take, refl, sym, ◌∙◌, ap, subst, arith, append_assoc}
use Rattle.std.specs.Prelude.{◌==◌}
use Rattle.std.proofs.lemmas.List.{append-nil, length-append, take_at, nil_from_length}
use Rattle.std.proofs.lemmas.List.Elements.{filter-append}
use Rattle.fn_model.specs.declared.Call.{Call}
use Rattle.fn_model.specs.declared.Kind.{Kind}
use Rattle.fn_model.specs.Arrivals.{Arrival, calls_of, expand}
use Rattle.fn_model.specs.Calls.{own}
use Rattle.fn_model.specs.Histories.{StandsIn}
use Rattle.fn_model.specs.Integer.{after}
use Rattle.fn_rows.specs.declared.Stage.TheVariants.{Got}
use Rattle.fn_core.specs.declared.Event.{Event}
use Rattle.fn_core.specs.State.{Start, State, opened, history_in, stage}
use Rattle.fn_core.specs.Machine.{IsStart, Legal, run}
use Rattle.fn_core.specs.Laws.{AreNumbered, IsUnderway, OwnCallsGrowByOne, OwnCallsStay}
use Rattle.fn_core.proofs.Whole.{Whole, knows_at}
use Rattle.fn_core.proofs.Counted.{IsCounted, opened_counted}
use Rattle.fn_core.proofs.Log.{opened_whole}
use Rattle.fn_core.proofs.Sums.{stands_once}
use Rattle.fn_core.proofs.Grows.{log_grows}
use Rattle.fn_core.proofs.Numbers.{own_first, how_many}
use Rattle.fn_core.proofs.Owned.{Owned, opened_owned, log_owned, own_size}

-- the number of a call behind others
number_behind : (n : ℕ) (xs : List Call) (call : Call) (ys : List Call) → AreNumbered n (xs ++ call ∷ ys) → call.number ≡ n + length xs
number_behind n [] call ys h = omega (arith, h.0)
number_behind n (x ∷ xs) call ys h = omega (arith, number_behind (suc n) xs call ys h.1)

module _ (start : Start) (ok : IsStart start) (s : State) (w : Whole start s) (c : IsCounted start s) (o : Owned start s) (later : List Event) (legal : Legal start later s) (p : ℕ) (idle : IsUnderway start s p → ⊥) where
  abbrev next : State
  next = run start later s

  after_later : Whole start next × IsCounted start next × Owned start next
  after_later = log_owned start ok later s w c o legal

  -- what the pass's calls have become
  grown : (more : List Call) × (history_in start next ≡ history_in start s ++ more)
  grown = log_grows start ok later s w legal

  own_grown : own p (history_in start next) ≡ own p (history_in start s) ++ own p grown.0
  own_grown = ap (own p) grown.1 ∙ filter-append (λ c. c.pass == p) (history_in start s) grown.0

  all_made : length (own p (history_in start s)) ≡ (s.callers p).made
  all_made = how_many p (s.callers p).made (history_in start s) (o.order p) (o.all p idle) ((stands_once start ok s w c p (s.callers p).made).1 (omega arith))

  most_made : length (own p (history_in start next)) ≤ (next.callers p).made
  most_made = own_size start ok next after_later.0 after_later.1 after_later.2 p

  pub stay : (next.callers p).made ≡ (s.callers p).made → own p (history_in start next) ≡ own p (history_in start s)
  stay same =
      let none : own p grown.0 ≡ [] = nil_from_length (own p grown.0) (omega (arith, ap length own_grown, length-append (own p (history_in start s)) (own p grown.0), all_made, most_made, same)) in
      own_grown ∙ ap (λ (zs : List Call). own p (history_in start s) ++ zs) none ∙ append-nil (own p (history_in start s))

  pub grow_by_one : (kind : Kind) (base ahead : ℕ) → (next.callers p).made ≡ suc (s.callers p).made → stage start next kind 1 p ≡ Got base ahead → own p (history_in start next) ≡ own p (history_in start s) ++ (next.callers p).last ∷ []
  grow_by_one kind base ahead made got =
      let last : Call = (next.callers p).last in
      let known = knows_at start ok next after_later.0 p kind 0 (Got base ahead) got in
      let reply : ℕ = after start.cap base kind ahead in
      let stands : StandsIn start.cap start.opening (history_in start next) (last ∷ []) reply = subst (λ (a : Arrival). StandsIn start.cap start.opening (history_in start next) (calls_of (expand (next.arrivals kind) 0) a) reply) known.1 known.3 in
      let its = after_later.1.last p in
      let earlier : List Call = own p stands.earlier in
      let behind : List Call = own p stands.later in
      let parts : own p (history_in start next) ≡ earlier ++ last ∷ behind =
      ap (own p) (stands.order ∙ append_assoc stands.earlier (last ∷ []) stands.later)
      ∙ filter-append (λ c. c.pass == p) stands.earlier (last ∷ stands.later)
      ∙ ap (λ (zs : List Call). earlier ++ zs) (own_first p last stands.later its.0) in
      let number : last.number ≡ 0 + length earlier = number_behind 0 earlier last behind (subst (AreNumbered 0) parts (after_later.2.order p)) in
      let here : length earlier ≡ length (own p (history_in start s)) = omega (arith, number, its.1 (omega (arith, made)), made, all_made) in
      let none : behind ≡ [] = nil_from_length behind (omega (arith, ap length parts, length-append earlier (last ∷ behind), most_made, here, all_made, made)) in
      let same : earlier ≡ own p (history_in start s) =
      sym (take_at earlier (last ∷ behind) (length (own p (history_in start s))) here)
      ∙ ap (take (length (own p (history_in start s)))) (sym parts ∙ own_grown)
      ∙ take_at (own p (history_in start s)) (own p grown.0) (length (own p (history_in start s))) refl in
      parts ∙ ap (λ (zs : List Call). earlier ++ last ∷ zs) none ∙ ap (λ (zs : List Call). zs ++ last ∷ []) same

all_holds : (start : Start) (log : List Event) → IsStart start → Legal start log (opened start) → Whole start (run start log (opened start)) × IsCounted start (run start log (opened start)) × Owned start (run start log (opened start))
all_holds start log ok legal = log_owned start ok log (opened start) (opened_whole start ok) (opened_counted start) (opened_owned start) legal

pub own_calls_grow_by_one : OwnCallsGrowByOne
own_calls_grow_by_one start log ok legal later more_legal p kind base ahead idle made got =
    let all = all_holds start log ok legal in
    grow_by_one start ok (run start log (opened start)) all.0 all.1 all.2 later more_legal p idle kind base ahead made got

pub own_calls_stay : OwnCallsStay
own_calls_stay start log ok legal later more_legal p idle made =
    let all = all_holds start log ok legal in
    stay start ok (run start log (opened start)) all.0 all.1 all.2 later more_legal p idle made
