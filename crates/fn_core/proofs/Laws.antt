-- The laws, from what holds in each state.
use Rattle.std.proofs.Common.{◌≡◌, ℕ, zero, suc, ◌+◌, ◌<◌, ◌≤◌, List, [], ◌∷◌, ◌++◌, Bool, refl, sym, ◌∙◌, ap, subst, arith}
use Rattle.std.specs.Prelude.{if◌then◌else◌, ◌==◌, min}
use Rattle.std.proofs.lemmas.Bool.{eq-eqb}
use Rattle.std.proofs.lemmas.List.Elements.{filter-append}
use Rattle.fn_model.specs.declared.Call.{Call}
use Rattle.fn_model.specs.declared.Kind.{Kind}
use Rattle.fn_model.specs.declared.Kind.TheVariants as kinds
use Rattle.fn_model.specs.Arrivals.{Arrival, Own, calls_of, expand, IsSound}
use Rattle.fn_model.specs.Calls.{own}
use Rattle.fn_model.specs.Histories.{OwnStep, StandsIn}
use Rattle.fn_model.proofs.Histories.{stands_at_end, history_push, place_of_call}
use Rattle.fn_model.specs.Integer.{after}
use Rattle.fn_model.proofs.Integer.{value_within_cap, value_within_sum}
use Rattle.fn_rows.specs.declared.Stage.TheVariants.{Got}
use Rattle.fn_rows.specs.Law.{IsLawful}
use Rattle.fn_rows.proofs.Law.{law}
use Rattle.fn_rows.proofs.Put.{put_here}
use Rattle.fn_core.specs.declared.Purpose.TheVariants as purpose
use Rattle.fn_core.specs.declared.Move.{Move}
use Rattle.fn_core.specs.declared.Move.TheVariants.{Apply, Load, Exchange, Direct}
use Rattle.fn_core.specs.declared.Event.{Event}
use Rattle.fn_core.specs.Tree.{members}
use Rattle.fn_core.specs.State.{Start, Resting, Trying, Climbing, Caller, State, opened, history_in, goes_to, after_call, next_call}
use Rattle.fn_core.specs.Machine.{IsStart, May, IsAtTop, weight_of, moves, Legal, run, makes, applies, applied_by, exchanged_by, no_cap}
use Rattle.fn_core.specs.Laws.{HasReply, RepliesAreRight, LastCallsAreOwn, DirectRepliesAreRight, MainIsValue, CallsStandOnce, WordsAreSmall, AdditionsAddAll, RowsAreLawful, BatchesFollow}
use Rattle.fn_core.proofs.Whole.{Whole, climbing, knows_at}
use Rattle.fn_core.proofs.Climbs.{not_below}
use Rattle.fn_core.proofs.Counted.{IsCounted, opened_counted, counts_keep, log_counted}
use Rattle.fn_core.proofs.Log.{opened_whole, moves_keep}
use Rattle.fn_core.proofs.Applies.{amount_enters}
use Rattle.fn_core.proofs.Numbers.{own_first}
use Rattle.fn_core.proofs.Sums.{stands_once, amounts_small, main_small, main_with_left, total_small}

-- after every legal log
pub holds : (start : Start) (log : List Event) → IsStart start → Legal start log (opened start) → Whole start (run start log (opened start)) × IsCounted start (run start log (opened start))
holds start log ok legal = log_counted start ok log (opened start) (opened_whole start ok) (opened_counted start) legal

-- a call that stands in the history has its place there
has_place : (start : Start) → IsStart start → (s : State) → Whole start s → IsCounted start s → (call : Call) (base : ℕ) → StandsIn start.cap start.opening (history_in start s) (call ∷ []) base → HasReply start (history_in start s) call base
has_place start ok s w c call base stands = place_of_call start.cap start.opening (history_in start s) call base (stands_once start ok s w c call.pass call.number).0 stands

pub replies_are_right : RepliesAreRight
replies_are_right start log ok legal p kind base ahead got =
    let s : State = run start log (opened start) in
    let both = holds start log ok legal in
    let known = knows_at start ok s both.0 p kind 0 (Got base ahead) got in
    let reply : ℕ = after start.cap base kind ahead in
    let last : Call = (s.callers p).last in
    let sound : IsSound kind (s.arrivals kind) 0 (Own last) = subst (IsSound kind (s.arrivals kind) 0) known.1 known.2 in
    let stands : StandsIn start.cap start.opening (history_in start s) (last ∷ []) reply = subst (λ (a : Arrival). StandsIn start.cap start.opening (history_in start s) (calls_of (expand (s.arrivals kind) 0) a) reply) known.1 known.3 in
    (sound.1, has_place start ok s both.0 both.1 last reply stands)

pub last_calls_are_own : LastCallsAreOwn
last_calls_are_own start log ok legal p = (holds start log ok legal).1.last p

module _ (start : Start) (ok : IsStart start) (s : State) (w : Whole start s) (c : IsCounted start s) (p : ℕ) (range : p < start.shape.passes) where
  -- a call by itself meets the main word
  meets_main : (next : State) → Whole start next → IsCounted start next → (kind : Kind) (amount : ℕ) → history_in start next ≡ history_in start (makes start s p kind amount) → (next.callers p).last ≡ next_call s p kind amount → HasReply start (history_in start next) (next.callers p).last s.main × (own p (history_in start next) ≡ own p (history_in start s) ++ (next.callers p).last ∷ [])
  meets_main next w' c' kind amount same last =
      let call : Call = next_call s p kind amount in
      let end : StandsIn start.cap start.opening (history_in start s ++ call ∷ []) (call ∷ []) s.main = subst (λ (v : ℕ). StandsIn start.cap start.opening (history_in start s ++ call ∷ []) (call ∷ []) v) (sym w.good.main) (stands_at_end start.cap start.opening (history_in start s) (call ∷ [])) in
      let there : StandsIn start.cap start.opening (history_in start next) (call ∷ []) s.main = subst (λ (past : List Call). StandsIn start.cap start.opening past (call ∷ []) s.main) (sym (history_push s.arrivals start.shape.levels s.steps (OwnStep call)) ∙ sym same) end in
      let pushed : history_in start next ≡ history_in start s ++ call ∷ [] = same ∙ history_push s.arrivals start.shape.levels s.steps (OwnStep call) in (
        has_place start ok next w' c' (next.callers p).last s.main (subst (λ (x : Call). StandsIn start.cap start.opening (history_in start next) (x ∷ []) s.main) (sym last) there),
        ap (own p) pushed ∙ filter-append (λ c. c.pass == p) (history_in start s) (call ∷ []) ∙ ap (λ (zs : List Call). own p (history_in start s) ++ zs) (own_first p call [] refl) ∙ ap (λ (x : Call). own p (history_in start s) ++ x ∷ []) (sym last),
      )

  pub last_made : (kind : Kind) (amount : ℕ) → ((makes start s p kind amount).callers p).last ≡ next_call s p kind amount
  last_made kind amount = ap (λ (x : Caller). x.last) (put_here s.callers p (after_call (s.callers p) (next_call s p kind amount)) p refl)

  abbrev After : Move → Type 0
  After step = HasReply start (history_in start (moves start s p step)) ((moves start s p step).callers p).last s.main × (own p (history_in start (moves start s p step)) ≡ own p (history_in start s) ++ ((moves start s p step).callers p).last ∷ [])

  read_meets : May start s p (Load purpose.Read) → After (Load purpose.Read)
  read_meets may = meets_main (makes start s p kinds.Read 0) (moves_keep start ok s w p range (Load purpose.Read) may) (counts_keep start ok s w c p range (Load purpose.Read) may) kinds.Read 0 refl (last_made kinds.Read 0)

  direct_meets : (amount : ℕ) → May start s p (Direct amount) → After (Direct amount)
  direct_meets amount may = meets_main (makes start s p kinds.Add amount) (moves_keep start ok s w p range (Direct amount) may) (counts_keep start ok s w c p range (Direct amount) may) kinds.Add amount refl (last_made kinds.Add amount)

  exchange_meets : (kind : Kind) (amount word : ℕ) → (s.callers p).position ≡ Trying word → s.main ≡ word → May start s p (Exchange kind amount) → After (Exchange kind amount)
  exchange_meets kind amount word is won may =
      let made : State = makes start s p kind amount in
      let next : State = goes_to made p Resting in
      let same : exchanged_by start s p kind amount (s.callers p).position ≡ next =
      ap (exchanged_by start s p kind amount) is ∙ ap (λ (t : Bool). if t then next else goes_to s p Resting) (eq-eqb s.main word won) in
      let w' : Whole start next = subst (Whole start) same (moves_keep start ok s w p range (Exchange kind amount) may) in
      let c' : IsCounted start next = subst (IsCounted start) same (counts_keep start ok s w c p range (Exchange kind amount) may) in
      let last : (next.callers p).last ≡ next_call s p kind amount = ap (λ (x : Caller). x.last) (put_here made.callers p (record (made.callers p) { position = Resting }) p refl) ∙ last_made kind amount in
      subst (λ (x : State). HasReply start (history_in start x) (x.callers p).last s.main × (own p (history_in start x) ≡ own p (history_in start s) ++ (x.callers p).last ∷ [])) (sym same) (meets_main next w' c' kind amount refl last)

  apply_adds : (weight level : ℕ) → (s.callers p).position ≡ Climbing kinds.Add level → IsAtTop start s p kinds.Add level → start.cap ≡ no_cap → weight ≡ weight_of start s p kinds.Add level → IsCounted start (applies start s p kinds.Add level weight) → Whole start (applies start s p kinds.Add level weight) → (applies start s p kinds.Add level weight).main ≡ s.main + weight
  apply_adds weight zero is at_top cap weighs c' w' = absurd (not_below start ok s w p range kinds.Add is)
  apply_adds weight (suc below) is at_top cap weighs c' w' =
      let grows = amount_enters start ok s w p range kinds.Add below weight (climbing start ok s w p kinds.Add (suc below) is) at_top.0 at_top.1.0 at_top.1.1 at_top.1.2 weighs in
      let small = amounts_small start ok (applies start s p kinds.Add (suc below) weight) w' c' in
      let within = value_within_sum start.cap start.opening (history_in start s) in
      omega (arith, grows, small, within, w.good.main, ok.sum, cap)

pub direct_replies_are_right : DirectRepliesAreRight
direct_replies_are_right start log ok legal event allowed =
    let s : State = run start log (opened start) in
    let both = holds start log ok legal in
    let p : ℕ = event.pass in
    let After : Move → Type 0 = λ step. HasReply start (history_in start (moves start s p step)) ((moves start s p step).callers p).last s.main × (own p (history_in start (moves start s p step)) ≡ own p (history_in start s) ++ ((moves start s p step).callers p).last ∷ []) in (
      (λ e. subst After (sym e) (read_meets start ok s both.0 both.1 p allowed.0 (subst (May start s p) e allowed.1))),
      (λ amount e. subst After (sym e) (direct_meets start ok s both.0 both.1 p allowed.0 amount (subst (May start s p) e allowed.1))),
      (λ kind amount word e is won. subst After (sym e) (exchange_meets start ok s both.0 both.1 p allowed.0 kind amount word is won (subst (May start s p) e allowed.1))),
    )

pub main_is_value : MainIsValue
main_is_value start log ok legal =
    let s : State = run start log (opened start) in
    let both = holds start log ok legal in
    (both.0.good.main, omega (arith, both.0.good.main, value_within_cap start.cap start.opening (history_in start s) ok.opening), main_small start ok s both.0 both.1)

pub calls_stand_once : CallsStandOnce
calls_stand_once start log ok legal p number =
    let both = holds start log ok legal in
    stands_once start ok (run start log (opened start)) both.0 both.1 p number

pub words_are_small : WordsAreSmall
words_are_small start log ok legal =
    let both = holds start log ok legal in
    (total_small start ok (run start log (opened start)) both.0 both.1, main_with_left start ok (run start log (opened start)) both.0 both.1)

pub additions_add_all : AdditionsAddAll
additions_add_all start log ok legal event allowed =
    let s : State = run start log (opened start) in
    let both = holds start log ok legal in
    let p : ℕ = event.pass in (
      (λ weight e.
          let may : May start s p (Apply weight) = subst (May start s p) e allowed.1 in
          let same : (applied_by start s p weight (s.callers p).position) ≡ applies start s p kinds.Add may.0 weight = ap (applied_by start s p weight) may.1 in
          let w' : Whole start (applies start s p kinds.Add may.0 weight) = subst (Whole start) same (moves_keep start ok s both.0 p allowed.0 (Apply weight) may) in
          let c' : IsCounted start (applies start s p kinds.Add may.0 weight) = subst (IsCounted start) same (counts_keep start ok s both.0 both.1 p allowed.0 (Apply weight) may) in
          subst (λ (step : Move). (moves start s p step).main ≡ s.main + weight) (sym e) (ap (λ (x : State). x.main) same ∙ apply_adds start ok s both.0 both.1 p allowed.0 weight may.0 may.1 may.2 may.3 may.4 c' w')),
      (λ amount e.
          let may : May start s p (Direct amount) = subst (May start s p) e allowed.1 in
          let small = main_with_left start ok s both.0 both.1 p allowed.0 in
          let most : amount ≤ (s.callers p).left = may.2.1 in
          subst (λ (step : Move). (moves start s p step).main ≡ s.main + amount) (sym e) (let full : min start.cap (s.main + amount) ≡ s.main + amount = omega (arith, may.1) in full)),
    )

pub rows_are_lawful : RowsAreLawful
rows_are_lawful start log ok legal kind level index =
    let s : State = run start log (opened start) in
    let both = holds start log ok legal in
    let n : ℕ = members start.shape level index in
    let rows : ℕ = start.shape.rows in
    let reached = both.0.good.reached kind level index in
    subst (IsLawful n rows) reached.2 (law n rows reached.0 reached.1)

pub batches_follow : BatchesFollow
batches_follow start log ok legal =
    let both = holds start log ok legal in
    (both.0.good.orderly.consecutive, both.0.good.orderly.consecutive_steps, both.0.contiguous)
