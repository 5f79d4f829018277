-- What the tables of a bucket ask of its desks as they close, and what a closed bucket has.
use Rattle.std.proofs.Common.{◌≡◌, ℕ, zero, suc, ◌<◌, ◌≤◌, List, [], ◌∷◌, length, map, Some, slice_get, refl, sym, ap, ◌∙◌, subst, arith}
use Rattle.std.specs.Prelude.{All}
use Rattle.std.specs.Option.{option_map}
use Rattle.std.proofs.lemmas.List.{length-map}
use Rattle.std.proofs.lemmas.List.Elements.{All-head, All-tail, All-weaker, All-map}
use Rattle.std.proofs.lemmas.Option.{slice_get-map}
use mathlib.Core.List.{IsPrefix}
use Rattle.running.specs.Running.{upto}
use Rattle.running.proofs.Lists.{length_numbers}
use Rattle.running.proofs.Logs.{prefix_more}
use Rattle.fn_model.specs.declared.Call.{Call}
use Rattle.fn_model.specs.Calls.{own as own_calls}
use Rattle.fn_core.specs.declared.Event.{Event}
use Rattle.fn_core.specs.declared.Move.TheVariants.{Glance}
use Rattle.fn_core.specs.Calls.{calls_in}
use Rattle.fn_core.proofs.Public.{histories_go_on, calls_are_of_passes}
use Rattle.fn_table.specs.Seen.{PassView, event}
use Rattle.fn_table.specs.Seen as tokens
use Rattle.fn_table.specs.Claims.{Rests}
use Rattle.tick_table.specs.declared.entry.Entry.{Entry}
use Rattle.tick_table.specs.declared.entry.Start as tick
use Rattle.tick_table.specs.Seen.{SeatView, TickLog}
use Rattle.tick_table.specs.Seen as ticks
use Rattle.quota_bucket.specs.declared.rooms.Parts.{Parts}
use Rattle.quota_bucket.specs.Seen.{BucketView, DeskView, Belongs, AreAll}
use Rattle.quota_bucket.specs.Opened.{IsOpen}
use Rattle.quota_bucket.specs.Closed.{BucketLog, history, HasAll, IsClosed}
use Rattle.quota_bucket.specs.Parts.{HoldsParts}

-- what holds of a part of each
all_parts : {X : Type 0} (P : DeskView → Type 0) (Q : X → Type 0) (part : DeskView → X) → ((d : DeskView) → P d → Q (part d)) → (desks : List DeskView) → All P desks → All Q (map part desks)
all_parts P Q part each desks all = All-map Q part desks (All-weaker P (λ d. Q (part d)) each desks all)

-- the numbers of the passes are those of the seats
numbers_same : (b : BucketView) (desks : List DeskView) → All (Belongs b) desks → map (λ (p : PassView). p.number) (map (λ (d : DeskView). d.pass) desks) ≡ map (λ (d : DeskView). d.seat.number) desks
numbers_same b [] all = refl
numbers_same b (d ∷ desks) all = λ i. (All-head (Belongs b) d desks all).number i ∷ numbers_same b desks (All-tail (Belongs b) d desks all) i

seat_numbers : (desks : List DeskView) → map (λ (s : SeatView). s.number) (map (λ (d : DeskView). d.seat) desks) ≡ map (λ (d : DeskView). d.seat.number) desks
seat_numbers [] = refl
seat_numbers (d ∷ desks) = ap (λ (ns : List ℕ). d.seat.number ∷ ns) (seat_numbers desks)

-- what the two closings ask
pub record AreReady (b : BucketView) (passes : List PassView) (seats : List SeatView) : Type 0 where
  pub passes_of : All (tokens.IsOf b.funnel) passes
  pub passes_all : tokens.AreAll b.funnel passes
  pub rest : All Rests passes
  pub seats_of : All (ticks.IsOf b.ticks) seats
  pub seats_all : ticks.AreAll b.ticks seats

module _ (b : BucketView) (desks : List DeskView) (is_open : IsOpen b) (together : All (Belongs b) desks) (all : AreAll b desks) where
  count : length desks ≡ b.ticks.start.desks
  count = sym (length-map desks (λ (d : DeskView). d.seat.number)) ∙ ap length all ∙ length_numbers 0 b.ticks.start.desks

  few : length desks ≤ 64
  few = let few = is_open.few in let same = count in omega arith

  ready : (parts : Parts) → HoldsParts desks parts → AreReady b parts.passes.items parts.seats.items
  ready parts holds = record {
    passes_of = subst (All (tokens.IsOf b.funnel)) (sym holds.passes) (all_parts (Belongs b) (tokens.IsOf b.funnel) (λ d. d.pass) (λ d belongs. belongs.pass) desks together);
    passes_all = ap (map (λ (p : PassView). p.number)) holds.passes ∙ numbers_same b desks together ∙ all ∙ ap upto (sym is_open.desks);
    rest = subst (All Rests) (sym holds.passes) (all_parts (Belongs b) Rests (λ d. d.pass) (λ d belongs. belongs.rests) desks together);
    seats_of = subst (All (ticks.IsOf b.ticks)) (sym holds.seats) (all_parts (Belongs b) (ticks.IsOf b.ticks) (λ d. d.seat) (λ d belongs. belongs.seat) desks together);
    seats_all = ap (map (λ (s : SeatView). s.number)) holds.seats ∙ seat_numbers desks ∙ all;
  }

-- .. of a bucket as its fields have it
pub few_desks : (own b : BucketView) → own ≡ b → (desks : List DeskView) → IsOpen own → All (Belongs b) desks → AreAll b desks → length desks ≤ 64
few_desks own b is desks is_open together all = few b desks (subst IsOpen is is_open) together all

pub ready_desks : (own b : BucketView) → own ≡ b → (desks : List DeskView) → IsOpen own → All (Belongs b) desks → AreAll b desks → (parts : Parts) → HoldsParts desks parts → AreReady own parts.passes.items parts.seats.items
ready_desks own b is desks is_open together all parts holds = subst (λ (x : BucketView). AreReady x parts.passes.items parts.seats.items) (sym is) (ready b desks (subst IsOpen is is_open) together all parts holds)

at_place : {X : Type 0} (P : X → Type 0) (xs : List X) (k : ℕ) (x : X) → All P xs → slice_get xs k ≡ Some x → P x
at_place P [] k x all here = absurd (cc)
at_place P (y ∷ xs) zero x all here = let same : y ≡ x = cc in subst P same (All-head P y xs all)
at_place P (y ∷ xs) (suc k) x all here = at_place P xs k x (All-tail P y xs all) here

part_at : {X : Type 0} (part : DeskView → X) (desks : List DeskView) (k : ℕ) (d : DeskView) → slice_get desks k ≡ Some d → slice_get (map part desks) k ≡ Some (part d)
part_at part desks k d here = slice_get-map part desks k ∙ ap (option_map part) here

-- what the two closings tell
module _ (b : BucketView) (desks : List DeskView) (book : BucketLog) (passes : List PassView) (seats : List SeatView) (is_open : IsOpen b) (together : All (Belongs b) desks) (all : AreAll b desks)
    (passes_are : passes ≡ map (λ (d : DeskView). d.pass) desks) (seats_are : seats ≡ map (λ (d : DeskView). d.seat) desks)
    (token_start : book.tokens.start ≡ b.funnel.start) (tick_start : book.ticks.start ≡ b.ticks.start) (token_closed : tokens.IsClosed passes book.tokens) (tick_closed : ticks.IsClosed seats book.ticks)
    (calls : (k : ℕ) (p : PassView) → slice_get passes k ≡ Some p → own_calls p.number (calls_in book.tokens) ≡ own_calls p.number (calls_in p.seen)) where
  has : (k : ℕ) (d : DeskView) → slice_get desks k ≡ Some d → HasAll book d
  has k d here =
      let pass_here : slice_get passes k ≡ Some d.pass = ap (λ (ps : List PassView). slice_get ps k) passes_are ∙ part_at (λ e. e.pass) desks k d here in
      let seat_here : slice_get seats k ≡ Some d.seat = ap (λ (ss : List SeatView). slice_get ss k) seats_are ∙ part_at (λ e. e.seat) desks k d here in
      let belongs = at_place (Belongs b) desks k d together here in
      let seen = token_closed.each k d.pass pass_here in
      let entered = tick_closed.each k d.seat seat_here in
      let begins : IsPrefix d.pass.seen.log book.tokens.log = subst (λ (log : List Event). IsPrefix d.pass.seen.log log) (sym token_closed.last) (prefix_more d.pass.seen.log token_closed.before (event 0 Glance ∷ []) seen.begins) in
      record {
        past = histories_go_on d.pass.seen book.tokens token_closed.legal (token_start ∙ sym belongs.pass.1) begins;
        calls = calls k d.pass pass_here;
        log = entered.begins;
        entries = entered.own;
      }

  closed : IsClosed b desks book
  closed =
      let passes_count : book.tokens.start.shape.passes ≡ length desks = ap (λ s. s.shape.passes) token_start ∙ is_open.desks ∙ sym (count b desks is_open together all) in
      let desks_count : book.ticks.start.desks ≡ length desks = ap (λ (s : tick.Start). s.desks) tick_start ∙ sym (count b desks is_open together all) in
      record {
        tokens = token_start;
        ticks = tick_start;
        each = has;
        callers = subst (λ (n : ℕ). All (λ (call : Call). call.pass < n) (history book)) passes_count (calls_are_of_passes book.tokens.start book.tokens.log token_closed.legal.0 token_closed.legal.1);
        enterers = subst (λ (n : ℕ). All (λ (e : Entry). e.desk < n) book.ticks.log) desks_count tick_closed.desks;
      }

pub closed_by : (own b : BucketView) → own ≡ b → (desks : List DeskView) (book : BucketLog) (parts : Parts) → IsOpen own → All (Belongs b) desks → AreAll b desks → HoldsParts desks parts
    → book.tokens.start ≡ own.funnel.start → book.ticks.start ≡ own.ticks.start → tokens.IsClosed parts.passes.items book.tokens → ticks.IsClosed parts.seats.items book.ticks
    → ((k : ℕ) (p : PassView) → slice_get parts.passes.items k ≡ Some p → own_calls p.number (calls_in book.tokens) ≡ own_calls p.number (calls_in p.seen)) → IsClosed b desks book
closed_by own b is desks book parts is_open together all holds token_start tick_start token_closed tick_closed calls =
    closed b desks book parts.passes.items parts.seats.items (subst IsOpen is is_open) together all holds.passes holds.seats
    (token_start ∙ ap (λ (x : BucketView). x.funnel.start) is) (tick_start ∙ ap (λ (x : BucketView). x.ticks.start) is) token_closed tick_closed calls
