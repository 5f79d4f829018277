-- Each call of a queue keeps what holds of its pass.
use Rattle.std.proofs.Common.{◌≡◌, ℕ, ◌+◌, ◌*◌, ◌^◌, ◌≤◌, ◌<◌, List, [], ◌∷◌, ◌++◌, length, map, replicate, refl, sym, ◌∙◌, ap, subst, arith}
use Rattle.std.specs.Prelude.{All, sum}
use Rattle.std.proofs.lemmas.List.{append-nil, length-append, map-append}
use Rattle.std.proofs.lemmas.List.Elements.{All-push}
use Rattle.std.proofs.lemmas.List.Folds.{sum_by-replicate}
use Rattle.std.proofs.lemmas.List.Sums.{sum_by_push}
use Rattle.fn_model.specs.declared.Kind.{Kind}
use Rattle.fn_model.specs.declared.Kind.TheVariants.{Add, Sub}
use Rattle.fn_core.specs.declared.Start.{Start}
use Rattle.fn_core.specs.Calls.{IsIdle}
use Rattle.fn_table.specs.Claims.{next_of, Made}
use Rattle.fn_table.specs.Seen.{PassView}
use Rattle.tq_cells.specs.declared.entry.Start as cell
use Rattle.tq_cells.specs.Seen.{IsSame}
use Rattle.tq_queue.specs.Answers.{Answered, raised, lowered, raised_by, lowered_by, AddsOne, AreTickets}
use Rattle.tq_queue.specs.Fours.{Which, pick, AllFour}
use Rattle.tq_queue.specs.Seen.{CallerView, AllBegin, Begins, first_of, allowance, with_free, with_items}
use Rattle.fn_funnel.specs.declared.waiting.Added.{Added}
use Rattle.fn_funnel.specs.Waiting.{Waited}
use Rattle.tq_cells.specs.declared.entry.Entry.TheVariants as entries
use Rattle.tq_queue.specs.Claims.{MadePut, MadeTake, MetFull, MetEmpty}
use Rattle.tq_queue.specs.Moves.{HasPut, HasTaken, Placed, Taken}
use Rattle.tq_queue.specs.Kept.{own_answers, own_puts, own_takes, AreSizes, Keeps}
use Rattle.tq_queue.proofs.Told.{calls_are_answered}
use Rattle.tq_queue.proofs.Done.{done_puts, done_takes}
use Rattle.tq_queue.proofs.Each.{each_of, all_of}

pub sum-replicate : (n k : ℕ) → sum (replicate n k) ≡ n * k
sum-replicate n k = sum_by-replicate (λ (x : ℕ). x) n k

-- a ticket is far below where cells end
pub ticket_small : (passes : ℕ) (start : Start) (ticket : ℕ) → Begins passes 0 start → passes ≤ 64 → ticket ≤ start.opening + sum start.allowances → ticket < 2 ^ 60
ticket_small passes start ticket b few most =
    let all : sum start.allowances ≡ passes * allowance = ap sum b.allowances ∙ sum-replicate passes allowance in
    let first : start.opening ≡ 0 = b.opening in
    omega arith

-- a call of 1, and the integer that it met
abbrev one_call : PassView → Kind → ℕ → Answered
one_call p kind reply = record { call = next_of p kind 1; met = reply }

-- what a call on a funnel tells
record HasGrown (p : PassView) (kind : Kind) (reply : ℕ) (q : PassView) : Type 0 where
  answers : own_answers q ≡ own_answers p ++ one_call p kind reply ∷ []
  number : q.number ≡ p.number
  start : q.seen.start ≡ p.seen.start
  idle : IsIdle q.seen q.number

has_grown : (p : PassView) (kind : Kind) (reply : ℕ) (q : PassView) → Made p kind 1 reply q → HasGrown p kind reply q
has_grown p kind reply q made = record { answers = calls_are_answered p kind 1 reply q made; number = made.same.1; start = made.same.2; idle = made.rests }

raises : (p : PassView) (kind : Kind) (reply : ℕ) (q : PassView) → HasGrown p kind reply q → raised (own_answers q) ≡ raised (own_answers p) + raised_by kind 1
raises p kind reply q g = ap raised g.answers ∙ sum_by_push (λ (a : Answered). raised_by a.call.kind a.call.amount) (own_answers p) (one_call p kind reply)

lowers : (p : PassView) (kind : Kind) (reply : ℕ) (q : PassView) → HasGrown p kind reply q → lowered (own_answers q) ≡ lowered (own_answers p) + lowered_by kind 1 reply
lowers p kind reply q g = ap lowered g.answers ∙ sum_by_push (λ (a : Answered). lowered_by a.call.kind a.call.amount a.met) (own_answers p) (one_call p kind reply)

-- one more ticket
tickets_more : (p : PassView) (ticket : ℕ) (q : PassView) (tickets : List ℕ) → HasGrown p Add ticket q → AreTickets (own_answers p) tickets → AreTickets (own_answers q) (tickets ++ ticket ∷ [])
tickets_more p ticket q tickets g are = record {
  ones = subst (All AddsOne) (sym g.answers) (All-push AddsOne (own_answers p) (one_call p Add ticket) are.ones (refl, refl));
  met = ap (map (λ (a : Answered). a.met)) g.answers ∙ map-append (λ (a : Answered). a.met) (own_answers p) (one_call p Add ticket ∷ []) ∙ ap (λ (l : List ℕ). l ++ ticket ∷ []) are.met;
}

longer : (l : List ℕ) (x : ℕ) → length (l ++ x ∷ []) ≡ length l + 1
longer l x = length-append l (x ∷ [])

-- what stays of a pass whatever it calls
record Goes (p q : PassView) : Type 0 where
  number : q.number ≡ p.number
  start : q.seen.start ≡ p.seen.start
  idle : IsIdle p.seen p.number → IsIdle q.seen q.number

called : (p : PassView) (kind : Kind) (reply : ℕ) (q : PassView) → HasGrown p kind reply q → Goes p q
called p kind reply q g = record { number = g.number; start = g.start; idle = λ was. g.idle }

uncalled : (p q : PassView) → q ≡ p → Goes p q
uncalled p q is = record { number = ap (λ (x : PassView). x.number) is; start = ap (λ (x : PassView). x.seen.start) is; idle = subst (λ (x : PassView). IsIdle x.seen x.number) (sym is) }

module _ {T : Type 0} (p q : CallerView T) (k : Keeps p) where
  -- what a pass keeps whatever it calls
  stays : IsSame p.seat q.seat → AllFour (λ w. Goes (pick w p.passes) (pick w q.passes)) → AreTickets (own_answers q.passes.tail) (own_puts q.seat) → AreTickets (own_answers q.passes.head) (own_takes q.seat)
      → (lowered (own_answers q.passes.free) ≡ length (own_puts q.seat)) × (raised (own_answers q.passes.free) ≡ length (own_takes q.seat))
      → (raised (own_answers q.passes.items) ≡ length (own_puts q.seat)) × (lowered (own_answers q.passes.items) ≡ length (own_takes q.seat)) → Keeps q
  stays same all tail head free items =
      let goes : (w : Which) → Goes (pick w p.passes) (pick w q.passes) = each_of (λ w. Goes (pick w p.passes) (pick w q.passes)) all in
      let begin : (w : Which) → Begins p.seat.start.seats (first_of p.seat.start.capacity w) (pick w q.passes).seen.start =
      λ w. subst (Begins p.seat.start.seats (first_of p.seat.start.capacity w)) (sym (goes w).start) (each_of (λ v. Begins p.seat.start.seats (first_of p.seat.start.capacity v) (pick v p.passes).seen.start) k.begin w) in
      record {
        sizes = subst AreSizes (sym same.2) k.sizes;
        numbers = all_of (λ w. (pick w q.passes).number ≡ q.seat.number) (λ w. (goes w).number ∙ each_of (λ v. (pick v p.passes).number ≡ p.seat.number) k.numbers w ∙ sym same.1);
        begin = subst (λ (s : cell.Start). AllBegin s.capacity s.seats (λ w. (pick w q.passes).seen.start)) (sym same.2) (all_of (λ w. Begins p.seat.start.seats (first_of p.seat.start.capacity w) (pick w q.passes).seen.start) begin);
        idle = all_of (λ w. IsIdle (pick w q.passes).seen (pick w q.passes).number) (λ w. (goes w).idle (each_of (λ v. IsIdle (pick v p.passes).seen (pick v p.passes).number) k.idle w));
        tail = tail;
        head = head;
        free = free;
        items = items;
      }

  -- a put keeps it
  pub kept_put : (ticket : ℕ) (item : T) → MadePut p ticket item q → Keeps q
  kept_put ticket item (calls, done) =
      let free = has_grown p.passes.free Sub calls.there q.passes.free calls.taken in
      let tail = has_grown p.passes.tail Add ticket q.passes.tail calls.drawn in
      let items = has_grown p.passes.items Add calls.before q.passes.items calls.given in
      let puts : own_puts q.seat ≡ own_puts p.seat ++ ticket ∷ [] = done_puts p.seat (entries.Put ticket item) q.seat done.deeds_now in
      let takes : own_takes q.seat ≡ own_takes p.seat = done_takes p.seat (entries.Put ticket item) q.seat done.deeds_now ∙ append-nil (own_takes p.seat) in
      let more : length (own_puts q.seat) ≡ length (own_puts p.seat) + 1 = ap length puts ∙ longer (own_puts p.seat) ticket in
      let same : length (own_takes q.seat) ≡ length (own_takes p.seat) = ap length takes in
      let some : 0 < calls.there = calls.some in
      stays done.same
      (called p.passes.tail Add ticket q.passes.tail tail, uncalled p.passes.head q.passes.head calls.kept, called p.passes.free Sub calls.there q.passes.free free, called p.passes.items Add calls.before q.passes.items items)
      (subst (AreTickets (own_answers q.passes.tail)) (sym puts) (tickets_more p.passes.tail ticket q.passes.tail (own_puts p.seat) tail k.tail))
      (subst (AreTickets (own_answers q.passes.head)) (sym takes) (subst (λ (x : PassView). AreTickets (own_answers x) (own_takes p.seat)) (sym calls.kept) k.head))
      (omega (arith, lowers p.passes.free Sub calls.there q.passes.free free, k.free.0), omega (arith, raises p.passes.free Sub calls.there q.passes.free free, k.free.1))
      (omega (arith, raises p.passes.items Add calls.before q.passes.items items, k.items.0), omega (arith, lowers p.passes.items Add calls.before q.passes.items items, k.items.1))

  -- .. and so does a take
  pub kept_taken : (ticket : ℕ) (item : T) → MadeTake p ticket item q → Keeps q
  kept_taken ticket item (calls, done) =
      let items = has_grown p.passes.items Sub calls.there q.passes.items calls.taken in
      let head = has_grown p.passes.head Add ticket q.passes.head calls.drawn in
      let free = has_grown p.passes.free Add calls.before q.passes.free calls.given in
      let takes : own_takes q.seat ≡ own_takes p.seat ++ ticket ∷ [] = done_takes p.seat (entries.Take ticket) q.seat done.deeds_now in
      let puts : own_puts q.seat ≡ own_puts p.seat = done_puts p.seat (entries.Take ticket) q.seat done.deeds_now ∙ append-nil (own_puts p.seat) in
      let more : length (own_takes q.seat) ≡ length (own_takes p.seat) + 1 = ap length takes ∙ longer (own_takes p.seat) ticket in
      let same : length (own_puts q.seat) ≡ length (own_puts p.seat) = ap length puts in
      let some : 0 < calls.there = calls.some in
      stays done.same
      (uncalled p.passes.tail q.passes.tail calls.kept, called p.passes.head Add ticket q.passes.head head, called p.passes.free Add calls.before q.passes.free free, called p.passes.items Sub calls.there q.passes.items items)
      (subst (AreTickets (own_answers q.passes.tail)) (sym puts) (subst (λ (x : PassView). AreTickets (own_answers x) (own_puts p.seat)) (sym calls.kept) k.tail))
      (subst (AreTickets (own_answers q.passes.head)) (sym takes) (tickets_more p.passes.head ticket q.passes.head (own_takes p.seat) head k.head))
      (omega (arith, lowers p.passes.free Add calls.before q.passes.free free, k.free.0), omega (arith, raises p.passes.free Add calls.before q.passes.free free, k.free.1))
      (omega (arith, raises p.passes.items Sub calls.there q.passes.items items, k.items.0), omega (arith, lowers p.passes.items Sub calls.there q.passes.items items, k.items.1))

module _ {T : Type 0} (p : CallerView T) (k : Keeps p) where
  -- a call that finds no room keeps it
  kept_with_free : (free : PassView) → Made p.passes.free Sub 1 0 free → Keeps (with_free p free)
  kept_with_free free made =
      let g = has_grown p.passes.free Sub 0 free made in
      stays p (with_free p free) k (refl, refl, refl)
      (uncalled p.passes.tail p.passes.tail refl, uncalled p.passes.head p.passes.head refl, called p.passes.free Sub 0 free g, uncalled p.passes.items p.passes.items refl)
      k.tail
      k.head
      (omega (arith, lowers p.passes.free Sub 0 free g, k.free.0), omega (arith, raises p.passes.free Sub 0 free g, k.free.1))
      k.items

  pub kept_full : (q : CallerView T) → MetFull p q → Keeps q
  kept_full q full = subst Keeps (sym full.1) (kept_with_free q.passes.free full.0)

  -- .. and so does one that finds no item
  kept_with_items : (items : PassView) → Made p.passes.items Sub 1 0 items → Keeps (with_items p items)
  kept_with_items items made =
      let g = has_grown p.passes.items Sub 0 items made in
      stays p (with_items p items) k (refl, refl, refl)
      (uncalled p.passes.tail p.passes.tail refl, uncalled p.passes.head p.passes.head refl, uncalled p.passes.free p.passes.free refl, called p.passes.items Sub 0 items g)
      k.tail
      k.head
      k.free
      (omega (arith, raises p.passes.items Sub 0 items g, k.items.0), omega (arith, lowers p.passes.items Sub 0 items g, k.items.1))

  pub kept_empty : (q : CallerView T) → MetEmpty p q → Keeps q
  kept_empty q empty = subst Keeps (sym empty.1) (kept_with_items q.passes.items empty.0)

-- the account of a put, call by call
pub put_of : {T : Type 0} (p q : CallerView T) (item : T) (room added more : Added) → Waited p.passes.free Sub 1 room q.passes.free → (room.before ≡ 0 → ⊥) → Waited p.passes.tail Add 1 added q.passes.tail → Waited p.passes.items Add 1 more q.passes.items → q.passes.head ≡ p.passes.head → Placed p.seat added.before item q.seat → HasPut p added.before item q
put_of p q item room added more free some tail items head seat = record {
  room = room.before;
  some = omega (arith, some);
  free = (room, free, refl);
  tail = (added, tail, refl);
  before = more.before;
  items = (more, items, refl);
  head = head;
  seat = seat;
}

-- .. and of a take
pub taken_of : {T : Type 0} (p q : CallerView T) (item : T) (there added more : Added) → Waited p.passes.items Sub 1 there q.passes.items → (there.before ≡ 0 → ⊥) → Waited p.passes.head Add 1 added q.passes.head → Waited p.passes.free Add 1 more q.passes.free → q.passes.tail ≡ p.passes.tail → Taken p.seat added.before item q.seat → HasTaken p added.before item q
taken_of p q item there added more items some head free tail seat = record {
  there = there.before;
  some = omega (arith, some);
  items = (there, items, refl);
  head = (added, head, refl);
  before = more.before;
  free = (more, free, refl);
  tail = tail;
  seat = seat;
}
