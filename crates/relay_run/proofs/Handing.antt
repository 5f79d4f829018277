-- What the workers hand in, and what it makes of the book and of the order.
use Rattle.std.proofs.Common.{◌≡◌, ℕ, zero, suc, ◌+◌, ◌<◌, ◌≤◌, List, [], ◌∷◌, ◌++◌, length, map, get_or, replicate, Global, Bool, true, refl, sym, ◌∙◌, ap, subst, arith}
use Rattle.std.specs.Prelude.{◌==◌, All, count_by, nat_lt, if◌then◌else◌, option_map}
use Rattle.std.proofs.lemmas.Bool.Decides.{nat_tests}
use Rattle.std.specs.declared.vec.Vec.{Vec}
use Rattle.std.proofs.lemmas.List.{length-map}
use Rattle.std.proofs.lemmas.Option.{get_or_from_slice_get, slice_get-map}
use Rattle.std.proofs.lemmas.List.Elements.{All-nil, All-cons, All-head, All-tail, All-filter, All-replicate}
use Rattle.running.specs.Running.{upto}
use Rattle.tq_cells.specs.declared.entry.Event.{Event}
use Rattle.tq_cells.specs.declared.entry.Start.{Start}
use Rattle.tq_cells.specs.Laws.{puts}
use Rattle.tq_cells.specs.Seen.{entries_of}
use Rattle.tq_queue.specs.Kept.{own_puts, tickets_put}
use Rattle.tq_queue.specs.Laws.{IsSound}
use Rattle.tq_queue.specs.Seen.{QueueView, CallerView, BookView, IsOf, AreAll, IsClosed}
use Rattle.tq_queue.proofs.Laws.{puts_have_seats}
use Rattle.relay_run.specs.declared.shares.Share.{Share}
use Rattle.relay_run.specs.declared.workers.Worker.{Worker}
use Rattle.relay_run.specs.Relay.{lines_at, items_put, IsRelay, order_of}
use Rattle.relay_run.specs.Work.{line_of, first_lines, IsDone, IsSame, AreSame, HasPlaces, pass_in, passes_in}
use Rattle.relay_run.specs.Filling.{all_filled}
use Rattle.relay_run.proofs.Strides.{length-numbers_from, strided, lines_below, lines_few}
use Rattle.relay_run.proofs.Together.{HasRelayed, seats_below, pass_of, pass_at, entries_same, is_relay}
use Rattle.relay_run.proofs.Ordered.{puts_below}
use Rattle.relay_run.proofs.Written.{Stand, AllStand, stand_below, all_make_right, all_keep_below, length-all_filled, order_is, StandsAlone, all_stand_alone, seat_stands}

same_numbers : (old new : List Worker) → length new ≡ length old → ((i : ℕ) (d : Worker) → i < length old → IsSame (get_or old i d) (get_or new i d)) → map (λ (w : Worker). w.share.worker) new ≡ map (λ (w : Worker). w.share.worker) old
same_numbers [] [] size same = refl
same_numbers [] (y ∷ ys) size same = absurd (omega (arith, size))
same_numbers (x ∷ xs) [] size same = absurd (omega (arith, size))
same_numbers (x ∷ xs) (y ∷ ys) size same =
    let here : y.share ≡ x.share = (same 0 x (omega arith)).share in
    ap (λ (s : Share). s.worker ∷ map (λ (w : Worker). w.share.worker) ys) here
    ∙ ap (λ (ns : List ℕ). x.share.worker ∷ ns) (same_numbers xs ys (omega (arith, size)) (λ i d l. same (suc i) d (omega (arith, l))))

-- the same workers have places for the same lines
same_places : (workers count : ℕ) (old new : Worker) → IsSame old new → HasPlaces workers count old → HasPlaces workers count new
same_places workers count old new is was = record {
  all = ap (λ (s : Share). s.workers) is.share ∙ was.all;
  inside = subst (λ (s : Share). s.worker < workers) (sym is.share) was.inside;
  places = is.places ∙ was.places ∙ ap (λ (s : Share). length (lines_at workers count s.worker)) (sym is.share);
}

all_places : (workers count : ℕ) (old new : List Worker) → AreSame old new → All (HasPlaces workers count) old → All (HasPlaces workers count) new
all_places workers count old new same places k d l =
    let less : k < length old = omega (arith, l, same.count) in
    same_places workers count (get_or old k d) (get_or new k d) (same.each k d less) (places k d less)

-- as many workers as were engaged
pub engaged_count : (workers : ℕ) (old new : List Worker) → map (λ (w : Worker). w.share.worker) old ≡ upto workers → AreSame old new → length new ≡ workers
engaged_count workers old new numbers same = same.count ∙ sym (length-map old (λ (w : Worker). w.share.worker)) ∙ ap length numbers ∙ length-numbers_from 0 workers

-- what one worker hands in
pub record Hands (q : QueueView) (workers count : ℕ) (w : Worker) : Type 0 where
  pub pass : CallerView ℕ
  pub is : pass_in w.desk ≡ pass ∷ []
  pub together : IsOf q pass
  pub number : pass.seat.number ≡ w.share.worker
  pub relayed : HasRelayed workers count pass
  pub tickets : own_puts pass.seat ≡ w.tickets.items

hands : (q : QueueView) (workers count : ℕ) (w : Worker) → IsDone q w → HasPlaces workers count w → Hands q workers count w
hands q workers count w done places =
    let k : ℕ = w.share.worker in
    let at : ℕ → List ℕ = lines_at workers count in record {
      pass = done.desk.pass;
      is = ap pass_in done.there;
      together = done.together;
      number = done.number;
      relayed = record {
        items =
            done.items ∙ ap (λ (m : ℕ). first_lines m k (length w.tickets.items)) places.all ∙ ap (first_lines workers k) places.places ∙ sym (strided workers k places.inside count) ∙ ap at (sym done.number);
        takes = done.takes ∙ places.places ∙ ap (λ (m : ℕ). length (at m)) (sym done.number);
      };
      tickets = done.tickets;
    }

-- .. and what all hand in
pub record AllHand (q : QueueView) (workers count : ℕ) (ws : List Worker) : Type 0 where
  pub together : All (IsOf q) (passes_in ws)
  pub numbers : map (λ (p : CallerView ℕ). p.seat.number) (passes_in ws) ≡ map (λ (w : Worker). w.share.worker) ws
  pub relayed : All (HasRelayed workers count) (passes_in ws)
  pub tickets : map (λ (p : CallerView ℕ). own_puts p.seat) (passes_in ws) ≡ map (λ (w : Worker). w.tickets.items) ws

pub all_hand : (q : QueueView) (workers count : ℕ) (ws : List Worker) → All (IsDone q) ws → All (HasPlaces workers count) ws → AllHand q workers count ws
all_hand q workers count [] done places = record { together = All-nil (IsOf q); numbers = refl; relayed = All-nil (HasRelayed workers count); tickets = refl }
all_hand q workers count (w ∷ ws) done places =
    let here = hands q workers count w (All-head (IsDone q) w ws done) (All-head (HasPlaces workers count) w ws places) in
    let rest = all_hand q workers count ws (All-tail (IsDone q) w ws done) (All-tail (HasPlaces workers count) w ws places) in
    let ps : List (CallerView ℕ) = passes_in ws in
    let all : passes_in (w ∷ ws) ≡ here.pass ∷ ps = ap (λ (l : List (CallerView ℕ)). l ++ ps) here.is in record {
      together = subst (All (IsOf q)) (sym all) (All-cons (IsOf q) here.pass ps here.together rest.together);
      numbers = ap (map (λ (p : CallerView ℕ). p.seat.number)) all ∙ ap (λ (n : ℕ). n ∷ map (λ (p : CallerView ℕ). p.seat.number) ps) here.number ∙ ap (λ (ns : List ℕ). w.share.worker ∷ ns) rest.numbers;
      relayed = subst (All (HasRelayed workers count)) (sym all) (All-cons (HasRelayed workers count) here.pass ps here.relayed rest.relayed);
      tickets = ap (map (λ (p : CallerView ℕ). own_puts p.seat)) all ∙ ap (λ (ts : List ℕ). ts ∷ map (λ (p : CallerView ℕ). own_puts p.seat) ps) here.tickets ∙ ap (λ (l : List (List ℕ)). w.tickets.items ∷ l) rest.tickets;
    }

-- the passes and the tickets that all have handed in
pub record AreHanded (q : QueueView) (workers count : ℕ) (passes : List (CallerView ℕ)) (tickets : List (Vec ℕ Global)) : Type 0 where
  pub together : All (IsOf q) passes
  pub numbers : AreAll q passes
  pub relayed : All (HasRelayed q.cells.start.seats count) passes
  pub kept : map (λ (p : CallerView ℕ). own_puts p.seat) passes ≡ map (λ (own : Vec ℕ Global). own.items) tickets
  pub size : length tickets ≡ workers
  pub few : All (λ (own : Vec ℕ Global). length own.items ≤ count) tickets

module _ (q : QueueView) (workers count : ℕ) (seats : q.cells.start.seats ≡ workers) where
  pub handed : (old new : List Worker) (passes : List (CallerView ℕ)) (tickets : List (Vec ℕ Global)) → map (λ (w : Worker). w.share.worker) old ≡ upto workers → All (HasPlaces workers count) old
      → AreSame old new → All (IsDone q) new → passes ≡ passes_in new → tickets ≡ map (λ (w : Worker). w.tickets) new → AreHanded q workers count passes tickets
  handed old new passes tickets numbers places same done are kept =
      let all = all_hand q workers count new done (all_places workers count old new same places) in
      let number : CallerView ℕ → ℕ = λ p. p.seat.number in record {
        together = subst (All (IsOf q)) (sym are) all.together;
        numbers = ap (map number) are ∙ all.numbers ∙ same_numbers old new same.count same.each ∙ numbers ∙ ap upto (sym seats);
        relayed = subst (λ (n : ℕ). All (HasRelayed n count) passes) (sym seats) (subst (All (HasRelayed workers count)) (sym are) all.relayed);
        kept = ap (map (λ (p : CallerView ℕ). own_puts p.seat)) are ∙ all.tickets ∙ twice new ∙ ap (map (λ (own : Vec ℕ Global). own.items)) (sym kept);
        size = ap length kept ∙ length-map new (λ (w : Worker). w.tickets) ∙ engaged_count workers old new numbers same;
        few = subst (All (λ (own : Vec ℕ Global). length own.items ≤ count)) (sym kept) (small new (all_places workers count old new same places));
      }
    where
      twice : (ws : List Worker) → map (λ (w : Worker). w.tickets.items) ws ≡ map (λ (own : Vec ℕ Global). own.items) (map (λ (w : Worker). w.tickets) ws)
      twice [] = refl
      twice (w ∷ ws) = ap (λ (l : List (List ℕ)). w.tickets.items ∷ l) (twice ws)

      small : (ws : List Worker) → All (HasPlaces workers count) ws → All (λ (own : Vec ℕ Global). length own.items ≤ count) (map (λ (w : Worker). w.tickets) ws)
      small [] has = All-nil (λ (own : Vec ℕ Global). length own.items ≤ count)
      small (w ∷ ws) has =
          let here = All-head (HasPlaces workers count) w ws has in
          All-cons (λ (own : Vec ℕ Global). length own.items ≤ count) w.tickets (map (λ (v : Worker). v.tickets) ws) (omega (arith, here.places, lines_few workers count w.share.worker)) (small ws (All-tail (HasPlaces workers count) w ws has))

-- what holds of the list in each vector
all_vectors : (P : List ℕ → Type 0) (vs : List (Vec ℕ Global)) → ((i : ℕ) → i < length vs → P (get_or (map (λ (own : Vec ℕ Global). own.items) vs) i [])) → All (λ (own : Vec ℕ Global). P own.items) vs
all_vectors P [] each = All-nil (λ (own : Vec ℕ Global). P own.items)
all_vectors P (v ∷ vs) each = All-cons (λ (own : Vec ℕ Global). P own.items) v vs (each 0 (omega arith)) (all_vectors P vs (λ i l. each (suc i) (omega (arith, l))))

all_stand : (log : List (Event ℕ)) (count workers worker : ℕ) (all : List (List ℕ)) → ((i : ℕ) → i < length all → Stand log count (line_of workers (worker + i)) 0 (get_or all i [])) → AllStand log count workers worker all
all_stand log count workers worker [] each = tt
all_stand log count workers worker (own ∷ rest) each = (
  subst (λ (n : ℕ). Stand log count (line_of workers n) 0 own) (let same : worker + 0 ≡ worker = omega arith in same) (each 0 (omega arith)),
  all_stand log count workers (suc worker) rest (λ i l. subst (λ (n : ℕ). Stand log count (line_of workers n) 0 (get_or rest i [])) (let same : worker + suc i ≡ suc worker + i = omega arith in same) (each (suc i) (omega (arith, l)))),
)

-- the book of the relay, and the tickets that its workers have kept
module _ (q : QueueView) (ps : List (CallerView ℕ)) (book : BookView ℕ) (all : AreAll q ps) (closed : IsClosed q ps book) (workers capacity count : ℕ) (relay : IsRelay workers capacity count book) (seats : q.cells.start.seats ≡ workers)
    (kept : List (List ℕ)) (are : map (λ (p : CallerView ℕ). own_puts p.seat) ps ≡ kept) (size : length kept ≡ workers) where
  abbrev log : List (Event ℕ)
  log = book.cells.log

  tickets_are : (seat : ℕ) → seat < workers → get_or kept seat [] ≡ tickets_put (entries_of seat log)
  tickets_are seat range =
      let inside : seat < q.cells.start.seats = omega (arith, range, seats) in
      let pass : CallerView ℕ = pass_of q ps book all closed seat inside in
      ap (λ (l : List (List ℕ)). get_or l seat []) (sym are)
      ∙ get_or_from_slice_get (map (λ (p : CallerView ℕ). own_puts p.seat) ps) seat (own_puts pass.seat) [] (slice_get-map (λ (p : CallerView ℕ). own_puts p.seat) ps seat ∙ ap (option_map (λ (p : CallerView ℕ). own_puts p.seat)) (pass_at q ps book all closed seat inside))
      ∙ ap tickets_put (sym (entries_same q ps book all closed seat inside))

  stands : (seat : ℕ) → seat < workers → Stand log count (line_of workers seat) 0 (get_or kept seat [])
  stands seat range =
      let mine : List (Event ℕ) = entries_of seat log in
      let lines : items_put mine ≡ first_lines workers seat (length (lines_at workers count seat)) = relay.lines seat ∙ strided workers seat range count in
      subst (Stand log count (line_of workers seat) 0) (sym (tickets_are seat range))
      (seat_stands log count (puts_below count log relay.puts) (line_of workers seat) 0 (length (lines_at workers count seat)) mine
      (All-filter (λ (e : Event ℕ). e.seat == seat) (λ (e : Event ℕ). StandsAlone log e.entry) log (all_stand_alone book.cells.start log relay.legal))
      (subst (All (λ x. x < count)) (sym (relay.lines seat)) (lines_below workers count seat))
      lines)

  pub all_stands : AllStand log count workers 0 kept
  all_stands = all_stand log count workers 0 kept (λ i l. let range : i < workers = omega (arith, l, size) in subst (λ (n : ℕ). Stand log count (line_of workers n) 0 (get_or kept i [])) (let same : i ≡ 0 + i = omega arith in same) (stands i range))

  pub tickets_below : (i : ℕ) → i < length kept → All (λ t. t < count) (get_or kept i [])
  tickets_below i l = let range : i < workers = omega (arith, l, size) in stand_below log count (line_of workers i) 0 (get_or kept i []) (stands i range)

  pub written : (order : List ℕ) → length order ≡ count → all_filled workers 0 kept order ≡ order_of count book
  written order sized =
      order_is log count (all_filled workers 0 kept order) (length-all_filled log count workers 0 kept order ∙ sized) (λ t less.
      let test : nat_lt t count ≡ true = grind (arith, nat_tests) in
      let once : length (puts t log) ≡ 1 = relay.puts t ∙ ap (λ (b : Bool). if b then 1 else 0) test in
      let by = puts_have_seats q.cells.start.seats book (seats_below q ps book all closed) t once in
      let seat_range : by.0 < workers = omega (arith, by.1, seats) in
      let range : by.0 < length kept = omega (arith, seat_range, size) in
      all_make_right log count workers 0 kept order sized all_stands by.0 t range (ap (count_by (λ x. x == t)) (tickets_are by.0 seat_range) ∙ by.2))

  pub written_below : (order : List ℕ) → All (λ x. x < count) order → All (λ x. x < count) (all_filled workers 0 kept order)
  written_below order small = all_keep_below log count workers 0 kept order all_stands small

-- what the book and the order are where all passes were handed in
module _ (q : QueueView) (workers capacity count : ℕ) (start : q.cells.start ≡ record { capacity = capacity; seats = workers }) (some_worker : 1 ≤ workers) (passes : List (CallerView ℕ)) (tickets : List (Vec ℕ Global)) (all : AreHanded q workers count passes tickets) (book : BookView ℕ) (closed : IsClosed q passes book) (sound : IsSound book) where
  seats : q.cells.start.seats ≡ workers
  seats = ap (λ (s : Start). s.seats) start

  pub relay_book : IsRelay workers capacity count book
  relay_book = is_relay q passes book all.numbers closed count sound (omega (arith, some_worker, seats)) all.relayed workers capacity start

  size : length (map (λ (own : Vec ℕ Global). own.items) tickets) ≡ workers
  size = length-map tickets (λ (own : Vec ℕ Global). own.items) ∙ all.size

  pub tickets_within : (n : ℕ) → n ≡ count → All (λ (own : Vec ℕ Global). All (λ t. t < n) own.items) tickets
  tickets_within n is = subst (λ (m : ℕ). All (λ (own : Vec ℕ Global). All (λ t. t < m) own.items) tickets) (sym is)
      (all_vectors (All (λ t. t < count)) tickets (λ i l. tickets_below q passes book all.numbers closed workers capacity count relay_book seats (map (λ (own : Vec ℕ Global). own.items) tickets) all.kept size i (omega (arith, l, length-map tickets (λ (own : Vec ℕ Global). own.items)))))

  pub relay_order : (order result : List ℕ) → length order ≡ count → result ≡ all_filled workers 0 (map (λ (own : Vec ℕ Global). own.items) tickets) order → result ≡ order_of count book
  relay_order order result sized is = is ∙ written q passes book all.numbers closed workers capacity count relay_book seats (map (λ (own : Vec ℕ Global). own.items) tickets) all.kept size order sized

  pub relay_within : (order result : List ℕ) → order ≡ replicate count 0 → result ≡ all_filled workers 0 (map (λ (own : Vec ℕ Global). own.items) tickets) order → All (λ x. x < count) result
  relay_within order result zeros is =
      subst (All (λ x. x < count)) (sym is) (written_below q passes book all.numbers closed workers capacity count relay_book seats (map (λ (own : Vec ℕ Global). own.items) tickets) all.kept size order
      (subst (All (λ x. x < count)) (sym zeros) (zeros_below count)))
    where
      zeros_below : (n : ℕ) → All (λ x. x < n) (replicate n 0)
      zeros_below zero = All-nil (λ x. x < zero)
      zeros_below (suc n) = All-replicate (λ x. x < suc n) (suc n) 0 (omega arith)
