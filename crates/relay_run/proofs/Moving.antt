-- What puts and takes tell of what a desk has done, and what a worker has done in the end.
use Rattle.std.proofs.Common.{◌≡◌, ℕ, zero, suc, ◌+◌, ◌-◌, ◌<◌, ◌≤◌, List, [], ◌∷◌, ◌++◌, length, take, set, map, Some, add-one, refl, sym, ◌∙◌, ap, subst, arith, append_assoc}
use Rattle.std.specs.Prelude.{flat_map}
use Rattle.std.proofs.lemmas.List.{append-nil, length-append, length-map, map-append, take_more_set}
use Rattle.tq_cells.specs.declared.entry.Entry.{Entry}
use Rattle.tq_cells.specs.declared.entry.Entry.TheVariants as entries
use Rattle.tq_cells.specs.declared.entry.Event.{Event}
use Rattle.tq_cells.specs.Seen.{SeatView, entries_of}
use Rattle.tq_queue.specs.Kept.{own_puts, own_takes, tickets_put, tickets_taken}
use Rattle.tq_queue.specs.Claims.{deed, deeds, MadePut, MadeTake}
use Rattle.tq_queue.specs.Seen.{QueueView, CallerView, IsOf, fresh, fresh_passes}
use Rattle.tq_queue.proofs.Laws.{told_grows, own_puts_grow, own_takes_grow}
use Rattle.relay_run.specs.declared.desks.Desk.{Desk}
use Rattle.running.specs.Running.{upto, numbers_from}
use Rattle.relay_run.specs.declared.lines.TheConstants.{MOST_LINES}
use Rattle.relay_run.specs.declared.workers.Worker.{Worker}
use Rattle.relay_run.specs.Relay.{items_put, item_put}
use Rattle.relay_run.specs.Work.{line_of, first_lines, own_items, Advances, IsReady, IsDone, pass_in, passes_in}
use Rattle.relay_run.proofs.Strides.{length-numbers_from, upto_more, first_more}

-- the items that a deed puts
done_items : (p : SeatView ℕ) (did : Entry ℕ) (q : SeatView ℕ) → deeds q ≡ deeds p ++ did ∷ [] → own_items q ≡ own_items p ++ item_put did
done_items p did q is = told_grows item_put alike p did q is
  where
    alike : (entry : Entry ℕ) → item_put entry ≡ flat_map item_put (deed entry)
    alike (entries.Hold t) = refl
    alike (entries.Put t x) = refl
    alike (entries.Take t) = refl
    alike (entries.Free t) = refl
    alike (entries.Miss expected found) = refl

-- a put
pub put_advances : (p q : CallerView ℕ) (owed ticket item : ℕ) → MadePut p ticket item q
    → (let old : Desk = record { pass = p; owed = owed } in let new : Desk = record { pass = q; owed = owed } in Advances old new (ticket ∷ []) (item ∷ []))
put_advances p q owed ticket item (calls, done) = record {
  number = done.same.1;
  under = own_puts_grow p.seat (entries.Put ticket item) q.seat done.deeds_now;
  put = done_items p.seat (entries.Put ticket item) q.seat done.deeds_now;
  takes = ap (λ (l : List ℕ). length l + owed) (own_takes_grow p.seat (entries.Put ticket item) q.seat done.deeds_now ∙ append-nil (own_takes p.seat));
}

-- a take that was owed
pub take_advances : (p q : CallerView ℕ) (owed ticket item : ℕ) → 0 < owed → MadeTake p ticket item q
    → (let old : Desk = record { pass = p; owed = owed } in let new : Desk = record { pass = q; owed = owed - 1 } in Advances old new [] [])
take_advances p q owed ticket item some_owed (calls, done) = record {
  number = done.same.1;
  under = own_puts_grow p.seat (entries.Take ticket) q.seat done.deeds_now;
  put = done_items p.seat (entries.Take ticket) q.seat done.deeds_now;
  takes =
      let one : length (own_takes q.seat) ≡ length (own_takes p.seat ++ ticket ∷ []) = ap length (own_takes_grow p.seat (entries.Take ticket) q.seat done.deeds_now) in
      omega (arith, one, length-append (own_takes p.seat) (ticket ∷ []), some_owed);
}

-- nothing was done yet
pub stands : (desk : Desk) → Advances desk desk [] []
stands desk = record {
  number = refl;
  under = sym (append-nil (own_puts desk.pass.seat));
  put = sym (append-nil (own_items desk.pass.seat));
  takes = refl;
}

-- one after the other
pub goes_on : (a b c : Desk) (tickets more items others : List ℕ) → Advances a b tickets items → Advances b c more others → Advances a c (tickets ++ more) (items ++ others)
goes_on a b c tickets more items others first second = record {
  number = second.number ∙ first.number;
  under = second.under ∙ ap (λ (l : List ℕ). l ++ more) first.under ∙ append_assoc (own_puts a.pass.seat) tickets more;
  put = second.put ∙ ap (λ (l : List ℕ). l ++ others) first.put ∙ append_assoc (own_items a.pass.seat) items others;
  takes = second.takes ∙ first.takes;
}

-- one more line was put
pub line_put : (a b c : Desk) (tickets : List ℕ) (workers worker k ticket line : ℕ) → k < length tickets → line ≡ line_of workers worker k → Advances a b (take k tickets) (first_lines workers worker k) → Advances b c (ticket ∷ []) (line ∷ [])
    → Advances a c (take (k + 1) (set tickets k ticket)) (first_lines workers worker (k + 1))
line_put a b c tickets workers worker k ticket line within is first second =
    let both = goes_on a b c (take k tickets) (ticket ∷ []) (first_lines workers worker k) (line ∷ []) first second in
    let tickets_same : take k tickets ++ ticket ∷ [] ≡ take (k + 1) (set tickets k ticket) = sym (take_more_set tickets k ticket within) in
    let lines_same : first_lines workers worker k ++ line ∷ [] ≡ first_lines workers worker (k + 1) = ap (λ (n : ℕ). first_lines workers worker k ++ n ∷ []) is ∙ sym (first_more workers worker k) ∙ ap (first_lines workers worker) (sym (add-one k)) in
    subst (λ (ts : List ℕ). Advances a c ts (first_lines workers worker (k + 1))) tickets_same (subst (λ (ls : List ℕ). Advances a c (take k tickets ++ ticket ∷ []) ls) lines_same both)

-- all lines were put, and all takes made
pub is_done : (q : QueueView) (n : ℕ) (old new : Desk) (worker : Worker) → worker.desk ≡ Some new → IsOf q new.pass → old.pass.seat.number ≡ worker.share.worker → old.pass.seat.log ≡ []
    → old.owed ≡ n → n ≡ length worker.tickets.items → Advances old new worker.tickets.items (first_lines worker.share.workers worker.share.worker n) → new.owed ≡ 0 → IsDone q worker
is_done q n old new worker there together number none owed size advances rest =
    let lines : ℕ → List ℕ = first_lines worker.share.workers worker.share.worker in record {
      desk = new;
      there = there;
      together = together;
      number = advances.number ∙ number;
      tickets = advances.under ∙ ap (λ (log : List (Event ℕ)). tickets_put (entries_of old.pass.seat.number log) ++ worker.tickets.items) none;
      items = advances.put ∙ ap (λ (log : List (Event ℕ)). items_put (entries_of old.pass.seat.number log) ++ lines n) none ∙ ap lines size;
      takes =
          let nothing : length (own_takes old.pass.seat) ≡ 0 = ap (λ (log : List (Event ℕ)). length (tickets_taken (entries_of old.pass.seat.number log))) none in
          omega (arith, advances.takes, nothing, owed, size, rest);
    }

-- the pass at a place of a queue's passes
at_place : {X : Type 0} (f : ℕ → X) (k n : ℕ) (xs : List X) (x : X) (ys : List X) → xs ++ x ∷ ys ≡ map f (numbers_from k n) → (x ≡ f (k + length xs)) × (length xs < n)
at_place f k zero [] x ys is = absurd (cc)
at_place f k (suc n) [] x ys is = (let here : x ≡ f k = cc in here ∙ ap f (let same : k ≡ k + 0 = omega arith in same), omega arith)
at_place f k zero (y ∷ xs) x ys is = absurd (cc)
at_place f k (suc n) (y ∷ xs) x ys is =
    let others : xs ++ x ∷ ys ≡ map f (numbers_from (suc k) n) = cc in
    let rest = at_place f (suc k) n xs x ys others in
    (rest.0 ∙ ap f (let same : suc k + length xs ≡ k + suc (length xs) = omega arith in same), omega (arith, rest.1))

pub pass_at_place : (q : QueueView) (passes earlier later : List (CallerView ℕ)) (pass : CallerView ℕ) → passes ≡ fresh_passes q → earlier ++ pass ∷ later ≡ passes → (pass ≡ fresh q (length earlier)) × (length earlier < q.cells.start.seats)
pass_at_place q passes earlier later pass all is =
    let here = at_place (fresh q) 0 q.cells.start.seats earlier pass later (is ∙ all) in
    (here.0 ∙ ap (fresh q) (let same : 0 + length earlier ≡ length earlier = omega arith in same), here.1)

pub is_ready : (q : QueueView) (number : ℕ) (desk : Desk) (worker : Worker) → worker.desk ≡ Some desk → worker.share.worker ≡ number → desk.pass ≡ fresh q number → desk.owed ≡ length worker.tickets.items → length worker.tickets.items ≤ MOST_LINES → IsReady q worker
is_ready q number desk worker there same is owed few = record {
  desk = desk;
  there = there;
  together = subst (IsOf q) (sym is) ((refl, refl), ((refl, refl), (refl, refl), (refl, refl), (refl, refl)));
  number = ap (λ (p : CallerView ℕ). p.seat.number) is ∙ sym same;
  fresh = ap (λ (p : CallerView ℕ). p.seat.log) is;
  owed = owed;
  few = few;
}

-- one more pass was handed in
pub passes_more : (workers : List Worker) (worker : Worker) → passes_in (workers ++ worker ∷ []) ≡ passes_in workers ++ pass_in worker.desk
passes_more [] worker = append-nil (pass_in worker.desk)
passes_more (w ∷ ws) worker = ap (λ (l : List (CallerView ℕ)). pass_in w.desk ++ l) (passes_more ws worker) ∙ sym (append_assoc (pass_in w.desk) (passes_in ws) (pass_in worker.desk))

-- one more worker was engaged
pub numbers_more : (old new : List Worker) (worker : Worker) (n : ℕ) → new ≡ old ++ worker ∷ [] → worker.share.worker ≡ n → map (λ (w : Worker). w.share.worker) old ≡ upto n → map (λ (w : Worker). w.share.worker) new ≡ upto (n + 1)
numbers_more old new worker n is number so_far =
    ap (map (λ (w : Worker). w.share.worker)) is ∙ map-append (λ (w : Worker). w.share.worker) old (worker ∷ []) ∙ ap (λ (ns : List ℕ). ns ++ worker.share.worker ∷ []) so_far ∙ ap (λ (k : ℕ). upto n ++ k ∷ []) number ∙ sym (upto_more n) ∙ ap upto (sym (add-one n))

-- a queue has as many passes as seats
pub passes_count : (q : QueueView) (passes : List (CallerView ℕ)) → passes ≡ fresh_passes q → length passes ≡ q.cells.start.seats
passes_count q passes all = ap length all ∙ length-map (upto q.cells.start.seats) (fresh q) ∙ length-numbers_from 0 q.cells.start.seats
