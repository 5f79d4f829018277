-- The passes of a queue that opens.
use Rattle.std.proofs.Common.{◌≡◌, ℕ, zero, suc, ◌+◌, ◌-◌, ◌≤◌, ◌<◌, List, [], ◌∷◌, ◌++◌, length, map, refl, sym, ◌∙◌, ap, subst, arith, append_assoc, add-one}
use Rattle.std.specs.Prelude.{All, get_or}
use Rattle.std.proofs.lemmas.List.{append-nil, get_or-replicate}
use Rattle.std.proofs.lemmas.List.Elements.{All-nil, All-cons, All-head, All-tail}
use Rattle.running.specs.Running.{upto, numbers_from}
use Rattle.fn_model.specs.declared.Call.{Call}
use Rattle.fn_core.specs.State.{State, opened, history_in}
use Rattle.fn_core.specs.Calls.{calls_in, IsIdle}
use Rattle.fn_table.specs.Seen.{TableView, PassView}
use Rattle.fn_table.specs.Seen as funnels
use Rattle.fn_table.proofs.Glances.{glances_run, glances_idle}
use Rattle.tq_cells.specs.declared.entry.Start as cell
use Rattle.tq_cells.specs.Seen as seats
use Rattle.tq_queue.specs.Answers.{Answered, answered, answers_of, raised, lowered, AddsOne, AreTickets}
use Rattle.tq_queue.specs.declared.fours.Four.{Four}
use Rattle.tq_queue.specs.Fours.{Which, Tail, Head, Free, Items, pick, AllFour, map_four}
use Rattle.tq_queue.specs.Seen.{QueueView, CallerView, Begins, AllBegin, OpensWith, first_of, fresh, fresh_passes, IsWhole, allowance, left}
use Rattle.tq_queue.specs.Kept.{own_answers, AreSizes, Keeps}
use Rattle.tq_queue.proofs.Each.{each_of, all_of, same_four}

-- the next of the numbers that are left
numbers_next : (k n : ℕ) → k < n → numbers_from k (n - k) ≡ k ∷ numbers_from (k + 1) (n - (k + 1))
numbers_next k n range =
    let more : n - k ≡ suc (n - (k + 1)) = omega arith in
    ap (numbers_from k) more ∙ ap (λ (m : ℕ). k ∷ numbers_from m (n - (k + 1))) (sym (add-one k))

-- what is still to be dealt: one for each number from k on
pub record IsLeft {X : Type 0} (make : ℕ → X) (k n : ℕ) (xs : List X) (size : ℕ) : Type 0 where
  pub items : xs ≡ map make (numbers_from k (n - k))
  pub len : size + k ≡ n

pub left_all : {X : Type 0} (make : ℕ → X) (n m : ℕ) (items : List X) (len : ℕ) → items ≡ map make (upto m) → m ≡ n → len ≡ length items → IsLeft make 0 n items len
left_all make n m items len is same size = record {
  items = let whole : m ≡ n - 0 = omega (arith, same) in is ∙ ap (λ (k : ℕ). map make (numbers_from 0 k)) whole;
  len = let all : length items ≡ length (map make (upto m)) = ap length is in omega (arith, size, all, sized make 0 m, same);
}
  where
    sized : {X : Type 0} (make : ℕ → X) (k m : ℕ) → length (map make (numbers_from k m)) ≡ m
    sized make k zero = refl
    sized make k (suc m) = let rest : length (map make (numbers_from (suc k) m)) ≡ m = sized make (suc k) m in omega arith

module _ {X : Type 0} (make : ℕ → X) (k n : ℕ) (items rest : List X) (len less : ℕ) (x : X) (range : k < n) (is : IsLeft make k n items len) (next : items ≡ x ∷ rest) (fewer : less + 1 ≡ len) where
  all_next : x ∷ rest ≡ make k ∷ map make (numbers_from (k + 1) (n - (k + 1)))
  all_next = sym next ∙ is.items ∙ ap (map make) (numbers_next k n range)

  pub dealt : x ≡ make k
  dealt = let all = all_next in cc

  pub left_next : IsLeft make (k + 1) n rest less
  left_next = record {
    items = let all = all_next in cc;
    len = omega (arith, is.len, fewer);
  }

-- .. for each of four
module _ (q : QueueView) (k n : ℕ) (items rest : Which → List PassView) (len less : Which → ℕ) (passes : Four PassView) (range : k < n) (are : AllFour (λ w. IsLeft (funnels.fresh (pick w q.funnels)) k n (items w) (len w)))
    (next : AllFour (λ w. items w ≡ pick w passes ∷ rest w)) (fewer : AllFour (λ w. less w + 1 ≡ len w)) where
  left_of_each : (w : Which) → IsLeft (funnels.fresh (pick w q.funnels)) k n (items w) (len w)
  left_of_each = each_of (λ w. IsLeft (funnels.fresh (pick w q.funnels)) k n (items w) (len w)) are

  next_each : (w : Which) → items w ≡ pick w passes ∷ rest w
  next_each = each_of (λ w. items w ≡ pick w passes ∷ rest w) next

  fewer_each : (w : Which) → less w + 1 ≡ len w
  fewer_each = each_of (λ w. less w + 1 ≡ len w) fewer

  pub each_dealt : AllFour (λ w. pick w passes ≡ funnels.fresh (pick w q.funnels) k)
  each_dealt = all_of (λ w. pick w passes ≡ funnels.fresh (pick w q.funnels) k) (λ w. dealt (funnels.fresh (pick w q.funnels)) k n (items w) (rest w) (len w) (less w) (pick w passes) range (left_of_each w) (next_each w) (fewer_each w))

  pub each_left : AllFour (λ w. IsLeft (funnels.fresh (pick w q.funnels)) (k + 1) n (rest w) (less w))
  each_left = all_of (λ w. IsLeft (funnels.fresh (pick w q.funnels)) (k + 1) n (rest w) (less w)) (λ w. left_next (funnels.fresh (pick w q.funnels)) k n (items w) (rest w) (len w) (less w) (pick w passes) range (left_of_each w) (next_each w) (fewer_each w))

pub all_first : {X : Type 0} (make : ℕ → X) (n m : ℕ) (all : List X) → m ≡ n → all ≡ [] → all ++ map make (numbers_from 0 (n - 0)) ≡ map make (upto m)
all_first make n m all same none = let whole : n - 0 ≡ m = omega (arith, same) in ap (λ xs. xs ++ map make (numbers_from 0 (n - 0))) none ∙ ap (λ (k : ℕ). map make (numbers_from 0 k)) whole

-- the passes so far, and those to come, are all of them
pub all_dealt : {X : Type 0} (make : ℕ → X) (k n : ℕ) (all whole : List X) (x : X) → k < n → x ≡ make k → all ++ map make (numbers_from k (n - k)) ≡ whole → (all ++ x ∷ []) ++ map make (numbers_from (k + 1) (n - (k + 1))) ≡ whole
all_dealt make k n all whole x range is so_far =
    let rest : List _ = map make (numbers_from (k + 1) (n - (k + 1))) in
    append_assoc all (x ∷ []) rest ∙ ap (λ y. all ++ y ∷ rest) is ∙ ap (λ (ns : List ℕ). all ++ map make ns) (sym (numbers_next k n range)) ∙ so_far

pub dealt_all : {X : Type 0} (make : ℕ → X) (k n : ℕ) (all whole : List X) → n ≤ k → all ++ map make (numbers_from k (n - k)) ≡ whole → all ≡ whole
dealt_all make k n all whole done so_far =
    let none : n - k ≡ 0 = omega arith in
    sym (append-nil all) ∙ ap (λ (m : ℕ). all ++ map make (numbers_from k m)) (sym none) ∙ so_far

-- a fresh pass of a funnel has no answers, and makes no call
no_calls : (t : TableView) (number : ℕ) → calls_in (funnels.fresh t number).seen ≡ []
no_calls t number = ap (λ (s : State). history_in t.start s) (glances_run t.start (opened t.start) (t.start.shape.passes - 1))

no_answers : (t : TableView) (number : ℕ) → own_answers (funnels.fresh t number) ≡ []
no_answers t number = ap (λ (calls : List Call). answers_of number (answered t.start.cap t.start.opening calls)) (no_calls t number)

no_tickets : (answers : List Answered) → answers ≡ [] → AreTickets answers []
no_tickets answers none = subst (λ (xs : List Answered). AreTickets xs []) (sym none) (record { ones = All-nil AddsOne; met = refl })

-- a fresh pass keeps what holds of each pass
pub kept_fresh : {T : Type 0} (q : QueueView) (count : ℕ) → OpensWith q q.cells.start.capacity count → AreSizes q.cells.start → (number : ℕ) → Keeps (fresh {T = T} q number)
kept_fresh q count opens sizes number =
    let same : count ≡ q.cells.start.seats = ap (λ (s : cell.Start). s.seats) (sym opens.cells) in
    let idle : (t : TableView) → IsIdle (funnels.fresh t number).seen number = λ t. glances_idle t.start number (t.start.shape.passes - 1) in
    record {
      sizes = sizes;
      numbers = (refl, refl, refl, refl);
      begin = subst (λ (n : ℕ). AllBegin q.cells.start.capacity n (λ w. (pick w q.funnels).start)) same opens.funnels;
      idle = (idle q.funnels.tail, idle q.funnels.head, idle q.funnels.free, idle q.funnels.items);
      tail = no_tickets (own_answers (funnels.fresh q.funnels.tail number)) (no_answers q.funnels.tail number);
      head = no_tickets (own_answers (funnels.fresh q.funnels.head number)) (no_answers q.funnels.head number);
      free = (ap lowered (no_answers q.funnels.free number), ap raised (no_answers q.funnels.free number));
      items = (ap raised (no_answers q.funnels.items number), ap lowered (no_answers q.funnels.items number));
    }

-- .. also where its parts are given one by one
pub kept_dealt : {T : Type 0} (q : QueueView) (count : ℕ) → OpensWith q q.cells.start.capacity count → AreSizes q.cells.start → (number : ℕ) → (seat : seats.SeatView T) (passes : Four PassView)
    → seat ≡ seats.fresh q.cells number → AllFour (λ w. pick w passes ≡ funnels.fresh (pick w q.funnels) number)
    → (let p : CallerView T = record { seat = seat; passes = passes } in (p ≡ fresh q number) × Keeps p)
kept_dealt {T} q count opens sizes number seat passes s each =
    let p : CallerView T = record { seat = seat; passes = passes } in
    let all : passes ≡ map_four (λ t. funnels.fresh t number) q.funnels = same_four passes (map_four (λ t. funnels.fresh t number) q.funnels) each in
    let is : p ≡ fresh q number = λ j. record { seat = s j; passes = all j } in
    (is, subst Keeps (sym is) (kept_fresh q count opens sizes number))

-- the passes have their whole allowances
whole_one : (t : TableView) (n first k : ℕ) → Begins n first t.start → k < n → funnels.IsWhole (funnels.fresh t k) → left (funnels.fresh t k) ≡ allowance
whole_one t n first k b range whole = whole.1 ∙ ap (λ (xs : List ℕ). get_or xs k 0) b.allowances ∙ get_or-replicate n k allowance 0 range

-- the passes of each funnel from a number on have their whole allowances
abbrev AreWhole : QueueView → ℕ → ℕ → Which → Type 0
AreWhole q k m w = All funnels.IsWhole (map (funnels.fresh (pick w q.funnels)) (numbers_from k m))

module _ (q : QueueView) (capacity n : ℕ) (b : AllBegin capacity n (λ w. (pick w q.funnels).start)) where
  begin_of : (w : Which) → Begins n (first_of capacity w) (pick w q.funnels).start
  begin_of = each_of (λ w. Begins n (first_of capacity w) (pick w q.funnels).start) b

  one_whole : (k m : ℕ) → k < n → ((w : Which) → AreWhole q k (suc m) w) → (w : Which) → left (funnels.fresh (pick w q.funnels) k) ≡ allowance
  one_whole k m range all w =
      whole_one (pick w q.funnels) n (first_of capacity w) k (begin_of w) range (All-head funnels.IsWhole (funnels.fresh (pick w q.funnels) k) (map (funnels.fresh (pick w q.funnels)) (numbers_from (suc k) m)) (all w))

  whole_from : {T : Type 0} (k m : ℕ) → k + m ≡ n → ((w : Which) → AreWhole q k m w) → All IsWhole (map (fresh {T = T} q) (numbers_from k m))
  whole_from k zero size all = All-nil IsWhole
  whole_from k (suc m) size all =
      let here : (w : Which) → left (funnels.fresh (pick w q.funnels) k) ≡ allowance = one_whole k m (omega arith) all in
      All-cons IsWhole (fresh q k) (map (fresh q) (numbers_from (suc k) m))
      (here Tail, here Head, here Free, here Items)
      (whole_from (suc k) m (omega arith) (λ w. All-tail funnels.IsWhole (funnels.fresh (pick w q.funnels) k) (map (funnels.fresh (pick w q.funnels)) (numbers_from (suc k) m)) (all w)))

-- how many passes a funnel has
pub passes_of : (t : TableView) (n first : ℕ) → Begins n first t.start → t.start.shape.passes ≡ n
passes_of t n first b = b.shape.0

pub seats_are : (q : QueueView) (capacity n : ℕ) → OpensWith q capacity n → q.cells.start.seats ≡ n
seats_are q capacity n opens = ap (λ (s : cell.Start). s.seats) opens.cells

-- what opens with whole passes has whole passes
pub whole_all : {T : Type 0} (q : QueueView) (capacity count : ℕ) → OpensWith q capacity count → (parts : Which → List PassView) → AllFour (λ w. funnels.AreOpened (pick w q.funnels) (parts w)) → (all : List (CallerView T)) → all ≡ fresh_passes q → All IsWhole all
whole_all {T} q capacity count opens parts opened_all all is =
    let W : PassView → Type 0 = funnels.IsWhole in
    let begins : (w : Which) → Begins count (first_of capacity w) (pick w q.funnels).start = each_of (λ w. Begins count (first_of capacity w) (pick w q.funnels).start) opens.funnels in
    let here : (w : Which) → AreWhole q 0 count w =
    λ w. let o : funnels.AreOpened (pick w q.funnels) (parts w) = each_of (λ v. funnels.AreOpened (pick v q.funnels) (parts v)) opened_all w in
    subst (λ (n : ℕ). All W (map (funnels.fresh (pick w q.funnels)) (upto n))) (passes_of (pick w q.funnels) count (first_of capacity w) (begins w)) (subst (All W) o.fresh o.idle) in
    let whole : All IsWhole (map (fresh {T = T} q) (numbers_from 0 count)) = whole_from q capacity count opens.funnels 0 count (omega arith) here in
    subst (All IsWhole) (sym (is ∙ ap (λ (s : cell.Start). map (fresh {T = T} q) (upto s.seats)) opens.cells)) whole
