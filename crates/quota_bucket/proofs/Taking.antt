-- A take is its claim, its refill and its subtraction.
use Rattle.std.proofs.Common.{◌≡◌, ℕ, zero, suc, ◌+◌, ◌-◌, ◌/◌, ◌*◌, ◌<◌, ◌≤◌, ◌==◌, List, [], ◌∷◌, ◌++◌, length, min, Option, Some, refl, sym, ap, ◌∙◌, subst, append_assoc, arith, eq-eqb, mul-pos}
use Rattle.std.proofs.lemmas.List.{length-append}
use Rattle.std.proofs.lemmas.List.Elements.{filter-append}
use mathlib.Core.List.{IsPrefix}
use Rattle.fn_model.specs.declared.Call.{Call}
use Rattle.fn_model.specs.declared.Kind.TheVariants.{Add, Sub}
use Rattle.fn_model.specs.Calls.{place}
use Rattle.fn_model.specs.Integer.{Meets}
use Rattle.fn_core.specs.declared.Start.{Start}
use Rattle.fn_table.specs.Seen.{PassView}
use Rattle.fn_funnel.specs.declared.waiting.Added.{Added}
use Rattle.fn_funnel.specs.Waiting.{Waited}
use Rattle.fn_table.specs.Claims.{past, mine, left, Rests, next_of, Made}
use Rattle.tick_table.specs.declared.entry.Entry.{Entry}
use Rattle.tick_table.specs.Seen.{TicksView, SeatView, IsOf, Claimed, entries_of, entry}
use Rattle.tick_table.proofs.Claims.{between_length}
use Rattle.quota_bucket.specs.Seen.{BucketView, DeskView, Belongs, burst}
use Rattle.quota_bucket.specs.Places.{pass_in}
use Rattle.quota_bucket.specs.Refill.{refill}
use Rattle.quota_bucket.specs.Taking.{tokens, Refills, RefillsBy, Takes, TakesBy, taking, take_calls}
use Rattle.quota_bucket.proofs.Additions.{is_additions}

-- a refill of some ticks adds at least one token
pub some_tokens : (most rate ticks : ℕ) → 1 ≤ most → 1 ≤ rate → 0 < ticks → 1 ≤ refill most rate ticks
some_tokens most rate ticks some_burst some_rate some_ticks = let some : 0 < rate * ticks = mul-pos some_rate some_ticks in omega arith

prefix_trans : (xs ys zs : List Call) → IsPrefix xs ys → IsPrefix ys zs → IsPrefix xs zs
prefix_trans xs ys zs first second = (first.0 ++ second.0, sym (append_assoc xs first.0 second.0) ∙ ap (λ (l : List Call). l ++ second.0) first.1 ∙ second.1)

prefix_shorter : (xs ys : List Call) → IsPrefix xs ys → length xs ≤ length ys
prefix_shorter xs ys begins = let size : length ys ≡ length xs + length begins.0 = sym (ap length begins.1) ∙ length-append xs begins.0 in omega arith

-- the pass after a refill: the same one, with no call underway, and with less left by the burst at most
pub record Refilled (b : BucketView) (p r : PassView) : Type 0 where
  pub same : (r.table ≡ p.table) × (r.number ≡ p.number) × (r.seen.start ≡ p.seen.start)
  pub rests : Rests r
  pub left : left p ≤ left r + burst b

pub after_refill : (b : BucketView) (p r : PassView) (ticks : ℕ) → Rests p → Refills b p ticks r → Refilled b p r
after_refill b p r zero rests is = subst (Refilled b p) (sym is) (record { same = (refl, refl, refl); rests = rests; left = omega arith })
after_refill b p r (suc ticks) rests (before, made) = let spent = made.spent in record { same = made.same; rests = made.rests; left = omega arith }

-- what the two calls of a take come to
record Came (b : BucketView) (p : PassView) (ticks amount before : ℕ) (q : PassView) : Type 0 where
  pub same : (q.table ≡ p.table) × (q.number ≡ p.number) × (q.seen.start ≡ p.seen.start)
  pub goes_on : IsPrefix (past p) (past q)
  pub mine_now : mine q ≡ mine p ++ take_calls b p ticks amount
  pub behind : (at : ℕ) → place p.number (taking p ticks amount).number (past q) ≡ Some at → length (past p) ≤ at
  pub met : Meets p.seen.start.cap p.seen.start.opening (past q) (taking p ticks amount) before
  pub spent : left q + (tokens b ticks + amount) ≡ left p
  pub rests : Rests q

-- a subtraction alone
came_alone : (b : BucketView) (p q : PassView) (amount before : ℕ) → Made p Sub amount before q → Came b p zero amount before q
came_alone b p q amount before made =
    let spent = made.spent in
    let nothing : b.rate * 0 ≡ 0 = omega arith in
    record { same = made.same; goes_on = made.goes_on; mine_now = made.mine_now; behind = made.behind; met = made.met; spent = omega arith; rests = made.rests }

-- .. and behind a refill
module _ (b : BucketView) (p r q : PassView) (ticks amount added before : ℕ) (first : Made p Add (tokens b (suc ticks)) added r) (second : Made r Sub amount before q) where
  one_more : length (mine r) ≡ suc (length (mine p))
  one_more = let size : length (mine r) ≡ length (mine p) + 1 = ap length first.mine_now ∙ length-append (mine p) (next_of p Add (tokens b (suc ticks)) ∷ []) in omega arith

  call_is : next_of r Sub amount ≡ taking p (suc ticks) amount
  call_is = λ i. record { pass = first.same.1 i; number = one_more i; kind = Sub; amount = amount }

  came_behind : Came b p (suc ticks) amount before q
  came_behind = record {
    same = (second.same.0 ∙ first.same.0, second.same.1 ∙ first.same.1, second.same.2 ∙ first.same.2);
    goes_on = prefix_trans (past p) (past r) (past q) first.goes_on second.goes_on;
    mine_now = second.mine_now ∙ (λ i. first.mine_now i ++ call_is i ∷ []) ∙ append_assoc (mine p) (next_of p Add (tokens b (suc ticks)) ∷ []) (taking p (suc ticks) amount ∷ []);
    behind = λ at stands.
        (let far = second.behind at ((λ i. place (first.same.1 i) (one_more i) (past q)) ∙ stands) in
        let longer = prefix_shorter (past p) (past r) first.goes_on in omega arith);
    met = subst (λ (call : Call). Meets p.seen.start.cap p.seen.start.opening (past q) call before) call_is
        (subst (λ (s : Start). Meets s.cap s.opening (past q) (next_of r Sub amount) before) first.same.2 second.met);
    spent = (let s = first.spent in let t = second.spent in omega arith);
    rests = second.rests;
  }

came : (b : BucketView) (p r q : PassView) (ticks amount before : ℕ) → Refills b p ticks r → Made r Sub amount before q → Came b p ticks amount before q
came b p r q zero amount before is made = came_alone b p q amount before (subst (λ (v : PassView). Made v Sub amount before q) is made)
came b p r q (suc ticks) amount before (added, first) second = came_behind b p r q ticks amount added before first second

-- a claim leaves the seat the same
pub claim_same : (t : TicksView) (p q : SeatView) (tick found : ℕ) → Claimed p tick found q → IsOf t p → IsOf t q × (q.number ≡ p.number)
claim_same t p q tick found c of = ((ap (λ (s : SeatView). s.table) c.now ∙ of.0, ap (λ (s : SeatView). s.start) c.now ∙ of.1), ap (λ (s : SeatView). s.number) c.now)

last_kept : (n tick : ℕ) → entries_of n (entry n tick ∷ []) ≡ entry n tick ∷ []
last_kept n tick = let e = eq-eqb n n refl in rw e refl

-- .. and enters exactly one entry
claim_enters : (p q : SeatView) (tick found : ℕ) → Claimed p tick found q → entries_of p.number q.log ≡ entries_of p.number p.log ++ entry p.number tick ∷ []
claim_enters p q tick found c =
    ap (λ (s : SeatView). entries_of p.number s.log) c.now ∙ filter-append (λ (e : Entry). e.desk == p.number) c.before (entry p.number tick ∷ []) ∙ (λ i. c.own i ++ last_kept p.number tick i)

-- what was added is a refill of some ticks
pub refills_some : (b : BucketView) (p q : PassView) (ticks n before : ℕ) → 0 < ticks → n ≡ tokens b ticks → Made p Add n before q → Refills b p ticks q
refills_some b p q zero n before some is made = absurd (omega arith)
refills_some b p q (suc ticks) n before some is made = (before, subst (λ (k : ℕ). Made p Add k before q) is made)

pub refills_some_by : (b : BucketView) (p q : PassView) (ticks n : ℕ) (added : Added) → 0 < ticks → n ≡ tokens b ticks → Waited p Add n added q → RefillsBy b p ticks q
refills_some_by b p q zero n added some is waited = absurd (omega arith)
refills_some_by b p q (suc ticks) n added some is waited = (added, subst (λ (k : ℕ). Waited p Add k added q) is waited)

-- the desk as its fields have it
abbrev pub desk : SeatView → Option PassView → DeskView
desk seat place = record { pass = pass_in seat place; seat = seat }

-- what the steps of a take come to
module _ (b : BucketView) (p : DeskView) (seat' : SeatView) (now amount found refilled before moved : ℕ) (r q : PassView)
    (belongs : Belongs b p) (claimed : Claimed p.seat (now / b.period) found seat') (counted : refilled ≡ now / b.period - found)
    (refills : Refills b p.pass refilled r) (took : Made r Sub amount before q) (moves : moved ≡ min amount before) where
  calls : Came b p.pass refilled amount before q
  calls = came b p.pass r q refilled amount before refills took

  seat_same : IsOf b.ticks seat' × (seat'.number ≡ p.seat.number)
  seat_same = claim_same b.ticks p.seat seat' (now / b.period) found claimed belongs.seat

  pub takes : Takes b p now amount (record { refilled = refilled; before = before; moved = moved }) (record { pass = q; seat = seat' })
  takes = record {
    last = found;
    claimed = claimed;
    entries = claim_enters p.seat seat' (now / b.period) found claimed;
    refilled = counted ∙ sym (between_length found (now / b.period));
    goes_on = calls.goes_on;
    mine_now = calls.mine_now;
    by_ticks = λ pass number v within. is_additions (burst b) v pass number b.rate refilled within;
    behind = calls.behind;
    met = subst (λ (s : Start). Meets s.cap s.opening (past q) (taking p.pass refilled amount) before) belongs.pass.1 calls.met;
    moved = moves;
    spent = calls.spent;
    together = record {
      pass = (calls.same.0 ∙ belongs.pass.0, calls.same.2 ∙ belongs.pass.1);
      seat = seat_same.0;
      number = calls.same.1 ∙ belongs.number ∙ sym seat_same.1;
      rests = calls.rests;
    };
  }

-- .. of a desk and a bucket as their views have them
pub takes_of : (b own : BucketView) (p : DeskView) (place : Option PassView) (seat seat' : SeatView) (now amount found refilled moved : ℕ) (pass r q : PassView) (added : Added)
    → own ≡ b → desk seat place ≡ p → place ≡ Some pass → Belongs b p → Claimed seat (now / own.period) found seat' → refilled ≡ now / own.period - found → Refills b pass refilled r → Made r Sub amount added.before q
    → moved ≡ min amount added.before → Takes b p now amount (record { refilled = refilled; before = added.before; moved = moved }) (record { pass = q; seat = seat' })
takes_of b own p place seat seat' now amount found refilled moved pass r q added is view there belongs claimed counted refills took moves =
    let period : own.period ≡ b.period = ap (λ (x : BucketView). x.period) is in
    let here : desk seat (Some pass) ≡ p = sym (ap (desk seat) there) ∙ view in
    subst (λ (d : DeskView). Takes b d now amount (record { refilled = refilled; before = added.before; moved = moved }) (record { pass = q; seat = seat' })) here
    (takes b (desk seat (Some pass)) seat' now amount found refilled added.before moved r q (subst (Belongs b) (sym here) belongs) (subst (λ (n : ℕ). Claimed seat (now / n) found seat') period claimed)
    (counted ∙ ap (λ (n : ℕ). now / n - found) period) refills took moves)

pub takes_by_of : (b : BucketView) (p : DeskView) (place : Option PassView) (seat seat' : SeatView) (amount refilled moved : ℕ) (pass r q : PassView) (added : Added)
    → desk seat place ≡ p → place ≡ Some pass → RefillsBy b pass refilled r → Waited r Sub amount added q
    → TakesBy b p amount (record { refilled = refilled; before = added.before; moved = moved }) (record { pass = q; seat = seat' })
takes_by_of b p place seat seat' amount refilled moved pass r q added view there refills took =
    let here : desk seat (Some pass) ≡ p = sym (ap (desk seat) there) ∙ view in
    subst (λ (d : DeskView). TakesBy b d amount (record { refilled = refilled; before = added.before; moved = moved }) (record { pass = q; seat = seat' })) here
    (record { between = r; refills = refills; way = added.way; took = took })
