-- A bucket that has opened for lines, and its workers before and after their work.
use Rattle.std.proofs.Common.{◌≡◌, ◌+◌, ◌<◌, ◌≤◌, ◌==◌, ℕ, zero, suc, List, length, map, get_or, refl, sym, ap, ◌∙◌, subst, arith}
use Rattle.std.proofs.lemmas.List.{length-map, get_or-map}
use Rattle.std.proofs.lemmas.List.Elements.{All-filter}
use Rattle.std.specs.List.{All, sum_by}
use Rattle.running.specs.Running.{numbers_from}
use Rattle.fn_core.specs.declared.Start.{Start}
use Rattle.fn_table.specs.Claims.{left}
use Rattle.quota_bucket.specs.Seen.{BucketView, DeskView, burst}
use Rattle.quota_bucket.specs.Opened.{OpensWith, fresh_desk, fresh_desks, IsNew}
use Rattle.tick_table.specs.declared.entry.Start.{Start as Ticks}
use Rattle.throttle_run.specs.declared.lines.ThrottleLine.{ThrottleLine}
use Rattle.throttle_run.specs.declared.throttling.Setting.{Setting}
use Rattle.throttle_run.specs.declared.workers.Worker.{Worker}
use Rattle.throttle_run.specs.Lines.{cost, AreSound}
use Rattle.throttle_run.specs.Throttled.{lines_of}
use Rattle.throttle_run.specs.Work.{lines_in, desks_in, Each, IsDealt, MayWork, Worked, IsReady, IsDone}

-- the desk of a number
fresh_at : (b : BucketView) (k n w : ℕ) (d : DeskView) → w < n → get_or (map (fresh_desk b) (numbers_from k n)) w d ≡ fresh_desk b (k + w)
fresh_at b k zero w d below = absurd (omega arith)
fresh_at b k (suc n) zero d below = ap (fresh_desk b) (let e : k ≡ k + 0 = omega arith in e)
fresh_at b k (suc n) (suc w) d below = fresh_at b (suc k) n w d (omega (arith, below)) ∙ ap (fresh_desk b) (let e : suc k + w ≡ k + suc w = omega arith in e)

length_fresh : (b : BucketView) (k n : ℕ) → length (map (fresh_desk b) (numbers_from k n)) ≡ n
length_fresh b k zero = refl
length_fresh b k (suc n) = ap suc (length_fresh b (suc k) n)

module _ (s : Setting) (lines : List ThrottleLine) (sound : AreSound s.workers s.burst lines) (allowed : List ℕ) (count : length allowed ≡ s.workers) (each : (w : ℕ) → w < s.workers → get_or allowed w 0 ≡ sum_by (cost s.burst) (lines_of w lines))
    (b : BucketView) (opens : OpensWith s.burst s.burst s.rate s.period 0 allowed b) (desks : List DeskView) (fresh : desks ≡ fresh_desks b) (new : All (IsNew b) desks) where
  desks_count : b.ticks.start.desks ≡ s.workers
  desks_count = ap (λ (s : Ticks). s.desks) opens.has_ticks ∙ count

  pub count_desks : length desks ≡ s.workers
  count_desks = ap length fresh ∙ length_fresh b 0 b.ticks.start.desks ∙ desks_count

  pub lines_there : All (λ (line : ThrottleLine). line.worker < length desks) lines
  lines_there = subst (λ (n : ℕ). All (λ (line : ThrottleLine). line.worker < n) lines) (sym count_desks) sound.workers_are

  module _ (all : List Worker) (have : desks_in all ≡ desks) (dealt : Each (IsDealt lines) all) where
    pub count_workers : length all ≡ s.workers
    count_workers = sym (length-map all (λ (x : Worker). x.desk)) ∙ ap length have ∙ count_desks

    pub ready : Each (IsReady b lines) all
    ready w d below =
        let x : Worker = get_or all w d in
        let inside : w < s.workers = omega (arith, below, count_workers) in
        let at : get_or desks w d.desk ≡ x.desk = ap (λ (ds : List DeskView). get_or ds w d.desk) (sym have) ∙ get_or-map (λ (y : Worker). y.desk) all w d d.desk below in
        let is : x.desk ≡ fresh_desk b w = sym at ∙ ap (λ (ds : List DeskView). get_or ds w d.desk) fresh ∙ fresh_at b 0 b.ticks.start.desks w d.desk (omega (arith, inside, desks_count)) ∙ ap (fresh_desk b) (let e : 0 + w ≡ w = omega arith in e) in
        let number : x.desk.seat.number ≡ w = ap (λ (y : DeskView). y.seat.number) is in
        let one : IsNew b x.desk = subst (IsNew b) at (new w d.desk (omega (arith, inside, count_desks))) in
        let whole : left x.desk.pass ≡ get_or x.desk.pass.seen.start.allowances x.desk.pass.number 0 = one.whole.1 in
        let allowance : left x.desk.pass ≡ get_or allowed w 0 =
        whole ∙ (λ i. get_or ((ap (λ (s : Start). s.allowances) one.together.pass.1 ∙ opens.has_allowances) i) ((one.together.number ∙ number) i) 0) in
        let enough : left x.desk.pass ≡ sum_by (cost (burst b)) (lines_in x.jobs) =
        allowance ∙ each w inside ∙ (λ i. sum_by (cost (sym opens.has_burst i)) (sym (dealt w d below) i)) in
        record {
          number = number;
          new = one;
          dealt = dealt w d below;
          may = record {
            together = one.together;
            amounts = subst (All (λ (l : ThrottleLine). 1 ≤ l.amount)) (sym (dealt w d below)) (All-filter (λ (l : ThrottleLine). l.worker == w) (λ (l : ThrottleLine). 1 ≤ l.amount) lines sound.amounts);
            left = omega (arith, enough);
          };
        }

-- workers that are ready may work
pub may_work : (b : BucketView) (lines : List ThrottleLine) (all : List Worker) → Each (IsReady b lines) all → All (MayWork b) all
may_work b lines all ready = λ w d below. (ready w d below).may

-- .. and have then done their work
pub have_done : (b : BucketView) (lines : List ThrottleLine) (old new : List Worker) → Each (IsReady b lines) old → length new ≡ length old → ((w : ℕ) (d : Worker) → w < length old → Worked b (get_or old w d) (get_or new w d)) → Each (IsDone b lines) new
have_done b lines old new ready size worked w d below =
    let inside : w < length old = omega (arith, below, size) in
    let one = ready w d inside in
    let by = worked w d inside in
    record { first = (get_or old w d).desk; number = one.number; new = one.new; dealt = by.lines ∙ one.dealt; ran = by.ran }
