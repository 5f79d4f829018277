-- The lanes of a script's lines, from the opening of its table to its book.
use Rattle.std.proofs.Common.{◌≡◌, inl, inr, ◌+◌, ◌<◌, ◌≤◌, ℕ, zero, suc, List, [], ◌∷◌, ◌++◌, Option, Some, None, Result, Ok, Err, Vec, IfOk, IfSome, IsSomeAnd, length, map, take, drop, slice_get, get_or, codes, decimal, refl, sym, ap, ◌∙◌, subst, arith}
use Rattle.std.proofs.lemmas.Bool.{cases_lt}
use Rattle.std.proofs.lemmas.List.{length-map}
use Rattle.std.proofs.lemmas.List.Elements.{All-cons, All-map}
use Rattle.std.proofs.lemmas.List.FromFn.{get_or-map-range_with_len}
use Rattle.std.proofs.lemmas.Option.{slice_get-map, slice_get_within, get_or_from_slice_get}
use Rattle.std.specs.List.{All}
use Rattle.std.specs.Option.{option_map}
use Rattle.std.specs.declared.alloc.Global.{Global}
use mathlib.Core.List.{IsPrefix}
use Rattle.running.specs.Running.{numbers_from}
use Rattle.running.proofs.Logs.{prefix_more}
use Rattle.fn_model.specs.Calls.{own}
use Rattle.fn_model.specs.Integer.{value, Meets}
use Rattle.fn_core.specs.declared.Event.{Event}
use Rattle.fn_core.specs.declared.Start.{Start}
use Rattle.fn_core.specs.declared.Move.TheVariants.{Glance}
use Rattle.fn_core.specs.Machine.{no_cap}
use Rattle.fn_core.specs.Calls.{CoreLog, calls_in, IsIdle}
use Rattle.fn_core.proofs.Public.{histories_go_on}
use Rattle.fn_table.specs.Seen.{TableView, PassView, IsClosed, IsOf, AreAll, event, fresh, fresh_passes}
use Rattle.fn_table.specs.Claims.{past, Rests}
use Rattle.script_text.specs.Sound.{IsSound, HasPasses, allowance}
use Rattle.script_text.specs.declared.scripts.Script.{Script}
use Rattle.script_text.specs.declared.scripts.ScriptLine.{ScriptLine}
use Rattle.fn_rounds.specs.declared.lanes.Lane.{Lane}
use Rattle.fn_rounds.specs.declared.lanes.LaneDone.{LaneDone}
use Rattle.fn_rounds.specs.Views.{LaneView}
use Rattle.fn_rounds.specs.InOrder.{numbered, MadeInOrder}
use Rattle.fn_rounds.specs.Lanes.{MayMakeAll}
use Rattle.fn_rounds.specs.Rounds.{AreStarted, AreAllInOrder}
use Rattle.fn_rounds.specs.Script.{order_of, orders_of, call_after, reply_lines, IsChangeOrder, AreTold, TellsRounds, IsBookOf}
use Rattle.fn_rounds.specs.Dealing.{OpensFor, lane_for, lanes_for, AreDone, answers_of, replies_of}
use Rattle.fn_rounds.proofs.LineOrders.{no_orders, each_order, asked_within, orders_split}
use Rattle.fn_rounds.proofs.Gathered.{answer_at}
use Rattle.fn_table.proofs.Books.{none_outside}
use Rattle.fn_rounds.proofs.InBook.{fresh_rests, fresh_left, its_calls, as_many, its_reply}

-- lanes that had made no call have made all
have_made : (lanes : List Lane) (views : List LaneView) (dones : List LaneDone) → AreStarted lanes views → AreAllInOrder views dones → AreDone lanes dones
have_made [] [] [] started made = tt
have_made [] [] (done ∷ dones) started made = absurd made
have_made [] (view ∷ views) dones started made = absurd started
have_made (lane ∷ lanes) [] dones started made = absurd started
have_made (lane ∷ lanes) (view ∷ views) [] started made = absurd made
have_made (lane ∷ lanes) (view ∷ views) (done ∷ dones) started made =
    (subst (λ (v : LaneView). MadeInOrder v.given v.orders done.replies done.pass) started.0 made.0, have_made lanes views dones started.1 made.1)

-- .. where a future of them ended
pub all_have_made : {E : Type 0} (lanes : List Lane) (o : Option (List LaneView)) (r : Result (Vec LaneDone Global) E) → IsSomeAnd o (AreStarted lanes) → IfOk r (λ dones. IfSome o (λ views. AreAllInOrder views dones.items)) → IfOk r (λ dones. AreDone lanes dones.items)
all_have_made lanes None r started made = absurd started
all_have_made lanes (Some views) (Ok dones) started made = have_made lanes views dones.items started made
all_have_made lanes (Some views) (Err e) started made = tt

-- what holds of each pass by its number holds of all
all_fresh : (P : PassView → Type 0) (t : TableView) (from n : ℕ) → ((k : ℕ) → from ≤ k → k < from + n → P (fresh t k)) → All P (map (fresh t) (numbers_from from n))
all_fresh P t from zero holds = λ k d below. absurd (omega arith)
all_fresh P t from (suc n) holds = All-cons P (fresh t from) (map (fresh t) (numbers_from (suc from) n)) (holds from (omega arith) (omega arith)) (all_fresh P t (suc from) n (λ k least most. holds k (omega (arith, least)) (omega (arith, most))))

pub all_lanes : (P : Lane → Type 0) (t : TableView) (lines : List ScriptLine) → ((k : ℕ) → k < t.start.shape.passes → P (lane_for lines (fresh t k))) → All P (lanes_for lines (fresh_passes t))
all_lanes P t lines holds = All-map P (lane_for lines) (fresh_passes t) (all_fresh (λ (p : PassView). P (lane_for lines p)) t 0 t.start.shape.passes (λ k least most. holds k (omega (arith, most))))

pub length_fresh : (t : TableView) (from n : ℕ) → length (map (fresh t) (numbers_from from n)) ≡ n
length_fresh t from zero = refl
length_fresh t from (suc n) = ap suc (length_fresh t (suc from) n)

-- the passes of lines are there
pub lines_inside : (passes : ℕ) (lines : List ScriptLine) → All (HasPasses passes) lines → (m : ℕ) → m ≡ passes → (ls : List ScriptLine) → ls ≡ lines → All (λ (line : ScriptLine). line.pass < m) ls
lines_inside passes lines all m same ls are = subst (All (λ (line : ScriptLine). line.pass < m)) (sym are) (λ k d below. let there = (all k d below).0 in omega (arith, there, same))

-- the table of a script, and the lanes of its lines before their calls
module _ (script : Script) (t : TableView) (sound : IsSound script) (opens : OpensFor script t) where
  abbrev lines : List ScriptLine
  lines = script.lines

  count : t.start.shape.passes ≡ script.shape.passes
  count = ap (λ (s : Start). s.shape.passes) opens

  allowed : (k : ℕ) → k < t.start.shape.passes → get_or t.start.allowances k 0 ≡ allowance lines k
  allowed k inside = ap (λ (s : Start). get_or s.allowances k 0) opens ∙ get_or-map-range_with_len (allowance lines) 0 script.shape.passes k k 0 (omega (arith, inside, count)) (omega arith)

  pub lanes_together : (lanes : List Lane) → lanes ≡ lanes_for lines (fresh_passes t) → All (λ (lane : Lane). IsOf t lane.pass) lanes
  lanes_together lanes are = subst (All (λ (lane : Lane). IsOf t lane.pass)) (sym are) (all_lanes (λ (lane : Lane). IsOf t lane.pass) t lines (λ k inside. (refl, refl)))

  pub lanes_idle : (lanes : List Lane) → lanes ≡ lanes_for lines (fresh_passes t) → All (λ (lane : Lane). Rests lane.pass) lanes
  lanes_idle lanes are = subst (All (λ (lane : Lane). Rests lane.pass)) (sym are) (all_lanes (λ (lane : Lane). Rests lane.pass) t lines (λ k inside. fresh_rests t k))

  pub lanes_may : All (λ (line : ScriptLine). IsChangeOrder line.order) lines → (lanes : List Lane) → lanes ≡ lanes_for lines (fresh_passes t) → All (λ (lane : Lane). MayMakeAll lane.pass lane.orders) lanes
  lanes_may changes lanes are = subst (All (λ (lane : Lane). MayMakeAll lane.pass lane.orders)) (sym are) (all_lanes (λ (lane : Lane). MayMakeAll lane.pass lane.orders) t lines (λ k inside. record {
    each = each_order k lines changes sound.amounts;
    enough = omega (arith, asked_within k lines, fresh_left t k, allowed k inside);
  }))

  -- .. and after them
  module _ (dones : List LaneDone) (made : AreDone (lanes_for lines (fresh_passes t)) dones) where
    abbrev n : ℕ
    n = t.start.shape.passes

    abbrev MadeBy : ℕ → LaneDone → Type 0
    MadeBy k done = MadeInOrder (fresh t k) (orders_of k lines) done.replies done.pass

    made_at : (from m : ℕ) (ds : List LaneDone) → AreDone (lanes_for lines (map (fresh t) (numbers_from from m))) ds → (k : ℕ) → k < m → (done : LaneDone) × (slice_get ds k ≡ Some done) × MadeBy (from + k) done
    made_at from zero ds have k below = absurd (omega arith)
    made_at from (suc m) [] have k below = absurd have
    made_at from (suc m) (done ∷ ds) have zero below = (done, refl, subst (λ (j : ℕ). MadeBy j done) (let e : from ≡ from + 0 = omega arith in e) have.0)
    made_at from (suc m) (done ∷ ds) have (suc k) below =
        let rest = made_at (suc from) m ds have.1 k (omega (arith, below)) in
        (rest.0, rest.1, subst (λ (j : ℕ). MadeBy j rest.0) (let e : suc from + k ≡ from + suc k = omega arith in e) rest.2)

    pub done_at : (k : ℕ) → k < n → (done : LaneDone) × (slice_get dones k ≡ Some done) × MadeBy k done
    done_at k below = let at = made_at 0 n dones made k below in (at.0, at.1, subst (λ (j : ℕ). MadeBy j at.0) (let e : 0 + k ≡ k = omega arith in e) at.2)

    length_made : (from m : ℕ) (ds : List LaneDone) → AreDone (lanes_for lines (map (fresh t) (numbers_from from m))) ds → length ds ≡ m
    length_made from zero [] have = refl
    length_made from zero (done ∷ ds) have = absurd have
    length_made from (suc m) [] have = absurd have
    length_made from (suc m) (done ∷ ds) have = ap suc (length_made (suc from) m ds have.1)

    pub one_each : length dones ≡ n
    one_each = length_made 0 n dones made

    abbrev pass_of : LaneDone → PassView
    pass_of done = done.pass

    abbrev pub passes : List PassView
    passes = map pass_of dones

    pass_at : (k : ℕ) (done : LaneDone) → slice_get dones k ≡ Some done → slice_get passes k ≡ Some done.pass
    pass_at k done at = slice_get-map pass_of dones k ∙ ap (λ (o : Option LaneDone). option_map pass_of o) at

    all_passes : (P : PassView → Type 0) → ((k : ℕ) (done : LaneDone) → MadeBy k done → P done.pass) → All P passes
    all_passes P holds k d below =
        let at = done_at k (omega (arith, below, length-map dones pass_of, one_each)) in
        subst P (sym (get_or_from_slice_get passes k at.0.pass d (pass_at k at.0 at.1))) (holds k at.0 at.2)

    -- the passes may close the table
    pub closes_together : All (IsOf t) passes
    closes_together = all_passes (IsOf t) (λ k done by. (by.same.0, by.same.2))

    numbers_made : (from m : ℕ) (ds : List LaneDone) → AreDone (lanes_for lines (map (fresh t) (numbers_from from m))) ds → map (λ (p : PassView). p.number) (map pass_of ds) ≡ numbers_from from m
    numbers_made from zero [] have = refl
    numbers_made from zero (done ∷ ds) have = absurd have
    numbers_made from (suc m) [] have = absurd have
    numbers_made from (suc m) (done ∷ ds) have =
        let first : done.pass.number ≡ from = have.0.same.1 in
        let rest = numbers_made (suc from) m ds have.1 in
        λ i. first i ∷ rest i

    pub closes_all : AreAll t passes
    closes_all = numbers_made 0 n dones made

    pub closes_idle : All (λ (p : PassView). IsIdle p.seen p.number) passes
    closes_idle = all_passes (λ (p : PassView). IsIdle p.seen p.number) (λ k done by. by.rests)

    -- each line has its pass's reply
    abbrev pub replies : List (List ℕ)
    replies = map (λ (done : LaneDone). done.replies) dones

    replies_at : (k : ℕ) (done : LaneDone) → slice_get dones k ≡ Some done → replies_of replies k ≡ done.replies
    replies_at k done at =
        get_or_from_slice_get replies k done.replies [] (slice_get-map (λ (d : LaneDone). d.replies) dones k ∙ ap (λ (o : Option LaneDone). option_map (λ (d : LaneDone). d.replies) o) at)

    length_replies : length replies ≡ n
    length_replies = length-map dones (λ (d : LaneDone). d.replies) ∙ one_each

    pub lines_there : All (λ (line : ScriptLine). line.pass < length replies) lines
    lines_there k d below = let there : (get_or lines k d).pass < script.shape.passes = (sound.passes k d below).0 in omega (arith, there, count, length_replies)

    pub counts : (pass : ℕ) → pass < length replies → length (replies_of replies pass) ≡ length (orders_of pass lines)
    counts pass below =
        let at = done_at pass (omega (arith, below, length_replies)) in
        ap length (replies_at pass at.0 at.1) ∙ as_many t pass (orders_of pass lines) at.0.replies at.0.pass at.2

    -- in the table's book
    module _ (book : CoreLog) (start : book.start ≡ t.start) (closed : IsClosed passes book) (calls : (k : ℕ) (p : PassView) → slice_get passes k ≡ Some p → own p.number (calls_in book) ≡ own p.number (calls_in p.seen)) where
      calls_inside : (pass : ℕ) → pass < n → own pass (calls_in book) ≡ numbered pass 0 (orders_of pass lines)
      calls_inside pass inside =
          let at = done_at pass inside in
          let q : PassView = at.0.pass in
          subst (λ (k : ℕ). own k (calls_in book) ≡ numbered pass 0 (orders_of pass lines)) at.2.same.1 (calls pass q (pass_at pass at.0 at.1) ∙ its_calls t pass (orders_of pass lines) at.0.replies q at.2)

      calls_outside : (pass : ℕ) → n ≤ pass → own pass (calls_in book) ≡ numbered pass 0 (orders_of pass lines)
      calls_outside pass outside =
          let same : book.start.shape.passes ≡ n = ap (λ (s : Start). s.shape.passes) start in
          none_outside book closed.legal pass (omega (arith, outside, same)) ∙ sym (ap (numbered pass 0) (no_orders script.shape.passes lines sound.passes pass (omega (arith, outside, count))))

      -- the book's history goes on from what each pass has seen
      goes_on : (k : ℕ) (done : LaneDone) → slice_get dones k ≡ Some done → MadeBy k done → IsPrefix (past done.pass) (calls_in book)
      goes_on k done at by =
          let begins = (closed.each k done.pass (pass_at k done at)).begins in
          histories_go_on done.pass.seen book closed.legal (start ∙ sym by.same.2)
          (subst (λ (log : List Event). IsPrefix done.pass.seen.log log) (sym closed.last) (prefix_more done.pass.seen.log closed.before (event 0 Glance ∷ []) begins))

      module _ (answers : List ℕ) (all : length answers ≡ length lines) (sorted : (pass : ℕ) → pass < length replies → answers_of pass lines answers ≡ replies_of replies pass) where
        line_met : (k : ℕ) (line : ScriptLine) (reply : ℕ) → slice_get lines k ≡ Some line → slice_get answers k ≡ Some reply → Meets no_cap script.opening (calls_in book) (call_after (take k lines) line) reply
        line_met k line reply at got =
            let below : k < length lines = slice_get_within lines k line at in
            let there : line.pass < length replies = subst (λ (l : ScriptLine). l.pass < length replies) (get_or_from_slice_get lines k line line at) (lines_there k line below) in
            let inside : line.pass < n = omega (arith, there, length_replies) in
            let its = done_at line.pass inside in
            let found : slice_get its.0.replies (length (orders_of line.pass (take k lines))) ≡ Some reply =
            ap (λ (ns : List ℕ). slice_get ns (length (orders_of line.pass (take k lines)))) (sym (sorted line.pass there ∙ replies_at line.pass its.0 its.1)) ∙ answer_at lines answers k line reply at got in
            subst (λ (s : Start). Meets s.cap s.opening (calls_in book) (call_after (take k lines) line) reply) opens
            (its_reply t line.pass (orders_of line.pass lines) its.0.replies its.0.pass its.2 (calls_in book) (goes_on line.pass its.0 its.1 its.2) (orders_of line.pass (take k lines)) (order_of line.order)
            (orders_of line.pass (drop (k + 1) lines)) (orders_split lines k line at) reply found)

        pub are_told : AreTold script answers (calls_in book)
        are_told = record {
          calls = λ pass. elim (cases_lt pass n) [ inl inside ↦ calls_inside pass inside | inr outside ↦ calls_outside pass outside ];
          one_each = all;
          met = line_met;
        }

      pub is_book : IsBookOf script book
      is_book = record { legal = closed.legal; start = start ∙ opens }

      pub value_is : value book.start.cap book.start.opening (calls_in book) ≡ value no_cap script.opening (calls_in book)
      value_is = ap (λ (s : Start). value s.cap s.opening (calls_in book)) (start ∙ opens)

  -- all of it, where the passes, the replies and the lines are found elsewhere
  module _ (dones : List LaneDone) (all_made : AreDone (lanes_for lines (fresh_passes t)) dones) where
    module _ (ps : List PassView) (passes_are : ps ≡ map (λ (done : LaneDone). done.pass) dones) where
      pub together : All (IsOf t) ps
      together = subst (All (IsOf t)) (sym passes_are) (closes_together dones all_made)

      pub all : AreAll t ps
      all = subst (AreAll t) (sym passes_are) (closes_all dones all_made)

      pub idle : All (λ (p : PassView). IsIdle p.seen p.number) ps
      idle = subst (All (λ (p : PassView). IsIdle p.seen p.number)) (sym passes_are) (closes_idle dones all_made)

    module _ (rs : List (List ℕ)) (replies_are : rs ≡ map (λ (done : LaneDone). done.replies) dones) (ls : List ScriptLine) (lines_are : ls ≡ lines) where
      pub all_there : All (λ (line : ScriptLine). line.pass < length rs) ls
      all_there = subst (λ (xs : List (List ℕ)). All (λ (line : ScriptLine). line.pass < length xs) ls) (sym replies_are) (subst (All (λ (line : ScriptLine). line.pass < length (replies dones all_made))) (sym lines_are) (lines_there dones all_made))

      pub all_counted : (pass : ℕ) → pass < length rs → length (replies_of rs pass) ≡ length (orders_of pass ls)
      all_counted =
          subst (λ (xs : List (List ℕ)). (pass : ℕ) → pass < length xs → length (replies_of xs pass) ≡ length (orders_of pass ls)) (sym replies_are)
          (subst (λ (xs : List ScriptLine). (pass : ℕ) → pass < length (replies dones all_made) → length (replies_of (replies dones all_made) pass) ≡ length (orders_of pass xs)) (sym lines_are) (counts dones all_made))

      pub tells : (ps : List PassView) → ps ≡ map (λ (done : LaneDone). done.pass) dones → (book : CoreLog) → book.start ≡ t.start → IsClosed ps book → ((k : ℕ) (p : PassView) → slice_get ps k ≡ Some p → own p.number (calls_in book) ≡ own p.number (calls_in p.seen))
          → (answers : List ℕ) → length answers ≡ length ls → ((pass : ℕ) → pass < length rs → answers_of pass ls answers ≡ replies_of rs pass)
          → (v : ℕ) → v ≡ value book.start.cap book.start.opening (calls_in book) → (text : List ℕ) → text ≡ reply_lines lines answers ++ codes "value " ++ decimal v ++ codes "\n" → TellsRounds script text (calls_in book)
      tells ps passes_are book start closed calls answers one sorted v is text told =
          let ended = subst (λ (xs : List PassView). IsClosed xs book) passes_are closed in
          let mine = subst (λ (xs : List PassView). (k : ℕ) (p : PassView) → slice_get xs k ≡ Some p → own p.number (calls_in book) ≡ own p.number (calls_in p.seen)) passes_are calls in
          let in_lines = subst (λ (xs : List ScriptLine). (pass : ℕ) → pass < length rs → answers_of pass xs answers ≡ replies_of rs pass) lines_are sorted in
          let by_pass = subst (λ (xs : List (List ℕ)). (pass : ℕ) → pass < length xs → answers_of pass lines answers ≡ replies_of xs pass) replies_are in_lines in (
            answers,
            are_told dones all_made book start ended mine answers (one ∙ ap length lines_are) by_pass,
            told ∙ ap (λ (n : ℕ). reply_lines lines answers ++ codes "value " ++ decimal n ++ codes "\n") (is ∙ value_is dones all_made book start ended mine),
          )
