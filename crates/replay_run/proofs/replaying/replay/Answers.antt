use Rattle.std.proofs.Common.{◌≡◌, ◌+◌, ◌-◌, ◌*◌, ◌<◌, ◌≤◌, ◌++◌, [], ℕ, List, length, map, take, drop, get_or, sym, ap, ◌∙◌, subst, arith}
use Rattle.std.proofs.lemmas.List.{get_or_default, with_items_is}
use Rattle.std.specs.Vec.{vec_capacity}
use Rattle.fn_core.specs.Calls.{CoreLog}
use Rattle.quota_pool.specs.declared.moved.Moved.{Moved}
use Rattle.trace_text.specs.SoundTrace.{IsSoundTrace}
use Rattle.trace_text.specs.Trace.{Content, content}
use Rattle.trace_text.specs.declared.traces.Cut.{Cut}
use Rattle.trace_text.specs.declared.traces.Row.{Row}
use Rattle.trace_text.specs.declared.traces.Tenant.{Tenant}
use Rattle.replay_run.specs.Replay.{IsReplay, IsSegment, value_in}
use Rattle.replay_run.specs.Ready.{IsSoundSegment}
use Rattle.replay_run.proofs.Claims.{replay_tells}
use Rattle.replay_run.proofs.Course.{Stands, stands_first, ends_behind, ends_within, segment_sound, segment_size, shelf_left, stands_more, ends_last, last_segment_sound, last_size, last_shelf, replayed_all}
use Rattle.replay_run.proofs.replaying.replay.Goals as goal

abbrev no_cut : Cut
no_cut = record { at = 0; rows = 0 }

pub loop-cut-init : goal.loop-cut-init
loop-cut-init g c =
    let trace : Content = record { tenants = c.as_slice-tenants.result.now; rows = c.as_slice-rows.result.now; cuts = c.deref-cut-items.result.now } in
    let tenants = sym c.as_slice-tenants.ensures.value in
    let rows = sym c.as_slice-rows.ensures.value in
    let cuts = sym c.deref-cut-items.ensures.value in
    let same : content c.args.trace.now ≡ trace = λ i. record { tenants = tenants i; rows = rows i; cuts = cuts i } in
    let first = stands_first c.args.workers trace (subst (IsSoundTrace c.args.workers) same c.requires.sound) in
    let At : List ℕ → List Moved → List CoreLog → Type 0 = λ openings answers books. Stands c.args.workers c.as_slice-tenants.result.now c.as_slice-rows.result.now c.deref-cut-items.result.now 0 0 openings answers books in
    record {
      stands = subst (λ openings. At openings c.in_ok-answers.answers.items c.in_ok-books.books.items) (sym c.in_ok-openings.ensures)
          (subst (λ answers. At (map (λ (t : Tenant). t.opening) c.as_slice-tenants.result.now) answers c.in_ok-books.books.items) (sym c.in_ok-answers.ensures.items)
          (subst (λ books. At (map (λ (t : Tenant). t.opening) c.as_slice-tenants.result.now) [] books) (sym c.in_ok-books.ensures.items) first));
      room = omega (arith, c.in_ok-answers.ensures.capacity);
      shelf = subst (λ (n : ℕ). (n + 1) * length c.as_slice-tenants.result.now ≤ vec_capacity c.in_ok-books.books) (c.len.ensures ∙ c.args.trace.now.cuts.ok.0 ∙ ap length cuts) c.in_ok-books.ensures.capacity;
    }

pub part_of-part-requires-clause-order : goal.part_of-part-requires-clause-order
part_of-part-requires-clause-order g c =
    let k = c.loop-cut.cut-index in
    let cut : Cut = get_or c.deref-cut-items.result.now k no_cut in
    let within : k < length c.deref-cut-items.result.now = omega (arith, c.loop-cut-test.true, ap length c.deref-cut-items.ensures.value) in
    let is : get_or c.deref-cut-items.result.now k cut ≡ cut = get_or_default c.deref-cut-items.result.now k cut no_cut within in
    ends_behind c.args.workers c.as_slice-tenants.result.now c.as_slice-rows.result.now c.deref-cut-items.result.now c.loop-cut.cut-index c.loop-cut.before c.loop-cut.openings.items c.loop-cut.replayed.answers.items c.loop-cut.replayed.books.items c.loop-cut.invariant.stands cut within is

pub part_of-part-requires-clause-end : goal.part_of-part-requires-clause-end
part_of-part-requires-clause-end g c =
    let k = c.loop-cut.cut-index in
    let cut : Cut = get_or c.deref-cut-items.result.now k no_cut in
    let within : k < length c.deref-cut-items.result.now = omega (arith, c.loop-cut-test.true, ap length c.deref-cut-items.ensures.value) in
    let is : get_or c.deref-cut-items.result.now k cut ≡ cut = get_or_default c.deref-cut-items.result.now k cut no_cut within in
    ends_within c.args.workers c.as_slice-tenants.result.now c.as_slice-rows.result.now c.deref-cut-items.result.now c.loop-cut.cut-index c.loop-cut.before c.loop-cut.openings.items c.loop-cut.replayed.answers.items c.loop-cut.replayed.books.items c.loop-cut.invariant.stands cut within is

pub go_on-requires-clause-sound : goal.go_on-requires-clause-sound
go_on-requires-clause-sound g c κs lives =
    let k = c.loop-cut.cut-index in
    let cut : Cut = get_or c.deref-cut-items.result.now k no_cut in
    let within : k < length c.deref-cut-items.result.now = omega (arith, c.loop-cut-test.true, ap length c.deref-cut-items.ensures.value) in
    let is : get_or c.deref-cut-items.result.now k cut ≡ cut = get_or_default c.deref-cut-items.result.now k cut no_cut within in
    let sound = segment_sound c.args.workers c.as_slice-tenants.result.now c.as_slice-rows.result.now c.deref-cut-items.result.now c.loop-cut.cut-index c.loop-cut.before c.loop-cut.openings.items c.loop-cut.replayed.answers.items c.loop-cut.replayed.books.items c.loop-cut.invariant.stands cut within is in
    subst (λ (openings : List ℕ). IsSoundSegment c.args.workers (map (λ (t : Tenant). t.cap) c.as_slice-tenants.result.now) openings c.part_of-part.result.now) (sym c.deref_mut.ensures.value)
    (subst (λ (rows : List Row). IsSoundSegment c.args.workers (map (λ (t : Tenant). t.cap) c.as_slice-tenants.result.now) c.loop-cut.openings.items rows) (sym c.part_of-part.ensures) sound)

pub go_on-requires-clause-room : goal.go_on-requires-clause-room
go_on-requires-clause-room g c κs lives =
    let k = c.loop-cut.cut-index in
    let cut : Cut = get_or c.deref-cut-items.result.now k no_cut in
    let within : k < length c.deref-cut-items.result.now = omega (arith, c.loop-cut-test.true, ap length c.deref-cut-items.ensures.value) in
    let is : get_or c.deref-cut-items.result.now k cut ≡ cut = get_or_default c.deref-cut-items.result.now k cut no_cut within in
    omega (arith, segment_size c.args.workers c.as_slice-tenants.result.now c.as_slice-rows.result.now c.deref-cut-items.result.now c.loop-cut.cut-index c.loop-cut.before c.loop-cut.openings.items c.loop-cut.replayed.answers.items c.loop-cut.replayed.books.items c.loop-cut.invariant.stands cut within is, ends_within c.args.workers c.as_slice-tenants.result.now c.as_slice-rows.result.now c.deref-cut-items.result.now c.loop-cut.cut-index c.loop-cut.before c.loop-cut.openings.items c.loop-cut.replayed.answers.items c.loop-cut.replayed.books.items c.loop-cut.invariant.stands cut within is, ap length c.part_of-part.ensures, c.loop-cut.invariant.stands.answered, c.loop-cut.invariant.room)

pub go_on-requires-clause-shelf : goal.go_on-requires-clause-shelf
go_on-requires-clause-shelf g c κs lives =
    let k = c.loop-cut.cut-index in
    let cut : Cut = get_or c.deref-cut-items.result.now k no_cut in
    let within : k < length c.deref-cut-items.result.now = omega (arith, c.loop-cut-test.true, ap length c.deref-cut-items.ensures.value) in
    let is : get_or c.deref-cut-items.result.now k cut ≡ cut = get_or_default c.deref-cut-items.result.now k cut no_cut within in
    omega (arith, shelf_left c.args.workers c.as_slice-tenants.result.now c.as_slice-rows.result.now c.deref-cut-items.result.now c.loop-cut.cut-index c.loop-cut.before c.loop-cut.openings.items c.loop-cut.replayed.answers.items c.loop-cut.replayed.books.items c.loop-cut.invariant.stands cut within is, c.loop-cut.invariant.shelf)

pub loop-cut-preserved : goal.loop-cut-preserved
loop-cut-preserved g c =
    let k = c.loop-cut.cut-index in
    let cut : Cut = get_or c.deref-cut-items.result.now k no_cut in
    let within : k < length c.deref-cut-items.result.now = omega (arith, c.loop-cut-test.true, ap length c.deref-cut-items.ensures.value) in
    let is : get_or c.deref-cut-items.result.now k cut ≡ cut = get_or_default c.deref-cut-items.result.now k cut no_cut within in
    let more = c.in_ok-go_on.ensures.more in
    let rows : List Row = take (cut.rows - c.loop-cut.before) (drop c.loop-cut.before c.as_slice-rows.result.now) in
    let segment : IsSegment c.args.workers c.as_slice-tenants.result.now c.loop-cut.openings.items rows more.answers more.books =
    subst (λ (openings : List ℕ). IsSegment c.args.workers c.as_slice-tenants.result.now openings rows more.answers more.books) c.deref_mut.ensures.value
    (subst (λ (rs : List Row). IsSegment c.args.workers c.as_slice-tenants.result.now c.deref_mut.result.now rs more.answers more.books) c.part_of-part.ensures more.segment) in
    let next = stands_more c.args.workers c.as_slice-tenants.result.now c.as_slice-rows.result.now c.deref-cut-items.result.now c.loop-cut.cut-index c.loop-cut.before c.loop-cut.openings.items c.loop-cut.replayed.answers.items c.loop-cut.replayed.books.items c.loop-cut.invariant.stands cut within is more.answers more.books segment in
    let At : List ℕ → List Moved → List CoreLog → Type 0 = λ openings answers books. Stands c.args.workers c.as_slice-tenants.result.now c.as_slice-rows.result.now c.deref-cut-items.result.now (k + 1) cut.rows openings answers books in
    let openings = with_items_is c.loop-cut.openings c.go_on.new.openings (c.go_on.auto.openings ∙ ap length c.deref_mut.ensures.value ∙ sym c.loop-cut.openings.ok.0) ∙ more.settled in
    record {
      stands = subst (λ (os : List ℕ). At os c.go_on.new.replayed.answers.items c.go_on.new.replayed.books.items) (sym openings)
          (subst (λ (answers : List Moved). At (map value_in more.books) answers c.go_on.new.replayed.books.items) (sym more.more_answers)
          (subst (λ (books : List CoreLog). At (map value_in more.books) (c.loop-cut.replayed.answers.items ++ more.answers) books) (sym more.more_books) next));
      room = omega (arith, c.loop-cut.invariant.room, c.in_ok-go_on.ensures.room);
      shelf = omega (arith, c.loop-cut.invariant.shelf, c.in_ok-go_on.ensures.shelf);
    }

pub part_of-part-requires-2-clause-order : goal.part_of-part-requires-2-clause-order
part_of-part-requires-2-clause-order g c =
    let last : length c.deref-cut-items.result.now ≤ c.loop-cut.cut-index = omega (arith, c.loop-cut-test.false, ap length c.deref-cut-items.ensures.value) in
    let all : c.loop-cut.cut-index ≤ length c.deref-cut-items.result.now = omega (arith, c.loop-cut.auto.cut-index-end, ap length c.deref-cut-items.ensures.value) in
    ends_last c.args.workers c.as_slice-tenants.result.now c.as_slice-rows.result.now c.deref-cut-items.result.now c.loop-cut.cut-index c.loop-cut.before c.loop-cut.openings.items c.loop-cut.replayed.answers.items c.loop-cut.replayed.books.items c.loop-cut.invariant.stands last all

pub go_on-requires-2-clause-sound : goal.go_on-requires-2-clause-sound
go_on-requires-2-clause-sound g c κs lives =
    let last : length c.deref-cut-items.result.now ≤ c.loop-cut.cut-index = omega (arith, c.loop-cut-test.false, ap length c.deref-cut-items.ensures.value) in
    let all : c.loop-cut.cut-index ≤ length c.deref-cut-items.result.now = omega (arith, c.loop-cut.auto.cut-index-end, ap length c.deref-cut-items.ensures.value) in
    let sound = last_segment_sound c.args.workers c.as_slice-tenants.result.now c.as_slice-rows.result.now c.deref-cut-items.result.now c.loop-cut.cut-index c.loop-cut.before c.loop-cut.openings.items c.loop-cut.replayed.answers.items c.loop-cut.replayed.books.items c.loop-cut.invariant.stands last all in
    subst (λ (openings : List ℕ). IsSoundSegment c.args.workers (map (λ (t : Tenant). t.cap) c.as_slice-tenants.result.now) openings c.part_of-part-2.result.now) (sym c.deref_mut-2.ensures.value)
    (subst (λ (rows : List Row). IsSoundSegment c.args.workers (map (λ (t : Tenant). t.cap) c.as_slice-tenants.result.now) c.loop-cut.openings.items rows) (sym c.part_of-part-2.ensures) sound)

pub go_on-requires-2-clause-room : goal.go_on-requires-2-clause-room
go_on-requires-2-clause-room g c κs lives =
    let last : length c.deref-cut-items.result.now ≤ c.loop-cut.cut-index = omega (arith, c.loop-cut-test.false, ap length c.deref-cut-items.ensures.value) in
    let all : c.loop-cut.cut-index ≤ length c.deref-cut-items.result.now = omega (arith, c.loop-cut.auto.cut-index-end, ap length c.deref-cut-items.ensures.value) in
    omega (arith, last_size c.args.workers c.as_slice-tenants.result.now c.as_slice-rows.result.now c.deref-cut-items.result.now c.loop-cut.cut-index c.loop-cut.before c.loop-cut.openings.items c.loop-cut.replayed.answers.items c.loop-cut.replayed.books.items c.loop-cut.invariant.stands last all, ap length c.part_of-part-2.ensures, c.loop-cut.invariant.stands.answered, c.loop-cut.invariant.room)

pub go_on-requires-2-clause-shelf : goal.go_on-requires-2-clause-shelf
go_on-requires-2-clause-shelf g c κs lives =
    let last : length c.deref-cut-items.result.now ≤ c.loop-cut.cut-index = omega (arith, c.loop-cut-test.false, ap length c.deref-cut-items.ensures.value) in
    let all : c.loop-cut.cut-index ≤ length c.deref-cut-items.result.now = omega (arith, c.loop-cut.auto.cut-index-end, ap length c.deref-cut-items.ensures.value) in
    omega (arith, last_shelf c.args.workers c.as_slice-tenants.result.now c.as_slice-rows.result.now c.deref-cut-items.result.now c.loop-cut.cut-index c.loop-cut.before c.loop-cut.openings.items c.loop-cut.replayed.answers.items c.loop-cut.replayed.books.items c.loop-cut.invariant.stands last all, c.loop-cut.invariant.shelf)

pub returns : goal.returns
returns g c =
    let last : length c.deref-cut-items.result.now ≤ c.loop-cut.cut-index = omega (arith, c.loop-cut-test.false, ap length c.deref-cut-items.ensures.value) in
    let all : c.loop-cut.cut-index ≤ length c.deref-cut-items.result.now = omega (arith, c.loop-cut.auto.cut-index-end, ap length c.deref-cut-items.ensures.value) in
    let more = c.in_ok-go_on-2.ensures.more in
    let rows : List Row = take (length c.as_slice-rows.result.now - c.loop-cut.before) (drop c.loop-cut.before c.as_slice-rows.result.now) in
    let segment : IsSegment c.args.workers c.as_slice-tenants.result.now c.loop-cut.openings.items rows more.answers more.books =
    subst (λ (openings : List ℕ). IsSegment c.args.workers c.as_slice-tenants.result.now openings rows more.answers more.books) c.deref_mut-2.ensures.value
    (subst (λ (rs : List Row). IsSegment c.args.workers c.as_slice-tenants.result.now c.deref_mut-2.result.now rs more.answers more.books) c.part_of-part-2.ensures more.segment) in
    let trace : Content = record { tenants = c.as_slice-tenants.result.now; rows = c.as_slice-rows.result.now; cuts = c.deref-cut-items.result.now } in
    let same : trace ≡ content c.args.trace.now = λ i. record { tenants = c.as_slice-tenants.ensures.value i; rows = c.as_slice-rows.ensures.value i; cuts = c.deref-cut-items.ensures.value i } in
    let Made : List Moved → List CoreLog → Type 0 = λ answers books. IsReplay c.args.workers (content c.args.trace.now) answers books in
    let whole : Made (c.loop-cut.replayed.answers.items ++ more.answers) (c.loop-cut.replayed.books.items ++ more.books) =
    subst (λ (t : Content). IsReplay c.args.workers t (c.loop-cut.replayed.answers.items ++ more.answers) (c.loop-cut.replayed.books.items ++ more.books)) same (replayed_all c.args.workers c.as_slice-tenants.result.now c.as_slice-rows.result.now c.deref-cut-items.result.now c.loop-cut.cut-index c.loop-cut.before c.loop-cut.openings.items c.loop-cut.replayed.answers.items c.loop-cut.replayed.books.items c.loop-cut.invariant.stands last all more.answers more.books segment) in
    let replayed : Made c.go_on-2.new.replayed.answers.items c.go_on-2.new.replayed.books.items =
    subst (λ (answers : List Moved). Made answers c.go_on-2.new.replayed.books.items) (sym more.more_answers)
    (subst (λ (books : List CoreLog). Made (c.loop-cut.replayed.answers.items ++ more.answers) books) (sym more.more_books) whole) in
    record {
      told = replay_tells c.args.workers (content c.args.trace.now) c.go_on-2.new.replayed.answers.items c.go_on-2.new.replayed.books.items c.requires.sound.cuts replayed;
      books = replayed;
    }
