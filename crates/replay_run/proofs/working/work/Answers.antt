use Rattle.std.proofs.Common.{◌≡◌, ◌+◌, ◌<◌, ◌≤◌, List, ℕ, take, drop, length, get_or, arith, subst, sym, take_all}
use Rattle.std.proofs.lemmas.List.{length-map, length-take-le}
use Rattle.std.proofs.lemmas.List.Elements.{All-head}
use Rattle.quota_pool.specs.Views.{left_at}
use Rattle.quota_pool.specs.declared.moved.Moved.{Moved}
use Rattle.trace_text.specs.SoundTrace.{IsSoundRow, IsAmount}
use Rattle.trace_text.specs.declared.traces.Row.{Row}
use Rattle.replay_run.specs.Work.{no_row, rows_at, Called, HasMade}
use Rattle.replay_run.proofs.Runs.{may_more, first_left, first_tenant}
use Rattle.replay_run.proofs.Seated.{made_none, made_more, made_count, next_is, next_may}
use Rattle.replay_run.proofs.working.work.Goals as goal

pub loop-number-init : goal.loop-number-init
loop-number-init g c = record {
  made = made_none c.args.pool.now c.args.desk.now c.args.answers.now.items;
  may = c.requires.may;
  room = omega arith;
}

pub make_call-answer-requires-clause-left : goal.make_call-answer-requires-clause-left
make_call-answer-requires-clause-left g c =
    let rows : List Row = c.args.rows.now in
    let numbers : List ℕ = c.args.numbers.now in
    let i = c.loop-number.number-index in
    let within : i < length numbers = omega arith in
    let inside : i < length (rows_at rows numbers) = omega (arith, within, length-map numbers (λ (n : ℕ). get_or rows n no_row)) in
    let may = next_may c.args.pool.now c.loop-number.desk (rows_at rows numbers) i inside c.loop-number.invariant.may in
    let left = first_left c.args.pool.now c.loop-number.desk (get_or (rows_at rows numbers) i no_row) (drop (i + 1) (rows_at rows numbers)) may in
    subst (λ (row : Row). row.amount ≤ left_at c.loop-number.desk row.tenant) (next_is rows numbers i within) left

pub make_call-answer-requires-clause-tenant : goal.make_call-answer-requires-clause-tenant
make_call-answer-requires-clause-tenant g c =
    let rows : List Row = c.args.rows.now in
    let numbers : List ℕ = c.args.numbers.now in
    let i = c.loop-number.number-index in
    let within : i < length numbers = omega arith in
    let inside : i < length (rows_at rows numbers) = omega (arith, within, length-map numbers (λ (n : ℕ). get_or rows n no_row)) in
    let may = next_may c.args.pool.now c.loop-number.desk (rows_at rows numbers) i inside c.loop-number.invariant.may in
    let there = first_tenant c.args.pool.now c.loop-number.desk (get_or (rows_at rows numbers) i no_row) (drop (i + 1) (rows_at rows numbers)) may in
    subst (λ (row : Row). row.tenant < length c.loop-number.desk.passes) (next_is rows numbers i within) there

pub make_call-answer-requires-clause-amount : goal.make_call-answer-requires-clause-amount
make_call-answer-requires-clause-amount g c =
    let rows : List Row = c.args.rows.now in
    let numbers : List ℕ = c.args.numbers.now in
    let i = c.loop-number.number-index in
    let within : i < length numbers = omega arith in
    let inside : i < length (rows_at rows numbers) = omega (arith, within, length-map numbers (λ (n : ℕ). get_or rows n no_row)) in
    let may = next_may c.args.pool.now c.loop-number.desk (rows_at rows numbers) i inside c.loop-number.invariant.may in
    let sound = All-head (IsSoundRow c.args.pool.now.workers (length c.args.pool.now.tables)) (get_or (rows_at rows numbers) i no_row) (drop (i + 1) (rows_at rows numbers)) may.sound in
    subst (λ (row : Row). IsAmount row.op row.amount) (next_is rows numbers i within) sound.amount

pub put-requires : goal.put-requires
put-requires g c =
    let numbers : List ℕ = c.args.numbers.now in
    let i = c.loop-number.number-index in
    let within : i < length numbers = omega arith in
    let mine : List Row = rows_at c.args.rows.now numbers in
    let inside : length mine ≡ length numbers = length-map numbers (λ (n : ℕ). get_or c.args.rows.now n no_row) in
    let count = made_count c.args.pool.now c.args.desk.now c.loop-number.desk (take i mine) c.args.answers.now.items c.loop-number.answers.items c.loop-number.invariant.made in
    omega (arith, count, length-take-le i mine (omega (arith, inside, within)), c.requires.room, c.loop-number.invariant.room)

pub loop-number-preserved : goal.loop-number-preserved
loop-number-preserved g c =
    let rows : List Row = c.args.rows.now in
    let numbers : List ℕ = c.args.numbers.now in
    let i = c.loop-number.number-index in
    let within : i < length numbers = omega arith in
    let mine : List Row = rows_at rows numbers in
    let inside : i < length mine = omega (arith, within, length-map numbers (λ (n : ℕ). get_or rows n no_row)) in
    let row : Row = get_or mine i no_row in
    let answer : Moved = c.make_call-answer.result in
    let is : row ≡ get_or rows (get_or numbers i 0) no_row = next_is rows numbers i within in
    let called : Called c.args.pool.now c.loop-number.desk (record { row = row; answer = answer }) c.make_call-answer.new.desk =
    subst (λ (r : Row). Called c.args.pool.now c.loop-number.desk (record { row = r; answer = answer }) c.make_call-answer.new.desk) (sym is) (record { made = c.make_call-answer.ensures.made; way = c.make_call-answer.ensures.way }) in
    let may = next_may c.args.pool.now c.loop-number.desk mine i inside c.loop-number.invariant.may in
    record {
      made = made_more c.args.pool.now c.args.desk.now c.loop-number.desk mine i c.args.answers.now.items c.loop-number.answers.items inside answer c.make_call-answer.new.desk c.put.new.answers.items c.loop-number.invariant.made called c.put.ensures.items;
      may = may_more c.args.pool.now c.loop-number.desk row (drop (i + 1) mine) answer c.make_call-answer.new.desk may called.made;
      room = omega (arith, c.loop-number.invariant.room, c.put.ensures.room);
    }

pub returns-clause-made : goal.returns-clause-made
returns-clause-made g c =
    let numbers : List ℕ = c.args.numbers.now in
    let mine : List Row = rows_at c.args.rows.now numbers in
    let inside : length mine ≡ length numbers = length-map numbers (λ (n : ℕ). get_or c.args.rows.now n no_row) in
    let past : length numbers ≤ c.loop-number.number-index = c.loop-number-test.false in
    subst (λ (rows : List Row). HasMade c.args.pool.now c.args.desk.now rows c.args.answers.now.items c.loop-number.answers.items c.loop-number.desk) (take_all c.loop-number.number-index mine (omega (arith, inside, past))) c.loop-number.invariant.made
