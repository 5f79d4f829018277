use Rattle.std.proofs.Common.{◌≡◌, ◌<◌, ◌∷◌, ◌++◌, [], Global, Vec, length, get_or, map, sym, ap, ◌∙◌, arith, rules}
use Rattle.std.proofs.lemmas.List.{get_or-map, map-set, take_all}
use Rattle.std.specs.List.{zip}
use Rattle.picture_marks.specs.declared.marks.Mark.{Mark}
use Rattle.replay_report.proofs.Lines.{length-zip}
use Rattle.picture_report.specs.Told.{all_marks, mark_of}
use Rattle.picture_report.proofs.Marked.{all-more, no_answer, no_row, none-yet}
use Rattle.picture_report.proofs.marking.push_marks.Goals as goal

pub loop-i-init : goal.loop-i-init
loop-i-init c = c.requires.empty ∙ none-yet (length c.args.lists.now)

pub loop-i-preserved : goal.loop-i-preserved
loop-i-preserved c =
    let items = λ (list : Vec Mark Global). list.items in
    let lists = c.loop-i.lists in
    let within : c.loop-i.i < length c.args.rows.now = search rules in
    let at = (get_or c.args.rows.now c.loop-i.i no_row).tenant in
    let inside : (get_or c.args.rows.now c.loop-i.i no_row).tenant < length c.args.lists.now = c.requires.tenants c.loop-i.i no_row within in
    let known : (get_or c.args.rows.now c.loop-i.i no_row).tenant < length c.loop-i.lists = search rules in
    let old : (get_or lists at c.index-lists-row.result).items ≡ get_or (map items lists) at [] = sym (get_or-map items lists at c.index-lists-row.result [] known) in
    let grown : c.push.new.self.items ≡ get_or (map items lists) at [] ++ mark_of (get_or c.args.rows.now c.loop-i.i no_row, get_or c.args.answers.now c.loop-i.i no_answer) ∷ [] = cc (c.in_ok-push.ensures.items, old, c.mark_of.ensures) in
    map-set items lists at c.push.new.self
    ∙ all-more (map items lists) c.push.new.self.items (length c.args.lists.now) c.args.rows.now c.args.answers.now c.loop-i.i no_row no_answer within c.requires.answers inside c.loop-i.invariant grown

pub returns : goal.returns
returns c =
    let count = length-zip c.args.rows.now c.args.answers.now (omega arith) in
    c.loop-i.invariant ∙ ap (all_marks (length c.args.lists.now)) (take_all c.loop-i.i (zip c.args.rows.now c.args.answers.now) (omega arith))
