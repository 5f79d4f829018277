use Rattle.std.proofs.Common.{ap, ◌∙◌}
use Rattle.running.proofs.Keeps.{meets}
use Rattle.fn_table.specs.Funnel.{funnel}
use Rattle.fn_table.proofs.Meets.{has_part, glance_met, meet_tells, met_still}
use Rattle.fn_table.proofs.meeting.take_in.Goals as goal

pub join_seat-requires : goal.join_seat-requires
join_seat-requires c =
    let i = c.pass.invariant in
    (ap (λ p. p.table) c.pass.view_is ∙ c.requires.together.0, ap (λ n. n.table) c.note.view_is ∙ c.requires.together.1, c.note.invariant.1, c.requires.words, meets funnel _ _ _ _ _ _ (has_part _ _ i.0))

pub load-requires : goal.load-requires
load-requires c =
    let i = c.pass.invariant in
    let j = c.join_seat.ensures in
    (j.0 ∙ ap (λ p. p.table) c.pass.view_is ∙ c.requires.together.0, c.requires.words, glance_met _ _ _ _ _ _ _ _ _ _ _ c.pass.view_is i c.note.invariant.0 c.requires.idle j.2)

pub returns : goal.returns
returns c =
    let j = c.join_seat.ensures in
    let l = c.load.ensures in
    meet_tells _ _ _ _ _ _ _ _ _ _ _ _ c.pass.view_is c.note.view_is c.pass.invariant c.note.invariant.0 (l.0 ∙ j.0) (ap (λ me. me.0) j.2) l.2.0

pub invariant_of-pass : goal.invariant_of-pass
invariant_of-pass c = met_still c.pass.inside.seat.table_id _ _ _ _ _ _ _ c.pass.invariant c.note.invariant.0 c.join_seat.ensures.2 c.load.ensures.2.0 c.load.ensures.2.1
