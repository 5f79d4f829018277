use Rattle.std.proofs.Common.{List, map, ap, ◌∙◌, sym, subst, arith, All}
use Rattle.quota_pool.specs.Views.{DeskView, Belongs}
use Rattle.quota_pool.specs.Claims.{TellsBooks}
use Rattle.quota_pool.specs.Closed.{AreClosed}
use Rattle.replay_run.specs.Work.{AreFresh}
use Rattle.replay_run.proofs.Finished.{count_before, may_begin, rows_there, desks_left, count_done, together_done, all_done, adds}
use Rattle.replay_run.proofs.segment.replay_segment.Goals as goal

pub make_all-requires-clause-few : goal.make_all-requires-clause-few
make_all-requires-clause-few g c κs within = omega (arith, count_before c.args.workers c.args.tenants.now c.deref.result.now c.args.openings.now c.args.rows.now c.in_ok-pool.field-0.pool c.in_ok-pool.field-0.places c.deref_mut.result.now (c.deref.ensures.value ∙ c.in_ok-caps.ensures) c.requires.sound c.in_ok-pool.ensures.ready c.deref_mut.ensures.value, c.requires.workers.1)

pub make_all-requires-clause-workers : goal.make_all-requires-clause-workers
make_all-requires-clause-workers g c κs within = rows_there c.args.workers c.args.tenants.now c.deref.result.now c.args.openings.now c.args.rows.now c.in_ok-pool.field-0.pool c.in_ok-pool.field-0.places c.deref_mut.result.now (c.deref.ensures.value ∙ c.in_ok-caps.ensures) c.requires.sound c.in_ok-pool.ensures.ready c.deref_mut.ensures.value

pub make_all-requires-clause-fresh : goal.make_all-requires-clause-fresh
make_all-requires-clause-fresh g c κs within = subst (AreFresh c.args.rows.now) (sym c.deref_mut.ensures.value) c.in_ok-pool.ensures.fresh

pub make_all-requires-clause-may : goal.make_all-requires-clause-may
make_all-requires-clause-may g c κs within = may_begin c.args.workers c.args.tenants.now c.deref.result.now c.args.openings.now c.args.rows.now c.in_ok-pool.field-0.pool c.in_ok-pool.field-0.places c.deref_mut.result.now (c.deref.ensures.value ∙ c.in_ok-caps.ensures) c.requires.sound c.in_ok-pool.ensures.ready c.deref_mut.ensures.value

pub leave-requires-clause-room : goal.leave-requires-clause-room
leave-requires-clause-room g c = omega (arith, count_done c.args.workers c.args.tenants.now c.deref.result.now c.args.openings.now c.args.rows.now c.in_ok-pool.field-0.pool c.in_ok-pool.field-0.places c.deref_mut.result.now (c.deref.ensures.value ∙ c.in_ok-caps.ensures) c.requires.sound c.in_ok-pool.ensures.ready c.deref_mut.ensures.value c.args.answers.now.items c.make_all.new.answers.items c.make_all.new.places c.in_ok-make_all.ensures.made, c.in_ok-pool.ensures.room)

pub close-requires-clause-together : goal.close-requires-clause-together
close-requires-clause-together g c = subst (λ (desks : List DeskView). All (Belongs c.in_ok-pool.field-0.pool) desks) (sym (c.leave.ensures ∙ desks_left c.args.workers c.args.tenants.now c.deref.result.now c.args.openings.now c.args.rows.now c.in_ok-pool.field-0.pool c.in_ok-pool.field-0.places c.deref_mut.result.now (c.deref.ensures.value ∙ c.in_ok-caps.ensures) c.requires.sound c.in_ok-pool.ensures.ready c.deref_mut.ensures.value c.args.answers.now.items c.make_all.new.answers.items c.make_all.new.places c.in_ok-make_all.ensures.made)) (together_done c.args.workers c.args.tenants.now c.deref.result.now c.args.openings.now c.args.rows.now c.in_ok-pool.field-0.pool c.in_ok-pool.field-0.places c.deref_mut.result.now (c.deref.ensures.value ∙ c.in_ok-caps.ensures) c.requires.sound c.in_ok-pool.ensures.ready c.deref_mut.ensures.value c.args.answers.now.items c.make_all.new.answers.items c.make_all.new.places c.in_ok-make_all.ensures.made)

pub close-requires-clause-all : goal.close-requires-clause-all
close-requires-clause-all g c = ap (λ (desks : List DeskView). map (λ (d : DeskView). d.worker) desks) (c.leave.ensures ∙ desks_left c.args.workers c.args.tenants.now c.deref.result.now c.args.openings.now c.args.rows.now c.in_ok-pool.field-0.pool c.in_ok-pool.field-0.places c.deref_mut.result.now (c.deref.ensures.value ∙ c.in_ok-caps.ensures) c.requires.sound c.in_ok-pool.ensures.ready c.deref_mut.ensures.value c.args.answers.now.items c.make_all.new.answers.items c.make_all.new.places c.in_ok-make_all.ensures.made) ∙ all_done c.args.workers c.args.tenants.now c.deref.result.now c.args.openings.now c.args.rows.now c.in_ok-pool.field-0.pool c.in_ok-pool.field-0.places c.deref_mut.result.now (c.deref.ensures.value ∙ c.in_ok-caps.ensures) c.requires.sound c.in_ok-pool.ensures.ready c.deref_mut.ensures.value c.args.answers.now.items c.make_all.new.answers.items c.make_all.new.places c.in_ok-make_all.ensures.made

pub returns-clause-segment : goal.returns-clause-segment
returns-clause-segment g c =
    let desks = c.leave.ensures ∙ desks_left c.args.workers c.args.tenants.now c.deref.result.now c.args.openings.now c.args.rows.now c.in_ok-pool.field-0.pool c.in_ok-pool.field-0.places c.deref_mut.result.now (c.deref.ensures.value ∙ c.in_ok-caps.ensures) c.requires.sound c.in_ok-pool.ensures.ready c.deref_mut.ensures.value c.args.answers.now.items c.make_all.new.answers.items c.make_all.new.places c.in_ok-make_all.ensures.made in
    let told = subst (λ (desks : List DeskView). TellsBooks c.in_ok-pool.field-0.pool desks c.close.result.items) desks c.close.ensures.told in
    let closed = subst (λ (desks : List DeskView). AreClosed desks c.close.result.items) desks c.close.ensures.closed in
    adds c.args.workers c.args.tenants.now c.deref.result.now c.args.openings.now c.args.rows.now c.in_ok-pool.field-0.pool c.in_ok-pool.field-0.places c.deref_mut.result.now (c.deref.ensures.value ∙ c.in_ok-caps.ensures) c.requires.sound c.in_ok-pool.ensures.ready c.deref_mut.ensures.value c.args.answers.now.items c.make_all.new.answers.items c.make_all.new.places c.in_ok-make_all.ensures.made c.close.result.items told closed
