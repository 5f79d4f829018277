use Rattle.replay_run.proofs.Together.{may_begin_all, have_answers, made_together}
use Rattle.replay_run.proofs.segment.make_together.Goals as goal

pub work_all-requires-clause-ready : goal.work_all-requires-clause-ready
work_all-requires-clause-ready g c κs within =
    may_begin_all c.args.pool.now c.args.rows.now c.args.places.now c.make_rooms.new.places c.make_rooms.auto.places c.requires.fresh c.requires.may c.in_ok-make_rooms.ensures

pub gather-requires-clause-dealt : goal.gather-requires-clause-dealt
gather-requires-clause-dealt g c =
    have_answers c.args.pool.now c.args.rows.now c.args.places.now c.make_rooms.new.places c.make_rooms.auto.places c.requires.fresh c.requires.may c.in_ok-make_rooms.ensures c.work_all.new.places c.work_all.auto.places c.work_all.ensures

pub returns-clause-made : goal.returns-clause-made
returns-clause-made g c =
    made_together c.args.pool.now c.args.rows.now c.args.places.now c.make_rooms.new.places c.make_rooms.auto.places c.requires.fresh c.requires.may c.in_ok-make_rooms.ensures c.work_all.new.places c.work_all.auto.places c.work_all.ensures
    c.args.answers.now.items c.gather.new.answers.items c.gather.ensures.answers
