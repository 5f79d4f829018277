use Rattle.std.proofs.Common.{Some, refl, ap, []}
use Rattle.tool_words.specs.declared.commands.Command.TheVariants.{Replay, Drill, Relay, Rounds, Tally, Throttle}
use Rattle.tool_run.specs.Outcome.{reading}
use Rattle.tool_run.proofs.Preparing.{telling-prepared}
use Rattle.tool_run.proofs.runs.tell_command.Goals as goal

pub returns-in_ok-read_input-in-Replay-clause-prepared : goal.returns-in_ok-read_input-in-Replay-clause-prepared
returns-in_ok-read_input-in-Replay-clause-prepared g c =
    telling-prepared (Replay c.in-Replay.workers) (Some c.args.command) (reading (g.S.Source.left c.args.source.now) (g.S.Source.left c.read_input.new.source) (g.S.Source.faults c.args.source.now) (g.S.Source.faults c.read_input.new.source))
    c.deref.result.now c.tell_replay.result (ap Some c.in-Replay.is) (rw c.deref.ensures.value c.in_ok-read_input-in-Replay.ensures.read) c.tell_replay.ensures

pub returns-in-Drill-clause-prepared : goal.returns-in-Drill-clause-prepared
returns-in-Drill-clause-prepared g c =
    telling-prepared (Drill c.in-Drill.seed c.in-Drill.rows c.in-Drill.workers) (Some c.args.command) (reading (g.S.Source.left c.args.source.now) (g.S.Source.left c.args.source.now) (g.S.Source.faults c.args.source.now) (g.S.Source.faults c.args.source.now))
    [] c.tell_drill.result (ap Some c.in-Drill.is) (refl, refl) c.tell_drill.ensures

pub returns-in_ok-read_input-in-Relay-clause-prepared : goal.returns-in_ok-read_input-in-Relay-clause-prepared
returns-in_ok-read_input-in-Relay-clause-prepared g c =
    telling-prepared (Relay c.in-Relay.workers c.in-Relay.capacity) (Some c.args.command) (reading (g.S.Source.left c.args.source.now) (g.S.Source.left c.read_input-in-Relay.new.source) (g.S.Source.faults c.args.source.now) (g.S.Source.faults c.read_input-in-Relay.new.source))
    c.deref-in-Relay.result.now c.tell_relay.result (ap Some c.in-Relay.is) (rw c.deref-in-Relay.ensures.value c.in_ok-read_input-in-Relay.ensures.read) c.tell_relay.ensures

pub returns-in_ok-read_input-in-Rounds-clause-prepared : goal.returns-in_ok-read_input-in-Rounds-clause-prepared
returns-in_ok-read_input-in-Rounds-clause-prepared g c =
    telling-prepared Rounds (Some c.args.command) (reading (g.S.Source.left c.args.source.now) (g.S.Source.left c.read_input-in-Rounds.new.source) (g.S.Source.faults c.args.source.now) (g.S.Source.faults c.read_input-in-Rounds.new.source))
    c.deref-in-Rounds.result.now c.tell_rounds.result (ap Some c.in-Rounds.is) (rw c.deref-in-Rounds.ensures.value c.in_ok-read_input-in-Rounds.ensures.read) c.tell_rounds.ensures

pub returns-in_ok-read_input-in-Tally-clause-prepared : goal.returns-in_ok-read_input-in-Tally-clause-prepared
returns-in_ok-read_input-in-Tally-clause-prepared g c =
    telling-prepared (Tally c.in-Tally.workers c.in-Tally.grain) (Some c.args.command) (reading (g.S.Source.left c.args.source.now) (g.S.Source.left c.read_input-in-Tally.new.source) (g.S.Source.faults c.args.source.now) (g.S.Source.faults c.read_input-in-Tally.new.source))
    c.deref-in-Tally.result.now c.tell_tally.result (ap Some c.in-Tally.is) (rw c.deref-in-Tally.ensures.value c.in_ok-read_input-in-Tally.ensures.read) c.tell_tally.ensures

pub returns-in_ok-bytes-in-Throttle-clause-prepared : goal.returns-in_ok-bytes-in-Throttle-clause-prepared
returns-in_ok-bytes-in-Throttle-clause-prepared g c =
    telling-prepared (Throttle c.in-Throttle.workers c.in-Throttle.burst c.in-Throttle.rate c.in-Throttle.period) (Some c.args.command) (reading (g.S.Source.left c.args.source.now) (g.S.Source.left c.read_input-in-Throttle.new.source) (g.S.Source.faults c.args.source.now) (g.S.Source.faults c.read_input-in-Throttle.new.source))
    c.deref-in-Throttle.result.now c.tell_throttle.result (ap Some c.in-Throttle.is) (rw c.deref-in-Throttle.ensures.value c.in_ok-bytes-in-Throttle.ensures.read) c.tell_throttle.ensures
