use Rattle.std.proofs.Common.{arith, map}
use Rattle.pair_core.specs.Holding.{stored_of}
use Rattle.sock_pair.proofs.ReplaySinks.{appends_line, appends_no_line}
use Rattle.sock_pair.proofs.script.output.write_outcomes.Goals as goal

pub loop-outcome-init : goal.loop-outcome-init
loop-outcome-init g c = (appends_no_line (map stored_of c.args.segments.now) _, c.requires)

pub loop-outcome-preserved : goal.loop-outcome-preserved
loop-outcome-preserved g c =
    (appends_line (map stored_of c.args.segments.now) c.args.outcomes.now c.loop-outcome.outcome-index _ _ _ _ (omega (arith, c.loop-outcome-test.true)) c.outcome-item.is c.loop-outcome.invariant.0 c.in_ok-write_outcome.ensures.0, c.in_ok-write_outcome.ensures.1)
