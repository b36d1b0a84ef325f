use Rattle.std.proofs.Common.{◌≡◌, ◌∷◌, [], ◌++◌, length, refl, ap, ◌∙◌, arith, length-append}
use Rattle.pair_core.specs.PairNetwork.{network_of}
use Rattle.pair_core.proofs.NetworkReaches.{reach_then, stays_there}
use Rattle.pair_core.proofs.Running.{ran_more, ran_none}
use Rattle.pair_core.proofs.pair.Pair.run.Goals as goal

pub loop-event-init : goal.loop-event-init
loop-event-init g c = (stays_there _ _ refl, c.keeps_order.ensures.prefix, c.keeps_order.ensures.begins, c.keeps_order.ensures.release, ran_none g.G.TsvalSource.tells _ _ _, omega arith)

pub loop-event-preserved : goal.loop-event-preserved
loop-event-preserved g c = (
  reach_then (network_of c.args.self.now) (network_of c.loop-event.self) (network_of c.step.new.self) c.loop-event.invariant.0 c.in_ok-outcome.ensures.streams,
  c.in_ok-outcome.ensures.prefix,
  c.in_ok-outcome.ensures.begins,
  c.in_ok-outcome.ensures.release,
  ran_more g.G.TsvalSource.tells c.args.events.now c.loop-event.event-index c.event-item.result c.args.self.now c.loop-event.self c.step.new.self c.args.outcomes.now.items c.loop-event.outcomes.items c.push_reserved.new.self.items c.in_ok-outcome.outcome
      (omega (arith, c.loop-event-test.true)) c.event-item.is c.loop-event.invariant.5 c.loop-event.invariant.4
      (record { step = c.in_ok-outcome.ensures.step; prefix = c.in_ok-outcome.ensures.prefix; release = c.in_ok-outcome.ensures.release; complete = c.in_ok-outcome.ensures.complete; prompt = c.in_ok-outcome.ensures.prompt }) pushed,
  omega (arith, ap length pushed, length-append c.loop-event.outcomes.items (c.in_ok-outcome.outcome ∷ []), c.loop-event.invariant.5),
)
  where
    pushed : c.push_reserved.new.self.items ≡ c.loop-event.outcomes.items ++ c.in_ok-outcome.outcome ∷ []
    pushed = c.push_reserved.ensures.items ∙ ap (λ xs. xs ++ c.in_ok-outcome.outcome ∷ []) c.reserve.ensures.items
