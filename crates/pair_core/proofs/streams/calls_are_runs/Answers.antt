use Rattle.pair_core.proofs.NetworkReaches.{begins_reach, delivery_reaches, emission_reaches}
use Rattle.pair_core.proofs.streams.calls_are_runs.Goals as goal

pub returns : goal.returns
returns c = record { delivery = λ w g v answer come. delivery_reaches w g come v answer; beginning = begins_reach; emission = emission_reaches }
