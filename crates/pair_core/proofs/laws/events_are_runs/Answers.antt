use Rattle.pair_core.proofs.PairReaches.{event_reaches, new_shows}
use Rattle.pair_core.proofs.laws.events_are_runs.Goals as goal

pub returns : goal.returns
returns g c = record { begins = new_shows; step = event_reaches g.G.TsvalSource.tells }
