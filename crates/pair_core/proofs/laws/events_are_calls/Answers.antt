use Rattle.tcp_laws.proofs.Awake.{reached_by_own}
use Rattle.pair_core.proofs.PairCalled.{event_called}
use Rattle.pair_core.proofs.PairHosts.{host_at}
use Rattle.pair_core.proofs.laws.events_are_calls.Goals as goal

pub returns : goal.returns
returns g c = record { step = event_called g.G.TsvalSource.tells; reached = λ p i s. reached_by_own _ (host_at s p i).reached }
