use Rattle.pair_core.specs.PairViews.{host_of}
use Rattle.pair_core.proofs.PairHosts.{host_at}
use Rattle.pair_core.proofs.laws.sides_never_sleep.Goals as goal

pub returns : goal.returns
returns g c = λ p i s f rfc work e. c.never_sleeps_by_rfc.ensures (host_of s p).control_block f (host_at s p i).reached rfc work e
