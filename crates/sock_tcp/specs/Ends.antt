-- When TIME-WAIT ends.
use Rattle.std.specs.Prelude.{Option, Some, None}
use Rattle.net_base.specs.declared.time.Instant.{Instant}
use Rattle.sock_tcp.specs.declared.timer.Timer.{Timer}
use Rattle.sock_tcp.specs.declared.timer.Timer.TheVariants as timer

abbrev pub close_end : Timer → Option Instant
close_end (timer.Close t) = Some t
close_end _ = None
