-- When a socket with work to do is to be called again.
use Rattle.std.specs.Prelude.{◌≡◌, ◌⊎◌, Some, None, true}
use Rattle.net_base.specs.declared.time.Duration.{Duration}
use Rattle.net_base.specs.declared.time.Instant.{Instant}
use Rattle.sock_core.specs.Facts.{Facts}
use Rattle.sock_tcp.specs.Poll.{poll_moment}
use Rattle.sock_tcp.specs.Timers.{after}
use Rattle.sock_tcp.specs.View.{View}
use Rattle.sock_tcp.specs.Work.{has_work}
use Rattle.sock_tcp.specs.declared.tuple.Tuple.{Tuple}
use Rattle.tcp_laws.specs.Clocks.{IsReachedBy}
use Rattle.tcp_laws.specs.Polling.{ComesBy, Sleeps}

-- With a peer, with work to do and without a user timeout, it sleeps as `Sleeps` says, or is to be called at the latest
-- so long after the latest moment told
abbrev pub WorkWakesOrSleeps : Type 0
WorkWakesOrSleeps = (v : View) (last : Instant) (most : Duration) (t : Tuple) (f : Facts)
    → IsReachedBy v last most
    → v.tuple ≡ Some t
    → v.timeout ≡ None
    → has_work v ≡ true
    → Sleeps v ⊎ ComesBy (poll_moment v f) (after last most)
