-- A restart of the congestion window after idle time (RFC 5681, section 4.1).
use Rattle.std.specs.Prelude.{Option, Some, None, Bool, false, if◌then◌else◌}
use Rattle.net_base.specs.declared.time.Instant.{Instant}
use Rattle.sock_core.specs.Congestion.{restarted}
use Rattle.sock_core.specs.Estimator.{Estimator}
use Rattle.sock_core.specs.declared.congestion.AnyController.{AnyController}
use Rattle.sock_tcp.specs.Timers.{after, is_over, rto_of}
use Rattle.sock_tcp.specs.declared.rules.Rules.{Rules}
use Rattle.sock_tcp.specs.declared.rules.Rules.TheVariants as rules

-- nothing was sent for a retransmission timeout
abbrev pub was_idle : Option Instant → Instant → Bool
was_idle None now = false
was_idle (Some at) now = is_over at now

-- the controller, once something goes out that takes numbers
abbrev pub restarted_by : Rules → Option Instant → Instant → AnyController → AnyController
restarted_by rules.Smoltcp at now c = c
restarted_by rules.Rfc at now c = if was_idle at now then restarted c else c

-- and from when on the socket is idle then
abbrev pub idle_by : Rules → Option Instant → Instant → Estimator → Option Instant
idle_by rules.Smoltcp at now e = at
idle_by rules.Rfc at now e = Some (after now (rto_of e))
