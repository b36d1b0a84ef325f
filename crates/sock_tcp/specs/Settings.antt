-- What a user may set, and what is seen of it.
use Rattle.std.specs.Prelude.{ℕ, pos, max, min, ◌/◌, Option, Some, None}
use Rattle.net_base.specs.declared.time.Duration.{Duration}
use Rattle.sock_core.specs.Congestion.{fresh_cubic, fresh_reno}
use Rattle.sock_core.specs.declared.congestion.AnyController.{AnyController}
use Rattle.sock_core.specs.declared.congestion.AnyController.TheVariants as controller
use Rattle.sock_tcp.specs.declared.settings.CongestionControl.{CongestionControl}
use Rattle.sock_tcp.specs.declared.settings.CongestionControl.TheVariants as kind
use Rattle.sock_tcp.specs.declared.timer.Timer.{Timer}
use Rattle.sock_tcp.specs.declared.timer.Timer.TheVariants as timer

-- ---- congestion control

abbrev pub kind_of : AnyController → CongestionControl
kind_of (controller.None c) = kind.None
kind_of (controller.Reno r) = kind.Reno
kind_of (controller.Cubic c) = kind.Cubic

-- a new controller of the kind
abbrev pub of_kind : CongestionControl → AnyController
of_kind kind.None = controller.None (record {})
of_kind kind.Reno = controller.Reno fresh_reno
of_kind kind.Cubic = controller.Cubic fresh_cubic

-- ---- the lowest retransmission timeout

-- in whole milliseconds, between one and a minute
abbrev pub least_timeout_of : Duration → ℕ
least_timeout_of d = max 1 (min (d.micros / 1000) 60000)

-- ---- keep-alives

-- an interval set while no keep-alive is to come starts the first at once
abbrev pub keep_alive_timer : Option Duration → Timer → Timer
keep_alive_timer (Some interval) (timer.Idle None) = timer.Idle (Some (record { micros = pos 0 }))
keep_alive_timer interval t = t
