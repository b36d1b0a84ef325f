-- What a guard sees of its socket.
use Rattle.std.specs.Prelude.{◌≡◌, Bool, true, false}
use Rattle.net_base.specs.declared.time.Instant.{Instant}
use Rattle.sock_tcp.specs.Timers.{IsLastTs}
use Rattle.sock_tcp.specs.View.{View}
use Rattle.sock_tcp.specs.declared.state.State.{State}
use Rattle.sock_tcp.specs.declared.state.State.TheVariants as state
use Rattle.smoltcp_socket.specs.declared.socket.Socket.{Socket}
use Rattle.smoltcp_socket.specs.declared.socket.Socket.TheVariants as socket
use Rattle.std.specs.Prelude.{Option, Some}
use Rattle.net_host.specs.Guards.{end_in, phase_of, since_in}
use Rattle.net_host.specs.Remembered.{Remembered as Guard, moment_from, phase_from}
use Rattle.net_host.specs.declared.guard.GuardSettings.{GuardSettings}
use Rattle.net_host.specs.declared.guard.Kind.{Kind}
use Rattle.net_host.specs.declared.guard.Kind.TheVariants as kind
use Rattle.net_host.specs.declared.sight.Sight.{Sight}
use Rattle.net_host.specs.declared.slot.Slot.{Slot}

-- what the peer is waited for, by the state alone: being stuck where more has to be known
abbrev pub kind_in : State → Kind
kind_in state.SynReceived = kind.Handshake
kind_in state.FinWait1 = kind.Closing
kind_in state.FinWait2 = kind.FinWait2
kind_in state.Closing = kind.Closing
kind_in state.LastAck = kind.Closing
kind_in state.Established = kind.Stuck
kind_in state.CloseWait = kind.Stuck
kind_in _ = kind.Free

abbrev pub kind_by : Kind → Bool → Kind
kind_by kind.Stuck true = kind.Free
kind_by kind.Stuck false = kind.Stuck
kind_by k empty = k

-- as a look would remember it, were it not over
pub record IsSight (st : GuardSettings) (now : Instant) (v : View) (g : Guard) (s : Sight) : Type 0 where
  pub phase : phase_from s.kind s.number ≡ phase_of v
  pub since : moment_from s.since ≡ since_in (phase_of v) g.phase g.since now
  pub end : moment_from s.end ≡ end_in st (phase_of v) g.phase g.since now
  pub lawful : IsLastTs (moment_from s.since)

abbrev pub IsSightIn : {G : Type 0} → GuardSettings → Instant → Option (Socket G) → Guard → Sight → Type 0
IsSightIn st now (Some (socket.Tcp x)) g s = IsSight st now x.control_block g s
IsSightIn st now o g s = Unit {0}

abbrev pub IsSightOf : {G : Type 0} → GuardSettings → Instant → Sight → Slot G → Type 0
IsSightOf st now s slot = IsSightIn st now slot.socket slot.guard s
