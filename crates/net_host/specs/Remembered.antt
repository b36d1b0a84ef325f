-- What a guard remembers of its socket.
use Rattle.std.specs.Prelude.{ℕ, ℤ, negsuc, ◌<ℤ◌, Option, Some, None, if◌then◌else◌}
use Rattle.std.specs.Option.{ForSome}
use Rattle.std.specs.Ordering.{int_eq}
use Rattle.net_base.specs.declared.time.Instant.{Instant}
use Rattle.control_wire.specs.declared.seq_number.TcpSeqNumber.{TcpSeqNumber}
use Rattle.net_host.specs.declared.guard.Kind.{Kind}
use Rattle.net_host.specs.declared.guard.Kind.TheVariants as kind
use Rattle.net_host.specs.declared.guard.Phase.{Phase}
use Rattle.net_host.specs.declared.guard.Phase.TheVariants as phase

pub record Remembered : Type 0 where
  -- what the peer is waited for, since when, and when that is to end
  pub phase : Phase
  pub since : Option Instant
  pub end : Option Instant
  -- the last dispatch in FIN-WAIT-2
  pub last : Option Instant
  -- the last dispatch, and how many there were at that moment
  pub moment : Option Instant
  pub taken : ℕ

abbrev pub nothing : Remembered
nothing = record { phase = phase.Free; since = None; end = None; last = None; moment = None; taken = 0 }

-- ---- as it is stored

-- a moment by its microseconds; the least number is none
abbrev pub moment_from : ℤ → Option Instant
moment_from m = if int_eq m (negsuc 9223372036854775807) then None else Some (record { micros = m })

-- so it has such a number
abbrev pub IsTold : Option Instant → Type 0
IsTold moment = ForSome moment (λ t. negsuc 9223372036854775807 <ℤ t.micros)

abbrev pub phase_from : Kind → TcpSeqNumber → Phase
phase_from kind.Free n = phase.Free
phase_from kind.Handshake n = phase.Handshake
phase_from kind.FinWait2 n = phase.FinWait2
phase_from kind.Closing n = phase.Closing n
phase_from kind.Stuck n = phase.Stuck n
