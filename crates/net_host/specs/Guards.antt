-- The limits that a host sets its TCP connections.
use Rattle.std.specs.Prelude.{ℕ, min, ◌/◌, ◌%◌, ◌==◌, ◌&&◌, nat_lt, Bool, true, false, length, Option, Some, None}
use Rattle.std.specs.Prelude.{if◌then◌else◌}
use Rattle.net_base.specs.declared.time.Duration.{Duration}
use Rattle.net_base.specs.declared.time.Instant.{Instant}
use Rattle.control_wire.specs.Seq.{seq_eq}
use Rattle.control_wire.specs.declared.seq_number.TcpSeqNumber.{TcpSeqNumber}
use Rattle.sock_core.specs.declared.context.PollAt.{PollAt}
use Rattle.sock_core.specs.declared.context.PollAt.TheVariants as poll
use Rattle.sock_tcp.specs.Closing.{aborted}
use Rattle.sock_tcp.specs.Opening.{listened}
use Rattle.sock_tcp.specs.Polls.{earlier}
use Rattle.sock_tcp.specs.Timers.{after, is_over}
use Rattle.sock_tcp.specs.View.{View}
use Rattle.sock_tcp.specs.declared.state.State.{State}
use Rattle.sock_tcp.specs.declared.state.State.TheVariants as state
use Rattle.host_guard.specs.Guarding.{first_seen, may_dispatch, not_before, pace}
use Rattle.net_host.specs.declared.guard.GuardSettings.{GuardSettings}
use Rattle.net_host.specs.declared.guard.Phase.{Phase}
use Rattle.net_host.specs.declared.guard.Phase.TheVariants as phase

-- ---- the settings

abbrev pub seconds : ℕ → Option Duration
seconds n = Some (record { micros = n })

abbrev pub usual : GuardSettings
usual = record {
  handshake = seconds 30000000;
  closing = seconds 60000000;
  window = seconds 120000000;
  timeout = seconds 60000000;
}

abbrev pub no_limits : GuardSettings
no_limits = record { handshake = None; closing = None; window = None; timeout = None }

-- whether there is the one of this place, as they are stored: one number of digits
abbrev pub is_given : ℕ → ℕ → Bool
is_given given place = given / place % 2 == 1

-- as it is stored: whether there is one, and its microseconds
abbrev pub limit_from : Bool → ℕ → Option Duration
limit_from false n = None
limit_from true n = Some (record { micros = n })

-- at most 2^60 microseconds
abbrev pub lawful_limit : Option Duration → Option Duration
lawful_limit None = None
lawful_limit (Some d) = Some (record { micros = min d.micros 1152921504606846976 })

-- ---- the phases that only the peer can end

-- bytes wait, whatever the window
abbrev pub stuck_by : Bool → TcpSeqNumber → Phase
stuck_by false una = phase.Stuck una
stuck_by true una = phase.Free

-- in FIN-WAIT-1, CLOSING and LAST-ACK the FIN waits, if no byte does
abbrev pub phase_in : State → Bool → TcpSeqNumber → Phase
phase_in state.SynReceived empty una = phase.Handshake
phase_in state.FinWait1 empty una = phase.Closing una
phase_in state.FinWait2 empty una = phase.FinWait2
phase_in state.Closing empty una = phase.Closing una
phase_in state.LastAck empty una = phase.Closing una
phase_in state.Established empty una = stuck_by empty una
phase_in state.CloseWait empty una = stuck_by empty una
phase_in _ empty una = phase.Free

abbrev pub phase_of : View → Phase
phase_of v = phase_in v.state (length v.tx_buffer.bytes == 0) v.local_seq_no

-- with a byte or the FIN acknowledged, the wait begins anew; a state that is left for another does not begin it anew
abbrev pub same_phase : Phase → Phase → Bool
same_phase phase.Handshake phase.Handshake = true
same_phase phase.FinWait2 phase.FinWait2 = true
same_phase (phase.Stuck a) (phase.Stuck b) = seq_eq a b
same_phase (phase.Stuck a) (phase.Closing b) = seq_eq a b
same_phase (phase.Closing a) (phase.Stuck b) = seq_eq a b
same_phase (phase.Closing a) (phase.Closing b) = seq_eq a b
same_phase _ _ = false

abbrev pub limit_of : GuardSettings → Phase → Option Duration
limit_of g phase.Free = None
limit_of g phase.Handshake = lawful_limit g.handshake
limit_of g (phase.Stuck a) = lawful_limit g.window
limit_of g _ = lawful_limit g.closing

-- ---- what is remembered of a socket

-- since when it is in its phase: the earlier of what was known and now
abbrev pub since_by : Bool → Option Instant → Instant → Option Instant
since_by true (Some t) now = Some (first_seen (Some t) now)
since_by _ since now = Some now

abbrev pub since_in : Phase → Phase → Option Instant → Instant → Option Instant
since_in phase.Free before since now = None
since_in p before since now = since_by (same_phase p before) since now

-- when the phase is to end
abbrev pub end_of : Option Duration → Option Instant → Option Instant
end_of (Some limit) (Some since) = Some (after since limit)
end_of limit since = None

abbrev pub end_in : GuardSettings → Phase → Phase → Option Instant → Instant → Option Instant
end_in g p before since now = end_of (limit_of g p) (since_in p before since now)

abbrev pub has_ended : Option Instant → Instant → Bool
has_ended None now = false
has_ended (Some t) now = is_over t now

-- nothing is remembered of what was ended
abbrev pub phase_left : Bool → Phase → Phase
phase_left true p = phase.Free
phase_left false p = p

abbrev pub moment_left : Bool → Option Instant → Option Instant
moment_left true t = None
moment_left false t = t

-- the last dispatch in FIN-WAIT-2
abbrev pub last_left : Bool → Phase → Option Instant → Option Instant
last_left false phase.FinWait2 last = last
last_left _ p last = None

-- ---- what becomes of the socket

abbrev pub with_timeout : Option Duration → View → View
with_timeout None v = v
with_timeout (Some t) v = record v { timeout = Some t }

-- a handshake is given up with no RST: the socket listens again, where it did
abbrev pub given_up : View → View
given_up v = if v.listen_endpoint.port == 0 then aborted v else listened (aborted v) v.listen_endpoint

abbrev pub ended : Phase → View → View
ended phase.Handshake v = given_up v
ended _ v = aborted v

abbrev pub ended_if : Bool → Phase → View → View
ended_if true p v = ended p v
ended_if false p v = v

-- a socket that was looked at has the user timeout, and is ended where its phase has lasted too long
abbrev pub watched : GuardSettings → Bool → View → View
watched g over v = ended_if over (phase_of v) (with_timeout (lawful_limit g.timeout) v)

-- ---- turns

-- in FIN-WAIT-2 not too soon
abbrev pub may_in : Phase → Option Instant → Instant → Bool
may_in phase.FinWait2 last now = may_dispatch last last now
may_in p last now = true

-- not too often at this moment, and not too soon
abbrev pub may_take : ℕ → Phase → Option Instant → Instant → Bool
may_take taken p last now = nat_lt taken 64 && may_in p last now

-- the last dispatch in FIN-WAIT-2, after one was asked for and allowed or not
abbrev pub last_after : Bool → Phase → Option Instant → Instant → Option Instant
last_after true phase.FinWait2 last now = Some now
last_after may p last now = last

abbrev pub paced : Phase → Option Instant → PollAt → PollAt
paced phase.FinWait2 (Some t) asked = not_before (after t pace) asked
paced p last asked = asked

abbrev pub with_end : Option Instant → PollAt → PollAt
with_end None asked = asked
with_end (Some t) asked = earlier asked (poll.Time t)

-- when a host looks at the socket again
abbrev pub guarded_poll : Phase → Option Instant → Option Instant → PollAt → PollAt
guarded_poll p end last asked = with_end end (paced p last asked)
