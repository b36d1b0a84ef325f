-- The network of the theorem on two streams that a pair shows.
use Rattle.std.specs.Prelude.{ℕ, ◌<◌, ◌≤◌, ◌^◌, length, List, [], ◌∷◌, Bool, true, false, not, ◌==◌, option_map}
use Rattle.std.specs.declared.option.Option.{Option}
use Rattle.std.specs.Option.{ForSome}
use Rattle.control_wire.specs.Segment.{Segment}
use Rattle.control_wire.specs.declared.tcp.TcpControl.{TcpControl}
use Rattle.control_wire.specs.declared.tcp.TcpControl.TheVariants as control
use Rattle.sock_core.specs.Received.{byte_at}
use Rattle.sock_tcp.specs.View.{View}
use Rattle.sock_tcp.specs.Window.{next_ack}
use Rattle.sock_tcp.specs.declared.state.State.{State}
use Rattle.sock_tcp.specs.declared.state.State.TheVariants as state
use Rattle.pair_core.specs.StreamViews.{Phase, SocketView, StreamSegment}
use Rattle.pair_core.specs.StreamViews as phase
use Rattle.pair_core.specs.Network.{Endpoint, Network}
use Rattle.pair_core.specs.NetworkRuns.{unopened}
use Rattle.pair_core.specs.PairViews.{HostView, StoredView, PairView}
use Rattle.pair_core.specs.Sides.{other_side}
use Rattle.pair_core.specs.declared.host.Opening.{Opening}
use Rattle.pair_core.specs.declared.host.Opening.TheVariants as opening
use Rattle.pair_core.specs.declared.side.Side.{Side}
use Rattle.pair_core.specs.declared.side.Side.TheVariants.{A, B}

-- ---- one socket, after its opening call

abbrev pub phase_of : State → Phase
phase_of state.Closed = phase.Dead
phase_of state.Listen = phase.Listening
phase_of state.SynSent = phase.SynSent
phase_of state.SynReceived = phase.SynReceived
phase_of state.Established = phase.Open
phase_of state.CloseWait = phase.Open
phase_of state.FinWait1 = phase.FinQueued
phase_of state.Closing = phase.FinQueued
phase_of state.LastAck = phase.FinQueued
phase_of state.FinWait2 = phase.Silent
phase_of state.TimeWait = phase.Silent

-- it was opened by listen: exactly then the port that it listens on is not zero
abbrev pub is_passive : View → Bool
is_passive v = not (v.listen_endpoint.port == 0)

abbrev pub shown : View → SocketView
shown v =
    record {
      phase = phase_of v.state;
      snd_una = v.local_seq_no.0;
      snd_nxt = v.remote_last_seq.0;
      rcv_nxt = (next_ack v).0;
      transmit_queue = v.tx_buffer.bytes;
      receive_queue = v.rx_buffer.bytes;
      held = byte_at v.rx_buffer.held;
      fin_counted = v.rx_fin_received;
    }

abbrev pub seen : Opening → View → SocketView
seen opening.Unopened v = unopened.view
seen opening.Listener v = shown v
seen opening.Connector v = shown v

abbrev pub is_listener : Opening → Bool
is_listener opening.Unopened = false
is_listener opening.Listener = true
is_listener opening.Connector = false

abbrev pub endpoint_of : {G : Type 0} → HostView G → Endpoint
endpoint_of h =
    record {
      view = seen h.opening h.control_block;
      accepted = h.accepted;
      handed_out = h.handed_out;
      released = h.released;
      taken = h.taken;
      closed = h.closed;
      listener = is_listener h.opening;
    }

-- ---- segments

abbrev pub is_syn : TcpControl → Bool
is_syn control.Syn = true
is_syn _ = false

abbrev pub is_rst : TcpControl → Bool
is_rst control.Rst = true
is_rst _ = false

abbrev pub is_fin : TcpControl → Bool
is_fin control.Fin = true
is_fin _ = false

abbrev pub stream_segment : Segment → ℕ → ℕ → StreamSegment
stream_segment s released taken =
    record {
      syn = is_syn s.control;
      rst = is_rst s.control;
      fin = is_fin s.control;
      seq = s.seq_number.0;
      payload = s.payload;
      ack = option_map (λ a. a.0) s.ack_number;
      released_at = released;
      taken_at = taken;
    }

abbrev pub shown_segment : StoredView → StreamSegment
shown_segment k = stream_segment k.segment k.released_at k.taken_at

abbrev pub kept_if : Side → Side → StreamSegment → List StreamSegment → List StreamSegment
kept_if A A g gs = g ∷ gs
kept_if B B g gs = g ∷ gs
kept_if _ _ g gs = gs

-- what a side emitted, in order
abbrev pub sent_by : Side → List StoredView → List StreamSegment
sent_by s [] = []
sent_by s (k ∷ ks) = kept_if s k.emitter (shown_segment k) (sent_by s ks)

-- ---- the pair

abbrev pub network_at : {G : Type 0} → Side → HostView G → HostView G → List StoredView → Option ℕ → Network
network_at s h o ks limit =
    record {
      local = endpoint_of h;
      remote = endpoint_of o;
      local_segments = sent_by s ks;
      remote_segments = sent_by (other_side s) ks;
      limit = limit;
    }

-- as side A sees it
abbrev pub network_of : {G : Type 0} → PairView G → Network
network_of p = network_at A p.a p.b p.segments p.limit

-- the numbers of a segment have 32 bits, and its payload has at most 65535 bytes
pub record IsSmall (s : Segment) : Type 0 where
  pub payload : length s.payload ≤ 65535
  pub seq : s.seq_number.0 < 2 ^ 32
  pub ack : ForSome s.ack_number (λ a. a.0 < 2 ^ 32)
