-- What holds of every pair.
use Rattle.std.specs.Prelude.{◌≡◌, ◌<◌, ◌≤◌, ◌^◌, [], None, false, slice_get}
use Rattle.std.specs.Option.{ForSome}
use Rattle.ip_wire.specs.Address.{SameVersion, is_unspecified}
use Rattle.ip_wire.specs.declared.endpoint.IpEndpoint.{IpEndpoint}
use Rattle.sock_core.specs.Received.{room_of}
use Rattle.sock_tcp.specs.Queue.{capacity}
use Rattle.sock_tcp.specs.View.{View, FinSays}
use Rattle.tcp_laws.specs.Awake.{IsReachedByOwn}
use Rattle.sock_tcp.specs.declared.state.State.TheVariants as state
use Rattle.pair_core.specs.NetworkInvariant.{IsInvariant}
use Rattle.pair_core.specs.PairAddresses.{AllGo, HasPeer, endpoint_at}
use Rattle.pair_core.specs.PairNetwork.{is_listener, is_passive, network_of, IsSmall}
use Rattle.pair_core.specs.PairViews.{HostView, PairView}
use Rattle.pair_core.specs.declared.event.Event.{Event}
use Rattle.pair_core.specs.declared.event.Event.TheVariants as event
use Rattle.pair_core.specs.declared.host.Opening.TheVariants as opening

-- a socket that was never opened
pub record IsIdle (v : View) : Type 0 where
  pub state : v.state ≡ state.Closed
  pub tuple : v.tuple ≡ None
  pub rx : v.rx_buffer.bytes ≡ []
  pub tx : v.tx_buffer.bytes ≡ []
  pub no_fin : v.rx_fin_received ≡ false

-- an endpoint that can be listened on and connected to
pub record IsReachable (e : IpEndpoint) : Type 0 where
  pub port : 0 < e.port
  pub addr : is_unspecified e.addr ≡ false

pub record IsHost {G : Type 0} (h : HostView G) : Type 0 where
  pub reachable : IsReachable h.endpoint
  pub idle : h.opening ≡ opening.Unopened → IsIdle h.control_block
  -- a socket that is not CLOSED listens on a port exactly where it was opened by listen
  pub passive : (h.opening ≡ opening.Unopened → ⊥) → (h.control_block.state ≡ state.Closed → ⊥)
      → is_passive h.control_block ≡ is_listener h.opening
  -- its socket is what some list of calls, each by the socket's own rules, makes of a new one
  pub reached : IsReachedByOwn h.control_block

-- both sockets can be connected, and each to the other alone; segments go from the one to the other; and the network
-- that the pair shows meets the invariant of the theorem on two streams
pub record IsPair {G : Type 0} (p : PairView G) : Type 0 where
  pub a : IsHost p.a
  pub b : IsHost p.b
  pub versions : SameVersion p.a.endpoint.addr p.b.endpoint.addr
  pub peer_of_a : HasPeer p.a p.b.endpoint
  pub peer_of_b : HasPeer p.b p.a.endpoint
  pub segments : AllGo (endpoint_at p) p.segments
  pub network : IsInvariant (network_of p)

-- ---- what the types of a pair say of its numbers

-- a segment that is delivered has numbers of 32 bits
abbrev pub DeliversSmall : {G : Type 0} → Event → PairView G → Type 0
DeliversSmall (event.Deliver i m) p = ForSome (slice_get p.segments i) (λ t. IsSmall t.segment)
DeliversSmall _ p = Unit {0}

-- buffers have at most 2^30 bytes, and a FIN is counted only in a state that tells of one
pub record IsSocket (v : View) : Type 0 where
  pub receive : room_of v.rx_buffer ≤ 2 ^ 30
  pub transmit : capacity v.tx_buffer ≤ 2 ^ 30
  pub fin : FinSays v.state v.rx_fin_received

-- what the types say of a pair and of an event of it
pub record IsSized {G : Type 0} (e : Event) (p : PairView G) : Type 0 where
  pub a : IsSocket p.a.control_block
  pub b : IsSocket p.b.control_block
  pub delivered : DeliversSmall e p
