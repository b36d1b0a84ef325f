-- Who sends to whom: each side's peer is the other side, and segments go from the one to the other.
use Rattle.std.specs.Prelude.{◌≡◌, List, [], ◌∷◌}
use Rattle.ip_wire.specs.IpHeader.{src_addr_of, dst_addr_of}
use Rattle.ip_wire.specs.declared.endpoint.IpEndpoint.{IpEndpoint}
use Rattle.tcp_laws.specs.Laws.{IsPeered}
use Rattle.sock_tcp.specs.declared.tuple.Tuple.{Tuple}
use Rattle.pair_core.specs.PairViews.{HostView, StoredView, PairView, host_of}
use Rattle.pair_core.specs.Sides.{other_side}
use Rattle.pair_core.specs.declared.side.Side.{Side}

-- both endpoints of a side's connection
abbrev pub tuple_to : {G : Type 0} → HostView G → IpEndpoint → Tuple
tuple_to h remote = record { local = h.endpoint; remote = remote }

-- the peer of the side's socket, where it has one, is at this endpoint
abbrev pub HasPeer : {G : Type 0} → HostView G → IpEndpoint → Type 0
HasPeer h remote = IsPeered h.control_block.state h.control_block.tuple (tuple_to h remote)

-- the segment goes from the one endpoint to the other
pub record GoesFrom (k : StoredView) (here there : IpEndpoint) : Type 0 where
  pub src_addr : src_addr_of k.ip ≡ here.addr
  pub src_port : k.segment.src_port ≡ here.port
  pub dst_addr : dst_addr_of k.ip ≡ there.addr
  pub dst_port : k.segment.dst_port ≡ there.port

-- each segment goes from its emitter to the other side, where the sides have these endpoints
abbrev pub AllGo : (Side → IpEndpoint) → List StoredView → Type 0
AllGo ends [] = Unit {0}
AllGo ends (k ∷ ks) = GoesFrom k (ends k.emitter) (ends (other_side k.emitter)) × AllGo ends ks

abbrev pub endpoint_at : {G : Type 0} → PairView G → Side → IpEndpoint
endpoint_at p s = (host_of s p).endpoint
