-- `dispatch` of a UDP socket.
use Rattle.std.specs.Prelude.{ℕ, ◌+◌, List, length, Option, None, Some, Result, if◌then◌else◌}
use Rattle.std.specs.Borrow.{Bor}
use Rattle.ip_wire.specs.IpHeader.{ip_header}
use Rattle.ip_wire.specs.declared.address.IpAddress.{IpAddress}
use Rattle.ip_wire.specs.declared.protocol.IpProtocol.TheVariants as protocol
use Rattle.ip_wire.specs.declared.repr.IpRepr.{IpRepr}
use Rattle.control_wire.specs.Datagram.{udp_header_len}
use Rattle.control_wire.specs.declared.udp.UdpRepr.{UdpRepr}
use Rattle.net_base.specs.Packets.{first_packet}
use Rattle.sock_core.specs.Facts.{Facts}
use Rattle.sock_core.specs.Emission.{Emit}
use Rattle.ip_wire.specs.Address.{same_version}
use Rattle.sock_dgram.specs.Addressed.{Dispatches}
use Rattle.sock_dgram.specs.Udp.{View, known_source}
use Rattle.sock_dgram.specs.declared.udp.socket.UdpMetadata.{UdpMetadata}
pub use Rattle.sock_dgram.specs.Addressed.{hops_of}

-- a datagram that goes out
pub record Outgoing : Type 0 where
  pub ip : IpRepr
  pub udp : UdpRepr
  pub payload : List ℕ

-- the address that a datagram is sent from: the one given, else the bound one, else the context's
abbrev pub chosen_source : Option IpAddress → Option IpAddress → Option IpAddress
chosen_source (Some a) asked = Some a
chosen_source None asked = asked

abbrev pub source_of : View → Facts → UdpMetadata → Option IpAddress
source_of v f m = chosen_source (known_source m.local_address v.endpoint.addr) (f.source m.endpoint.addr)

-- a source of another version than the destination counts as none; `send` lets none of these into the queue
abbrev pub from_source : View → UdpMetadata → List ℕ → Option IpAddress → Option Outgoing
from_source v m bs None = None
from_source v m bs (Some src) =
    if same_version src m.endpoint.addr
    then Some (record {
      ip = ip_header src m.endpoint.addr protocol.Udp (udp_header_len + length bs) (hops_of v.hop_limit);
      udp = record { src_port = v.endpoint.port; dst_port = m.endpoint.port };
      payload = bs;
    })
    else None

abbrev pub from_first : View → Facts → Option (UdpMetadata × List ℕ) → Option Outgoing
from_first v f None = None
from_first v f (Some d) = from_source v d.0 d.1 (source_of v f d.0)

-- what is emitted: the first datagram of the queue, where it has a source
abbrev pub outgoing : View → Facts → Option Outgoing
outgoing v f = from_first v f (first_packet v.tx_buffer)

abbrev pub outgoing_of : IpRepr × UdpRepr × Bor (List ℕ) → Outgoing
outgoing_of s = record { ip = s.0; udp = s.1; payload = s.2.now }

abbrev pub outgoing_with : List ℕ → IpRepr × UdpRepr → Outgoing
outgoing_with payload s = record { ip = s.0; udp = s.1; payload = payload }

-- the one call of `emit`, and what becomes of the queue
abbrev pub Dispatched : {F C E : Type 0} → Emit F C (IpRepr × UdpRepr × Bor (List ℕ)) E → F → View → Facts → C
    → Result (Unit {0}) E → C → View → Type 0
Dispatched g f v facts c r c' w = Dispatches (λ x. outgoing x facts) outgoing_of g f v c r c' w
