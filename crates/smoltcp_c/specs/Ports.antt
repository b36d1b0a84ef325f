-- The ports of a packet, which tell most sockets that it is for another one.
use Rattle.std.specs.Prelude.{ℕ, ◌+◌, ◌==◌, ◌&&◌, nat_le, Bool, List, length, Option, Some, None, option_map}
use Rattle.ip_wire.specs.Octets.{be16_at}
use Rattle.ip_wire.specs.Packet.{ipv4_header_len}
use Rattle.ip_wire.specs.Protocol.{version_of_packet}
use Rattle.ip_wire.specs.declared.endpoint.IpEndpoint.{IpEndpoint}
use Rattle.ip_wire.specs.declared.endpoint.IpListenEndpoint.{IpListenEndpoint}
use Rattle.ip_wire.specs.declared.protocol.IpVersion.{IpVersion}
use Rattle.ip_wire.specs.declared.protocol.IpVersion.TheVariants as version
use Rattle.sock_tcp.specs.View.{View}

abbrev pub start_by : Option IpVersion → List ℕ → ℕ
start_by None packet = 0
start_by (Some version.Ipv4) packet = ipv4_header_len packet
start_by (Some version.Ipv6) packet = 40

-- where what the packet carries begins
abbrev pub start_of : List ℕ → ℕ
start_of packet = start_by (version_of_packet packet) packet

-- the ports are those of the two ends, or the destination's that of the listener
abbrev pub ports_by : Option IpEndpoint → Option IpEndpoint → IpListenEndpoint → ℕ → ℕ → Bool
ports_by (Some local) (Some remote) e src dst = (local.port == dst) && (remote.port == src)
ports_by _ _ e src dst = e.port == dst

-- the packet has ports, and they are the socket's
unfoldable pub has_ports : View → List ℕ → Bool
has_ports v packet =
    nat_le (start_of packet + 4) (length packet)
    && ports_by (option_map (λ t. t.local) v.tuple) (option_map (λ t. t.remote) v.tuple) v.listen_endpoint
    (be16_at packet (start_of packet)) (be16_at packet (start_of packet + 2))
