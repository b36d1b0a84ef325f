-- What a UDP socket emits is a packet.
use Rattle.std.proofs.Common.{◌≡◌, ℕ, ◌+◌, ◌≤◌, List, length, Bool, true, false, Option, Some, None, refl, subst}
use Rattle.std.specs.Prelude.{IfSome, if◌then◌else◌}
use Rattle.ip_wire.specs.IpHeader.{ip_header, next_header_of, payload_len_of}
use Rattle.ip_wire.specs.declared.address.IpAddress.{IpAddress}
use Rattle.ip_wire.specs.declared.address.IpAddress.TheVariants as address
use Rattle.ip_wire.specs.declared.protocol.IpProtocol.TheVariants as protocol
use Rattle.control_wire.specs.declared.udp.UdpRepr.{UdpRepr}
use Rattle.sock_core.specs.Facts.{Facts}
use Rattle.sock_dgram.specs.Udp.{View}
use Rattle.sock_dgram.specs.UdpDispatch.{Outgoing, from_first, from_source, outgoing, source_of}
use Rattle.sock_dgram.specs.declared.udp.socket.UdpMetadata.{UdpMetadata}
use Rattle.net_base.specs.Packets.{first_packet}
use Rattle.smoltcp_c.specs.Udp.{CountsDatagram, datagram_len}

-- the header counts the payload
abbrev Counted : Outgoing → Type 0
Counted o = (payload_len_of o.ip ≡ 8 + length o.payload) × (next_header_of o.ip ≡ protocol.Udp)

headed : (test : Bool) (src dst : IpAddress) (u : UdpRepr) (bs : List ℕ) (hops : ℕ) → IfSome (if test then Some (record { ip = ip_header src dst protocol.Udp (8 + length bs) hops; udp = u; payload = bs }) else None) Counted
headed false src dst u bs hops = tt
headed true (address.Ipv4 a) (address.Ipv4 b) u bs hops = (refl, refl)
headed true (address.Ipv6 a) (address.Ipv6 b) u bs hops = (refl, refl)
headed true (address.Ipv4 a) (address.Ipv6 b) u bs hops = (refl, refl)
headed true (address.Ipv6 a) (address.Ipv4 b) u bs hops = (refl, refl)

of_source : (v : View) (m : UdpMetadata) (bs : List ℕ) (s : Option IpAddress) → IfSome (from_source v m bs s) Counted
of_source v m bs None = tt
of_source v m bs (Some src) = headed _ src m.endpoint.addr _ bs _

of_first : (v : View) (f : Facts) (d : Option (UdpMetadata × List ℕ)) → IfSome (from_first v f d) Counted
of_first v f None = tt
of_first v f (Some d) = of_source v d.0 d.1 (source_of v f d.0)

pub counted : (v : View) (f : Facts) (o : Outgoing) → outgoing v f ≡ Some o → datagram_len o ≤ 65535 → CountsDatagram o.ip o.payload
counted v f o e short =
    let c : Counted o = subst (λ x. IfSome x Counted) e (of_first v f (first_packet v.tx_buffer)) in
    record { octets = c.0; total = short; protocol = c.1 }
