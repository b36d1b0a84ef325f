-- Which ICMP messages a socket takes, and what becomes of them.
use Rattle.std.specs.Prelude.{ℕ, ◌≡◌, List, Some}
use Rattle.std.specs.Option.{ForSome}
use Rattle.ip_wire.specs.Checksum.{all_checksums, is_received}
use Rattle.ip_wire.specs.declared.address.IpAddress.{IpAddress}
use Rattle.ip_wire.specs.declared.address.IpAddress.TheVariants as address
use Rattle.ip_wire.specs.declared.repr.Ipv4Repr.{Ipv4Repr}
use Rattle.ip_wire.specs.declared.repr.Ipv6Repr.{Ipv6Repr}
use Rattle.control_wire.specs.Icmp.{Message, Request, Reply, Unreachable, Exceeded, Problem, message_len, icmpv4_octets}
use Rattle.control_wire.specs.Icmp.{icmpv6_octets}
use Rattle.control_wire.specs.Source.{tcp_source, udp_source}
use Rattle.ip_wire.specs.declared.checksum.Checksum.TheVariants as checksum
use Rattle.net_base.specs.Packets.{Packets}
use Rattle.sock_core.specs.Facts.{Facts}
use Rattle.sock_dgram.specs.Datagrams.{stored_as}
use Rattle.sock_dgram.specs.declared.icmp.endpoint.Endpoint.{Endpoint}
use Rattle.sock_dgram.specs.declared.icmp.endpoint.Endpoint.TheVariants as endpoint

-- the addresses of a packet
pub record Ends : Type 0 where
  pub src : IpAddress
  pub dst : IpAddress

abbrev pub ends_v4 : Ipv4Repr → Ends
ends_v4 h = record { src = address.Ipv4 h.src_addr; dst = address.Ipv4 h.dst_addr }

abbrev pub ends_v6 : Ipv6Repr → Ends
ends_v6 h = record { src = address.Ipv6 h.src_addr; dst = address.Ipv6 h.dst_addr }

abbrev pub TakesIdent : Endpoint → ℕ → Type 0
TakesIdent (endpoint.Ident n) ident = ident ≡ n
TakesIdent _ ident = ⊥

-- an error that came to this address quotes a packet that was sent from the bound port; where an address is bound, it
-- came to that one
abbrev pub TakesError : Endpoint → Facts → IpAddress → Ends → List ℕ → Type 0
TakesError (endpoint.Udp e) f to ends body = ForSome e.addr (λ a. to ≡ a)
    × (udp_source (is_received f.checksums.udp) ends.src ends.dst body ≡ Some e.port)
TakesError (endpoint.Tcp e) f to ends body = ForSome e.addr (λ a. to ≡ a)
    × (tcp_source (is_received f.checksums.tcp) ends.src ends.dst body ≡ Some e.port)
TakesError _ f to ends body = ⊥

abbrev pub Accepts : {H : Type 0} → (H → Ends) → Endpoint → Facts → IpAddress → Message H → Type 0
Accepts ends e f to (Request ident seq_no body) = TakesIdent e ident
Accepts ends e f to (Reply ident seq_no body) = TakesIdent e ident
Accepts ends e f to (Unreachable reason header body) = TakesError e f to (ends header) body
Accepts ends e f to (Exceeded reason header body) = TakesError e f to (ends header) body
Accepts ends e f to (Problem reason pointer header body) = ⊥

-- ---- what is queued: the message with its checksum, and the address that it came from

abbrev pub octets_v4 : Message Ipv4Repr → List ℕ
octets_v4 m = icmpv4_octets (all_checksums checksum.Both) m

abbrev pub octets_v6 : Ipv6Repr → Message Ipv6Repr → List ℕ
octets_v6 ip m = icmpv6_octets (all_checksums checksum.Both) ip.src_addr ip.dst_addr m

abbrev pub queued_v4 : Ipv4Repr → Message Ipv4Repr → Packets IpAddress → Packets IpAddress
queued_v4 ip m p = stored_as (message_len 20 m) (address.Ipv4 ip.src_addr) (octets_v4 m) p

abbrev pub queued_v6 : Ipv6Repr → Message Ipv6Repr → Packets IpAddress → Packets IpAddress
queued_v6 ip m p = stored_as (message_len 40 m) (address.Ipv6 ip.src_addr) (octets_v6 ip m) p
