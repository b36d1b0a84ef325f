-- `dispatch` of an ICMP socket.
use Rattle.std.specs.Prelude.{ℕ, ◌≡◌, List, Option, None, Some, Result, false}
use Rattle.ip_wire.specs.IpHeader.{ipv4_header, ipv6_header}
use Rattle.ip_wire.specs.declared.address.IpAddress.{IpAddress}
use Rattle.ip_wire.specs.declared.address.IpAddress.TheVariants as address
use Rattle.ip_wire.specs.declared.address.Ipv4Address.{Ipv4Address}
use Rattle.ip_wire.specs.declared.address.Ipv6Address.{Ipv6Address}
use Rattle.ip_wire.specs.declared.protocol.IpProtocol.TheVariants as protocol
use Rattle.ip_wire.specs.declared.repr.IpRepr.{IpRepr}
use Rattle.ip_wire.specs.declared.repr.IpRepr.TheVariants as header
use Rattle.ip_wire.specs.declared.repr.Ipv4Repr.{Ipv4Repr}
use Rattle.ip_wire.specs.declared.repr.Ipv6Repr.{Ipv6Repr}
use Rattle.control_wire.specs.Icmp.{Message, message_len, message_v4, message_v6, icmpv4_parsed, icmpv6_parsed}
use Rattle.control_wire.specs.declared.icmp.IcmpRepr.{IcmpRepr}
use Rattle.control_wire.specs.declared.icmp.IcmpRepr.TheVariants as icmp
use Rattle.net_base.specs.Packets.{first_packet}
use Rattle.sock_core.specs.Emission.{Emit}
use Rattle.sock_core.specs.Facts.{Facts}
use Rattle.sock_dgram.specs.Addressed.{Dispatches, hops_of}
use Rattle.sock_dgram.specs.Icmp.{View}

-- a message of either version by value
pub data AnyMessage : Type 0 where
  OverIpv4 : Message Ipv4Repr → AnyMessage
  OverIpv6 : Message Ipv6Repr → AnyMessage

abbrev pub any_message : IcmpRepr → AnyMessage
any_message (icmp.Ipv4 repr) = OverIpv4 (message_v4 repr)
any_message (icmp.Ipv6 repr) = OverIpv6 (message_v6 repr)

-- a message that goes out
pub record Outgoing : Type 0 where
  pub ip : IpRepr
  pub message : AnyMessage

abbrev pub outgoing_of : IpRepr × IcmpRepr → Outgoing
outgoing_of s = record { ip = s.0; message = any_message s.1 }

-- the header of a packet that carries just this message
abbrev pub Counts : IpRepr → AnyMessage → Type 0
Counts (header.Ipv4 h) (OverIpv4 m) = h.payload_len ≡ message_len 20 m
Counts (header.Ipv6 h) (OverIpv6 m) = h.payload_len ≡ message_len 40 m
Counts _ _ = ⊥

-- a malformed message is not sent; the others in a packet with this header, which is longer by the message
abbrev pub in_packet : {H : Type 0} → (ℕ → IpRepr) → (Message H → AnyMessage) → ℕ → Option (Message H)
    → Option Outgoing
in_packet ip any quoted None = None
in_packet ip any quoted (Some m) = Some (record { ip = ip (message_len quoted m); message = any m })

abbrev pub from_ipv4 : ℕ → Ipv4Address → Ipv4Address → Option (Message Ipv4Repr) → Option Outgoing
from_ipv4 hops src dst m = in_packet (λ n. ipv4_header src dst protocol.Icmp n hops) OverIpv4 20 m

abbrev pub from_ipv6 : ℕ → Ipv6Address → Ipv6Address → Option (Message Ipv6Repr) → Option Outgoing
from_ipv6 hops src dst m = in_packet (λ n. ipv6_header src dst protocol.Icmpv6 n hops) OverIpv6 40 m

-- nor one over IPv4 without a source
abbrev pub from_source : ℕ → Option Ipv4Address → Ipv4Address → List ℕ → Option Outgoing
from_source hops None dst bs = None
from_source hops (Some src) dst bs = from_ipv4 hops src dst (icmpv4_parsed false bs)

unfoldable pub to_remote : ℕ → Facts → IpAddress → List ℕ → Option Outgoing
to_remote hops f (address.Ipv4 dst) bs = from_source hops (f.source_ipv4 dst) dst bs
to_remote hops f (address.Ipv6 dst) bs =
    from_ipv6 hops (f.source_ipv6 dst) dst (icmpv6_parsed false (f.source_ipv6 dst) dst bs)

abbrev pub from_first : View → Facts → Option (IpAddress × List ℕ) → Option Outgoing
from_first v f None = None
from_first v f (Some d) = to_remote (hops_of v.hop_limit) f d.0 d.1

-- what is emitted: the first message of the queue, where it has a source and is well formed, whatever its checksum
abbrev pub outgoing : View → Facts → Option Outgoing
outgoing v f = from_first v f (first_packet v.tx_buffer)

-- the one call of `emit`, and what becomes of the queue
abbrev pub Dispatched : {F C E : Type 0} → Emit F C (IpRepr × IcmpRepr) E → F → View → Facts → C
    → Result (Unit {0}) E → C → View → Type 0
Dispatched g f v facts c r c' w = Dispatches (λ x. outgoing x facts) outgoing_of g f v c r c' w
