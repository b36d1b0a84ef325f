-- An ICMP socket in the memory of C.
use Rattle.std.specs.Prelude.{ℕ, ℤ, ◌≡◌, ◌≤◌, ◌==◌, Bool, not, true, false, List, [], ◌++◌, drop, Option, Some, None}
use Rattle.std.specs.Prelude.{Result, Ok, Err, if◌then◌else◌}
use Rattle.ip_wire.specs.Address.{is_unspecified}
use Rattle.ip_wire.specs.IpHeader.{src_addr_of}
use Rattle.ip_wire.specs.Packet.{header_octets}
use Rattle.ip_wire.specs.Protocol.{number_of}
use Rattle.ip_wire.specs.declared.address.IpAddress.{IpAddress}
use Rattle.ip_wire.specs.declared.address.IpAddress.TheVariants as address
use Rattle.ip_wire.specs.declared.repr.IpRepr.{IpRepr}
use Rattle.ip_wire.specs.declared.repr.IpRepr.TheVariants as header
use Rattle.ip_wire.specs.declared.repr.Ipv4Repr.{Ipv4Repr}
use Rattle.ip_wire.specs.declared.repr.Ipv6Repr.{Ipv6Repr}
use Rattle.control_wire.specs.Icmp.{Message, message_v4, message_v6, icmpv4_parsed, icmpv6_parsed}
use Rattle.segment_wire.specs.Packet.{Carried, carried}
use Rattle.sock_core.specs.Facts.{Facts}
use Rattle.sock_dgram.specs.Icmp.{View}
use Rattle.sock_dgram.specs.IcmpDispatch.{AnyMessage, Counts, OverIpv4, OverIpv6, Outgoing, outgoing}
use Rattle.sock_dgram.specs.IcmpFilter.{Accepts, ends_v4, ends_v6, octets_v4, octets_v6, queued_v4, queued_v6}
use Rattle.sock_dgram.specs.declared.error.RecvError.{RecvError}
use Rattle.sock_dgram.specs.declared.icmp.endpoint.Endpoint.{Endpoint}
use Rattle.sock_dgram.specs.declared.icmp.endpoint.Endpoint.TheVariants as endpoint
use Rattle.smoltcp_c.specs.Answers.{error_address}
use Rattle.smoltcp_c.specs.Heard.{AcceptsIf, Hears}
use Rattle.smoltcp_c.specs.Numbers.{address_told, listen_in}
use Rattle.smoltcp_c.specs.Sends.{DispatchesInto, Puts}
use Rattle.smoltcp_c.specs.Wire.{packet_len}
use Rattle.smoltcp_c.specs.declared.endpoints.Address.{Address}
use Rattle.smoltcp_c.specs.declared.datagrams.IcmpEndpoint.{IcmpEndpoint}
use Rattle.smoltcp_c.specs.declared.handles.IcmpHandle.{IcmpHandle}
use Rattle.smoltcp_c.specs.declared.message.Packet.{Packet}
use Rattle.smoltcp_c.specs.declared.message.Packet.TheVariants as packet
use Rattle.smoltcp_c.specs.declared.wire.Full.{Full}
use Rattle.smoltcp_c.specs.declared.wire.Wire.{Wire}

-- which messages: none, echoes with the identifier, errors about what was sent by TCP, or by UDP
abbrev pub icmp_endpoint_in : IcmpEndpoint → Endpoint
icmp_endpoint_in n =
    if n.kind == 0 then endpoint.Unspecified
    else if n.kind == 1 then endpoint.Ident n.ident
    else if n.kind == 2 then endpoint.Tcp (listen_in n.endpoint)
    else endpoint.Udp (listen_in n.endpoint)

-- the same handle, at the same place, with another socket
abbrev pub with_socket : IcmpHandle → View → IcmpHandle
with_socket h v = record h { socket = v }

-- of what a call that copies a message answers, in place of what stood there
abbrev pub address_written : Result (ℕ × IpAddress) RecvError → Address → Address
address_written (Ok r) a = address_told r.1
address_written (Err e) a = a

-- ---- a packet that comes

-- a message with the header of its packet
pub data IcmpPacket : Type 0 where
  V4 : Ipv4Repr → Message Ipv4Repr → IcmpPacket
  V6 : Ipv6Repr → Message Ipv6Repr → IcmpPacket

abbrev pub icmp_packet_of : Packet → IcmpPacket
icmp_packet_of (packet.V4 h m) = V4 h (message_v4 m)
icmp_packet_of (packet.V6 h m) = V6 h (message_v6 m)

abbrev pub with_v4 : Ipv4Repr → Option (Message Ipv4Repr) → Option IcmpPacket
with_v4 ip None = None
with_v4 ip (Some m) = Some (V4 ip m)

abbrev pub with_v6 : Ipv6Repr → Option (Message Ipv6Repr) → Option IcmpPacket
with_v6 ip None = None
with_v6 ip (Some m) = Some (V6 ip m)

-- behind a header whose protocol is ICMP (1) or ICMPv6 (58)
abbrev pub icmp_behind_v4 : Ipv4Repr → List ℕ → Option IcmpPacket
icmp_behind_v4 h bs = if number_of h.next_header == 1 then with_v4 h (icmpv4_parsed true bs) else None

abbrev pub icmp_behind_v6 : Ipv6Repr → List ℕ → Option IcmpPacket
icmp_behind_v6 h bs =
    if number_of h.next_header == 58 then with_v6 h (icmpv6_parsed true h.src_addr h.dst_addr bs) else None

abbrev pub icmp_behind : IpRepr → List ℕ → Option IcmpPacket
icmp_behind (header.Ipv4 h) bs = icmp_behind_v4 h bs
icmp_behind (header.Ipv6 h) bs = icmp_behind_v6 h bs

abbrev pub icmp_of : Option Carried → Option IcmpPacket
icmp_of None = None
icmp_of (Some c) = icmp_behind c.ip c.octets

-- the message that a packet carries, if it is whole and each checksum verifies
unfoldable pub carried_message : List ℕ → Option IcmpPacket
carried_message packet = icmp_of (carried true packet)

-- what a socket that is told so accepts
abbrev pub AcceptsMessage : Facts → View → IcmpPacket → Type 0
AcceptsMessage f v (V4 h m) = Accepts ends_v4 v.endpoint f (address.Ipv4 h.dst_addr) m
AcceptsMessage f v (V6 h m) = Accepts ends_v6 v.endpoint f (address.Ipv6 h.dst_addr) m

abbrev pub IsFor : Facts → View → List ℕ → Type 0
IsFor f v packet = AcceptsIf (AcceptsMessage f) v (carried_message packet)

-- the socket with the message behind its receive queue, where it finds room
abbrev pub queued_of : IcmpPacket → View → View
queued_of (V4 h m) v = record v { rx_buffer = queued_v4 h m v.rx_buffer }
queued_of (V6 h m) v = record v { rx_buffer = queued_v6 h m v.rx_buffer }

abbrev pub HearsMessage : Facts → View → IcmpPacket → ℤ → View → Type 0
HearsMessage f = Hears (AcceptsMessage f) queued_of

-- ---- dispatch

-- a packet that carries a message, all checksums computed
abbrev pub icmp_packet : IpRepr → AnyMessage → List ℕ
icmp_packet ip (OverIpv4 m) = header_octets true ip ++ octets_v4 m
icmp_packet (header.Ipv6 h) (OverIpv6 m) = header_octets true (header.Ipv6 h) ++ octets_v6 h m
icmp_packet (header.Ipv4 h) (OverIpv6 m) = []

abbrev pub sent_packet : Outgoing → List ℕ
sent_packet o = icmp_packet o.ip o.message

abbrev pub sent_len : Outgoing → ℕ
sent_len o = packet_len o.ip

abbrev pub with_message : Outgoing → List ℕ → List ℕ
with_message o out = sent_packet o ++ drop (sent_len o) out

-- the header counts the message, and both fit a packet
pub record CountsMessage (ip : IpRepr) (m : AnyMessage) : Type 0 where
  pub counted : Counts ip m
  pub total : packet_len ip ≤ 65535

-- a source that was never set is none
abbrev pub has_source : Outgoing → Bool
has_source o = not (is_unspecified (src_addr_of o.ip))

-- it is written where it is one and fits; without a source it is not written, and not refused
abbrev pub WritesIf : Bool → Outgoing → Wire → Result (Unit {0}) Full → Wire → Type 0
WritesIf true o old result new =
    Puts (CountsMessage o.ip o.message) (sent_len o) (sent_packet o) old result new
WritesIf false o old result new = (result ≡ Ok tt) × (new ≡ record old { unsourced = true })

abbrev pub WritesMessage : Outgoing → Wire → Result (Unit {0}) Full → Wire → Type 0
WritesMessage o old result new = WritesIf (has_source o) o old result new

abbrev pub sourced : Option Outgoing → Option Outgoing
sourced None = None
sourced (Some o) = if has_source o then Some o else None

abbrev pub lacks_source : Option Outgoing → Bool
lacks_source None = false
lacks_source (Some o) = not (has_source o)

-- the first message's packet, where it has a source and is well formed
abbrev pub EmitsMessage : Facts → View → List ℕ → ℤ → View → List ℕ → Type 0
EmitsMessage f v = DispatchesInto sent_len sent_packet (sourced (outgoing v f)) v

-- a message that has no source
abbrev pub told_unsourced : Bool → ℤ → ℤ
told_unsourced true n = error_address
told_unsourced false n = n

pub record DispatchesMessage (f : Facts) (v : View) (out : List ℕ) (result : ℤ) (w : View) (out' : List ℕ)
    : Type 0 where
  pub sent : ℤ
  pub dispatches : EmitsMessage f v out sent w out'
  pub answer : result ≡ told_unsourced (lacks_source (outgoing v f)) sent
