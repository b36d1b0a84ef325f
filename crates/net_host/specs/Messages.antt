-- ICMP messages: which sockets take a copy, and what answers one.
use Rattle.std.specs.Prelude.{ℕ, ◌≡◌, ◌+◌, ◌==◌, nat_le, List, [], ◌++◌, drop, length, Option, Some, None}
use Rattle.std.specs.Prelude.{if◌then◌else◌}
use Rattle.ip_wire.specs.Checksum.{is_received, is_sent}
use Rattle.ip_wire.specs.Packet.{header_octets}
use Rattle.ip_wire.specs.Protocol.{number_of}
use Rattle.ip_wire.specs.declared.address.IpAddress.TheVariants as address
use Rattle.ip_wire.specs.declared.checksum.ChecksumCapabilities.{ChecksumCapabilities}
use Rattle.ip_wire.specs.declared.protocol.IpProtocol.TheVariants as protocol
use Rattle.ip_wire.specs.declared.repr.IpRepr.{IpRepr}
use Rattle.ip_wire.specs.declared.repr.IpRepr.TheVariants as header
use Rattle.ip_wire.specs.declared.repr.Ipv4Repr.{Ipv4Repr}
use Rattle.ip_wire.specs.declared.repr.Ipv6Repr.{Ipv6Repr}
use Rattle.control_wire.specs.Icmp.{Message, Reply, Request, icmpv4_octets, icmpv4_parsed, icmpv6_octets}
use Rattle.control_wire.specs.Icmp.{icmpv6_parsed, message_len, message_v4, message_v6}
use Rattle.sock_core.specs.Facts.{Facts}
use Rattle.sock_dgram.specs.Icmp.{View}
use Rattle.sock_dgram.specs.IcmpCalls.{Effect, ProcessV4, ProcessV6}
use Rattle.sock_dgram.specs.IcmpFilter.{Accepts, ends_v4, ends_v6}
use Rattle.smoltcp_socket.specs.declared.socket.Socket.{Socket}
use Rattle.smoltcp_socket.specs.declared.socket.Socket.TheVariants as socket
use Rattle.sock_dgram.specs.IcmpDispatch.{AnyMessage, OverIpv4, OverIpv6}
use Rattle.net_host.specs.Wire.{packet_len}
use Rattle.net_host.specs.declared.messages.Mail.{Mail}
use Rattle.net_host.specs.declared.messages.Mail.TheVariants as mail
use Rattle.net_host.specs.declared.slot.Slot.{Slot}

-- a message with the header of its packet, by value
pub data AnyMail : Type 0 where
  OverV4 : Ipv4Repr → Message Ipv4Repr → AnyMail
  OverV6 : Ipv6Repr → Message Ipv6Repr → AnyMail

abbrev pub mail_of : Mail → AnyMail
mail_of (mail.V4 h m) = OverV4 h (message_v4 m)
mail_of (mail.V6 h m) = OverV6 h (message_v6 m)

-- ---- what stands behind a header, as a message

abbrev pub over_v4 : Ipv4Repr → Option (Message Ipv4Repr) → Option AnyMail
over_v4 h None = None
over_v4 h (Some m) = Some (OverV4 h m)

abbrev pub over_v6 : Ipv6Repr → Option (Message Ipv6Repr) → Option AnyMail
over_v6 h None = None
over_v6 h (Some m) = Some (OverV6 h m)

abbrev pub mail_v4 : ChecksumCapabilities → Ipv4Repr → List ℕ → Option AnyMail
mail_v4 caps h octets =
    if number_of h.next_header == 1 then over_v4 h (icmpv4_parsed (is_received caps.icmpv4) octets) else None

abbrev pub mail_v6 : ChecksumCapabilities → Ipv6Repr → List ℕ → Option AnyMail
mail_v6 caps h octets =
    if number_of h.next_header == 58
    then over_v6 h (icmpv6_parsed (is_received caps.icmpv6) h.src_addr h.dst_addr octets) else None

unfoldable pub mail_in : ChecksumCapabilities → IpRepr → List ℕ → Option AnyMail
mail_in caps (header.Ipv4 h) octets = mail_v4 caps h octets
mail_in caps (header.Ipv6 h) octets = mail_v6 caps h octets

-- ---- a copy to each socket that accepts it

-- A where P holds, else B
abbrev pub Where : (P A B : Type 0) → Type 0
Where P A B = (P → A) × ((P → ⊥) → B)

abbrev pub MailCopies : Facts → View → AnyMail → View → Type 0
MailCopies f x (OverV4 h m) y =
    Where (Accepts ends_v4 x.endpoint f (address.Ipv4 h.dst_addr) m) (Effect (ProcessV4 h m) x y) (y ≡ x)
MailCopies f x (OverV6 h m) y =
    Where (Accepts ends_v6 x.endpoint f (address.Ipv6 h.dst_addr) m) (Effect (ProcessV6 h m) x y) (y ≡ x)

abbrev pub SocketCopies : {G : Type 0} → Facts → Option (Socket G) → AnyMail → Option (Socket G) → Type 0
SocketCopies f (Some (socket.Icmp x)) m (Some (socket.Icmp y)) = MailCopies f x m y
SocketCopies f (Some (socket.Icmp x)) m _ = ⊥
SocketCopies f s m t = t ≡ s

pub record Copies {G : Type 0} (f : Facts) (m : AnyMail) (before after : Slot G) : Type 0 where
  pub generation : after.generation ≡ before.generation
  pub opened : after.opened ≡ before.opened
  pub guard : after.guard ≡ before.guard
  pub copied : SocketCopies f before.socket m after.socket

-- ---- the answer to an echo request

abbrev pub echo_v4 : Ipv4Repr → Message Ipv4Repr → Option AnyMail
echo_v4 h (Request ident seq body) =
    Some (OverV4 (record {
      src_addr = h.dst_addr;
      dst_addr = h.src_addr;
      next_header = protocol.Icmp;
      payload_len = 8 + length body;
      hop_limit = 64;
    }) (Reply ident seq body))
echo_v4 h _ = None

abbrev pub echo_v6 : Ipv6Repr → Message Ipv6Repr → Option AnyMail
echo_v6 h (Request ident seq body) =
    Some (OverV6 (record {
      src_addr = h.dst_addr;
      dst_addr = h.src_addr;
      next_header = protocol.Icmpv6;
      payload_len = 8 + length body;
      hop_limit = 64;
    }) (Reply ident seq body))
echo_v6 h _ = None

-- an echo request is answered with what it carries (RFC 792; RFC 4443, section 4.2)
abbrev pub echoed : AnyMail → Option AnyMail
echoed (OverV4 h m) = echo_v4 h m
echoed (OverV6 h m) = echo_v6 h m

abbrev pub mail_len : AnyMail → ℕ
mail_len (OverV4 h m) = 20 + message_len 20 m
mail_len (OverV6 h m) = 40 + message_len 40 m

abbrev pub mail_octets : ChecksumCapabilities → AnyMail → List ℕ
mail_octets caps (OverV4 h m) = header_octets (is_sent caps.ipv4) (header.Ipv4 h) ++ icmpv4_octets caps m
mail_octets caps (OverV6 h m) =
    header_octets (is_sent caps.ipv4) (header.Ipv6 h) ++ icmpv6_octets caps h.src_addr h.dst_addr m

-- a sum that is at most so much
abbrev pub sum_within : (header body room : ℕ) → Option ℕ
sum_within header body room = if nat_le (header + body) room then Some (header + body) else None

abbrev pub len_within : AnyMail → ℕ → Option ℕ
len_within (OverV4 h m) room = sum_within 20 (message_len 20 m) room
len_within (OverV6 h m) room = sum_within 40 (message_len 40 m) room

-- an answer of at most so many octets
abbrev pub if_short : ℕ → Option AnyMail → Option AnyMail
if_short room None = None
if_short room (Some m) = if nat_le (mail_len m) room then Some m else None

-- its length, and the buffer with it at the beginning
abbrev pub answer_len : Option AnyMail → ℕ
answer_len None = 0
answer_len (Some m) = mail_len m

abbrev pub with_answer : ChecksumCapabilities → Option AnyMail → List ℕ → List ℕ
with_answer caps None out = out
with_answer caps (Some m) out = mail_octets caps m ++ drop (mail_len m) out

-- ---- a message that a socket emits

-- the packet of a message
abbrev pub message_octets : ChecksumCapabilities → IpRepr → AnyMessage → List ℕ
message_octets caps ip (OverIpv4 m) = header_octets (is_sent caps.ipv4) ip ++ icmpv4_octets caps m
message_octets caps (header.Ipv6 h) (OverIpv6 m) =
    header_octets (is_sent caps.ipv4) (header.Ipv6 h) ++ icmpv6_octets caps h.src_addr h.dst_addr m
message_octets caps (header.Ipv4 h) (OverIpv6 m) = []

abbrev pub with_message : ChecksumCapabilities → IpRepr → AnyMessage → List ℕ → List ℕ
with_message caps ip m out = message_octets caps ip m ++ drop (packet_len ip) out
