-- What tells a sender that nobody takes its packet.
use Rattle.std.specs.Prelude.{ℕ, ◌≡◌, ◌+◌, ◌-◌, min, Bool, not, ◌==◌, ◌&&◌, if◌then◌else◌, List, length, take}
use Rattle.std.specs.Prelude.{Option, Some, None, is_some}
use Rattle.ip_wire.specs.IpHeader.{dst_addr_of, src_addr_of}
use Rattle.ip_wire.specs.Protocol.{number_of}
use Rattle.ip_wire.specs.declared.protocol.IpProtocol.TheVariants as protocol
use Rattle.ip_wire.specs.declared.repr.IpRepr.{IpRepr}
use Rattle.ip_wire.specs.declared.repr.IpRepr.TheVariants as header
use Rattle.ip_wire.specs.declared.repr.Ipv4Repr.{Ipv4Repr}
use Rattle.ip_wire.specs.declared.repr.Ipv6Repr.{Ipv6Repr}
use Rattle.net_base.specs.declared.time.Instant.{Instant}
use Rattle.control_wire.specs.Icmp.{Problem, Unreachable}
use Rattle.sock_core.specs.Facts.{Facts}
use Rattle.sock_dgram.specs.Raw.{Accepts}
use Rattle.sock_tcp.specs.View.{moment_of}
use Rattle.smoltcp_socket.specs.declared.socket.Socket.{Socket}
use Rattle.smoltcp_socket.specs.declared.socket.Socket.TheVariants as socket
use Rattle.net_host.specs.Filing as filing
use Rattle.net_host.specs.Limits.{allows, spent}
use Rattle.net_host.specs.Messages.{AnyMail, OverV4, OverV6, answer_len, if_short, with_answer}
use Rattle.net_host.specs.Walks.{Finds}
use Rattle.net_host.specs.declared.limit.Limit.{Limit}
use Rattle.net_host.specs.declared.slot.Slot.{Slot}
use Rattle.net_host.specs.declared.unreachable.Unmet.{Unmet}
use Rattle.net_host.specs.declared.unreachable.Unmet.TheVariants as unmet

-- ---- the error

-- as much behind the header as an error of 576 octets leaves (RFC 1812, section 4.3.2.3), and of 1280 over IPv6
-- (RFC 4443, section 2.4 c)
abbrev pub quoted_v4 : List ℕ → ℕ → List ℕ
quoted_v4 octets mtu = take (min mtu 576 - 48) octets

abbrev pub quoted_v6 : List ℕ → ℕ → List ℕ
quoted_v6 octets mtu = take (min mtu 1280 - 88) octets

abbrev pub error_v4 : ℕ → Ipv4Repr → List ℕ → AnyMail
error_v4 code h body =
    OverV4 (record {
      src_addr = h.dst_addr;
      dst_addr = h.src_addr;
      next_header = protocol.Icmp;
      payload_len = 28 + length body;
      hop_limit = 64;
    }) (Unreachable code h body)

-- the header of an error that quotes this one, and so many octets behind it
abbrev pub header_v6 : Ipv6Repr → List ℕ → Ipv6Repr
header_v6 h body = record {
  src_addr = h.dst_addr;
  dst_addr = h.src_addr;
  next_header = protocol.Icmpv6;
  payload_len = 48 + length body;
  hop_limit = 64;
}

abbrev pub error_v6 : ℕ → Ipv6Repr → List ℕ → AnyMail
error_v6 code h body = OverV6 (header_v6 h body) (Unreachable code h body)

-- a next header that is not known: code 1, and the pointer at the octet that names it, which is the seventh of what is
-- quoted (RFC 4443, section 3.4; RFC 8200, section 4); none for 59, behind which nothing stands (RFC 8200, section 4.7)
abbrev pub problem_of : Ipv6Repr → List ℕ → Option AnyMail
problem_of h body =
    if number_of h.next_header == 59 then None else Some (OverV6 (header_v6 h body) (Problem 1 6 h body))

-- RFC 792: 2 for the protocol, 3 for the port; RFC 4443, section 3.1: 4 for the port
abbrev pub error_of : Unmet → IpRepr → List ℕ → ℕ → Option AnyMail
error_of unmet.Port (header.Ipv4 h) octets mtu = Some (error_v4 3 h (quoted_v4 octets mtu))
error_of unmet.Protocol (header.Ipv4 h) octets mtu = Some (error_v4 2 h (quoted_v4 octets mtu))
error_of unmet.Port (header.Ipv6 h) octets mtu = Some (error_v6 4 h (quoted_v6 octets mtu))
error_of unmet.Protocol (header.Ipv6 h) octets mtu = problem_of h (quoted_v6 octets mtu)

-- ---- who gets it

abbrev pub RawTakes : {G : Type 0} → Option (Socket G) → IpRepr → Type 0
RawTakes (Some (socket.Raw x)) ip = Accepts x ip
RawTakes _ ip = ⊥

abbrev pub TakesRaw : {G : Type 0} → IpRepr → Slot G → Type 0
TakesRaw ip slot = RawTakes slot.socket ip

-- the sender of a packet to an own address that no raw socket takes
abbrev pub wanted : Bool → Bool → Option AnyMail → Option AnyMail
wanted own raw error = if own && not raw then error else None

-- not too often
abbrev pub told_within : Limit → IpRepr → Instant → Option AnyMail → Option AnyMail
told_within l ip now None = None
told_within l ip now (Some m) = if allows l (filing.number_of (src_addr_of ip)) now then Some m else None

abbrev pub spent_for : Option AnyMail → Limit → IpRepr → Instant → Limit
spent_for None l ip now = l
spent_for (Some m) l ip now = spent l (filing.number_of (src_addr_of ip)) now

-- ---- the whole

pub record TellsOf {G : Type 0} (f : Facts) (what : Unmet) (ip : IpRepr) (octets : List ℕ) (ss : List (Slot G))
    (l : Limit) (out : List ℕ) (n : ℕ) (l' : Limit) (out' : List ℕ) : Type 0 where
  pub raw : Option ℕ
  pub looked : Finds (TakesRaw ip) ss raw
  pub len : n ≡ answer_len (if_short (min f.mtu (length out)) (told_within l ip (moment_of f)
      (wanted (f.has_address (dst_addr_of ip)) (is_some raw) (error_of what ip octets f.mtu))))
  pub octets_are : out' ≡ with_answer f.checksums (if_short (min f.mtu (length out)) (told_within l ip (moment_of f)
      (wanted (f.has_address (dst_addr_of ip)) (is_some raw) (error_of what ip octets f.mtu)))) out
  pub limit : l' ≡ spent_for (wanted (f.has_address (dst_addr_of ip)) (is_some raw) (error_of what ip octets f.mtu)) l
      ip (moment_of f)
