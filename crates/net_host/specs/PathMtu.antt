-- A router says that a packet was too long for the next hop: "fragmentation needed" of ICMP (RFC 792; RFC 1191, section
-- 4) and "packet too big" of ICMPv6 (RFC 4443, section 3.2).
use Rattle.std.specs.Prelude.{ℕ, ◌≡◌, ◌==◌, ◌&&◌, Bool, true, false, if◌then◌else◌, List, drop, length, slice_index}
use Rattle.std.specs.Prelude.{Option, Some, None}
use Rattle.ip_wire.specs.Checksum.{is_received}
use Rattle.ip_wire.specs.Octets.{be16_at, be32_at}
use Rattle.ip_wire.specs.Protocol.{number_of}
use Rattle.ip_wire.specs.declared.checksum.ChecksumCapabilities.{ChecksumCapabilities}
use Rattle.ip_wire.specs.declared.protocol.IpProtocol.TheVariants as protocol
use Rattle.ip_wire.specs.declared.repr.IpRepr.{IpRepr}
use Rattle.ip_wire.specs.declared.repr.IpRepr.TheVariants as header
use Rattle.ip_wire.specs.declared.repr.Ipv4Repr.{Ipv4Repr}
use Rattle.ip_wire.specs.declared.repr.Ipv6Repr.{Ipv6Repr}
use Rattle.net_base.specs.declared.time.Instant.{Instant}
use Rattle.control_wire.specs.Icmp.{is_message, quoted_v4, quoted_v6, v6_start}
use Rattle.control_wire.specs.Segment.{Segment, bare_segment}
use Rattle.control_wire.specs.Seq.{seq_of}
use Rattle.sock_tcp.specs.PathMtu.{is_outstanding, path_mtu_set}
use Rattle.sock_tcp.specs.View.{View}
use Rattle.smoltcp_socket.specs.declared.socket.Socket.{Socket}
use Rattle.smoltcp_socket.specs.declared.socket.Socket.TheVariants as socket
use Rattle.net_host.specs.Segments.{TakesSegment}
use Rattle.net_host.specs.Walks.{ChangesAt, Finds}
use Rattle.net_host.specs.declared.path_mtu.TooBig.{TooBig}
use Rattle.net_host.specs.declared.slot.Slot.{Slot}

-- ---- what is said: the MTU of the next hop, and of the packet that is quoted its ports, its number, and the header of
-- what its peer would answer

-- ports and number stand in the first eight octets of a segment
abbrev pub said_of : IpRepr → List ℕ → ℕ → TooBig
said_of back octets mtu = record {
  back = back;
  local_port = be16_at octets 0;
  remote_port = be16_at octets 2;
  number = seq_of (be32_at octets 4);
  mtu = mtu;
}

abbrev pub back_v4 : Ipv4Repr → IpRepr
back_v4 h = header.Ipv4 (record {
  src_addr = h.dst_addr;
  dst_addr = h.src_addr;
  next_header = protocol.Tcp;
  payload_len = 0;
  hop_limit = 64;
})

abbrev pub back_v6 : Ipv6Repr → IpRepr
back_v6 h = header.Ipv6 (record {
  src_addr = h.dst_addr;
  dst_addr = h.src_addr;
  next_header = protocol.Tcp;
  payload_len = 0;
  hop_limit = 64;
})

-- of a TCP segment
abbrev pub quotes_v4 : ℕ → Option (Ipv4Repr × List ℕ) → Option TooBig
quotes_v4 mtu None = None
quotes_v4 mtu (Some q) =
    if number_of q.0.next_header == 6 then Some (said_of (back_v4 q.0) q.1 mtu) else None

abbrev pub quotes_v6 : ℕ → Option (Ipv6Repr × List ℕ) → Option TooBig
quotes_v6 mtu None = None
quotes_v6 mtu (Some q) =
    if number_of q.0.next_header == 6 then Some (said_of (back_v6 q.0) q.1 mtu) else None

-- type 3, code 4. A router that does not tell the MTU says 0 (RFC 1191, section 5), which counts as 576
abbrev pub too_big_v4 : Bool → List ℕ → Option TooBig
too_big_v4 tested octets =
    if is_message tested 0 octets && ((slice_index octets 0 == 3) && (slice_index octets 1 == 4))
    then quotes_v4 (be16_at octets 6) (quoted_v4 (drop 8 octets)) else None

-- type 2, whatever its code
abbrev pub too_big_v6 : Bool → Ipv6Repr → List ℕ → Option TooBig
too_big_v6 tested h octets =
    if is_message tested (v6_start h.src_addr h.dst_addr (length octets)) octets && (slice_index octets 0 == 2)
    then quotes_v6 (be32_at octets 4) (quoted_v6 (drop 8 octets)) else None

unfoldable pub too_big_in : ChecksumCapabilities → IpRepr → List ℕ → Option TooBig
too_big_in caps (header.Ipv4 h) octets =
    if number_of h.next_header == 1 then too_big_v4 (is_received caps.icmpv4) octets else None
too_big_in caps (header.Ipv6 h) octets =
    if number_of h.next_header == 58 then too_big_v6 (is_received caps.icmpv6) h octets else None

-- ---- who hears it: the connection that takes what the peer of the packet answers, where the packet's number was sent
-- and is not acknowledged (RFC 5927, sections 4.1 and 7)

abbrev pub answer_to : TooBig → Segment
answer_to s = bare_segment s.remote_port s.local_port

abbrev pub IsOf : {G : Type 0} → TooBig → Slot G → Type 0
IsOf s slot = TakesSegment false s.back (answer_to s) slot

abbrev pub narrowed : Bool → TooBig → View → Instant → View
narrowed took s v now = if took then path_mtu_set v now s.mtu else v

-- whether the socket hears it
pub record NarrowsTcp {G : Type 0} (now : Instant) (s : TooBig) (took : Bool) (v : View) (g : Option G) (w : View)
    (g' : Option G) : Type 0 where
  pub took_is : took ≡ is_outstanding v s.number
  pub view : w ≡ narrowed took s v now
  pub generator : g' ≡ g

abbrev pub NarrowsSocket : {G : Type 0} → Instant → TooBig → Bool → Option (Socket G) → Option (Socket G) → Type 0
NarrowsSocket now s took (Some (socket.Tcp x)) (Some (socket.Tcp y)) =
    NarrowsTcp now s took x.control_block x.tsval_generator y.control_block y.tsval_generator
NarrowsSocket now s took x y = (took ≡ false) × (y ≡ x)

pub record Narrows {G : Type 0} (now : Instant) (s : TooBig) (took : Bool) (before after : Slot G) : Type 0 where
  pub generation : after.generation ≡ before.generation
  pub opened : after.opened ≡ before.opened
  pub guard : after.guard ≡ before.guard
  pub socket : NarrowsSocket now s took before.socket after.socket

abbrev pub NarrowsThere : {G : Type 0} → Option ℕ → Instant → TooBig → List (Slot G) → Bool → List (Slot G) → Type 0
NarrowsThere None now s ss took ts = (took ≡ false) × (ts ≡ ss)
NarrowsThere (Some i) now s ss took ts = ChangesAt (Narrows now s took) ss i ts

pub record HearsTooBig {G : Type 0} (now : Instant) (s : TooBig) (ss : List (Slot G)) (took : Bool)
    (ts : List (Slot G)) : Type 0 where
  pub found : Option ℕ
  pub finds : Finds (IsOf s) ss found
  pub narrows : NarrowsThere found now s ss took ts

abbrev pub HearsSaid : {G : Type 0} → Instant → Option TooBig → List (Slot G) → Bool → List (Slot G) → Type 0
HearsSaid now None ss took ts = (took ≡ false) × (ts ≡ ss)
HearsSaid now (Some s) ss took ts = HearsTooBig now s ss took ts
