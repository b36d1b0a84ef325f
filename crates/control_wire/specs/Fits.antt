-- Segments that can be written as a packet, and that are read back where their ports are not 0: what the types of their
-- numbers do not say.
use Rattle.std.specs.Prelude.{ℕ, ◌≡◌, ◌+◌, ◌≤◌, ◌<◌, ◌==◌, List, [], ◌∷◌, length, Option, Some, None, Bool, true}
use Rattle.std.specs.Prelude.{is_some, count_by}
use Rattle.std.specs.Option.{ForSome}
use Rattle.ip_wire.specs.IpHeader.{header_len_of, next_header_of, payload_len_of}
use Rattle.ip_wire.specs.declared.protocol.IpProtocol.TheVariants as protocol
use Rattle.ip_wire.specs.declared.repr.IpRepr.{IpRepr}
use Rattle.control_wire.specs.Segment.{Segment, options_len, segment_header_len}

-- no place is empty before a range
abbrev pub is_packed : List (Option (ℕ × ℕ)) → Bool
is_packed [] = true
is_packed (None ∷ rs) = count_by is_some rs == 0
is_packed (Some r ∷ rs) = is_packed rs

-- neither port is 0
pub record HasPorts (s : Segment) : Type 0 where
  pub src_port : 0 < s.src_port
  pub dst_port : 0 < s.dst_port

-- A header of 60 octets at most, whose options say no more than the wire does: a scale of at most 14 (RFC 7323,
-- section 2.3), and no ranges beside a SACK permission
pub record FitsHeader (s : Segment) : Type 0 where
  pub scale : ForSome s.window_scale (λ n. n ≤ 14)
  pub permission : s.sack_permitted ≡ true → count_by is_some s.sack_ranges ≡ 0
  pub ranges : is_packed s.sack_ranges ≡ true
  pub options : options_len s ≤ 40

-- such a segment with the IP header of a packet of at most 65535 octets
pub record FitsPacket (ip : IpRepr) (s : Segment) : Type 0 where
  pub header : FitsHeader s
  pub protocol : next_header_of ip ≡ protocol.Tcp
  pub octets : payload_len_of ip ≡ segment_header_len s + length s.payload
  pub total : header_len_of ip + payload_len_of ip ≤ 65535
