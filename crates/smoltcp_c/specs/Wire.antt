-- A segment that is written as an IP packet.
use Rattle.std.specs.Prelude.{ℕ, ◌≡◌, ◌+◌, ◌≤◌, List, ◌++◌, length, drop, Result, Ok, Err}
use Rattle.ip_wire.specs.Checksum.{all_checksums}
use Rattle.ip_wire.specs.IpHeader.{header_len_of, next_header_of, payload_len_of}
use Rattle.ip_wire.specs.declared.checksum.Checksum.TheVariants as checksum
use Rattle.ip_wire.specs.declared.protocol.IpProtocol.TheVariants as protocol
use Rattle.ip_wire.specs.declared.repr.IpRepr.{IpRepr}
use Rattle.control_wire.specs.Segment.{Segment, segment_header_len}
use Rattle.segment_wire.specs.Packet.{tcp_packet}
use Rattle.smoltcp_c.specs.declared.wire.Full.{Full}
use Rattle.smoltcp_c.specs.declared.wire.Wire.{Wire}

-- the header counts the segment, and both fit a packet
pub record IsCounted (ip : IpRepr) (s : Segment) : Type 0 where
  pub header : segment_header_len s ≤ 60
  pub octets : payload_len_of ip ≡ segment_header_len s + length s.payload
  pub total : header_len_of ip + (segment_header_len s + length s.payload) ≤ 65535
  pub protocol : next_header_of ip ≡ protocol.Tcp

abbrev pub packet_len : IpRepr → ℕ
packet_len ip = header_len_of ip + payload_len_of ip

-- a buffer with the packet at its beginning, all checksums computed
abbrev pub with_packet : IpRepr → Segment → List ℕ → List ℕ
with_packet ip s out = tcp_packet (all_checksums checksum.Both) ip s ++ drop (packet_len ip) out

-- the packet was written
pub record IsWritten (ip : IpRepr) (s : Segment) (old new : Wire) : Type 0 where
  pub counted : IsCounted ip s
  pub room : packet_len ip ≤ length old.out.now
  pub len : new.len ≡ packet_len ip
  pub bytes : new.out.now ≡ with_packet ip s old.out.now
  pub moment : new.moment ≡ old.moment
  pub same_buffer : new.out.ghost_name ≡ old.out.ghost_name

-- it is written where it is one and fits; else nothing changes
abbrev pub Writes : IpRepr → Segment → Wire → Result (Unit {0}) Full → Wire → Type 0
Writes ip s old (Ok u) new = IsWritten ip s old new
Writes ip s old (Err e) new = (IsCounted ip s → packet_len ip ≤ length old.out.now → ⊥) × (new ≡ old)
