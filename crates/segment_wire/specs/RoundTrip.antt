-- Segments and datagrams whose octets give them back.
use Rattle.std.specs.Prelude.{ℕ, ◌+◌, ◌<◌, ◌≤◌, ◌^◌, ◌≡◌, true, List, [], ◌∷◌, length, Option, Some, None}
use Rattle.ip_wire.specs.Checksum.{is_received, is_sent}
use Rattle.ip_wire.specs.Octets.{IsOctets}
use Rattle.ip_wire.specs.RoundTrip.{IsIpv4Header, IsIpv6Header}
use Rattle.ip_wire.specs.declared.checksum.ChecksumCapabilities.{ChecksumCapabilities}
use Rattle.ip_wire.specs.declared.repr.IpRepr.{IpRepr}
use Rattle.ip_wire.specs.declared.repr.IpRepr.TheVariants as header
use Rattle.control_wire.specs.Fits.{HasPorts}
use Rattle.control_wire.specs.Segment.{Segment, options_len}
use Rattle.control_wire.specs.declared.seq_number.TcpSeqNumber.{TcpSeqNumber}
use Rattle.control_wire.specs.declared.tcp.TcpTimestampRepr.{TcpTimestampRepr}
use Rattle.control_wire.specs.declared.udp.UdpRepr.{UdpRepr}

abbrev pub NumberFits : Option TcpSeqNumber → Type 0
NumberFits None = Unit
NumberFits (Some n) = n.0 < 2 ^ 32

abbrev pub SizeFits : Option ℕ → Type 0
SizeFits None = Unit
SizeFits (Some size) = size < 2 ^ 16

abbrev pub IsShift : Option ℕ → Type 0
IsShift None = Unit
IsShift (Some bits) = bits ≤ 14

abbrev pub IsRange : ℕ × ℕ → Type 0
IsRange range = (range.0 < 2 ^ 32) × (range.1 < 2 ^ 32)

-- three places, of which those behind the last block are empty
abbrev pub AreRanges : List (Option (ℕ × ℕ)) → Type 0
AreRanges (None ∷ None ∷ None ∷ []) = Unit
AreRanges (Some a ∷ None ∷ None ∷ []) = IsRange a
AreRanges (Some a ∷ Some b ∷ None ∷ []) = IsRange a × IsRange b
AreRanges (Some a ∷ Some b ∷ Some c ∷ []) = IsRange a × IsRange b × IsRange c
AreRanges _ = ⊥

abbrev pub StampFits : Option TcpTimestampRepr → Type 0
StampFits None = Unit
StampFits (Some stamp) = (stamp.tsval < 2 ^ 32) × (stamp.tsecr < 2 ^ 32)

-- each number but a SACK option's fits its field, and the payload has octets
pub record NumbersFit (s : Segment) : Type 0 where
  pub src_port : s.src_port < 2 ^ 16
  pub dst_port : s.dst_port < 2 ^ 16
  pub seq_number : s.seq_number.0 < 2 ^ 32
  pub ack_number : NumberFits s.ack_number
  pub window_len : s.window_len < 2 ^ 16
  pub max_seg_size : SizeFits s.max_seg_size
  pub timestamp : StampFits s.timestamp
  pub payload : IsOctets s.payload

-- a segment with both ports, whose numbers fit their fields and whose options fit 40 octets
pub record IsWritable (s : Segment) : Type 0 where
  pub ports : HasPorts s
  pub numbers : NumbersFit s
  pub scale : IsShift s.window_scale
  pub ranges : AreRanges s.sack_ranges
  pub options : options_len s ≤ 40

-- a datagram with a destination port, whose length is not cut
pub record IsDatagram (u : UdpRepr) (payload : List ℕ) : Type 0 where
  pub src_fits : u.src_port < 2 ^ 16
  pub dst_there : 0 < u.dst_port
  pub dst_fits : u.dst_port < 2 ^ 16
  pub length_fits : 8 + length payload < 2 ^ 16
  pub octets : IsOctets payload

abbrev pub IsHeader : IpRepr → Type 0
IsHeader (header.Ipv4 h) = IsIpv4Header h
IsHeader (header.Ipv6 h) = IsIpv6Header h

-- a checksum that is tested was also sent
pub record TestsWhatIsSent (sender receiver : ChecksumCapabilities) : Type 0 where
  pub ipv4 : is_received receiver.ipv4 ≡ true → is_sent sender.ipv4 ≡ true
  pub tcp : is_received receiver.tcp ≡ true → is_sent sender.tcp ≡ true
  pub udp : is_received receiver.udp ≡ true → is_sent sender.udp ≡ true
