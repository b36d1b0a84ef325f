-- What a socket emits into a buffer.
use Rattle.std.specs.Prelude.{ℕ, ◌≡◌, ◌<◌, ◌≤◌, ⊤, Bool, true, List, length, Result, Ok, Err}
use Rattle.std.specs.Borrow.{Bor}
use Rattle.ip_wire.specs.declared.checksum.ChecksumCapabilities.{ChecksumCapabilities}
use Rattle.ip_wire.specs.declared.repr.IpRepr.{IpRepr}
use Rattle.control_wire.specs.Segment.{Segment, segment_of}
use Rattle.control_wire.specs.declared.tcp.TcpRepr.{TcpRepr}
use Rattle.control_wire.specs.declared.icmp.IcmpRepr.{IcmpRepr}
use Rattle.control_wire.specs.declared.udp.UdpRepr.{UdpRepr}
use Rattle.sock_core.specs.Emission.{Emit}
use Rattle.sock_dgram.specs.IcmpDispatch.{AnyMessage, Counts, any_message}
use Rattle.net_host.specs.Messages.{with_message}
use Rattle.net_host.specs.Wire.{CountsDatagram, IsCounted, largest, packet_len, raw_len, with_datagram, with_raw}
use Rattle.net_host.specs.Wire.{with_segment}
use Rattle.net_host.specs.declared.wire.TooShort.{TooShort}

-- a buffer, and the length of the packet at its beginning, or 0
pub record Sheet : Type 0 where
  pub checksums : ChecksumCapabilities  -- those that are computed here
  pub mtu : ℕ
  pub octets : List ℕ
  pub len : ℕ
  pub lost : Bool  -- a packet was dropped, as the MTU has no room for it

abbrev pub dropped : Sheet → Sheet
dropped s = record s { lost = true }

-- it goes out where it may and there is room; one that may not is dropped
pub record Handles (may written : Type 0) (old new : Sheet) : Type 0 where
  pub goes : may → written
  pub drops : (may → ⊥) → new ≡ dropped old

-- it may, and there is no room: nothing changes
pub record IsShort (may : Type 0) (len : ℕ) (old new : Sheet) : Type 0 where
  pub goes : may
  pub short : length old.octets < len
  pub same : new ≡ old

-- a packet of so many octets, beginning with these, was written
pub record IsPut (len : ℕ) (octets : List ℕ) (old new : Sheet) : Type 0 where
  pub room : len ≤ length old.octets
  pub value : new ≡ record old { octets = octets; len = len }

-- ---- segments

-- the header counts the segment, and the MTU has room for it
pub record MayGo (ip : IpRepr) (s : Segment) (mtu : ℕ) : Type 0 where
  pub counted : IsCounted ip s
  pub fits : packet_len ip ≤ largest ip mtu

abbrev pub Writes : IpRepr → Segment → Sheet → Result (Unit {0}) TooShort → Sheet → Type 0
Writes ip s old (Ok u) new =
    Handles (MayGo ip s old.mtu) (IsPut (packet_len ip) (with_segment old.checksums ip s old.octets) old new) old new
Writes ip s old (Err e) new = IsShort (MayGo ip s old.mtu) (packet_len ip) old new

-- an emit that writes into the buffer
abbrev pub writing : Emit (Unit {0}) Sheet (IpRepr × TcpRepr) TooShort
writing = record {
  pre = λ f a. ⊤;
  post = λ f a b. Writes a.1.0.0 (segment_of a.1.0.1) a.0.now b.0 b.1.0.now;
}

-- ---- datagrams

pub record DatagramMayGo (ip : IpRepr) (payload : List ℕ) (mtu : ℕ) : Type 0 where
  pub counted : CountsDatagram ip payload
  pub fits : packet_len ip ≤ largest ip mtu

abbrev pub WritesDatagram : IpRepr → UdpRepr → List ℕ → Sheet → Result (Unit {0}) TooShort → Sheet → Type 0
WritesDatagram ip u payload old (Ok x) new =
    Handles (DatagramMayGo ip payload old.mtu)
    (IsPut (packet_len ip) (with_datagram old.checksums ip u payload old.octets) old new) old new
WritesDatagram ip u payload old (Err e) new = IsShort (DatagramMayGo ip payload old.mtu) (packet_len ip) old new

abbrev pub writing_datagram : Emit (Unit {0}) Sheet (IpRepr × UdpRepr × Bor (List ℕ)) TooShort
writing_datagram = record {
  pre = λ f a. ⊤;
  post = λ f a b. WritesDatagram a.1.0.0 a.1.0.1 a.1.0.2.now a.0.now b.0 b.1.0.now;
}

-- ---- messages

pub record MessageMayGo (ip : IpRepr) (m : AnyMessage) (mtu : ℕ) : Type 0 where
  pub counted : Counts ip m
  pub fits : packet_len ip ≤ largest ip mtu

abbrev pub WritesMessage : IpRepr → AnyMessage → Sheet → Result (Unit {0}) TooShort → Sheet → Type 0
WritesMessage ip m old (Ok x) new =
    Handles (MessageMayGo ip m old.mtu)
    (IsPut (packet_len ip) (with_message old.checksums ip m old.octets) old new) old new
WritesMessage ip m old (Err e) new = IsShort (MessageMayGo ip m old.mtu) (packet_len ip) old new

abbrev pub writing_message : Emit (Unit {0}) Sheet (IpRepr × IcmpRepr) TooShort
writing_message = record {
  pre = λ f a. ⊤;
  post = λ f a b. WritesMessage a.1.0.0 (any_message a.1.0.1) a.0.now b.0 b.1.0.now;
}

-- ---- any payload

abbrev pub RawMayGo : IpRepr → List ℕ → ℕ → Type 0
RawMayGo ip payload mtu = raw_len ip payload ≤ largest ip mtu

abbrev pub WritesRaw : IpRepr → List ℕ → Sheet → Result (Unit {0}) TooShort → Sheet → Type 0
WritesRaw ip payload old (Ok x) new =
    Handles (RawMayGo ip payload old.mtu)
    (IsPut (raw_len ip payload) (with_raw old.checksums ip payload old.octets) old new) old new
WritesRaw ip payload old (Err e) new = IsShort (RawMayGo ip payload old.mtu) (raw_len ip payload) old new

abbrev pub writing_raw : Emit (Unit {0}) Sheet (IpRepr × Bor (List ℕ)) TooShort
writing_raw = record {
  pre = λ f a. ⊤;
  post = λ f a b. WritesRaw a.1.0.0 a.1.0.1.now a.0.now b.0 b.1.0.now;
}
