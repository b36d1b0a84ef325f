-- What contracts see of a raw socket, and what its calls do to it.
use Rattle.std.specs.Prelude.{ℕ, ◌≡◌, ⊤, ◌++◌, List, Option, None, Some, Result, Ok, Err, if◌then◌else◌}
use Rattle.ip_wire.specs.Checksum.{is_sent}
use Rattle.ip_wire.specs.IpHeader.{header_version, next_header_of}
use Rattle.ip_wire.specs.Packet.{header_octets}
use Rattle.ip_wire.specs.declared.checksum.ChecksumCapabilities.{ChecksumCapabilities}
use Rattle.ip_wire.specs.declared.protocol.IpVersion.{IpVersion}
use Rattle.ip_wire.specs.declared.protocol.IpProtocol.{IpProtocol}
use Rattle.ip_wire.specs.declared.repr.IpRepr.{IpRepr}
use Rattle.net_base.specs.Packets.{Packets, packets, takes}
use Rattle.sock_dgram.specs.Datagrams.{TakesBy}
use Rattle.sock_dgram.specs.declared.raw.error.SendError.{SendError}
use Rattle.sock_dgram.specs.declared.raw.error.SendError.TheVariants as send_error

pub record View : Type 0 where
  pub ip_version : Option IpVersion  -- of the packets that it takes; none for both
  pub ip_protocol : Option IpProtocol  -- the same; none for any
  pub rx_buffer : Packets (Unit {0})
  pub tx_buffer : Packets (Unit {0})

abbrev pub fresh : Option IpVersion → Option IpProtocol → Packets (Unit {0}) → Packets (Unit {0}) → View
fresh version protocol rx tx = record { ip_version = version; ip_protocol = protocol; rx_buffer = rx; tx_buffer = tx }

abbrev pub with_rx : View → Packets (Unit {0}) → View
with_rx v p = record v { rx_buffer = p }

-- the first packet of the receive queue left, if there was one
abbrev pub Takes : View → View → Type 0
Takes = TakesBy (λ v. v.rx_buffer) with_rx

-- the packets that came and were not read, and those that were not emitted yet, the oldest first
abbrev pub received : View → List (Unit {0} × List ℕ)
received v = packets v.rx_buffer.entries

abbrev pub waiting : View → List (Unit {0} × List ℕ)
waiting v = packets v.tx_buffer.entries

-- a packet of n bytes
abbrev pub send_answer : View → ℕ → Result (Unit {0}) SendError
send_answer v n = if takes n v.tx_buffer then Ok tt else Err send_error.BufferFull

-- ---- packets that come in

-- the header as it is emitted, and the payload
abbrev pub whole_packet : ChecksumCapabilities → IpRepr → List ℕ → List ℕ
whole_packet caps ip payload = header_octets (is_sent caps.ipv4) ip ++ payload

-- ---- the filter

-- the one that is asked for, or any
abbrev pub Suits : {X : Type 0} → Option X → X → Type 0
Suits None x = ⊤
Suits (Some a) x = a ≡ x

pub record Accepts (v : View) (ip : IpRepr) : Type 0 where
  pub version : Suits v.ip_version (header_version ip)
  pub protocol : Suits v.ip_protocol (next_header_of ip)
