-- A raw socket in the memory of C.
use Rattle.std.specs.Prelude.{ℕ, ℤ, pos, negsuc, ◌≡◌, ◌+◌, ◌≤◌, ◌==◌, true, false, List, ◌++◌, length, drop, cond}
use Rattle.std.specs.Prelude.{Option, Some, None, Result, Ok, Err, if◌then◌else◌}
use Rattle.ip_wire.specs.Checksum.{all_checksums}
use Rattle.ip_wire.specs.IpHeader.{header_len_of}
use Rattle.ip_wire.specs.Packet.{header_octets}
use Rattle.ip_wire.specs.Protocol.{number_of, protocol_of}
use Rattle.ip_wire.specs.declared.checksum.Checksum.TheVariants as checksum
use Rattle.ip_wire.specs.declared.protocol.IpProtocol.{IpProtocol}
use Rattle.ip_wire.specs.declared.protocol.IpVersion.{IpVersion}
use Rattle.ip_wire.specs.declared.protocol.IpVersion.TheVariants as version
use Rattle.net_base.specs.Packets.{Dequeues, first_packet}
use Rattle.segment_wire.specs.Packet.{Carried, carried}
use Rattle.sock_dgram.specs.Datagrams.{stored}
use Rattle.sock_dgram.specs.Raw.{View, Accepts, waiting, whole_packet}
use Rattle.sock_dgram.specs.RawDispatch.{Outgoing, Plans, first_prepared, offered, prepared_buffer}
use Rattle.sock_dgram.specs.declared.raw.error.SendError.{SendError}
use Rattle.smoltcp_c.specs.Answers.{error_room}
use Rattle.smoltcp_c.specs.Heard.{AcceptsIf, Hears}
use Rattle.smoltcp_c.specs.Sends.{Puts, SendsInto, has_room}
use Rattle.smoltcp_c.specs.declared.raw_filter.RawFilter.{RawFilter}
use Rattle.smoltcp_c.specs.declared.handles.RawHandle.{RawHandle}
use Rattle.smoltcp_c.specs.declared.wire.Full.{Full}
use Rattle.smoltcp_c.specs.declared.wire.Wire.{Wire}

-- the same handle, at the same place, with another socket
abbrev pub with_socket : RawHandle → View → RawHandle
with_socket h v = record h { socket = v }

-- ---- the filter

-- a version, or none for both, where the number stands for one
unfoldable pub version_in : ℕ → Option (Option IpVersion)
version_in n =
    if n == 0 then Some None
    else (if n == 4 then Some (Some version.Ipv4) else (if n == 6 then Some (Some version.Ipv6) else None))

abbrev pub protocol_in : RawFilter → Option IpProtocol
protocol_in f = if f.any_protocol == 0 then Some (protocol_of f.protocol) else None

abbrev pub version_told : Option IpVersion → ℤ
version_told None = pos 0
version_told (Some version.Ipv4) = pos 4
version_told (Some version.Ipv6) = pos 6

abbrev pub protocol_told : Option IpProtocol → ℤ
protocol_told None = negsuc 0
protocol_told (Some p) = pos (number_of p)

-- ---- answers

abbrev pub packet_answer : {U : Type 0} → Result U SendError → ℤ
packet_answer (Ok u) = pos 0
packet_answer (Err e) = error_room

-- ---- process

-- the header of a whole packet, and what stands behind it, where each checksum of the header verifies
abbrev pub carried_packet : List ℕ → Option Carried
carried_packet packet = carried true packet

abbrev pub AcceptsRaw : View → Carried → Type 0
AcceptsRaw v p = Accepts v p.ip

-- the socket with the packet behind its receive queue, where it finds room
abbrev pub queued_of : Carried → View → View
queued_of p v =
    record v { rx_buffer = stored tt (whole_packet (all_checksums checksum.Both) p.ip p.octets) v.rx_buffer }

abbrev pub IsFor : View → List ℕ → Type 0
IsFor v packet = AcceptsIf AcceptsRaw v (carried_packet packet)

abbrev pub HearsRaw : View → Carried → ℤ → View → Type 0
HearsRaw = Hears AcceptsRaw queued_of

-- ---- dispatch

-- the packet, its header's checksum computed, and how many bytes it has
abbrev pub raw_packet : Outgoing → List ℕ
raw_packet o = header_octets true o.ip ++ o.payload

abbrev pub raw_len : Outgoing → ℕ
raw_len o = header_len_of o.ip + length o.payload

abbrev pub with_raw : Outgoing → List ℕ → List ℕ
with_raw o out = raw_packet o ++ drop (raw_len o) out

abbrev pub WritesRaw : Outgoing → Wire → Result (Unit {0}) Full → Wire → Type 0
WritesRaw o old result new = Puts (raw_len o ≤ 65535) (raw_len o) (raw_packet o) old result new

-- the first packet is written where the socket accepts it and it fits. It leaves the queue, but for where it does not
-- fit: it stays first then, with its checksum computed
pub record DispatchesRaw (v : View) (out : List ℕ) (result : ℤ) (w : View) (out' : List ℕ) : Type 0 where
  pub planned : Option Outgoing
  pub plans : Plans v (offered true (first_packet v.tx_buffer)) planned
  pub sends : SendsInto raw_len raw_packet planned out result out'
  pub queue : waiting w
      ≡ cond (has_room raw_len raw_packet planned out) (drop 1 (waiting v)) (first_prepared true (waiting v))
  pub sent : has_room raw_len raw_packet planned out ≡ true → Dequeues (prepared_buffer true v.tx_buffer) w.tx_buffer
  pub failed : has_room raw_len raw_packet planned out ≡ false → w.tx_buffer ≡ prepared_buffer true v.tx_buffer
  pub same : w ≡ record v { tx_buffer = w.tx_buffer }
