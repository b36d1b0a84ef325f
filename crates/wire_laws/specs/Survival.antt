-- Segments that a packet carries to the other side unchanged.
use Rattle.std.specs.Prelude.{ℕ, ◌≡◌, ◌≤◌, List, ◌++◌, length, Option, Some, Result, option_map}
use Rattle.std.specs.Option.{ForSome}
use Rattle.ip_wire.specs.declared.checksum.ChecksumCapabilities.{ChecksumCapabilities}
use Rattle.ip_wire.specs.declared.repr.IpRepr.{IpRepr}
use Rattle.control_wire.specs.Fits.{HasPorts}
use Rattle.control_wire.specs.Segment.{Segment}
use Rattle.segment_wire.specs.Packet.{tcp_packet, tcp_packet_parsed}
use Rattle.segment_wire.specs.RoundTrip.{TestsWhatIsSent}
use Rattle.sock_core.specs.Emission.{Emits}
use Rattle.sock_tcp.specs.Content.{Sending}
use Rattle.sock_tcp.specs.Dispatch.{EmitTcp, packet_in}
use Rattle.sock_tcp.specs.Outgoing.{packet_of}
use Rattle.wire_laws.specs.Fields.{HasWidths}

-- What is read of the packet's octets is what was written, with any checksums where what is tested was also sent, and
-- whatever stands behind the packet, as Ethernet's padding
abbrev pub Survives : IpRepr → Segment → Type 0
Survives ip s =
    (sender receiver : ChecksumCapabilities) (rest : List ℕ) → TestsWhatIsSent sender receiver
    → tcp_packet_parsed receiver (tcp_packet sender ip s ++ rest) ≡ Some (record { ip = ip; segment = s })

-- so it is where neither port is 0, as of each segment on a wire
abbrev pub SurvivesWithPorts : IpRepr → Segment → Type 0
SurvivesWithPorts ip s = HasPorts s → Survives ip s

-- A dispatch, with the emit that is called once with what goes out, or not at all; and what goes out survives, where
-- neither port is 0. That its numbers have the bits of their types is no condition on it: so it is with each value of
-- these types (`has_widths`)
pub record DispatchesSurviving {F C E : Type 0} (g : EmitTcp F C E) (emit : F) (c : C) (r : Result (Unit {0}) E)
    (c' : C) : Type 0 where
  pub out : Option Sending
  pub emits : Emits g packet_of emit (option_map packet_in out) c r c'
  pub survives : ForSome out (λ s. HasWidths s.ip s.segment → SurvivesWithPorts s.ip s.segment)

-- a socket that accepts the segment may be given it, and answers it by a segment that survives
pub record MayCome (s : Segment) : Type 0 where
  pub ports : HasPorts s
  pub small : length s.payload ≤ 65535
