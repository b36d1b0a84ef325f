-- A segment that goes out, by value.
use Rattle.ip_wire.specs.declared.repr.IpRepr.{IpRepr}
use Rattle.control_wire.specs.Segment.{Segment, segment_of}
use Rattle.control_wire.specs.declared.tcp.TcpRepr.{TcpRepr}

-- what the closure `emit` gets, by value
abbrev pub packet_of : IpRepr × TcpRepr → IpRepr × Segment
packet_of p = (p.0, segment_of p.1)
