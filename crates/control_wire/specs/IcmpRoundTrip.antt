-- ICMP messages whose octets give them back.
use Rattle.std.specs.Prelude.{ℕ, ◌<◌, ◌≤◌, ◌^◌, ◌≡◌, List, length}
use Rattle.ip_wire.specs.Octets.{IsOctets}
use Rattle.ip_wire.specs.RoundTrip.{IsIpv4Header, IsIpv6Header}
use Rattle.ip_wire.specs.declared.repr.Ipv4Repr.{Ipv4Repr}
use Rattle.ip_wire.specs.declared.repr.Ipv6Repr.{Ipv6Repr}
use Rattle.control_wire.specs.Icmp.{Exceeded, Message, Problem, Reply, Request, Unreachable}

pub record IsEcho (ident seq_no : ℕ) (body : List ℕ) : Type 0 where
  pub ident_fits : ident < 2 ^ 16
  pub seq_no_fits : seq_no < 2 ^ 16
  pub octets : IsOctets body

-- an error quotes at least eight octets behind the header, and the header counts them
pub record IsError (reason len : ℕ) (body : List ℕ) : Type 0 where
  pub reason_fits : reason < 256
  pub octets : IsOctets body
  pub enough : 8 ≤ length body
  pub counted : len ≡ length body

abbrev pub IsV4 : Message Ipv4Repr → Type 0
IsV4 (Request ident seq_no body) = IsEcho ident seq_no body
IsV4 (Reply ident seq_no body) = IsEcho ident seq_no body
IsV4 (Unreachable reason header body) = IsIpv4Header header × IsError reason header.payload_len body
IsV4 (Exceeded reason header body) = IsIpv4Header header × IsError reason header.payload_len body
IsV4 (Problem reason pointer header body) = ⊥

abbrev pub IsV6 : Message Ipv6Repr → Type 0
IsV6 (Request ident seq_no body) = IsEcho ident seq_no body
IsV6 (Reply ident seq_no body) = IsEcho ident seq_no body
IsV6 (Unreachable reason header body) = IsIpv6Header header × IsError reason header.payload_len body
IsV6 (Exceeded reason header body) = IsIpv6Header header × IsError reason header.payload_len body
IsV6 (Problem reason pointer header body) =
    IsIpv6Header header × IsError reason header.payload_len body × (pointer < 2 ^ 32)
