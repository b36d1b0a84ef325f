-- ICMP messages of both versions, and their octets (RFC 792; RFC 4443).
use Rattle.std.specs.Prelude.{ℕ, ◌+◌, ◌-◌, ◌==◌, ◌&&◌, ◌||◌, nat_le, not, Bool, true, false, if◌then◌else◌}
use Rattle.std.specs.Prelude.{List, ◌∷◌, ◌++◌, length, drop, slice_index, Option, Some, None, Result, Ok, Err}
use Rattle.std.specs.Borrow.{Bor}
use Rattle.ip_wire.specs.Checksum.{is_sent}
use Rattle.ip_wire.specs.Octets.{be16, be16_at, be32, be32_at}
use Rattle.ip_wire.specs.Packet.{ipv4_fields, ipv4_header_len, ipv4_octets, ipv6_fields, ipv6_octets, version_number}
use Rattle.ip_wire.specs.Sum.{all_ones, complement, pseudo_sum, sum_after}
use Rattle.ip_wire.specs.declared.address.Ipv6Address.{Ipv6Address}
use Rattle.ip_wire.specs.declared.address.IpAddress.TheVariants as address
use Rattle.ip_wire.specs.declared.checksum.ChecksumCapabilities.{ChecksumCapabilities}
use Rattle.ip_wire.specs.declared.malformed.Error.{Error}
use Rattle.ip_wire.specs.declared.repr.Ipv4Repr.{Ipv4Repr}
use Rattle.ip_wire.specs.declared.repr.Ipv6Repr.{Ipv6Repr}
use Rattle.control_wire.specs.declared.icmp.IcmpRepr.{IcmpRepr}
use Rattle.control_wire.specs.declared.icmp.IcmpRepr.TheVariants as icmp
use Rattle.control_wire.specs.declared.icmp.Icmpv4Repr.{Icmpv4Repr}
use Rattle.control_wire.specs.declared.icmp.Icmpv4Repr.TheVariants as v4
use Rattle.control_wire.specs.declared.icmp.Icmpv6Repr.{Icmpv6Repr}
use Rattle.control_wire.specs.declared.icmp.Icmpv6Repr.TheVariants as v6

-- A message by value: H is the header that an error quotes, before the octets that it quotes behind it.
pub data Message (H : Type 0) : Type 0 where
  Request : (ident seq_no : ℕ) (body : List ℕ) → Message H
  Reply : (ident seq_no : ℕ) (body : List ℕ) → Message H
  Unreachable : (reason : ℕ) (header : H) (body : List ℕ) → Message H
  Exceeded : (reason : ℕ) (header : H) (body : List ℕ) → Message H
  Problem : (reason pointer : ℕ) (header : H) (body : List ℕ) → Message H

abbrev pub message_v4 : Icmpv4Repr → Message Ipv4Repr
message_v4 (v4.EchoRequest ident seq_no body) = Request ident seq_no body.now
message_v4 (v4.EchoReply ident seq_no body) = Reply ident seq_no body.now
message_v4 (v4.DstUnreachable reason header body) = Unreachable reason header body.now
message_v4 (v4.TimeExceeded reason header body) = Exceeded reason header body.now

abbrev pub message_v6 : Icmpv6Repr → Message Ipv6Repr
message_v6 (v6.EchoRequest ident seq_no body) = Request ident seq_no body.now
message_v6 (v6.EchoReply ident seq_no body) = Reply ident seq_no body.now
message_v6 (v6.DstUnreachable reason header body) = Unreachable reason header body.now
message_v6 (v6.TimeExceeded reason header body) = Exceeded reason header body.now
message_v6 (v6.ParamProblem reason pointer header body) = Problem reason pointer header body.now

-- the octets of a message, with those of a quoted header
abbrev pub message_len : {H : Type 0} → ℕ → Message H → ℕ
message_len quoted (Request ident seq_no body) = 8 + length body
message_len quoted (Reply ident seq_no body) = 8 + length body
message_len quoted (Unreachable reason header body) = 8 + quoted + length body
message_len quoted (Exceeded reason header body) = 8 + quoted + length body
message_len quoted (Problem reason pointer header body) = 8 + quoted + length body

abbrev pub icmp_len : IcmpRepr → ℕ
icmp_len (icmp.Ipv4 repr) = message_len 20 (message_v4 repr)
icmp_len (icmp.Ipv6 repr) = message_len 40 (message_v6 repr)

-- the types of a version's messages
pub record Kinds : Type 0 where
  pub request : ℕ
  pub reply : ℕ
  pub unreachable : ℕ
  pub exceeded : ℕ
  pub problem : ℕ

abbrev pub kinds_v4 : Kinds
kinds_v4 = record { request = 8; reply = 0; unreachable = 3; exceeded = 11; problem = 12 }

abbrev pub kinds_v6 : Kinds
kinds_v6 = record { request = 128; reply = 129; unreachable = 1; exceeded = 3; problem = 4 }

abbrev pub echo_octets : ℕ → ℕ → ℕ → List ℕ → ℕ → List ℕ
echo_octets kind ident seq_no body checksum = kind ∷ 0 ∷ (be16 checksum ++ (be16 ident ++ (be16 seq_no ++ body)))

abbrev pub error_octets : ℕ → ℕ → List ℕ → List ℕ → ℕ → List ℕ
error_octets kind reason quoted body checksum =
    kind ∷ reason ∷ (be16 checksum ++ (0 ∷ 0 ∷ 0 ∷ 0 ∷ (quoted ++ body)))

-- an error that points at an octet of the packet that it quotes
abbrev pub problem_octets : ℕ → ℕ → ℕ → List ℕ → List ℕ → ℕ → List ℕ
problem_octets kind reason pointer quoted body checksum =
    kind ∷ reason ∷ (be16 checksum ++ (be32 pointer ++ (quoted ++ body)))

-- a message with this checksum
abbrev pub message_with : {H : Type 0} → Kinds → (H → List ℕ) → Message H → ℕ → List ℕ
message_with kinds quoted (Request ident seq_no body) sum = echo_octets kinds.request ident seq_no body sum
message_with kinds quoted (Reply ident seq_no body) sum = echo_octets kinds.reply ident seq_no body sum
message_with kinds quoted (Unreachable reason header body) sum =
    error_octets kinds.unreachable reason (quoted header) body sum
message_with kinds quoted (Exceeded reason header body) sum =
    error_octets kinds.exceeded reason (quoted header) body sum
message_with kinds quoted (Problem reason pointer header body) sum =
    problem_octets kinds.problem reason pointer (quoted header) body sum

abbrev pub v4_with : ChecksumCapabilities → Message Ipv4Repr → ℕ → List ℕ
v4_with caps m sum = message_with kinds_v4 (ipv4_octets (is_sent caps.ipv4)) m sum

abbrev pub v6_with : Message Ipv6Repr → ℕ → List ℕ
v6_with m sum = message_with kinds_v6 ipv6_octets m sum

-- the sum of the pseudo header of ICMPv6 (RFC 4443, section 2.3)
abbrev pub v6_start : Ipv6Address → Ipv6Address → ℕ → ℕ
v6_start src dst len = pseudo_sum (address.Ipv6 src) (address.Ipv6 dst) 58 len

-- where the checksum is not sent it is 0
abbrev pub icmpv4_octets : ChecksumCapabilities → Message Ipv4Repr → List ℕ
icmpv4_octets caps m =
    v4_with caps m (if is_sent caps.icmpv4 then complement (sum_after 0 (v4_with caps m 0)) else 0)

abbrev pub icmpv6_octets : ChecksumCapabilities → Ipv6Address → Ipv6Address → Message Ipv6Repr → List ℕ
icmpv6_octets caps src dst m =
    v6_with m (if is_sent caps.icmpv6
    then complement (sum_after (v6_start src dst (length (v6_with m 0))) (v6_with m 0))
    else 0)

-- the header that an error quotes and at least eight octets behind it, whose count is its payload length
unfoldable pub quoted_v4 : List ℕ → Option (Ipv4Repr × List ℕ)
quoted_v4 packet =
    if (version_number packet == 4) && nat_le 20 (ipv4_header_len packet)
    && nat_le (ipv4_header_len packet + 8) (length packet)
    then Some (ipv4_fields packet (length packet - ipv4_header_len packet), drop (ipv4_header_len packet) packet)
    else None

unfoldable pub quoted_v6 : List ℕ → Option (Ipv6Repr × List ℕ)
quoted_v6 packet =
    if (version_number packet == 6) && nat_le 48 (length packet)
    then Some (ipv6_fields packet (length packet - 40), drop 40 packet)
    else None

abbrev pub as_error : {H : Type 0} → (H → List ℕ → Message H) → Option (H × List ℕ) → Option (Message H)
as_error make None = None
as_error make (Some quoted) = Some (make quoted.0 quoted.1)

-- a parameter problem, where one is read
abbrev pub problem_in : {H : Type 0} → Bool → (List ℕ → Option (H × List ℕ)) → ℕ → List ℕ → Option (Message H)
problem_in true quoted code octets = as_error (Problem code (be32_at octets 4)) (quoted (drop 8 octets))
problem_in false quoted code octets = None

-- the message of this type and code; `points` says whether parameter problems are read
abbrev pub message_of : {H : Type 0} → Bool → Kinds → (List ℕ → Option (H × List ℕ)) → ℕ → ℕ → List ℕ
    → Option (Message H)
message_of points kinds quoted kind code octets =
    if (kind == kinds.request) && (code == 0) then Some (Request (be16_at octets 4) (be16_at octets 6) (drop 8 octets))
    else (if (kind == kinds.reply) && (code == 0)
    then Some (Reply (be16_at octets 4) (be16_at octets 6) (drop 8 octets))
    else (if kind == kinds.unreachable then as_error (Unreachable code) (quoted (drop 8 octets))
    else (if kind == kinds.exceeded then as_error (Exceeded code) (quoted (drop 8 octets))
    else (if kind == kinds.problem then problem_in points quoted code octets else None))))

unfoldable pub icmpv4_message : List ℕ → Option (Message Ipv4Repr)
icmpv4_message octets = message_of false kinds_v4 quoted_v4 (slice_index octets 0) (slice_index octets 1) octets

unfoldable pub icmpv6_message : List ℕ → Option (Message Ipv6Repr)
icmpv6_message octets = message_of true kinds_v6 quoted_v6 (slice_index octets 0) (slice_index octets 1) octets

-- at least eight octets whose checksum, where it is tested, verifies
abbrev pub is_message : Bool → ℕ → List ℕ → Bool
is_message tested start octets = nat_le 8 (length octets) && (not tested || (sum_after start octets == all_ones))

abbrev pub icmpv4_parsed : Bool → List ℕ → Option (Message Ipv4Repr)
icmpv4_parsed tested octets =
    if is_message tested 0 octets
    then icmpv4_message octets
    else None

abbrev pub icmpv6_parsed : Bool → Ipv6Address → Ipv6Address → List ℕ → Option (Message Ipv6Repr)
icmpv6_parsed tested src dst octets =
    if is_message tested (v6_start src dst (length octets)) octets
    then icmpv6_message octets
    else None

-- a result by value
abbrev pub seen : {R H : Type 0} → (R → Message H) → Result R Error → Option (Message H)
seen view (Ok found) = Some (view found)
seen view (Err e) = None

-- what was taken off the front of a slice, with the rest by value
abbrev pub taken : {H : Type 0} → Option (H × Bor (List ℕ)) → Option (H × List ℕ)
taken None = None
taken (Some found) = Some (found.0, found.1.now)
