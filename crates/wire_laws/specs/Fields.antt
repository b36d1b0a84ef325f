-- What the types of a segment and of an IP header say of their numbers.
use Rattle.std.specs.Prelude.{ℕ, ◌≡◌, ◌<◌, List, [], ◌∷◌, length, Option, Some, None}
use Rattle.ip_wire.specs.Octets.{IsOctets}
use Rattle.ip_wire.specs.declared.repr.IpRepr.{IpRepr}
use Rattle.ip_wire.specs.declared.repr.IpRepr.TheVariants as header
use Rattle.control_wire.specs.Segment.{Segment}
use Rattle.segment_wire.specs.RoundTrip.{IsRange, NumbersFit}

abbrev pub RangeFits : Option (ℕ × ℕ) → Type 0
RangeFits None = Unit {0}
RangeFits (Some r) = IsRange r

-- three places
abbrev pub RangesFit : List (Option (ℕ × ℕ)) → Type 0
RangesFit (a ∷ b ∷ c ∷ []) = RangeFits a × RangeFits b × RangeFits c
RangesFit _ = ⊥

-- two addresses of n octets, and a hop limit
pub record AddressesFit (n : ℕ) (here there : List ℕ) (hop_limit : ℕ) : Type 0 where
  pub src : length here ≡ n
  pub src_octets : IsOctets here
  pub dst : length there ≡ n
  pub dst_octets : IsOctets there
  pub hops : hop_limit < 256

abbrev pub HeaderFits : IpRepr → Type 0
HeaderFits (header.Ipv4 h) = AddressesFit 4 h.src_addr.0 h.dst_addr.0 h.hop_limit
HeaderFits (header.Ipv6 h) = AddressesFit 16 h.src_addr.0 h.dst_addr.0 h.hop_limit

-- each number has the bits of its type, and the payload has octets
pub record HasWidths (ip : IpRepr) (s : Segment) : Type 0 where
  pub header : HeaderFits ip
  pub numbers : NumbersFit s
  pub sack_ranges : RangesFit s.sack_ranges
