-- What stands behind the extension headers of a packet (RFC 8200, section 4).
use Rattle.std.specs.Prelude.{ℕ, zero, suc, ◌+◌, ◌*◌, ◌==◌, ◌||◌, ◌&&◌, not, nat_le, Bool, if◌then◌else◌, List, drop}
use Rattle.std.specs.Prelude.{length}
use Rattle.std.specs.Prelude.{slice_index, Option, Some, None}
use Rattle.ip_extensions.specs.declared.behind.Behind.{Behind}
use Rattle.ip_extensions.specs.declared.behind.Behind.TheVariants as behind

pub data Stands : Type 0 where
  Carries : ℕ → List ℕ → Stands
  IsFragment : Stands
  IsRouted : ℕ → Stands
  IsMalformed : Stands

abbrev pub behind_of : Behind → Stands
behind_of (behind.Carried n octets) = Carries n octets.now
behind_of behind.Fragment = IsFragment
behind_of (behind.Routed left) = IsRouted left
behind_of behind.Malformed = IsMalformed

-- hop-by-hop options, a routing header, or destination options
abbrev pub is_passed : ℕ → Bool
is_passed n = (n == 0) || ((n == 43) || (n == 60))

-- its length stands in its second octet, in units of eight octets behind the first eight
abbrev pub header_len : List ℕ → ℕ
header_len octets = 8 + 8 * slice_index octets 1

-- a routing header whose fourth octet says that segments are left
abbrev pub is_routed : ℕ → List ℕ → Bool
is_routed n octets = (n == 43) && not (slice_index octets 3 == 0)

abbrev pub is_cut : List ℕ → Bool
is_cut octets = not (nat_le 8 (length octets) && nat_le (header_len octets) (length octets))

-- what is known without a look behind the header, if anything
abbrev pub decided : ℕ → List ℕ → Option Stands
decided n octets =
    if n == 44 then Some IsFragment
    else (if not (is_passed n) then Some (Carries n octets)
    else (if is_cut octets then Some IsMalformed
    else (if is_routed n octets then Some (IsRouted (length octets)) else None)))

abbrev pub settled : Option Stands → Stands → Stands
settled None s = s
settled (Some t) s = t

-- behind at most so many headers; the first octet of each names the next
unfoldable pub read : (most : ℕ) → (next : ℕ) → List ℕ → Stands
read zero n octets = settled (decided n octets) IsMalformed
read (suc most) n octets =
    settled (decided n octets) (read most (slice_index octets 0) (drop (header_len octets) octets))

-- four headers are passed over
unfoldable pub behind_headers : ℕ → List ℕ → Stands
behind_headers n octets = read 4 n octets
