-- Ones' complement sums of 16-bit words, and the checksums that they give (RFC 1071).
use Rattle.ip_wire.specs.Address.{octets_of}
use Rattle.ip_wire.specs.Octets.{be32}
use Rattle.ip_wire.specs.declared.address.IpAddress.{IpAddress}
use Rattle.std.specs.Prelude.{ℕ, ◌++◌, ◌+◌, ◌-◌, ◌*◌, ◌%◌, ◌^◌, List, [], ◌∷◌, nat_eq, nat_lt, slice_index}
use Rattle.std.specs.Prelude.{if◌then◌else◌}
use Rattle.std.specs.Prelude.{◌≡◌}

-- A carry out of the sixteen bits is added at the other end.
abbrev pub ones_add : ℕ → ℕ → ℕ
ones_add a b = if nat_lt (a + b) (2 ^ 16) then a + b else a + b - 65535

-- the sum of a start and the words of a list of octets, the high octet first, an odd last octet padded with 0
abbrev pub sum_after : ℕ → List ℕ → ℕ
sum_after start [] = start
sum_after start (high ∷ []) = ones_add start (256 * high)
sum_after start (high ∷ low ∷ rest) = sum_after (ones_add start (256 * high + low)) rest

-- a wide sum of words as a word: each carry is added at the other end, and only 0 comes to 0
abbrev pub word_of : ℕ → ℕ
word_of total = if nat_eq total 0 then 0 else (total - 1) % 65535 + 1

-- the number of two octets at offset i, the low octet first
abbrev pub le16_at : List ℕ → ℕ → ℕ
le16_at octets i = slice_index octets i + 256 * slice_index octets (i + 1)

-- the number of the four octets at offset i, the lowest first
abbrev pub le32_at : List ℕ → ℕ → ℕ
le32_at octets i = le16_at octets i + 65536 * le16_at octets (i + 2)

-- the number of the eight octets at offset i, the lowest first
abbrev pub le64_at : List ℕ → ℕ → ℕ
le64_at octets i = le32_at octets i + 4294967296 * le32_at octets (i + 4)

-- a start and a wide sum of numbers with the lowest octet first, as a word: 256 times as much has the octets of each
-- word swapped, since 65536 comes to 1
abbrev pub swapped_word : ℕ → ℕ → ℕ
swapped_word start total = word_of (start + 256 * total)

-- the complement of a sum
abbrev pub complement : ℕ → ℕ
complement sum = 65535 - sum

-- the word that has only ones: the sum of octets among which their checksum stands
abbrev pub all_ones : ℕ
all_ones = 65535

abbrev pub IsEven : ℕ → Type 0
IsEven n = n % 2 ≡ 0

-- The sum of a pseudo header (RFC 8200, section 8.1): the addresses, the length, three zeros, the protocol. That of
-- IPv4 (RFC 9293, section 3.1) has the same words but for those that are 0, so the same sum.
abbrev pub pseudo_sum : IpAddress → IpAddress → ℕ → ℕ → ℕ
pseudo_sum src dst protocol len =
    sum_after (sum_after (sum_after 0 (octets_of src)) (octets_of dst)) (be32 len ++ (0 ∷ 0 ∷ 0 ∷ protocol ∷ []))
