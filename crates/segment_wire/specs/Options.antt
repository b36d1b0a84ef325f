-- The options of a TCP header as octets, written and read (RFC 9293, section 3.2; RFC 7323, sections 2.2 and 3.2;
-- RFC 2018, sections 2 and 3).
use Rattle.std.specs.Prelude.{ℕ, zero, suc, ◌+◌, ◌-◌, ◌*◌, ◌==◌, ◌||◌, nat_le, Bool, true, false, if◌then◌else◌}
use Rattle.std.specs.Prelude.{List, [], ◌∷◌, ◌++◌, length, take, slice_index, Option, Some, None, is_some, count_by}
use Rattle.ip_wire.specs.Octets.{be16, be16_at, be32, be32_at}
use Rattle.control_wire.specs.Segment.{Segment, options_len, segment_header_len}
use Rattle.control_wire.specs.Source.{is_option}
use Rattle.control_wire.specs.declared.tcp.TcpTimestampRepr.{TcpTimestampRepr}
use Rattle.segment_wire.specs.declared.options.TcpOptions.{TcpOptions}

-- kind 2, length 4: the largest payload
abbrev pub mss_octets : Option ℕ → List ℕ
mss_octets None = []
mss_octets (Some size) = 2 ∷ 4 ∷ be16 size

-- kind 3, length 3: the bits of the window scale
abbrev pub scale_octets : Option ℕ → List ℕ
scale_octets None = []
scale_octets (Some bits) = 3 ∷ 3 ∷ bits ∷ []

-- kind 4, length 2
abbrev pub permitted_octets : Bool → List ℕ
permitted_octets false = []
permitted_octets true = 4 ∷ 2 ∷ []

-- where a block begins, and where it ends
abbrev pub range_octets : Option (ℕ × ℕ) → List ℕ
range_octets None = []
range_octets (Some range) = be32 range.0 ++ be32 range.1

abbrev pub ranges_octets : List (Option (ℕ × ℕ)) → List ℕ
ranges_octets [] = []
ranges_octets (range ∷ rest) = range_octets range ++ ranges_octets rest

-- kind 5, and a length of 2 and 8 for each of so many blocks; without blocks there is no option
abbrev pub sack_if : Bool → ℕ → List (Option (ℕ × ℕ)) → List ℕ
sack_if true count ranges = []
sack_if false count ranges = 5 ∷ (2 + 8 * count) ∷ ranges_octets ranges

abbrev pub sack_octets : List (Option (ℕ × ℕ)) → List ℕ
sack_octets ranges = sack_if (count_by is_some ranges == 0) (count_by is_some ranges) ranges

-- kind 8, length 10: the clock, and the echo
abbrev pub stamp_octets : Option TcpTimestampRepr → List ℕ
stamp_octets None = []
stamp_octets (Some stamp) = 8 ∷ 10 ∷ (be32 stamp.tsval ++ be32 stamp.tsecr)

-- END, kind 0, up to a multiple of four octets
abbrev pub padding : Segment → List ℕ
padding s = take (segment_header_len s - (20 + options_len s)) (0 ∷ 0 ∷ 0 ∷ [])

-- the options in the order in which they are written
abbrev pub options_octets : Segment → List ℕ
options_octets s =
    mss_octets s.max_seg_size ++ (scale_octets s.window_scale ++ (permitted_octets s.sack_permitted
    ++ (sack_octets s.sack_ranges ++ (stamp_octets s.timestamp ++ padding s))))

abbrev pub no_options : TcpOptions
no_options =
    record {
      max_seg_size = None;
      window_scale = None;
      sack_permitted = false;
      sack_ranges = None ∷ None ∷ None ∷ [];
      timestamp = None;
    }

-- a shift above 14 is read as 14 (RFC 7323, section 2.3)
abbrev pub shift_of : ℕ → ℕ
shift_of bits = if nat_le bits 14 then bits else 14

abbrev pub range_if : Bool → List ℕ → ℕ → Option (ℕ × ℕ)
range_if false octets i = None
range_if true octets i = Some (be32_at octets i, be32_at octets (i + 4))

-- the first three blocks of an option of this length
abbrev pub ranges_at : ℕ → List ℕ → List (Option (ℕ × ℕ))
ranges_at len octets =
    range_if true octets 0 ∷ range_if (nat_le 18 len) octets 8 ∷ range_if (nat_le 26 len) octets 16 ∷ []

abbrev pub stamp_at : List ℕ → TcpTimestampRepr
stamp_at octets = record { tsval = be32_at octets 0; tsecr = be32_at octets 4 }

-- what is known after an option of this kind and length, before these octets; of unknown kinds nothing is kept
abbrev pub with_option : ℕ → ℕ → List ℕ → TcpOptions → TcpOptions
with_option kind len octets o =
    if kind == 2 then record o { max_seg_size = Some (be16_at octets 0) }
    else (if kind == 3 then record o { window_scale = Some (shift_of (slice_index octets 0)) }
    else (if kind == 4 then record o { sack_permitted = true }
    else (if kind == 5 then record o { sack_ranges = ranges_at len octets }
    else (if kind == 8 then record o { timestamp = Some (stamp_at octets) } else o))))

-- The options behind a number of octets that belong to the one before: kind 0 ends them, kind 1 is one octet, and each
-- other kind has a length behind it that counts both. None where one is not whole, or has not its kind's length.
abbrev pub options_read : ℕ → TcpOptions → List ℕ → Option TcpOptions
options_read zero o [] = Some o
options_read (suc n) o [] = None
options_read (suc n) o (octet ∷ rest) = options_read n o rest
options_read zero o (kind ∷ []) = if (kind == 0) || (kind == 1) then Some o else None
options_read zero o (kind ∷ len ∷ rest) =
    if kind == 0 then Some o
    else (if kind == 1 then options_read 0 o (len ∷ rest)
    else (if is_option kind len then options_read (len - 2) (with_option kind len rest o) rest else None))

-- how many octets an option takes that begins with these two, before the others that are left
abbrev pub option_size : ℕ → ℕ → List ℕ → Option ℕ
option_size kind len octets =
    if kind == 1 then Some 1
    else (if is_option kind len then (if nat_le len (length octets + 2) then Some len else None) else None)
