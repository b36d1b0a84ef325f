-- The pcap format: the header of a stream, and the header of each record.
use Rattle.std.specs.Prelude.{ℕ, ◌+◌, ◌*◌, ◌/◌, ◌%◌, ◌^◌, ◌≤◌, nat_eq, nat_le, nat_lt, if◌then◌else◌, Bool, true, false}
use Rattle.std.specs.Prelude.{List, [], ◌∷◌, ◌++◌, slice_index, Result, Ok, Err}
use Rattle.ip_wire.specs.Octets.{be16, be32, be32_at}
use Rattle.pcap.specs.declared.stream.Format.{Format}
use Rattle.pcap.specs.declared.stream.Record.{Record}
use Rattle.pcap.specs.declared.stream.PcapError.{PcapError}
use Rattle.pcap.specs.declared.stream.PcapError.TheVariants as error

-- the four octets at an offset as a number, the lowest first
abbrev pub le32_at : List ℕ → ℕ → ℕ
le32_at octets i = slice_index octets i + 256 * slice_index octets (i + 1)
    + 65536 * slice_index octets (i + 2) + 16777216 * slice_index octets (i + 3)

abbrev pub number_at : Format → List ℕ → ℕ → ℕ
number_at f octets i = if f.little then le32_at octets i else be32_at octets i

-- what the first number says: a1b2c3d4 and a1b23c4d, and both the other way round
abbrev pub magic_of : ℕ → Result Format PcapError
magic_of n =
    if nat_eq n 2712847316 then Ok (record { little = false; nanos = false })
    else if nat_eq n 2712812621 then Ok (record { little = false; nanos = true })
    else if nat_eq n 3569595041 then Ok (record { little = true; nanos = false })
    else if nat_eq n 1295823521 then Ok (record { little = true; nanos = true })
    else Err error.Magic

-- the last number's lower 28 bits are the kind of packet; 101 is raw IP
abbrev pub of_raw : Format → List ℕ → Result Format PcapError
of_raw f octets = if nat_eq (number_at f octets 20 % 2 ^ 28) 101 then Ok f else Err error.LinkType

unfoldable pub format_of : List ℕ → Result Format PcapError
format_of octets = elim (magic_of (be32_at octets 0)) [ Ok f ↦ of_raw f octets | Err e ↦ Err e ]

-- the moment of a record, in microseconds
abbrev pub micros_of : Format → ℕ → ℕ → ℕ
micros_of f secs part = secs * 1000000 + (if f.nanos then part / 1000 else part)

unfoldable pub record_of : Format → List ℕ → Result Record PcapError
record_of f octets = if nat_lt 65535 (number_at f octets 8) then Err error.TooLong else Ok (record {
  micros = micros_of f (number_at f octets 0) (number_at f octets 4);
  len = number_at f octets 8;
  whole = nat_le (number_at f octets 12) (number_at f octets 8);
})

-- what is written: the highest octet first, microseconds, version 2.4, packets of at most 65535 octets, raw IP
unfoldable pub stream_header : List ℕ
stream_header = be32 2712847316 ++ be16 2 ++ be16 4 ++ be32 0 ++ be32 0 ++ be32 65535 ++ be32 101

unfoldable pub record_header : ℕ → ℕ → List ℕ
record_header micros len = be32 (micros / 1000000) ++ (be32 (micros % 1000000) ++ (be32 len ++ be32 len))
