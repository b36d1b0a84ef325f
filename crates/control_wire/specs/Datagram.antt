-- UDP headers.
use Rattle.std.specs.Prelude.{ℕ}

-- two ports, a length and a checksum, of two octets each (RFC 768)
abbrev pub udp_header_len : ℕ
udp_header_len = 8
