-- The number of an answer to a SYN.
use Rattle.std.specs.Prelude.{ℕ, ℤ, pos, ◌+◌, ◌-◌, ◌*◌, ◌/◌, ◌%◌, ◌^◌, ◌==◌, ◌||◌, ◌&&◌, ◌+ℤ◌, unsigned_abs, List}
use Rattle.std.specs.Prelude.{Option}
use Rattle.std.specs.Prelude.{Some, None, Bool, false, nat_le, if◌then◌else◌}
use Rattle.std.specs.Int.{from_be_bytes, w32, w128}
use Rattle.ip_wire.specs.declared.address.IpAddress.{IpAddress}
use Rattle.ip_wire.specs.declared.address.IpAddress.TheVariants as address
use Rattle.rand_chacha.specs.ChaCha.{word_at}
use Rattle.host_cookies.specs.declared.call.Call.{Call}

-- ---- the keyed function

-- two words of the stream a, from the beginning of its block b on
unfoldable pub mixed : List ℕ → ℕ → ℕ → ℕ
mixed key a b = word_at 10 key a (b * 16 + 1) * 4294967296 + word_at 10 key a (b * 16)

unfoldable pub number_of : IpAddress → ℕ
number_of (address.Ipv4 a) = from_be_bytes w32 a.0 + 281470681743360
number_of (address.Ipv6 a) = from_be_bytes w128 a.0

abbrev pub mixed_wide : List ℕ → (remote local : ℕ) → ℕ
mixed_wide key remote local =
    mixed key (mixed key (mixed key (remote / 2 ^ 64) (remote % 2 ^ 64)) (local / 2 ^ 64)) (local % 2 ^ 64)

-- two addresses of IPv4 tell one place of the stream, others one after the other
abbrev pub addresses_of : List ℕ → (remote local : ℕ) → ℕ
addresses_of key remote local =
    if (remote / 2 ^ 64 == 0) && (local / 2 ^ 64 == 0)
    then mixed key (remote % 2 ^ 64) (local % 2 ^ 64)
    else mixed_wide key remote local

abbrev pub tag_of : List ℕ → Call → ℕ
tag_of key c =
    mixed key (addresses_of key (number_of c.remote) (number_of c.local))
    ((c.remote_port * 65536 + c.local_port) * 4294967296 + c.number)

-- ---- the number

-- the steps of 64 seconds before a moment
abbrev pub step_of : ℤ → ℕ
step_of micros = unsigned_abs (micros +ℤ pos 9223372036854775808) / 64000000

-- whether an answer is awaited, where the last one went out then: in its step of time, and in the next
abbrev pub awaited : Option ℤ → ℤ → Bool
awaited None micros = false
awaited (Some at) micros = nat_le (step_of micros) (step_of at + 1)

-- A class in the three highest bits, and what the key makes of the call, the step, the class and what else the answer
-- told (`Offers.antt`, below 65536): who acknowledges another offer than was told is not recognised.
abbrev pub numbered : List ℕ → (tag step class told : ℕ) → ℕ
numbered key tag step class told =
    class * 536870912 + mixed key tag ((step * 8 + class) * 65536 + told) % 536870912

abbrev pub number_at : List ℕ → Call → (step class told : ℕ) → ℕ
number_at key c step class told = numbered key (tag_of key c) step class told

-- the class that a number tells, where it is of this step or of the last one
abbrev pub recognised_by : List ℕ → (tag step told n : ℕ) → Option ℕ
recognised_by key tag step told n =
    if (n == numbered key tag step (n / 536870912) told) || (n == numbered key tag (step - 1) (n / 536870912) told)
    then Some (n / 536870912)
    else None

abbrev pub recognised : List ℕ → Call → (step told n : ℕ) → Option ℕ
recognised key c step told n = recognised_by key (tag_of key c) step told n
