-- Three bits of the size of a segment that a SYN told.
use Rattle.std.specs.Prelude.{ℕ, ◌==◌, nat_le, Option, Some, None, if◌then◌else◌}

-- 28 octets are the least that an IPv4 packet of 68 leaves (RFC 791, section 3.2)
abbrev pub told_class : ℕ → ℕ
told_class m =
    if nat_le 1460 m then 7
    else (if nat_le 1440 m then 6
    else (if nat_le 1360 m then 5
    else (if nat_le 1220 m then 4 else (if nat_le 536 m then 3 else (if nat_le 256 m then 2 else 1)))))

-- class 0 is of a SYN that told none
abbrev pub class_of : Option ℕ → ℕ
class_of None = 0
class_of (Some m) = told_class m

abbrev pub mss_of : ℕ → Option ℕ
mss_of n =
    if n == 0 then None
    else (if n == 1 then Some 28
    else (if n == 2 then Some 256
    else (if n == 3 then Some 536
    else (if n == 4 then Some 1220
    else (if n == 5 then Some 1360 else (if n == 6 then Some 1440 else Some 1460))))))
