-- Sequence numbers, which wrap at 2^32.
use Rattle.std.specs.Prelude.{ℕ, ◌+◌, ◌-◌, ◌%◌, ◌^◌, Bool, nat_eq}
use Rattle.control_wire.specs.declared.seq_number.TcpSeqNumber.{TcpSeqNumber}

abbrev pub seq_of : ℕ → TcpSeqNumber
seq_of n = record { 0 = n }

abbrev pub seq_add : TcpSeqNumber → ℕ → TcpSeqNumber
seq_add a n = seq_of ((a.0 + n) % 2 ^ 32)

-- the number n places before a
abbrev pub seq_minus : TcpSeqNumber → ℕ → TcpSeqNumber
seq_minus a n = seq_of ((a.0 + (2 ^ 32 - n)) % 2 ^ 32)

-- how many places a stands after b, counted round the circle
abbrev pub seq_sub : TcpSeqNumber → TcpSeqNumber → ℕ
seq_sub a b = (a.0 + (2 ^ 32 - b.0)) % 2 ^ 32

abbrev pub seq_eq : TcpSeqNumber → TcpSeqNumber → Bool
seq_eq a b = nat_eq a.0 b.0
