-- The order of sequence numbers.
use Rattle.std.specs.Prelude.{Bool, ◌||◌, if◌then◌else◌}
use Rattle.control_wire.specs.declared.seq_number.TcpSeqNumber.{TcpSeqNumber}
use Rattle.control_wire.specs.Seq.{seq_eq}
use Rattle.sock_core.specs.Places.{number_is_before}

unfoldable pub is_before : TcpSeqNumber → TcpSeqNumber → Bool
is_before a b = number_is_before a.0 b.0

unfoldable pub is_not_after : TcpSeqNumber → TcpSeqNumber → Bool
is_not_after a b = is_before a b || seq_eq a b

unfoldable pub later_of : TcpSeqNumber → TcpSeqNumber → TcpSeqNumber
later_of a b = if is_before a b then b else a
