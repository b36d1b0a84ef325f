-- The three blocks of a segment.
use Rattle.std.proofs.Common.{◌≡◌, ℕ, refl, List, [], ◌∷◌, length, Option, None, slice_index_or, arith}
use Rattle.control_wire.specs.declared.seq_number.TcpSeqNumber.{TcpSeqNumber}
use Rattle.sock_tcp.specs.Rfc.Scoreboard.{all_told, told}
use Rattle.sock_tcp.specs.declared.scoreboard.Scoreboard.{Scoreboard}

pub told_three : (k : Scoreboard) (n : ℕ) (una : TcpSeqNumber) (rs : List (Option (ℕ × ℕ))) → length rs ≡ 3 → told (told (told k n una (slice_index_or rs 2 None)) n una (slice_index_or rs 1 None)) n una (slice_index_or rs 0 None) ≡ all_told k n una rs
told_three k n una [] e = absurd (omega (arith, e))
told_three k n una (a ∷ []) e = absurd (omega (arith, e))
told_three k n una (a ∷ b ∷ []) e = absurd (omega (arith, e))
told_three k n una (a ∷ b ∷ c ∷ []) e = refl
told_three k n una (a ∷ b ∷ c ∷ d ∷ rs) e = absurd (omega (arith, e))
