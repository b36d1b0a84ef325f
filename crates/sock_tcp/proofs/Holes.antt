-- What a fast retransmission sends again lies in the transmit queue, and begins where its number says.
use Rattle.std.proofs.Common.{◌≡◌, ℕ, ◌+◌, ◌-◌, ◌<◌, ◌≤◌, ◌%◌, ◌^◌, Bool, true, false, refl, length, Option, Some, None, max, min, arith}
use Rattle.std.specs.Prelude.{if◌then◌else◌}
use Rattle.std.proofs.lemmas.Bool.{ltb-true}
use Rattle.control_wire.specs.declared.seq_number.TcpSeqNumber.{TcpSeqNumber}
use Rattle.sock_tcp.specs.Rfc.Scoreboard.{begins_in, hole_number, hole_size, hole_start}
use Rattle.sock_tcp.specs.Content.{hole_of, resent_size, resent_within}
use Rattle.sock_tcp.specs.View.{View}
use Rattle.sock_tcp.specs.declared.rules.Rules.{Rules}
use Rattle.sock_tcp.specs.declared.rules.Rules.TheVariants as rules
use Rattle.sock_tcp.specs.declared.scoreboard.Hole.{Hole}

pub size_at_most : (h : Option Hole) (n m : ℕ) → hole_size h n m ≤ m
size_at_most None n m = omega arith
size_at_most (Some h) n m = by (begins_in h n)
  where
    by : (b : Bool) → (if b then min m (max 1 (h.end - h.start)) else m) ≤ m
    by true = omega arith
    by false = omega arith

pub size_some : (h : Option Hole) (n m : ℕ) → 0 < m → 0 < hole_size h n m
size_some None n m some = some
size_some (Some h) n m some = by (begins_in h n)
  where
    by : (b : Bool) → 0 < (if b then min m (max 1 (h.end - h.start)) else m)
    by true = omega (arith, some)
    by false = some

pub resent_at_most : (r : Rules) (window start n : ℕ) → resent_within r window start n ≤ n
resent_at_most rules.Smoltcp window start n = omega arith
resent_at_most rules.Rfc window start n = omega arith

pub resent_some : (r : Rules) (window start n : ℕ) → 0 < n → 0 < resent_within r window start n
resent_some rules.Smoltcp window start n some = some
resent_some rules.Rfc window start n some = omega (arith, some)

-- what a fast retransmission sends again
pub again_at_most : (v : View) (m : ℕ) → resent_size v m ≤ m
again_at_most v m =
    let h = hole_of v in
    let n = length v.tx_buffer.bytes in
    omega (arith, resent_at_most v.rules v.remote_win_len (hole_start h n) (hole_size h n m), size_at_most h n m)

pub again_some : (v : View) (m : ℕ) → 0 < m → 0 < resent_size v m
again_some v m some =
    let h = hole_of v in
    let n = length v.tx_buffer.bytes in
    resent_some v.rules v.remote_win_len (hole_start h n) (hole_size h n m) (size_some h n m some)

pub start_within : (h : Option Hole) (n : ℕ) → hole_start h n ≤ min (n - 1) (2 ^ 30)
start_within None n = omega arith
start_within (Some h) n = by (begins_in h n) refl
  where
    by : (b : Bool) → begins_in h n ≡ b → (if b then h.start else 0) ≤ min (n - 1) (2 ^ 30)
    by true e = omega (arith, ltb-true h.start (min n (2 ^ 30)) e)
    by false e = omega arith

pub number_at : (h : Option Hole) (n : ℕ) (una : TcpSeqNumber) → una.0 < 2 ^ 32 → (hole_number h n una).0 ≡ (una.0 + hole_start h n) % 2 ^ 32
number_at None n una small = omega (arith, small)
number_at (Some h) n una small = refl
