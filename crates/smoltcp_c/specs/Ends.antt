-- Why a TCP connection ended, and what its two sides agreed on, as numbers.
use Rattle.std.specs.Prelude.{ℕ, zero, ℤ, pos, ◌≡◌, Option, Some, None, is_some, Bool, true, false}
use Rattle.sock_tcp.specs.declared.ended.Ended.{Ended}
use Rattle.sock_tcp.specs.declared.ended.Ended.TheVariants as ends
use Rattle.sock_tcp.specs.declared.negotiated.Negotiated.{Negotiated}
use Rattle.smoltcp_c.specs.declared.ends.Agreed.{Agreed}

-- 0: it has not
abbrev pub ended_told : Option Ended → ℤ
ended_told None = pos 0
ended_told (Some ends.Finished) = pos 1
ended_told (Some ends.Refused) = pos 2
ended_told (Some ends.Reset) = pos 3
ended_told (Some ends.TimedOut) = pos 4
ended_told (Some ends.Aborted) = pos 5
ended_told (Some ends.Unaddressable) = pos 6

abbrev pub one_if : Bool → ℕ
one_if true = 1
one_if false = 0

abbrev pub bits_or_none : Option ℕ → ℕ
bits_or_none None = 0
bits_or_none (Some n) = n

abbrev pub agreed_told : Negotiated → Agreed
agreed_told n =
    record {
      remote_mss = n.remote_mss;
      remote_window = n.remote_window;
      win_scale = one_if (is_some n.remote_win_scale);
      remote_win_scale = bits_or_none n.remote_win_scale;
      local_win_scale = n.local_win_scale;
      timestamps = one_if n.timestamps;
      sack = one_if n.sack;
    }

-- 1 and what was agreed, or 0
abbrev pub TellsAgreed : Option Negotiated → Agreed → ℤ → Agreed → Type 0
TellsAgreed None out result out' = (result ≡ pos 0) × (out' ≡ out)
TellsAgreed (Some n) out result out' = (result ≡ pos 1) × (out' ≡ agreed_told n)

-- a call that opens a socket, by its answer: where it was done, nothing has ended
abbrev pub ended_by_answer : ℤ → Option Ended → Option Ended
ended_by_answer (pos zero) e = None
ended_by_answer n e = e
