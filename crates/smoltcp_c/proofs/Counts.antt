-- Bytes that are read or sent are at most as many as a buffer has.
use Rattle.std.proofs.Common.{◌≡◌, ℕ, ◌≤◌, ◌^◌, Bool, true, false, cond, List, length, Result, Ok, Err, subst, sym, arith}
use Rattle.sock_core.specs.Received.{room_of}
use Rattle.sock_tcp.specs.Queue.{capacity}
use Rattle.sock_tcp.specs.Queues.{Reads, Sends, fitting, may_recv, may_send, readable, recv_refusal}
use Rattle.sock_tcp.specs.View.{View}
use Rattle.sock_tcp.specs.declared.error.RecvError.{RecvError}
use Rattle.sock_tcp.specs.declared.error.SendError.{SendError}
use Rattle.sock_tcp.specs.declared.error.SendError.TheVariants as send_error
use Rattle.smoltcp_c.specs.Answers.{UpTo30}

pub recv_small : (v : View) (bs bs' : List ℕ) (r : Result ℕ RecvError) (w : View) → room_of v.rx_buffer ≤ 2 ^ 30 → Reads v bs r w bs' → UpTo30 r
recv_small v bs bs' r w small h = by (may_recv v) (readable v (length bs)) (recv_refusal v) r h.answer (omega (arith, small))
  where
    by : (t : Bool) (m : ℕ) (e : RecvError) (r : Result ℕ RecvError) → r ≡ cond t (Ok m) (Err e) → m ≤ 2 ^ 30 → UpTo30 r
    by true m e r a le = subst (λ (r : Result ℕ RecvError). UpTo30 r) (sym a) le
    by false m e r a le = subst (λ (r : Result ℕ RecvError). UpTo30 r) (sym a) tt

pub send_small : (v : View) (bs : List ℕ) (r : Result ℕ SendError) (w : View) → capacity v.tx_buffer ≤ 2 ^ 30 → Sends v bs r w → UpTo30 r
send_small v bs r w small h = by (may_send v.state) (fitting v (length bs)) r h.answer (omega (arith, small))
  where
    by : (t : Bool) (m : ℕ) (r : Result ℕ SendError) → r ≡ cond t (Ok m) (Err send_error.InvalidState) → m ≤ 2 ^ 30 → UpTo30 r
    by true m r a le = subst (λ (r : Result ℕ SendError). UpTo30 r) (sym a) le
    by false m r a le = subst (λ (r : Result ℕ SendError). UpTo30 r) (sym a) tt
