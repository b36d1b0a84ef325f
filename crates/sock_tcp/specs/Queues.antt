-- Reading and writing.
use Rattle.std.specs.Prelude.{ℕ, pos, ◌≡◌, ◌≤◌, ◌*◌, nat_le, List, ◌++◌, length, take, drop, min, Option, None}
use Rattle.std.specs.Prelude.{Result, Ok, Err, IfOk, OnErr, Bool, true, false, not, ◌==◌, ◌&&◌, if◌then◌else◌}
use Rattle.std.specs.Borrow.{Bor}
use Rattle.net_base.specs.declared.time.Instant.{Instant}
use Rattle.control_wire.specs.Seq.{seq_add}
use Rattle.sock_core.specs.Estimator.{Estimator}
use Rattle.sock_core.specs.Received.{handed_out, first_piece}
use Rattle.sock_tcp.specs.Queue.{appended, free_piece}
use Rattle.sock_tcp.specs.Timers.{rto_of, is_idle}
use Rattle.sock_tcp.specs.View.{View}
use Rattle.sock_tcp.specs.declared.error.RecvError.{RecvError}
use Rattle.sock_tcp.specs.declared.error.RecvError.TheVariants as recv_error
use Rattle.sock_tcp.specs.declared.error.SendError.{SendError}
use Rattle.sock_tcp.specs.declared.error.SendError.TheVariants as send_error
use Rattle.sock_tcp.specs.declared.state.State.{State}
use Rattle.sock_tcp.specs.declared.state.State.TheVariants as state
use Rattle.sock_tcp.specs.declared.timer.Timer.{Timer}
use Rattle.sock_tcp.specs.declared.timer.Timer.TheVariants as timer

abbrev pub may_send : State → Bool
may_send state.Established = true
may_send state.CloseWait = true
may_send _ = false

abbrev pub can_send : View → Bool
can_send v = may_send v.state && not (v.tx_buffer.window == 0)

abbrev pub receives : State → Bool
receives state.Established = true
receives state.FinWait1 = true
receives state.FinWait2 = true
receives _ = false

abbrev pub can_recv : View → Bool
can_recv v = not (length v.rx_buffer.bytes == 0)

abbrev pub may_recv : View → Bool
may_recv v = if receives v.state then true else can_recv v

-- ---- sending

-- how many bytes of a slice of n fit behind the transmit queue
abbrev pub fitting : View → ℕ → ℕ
fitting v n = min n v.tx_buffer.window

-- at least one byte into an empty queue forgets when the last segment came: the user's timeout then runs from the next
-- dispatch on
abbrev pub last_ts_from : Bool → View → ℕ → Option Instant
last_ts_from was_empty v n = if was_empty && not (n == 0) then None else v.remote_last_ts

abbrev pub last_ts_after : View → ℕ → Option Instant
last_ts_after v n = last_ts_from (length v.tx_buffer.bytes == 0) v n

-- a retransmission timeout after the moment zero, and as long between probes
abbrev pub first_probe : Estimator → Timer
first_probe e = timer.ZeroWindowProbe (record { micros = pos (e.rto * 1000) }) (rto_of e)

-- at least one byte, while the peer has no window and nothing is waited for, lets probes begin
abbrev pub timer_after : View → ℕ → Timer
timer_after v n = if not (n == 0) && (v.remote_win_len == 0) && is_idle v.timer then first_probe v.rtte else v.timer

-- the first n bytes of bs join the transmit queue
unfoldable pub queued : View → ℕ → List ℕ → View
queued v n bs =
    record v {
      tx_buffer = appended v.tx_buffer (take n bs);
      remote_last_ts = last_ts_after v n;
      timer = timer_after v n;
    }

-- the longest beginning of bs that fits joins the transmit queue
abbrev pub written : View → List ℕ → View
written v bs = queued v (fitting v (length bs)) bs

pub record Sends (v : View) (bs : List ℕ) (r : Result ℕ SendError) (w : View) : Type 0 where
  pub answer : r ≡ (if may_send v.state then Ok (fitting v (length bs)) else Err send_error.InvalidState)
  pub view : w ≡ (if may_send v.state then written v bs else v)

-- f was lent the free places behind the transmit queue, as far as they stand in one piece; of what it left there as
-- many bytes join the queue as it answered
pub record FillsFree {R : Type 0} (called : List ℕ → ℕ × R → List ℕ → Type 0)
    (v : View) (x : R) (w : View) : Type 0 where
  pub lent : List ℕ
  pub left : List ℕ
  pub size : ℕ
  pub lent_length : length lent ≡ free_piece v.tx_buffer
  pub left_length : length left ≡ free_piece v.tx_buffer
  pub met : called lent (size, x) left
  pub size_within : size ≤ free_piece v.tx_buffer
  pub view : w ≡ queued v size left

-- refused without a call of f where nothing may be sent
abbrev pub SendsWithIf : {R : Type 0} → Bool → (List ℕ → ℕ × R → List ℕ → Type 0)
    → View → Result R SendError → View → Type 0
SendsWithIf true called v (Ok x) w = FillsFree called v x w
SendsWithIf false called v (Err e) w = (e ≡ send_error.InvalidState) × (w ≡ v)
SendsWithIf _ called v r w = ⊥

abbrev pub SendsWith : {R : Type 0} → (List ℕ → ℕ × R → List ℕ → Type 0) → View → Result R SendError → View → Type 0
SendsWith called v r w = SendsWithIf (may_send v.state) called v r w

-- text is sent as far as it fits, and refused where not all of it does
pub record Writes (v : View) (bs : List ℕ) (all : Bool) (w : View) : Type 0 where
  pub answer : all ≡ (may_send v.state && nat_le (length bs) v.tx_buffer.window)
  pub view : w ≡ (if may_send v.state then written v bs else v)

-- ---- receiving

-- why nothing can be received: the peer has closed, or there is no connection
abbrev pub recv_refusal : View → RecvError
recv_refusal v = if v.rx_fin_received then recv_error.Finished else recv_error.InvalidState

abbrev pub recv_check : View → Result (Unit {0}) RecvError
recv_check v = if may_recv v then Ok tt else Err (recv_refusal v)

-- how many bytes a slice of n takes
abbrev pub readable : View → ℕ → ℕ
readable v n = min n (length v.rx_buffer.bytes)

-- the first n bytes of the receive queue leave; the next acknowledgement stays
unfoldable pub read_off : View → ℕ → View
read_off v n = record v { rx_buffer = handed_out v.rx_buffer n; remote_seq_no = seq_add v.remote_seq_no n }

-- the slice bs becomes bs': what was read, and behind it what stood there
pub record Reads (v : View) (bs : List ℕ) (r : Result ℕ RecvError) (w : View) (bs' : List ℕ) : Type 0 where
  pub answer : r ≡ (if may_recv v then Ok (readable v (length bs)) else Err (recv_refusal v))
  pub view : w ≡ (if may_recv v then read_off v (readable v (length bs)) else v)
  pub read : IfOk r (λ n. bs' ≡ take n v.rx_buffer.bytes ++ drop n bs)
  pub refused : OnErr r (bs' ≡ bs)

-- the first n bytes of the receive queue leave, or all where it has fewer
pub record Drops (v : View) (n : ℕ) (r : Result ℕ RecvError) (w : View) : Type 0 where
  pub answer : r ≡ (if may_recv v then Ok (readable v n) else Err (recv_refusal v))
  pub view : w ≡ (if may_recv v then read_off v (readable v n) else v)

-- f was lent the receive queue as far as it stands in one piece; as many bytes leave as it answered
pub record TakesQueued {R : Type 0} (called : List ℕ → ℕ × R → Type 0) (v : View) (x : R) (w : View) : Type 0 where
  pub size : ℕ
  pub met : called (take (first_piece v.rx_buffer) v.rx_buffer.bytes) (size, x)
  pub size_within : size ≤ first_piece v.rx_buffer
  pub view : w ≡ read_off v size

abbrev pub ReadsWithIf : {R : Type 0} → Bool → (List ℕ → ℕ × R → Type 0) → View → Result R RecvError → View → Type 0
ReadsWithIf true called v (Ok x) w = TakesQueued called v x w
ReadsWithIf false called v (Err e) w = (e ≡ recv_refusal v) × (w ≡ v)
ReadsWithIf _ called v r w = ⊥

abbrev pub ReadsWith : {R : Type 0} → (List ℕ → ℕ × R → Type 0) → View → Result R RecvError → View → Type 0
ReadsWith called v r w = ReadsWithIf (may_recv v) called v r w

-- the receive queue as far as it stands in one piece, but at most n bytes
abbrev pub PeeksIf : Bool → View → ℕ → Result (List ℕ) RecvError → Type 0
PeeksIf true v n (Ok bs) = bs ≡ take (min n (first_piece v.rx_buffer)) v.rx_buffer.bytes
PeeksIf false v n (Err e) = e ≡ recv_refusal v
PeeksIf _ v n r = ⊥

abbrev pub lent_bytes : Result (Bor (List ℕ)) RecvError → Result (List ℕ) RecvError
lent_bytes (Ok bs) = Ok bs.now
lent_bytes (Err e) = Err e

abbrev pub Peeks : View → ℕ → Result (List ℕ) RecvError → Type 0
Peeks v n r = PeeksIf (may_recv v) v n r

-- the slice bs becomes bs'
pub record PeeksInto (v : View) (bs : List ℕ) (r : Result ℕ RecvError) (bs' : List ℕ) : Type 0 where
  pub answer : r ≡ (if may_recv v then Ok (readable v (length bs)) else Err (recv_refusal v))
  pub read : IfOk r (λ n. bs' ≡ take n v.rx_buffer.bytes ++ drop n bs)
  pub refused : OnErr r (bs' ≡ bs)
