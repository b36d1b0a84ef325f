-- The bytes of a connection, lent where they lie.
use Rattle.std.specs.Prelude.{ℕ, ℤ, pos, ◌≡◌, ◌≤◌, ◌<◌, ◌^◌, min, nat_le, List, [], length, Result, Ok, Err, true}
use Rattle.std.specs.Prelude.{false, if◌then◌else◌}
use Rattle.std.specs.Borrow.{Bor}
use Rattle.std.specs.Ptr.{as_ptr}
use Rattle.sock_tcp.specs.Queue.{free_piece}
use Rattle.sock_tcp.specs.Queues.{Peeks, lent_bytes, may_recv, may_send, queued, read_off, recv_refusal}
use Rattle.sock_tcp.specs.View.{View}
use Rattle.sock_tcp.specs.declared.error.RecvError.{RecvError}
use Rattle.smoltcp_c.specs.Answers.{error_range, error_state, recv_answer}
use Rattle.smoltcp_c.specs.declared.memory.Place.{Place}

-- the place of some bytes, where they are lent
abbrev pub TellsPlace : Result (Bor (List ℕ)) RecvError → Place → ℤ → Place → Type 0
TellsPlace (Ok bs) out result out' =
    (result ≡ pos (length bs.now)) × ((out'.at ≡ as_ptr bs) × (out'.len ≡ length bs.now))
TellsPlace (Err e) out result out' = (result ≡ recv_answer (Err e)) × (out' ≡ out)

-- the receive queue as far as it stands in one piece, but at most n bytes of it, is lent
pub record LendsQueue (v : View) (n : ℕ) (out : Place) (result : ℤ) (out' : Place) : Type 0 where
  pub lent : Result (Bor (List ℕ)) RecvError
  pub peeks : Peeks v n (lent_bytes lent)
  pub told : TellsPlace lent out result out'

-- the first n bytes of the receive queue leave, where it has as many
pub record Consumes (v : View) (n : ℕ) (result : ℤ) (w : View) : Type 0 where
  pub refused : may_recv v ≡ false → (result ≡ recv_answer (Err (recv_refusal v))) × (w ≡ v)
  pub beyond : may_recv v ≡ true → length v.rx_buffer.bytes < n → (result ≡ error_range) × (w ≡ v)
  pub done : may_recv v ≡ true → n ≤ length v.rx_buffer.bytes → (result ≡ pos n) × (w ≡ read_off v n)

-- the free places behind the transmit queue, as far as they stand in one piece, are lent: no byte joins the queue
pub record LendsFree (v : View) (out : Place) (result : ℤ) (out' : Place) (w : View) : Type 0 where
  pub refused : may_send v.state ≡ false → (result ≡ error_state) × ((out' ≡ out) × (w ≡ v))
  pub answer : may_send v.state ≡ true → result ≡ pos (min (free_piece v.tx_buffer) (2 ^ 30))
  pub places : may_send v.state ≡ true → out'.len ≡ free_piece v.tx_buffer
  pub view : may_send v.state ≡ true → w ≡ queued v 0 []

-- all of n places of m, or none
abbrev pub taken_of : ℕ → ℕ → ℕ
taken_of n m = if nat_le n m then n else 0

-- the bytes that stood there
pub record CommitsIn (v : View) (n : ℕ) (result : ℤ) (w : View) : Type 0 where
  pub bytes : List ℕ
  pub count : length bytes ≡ free_piece v.tx_buffer
  pub answer : result ≡ pos (min n (2 ^ 30))
  pub view : w ≡ queued v n bytes

-- n of the free places join the queue with the bytes that stand there, where there are as many in one piece
pub record Commits (v : View) (n : ℕ) (result : ℤ) (w : View) : Type 0 where
  pub refused : may_send v.state ≡ false → (result ≡ error_state) × (w ≡ v)
  pub beyond : may_send v.state ≡ true → free_piece v.tx_buffer < n → (result ≡ error_range) × (w ≡ queued v 0 [])
  pub done : may_send v.state ≡ true → n ≤ free_piece v.tx_buffer → CommitsIn v n result w
