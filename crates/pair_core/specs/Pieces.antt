-- What `send` and `recv` do with the closures of a pair.
use Rattle.std.specs.Prelude.{ℕ, ◌≡◌, List, length, min, take, Bool, true, false, Result, Ok, Err, Vec}
use Rattle.std.specs.Global.{Global}
use Rattle.sock_core.specs.Received.{first_piece}
use Rattle.sock_tcp.specs.Queue.{free_piece}
use Rattle.sock_tcp.specs.Queues.{may_send, may_recv, queued, read_off, recv_refusal}
use Rattle.sock_tcp.specs.View.{View}
use Rattle.sock_tcp.specs.declared.error.RecvError.{RecvError}
use Rattle.sock_tcp.specs.declared.error.SendError.{SendError}
use Rattle.sock_tcp.specs.declared.error.SendError.TheVariants as send_error

-- n of the bytes were taken: those that fit the free places that stand in one piece, at most size
pub record SendsSome (size : ℕ) (bs : List ℕ) (v : View) (n : ℕ) (w : View) : Type 0 where
  pub answer : n ≡ min size (min (length bs) (free_piece v.tx_buffer))
  pub view : w ≡ queued v n bs

abbrev pub SendsPieceIf : Bool → ℕ → List ℕ → View → Result ℕ SendError → View → Type 0
SendsPieceIf true size bs v (Ok n) w = SendsSome size bs v n w
SendsPieceIf false size bs v (Err e) w = (e ≡ send_error.InvalidState) × (w ≡ v)
SendsPieceIf _ size bs v r w = ⊥

abbrev pub SendsPiece : ℕ → List ℕ → View → Result ℕ SendError → View → Type 0
SendsPiece size bs v r w = SendsPieceIf (may_send v.state) size bs v r w

-- the bytes are what was taken of the queue: as far as it stands in one piece, at most size
pub record ReceivesSome (size : ℕ) (v : View) (bs : List ℕ) (w : View) : Type 0 where
  pub read : bs ≡ take (min size (first_piece v.rx_buffer)) v.rx_buffer.bytes
  pub view : w ≡ read_off v (min size (first_piece v.rx_buffer))

abbrev pub ReceivesPieceIf : Bool → ℕ → View → Result (Vec ℕ Global) RecvError → View → Type 0
ReceivesPieceIf true size v (Ok bytes) w = ReceivesSome size v bytes.items w
ReceivesPieceIf false size v (Err e) w = (e ≡ recv_refusal v) × (w ≡ v)
ReceivesPieceIf _ size v r w = ⊥

abbrev pub ReceivesPiece : ℕ → View → Result (Vec ℕ Global) RecvError → View → Type 0
ReceivesPiece size v r w = ReceivesPieceIf (may_recv v) size v r w
