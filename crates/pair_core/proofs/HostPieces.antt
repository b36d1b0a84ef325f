-- What `send` and `recv` do with the closures of a pair.
use Rattle.std.proofs.Common.{◌≡◌, ℕ, List, ◌++◌, length, take, Bool, true, false, sym, ap, ◌∙◌, arith, length-take}
use Rattle.std.specs.Prelude.{min, Result, Ok, Err, Vec}
use Rattle.std.proofs.lemmas.List.{take-take}
use Rattle.std.specs.Global.{Global}
use Rattle.sock_core.specs.Received.{first_piece}
use Rattle.sock_tcp.proofs.Lending.{first_within}
use Rattle.sock_tcp.specs.Queue.{appended}
use Rattle.sock_tcp.specs.Queues.{may_send, may_recv, queued, last_ts_after, timer_after, read_off, SendsWith, SendsWithIf, ReadsWith, ReadsWithIf}
use Rattle.sock_tcp.specs.View.{View}
use Rattle.sock_tcp.specs.declared.error.RecvError.{RecvError}
use Rattle.sock_tcp.specs.declared.error.SendError.{SendError}
use Rattle.pair_core.specs.PairCalls.{Receives, ReceivesIf}
use Rattle.pair_core.specs.PairViews.{HostView}
use Rattle.pair_core.specs.declared.outcome.Outcome.TheVariants as outcome
use Rattle.pair_core.specs.Pieces.{SendsPiece, SendsPieceIf, ReceivesPiece, ReceivesPieceIf}

-- ---- send

-- what the closure makes of the places that it is lent
pub record WritesPiece (size : ℕ) (bs lent : List ℕ) (x : ℕ × ℕ) (left : List ℕ) : Type 0 where
  pub count : x.0 ≡ min size (min (length bs) (length lent))
  pub same : x.1 ≡ x.0
  pub written : take x.0 left ≡ take x.0 bs

same_queued : (v : View) (n : ℕ) (left bs : List ℕ) → take n left ≡ take n bs → queued v n left ≡ queued v n bs
unfolding queued
same_queued v n left bs e = λ i. record v { tx_buffer = appended v.tx_buffer (e i); remote_last_ts = last_ts_after v n; timer = timer_after v n }

pub sends_piece : (called : List ℕ → ℕ × ℕ → List ℕ → Type 0) (size : ℕ) (bs : List ℕ) (v : View) (r : Result ℕ SendError) (w : View) → ((lent : List ℕ) (x : ℕ × ℕ) (left : List ℕ) → called lent x left → WritesPiece size bs lent x left) → SendsWith called v r w → SendsPiece size bs v r w
sends_piece called size bs v r w says d = go (may_send v.state) r d
  where
    go : (b : Bool) (z : Result ℕ SendError) → SendsWithIf b called v z w → SendsPieceIf b size bs v z w
    go true (Ok n) f =
        let x = says f.lent (f.size, n) f.left f.met in
        record {
          answer = x.same ∙ x.count ∙ ap (λ l. min size (min (length bs) l)) f.lent_length;
          view = f.view ∙ same_queued v f.size f.left bs x.written ∙ ap (λ k. queued v k bs) (sym x.same);
        }
    go true (Err e) f = absurd f
    go false (Ok n) f = absurd f
    go false (Err e) f = f

-- ---- recv

-- what the closure makes of the bytes that it is lent
pub record ReadsPiece (room : ℕ) (lent : List ℕ) (x : ℕ × Vec ℕ Global) : Type 0 where
  pub count : x.0 ≡ min room (length lent)
  pub read : x.1.items ≡ take x.0 lent

pub receives_piece : (called : List ℕ → ℕ × Vec ℕ Global → Type 0) (room : ℕ) (v : View) (r : Result (Vec ℕ Global) RecvError) (w : View) → ((lent : List ℕ) (x : ℕ × Vec ℕ Global) → called lent x → ReadsPiece room lent x) → ReadsWith called v r w → ReceivesPiece room v r w
receives_piece called room v r w says d = go (may_recv v) r d
  where
    go : (b : Bool) (z : Result (Vec ℕ Global) RecvError) → ReadsWithIf b called v z w → ReceivesPieceIf b room v z w
    go true (Ok bytes) f =
        let piece = first_piece v.rx_buffer in
        let x = says (take piece v.rx_buffer.bytes) (f.size, bytes) f.met in
        let long : length (take piece v.rx_buffer.bytes) ≡ piece = omega (arith, length-take piece v.rx_buffer.bytes, first_within v.rx_buffer) in
        let size : f.size ≡ min room piece = x.count ∙ ap (min room) long in
        record {
          read = x.read ∙ take-take f.size piece v.rx_buffer.bytes f.size_within ∙ ap (λ n. take n v.rx_buffer.bytes) size;
          view = f.view ∙ ap (read_off v) size;
        }
    go true (Err e) f = absurd f
    go false (Ok bytes) f = absurd f
    go false (Err e) f = f

-- so a side hands out what was taken, which it keeps
pub host_receives : {G : Type 0} (size : ℕ) (h : HostView G) (bytes : Vec ℕ Global) (w : View) (kept : List ℕ) → ReceivesPiece (min size (length h.control_block.rx_buffer.bytes)) h.control_block (Ok bytes) w → kept ≡ h.handed_out ++ bytes.items → Receives true size h (outcome.Read bytes) (record h { control_block = w; handed_out = kept })
host_receives size h bytes w kept d e = go (may_recv h.control_block) d
  where
    go : (b : Bool) → ReceivesPieceIf b (min size (length h.control_block.rx_buffer.bytes)) h.control_block (Ok bytes) w → ReceivesIf b true size h (outcome.Read bytes) (record h { control_block = w; handed_out = kept })
    go true f =
        let piece = first_piece h.control_block.rx_buffer in
        let same : min (min size (length h.control_block.rx_buffer.bytes)) piece ≡ min size piece = omega (arith, first_within h.control_block.rx_buffer) in
        let read : bytes.items ≡ take (min size piece) h.control_block.rx_buffer.bytes = f.read ∙ ap (λ n. take n h.control_block.rx_buffer.bytes) same in
        let view : w ≡ read_off h.control_block (min size piece) = f.view ∙ ap (read_off h.control_block) same in
        let all : kept ≡ h.handed_out ++ take (min size piece) h.control_block.rx_buffer.bytes = e ∙ ap (λ xs. h.handed_out ++ xs) read in
        record { answer = read; host = λ i. record h { control_block = view i; handed_out = all i } }
    go false f = absurd f
