-- What the calls of the application do to a socket, as the two streams see it.
use Rattle.std.proofs.Common.{◌≡◌, ℕ, ◌+◌, ◌%◌, ◌^◌, ◌≤◌, true, false, refl, arith, List, ◌++◌, length, drop, take, length-drop}
use Rattle.ip_wire.specs.declared.endpoint.IpListenEndpoint.{IpListenEndpoint}
use Rattle.sock_core.proofs.Receiving.{held_stays, none_held}
use Rattle.sock_core.specs.Received.{handed_out, cleared}
use Rattle.sock_tcp.specs.View.{View, fresh}
use Rattle.sock_tcp.specs.Opening.{listened, connected, renewed}
use Rattle.sock_tcp.specs.Queues.{may_send, queued, read_off}
use Rattle.sock_tcp.specs.declared.state.State.{State}
use Rattle.sock_tcp.specs.declared.state.State.TheVariants as state
use Rattle.sock_tcp.specs.declared.tuple.Tuple.{Tuple}
use Rattle.pair_core.specs.NetworkRuns.{unopened}
use Rattle.pair_core.specs.PairNetwork.{phase_of, shown}
use Rattle.pair_core.specs.Settings.{set_in}
use Rattle.pair_core.specs.StreamViews.{Listening, SynSent, Open}
use Rattle.pair_core.specs.declared.setting.Setting.{Setting}
use Rattle.pair_core.specs.declared.setting.Setting.TheVariants as setting

pub listened_shows : (v : View) (e : IpListenEndpoint) → shown (listened v e) ≡ record unopened.view { phase = Listening }
unfolding listened renewed fresh cleared
listened_shows v e = λ i. record unopened.view { phase = Listening; held = λ k. none_held v.rx_buffer k i }

pub connected_shows : (v : View) (t : Tuple) (word : ℕ) → shown (connected v t word) ≡ record unopened.view { phase = SynSent; snd_una = word; snd_nxt = word }
unfolding connected renewed fresh cleared
connected_shows v t word = λ i. record unopened.view { phase = SynSent; snd_una = word; snd_nxt = word; held = λ k. none_held v.rx_buffer k i }

pub queued_shows : (v : View) (n : ℕ) (bs : List ℕ) → shown (queued v n bs) ≡ record (shown v) { transmit_queue = v.tx_buffer.bytes ++ take n bs }
unfolding queued
queued_shows v n bs = refl

pub set_shows : (s : Setting) (v : View) → shown (set_in s v) ≡ shown v
set_shows (setting.KeepAlive t) v = refl
set_shows _ v = refl

-- RCV.NXT stays where it is
pub read_shows : (v : View) (n : ℕ) → n ≤ length v.rx_buffer.bytes → shown (read_off v n) ≡ record (shown v) { receive_queue = drop n v.rx_buffer.bytes }
unfolding read_off handed_out
read_shows v n le = λ i. record (shown v) { rcv_nxt = same i; receive_queue = drop n v.rx_buffer.bytes; held = λ k. held_stays v.rx_buffer n k i }
  where
    same : ((v.remote_seq_no.0 + n) % 2 ^ 32 + length (drop n v.rx_buffer.bytes)) % 2 ^ 32 ≡ (v.remote_seq_no.0 + length v.rx_buffer.bytes) % 2 ^ 32
    same = omega (arith, le, length-drop n v.rx_buffer.bytes)

-- a state that sends is one of the phase
pub sends_open : (st : State) → may_send st ≡ true → phase_of st ≡ Open
sends_open state.Established e = refl
sends_open state.CloseWait e = refl
sends_open state.Closed e = let no : false ≡ true = e in cc
sends_open state.Listen e = let no : false ≡ true = e in cc
sends_open state.SynSent e = let no : false ≡ true = e in cc
sends_open state.SynReceived e = let no : false ≡ true = e in cc
sends_open state.FinWait1 e = let no : false ≡ true = e in cc
sends_open state.FinWait2 e = let no : false ≡ true = e in cc
sends_open state.Closing e = let no : false ≡ true = e in cc
sends_open state.LastAck e = let no : false ≡ true = e in cc
sends_open state.TimeWait e = let no : false ≡ true = e in cc
