-- Two sockets that were opened toward each other, one by `connect` and one by `listen`.
use Rattle.std.specs.Prelude.{ℕ, ◌≡◌, ◌<◌, ◌≤◌, ◌^◌, Some, None, true, false}
use Rattle.std.specs.Option.{ForSome}
use Rattle.ip_wire.specs.Address.{SameVersion}
use Rattle.ip_wire.specs.declared.endpoint.IpListenEndpoint.{IpListenEndpoint}
use Rattle.net_base.specs.declared.time.Instant.{Instant}
use Rattle.control_wire.specs.Seq.{seq_add}
use Rattle.sock_core.specs.Facts.{Facts}
use Rattle.sock_core.specs.Received.{room_of}
use Rattle.sock_tcp.specs.Content.{Sending}
use Rattle.sock_tcp.specs.Opening.{connected, listened}
use Rattle.progress_laws.specs.Smoltcp.{processed}
use Rattle.sock_tcp.specs.View.{View}
use Rattle.sock_tcp.specs.Window.{next_ack}
use Rattle.sock_tcp.specs.declared.state.State.TheVariants as state
use Rattle.sock_tcp.specs.declared.tuple.Tuple.{Tuple}
use Rattle.progress_laws.specs.InStep.{told}
use Rattle.progress_laws.specs.Speech.{DispatchesOk}
use Rattle.sock_tcp.specs.declared.rules.Rules.TheVariants as rules

-- ---- the parts of the handshake

-- v dispatches its SYN, which reaches w, and w draws this word as its number
pub record TakesSyn (f : Facts) (now : Instant) (word : ℕ) (v w : View) : Type 0 where
  pub syn : Sending
  pub sent : View
  pub sends_syn : DispatchesOk (told f now) v (Some syn) sent
  pub received : View
  pub syn_comes : processed w now word syn.ip syn.segment ≡ record { view = received; reply = None }

-- w dispatches its SYN|ACK, which reaches v. Then v is in ESTABLISHED, and w waits in SYN-RECEIVED for the ACK. They
-- agree on the numbers of both streams
pub record AnswersSyn (f : Facts) (now : Instant) (v w : View) : Type 0 where
  pub answer : Sending
  pub answered : View
  pub sends_answer : DispatchesOk (told f now) w (Some answer) answered
  pub established : View
  pub answer_comes : processed v now 0 answer.ip answer.segment ≡ record { view = established; reply = None }
  pub state_here : established.state ≡ state.Established
  pub state_across : answered.state ≡ state.SynReceived
  pub over : next_ack answered ≡ established.local_seq_no
  pub back : next_ack established ≡ seq_add answered.local_seq_no 1

-- v dispatches its ACK, which reaches w. Then both are in ESTABLISHED, and still agree
pub record Acknowledges (f : Facts) (now : Instant) (v w : View) : Type 0 where
  pub ack : Sending
  pub here : View
  pub sends_ack : DispatchesOk (told f now) v (Some ack) here
  pub across : View
  pub ack_comes : processed w now 0 ack.ip ack.segment ≡ record { view = across; reply = None }
  pub state_here : here.state ≡ state.Established
  pub state_across : across.state ≡ state.Established
  pub over_then : next_ack across ≡ here.local_seq_no
  pub back_then : next_ack here ≡ across.local_seq_no

-- ---- nothing of it is lost

pub record Establishes (f : Facts) (now : Instant) (word : ℕ) (v w : View) : Type 0 where
  pub syn : TakesSyn f now word v w
  pub answer : AnswersSyn f now syn.sent syn.received

-- The one as `connect` leaves a socket a, with the endpoints t and this number; the other as `listen` leaves a socket
-- b, which draws word as its number, and whose SYN|ACK is not paused. Both have smoltcp's rules and no user timeout, in
-- a context that has both addresses
pub record CanMeet (t : Tuple) (f : Facts) (number word : ℕ) (a b : View) : Type 0 where
  pub versions : SameVersion t.local.addr t.remote.addr
  pub here : f.has_address t.local.addr ≡ true
  pub there : f.has_address t.remote.addr ≡ true
  pub number_small : number < 2 ^ 32
  pub word_small : word < 2 ^ 32
  pub no_timeout_a : a.timeout ≡ None
  pub smoltcp_a : a.rules ≡ rules.Smoltcp
  pub no_timeout_b : b.timeout ≡ None
  pub smoltcp_b : b.rules ≡ rules.Smoltcp
  pub not_paused_a : a.synack_paused ≡ false
  pub not_paused_b : b.synack_paused ≡ false

-- at any moment
abbrev pub ListenerAnswersSyn : Type 0
ListenerAnswersSyn = (t : Tuple) (f : Facts) (now : Instant) (number word : ℕ) (a b : View) (e : IpListenEndpoint)
    → CanMeet t f number word a b
    → Establishes f now word (connected a t number) (listened b e)

-- and v dispatches its ACK next
pub record Completes (f : Facts) (now : Instant) (word : ℕ) (v w : View) : Type 0 where
  pub start : Establishes f now word v w
  pub ack : Acknowledges f now start.answer.established start.answer.answered

-- As above, where the one has a keep-alive interval that is not 0, or none, and its receive buffer a place
abbrev pub HandshakeCompletes : Type 0
HandshakeCompletes = (t : Tuple) (f : Facts) (now : Instant) (number word : ℕ) (a b : View) (e : IpListenEndpoint)
    → CanMeet t f number word a b
    → ForSome a.keep_alive (λ d. 0 < d.micros)
    → 0 < room_of a.rx_buffer
    → room_of a.rx_buffer ≤ 2 ^ 30
    → room_of b.rx_buffer ≤ 2 ^ 30
    → Completes f now word (connected a t number) (listened b e)
