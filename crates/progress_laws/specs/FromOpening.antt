-- Two sockets from the calls that open them toward each other to the end of both streams.
use Rattle.std.specs.Prelude.{ℕ, ◌≡◌, ◌<◌, ◌≤◌, ◌^◌, ◌≤ℤ◌, List, [], length, Option, Some, None, Ok, true, false}
use Rattle.std.specs.Option.{ForSome}
use Rattle.ip_wire.specs.declared.endpoint.IpEndpoint.{IpEndpoint}
use Rattle.ip_wire.specs.declared.endpoint.IpListenEndpoint.{IpListenEndpoint}
use Rattle.net_base.specs.declared.time.Duration.{Duration}
use Rattle.net_base.specs.declared.time.Instant.{Instant}
use Rattle.sock_core.specs.Bounds.{IsMtu}
use Rattle.sock_core.specs.Facts.{Facts}
use Rattle.sock_core.specs.Received.{room_of}
use Rattle.sock_tcp.specs.Content.{Sending}
use Rattle.sock_tcp.specs.Opening.{connected, endpoints, is_open, listened}
use Rattle.control_wire.specs.Segment.{Segment}
use Rattle.control_wire.specs.declared.tcp.TcpTimestampRepr.{TcpTimestampRepr}
use Rattle.progress_laws.specs.Smoltcp.{processed}
use Rattle.sock_tcp.specs.Queue.{capacity}
use Rattle.sock_tcp.specs.Queues.{Sends}
use Rattle.sock_tcp.specs.Replies.{reply_ip}
use Rattle.sock_tcp.specs.View.{View}
use Rattle.sock_tcp.specs.Window.{next_ack}
use Rattle.sock_tcp.specs.declared.state.State.TheVariants as state
use Rattle.sock_tcp.specs.declared.tuple.Tuple.{Tuple}
use Rattle.tcp_laws.specs.Polling.{IsReached}
use Rattle.progress_laws.specs.BothWays.{BothInStep, ClosesTo, Turns}
use Rattle.progress_laws.specs.InStep.{told}
use Rattle.progress_laws.specs.Opening.{Acknowledges, AnswersSyn, Completes, TakesSyn}
use Rattle.progress_laws.specs.Speech.{DispatchesOk}
use Rattle.progress_laws.specs.Stamped.{IsAnswerStamp, stamped}
use Rattle.sock_tcp.specs.declared.rules.Rules.TheVariants as rules

-- ---- in step from the start

-- A socket to be opened: what some list of calls makes of a new one, not open, with smoltcp's rules, without a user
-- timeout, with a keep-alive interval that is not 0 or with none, with a place in its receive buffer, and its SYN|ACK
-- is not paused
pub record IsUnopened (v : View) : Type 0 where
  pub reached : IsReached v
  pub not_open : is_open v.state ≡ false
  pub no_timeout : v.timeout ≡ None
  pub smoltcp : v.rules ≡ rules.Smoltcp
  pub interval : ForSome v.keep_alive (λ d. 0 < d.micros)
  pub not_paused : v.synack_paused ≡ false
  pub some : 0 < room_of v.rx_buffer

-- v and w are in step both ways. Neither has taken a byte of the other, or accepted one: so many fit into their queues
pub record StandNew (d e : Option Duration) (t : Tuple) (f : Facts) (fits back_fits : ℕ) (v w : View) : Type 0 where
  pub peer : Tuple
  pub address : f.has_address peer.local.addr ≡ true
  pub in_step : BothInStep d e t peer v w
  pub none_over : in_step.over.taken ≡ 0
  pub none_back : in_step.back.taken ≡ 0
  pub empty_here : v.tx_buffer.bytes ≡ []
  pub empty_across : w.tx_buffer.bytes ≡ []
  pub room_here : v.tx_buffer.window ≡ fits
  pub room_across : w.tx_buffer.window ≡ back_fits

-- the handshake of v and w, as `connect` and `listen` leave a and b, and then they stand so
pub record OpensInStep (t : Tuple) (f : Facts) (now : Instant) (word : ℕ) (a b v w : View) : Type 0 where
  pub handshake : Completes f now word v w
  pub new : StandNew a.keep_alive b.keep_alive t f (capacity a.tx_buffer) (capacity b.tx_buffer) handshake.ack.here
      handshake.ack.across

-- The call of `connect` has found the endpoints t, in a context g, and the port that is listened on is not 0. What they
-- do then is in a context f that has both addresses
pub record AreOpened (t : Tuple) (f g : Facts) (number word : ℕ) (a b : View) (remote : IpEndpoint)
    (local e : IpListenEndpoint) : Type 0 where
  pub here : IsUnopened a
  pub across : IsUnopened b
  pub ends : endpoints a g remote local ≡ Ok t
  pub port : 0 < e.port
  pub has_local : f.has_address t.local.addr ≡ true
  pub has_remote : f.has_address t.remote.addr ≡ true
  pub number_small : number < 2 ^ 32
  pub word_small : word < 2 ^ 32

abbrev pub HandshakeBringsInStep : Type 0
HandshakeBringsInStep = (t : Tuple) (f g : Facts) (now : Instant) (number word : ℕ) (a b : View) (remote : IpEndpoint)
    (local e : IpListenEndpoint)
    → AreOpened t f g number word a b remote local e
    → OpensInStep t f now word a b (connected a t number) (listened b e)

-- ---- to the end of both streams

-- v accepts the bytes xs, and w the bytes ys. Some list of dispatches, deliveries and reads brings them over: of w all
-- of xs was read, in order, and of v all of ys. Then v closes, its FIN reaches w, and reads there answer `Finished`;
-- and then it is the other way round
pub record BothEnd (f : Facts) (now : Instant) (v w : View) (xs ys : List ℕ) : Type 0 where
  pub here : View
  pub sends_here : Sends v xs (Ok (length xs)) here
  pub across : View
  pub sends_across : Sends w ys (Ok (length ys)) across
  pub end : Instant
  pub done_here : View
  pub done_across : View
  pub turns : Turns f now here across [] [] end done_here done_across xs ys
  pub at : Instant
  pub later : end.micros ≤ℤ at.micros
  pub closed_here : View
  pub heard_across : View
  pub one : ClosesTo f at done_here done_across closed_here heard_across
  pub last : Instant
  pub later_still : at.micros ≤ℤ last.micros
  pub last_here : View
  pub last_across : View
  pub other : ClosesTo f last heard_across closed_here last_across last_here

-- for any bytes that fit into the transmit buffers
pub record OpenedCompletes (t : Tuple) (f : Facts) (now : Instant) (word : ℕ) (a b v w : View) : Type 0 where
  pub opens : OpensInStep t f now word a b v w
  pub ends : (xs ys : List ℕ)
      → length xs ≤ capacity a.tx_buffer
      → length ys ≤ capacity b.tx_buffer
      → BothEnd f now opens.handshake.ack.here opens.handshake.ack.across xs ys

abbrev pub OpenedPairCompletes : Type 0
OpenedPairCompletes = (t : Tuple) (f g : Facts) (now : Instant) (number word : ℕ) (a b : View) (remote : IpEndpoint)
    (local e : IpListenEndpoint)
    → AreOpened t f g number word a b remote local e
    → IsMtu f.mtu
    → OpenedCompletes t f now word a b (connected a t number) (listened b e)

-- ---- whatever was lost before

-- Any list of dispatches of one socket, whose moments do not go back: each emit answers Ok, and what it emits is lost
pub data Losses (f : Facts) : Instant → View → Instant → View → Type 0 where
  NoLoss : (at : Instant) (v : View) → Losses f at v at v
  OneLoss : (at now end : Instant) (v u w : View) (out : Option Sending)
      → at.micros ≤ℤ now.micros
      → DispatchesOk (told f now) v out u
      → Losses f now u end w
      → Losses f at v end w

-- At some moment a SYN|ACK of w reaches v, whose ACK reaches w. Then they stand in step, and both streams can end
pub record AnswersAgain (d e : Option Duration) (t : Tuple) (f : Facts) (fits back_fits : ℕ) (last : Instant)
    (v w : View) : Type 0 where
  pub now : Instant
  pub later : last.micros ≤ℤ now.micros
  pub answer : AnswersSyn f now v w
  pub ack : Acknowledges f now answer.established answer.answered
  pub new : StandNew d e t f fits back_fits ack.here ack.across
  pub ends : (xs ys : List ℕ) → length xs ≤ fits → length ys ≤ back_fits → BothEnd f now ack.here ack.across xs ys

-- At some moment a SYN of v reaches w. It goes on so whatever SYN|ACKs of w are lost then
pub record OpensAgain (t : Tuple) (f : Facts) (last : Instant) (word : ℕ) (a b v w : View) : Type 0 where
  pub now : Instant
  pub later : last.micros ≤ℤ now.micros
  pub syn : TakesSyn f now word v w
  pub answers : (end : Instant) (z : View)
      → Losses f now syn.received end z
      → AnswersAgain a.keep_alive b.keep_alive t f (capacity a.tx_buffer) (capacity b.tx_buffer) end syn.sent z

-- whatever SYNs of the one were lost before
abbrev pub LostSynsComeAgain : Type 0
LostSynsComeAgain = (t : Tuple) (f g : Facts) (at last : Instant) (number word : ℕ) (a b v : View) (remote : IpEndpoint)
    (local e : IpListenEndpoint)
    → AreOpened t f g number word a b remote local e
    → IsMtu f.mtu
    → Losses f at (connected a t number) last v
    → OpensAgain t f last word a b v (listened b e)

-- ---- both connect

-- the other way round
abbrev pub mirrored : Tuple → Tuple
mirrored t = record { local = t.remote; remote = t.local }

-- the socket a is to be opened, and its call of `connect` finds the endpoints t, and draws this number
pub record IsCaller (t : Tuple) (number : ℕ) (a : View) : Type 0 where
  pub unopened : IsUnopened a
  pub context : Facts
  pub remote : IpEndpoint
  pub local : IpListenEndpoint
  pub ends : endpoints a context remote local ≡ Ok t
  pub small : number < 2 ^ 32

-- At some moment w sends its SYN again, and that is lost; and at some later moment a SYN of v reaches w, which answers
-- it. It goes on so whatever SYN|ACKs of w are lost then
pub record OpensCrossed (t : Tuple) (f : Facts) (last since : Instant) (word : ℕ) (a b v w : View) : Type 0 where
  pub first : Instant
  pub later : last.micros ≤ℤ first.micros
  pub later_across : since.micros ≤ℤ first.micros
  pub syn : Sending
  pub across : View
  pub sends_syn : DispatchesOk (told f first) w (Some syn) across
  pub opens : OpensAgain t f first word a b v across

-- whatever SYNs of both were lost before
abbrev pub CrossedSynsComeAgain : Type 0
CrossedSynsComeAgain = (t : Tuple) (f : Facts) (at last from since : Instant) (number word : ℕ) (a b v w : View)
    → IsCaller t number a
    → IsCaller (mirrored t) word b
    → f.has_address t.local.addr ≡ true
    → f.has_address t.remote.addr ≡ true
    → IsMtu f.mtu
    → Losses f at (connected a t number) last v
    → Losses f from (connected b (mirrored t) word) since w
    → OpensCrossed t f last since word a b v w

-- ---- the last ACK

-- At some moment w sends its SYN|ACK again. It reaches v, which is in ESTABLISHED and answers it, and the answer
-- reaches w. Then both are in ESTABLISHED, and agree on the numbers of both streams
pub record AnswersLate (f : Facts) (last : Instant) (v w : View) : Type 0 where
  pub now : Instant
  pub later : last.micros ≤ℤ now.micros
  pub syn_ack : Sending
  pub answered : View
  pub sends_again : DispatchesOk (told f now) w (Some syn_ack) answered
  pub here : View
  pub ack : Segment
  pub answers : processed v now 0 syn_ack.ip syn_ack.segment ≡ record { view = here; reply = Some ack }
  pub stamp : Option TcpTimestampRepr
  pub is_stamp : IsAnswerStamp here syn_ack.segment ack stamp
  pub across : View
  pub ack_comes : processed answered now 0 (reply_ip syn_ack.ip (stamped ack stamp)) (stamped ack stamp)
      ≡ record { view = across; reply = None }
  pub state_here : here.state ≡ state.Established
  pub state_across : across.state ≡ state.Established
  pub over_then : next_ack across ≡ here.local_seq_no
  pub back_then : next_ack here ≡ across.local_seq_no

-- the handshake whose ACK is lost, and whatever SYN|ACKs of w are lost then
pub record LosesAck (t : Tuple) (f : Facts) (now : Instant) (word : ℕ) (v w : View) : Type 0 where
  pub handshake : Completes f now word v w
  pub answers : (last : Instant) (z : View)
      → Losses f now handshake.start.answer.answered last z
      → AnswersLate f last handshake.ack.here z

abbrev pub LostAckComesAgain : Type 0
LostAckComesAgain = (t : Tuple) (f g : Facts) (now : Instant) (number word : ℕ) (a b : View) (remote : IpEndpoint)
    (local e : IpListenEndpoint)
    → AreOpened t f g number word a b remote local e
    → LosesAck t f now word (connected a t number) (listened b e)
