-- One socket over any list of calls: what it was given and what came, and what is promised of both.
use Rattle.std.specs.Prelude.{ℕ, ◌≡◌, ◌+◌, ◌-◌, ◌<◌, ◌≤◌, ◌^◌, List, [], ◌++◌, length, take, drop}
use Rattle.std.specs.Prelude.{Option, Some, None, is_some, option_map, Result, Ok, Err, is_ok}
use Rattle.std.specs.Prelude.{Bool, true, false, not, ◌==◌, ◌&&◌, ◌||◌, if◌then◌else◌}
use Rattle.std.specs.Option.{ForSome}
use Rattle.ip_wire.specs.declared.endpoint.IpEndpoint.{IpEndpoint}
use Rattle.ip_wire.specs.declared.endpoint.IpListenEndpoint.{IpListenEndpoint}
use Rattle.ip_wire.specs.declared.repr.IpRepr.{IpRepr}
use Rattle.net_base.specs.declared.time.Duration.{Duration}
use Rattle.net_base.specs.declared.time.Instant.{Instant}
use Rattle.control_wire.specs.Segment.{Segment}
use Rattle.control_wire.specs.Seq.{seq_sub}
use Rattle.sock_core.specs.Emission.{Emits}
use Rattle.sock_core.specs.Estimator.{bounded_below}
use Rattle.sock_core.specs.Facts.{Facts}
use Rattle.sock_core.specs.Received.{byte_at}
use Rattle.sock_tcp.specs.Begin.{before_emit, begun, peer_of}
use Rattle.sock_tcp.specs.Closing.{aborted, closed, keep_alive_set}
use Rattle.sock_tcp.specs.Content.{Sending, asked, offset_of, content}
use Rattle.sock_tcp.specs.Dispatch.{EmitTcp, packet_in}
use Rattle.sock_tcp.specs.Due.{is_due}
use Rattle.tcp_laws.specs.Laws.{MayTake}
use Rattle.sock_tcp.specs.Opening.{after_connect, endpoints, is_listening, is_open, Listens}
use Rattle.sock_tcp.specs.Process.{processed, processed_by}
use Rattle.sock_tcp.specs.Outgoing.{packet_of}
use Rattle.sock_tcp.specs.PathMtu.{path_mtu_set}
use Rattle.sock_tcp.specs.Queue.{IsLent}
use Rattle.sock_tcp.specs.Queues.{fitting, may_send, Sends, SendsWithIf, SendsWith, Writes}
use Rattle.sock_tcp.specs.Queues.{may_recv, Reads, ReadsWithIf, ReadsWith}
use Rattle.sock_tcp.specs.Sent.{left_by}
use Rattle.sock_tcp.specs.Settings.{of_kind}
use Rattle.sock_tcp.specs.Timers.{is_close_over}
use Rattle.sock_tcp.specs.Rfc.Numbers.{outgoing}
use Rattle.sock_tcp.specs.View.{View, moment_of}
use Rattle.sock_tcp.specs.declared.emission.Kind.TheVariants as kind
use Rattle.sock_tcp.specs.declared.error.ListenError.{ListenError}
use Rattle.sock_tcp.specs.declared.error.RecvError.{RecvError}
use Rattle.sock_tcp.specs.declared.error.SendError.{SendError}
use Rattle.sock_tcp.specs.declared.settings.CongestionControl.{CongestionControl}
use Rattle.sock_tcp.specs.declared.rules.Rules.{Rules}
use Rattle.sock_tcp.specs.declared.rules.Rules.TheVariants as rules
use Rattle.sock_tcp.specs.declared.state.State.{State}
use Rattle.sock_tcp.specs.declared.state.State.TheVariants as state
use Rattle.sock_tcp.specs.declared.tuple.Tuple.{Tuple}

-- ---- the counts

-- what was counted since the connection began
pub record Counts : Type 0 where
  pub sent : List ℕ  -- the bytes that the sending calls accepted
  pub released : ℕ  -- how many of them left the transmit queue
  pub joined : List ℕ  -- the bytes that joined the receive queue
  pub handed : List ℕ  -- the bytes that the receiving calls handed out

-- a connection that begins: what stands in the queues counts as sent and as joined
abbrev pub starting : View → Counts
starting v = record { sent = v.tx_buffer.bytes; released = 0; joined = v.rx_buffer.bytes; handed = [] }

abbrev pub starting_if : Bool → View → Counts → Counts
starting_if true w k = starting w
starting_if false w k = k

abbrev pub with_sent : Counts → List ℕ → Counts
with_sent k bs = record k { sent = k.sent ++ bs }

abbrev pub with_handed : Counts → List ℕ → Counts
with_handed k bs = record k { handed = k.handed ++ bs }

-- v became w: what left the transmit queue, and what came behind the receive queue
abbrev pub with_segment : Counts → View → View → Counts
with_segment k v w =
    record k {
      released = k.released + (length v.tx_buffer.bytes - length w.tx_buffer.bytes);
      joined = k.joined ++ drop (length v.rx_buffer.bytes) w.rx_buffer.bytes;
    }

-- a listener whose peer gave up listens again; its queues stay as they are
abbrev pub listens_again : State → State → Bool
listens_again before after = not (is_listening before) && is_listening after

-- what a segment brought and acknowledged, or a new connection where the socket listens again
abbrev pub after_segment : Counts → View → View → Counts
after_segment k v w = starting_if (listens_again v.state w.state) w (with_segment k v w)

-- ---- which bytes a call accepted or handed out

-- `send_slice` of bs
abbrev pub accepted : List ℕ → Result ℕ SendError → List ℕ
accepted bs (Ok n) = take n bs
accepted bs (Err e) = []

-- `send` with a closure of which nothing is known
abbrev pub any_filling : List ℕ → ℕ × Unit {0} → List ℕ → Type 0
any_filling lent x left = Unit {0}

-- what that closure left at the beginning of the slice that it was lent
abbrev pub filled_in : (may : Bool) (v : View) (r : Result (Unit {0}) SendError) (w : View)
    → SendsWithIf may any_filling v r w → List ℕ
filled_in true v (Ok x) w h = take h.size h.left
filled_in may v r w h = []

-- what a sending call answers, but for the closure's own value
abbrev pub answer_of : {R : Type 0} → Result R SendError → Result (Unit {0}) SendError
answer_of (Ok x) = Ok tt
answer_of (Err e) = Err e

-- `write_str` of bs: the part that fits
abbrev pub accepted_text : View → List ℕ → List ℕ
accepted_text v bs = if may_send v.state then take (fitting v (length bs)) bs else []

-- `recv_slice`, which left the slice as bs
abbrev pub handed_slice : List ℕ → Result ℕ RecvError → List ℕ
handed_slice bs (Ok n) = take n bs
handed_slice bs (Err e) = []

-- `recv` with a closure of which nothing is known
abbrev pub any_taking : List ℕ → ℕ × Unit {0} → Type 0
any_taking lent x = Unit {0}

abbrev pub read_answer_of : {R : Type 0} → Result R RecvError → Result (Unit {0}) RecvError
read_answer_of (Ok x) = Ok tt
read_answer_of (Err e) = Err e

-- the beginning of the receive queue that it took
abbrev pub taken_out : (may : Bool) (v : View) (r : Result (Unit {0}) RecvError) (w : View)
    → ReadsWithIf may any_taking v r w → List ℕ
taken_out true v (Ok x) w h = take h.size v.rx_buffer.bytes
taken_out may v r w h = []

-- ---- when a connection begins

-- `listen` opens a socket that is not open
abbrev pub opens_listener : View → IpListenEndpoint → Bool
opens_listener v e = not (e.port == 0) && not (is_open v.state)

-- a dispatch without the local address resets the socket
abbrev pub is_address_lost : Option Tuple → Facts → Bool
is_address_lost None f = false
is_address_lost (Some t) f = not (f.has_address t.local.addr)

abbrev pub is_smoltcp : Rules → Bool
is_smoltcp rules.Smoltcp = true
is_smoltcp rules.Rfc = false

-- and so does one with nothing to send once TIME-WAIT is over, by smoltcp's rules
abbrev pub is_wait_over : Option Tuple → View → Facts → Bool
is_wait_over None v f = false
is_wait_over (Some t) v f = not (is_due v t f) && (is_close_over v.timer (moment_of f) && is_smoltcp v.rules)

abbrev pub is_reset : View → Facts → Bool
is_reset v f = is_address_lost v.tuple f || is_wait_over (peer_of (begun v f)) (begun v f).view f

-- ---- one call

-- a setter changes a setting
pub data Sets (v w : View) : Type 0 where
  SetCongestionControl : (x : CongestionControl) → w ≡ record v { congestion_controller = of_kind x } → Sets v w
  SetTimeout : (x : Option Duration) → w ≡ record v { timeout = x } → Sets v w
  SetAckDelay : (x : Option Duration) → w ≡ record v { ack_delay = x } → Sets v w
  SetNagle : (x : Bool) → w ≡ record v { nagle = x } → Sets v w
  SetKeepAlive : (x : Option Duration) → w ≡ keep_alive_set v x → Sets v w
  SetHopLimit : (x : Option ℕ) → w ≡ record v { hop_limit = x } → Sets v w
  PauseSynAck : (x : Bool) → w ≡ record v { synack_paused = x } → Sets v w
  SetTsvalGenerator : (is_there : Bool) → w ≡ record v { stamps = is_there } → Sets v w
  SetRules : (x : Rules) (d : Option Duration) → w ≡ record v { rules = x; timeout = d } → Sets v w
  SetMinRto : (x : ℕ) → w ≡ record v { rtte = bounded_below v.rtte x } → Sets v w

-- the socket v sends out, or nothing, and becomes w, whether the emit answers Ok or an error
pub record SendsDue (f : Facts) (t : Tuple) (v : View) (out : Option Sending) (w : View) : Type 0 where
  pub stamp : Option ℕ
  pub told : is_some stamp ≡ v.stamps
  pub bytes : List ℕ
  pub lent : IsLent v.tx_buffer (offset_of v) (asked v t f) bytes
  pub ok : Bool
  pub sends : out ≡ content v t f stamp bytes
  pub view : w ≡ left_by out v (moment_of f) ok

abbrev pub SendsTo : Option Tuple → Facts → View → Option Sending → View → Type 0
SendsTo None f v out w = (out ≡ None) × (w ≡ v)
SendsTo (Some t) f v out w = SendsDue f t v out w

-- what the contract of `dispatch` says of the socket, for any closure
abbrev pub Dispatched : Facts → View → Option Sending → View → Type 0
Dispatched f v out w = SendsTo (peer_of (before_emit v f)) f (before_emit v f).view out w

-- a dispatch, with the emit that is called once with what goes out, or not at all
pub record DispatchesOut {F C E : Type 0} (g : EmitTcp F C E) (emit : F) (f : Facts)
    (v : View) (c : C) (r : Result (Unit {0}) E) (w : View) (c' : C) : Type 0 where
  pub out : Option Sending
  pub socket : Dispatched f v out w
  pub emits : Emits g packet_of emit (option_map packet_in (outgoing (before_emit v f).view out)) c r c'

-- a segment's numbers have 32 bits
pub record IsNumbered (s : Segment) : Type 0 where
  pub seq_number : s.seq_number.0 < 2 ^ 32
  pub ack_number : ForSome s.ack_number (λ a. a.0 < 2 ^ 32)

-- A call on a socket v with the counts k leaves the socket w with the counts j: what the contract of the call says of
-- the socket, in any context and for any closure, and what is counted. A segment that comes is any, but that in LISTEN
-- it has no acknowledgement: `accepts` holds of none that has one. It is processed by either rules, so that what holds
-- of all lists holds whatever rules the socket has
pub data Step (v : View) (k : Counts) (w : View) (j : Counts) : Type 0 where
  Listen : (e : IpListenEndpoint) (r : Result (Unit {0}) ListenError)
      → Listens v e r w
      → j ≡ starting_if (opens_listener v e) w k → Step v k w j
  Connect : (f : Facts) (word : ℕ) (remote : IpEndpoint) (local : IpListenEndpoint)
      → word < 2 ^ 32
      → w ≡ after_connect (endpoints v f remote local) v word
      → j ≡ starting_if (is_ok (endpoints v f remote local)) w k → Step v k w j
  SendSlice : (bs : List ℕ) (r : Result ℕ SendError)
      → Sends v bs r w
      → j ≡ with_sent k (accepted bs r) → Step v k w j
  Send : (r : Result (Unit {0}) SendError) (h : SendsWith any_filling v r w)
      → j ≡ with_sent k (filled_in (may_send v.state) v r w h) → Step v k w j
  WriteStr : (bs : List ℕ) (all : Bool)
      → Writes v bs all w
      → j ≡ with_sent k (accepted_text v bs) → Step v k w j
  RecvSlice : (bs bs' : List ℕ) (r : Result ℕ RecvError)
      → Reads v bs r w bs'
      → j ≡ with_handed k (handed_slice bs' r) → Step v k w j
  Recv : (r : Result (Unit {0}) RecvError) (h : ReadsWith any_taking v r w)
      → j ≡ with_handed k (taken_out (may_recv v) v r w h) → Step v k w j
  Close : w ≡ closed v
      → j ≡ k → Step v k w j
  Abort : w ≡ aborted v
      → j ≡ k → Step v k w j
  Set : Sets v w
      → j ≡ k → Step v k w j
  SetPathMtu : (now : Instant) (mtu : ℕ)
      → w ≡ path_mtu_set v now mtu
      → j ≡ k → Step v k w j
  Process : (r : Rules) (now : Instant) (word : ℕ) (ip : IpRepr) (s : Segment)
      → word < 2 ^ 32 → IsNumbered s → length s.payload ≤ 65535
      → (v.state ≡ state.Listen → s.ack_number ≡ None)
      → w ≡ (processed_by r v now word ip s).view
      → j ≡ after_segment k v w → Step v k w j
  Dispatch : (f : Facts) (out : Option Sending)
      → Dispatched f v out w
      → j ≡ starting_if (is_reset v f) w k → Step v k w j

-- any list of calls
pub data Run : View → Counts → View → Counts → Type 0 where
  Ends : (v : View) (k : Counts) → Run v k v k
  Then : (v u w : View) (k i j : Counts) → Step v k u i → Run u i w j → Run v k w j

-- ---- what is promised

-- these bytes are the part of what was sent that begins n bytes behind the released ones
abbrev pub IsPart : Counts → ℕ → List ℕ → Type 0
IsPart k n bs = bs ≡ take (length bs) (drop (k.released + n) k.sent)

-- Whatever a dispatch of v sends, a keep-alive aside: its payload is the part of what was sent that begins as many
-- bytes behind the released ones as its number lies behind SND.UNA
abbrev pub SendsParts : View → Counts → Type 0
SendsParts v k = (f : Facts) (out : Sending) (w : View)
    → Dispatched f v (Some out) w
    → (out.kind ≡ kind.KeepAlive → ⊥)
    → IsPart k (seq_sub out.segment.seq_number v.local_seq_no) out.segment.payload

-- Whatever segment comes, the receive queue is only appended to
abbrev pub OnlyAppends : View → Type 0
OnlyAppends v = (now : Instant) (word : ℕ) (ip : IpRepr) (s : Segment)
    → IsNumbered s → length s.payload ≤ 65535
    → MayTake v.rules v s (processed v now word ip s).view

-- what holds between any two calls
pub record Promised (v : View) (k : Counts) : Type 0 where
  pub released : k.released ≤ length k.sent
  pub transmit_queue : v.tx_buffer.bytes ≡ drop k.released k.sent
  pub receive_queue : k.joined ≡ k.handed ++ v.rx_buffer.bytes
  pub gapless : byte_at v.rx_buffer.held 0 ≡ None
  pub appends : OnlyAppends v
  pub payloads : SendsParts v k
