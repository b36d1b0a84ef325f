-- The laws on two sockets that were opened toward each other.
use Rattle.std.proofs.Common.{◌≡◌, ℕ, ◌<◌, ◌≤◌, ◌^◌, Bool, true, false, true≢false, refl, sym, ap, subst, ◌∙◌, length, Option, Some, None, arith}
use Rattle.std.specs.Prelude.{Result, Ok, Err, is_ok, if◌then◌else◌, ◌==◌, ◌||◌}
use Rattle.std.proofs.lemmas.Option.{none-some}
use Rattle.net_base.specs.declared.time.Instant.{Instant}
use Rattle.ip_wire.specs.Address.{SameVersion, is_unspecified, same_version}
use Rattle.ip_wire.specs.declared.address.IpAddress.{IpAddress}
use Rattle.ip_wire.specs.declared.address.IpAddress.TheVariants as address
use Rattle.ip_wire.specs.declared.endpoint.IpEndpoint.{IpEndpoint}
use Rattle.ip_wire.specs.declared.endpoint.IpListenEndpoint.{IpListenEndpoint}
use Rattle.control_wire.specs.Seq.{seq_add}
use Rattle.control_wire.specs.declared.seq_number.TcpSeqNumber.{TcpSeqNumber}
use Rattle.sock_core.specs.Facts.{Facts}
use Rattle.sock_core.specs.Received.{Received, room_of}
use Rattle.sock_tcp.specs.Content.{plain_segment, Sending}
use Rattle.sock_tcp.specs.Opening.{Listens, after_connect, checked_local, checked_source, connected, endpoints, is_open, listened, no_address, renewed}
use Rattle.sock_tcp.specs.Queue.{capacity}
use Rattle.sock_tcp.specs.View.{View}
use Rattle.sock_tcp.specs.Window.{next_ack}
use Rattle.sock_tcp.specs.declared.error.ConnectError.{ConnectError}
use Rattle.sock_tcp.specs.declared.error.ConnectError.TheVariants as connect_error
use Rattle.sock_tcp.specs.declared.state.State.TheVariants as state
use Rattle.sock_tcp.specs.declared.tuple.Tuple.{Tuple}
use Rattle.tcp_laws.specs.Polling.{IsReached}
use Rattle.tcp_laws.specs.SocketRun.{Connect, IsNumbered, Listen, opens_listener, starting_if}
use Rattle.tcp_laws.proofs.SocketSteps.{holds_after}
use Rattle.sock_tcp.specs.Acked.{nothing_acked}
use Rattle.sock_tcp.specs.Advance.{syn_received}
use Rattle.sock_tcp.specs.Process.{stopped, tuple_of}
use Rattle.progress_laws.specs.Smoltcp.{processed}
use Rattle.sock_tcp.specs.Steps.{heard}
use Rattle.progress_laws.specs.FromOpening.{AreOpened, HandshakeBringsInStep, StandNew}
use Rattle.progress_laws.specs.InStep.{told}
use Rattle.progress_laws.specs.Opening.{Acknowledges, CanMeet, Completes, Establishes, HandshakeCompletes, ListenerAnswersSyn, TakesSyn}
use Rattle.progress_laws.proofs.Begins.{dispatch_reached, segment_reached, step_reached}
use Rattle.progress_laws.proofs.Opening.{can, ack_here, acknowledged, ans, answered, answers_syn, back_out, begins, begins_now, edge_here, established, first, first_number, may_answer, nxt_here, out, room_cleared, sent, stands}
use Rattle.progress_laws.proofs.Repeats.{Repeats, SendsSyn, SynGoesOut, sends}
use Rattle.progress_laws.proofs.SynSteps.{HasTakenSyn, IsNewListener, header_dst, received_so, syn_passes}

-- ---- a listener takes the SYN

module _ (t : Tuple) (f : Facts) (number word : ℕ) (a b : View) (m : CanMeet t f number word a b) (e : IpListenEndpoint) (now : Instant) (v : View) (r : Repeats (connected a t number) v) where
  abbrev pub call : Sending
  call = out t f number word a b m now v r

  abbrev pub s : Tuple
  s = tuple_of call.ip call.segment

  pub there_s : f.has_address s.local.addr ≡ true
  there_s = ap f.has_address (header_dst t.local.addr t.remote.addr _ _ _ m.versions) ∙ m.there

  abbrev pub received : View
  received = heard (syn_received (listened b e) now s word call.segment) now nothing_acked call.segment

  listens : (listened b e).state ≡ state.Listen
  unfolding listened renewed
  listens = refl

  pub comes : processed (listened b e) now word call.ip call.segment ≡ stopped received
  comes = syn_passes (listened b e) now word call.ip call.segment listens refl refl

  pub q : IsNewListener b received s word call.segment
  q = received_so b e now s word call.segment refl

  unfoldable pub takes_syn : SynGoesOut v r.waits now → TakesSyn f now word v (listened b e)
  takes_syn d = record { syn = call; sent = sent t f number word a b m now v r; sends_syn = sends state.SynSent t f (connected a t number) (can t f number word a b m) v r now d; received = received; syn_comes = comes }

-- ---- the laws

unfoldable pub establishes : (t : Tuple) (f : Facts) (now : Instant) (number word : ℕ) (a b : View) (e : IpListenEndpoint) → CanMeet t f number word a b → Establishes f now word (connected a t number) (listened b e)
unfolding takes_syn
establishes t f now number word a b e m =
    let x = connected a t number in
    let r = begins t f number word a b m in
    let z = q t f number word a b m e now x r in
    record { syn = takes_syn t f number word a b m e now x r (begins_now t f number word a b m now); answer = answers_syn t f number word a b m now x r (s t f number word a b m e now x r) (received t f number word a b m e now x r) (there_s t f number word a b m e now x r) z.taken now (received t f number word a b m e now x r) z.taken.repeats (z.due now) }

pub listener_answers_syn : ListenerAnswersSyn
listener_answers_syn = establishes

pub handshake_completes : HandshakeCompletes
unfolding takes_syn answers_syn establishes
handshake_completes t f now number word a b e m interval some narrow narrow_b =
    let x = connected a t number in
    let r = begins t f number word a b m in
    let z = q t f number word a b m e now x r in
    record { start = establishes t f now number word a b e m; ack = acknowledged t f number word a b m now x r (s t f number word a b m e now x r) (received t f number word a b m e now x r) (there_s t f number word a b m e now x r) z.taken now (received t f number word a b m e now x r) z.taken.repeats interval some narrow narrow_b }

-- ---- in step from the start

-- the endpoints that `connect` finds have addresses of one version
same_version_so : (a b : IpAddress) → same_version a b ≡ true → SameVersion a b
same_version_so (address.Ipv4 a) (address.Ipv4 b) e = refl
same_version_so (address.Ipv6 a) (address.Ipv6 b) e = refl
same_version_so (address.Ipv4 a) (address.Ipv6 b) e = absurd cc
same_version_so (address.Ipv6 a) (address.Ipv4 b) e = absurd cc

abbrev IsAlike : Result Tuple ConnectError → Type 0
IsAlike (Ok t) = SameVersion t.local.addr t.remote.addr
IsAlike (Err e) = Unit {0}

unless : (b : Bool) (e : ConnectError) (r : Result Tuple ConnectError) → IsAlike r → IsAlike (if b then Err e else r)
unless true e r h = tt
unless false e r h = h

source_alike : (o : Option IpAddress) (remote : IpEndpoint) (port : ℕ) → IsAlike (checked_source o remote port)
source_alike None remote port = tt
source_alike (Some a) remote port = by (same_version a remote.addr) refl
  where
    by : (b : Bool) → same_version a remote.addr ≡ b → IsAlike (if b then Ok (record { local = record { addr = a; port = port }; remote = remote }) else no_address)
    by true e = same_version_so a remote.addr e
    by false e = tt

local_alike : (o : Option IpAddress) (f : Facts) (remote : IpEndpoint) (port : ℕ) → IsAlike (checked_local o f remote port)
local_alike None f remote port = source_alike (f.source remote.addr) remote port
local_alike (Some a) f remote port = unless (is_unspecified a) connect_error.Unaddressable (checked_source (Some a) remote port) (source_alike (Some a) remote port)

pub same_versions : (t : Tuple) (v : View) (f : Facts) (remote : IpEndpoint) (own : IpListenEndpoint) → endpoints v f remote own ≡ Ok t → SameVersion t.local.addr t.remote.addr
same_versions t v f remote own e = subst IsAlike e
    (unless (is_open v.state) connect_error.InvalidState _
    (unless ((remote.port == 0) || is_unspecified remote.addr) connect_error.Unaddressable _
    (unless (own.port == 0) connect_error.Unaddressable _ (local_alike own.addr f remote own.port))))

pub narrow : (v : View) → IsReached v → room_of v.rx_buffer ≤ 2 ^ 30
narrow v r = (holds_after r.rx r.tx v r.counts r.rx_size r.run).room

listens_so : (b : View) (e : IpListenEndpoint) → is_open b.state ≡ false → 0 < e.port → Listens b e (Ok tt) (listened b e)
listens_so b e shut port = record {
  no_port = λ z. absurd (omega (arith, z, port));
  opens = λ p o. (refl, refl);
  again = λ p l s. absurd (listening l);
  other = λ p l n. absurd (listening l);
  busy = λ p o n. absurd (true≢false (sym o ∙ shut));
}
  where
    listening : b.state ≡ state.Listen → ⊥
    listening l = true≢false (sym (ap is_open l) ∙ shut)

pub connected_reached : (t : Tuple) (g : Facts) (number : ℕ) (a : View) (remote : IpEndpoint) (own : IpListenEndpoint) → IsReached a → number < 2 ^ 32 → endpoints a g remote own ≡ Ok t → IsReached (connected a t number)
connected_reached t g number a remote own r small ends = step_reached a (connected a t number) (starting_if (is_ok (endpoints a g remote own)) (connected a t number) r.counts) r (Connect g number remote own small (sym (ap (λ r. after_connect r a number) ends)) refl)

module _ (t : Tuple) (f g : Facts) (number word : ℕ) (a b : View) (remote : IpEndpoint) (own e : IpListenEndpoint) (o : AreOpened t f g number word a b remote own e) where
  pub reached_x : IsReached (connected a t number)
  reached_x = connected_reached t g number a remote own o.here.reached o.number_small o.ends

  pub reached_l : IsReached (listened b e)
  reached_l = step_reached b (listened b e) (starting_if (opens_listener b e) (listened b e) o.across.reached.counts) o.across.reached (Listen e (Ok tt) (listens_so b e o.across.not_open o.port) refl)

  pub meets : CanMeet t f number word a b
  meets = record { versions = same_versions t a g remote own o.ends; here = o.has_local; there = o.has_remote; number_small = o.number_small; word_small = o.word_small; no_timeout_a = o.here.no_timeout; smoltcp_a = o.here.smoltcp; no_timeout_b = o.across.no_timeout; smoltcp_b = o.across.smoltcp; not_paused_a = o.here.not_paused; not_paused_b = o.across.not_paused }

-- the SYN that comes has numbers
pub numbered_first : (t : Tuple) (f : Facts) (number word : ℕ) (a b : View) (m : CanMeet t f number word a b) (now : Instant) (v : View) (r : Repeats (connected a t number) v) → IsNumbered (first t f number word a b m now v r)
unfolding plain_segment
numbered_first t f number word a b m now v r = record { seq_number = subst (λ (n : TcpSeqNumber). n.0 < 2 ^ 32) (sym (first_number t f number word a b m now v r)) m.number_small; ack_number = λ k i. absurd (none-some k i) }

pub first_short : (t : Tuple) (f : Facts) (number word : ℕ) (a b : View) (m : CanMeet t f number word a b) (now : Instant) (v : View) (r : Repeats (connected a t number) v) → length (first t f number word a b m now v r).payload ≤ 65535
unfolding plain_segment
first_short t f number word a b m now v r = omega arith

-- the listener, once it took the SYN
pub reached_received : (t : Tuple) (f : Facts) (number word : ℕ) (a b : View) (m : CanMeet t f number word a b) (e : IpListenEndpoint) (now : Instant) (v : View) (r : Repeats (connected a t number) v) → IsReached (listened b e) → IsReached (received t f number word a b m e now v r)
unfolding plain_segment
reached_received t f number word a b m e now v r l = segment_reached (listened b e) (received t f number word a b m e now v r) now word (out t f number word a b m now v r).ip (first t f number word a b m now v r) None l m.word_small (numbered_first t f number word a b m now v r) (omega arith) (λ l. refl) (comes t f number word a b m e now v r)

-- ---- from the calls that open them

module _ (t : Tuple) (f g : Facts) (now : Instant) (number word : ℕ) (a b : View) (remote : IpEndpoint) (own e : IpListenEndpoint) (o : AreOpened t f g number word a b remote own e) where
  abbrev pub can_meet : CanMeet t f number word a b
  can_meet = meets t f g number word a b remote own e o

  abbrev pub caller : View
  caller = connected a t number

  abbrev pub new_caller : Repeats caller caller
  new_caller = begins t f number word a b can_meet

  abbrev pub peer : Tuple
  peer = s t f number word a b can_meet e now caller new_caller

  abbrev pub taker : View
  taker = received t f number word a b can_meet e now caller new_caller

  pub there : f.has_address peer.local.addr ≡ true
  there = there_s t f number word a b can_meet e now caller new_caller

  pub has_taken : HasTakenSyn b taker peer word (first t f number word a b can_meet now caller new_caller)
  has_taken = (q t f number word a b can_meet e now caller new_caller).taken

  abbrev pub waits : View
  waits = answered t f number word a b can_meet now caller new_caller peer taker there has_taken now taker has_taken.repeats

  pub fits_here : room_of a.rx_buffer ≤ 2 ^ 30
  fits_here = narrow a o.here.reached

  pub fits_across : room_of b.rx_buffer ≤ 2 ^ 30
  fits_across = narrow b o.across.reached

  abbrev pub done : Acknowledges f now (established t f number word a b can_meet now caller new_caller peer taker there has_taken now taker has_taken.repeats) waits
  done = acknowledged t f number word a b can_meet now caller new_caller peer taker there has_taken now taker has_taken.repeats o.here.interval o.here.some fits_here fits_across

  abbrev start : Establishes f now word caller (listened b e)
  start = establishes t f now number word a b e can_meet

  unfoldable pub handshake : Completes f now word caller (listened b e)
  unfolding establishes takes_syn answers_syn there has_taken
  handshake = record { start = start; ack = done }

  reached_sent : IsReached (sent t f number word a b can_meet now caller new_caller)
  unfolding establishes takes_syn
  reached_sent = dispatch_reached (told f now) caller (Some (out t f number word a b can_meet now caller new_caller)) (sent t f number word a b can_meet now caller new_caller) (reached_x t f g number word a b remote own e o) start.syn.sends_syn

  pub reached_waits : IsReached waits
  unfolding establishes takes_syn answers_syn there has_taken
  reached_waits = dispatch_reached (told f now) taker (Some (back_out t f number word a b can_meet now caller new_caller peer taker there has_taken now taker has_taken.repeats)) waits (reached_received t f number word a b can_meet e now caller new_caller (reached_l t f g number word a b remote own e o)) start.answer.sends_answer

  pub new_pair : StandNew a.keep_alive b.keep_alive t f (capacity a.tx_buffer) (capacity b.tx_buffer) done.here done.across
  new_pair = stands t f number word a b can_meet now caller new_caller peer taker there has_taken now taker has_taken.repeats o.here.interval o.here.some fits_here fits_across o.across.some reached_sent reached_waits

  -- what is left to a SYN|ACK that goes out again
  pub may : SendsSyn state.SynReceived peer f taker
  may = may_answer t f number word a b can_meet now caller new_caller peer taker there has_taken

  pub kept : Repeats taker waits
  kept = ans t f number word a b can_meet now caller new_caller peer taker there has_taken now taker has_taken.repeats

  pub edge : done.here.local_seq_no ≡ next_ack waits
  edge = edge_here t f number word a b can_meet now caller new_caller peer taker there has_taken now taker has_taken.repeats o.here.interval o.here.some fits_here fits_across

  pub nothing_sent : done.here.remote_last_seq ≡ done.here.local_seq_no
  nothing_sent = nxt_here t f number word a b can_meet now caller new_caller peer taker there has_taken now taker has_taken.repeats o.here.interval o.here.some fits_here fits_across

  pub next : next_ack done.here ≡ seq_add waits.local_seq_no 1
  next = ack_here t f number word a b can_meet now caller new_caller peer taker there has_taken now taker has_taken.repeats o.here.interval o.here.some fits_here fits_across

  pub room : length taker.rx_buffer.held ≤ 2 ^ 30
  room = omega (arith, ap (λ (l : Received). length l.held) has_taken.rx, room_cleared b.rx_buffer, fits_across)

pub handshake_brings_in_step : HandshakeBringsInStep
unfolding handshake
handshake_brings_in_step t f g now number word a b remote own e o = record { handshake = handshake t f g now number word a b remote own e o; new = new_pair t f g now number word a b remote own e o }
