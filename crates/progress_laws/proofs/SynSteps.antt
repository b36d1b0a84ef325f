-- What a socket sends in SYN-SENT and SYN-RECEIVED, and what a SYN, a SYN|ACK and the ACK do where they come.
use Rattle.std.proofs.Common.{◌≡◌, ℕ, ◌-◌, ◌≤◌, ◌^◌, Bool, true, false, refl, sym, ap, subst, if◌then◌else◌, ◌∙◌, [], length, Some, None, arith, length-drop}
use Rattle.std.specs.Prelude.{◌==◌}
use Rattle.net_base.specs.declared.time.Instant.{Instant}
use Rattle.ip_wire.specs.Address.{SameVersion}
use Rattle.ip_wire.specs.IpHeader.{dst_addr_of, ip_header}
use Rattle.ip_wire.specs.declared.address.IpAddress.{IpAddress}
use Rattle.ip_wire.specs.declared.address.IpAddress.TheVariants as address
use Rattle.ip_wire.specs.declared.endpoint.IpListenEndpoint.{IpListenEndpoint}
use Rattle.ip_wire.specs.declared.protocol.IpProtocol.{IpProtocol}
use Rattle.ip_wire.specs.declared.repr.IpRepr.{IpRepr}
use Rattle.control_wire.specs.Segment.{Segment}
use Rattle.control_wire.specs.Seq.{seq_add, seq_of, seq_sub}
use Rattle.control_wire.specs.declared.seq_number.TcpSeqNumber.{TcpSeqNumber}
use Rattle.control_wire.specs.declared.tcp.TcpControl.TheVariants as control
use Rattle.sock_core.specs.Received.{cleared, room_of}
use Rattle.sock_core.specs.Seq.{is_before}
use Rattle.sock_core.specs.WindowShift.{window_shift}
use Rattle.sock_tcp.proofs.Windows.{end_small, length-cut, start_small, window_width}
use Rattle.sock_tcp.specs.Acked.{acked_at, acked_of, acked_places, nothing_acked, syn_place}
use Rattle.sock_tcp.specs.Advance.{advanced, counted_control, moved_to, opened_state, scale_taken, shift_taken, options_taken, syn_answered, syn_received}
use Rattle.sock_tcp.specs.Opening.{connected, listened, renewed}
use Rattle.sock_tcp.specs.Queue.{Queue, capacity}
use Rattle.sock_tcp.specs.Process.{bytes_taken, processed_inside, stopped, tuple_of, processed_by}
use Rattle.progress_laws.specs.Smoltcp.{processed}
use Rattle.sock_tcp.specs.Steps.{ack_counted, ack_heard, acknowledged, begins_probe, duplicate_counted, heard, is_duplicate, is_window_changed, probe_ended, probe_set, released, timer_acked, timer_set, timestamp_taken, una_advanced, window_taken}
use Rattle.sock_tcp.specs.Timers.{idle_from, probe_from}
use Rattle.sock_tcp.specs.declared.acked.Acked.{Acked}
use Rattle.sock_tcp.specs.declared.window.Cut.{Cut}
use Rattle.control_wire.specs.declared.tcp.TcpControl.{TcpControl}
use Rattle.sock_tcp.specs.Verdict.{is_next, verdict_at}
use Rattle.sock_tcp.specs.View.{View, fresh}
use Rattle.sock_tcp.specs.Window.{cut_bytes, cut_of, is_inside, next_ack, receive_window}
use Rattle.sock_tcp.specs.declared.state.State.{State}
use Rattle.sock_tcp.specs.declared.state.State.TheVariants as state
use Rattle.sock_tcp.specs.declared.timer.Timer.TheVariants as timer
use Rattle.sock_tcp.specs.declared.tuple.Tuple.{Tuple}
use Rattle.progress_laws.proofs.Begins.{same_self}
use Rattle.progress_laws.proofs.Edges.{empty_inside_so}
use Rattle.progress_laws.proofs.Hears.{IsData, all_no_duplicate, idle_is, idle_moment, rests_empty}
use Rattle.progress_laws.proofs.Repeats.{IsSent, NotSent, Repeats, SynGoesOut}

-- ---- what comes

pub syn_passes : (x : View) (now : Instant) (word : ℕ) (ip : IpRepr) (g : Segment) → x.state ≡ state.Listen → g.control ≡ control.Syn → g.ack_number ≡ None → processed x now word ip g ≡ stopped (heard (syn_received x now (tuple_of ip g) word g) now nothing_acked g)
unfolding processed_by processed_inside advanced verdict_at acked_at bytes_taken
syn_passes x now word ip g st bit number = rw (st, bit, number) refl

pub answer_passes : (x : View) (now : Instant) (ip : IpRepr) (g : Segment) (k : TcpSeqNumber) → x.state ≡ state.SynSent → g.control ≡ control.Syn → g.ack_number ≡ Some k → is_next k x.local_seq_no ≡ true → processed x now 0 ip g ≡ stopped (heard (syn_answered x g) now (acked_of x g.control g.ack_number) g)
unfolding processed_by processed_inside advanced verdict_at bytes_taken
answer_passes x now ip g k st bit number next = rw (st, bit, number, next) refl

pub header_dst : (a b : IpAddress) (p : IpProtocol) (n h : ℕ) → SameVersion a b → dst_addr_of (ip_header a b p n h) ≡ b
header_dst (address.Ipv4 a) (address.Ipv4 b) p n h v = refl
header_dst (address.Ipv6 a) (address.Ipv6 b) p n h v = refl
header_dst (address.Ipv4 a) (address.Ipv6 b) p n h v = cc
header_dst (address.Ipv6 a) (address.Ipv4 b) p n h v = cc

-- an acknowledgement of all, with nothing to send
module _ (x : View) (now : Instant) (a : Acked) (g : Segment) (k : TcpSeqNumber) (number : g.ack_number ≡ Some k) where
  abbrev took : View
  took = released (window_taken x now g.control g.window_len) a.len

  abbrev differs : Bool
  differs = is_window_changed x g.control g.window_len

  pub heard_delay : (heard x now a g).ack_delay_timer ≡ x.ack_delay_timer
  unfolding heard acknowledged window_taken released duplicate_counted ack_counted una_advanced timestamp_taken timer_set
  heard_delay = subst (λ o. (timer_set (timestamp_taken (acknowledged took o now a.len (length g.payload) differs) g) now a).ack_delay_timer ≡ x.ack_delay_timer) (sym number) (either (is_duplicate took k (length g.payload) differs))
    where
      either : (b : Bool) → (timer_set (timestamp_taken (ack_heard b took now k a.len) g) now a).ack_delay_timer ≡ x.ack_delay_timer
      either true = refl
      either false = refl

  pub heard_idle : (at : Instant) → x.timer ≡ timer.Retransmit at → a.all ≡ true → length x.tx_buffer.bytes ≡ 0 → is_before k x.remote_last_seq ≡ false → (heard x now a g).timer ≡ idle_from now x.keep_alive
  unfolding heard acknowledged window_taken released ack_counted una_advanced timestamp_taken timer_set
  heard_idle at waits all none last =
      ap (λ o. (timer_set (timestamp_taken (acknowledged took o now a.len (length g.payload) differs) g) now a).timer) number
      ∙ ap (λ b. (timer_set (timestamp_taken (ack_heard b took now k a.len) g) now a).timer) (all_no_duplicate x now a g k last)
      ∙ ap (λ t. probe_set (timer_acked t y now a) y now a) waits
      ∙ ap (λ t. probe_set t y now a) ends
      ∙ rests_empty y now a None (omega (arith, length-drop a.len x.tx_buffer.bytes, none))
    where
      y : View
      y = timestamp_taken (ack_heard false took now k a.len) g

      ends : timer_acked (timer.Retransmit at) y now a ≡ idle_from now y.keep_alive
      ends = rw all refl

pub acked_data : (st : State) (c : TcpControl) (k una nxt : TcpSeqNumber) (n : ℕ) → IsData c → acked_at st c (Some k) una nxt n ≡ acked_places st k nxt n (seq_sub k una - syn_place st)
unfolding acked_at
acked_data st control.None k una nxt n d = refl
acked_data st control.Psh k una nxt n d = refl
acked_data st _ k una nxt n d = absurd d

-- what acknowledges the SYN|ACK, at the left edge
module _ (x : View) (now : Instant) (ip : IpRepr) (g : Segment) (k : TcpSeqNumber) (st : x.state ≡ state.SynReceived) (bit : IsData g.control) (number : g.ack_number ≡ Some k) (next : is_next k x.local_seq_no ≡ true) (empty : length g.payload ≡ 0) (at : g.seq_number ≡ next_ack x) (room : length x.rx_buffer.held ≤ 2 ^ 30) where
  abbrev pub noted : View
  noted = record x { local_rx_last_seq = Some g.seq_number }

  abbrev pub opened : View
  opened = heard (moved_to state.Established noted) now (acked_of noted g.control g.ack_number) g

  inside : is_inside (receive_window x) g.seq_number (length g.payload) ≡ true
  unfolding is_inside receive_window
  inside = rw (empty, at) (empty_inside_so (receive_window x) (start_small x) (end_small x) (omega (arith, window_width x room, room)))

  nothing_comes : (y : View) (cut : Cut) → bytes_taken y now cut.offset (cut_bytes cut g.payload) g ≡ stopped y
  unfolding bytes_taken
  nothing_comes y cut = let z : length (cut_bytes cut g.payload) ≡ 0 = omega (arith, length-cut cut g.payload, empty) in rw z refl

  pub ack_passes : processed x now 0 ip g ≡ stopped opened
  unfolding processed_by processed_inside advanced verdict_at counted_control is_inside bytes_taken receive_window cut_of
  ack_passes = by g.control refl bit ∙ nothing_comes opened (cut_of (receive_window x) g.seq_number (length g.payload))
    where
      by : (c : TcpControl) → g.control ≡ c → IsData c → processed x now 0 ip g ≡ bytes_taken opened now (cut_of (receive_window x) g.seq_number (length g.payload)).offset (cut_bytes (cut_of (receive_window x) g.seq_number (length g.payload)) g.payload) g
      by control.None e d = rw (st, e, number, next, inside) refl
      by control.Psh e d = rw (st, e, number, next, inside) refl
      by _ e d = absurd d

-- what a listener is once it took the SYN g, with its own number
pub record HasTakenSyn (b x : View) (t : Tuple) (number : ℕ) (g : Segment) : Type 0 where
  pub state : x.state ≡ state.SynReceived
  pub peer : x.tuple ≡ Some t
  pub timeout : x.timeout ≡ b.timeout
  pub same_rules : x.rules ≡ b.rules
  pub keep_alive : x.keep_alive ≡ b.keep_alive
  pub not_paused : x.synack_paused ≡ b.synack_paused
  pub una : x.local_seq_no ≡ seq_of number
  pub rcv : x.remote_seq_no ≡ seq_add g.seq_number 1
  pub rx : x.rx_buffer ≡ cleared b.rx_buffer
  pub no_bytes : x.tx_buffer.bytes ≡ []
  pub fits : x.tx_buffer.window ≡ capacity b.tx_buffer
  pub scale : x.remote_win_scale ≡ scale_taken g.window_scale
  pub shift : x.remote_win_shift ≡ shift_taken (window_shift (room_of (cleared b.rx_buffer))) g.window_scale
  pub repeats : Repeats x x

-- and its SYN|ACK is due
pub record IsNewListener (b x : View) (t : Tuple) (number : ℕ) (g : Segment) : Type 0 where
  pub taken : HasTakenSyn b x t number g
  pub due : (now : Instant) → SynGoesOut x taken.repeats.waits now

pub received_so : (b : View) (e : IpListenEndpoint) (now : Instant) (t : Tuple) (word : ℕ) (g : Segment) → g.ack_number ≡ None → IsNewListener b (heard (syn_received (listened b e) now t word g) now nothing_acked g) t word g
unfolding heard acknowledged window_taken released timestamp_taken timer_set syn_received options_taken listened renewed fresh
received_so b e now t word g bare = subst (λ o. IsNewListener b (timer_set (timestamp_taken (acknowledged x o now 0 (length g.payload) changed) g) now nothing_acked) t word g) (sym bare) (record {
  taken = record { state = refl; peer = refl; timeout = refl; same_rules = refl; keep_alive = refl; not_paused = refl; una = refl; rcv = refl; rx = refl; no_bytes = refl; fits = omega arith; scale = refl; shift = refl; repeats = record { same = same_self _; marked = refl; waits = NotSent (idle_moment now b.keep_alive) waits refl } };
  due = λ now. tt;
})
  where
    x : View
    x = released (window_taken (syn_received (listened b e) now t word g) now g.control g.window_len) 0

    changed : Bool
    changed = is_window_changed (syn_received (listened b e) now t word g) g.control g.window_len

    y : View
    y = timestamp_taken x g

    waits : (timer_set y now nothing_acked).timer ≡ timer.Idle (idle_moment now b.keep_alive)
    waits = ap (λ tm. (timer_set (record y { timer = tm }) now nothing_acked).timer) (idle_is now b.keep_alive) ∙ rests_empty (record y { timer = timer.Idle (idle_moment now b.keep_alive) }) now nothing_acked (idle_moment now b.keep_alive) refl ∙ idle_is now b.keep_alive

-- so does one that connects itself, while its own SYN waits for an answer
pub crossing_passes : (x : View) (now : Instant) (word : ℕ) (ip : IpRepr) (g : Segment) → x.state ≡ state.SynSent → g.control ≡ control.Syn → g.ack_number ≡ None → processed x now word ip g ≡ stopped (heard (syn_answered x g) now nothing_acked g)
unfolding processed_by processed_inside advanced verdict_at acked_at bytes_taken
crossing_passes x now word ip g st bit number = rw (st, bit, number) refl

module _ (b w : View) (t : Tuple) (word : ℕ) (now : Instant) (g : Segment) (bare : g.ack_number ≡ None) (r : Repeats (connected b t word) w) (at : Instant) (sent : w.timer ≡ timer.Retransmit at) where
  abbrev pub crossed : View
  crossed = heard (syn_answered w g) now nothing_acked g

  pub crossed_so : HasTakenSyn b crossed t word g
  unfolding heard acknowledged window_taken released timestamp_taken timer_set syn_answered options_taken connected renewed fresh
  crossed_so = subst (λ o. HasTakenSyn b (timer_set (timestamp_taken (acknowledged x o now 0 (length g.payload) changed) g) now nothing_acked) t word g) (sym bare) (record {
    state = ap opened_state bare;
    peer = r.same.peer;
    timeout = r.same.timeout;
    same_rules = r.same.same_rules;
    keep_alive = r.same.keep_alive;
    not_paused = r.same.paused;
    una = r.same.una;
    rcv = refl;
    rx = r.same.rx;
    no_bytes = ap (λ (q : Queue). q.bytes) r.same.tx;
    fits = omega (arith, ap (λ (q : Queue). q.window) r.same.tx);
    scale = refl;
    shift = ap (λ n. shift_taken n g.window_scale) r.same.shift;
    repeats = record { same = same_self _; marked = r.marked; waits = IsSent at timed refl };
  })
    where
      x : View
      x = released (window_taken (syn_answered w g) now g.control g.window_len) 0

      changed : Bool
      changed = is_window_changed (syn_answered w g) g.control g.window_len

      y : View
      y = timestamp_taken x g

      empty : length y.tx_buffer.bytes ≡ 0
      empty = ap (λ (q : Queue). length q.bytes) r.same.tx

      kept : (b : Bool) → (if b then (if begins_probe (timer.Retransmit at) y nothing_acked then probe_from now y.rtte else timer.Retransmit at) else probe_ended (timer.Retransmit at) y now) ≡ timer.Retransmit at
      kept true = rw empty refl
      kept false = refl

      timed : (timer_set y now nothing_acked).timer ≡ timer.Retransmit at
      timed = ap (λ tm. probe_set (timer_acked tm y now nothing_acked) y now nothing_acked) sent ∙ kept (y.remote_win_len == 0)
