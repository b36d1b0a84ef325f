-- What of a taker stays, and what changes, when a segment from SND.UNA on reaches it.
use Rattle.std.proofs.Common.{◌≡◌, ℕ, ◌+◌, ◌<◌, ◌≤◌, inl, inr, Bool, true, refl, sym, ap, subst, ◌∙◌, List, length, take, drop, Some, arith}
use Rattle.net_base.specs.declared.time.Duration.{Duration}
use Rattle.net_base.specs.declared.time.Instant.{Instant}
use Rattle.control_wire.specs.Segment.{Segment, segment_len}
use Rattle.control_wire.specs.Seq.{seq_add}
use Rattle.control_wire.specs.declared.seq_number.TcpSeqNumber.{TcpSeqNumber}
use Rattle.control_wire.specs.declared.tcp.TcpControl.TheVariants as control
use Rattle.sock_core.specs.Seq.{later_of}
use Rattle.sock_tcp.specs.Acked.{syn_place}
use Rattle.sock_tcp.specs.Content.{carries_data}
use Rattle.sock_tcp.specs.Due.{is_closing}
use Rattle.sock_tcp.specs.Rfc.OwnWindow.{space_field}
use Rattle.sock_tcp.specs.Process.{bytes_taken}
use Rattle.sock_tcp.specs.Queue.{Queue}
use Rattle.sock_tcp.specs.Queues.{receives}
use Rattle.sock_tcp.specs.Replies.{ack_kept}
use Rattle.sock_tcp.specs.Steps.{ack_delayed, joined}
use Rattle.sock_tcp.specs.View.{View}
use Rattle.sock_tcp.specs.Window.{next_ack}
use Rattle.sock_tcp.specs.declared.state.State.{State}
use Rattle.sock_tcp.specs.declared.state.State.TheVariants as state
use Rattle.sock_tcp.specs.declared.tuple.Tuple.{Tuple}
use Rattle.tcp_laws.specs.Polling.{IsReached}
use Rattle.tcp_laws.proofs.Kept.{bytes_kept}
use Rattle.tcp_laws.proofs.OrderedCalls.{reached_ordered}
use Rattle.progress_laws.specs.Agreement.{Agreement, ForAnswer, ForKeepAlive, ForProbe, ForRepeat, IsSpeaker, Waits}
use Rattle.progress_laws.specs.Delivery.{has_counted}
use Rattle.progress_laws.proofs.Agrees.{reached_room}
use Rattle.progress_laws.proofs.Arrives.{Faces, receives_so}
use Rattle.progress_laws.proofs.Hears.{IsSaid}

-- ---- what bytes leave alone

pub record Rest (z u : View) : Type 0 where
  pub state : u.state ≡ z.state
  pub fin : u.rx_fin_received ≡ z.rx_fin_received
  pub una : u.local_seq_no ≡ z.local_seq_no
  pub nxt : u.remote_last_seq ≡ z.remote_last_seq
  pub tx : u.tx_buffer ≡ z.tx_buffer
  -- and what was counted of the peer's stream, and how it waits
  pub rcv : u.remote_seq_no ≡ z.remote_seq_no
  pub shift : u.remote_win_shift ≡ z.remote_win_shift
  pub peer : u.tuple ≡ z.tuple
  pub timeout : u.timeout ≡ z.timeout
  pub same_rules : u.rules ≡ z.rules
  pub keep_alive : u.keep_alive ≡ z.keep_alive
  pub marked : u.pending_fast_retransmit ≡ z.pending_fast_retransmit
  pub timer : u.timer ≡ z.timer

pub bytes_rest : (now : Instant) (s : Segment) (z : View) (o : ℕ) (bs : List ℕ) → Rest z (bytes_taken z now o bs s).view
unfolding ack_kept joined ack_delayed
bytes_rest now s z o bs = bytes_kept (Rest z) now s (record {
  challenges = λ w at r. record { state = r.state; fin = r.fin; una = r.una; nxt = r.nxt; tx = r.tx; rcv = r.rcv; shift = r.shift; peer = r.peer; timeout = r.timeout; same_rules = r.same_rules; keep_alive = r.keep_alive; marked = r.marked; timer = r.timer };
  acks = λ w r. record { state = r.state; fin = r.fin; una = r.una; nxt = r.nxt; tx = r.tx; rcv = r.rcv; shift = r.shift; peer = r.peer; timeout = r.timeout; same_rules = r.same_rules; keep_alive = r.keep_alive; marked = r.marked; timer = r.timer };
}) (λ w o bs r. record { state = r.state; fin = r.fin; una = r.una; nxt = r.nxt; tx = r.tx; rcv = r.rcv; shift = r.shift; peer = r.peer; timeout = r.timeout; same_rules = r.same_rules; keep_alive = r.keep_alive; marked = r.marked; timer = r.timer }) z o bs (record { state = refl; fin = refl; una = refl; nxt = refl; tx = refl; rcv = refl; shift = refl; peer = refl; timeout = refl; same_rules = refl; keep_alive = refl; marked = refl; timer = refl })

pub rest_waits : (z u : View) → Rest z u → Waits z → Waits u
rest_waits z u r (ForAnswer at e) = ForAnswer at (r.timer ∙ e)
rest_waits z u r (ForRepeat e) = ForRepeat (r.timer ∙ e)
rest_waits z u r (ForKeepAlive o e (inl m)) = ForKeepAlive o (r.timer ∙ e) (inl (r.marked ∙ m))
rest_waits z u r (ForKeepAlive o e (inr n)) = ForKeepAlive o (r.timer ∙ e) (inr (r.nxt ∙ n ∙ sym r.una))
rest_waits z u r (ForProbe at delay e (inl m)) = ForProbe at delay (r.timer ∙ e) (inl (r.marked ∙ m))
rest_waits z u r (ForProbe at delay e (inr n)) = ForProbe at delay (r.timer ∙ e) (inr (r.nxt ∙ n.0 ∙ sym r.una, subst (λ (b : Queue). 0 < length b.bytes) (sym r.tx) n.1))

-- ---- what is said

-- s goes from SND.UNA of v on, with at least a byte or the FIN, which comes with the end of the transmit queue
pub record FromFront (v : View) (s : Segment) : Type 0 where
  pub bit : IsSaid s.control
  pub ack : s.ack_number ≡ Some (next_ack v)
  pub number : s.seq_number ≡ v.local_seq_no
  pub first : s.payload ≡ take (length s.payload) v.tx_buffer.bytes
  pub field : s.window_len ≡ space_field v
  pub fin : s.control ≡ control.Fin → length s.payload ≡ length v.tx_buffer.bytes
  pub closing : s.control ≡ control.Fin → is_closing v.state ≡ true
  pub some : 0 < segment_len s
  pub short : length s.payload ≤ 65535

-- where w can speak, and waits for no acknowledgement of a FIN of its own, so can u, once v told a window
abbrev pub SpeaksOn : View → View → ℕ → View → Type 0
SpeaksOn v w h u = (e : Duration) (r : Tuple) → IsSpeaker e r w → h ≤ length w.tx_buffer.bytes → 0 < space_field v → IsSpeaker e r u × (u.state ≡ w.state)

-- u is as this but for what joined
pub record Took (w : View) (k : TcpSeqNumber) (h : ℕ) (u : View) (st : State) (first : TcpSeqNumber) (counts : Bool) : Type 0 where
  pub state : u.state ≡ st
  pub rcv : u.remote_seq_no ≡ first
  pub fin : u.rx_fin_received ≡ counts
  pub una : u.local_seq_no ≡ k
  pub nxt : u.remote_last_seq ≡ later_of w.remote_last_seq k
  pub tx : u.tx_buffer.bytes ≡ drop h w.tx_buffer.bytes
  pub shift : u.remote_win_shift ≡ w.remote_win_shift
  pub peer : u.tuple ≡ w.tuple
  pub timeout : u.timeout ≡ w.timeout
  pub same_rules : u.rules ≡ w.rules
  pub keep_alive : u.keep_alive ≡ w.keep_alive

-- y is as w but for the state, the timer and what of the peer's stream was counted
pub record Like (w y : View) : Type 0 where
  pub nxt : y.remote_last_seq ≡ w.remote_last_seq
  pub tx : y.tx_buffer ≡ w.tx_buffer
  pub shift : y.remote_win_shift ≡ w.remote_win_shift
  pub peer : y.tuple ≡ w.tuple
  pub timeout : y.timeout ≡ w.timeout
  pub same_rules : y.rules ≡ w.rules
  pub keep_alive : y.keep_alive ≡ w.keep_alive

pub faces_so : (d : Duration) (t : Tuple) (v w : View) (n h : ℕ) → Agreement d t v w n h → Faces w (next_ack v)
faces_so d t v w n h i =
    let o = reached_ordered w i.taker.reached in
    record {
      state = receives_so w.state i.taker.state;
      una_small = o.una_small;
      short = omega (arith, o.room);
      heard = h;
      heard_within = i.heard_within;
      back = ap (λ (m : TcpSeqNumber). m.0) i.back;
      room = omega (arith, reached_room w i.taker.reached);
    }

pub no_syn : (st : State) → receives st ≡ true → syn_place st ≡ 0
no_syn state.Established e = refl
no_syn state.FinWait1 e = refl
no_syn state.FinWait2 e = refl
no_syn _ e = absurd cc

-- v's FIN was counted, behind all of v's transmit queue; and where w can speak, and waits for no acknowledgement of a FIN
-- of its own, so can z, once v told a window
pub record Stopped (v w : View) (h : ℕ) (z : View) : Type 0 where
  pub reached : IsReached z
  pub next : next_ack z ≡ seq_add v.local_seq_no (length v.tx_buffer.bytes + 1)
  pub una : z.local_seq_no ≡ next_ack v
  pub nxt : z.remote_last_seq ≡ later_of w.remote_last_seq (next_ack v)
  pub tx : z.tx_buffer.bytes ≡ drop h w.tx_buffer.bytes
  pub speaks : (e : Duration) (r : Tuple) → IsSpeaker e r w → h ≤ length w.tx_buffer.bytes → 0 < space_field v → IsSpeaker e r z × (has_counted z.state ≡ true) × (is_closing z.state ≡ is_closing w.state) × (z.state ≡ state.LastAck → ⊥)

pub counted_carries : (st : State) → has_counted st ≡ true → carries_data st ≡ true
counted_carries state.CloseWait e = refl
counted_carries state.Closing e = refl
counted_carries state.LastAck e = refl
counted_carries _ e = absurd cc
