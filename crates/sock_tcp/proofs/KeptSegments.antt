-- What each step of `process` keeps, `process` keeps.
use Rattle.std.proofs.Common.{ℕ, Bool, true, false, ◌&&◌, List, [], length, Option, Some, None}
use Rattle.std.specs.Prelude.{if◌then◌else◌, ◌==◌, int_lt}
use Rattle.ip_wire.specs.declared.repr.IpRepr.{IpRepr}
use Rattle.net_base.specs.declared.time.Instant.{Instant}
use Rattle.control_wire.specs.Segment.{Segment}
use Rattle.control_wire.specs.declared.seq_number.TcpSeqNumber.{TcpSeqNumber}
use Rattle.control_wire.specs.declared.tcp.TcpControl.{TcpControl}
use Rattle.control_wire.specs.declared.tcp.TcpControl.TheVariants as control
use Rattle.sock_core.specs.Received.{makes_fifth_range, holds_nothing}
use Rattle.sock_tcp.specs.Acked.{acked_of}
use Rattle.sock_tcp.specs.Advance.{advance_in, advanced, counted_control, dropped, fallen_back, fin_counted, moved_to, syn_answered, syn_received, waiting}
use Rattle.sock_tcp.specs.Arrival.{Arrival, arrival}
use Rattle.sock_tcp.specs.Process.{stopped, ack_sent, challenged, close_restarted, outside_by, outside, gap_answered, bytes_taken, tuple_of, after_advance, processed_inside, has_window, cut_inside, tested_by, by_verdict, closed_then, processed_by, without_place}
use Rattle.sock_tcp.specs.Closing.{closed_from}
use Rattle.sock_tcp.specs.Replies.{ack_kept}
use Rattle.sock_tcp.specs.Rfc.Recovery.{before_of, recovered, recovered_by}
use Rattle.sock_tcp.specs.Rfc.Refused.{refused}
use Rattle.sock_tcp.specs.Steps.{ack_delayed, ack_heard, acknowledged, heard, is_duplicate, is_window_changed, joined, released, timer_set, timestamp_taken, window_taken}
use Rattle.sock_tcp.specs.Timers.{after, challenge_interval}
use Rattle.sock_tcp.specs.Rfc.Checks.{verdict_by}
use Rattle.sock_tcp.specs.Rfc.Windows.{windowed}
use Rattle.sock_tcp.specs.View.{View}
use Rattle.sock_tcp.specs.Window.{accepted_window, is_inside, cut_of}
use Rattle.sock_tcp.specs.declared.acked.Acked.{Acked}
use Rattle.sock_tcp.specs.declared.advance.Next.{Next}
use Rattle.sock_tcp.specs.declared.advance.Next.TheVariants as next
use Rattle.sock_tcp.specs.declared.rules.Rules.{Rules}
use Rattle.sock_tcp.specs.declared.rules.Rules.TheVariants as rules
use Rattle.sock_tcp.specs.declared.state.State.{State}
use Rattle.sock_tcp.specs.declared.state.State.TheVariants as state
use Rattle.sock_tcp.specs.declared.tuple.Tuple.{Tuple}
use Rattle.sock_tcp.specs.declared.verdict.Verdict.{Verdict}
use Rattle.sock_tcp.specs.declared.verdict.Verdict.TheVariants as verdicts
use Rattle.sock_tcp.proofs.Late.{closed_as}
use Rattle.sock_tcp.proofs.Recovering.{recovered_as}
use Rattle.sock_tcp.proofs.Refusing.{heard_alone, refused_as}

-- what holds of what is heard of a segment, whether it is a duplicate or not
module _ (P : View → Type 0) (now : Instant) (s : Segment) (u : View) (a : Acked) where
  abbrev pub acked_view : View
  acked_view = released (window_taken u now s.control s.window_len) a.len

  abbrev pub timer_then : View → View
  timer_then y = timer_set (timestamp_taken y s) now a

  pub heard_kept : P (timer_then acked_view) → ((k : TcpSeqNumber) → P (timer_then (ack_heard true acked_view now k a.len))) → ((k : TcpSeqNumber) → P (timer_then (ack_heard false acked_view now k a.len))) → P (heard u now a s)
  unfolding heard acknowledged
  heard_kept none duplicate other = by s.ack_number
    where
      changed : Bool
      changed = is_window_changed u s.control s.window_len

      either : (b : Bool) (k : TcpSeqNumber) → P (timer_then (ack_heard b acked_view now k a.len))
      either true k = duplicate k
      either false k = other k

      by : (o : Option TcpSeqNumber) → P (timer_then (acknowledged acked_view o now a.len (length s.payload) changed))
      by None = none
      by (Some k) = either (is_duplicate acked_view k (length s.payload) changed) k

-- P stays where a segment is answered
pub record KeptByAnswers (P : View → Type 0) : Type 0 where
  pub challenges : (w : View) (at : Instant) → P w → P (record w { challenge_ack_timer = at })
  pub acks : (w : View) → P w → P (ack_kept w)

module _ (P : View → Type 0) (now : Instant) (s : Segment) (k : KeptByAnswers P) where
  pub challenged_kept : (w : View) → P w → P (challenged w now s).view
  unfolding challenged
  challenged_kept w h = go (int_lt now.micros w.challenge_ack_timer.micros)
    where
      go : (b : Bool) → P (if b then stopped w else ack_sent (record w { challenge_ack_timer = after now challenge_interval }) s).view
      go true = h
      go false = k.acks _ (k.challenges w (after now challenge_interval) h)

  -- where TIME-WAIT begins anew
  pub outside_kept : ((w : View) → P w → P (close_restarted w now)) → (w : View) → P w → P (outside w now s).view
  unfolding outside
  outside_kept restarts w h = by s.control
    where
      u : View
      u = close_restarted w now

      bytes_or_none : (b : Bool) → P (if b then challenged u now s else ack_sent u s).view
      bytes_or_none true = challenged_kept u (restarts w h)
      bytes_or_none false = k.acks u (restarts w h)

      by : (c : TcpControl) → P (outside_by c (length s.payload) w now s).view
      by control.Rst = h
      by control.Syn = challenged_kept u (restarts w h)
      by control.None = bytes_or_none (length s.payload == 0)
      by control.Psh = bytes_or_none (length s.payload == 0)
      by control.Fin = bytes_or_none (length s.payload == 0)

  -- and where its bytes join the queue
  pub bytes_kept : ((w : View) (o : ℕ) (bs : List ℕ) → P w → P (ack_delayed (joined w o bs) now)) → (w : View) (o : ℕ) (bs : List ℕ) → P w → P (bytes_taken w now o bs s).view
  unfolding bytes_taken
  bytes_kept joins w o bs h = go (length bs == 0)
    where
      u : View
      u = ack_delayed (joined w o bs) now

      gap : (b : Bool) → P (if b then stopped u else ack_sent u s).view
      gap true = joins w o bs h
      gap false = k.acks u (joins w o bs h)

      placeless : (r : Rules) → P (without_place r w s).view
      placeless rules.Smoltcp = h
      placeless rules.Rfc = k.acks w h

      away : (b : Bool) → P (if b then without_place w.rules w s else gap_answered w u s).view
      away true = placeless w.rules
      away false = gap (holds_nothing w.rx_buffer.held && holds_nothing u.rx_buffer.held)

      go : (b : Bool) → P (if b then stopped w else (if makes_fifth_range w.rx_buffer o bs then without_place w.rules w s else gap_answered w u s)).view
      go true = h
      go false = away (makes_fifth_range w.rx_buffer o bs)

-- by each row of the state table
pub record KeptByRows (P : View → Type 0) (now : Instant) (word : ℕ) (s : Segment) : Type 0 where
  pub falls : (v : View) → P v → P (fallen_back v)
  pub drops : (v : View) → P v → P (dropped v)
  pub opens : (v : View) (t : Tuple) → P v → P (syn_received v now t word s)
  pub answers : (v : View) → P v → P (syn_answered v s)
  pub moves : (v : View) (st : State) → P v → P (moved_to st v)
  pub counts : (v : View) (st : State) → P v → P (fin_counted st v)
  pub waits : (v : View) → P v → P (waiting now v)

module _ (P : View → Type 0) (now : Instant) (word : ℕ) (s : Segment) (k : KeptByRows P now word s) (v : View) (t : Tuple) (n : ℕ) (h : P v) where
  pub rows_kept : (st : State) (c : TcpControl) (fin : Bool) → P (advance_in st c fin v (arrival now t word s) n).view
  rows_kept state.SynReceived control.Rst fin = k.falls v h
  rows_kept _ control.Rst fin = k.drops v h
  rows_kept state.Listen control.Syn fin = k.opens v t h
  rows_kept state.SynSent control.Syn fin = k.answers v h
  rows_kept state.SynReceived control.None fin = k.moves v state.Established h
  rows_kept state.SynReceived control.Fin fin = k.counts v state.CloseWait h
  rows_kept state.Established control.None fin = h
  rows_kept state.Established control.Fin fin = k.counts v state.CloseWait h
  rows_kept state.FinWait1 control.None true = k.moves v state.FinWait2 h
  rows_kept state.FinWait1 control.None false = h
  rows_kept state.FinWait1 control.Fin true = k.waits _ (k.counts v state.TimeWait h)
  rows_kept state.FinWait1 control.Fin false = k.counts v state.Closing h
  rows_kept state.FinWait2 control.None fin = h
  rows_kept state.FinWait2 control.Fin fin = k.waits _ (k.counts v state.TimeWait h)
  rows_kept state.CloseWait control.None fin = h
  rows_kept state.Closing control.None true = k.waits v h
  rows_kept state.Closing control.None false = h
  rows_kept state.LastAck control.None true = k.drops v h
  rows_kept state.LastAck control.None false = h
  rows_kept _ _ fin = h

-- and by an acknowledgement and by bytes
pub record KeptBySegments (P : View → Type 0) (now : Instant) (word : ℕ) (s : Segment) : Type 0 where
  pub answers : KeptByAnswers P
  pub restarts : (w : View) → P w → P (close_restarted w now)
  pub numbers : (v : View) (n : TcpSeqNumber) → P v → P (record v { local_rx_last_seq = Some n })
  pub rows : KeptByRows P now word s
  pub joins : (w : View) (o : ℕ) (bs : List ℕ) → P w → P (ack_delayed (joined w o bs) now)
  pub hears : (u : View) (a : Acked) → P u → P (heard u now a s)
  pub recovers : (v w : View) → P v → P w → P (recovered (before_of v s) w now)

module _ (P : View → Type 0) (now : Instant) (word : ℕ) (ip : IpRepr) (s : Segment) (k : KeptBySegments P now word s) where
  abbrev come : Arrival
  come = arrival now (tuple_of ip s) word s

  after_kept : (x : Next) (u : View) (a : Acked) (o : ℕ) (bs : List ℕ) → P u → P (after_advance x u come a o bs).view
  after_kept next.Stop u a o bs h = h
  after_kept next.Challenge u a o bs h = challenged_kept P now s k.answers u h
  after_kept next.Continue u a o bs h = bytes_kept P now s k.answers k.joins (heard u now a s) o bs (k.hears u a h)

  inside_kept : (u : View) (c : TcpControl) (o : ℕ) (bs : List ℕ) → P u → P (processed_inside u come c o bs).view
  unfolding processed_inside advanced
  inside_kept u c o bs h =
      let a = acked_of u s.control s.ack_number in
      let x = advance_in u.state c a.fin u come a.len in
      after_kept x.next x.view a o bs (rows_kept P now word s k.rows u (tuple_of ip s) a.len h u.state c a.fin)

  -- outside of the window, by either rules
  refused_kept : (r : Rules) (v : View) → P v → P (refused r v come).view
  refused_kept r v h = refused_as (λ o. P o.view) r v come (record {
    answers = outside_kept P now s k.answers k.restarts v h;
    counts = λ e. inside_kept v control.Fin 0 [] h;
    hears = λ e. alone;
    ends = λ e. alone;
    goes_on = λ e. outside_kept P now s k.answers k.restarts (heard_alone v come).view alone;
  })
    where
      alone : P (heard_alone v come).view
      alone = inside_kept v control.None 0 [] h

  pub tested_kept : (r : Rules) (v : View) → P v → (b : Bool) → P (tested_by r b v come).view
  tested_kept r v h false = inside_kept v s.control 0 [] h
  tested_kept r v h true = go (is_inside (accepted_window r v) s.seq_number (length s.payload))
    where
      go : (b : Bool) → P (if b then cut_inside (accepted_window r v) (cut_of (accepted_window r v) s.seq_number (length s.payload)) v come else refused r v come).view
      go false = refused_kept r v h
      go true = inside_kept (record v { local_rx_last_seq = Some s.seq_number }) (counted_control s.control (accepted_window r v) s.seq_number (length s.payload)) _ _ (k.numbers v s.seq_number h)

  -- and where it has recovered, by either rules, and a close that waited is done
  pub passed_kept : (r : Rules) (v : View) → P v → (b : Bool) → P (closed_then r (recovered_by r v now s (tested_by r b v come))).view
  passed_kept r v h b =
      let i = tested_kept r v h b in
      let j = recovered_as (λ o. P o.view) r v now s (tested_by r b v come) i (k.recovers v (tested_by r b v come).view h i) in
      closed_as (λ o. P o.view) r (recovered_by r v now s (tested_by r b v come)) j (k.rows.moves (recovered_by r v now s (tested_by r b v come)).view (closed_from (recovered_by r v now s (tested_by r b v come)).view.state) j)

  verdict_kept : (r : Rules) (v : View) → P v → (x : Verdict) → P (by_verdict r x v come).view
  verdict_kept r v h verdicts.Drop = h
  verdict_kept r v h verdicts.Reset = h
  verdict_kept r v h verdicts.Challenge = challenged_kept P now s k.answers v h
  verdict_kept r v h verdicts.Pass = passed_kept r v h (has_window v.state)

-- the whole, of a segment with the window that it counts as telling
pub process_kept : (P : View → Type 0) (now : Instant) (word : ℕ) (ip : IpRepr) (s : Segment) (r : Rules) (v : View) → KeptBySegments P now word (windowed r v s) → P v → P (processed_by r v now word ip s).view
unfolding processed_by
process_kept P now word ip s r v k h = verdict_kept P now word ip (windowed r v s) k r v h (verdict_by r v now s)
