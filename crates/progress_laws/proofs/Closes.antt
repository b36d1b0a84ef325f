-- The sender closes, and its FIN reaches the receiver.
use Rattle.std.proofs.Common.{◌≡◌, ℕ, ◌+◌, ◌/◌, ◌<◌, ◌^◌, Bool, true, false, not, ◌&&◌, ◌||◌, refl, sym, ap, subst, ◌∙◌, List, length, min, Option, Some, None, arith}
use Rattle.std.specs.Prelude.{if◌then◌else◌, ◌==◌, Err}
use Rattle.std.proofs.lemmas.Bool.{eq-eqb}
use Rattle.std.proofs.lemmas.List.{length-replicate}
use Rattle.net_base.specs.declared.time.Duration.{Duration}
use Rattle.net_base.specs.declared.time.Instant.{Instant}
use Rattle.control_wire.specs.Segment.{Segment}
use Rattle.control_wire.specs.Seq.{seq_add, seq_eq, seq_sub}
use Rattle.control_wire.specs.declared.seq_number.TcpSeqNumber.{TcpSeqNumber}
use Rattle.control_wire.specs.declared.tcp.TcpControl.TheVariants as control
use Rattle.sock_core.specs.Facts.{Facts}
use Rattle.sock_core.specs.Received.{Received}
use Rattle.sock_tcp.proofs.UserTimeout.{none_runs}
use Rattle.sock_tcp.proofs.Lending.{lent_at_most}
use Rattle.sock_tcp.specs.Begin.{is_paused}
use Rattle.sock_tcp.specs.Closing.{closed}
use Rattle.sock_tcp.specs.Content.{Sending, asked, carries_data, emission_kind, offset_of, plain_segment, sent_as}
use Rattle.sock_tcp.specs.Due.{data_due, effective_mss, flight, is_closing, is_due, is_held_back, is_opening, sendable}
use Rattle.sock_tcp.specs.Rfc.OwnWindow.{space_field}
use Rattle.sock_tcp.specs.Process.{Outcome}
use Rattle.progress_laws.specs.Smoltcp.{processed}
use Rattle.sock_tcp.specs.Queue.{Queue}
use Rattle.sock_tcp.specs.Queues.{recv_check}
use Rattle.sock_tcp.specs.Sent.{emitted_as, left_by}
use Rattle.sock_tcp.specs.Timers.{is_keep_alive_over, is_over, is_probe_over}
use Rattle.sock_tcp.specs.View.{View}
use Rattle.sock_tcp.specs.Window.{next_ack}
use Rattle.sock_tcp.specs.declared.emission.Kind.TheVariants as kind
use Rattle.sock_tcp.specs.declared.error.RecvError.TheVariants as recv_error
use Rattle.sock_tcp.specs.declared.tuple.Tuple.{Tuple}
use Rattle.tcp_laws.specs.SocketRun.{Close}
use Rattle.tcp_laws.proofs.Ordered.{no_distance}
use Rattle.tcp_laws.proofs.OrderedCalls.{reached_ordered}
use Rattle.progress_laws.specs.AfterClose.{IsCloser}
use Rattle.progress_laws.specs.InStep.{Completes, Finishes, ForAnswer, ForKeepAlive, ForNothing, ForProbe, IsReceiver, IsSender, OneWayFinishes, Rests, told}
use Rattle.progress_laws.specs.Speech.{DispatchesOk, GoesOn}
use Rattle.progress_laws.proofs.Begins.{carries_runs, later_moment, lent_for, segment_for, told_for, sends_as, step_reached, stamp_for}
use Rattle.progress_laws.proofs.Rounds.{one_way_completes}
use Rattle.progress_laws.proofs.Says.{no_probe}
use Rattle.progress_laws.proofs.Arrives.{CountsIt, Faces, fin_counts, receives_so}
use Rattle.progress_laws.proofs.Spoken.{IsSaid, Still, sent_still, then_still}
use Rattle.progress_laws.proofs.States.{closing_carries, sends_closing, takes_receives}
use Rattle.progress_laws.proofs.Speaks.{Begins, Front, IsNoProbe, begins, wakes}
use Rattle.progress_laws.proofs.Sends.{smoltcp_field}

-- ---- the FIN goes out

-- a FIN, in order, that acknowledges all
pub record SaysFin (f : Facts) (v : View) : Type 0 where
  pub out : Sending
  pub after : View
  pub dispatch : DispatchesOk f v (Some out) after
  pub bit : out.segment.control ≡ control.Fin
  pub number : out.segment.seq_number ≡ v.local_seq_no
  pub ack : out.segment.ack_number ≡ Some (next_ack v)
  pub empty : length out.segment.payload ≡ 0
  pub field : out.segment.window_len ≡ space_field v
  pub still : Still v after

pub closed_rests : (v : View) → Rests v → Rests (closed v)
closed_rests v (ForKeepAlive at idle nxt) = ForKeepAlive at idle nxt
closed_rests v (ForNothing idle nxt some) = ForNothing idle nxt some
closed_rests v (ForAnswer at again) = ForAnswer at again
closed_rests v (ForProbe at delay probes nxt some) = ForProbe at delay probes nxt some

no_probe_left : (v : View) (r : Rests v) → length v.tx_buffer.bytes ≡ 0 → IsNoProbe r
no_probe_left v (ForKeepAlive at idle nxt) z = tt
no_probe_left v (ForNothing idle nxt some) z = tt
no_probe_left v (ForAnswer at again) z = tt
no_probe_left v (ForProbe at delay probes nxt some) z = absurd (omega (arith, some, z))

-- a sender that closes
pub closer_of : (d : Option Duration) (t : Tuple) (v : View) → IsSender d t v → IsCloser d t (closed v)
closer_of d t v s = record {
  reached = step_reached v (closed v) s.reached.counts s.reached (Close refl refl);
  state = sends_closing v.state v.rules s.state;
  peer = s.peer;
  no_timeout = s.no_timeout;
  smoltcp = s.smoltcp;
  keep_alive = s.keep_alive;
  nothing_marked = s.nothing_marked;
  rests = closed_rests v s.rests;
}

module _ (d : Option Duration) (t : Tuple) (c : View) (f : Facts) (now : Instant) (here : f.has_address t.local.addr ≡ true) (s : IsCloser d t c) (over : is_over (wakes s.rests) now ≡ true) (none_left : length c.tx_buffer.bytes ≡ 0) where
  abbrev fa : Facts
  fa = told f now

  waits : is_closing c.state ≡ true
  waits = s.state

  carries : is_paused c.state c.synack_paused ≡ false
  carries = carries_runs c.state c.synack_paused (closing_carries c.state waits)

  start : Begins t f c now
  start = begins t f c now s.reached s.no_timeout s.smoltcp s.rests (no_probe_left c s.rests none_left) over

  on : GoesOn c t fa
  on = record { peer = s.peer; address = here; alive = rw (none_runs c s.no_timeout) refl; no_end = start.no_end }

  abbrev u : View
  u = start.view

  fr : Front c u
  fr = start.front

  closing : is_closing u.state ≡ true
  closing = ap is_closing fr.same.state ∙ waits

  carries_on : carries_data u.state ≡ true
  carries_on = closing_carries u.state closing

  nothing_marked : u.pending_fast_retransmit ≡ false
  nothing_marked = fr.marked ∙ s.nothing_marked

  no_flight : flight u ≡ 0
  no_flight = ap (λ n. seq_sub n u.local_seq_no) (fr.nxt ∙ sym fr.same.una) ∙ no_distance u.local_seq_no fr.ordered.una_small

  no_queue : length u.tx_buffer.bytes ≡ 0
  no_queue = ap (λ (q : Queue). length q.bytes) fr.same.tx ∙ none_left

  abbrev bytes : List ℕ
  bytes = lent_for u t fa

  none : length bytes ≡ 0
  none = omega (arith, lent_at_most u.tx_buffer (offset_of u) (asked u t fa) bytes refl, no_queue)

  abbrev b : Segment
  b = told_for u t fa (stamp_for u) bytes

  fin : b.control ≡ control.Fin
  fin = rw (at_end, closing) refl
    where
      at_end : (offset_of u + length bytes == length u.tx_buffer.bytes) ≡ true
      at_end = eq-eqb (offset_of u + length bytes) (length u.tx_buffer.bytes) (let o : offset_of u ≡ 0 = rw nothing_marked no_flight in omega (arith, o, none, no_queue))

  plain : emission_kind u now b ≡ kind.Plain
  plain = rw (no_probe u now (ap (λ tm. is_probe_over tm now) fr.idle), fin) (by (length bytes == 0) (is_keep_alive_over u.timer now))
    where
      by : (e k : Bool) → (if k && (e && false) then kind.KeepAlive else kind.Plain) ≡ kind.Plain
      by true true = refl
      by true false = refl
      by false true = refl
      by false false = refl

  fin_due : data_due u t fa ≡ true
  unfolding data_due
  fin_due = last ((u.pending_fast_retransmit && not (length u.tx_buffer.bytes == 0)) || (not (sendable u == 0) && not (is_held_back u (effective_mss u t fa)))) (is_opening u.state && (flight u == 0)) (is_closing u.state) (seq_eq u.remote_last_seq (seq_add u.local_seq_no (length u.tx_buffer.bytes))) closing at_nxt
    where
      at_nxt : seq_eq u.remote_last_seq (seq_add u.local_seq_no (length u.tx_buffer.bytes)) ≡ true
      at_nxt = eq-eqb u.remote_last_seq.0 (seq_add u.local_seq_no (length u.tx_buffer.bytes)).0 (omega (arith, no_queue, ap (λ (m : TcpSeqNumber). m.0) (fr.nxt ∙ sym fr.same.una), fr.ordered.una_small))

      last : (x s a e : Bool) → a ≡ true → e ≡ true → (x || (s || (a && e))) ≡ true
      last true s a e p q = refl
      last false true a e p q = refl
      last false false a e p q = rw (p, q) refl

  due : is_due u t fa ≡ true
  unfolding is_due
  due = rw fin_due refl

  pub says_fin : SaysFin fa c
  unfolding plain_segment
  says_fin = record {
    out = sent_as u t kind.Plain b;
    after = left_by (Some (sent_as u t kind.Plain b)) u now true;
    dispatch = sends_as c t fa on carries u (start.is on carries) carries_on kind.Plain plain due;
    bit = fin;
    number = rw nothing_marked fr.nxt;
    ack = (λ i. Some (seq_add (fr.same.rcv i) (length ((fr.same.rx i).bytes))));
    empty = none;
    field = smoltcp_field u (fr.same.same_rules ∙ s.smoltcp) ∙ (λ i. min (length ((fr.same.rx i).held) / 2 ^ fr.same.shift i) 65535);
    still = then_still c u (left_by (Some (sent_as u t kind.Plain b)) u now true) (record { state = fr.same.state; same_rules = fr.same.same_rules; una = fr.same.una; tx = fr.same.tx; rx = fr.same.rx; rcv = fr.same.rcv; shift = fr.same.shift }) (sent_still u now (emitted_as kind.Plain b));
  }

-- ---- and is counted

facing : (s : Tuple) (w : View) (r : IsReceiver s w) (k : TcpSeqNumber) → w.local_seq_no.0 < 2 ^ 32 → k ≡ w.local_seq_no → Faces w k
facing s w r k small at = record {
  state = receives_so w.state (takes_receives w.state r.state);
  una_small = small;
  short = omega (arith, r.nothing_to_send);
  heard = 0;
  heard_within = omega arith;
  back = omega (arith, small, ap (λ (m : TcpSeqNumber). m.0) at);
  room = omega (arith, ap (λ (l : List (Option ℕ)). length l) r.nothing_held ∙ length-replicate r.room None, r.room_at_most);
}

-- a read answers that all was read, once the FIN is counted
pub finished : (w : View) (o : Outcome) → length w.rx_buffer.bytes ≡ 0 → CountsIt w o → recv_check o.view ≡ Err recv_error.Finished
finished w o none c = let z : length o.view.rx_buffer.bytes ≡ 0 = ap (λ (q : Received). length q.bytes) c.rx ∙ none in rw (c.state, z, c.fin) refl

pub one_way_finishes : OneWayFinishes
unfolding closer_of
one_way_finishes d t s f at v w got mtu here there i = go (one_way_completes d t s f at v w got mtu here there i)
  where
    go : Completes d t s f at v w got i → Finishes d t s f at v w got i
    go c =
        let l = later_moment c.end (wakes (closed_rests c.sender c.in_step.sender.rests)) in
        let q : SaysFin (told f l.0) (closed c.sender) = says_fin d t (closed c.sender) f l.0 here (closer_of d t c.sender c.in_step.sender) l.2 c.sent in
        let w = c.receiver in
        let edge = ap (λ (m : TcpSeqNumber). m.0) c.in_step.there in
        let at = ap (λ (m : TcpSeqNumber). m.0) q.number in
        let small : w.local_seq_no.0 < 2 ^ 32 = omega (arith, ap (λ (m : TcpSeqNumber). m.0) c.in_step.back) in
        let number : q.out.segment.seq_number.0 ≡ (next_ack w).0 = omega (arith, at, edge, c.in_step.taken_within, c.sent, (reached_ordered c.sender c.in_step.sender.reached).una_small) in
        let n : CountsIt w (processed w l.0 0 q.out.ip q.out.segment) = fin_counts w (next_ack c.sender) (facing s w c.in_step.receiver (next_ack c.sender) small (sym c.in_step.back)) l.0 0 q.out.ip q.out.segment (subst IsSaid (sym q.bit) tt) q.ack q.bit q.empty number (takes_receives w.state c.in_step.receiver.state) in
        record {
          bytes = c;
          now = l.0;
          later = l.1;
          out = q.out;
          sender = q.after;
          receiver = (processed w l.0 0 q.out.ip q.out.segment).view;
          dispatch = q.dispatch;
          reaches = ap (λ r. record { view = (processed w l.0 0 q.out.ip q.out.segment).view; reply = r }) n.reply;
          finished = finished w (processed w l.0 0 q.out.ip q.out.segment) (ap (λ (l : List ℕ). length l) c.in_step.receiver.read) n;
        }
