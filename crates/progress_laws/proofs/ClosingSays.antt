-- What a sender that was closed says of its bytes, with a window: from SND.UNA on, and the FIN with the last of them.
use Rattle.std.proofs.Common.{◌≡◌, ℕ, ◌+◌, ◌/◌, ◌<◌, ◌≤◌, inl, Bool, true, false, not, ◌&&◌, refl, sym, ap, subst, ◌∙◌, List, length, take, drop, min, Option, Some, None, arith, ◌^◌}
use Rattle.std.specs.Prelude.{if◌then◌else◌, ◌==◌}
use Rattle.std.proofs.lemmas.Bool.{eq-eqb, eqb-true}
use Rattle.net_base.specs.declared.time.Duration.{Duration}
use Rattle.net_base.specs.declared.time.Instant.{Instant}
use Rattle.control_wire.specs.Segment.{Segment, is_empty_segment, segment_len}
use Rattle.control_wire.specs.Seq.{seq_add}
use Rattle.control_wire.specs.declared.tcp.TcpControl.TheVariants as control
use Rattle.sock_core.specs.Bounds.{IsMtu}
use Rattle.sock_core.specs.Facts.{Facts}
use Rattle.sock_tcp.proofs.UserTimeout.{none_runs}
use Rattle.sock_tcp.proofs.Lending.{lent_beginning}
use Rattle.sock_tcp.specs.Begin.{is_paused}
use Rattle.sock_tcp.specs.Content.{Sending, asked, carries_data, data_control, emission_kind, offset_of, plain_segment, sent_as, window_left}
use Rattle.sock_tcp.specs.Due.{congestion_left, effective_mss, is_closed, is_closing, is_due}
use Rattle.sock_tcp.specs.Rfc.OwnWindow.{space_field}
use Rattle.sock_tcp.specs.Queue.{Queue}
use Rattle.sock_tcp.specs.Timers.{after as moment_after, idle_from, is_keep_alive_over, is_over, keep_alive_renewed, retransmit_unless_set, rto_of}
use Rattle.sock_tcp.specs.View.{View}
use Rattle.sock_tcp.specs.Window.{next_ack}
use Rattle.sock_tcp.specs.declared.emission.Kind.TheVariants as kind
use Rattle.sock_tcp.specs.declared.timer.Timer.TheVariants as timer
use Rattle.sock_tcp.specs.declared.tuple.Tuple.{Tuple}
use Rattle.tcp_laws.proofs.Sleeping.{congestion_leaves, never_waits, window_sends}
use Rattle.progress_laws.specs.AfterClose.{IsCloser}
use Rattle.progress_laws.specs.InStep.{ForAnswer, told}
use Rattle.progress_laws.specs.Speech.{DispatchesOk, GoesOn}
use Rattle.progress_laws.proofs.Begins.{and_no, carries_runs, dispatch_reached, lent_for, not_zero, segment_for, told_for, sends_as, stamp_for}
use Rattle.progress_laws.proofs.Hears.{IsData}
use Rattle.progress_laws.proofs.Lends.{lent_some, mss_short, mss_some}
use Rattle.progress_laws.proofs.Sends.{left, plain_sent, plain_timer, plain_told, smoltcp_field}
use Rattle.progress_laws.proofs.Speaks.{Begins, FromFront, Front, IsNoProbe, asked_so, begins, from_front, lent_few, wakes}
use Rattle.progress_laws.proofs.Spoken.{IsSaid, data_said}
use Rattle.progress_laws.proofs.States.{closing_carries, closing_open}

pub record SaysOn (d : Option Duration) (t : Tuple) (f : Facts) (v : View) : Type 0 where
  pub out : Sending
  pub after : View
  pub dispatch : DispatchesOk f v (Some out) after
  pub said : IsSaid out.segment.control
  pub plain : length out.segment.payload < length v.tx_buffer.bytes → IsData out.segment.control
  pub fin : length out.segment.payload ≡ length v.tx_buffer.bytes → out.segment.control ≡ control.Fin
  pub ack : out.segment.ack_number ≡ Some (next_ack v)
  pub number : out.segment.seq_number ≡ v.local_seq_no
  pub some : 0 < length out.segment.payload
  pub fits : length out.segment.payload ≤ v.remote_win_len
  pub queued : length out.segment.payload ≤ length v.tx_buffer.bytes
  pub short : length out.segment.payload ≤ 65535
  pub first : out.segment.payload ≡ take (length out.segment.payload) v.tx_buffer.bytes
  pub closer : IsCloser d t after
  pub at : Instant
  pub timer : after.timer ≡ timer.Retransmit at
  pub una : after.local_seq_no ≡ v.local_seq_no
  pub tx : after.tx_buffer ≡ v.tx_buffer
  pub rx : after.rx_buffer ≡ v.rx_buffer
  pub rcv : after.remote_seq_no ≡ v.remote_seq_no
  pub scale : after.remote_win_scale ≡ v.remote_win_scale
  pub window : after.remote_win_len ≡ v.remote_win_len
  pub shift : after.remote_win_shift ≡ v.remote_win_shift
  pub last_ack : after.remote_last_ack ≡ Some (next_ack v)
  pub last_win : after.remote_last_win ≡ space_field v

module _ (d : Option Duration) (t : Tuple) (v : View) (f : Facts) (now : Instant) (mtu : IsMtu f.mtu) (here : f.has_address t.local.addr ≡ true) (s : IsCloser d t v) (other : IsNoProbe s.rests) (over : is_over (wakes s.rests) now ≡ true) (win : 0 < v.remote_win_len) (queue : 0 < length v.tx_buffer.bytes) where
  abbrev fa : Facts
  fa = told f now

  runs : is_paused v.state v.synack_paused ≡ false
  runs = carries_runs v.state v.synack_paused (closing_carries v.state s.state)

  start : Begins t f v now
  start = begins t f v now s.reached s.no_timeout s.smoltcp s.rests other over

  on : GoesOn v t fa
  on = record { peer = s.peer; address = here; alive = rw (none_runs v s.no_timeout) refl; no_end = start.no_end }

  abbrev u : View
  u = start.view

  fr : Front v u
  fr = start.front

  closing : is_closing u.state ≡ true
  closing = ap is_closing fr.same.state ∙ s.state

  carries : carries_data u.state ≡ true
  carries = closing_carries u.state closing

  not_closed : is_closed u.state ≡ false
  not_closed = closing_open u.state closing

  ft : FromFront u now
  ft = from_front v u now fr s.reached s.nothing_marked

  abbrev bytes : List ℕ
  bytes = lent_for u t fa

  asked_is : asked u t fa ≡ min (min (window_left u) (effective_mss u t fa)) (congestion_left u)
  asked_is = asked_so u t f now ft carries

  win_u : 0 < u.remote_win_len
  win_u = subst (λ n. 0 < n) (sym fr.same.window) win

  same : length u.tx_buffer.bytes ≡ length v.tx_buffer.bytes
  same = ap (λ (q : Queue). length q.bytes) fr.same.tx

  some : 0 < length bytes
  some = lent_some u.tx_buffer (offset_of u) (asked u t fa) bytes refl (omega (arith, asked_is, win_u, ft.no_flight, mss_some u t fa mtu.0 ft.mss, congestion_leaves u fr.ordered.congestion ft.no_flight)) (omega (arith, ft.start, queue, same))

  abbrev b : Segment
  b = told_for u t fa (stamp_for u) bytes

  plain_kind : emission_kind u now b ≡ kind.Plain
  plain_kind = rw (ft.no_probing, no_bytes) (ap (λ c. if c then kind.KeepAlive else kind.Plain) (and_no (is_keep_alive_over u.timer now)))
    where
      no_bytes : is_empty_segment b ≡ false
      no_bytes = rw (not_zero (length bytes) some) refl

  due : is_due u t fa ≡ true
  unfolding is_due
  due = rw (window_sends u t fa fr.ordered win_u ft.no_flight (never_waits u (fr.same.same_rules ∙ s.smoltcp)) (inl (subst (λ n. 0 < n) (sym same) queue))) refl

  abbrev after : View
  after = left u t now b not_closed kind.Plain

  goes : DispatchesOk fa v (Some (sent_as u t kind.Plain b)) after
  goes = sends_as v t fa on runs u (start.is on runs) carries kind.Plain plain_kind due

  long : 0 < segment_len b
  long = omega (arith, some)

  again : after.timer ≡ timer.Retransmit (moment_after now (rto_of u.rtte))
  again = plain_timer u t now b not_closed (fr.same.same_rules ∙ s.smoltcp) false (not_zero (segment_len b) long) ∙ ap (λ tm. retransmit_unless_set tm now u.rtte) (ap (λ tm. keep_alive_renewed tm now u.keep_alive) fr.idle) ∙ by u.keep_alive
    where
      by : (keep : Option Duration) → retransmit_unless_set (idle_from now keep) now u.rtte ≡ timer.Retransmit (moment_after now (rto_of u.rtte))
      by None = refl
      by (Some d) = refl

  pub says_on : SaysOn d t fa v
  unfolding plain_segment
  says_on =
      let l = plain_sent u t now b not_closed (fr.same.same_rules ∙ s.smoltcp) in
      record {
        out = sent_as u t kind.Plain b;
        after = after;
        dispatch = goes;
        said = data_said u (length bytes);
        plain = λ less. before_end (offset_of u + length bytes == length u.tx_buffer.bytes) refl less;
        fin = λ all. rw (eq-eqb (offset_of u + length bytes) (length u.tx_buffer.bytes) (omega (arith, ft.start, all, same)), closing) refl;
        ack = (λ i. Some (seq_add (fr.same.rcv i) (length ((fr.same.rx i).bytes))));
        number = rw ft.nothing_marked fr.nxt;
        some = some;
        fits = omega (arith, lent_few u t fa, asked_is, fr.same.window);
        queued = omega (arith, lent_few u t fa, same);
        short = omega (arith, lent_few u t fa, asked_is, mss_short u t fa mtu.1);
        first = lent_beginning u.tx_buffer (offset_of u) (asked u t fa) bytes refl ∙ ap (λ o. take (length bytes) (drop o u.tx_buffer.bytes)) ft.start ∙ ap (λ (q : Queue). take (length bytes) q.bytes) fr.same.tx;
        closer = record {
          reached = dispatch_reached fa v (Some (sent_as u t kind.Plain b)) after s.reached goes;
          state = ap is_closing l.same.state ∙ closing;
          peer = l.same.peer ∙ fr.same.peer ∙ s.peer;
          no_timeout = l.same.timeout ∙ fr.same.timeout ∙ s.no_timeout;
          smoltcp = l.same.same_rules ∙ fr.same.same_rules ∙ s.smoltcp;
          keep_alive = l.same.keep_alive ∙ fr.same.keep_alive ∙ s.keep_alive;
          nothing_marked = l.marked ∙ ap (λ m. m && not (carries_data u.state)) ft.nothing_marked;
          rests = ForAnswer (moment_after now (rto_of u.rtte)) again;
        };
        at = moment_after now (rto_of u.rtte);
        timer = again;
        una = l.same.una ∙ fr.same.una;
        tx = l.same.tx ∙ fr.same.tx;
        rx = l.same.rx ∙ fr.same.rx;
        rcv = l.same.rcv ∙ fr.same.rcv;
        scale = l.same.scale ∙ fr.same.scale;
        window = l.same.window ∙ fr.same.window;
        shift = l.same.shift ∙ fr.same.shift;
        last_ack = (plain_told u t now b not_closed).ack ∙ (λ i. Some (seq_add (fr.same.rcv i) (length ((fr.same.rx i).bytes))));
        last_win = (plain_told u t now b not_closed).window ∙ smoltcp_field u (fr.same.same_rules ∙ s.smoltcp) ∙ (λ i. min (length ((fr.same.rx i).held) / 2 ^ fr.same.shift i) 65535);
      }
    where
      before_end : (e : Bool) → (offset_of u + length bytes == length u.tx_buffer.bytes) ≡ e → length bytes < length v.tx_buffer.bytes → IsData (data_control u (length bytes))
      before_end true e less = let at = eqb-true (offset_of u + length bytes) (length u.tx_buffer.bytes) e in absurd (omega (arith, at, ft.start, less, same))
      before_end false e less = subst (λ c. IsData (if c then (if is_closing u.state then control.Fin else (if length bytes == 0 then control.None else control.Psh)) else control.None)) (sym e) tt
