-- Once both sides have sent all, the one closes, and then the other, and both read that all was read.
use Rattle.std.proofs.Common.{◌≡◌, ℕ, ◌*◌, ◌<◌, ◌≤◌, ◌^◌, true, false, refl, sym, ap, subst, ◌∙◌, List, length, Option, Some, None, arith, length-drop}
use Rattle.std.proofs.lemmas.Bool.{eq-eqb}
use Rattle.std.proofs.lemmas.Option.{same_Some}
use Rattle.net_base.specs.declared.time.Duration.{Duration}
use Rattle.net_base.specs.declared.time.Instant.{Instant}
use Rattle.control_wire.specs.Segment.{Segment}
use Rattle.control_wire.specs.Seq.{seq_add}
use Rattle.control_wire.specs.declared.seq_number.TcpSeqNumber.{TcpSeqNumber}
use Rattle.sock_core.specs.Facts.{Facts}
use Rattle.sock_core.specs.Received.{Received}
use Rattle.sock_core.specs.Seq.{is_before, is_not_after}
use Rattle.sock_tcp.specs.Acked.{acked_at, acked_of}
use Rattle.sock_tcp.specs.Advance.{fin_counted}
use Rattle.sock_tcp.specs.Closing.{closed, closed_in}
use Rattle.sock_tcp.specs.Due.{is_closing}
use Rattle.sock_tcp.specs.Process.{Outcome}
use Rattle.progress_laws.specs.Smoltcp.{processed}
use Rattle.sock_tcp.specs.Queue.{Queue}
use Rattle.sock_tcp.specs.Queues.{receives, recv_check}
use Rattle.sock_tcp.specs.Steps.{heard, scale_of}
use Rattle.sock_tcp.specs.Timers.{idle_from}
use Rattle.sock_tcp.specs.Verdict.{fin_place}
use Rattle.sock_tcp.specs.View.{View}
use Rattle.sock_tcp.specs.Window.{next_ack}
use Rattle.sock_tcp.specs.declared.acked.Acked.{Acked}
use Rattle.sock_tcp.specs.declared.state.State.TheVariants as state
use Rattle.sock_tcp.specs.declared.tuple.Tuple.{Tuple}
use Rattle.tcp_laws.specs.Polling.{IsReached}
use Rattle.tcp_laws.specs.SocketRun.{Close, IsNumbered, Process, after_segment}
use Rattle.tcp_laws.proofs.OrderedCalls.{reached_ordered}
use Rattle.progress_laws.specs.AfterClose.{IsCloser}
use Rattle.progress_laws.specs.BothWays.{BothComplete, BothFinish, BothInStep, BothWaysFinish}
use Rattle.progress_laws.specs.InStep.{told}
use Rattle.progress_laws.proofs.Arrives.{CountsIt, Faces, fin_counts, fin_row, is_synchronized}
use Rattle.progress_laws.proofs.Begins.{dispatch_reached, later_moment, step_reached}
use Rattle.progress_laws.proofs.Sides.{open_rests, room_small, told_some, wide_so}
use Rattle.progress_laws.proofs.BothRounds.{both_ways_complete, nothing_out}
use Rattle.progress_laws.proofs.Closes.{SaysFin, closed_rests, closer_of, finished, says_fin}
use Rattle.progress_laws.proofs.Edges.{is_not_before, later_all}
use Rattle.progress_laws.proofs.Hears.{HeardAs, IsOpenTimer, IsSaid, all_no_duplicate, heard_as, heard_rests}
use Rattle.progress_laws.proofs.Learns.{idle_rests}
use Rattle.progress_laws.proofs.Speaks.{wakes}
use Rattle.progress_laws.proofs.States.{is_steady, not_listening}
use Rattle.sock_tcp.specs.declared.rules.Rules.TheVariants as rules

-- ---- the one closes: w, in ESTABLISHED, counts the FIN of v

module _ (d e : Option Duration) (t s : Tuple) (f : Facts) (w v : View) (i : BothInStep e d s t w v) (none_v : length v.tx_buffer.bytes ≡ 0) (none_w : length w.tx_buffer.bytes ≡ 0) (now : Instant) (q : SaysFin (told f now) (closed v)) where
  abbrev g : Segment
  g = q.out.segment

  abbrev k : TcpSeqNumber
  k = next_ack v

  w_small : w.local_seq_no.0 < 2 ^ 32
  w_small = (reached_ordered w i.here.sender.reached).una_small

  v_small : v.local_seq_no.0 < 2 ^ 32
  v_small = (reached_ordered v i.across.sender.reached).una_small

  -- v took all of w's bytes, and w all of v's
  k_is : k.0 ≡ w.local_seq_no.0
  k_is = omega (arith, ap (λ (m : TcpSeqNumber). m.0) i.over.there, i.over.taken_within, none_w, w_small)

  edge : (next_ack w).0 ≡ v.local_seq_no.0
  edge = omega (arith, ap (λ (m : TcpSeqNumber). m.0) i.back.there, i.back.taken_within, none_v, v_small)

  room_w : length w.rx_buffer.held ≤ 2 ^ 30
  room_w = omega (arith, wide_so w i.here.room i.here.nothing_held, room_small w i.here.room i.here.nothing_held i.here.sender.reached)

  faces : Faces w k
  faces = record {
    state = ap is_synchronized i.here.established;
    una_small = w_small;
    short = omega (arith, none_w);
    heard = 0;
    heard_within = omega arith;
    back = omega (arith, k_is, w_small);
    room = room_w;
  }

  said : IsSaid g.control
  said = subst IsSaid (sym q.bit) tt

  number : g.seq_number.0 ≡ (next_ack w).0
  number = omega (arith, ap (λ (m : TcpSeqNumber). m.0) q.number, edge)

  abbrev a : Acked
  a = acked_of w g.control g.ack_number

  abbrev x : View
  x = fin_counted state.CloseWait (record w { local_rx_last_seq = Some g.seq_number })

  abbrev pub y : View
  y = heard x now a g

  pub takes_fin : processed w now 0 q.out.ip g ≡ record { view = y; reply = None }
  takes_fin = fin_row w k faces now 0 q.out.ip g said q.ack q.bit q.empty number i.here.established

  pub counts : CountsIt w (processed w now 0 q.out.ip g)
  counts = fin_counts w k faces now 0 q.out.ip g said q.ack q.bit q.empty number (ap receives i.here.established)

  pub next_y : (next_ack y).0 ≡ (seq_add (next_ack w) 1).0
  next_y = ap (λ (o : Outcome). (next_ack o.view).0) (sym takes_fin) ∙ ap (λ (m : TcpSeqNumber). m.0) counts.next

  h : HeardAs x k a.len (g.window_len * 2 ^ scale_of x.remote_win_scale) y
  h = heard_as x now a g k q.ack said

  nothing_in_flight : w.remote_last_seq.0 ≡ k.0
  nothing_in_flight = ap (λ (m : TcpSeqNumber). m.0) (nothing_out e d s t w v i none_w)

  last : is_before k x.remote_last_seq ≡ false
  unfolding fin_counted
  last = is_not_before k w.remote_last_seq (omega (arith, nothing_in_flight))

  all_so : is_not_after w.remote_last_seq k ≡ true
  unfolding is_not_after
  all_so = rw (is_not_before w.remote_last_seq k (omega (arith, nothing_in_flight)), eq-eqb w.remote_last_seq.0 k.0 nothing_in_flight) refl

  all : a.all ≡ true
  unfolding acked_at
  all = (λ j. (acked_at w.state (q.bit j) (q.ack j) w.local_seq_no w.remote_last_seq (length w.tx_buffer.bytes)).all) ∙ all_so

  told_there : 0 < g.window_len * 2 ^ scale_of x.remote_win_scale
  unfolding fin_counted
  told_there = subst (λ m. 0 < m) (λ j. sym q.field j * 2 ^ sym i.over.scale j) (told_some v i.across.room i.across.nothing_held i.across.room_at_least)

  timer_is : y.timer ≡ idle_from now x.keep_alive
  unfolding fin_counted
  timer_is = heard_rests x now a g k q.ack said (all_no_duplicate x now a g k last) timer_open all told_there
    where
      timer_open : IsOpenTimer x.timer
      timer_open = open_rests w i.here.sender.rests

  -- and closes in its turn
  pub closer : IsCloser e s (closed y)
  unfolding fin_counted
  closer = record {
    reached = step_reached y (closed y) reached.counts reached (Close refl refl);
    state = ap (λ st. is_closing (closed_in st y.rules)) h.state;
    peer = h.peer ∙ i.here.sender.peer;
    no_timeout = h.timeout ∙ i.here.sender.no_timeout;
    smoltcp = h.same_rules ∙ i.here.sender.smoltcp;
    keep_alive = h.keep_alive ∙ i.here.sender.keep_alive;
    nothing_marked = h.marked ∙ i.here.sender.nothing_marked;
    rests = closed_rests y (idle_rests y now e (timer_is ∙ ap (idle_from now) i.here.sender.keep_alive) (h.nxt ∙ later_all w.remote_last_seq k all_so ∙ sym h.una) (subst (λ m. 0 < m) (sym h.window) told_there));
  }
    where
      numbered : IsNumbered g
      numbered = record { seq_number = omega (arith, number); ack_number = λ m p. subst (λ (b : TcpSeqNumber). b.0 < 2 ^ 32) (same_Some k m (sym q.ack ∙ p)) (omega arith) }

      reached : IsReached y
      reached = step_reached w y (after_segment i.here.sender.reached.counts w y) i.here.sender.reached (Process rules.Smoltcp now 0 q.out.ip g (omega arith) numbered (omega (arith, q.empty)) (λ l. absurd (not_listening w.state (ap is_steady i.here.established) l)) (sym (ap (λ (o : Outcome). o.view) takes_fin)) refl)

  pub empty_y : length (closed y).tx_buffer.bytes ≡ 0
  unfolding fin_counted
  empty_y = ap (λ (b : Queue). length b.bytes) h.tx ∙ omega (arith, length-drop a.len w.tx_buffer.bytes, none_w)

  pub una_y : y.local_seq_no ≡ k
  una_y = h.una

  -- ---- and v, in FIN-WAIT-1, counts the FIN of w

  module _ (end : Instant) (p : SaysFin (told f end) (closed y)) where
    abbrev z : View
    z = q.after

    reached_z : IsReached z
    reached_z = dispatch_reached (told f now) (closed v) (Some q.out) z (closer_of d t v i.across.sender).reached q.dispatch

    same_room : length z.rx_buffer.held ≤ 2 ^ 30
    same_room = omega (arith, ap (λ (b : Received). length b.held) q.still.rx, wide_so v i.across.room i.across.nothing_held, room_small v i.across.room i.across.nothing_held i.across.sender.reached)

    waits : z.state ≡ state.FinWait1
    waits = q.still.state ∙ ap (λ st. closed_in st v.rules) i.across.established

    same_ack : (next_ack z).0 ≡ k.0
    same_ack = ap (λ (m : TcpSeqNumber). m.0) (λ j. seq_add (q.still.rcv j) (length ((q.still.rx j).bytes)))

    faces_back : Faces z (next_ack y)
    faces_back = record {
      state = ap is_synchronized waits;
      una_small = (reached_ordered z reached_z).una_small;
      short = omega (arith, ap (λ (b : Queue). length b.bytes) q.still.tx, none_v);
      heard = 1;
      heard_within = let one : fin_place z.state ≡ 1 = ap fin_place waits in omega (arith, one);
      back = omega (arith, next_y, edge, ap (λ (m : TcpSeqNumber). m.0) q.still.una, v_small);
      room = same_room;
    }

    number_back : p.out.segment.seq_number.0 ≡ (next_ack z).0
    number_back = omega (arith, ap (λ (m : TcpSeqNumber). m.0) p.number, ap (λ (m : TcpSeqNumber). m.0) una_y, same_ack)

    pub counts_back : CountsIt z (processed z end 0 p.out.ip p.out.segment)
    counts_back = fin_counts z (next_ack y) faces_back end 0 p.out.ip p.out.segment (subst IsSaid (sym p.bit) tt) p.ack p.bit p.empty number_back (ap receives waits)

-- ---- the law

pub both_ways_finish : BothWaysFinish
both_ways_finish d e t s f at v w got back mtu here there i = by (both_ways_complete d e t s f at v w got back mtu here there i)
  where
    by : BothComplete d e t s f at v w got back i → BothFinish d e t s f at v w got back i
    by b =
        let c : IsCloser d t (closed b.here) = closer_of d t b.here b.in_step.across.sender in
        let l = later_moment b.end (wakes c.rests) in
        let q : SaysFin (told f l.0) (closed b.here) = says_fin d t (closed b.here) f l.0 here c l.2 b.sent_here in
        let n : CountsIt b.across (processed b.across l.0 0 q.out.ip q.out.segment) = counts d e t s f b.across b.here b.in_step b.sent_here b.sent_across l.0 q in
        let w' : View = y d e t s f b.across b.here b.in_step b.sent_here b.sent_across l.0 q in
        let is : processed b.across l.0 0 q.out.ip q.out.segment ≡ record { view = w'; reply = None } = takes_fin d e t s f b.across b.here b.in_step b.sent_here b.sent_across l.0 q in
        let c' : IsCloser e s (closed w') = closer d e t s f b.across b.here b.in_step b.sent_here b.sent_across l.0 q in
        let l' = later_moment l.0 (wakes c'.rests) in
        let p : SaysFin (told f l'.0) (closed w') = says_fin e s (closed w') f l'.0 there c' l'.2 (empty_y d e t s f b.across b.here b.in_step b.sent_here b.sent_across l.0 q) in
        let n' : CountsIt q.after (processed q.after l'.0 0 p.out.ip p.out.segment) = counts_back d e t s f b.across b.here b.in_step b.sent_here b.sent_across l.0 q l'.0 p in
        record {
          bytes = b;
          now = l.0;
          later = l.1;
          here = q.after;
          across = w';
          one = record {
            out = q.out;
            dispatch = q.dispatch;
            reaches = is;
            finished = ap (λ (o : Outcome). recv_check o.view) (sym is) ∙ finished b.across (processed b.across l.0 0 q.out.ip q.out.segment) (ap (λ (m : List ℕ). length m) b.in_step.here.read) n;
          };
          end = l'.0;
          later_still = l'.1;
          last_here = (processed q.after l'.0 0 p.out.ip p.out.segment).view;
          last_across = p.after;
          other = record {
            out = p.out;
            dispatch = p.dispatch;
            reaches = ap (λ r. record { view = (processed q.after l'.0 0 p.out.ip p.out.segment).view; reply = r }) n'.reply;
            finished = finished q.after (processed q.after l'.0 0 p.out.ip p.out.segment) (ap (λ (b : Received). length b.bytes) q.still.rx ∙ ap (λ (m : List ℕ). length m) b.in_step.across.read) n';
          };
        }
