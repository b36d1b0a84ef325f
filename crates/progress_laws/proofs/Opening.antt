-- How a SYN reaches a listener, its SYN|ACK the socket that connects, and the ACK the listener, whatever was lost before.
use Rattle.std.proofs.Common.{◌≡◌, ℕ, ◌-◌, ◌*◌, ◌/◌, ◌<◌, ◌≤◌, ◌^◌, true, false, refl, sym, ap, subst, ◌∙◌, List, [], length, drop, min, Option, Some, None, arith, length-drop}
use Rattle.std.specs.Option.{ForSome}
use Rattle.std.proofs.lemmas.Bool.{eq-eqb}
use Rattle.std.proofs.lemmas.List.{length-replicate}
use Rattle.net_base.specs.declared.time.Duration.{Duration}
use Rattle.net_base.specs.declared.time.Instant.{Instant}
use Rattle.control_wire.specs.Segment.{Segment}
use Rattle.control_wire.specs.Seq.{seq_add, seq_of, seq_sub}
use Rattle.control_wire.specs.declared.seq_number.TcpSeqNumber.{TcpSeqNumber}
use Rattle.sock_core.specs.Facts.{Facts}
use Rattle.sock_core.specs.Received.{Received, cleared, room_of}
use Rattle.sock_core.specs.Seq.{is_before, is_not_after, later_of}
use Rattle.sock_core.specs.WindowShift.{window_shift}
use Rattle.sock_core.proofs.Shifts.{shift_at_most}
use Rattle.sock_tcp.specs.Acked.{acked_at, acked_of, acked_places, syn_place}
use Rattle.sock_tcp.specs.Advance.{options_taken, scale_taken, shift_taken, syn_answered}
use Rattle.sock_tcp.specs.Content.{Sending, plain_segment, scale_back}
use Rattle.sock_tcp.specs.Due.{is_opening}
use Rattle.sock_tcp.specs.Opening.{connected, renewed}
use Rattle.sock_tcp.specs.Polls.{delay_poll, is_reached}
use Rattle.sock_tcp.specs.Process.{stopped}
use Rattle.progress_laws.specs.Smoltcp.{processed}
use Rattle.sock_tcp.specs.Queue.{Queue, capacity}
use Rattle.sock_tcp.specs.Steps.{heard, scale_of, window_of}
use Rattle.sock_tcp.specs.Timers.{idle_from, is_keep_alive_over}
use Rattle.sock_tcp.specs.Verdict.{is_next}
use Rattle.sock_tcp.specs.View.{View, fresh}
use Rattle.sock_tcp.specs.Window.{next_ack}
use Rattle.sock_tcp.specs.declared.acked.Acked.{Acked}
use Rattle.sock_tcp.specs.declared.state.State.TheVariants as state
use Rattle.sock_tcp.specs.declared.timer.AckDelayTimer.TheVariants as ack_delay
use Rattle.sock_tcp.specs.declared.timer.Timer.TheVariants as timer
use Rattle.sock_tcp.specs.declared.tuple.Tuple.{Tuple}
use Rattle.tcp_laws.specs.Polling.{IsReached}
use Rattle.progress_laws.specs.FromOpening.{StandNew}
use Rattle.progress_laws.specs.InStep.{takes_bytes, told}
use Rattle.progress_laws.specs.Opening.{Acknowledges, AnswersSyn, CanMeet}
use Rattle.progress_laws.specs.Speech.{DispatchesOk}
use Rattle.progress_laws.proofs.Begins.{dispatch_reached, numbered_as, segment_reached}
use Rattle.progress_laws.proofs.Edges.{is_not_before, later_stays, same_seq}
use Rattle.progress_laws.proofs.Hears.{HeardAs, data_is_said, heard_any, heard_as, idle_is, idle_moment}
use Rattle.progress_laws.proofs.NewPair.{Agree, IsNew, new_in_step, none_back, none_over}
use Rattle.progress_laws.proofs.Owed.{Kept, acknowledges, after, field_is, kept_then, next_is, not_yet, out_of, tells}
use Rattle.progress_laws.proofs.Receives.{Owes, Tells}
use Rattle.progress_laws.proofs.Repeats.{NotSent, Repeats, SendsSyn, SynGoesOut, ack_then, begun_so, delay_then, opening_listens, out_of as syn_out, segment, sends, sent as syn_sent, sent_so, u as before_syn, waits_then, window_then, own_stamp}
use Rattle.progress_laws.proofs.SynSteps.{HasTakenSyn, ack_passes, acked_data, answer_passes, heard_delay, heard_idle, opened}
use Rattle.tcp_laws.proofs.Scaled.{taken_within}

pub room_cleared : (b : Received) → length (cleared b).held ≡ room_of b
unfolding cleared
room_cleared b = length-replicate (room_of b) None

module _ (t : Tuple) (f : Facts) (number word : ℕ) (a b : View) (m : CanMeet t f number word a b) where
  abbrev pub x : View
  x = connected a t number

  pub can : SendsSyn state.SynSent t f x
  unfolding connected renewed
  can = record { opening = refl; state = refl; peer = refl; address = m.here; no_timeout = m.no_timeout_a; smoltcp = m.smoltcp_a; not_paused = m.not_paused_a; una_small = m.number_small }

  pub begins : Repeats x x
  unfolding connected renewed fresh
  begins = record { same = record { state = refl; peer = refl; timeout = refl; same_rules = refl; keep_alive = refl; una = refl; tx = refl; rx = refl; rcv = refl; window = refl; scale = refl; shift = refl; paused = refl }; marked = refl; waits = NotSent None refl refl }

  pub begins_now : (now : Instant) → SynGoesOut x begins.waits now
  unfolding begins
  begins_now now = tt

  -- ---- v, which is x after some dispatches, sends its SYN

  module _ (now : Instant) (v : View) (r : Repeats x v) where
    abbrev pub out : Sending
    out = syn_out state.SynSent t f x can v r now (own_stamp state.SynSent t f x can v r now)

    abbrev pub first : Segment
    first = segment state.SynSent t f x can v r now (own_stamp state.SynSent t f x can v r now)

    abbrev pub sent : View
    sent = syn_sent state.SynSent t f x can v r now (own_stamp state.SynSent t f x can v r now)

    ys : Repeats x (before_syn state.SynSent t f x can v r now)
    ys = begun_so state.SynSent t f x can v r now

    pub ss : Repeats x sent
    ss = sent_so state.SynSent t f x can v r now (own_stamp state.SynSent t f x can v r now)

    pub first_number : first.seq_number ≡ seq_of number
    unfolding connected
    first_number = ys.same.una

    s_una : sent.local_seq_no ≡ seq_of number
    unfolding connected
    s_una = ss.same.una

    s_state : sent.state ≡ state.SynSent
    s_state = ss.same.state ∙ can.state

    s_rx : sent.rx_buffer ≡ cleared a.rx_buffer
    unfolding connected renewed fresh
    s_rx = ss.same.rx

    s_tx : sent.tx_buffer.bytes ≡ []
    unfolding connected renewed fresh
    s_tx = ap (λ (q : Queue). q.bytes) ss.same.tx

    s_fits : sent.tx_buffer.window ≡ capacity a.tx_buffer
    unfolding connected renewed fresh
    s_fits = ap (λ (q : Queue). q.window) ss.same.tx

    s_keep : sent.keep_alive ≡ a.keep_alive
    unfolding connected renewed fresh
    s_keep = ss.same.keep_alive

    wide_a : room_of (cleared a.rx_buffer) ≡ room_of a.rx_buffer
    unfolding cleared
    wide_a = omega (arith, room_cleared a.rx_buffer)

    wide_b : room_of (cleared b.rx_buffer) ≡ room_of b.rx_buffer
    unfolding cleared
    wide_b = omega (arith, room_cleared b.rx_buffer)

    shift_a : x.remote_win_shift ≡ window_shift (room_of a.rx_buffer)
    unfolding connected renewed fresh
    shift_a = ap window_shift wide_a

    s_waits : (at : Instant) × (sent.timer ≡ timer.Retransmit at) × (sent.remote_last_seq ≡ seq_add sent.local_seq_no 1)
    s_waits = waits_then state.SynSent t f x can v r now (own_stamp state.SynSent t f x can v r now)

    -- ---- the other took it, and z, which it is after some dispatches, sends its SYN|ACK

    pub may_answer : (s : Tuple) (received : View) → f.has_address s.local.addr ≡ true → HasTakenSyn b received s word first → SendsSyn state.SynReceived s f received
    may_answer s received there q = record { opening = refl; state = q.state; peer = q.peer; address = there; no_timeout = q.timeout ∙ m.no_timeout_b; smoltcp = q.same_rules ∙ m.smoltcp_b; not_paused = q.not_paused ∙ m.not_paused_b; una_small = subst (λ (n : TcpSeqNumber). n.0 < 2 ^ 32) (sym q.una) m.word_small }

    module _ (s : Tuple) (received : View) (there_s : f.has_address s.local.addr ≡ true) (q : HasTakenSyn b received s word first) (then : Instant) (z : View) (rz : Repeats received z) where
      abbrev can_z : SendsSyn state.SynReceived s f received
      can_z = may_answer s received there_s q

      abbrev pub back_out : Sending
      back_out = syn_out state.SynReceived s f received can_z z rz then (own_stamp state.SynReceived s f received can_z z rz then)

      abbrev pub g : Segment
      g = segment state.SynReceived s f received can_z z rz then (own_stamp state.SynReceived s f received can_z z rz then)

      abbrev pub answered : View
      answered = syn_sent state.SynReceived s f received can_z z rz then (own_stamp state.SynReceived s f received can_z z rz then)

      abbrev zu : View
      zu = before_syn state.SynReceived s f received can_z z rz then

      zs : Repeats received zu
      zs = begun_so state.SynReceived s f received can_z z rz then

      pub ans : Repeats received answered
      ans = sent_so state.SynReceived s f received can_z z rz then (own_stamp state.SynReceived s f received can_z z rz then)

      z_read : zu.rx_buffer.bytes ≡ []
      unfolding cleared
      z_read = ap (λ (q : Received). q.bytes) (zs.same.rx ∙ q.rx)

      abbrev k : TcpSeqNumber
      k = next_ack zu

      next_z : k.0 ≡ (seq_add (seq_of number) 1).0
      next_z = ap (λ (q : TcpSeqNumber). q.0) ((λ i. seq_add (zs.same.rcv i) (length (z_read i))) ∙ (λ i. seq_add (q.rcv i) 0) ∙ ap (λ n. seq_add (seq_add n 1) 0) first_number) ∙ omega arith

      g_ack : g.ack_number ≡ Some k
      unfolding plain_segment
      g_ack = refl

      is_next_z : is_next k sent.local_seq_no ≡ true
      is_next_z = eq-eqb k.0 (seq_add sent.local_seq_no 1).0 (next_z ∙ ap (λ q. (seq_add q 1).0) (sym s_una))

      abbrev ea : Acked
      ea = acked_of sent g.control g.ack_number

      abbrev pub established : View
      established = heard (syn_answered sent g) then ea g

      pub answer_comes : processed sent then 0 back_out.ip g ≡ stopped established
      answer_comes = answer_passes sent then back_out.ip g k s_state refl g_ack is_next_z

      pub h : HeardAs (syn_answered sent g) k ea.len (window_of g.control g.window_len (syn_answered sent g).remote_win_scale) established
      h = heard_any (syn_answered sent g) then ea g k g_ack

      pub next_here : next_ack (syn_answered sent g) ≡ seq_add answered.local_seq_no 1
      unfolding syn_answered options_taken cleared
      next_here = ap (λ (q : Received). seq_add (seq_add g.seq_number 1) (length q.bytes)) s_rx ∙ ap (λ m. seq_of m) (omega arith) ∙ ap (λ q. seq_add q 1) (zs.same.una ∙ sym ans.same.una)

      pub established_so : (syn_answered sent g).state ≡ state.Established
      unfolding syn_answered options_taken plain_segment
      established_so = refl

      pub same_next : next_ack answered ≡ k
      same_next = (λ i. seq_add ((ans.same.rcv ∙ sym zs.same.rcv) i) (length (((ans.same.rx ∙ sym zs.same.rx) i).bytes)))

      unfoldable pub answers_syn : SynGoesOut z rz.waits then → AnswersSyn f then sent z
      answers_syn d = record {
        answer = back_out;
        answered = answered;
        sends_answer = sends state.SynReceived s f received can_z z rz then d;
        established = established;
        answer_comes = answer_comes;
        state_here = h.state ∙ established_so;
        state_across = ans.same.state ∙ q.state;
        over = same_next ∙ sym h.una;
        back = (λ i. seq_add (h.rcv i) (length ((h.rx i).bytes))) ∙ next_here;
      }

      -- ---- the one acknowledges it

      module _ (interval : ForSome a.keep_alive (λ d. 0 < d.micros)) (some : 0 < room_of a.rx_buffer) (narrow : room_of a.rx_buffer ≤ 2 ^ 30) (narrow_b : room_of b.rx_buffer ≤ 2 ^ 30) where
        s_nxt : (syn_answered sent g).remote_last_seq ≡ k
        unfolding syn_answered
        s_nxt = ap (λ q. seq_add q 1) s_una ∙ same_seq (seq_add (seq_of number) 1) k (sym next_z)

        last : is_before k (syn_answered sent g).remote_last_seq ≡ false
        last = rw s_nxt (is_not_before k k (omega arith))

        stays : later_of k k ≡ k
        stays = later_stays k k (is_not_before k k (omega arith))

        sent_nxt : sent.remote_last_seq ≡ k
        sent_nxt = s_waits.2 ∙ ap (λ q. seq_add q 1) s_una ∙ same_seq (seq_add (seq_of number) 1) k (sym next_z)

        all_acked : ea.all ≡ true
        unfolding acked_at plain_segment is_not_after
        all_acked = rw sent_nxt (rw (is_not_before k k (omega arith), eq-eqb k.0 k.0 refl) refl)

        none_acked : ea.len ≡ 0
        unfolding acked_at plain_segment
        none_acked = ap (λ st. (acked_places st k sent.remote_last_seq (length sent.tx_buffer.bytes) (seq_sub k sent.local_seq_no - syn_place st)).len) s_state ∙ omega (arith, next_z, ap (λ (q : TcpSeqNumber). q.0) s_una, m.number_small)

        none_sent : length sent.tx_buffer.bytes ≡ 0
        none_sent = ap (λ (l : List ℕ). length l) s_tx

        e_timer : established.timer ≡ idle_from then a.keep_alive
        unfolding syn_answered options_taken
        e_timer = heard_idle (syn_answered sent g) then ea g k g_ack s_waits.0 s_waits.1 all_acked none_sent last ∙ ap (idle_from then) s_keep

        e_delay : established.ack_delay_timer ≡ ack_delay.Idle
        unfolding syn_answered options_taken
        e_delay = heard_delay (syn_answered sent g) then ea g k g_ack ∙ delay_then state.SynSent t f x can v r now (own_stamp state.SynSent t f x can v r now)

        g_small : g.seq_number.0 < 2 ^ 32
        g_small = omega (arith, ap (λ (q : TcpSeqNumber). q.0) (zs.same.una ∙ q.una), m.word_small)

        e_rx : established.rx_buffer ≡ cleared a.rx_buffer
        unfolding syn_answered options_taken
        e_rx = h.rx ∙ s_rx

        e_read : established.rx_buffer.bytes ≡ []
        unfolding cleared
        e_read = ap (λ (q : Received). q.bytes) e_rx

        e_none : length established.rx_buffer.bytes ≡ 0
        e_none = ap (λ (l : List ℕ). length l) e_read

        e_rcv : established.remote_seq_no ≡ seq_add g.seq_number 1
        unfolding syn_answered options_taken
        e_rcv = h.rcv

        abbrev before : View
        before = record established { remote_seq_no = g.seq_number }

        owes : Owes t before (room_of a.rx_buffer) 1 established
        unfolding syn_answered options_taken cleared
        owes = record {
          state = ap takes_bytes (h.state ∙ established_so);
          peer = h.peer ∙ ss.same.peer ∙ can.peer;
          no_timeout = h.timeout ∙ ss.same.timeout ∙ can.no_timeout;
          smoltcp = h.same_rules ∙ ss.same.same_rules ∙ can.smoltcp;
          interval = subst (λ q. ForSome q (λ d. 0 < d.micros)) (sym (h.keep_alive ∙ s_keep)) interval;
          moment = idle_moment then a.keep_alive;
          timer = e_timer ∙ idle_is then a.keep_alive;
          nothing_to_send = omega (arith, ap (λ (q : Queue). length q.bytes) h.tx, length-drop ea.len sent.tx_buffer.bytes, none_sent);
          una = refl;
          nxt = h.nxt ∙ (λ i. later_of (s_nxt i) k) ∙ stays ∙ sym h.una;
          nothing_marked = h.marked ∙ ss.marked;
          read = e_read;
          nothing_held = ap (λ (q : Received). q.held) e_rx;
          shift = refl;
          last = g.seq_number;
          last_small = g_small;
          last_ack = h.last_ack;
          near = omega (arith, e_none, g_small);
          next = omega (arith, ap (λ (q : TcpSeqNumber). q.0) e_rcv, e_none);
        }

        at_least : 2 ^ established.remote_win_shift ≤ room_of a.rx_buffer
        unfolding syn_answered options_taken
        at_least = subst (λ n. 2 ^ n ≤ room_of a.rx_buffer) (sym (h.shift ∙ ap (λ n. shift_taken n g.window_scale) (ss.same.shift ∙ shift_a))) (taken_within (room_of a.rx_buffer) g.window_scale some)

        una_small : established.local_seq_no.0 < 2 ^ 32
        una_small = subst (λ (q : TcpSeqNumber). q.0 < 2 ^ 32) (sym h.una) (omega arith)

        late : is_reached (delay_poll established.ack_delay_timer) then ≡ true
        late = ap (λ d. is_reached (delay_poll d) then) e_delay

        not_over : is_keep_alive_over established.timer then ≡ false
        not_over = ap (λ tm. is_keep_alive_over tm then) e_timer ∙ by a.keep_alive interval
          where
            by : (keep : Option Duration) → ForSome keep (λ d. 0 < d.micros) → is_keep_alive_over (idle_from then keep) then ≡ false
            by None i = refl
            by (Some d) i = not_yet then d (i d refl)

        abbrev ack_out : Sending
        ack_out = out_of t before (room_of a.rx_buffer) 1 established f then m.here owes (omega arith) (omega (arith, some)) narrow at_least una_small late not_over

        abbrev settled : View
        settled = after t before (room_of a.rx_buffer) 1 established f then m.here owes (omega arith) (omega (arith, some)) narrow at_least una_small late not_over

        sends_ack : DispatchesOk (told f then) established (Some ack_out) settled
        sends_ack = acknowledges t before (room_of a.rx_buffer) 1 established f then m.here owes (omega arith) (omega (arith, some)) narrow at_least una_small late not_over

        tell : Tells before settled t ack_out.segment
        tell = tells t before (room_of a.rx_buffer) 1 established f then m.here owes (omega arith) (omega (arith, some)) narrow at_least una_small late not_over

        next_settled : next_ack settled ≡ seq_add answered.local_seq_no 1
        next_settled = next_is t before (room_of a.rx_buffer) 1 established f then m.here owes (omega arith) (omega (arith, some)) narrow at_least una_small late not_over ∙ (λ i. seq_add (h.rcv i) (length ((h.rx i).bytes))) ∙ next_here

        kept : Kept established settled
        kept = kept_then t before (room_of a.rx_buffer) 1 established f then m.here owes (omega arith) (omega (arith, some)) narrow at_least una_small late not_over

        is_next_ack : is_next (next_ack settled) answered.local_seq_no ≡ true
        is_next_ack = eq-eqb (next_ack settled).0 (seq_add answered.local_seq_no 1).0 (ap (λ (q : TcpSeqNumber). q.0) next_settled)

        answered_state : answered.state ≡ state.SynReceived
        answered_state = ans.same.state ∙ q.state

        answered_rx : answered.rx_buffer ≡ cleared b.rx_buffer
        answered_rx = ans.same.rx ∙ q.rx

        answered_room : length answered.rx_buffer.held ≤ 2 ^ 30
        answered_room = omega (arith, ap (λ (q : Received). length q.held) answered_rx, room_cleared b.rx_buffer, narrow_b)

        at_edge : ack_out.segment.seq_number ≡ next_ack answered
        at_edge = tell.number ∙ h.una ∙ sym same_next

        abbrev across : View
        across = opened answered then ack_out.ip ack_out.segment (next_ack settled) answered_state tell.bit tell.ack is_next_ack tell.empty at_edge answered_room

        ack_comes : processed answered then 0 ack_out.ip ack_out.segment ≡ stopped across
        ack_comes = ack_passes answered then ack_out.ip ack_out.segment (next_ack settled) answered_state tell.bit tell.ack is_next_ack tell.empty at_edge answered_room

        abbrev told_last : View
        told_last = record answered { state = state.Established; local_rx_last_seq = Some ack_out.segment.seq_number }

        abbrev aa : Acked
        aa = acked_of (record answered { local_rx_last_seq = Some ack_out.segment.seq_number }) ack_out.segment.control ack_out.segment.ack_number

        o : HeardAs told_last (next_ack settled) aa.len (ack_out.segment.window_len * 2 ^ scale_of answered.remote_win_scale) across
        o = heard_as told_last then aa ack_out.segment (next_ack settled) tell.ack (data_is_said ack_out.segment.control tell.bit)

        settled_state : settled.state ≡ state.Established
        settled_state = kept.state ∙ h.state ∙ established_so

        pub acknowledged : Acknowledges f then established answered
        acknowledged = record {
          ack = ack_out;
          here = settled;
          sends_ack = sends_ack;
          across = across;
          ack_comes = ack_comes;
          state_here = settled_state;
          state_across = o.state;
          over_then = (λ i. seq_add (o.rcv i) (length ((o.rx i).bytes))) ∙ same_next ∙ sym h.una ∙ sym tell.una;
          back_then = sym o.una;
        }

        pub edge_here : acknowledged.here.local_seq_no ≡ next_ack answered
        unfolding acknowledged
        edge_here = tell.una ∙ h.una ∙ sym same_next

        pub ack_here : next_ack acknowledged.here ≡ seq_add answered.local_seq_no 1
        unfolding acknowledged
        ack_here = next_settled

        pub nxt_here : acknowledged.here.remote_last_seq ≡ acknowledged.here.local_seq_no
        unfolding acknowledged
        nxt_here = tell.receiver.nothing_in_flight

        -- ---- both stand in step then

        module _ (some_b : 0 < room_of b.rx_buffer) (reached_s : IsReached sent) (reached_z : IsReached answered) where
          short : length g.payload ≤ 65535
          unfolding plain_segment
          short = omega arith

          reached_e : IsReached established
          reached_e = segment_reached sent established then 0 back_out.ip g None reached_s (omega arith) (numbered_as g k g_ack g_small (omega arith)) short (λ l. absurd (opening_listens sent.state (ap is_opening s_state) l)) answer_comes

          reached_across : IsReached across
          reached_across = segment_reached answered across then 0 ack_out.ip ack_out.segment None reached_z (omega arith) (numbered_as ack_out.segment (next_ack settled) tell.ack (omega (arith, ap (λ (q : TcpSeqNumber). q.0) tell.number, una_small)) (omega arith)) (omega (arith, tell.empty)) (λ l. absurd (opening_listens answered.state (ap is_opening answered_state) l)) ack_comes

          a_waits : (at : Instant) × (answered.timer ≡ timer.Retransmit at) × (answered.remote_last_seq ≡ seq_add answered.local_seq_no 1)
          a_waits = waits_then state.SynReceived s f received can_z z rz then (own_stamp state.SynReceived s f received can_z z rz then)

          a_nxt : answered.remote_last_seq ≡ next_ack settled
          a_nxt = a_waits.2 ∙ sym next_settled

          aa_is : aa ≡ record { len = seq_sub (next_ack settled) answered.local_seq_no - 1; fin = false; all = is_not_after answered.remote_last_seq (next_ack settled) }
          aa_is = ap (λ o. acked_of (record answered { local_rx_last_seq = Some ack_out.segment.seq_number }) ack_out.segment.control o) tell.ack ∙ acked_data answered.state ack_out.segment.control (next_ack settled) answered.local_seq_no answered.remote_last_seq (length answered.tx_buffer.bytes) tell.bit ∙ ap (λ st. acked_places st (next_ack settled) answered.remote_last_seq (length answered.tx_buffer.bytes) (seq_sub (next_ack settled) answered.local_seq_no - syn_place st)) answered_state

          aa_none : aa.len ≡ 0
          aa_none = ap (λ (p : Acked). p.len) aa_is ∙ omega (arith, ap (λ (q : TcpSeqNumber). q.0) next_settled, ap (λ (q : TcpSeqNumber). q.0) (ans.same.una ∙ q.una), m.word_small)

          aa_all : aa.all ≡ true
          unfolding is_not_after
          aa_all = ap (λ (p : Acked). p.all) aa_is ∙ rw a_nxt (rw (is_not_before (next_ack settled) (next_ack settled) (omega arith), eq-eqb (next_ack settled).0 (next_ack settled).0 refl) refl)

          a_last : is_before (next_ack settled) answered.remote_last_seq ≡ false
          a_last = rw a_nxt (is_not_before (next_ack settled) (next_ack settled) (omega arith))

          a_none : length answered.tx_buffer.bytes ≡ 0
          a_none = ap (λ (q : Queue). length q.bytes) ans.same.tx ∙ ap (λ (l : List ℕ). length l) q.no_bytes

          a_timer : across.timer ≡ idle_from then answered.keep_alive
          a_timer = heard_idle told_last then aa ack_out.segment (next_ack settled) tell.ack a_waits.0 a_waits.1 aa_all a_none a_last

          -- the scales that both know
          own_b : zu.remote_win_shift ≡ window_shift (room_of b.rx_buffer)
          own_b = zs.same.shift ∙ q.shift ∙ ap window_shift wide_b

          g_scale : g.window_scale ≡ Some (window_shift (room_of b.rx_buffer))
          g_scale = ap (λ o. scale_back o zu.remote_win_shift) (zs.same.scale ∙ q.scale) ∙ ap Some own_b

          e_shift : established.remote_win_shift ≡ window_shift (room_of a.rx_buffer)
          unfolding syn_answered options_taken
          e_shift = h.shift ∙ ap (λ o. shift_taken sent.remote_win_shift o) g_scale ∙ ss.same.shift ∙ shift_a

          e_scale : scale_of established.remote_win_scale ≡ window_shift (room_of b.rx_buffer)
          unfolding syn_answered options_taken
          e_scale = ap scale_of (h.scale ∙ ap scale_taken g_scale) ∙ omega (arith, shift_at_most (room_of b.rx_buffer))

          a_scale : scale_of answered.remote_win_scale ≡ window_shift (room_of a.rx_buffer)
          a_scale = ap scale_of (ans.same.scale ∙ q.scale ∙ ap (λ n. scale_taken (Some n)) (ys.same.shift ∙ shift_a)) ∙ omega (arith, shift_at_most (room_of a.rx_buffer))

          -- and what was told of both windows
          g_field : g.window_len ≡ min (room_of b.rx_buffer) 65535
          g_field = ap (λ n. min n 65535) (ap (λ (q : Received). length q.held) (zs.same.rx ∙ q.rx) ∙ room_cleared b.rx_buffer)

          e_field : ack_out.segment.window_len ≡ min (room_of a.rx_buffer / 2 ^ window_shift (room_of a.rx_buffer)) 65535
          e_field = field_is t before (room_of a.rx_buffer) 1 established f then m.here owes (omega arith) (omega (arith, some)) narrow at_least una_small late not_over ∙ ap (λ n. min (room_of a.rx_buffer / 2 ^ n) 65535) e_shift

          next_across : next_ack across ≡ k
          next_across = (λ i. seq_add (o.rcv i) (length ((o.rx i).bytes))) ∙ same_next

          side_here : IsNew a.keep_alive t (room_of a.rx_buffer) settled
          unfolding cleared syn_answered options_taken
          side_here = let c = tell.receiver in record { reached = dispatch_reached (told f then) established (Some ack_out) settled reached_e sends_ack; established = settled_state; peer = c.peer; no_timeout = c.no_timeout; smoltcp = c.smoltcp; keep_alive = kept.keep_alive ∙ h.keep_alive ∙ s_keep; nothing_marked = c.nothing_marked; moment = c.moment; timer = c.timer; nxt = c.nothing_in_flight; read = c.read; nothing_held = ap (λ (q : Received). q.held) (kept.rx ∙ e_rx); some = some; shift = tell.shift ∙ e_shift }

          side_across : IsNew b.keep_alive s (room_of b.rx_buffer) across
          unfolding cleared
          side_across = record { reached = reached_across; established = o.state; peer = o.peer ∙ ans.same.peer ∙ q.peer; no_timeout = o.timeout ∙ ans.same.timeout ∙ can_z.no_timeout; smoltcp = o.same_rules ∙ ans.same.same_rules ∙ can_z.smoltcp; keep_alive = o.keep_alive ∙ ans.same.keep_alive ∙ q.keep_alive; nothing_marked = o.marked ∙ ans.marked; moment = idle_moment then answered.keep_alive; timer = a_timer ∙ idle_is then answered.keep_alive; nxt = o.nxt ∙ ap (λ n. later_of n (next_ack settled)) a_nxt ∙ later_stays (next_ack settled) (next_ack settled) (is_not_before (next_ack settled) (next_ack settled) (omega arith)) ∙ sym o.una; read = ap (λ (q : Received). q.bytes) (o.rx ∙ answered_rx); nothing_held = ap (λ (q : Received). q.held) (o.rx ∙ answered_rx); some = some_b; shift = o.shift ∙ ans.same.shift ∙ q.shift ∙ ap window_shift wide_b }

          agree : Agree (room_of a.rx_buffer) (room_of b.rx_buffer) settled across
          agree = record {
            over = next_across ∙ sym h.una ∙ sym tell.una;
            back = sym o.una;
            scale_over = ap scale_of kept.scale ∙ e_scale;
            scale_back = ap scale_of o.scale ∙ a_scale;
            told_over = kept.window ∙ h.window ∙ g_field;
            told_back = o.window ∙ (λ i. e_field i * 2 ^ a_scale i);
            width_here = tell.window ∙ (λ i. e_field i * 2 ^ e_shift i);
            last_ack = o.last_ack ∙ ack_then state.SynReceived s f received can_z z rz then (own_stamp state.SynReceived s f received can_z z rz then) ∙ g_ack ∙ ap Some (sym next_across);
            last_win = o.last_win ∙ window_then state.SynReceived s f received can_z z rz then (own_stamp state.SynReceived s f received can_z z rz then) ∙ g_field;
          }

          pub stands : StandNew a.keep_alive b.keep_alive t f (capacity a.tx_buffer) (capacity b.tx_buffer) acknowledged.here acknowledged.across
          unfolding acknowledged syn_answered options_taken
          stands = record {
            peer = s;
            address = there_s;
            in_step = new_in_step a.keep_alive b.keep_alive t s (room_of a.rx_buffer) (room_of b.rx_buffer) settled across side_here side_across agree;
            none_over = none_over a.keep_alive b.keep_alive t s (room_of a.rx_buffer) (room_of b.rx_buffer) settled across side_here side_across agree;
            none_back = none_back a.keep_alive b.keep_alive t s (room_of a.rx_buffer) (room_of b.rx_buffer) settled across side_here side_across agree;
            empty_here = ap (λ (q : Queue). q.bytes) (kept.tx ∙ h.tx) ∙ ap (λ n. drop n sent.tx_buffer.bytes) none_acked ∙ s_tx;
            empty_across = ap (λ (q : Queue). q.bytes) o.tx ∙ ap (λ n. drop n answered.tx_buffer.bytes) aa_none ∙ ap (λ (q : Queue). q.bytes) ans.same.tx ∙ q.no_bytes;
            room_here = omega (arith, ap (λ (q : Queue). q.window) (kept.tx ∙ h.tx), none_acked, s_fits);
            room_across = omega (arith, ap (λ (q : Queue). q.window) o.tx, aa_none, ap (λ (q : Queue). q.window) ans.same.tx, q.fits);
          }
