-- Two sockets that agree still do once the one dispatched, or heard an answer, and once the other was read, or answered.
use Rattle.std.proofs.Common.{◌≡◌, ℕ, ◌+◌, ◌*◌, ◌<◌, ◌≤◌, ◌^◌, ◌⊎◌, inl, inr, true, false, refl, sym, ap, subst, ◌∙◌, List, [], length, drop, slice_get, Some, None, arith, mul-pos}
use Rattle.std.proofs.lemmas.List.{drop_all}
use Rattle.std.proofs.lemmas.Nat.{pow_pos}
use Rattle.net_base.specs.declared.time.Duration.{Duration}
use Rattle.net_base.specs.declared.time.Instant.{Instant}
use Rattle.ip_wire.specs.declared.repr.IpRepr.{IpRepr}
use Rattle.control_wire.specs.Segment.{Segment}
use Rattle.control_wire.specs.Seq.{seq_add, seq_sub}
use Rattle.control_wire.specs.declared.seq_number.TcpSeqNumber.{TcpSeqNumber}
use Rattle.control_wire.specs.declared.tcp.TcpControl.TheVariants as control
use Rattle.sock_core.proofs.Receiving.{held_stays, room_handed_out}
use Rattle.sock_core.specs.Received.{handed_out, room_of}
use Rattle.sock_core.specs.Seq.{is_not_after, later_of}
use Rattle.sock_tcp.proofs.Windows.{end_small, start_small, window_width}
use Rattle.sock_tcp.specs.Acked.{acked_of}
use Rattle.sock_tcp.specs.Content.{carries_data}
use Rattle.sock_tcp.specs.Rfc.OwnWindow.{space_field}
use Rattle.sock_tcp.specs.Process.{ack_sent}
use Rattle.progress_laws.specs.Smoltcp.{processed}
use Rattle.sock_tcp.specs.Queue.{Queue}
use Rattle.sock_tcp.specs.Queues.{read_off, receives}
use Rattle.sock_tcp.specs.Replies.{ack_kept, ack_segment}
use Rattle.sock_tcp.specs.Steps.{heard, scale_of}
use Rattle.sock_tcp.specs.View.{View}
use Rattle.sock_tcp.specs.Window.{is_inside, next_ack, receive_window}
use Rattle.sock_tcp.specs.declared.acked.Acked.{Acked}
use Rattle.sock_tcp.specs.declared.state.State.{State}
use Rattle.sock_tcp.specs.declared.state.State.TheVariants as state
use Rattle.sock_tcp.specs.declared.tuple.Tuple.{Tuple}
use Rattle.tcp_laws.specs.Polling.{IsReached}
use Rattle.tcp_laws.proofs.OrderedCalls.{reached_ordered}
use Rattle.tcp_laws.proofs.SocketSteps.{holds_after}
use Rattle.progress_laws.specs.Agreement.{Agreement, ForAnswer, ForKeepAlive, ForProbe, ForRepeat, InReach, IsSpeaker, Waits}
use Rattle.progress_laws.specs.BothWays.{window_told}
use Rattle.progress_laws.specs.Delivery.{HasWindow}
use Rattle.progress_laws.specs.ShutWindows.{width}
use Rattle.progress_laws.proofs.Answered.{acked, field_some, heard_answer}
use Rattle.progress_laws.proofs.Begins.{numbered_as, segment_reached}
use Rattle.progress_laws.proofs.Edges.{empty_inside_so, is_not_before, later_stays, reach_inside, same_seq}
use Rattle.progress_laws.proofs.Heeds.{waits_on}
use Rattle.progress_laws.proofs.Hears.{HeardAs, IsSaid, heard_as}
use Rattle.progress_laws.proofs.Matches.{get_drop}
use Rattle.progress_laws.proofs.Sends.{HasTold, Untold, smoltcp_field}
use Rattle.progress_laws.proofs.Talks.{Left}
use Rattle.progress_laws.proofs.Widths.{same_width, told_alike, width_told}
use Rattle.progress_laws.proofs.Arrives.{reads_reached, receives_may}

pub reached_room : (v : View) → IsReached v → room_of v.rx_buffer ≤ 2 ^ 30
reached_room v r = omega (arith, (holds_after r.rx r.tx v r.counts r.rx_size r.run).room)

pub carries_listens : (st : State) → carries_data st ≡ true → st ≡ state.Listen → ⊥
carries_listens state.Established c e = absurd cc
carries_listens state.CloseWait c e = absurd cc
carries_listens state.FinWait1 c e = absurd cc
carries_listens state.Closing c e = absurd cc
carries_listens state.LastAck c e = absurd cc
carries_listens _ c e = absurd cc

pub no_listener : (st : State) → receives st ≡ true → st ≡ state.Listen → ⊥
no_listener state.Established c e = absurd cc
no_listener state.FinWait1 c e = absurd cc
no_listener state.FinWait2 c e = absurd cc
no_listener _ c e = absurd cc

-- ---- in reach

pub reach_kept : (v u w x : View) → next_ack u ≡ next_ack v → window_told u ≡ window_told v → (width u ≡ width v) ⊎ (width u ≡ window_told v) → x.remote_last_seq ≡ w.remote_last_seq → InReach v w → InReach u x
reach_kept v u w x own told wide nxt (inl e) = inl (nxt ∙ e ∙ sym own)
reach_kept v u w x own told wide nxt (inr h) = inr (by wide, omega (arith, far, h.1, told))
  where
    far : seq_sub x.remote_last_seq (next_ack u) ≡ seq_sub w.remote_last_seq (next_ack v)
    far = λ i. seq_sub (nxt i) (own i)

    by : (width u ≡ width v) ⊎ (width u ≡ window_told v) → seq_sub x.remote_last_seq (next_ack u) < width u
    by (inl e) = omega (arith, far, h.0, e)
    by (inr e) = omega (arith, far, h.1, e)

pub width_small : (v : View) → IsReached v → width v ≤ 2 ^ 30
width_small v r = omega (arith, window_width v (omega (arith, reached_room v r)), reached_room v r)

-- so an answer is heard
pub reach_is_inside : (v w : View) → IsReached v → w.remote_last_seq.0 < 2 ^ 32 → InReach v w → is_inside (receive_window v) w.remote_last_seq 0 ≡ true
unfolding is_inside receive_window
reach_is_inside v w r small (inl e) = ap (λ m. is_inside (receive_window v) m 0) e ∙ empty_inside_so (receive_window v) (start_small v) (end_small v) (width_small v r)
reach_is_inside v w r small (inr h) = reach_inside (receive_window v) (start_small v) (end_small v) (width_small v r) w.remote_last_seq small h.0

-- a dispatch leaves it so
pub left_reach : (v u w : View) → IsReached v → Left v u → InReach v w → InReach u w
left_reach v u w r l i = reach_kept v u w w (λ j. seq_add (l.same.rcv j) (length ((l.same.rx j).bytes))) (told_alike v u l.same.rx l.same.shift) (wide l.told) refl i
  where
    wide : Untold v u ⊎ HasTold v u → (width u ≡ width v) ⊎ (width u ≡ window_told v)
    wide (inl e) = inl (same_width v u l.same.rx l.same.rcv l.same.shift e.last_ack e.last_win)
    wide (inr e) = inr (width_told v u (length v.rx_buffer.held) refl (omega (arith, reached_room v r)) l.same.rx l.same.rcv l.same.shift e.last_ack e.last_win)

-- and so does what w hears of v
pub later_reach : (v w x : View) → IsReached v → x.remote_last_seq ≡ later_of w.remote_last_seq (next_ack v) → InReach v w → InReach v x
later_reach v w x r e (inl p) = inl (e ∙ ap (λ m. later_of m (next_ack v)) p ∙ later_stays (next_ack v) (next_ack v) (is_not_before (next_ack v) (next_ack v) (omega arith)))
later_reach v w x r e (inr p) =
    let stays : x.remote_last_seq ≡ w.remote_last_seq = e ∙ later_stays w.remote_last_seq (next_ack v) (is_not_before w.remote_last_seq (next_ack v) (omega (arith, p.0, width_small v r))) in
    inr (subst (λ m. seq_sub m (next_ack v) < width v) (sym stays) p.0, subst (λ m. seq_sub m (next_ack v) < window_told v) (sym stays) p.1)

pub left_speaks : (d : Duration) (t : Tuple) (v u : View) → IsSpeaker d t v → Left v u → IsReached u → Waits u → IsSpeaker d t u
left_speaks d t v u s l r waits = record { reached = r; carries = ap carries_data l.same.state ∙ s.carries; peer = l.same.peer ∙ s.peer; no_timeout = l.same.timeout ∙ s.no_timeout; smoltcp = l.same.same_rules ∙ s.smoltcp; keep_alive = l.same.keep_alive ∙ s.keep_alive; waits = waits }

module _ (d : Duration) (t : Tuple) (v w : View) (n h : ℕ) (i : Agreement d t v w n h) where
  -- ---- the speaker dispatched

  pub left_agrees : (u : View) → Left v u → IsReached u → Waits u → Agreement d t u w n h
  left_agrees u l r waits = record {
    speaker = left_speaks d t v u i.speaker l r waits;
    taker = i.taker;
    taken_within = subst (λ (q : Queue). n ≤ length q.bytes) (sym l.same.tx) i.taken_within;
    there = i.there ∙ ap (λ m. seq_add m n) (sym l.same.una);
    held = λ k b e. ap (λ (q : Queue). slice_get q.bytes (n + k)) l.same.tx ∙ i.held k b e;
    heard_within = i.heard_within;
    back = own ∙ i.back;
    in_reach = left_reach v u w i.speaker.reached l i.in_reach;
    last = λ e. by (i.last (sym l.same.state ∙ e));
  }
    where
      own : next_ack u ≡ next_ack v
      own = λ j. seq_add (l.same.rcv j) (length ((l.same.rx j).bytes))

      by : (0 < n) ⊎ (0 < v.remote_win_len) → (0 < n) ⊎ (0 < u.remote_win_len)
      by (inl some) = inl some
      by (inr some) = inr (omega (arith, some, l.same.window))

  -- ---- the taker was read

  abbrev pub all_read : View
  all_read = read_off w (length w.rx_buffer.bytes)

  pub nothing_left : all_read.rx_buffer.bytes ≡ []
  unfolding read_off handed_out
  nothing_left = drop_all (length w.rx_buffer.bytes) w.rx_buffer.bytes (omega arith)

  pub reads_agree : Agreement d t v all_read n h
  unfolding read_off
  reads_agree = record {
    speaker = i.speaker;
    taker = record { reached = reads_reached w (length w.rx_buffer.bytes) (receives_may w i.taker.state) (omega arith) i.taker.reached; state = i.taker.state; smoltcp = i.taker.smoltcp; room = omega (arith, i.taker.room, room_handed_out w.rx_buffer (length w.rx_buffer.bytes) (omega arith)) };
    taken_within = i.taken_within;
    there = same_seq (next_ack all_read) (next_ack w) (omega (arith, ap (λ (l : List ℕ). length l) nothing_left)) ∙ i.there;
    held = λ k b e. i.held k b (sym (held_stays w.rx_buffer (length w.rx_buffer.bytes) k) ∙ e);
    heard_within = i.heard_within;
    back = i.back;
    in_reach = i.in_reach;
    last = i.last;
  }

  -- ---- and answers what it has

  module _ (now : Instant) (ip : IpRepr) (s : Segment) (small : s.seq_number.0 < 2 ^ 32) (short : length s.payload ≤ 65535) (ack : s.ack_number ≡ Some (next_ack v)) (answers : processed w now 0 ip s ≡ ack_sent w s) where
    pub answers_agree : Agreement d t v (ack_kept w) n h
    unfolding ack_kept
    answers_agree = record {
      speaker = i.speaker;
      taker = record { reached = segment_reached w (ack_kept w) now 0 ip s (Some (ack_segment w s)) i.taker.reached (omega arith) (numbered_as s (next_ack v) ack small (omega arith)) short (λ e. absurd (no_listener w.state i.taker.state e)) answers; state = i.taker.state; smoltcp = i.taker.smoltcp; room = i.taker.room };
      taken_within = i.taken_within;
      there = i.there;
      held = i.held;
      heard_within = i.heard_within;
      back = i.back;
      in_reach = i.in_reach;
      last = i.last;
    }

  -- its window has a place then
  pub answers_open : 2 ^ w.remote_win_shift ≤ length w.rx_buffer.held → HasWindow (ack_kept w)
  unfolding ack_kept
  answers_open room = omega (arith, width_told w (ack_kept w) (length w.rx_buffer.held) refl (omega (arith, reached_room w i.taker.reached)) refl refl refl refl (smoltcp_field w i.taker.smoltcp), mul-pos (field_some w room) (pow_pos w.remote_win_shift))

  -- ---- the answer is heard

  module _ (room : 2 ^ w.remote_win_shift ≤ length w.rx_buffer.held) (some : v.state ≡ state.LastAck → 0 < n) (now : Instant) (ip : IpRepr) (g : Segment) (bit : g.control ≡ control.None) (number : g.seq_number ≡ w.remote_last_seq) (ack : g.ack_number ≡ Some (next_ack w)) (field : g.window_len ≡ space_field w) (empty : length g.payload ≡ 0) where
    abbrev x : View
    x = record v { local_rx_last_seq = Some g.seq_number }

    abbrev a : Acked
    a = acked_of v g.control g.ack_number

    abbrev pub then_heard : View
    then_heard = heard x now a g

    w_small : w.remote_last_seq.0 < 2 ^ 32
    w_small = (reached_ordered w i.taker.reached).nxt_small

    lies_inside : is_inside (receive_window v) g.seq_number 0 ≡ true
    lies_inside = ap (λ m. is_inside (receive_window v) m 0) number ∙ reach_is_inside v w i.speaker.reached w_small i.in_reach

    pub hears : processed v now 0 ip g ≡ record { view = then_heard; reply = None }
    hears = heard_answer v i.speaker.reached i.speaker.carries (next_ack w) n i.there i.taken_within some now 0 ip g bit ack empty lies_inside

    covers : a ≡ record { len = n; fin = false; all = is_not_after v.remote_last_seq (next_ack w) }
    covers = acked v i.speaker.reached i.speaker.carries (next_ack w) n i.there i.taken_within some now 0 ip g bit ack empty lies_inside

    said : IsSaid g.control
    said = subst IsSaid (sym bit) tt

    h_as : HeardAs x (next_ack w) a.len (g.window_len * 2 ^ scale_of v.remote_win_scale) then_heard
    h_as = heard_as x now a g (next_ack w) ack said

    told_some : 0 < g.window_len * 2 ^ scale_of v.remote_win_scale
    told_some = mul-pos (subst (λ m. 0 < m) (sym field) (field_some w room)) (pow_pos (scale_of v.remote_win_scale))

    pub window_open : 0 < then_heard.remote_win_len
    window_open = subst (λ m. 0 < m) (sym h_as.window) told_some

    pub queue_left : then_heard.tx_buffer.bytes ≡ drop n v.tx_buffer.bytes
    queue_left = ap (λ (q : Queue). q.bytes) h_as.tx ∙ ap (λ (m : Acked). drop m.len v.tx_buffer.bytes) covers

    pub same_state : then_heard.state ≡ v.state
    same_state = h_as.state

    pub same_shift : then_heard.remote_win_shift ≡ v.remote_win_shift
    same_shift = h_as.shift

    pub same_rx : then_heard.rx_buffer ≡ v.rx_buffer
    same_rx = h_as.rx

    una_small : v.local_seq_no.0 < 2 ^ 32
    una_small = (reached_ordered v i.speaker.reached).una_small

    queue_short : length v.tx_buffer.bytes ≤ 2 ^ 30
    queue_short = omega (arith, (reached_ordered v i.speaker.reached).room)

    waits_then : Waits then_heard
    waits_then = waits_on x now a g (next_ack w) ack said told_some (by i.speaker.waits) (λ e. ap (λ (m : Acked). m.all) (sym covers) ∙ e) una_small (omega arith) (omega (arith, ap (λ (m : TcpSeqNumber). m.0) i.there, una_small, i.taken_within, queue_short))
      where
        by : Waits v → Waits x
        by (ForAnswer at e) = ForAnswer at e
        by (ForRepeat e) = ForRepeat e
        by (ForKeepAlive o e f) = ForKeepAlive o e f
        by (ForProbe at delay e f) = ForProbe at delay e f

    reached_then : IsReached then_heard
    reached_then = segment_reached v then_heard now 0 ip g None i.speaker.reached (omega arith) (numbered_as g (next_ack w) ack (subst (λ (m : TcpSeqNumber). m.0 < 2 ^ 32) (sym number) w_small) (omega arith)) (omega (arith, empty)) (λ e. absurd (carries_listens v.state i.speaker.carries e)) hears

    own : next_ack then_heard ≡ next_ack v
    own = λ j. seq_add (h_as.rcv j) (length ((h_as.rx j).bytes))

    pub hears_agrees : Agreement d t then_heard w 0 h
    hears_agrees = record {
      speaker = record { reached = reached_then; carries = ap carries_data h_as.state ∙ i.speaker.carries; peer = h_as.peer ∙ i.speaker.peer; no_timeout = h_as.timeout ∙ i.speaker.no_timeout; smoltcp = h_as.same_rules ∙ i.speaker.smoltcp; keep_alive = h_as.keep_alive ∙ i.speaker.keep_alive; waits = waits_then };
      taker = i.taker;
      taken_within = omega arith;
      there = sym (same_seq (seq_add then_heard.local_seq_no 0) (next_ack w) (omega (arith, ap (λ (m : TcpSeqNumber). m.0) h_as.una)));
      held = λ k b e. ap (λ (l : List ℕ). slice_get l (0 + k)) queue_left ∙ get_drop v.tx_buffer.bytes n (0 + k) ∙ ap (slice_get v.tx_buffer.bytes) {x = n + (0 + k)} {y = n + k} (omega arith) ∙ i.held k b e;
      heard_within = i.heard_within;
      back = own ∙ i.back;
      in_reach = reach_kept v then_heard w w own (told_alike v then_heard h_as.rx h_as.shift) (inl (same_width v then_heard h_as.rx h_as.rcv h_as.shift h_as.last_ack h_as.last_win)) refl i.in_reach;
      last = λ e. inr window_open;
    }
