-- When a dispatch that sent nothing but an acknowledgement wants another one at once.
use Rattle.std.proofs.Common.{◌≡◌, ℕ, zero, suc, ◌+◌, ◌-◌, ◌*◌, ◌/◌, ◌%◌, ◌<◌, ◌≤◌, ◌^◌, ◌⊎◌, inl, inr, Bool, true, false, true≢false, not, ◌&&◌, ◌||◌, refl, sym, ap, subst, ◌∙◌, List, length, min, Option, Some, None, is_none, arith}
use Rattle.std.specs.Prelude.{if◌then◌else◌, ◌==◌, int_le, nat_le, option_map}
use Rattle.std.proofs.Math.Nat.{div-mul-le_self, mul-le-mul_right}
use Rattle.std.proofs.lemmas.Bool.{and_parts, eqb-false, eqb-true, leb-true}
use Rattle.std.proofs.lemmas.Int.{ints}
use Rattle.std.proofs.lemmas.Option.{none-some, same_Some}
use Rattle.net_base.specs.declared.time.Duration.{Duration}
use Rattle.net_base.specs.declared.time.Instant.{Instant}
use Rattle.control_wire.specs.Seq.{seq_add, seq_eq, seq_of, seq_sub}
use Rattle.control_wire.specs.Segment.{Segment, control_len, is_empty_segment, is_plain, segment_len}
use Rattle.control_wire.specs.declared.seq_number.TcpSeqNumber.{TcpSeqNumber}
use Rattle.control_wire.specs.declared.tcp.TcpControl.{TcpControl}
use Rattle.control_wire.specs.declared.tcp.TcpControl.TheVariants as control
use Rattle.sock_core.specs.Facts.{Facts, IsLawful}
use Rattle.sock_core.specs.Received.{room_of}
use Rattle.sock_core.specs.Seq.{is_before, later_of}
use Rattle.sock_core.specs.declared.context.PollAt.{PollAt}
use Rattle.sock_core.specs.declared.context.PollAt.TheVariants as poll
use Rattle.sock_tcp.proofs.OwnWindow.{field_within, no_larger, told_within}
use Rattle.sock_tcp.proofs.Arming.{armed_by_none}
use Rattle.sock_tcp.proofs.Windows.{far, left_is_told}
use Rattle.sock_tcp.specs.Begin.{Begun, readied, after_timers, peer_of}
use Rattle.sock_tcp.specs.Content.{Sending, asked, carries_data, content, emission_kind, filled, is_probing, of_kind, offset_of, plain_segment, sent_as, window_left}
use Rattle.sock_tcp.specs.Due.{ack_due, ack_poll, data_due, held_poll, edge_sent, effective_mss, field_left, flight, is_ack_after, is_closed, is_closing, is_doubled, is_held_back, is_opening, congestion_left, sendable, tells_window, window_doubled, window_field}
use Rattle.sock_tcp.specs.Rfc.OwnWindow.{may_grow, space_field}
use Rattle.sock_tcp.specs.Rfc.SmallSegments.{held_by, small_poll}
use Rattle.sock_tcp.specs.Poll.{is_due_now, poll_moment, poll_moment_to}
use Rattle.sock_tcp.specs.Polls.{delay_poll, earlier, is_reached, timer_poll, timeout_poll}
use Rattle.sock_tcp.specs.Rfc.UserTimeout.{timeout_of}
use Rattle.sock_tcp.specs.Queue.{IsLent, Queue}
use Rattle.sock_tcp.specs.Sent.{after_any, after_sending, emitted_as, left_by, resent_by, sending_timed, snd_nxt_moved}
use Rattle.sock_tcp.specs.Timers.{after, idle_from, is_close_over, is_keep_alive_over, is_over, is_probe_over, keep_alive_renewed}
use Rattle.sock_tcp.specs.View.{View, moment_of}
use Rattle.sock_tcp.specs.Window.{next_ack}
use Rattle.sock_tcp.specs.declared.emission.Kind.{Kind}
use Rattle.sock_tcp.specs.declared.emission.Kind.TheVariants as kind
use Rattle.sock_tcp.specs.declared.recovery.Recovery.{Recovery}
use Rattle.sock_tcp.specs.declared.recovery.Recovery.TheVariants as recovery
use Rattle.sock_tcp.specs.declared.rules.Rules.{Rules}
use Rattle.sock_tcp.specs.declared.rules.Rules.TheVariants as rules
use Rattle.sock_tcp.specs.declared.state.State.{State}
use Rattle.sock_tcp.specs.declared.state.State.TheVariants as state
use Rattle.sock_tcp.specs.declared.timer.Timer.{Timer}
use Rattle.sock_tcp.specs.declared.timer.Timer.TheVariants as timer
use Rattle.sock_tcp.specs.declared.tuple.Tuple.{Tuple}
use Rattle.tcp_laws.specs.Repeating.{AcksRepeatOnlySo, IsAckAlone, WantsAnother, ProbeLeft, NoInterval, ProbeDue, WaitOver, AckOwed}
use Rattle.tcp_laws.proofs.DispatchFrames.{readied_keeps, timers_keep}
use Rattle.tcp_laws.proofs.Ordered.{IsOrdered, Row, is_close}
use Rattle.tcp_laws.proofs.OrderedCalls.{before_ordered, reached_ordered}
use Rattle.tcp_laws.proofs.Pacing.{reached_paced, readied_paced}
use Rattle.tcp_laws.proofs.Probing.{IsProbing, ProbesIn, before_probing, reached_probing}
use Rattle.tcp_laws.proofs.SocketSteps.{holds_after}
use Rattle.tcp_laws.proofs.AckAlone.{AckOf, IsSet, NothingDue, RstOrAck, Sends, Settled, goes, readied_knows, rst_or_ack, timers_settle}

-- ---- why a poll moment is reached

data Reason (w : View) (t : Tuple) (f : Facts) (now : Instant) : Type 0 where
  Forgotten : is_none w.remote_last_ts ≡ true → Reason w t f now
  IsClosedNow : is_closed w.state ≡ true → Reason w t f now
  Data : data_due w t f ≡ true → Reason w t f now
  Doubled : window_doubled w ≡ true → Reason w t f now
  TimerOver : is_reached (timer_poll w.timer) now ≡ true → Reason w t f now
  TimedOut : is_reached (timeout_poll (timeout_of w) w.remote_last_ts) now ≡ true → Reason w t f now
  Owed : ack_due w ≡ true → Reason w t f now
  Small : (sendable w ≡ 0 → ⊥) → Reason w t f now

pub or_true : (a b : Bool) → (a || b) ≡ true → (a ≡ true) ⊎ (b ≡ true)
or_true true b e = inl refl
or_true false b e = inr e

one_reached : (p q : PollAt) (now : Instant) → is_reached (earlier p q) now ≡ true → (is_reached p now ≡ true) ⊎ (is_reached q now ≡ true)
one_reached poll.Now q now e = inl refl
one_reached poll.Ingress q now e = inr e
one_reached (poll.Time t) poll.Now now e = inr refl
one_reached (poll.Time t) poll.Ingress now e = inl e
one_reached (poll.Time t) (poll.Time x) now e = go (int_le t.micros x.micros) e
  where
    go : (b : Bool) → is_over (if b then t else x) now ≡ true → (is_over t now ≡ true) ⊎ (is_over x now ≡ true)
    go true e = inl e
    go false e = inr e

reason : (w : View) (t : Tuple) (f : Facts) (now : Instant) → is_reached (poll_moment_to (Some t) w f) now ≡ true → Reason w t f now
reason w t f now e = go (is_due_now w t f) refl e
  where
    late : PollAt
    late = earlier (timer_poll w.timer) (earlier (timeout_poll (timeout_of w) w.remote_last_ts) (held_poll w))

    owed : (b : Bool) → ack_due w ≡ b → is_reached (if b then delay_poll w.ack_delay_timer else poll.Ingress) now ≡ true → Reason w t f now
    owed true i e = Owed i
    owed false i e = absurd cc

    -- bytes that wait may go out
    small : (b : Bool) (n : ℕ) (at : Option Instant) → is_reached (small_poll (b && not (n == 0)) at) now ≡ true → n ≡ 0 → ⊥
    small true zero at e z = absurd cc
    small true (suc n) at e z = omega (arith, z)
    small false n at e z = absurd cc

    held : (r : Rules) → is_reached (held_by r (ack_poll w) (small_poll ((flight w == 0) && not (sendable w == 0)) w.idle_at)) now ≡ true → Reason w t f now
    held rules.Smoltcp e = owed (ack_due w) refl e
    held rules.Rfc e = by (one_reached (ack_poll w) (small_poll ((flight w == 0) && not (sendable w == 0)) w.idle_at) now e)
      where
        by : (is_reached (ack_poll w) now ≡ true) ⊎ (is_reached (small_poll ((flight w == 0) && not (sendable w == 0)) w.idle_at) now ≡ true) → Reason w t f now
        by (inl e) = owed (ack_due w) refl e
        by (inr e) = Small (small (flight w == 0) (sendable w) w.idle_at e)

    last : (is_reached (timeout_poll (timeout_of w) w.remote_last_ts) now ≡ true) ⊎ (is_reached (held_poll w) now ≡ true) → Reason w t f now
    last (inl e) = TimedOut e
    last (inr e) = held w.rules e

    waited : (is_reached (timer_poll w.timer) now ≡ true) ⊎ (is_reached (earlier (timeout_poll (timeout_of w) w.remote_last_ts) (held_poll w)) now ≡ true) → Reason w t f now
    waited (inl e) = TimerOver e
    waited (inr e) = last (one_reached (timeout_poll (timeout_of w) w.remote_last_ts) (held_poll w) now e)

    first : (is_none w.remote_last_ts ≡ true) ⊎ (is_closed w.state ≡ true) → Reason w t f now
    first (inl e) = Forgotten e
    first (inr e) = IsClosedNow e

    second : ((is_none w.remote_last_ts || is_closed w.state) ≡ true) ⊎ (data_due w t f ≡ true) → Reason w t f now
    second (inl e) = first (or_true (is_none w.remote_last_ts) (is_closed w.state) e)
    second (inr e) = Data e

    third : ((is_none w.remote_last_ts || is_closed w.state || data_due w t f) ≡ true) ⊎ (window_doubled w ≡ true) → Reason w t f now
    third (inl e) = second (or_true (is_none w.remote_last_ts || is_closed w.state) (data_due w t f) e)
    third (inr e) = Doubled e

    go : (b : Bool) → is_due_now w t f ≡ b → is_reached (if b then poll.Now else late) now ≡ true → Reason w t f now
    go true d e = third (or_true (is_none w.remote_last_ts || is_closed w.state || data_due w t f) (window_doubled w) d)
    go false d e = waited (one_reached (timer_poll w.timer) (earlier (timeout_poll (timeout_of w) w.remote_last_ts) (held_poll w)) now e)

-- ---- the socket that is left

-- what of u a plain acknowledgement and a keep-alive leave
record LeftAs (u w : View) (now : Instant) : Type 0 where
  state : w.state ≡ u.state
  tx : w.tx_buffer ≡ u.tx_buffer
  window : w.remote_win_len ≡ u.remote_win_len
  congestion : w.congestion_controller ≡ u.congestion_controller
  left : congestion_left w ≡ congestion_left u
  una : w.local_seq_no ≡ u.local_seq_no
  nxt : w.remote_last_seq ≡ u.remote_last_seq
  marked : w.pending_fast_retransmit ≡ (u.pending_fast_retransmit && not (carries_data u.state))
  timer : w.timer ≡ keep_alive_renewed u.timer now u.keep_alive
  keep_alive : w.keep_alive ≡ u.keep_alive
  timeout : timeout_of w ≡ timeout_of u
  last : w.remote_last_ts ≡ u.remote_last_ts

module _ (u w : View) (now : Instant) (l : LeftAs u w now) where
  sendable_same : sendable w ≡ sendable u
  sendable_same = λ i. min (min (l.window i) (length (l.tx i).bytes) - seq_sub (l.nxt i) (l.una i)) (l.left i)

  no_data_due : (t : Tuple) (f : Facts) → NothingDue u → data_due w t f ≡ true → ⊥
  unfolding data_due
  no_data_due t f q e = by (or_true (marked_due || data_goes_out) (syn || fin) e)
    where
      marked_due : Bool
      marked_due = w.pending_fast_retransmit && not (length w.tx_buffer.bytes == 0)

      data_goes_out : Bool
      data_goes_out = not (sendable w == 0) && not (is_held_back w (effective_mss w t f))

      syn : Bool
      syn = is_opening w.state && (flight w == 0)

      fin : Bool
      fin = is_closing w.state && seq_eq w.remote_last_seq (seq_add w.local_seq_no (length w.tx_buffer.bytes))

      zero_not : (k : ℕ) → k ≡ 0 → not (k == 0) ≡ true → ⊥
      zero_not k z e = true≢false (sym e ∙ rw z refl)

      by_state : (c : Bool) → carries_data u.state ≡ c → (u.pending_fast_retransmit && not c) ≡ true → not (length w.tx_buffer.bytes == 0) ≡ true → ⊥
      by_state true c m k = true≢false (sym (and_parts u.pending_fast_retransmit false m).1)
      by_state false c m k = zero_not (length w.tx_buffer.bytes) (ap (λ (x : Queue). length x.bytes) l.tx ∙ q.marked c) k

      sends : (marked_due ≡ true) ⊎ (data_goes_out ≡ true) → ⊥
      sends (inl e) = let h = and_parts w.pending_fast_retransmit (not (length w.tx_buffer.bytes == 0)) e in by_state (carries_data u.state) refl (sym l.marked ∙ h.0) h.1
      sends (inr e) = zero_not (sendable w) (sendable_same ∙ q.sent) (and_parts (not (sendable w == 0)) (not (is_held_back w (effective_mss w t f))) e).0

      opens : (syn ≡ true) ⊎ (fin ≡ true) → ⊥
      opens (inl e) = true≢false (sym (and_parts (is_opening w.state) (flight w == 0) e).0 ∙ ap is_opening l.state ∙ q.opened)
      opens (inr e) =
          let h = and_parts (is_closing w.state) (seq_eq w.remote_last_seq (seq_add w.local_seq_no (length w.tx_buffer.bytes))) e in
          let k : w.remote_last_seq.0 ≡ (seq_add w.local_seq_no (length w.tx_buffer.bytes)).0 = eqb-true w.remote_last_seq.0 (seq_add w.local_seq_no (length w.tx_buffer.bytes)).0 h.1 in
          let m : w.remote_last_seq.0 ≡ u.remote_last_seq.0 = ap (λ (x : TcpSeqNumber). x.0) l.nxt in
          let j : (seq_add w.local_seq_no (length w.tx_buffer.bytes)).0 ≡ (seq_add u.local_seq_no (length u.tx_buffer.bytes)).0 = (λ i. (seq_add (l.una i) (length (l.tx i).bytes)).0) in
          q.no_fin (sym (ap is_closing l.state) ∙ h.0) (sym m ∙ k ∙ j)

      by : ((marked_due || data_goes_out) ≡ true) ⊎ ((syn || fin) ≡ true) → ⊥
      by (inl e) = sends (or_true marked_due data_goes_out e)
      by (inr e) = opens (or_true syn fin e)

  -- ---- the timer

  no_length : (d : Duration) → is_over (after now d) now ≡ true → d.micros ≡ 0
  no_length d e = grind (arith, ints)

  probing_is : carries_data u.state ≡ true → u.remote_win_len ≡ 0 → is_probe_over w.timer now ≡ true → is_probing w now ≡ true
  probing_is c z e = rw (l.state, l.marked, c, e, left) (both u.pending_fast_retransmit)
    where
      left : window_left w ≡ 0
      left = let x : w.remote_win_len ≡ 0 = l.window ∙ z in omega (arith, x)

      both : (b : Bool) → (true && not (b && not true) && (0 == 0) && true) ≡ true
      both true = refl
      both false = refl

  over : (k : Kind) (t : Timer) → u.timer ≡ t → IsOrdered u → IsProbing u → Sends u.state → IsSet t now → is_reached (timer_poll (keep_alive_renewed t now u.keep_alive)) now ≡ true → WantsAnother w k now
  over k (timer.Retransmit at) is o q a s e = absurd (true≢false (sym e ∙ s))
  over k timer.FastRetransmit is o q a s e = absurd s
  over k (timer.Close at) is o q a s e = WaitOver (ap (λ t. is_close_over t now) (l.timer ∙ ap (λ t. keep_alive_renewed t now u.keep_alive) is) ∙ e)
  over k (timer.Idle at) is o q a s e = by u.keep_alive refl e
    where
      by : (keep : Option Duration) → u.keep_alive ≡ keep → is_reached (timer_poll (idle_from now keep)) now ≡ true → WantsAnother w k now
      by None i e = absurd cc
      by (Some d) i e = NoInterval d (l.keep_alive ∙ i) (no_length d e)
  over k (timer.ZeroWindowProbe at delay) is o q a s e = by a
    where
      probe : is_probe_over w.timer now ≡ true
      probe = ap (λ t. is_probe_over t now) (l.timer ∙ ap (λ t. keep_alive_renewed t now u.keep_alive) is) ∙ e

      by : Sends u.state → WantsAnother w k now
      by (inl i) = ProbeLeft (l.state ∙ i) probe
      by (inr (inl i)) = let c : is_close u.timer ≡ true = (subst (λ z. Row z u.timer u.keep_alive (flight u) (length u.tx_buffer.bytes)) i o.row).0 in absurd (true≢false (sym c ∙ ap is_close is))
      by (inr (inr c)) = ProbeDue (probing_is c (subst (λ t. ProbesIn t u.remote_win_len) is q.window) probe)

-- ---- a plain acknowledgement

not_closed : (st : State) → Sends st → is_closed st ≡ false
not_closed state.Closed (inl e) = absurd cc
not_closed state.Closed (inr (inl e)) = absurd cc
not_closed state.Closed (inr (inr e)) = absurd cc
not_closed _ s = refl

not_before_itself : (x : TcpSeqNumber) → x.0 < 2 ^ 32 → is_before x x ≡ true → ⊥
not_before_itself x h e = omega (arith, far x x e, h)

-- what is left of a window that was just told is the window
module _ (u : View) (room : length u.rx_buffer.held ≤ 2 ^ 30) where
  abbrev field : ℕ
  field = window_field u

  abbrev places : ℕ
  places = field * 2 ^ u.remote_win_shift

  left_whole : (if is_before (seq_add (next_ack u) places) (next_ack u) then 0 else min (seq_sub (seq_add (next_ack u) places) (next_ack u) / 2 ^ u.remote_win_shift) 65535) ≡ field
  left_whole = left_is_told (next_ack u) field u.remote_win_shift (omega arith) (omega (arith, field_within u)) (omega (arith, told_within u, room))

half_less : (n m : ℕ) → n ≤ m → not (n == 0) ≡ true → nat_le m (n / 2) ≡ true → ⊥
half_less n m e some h = go (n == 0) refl
  where
    less : m ≤ n / 2
    less = leb-true m (n / 2) h

    go : (b : Bool) → (n == 0) ≡ b → ⊥
    go true z = true≢false (sym some ∙ ap not z)
    go false z = let x : (n ≡ 0 → ⊥) = eqb-false n 0 z in grind (arith)

module _ (u : View) (now : Instant) (b : Segment) (a : AckOf u b) (o : IsOrdered u) where
  abbrev plain_left : View
  plain_left = snd_nxt_moved (after_any u now) (emitted_as kind.Plain b)

  itself : (x : TcpSeqNumber) → x.0 < 2 ^ 32 → seq_add x (segment_len b) ≡ x
  itself x h = let e : (x.0 + segment_len b) % 2 ^ 32 ≡ x.0 = omega (arith, a.tells.empty, h) in ap (λ k. seq_of k) e

  later_same : (x y : TcpSeqNumber) → is_before x y ≡ true → x ≡ y ⊎ (2 ^ 31 ≤ seq_sub x y)
  later_same x y e = inr (far x y e)

  pub nxt_stays : later_of u.remote_last_seq (seq_add b.seq_number (segment_len b)) ≡ u.remote_last_seq
  unfolding later_of
  nxt_stays = by a.tells.number
    where
      nxt : TcpSeqNumber
      nxt = u.remote_last_seq

      at_nxt : (t : Bool) → (if t then nxt else nxt) ≡ nxt
      at_nxt true = refl
      at_nxt false = refl

      at_una : (t : Bool) → is_before nxt u.local_seq_no ≡ t → (if t then u.local_seq_no else nxt) ≡ nxt
      at_una true e = absurd (omega (arith, far nxt u.local_seq_no e, a.within, o.room))
      at_una false e = refl

      by : (b.seq_number ≡ nxt) ⊎ (b.seq_number ≡ u.local_seq_no) → (if is_before nxt (seq_add b.seq_number (segment_len b)) then seq_add b.seq_number (segment_len b) else nxt) ≡ nxt
      by (inl e) = let k : seq_add b.seq_number (segment_len b) ≡ nxt = ap (λ x. seq_add x (segment_len b)) e ∙ itself nxt o.nxt_small in rw k (at_nxt (is_before nxt nxt))
      by (inr e) = let k : seq_add b.seq_number (segment_len b) ≡ u.local_seq_no = ap (λ x. seq_add x (segment_len b)) e ∙ itself u.local_seq_no o.una_small in rw k (at_una (is_before nxt u.local_seq_no) refl)

  no_move : (x : Bool) → (x && not (segment_len b == 0)) ≡ false
  no_move true = rw a.tells.empty refl
  no_move false = refl

  recovery_stays : (c : Recovery) → resent_by c u.remote_last_seq (emitted_as kind.Plain b) ≡ c
  recovery_stays recovery.Open = refl
  recovery_stays (recovery.Fast point high_rxt resent_at acked trailed una_lost) = ap (λ t. recovery.Fast point (if t then later_of high_rxt (emitted_as kind.Plain b).end else high_rxt) (if t && una_lost then later_of u.remote_last_seq point else resent_at) acked (if t then not una_lost && (trailed || not (seq_eq u.remote_last_seq resent_at)) else trailed) (not t && una_lost)) (no_move (is_before b.seq_number u.remote_last_seq))
  recovery_stays (recovery.Probe start end again) = refl
  recovery_stays (recovery.Timeout point) = refl

  left_as : LeftAs u plain_left now
  unfolding snd_nxt_moved after_any
  left_as = record { state = refl; tx = refl; window = refl; congestion = refl; left = λ i. congestion_left (record u { recovery = recovery_stays u.recovery i; remote_last_seq = nxt_stays i }); una = refl; nxt = nxt_stays; marked = refl; timer = refl; keep_alive = refl; timeout = refl; last = refl }

  no_ack_due : ack_due plain_left ≡ true → ⊥
  unfolding ack_due snd_nxt_moved after_any
  no_ack_due e = not_before_itself (next_ack u) (omega arith) (subst (λ k. is_ack_after k (next_ack u) ≡ true) a.tells.ack e)

  not_doubled : length u.rx_buffer.held ≤ 2 ^ 30 → window_doubled plain_left ≡ true → ⊥
  unfolding window_doubled snd_nxt_moved after_any
  not_doubled room e =
      let m = and_parts (tells_window u.state) (is_doubled plain_left b.ack_number && may_grow u.rules plain_left) e in
      let g = and_parts (is_doubled plain_left b.ack_number) (may_grow u.rules plain_left) m.1 in
      let h : is_doubled plain_left (Some (next_ack u)) ≡ true = subst (λ k. is_doubled plain_left k ≡ true) a.tells.ack g.0 in
      let p = and_parts (not (space_field u == 0)) (nat_le (field_left plain_left (edge_sent plain_left (next_ack u))) (space_field u / 2)) h in
      let no_more : space_field u ≤ window_field u = no_larger u plain_left refl refl refl a.tells.ack a.tells.window room u.rules refl g.1 in
      half_less (space_field u) (field_left plain_left (edge_sent plain_left (next_ack u))) (omega (arith, whole, no_more)) p.0 p.1
    where
      whole : field_left plain_left (edge_sent plain_left (next_ack u)) ≡ window_field u
      whole = rw a.tells.window (left_whole u room)

-- ---- the whole

module _ (u : View) (f : Facts) (o : IsOrdered u) (q : IsProbing u) (settled : Settled u (moment_of f)) where
  again : (w : View) (t : Tuple) (k : Kind) (b : Segment) → AckOf u b → LeftAs u w (moment_of f) → (ack_due w ≡ true → WantsAnother w k (moment_of f)) → (window_doubled w ≡ true → WantsAnother w k (moment_of f)) → Reason w t f (moment_of f) → WantsAnother w k (moment_of f)
  again w t k b a l ack window (Forgotten e) = absurd (true≢false (sym e ∙ ap is_none l.last ∙ settled.known))
  again w t k b a l ack window (IsClosedNow e) = absurd (true≢false (sym e ∙ ap is_closed l.state ∙ not_closed u.state a.sends))
  again w t k b a l ack window (Data e) = absurd (no_data_due u w (moment_of f) l t f a.quiet e)
  again w t k b a l ack window (Doubled e) = window e
  again w t k b a l ack window (Owed e) = ack e
  again w t k b a l ack window (Small e) = absurd (e (sendable_same u w (moment_of f) l ∙ a.quiet.sent))
  again w t k b a l ack window (TimerOver e) = by settled.alive
    where
      by : (u.state ≡ state.Closed) ⊎ ((is_reached (timeout_poll (timeout_of u) u.remote_last_ts) (moment_of f) ≡ false) × IsSet u.timer (moment_of f)) → WantsAnother w k (moment_of f)
      by (inl c) = absurd (true≢false (sym (ap is_closed c) ∙ not_closed u.state a.sends))
      by (inr h) = over u w (moment_of f) l k u.timer refl o q a.sends h.1 (subst (λ t. is_reached (timer_poll t) (moment_of f) ≡ true) l.timer e)
  again w t k b a l ack window (TimedOut e) = by settled.alive
    where
      by : (u.state ≡ state.Closed) ⊎ ((is_reached (timeout_poll (timeout_of u) u.remote_last_ts) (moment_of f) ≡ false) × IsSet u.timer (moment_of f)) → WantsAnother w k (moment_of f)
      by (inl c) = absurd (true≢false (sym (ap is_closed c) ∙ not_closed u.state a.sends))
      by (inr h) = absurd (true≢false (sym e ∙ (λ i. is_reached (timeout_poll (l.timeout i) (l.last i)) (moment_of f)) ∙ h.0))

  reasons : (w : View) (k : Kind) (peer : Option Tuple) → ((t : Tuple) → Reason w t f (moment_of f) → WantsAnother w k (moment_of f)) → is_reached (poll_moment_to peer w f) (moment_of f) ≡ true → WantsAnother w k (moment_of f)
  reasons w k None h e = absurd cc
  reasons w k (Some t) h e = h t (reason w t f (moment_of f) e)

  -- a plain acknowledgement
  plain_again : (b : Segment) → RstOrAck u b → length u.rx_buffer.held ≤ 2 ^ 30 → is_reached (poll_moment (snd_nxt_moved (after_any u (moment_of f)) (emitted_as kind.Plain b)) f) (moment_of f) ≡ true
      → WantsAnother (snd_nxt_moved (after_any u (moment_of f)) (emitted_as kind.Plain b)) kind.Plain (moment_of f)
  unfolding poll_moment snd_nxt_moved after_any
  plain_again b (inl c) room e = absurd (true≢false (sym e ∙ quiet))
    where
      w : View
      w = snd_nxt_moved (after_any u (moment_of f)) (emitted_as kind.Plain b)

      quiet : is_reached (poll_moment_to w.tuple w f) (moment_of f) ≡ false
      quiet = rw c.0 refl
  plain_again b (inr a) room e =
      let w = snd_nxt_moved (after_any u (moment_of f)) (emitted_as kind.Plain b) in
      reasons w kind.Plain w.tuple (λ t. again w t kind.Plain b a (left_as u (moment_of f) b a o) (λ x. absurd (no_ack_due u (moment_of f) b a o x)) (λ x. absurd (not_doubled u (moment_of f) b a o room x))) e

  -- a keep-alive
  kept_as : LeftAs u (after_any u (moment_of f)) (moment_of f)
  unfolding after_any
  kept_as = record { state = refl; tx = refl; window = refl; congestion = refl; left = refl; una = refl; nxt = refl; marked = refl; timer = refl; keep_alive = refl; timeout = refl; last = refl }

  kept_again : (b : Segment) → AckOf u b → is_reached (poll_moment (after_any u (moment_of f)) f) (moment_of f) ≡ true → WantsAnother (after_any u (moment_of f)) kind.KeepAlive (moment_of f)
  unfolding poll_moment
  kept_again b a e =
      let w = after_any u (moment_of f) in
      reasons w kind.KeepAlive w.tuple (λ t. again w t kind.KeepAlive b a kept_as (λ x. AckOwed refl (inl x)) (λ x. AckOwed refl (inr x))) e

-- what an empty segment is
pub empty_parts : (b : Segment) → is_empty_segment b ≡ true → (segment_len b ≡ 0) × (is_plain b.control ≡ true)
empty_parts b e =
    let h = and_parts (length b.payload == 0) (is_plain b.control) e in
    let z : length b.payload ≡ 0 = eqb-true (length b.payload) 0 h.0 in
    let c : control_len b.control ≡ 0 = none b.control h.1 in
    (omega (arith, z, c), h.1)
  where
    none : (c : TcpControl) → is_plain c ≡ true → control_len c ≡ 0
    none control.None e = refl
    none control.Psh e = refl
    none _ e = absurd cc

pub keep_parts : (x y : Bool) → (if x then kind.Probe else (if y then kind.KeepAlive else kind.Plain)) ≡ kind.KeepAlive → y ≡ true
keep_parts true y e = absurd cc
keep_parts false true e = refl
keep_parts false false e = absurd cc

ack_alone : (u : View) (b : Segment) → RstOrAck u b → is_plain b.control ≡ true → AckOf u b
ack_alone u b (inl c) e = absurd (true≢false (sym e ∙ ap is_plain c.1))
ack_alone u b (inr a) e = a

plain_sent : (u : View) (now : Instant) (b : Segment) → segment_len b ≡ 0 → after_sending u now (emitted_as kind.Plain b) ≡ snd_nxt_moved (after_any u now) (emitted_as kind.Plain b)
unfolding after_sending sending_timed
plain_sent u now b e = armed_by_none (sending_timed (snd_nxt_moved (after_any u now) (emitted_as kind.Plain b)) now (emitted_as kind.Plain b)) now (segment_len b) e ∙ rw e refl

module _ (u w : View) (f : Facts) (out : Sending) (stamp : Option ℕ) (p : Tuple) (bytes : List ℕ) (o : IsOrdered u) (q : IsProbing u) (settled : Settled u (moment_of f)) (lawful : IsLawful f) (lent : IsLent u.tx_buffer (offset_of u) (asked u p f) bytes) (room : length u.rx_buffer.held ≤ 2 ^ 30) (left : w ≡ left_by (Some out) u (moment_of f) true) (reached : is_reached (poll_moment w f) (moment_of f) ≡ true) where
  abbrev now : Instant
  now = moment_of f

  kept_sent : (b : Segment) → after_sending u now (emitted_as kind.KeepAlive (of_kind kind.KeepAlive u b)) ≡ after_any u now
  unfolding after_sending
  kept_sent b = refl

  by_kind : (b : Segment) (k : Kind) → emission_kind u now b ≡ k → filled u.state u p f bytes (plain_segment u p stamp) ≡ Some b → sent_as u p k b ≡ out → IsAckAlone out → WantsAnother w out.kind now
  by_kind b kind.Probe i e m (inl h) = let x : kind.Probe ≡ kind.Plain = ap (λ (y : Sending). y.kind) m ∙ h.0 in absurd cc
  by_kind b kind.Probe i e m (inr h) = let x : kind.Probe ≡ kind.KeepAlive = ap (λ (y : Sending). y.kind) m ∙ h in absurd cc
  by_kind b kind.Plain i e m (inr h) = let x : kind.Plain ≡ kind.KeepAlive = ap (λ (y : Sending). y.kind) m ∙ h in absurd cc
  by_kind b kind.Plain i e m (inl h) =
      let z : segment_len b ≡ 0 = ap (λ (y : Sending). segment_len y.segment) m ∙ h.1 in
      let x : w ≡ snd_nxt_moved (after_any u now) (emitted_as kind.Plain b) = left ∙ ap (λ (y : Sending). left_by (Some y) u now true) (sym m) ∙ plain_sent u now b z in
      let a : RstOrAck u b = rst_or_ack u p f stamp bytes o q lawful lent u.state refl b e z in
      subst (λ k. WantsAnother w k now) (ap (λ (y : Sending). y.kind) m) (subst (λ v. WantsAnother v kind.Plain now) (sym x) (plain_again u f o q settled b a room (subst (λ v. is_reached (poll_moment v f) now ≡ true) x reached)))
  by_kind b kind.KeepAlive i e m h =
      let y = keep_parts (is_probing u now) (is_keep_alive_over u.timer now && is_empty_segment b) i in
      let g = empty_parts b (and_parts (is_keep_alive_over u.timer now) (is_empty_segment b) y).1 in
      let x : w ≡ after_any u now = left ∙ ap (λ (y : Sending). left_by (Some y) u now true) (sym m) ∙ kept_sent b in
      let a : AckOf u b = ack_alone u b (rst_or_ack u p f stamp bytes o q lawful lent u.state refl b e g.0) g.1 in
      subst (λ k. WantsAnother w k now) (ap (λ (y : Sending). y.kind) m) (subst (λ v. WantsAnother v kind.KeepAlive now) (sym x) (kept_again u f o q settled b a (subst (λ v. is_reached (poll_moment v f) now ≡ true) x reached)))

  by_filled : (b : Option Segment) → filled u.state u p f bytes (plain_segment u p stamp) ≡ b → option_map (λ s. sent_as u p (emission_kind u now s) s) b ≡ Some out → IsAckAlone out → WantsAnother w out.kind now
  by_filled None e m h = absurd (none-some out m)
  by_filled (Some b) e m h = by_kind b (emission_kind u now b) refl e (same_Some _ out m) h

  by_content : content u p f stamp bytes ≡ Some out → IsAckAlone out → WantsAnother w out.kind now
  unfolding content
  by_content m h = by_filled (filled u.state u p f bytes (plain_segment u p stamp)) refl m h

pub acks_repeat_only_so : AcksRepeatOnlySo
acks_repeat_only_so v u w f out r lawful h alone reached =
    let at : u ≡ after_timers (readied v (moment_of f)) (moment_of f) = sym (ap (λ (x : Begun). x.view) h.begins) ∙ goes v f h.peer (ap peer_of h.begins ∙ h.to) in
    let o : IsOrdered u = subst IsOrdered (ap (λ (x : Begun). x.view) h.begins) (before_ordered f v (reached_ordered v r)) in
    let q : IsProbing u = subst IsProbing (ap (λ (x : Begun). x.view) h.begins) (before_probing f v (reached_probing v r)) in
    let settled : Settled u (moment_of f) = subst (λ x. Settled x (moment_of f)) (sym at) (timers_settle (readied v (moment_of f)) (moment_of f) (readied_paced v (moment_of f) (reached_paced v r)) (readied_knows v (moment_of f))) in
    let rx : u.rx_buffer ≡ v.rx_buffer = ap (λ (x : View). x.rx_buffer) at ∙ (timers_keep (readied v (moment_of f)) (moment_of f)).rx ∙ (readied_keeps v (moment_of f)).rx in
    let own = (holds_after r.rx r.tx v r.counts r.rx_size r.run).room in
    let same : room_of u.rx_buffer ≡ room_of v.rx_buffer = ap room_of rx in
    by_content u w f out h.stamp h.peer h.bytes o q settled lawful h.lent (omega (arith, same, own)) h.view reached h.sends alone
