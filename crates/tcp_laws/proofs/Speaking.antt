-- Where data is due, what goes out takes a sequence number; and after a retransmission timeout data is due.
use Rattle.std.proofs.Common.{◌≡◌, ℕ, zero, suc, ◌<◌, ◌⊎◌, inl, inr, Bool, true, false, true≢false, not, ◌&&◌, ◌||◌, refl, sym, ap, subst, ◌∙◌, List, length, Option, Some, None, is_some, arith}
use Rattle.std.specs.Prelude.{◌/◌, ◌==◌, nat_lt, option_map}
use Rattle.std.proofs.lemmas.Bool.{and_parts, and_right, eqb-true}
use Rattle.std.proofs.lemmas.Option.{none-some, same_Some}
use Rattle.net_base.specs.declared.time.Duration.{Duration}
use Rattle.net_base.specs.declared.time.Instant.{Instant}
use Rattle.control_wire.specs.Seq.{seq_add, seq_eq, seq_sub}
use Rattle.control_wire.specs.Segment.{Segment, segment_len}
use Rattle.sock_core.specs.Facts.{Facts, IsLawful}
use Rattle.sock_tcp.specs.Begin.{Begun, last_ts_set, last_ts_set_at, told_ready, readied, retransmission_begun, after_timers, is_paused, begun, begun_to, unless_paused, before_emit, before_emit_to, peer_of, going_on}
use Rattle.sock_tcp.specs.Content.{Sending, asked, content, emission_kind, filled, of_kind, offset_of, plain_segment, sent_as}
use Rattle.sock_tcp.specs.Due.{data_due, effective_mss, flight, is_closing, is_due, is_held_back, is_opening, may_wait, sendable}
use Rattle.sock_tcp.specs.Polls.{is_reached, timeout_poll}
use Rattle.sock_tcp.specs.Rfc.UserTimeout.{timeout_of}
use Rattle.sock_tcp.specs.Queue.{IsLent, Queue}
use Rattle.sock_tcp.specs.Rfc.Recovery.{timed_out_by}
use Rattle.sock_tcp.specs.Rfc.SmallSegments.{waits_alone}
use Rattle.sock_tcp.specs.Rfc.TailLoss.{may_speak, probes_tail}
use Rattle.sock_tcp.specs.View.{View, moment_of}
use Rattle.sock_tcp.specs.declared.emission.Kind.{Kind}
use Rattle.sock_tcp.specs.declared.emission.Kind.TheVariants as kind
use Rattle.sock_tcp.specs.declared.rules.Rules.{Rules}
use Rattle.sock_tcp.specs.declared.rules.Rules.TheVariants as rules
use Rattle.sock_tcp.specs.declared.state.State.{State}
use Rattle.sock_tcp.specs.declared.state.State.TheVariants as state
use Rattle.sock_tcp.specs.declared.timer.Timer.{Timer}
use Rattle.sock_tcp.specs.declared.timer.Timer.TheVariants as timer
use Rattle.sock_tcp.specs.declared.tuple.Tuple.{Tuple}
use Rattle.tcp_laws.specs.Polling.{IsReached}
use Rattle.tcp_laws.specs.Speaking.{DueDataGoesOut, IsRetransmissionOver, RetransmissionBegins}
use Rattle.tcp_laws.specs.Waking.{HasToSend}
use Rattle.tcp_laws.proofs.AckAlone.{NothingDue, RstOrAck, rst_or_ack}
use Rattle.tcp_laws.proofs.Ordered.{IsOrdered, Row, no_distance}
use Rattle.tcp_laws.proofs.OrderedCalls.{before_ordered, reached_ordered, readied_ordered, timers_ordered}
use Rattle.tcp_laws.proofs.Probing.{IsProbing, before_probing, reached_probing}
use Rattle.tcp_laws.proofs.Repeating.{or_true}
use Rattle.tcp_laws.proofs.Sleeping.{window_sends}

-- ---- what is due goes out

zero_not : (k : ℕ) → k ≡ 0 → not (k == 0) ≡ true → ⊥
zero_not k z e = true≢false (sym e ∙ rw z refl)

not_due : (u : View) (t : Tuple) (f : Facts) → NothingDue u → data_due u t f ≡ true → ⊥
unfolding data_due
not_due u t f q e = by (or_true (marked || more) (syn || fin) e)
  where
    marked : Bool
    marked = u.pending_fast_retransmit && not (length u.tx_buffer.bytes == 0)

    more : Bool
    more = not (sendable u == 0) && not (is_held_back u (effective_mss u t f))

    syn : Bool
    syn = is_opening u.state && (flight u == 0)

    fin : Bool
    fin = is_closing u.state && seq_eq u.remote_last_seq (seq_add u.local_seq_no (length u.tx_buffer.bytes))

    sends : (marked ≡ true) ⊎ (more ≡ true) → ⊥
    sends (inl e) = let h = and_parts u.pending_fast_retransmit (not (length u.tx_buffer.bytes == 0)) e in zero_not (length u.tx_buffer.bytes) (q.again h.0) h.1
    sends (inr e) = zero_not (sendable u) q.sent (and_parts (not (sendable u == 0)) (not (is_held_back u (effective_mss u t f))) e).0

    opens : (syn ≡ true) ⊎ (fin ≡ true) → ⊥
    opens (inl e) = true≢false (sym (and_parts (is_opening u.state) (flight u == 0) e).0 ∙ q.opened)
    opens (inr e) =
        let h = and_parts (is_closing u.state) (seq_eq u.remote_last_seq (seq_add u.local_seq_no (length u.tx_buffer.bytes))) e in
        q.no_fin h.0 (eqb-true u.remote_last_seq.0 (seq_add u.local_seq_no (length u.tx_buffer.bytes)).0 h.1)

    by : ((marked || more) ≡ true) ⊎ ((syn || fin) ≡ true) → ⊥
    by (inl e) = sends (or_true marked more e)
    by (inr e) = opens (or_true syn fin e)

some_or_none : (n : ℕ) → (n ≡ 0) ⊎ (0 < n)
some_or_none zero = inl refl
some_or_none (suc n) = inr (omega arith)

-- a keep-alive's byte counts, too
kind_len : (k : Kind) (u : View) (b : Segment) → 0 < segment_len b → 0 < segment_len (of_kind k u b)
kind_len kind.Plain u b h = h
kind_len kind.Probe u b h = h
kind_len kind.KeepAlive u b h = omega arith

module _ (u : View) (f : Facts) (out : Sending) (stamp : Option ℕ) (p : Tuple) (bytes : List ℕ) (o : IsOrdered u) (q : IsProbing u) (lawful : IsLawful f) (lent : IsLent u.tx_buffer (offset_of u) (asked u p f) bytes) (alive : u.state ≡ state.Closed → ⊥) (due : data_due u p f ≡ true) where
  pub due_is_long : (b : Segment) → filled u.state u p f bytes (plain_segment u p stamp) ≡ Some b → 0 < segment_len b
  due_is_long b e = go (some_or_none (segment_len b))
    where
      none : RstOrAck u b → ⊥
      none (inl c) = alive c.0
      none (inr a) = not_due u p f a.quiet due

      go : (segment_len b ≡ 0) ⊎ (0 < segment_len b) → 0 < segment_len b
      go (inl z) = absurd (none (rst_or_ack u p f stamp bytes o q lawful lent u.state refl b e z))
      go (inr h) = h

  by_filled : (b : Option Segment) → filled u.state u p f bytes (plain_segment u p stamp) ≡ b → option_map (λ s. sent_as u p (emission_kind u (moment_of f) s) s) b ≡ Some out → 0 < segment_len out.segment
  by_filled None e m = absurd (none-some out m)
  by_filled (Some b) e m = subst (λ (x : Sending). 0 < segment_len x.segment) (same_Some (sent_as u p (emission_kind u (moment_of f) b) b) out m) (kind_len (emission_kind u (moment_of f) b) u b (due_is_long b e))

  by_content : content u p f stamp bytes ≡ Some out → 0 < segment_len out.segment
  unfolding content
  by_content m = by_filled (filled u.state u p f bytes (plain_segment u p stamp)) refl m

pub due_data_goes_out : DueDataGoesOut
due_data_goes_out v u w f out r lawful h alive due =
    let o : IsOrdered u = subst IsOrdered (ap (λ (x : Begun). x.view) h.begins) (before_ordered f v (reached_ordered v r)) in
    let q : IsProbing u = subst IsProbing (ap (λ (x : Begun). x.view) h.begins) (before_probing f v (reached_probing v r)) in
    by_content u f out h.stamp h.peer h.bytes o q lawful h.lent alive due h.sends

-- ---- the retransmission timer is over

-- what the beginning of a dispatch leaves of v
record StillOf (v x : View) : Type 0 where
  timer : x.timer ≡ v.timer
  timeout : timeout_of x ≡ timeout_of v
  state : x.state ≡ v.state
  tx : x.tx_buffer ≡ v.tx_buffer
  window : x.remote_win_len ≡ v.remote_win_len
  una : x.local_seq_no ≡ v.local_seq_no
  tuple : x.tuple ≡ v.tuple
  tail : (m : Instant) → probes_tail x m ≡ probes_tail v m

readied_still : (v : View) (now : Instant) → StillOf v (readied v now)
unfolding readied last_ts_set may_speak
readied_still v now = go v.remote_last_ts
  where
    go : (o : Option Instant) → StillOf v (told_ready (last_ts_set_at o v now) now)
    go None = record { timer = refl; timeout = refl; state = refl; tx = refl; window = refl; una = refl; tuple = refl; tail = λ m. refl }
    go (Some at) = record { timer = refl; timeout = refl; state = refl; tx = refl; window = refl; una = refl; tuple = refl; tail = λ m. refl }

-- in SYN-RECEIVED nothing waits
not_paused : (st : State) (t : Timer) (keep : Option Duration) (i n : ℕ) (b : Bool) → Row st t keep i n → (0 < n) ⊎ (is_closing st ≡ true) → is_paused st b ≡ false
not_paused state.SynReceived t keep i n b r (inl h) = absurd (omega (arith, h, r.1))
not_paused state.SynReceived t keep i n b r (inr c) = absurd cc
not_paused _ t keep i n b r h = refl

module _ (v : View) (t : Tuple) (f : Facts) (r : IsReached v) (h : IsRetransmissionOver v t f) (window : 0 < v.remote_win_len) (send : HasToSend v) where
  abbrev now : Instant
  now = moment_of f

  abbrev x : View
  x = readied v now

  abbrev u : View
  u = retransmission_begun x now

  still : StillOf v x
  still = readied_still v now

  begins_is : after_timers x now ≡ u
  unfolding after_timers
  begins_is = rw (alive, quiet, timed, h.over) refl
    where
      alive : is_reached (timeout_poll (timeout_of x) x.remote_last_ts) now ≡ false
      alive = ap (λ d. is_reached (timeout_poll d x.remote_last_ts) now) still.timeout ∙ h.alive

      quiet : probes_tail x now ≡ false
      quiet = still.tail now ∙ h.no_probe

      timed : x.timer ≡ timer.Retransmit h.at
      timed = still.timer ∙ h.timer

  ordered : IsOrdered u
  ordered = subst IsOrdered begins_is (timers_ordered x now (readied_ordered v now (reached_ordered v r)))

  una : u.local_seq_no ≡ v.local_seq_no
  unfolding retransmission_begun
  una = still.una

  nxt : u.remote_last_seq ≡ v.local_seq_no
  unfolding retransmission_begun
  nxt = still.una

  nothing_in_flight : flight u ≡ 0
  nothing_in_flight = ap (λ k. seq_sub k u.local_seq_no) (nxt ∙ sym una) ∙ no_distance u.local_seq_no ordered.una_small

  waits : HasToSend u
  unfolding retransmission_begun
  waits = by send
    where
      by : (0 < length v.tx_buffer.bytes) ⊎ (is_closing v.state ≡ true) → (0 < length x.tx_buffer.bytes) ⊎ (is_closing x.state ≡ true)
      by (inl some) = inl (subst (λ q. 0 < q) (ap (λ (y : Queue). length y.bytes) (sym still.tx)) some)
      by (inr c) = inr (ap is_closing still.state ∙ c)

  wide : 0 < u.remote_win_len
  unfolding retransmission_begun
  wide = subst (λ q. 0 < q) (sym still.window) window

  -- what was sent before does not wait
  again : may_wait u ≡ false
  unfolding retransmission_begun
  again = by x.rules
    where
      by : (r : Rules) → waits_alone r (timed_out_by r x.recovery x.remote_last_seq) x.idle_at x.remote_win_len x.largest_window ≡ false
      by rules.Smoltcp = refl
      by rules.Rfc = and_right (nat_lt x.remote_win_len (x.largest_window / 2)) _ (and_right (is_some x.idle_at) false refl)

  due : data_due u t f ≡ true
  due = window_sends u t f ordered wide nothing_in_flight again waits

  is_due_so : is_due u t f ≡ true
  unfolding is_due
  is_due_so = rw due refl

  goes_on : is_paused u.state u.synack_paused ≡ false
  goes_on = not_paused u.state u.timer u.keep_alive (flight u) (length u.tx_buffer.bytes) u.synack_paused ordered.row waits

  not_waiting : (y : View) → is_paused y.state y.synack_paused ≡ false → unless_paused y ≡ going_on y
  not_waiting y e = rw e refl

  with_address : begun_to (Some t) v f ≡ unless_paused (after_timers x now)
  with_address = rw h.address refl

  begun_so : begun_to v.tuple v f ≡ going_on u
  begun_so = ap (λ o. begun_to o v f) h.peer ∙ with_address ∙ ap unless_paused begins_is ∙ not_waiting u goes_on

  to_peer : u.tuple ≡ Some t
  unfolding retransmission_begun
  to_peer = still.tuple ∙ h.peer

  due_so : before_emit_to (Some t) u f ≡ going_on u
  due_so = rw is_due_so refl

  begins_so : before_emit v f ≡ going_on u
  unfolding before_emit begun
  begins_so = ap (λ (b : Begun). before_emit_to (peer_of b) b.view f) begun_so ∙ ap (λ o. before_emit_to o u f) to_peer ∙ due_so

pub retransmission_begins : RetransmissionBegins
retransmission_begins v t f r h window send =
    let e = begins_so v t f r h window send in
    record {
      peer = ap peer_of e ∙ to_peer v t f r h window send;
      due = ap (λ (b : Begun). data_due b.view t f) e ∙ due v t f r h window send;
      una = ap (λ (b : Begun). b.view.local_seq_no) e ∙ una v t f r h window send;
      nxt = ap (λ (b : Begun). b.view.remote_last_seq) e ∙ nxt v t f r h window send;
    }
