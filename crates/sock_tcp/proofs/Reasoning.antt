-- The reason of a dispatch beside what the dispatch does.
use Rattle.std.proofs.Common.{◌≡◌, ◌∙◌, ℕ, Bool, true, false, not, ◌&&◌, ◌||◌, length, Option, Some, None, refl, sym, ap, ap₂, subst}
use Rattle.std.specs.Prelude.{if◌then◌else◌, ◌==◌}
use Rattle.net_base.specs.declared.time.Instant.{Instant}
use Rattle.control_wire.specs.declared.seq_number.TcpSeqNumber.{TcpSeqNumber}
use Rattle.sock_core.specs.Congestion.{pre_transmitted, reno_pre_transmit}
use Rattle.sock_core.specs.Facts.{Facts}
use Rattle.sock_core.specs.declared.congestion.AnyController.{AnyController}
use Rattle.sock_core.specs.declared.congestion.AnyController.TheVariants as controller
use Rattle.sock_core.specs.declared.context.PollAt.{PollAt}
use Rattle.sock_tcp.specs.Begin.{Begun, after_timer, after_timers, before_emit, before_emit_to, begun, begun_to, by_due, ended, going_on, is_paused, last_ts_set, last_ts_set_at, nothing_due, peer_of, probing_begun, readied, retransmission_begun, time_wait_ended, timers_by, told_ready, unless_paused}
use Rattle.sock_tcp.specs.Due.{ack_due, data_due, data_due_by, effective_mss, flight, held_poll, is_closed, is_due, is_doubled, is_held_back, is_opening, sendable, tells_window, window_doubled}
use Rattle.sock_tcp.specs.Next.{due_reason, has_fin, is_timed_out, last_or, reason_by, reason_of, reason_to, timer_reason, unpaused_reason}
use Rattle.sock_tcp.specs.Opening.{renewed}
use Rattle.sock_tcp.specs.Poll.{poll_moment}
use Rattle.sock_tcp.specs.Polls.{is_reached, timeout_poll}
use Rattle.sock_tcp.specs.Reasons.{Follows, ReasonsSay}
use Rattle.sock_tcp.specs.Rfc.OwnWindow.{is_grown, may_grow}
use Rattle.sock_tcp.specs.Rfc.TailLoss.{may_speak, probes_tail}
use Rattle.sock_tcp.specs.Sack.{sack_ranges}
use Rattle.sock_tcp.specs.Timers.{is_close_over, is_keep_alive_over, is_over, is_probe_over}
use Rattle.sock_tcp.specs.View.{View, moment_of}
use Rattle.sock_tcp.specs.Window.{receive_window}
use Rattle.sock_tcp.specs.declared.next.Reason.{Reason}
use Rattle.sock_tcp.specs.declared.next.Reason.TheVariants as reason
use Rattle.sock_tcp.specs.declared.rules.Rules.{Rules}
use Rattle.sock_tcp.specs.declared.rules.Rules.TheVariants as rules
use Rattle.sock_tcp.specs.declared.state.State.TheVariants as state
use Rattle.sock_tcp.specs.declared.timer.Timer.{Timer}
use Rattle.sock_tcp.specs.declared.timer.Timer.TheVariants as timer
use Rattle.sock_tcp.specs.declared.tuple.Tuple.{Tuple}

-- ---- how a dispatch begins

same_controller : (c : AnyController) (now : Instant) → pre_transmitted c now ≡ c
unfolding pre_transmitted reno_pre_transmit
same_controller (controller.None n) now = refl
same_controller (controller.Reno r) now = refl
same_controller (controller.Cubic c) now = refl

told_is : (w : View) (now : Instant) → told_ready w now ≡ w
told_is w now = ap (λ c. record w { congestion_controller = c }) (same_controller w.congestion_controller now)

abbrev known : View → Instant → View
known v now = record v { remote_last_ts = Some (last_or v.remote_last_ts now) }

last_is : (o : Option Instant) (v : View) (now : Instant) → v.remote_last_ts ≡ o → last_ts_set_at o v now ≡ record v { remote_last_ts = Some (last_or o now) }
last_is None v now e = refl
last_is (Some last) v now e = ap (λ (o : Option Instant). record v { remote_last_ts = o }) e

ready_is : (v : View) (now : Instant) → readied v now ≡ known v now
unfolding readied last_ts_set
ready_is v now = told_is (last_ts_set v now) now ∙ last_is v.remote_last_ts v now refl

-- ---- the reasons

abbrev after : Begun → Facts → Begun
after b f = before_emit_to (peer_of b) b.view f

with_reset : (x k p : Bool) → (x || true || k || p) ≡ true
with_reset true k p = refl
with_reset false k p = refl

module _ (v : View) (f : Facts) (t : Tuple) (e : v.tuple ≡ Some t) where
  abbrev now : Instant
  now = moment_of f

  abbrev u : View
  u = known v (moment_of f)

  -- by what is due, in the order of `is_due`: a fast retransmission, data, a SYN, a FIN, what has waited, a window, the
  -- RST, a keep-alive, no probe, the end of TIME-WAIT
  table : (a s c d h w x k p z : Bool) (b : Begun) → p ≡ false → Follows v f u (if x then reason.Reset else (if a then reason.Retransmission else (if s then reason.Data else (if c then reason.Syn else (if d then reason.Fin else (if h then reason.Delayed else (if w then reason.WindowUpdate else (if k then reason.KeepAlive else (if z then reason.TimeWaitOver else reason.Waits (poll_moment v f)))))))))) b (if (a || s || (c || d) || h || w || x || k || p) then record { view = u; goes_on = true } else record { view = if z then time_wait_ended v.rules u else u; goes_on = false })
  table true s c d h w true k p z b n = refl
  table true s c d h w false k p z b n = refl
  table false true c d h w true k p z b n = refl
  table false true c d h w false k p z b n = refl
  table false false true d h w true k p z b n = refl
  table false false true d h w false k p z b n = refl
  table false false false true h w true k p z b n = refl
  table false false false true h w false k p z b n = refl
  table false false false false true w true k p z b n = refl
  table false false false false true w false k p z b n = refl
  table false false false false false true true k p z b n = refl
  table false false false false false true false k p z b n = refl
  table false false false false false false true k p z b n = refl
  table false false false false false false false true p z b n = refl
  table false false false false false false false false true z b n = absurd cc
  table false false false false false false false false false true b n = refl
  table false false false false false false false false false false b n = (refl, refl)

  due_is : (b : Bool) → by_due b u f ≡ (if b then record { view = u; goes_on = true } else record { view = if is_close_over v.timer now then time_wait_ended v.rules u else u; goes_on = false })
  unfolding nothing_due
  due_is true = refl
  due_is false = refl

  abbrev mss : ℕ
  mss = effective_mss v t f

  abbrev poll : PollAt
  poll = poll_moment v f

  abbrev on : Begun
  on = record { view = u; goes_on = true }

  data_same : data_due u t f ≡ data_due_by v mss
  unfolding data_due sack_ranges
  data_same = refl

  held_same : held_poll u ≡ held_poll v
  unfolding ack_due
  held_same = refl

  doubled_same : (o : Option TcpSeqNumber) → is_doubled u o ≡ is_doubled v o
  doubled_same None = refl
  doubled_same (Some ack) = refl

  grow_same : (r : Rules) → may_grow r u ≡ may_grow r v
  unfolding is_grown receive_window
  grow_same rules.Smoltcp = refl
  grow_same rules.Rfc = refl

  window_same : window_doubled u ≡ window_doubled v
  unfolding window_doubled
  window_same = ap₂ (λ x y. tells_window v.state && (x && y)) (doubled_same v.remote_last_ack) (grow_same v.rules)

  abbrev due : Bool
  due = data_due_by v mss || is_reached (held_poll v) now || window_doubled v || is_closed v.state || is_keep_alive_over v.timer now || is_probe_over v.timer now

  due_same : is_due u t f ≡ due
  unfolding is_due
  due_same = rw (data_same, held_same, window_same) refl

  goes : is_probe_over v.timer now ≡ false → Follows v f u (due_reason v mss now poll) on (by_due (is_due u t f) u f)
  goes n =
      let d : Follows v f u (due_reason v mss now poll) on (if due then record { view = u; goes_on = true } else record { view = if is_close_over v.timer now then time_wait_ended v.rules u else u; goes_on = false }) = table (v.pending_fast_retransmit && not (length v.tx_buffer.bytes == 0)) (not (sendable v == 0) && not (is_held_back v mss)) (is_opening v.state && (flight v == 0)) (has_fin v) (is_reached (held_poll v) now) (window_doubled v) (is_closed v.state) (is_keep_alive_over v.timer now) (is_probe_over v.timer now) (is_close_over v.timer now) on n in
      subst (λ (x : Bool). Follows v f u (due_reason v mss now poll) on (by_due x u f)) (sym due_same) (subst (λ (x : Begun). Follows v f u (due_reason v mss now poll) on x) (sym (due_is due)) d)

  rest : is_probe_over v.timer now ≡ false → Follows v f u (unpaused_reason v mss now poll) (unless_paused u) (after (unless_paused u) f)
  rest n = go (is_paused v.state v.synack_paused)
    where
      go : (b : Bool) → Follows v f u (if b then reason.Paused else due_reason v mss now poll) (record { view = u; goes_on = not b }) (after (record { view = u; goes_on = not b }) f)
      go true = refl
      go false = subst (λ (o : Option Tuple). Follows v f u (due_reason v mss now poll) on (before_emit_to o u f)) (sym e) (goes n)

  -- by the timer, which asks for nothing, or comes first
  timed : (x : Timer) → v.timer ≡ x → Follows v f u (timer_reason x v mss now poll) (unless_paused (after_timer x u now)) (after (unless_paused (after_timer x u now)) f)
  timed (timer.Retransmit at) k = go (is_over at now)
    where
      go : (b : Bool) → Follows v f u (if b then reason.RetransmissionTimeout else unpaused_reason v mss now poll) (unless_paused (if b then retransmission_begun u now else u)) (after (unless_paused (if b then retransmission_begun u now else u)) f)
      go true = refl
      go false = rest (rw k refl)
  timed timer.FastRetransmit k = refl
  timed (timer.ZeroWindowProbe at delay) k = go (is_over at now) refl
    where
      go : (b : Bool) → is_over at now ≡ b → Follows v f u (if b then reason.WindowProbe else unpaused_reason v mss now poll) (unless_paused (if b then probing_begun v.rules u else u)) (after (unless_paused (if b then probing_begun v.rules u else u)) f)
      go true n = refl
      go false n = rest (rw k n)
  timed (timer.Idle at) k = rest (rw k refl)
  timed (timer.Close at) k = rest (rw k refl)

  abbrev closed : View
  closed = record u { state = state.Closed }

  closed_due : is_due closed t f ≡ true
  unfolding is_due
  closed_due = with_reset (data_due closed t f || is_reached (held_poll closed) now || window_doubled closed) (is_keep_alive_over v.timer now) (is_probe_over v.timer now)

  said : Follows v f u (reason_by v mss now poll) (unless_paused (after_timers u now)) (after (unless_paused (after_timers u now)) f)
  unfolding after_timers may_speak reason_by
  said = by (is_timed_out v now)
    where
      late : (b : Bool) → Follows v f u (if b then reason.TailLossProbe else timer_reason v.timer v mss now poll) (unless_paused (timers_by b u now)) (after (unless_paused (timers_by b u now)) f)
      late true = refl
      late false = timed v.timer refl

      by : (b : Bool) → Follows v f u (if b then reason.UserTimeout else (if probes_tail v now then reason.TailLossProbe else timer_reason v.timer v mss now poll)) (unless_paused (if b then closed else timers_by (probes_tail u now) u now)) (after (unless_paused (if b then closed else timers_by (probes_tail u now) u now)) f)
      by true = subst (λ (o : Option Tuple). before_emit_to o closed f ≡ going_on closed) (sym e) (ap (λ (b : Bool). by_due b closed f) closed_due)
      by false = late (probes_tail v now)

pub reasons_say : ReasonsSay
unfolding reason_of before_emit begun
reasons_say v f = by v.tuple refl
  where
    now : Instant
    now = moment_of f

    by : (o : Option Tuple) → v.tuple ≡ o → Follows v f (readied v now) (reason_to o v f) (begun_to o v f) (after (begun_to o v f) f)
    by None e = refl
    by (Some t) e = go (f.has_address t.local.addr)
      where
        go : (b : Bool) → Follows v f (readied v now) (if b then reason_by v (effective_mss v t f) now (poll_moment v f) else reason.AddressGone) (if b then unless_paused (after_timers (readied v now) now) else ended (renewed v)) (after (if b then unless_paused (after_timers (readied v now) now) else ended (renewed v)) f)
        go true = subst (λ (r : View). Follows v f r (reason_by v (effective_mss v t f) now (poll_moment v f)) (unless_paused (after_timers r now)) (after (unless_paused (after_timers r now)) f)) (sym (ready_is v now)) (said v f t e)
        go false = refl
