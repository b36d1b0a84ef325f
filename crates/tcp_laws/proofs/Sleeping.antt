-- How a socket with work to do waits for a segment, and what keeps it from it.
use Rattle.std.proofs.Common.{◌-◌, ◌≡◌, ℕ, zero, suc, ◌<◌, ◌^◌, ◌/◌, ◌⊎◌, inl, inr, Bool, true, false, true≢false, not, ◌&&◌, ◌||◌, refl, sym, ap, subst, ◌∙◌, length, Option, Some, None, is_none, is_some, arith}
use Rattle.std.specs.Prelude.{if◌then◌else◌, ◌==◌, min, nat_lt}
use Rattle.std.proofs.lemmas.Bool.{and_parts, and_right, eq-eqb, eqb-true, ltb-true, or_parts}
use Rattle.std.proofs.lemmas.Option.{none-some}
use Rattle.net_base.specs.declared.time.Duration.{Duration}
use Rattle.net_base.specs.declared.time.Instant.{Instant}
use Rattle.control_wire.specs.Seq.{seq_add}
use Rattle.sock_core.specs.Congestion.{bounded, recovery_window, reno_recovery_window, congestion_window}
use Rattle.sock_core.specs.Facts.{Facts}
use Rattle.sock_core.specs.Reno.{RenoNumbers}
use Rattle.sock_core.specs.declared.congestion.AnyController.{AnyController}
use Rattle.sock_core.specs.declared.congestion.AnyController.TheVariants as controller
use Rattle.sock_core.specs.declared.context.PollAt.{PollAt}
use Rattle.sock_core.specs.declared.context.PollAt.TheVariants as poll
use Rattle.sock_tcp.specs.Due.{congestion_left, is_counted, recovery_left, limited, ack_due, ack_poll, data_due, effective_mss, flight, held_poll, is_closed, is_closing, is_held_back, is_opening, may_wait, sendable, window_doubled}
use Rattle.sock_tcp.specs.Rfc.Pipe.{pipe}
use Rattle.sock_tcp.specs.Poll.{is_due_now, poll_moment, poll_moment_to}
use Rattle.sock_tcp.specs.Polls.{delay_poll, earlier, timer_poll, timeout_poll}
use Rattle.sock_tcp.specs.Rfc.UserTimeout.{idle_timeout, may_be_idle, owes_ack, timeout_by, timeout_of}
use Rattle.sock_tcp.specs.Rfc.SmallSegments.{held_by, is_cut_by, is_cut_by_window, moment_at, sends_again, small_poll, waits_alone}
use Rattle.sock_tcp.specs.View.{View}
use Rattle.sock_tcp.specs.Work.{has_work, works_in}
use Rattle.tcp_laws.specs.Polling.{KeepAliveWakes, NoWorkNoBytes, Sleeps, SleepsIn, SleepsOnlySo, WaitsForPeer}
use Rattle.sock_tcp.specs.declared.rules.Rules.{Rules}
use Rattle.sock_tcp.specs.declared.rules.Rules.TheVariants as rules
use Rattle.sock_tcp.specs.declared.state.State.{State}
use Rattle.sock_tcp.specs.declared.state.State.TheVariants as state
use Rattle.sock_tcp.specs.declared.timer.AckDelayTimer.{AckDelayTimer}
use Rattle.sock_tcp.specs.declared.timer.AckDelayTimer.TheVariants as ack_delay
use Rattle.sock_tcp.specs.declared.timer.Timer.{Timer}
use Rattle.sock_tcp.specs.declared.timer.Timer.TheVariants as timer
use Rattle.sock_tcp.specs.declared.tuple.Tuple.{Tuple}
use Rattle.tcp_laws.specs.Waking.{HasToSend, WaitsSmall}
use Rattle.tcp_laws.proofs.Ordered.{IsOpen, IsOrdered, IsPeeredIn, RenoOpen, Row}
use Rattle.tcp_laws.proofs.OrderedCalls.{reached_ordered}

-- ---- what `Ingress` says

both_wait : (p q : PollAt) → earlier p q ≡ poll.Ingress → (p ≡ poll.Ingress) × (q ≡ poll.Ingress)
both_wait poll.Now q e = absurd cc
both_wait poll.Ingress q e = (refl, e)
both_wait (poll.Time t) poll.Now e = absurd cc
both_wait (poll.Time t) poll.Ingress e = absurd cc
both_wait (poll.Time t) (poll.Time u) e = absurd cc

idle_is : (t : Timer) → timer_poll t ≡ poll.Ingress → t ≡ timer.Idle None
idle_is (timer.Idle None) e = refl
idle_is (timer.Idle (Some at)) e = absurd cc
idle_is (timer.Retransmit at) e = absurd cc
idle_is timer.FastRetransmit e = absurd cc
idle_is (timer.ZeroWindowProbe at d) e = absurd cc
idle_is (timer.Close at) e = absurd cc

no_timeout : (d : Option Duration) (last : Option Instant) → is_none last ≡ false → timeout_poll d last ≡ poll.Ingress → d ≡ None
no_timeout None last known e = refl
no_timeout (Some d) None known e = absurd cc
no_timeout (Some d) (Some last) known e = absurd cc

nothing_delayed : (d : AckDelayTimer) → delay_poll d ≡ poll.Ingress → ⊥
nothing_delayed ack_delay.Idle e = absurd cc
nothing_delayed (ack_delay.Waiting at) e = absurd cc
nothing_delayed ack_delay.Immediate e = absurd cc

not_owed : (b : Bool) (d : AckDelayTimer) → (if b then delay_poll d else poll.Ingress) ≡ poll.Ingress → b ≡ false
not_owed true d e = absurd (nothing_delayed d e)
not_owed false d e = refl

-- a socket with a peer that has nothing to send at once, and whose timer has no moment
pub record Quiet (v : View) (t : Tuple) (f : Facts) : Type 0 where
  pub timer : v.timer ≡ timer.Idle None
  pub no_data : data_due v t f ≡ false
  pub not_closed : is_closed v.state ≡ false

-- an acknowledgement that is due has a moment
ack_waits : (r : Rules) (p q : PollAt) → held_by r p q ≡ poll.Ingress → p ≡ poll.Ingress
ack_waits rules.Smoltcp p q e = e
ack_waits rules.Rfc p q e = (both_wait p q e).0

-- one whose `poll_at` answers `Ingress`
pub record Waits (v : View) (t : Tuple) (f : Facts) : Type 0 where
  pub quiet : Quiet v t f
  pub timeout : timeout_of v ≡ None
  pub no_ack : ack_due v ≡ false
  pub held : held_poll v ≡ poll.Ingress

pub waits : (v : View) (t : Tuple) (f : Facts) → poll_moment_to (Some t) v f ≡ poll.Ingress → Waits v t f
waits v t f e = go (is_due_now v t f) refl e
  where
    p : PollAt
    p = earlier (timer_poll v.timer) (earlier (timeout_poll (timeout_of v) v.remote_last_ts) (held_poll v))

    go : (b : Bool) → is_due_now v t f ≡ b → (if b then poll.Now else p) ≡ poll.Ingress → Waits v t f
    go true d e = absurd cc
    go false d e =
        let a = or_parts (is_none v.remote_last_ts || is_closed v.state || data_due v t f) (window_doubled v) d in
        let b = or_parts (is_none v.remote_last_ts || is_closed v.state) (data_due v t f) a.0 in
        let c = or_parts (is_none v.remote_last_ts) (is_closed v.state) b.0 in
        let m = both_wait (timer_poll v.timer) (earlier (timeout_poll (timeout_of v) v.remote_last_ts) (held_poll v)) e in
        let n = both_wait (timeout_poll (timeout_of v) v.remote_last_ts) (held_poll v) m.1 in
        record {
          quiet = record { timer = idle_is v.timer m.0; no_data = b.1; not_closed = c.1 };
          timeout = no_timeout (timeout_of v) v.remote_last_ts c.0 n.0;
          no_ack = not_owed (ack_due v) v.ack_delay_timer (ack_waits v.rules (ack_poll v) _ n.1);
          held = n.1;
        }

-- ---- what is not due

-- a SYN that counts as unsent is due
pub syn_due : (v : View) (t : Tuple) (f : Facts) → is_opening v.state ≡ true → flight v ≡ 0 → data_due v t f ≡ false → ⊥
unfolding data_due
syn_due v t f o z e =
    let a = or_parts ((v.pending_fast_retransmit && not (length v.tx_buffer.bytes == 0)) || (not (sendable v == 0) && not (is_held_back v (effective_mss v t f)))) _ e in
    true≢false (sym (rw (o, z) refl) ∙ (or_parts (is_opening v.state && (flight v == 0)) _ a.1).0)

-- with nothing in flight, what may go out and has no moment does not wait
unheld_by : (v : View) (r : Rules) → flight v ≡ 0 → held_by r (ack_poll v) (small_poll ((flight v == 0) && not (sendable v == 0)) v.idle_at) ≡ poll.Ingress → (sendable v ≡ 0) ⊎ (waits_alone r v.recovery v.idle_at v.remote_win_len v.largest_window ≡ false)
unheld_by v rules.Smoltcp z e = inr refl
unheld_by v rules.Rfc z e = go (sendable v == 0) refl
  where
    no_moment_so : (o : Option Instant) → moment_at o ≡ poll.Ingress → (x y : Bool) → (x && (is_some o && y)) ≡ false
    no_moment_so None e x y = and_right x false refl
    no_moment_so (Some at) e x y = absurd cc

    go : (b : Bool) → (sendable v == 0) ≡ b → (sendable v ≡ 0) ⊎ (waits_alone rules.Rfc v.recovery v.idle_at v.remote_win_len v.largest_window ≡ false)
    go true i = inl (eqb-true (sendable v) 0 i)
    go false i =
        let y : (flight v == 0) ≡ true = eq-eqb (flight v) 0 z in
        let may : ((flight v == 0) && not (sendable v == 0)) ≡ true = (λ j. y j && not (i j)) in
        inr (no_moment_so v.idle_at (sym (ap (λ b. small_poll b v.idle_at) may) ∙ (both_wait (ack_poll v) (small_poll ((flight v == 0) && not (sendable v == 0)) v.idle_at) e).1) (nat_lt v.remote_win_len (v.largest_window / 2)) (not (sends_again v.recovery)))

-- nothing in flight, and what may go out is held back
held_goes : (v : View) (t : Tuple) (f : Facts) → data_due v t f ≡ false → (sendable v == 0) ≡ false → is_held_back v (effective_mss v t f) ≡ true
unfolding data_due
held_goes v t f e i = go (is_held_back v (effective_mss v t f)) refl
  where
    some : (not (sendable v == 0) && not (is_held_back v (effective_mss v t f))) ≡ false
    some =
        let a = or_parts ((v.pending_fast_retransmit && not (length v.tx_buffer.bytes == 0)) || (not (sendable v == 0) && not (is_held_back v (effective_mss v t f)))) _ e in
        (or_parts (v.pending_fast_retransmit && not (length v.tx_buffer.bytes == 0)) _ a.0).1

    go : (b : Bool) → is_held_back v (effective_mss v t f) ≡ b → is_held_back v (effective_mss v t f) ≡ true
    go true h = h
    go false h = absurd (true≢false (sym (λ j. not (i j) && not (h j)) ∙ some))

-- nothing in flight, and a window that lets the queue go out
data_goes : (v : View) (t : Tuple) (f : Facts) → data_due v t f ≡ false → flight v ≡ 0 → (sendable v ≡ 0) ⊎ ((may_wait v ≡ true) × WaitsSmall v t f)
data_goes v t f e z = go (sendable v == 0) refl
  where
    by_nagle : (b : Bool) → (b && not (flight v == 0) && nat_lt (sendable v) (effective_mss v t f) && not (is_closing v.state)) ≡ false
    by_nagle true = rw z refl
    by_nagle false = refl

    n : ℕ
    n = length v.tx_buffer.bytes

    flies : not (flight v == 0) ≡ false
    flies = ap not (eq-eqb (flight v) 0 z)

    not_not : (b : Bool) → not (not b) ≡ b
    not_not true = refl
    not_not false = refl

    whole : (a b c : ℕ) → b ≡ 0 → a - b < c → a < c
    whole a b c z s = omega (arith, z, s)

    no_network : (a b : Bool) → (a && (b && false)) ≡ false
    no_network true true = refl
    no_network true false = refl
    no_network false b = refl

    -- the parts of what is cut short
    by_window : (r : Rules) → is_cut_by r (waits_alone r v.recovery v.idle_at v.remote_win_len v.largest_window) (flight v) v.remote_win_len n (congestion_left v) (effective_mss v t f) ≡ true → (waits_alone r v.recovery v.idle_at v.remote_win_len v.largest_window ≡ true) × WaitsSmall v t f
    by_window rules.Smoltcp c = absurd cc
    by_window rules.Rfc c =
        let w : Bool = waits_alone rules.Rfc v.recovery v.idle_at v.remote_win_len v.largest_window in
        let out : ℕ = min (min v.remote_win_len n - flight v) (congestion_left v) in
        let few : Bool = nat_lt out (effective_mss v t f / 2) in
        let less : Bool = nat_lt out (min v.remote_win_len n - flight v) in
        let by_peer : Bool = is_cut_by_window w (flight v) v.remote_win_len n (congestion_left v) (effective_mss v t f) in
        let held : by_peer ≡ true = sym (ap (λ y. (few && (less && y)) || by_peer) flies ∙ ap (λ y. y || by_peer) (no_network few less)) ∙ c in
        let a = and_parts (nat_lt v.remote_win_len n) _ held in
        let b = and_parts (not (flight v == 0) || w) _ a.1 in
        let x : w ≡ true = sym (ap (λ y. y || w) flies) ∙ b.0 in
        let k = and_parts (nat_lt v.remote_win_len (v.largest_window / 2)) _ x in
        let m = and_parts (is_some v.idle_at) _ k.1 in
        let s : v.remote_win_len - flight v < effective_mss v t f = ltb-true (v.remote_win_len - flight v) (effective_mss v t f) (and_parts (nat_lt (v.remote_win_len - flight v) (effective_mss v t f)) _ b.1).0 in
        let small : WaitsSmall v t f = record {
          half = ltb-true v.remote_win_len (v.largest_window / 2) k.0;
          short = whole v.remote_win_len (flight v) (effective_mss v t f) z s;
          more = ltb-true v.remote_win_len n a.0;
          has_moment = m.0;
          first = sym (not_not (sends_again v.recovery)) ∙ ap not m.1;
        } in
        (x, small)

    cut : is_held_back v (effective_mss v t f) ≡ true → is_cut_by v.rules (may_wait v) (flight v) v.remote_win_len n (congestion_left v) (effective_mss v t f) ≡ true
    cut h = sym (ap (λ b. b || is_cut_by v.rules (may_wait v) (flight v) v.remote_win_len n (congestion_left v) (effective_mss v t f)) (by_nagle v.nagle)) ∙ h

    go : (b : Bool) → (sendable v == 0) ≡ b → (sendable v ≡ 0) ⊎ ((may_wait v ≡ true) × WaitsSmall v t f)
    go true i = inl (eqb-true (sendable v) 0 i)
    go false i = inr (by_window v.rules (cut (held_goes v t f e i)))

-- a FIN at SND.NXT is due
pub fin_due : (v : View) (t : Tuple) (f : Facts) → is_closing v.state ≡ true → v.local_seq_no.0 < 2 ^ 32 → v.remote_last_seq.0 < 2 ^ 32 → flight v ≡ 0 → length v.tx_buffer.bytes ≡ 0 → data_due v t f ≡ false → ⊥
unfolding data_due
fin_due v t f o hu hn z n e =
    let a = or_parts ((v.pending_fast_retransmit && not (length v.tx_buffer.bytes == 0)) || (not (sendable v == 0) && not (is_held_back v (effective_mss v t f)))) _ e in
    let b = or_parts (is_opening v.state && (flight v == 0)) _ a.1 in
    let x : v.remote_last_seq.0 ≡ (seq_add v.local_seq_no (length v.tx_buffer.bytes)).0 = omega (arith, z, n, hu, hn) in
    true≢false (sym (rw (o, eq-eqb v.remote_last_seq.0 (seq_add v.local_seq_no (length v.tx_buffer.bytes)).0 x) refl) ∙ b.1)

open_window : (c : AnyController) → IsOpen c → 0 < congestion_window c
open_window (controller.None x) h = omega arith
open_window (controller.Reno r) h = h.cwnd
open_window (controller.Cubic c) h = h.cwnd

open_reno_recovery : (r : RenoNumbers) → RenoOpen r → 0 < reno_recovery_window r
open_reno_recovery r h = by r.in_recovery
  where
    by : (b : Bool) → 0 < (if b then bounded r r.ssthresh else r.cwnd)
    by true = omega (arith, h.mss)
    by false = h.cwnd

open_recovery : (c : AnyController) → IsOpen c → 0 < recovery_window c
open_recovery (controller.None x) h = omega arith
open_recovery (controller.Reno r) h = open_reno_recovery r h
open_recovery (controller.Cubic c) h = open_reno_recovery c.reno h

-- with nothing in flight the congestion window leaves something
pub congestion_leaves : (v : View) → IsOpen v.congestion_controller → flight v ≡ 0 → 0 < congestion_left v
unfolding pipe
congestion_leaves v h z = by (is_counted v)
  where
    by : (b : Bool) → 0 < (if b then recovery_left v else congestion_window v.congestion_controller - (flight v - limited v))
    by true = omega (arith, z, open_recovery v.congestion_controller h)
    by false = omega (arith, z, open_window v.congestion_controller h)

-- what waits is due where the peer has a window and nothing is in flight, or the window is small
pub window_wakes_or_waits : (v : View) (t : Tuple) (f : Facts) → IsOrdered v → 0 < v.remote_win_len → flight v ≡ 0 → HasToSend v → (data_due v t f ≡ true) ⊎ ((may_wait v ≡ true) × WaitsSmall v t f)
window_wakes_or_waits v t f h win z send = go (data_due v t f) refl
  where
    empty : sendable v ≡ 0 → length v.tx_buffer.bytes ≡ 0
    empty s = omega (arith, z, win, s, congestion_leaves v h.congestion z)

    nothing : HasToSend v → data_due v t f ≡ false → sendable v ≡ 0 → ⊥
    nothing (inl some) e s = omega (arith, some, empty s)
    nothing (inr c) e s = fin_due v t f c h.una_small h.nxt_small z (empty s) e

    by : data_due v t f ≡ false → (sendable v ≡ 0) ⊎ ((may_wait v ≡ true) × WaitsSmall v t f) → (data_due v t f ≡ true) ⊎ ((may_wait v ≡ true) × WaitsSmall v t f)
    by e (inl s) = absurd (nothing send e s)
    by e (inr w) = inr w

    go : (b : Bool) → data_due v t f ≡ b → (data_due v t f ≡ true) ⊎ ((may_wait v ≡ true) × WaitsSmall v t f)
    go true e = inl e
    go false e = by e (data_goes v t f e z)

-- and where a small window is not waited for, it is due
pub window_sends : (v : View) (t : Tuple) (f : Facts) → IsOrdered v → 0 < v.remote_win_len → flight v ≡ 0 → may_wait v ≡ false → HasToSend v → data_due v t f ≡ true
window_sends v t f h win z small send = by (window_wakes_or_waits v t f h win z send)
  where
    by : (data_due v t f ≡ true) ⊎ ((may_wait v ≡ true) × WaitsSmall v t f) → data_due v t f ≡ true
    by (inl e) = e
    by (inr w) = absurd (true≢false (sym w.0 ∙ small))

-- by smoltcp's rules only an acknowledgement has a moment, and no small window is waited for
pub smoltcp_held : (v : View) → v.rules ≡ rules.Smoltcp → held_poll v ≡ ack_poll v
smoltcp_held v e = ap (λ r. held_by r (ack_poll v) (small_poll ((flight v == 0) && not (sendable v == 0)) v.idle_at)) e

pub never_waits : (v : View) → v.rules ≡ rules.Smoltcp → may_wait v ≡ false
never_waits v e = ap (λ r. waits_alone r v.recovery v.idle_at v.remote_win_len v.largest_window) e

zero_or_not : (n : ℕ) → (n ≡ 0) ⊎ (0 < n)
zero_or_not zero = inl refl
zero_or_not (suc n) = inr (omega arith)

module _ (v : View) (t : Tuple) (f : Facts) (h : IsOrdered v) (w : Quiet v t f) where
  abbrev n : ℕ
  n = length v.tx_buffer.bytes

  -- nothing is held back without a moment
  module _ (held : held_poll v ≡ poll.Ingress) where
    none_sent : flight v ≡ 0 → sendable v ≡ 0
    none_sent z = by (unheld_by v v.rules z held) (data_goes v t f w.no_data z)
      where
        by : (sendable v ≡ 0) ⊎ (may_wait v ≡ false) → (sendable v ≡ 0) ⊎ ((may_wait v ≡ true) × WaitsSmall v t f) → sendable v ≡ 0
        by (inl s) d = s
        by (inr m) (inl s) = s
        by (inr m) (inr d) = absurd (true≢false (sym d.0 ∙ m))

    no_window : flight v ≡ 0 → 0 < n → v.remote_win_len ≡ 0
    no_window z some = omega (arith, z, some, none_sent z, congestion_leaves v h.congestion z)

    data_waits : 0 < n → WaitsForPeer (flight v) v.remote_win_len
    data_waits some = go (zero_or_not (flight v))
      where
        go : (flight v ≡ 0) ⊎ (0 < flight v) → WaitsForPeer (flight v) v.remote_win_len
        go (inl z) = inr (z, no_window z some)
        go (inr i) = inl i

    fin_waits : is_closing v.state ≡ true → WaitsForPeer (flight v) v.remote_win_len
    fin_waits c = go (zero_or_not (flight v)) (zero_or_not n)
      where
        go : (flight v ≡ 0) ⊎ (0 < flight v) → (n ≡ 0) ⊎ (0 < n) → WaitsForPeer (flight v) v.remote_win_len
        go (inl z) (inl e) = absurd (fin_due v t f c h.una_small h.nxt_small z e w.no_data)
        go (inl z) (inr i) = inr (z, no_window z i)
        go (inr i) e = inl i

  some_bytes : (m : ℕ) → not (m == 0) ≡ true → 0 < m
  some_bytes zero e = absurd cc
  some_bytes (suc m) e = omega arith

  -- the row of the state, with the idle timer
  row : (st : State) → v.state ≡ st → Row st (timer.Idle None) v.keep_alive (flight v) n
  row st is = subst (λ z. Row z (timer.Idle None) v.keep_alive (flight v) n) is (subst (λ z. Row v.state z v.keep_alive (flight v) n) w.timer h.row)

  pub no_moment : (st : State) → v.state ≡ st → v.tuple ≡ Some t → v.keep_alive ≡ None
  no_moment state.Closed is p = absurd (true≢false (sym (ap is_closed is) ∙ w.not_closed))
  no_moment state.Listen is p = absurd (none-some t (sym (subst (λ z. IsPeeredIn z v.tuple) is h.peered) ∙ p))
  no_moment state.SynSent is p = absurd (syn_due v t f (ap is_opening is) (row state.SynSent is).0 w.no_data)
  no_moment state.TimeWait is p = absurd (true≢false (sym (row state.TimeWait is).0))
  no_moment state.SynReceived is p = (row state.SynReceived is).0
  no_moment state.Established is p = (row state.Established is).0
  no_moment state.CloseWait is p = (row state.CloseWait is).0
  no_moment state.FinWait1 is p = (row state.FinWait1 is).0
  no_moment state.Closing is p = (row state.Closing is).0
  no_moment state.LastAck is p = (row state.LastAck is).0
  no_moment state.FinWait2 is p = (row state.FinWait2 is).0

  not_time_wait : v.state ≡ state.TimeWait → ⊥
  not_time_wait is = true≢false (sym (row state.TimeWait is).0)

  sleeps_in : (held : held_poll v ≡ poll.Ingress) (st : State) → v.state ≡ st → works_in st (is_some v.tuple) (n == 0) v.synack_paused ≡ true → SleepsIn st (flight v) v.remote_win_len
  sleeps_in held state.Closed is e = true≢false (sym (ap is_closed is) ∙ w.not_closed)
  sleeps_in held state.Listen is e = absurd cc
  sleeps_in held state.SynSent is e = syn_due v t f (ap is_opening is) (row state.SynSent is).0 w.no_data
  sleeps_in held state.TimeWait is e = true≢false (sym (row state.TimeWait is).0)
  sleeps_in held state.SynReceived is e = one (zero_or_not (flight v))
    where
      one : (flight v ≡ 0) ⊎ (0 < flight v) → flight v ≡ 1
      one (inl z) = absurd (syn_due v t f (ap is_opening is) z w.no_data)
      one (inr i) = omega (arith, i, (row state.SynReceived is).2)
  sleeps_in held state.Established is e = data_waits held (some_bytes n e)
  sleeps_in held state.CloseWait is e = data_waits held (some_bytes n e)
  sleeps_in held state.FinWait1 is e = fin_waits held (ap is_closing is)
  sleeps_in held state.Closing is e = fin_waits held (ap is_closing is)
  sleeps_in held state.LastAck is e = fin_waits held (ap is_closing is)
  sleeps_in held state.FinWait2 is e = absurd cc

-- ---- the laws

pub keep_alive_wakes : KeepAliveWakes
unfolding poll_moment
keep_alive_wakes v t d f r p k e =
    let w = waits v t f (subst (λ o. poll_moment_to o v f ≡ poll.Ingress) p e) in
    none-some d (sym (no_moment v t f (reached_ordered v r) w.quiet v.state refl p) ∙ k)

pub no_peer : (st : State) (peer empty paused : Bool) → (peer ≡ true → ⊥) → works_in st peer empty paused ≡ true → IsPeeredIn st None → ⊥
no_peer state.Closed peer empty paused nr e p = nr e
no_peer state.Listen peer empty paused nr e p = absurd cc
no_peer _ peer empty paused nr e p = absurd cc

-- with work to do, the peer owes something
owed : (st : State) (peer empty paused : Bool) → is_closed st ≡ false → (st ≡ state.TimeWait → ⊥) → works_in st peer empty paused ≡ true → owes_ack st empty ≡ true
owed state.SynSent peer empty paused c t e = refl
owed state.SynReceived peer empty paused c t e = refl
owed state.Established peer empty paused c t e = e
owed state.CloseWait peer empty paused c t e = e
owed state.FinWait1 peer empty paused c t e = refl
owed state.Closing peer empty paused c t e = refl
owed state.LastAck peer empty paused c t e = refl
owed state.TimeWait peer empty paused c t e = absurd (t refl)
owed state.Closed peer empty paused c t e = absurd cc
owed state.Listen peer empty paused c t e = absurd cc
owed state.FinWait2 peer empty paused c t e = absurd cc

-- so that the user timeout runs
runs_by : (r : Rules) (st : State) (peer empty paused : Bool) (d keep : Option Duration) → is_closed st ≡ false → (st ≡ state.TimeWait → ⊥) → works_in st peer empty paused ≡ true → timeout_by r st empty d keep ≡ d
unfolding timeout_by
runs_by rules.Smoltcp st peer empty paused d keep c t e = refl
runs_by rules.Rfc st peer empty paused d keep c t e = ap (λ b. if b then d else (if may_be_idle st then idle_timeout d keep else None)) (owed st peer empty paused c t e)

pub sleeps_only_so : SleepsOnlySo
unfolding has_work poll_moment
sleeps_only_so v f r work e = go v.tuple refl
  where
    h : IsOrdered v
    h = reached_ordered v r

    go : (o : Option Tuple) → v.tuple ≡ o → Sleeps v
    go None p = absurd (no_peer v.state (is_some v.tuple) (length v.tx_buffer.bytes == 0) v.synack_paused (λ q. true≢false (sym q ∙ ap is_some p)) work (subst (IsPeeredIn v.state) p h.peered))
    go (Some t) p =
        let w = waits v t f (subst (λ o. poll_moment_to o v f ≡ poll.Ingress) p e) in
        record {
          timer = w.quiet.timer;
          timeout = sym (runs_by v.rules v.state (is_some v.tuple) (length v.tx_buffer.bytes == 0) v.synack_paused v.timeout v.keep_alive w.quiet.not_closed (not_time_wait v t f h w.quiet) work) ∙ w.timeout;
          keep_alive = no_moment v t f h w.quiet v.state refl p;
          no_ack = w.no_ack;
          waits = sleeps_in v t f h w.quiet w.held v.state refl work;
        }

pub no_work_no_bytes : NoWorkNoBytes
unfolding has_work
no_work_no_bytes v r open_still e = go v.state refl e
  where
    h : IsOrdered v
    h = reached_ordered v r

    own : (st : State) → v.state ≡ st → Row st v.timer v.keep_alive (flight v) (length v.tx_buffer.bytes)
    own st is = subst (λ z. Row z v.timer v.keep_alive (flight v) (length v.tx_buffer.bytes)) is h.row

    none_left : (m : ℕ) → not (m == 0) ≡ false → m ≡ 0
    none_left m e = by (m == 0) refl e
      where
        by : (b : Bool) → (m == 0) ≡ b → not b ≡ false → m ≡ 0
        by true i e = eqb-true m 0 i
        by false i e = absurd (true≢false e)

    go : (st : State) → v.state ≡ st → works_in st (is_some v.tuple) (length v.tx_buffer.bytes == 0) v.synack_paused ≡ false → length v.tx_buffer.bytes ≡ 0
    go state.Closed is e = absurd (open_still is)
    go state.Listen is e = own state.Listen is
    go state.SynReceived is e = (own state.SynReceived is).1
    go state.FinWait2 is e = (own state.FinWait2 is).1
    go state.Established is e = none_left (length v.tx_buffer.bytes) e
    go state.CloseWait is e = none_left (length v.tx_buffer.bytes) e
    go _ is e = absurd cc
