-- What a segment tells a socket that waits for its peer.
use Rattle.std.proofs.Common.{◌≡◌, ℕ, ◌+◌, ◌-◌, ◌<◌, ◌≤◌, ◌^◌, ◌*◌, ◌⊎◌, inl, inr, Bool, true, false, true≢false, refl, sym, ap, subst, ◌∙◌, List, length, Option, Some, arith}
use Rattle.std.specs.Prelude.{if◌then◌else◌, ◌==◌}
use Rattle.std.proofs.lemmas.Bool.{and_parts, eqb-true}
use Rattle.std.proofs.Math.Nat.{mul-pos}
use Rattle.std.proofs.lemmas.Nat.{pow_pos}
use Rattle.net_base.specs.declared.time.Duration.{Duration}
use Rattle.control_wire.specs.Seq.{seq_sub}
use Rattle.sock_core.specs.Facts.{Facts}
use Rattle.sock_core.specs.Seq.{is_before, is_not_after}
use Rattle.ip_wire.specs.declared.repr.IpRepr.{IpRepr}
use Rattle.net_base.specs.declared.time.Instant.{Instant}
use Rattle.control_wire.specs.Segment.{Segment}
use Rattle.control_wire.specs.declared.seq_number.TcpSeqNumber.{TcpSeqNumber}
use Rattle.control_wire.specs.declared.tcp.TcpControl.{TcpControl}
use Rattle.control_wire.specs.declared.tcp.TcpControl.TheVariants as control
use Rattle.sock_tcp.specs.Arrival.{arrival}
use Rattle.sock_tcp.specs.Acked.{acked_at, acked_of, is_fin_acked}
use Rattle.sock_tcp.specs.Advance.{advance_in, advanced, counted_control, moved_to, nothing_new_by, waiting}
use Rattle.sock_tcp.specs.Due.{data_due, flight, may_wait}
use Rattle.sock_tcp.specs.Process.{Outcome, challenged, close_restarted, outside, bytes_taken, tuple_of, after_advance, after_table, processed_inside, has_window, tested_by, by_verdict, closed_then, processed, processed_by, told_then}
use Rattle.sock_tcp.specs.Replies.{ack_kept}
use Rattle.sock_tcp.specs.Steps.{scale_of, window_of, window_taken, released, is_duplicate, is_last_ack, is_window_changed, duplicate_counted, ack_counted, una_advanced, acknowledged, timestamp_taken, timer_set, heard, joined, ack_delayed}
use Rattle.sock_tcp.specs.Rfc.Checks.{verdict_by}
use Rattle.sock_tcp.specs.View.{View}
use Rattle.sock_tcp.specs.Window.{accepted_window, receive_window, is_inside, cut_of, cut_bytes}
use Rattle.sock_tcp.specs.declared.acked.Acked.{Acked}
use Rattle.sock_tcp.specs.declared.state.State.{State}
use Rattle.sock_tcp.specs.declared.state.State.TheVariants as state
use Rattle.sock_tcp.specs.declared.timer.Timer.{Timer}
use Rattle.sock_tcp.specs.declared.timer.Timer.TheVariants as timer
use Rattle.sock_tcp.specs.declared.tuple.Tuple.{Tuple}
use Rattle.sock_tcp.specs.declared.verdict.Verdict.{Verdict}
use Rattle.sock_tcp.specs.declared.verdict.Verdict.TheVariants as verdicts
use Rattle.sock_tcp.specs.declared.window.Cut.{Cut}
use Rattle.sock_tcp.specs.declared.window.Window.{Window}
use Rattle.sock_tcp.proofs.Windows.{far, not_after}
use Rattle.tcp_laws.specs.Polling.{IsReached}
use Rattle.tcp_laws.specs.SocketRun.{IsNumbered}
use Rattle.tcp_laws.specs.Waking.{AcksNothing, GoesOrWaits, HeardNothing, IsThirdDuplicate, WaitsSmall, LastAckHearsNothing, Resends, TellsWindow, ThirdDuplicateWakes, WindowWakes, hears_window}
use Rattle.tcp_laws.proofs.Ordered.{IsOrdered, Row}
use Rattle.tcp_laws.proofs.Kept.{KeptByAnswers, bytes_kept, challenged_kept, heard_kept, outside_kept}
use Rattle.tcp_laws.proofs.OrderedCalls.{reached_ordered}
use Rattle.tcp_laws.proofs.OrderedSegments.{process_ordered}
use Rattle.tcp_laws.proofs.Ruled.{process_ruled}
use Rattle.tcp_laws.proofs.Sleeping.{never_waits, window_wakes_or_waits}
use Rattle.sock_tcp.specs.Rfc.Recovery.{before_of, echo_known, recovered, recovered_by}
use Rattle.sock_tcp.specs.Rfc.Windows.{told_by, windowed}
use Rattle.sock_tcp.specs.Timers.{idle_from}
use Rattle.sock_tcp.specs.declared.recovery.Before.{Before}
use Rattle.sock_tcp.specs.declared.rules.Rules.{Rules}
use Rattle.sock_tcp.specs.declared.rules.Rules.TheVariants as rules
use Rattle.tcp_laws.proofs.Heeding.{later_stays}
use Rattle.sock_tcp.proofs.Late.{closed_as}
use Rattle.sock_tcp.proofs.Recovering.{known_as, recovered_as, timer_as}

unheard : (v : View) → HeardNothing v v
unheard v = record { last = refl; timeout = refl; window = refl; timer = refl; queue = refl; una = refl; nxt = refl }

module _ (now : Instant) (s : Segment) where
  answers_unheard : (v : View) → KeptByAnswers (HeardNothing v)
  unfolding ack_kept
  answers_unheard v = record {
    challenges = λ w at h. record { last = h.last; timeout = h.timeout; window = h.window; timer = h.timer; queue = h.queue; una = h.una; nxt = h.nxt };
    acks = λ w h. record { last = h.last; timeout = h.timeout; window = h.window; timer = h.timer; queue = h.queue; una = h.una; nxt = h.nxt };
  }

  challenged_unheard : (w : View) → HeardNothing w (challenged w now s).view
  challenged_unheard w = challenged_kept (HeardNothing w) now s (answers_unheard w) w (unheard w)

  bytes_unheard : (w : View) (o : ℕ) (bs : List ℕ) → HeardNothing w (bytes_taken w now o bs s).view
  unfolding joined ack_delayed
  bytes_unheard w o bs = bytes_kept (HeardNothing w) now s (answers_unheard w) (λ u o bs h. record { last = h.last; timeout = h.timeout; window = h.window; timer = h.timer; queue = h.queue; una = h.una; nxt = h.nxt }) w o bs (unheard w)

  -- ---- LAST-ACK

  module _ (v : View) (is : v.state ≡ state.LastAck) where
    abbrev Unheard : View → Type 0
    Unheard w = HeardNothing v w × (w.state ≡ state.LastAck)

    answers_in_last_ack : KeptByAnswers Unheard
    unfolding ack_kept
    answers_in_last_ack = record {
      challenges = λ w at h. (record { last = h.0.last; timeout = h.0.timeout; window = h.0.window; timer = h.0.timer; queue = h.0.queue; una = h.0.una; nxt = h.0.nxt }, h.1);
      acks = λ w h. (record { last = h.0.last; timeout = h.0.timeout; window = h.0.window; timer = h.0.timer; queue = h.0.queue; una = h.0.una; nxt = h.0.nxt }, h.1);
    }

    restarted_unheard : (w : View) → Unheard w → Unheard (close_restarted w now)
    unfolding close_restarted
    restarted_unheard w h = (record { last = h.0.last; timeout = h.0.timeout; window = h.0.window; timer = rw h.1 h.0.timer; queue = h.0.queue; una = h.0.una; nxt = h.0.nxt }, h.1)

    outside_unheard : HeardNothing v (outside v now s).view
    outside_unheard = (outside_kept Unheard now s answers_in_last_ack restarted_unheard v (unheard v, is)).0

    -- the rows of LAST-ACK, where nothing is acknowledged
    row_unheard : (u : View) → u.rules ≡ rules.Smoltcp → (c : TcpControl) (t : Tuple) (word : ℕ) (a : Acked) (o : ℕ) (bs : List ℕ) → HeardNothing v u → HeardNothing v (after_table (advance_in state.LastAck c false u (arrival now t word s) 0) (arrival now t word s) a o bs).view
    row_unheard u smoltcp control.None t word a o bs h =
        let k = challenged_unheard u in
        subst (λ r. HeardNothing v (after_advance (nothing_new_by r) u (arrival now t word s) a o bs).view) (sym smoltcp) (record { last = k.last ∙ h.last; timeout = k.timeout ∙ h.timeout; window = k.window ∙ h.window; timer = k.timer ∙ h.timer; queue = k.queue ∙ h.queue; una = k.una ∙ h.una; nxt = k.nxt ∙ h.nxt })
    row_unheard u smoltcp control.Rst t word a o bs h = record { last = h.last; timeout = h.timeout; window = h.window; timer = h.timer; queue = h.queue; una = h.una; nxt = h.nxt }
    row_unheard u smoltcp control.Psh t word a o bs h = h
    row_unheard u smoltcp control.Syn t word a o bs h = h
    row_unheard u smoltcp control.Fin t word a o bs h = h

  -- ---- a window

  heard_window : (u : View) (a : Acked) → (heard u now a s).remote_win_len ≡ window_of s.control s.window_len u.remote_win_scale
  unfolding window_taken released timestamp_taken timer_set duplicate_counted ack_counted una_advanced
  heard_window u a = heard_kept (λ w. w.remote_win_len ≡ window_of s.control s.window_len u.remote_win_scale) now s u a refl (λ k. refl) (λ k. refl)

  -- the timer, of a third duplicate in a window
  heard_third : (u : View) (a : Acked) (k : TcpSeqNumber) → s.ack_number ≡ Some k → a.all ≡ false → a.len ≡ 0 → u.local_rx_dup_acks ≡ 2 → is_duplicate u k (length s.payload) (is_window_changed u s.control s.window_len) ≡ true
      → (window_of s.control s.window_len u.remote_win_scale == 0) ≡ false → (heard u now a s).timer ≡ timer.FastRetransmit
  unfolding heard window_taken released timestamp_taken timer_set acknowledged duplicate_counted ack_counted una_advanced
  heard_third u a k e all none two dup win = rw (e, dup, two, all, none, win) refl

-- ---- what is done of loss behind the tables

-- a fast retransmission that the tables call for
fast_or_timed : (b : Before) (w : View) (now : Instant) → w.timer ≡ timer.FastRetransmit → Resends rules.Rfc (recovered b w now).timer
unfolding recovered
fast_or_timed b w now e = timer_as (Resends rules.Rfc) b (echo_known b w now) now (inl known) (inl refl) (λ at i. inr refl) (inr refl) (inr refl) no_probe (λ at delay h. no_sooner at _ delay h) (inr refl)
  where
    known : (echo_known b w now).timer ≡ timer.FastRetransmit
    known = known_as (λ t. t ≡ timer.FastRetransmit) b w now (λ at i. let no : timer.Retransmit at ≡ timer.FastRetransmit = i in absurd cc) e

    no_sooner : (at next : Instant) (delay : Duration) → Resends rules.Rfc (timer.ZeroWindowProbe at delay) → Resends rules.Rfc (timer.ZeroWindowProbe next delay)
    no_sooner at next delay (inl e) = let no : timer.ZeroWindowProbe at delay ≡ timer.FastRetransmit = e in absurd cc
    no_sooner at next delay (inr e) = let no : false ≡ true = e in absurd cc

    no_probe : (at : Instant) (delay : Duration) → (echo_known b w now).timer ≡ timer.ZeroWindowProbe at delay → Resends rules.Rfc (idle_from now w.keep_alive)
    no_probe at delay i = let no : timer.FastRetransmit ≡ timer.ZeroWindowProbe at delay = sym known ∙ i in absurd cc

fast_resends : (r : Rules) (v : View) (now : Instant) (s : Segment) (o : Outcome) → o.view.timer ≡ timer.FastRetransmit → Resends r (closed_then r (recovered_by r v now s o)).view.timer
fast_resends rules.Smoltcp v now s o e = e
fast_resends rules.Rfc v now s o e = fast_or_timed (before_of v s) o.view now e

-- ---- a segment that passes and lies in the window

scaled : (n k : ℕ) → 0 < n → 0 < n * 2 ^ k
scaled n k h = mul-pos h (pow_pos k)

some_window : (c : TcpControl) (n : ℕ) (scale : Option ℕ) → 0 < n → 0 < window_of c n scale
some_window control.Syn n scale h = h
some_window control.None n scale h = scaled n (scale_of scale) h
some_window control.Psh n scale h = scaled n (scale_of scale) h
some_window control.Fin n scale h = scaled n (scale_of scale) h
some_window control.Rst n scale h = scaled n (scale_of scale) h

module _ (r : Rules) (v : View) (now : Instant) (word : ℕ) (ip : IpRepr) (s : Segment) where
  abbrev u : View
  u = record v { local_rx_last_seq = Some s.seq_number }

  abbrev a : Acked
  a = acked_of v s.control s.ack_number

  abbrev c : TcpControl
  c = counted_control s.control (accepted_window r v) s.seq_number (length s.payload)

  abbrev cut : Cut
  cut = cut_of (accepted_window r v) s.seq_number (length s.payload)

  abbrev inside_as : State → TcpControl → Outcome
  inside_as st b = after_table (advance_in st b a.fin u (arrival now (tuple_of ip s) word s) a.len) (arrival now (tuple_of ip s) word s) a cut.offset (cut_bytes cut s.payload)

  -- behind the test of the window
  in_window : has_window v.state ≡ true → is_inside (accepted_window r v) s.seq_number (length s.payload) ≡ true → by_verdict r verdicts.Pass v (arrival now (tuple_of ip s) word s) ≡ told_then r v s (closed_then r (recovered_by r v now s (inside_as v.state c)))
  unfolding processed_inside advanced
  in_window has i = rw (has, i) refl

  -- ---- LAST-ACK

  last_ack_by : v.rules ≡ rules.Smoltcp → v.state ≡ state.LastAck → AcksNothing v s → (b : Bool) → HeardNothing v (if b then processed_inside u (arrival now (tuple_of ip s) word s) c cut.offset (cut_bytes cut s.payload) else outside v now s).view
  unfolding processed_inside advanced
  last_ack_by smoltcp is h true = subst (λ st. HeardNothing v (after_table (advance_in st c a.fin u (arrival now (tuple_of ip s) word s) a.len) (arrival now (tuple_of ip s) word s) a cut.offset (cut_bytes cut s.payload)).view) (sym is) (subst (λ z. HeardNothing v (after_table (advance_in state.LastAck c z u (arrival now (tuple_of ip s) word s) a.len) (arrival now (tuple_of ip s) word s) a cut.offset (cut_bytes cut s.payload)).view) (sym h.fin) (subst (λ n. HeardNothing v (after_table (advance_in state.LastAck c false u (arrival now (tuple_of ip s) word s) n) (arrival now (tuple_of ip s) word s) a cut.offset (cut_bytes cut s.payload)).view) (sym h.bytes) (row_unheard now s v is u smoltcp c (tuple_of ip s) word a cut.offset (cut_bytes cut s.payload) (record { last = refl; timeout = refl; window = refl; timer = refl; queue = refl; una = refl; nxt = refl }))))
  last_ack_by smoltcp is h false = outside_unheard now s v is

  -- ---- the states that hear a window

  has : (st : State) → hears_window st ≡ true → has_window st ≡ true
  has state.Established h = refl
  has state.FinWait1 h = refl
  has state.CloseWait h = refl
  has state.Closing h = refl
  has _ h = absurd cc

  abbrev Tells : Outcome → Type 0
  Tells x = x.view.remote_win_len ≡ window_of s.control s.window_len v.remote_win_scale

  taken_tells : (x : View) → x.remote_win_scale ≡ v.remote_win_scale → Tells (bytes_taken (heard x now a s) now cut.offset (cut_bytes cut s.payload) s)
  taken_tells x e = (bytes_unheard now s (heard x now a s) cut.offset (cut_bytes cut s.payload)).window ∙ heard_window now s x a ∙ ap (window_of s.control s.window_len) e

  row_tells : (st : State) (fin : Bool) → hears_window st ≡ true → Tells (after_table (advance_in st control.None fin u (arrival now (tuple_of ip s) word s) a.len) (arrival now (tuple_of ip s) word s) a cut.offset (cut_bytes cut s.payload))
  row_tells state.Established fin h = taken_tells u refl
  row_tells state.CloseWait fin h = taken_tells u refl
  row_tells state.FinWait1 true h = taken_tells (moved_to state.FinWait2 u) refl
  row_tells state.FinWait1 false h = taken_tells u refl
  row_tells state.Closing true h = taken_tells (waiting now u) refl
  row_tells state.Closing false h = taken_tells u refl
  row_tells _ fin h = absurd cc

  recovered_tells : (o : Outcome) → Tells o → Tells (record { view = recovered (before_of v s) o.view now; reply = o.reply })
  unfolding recovered
  recovered_tells o h = h

  tells_inside : hears_window v.state ≡ true → is_inside (accepted_window r v) s.seq_number (length s.payload) ≡ true → c ≡ control.None → Tells (by_verdict r verdicts.Pass v (arrival now (tuple_of ip s) word s))
  tells_inside hears inside no_bit = let t : Tells (inside_as v.state c) = rw no_bit (row_tells v.state a.fin hears) in let j = recovered_as Tells r v now s (inside_as v.state c) t (recovered_tells (inside_as v.state c) t) in subst Tells (sym (in_window (has v.state hears) inside)) (closed_as Tells r (recovered_by r v now s (inside_as v.state c)) j j)

  abbrev Fast : Outcome → Type 0
  Fast x = x.view.timer ≡ timer.FastRetransmit

  -- nothing is acknowledged, so no state changes
  row_fast : (st : State) → hears_window st ≡ true → (heard u now a s).timer ≡ timer.FastRetransmit → Fast (after_table (advance_in st control.None false u (arrival now (tuple_of ip s) word s) a.len) (arrival now (tuple_of ip s) word s) a cut.offset (cut_bytes cut s.payload))
  row_fast state.Established h e = (bytes_unheard now s (heard u now a s) cut.offset (cut_bytes cut s.payload)).timer ∙ e
  row_fast state.CloseWait h e = (bytes_unheard now s (heard u now a s) cut.offset (cut_bytes cut s.payload)).timer ∙ e
  row_fast state.FinWait1 h e = (bytes_unheard now s (heard u now a s) cut.offset (cut_bytes cut s.payload)).timer ∙ e
  row_fast state.Closing h e = (bytes_unheard now s (heard u now a s) cut.offset (cut_bytes cut s.payload)).timer ∙ e
  row_fast _ h e = absurd cc

not_listening : (st : State) → hears_window st ≡ true → st ≡ state.Listen → ⊥
not_listening state.Listen h e = absurd cc
not_listening state.Established h e = absurd cc
not_listening state.FinWait1 h e = absurd cc
not_listening state.CloseWait h e = absurd cc
not_listening state.Closing h e = absurd cc
not_listening _ h e = absurd cc

-- ---- the laws

last_ack : (v : View) (now : Instant) (word : ℕ) (ip : IpRepr) (s : Segment) → v.rules ≡ rules.Smoltcp → v.state ≡ state.LastAck → AcksNothing v s → (x : Verdict) → HeardNothing v (by_verdict rules.Smoltcp x v (arrival now (tuple_of ip s) word s)).view
last_ack v now word ip s smoltcp is h verdicts.Drop = unheard v
last_ack v now word ip s smoltcp is h verdicts.Reset = unheard v
last_ack v now word ip s smoltcp is h verdicts.Challenge = challenged_unheard now s v
last_ack v now word ip s smoltcp is h verdicts.Pass = subst (λ st. HeardNothing v (tested_by rules.Smoltcp (has_window st) v (arrival now (tuple_of ip s) word s)).view) (sym is) (last_ack_by rules.Smoltcp v now word ip s smoltcp is h (is_inside (receive_window v) s.seq_number (length s.payload)))

pub last_ack_hears_nothing : LastAckHearsNothing
unfolding processed_by
last_ack_hears_nothing v now word ip s smoltcp is h = subst (λ r. HeardNothing v (processed_by r v now word ip s).view) (sym smoltcp) (last_ack v now word ip s smoltcp is h (verdict_by rules.Smoltcp v now s))

-- a segment that passes, with the window that it counts as telling
passed_as : (r : Rules) (v : View) (now : Instant) (word : ℕ) (ip : IpRepr) (s : Segment) → verdict_by r v now s ≡ verdicts.Pass → processed_by r v now word ip s ≡ by_verdict r verdicts.Pass v (arrival now (tuple_of ip s) word (windowed r v s))
unfolding processed_by
passed_as r v now word ip s p = ap (λ x. by_verdict r x v (arrival now (tuple_of ip s) word (windowed r v s))) p

pub tells : (v : View) (now : Instant) (word : ℕ) (ip : IpRepr) (s : Segment) → TellsWindow v now s → (processed v now word ip s).view.remote_win_len ≡ window_of s.control (told_by v.rules v s) v.remote_win_scale
tells v now word ip s h = ap (λ (o : Outcome). o.view.remote_win_len) (passed_as v.rules v now word ip s h.passes) ∙ tells_inside v.rules v now word ip (windowed v.rules v s) h.hears h.inside h.no_bit

goes_or_waits : (r : Rules) (w : View) (t : Tuple) (f : Facts) → w.rules ≡ r → (data_due w t f ≡ true) ⊎ ((may_wait w ≡ true) × WaitsSmall w t f) → GoesOrWaits r w t f
goes_or_waits rules.Smoltcp w t f e (inl d) = d
goes_or_waits rules.Smoltcp w t f e (inr s) = absurd (true≢false (sym s.0 ∙ never_waits w e))
goes_or_waits rules.Rfc w t f e (inl d) = inl d
goes_or_waits rules.Rfc w t f e (inr s) = inr s.1

pub window_wakes : WindowWakes
window_wakes v now word ip s t f r small numbered h z send =
    let w : View = (processed v now word ip s).view in
    let e : w.remote_win_len ≡ window_of s.control (told_by v.rules v s) v.remote_win_scale = tells v now word ip s h in
    let o : IsOrdered w = process_ordered now word ip s small numbered.ack_number v.rules v (reached_ordered v r) (λ is. absurd (not_listening v.state h.hears is)) in
    let ruled : w.rules ≡ v.rules = process_ruled v.rules v.rules v now word ip s refl in
    goes_or_waits v.rules w t f ruled (window_wakes_or_waits w t f o (subst (λ n. 0 < n) (sym e) (some_window s.control (told_by v.rules v s) v.remote_win_scale h.window)) z send)

-- ---- the third duplicate

not_rst : (c : TcpControl) (w : Window) (number : TcpSeqNumber) (n : ℕ) → counted_control c w number n ≡ control.None → c ≡ control.Rst → ⊥
unfolding counted_control
not_rst control.Rst w number n e i = absurd cc
not_rst control.None w number n e i = absurd cc
not_rst control.Psh w number n e i = absurd cc
not_rst control.Syn w number n e i = absurd cc
not_rst control.Fin w number n e i = absurd cc

all_sent : (st : State) (c : TcpControl) (k una nxt : TcpSeqNumber) (q : ℕ) → is_not_after nxt k ≡ false → (acked_at st c (Some k) una nxt q).all ≡ false
unfolding acked_at
all_sent st control.Rst k una nxt q e = refl
all_sent st _ k una nxt q e = e

bytes_alone : (b : Bool) (n : ℕ) → b ≡ false → (if b then n - 1 else n) ≡ 0 → n ≡ 0
bytes_alone true n f l = absurd cc
bytes_alone false n f l = l

-- what covers nothing acknowledges SND.UNA
at_una : (st : State) (c : TcpControl) (k una nxt : TcpSeqNumber) (q : ℕ) → hears_window st ≡ true → (c ≡ control.Rst → ⊥) → (acked_at st c (Some k) una nxt q).fin ≡ false → (acked_at st c (Some k) una nxt q).len ≡ 0 → seq_sub k una ≡ 0
unfolding acked_at
at_una _ control.Rst k una nxt q h nr f l = absurd (nr refl)
at_una state.Established _ k una nxt q h nr f l = omega (arith, bytes_alone (is_fin_acked state.Established q (seq_sub k una - 0)) (seq_sub k una - 0) f l)
at_una state.FinWait1 _ k una nxt q h nr f l = omega (arith, bytes_alone (is_fin_acked state.FinWait1 q (seq_sub k una - 0)) (seq_sub k una - 0) f l)
at_una state.CloseWait _ k una nxt q h nr f l = omega (arith, bytes_alone (is_fin_acked state.CloseWait q (seq_sub k una - 0)) (seq_sub k una - 0) f l)
at_una state.Closing _ k una nxt q h nr f l = omega (arith, bytes_alone (is_fin_acked state.Closing q (seq_sub k una - 0)) (seq_sub k una - 0) f l)
at_una _ _ k una nxt q h nr f l = absurd cc

near : (st : State) (t : Timer) (keep : Option Duration) (i n : ℕ) → hears_window st ≡ true → Row st t keep i n → i ≤ n + 1
near state.Established t keep i n h r = omega (arith, r.1)
near state.FinWait1 t keep i n h r = r.1
near state.CloseWait t keep i n h r = omega (arith, r.1)
near state.Closing t keep i n h r = r.1
near _ t keep i n h r = absurd cc

-- the number that is acknowledged lies before SND.NXT, and not after it too
not_all : (nxt k una : TcpSeqNumber) → nxt.0 < 2 ^ 32 → k.0 < 2 ^ 32 → una.0 < 2 ^ 32 → seq_sub nxt una < 2 ^ 31 → seq_sub k una ≡ 0 → is_before k nxt ≡ true → is_not_after nxt k ≡ false
not_all nxt k una hn hk hu fn z b = go (is_not_after nxt k) refl
  where
    either : (2 ^ 31 ≤ seq_sub nxt k) ⊎ (nxt.0 ≡ k.0) → ⊥
    either (inl i) = omega (arith, i, hn, hk, hu, fn, z)
    either (inr i) = omega (arith, i, far k nxt b, hn, hk)

    go : (t : Bool) → is_not_after nxt k ≡ t → is_not_after nxt k ≡ false
    go false e = e
    go true e = absurd (either (not_after nxt k e))

pub not_zero : (n : ℕ) → 0 < n → (n == 0) ≡ false
not_zero n h = go (n == 0) refl
  where
    go : (b : Bool) → (n == 0) ≡ b → (n == 0) ≡ false
    go true e = let z : n ≡ 0 = eqb-true n 0 e in absurd (omega (arith, z, h))
    go false e = e

-- SND.UNA does not lie before itself
not_behind : (k una : TcpSeqNumber) → k.0 < 2 ^ 32 → una.0 < 2 ^ 32 → seq_sub k una ≡ 0 → is_before k una ≡ false
not_behind k una hk hu z = go (is_before k una) refl
  where
    go : (t : Bool) → is_before k una ≡ t → is_before k una ≡ false
    go false e = e
    go true e = absurd (omega (arith, far k una e, hk, hu, z))

-- the segment passes, and lies in the window: what the rows of its state do, and what follows
abbrev pub inside_of : View → Instant → ℕ → IpRepr → Segment → Outcome
inside_of v now word ip s = inside_as v.rules v now word ip (windowed v.rules v s) v.state (c v.rules v now word ip (windowed v.rules v s))

pub passes_inside : (v : View) (now : Instant) (word : ℕ) (ip : IpRepr) (s : Segment) → TellsWindow v now s → (processed v now word ip s).view ≡ (closed_then v.rules (recovered_by v.rules v now (windowed v.rules v s) (inside_of v now word ip s))).view
passes_inside v now word ip s h = ap (λ (o : Outcome). o.view) (passed_as v.rules v now word ip s h.passes) ∙ ap (λ (o : Outcome). o.view) (in_window v.rules v now word ip (windowed v.rules v s) (has v.rules v now word ip (windowed v.rules v s) v.state h.hears) h.inside)

pub third_is_fast : (v : View) (now : Instant) (word : ℕ) (ip : IpRepr) (s : Segment) (k : TcpSeqNumber) → IsReached v → IsNumbered s → TellsWindow v now s → IsThirdDuplicate v s k → (inside_of v now word ip s).view.timer ≡ timer.FastRetransmit
unfolding acked_at
third_is_fast v now word ip s k r numbered h d =
    let o : IsOrdered v = reached_ordered v r in
    let e : acked_of v s.control s.ack_number ≡ acked_of v s.control (Some k) = ap (acked_of v s.control) d.number in
    let nr = not_rst s.control (accepted_window v.rules v) s.seq_number (length s.payload) h.no_bit in
    let z : seq_sub k v.local_seq_no ≡ 0 = at_una v.state s.control k v.local_seq_no v.remote_last_seq (length v.tx_buffer.bytes) h.hears nr (ap (λ (x : Acked). x.fin) (sym e) ∙ d.nothing.fin) (ap (λ (x : Acked). x.len) (sym e) ∙ d.nothing.bytes) in
    let i : flight v ≤ length v.tx_buffer.bytes + 1 = near v.state v.timer v.keep_alive (flight v) (length v.tx_buffer.bytes) h.hears o.row in
    let b = (and_parts (is_before k v.remote_last_seq) _ (and_parts (is_last_ack v.local_rx_last_ack k) _ d.duplicate).1).0 in
    let n = not_all v.remote_last_seq k v.local_seq_no o.nxt_small (numbered.ack_number k d.number) o.una_small (omega (arith, i, o.room)) z b in
    let all : (acked_of v s.control s.ack_number).all ≡ false = ap (λ (x : Acked). x.all) e ∙ all_sent v.state s.control k v.local_seq_no v.remote_last_seq (length v.tx_buffer.bytes) n in
    let y : Segment = windowed v.rules v s in
    let same : y.ack_number ≡ s.ack_number = later_stays v.rules v s k d.number (not_behind k v.local_seq_no (numbered.ack_number k d.number) o.una_small z) in
    let of_y = ap (acked_of v s.control) same in
    let timer = heard_third now y (u v.rules v now word ip y) (a v.rules v now word ip y) k (same ∙ d.number) (ap (λ (x : Acked). x.all) of_y ∙ all) (ap (λ (x : Acked). x.len) of_y ∙ d.nothing.bytes) d.two_before d.duplicate (not_zero _ (some_window s.control (told_by v.rules v s) v.remote_win_scale h.window)) in
    let fast : Fast v.rules v now word ip y (inside_as v.rules v now word ip y v.state (c v.rules v now word ip y)) = rw (h.no_bit, ap (λ (x : Acked). x.fin) of_y ∙ d.nothing.fin) (row_fast v.rules v now word ip y v.state h.hears timer) in
    fast

pub third_duplicate_wakes : ThirdDuplicateWakes
third_duplicate_wakes v now word ip s k r numbered h d = subst (λ (w : View). Resends v.rules w.timer) (sym (passes_inside v now word ip s h)) (fast_resends v.rules v now (windowed v.rules v s) (inside_of v now word ip s) (third_is_fast v now word ip s k r numbered h d))
