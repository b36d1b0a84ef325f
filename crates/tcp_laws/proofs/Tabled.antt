-- A segment by the RFCs' rules: what the tables leave, and then what is done of loss, keeps a timer running.
use Rattle.std.proofs.Common.{◌≡◌, ℕ, Bool, true, false, true≢false, not, subst, ◌&&◌, ◌||◌, refl, sym, ap, ◌∙◌, List, [], length, Option, Some, None, arith}
use Rattle.std.specs.Prelude.{if◌then◌else◌, ◌==◌, nat_le}
use Rattle.std.proofs.lemmas.Bool.{eq-eqb, eqb-true, leb-true}
use Rattle.ip_wire.specs.declared.repr.IpRepr.{IpRepr}
use Rattle.net_base.specs.declared.time.Duration.{Duration}
use Rattle.net_base.specs.declared.time.Instant.{Instant}
use Rattle.control_wire.specs.Segment.{Segment}
use Rattle.control_wire.specs.declared.tcp.TcpControl.{TcpControl}
use Rattle.control_wire.specs.declared.tcp.TcpControl.TheVariants as control
use Rattle.sock_tcp.specs.Acked.{acked_of}
use Rattle.sock_tcp.specs.Advance.{advance_in, advanced, counted_control, fallen_back, fin_counted, nothing_new_by, options_taken, syn_answered, syn_received}
use Rattle.sock_tcp.specs.Arrival.{Arrival, arrival}
use Rattle.sock_tcp.specs.Due.{flight}
use Rattle.sock_tcp.specs.Closing.{closed_from, late_from}
use Rattle.sock_tcp.specs.Process.{Outcome, after_advance, by_verdict, close_restarted, closed_then, cut_inside, has_window, processed_by, processed_inside, tested_by, timer_restarted, tuple_of}
use Rattle.sock_tcp.specs.Replies.{ack_kept}
use Rattle.sock_tcp.specs.Rfc.Checks.{verdict_by}
use Rattle.sock_tcp.specs.Rfc.Recovery.{before_of, echo_known, gone_on_from, has_timer, heard_for, is_called, is_later_partial, kept_if, left_running, probe_from_last, probe_soonest, recovered, recovered_by, reordering_after, running, tells_controller, waited_for, waits_late, waits_tail}
use Rattle.sock_tcp.specs.Rfc.Reordering.{late_set, late_wait}
use Rattle.sock_tcp.specs.Rfc.Refused.{refused}
use Rattle.sock_tcp.specs.Rfc.TailLoss.{is_alone, tail_waits}
use Rattle.sock_tcp.specs.Rfc.Windows.{windowed}
use Rattle.sock_tcp.specs.Steps.{ack_counted, ack_delayed, ack_heard, begins_probe, duplicate_counted, heard, joined, probe_ended, probe_set, released, timer_acked, timer_set, timestamp_taken, una_advanced, window_taken}
use Rattle.sock_tcp.specs.Timers.{idle_from, probe_from, retransmit_from}
use Rattle.sock_tcp.proofs.Late.{closed_as}
use Rattle.sock_tcp.proofs.Recovering.{known_as}
use Rattle.sock_tcp.specs.View.{View}
use Rattle.sock_tcp.specs.Window.{cut_of, is_inside, accepted_window}
use Rattle.sock_tcp.specs.declared.acked.Acked.{Acked}
use Rattle.sock_tcp.specs.declared.advance.Next.{Next}
use Rattle.sock_tcp.specs.declared.advance.Next.TheVariants as next
use Rattle.sock_tcp.specs.declared.recovery.Before.{Before}
use Rattle.sock_tcp.specs.declared.rules.Rules.{Rules}
use Rattle.sock_tcp.specs.declared.rules.Rules.TheVariants as rules
use Rattle.sock_tcp.specs.declared.state.State.{State}
use Rattle.sock_tcp.specs.declared.state.State.TheVariants as state
use Rattle.sock_tcp.specs.declared.timer.Timer.{Timer}
use Rattle.sock_tcp.specs.declared.timer.Timer.TheVariants as timer
use Rattle.sock_tcp.specs.declared.verdict.Verdict.{Verdict}
use Rattle.sock_tcp.specs.declared.verdict.Verdict.TheVariants as verdicts
use Rattle.sock_tcp.proofs.Refusing.{heard_alone, refused_as}
use Rattle.tcp_laws.proofs.Kept.{KeptByAnswers, acked_view, bytes_kept, challenged_kept, heard_kept, outside_kept, timer_then}
use Rattle.tcp_laws.proofs.Ordered.{IsOrdered, Row}

-- ---- what is kept

-- an idle timer: without a window no bytes wait
abbrev pub Asks : Timer → ℕ → ℕ → Type 0
Asks (timer.Idle at) window n = window ≡ 0 → n ≡ 0
Asks t window n = Unit {0}

-- and nothing is in flight
abbrev pub Rests : Timer → ℕ → ℕ → ℕ → Type 0
Rests (timer.Idle at) flight window n = (flight ≡ 0) × (window ≡ 0 → n ≡ 0)
Rests t flight window n = Unit {0}

-- in the states whose timer is one for acknowledgements
abbrev pub AwakeIn : State → Timer → ℕ → ℕ → ℕ → Type 0
AwakeIn state.SynReceived t flight window n = Rests t flight window n
AwakeIn state.Established t flight window n = Rests t flight window n
AwakeIn state.CloseWait t flight window n = Rests t flight window n
AwakeIn state.FinWait1 t flight window n = Rests t flight window n
AwakeIn state.Closing t flight window n = Rests t flight window n
AwakeIn state.LastAck t flight window n = Rests t flight window n
AwakeIn _ t flight window n = Unit {0}

pub record Awake (r : Rules) (st : State) (t : Timer) (flight window n : ℕ) : Type 0 where
  pub rfc : r ≡ rules.Rfc
  pub row : AwakeIn st t flight window n

abbrev pub IsAwakeByRfc : View → Type 0
IsAwakeByRfc v = Awake v.rules v.state v.timer (flight v) v.remote_win_len (length v.tx_buffer.bytes)

-- what the tables keep of it before what is done of loss
abbrev HalfIn : State → Timer → ℕ → ℕ → Type 0
HalfIn state.Established t window n = Asks t window n
HalfIn state.CloseWait t window n = Asks t window n
HalfIn state.FinWait1 t window n = Asks t window n
HalfIn state.Closing t window n = Asks t window n
HalfIn state.LastAck t window n = Asks t window n
HalfIn _ t window n = Unit {0}

half_of : (t : Timer) (flight window n : ℕ) → Rests t flight window n → Asks t window n
half_of (timer.Idle at) flight window n h = h.1
half_of (timer.Retransmit at) flight window n h = tt
half_of timer.FastRetransmit flight window n h = tt
half_of (timer.ZeroWindowProbe at delay) flight window n h = tt
half_of (timer.Close at) flight window n h = tt

-- a close leaves it awake
pub close_row : (st : State) (t : Timer) (i window n : ℕ) → AwakeIn st t i window n → AwakeIn (closed_from st) t i window n
close_row state.Listen t i window n h = tt
close_row state.SynSent t i window n h = tt
close_row state.SynReceived t i window n h = h
close_row state.Established t i window n h = h
close_row state.CloseWait t i window n h = h
close_row _ t i window n h = h

half_row : (st : State) (t : Timer) (flight window n : ℕ) → AwakeIn st t flight window n → HalfIn st t window n
half_row state.Established t flight window n h = half_of t flight window n h
half_row state.CloseWait t flight window n h = half_of t flight window n h
half_row state.FinWait1 t flight window n h = half_of t flight window n h
half_row state.Closing t flight window n h = half_of t flight window n h
half_row state.LastAck t flight window n h = half_of t flight window n h
half_row _ t flight window n h = tt

asks_row : (st : State) (t : Timer) (window n : ℕ) → Asks t window n → HalfIn st t window n
asks_row state.Established t window n h = h
asks_row state.CloseWait t window n h = h
asks_row state.FinWait1 t window n h = h
asks_row state.Closing t window n h = h
asks_row state.LastAck t window n h = h
asks_row _ t window n h = tt

record Tabled (r : Rules) (st : State) (t : Timer) (window n : ℕ) : Type 0 where
  rfc : r ≡ rules.Rfc
  half : HalfIn st t window n

abbrev IsTabled : View → Type 0
IsTabled w = Tabled w.rules w.state w.timer w.remote_win_len (length w.tx_buffer.bytes)

-- ---- timers

no_window : (t : Timer) (window n : ℕ) → (window == 0) ≡ false → Asks t window n
no_window (timer.Idle at) window n e = λ z. absurd (true≢false (sym (eq-eqb window 0 z) ∙ e))
no_window (timer.Retransmit at) window n e = tt
no_window timer.FastRetransmit window n e = tt
no_window (timer.ZeroWindowProbe at delay) window n e = tt
no_window (timer.Close at) window n e = tt

module _ (now : Instant) where
  restarted_half : (st : State) (t : Timer) (window n : ℕ) → HalfIn st t window n → HalfIn st (timer_restarted st t now) window n
  restarted_half state.TimeWait t window n h = tt
  restarted_half _ t window n h = h

  restarted_row : (st : State) (t : Timer) (flight window n : ℕ) → AwakeIn st t flight window n → AwakeIn st (timer_restarted st t now) flight window n
  restarted_row state.TimeWait t flight window n h = tt
  restarted_row _ t flight window n h = h

  -- a segment's window sets or ends the probes
  set_asks : (t : Timer) (v : View) (a : Acked) → Asks (probe_set t v now a) v.remote_win_len (length v.tx_buffer.bytes)
  set_asks t v a = go (v.remote_win_len == 0) refl
    where
      n : ℕ
      n = length v.tx_buffer.bytes

      either : (b : Bool) (t : Timer) → Asks t v.remote_win_len n → Asks (if b then probe_from now v.rtte else t) v.remote_win_len n
      either true t h = tt
      either false t h = h

      waits : (at : Option Instant) (z : Bool) → (n == 0) ≡ z → Asks (if not z && (true || not (a.len == 0)) then probe_from now v.rtte else timer.Idle at) v.remote_win_len n
      waits at true z = λ w. eqb-true n 0 z
      waits at false z = tt

      begins : (t : Timer) → Asks (if begins_probe t v a then probe_from now v.rtte else t) v.remote_win_len n
      begins (timer.Idle at) = waits at (n == 0) refl
      begins (timer.Retransmit at) = either (begins_probe (timer.Retransmit at) v a) (timer.Retransmit at) tt
      begins timer.FastRetransmit = either (begins_probe timer.FastRetransmit v a) timer.FastRetransmit tt
      begins (timer.ZeroWindowProbe at delay) = either (begins_probe (timer.ZeroWindowProbe at delay) v a) (timer.ZeroWindowProbe at delay) tt
      begins (timer.Close at) = either (begins_probe (timer.Close at) v a) (timer.Close at) tt

      go : (b : Bool) → (v.remote_win_len == 0) ≡ b → Asks (if b then (if begins_probe t v a then probe_from now v.rtte else t) else probe_ended t v now) v.remote_win_len n
      go true e = begins t
      go false e = no_window (probe_ended t v now) v.remote_win_len n e

  -- ---- what is done of loss

  module _ (b : Before) (w : View) (asks : Asks w.timer w.remote_win_len (length w.tx_buffer.bytes)) where
    abbrev At : Timer → Type 0
    At t = Rests t (flight w) w.remote_win_len (length w.tx_buffer.bytes)

    kept_idle : (keep : Option Duration) → flight w ≡ 0 → length w.tx_buffer.bytes ≡ 0 → At (idle_from now keep)
    kept_idle None f z = (f, λ i. z)
    kept_idle (Some d) f z = (f, λ i. z)

    runs : (t : Timer) → Asks t w.remote_win_len (length w.tx_buffer.bytes) → At (running t (flight w) (length w.tx_buffer.bytes) w.keep_alive w.rtte now)
    runs (timer.Idle at) h = by (flight w == 0) refl
      where
        by : (z : Bool) → (flight w == 0) ≡ z → At (if z then timer.Idle at else retransmit_from now w.rtte)
        by true e = (eqb-true (flight w) 0 e, h)
        by false e = tt
    runs (timer.ZeroWindowProbe at delay) h = by (nat_le (length w.tx_buffer.bytes) (flight w)) refl (flight w == 0) refl
      where
        by : (y : Bool) → nat_le (length w.tx_buffer.bytes) (flight w) ≡ y → (z : Bool) → (flight w == 0) ≡ z → At (if y then (if z then idle_from now w.keep_alive else retransmit_from now w.rtte) else timer.ZeroWindowProbe at delay)
        by true i true e = let f = eqb-true (flight w) 0 e in let l = leb-true (length w.tx_buffer.bytes) (flight w) i in kept_idle w.keep_alive f (omega (arith, f, l))
        by true i false e = tt
        by false i z e = tt
    runs (timer.Retransmit at) h = tt
    runs timer.FastRetransmit h = tt
    runs (timer.Close at) h = tt

    goes : (t : Timer) → At (gone_on_from t now w.rtte)
    goes (timer.Retransmit at) = tt
    goes (timer.Idle at) = tt
    goes timer.FastRetransmit = tt
    goes (timer.ZeroWindowProbe at delay) = tt
    goes (timer.Close at) = tt

    probes : (c : Bool) (t : Timer) → At t → At (tail_waits c t now w.rtte (is_alone w))
    probes true (timer.Retransmit at) h = tt
    probes true (timer.Idle at) h = h
    probes true timer.FastRetransmit h = h
    probes true (timer.ZeroWindowProbe at delay) h = h
    probes true (timer.Close at) h = h
    probes false t h = h

    keeps : (c : Bool) (u t : Timer) → At t → At (kept_if c u t)
    keeps true (timer.Retransmit at) (timer.Retransmit next) h = tt
    keeps true (timer.Retransmit at) (timer.Idle next) h = h
    keeps true (timer.Retransmit at) timer.FastRetransmit h = h
    keeps true (timer.Retransmit at) (timer.ZeroWindowProbe next delay) h = h
    keeps true (timer.Retransmit at) (timer.Close next) h = h
    keeps true (timer.Idle at) t h = h
    keeps true timer.FastRetransmit t h = h
    keeps true (timer.ZeroWindowProbe at delay) t h = h
    keeps true (timer.Close at) t h = h
    keeps false u t h = h

    comes : (t : Timer) → At t → At (probe_soonest w.idle_at t)
    comes (timer.ZeroWindowProbe at delay) h = h
    comes (timer.Idle at) h = h
    comes (timer.Retransmit at) h = h
    comes timer.FastRetransmit h = h
    comes (timer.Close at) h = h

    begins : (u t : Timer) → At t → At (probe_from_last u w.idle_at t)
    begins (timer.ZeroWindowProbe at delay) t h = h
    begins (timer.Idle at) t h = comes t h
    begins (timer.Retransmit at) t h = comes t h
    begins timer.FastRetransmit t h = comes t h
    begins (timer.Close at) t h = comes t h

    waits : (c : Bool) (t : Timer) → At t → At (late_set c t now (late_wait (reordering_after b w) w.rtte))
    waits true (timer.Retransmit at) h = tt
    waits true (timer.Idle at) h = h
    waits true timer.FastRetransmit h = h
    waits true (timer.ZeroWindowProbe at delay) h = h
    waits true (timer.Close at) h = h
    waits false t h = h

    waited_rests : At (waited_for b w now)
    waited_rests = waits (waits_late b w) (heard_for b w now) (by (tells_controller b w) (is_called b w))
      where
        by : (r c : Bool) → At (if r then timer.FastRetransmit else (if c then gone_on_from b.timer now w.rtte else tail_waits (waits_tail b w) (left_running b w now) now w.rtte (is_alone w)))
        by true c = tt
        by false true = goes b.timer
        by false false = probes (waits_tail b w) (left_running b w now) (begins b.timer _ (keeps (is_later_partial b w) b.timer _ (runs w.timer asks)))

-- ---- a segment

module _ (v : View) (now : Instant) (word : ℕ) (ip : IpRepr) (s : Segment) (awake : IsAwakeByRfc v) where
  abbrev come : Arrival
  come = arrival now (tuple_of ip s) word s

  abbrev Left : View → Type 0
  Left w = IsTabled w

  left_v : Left v
  left_v = record { rfc = awake.rfc; half = half_row v.state v.timer (flight v) v.remote_win_len (length v.tx_buffer.bytes) awake.row }

  answers_left : KeptByAnswers Left
  unfolding ack_kept
  answers_left = record { challenges = λ w at h. h; acks = λ w h. h }

  restarts_left : (w : View) → Left w → Left (close_restarted w now)
  unfolding close_restarted
  restarts_left w h = record { rfc = h.rfc; half = restarted_half now w.state w.timer w.remote_win_len (length w.tx_buffer.bytes) h.half }

  joins_left : (w : View) (o : ℕ) (bs : List ℕ) → Left w → Left (ack_delayed (joined w o bs) now)
  unfolding joined ack_delayed
  joins_left w o bs h = h

  -- ---- what is heard

  heard_rules : (u : View) (a : Acked) → u.rules ≡ rules.Rfc → (heard u now a s).rules ≡ rules.Rfc
  unfolding window_taken released timestamp_taken timer_set duplicate_counted ack_counted una_advanced
  heard_rules u a e = heard_kept (λ w. w.rules ≡ rules.Rfc) now s u a e (λ k. e) (λ k. e)

  heard_state : (u : View) (a : Acked) → (heard u now a s).state ≡ u.state
  unfolding window_taken released timestamp_taken timer_set duplicate_counted ack_counted una_advanced
  heard_state u a = heard_kept (λ w. w.state ≡ u.state) now s u a refl (λ k. refl) (λ k. refl)

  heard_asks : (u : View) (a : Acked) → Asks (heard u now a s).timer (heard u now a s).remote_win_len (length (heard u now a s).tx_buffer.bytes)
  unfolding window_taken released timestamp_taken timer_set duplicate_counted ack_counted una_advanced
  heard_asks u a = heard_kept (λ w. Asks w.timer w.remote_win_len (length w.tx_buffer.bytes)) now s u a (sets x) (λ k. sets (ack_heard true x now k a.len)) (λ k. sets (ack_heard false x now k a.len))
    where
      x : View
      x = acked_view (λ w. Unit {0}) now s u a

      sets : (y : View) → Asks (timer_then (λ w. Unit {0}) now s u a y).timer (timer_then (λ w. Unit {0}) now s u a y).remote_win_len (length (timer_then (λ w. Unit {0}) now s u a y).tx_buffer.bytes)
      sets y = let z = timestamp_taken y s in set_asks now (timer_acked z.timer z now a) z a

  heard_left : (w : View) (a : Acked) → w.rules ≡ rules.Rfc → Left (heard w now a s)
  heard_left w a rfc = record { rfc = heard_rules w a rfc; half = asks_row h.state h.timer h.remote_win_len (length h.tx_buffer.bytes) (heard_asks w a) }
    where
      h : View
      h = heard w now a s

  -- ---- the rows

  module _ (u : View) (h : Left u) where
    abbrev a : Acked
    a = acked_of u s.control s.ack_number

    abbrev Ends : Next → View → Type 0
    Ends next.Stop w = Left w
    Ends next.Challenge w = Left w
    Ends next.Continue w = w.rules ≡ rules.Rfc

    fallen : Left (fallen_back u)
    unfolding fallen_back
    fallen = record { rfc = h.rfc; half = half (u.listen_endpoint.port == 0) }
      where
        half : (b : Bool) → HalfIn (if b then state.Closed else state.Listen) u.timer u.remote_win_len (length u.tx_buffer.bytes)
        half true = tt
        half false = tt

    rows_end : (st : State) (c : TcpControl) (fin : Bool) → u.state ≡ st → Ends (advance_in st c fin u come a.len).next (advance_in st c fin u come a.len).view
    unfolding syn_received syn_answered options_taken fin_counted
    rows_end state.SynReceived control.Rst fin is = fallen
    rows_end _ control.Rst fin is = record { rfc = h.rfc; half = tt }
    rows_end state.Listen control.Syn fin is = h.rfc
    rows_end state.SynSent control.Syn fin is = h.rfc
    rows_end state.SynReceived control.None fin is = h.rfc
    rows_end state.SynReceived control.Fin fin is = h.rfc
    rows_end state.Established control.None fin is = h.rfc
    rows_end state.Established control.Fin fin is = h.rfc
    rows_end state.FinWait1 control.None true is = h.rfc
    rows_end state.FinWait1 control.None false is = h.rfc
    rows_end state.FinWait1 control.Fin true is = h.rfc
    rows_end state.FinWait1 control.Fin false is = h.rfc
    rows_end state.FinWait2 control.None fin is = h.rfc
    rows_end state.FinWait2 control.Fin fin is = h.rfc
    rows_end state.CloseWait control.None fin is = h.rfc
    rows_end state.Closing control.None true is = h.rfc
    rows_end state.Closing control.None false is = h.rfc
    rows_end state.LastAck control.None true is = h.rfc
    rows_end state.LastAck control.None false is = by (a.len == 0) u.rules
      where
        by : (b : Bool) (r : Rules) → Ends (if b then nothing_new_by r else next.Continue) u
        by true rules.Smoltcp = h
        by true rules.Rfc = h.rfc
        by false r = h.rfc
    rows_end _ _ fin is = h

    after_left : (x : Next) (w : View) (o : ℕ) (bs : List ℕ) → Ends x w → Left (after_advance x w come a o bs).view
    after_left next.Stop w o bs e = e
    after_left next.Challenge w o bs e = challenged_kept Left now s answers_left w e
    after_left next.Continue w o bs e = bytes_kept Left now s answers_left joins_left (heard w now a s) o bs (heard_left w a e)

    inside_left : (c : TcpControl) (o : ℕ) (bs : List ℕ) → Left (processed_inside u come c o bs).view
    unfolding processed_inside advanced
    inside_left c o bs = let x = advance_in u.state c a.fin u come a.len in after_left x.next x.view o bs (rows_end u.state c a.fin refl)

  -- ---- the whole

  refused_left : Left (refused rules.Rfc v come).view
  refused_left = refused_as (λ o. Left o.view) rules.Rfc v come (record {
    answers = outside_kept Left now s answers_left restarts_left v left_v;
    counts = λ e. inside_left v left_v control.Fin 0 [];
    hears = λ e. alone;
    ends = λ e. alone;
    goes_on = λ e. outside_kept Left now s answers_left restarts_left (heard_alone v come).view alone;
  })
    where
      alone : Left (heard_alone v come).view
      alone = inside_left v left_v control.None 0 []

  tested_left : (b : Bool) → Left (tested_by rules.Rfc b v come).view
  tested_left false = inside_left v left_v s.control 0 []
  tested_left true = go (is_inside (accepted_window rules.Rfc v) s.seq_number (length s.payload))
    where
      go : (b : Bool) → Left (if b then cut_inside (accepted_window rules.Rfc v) (cut_of (accepted_window rules.Rfc v) s.seq_number (length s.payload)) v come else refused rules.Rfc v come).view
      go false = refused_left
      go true = inside_left (record v { local_rx_last_seq = Some s.seq_number }) left_v (counted_control s.control (accepted_window rules.Rfc v) s.seq_number (length s.payload)) _ _

  chosen : (w : View) (b : Bool) → b ≡ true → Rests (waited_for (before_of v s) w now) (flight w) w.remote_win_len (length w.tx_buffer.bytes) → Rests (if b then waited_for (before_of v s) w now else w.timer) (flight w) w.remote_win_len (length w.tx_buffer.bytes)
  chosen w true e h = h
  chosen w false e h = absurd cc

  -- the echo puts off a retransmission alone
  abbrev known : View → View
  known w = echo_known (before_of v s) w now

  waited_known : (w : View) → Asks w.timer w.remote_win_len (length w.tx_buffer.bytes) → Rests (waited_for (before_of v s) (known w) now) (flight w) w.remote_win_len (length w.tx_buffer.bytes)
  waited_known w asks = waited_rests now (before_of v s) (known w) (known_as (λ t. Asks t w.remote_win_len (length w.tx_buffer.bytes)) (before_of v s) w now (λ at z. tt) asks)

  -- in SYN-RECEIVED the queue is empty
  recovered_row : (w : View) (st : State) → w.state ≡ st → HalfIn st w.timer w.remote_win_len (length w.tx_buffer.bytes) → (st ≡ state.SynReceived → length w.tx_buffer.bytes ≡ 0) → AwakeIn st (recovered (before_of v s) w now).timer (flight w) w.remote_win_len (length w.tx_buffer.bytes)
  unfolding recovered
  recovered_row w state.SynReceived is half none = chosen (known w) (has_timer w.state) (ap has_timer is) (waited_known w (empty w.timer (none refl)))
    where
      empty : (t : Timer) → length w.tx_buffer.bytes ≡ 0 → Asks t w.remote_win_len (length w.tx_buffer.bytes)
      empty (timer.Idle at) z = λ i. z
      empty (timer.Retransmit at) z = tt
      empty timer.FastRetransmit z = tt
      empty (timer.ZeroWindowProbe at delay) z = tt
      empty (timer.Close at) z = tt
  recovered_row w state.Established is half none = chosen (known w) (has_timer w.state) (ap has_timer is) (waited_known w half)
  recovered_row w state.CloseWait is half none = chosen (known w) (has_timer w.state) (ap has_timer is) (waited_known w half)
  recovered_row w state.FinWait1 is half none = chosen (known w) (has_timer w.state) (ap has_timer is) (waited_known w half)
  recovered_row w state.Closing is half none = chosen (known w) (has_timer w.state) (ap has_timer is) (waited_known w half)
  recovered_row w state.LastAck is half none = chosen (known w) (has_timer w.state) (ap has_timer is) (waited_known w half)
  recovered_row w _ is half none = tt

  recovered_awake : (o : Outcome) → Left o.view → (o.view.state ≡ state.SynReceived → length o.view.tx_buffer.bytes ≡ 0) → IsAwakeByRfc (recovered_by rules.Rfc v now s o).view
  unfolding recovered before_of
  recovered_awake o h none = record { rfc = h.rfc; row = recovered_row o.view o.view.state refl h.half none }

  -- a close waits in SYN-RECEIVED
  late_stays : (b : Bool) (st : State) → st ≡ state.SynReceived → (if b then late_from st else st) ≡ state.SynReceived
  late_stays true st e = ap late_from e
  late_stays false st e = e

  passed_awake : (o : Outcome) → Left o.view → IsOrdered (closed_then rules.Rfc (recovered_by rules.Rfc v now s o)).view → IsAwakeByRfc (closed_then rules.Rfc (recovered_by rules.Rfc v now s o)).view
  unfolding recovered
  passed_awake o h ordered =
      let u : View = (recovered_by rules.Rfc v now s o).view in
      let none : o.view.state ≡ state.SynReceived → length o.view.tx_buffer.bytes ≡ 0 = λ e. (subst (λ st. Row st u.timer u.keep_alive (flight u) (length u.tx_buffer.bytes)) (late_stays u.close_waits u.state e) ordered.row).1 in
      let k = recovered_awake o h none in
      closed_as (λ x. IsAwakeByRfc x.view) rules.Rfc (recovered_by rules.Rfc v now s o) k (record { rfc = k.rfc; row = close_row u.state u.timer (flight u) u.remote_win_len (length u.tx_buffer.bytes) k.row })

  answers_awake : KeptByAnswers IsAwakeByRfc
  unfolding ack_kept
  answers_awake = record { challenges = λ w at h. h; acks = λ w h. h }

  verdict_awake : (x : Verdict) → IsOrdered (by_verdict rules.Rfc x v come).view → IsAwakeByRfc (by_verdict rules.Rfc x v come).view
  verdict_awake verdicts.Drop i = awake
  verdict_awake verdicts.Reset i = awake
  verdict_awake verdicts.Challenge i = challenged_kept IsAwakeByRfc now s answers_awake v awake
  verdict_awake verdicts.Pass i = passed_awake (tested_by rules.Rfc (has_window v.state) v come) (tested_left (has_window v.state)) i

pub process_awake : (v : View) (now : Instant) (word : ℕ) (ip : IpRepr) (s : Segment) → IsAwakeByRfc v → IsOrdered (processed_by rules.Rfc v now word ip s).view → IsAwakeByRfc (processed_by rules.Rfc v now word ip s).view
unfolding processed_by
process_awake v now word ip s awake = verdict_awake v now word ip (windowed rules.Rfc v s) awake (verdict_by rules.Rfc v now s)
