-- How a dispatch begins once the timer is over, and what comes out of it.
use Rattle.std.proofs.Common.{◌≡◌, ℕ, zero, suc, ◌+◌, ◌<◌, ◌≤◌, ◌^◌, ◌⊎◌, inl, inr, Bool, true, false, true≢false, ◌&&◌, refl, sym, ap, subst, ◌∙◌, List, length, take, drop, min, Option, Some, None, is_some, arith}
use Rattle.std.specs.Prelude.{if◌then◌else◌, ◌==◌, option_map, ◌≤ℤ◌, int_le}
use Rattle.std.proofs.lemmas.Int.{ints}
use Rattle.std.proofs.lemmas.Bool.{eq-eqb, eqb-true}
use Rattle.std.proofs.lemmas.Option.{none-some, same_Some}
use Rattle.net_base.specs.Ring.{in_one_piece}
use Rattle.net_base.specs.declared.time.Duration.{Duration}
use Rattle.net_base.specs.declared.time.Instant.{Instant}
use Rattle.ip_wire.specs.declared.repr.IpRepr.{IpRepr}
use Rattle.control_wire.specs.Segment.{Segment, control_len, is_empty_segment, is_plain, segment_len}
use Rattle.control_wire.specs.declared.seq_number.TcpSeqNumber.{TcpSeqNumber}
use Rattle.control_wire.specs.declared.tcp.TcpControl.{TcpControl}
use Rattle.control_wire.specs.declared.tcp.TcpControl.TheVariants as control
use Rattle.sock_core.specs.Estimator.{backed_off, retransmitted}
use Rattle.sock_core.specs.Facts.{Facts}
use Rattle.sock_tcp.specs.declared.rules.Rules.{Rules}
use Rattle.sock_tcp.specs.Begin.{Begun, last_ts_set, last_ts_set_at, told_ready, readied, retransmission_begun, fast_retransmission_marked, after_timer, after_timers, is_paused, begun, begun_to, unless_paused, nothing_due, by_due, before_emit, before_emit_to, going_on, peer_of, probing_begun, timers_by}
use Rattle.sock_tcp.specs.Content.{Sending, asked, carries_data, content, data_control, emission_kind, filled, offset_of, plain_segment, sent_as, with_data, with_ranges}
use Rattle.sock_tcp.specs.Due.{is_closing, is_due}
use Rattle.sock_tcp.specs.Process.{Outcome}
use Rattle.progress_laws.specs.Smoltcp.{processed}
use Rattle.sock_tcp.specs.Polls.{is_reached, timeout_poll}
use Rattle.sock_tcp.specs.Rfc.UserTimeout.{timeout_by, timeout_of}
use Rattle.sock_tcp.specs.Rfc.Recovery.{begun_by, marked_by}
use Rattle.sock_tcp.specs.Rfc.TailLoss.{is_retransmission_over, may_probe_by, may_speak, probes_tail, probed_by, tail_probed}
use Rattle.sock_tcp.proofs.Recovering.{begun_as, marked_as}
use Rattle.sock_tcp.specs.Sent.{left_by}
use Rattle.sock_tcp.specs.Timers.{idle_from, is_close_over, is_over}
use Rattle.sock_tcp.specs.View.{View, moment_of}
use Rattle.sock_tcp.specs.declared.emission.Kind.{Kind}
use Rattle.sock_tcp.specs.declared.state.State.{State}
use Rattle.sock_tcp.specs.declared.state.State.TheVariants as state
use Rattle.sock_tcp.specs.declared.timer.Timer.{Timer}
use Rattle.sock_tcp.specs.declared.timer.Timer.TheVariants as timer
use Rattle.sock_tcp.specs.declared.tuple.Tuple.{Tuple}
use Rattle.tcp_laws.specs.Polling.{IsReached}
use Rattle.tcp_laws.specs.SocketRun.{Counts, Dispatch, Ends, IsNumbered, Process, Run, SendsTo, Step, Then, after_segment, is_reset, starting_if}
use Rattle.progress_laws.specs.Speech.{DispatchesOk, GoesOn, SendsOk, SendsOkTo}
use Rattle.sock_tcp.specs.declared.rules.Rules.TheVariants as rules

-- ---- tests

pub and_no : (a : Bool) → (a && false) ≡ false
and_no true = refl
and_no false = refl

pub not_zero : (n : ℕ) → 0 < n → (n == 0) ≡ false
not_zero n h = go (n == 0) refl
  where
    go : (b : Bool) → (n == 0) ≡ b → (n == 0) ≡ false
    go true e = let z : n ≡ 0 = eqb-true n 0 e in absurd (omega (arith, z, h))
    go false e = e

pub some_or_none : (n : ℕ) → (n ≡ 0) ⊎ (0 < n)
some_or_none zero = inl refl
some_or_none (suc n) = inr (omega arith)

-- the later of two moments
pub later_moment : (a b : Instant) → (z : Instant) × (a.micros ≤ℤ z.micros) × (is_over b z ≡ true)
later_moment a b = go (int_le b.micros a.micros) refl
  where
    go : (c : Bool) → int_le b.micros a.micros ≡ c → (z : Instant) × (a.micros ≤ℤ z.micros) × (is_over b z ≡ true)
    go true e = (a, grind (arith, ints), e)
    go false e = (b, grind (arith, ints, e), grind (arith, ints))

-- ---- a further call

run_on : (v u w : View) (k i j : Counts) → Run v k u i → Step u i w j → Run v k w j
run_on v u w k i j (Ends _ _) s = Then v w w k j j s (Ends w j)
run_on v u w k i j (Then _ x _ _ l _ s r) last = Then v x w k l j s (run_on x u w l i j r last)

pub step_reached : (v w : View) (j : Counts) (r : IsReached v) → Step v r.counts w j → IsReached w
step_reached v w j r s = record { rx = r.rx; tx = r.tx; counts = j; rx_size = r.rx_size; tx_size = r.tx_size; run = run_on _ v w _ r.counts j r.run s }

any_ok : (o : Option Tuple) (f : Facts) (u : View) (out : Option Sending) (w : View) → SendsOkTo o f u out w → SendsTo o f u out w
any_ok None f u out w h = h
any_ok (Some t) f u out w h = record { stamp = h.stamp; told = h.told; bytes = h.bytes; lent = h.lent; ok = true; sends = h.sends; view = h.view }

pub dispatch_reached : (f : Facts) (v : View) (out : Option Sending) (w : View) → IsReached v → DispatchesOk f v out w → IsReached w
dispatch_reached f v out w r h = step_reached v w (starting_if (is_reset v f) w r.counts) r (Dispatch f out (any_ok (peer_of (before_emit v f)) f (before_emit v f).view out w h) refl)

-- a segment that comes
pub numbered_as : (g : Segment) (k : TcpSeqNumber) → g.ack_number ≡ Some k → g.seq_number.0 < 2 ^ 32 → k.0 < 2 ^ 32 → IsNumbered g
numbered_as g k ack number small = record { seq_number = number; ack_number = λ m e. subst (λ (q : TcpSeqNumber). q.0 < 2 ^ 32) (same_Some k m (sym ack ∙ e)) small }

pub segment_reached : (v w : View) (now : Instant) (word : ℕ) (ip : IpRepr) (g : Segment) (reply : Option Segment) → IsReached v → word < 2 ^ 32 → IsNumbered g → length g.payload ≤ 65535 → (v.state ≡ state.Listen → g.ack_number ≡ None) → processed v now word ip g ≡ record { view = w; reply = reply } → IsReached w
segment_reached v w now word ip g reply r small numbered short listens comes = step_reached v w (after_segment r.counts v w) r (Process rules.Smoltcp now word ip g small numbered short listens (sym (ap (λ (o : Outcome). o.view) comes)) refl)

-- ---- the beginning

-- x has of v what neither a timer nor a sending changes
pub record Same (v x : View) : Type 0 where
  pub state : x.state ≡ v.state
  pub peer : x.tuple ≡ v.tuple
  pub timeout : x.timeout ≡ v.timeout
  pub same_rules : x.rules ≡ v.rules
  pub keep_alive : x.keep_alive ≡ v.keep_alive
  pub una : x.local_seq_no ≡ v.local_seq_no
  pub tx : x.tx_buffer ≡ v.tx_buffer
  pub rx : x.rx_buffer ≡ v.rx_buffer
  pub rcv : x.remote_seq_no ≡ v.remote_seq_no
  pub window : x.remote_win_len ≡ v.remote_win_len
  pub scale : x.remote_win_scale ≡ v.remote_win_scale
  pub shift : x.remote_win_shift ≡ v.remote_win_shift
  pub paused : x.synack_paused ≡ v.synack_paused

pub same_self : (v : View) → Same v v
same_self v = record { state = refl; peer = refl; timeout = refl; same_rules = refl; keep_alive = refl; una = refl; tx = refl; rx = refl; rcv = refl; window = refl; scale = refl; shift = refl; paused = refl }

pub same_then : {u v x : View} → Same u v → Same v x → Same u x
same_then a b = record { state = b.state ∙ a.state; peer = b.peer ∙ a.peer; timeout = b.timeout ∙ a.timeout; same_rules = b.same_rules ∙ a.same_rules; keep_alive = b.keep_alive ∙ a.keep_alive; una = b.una ∙ a.una; tx = b.tx ∙ a.tx; rx = b.rx ∙ a.rx; rcv = b.rcv ∙ a.rcv; window = b.window ∙ a.window; scale = b.scale ∙ a.scale; shift = b.shift ∙ a.shift; paused = b.paused ∙ a.paused }

-- the timer is idle then, by smoltcp's rules
pub begun_idle : (x : View) (now : Instant) → x.rules ≡ rules.Smoltcp → (retransmission_begun x now).timer ≡ idle_from now x.keep_alive
unfolding retransmission_begun
begun_idle x now e = ap (λ r. begun_by r x.remote_win_len (length x.tx_buffer.bytes) now x.keep_alive (retransmitted (backed_off x.rtte))) e

-- and so it is once a fast retransmission is marked
pub marked_idle : (x : View) (now : Instant) → x.rules ≡ rules.Smoltcp → (fast_retransmission_marked x now).timer ≡ idle_from now x.keep_alive
unfolding fast_retransmission_marked
marked_idle x now e = ap (λ r. marked_by r now x.keep_alive (retransmitted x.rtte)) e

pub same_again : (x : View) (now : Instant) → Same x (retransmission_begun x now)
unfolding retransmission_begun
same_again x now = record { state = refl; peer = refl; timeout = refl; same_rules = refl; keep_alive = refl; una = refl; tx = refl; rx = refl; rcv = refl; window = refl; scale = refl; shift = refl; paused = refl }

-- and all else that matters here
pub record Alike (v x : View) : Type 0 where
  pub same : Same v x
  pub timer : x.timer ≡ v.timer
  pub nxt : x.remote_last_seq ≡ v.remote_last_seq
  pub last_ack : x.remote_last_ack ≡ v.remote_last_ack
  pub last_win : x.remote_last_win ≡ v.remote_last_win
  pub marked : x.pending_fast_retransmit ≡ v.pending_fast_retransmit
  pub mss : x.remote_mss ≡ v.remote_mss
  pub delay : x.ack_delay_timer ≡ v.ack_delay_timer

same_timeout : {v x : View} → Same v x → timeout_of x ≡ timeout_of v
same_timeout s = λ i. timeout_by (s.same_rules i) (s.state i) (length (s.tx i).bytes == 0) (s.timeout i) (s.keep_alive i)

pub readied_alike : (v : View) (now : Instant) → Alike v (readied v now)
unfolding readied last_ts_set
readied_alike v now = go v.remote_last_ts
  where
    same : (o : Option Instant) → Same v (told_ready (last_ts_set_at o v now) now)
    same None = record { state = refl; peer = refl; timeout = refl; same_rules = refl; keep_alive = refl; una = refl; tx = refl; rx = refl; rcv = refl; window = refl; scale = refl; shift = refl; paused = refl }
    same (Some at) = record { state = refl; peer = refl; timeout = refl; same_rules = refl; keep_alive = refl; una = refl; tx = refl; rx = refl; rcv = refl; window = refl; scale = refl; shift = refl; paused = refl }

    go : (o : Option Instant) → Alike v (told_ready (last_ts_set_at o v now) now)
    go None = record { same = same None; timer = refl; nxt = refl; last_ack = refl; last_win = refl; marked = refl; mss = refl; delay = refl }
    go (Some at) = record { same = same (Some at); timer = refl; nxt = refl; last_ack = refl; last_win = refl; marked = refl; mss = refl; delay = refl }

timer_kept : (tm : Timer) (x : View) (now : Instant) → ((after_timer tm x now).state ≡ x.state) × ((after_timer tm x now).synack_paused ≡ x.synack_paused)
unfolding retransmission_begun fast_retransmission_marked
timer_kept (timer.Retransmit at) x now = go (is_over at now)
  where
    go : (b : Bool) → ((if b then retransmission_begun x now else x).state ≡ x.state) × ((if b then retransmission_begun x now else x).synack_paused ≡ x.synack_paused)
    go true = (refl, refl)
    go false = (refl, refl)
timer_kept timer.FastRetransmit x now = (refl, refl)
timer_kept (timer.Idle at) x now = (refl, refl)
timer_kept (timer.ZeroWindowProbe at delay) x now = go (is_over at now) x.rules
  where
    go : (b : Bool) (r : Rules) → ((if b then probing_begun r x else x).state ≡ x.state) × ((if b then probing_begun r x else x).synack_paused ≡ x.synack_paused)
    go true rules.Smoltcp = (refl, refl)
    go true rules.Rfc = (refl, refl)
    go false r = (refl, refl)
timer_kept (timer.Close at) x now = (refl, refl)

-- by smoltcp's rules a probe that is due changes nothing before it goes out
pub probe_alone : (x : View) (at : Instant) (delay : Duration) (now : Instant) → x.rules ≡ rules.Smoltcp → after_timer (timer.ZeroWindowProbe at delay) x now ≡ x
probe_alone x at delay now ruled = go (is_over at now)
  where
    go : (b : Bool) → (if b then probing_begun x.rules x else x) ≡ x
    go true = ap (λ r. probing_begun r x) ruled
    go false = refl

idle_is_no_end : (now : Instant) (keep : Option Duration) → is_close_over (idle_from now keep) now ≡ false
idle_is_no_end now None = refl
idle_is_no_end now (Some d) = refl

timer_no_end : (tm : Timer) (x : View) (now : Instant) → x.timer ≡ tm → is_close_over tm now ≡ false → is_close_over (after_timer tm x now).timer now ≡ false
unfolding retransmission_begun fast_retransmission_marked
timer_no_end (timer.Retransmit at) x now is e = go (is_over at now)
  where
    go : (b : Bool) → is_close_over (if b then retransmission_begun x now else x).timer now ≡ false
    go true = begun_as (λ t. is_close_over t now ≡ false) x.rules x.remote_win_len (length x.tx_buffer.bytes) now x.keep_alive (retransmitted (backed_off x.rtte)) (idle_is_no_end now x.keep_alive) (λ z some. refl)
    go false = ap (λ t. is_close_over t now) is ∙ e
timer_no_end timer.FastRetransmit x now is e = marked_as (λ t. is_close_over t now ≡ false) x.rules now x.keep_alive (retransmitted x.rtte) (idle_is_no_end now x.keep_alive) refl
timer_no_end (timer.Idle at) x now is e = ap (λ t. is_close_over t now) is ∙ e
timer_no_end (timer.ZeroWindowProbe at delay) x now is e = go (is_over at now) x.rules
  where
    go : (b : Bool) (r : Rules) → is_close_over (if b then probing_begun r x else x).timer now ≡ false
    go true rules.Smoltcp = ap (λ t. is_close_over t now) is ∙ e
    go true rules.Rfc = ap (λ t. is_close_over t now) is ∙ e
    go false r = ap (λ t. is_close_over t now) is ∙ e
timer_no_end (timer.Close at) x now is e = ap (λ t. is_close_over t now) is ∙ e

readied_tuple : (v : View) (now : Instant) → (readied v now).tuple ≡ v.tuple
unfolding readied last_ts_set
readied_tuple v now = by v.remote_last_ts
  where
    by : (o : Option Instant) → (told_ready (last_ts_set_at o v now) now).tuple ≡ v.tuple
    by None = refl
    by (Some at) = refl

timer_tuple : (m : Timer) (v : View) (now : Instant) → (after_timer m v now).tuple ≡ v.tuple
unfolding retransmission_begun fast_retransmission_marked
timer_tuple (timer.Retransmit at) v now = by (is_over at now)
  where
    by : (b : Bool) → (if b then retransmission_begun v now else v).tuple ≡ v.tuple
    by true = refl
    by false = refl
timer_tuple (timer.ZeroWindowProbe at delay) v now = by (is_over at now) v.rules
  where
    by : (b : Bool) (r : Rules) → (if b then probing_begun r v else v).tuple ≡ v.tuple
    by true rules.Smoltcp = refl
    by true rules.Rfc = refl
    by false r = refl
timer_tuple timer.FastRetransmit v now = refl
timer_tuple _ v now = refl

-- the same of what the timer asks for, or of a tail-loss probe
timers_kept : (b : Bool) (x : View) (now : Instant) → ((timers_by b x now).state ≡ x.state) × ((timers_by b x now).synack_paused ≡ x.synack_paused)
unfolding tail_probed probed_by
timers_kept true x now = (refl, refl)
timers_kept false x now = timer_kept x.timer x now

timers_no_end : (b : Bool) (x : View) (now : Instant) → is_close_over x.timer now ≡ false → is_close_over (timers_by b x now).timer now ≡ false
unfolding tail_probed probed_by
timers_no_end true x now e = refl
timers_no_end false x now e = timer_no_end x.timer x now refl e

timers_tuple : (b : Bool) (x : View) (now : Instant) → (timers_by b x now).tuple ≡ x.tuple
unfolding tail_probed probed_by
timers_tuple true x now = refl
timers_tuple false x now = timer_tuple x.timer x now

-- a SYN|ACK alone may be paused
pub carries_runs : (st : State) (b : Bool) → carries_data st ≡ true → is_paused st b ≡ false
carries_runs state.SynReceived b c = absurd cc
carries_runs _ b c = refl

module _ (v : View) (t : Tuple) (f : Facts) (h : GoesOn v t f) (c : is_paused v.state v.synack_paused ≡ false) where
  abbrev now : Instant
  now = moment_of f

  abbrev x : View
  x = readied v now

  abbrev pub beginning : View
  beginning = timers_by (probes_tail x now) x now

  still : Alike v x
  still = readied_alike v now

  pub timers_are : after_timers x now ≡ beginning
  unfolding after_timers
  timers_are = rw alive refl
    where
      alive : is_reached (timeout_poll (timeout_of x) x.remote_last_ts) now ≡ false
      alive = ap (λ d. is_reached (timeout_poll d x.remote_last_ts) now) (same_timeout still.same) ∙ h.alive

  -- by smoltcp's rules what the timer asks for
  pub smoltcp_begins : v.rules ≡ rules.Smoltcp → beginning ≡ after_timer v.timer x now
  smoltcp_begins e = ap (λ r. timers_by (may_probe_by r (may_speak x) && is_retransmission_over x.timer now) x now) (still.same.same_rules ∙ e) ∙ ap (λ tm. after_timer tm x now) still.timer

  goes_on : is_paused beginning.state beginning.synack_paused ≡ false
  goes_on = let k = timers_kept (probes_tail x now) x now in (λ i. is_paused ((k.0 ∙ still.same.state) i) ((k.1 ∙ still.same.paused) i)) ∙ c

  not_waiting : (y : View) → is_paused y.state y.synack_paused ≡ false → unless_paused y ≡ going_on y
  not_waiting y e = rw e refl

  with_address : begun_to (Some t) v f ≡ unless_paused (after_timers x now)
  with_address = rw h.address refl

  begun_so : begun_to v.tuple v f ≡ going_on beginning
  begun_so = ap (λ o. begun_to o v f) h.peer ∙ with_address ∙ ap unless_paused timers_are ∙ not_waiting beginning goes_on

  -- its peer is that of v
  to_peer : beginning.tuple ≡ Some t
  to_peer = timers_tuple (probes_tail x now) x now ∙ readied_tuple v now ∙ h.peer

  begins_so : before_emit v f ≡ by_due (is_due beginning t f) beginning f
  unfolding before_emit begun
  begins_so = ap (λ (b : Begun). before_emit_to (peer_of b) b.view f) begun_so ∙ ap (λ o. before_emit_to o beginning f) to_peer

  unchanged : nothing_due beginning now ≡ beginning
  unfolding nothing_due
  unchanged = rw (timers_no_end (probes_tail x now) x now (ap (λ tm. is_close_over tm now) still.timer ∙ h.no_end)) refl

  -- what is due goes out
  pub sends_so : (out : Option Sending) (w : View) → is_due beginning t f ≡ true → SendsOk f t beginning out w → DispatchesOk f v out w
  sends_so out w e s = subst (λ (b : Begun). SendsOkTo (peer_of b) f b.view out w) (sym (begins_so ∙ ap (λ b. by_due b beginning f) e)) (subst (λ o. SendsOkTo o f beginning out w) (sym to_peer) s)

  -- and nothing else
  pub quiet_so : is_due beginning t f ≡ false → DispatchesOk f v None beginning
  quiet_so e = subst (λ (b : Begun). SendsOkTo (peer_of b) f b.view None beginning) (sym (begins_so ∙ ap (λ b. by_due b beginning f) e)) (refl, sym unchanged)

  -- something goes out, or nothing is due
  abbrev pub Goes : Option Sending → View → Type 0
  Goes out w = (SendsOk f t beginning out w × ((before_emit v f).view ≡ beginning)) ⊎ ((w ≡ beginning) × (is_due beginning t f ≡ false))

  pub goes : (out : Option Sending) (w : View) → DispatchesOk f v out w → Goes out w
  goes out w k = by (is_due beginning t f) refl (subst (λ (b : Begun). SendsOkTo (peer_of b) f b.view out w) begins_so k)
    where
      by : (b : Bool) → is_due beginning t f ≡ b → SendsOkTo (peer_of (by_due b beginning f)) f (by_due b beginning f).view out w → Goes out w
      by true e s = inl (subst (λ o. SendsOkTo o f beginning out w) to_peer s, ap (λ (b : Begun). b.view) begins_so ∙ ap (λ b. (by_due b beginning f).view) e)
      by false e s = inr (s.1 ∙ unchanged, e)

  pub goes_out : (s : Sending) (w : View) → DispatchesOk f v (Some s) w → SendsOk f t beginning (Some s) w
  goes_out s w k = by (is_due beginning t f) (subst (λ (b : Begun). SendsOkTo (peer_of b) f b.view (Some s) w) begins_so k)
    where
      by : (b : Bool) → SendsOkTo (peer_of (by_due b beginning f)) f (by_due b beginning f).view (Some s) w → SendsOk f t beginning (Some s) w
      by true h = subst (λ o. SendsOkTo o f beginning (Some s) w) to_peer h
      by false h = absurd (none-some s (sym h.0))

-- ---- what goes out

-- the bytes that the transmit queue lends
abbrev pub lent_for : View → Tuple → Facts → List ℕ
lent_for u t f = take (min (asked u t f) (in_one_piece u.tx_buffer.until_end (length u.tx_buffer.bytes) (offset_of u))) (drop (offset_of u) u.tx_buffer.bytes)

carries : (st : State) (u : View) (p : Tuple) (f : Facts) (bytes : List ℕ) (s : Segment) → carries_data st ≡ true → filled st u p f bytes s ≡ Some (with_ranges u p f (with_data u bytes s))
carries state.Established u p f bytes s c = refl
carries state.CloseWait u p f bytes s c = refl
carries state.FinWait1 u p f bytes s c = refl
carries state.Closing u p f bytes s c = refl
carries state.LastAck u p f bytes s c = refl
carries _ u p f bytes s c = absurd cc

-- the segment, before it is made a keep-alive
abbrev pub segment_for : View → Tuple → Option ℕ → List ℕ → Segment
segment_for u p stamp bytes = with_data u bytes (plain_segment u p stamp)

-- with what is held beside it
abbrev pub told_for : View → Tuple → Facts → Option ℕ → List ℕ → Segment
told_for u p f stamp bytes = with_ranges u p f (segment_for u p stamp bytes)

pub content_is : (u : View) (p : Tuple) (f : Facts) (stamp : Option ℕ) (bytes : List ℕ) → carries_data u.state ≡ true → content u p f stamp bytes ≡ Some (sent_as u p (emission_kind u (moment_of f) (told_for u p f stamp bytes)) (told_for u p f stamp bytes))
unfolding content
content_is u p f stamp bytes c = ap (option_map (λ s. sent_as u p (emission_kind u (moment_of f) s) s)) (carries u.state u p f bytes (plain_segment u p stamp) c)

-- a timestamp, where segments carry one: no law asks which
abbrev pub stamp_for : View → Option ℕ
stamp_for u = if u.stamps then Some 0 else None

pub stamp_is : (u : View) → is_some (stamp_for u) ≡ u.stamps
stamp_is u = by u.stamps
  where
    some_or_none : Bool → Option ℕ
    some_or_none b = if b then Some 0 else None

    by : (b : Bool) → is_some (some_or_none b) ≡ b
    by true = refl
    by false = refl

-- what goes out of u, with which the dispatch begins, and what is left
pub sends_as : (v : View) (t : Tuple) (f : Facts) (on : GoesOn v t f) (runs : is_paused v.state v.synack_paused ≡ false) (u : View) → beginning v t f on runs ≡ u → carries_data u.state ≡ true → (k : Kind) → emission_kind u (moment_of f) (told_for u t f (stamp_for u) (lent_for u t f)) ≡ k → is_due u t f ≡ true
    → DispatchesOk f v (Some (sent_as u t k (told_for u t f (stamp_for u) (lent_for u t f)))) (left_by (Some (sent_as u t k (told_for u t f (stamp_for u) (lent_for u t f)))) u (moment_of f) true)
sends_as v t f on runs u is c k e due = sends_so v t f on runs out after (ap (λ x. is_due x t f) is ∙ due) (subst (λ x. SendsOk f t x out after) (sym is) (record {
  stamp = stamp_for u;
  told = stamp_is u;
  bytes = lent_for u t f;
  lent = refl;
  sends = sym (content_is u t f (stamp_for u) (lent_for u t f) c ∙ ap (λ k. Some (sent_as u t k (told_for u t f (stamp_for u) (lent_for u t f)))) e);
  view = refl;
}))
  where
    out : Option Sending
    out = Some (sent_as u t k (told_for u t f (stamp_for u) (lent_for u t f)))

    after : View
    after = left_by (Some (sent_as u t k (told_for u t f (stamp_for u) (lent_for u t f)))) u (moment_of f) true

-- and where it has no bytes to send any more
pub content_waiting : (u : View) (p : Tuple) (f : Facts) (stamp : Option ℕ) (bytes : List ℕ) → u.state ≡ state.FinWait2 → segment_for u p stamp bytes ≡ plain_segment u p stamp → content u p f stamp bytes ≡ Some (sent_as u p (emission_kind u (moment_of f) (told_for u p f stamp bytes)) (told_for u p f stamp bytes))
unfolding content
content_waiting u p f stamp bytes e same = ap (λ st. option_map (λ s. sent_as u p (emission_kind u (moment_of f) s) s) (filled st u p f bytes (plain_segment u p stamp))) e ∙ ap (λ s. Some (sent_as u p (emission_kind u (moment_of f) (with_ranges u p f s)) (with_ranges u p f s))) (sym same)

-- its control bit is FIN, or takes no number
fin_or_plain : (u : View) (n : ℕ) → (is_plain (data_control u n) ≡ true) ⊎ (control_len (data_control u n) ≡ 1)
fin_or_plain u n = go (offset_of u + n == length u.tx_buffer.bytes) (is_closing u.state) (n == 0)
  where
    go : (a b d : Bool) → (is_plain (if a then (if b then control.Fin else (if d then control.None else control.Psh)) else control.None) ≡ true) ⊎ (control_len (if a then (if b then control.Fin else (if d then control.None else control.Psh)) else control.None) ≡ 1)
    go true true d = inr refl
    go true false true = inl refl
    go true false false = inl refl
    go false b d = inl refl

some_len : (m : ℕ) (c : TcpControl) → (is_plain c ≡ true) ⊎ (control_len c ≡ 1) → ((m == 0) && is_plain c) ≡ false → 0 < m + control_len c
some_len zero c (inl p) e = absurd (true≢false (sym p ∙ e))
some_len (suc m) c (inl p) e = omega arith
some_len m c (inr one) e = omega (arith, one)

pub not_empty : (u : View) (p : Tuple) (stamp : Option ℕ) (bytes : List ℕ) → is_empty_segment (segment_for u p stamp bytes) ≡ false → 0 < segment_len (segment_for u p stamp bytes)
not_empty u p stamp bytes e = some_len (length bytes) (data_control u (length bytes)) (fin_or_plain u (length bytes)) e

-- a FIN stands behind the queue's end
pub fin_len : (u : View) (p : Tuple) (stamp : Option ℕ) (bytes : List ℕ) → is_closing u.state ≡ true → offset_of u + length bytes ≡ length u.tx_buffer.bytes → 0 < segment_len (segment_for u p stamp bytes)
fin_len u p stamp bytes c at = let one : control_len (data_control u (length bytes)) ≡ 1 = rw (at, same (length u.tx_buffer.bytes), c) refl in omega (arith, one)
  where
    same : (k : ℕ) → (k == k) ≡ true
    same k = eq-eqb k k refl
