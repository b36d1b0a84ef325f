-- A user timeout that is over leaves a dispatched socket in CLOSED.
use Rattle.std.proofs.Common.{◌≡◌, ℕ, Bool, true, false, true≢false, not, refl, sym, ap, ◌∙◌, Option, Some, None, is_some, Result}
use Rattle.std.specs.Prelude.{◌||◌, ◌==◌, if◌then◌else◌, is_ok}
use Rattle.std.proofs.lemmas.Bool.{or_parts}
use Rattle.net_base.specs.declared.time.Duration.{Duration}
use Rattle.net_base.specs.declared.time.Instant.{Instant}
use Rattle.sock_core.specs.Congestion.{post_transmitted}
use Rattle.sock_core.specs.Facts.{Facts}
use Rattle.sock_tcp.specs.Rfc.TailLoss.{tail_armed}
use Rattle.sock_tcp.proofs.Arming.{armed_as}
use Rattle.sock_tcp.specs.Rfc.Idle.{idle_by, restarted_by}
use Rattle.sock_tcp.specs.Begin.{last_ts_set, last_ts_set_at, readied, after_timers, is_paused, begun, begun_to, unless_paused, ended, before_emit, before_emit_to, peer_of}
use Rattle.sock_tcp.specs.Content.{Sending, content}
use Rattle.sock_tcp.specs.Dispatch.{Dispatches, EmitTcp, EmitsTo}
use Rattle.sock_tcp.specs.Due.{held_poll, data_due, is_closed, is_due, window_doubled}
use Rattle.sock_tcp.specs.Opening.{renewed}
use Rattle.sock_tcp.specs.Polls.{is_reached, timeout_poll}
use Rattle.sock_tcp.specs.Rfc.UserTimeout.{timeout_of}
use Rattle.sock_tcp.specs.Rfc.RoundTrips.{sending_measured}
use Rattle.sock_tcp.specs.Sent.{goes_on, after_any, after_kind, after_probe, after_sending, emitted_as, left_by, sending_timed, snd_nxt_moved}
use Rattle.sock_tcp.specs.Timers.{is_keep_alive_over, is_probe_over, retransmit_unless_set}
use Rattle.sock_tcp.specs.View.{View, fresh, moment_of}
use Rattle.sock_tcp.specs.declared.emission.Emitted.{Emitted}
use Rattle.sock_tcp.specs.declared.emission.Kind.{Kind}
use Rattle.sock_tcp.specs.declared.emission.Kind.TheVariants as kind
use Rattle.sock_tcp.specs.declared.state.State.TheVariants as state
use Rattle.sock_tcp.specs.declared.tuple.Tuple.{Tuple}
use Rattle.tcp_laws.specs.Waking.{IsClosed, IsTimedOut}

-- ---- what goes out changes no state

moved_state : (v : View) (s : Emitted) → (snd_nxt_moved v s).state ≡ v.state
unfolding snd_nxt_moved
moved_state v s = refl

timed_state : (v : View) (now : Instant) (s : Emitted) → (sending_timed v now s).state ≡ v.state
unfolding sending_timed
timed_state v now s = go (s.len == 0)
  where
    go : (b : Bool) → (if b then v else record v { rtte = sending_measured v now s; timer = retransmit_unless_set v.timer now v.rtte; congestion_controller = post_transmitted (restarted_by v.rules v.idle_at now v.congestion_controller) now s.len; idle_at = idle_by v.rules v.idle_at now v.rtte; pending_fast_retransmit = v.pending_fast_retransmit || goes_on v }).state ≡ v.state
    go true = refl
    go false = refl

armed_state : (v : View) (now : Instant) (n : ℕ) → (tail_armed v now n).state ≡ v.state
armed_state v now n = armed_as (λ w. w.state ≡ v.state) v now n refl (λ at e. refl)

kind_state : (k : Kind) (v : View) (now : Instant) (s : Emitted) → (after_kind k v now s).state ≡ v.state
unfolding after_probe
kind_state kind.Plain v now s = armed_state (sending_timed (snd_nxt_moved v s) now s) now s.len ∙ timed_state (snd_nxt_moved v s) now s ∙ moved_state v s
kind_state kind.Probe v now s = refl
kind_state kind.KeepAlive v now s = refl

any_state : (v : View) (now : Instant) → (after_any v now).state ≡ v.state
unfolding after_any
any_state v now = refl

pub left_state : (o : Option Sending) (v : View) (now : Instant) (ok : Bool) → (left_by o v now ok).state ≡ v.state
unfolding after_sending
left_state None v now ok = refl
left_state (Some s) v now true = kind_state s.kind (after_any v now) now (emitted_as s.kind s.segment) ∙ any_state v now
left_state (Some s) v now false = refl

-- ---- how the dispatch begins

-- the timeout counts from a moment that is known
reached_knows : (d : Option Duration) (last : Option Instant) (v : View) (now : Instant) → is_reached (timeout_poll d last) now ≡ true → last_ts_set_at last v now ≡ v
reached_knows None None v now e = absurd cc
reached_knows (Some d) None v now e = absurd cc
reached_knows None (Some t) v now e = absurd cc
reached_knows (Some d) (Some t) v now e = refl

timed_out : (v : View) (now : Instant) → is_reached (timeout_poll (timeout_of v) v.remote_last_ts) now ≡ true → (after_timers (readied v now) now).state ≡ state.Closed
unfolding after_timers readied last_ts_set
timed_out v now e = rw (reached_knows (timeout_of v) v.remote_last_ts v now e, e) refl

closed_due : (u : View) (t : Tuple) (f : Facts) → u.state ≡ state.Closed → is_due u t f ≡ true
unfolding is_due
closed_due u t f is = go (is_due_by) refl
  where
    front : Bool
    front = data_due u t f || is_reached (held_poll u) (moment_of f) || window_doubled u

    is_due_by : Bool
    is_due_by = front || is_closed u.state || is_keep_alive_over u.timer (moment_of f) || is_probe_over u.timer (moment_of f)

    go : (b : Bool) → is_due_by ≡ b → is_due_by ≡ true
    go true e = e
    go false e =
        let a = or_parts (front || is_closed u.state || is_keep_alive_over u.timer (moment_of f)) (is_probe_over u.timer (moment_of f)) e in
        let b = or_parts (front || is_closed u.state) (is_keep_alive_over u.timer (moment_of f)) a.0 in
        let c = or_parts front (is_closed u.state) b.0 in
        absurd (true≢false (sym (ap is_closed is) ∙ c.1))

renewed_closed : (v : View) → (renewed v).state ≡ state.Closed
unfolding renewed fresh
renewed_closed v = refl

module _ (v : View) (f : Facts) (over : is_reached (timeout_poll (timeout_of v) v.remote_last_ts) (moment_of f) ≡ true) where
  abbrev u : View
  u = after_timers (readied v (moment_of f)) (moment_of f)

  by_pause : (b : Bool) (o : Option Tuple) → (before_emit_to (if not b then o else None) u f).view.state ≡ state.Closed
  by_pause true o = timed_out v (moment_of f) over
  by_pause false None = timed_out v (moment_of f) over
  by_pause false (Some t) = rw (closed_due u t f (timed_out v (moment_of f) over)) (timed_out v (moment_of f) over)

  by_address : (b : Bool) → (before_emit_to (peer_of (if b then unless_paused u else ended (renewed v))) (if b then unless_paused u else ended (renewed v)).view f).view.state ≡ state.Closed
  by_address true = by_pause (is_paused u.state u.synack_paused) u.tuple
  by_address false = renewed_closed v

  by_peer : (o : Option Tuple) → is_some o ≡ true → (before_emit_to (peer_of (begun_to o v f)) (begun_to o v f).view f).view.state ≡ state.Closed
  by_peer None e = absurd cc
  by_peer (Some t) e = by_address (f.has_address t.local.addr)

closed_before : (v : View) (f : Facts) → IsTimedOut v (moment_of f) → (before_emit v f).view.state ≡ state.Closed
unfolding before_emit begun
closed_before v f h = by_peer v f h.over v.tuple h.peer

-- ---- the whole

module _ {F C E G : Type 0} (g : EmitTcp F C E) (emit : F) (f : Facts) (tells : G → ℕ → Type 0) (clock : Option G) where
  state_stays : (o : Option Tuple) (u : View) (c : C) (r : Result (Unit {0}) E) (w : View) (c' : C) → EmitsTo g emit f tells clock o u c r w c' → w.state ≡ u.state
  state_stays None u c r w c' h = ap (λ (x : View). x.state) h.view
  state_stays (Some t) u c r w c' h = ap (λ (x : View). x.state) h.emits.view ∙ left_state (content u t f h.stamp h.emits.bytes) u (moment_of f) (is_ok r)

  pub timeout_ends : (v : View) (c : C) (r : Result (Unit {0}) E) (w : View) (c' : C) → Dispatches g emit f tells clock v c r w c' → IsTimedOut v (moment_of f) → IsClosed w
  unfolding Dispatches
  timeout_ends v c r w c' h t = state_stays (peer_of (before_emit v f)) (before_emit v f).view c r w c' h ∙ closed_before v f t
