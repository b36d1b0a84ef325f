-- What each step of a call keeps is kept by any list of calls.
use Rattle.std.proofs.Common.{◌||◌, ◌≡◌, ℕ, zero, suc, ◌≤◌, ◌<◌, ◌^◌, Bool, true, false, true≢false, ◌&&◌, refl, sym, ap, subst, ◌∙◌, List, length, ◌+◌, Option, Some, None, Result, Ok, Err, arith}
use Rattle.std.specs.Prelude.{if◌then◌else◌, ◌==◌, pos}
use Rattle.std.specs.Option.{ForSome}
use Rattle.std.proofs.lemmas.Bool.{and_parts, eqb-true}
use Rattle.ip_wire.specs.declared.endpoint.IpListenEndpoint.{IpListenEndpoint}
use Rattle.ip_wire.specs.declared.repr.IpRepr.{IpRepr}
use Rattle.net_base.specs.Ring.{Ring}
use Rattle.net_base.specs.declared.time.Duration.{Duration}
use Rattle.net_base.specs.declared.time.Instant.{Instant}
use Rattle.control_wire.specs.Segment.{Segment}
use Rattle.sock_core.specs.Congestion.{post_transmitted}
use Rattle.sock_core.specs.Facts.{Facts}
use Rattle.sock_core.specs.Received.{receiving}
use Rattle.sock_tcp.proofs.Arming.{armed_as}
use Rattle.sock_tcp.proofs.Lending.{free_within}
pub use Rattle.sock_tcp.proofs.KeptSegments.{acked_view, timer_then, heard_kept, KeptByAnswers, challenged_kept, outside_kept, bytes_kept, KeptByRows, rows_kept, KeptBySegments, process_kept}
use Rattle.sock_tcp.specs.Advance.{dropped}
use Rattle.sock_tcp.specs.Begin.{last_ts_set, last_ts_set_at, told_ready, readied, retransmission_begun, fast_retransmission_marked, after_timer, after_timers, begun, begun_to, unless_paused, ended, nothing_due, by_due, before_emit, before_emit_to, peer_of, time_wait_ended, probing_begun, timers_by}
use Rattle.sock_tcp.specs.Closing.{aborted, closed}
use Rattle.sock_tcp.specs.Content.{Sending, carries_data}
use Rattle.tcp_laws.proofs.Narrowing.{narrowed_as}
use Rattle.sock_tcp.specs.Due.{is_due}
use Rattle.sock_tcp.specs.Opening.{Listens, after_connect, connected, endpoints, is_listening, is_open, listened, renewed}
use Rattle.sock_tcp.specs.PathMtu.{all_sent_again, shortened}
use Rattle.sock_tcp.specs.Polls.{is_reached, timeout_poll}
use Rattle.sock_tcp.specs.Rfc.UserTimeout.{timeout_of}
use Rattle.sock_tcp.specs.Process.{processed_by}
use Rattle.sock_tcp.specs.Queue.{queue_of}
use Rattle.sock_tcp.specs.Queues.{ReadsWithIf, SendsWithIf, fitting, may_recv, may_send, queued, read_off, readable}
use Rattle.sock_tcp.specs.Rfc.TailLoss.{is_alone, is_retransmission_over, may_probe_by, may_speak, probes_tail, sooner, tail_probed, tail_wait}
use Rattle.sock_tcp.specs.Rfc.RoundTrips.{sending_measured}
use Rattle.sock_tcp.specs.Sent.{goes_on, after_any, after_kind, after_probe, after_sending, emitted_as, left_by, sending_timed, snd_nxt_moved}
use Rattle.sock_tcp.specs.Timers.{after, is_close_over, is_over, retransmit_unless_set}
use Rattle.sock_tcp.specs.Rfc.Idle.{idle_by, restarted_by}
use Rattle.sock_tcp.specs.View.{View, fresh, moment_of}
use Rattle.sock_tcp.specs.declared.emission.Emitted.{Emitted}
use Rattle.sock_tcp.specs.declared.emission.Kind.{Kind}
use Rattle.sock_tcp.specs.declared.emission.Kind.TheVariants as kind
use Rattle.sock_tcp.specs.declared.error.ConnectError.{ConnectError}
use Rattle.sock_tcp.specs.declared.error.ListenError.{ListenError}
use Rattle.sock_tcp.specs.declared.error.RecvError.{RecvError}
use Rattle.sock_tcp.specs.declared.error.SendError.{SendError}
use Rattle.sock_tcp.specs.declared.state.State.{State}
use Rattle.sock_tcp.specs.declared.state.State.TheVariants as state
use Rattle.sock_tcp.specs.declared.timer.Timer.{Timer}
use Rattle.sock_tcp.specs.declared.timer.Timer.TheVariants as timer
use Rattle.sock_tcp.specs.declared.tuple.Tuple.{Tuple}
use Rattle.tcp_laws.specs.Clocks.{interval_in, interval_set, latest, moment_in}
use Rattle.tcp_laws.specs.Polling.{IsReached}
use Rattle.tcp_laws.specs.SocketRun.{Counts, IsNumbered, Run, SendsTo, Sets, Step, any_filling, any_taking}
use Rattle.tcp_laws.specs.SocketRun.{Listen, Connect, SendSlice, Send, WriteStr, RecvSlice, Recv, Close, Abort, Set, SetPathMtu, Process, Dispatch, Ends, Then}
use Rattle.sock_tcp.specs.declared.rules.Rules.{Rules}
use Rattle.sock_tcp.specs.declared.rules.Rules.TheVariants as rules

-- ---- what a test says

pub listening_is : (st : State) → is_listening st ≡ true → st ≡ state.Listen
listening_is state.Listen e = refl
listening_is _ e = absurd cc

pub not_zero : (n : ℕ) → (n == 0) ≡ false → 0 < n
not_zero zero e = absurd cc
not_zero (suc n) e = omega arith

-- ---- a dispatch

-- by what a dispatch does before the emit
pub record KeptByBeginnings (P : View → Type 0) (now : Instant) : Type 0 where
  pub remembers : (v : View) → P v → P (record v { remote_last_ts = Some now })
  pub tells : (v : View) → P v → P (told_ready v now)
  pub times_out : (v : View) → P v → P (record v { state = state.Closed })
  pub forgets : (v : View) → P v → P (dropped v)
  pub begins_again : (v : View) (at : Instant) → v.timer ≡ timer.Retransmit at → P v → P (retransmission_begun v now)
  pub marks : (v : View) → v.timer ≡ timer.FastRetransmit → P v → P (fast_retransmission_marked v now)
  pub goes_back : (v : View) (at : Instant) (delay : Duration) → v.timer ≡ timer.ZeroWindowProbe at delay → P v → P (probing_begun rules.Rfc v)
  pub probes_tail : (v : View) (at : Instant) → v.timer ≡ timer.Retransmit at → P v → P (tail_probed v now)

module _ (P : View → Type 0) (now : Instant) (k : KeptByBeginnings P now) where
  pub readied_kept : (v : View) → P v → P (readied v now)
  unfolding readied last_ts_set
  readied_kept v h = go v.remote_last_ts
    where
      go : (o : Option Instant) → P (told_ready (last_ts_set_at o v now) now)
      go None = k.tells _ (k.remembers v h)
      go (Some at) = k.tells v h

  timer_kept : (t : Timer) (v : View) → v.timer ≡ t → P v → P (after_timer t v now)
  timer_kept (timer.Retransmit at) v e h = go (is_over at now)
    where
      go : (b : Bool) → P (if b then retransmission_begun v now else v)
      go true = k.begins_again v at e h
      go false = h
  timer_kept timer.FastRetransmit v e h = k.marks v e h
  timer_kept (timer.ZeroWindowProbe at delay) v e h = go (is_over at now)
    where
      by_rules : (r : Rules) → P (probing_begun r v)
      by_rules rules.Smoltcp = h
      by_rules rules.Rfc = k.goes_back v at delay e h

      go : (b : Bool) → P (if b then probing_begun v.rules v else v)
      go true = by_rules v.rules
      go false = h
  timer_kept _ v e h = h

  pub timers_kept : (v : View) → P v → P (after_timers v now)
  unfolding after_timers
  timers_kept v h = go (is_reached (timeout_poll (timeout_of v) v.remote_last_ts) now)
    where
      probed : (t : Timer) → v.timer ≡ t → (b : Bool) → (may_probe_by v.rules (may_speak v) && is_retransmission_over t now) ≡ b → P (timers_by b v now)
      probed (timer.Retransmit at) e true i = k.probes_tail v at e h
      probed t e true i = absurd (true≢false (sym (and_parts (may_probe_by v.rules (may_speak v)) (is_retransmission_over t now) i).1))
      probed t e false i = timer_kept v.timer v refl h

      go : (b : Bool) → P (if b then record v { state = state.Closed } else timers_by (probes_tail v now) v now)
      go true = k.times_out v h
      go false = probed v.timer refl (probes_tail v now) refl

-- and by a reset
module _ (P : View → Type 0) (f : Facts) (k : KeptByBeginnings P (moment_of f)) (resets : (v : View) → P v → P (renewed v)) where
  abbrev now : Instant
  now = moment_of f

  begun_kept : (o : Option Tuple) (v : View) → P v → P (begun_to o v f).view
  begun_kept None v h = h
  begun_kept (Some t) v h = go (f.has_address t.local.addr)
    where
      go : (b : Bool) → P (if b then unless_paused (after_timers (readied v now) now) else ended (renewed v)).view
      go true = timers_kept P now k (readied v now) (readied_kept P now k v h)
      go false = resets v h

  ends_kept : (o : Option Tuple) (u : View) → P u → P (before_emit_to o u f).view
  unfolding nothing_due
  ends_kept None u h = h
  ends_kept (Some t) u h = go (is_due u t f)
    where
      by_rules : (r : Rules) → P (time_wait_ended r u)
      by_rules rules.Smoltcp = resets u h
      by_rules rules.Rfc = k.forgets u h

      over : (b : Bool) → P (if b then time_wait_ended u.rules u else u)
      over true = by_rules u.rules
      over false = h

      go : (b : Bool) → P (by_due b u f).view
      go true = h
      go false = over (is_close_over u.timer now)

  pub before_kept : (v : View) → P v → P (before_emit v f).view
  unfolding before_emit begun
  before_kept v h = ends_kept (peer_of (begun_to v.tuple v f)) (begun_to v.tuple v f).view (begun_kept v.tuple v h)

-- and by what a segment that goes out leaves, whatever it is
pub record KeptBySending (P : View → Type 0) (now : Instant) : Type 0 where
  pub renews : (u : View) → P u → P (after_any u now)
  pub moves : (u : View) (e : Emitted) → P u → P (snd_nxt_moved u e)
  pub times : (u : View) (e : Emitted) → P u → P (record u { rtte = sending_measured u now e; timer = retransmit_unless_set u.timer now u.rtte; congestion_controller = post_transmitted (restarted_by u.rules u.idle_at now u.congestion_controller) now e.len; idle_at = idle_by u.rules u.idle_at now u.rtte; pending_fast_retransmit = u.pending_fast_retransmit || goes_on u })
  pub probes : (u : View) → P u → P (after_probe u now)
  pub arms : (u : View) (at : Instant) → u.timer ≡ timer.Retransmit at → P u → P (record u { timer = timer.Retransmit (sooner at (after now (tail_wait u.rtte (is_alone u)))) })

module _ (P : View → Type 0) (now : Instant) (k : KeptBySending P now) where
  timed_kept : (u : View) (e : Emitted) → P u → P (sending_timed u now e)
  unfolding sending_timed
  timed_kept u e h = go (e.len == 0)
    where
      go : (b : Bool) → P (if b then u else record u { rtte = sending_measured u now e; timer = retransmit_unless_set u.timer now u.rtte; congestion_controller = post_transmitted (restarted_by u.rules u.idle_at now u.congestion_controller) now e.len; idle_at = idle_by u.rules u.idle_at now u.rtte; pending_fast_retransmit = u.pending_fast_retransmit || goes_on u })
      go true = h
      go false = k.times u e h

  kind_kept : (x : Kind) (u : View) (e : Emitted) → P u → P (after_kind x u now e)
  kind_kept kind.Plain u e h =
      let v = sending_timed (snd_nxt_moved u e) now e in
      let i = timed_kept (snd_nxt_moved u e) e (k.moves u e h) in
      armed_as P v now e.len i (λ at t. k.arms v at t i)
  kind_kept kind.Probe u e h = k.probes u h
  kind_kept kind.KeepAlive u e h = h

  pub left_kept : (o : Option Sending) (ok : Bool) (u : View) → P u → P (left_by o u now ok)
  unfolding after_sending
  left_kept None ok u h = h
  left_kept (Some s) true u h = kind_kept s.kind (after_any u now) (emitted_as s.kind s.segment) (k.renews u h)
  left_kept (Some s) false u h = h

pub sends_kept : (P : View → Type 0) (f : Facts) → KeptBySending P (moment_of f) → (o : Option Tuple) (u w : View) (out : Option Sending) → SendsTo o f u out w → P u → P w
sends_kept P f k None u w out h i = subst P (sym h.1) i
sends_kept P f k (Some t) u w out h i = subst P (sym h.view) (left_kept P (moment_of f) k out h.ok u i)

-- ---- the other calls

-- and by them, where the interval that a call sets is one of those that are allowed
pub record KeptByCalls (P : View → Type 0) (Allows : Option Duration → Type 0) : Type 0 where
  pub queues : (v : View) (n : ℕ) (bs : List ℕ) → may_send v.state ≡ true → n ≤ v.tx_buffer.window → P v → P (queued v n bs)
  pub reads : (v : View) (n : ℕ) → P v → P (read_off v n)
  pub connects : (v : View) (t : Tuple) (word : ℕ) → word < 2 ^ 32 → P v → P (connected v t word)
  pub listens : (v : View) (e : IpListenEndpoint) → P v → P (listened v e)
  pub decided : (v w : View) → v.state ≡ state.Listen → ((w ≡ v → ⊥) → ⊥) → P v → P w
  pub closes : (v : View) → P v → P (closed v)
  pub aborts : (v : View) → P v → P (aborted v)
  pub sets : (v w : View) (x : Sets v w) → Allows (interval_set x) → P v → P w

-- by all of them but the setters
pub record KeptByUses (P : View → Type 0) : Type 0 where
  pub queues : (v : View) (n : ℕ) (bs : List ℕ) → may_send v.state ≡ true → n ≤ v.tx_buffer.window → P v → P (queued v n bs)
  pub reads : (v : View) (n : ℕ) → P v → P (read_off v n)
  pub connects : (v : View) (t : Tuple) (word : ℕ) → word < 2 ^ 32 → P v → P (connected v t word)
  pub listens : (v : View) (e : IpListenEndpoint) → P v → P (listened v e)
  pub decided : (v w : View) → v.state ≡ state.Listen → ((w ≡ v → ⊥) → ⊥) → P v → P w

abbrev uses : (P : View → Type 0) (Allows : Option Duration → Type 0) → KeptByCalls P Allows → KeptByUses P
uses P Allows k = record { queues = k.queues; reads = k.reads; connects = k.connects; listens = k.listens; decided = k.decided }

module _ (P : View → Type 0) (k : KeptByUses P) where
  pub slice_kept : (v w : View) (bs : List ℕ) (b : Bool) → may_send v.state ≡ b → w ≡ (if b then queued v (fitting v (length bs)) bs else v) → P v → P w
  slice_kept v w bs true may e h = subst P (sym e) (k.queues v (fitting v (length bs)) bs may (omega arith) h)
  slice_kept v w bs false may e h = subst P (sym e) h

  pub closure_kept : (may : Bool) (v w : View) (r : Result (Unit {0}) SendError) → may_send v.state ≡ may → SendsWithIf may any_filling v r w → P v → P w
  closure_kept true v w (Ok x) may h i = subst P (sym h.view) (k.queues v h.size h.left may (omega (arith, h.size_within, free_within v.tx_buffer)) i)
  closure_kept true v w (Err e) may h i = absurd h
  closure_kept false v w (Ok x) may h i = absurd h
  closure_kept false v w (Err e) may h i = subst P (sym h.1) i

  pub slice_read_kept : (v w : View) (n : ℕ) (b : Bool) → w ≡ (if b then read_off v n else v) → P v → P w
  slice_read_kept v w n true e h = subst P (sym e) (k.reads v n h)
  slice_read_kept v w n false e h = subst P (sym e) h

  pub closure_read_kept : (may : Bool) (v w : View) (r : Result (Unit {0}) RecvError) → ReadsWithIf may any_taking v r w → P v → P w
  closure_read_kept true v w (Ok x) h i = subst P (sym h.view) (k.reads v h.size i)
  closure_read_kept true v w (Err e) h i = absurd h
  closure_read_kept false v w (Ok x) h i = absurd h
  closure_read_kept false v w (Err e) h i = subst P (sym h.1) i

  pub connect_kept : (x : Result Tuple ConnectError) (v : View) (word : ℕ) → word < 2 ^ 32 → P v → P (after_connect x v word)
  connect_kept (Ok t) v word small h = k.connects v t word small h
  connect_kept (Err e) v word small h = h

  pub listen_kept : (v w : View) (e : IpListenEndpoint) (r : Result (Unit {0}) ListenError) → Listens v e r w → P v → P w
  listen_kept v w e r l h = port (e.port == 0) refl
    where
      -- what is asked in LISTEN can be decided
      waiting : (b : Bool) → is_listening v.state ≡ b → 0 < e.port → is_open v.state ≡ true → P w
      waiting true i p o =
          let is : v.state ≡ state.Listen = listening_is v.state i in
          k.decided v w is (λ n. n (l.other p is (λ q. n (l.again p is q).1)).1) h
      waiting false i p o = subst P (sym (l.busy p o (λ q. true≢false (sym (ap is_listening q) ∙ i))).1) h

      opened : (b : Bool) → is_open v.state ≡ b → 0 < e.port → P w
      opened true o p = waiting (is_listening v.state) refl p o
      opened false o p = subst P (sym (l.opens p o).1) (k.listens v e h)

      port : (b : Bool) → (e.port == 0) ≡ b → P w
      port true z = subst P (sym (l.no_port (eqb-true e.port 0 z)).1) h
      port false z = opened (is_open v.state) refl (not_zero e.port z)

-- ---- any call

-- P, of the latest moment told, is kept by every call, where each moment comes after the last one
pub record Kept (P : Instant → View → Type 0) (Begins : Instant → Type 0) (Comes : Instant → Instant → Type 0) (Allows : Option Duration → Type 0) : Type 0 where
  pub later : (last now : Instant) (v : View) → Comes last now → P last v → P now v
  pub calls : (last : Instant) → Begins last → KeptByCalls (P last) Allows
  pub segments : (r : Rules) (now : Instant) (word : ℕ) (ip : IpRepr) (s : Segment) (v : View) → word < 2 ^ 32 → IsNumbered s → (v.state ≡ state.Listen → s.ack_number ≡ None) → P now v → P now (processed_by r v now word ip s).view
  pub beginnings : (now : Instant) → KeptByBeginnings (P now) now
  pub resets : (now : Instant) (v : View) → P now v → P now (renewed v)
  pub sendings : (o : Option Tuple) (f : Facts) (u w : View) (out : Option Sending) → SendsTo o f u out w → P (moment_of f) u → P (moment_of f) w
  pub shortens : (now : Instant) (v : View) (mss : ℕ) → (48 ≤ v.remote_mss → 48 ≤ mss) → P now v → P now (shortened v mss)
  pub repeats : (now : Instant) (v : View) → carries_data v.state ≡ true → P now v → P now (all_sent_again v now)

module _ (P : Instant → View → Type 0) (Begins : Instant → Type 0) (Comes : Instant → Instant → Type 0) (Allows : Option Duration → Type 0) (k : Kept P Begins Comes Allows) where
  pub step_kept : (v w : View) (i j : Counts) (last : Instant) (s : Step v i w j) → Begins last → ForSome (moment_in s) (Comes last) → Allows (interval_in s) → P last v → P (latest (moment_in s) last) w
  step_kept v w i j last (Listen e r h is) b n m p = listen_kept (P last) (uses (P last) Allows (k.calls last b)) v w e r h p
  step_kept v w i j last (Connect f word remote local small h is) b n m p = subst (P last) (sym h) (connect_kept (P last) (uses (P last) Allows (k.calls last b)) (endpoints v f remote local) v word small p)
  step_kept v w i j last (SendSlice bs r h is) b n m p = slice_kept (P last) (uses (P last) Allows (k.calls last b)) v w bs (may_send v.state) refl h.view p
  step_kept v w i j last (Send r h is) b n m p = closure_kept (P last) (uses (P last) Allows (k.calls last b)) (may_send v.state) v w r refl h p
  step_kept v w i j last (WriteStr bs all h is) b n m p = slice_kept (P last) (uses (P last) Allows (k.calls last b)) v w bs (may_send v.state) refl h.view p
  step_kept v w i j last (RecvSlice bs bs' r h is) b n m p = slice_read_kept (P last) (uses (P last) Allows (k.calls last b)) v w (readable v (length bs)) (may_recv v) h.view p
  step_kept v w i j last (Recv r h is) b n m p = closure_read_kept (P last) (uses (P last) Allows (k.calls last b)) (may_recv v) v w r h p
  step_kept v w i j last (Close h is) b n m p = subst (P last) (sym h) ((k.calls last b).closes v p)
  step_kept v w i j last (Abort h is) b n m p = subst (P last) (sym h) ((k.calls last b).aborts v p)
  step_kept v w i j last (Set x is) b n m p = (k.calls last b).sets v w x m p
  step_kept v w i j last (SetPathMtu now mtu h is) b n m p =
      let u = k.later last now v (n now refl) p in
      subst (P now) (sym h) (narrowed_as (P now) v now mtu u (λ mss le. k.shortens now v mss le u) (λ x e y. k.repeats now x e y))
  step_kept v w i j last (Process r now word ip s small numbered short bare h is) b n m p = subst (P now) (sym h) (k.segments r now word ip s v small numbered bare (k.later last now v (n now refl) p))
  step_kept v w i j last (Dispatch f out h is) b n m p =
      let now = moment_of f in
      k.sendings (peer_of (before_emit v f)) f (before_emit v f).view w out h (before_kept (P now) f (k.beginnings now) (k.resets now) v (k.later last now v (n now refl) p))

-- and what holds of a socket, whatever the clock says, holds after any list of calls on a new one
module _ (P : View → Type 0) (k : Kept (λ at. P) (λ at. Unit {0}) (λ last now. Unit {0}) (λ d. Unit {0})) where
  run_kept : (v w : View) (i j : Counts) → Run v i w j → P v → P w
  run_kept v w i j (Ends _ _) h = h
  run_kept v w i j (Then _ u _ _ l _ s r) h = run_kept u w l j r (step_kept (λ at. P) (λ at. Unit {0}) (λ last now. Unit {0}) (λ d. Unit {0}) k v u i l (record { micros = pos 0 }) s tt (λ now e. tt) tt h)

  pub reached_kept : ((rx tx : Ring ℕ) → length tx.queue + length tx.spare ≤ 2 ^ 30 → P (fresh (receiving rx) (queue_of tx))) → (v : View) → IsReached v → P v
  reached_kept new v r = run_kept _ v _ r.counts r.run (new r.rx r.tx r.tx_size)
