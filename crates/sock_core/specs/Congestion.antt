-- The congestion controllers: what each call leaves, as functions on numbers. Counts are bytes.
use Rattle.std.specs.Prelude.{ℕ, ◌≡◌, ◌+◌, ◌-◌, ◌*◌, ◌/◌, ◌^◌, ◌==◌, nat_lt, max, min}
use Rattle.std.specs.Prelude.{Bool, true, false, ◌||◌, List, [], ◌∷◌, if◌then◌else◌, int_lt, pos}
use Rattle.net_base.specs.declared.time.Instant.{Instant}
use Rattle.sock_core.specs.CubeRoot.{cube, cube_root}
use Rattle.sock_core.specs.Cubic.{CubicNumbers}
use Rattle.sock_core.specs.Estimator.{Estimator, millis_between, srtt_of}
use Rattle.sock_core.specs.Reno.{RenoNumbers}
use Rattle.sock_core.specs.declared.congestion.AnyController.{AnyController}
use Rattle.sock_core.specs.declared.congestion.AnyController.TheVariants as controller

-- what does not fit a `usize` is cut to the greatest
abbrev pub capped : ℕ → ℕ
capped n = min n (2 ^ 64 - 1)

-- ---- Reno (RFC 5681)

abbrev pub fresh_reno : RenoNumbers
fresh_reno =
    record {
      cwnd = 2048;
      mss = 1024;
      rwnd = 65536;
      ssthresh = 2 ^ 64 - 1;
      in_timeout = false;
      in_recovery = false;
    }

-- at most the greatest window of the peer, and at least a segment
abbrev pub bounded : RenoNumbers → ℕ → ℕ
bounded r n = max r.mss (min (capped n) r.rwnd)

-- how far an acknowledgement of n bytes opens the window: in slow start by a segment, then by a segment in a round trip
abbrev pub growth : RenoNumbers → ℕ → ℕ
growth r n = if nat_lt r.cwnd r.ssthresh then min n r.mss else max 1 (capped (r.mss * r.mss) / max 1 r.cwnd)

-- the same counted in bytes (RFC 3465): in slow start by at most eight segments (RFC 9406, section 4.3), or by one
-- after a timeout, then by a segment in a window of bytes
abbrev pub most_growth : RenoNumbers → Bool → ℕ
most_growth r careful = if careful then r.mss else capped (r.mss * 8)

abbrev pub growth_in_bytes : RenoNumbers → ℕ → Bool → ℕ
growth_in_bytes r n careful =
    if nat_lt r.cwnd r.ssthresh then min n (most_growth r careful)
    else max 1 (capped (r.mss * min n r.cwnd) / max 1 r.cwnd)

-- ten segments, but no more than 14600 bytes, or two segments where these are more (RFC 6928, section 2)
abbrev pub initial_window : RenoNumbers → ℕ
initial_window r = min (capped (r.mss * 10)) (max (capped (r.mss * 2)) 14600)

-- half of what is in flight, and at least two segments
abbrev pub halved : RenoNumbers → ℕ → ℕ
halved r flight = max (flight / 2) (capped (r.mss * 2))

-- bytes are acknowledged, and open the window so far. This ends a time of timeouts and a fast recovery
abbrev pub reno_grows : RenoNumbers → ℕ → RenoNumbers
reno_grows r more =
    record r {
      in_timeout = false;
      in_recovery = false;
      cwnd = if r.in_recovery then r.ssthresh else bounded r (r.cwnd + more);
    }

-- n bytes are acknowledged
unfoldable pub reno_acked : RenoNumbers → ℕ → RenoNumbers
reno_acked r n = if n == 0 then r else reno_grows r (growth r n)

-- the same counted in bytes
unfoldable pub reno_counted : RenoNumbers → ℕ → Bool → RenoNumbers
reno_counted r n careful = if n == 0 then r else reno_grows r (growth_in_bytes r n careful)

abbrev pub reno_with_mss : RenoNumbers → ℕ → RenoNumbers
reno_with_mss r mss = record r { mss = mss }

-- a connection was opened, to a peer with this maximum segment size
abbrev pub with_initial_window : RenoNumbers → RenoNumbers
with_initial_window r = record r { cwnd = initial_window r }

unfoldable pub reno_opened : RenoNumbers → ℕ → RenoNumbers
reno_opened r mss = with_initial_window (reno_with_mss r (max mss 1))

-- nothing was sent for a retransmission timeout: the window is at most the initial one (RFC 5681, section 4.1)
unfoldable pub reno_restarted : RenoNumbers → RenoNumbers
reno_restarted r = record r { cwnd = min r.cwnd (initial_window r) }

unfoldable pub reno_dup_acked : RenoNumbers → ℕ → RenoNumbers
reno_dup_acked r n = if r.in_recovery then record r { cwnd = bounded r (r.cwnd + n) } else r

-- a fast recovery begins, with this threshold
abbrev pub reno_recovers : RenoNumbers → ℕ → RenoNumbers
reno_recovers r threshold =
    record r {
      ssthresh = threshold;
      cwnd = capped (min threshold r.rwnd + capped (r.mss * 3));
      in_recovery = true;
    }

unfoldable pub reno_lost : RenoNumbers → ℕ → RenoNumbers
reno_lost r flight = if r.in_recovery then r else reno_recovers r (halved r flight)

-- n bytes less, and a segment more where that many were acknowledged, but at least a segment
abbrev pub deflated : RenoNumbers → ℕ → ℕ
deflated r n = max r.mss (capped (r.cwnd - n + (if nat_lt n r.mss then 0 else r.mss)))

-- n bytes are acknowledged, but not all that was sent before a loss: a fast recovery goes on (RFC 6582, section 3.2,
-- step 3)
unfoldable pub reno_partially_acked : RenoNumbers → ℕ → RenoNumbers
reno_partially_acked r n = if r.in_recovery then record r { cwnd = deflated r n } else reno_acked r n

-- all begins anew with a segment, and this threshold at the first timeout
abbrev pub reno_begins_anew : RenoNumbers → ℕ → RenoNumbers
reno_begins_anew r threshold =
    record r {
      ssthresh = if r.in_timeout then r.ssthresh else threshold;
      cwnd = r.mss;
      in_timeout = true;
      in_recovery = false;
    }

unfoldable pub reno_timed_out : RenoNumbers → ℕ → RenoNumbers
reno_timed_out r flight = reno_begins_anew r (halved r flight)

abbrev pub reno_with_remote_window : RenoNumbers → ℕ → RenoNumbers
reno_with_remote_window r window = record r { rwnd = max r.rwnd window }

-- The calls with all that Reno is told: it looks at no moment and no estimator, and at what is in flight only where a
-- loss is told

unfoldable pub reno_on_ack : RenoNumbers → Instant → ℕ → ℕ → Estimator → RenoNumbers
reno_on_ack r now len flight rtte = reno_acked r len

unfoldable pub reno_on_partial_ack : RenoNumbers → Instant → ℕ → RenoNumbers
reno_on_partial_ack r now len = reno_partially_acked r len

unfoldable pub reno_on_bytes_acked : RenoNumbers → Instant → ℕ → Bool → RenoNumbers
reno_on_bytes_acked r now len careful = reno_counted r len careful

unfoldable pub reno_on_dup_ack : RenoNumbers → Instant → ℕ → ℕ → RenoNumbers
reno_on_dup_ack r now len flight = reno_dup_acked r len

unfoldable pub reno_on_rto : RenoNumbers → Instant → ℕ → RenoNumbers
reno_on_rto r now flight = reno_timed_out r flight

unfoldable pub reno_on_loss : RenoNumbers → Instant → ℕ → RenoNumbers
reno_on_loss r now flight = reno_lost r flight

unfoldable pub reno_pre_transmit : RenoNumbers → Instant → RenoNumbers
reno_pre_transmit r now = r

unfoldable pub reno_post_transmit : RenoNumbers → Instant → ℕ → RenoNumbers
reno_post_transmit r now len = r

-- how many bytes may be in the network in a fast recovery that counts what is there (RFC 6675, section 5: the window is
-- the threshold)
abbrev pub reno_recovery_window : RenoNumbers → ℕ
reno_recovery_window r = if r.in_recovery then bounded r r.ssthresh else r.cwnd

-- a loss was none: window and threshold are at least these, as before it (RFC 4015, section 3.2)
unfoldable pub reno_undone : RenoNumbers → ℕ → ℕ → RenoNumbers
reno_undone r window threshold =
    record r { cwnd = max r.cwnd window; ssthresh = max r.ssthresh threshold; in_recovery = false }

-- ---- CUBIC (RFC 9438): slow start, fast recovery and the bounds of the window are Reno's

abbrev pub fresh_cubic : CubicNumbers
fresh_cubic =
    record { reno = fresh_reno; w_max = 0; w_est = 0; epoch = record { micros = pos 0 }; k = 0 }

-- what does not fit 32 bits is cut to the greatest
abbrev pub short : ℕ → ℕ
short n = min n (2 ^ 32 - 1)

-- C * d ^ 3 in bytes, where C is 0.4 segments a second cubed and d are milliseconds, at most 2 ^ 20 (section 4.2)
abbrev pub rise : ℕ → ℕ → ℕ
rise mss d = capped (cube (min d 1048576) / 2500000 * mss) / 1000

-- W_cubic (t) = C * (t - K) ^ 3 + W_max, t milliseconds after the epoch began
abbrev pub w_cubic : CubicNumbers → ℕ → ℕ
w_cubic c t = if nat_lt t c.k then c.w_max - rise c.reno.mss (c.k - t) else c.w_max + rise c.reno.mss (t - c.k)

-- K, the cube root of (W_max - cwnd) / C, for so many bytes
abbrev pub time_to_rise : ℕ → ℕ → ℕ
time_to_rise mss bytes = cube_root (min (capped (bytes * 2500000000) / max mss 1) (2 ^ 63 - 1))

-- congestion avoidance begins (section 4.2), at the window itself where that is beyond W_max, as after a timeout
-- (section 4.8)
abbrev pub epoch_begun : CubicNumbers → Instant → CubicNumbers
epoch_begun c now =
    let w = short c.reno.cwnd in
    if c.w_est == 0 then record c {
      w_max = max c.w_max w;
      w_est = w;
      epoch = now;
      k = time_to_rise c.reno.mss (c.w_max - w);
    } else c

-- milliseconds since the epoch began; none where the clock went back
abbrev pub elapsed : CubicNumbers → Instant → ℕ
elapsed c now = if int_lt now.micros c.epoch.micros then 0 else millis_between now c.epoch

-- how far n bytes of a window of acknowledgements lead towards a window (section 4.4), which is at most half as large
-- again
abbrev pub step_towards : RenoNumbers → ℕ → ℕ → ℕ
step_towards r target n = capped ((min target (r.cwnd + r.cwnd / 2) - r.cwnd) * min n r.cwnd) / max r.cwnd 1

-- how far they lead W_est: by 9/17 of a segment in a window, and by a segment once it is where the last reduction was,
-- ten sevenths of the threshold (section 4.3)
abbrev pub est_step : CubicNumbers → ℕ → ℕ
est_step c n =
    let per = if nat_lt c.w_est (capped (c.reno.ssthresh / 7 * 10)) then 9 else 17 in
    max 1 (capped (capped (c.reno.mss * per) * min n c.reno.cwnd) / 17 / max c.reno.cwnd 1)

-- the window grows to W_est where that is beyond W_cubic (section 4.3), and else towards W_cubic a round trip later
-- (sections 4.4 and 4.5)
abbrev pub cubic_growth : CubicNumbers → ℕ → ℕ → ℕ → ℕ
cubic_growth c t rtt n =
    if nat_lt (w_cubic c t) c.w_est then c.w_est - c.reno.cwnd
    else step_towards c.reno (w_cubic c (t + rtt)) n

-- n bytes are acknowledged in congestion avoidance
abbrev pub cubic_advanced : CubicNumbers → ℕ → ℕ → ℕ → CubicNumbers
cubic_advanced c t rtt n =
    let d = record c { w_est = short (c.w_est + est_step c n) } in
    record d { reno = reno_grows c.reno (cubic_growth d t rtt n) }

abbrev pub cubic_avoided : CubicNumbers → Instant → ℕ → Estimator → CubicNumbers
cubic_avoided c now n rtte =
    let d = epoch_begun c now in
    cubic_advanced d (elapsed d now) (srtt_of rtte.smoothed) n

-- n bytes are acknowledged: in slow start and in a fast recovery the window is Reno's, which grows so far
abbrev pub cubic_grows : CubicNumbers → Instant → ℕ → ℕ → Estimator → CubicNumbers
cubic_grows c now n more rtte =
    if c.reno.in_recovery || nat_lt c.reno.cwnd c.reno.ssthresh then record c { reno = reno_grows c.reno more }
    else cubic_avoided c now n rtte

unfoldable pub cubic_acked : CubicNumbers → Instant → ℕ → Estimator → CubicNumbers
cubic_acked c now n rtte = if n == 0 then c else cubic_grows c now n (growth c.reno n) rtte

unfoldable pub cubic_counted : CubicNumbers → Instant → ℕ → Bool → Estimator → CubicNumbers
cubic_counted c now n careful rtte =
    if n == 0 then c else cubic_grows c now n (growth_in_bytes c.reno n careful) rtte

-- the threshold of a loss, seven tenths of what is in flight (section 4.6), and at least two segments
abbrev pub reduced : CubicNumbers → ℕ → ℕ
reduced c flight = max (capped (flight * 7) / 10) (capped (c.reno.mss * 2))

-- W_max of a loss: what is in flight, and 17/20 of it where that fell (fast convergence, section 4.7)
abbrev pub converged : CubicNumbers → ℕ → ℕ
converged c flight = short (if nat_lt flight c.w_max then capped (flight * 17) / 20 else flight)

unfoldable pub cubic_lost : CubicNumbers → ℕ → CubicNumbers
cubic_lost c flight =
    if c.reno.in_recovery then c
    else record c { reno = reno_recovers c.reno (reduced c flight); w_max = converged c flight; w_est = 0 }

unfoldable pub cubic_timed_out : CubicNumbers → ℕ → CubicNumbers
cubic_timed_out c flight =
    record c { reno = reno_begins_anew c.reno (reduced c flight); w_max = 0; w_est = 0 }

unfoldable pub cubic_partially_acked : CubicNumbers → Instant → ℕ → CubicNumbers
cubic_partially_acked c now n =
    record c { reno = reno_partially_acked c.reno n }

-- the time in which nothing was sent counts for nothing
unfoldable pub cubic_restarted : CubicNumbers → CubicNumbers
cubic_restarted c = record c { reno = reno_restarted c.reno; w_est = 0 }

unfoldable pub cubic_opened : CubicNumbers → ℕ → CubicNumbers
cubic_opened c mss = record c { reno = reno_opened c.reno mss; w_max = 0; w_est = 0 }

-- a loss was none, and an epoch begins with the window that was there before
unfoldable pub cubic_undone : CubicNumbers → ℕ → ℕ → CubicNumbers
cubic_undone c window threshold = record c { reno = reno_undone c.reno window threshold; w_est = 0 }

abbrev pub with_reno : CubicNumbers → RenoNumbers → CubicNumbers
with_reno c r = record c { reno = r }

-- ---- any controller

abbrev pub congestion_window : AnyController → ℕ
congestion_window (controller.None n) = 2 ^ 64 - 1
congestion_window (controller.Reno r) = r.cwnd
congestion_window (controller.Cubic c) = c.reno.cwnd

abbrev pub recovery_window : AnyController → ℕ
recovery_window (controller.None n) = 2 ^ 64 - 1
recovery_window (controller.Reno r) = reno_recovery_window r
recovery_window (controller.Cubic c) = reno_recovery_window c.reno

-- the window at which slow start ends
abbrev pub threshold_of : AnyController → ℕ
threshold_of (controller.None n) = 2 ^ 64 - 1
threshold_of (controller.Reno r) = r.ssthresh
threshold_of (controller.Cubic c) = c.reno.ssthresh

unfoldable pub undone : AnyController → ℕ → ℕ → AnyController
undone (controller.None n) window threshold = controller.None n
undone (controller.Reno r) window threshold = controller.Reno (reno_undone r window threshold)
undone (controller.Cubic c) window threshold = controller.Cubic (cubic_undone c window threshold)

-- What the calls of a controller leave. Each has all that the controller is told

unfoldable pub acked : AnyController → Instant → ℕ → ℕ → Estimator → AnyController
acked (controller.None n) now len flight rtte = controller.None n
acked (controller.Reno r) now len flight rtte = controller.Reno (reno_on_ack r now len flight rtte)
acked (controller.Cubic c) now len flight rtte = controller.Cubic (cubic_acked c now len rtte)

unfoldable pub partially_acked : AnyController → Instant → ℕ → AnyController
partially_acked (controller.None n) now len = controller.None n
partially_acked (controller.Reno r) now len = controller.Reno (reno_on_partial_ack r now len)
partially_acked (controller.Cubic c) now len = controller.Cubic (cubic_partially_acked c now len)

unfoldable pub bytes_acked : AnyController → Instant → ℕ → Bool → Estimator → AnyController
bytes_acked (controller.None n) now len careful rtte = controller.None n
bytes_acked (controller.Reno r) now len careful rtte = controller.Reno (reno_on_bytes_acked r now len careful)
bytes_acked (controller.Cubic c) now len careful rtte = controller.Cubic (cubic_counted c now len careful rtte)

unfoldable pub opened : AnyController → ℕ → AnyController
opened (controller.None n) mss = controller.None n
opened (controller.Reno r) mss = controller.Reno (reno_opened r mss)
opened (controller.Cubic c) mss = controller.Cubic (cubic_opened c mss)

unfoldable pub restarted : AnyController → AnyController
restarted (controller.None n) = controller.None n
restarted (controller.Reno r) = controller.Reno (reno_restarted r)
restarted (controller.Cubic c) = controller.Cubic (cubic_restarted c)

unfoldable pub dup_acked : AnyController → Instant → ℕ → ℕ → AnyController
dup_acked (controller.None n) now len flight = controller.None n
dup_acked (controller.Reno r) now len flight = controller.Reno (reno_on_dup_ack r now len flight)
dup_acked (controller.Cubic c) now len flight = controller.Cubic (with_reno c (reno_dup_acked c.reno len))

unfoldable pub lost : AnyController → Instant → ℕ → AnyController
lost (controller.None n) now flight = controller.None n
lost (controller.Reno r) now flight = controller.Reno (reno_on_loss r now flight)
lost (controller.Cubic c) now flight = controller.Cubic (cubic_lost c flight)

unfoldable pub timed_out : AnyController → Instant → ℕ → AnyController
timed_out (controller.None n) now flight = controller.None n
timed_out (controller.Reno r) now flight = controller.Reno (reno_on_rto r now flight)
timed_out (controller.Cubic c) now flight = controller.Cubic (cubic_timed_out c flight)

-- a segment may go out; a segment of len numbers went out
unfoldable pub pre_transmitted : AnyController → Instant → AnyController
pre_transmitted (controller.None n) now = controller.None n
pre_transmitted (controller.Reno r) now = controller.Reno (reno_pre_transmit r now)
pre_transmitted (controller.Cubic c) now = controller.Cubic c

unfoldable pub post_transmitted : AnyController → Instant → ℕ → AnyController
post_transmitted (controller.None n) now len = controller.None n
post_transmitted (controller.Reno r) now len = controller.Reno (reno_post_transmit r now len)
post_transmitted (controller.Cubic c) now len = controller.Cubic c

unfoldable pub with_mss : AnyController → ℕ → AnyController
with_mss (controller.None n) _ = controller.None n
with_mss (controller.Reno r) mss = controller.Reno (reno_with_mss r mss)
with_mss (controller.Cubic c) mss = controller.Cubic (with_reno c (reno_with_mss c.reno mss))

unfoldable pub with_remote_window : AnyController → ℕ → AnyController
with_remote_window (controller.None n) _ = controller.None n
with_remote_window (controller.Reno r) window = controller.Reno (reno_with_remote_window r window)
with_remote_window (controller.Cubic c) window = controller.Cubic (with_reno c (reno_with_remote_window c.reno window))

-- ---- lists of calls of Reno

pub data Call : Type 0 where
  SetRemoteWindow OnAck OnDupAck OnRto OnLoss SetMss : ℕ → Call

abbrev pub after_call : Call → RenoNumbers → RenoNumbers
after_call (SetRemoteWindow n) r = reno_with_remote_window r n
after_call (OnAck n) r = reno_acked r n
after_call (OnDupAck n) r = reno_dup_acked r n
after_call (OnRto n) r = reno_timed_out r n
after_call (OnLoss n) r = reno_lost r n
after_call (SetMss n) r = reno_with_mss r n

abbrev pub after_calls : List Call → RenoNumbers → RenoNumbers
after_calls [] r = r
after_calls (c ∷ cs) r = after_calls cs (after_call c r)

-- no call acknowledges new data
abbrev pub AcksNothing : List Call → Type 0
AcksNothing [] = Unit {0}
AcksNothing (OnAck n ∷ cs) = (n ≡ 0) × AcksNothing cs
AcksNothing (c ∷ cs) = AcksNothing cs

-- a timeout, these calls and another timeout, which keeps the threshold
abbrev pub KeepsThreshold : RenoNumbers → ℕ → List Call → ℕ → Type 0
KeepsThreshold r flight calls later =
    let before = after_calls calls (reno_timed_out r flight) in (reno_timed_out before later).ssthresh ≡ before.ssthresh
