-- What holds between any two calls of SND.UNA, SND.NXT, the transmit queue and the timer, by state.
use Rattle.std.proofs.Common.{◌≡◌, ℕ, ◌+◌, ◌-◌, ◌*◌, ◌<◌, ◌≤◌, ◌^◌, Bool, true, false, ◌||◌, nat_lt, refl, sym, subst, Option, Some, None, is_some, length, arith}
use Rattle.std.specs.Prelude.{if◌then◌else◌, ◌==◌, max, min}
use Rattle.net_base.specs.declared.time.Duration.{Duration}
use Rattle.net_base.specs.declared.time.Instant.{Instant}
use Rattle.control_wire.specs.Seq.{seq_sub}
use Rattle.control_wire.specs.declared.seq_number.TcpSeqNumber.{TcpSeqNumber}
use Rattle.sock_core.specs.Congestion as congestion
use Rattle.sock_core.specs.Estimator.{Estimator}
use Rattle.sock_core.specs.Cubic.{CubicNumbers}
use Rattle.sock_core.specs.Reno.{RenoNumbers}
use Rattle.sock_core.specs.Seq.{is_before, later_of}
use Rattle.sock_core.specs.declared.congestion.AnyController.{AnyController}
use Rattle.sock_core.specs.declared.congestion.AnyController.TheVariants as controller
use Rattle.sock_tcp.specs.Rfc.Idle.{restarted_by, was_idle}
use Rattle.sock_tcp.specs.declared.rules.Rules.{Rules}
use Rattle.sock_tcp.specs.declared.rules.Rules.TheVariants as rules
use Rattle.sock_tcp.specs.Advance.{controller_taken}
use Rattle.sock_tcp.specs.Closing.{closed_from}
use Rattle.sock_tcp.specs.Queue.{Queue, capacity}
use Rattle.sock_tcp.specs.Settings.{of_kind}
use Rattle.sock_tcp.specs.Steps.{begins_probe, probe_ended, probe_set, timer_acked}
use Rattle.sock_tcp.specs.Timers.{idle_from, probe_from, retransmit_from}
use Rattle.sock_tcp.specs.View.{View}
use Rattle.sock_tcp.specs.declared.acked.Acked.{Acked}
use Rattle.sock_tcp.specs.declared.settings.CongestionControl.{CongestionControl}
use Rattle.sock_tcp.specs.declared.settings.CongestionControl.TheVariants as kind
use Rattle.sock_tcp.specs.declared.state.State.{State}
use Rattle.sock_tcp.specs.declared.state.State.TheVariants as state
use Rattle.sock_tcp.specs.declared.timer.Timer.{Timer}
use Rattle.sock_tcp.specs.declared.timer.Timer.TheVariants as timer
use Rattle.sock_tcp.specs.declared.tuple.Tuple.{Tuple}
use Rattle.sock_tcp.proofs.Windows.{far, not_far}

-- ---- the invariant

abbrev pub is_close : Timer → Bool
is_close (timer.Close at) = true
is_close t = false

-- with a keep-alive interval an idle timer has a moment
abbrev pub HasMoment : Timer → Option Duration → Type 0
HasMoment (timer.Idle None) keep = keep ≡ None
HasMoment t keep = Unit {0}

-- the SYN is unsent, or waited for
abbrev pub IsOpening : Timer → ℕ → Type 0
IsOpening (timer.Idle at) flight = flight ≡ 0
IsOpening (timer.Retransmit at) flight = Unit {0}
IsOpening t flight = ⊥

-- by state, with what is in flight and the length of the transmit queue
abbrev pub Row : State → Timer → Option Duration → ℕ → ℕ → Type 0
Row state.Closed t keep flight n = Unit {0}
Row state.Listen t keep flight n = n ≡ 0
Row state.SynSent t keep flight n = IsOpening t flight × (n ≡ 0)
Row state.SynReceived t keep flight n = HasMoment t keep × (n ≡ 0) × (flight ≤ 1)
Row state.Established t keep flight n = HasMoment t keep × (flight ≤ n)
Row state.CloseWait t keep flight n = HasMoment t keep × (flight ≤ n)
Row state.FinWait1 t keep flight n = HasMoment t keep × (flight ≤ n + 1)
Row state.Closing t keep flight n = HasMoment t keep × (flight ≤ n + 1)
Row state.LastAck t keep flight n = HasMoment t keep × (flight ≤ n + 1)
Row state.FinWait2 t keep flight n = HasMoment t keep × (n ≡ 0) × (flight ≡ 0)
Row state.TimeWait t keep flight n = (is_close t ≡ true) × (n ≡ 0) × (flight ≡ 0)

-- every state but CLOSED and LISTEN has a peer, and LISTEN has none
abbrev pub IsPeeredIn : State → Option Tuple → Type 0
IsPeeredIn state.Closed o = Unit {0}
IsPeeredIn state.Listen o = o ≡ None
IsPeeredIn _ o = is_some o ≡ true

-- the congestion window never closes
pub record RenoOpen (r : RenoNumbers) : Type 0 where
  pub cwnd : 0 < r.cwnd
  pub mss : 0 < r.mss
  pub ssthresh : 0 < r.ssthresh

abbrev pub IsOpen : AnyController → Type 0
IsOpen (controller.None n) = Unit {0}
IsOpen (controller.Reno r) = RenoOpen r
IsOpen (controller.Cubic c) = RenoOpen c.reno

pub record Ordered (st : State) (t : Timer) (keep : Option Duration) (peer : Option Tuple) (una nxt : TcpSeqNumber) (q : Queue) (c : AnyController) : Type 0 where
  pub una_small : una.0 < 2 ^ 32
  pub nxt_small : nxt.0 < 2 ^ 32
  pub room : capacity q ≤ 2 ^ 30
  pub congestion : IsOpen c
  pub peered : IsPeeredIn st peer
  pub row : Row st t keep (seq_sub nxt una) (length q.bytes)

abbrev pub IsOrdered : View → Type 0
IsOrdered v = Ordered v.state v.timer v.keep_alive v.tuple v.local_seq_no v.remote_last_seq v.tx_buffer v.congestion_controller

-- ---- a close

pub closed_row : (v : View) (st : State) → IsPeeredIn st v.tuple → Row st v.timer v.keep_alive (seq_sub v.remote_last_seq v.local_seq_no) (length v.tx_buffer.bytes) → IsPeeredIn (closed_from st) v.tuple × Row (closed_from st) v.timer v.keep_alive (seq_sub v.remote_last_seq v.local_seq_no) (length v.tx_buffer.bytes)
closed_row v state.Listen p r = (tt, tt)
closed_row v state.SynSent p r = (tt, tt)
closed_row v state.SynReceived p r = (p, (r.0, omega (arith, r.2)))
closed_row v state.Established p r = (p, (r.0, omega (arith, r.1)))
closed_row v state.CloseWait p r = (p, (r.0, omega (arith, r.1)))
closed_row v _ p r = (p, r)

pub closed_ordered : (v : View) → IsOrdered v → IsOrdered (record v { state = closed_from v.state })
closed_ordered v h = let c = closed_row v v.state h.peered h.row in record { una_small = h.una_small; nxt_small = h.nxt_small; room = h.room; congestion = h.congestion; peered = c.0; row = c.1 }

-- ---- numbers

-- what is in flight once k is acknowledged
pub left_in_flight : (nxt k una : TcpSeqNumber) → nxt.0 < 2 ^ 32 → k.0 < 2 ^ 32 → una.0 < 2 ^ 32 → seq_sub nxt una < 2 ^ 31 → seq_sub k una < 2 ^ 31 → seq_sub (later_of nxt k) k ≡ seq_sub nxt una - seq_sub k una
unfolding later_of
left_in_flight nxt k una hn hk hu fn fk = go (is_before nxt k) refl
  where
    go : (b : Bool) → is_before nxt k ≡ b → seq_sub (if b then k else nxt) k ≡ seq_sub nxt una - seq_sub k una
    go true e = omega (arith, far nxt k e)
    go false e = omega (arith, not_far nxt k e)

pub less_in_flight : (k nxt una : TcpSeqNumber) → k.0 < 2 ^ 32 → nxt.0 < 2 ^ 32 → una.0 < 2 ^ 32 → seq_sub nxt una < 2 ^ 31 → seq_sub k una < 2 ^ 31 → is_before k nxt ≡ true → seq_sub k una < seq_sub nxt una
less_in_flight k nxt una hk hn hu fn fk e = omega (arith, far k nxt e)

pub later_small : (a b : TcpSeqNumber) → a.0 < 2 ^ 32 → b.0 < 2 ^ 32 → (later_of a b).0 < 2 ^ 32
unfolding later_of
later_small a b ha hb = go (is_before a b)
  where
    go : (t : Bool) → (if t then b else a).0 < 2 ^ 32
    go true = hb
    go false = ha

-- neither of two numbers lies further off, nor does the later one
pub later_within : (a b una : TcpSeqNumber) (n : ℕ) → seq_sub a una ≤ n → seq_sub b una ≤ n → seq_sub (later_of a b) una ≤ n
unfolding later_of
later_within a b una n ha hb = go (is_before a b)
  where
    go : (t : Bool) → seq_sub (if t then b else a) una ≤ n
    go true = hb
    go false = ha

pub no_distance : (una : TcpSeqNumber) → una.0 < 2 ^ 32 → seq_sub una una ≡ 0
no_distance una h = omega arith

-- ---- timers

pub idle_has_moment : (now : Instant) (keep : Option Duration) → HasMoment (idle_from now keep) keep
idle_has_moment now None = refl
idle_has_moment now (Some d) = tt

module _ (now : Instant) (a : Acked) where
  acked_has_moment : (t : Timer) (v : View) → HasMoment (timer_acked t v now a) v.keep_alive
  acked_has_moment t v = by t
    where
      waits : (t : Timer) → HasMoment t v.keep_alive → (all : Bool) (none : Bool) → HasMoment (if all then idle_from now v.keep_alive else (if none then t else retransmit_from now v.rtte)) v.keep_alive
      waits t h true none = idle_has_moment now v.keep_alive
      waits t h false true = h
      waits t h false false = tt

      by : (t : Timer) → HasMoment (timer_acked t v now a) v.keep_alive
      by (timer.Idle at) = idle_has_moment now v.keep_alive
      by (timer.Retransmit at) = waits (timer.Retransmit at) tt a.all (a.len == 0)
      by timer.FastRetransmit = waits timer.FastRetransmit tt a.all (a.len == 0)
      by (timer.ZeroWindowProbe at delay) = tt
      by (timer.Close at) = tt

  probed_has_moment : (t : Timer) (v : View) → HasMoment t v.keep_alive → HasMoment (probe_set t v now a) v.keep_alive
  probed_has_moment t v h = go (v.remote_win_len == 0)
    where
      begins : (b : Bool) → HasMoment (if b then probe_from now v.rtte else t) v.keep_alive
      begins true = tt
      begins false = h

      ends : (t : Timer) → HasMoment t v.keep_alive → HasMoment (probe_ended t v now) v.keep_alive
      ends (timer.ZeroWindowProbe at delay) h = idle_has_moment now v.keep_alive
      ends _ h = h

      go : (b : Bool) → HasMoment (if b then (if begins_probe t v a then probe_from now v.rtte else t) else probe_ended t v now) v.keep_alive
      go true = begins (begins_probe t v a)
      go false = ends t h

  pub set_has_moment : (t : Timer) (v : View) → HasMoment (probe_set (timer_acked t v now a) v now a) v.keep_alive
  set_has_moment t v = probed_has_moment (timer_acked t v now a) v (acked_has_moment t v)

  -- TIME-WAIT's timer stays, where no bytes are in the queue
  pub close_stays : (t : Timer) (v : View) → is_close t ≡ true → length v.tx_buffer.bytes ≡ 0 → is_close (probe_set (timer_acked t v now a) v now a) ≡ true
  close_stays (timer.Close at) v e z = go (v.remote_win_len == 0)
    where
      go : (b : Bool) → is_close (if b then (if begins_probe (timer.Close at) v a then probe_from now v.rtte else timer.Close at) else timer.Close at) ≡ true
      go true = rw z refl
      go false = refl
  close_stays (timer.Idle at) v e z = absurd cc
  close_stays (timer.Retransmit at) v e z = absurd cc
  close_stays timer.FastRetransmit v e z = absurd cc
  close_stays (timer.ZeroWindowProbe at delay) v e z = absurd cc

-- ---- the congestion window

module _ (r : RenoNumbers) (h : RenoOpen r) where
  fits_word : (n : ℕ) → 0 < n → 0 < congestion.capped n
  fits_word n p = omega (arith, p)

  bounded_open : (n : ℕ) → 0 < congestion.bounded r n
  bounded_open n = omega (arith, h.mss)

  halved_open : (flight : ℕ) → 0 < congestion.halved r flight
  halved_open flight = omega (arith, h.mss)

  reno_grows_open : (b : Bool) (more : ℕ) → RenoOpen (if b then r else congestion.reno_grows r more)
  reno_grows_open true more = h
  reno_grows_open false more = record { cwnd = window r.in_recovery; mss = h.mss; ssthresh = h.ssthresh }
    where
      window : (b : Bool) → 0 < (if b then r.ssthresh else congestion.bounded r (r.cwnd + more))
      window true = h.ssthresh
      window false = bounded_open (r.cwnd + more)

  reno_acked_open : (n : ℕ) → RenoOpen (congestion.reno_acked r n)
  unfolding congestion.reno_acked
  reno_acked_open n = reno_grows_open (n == 0) (congestion.growth r n)

  reno_counted_open : (n : ℕ) (careful : Bool) → RenoOpen (congestion.reno_counted r n careful)
  unfolding congestion.reno_counted
  reno_counted_open n careful = reno_grows_open (n == 0) (congestion.growth_in_bytes r n careful)

  reno_opened_open : (mss : ℕ) → RenoOpen (congestion.reno_opened r mss)
  unfolding congestion.reno_opened
  reno_opened_open mss = record { cwnd = omega arith; mss = omega arith; ssthresh = h.ssthresh }

  reno_partially_open : (n : ℕ) → RenoOpen (congestion.reno_partially_acked r n)
  unfolding congestion.reno_partially_acked
  reno_partially_open n = go r.in_recovery
    where
      go : (b : Bool) → RenoOpen (if b then record r { cwnd = congestion.deflated r n } else congestion.reno_acked r n)
      go true = record { cwnd = omega (arith, h.mss); mss = h.mss; ssthresh = h.ssthresh }
      go false = reno_acked_open n

  reno_dup_open : (n : ℕ) → RenoOpen (congestion.reno_dup_acked r n)
  unfolding congestion.reno_dup_acked
  reno_dup_open n = go r.in_recovery
    where
      go : (b : Bool) → RenoOpen (if b then record r { cwnd = congestion.bounded r (r.cwnd + n) } else r)
      go true = record { cwnd = bounded_open (r.cwnd + n); mss = h.mss; ssthresh = h.ssthresh }
      go false = h

  reno_recovers_open : (threshold : ℕ) → 0 < threshold → RenoOpen (congestion.reno_recovers r threshold)
  reno_recovers_open threshold p = record { cwnd = omega (arith, h.mss); mss = h.mss; ssthresh = p }

  reno_lost_open : (flight : ℕ) → RenoOpen (congestion.reno_lost r flight)
  unfolding congestion.reno_lost
  reno_lost_open flight = go r.in_recovery
    where
      go : (b : Bool) → RenoOpen (if b then r else congestion.reno_recovers r (congestion.halved r flight))
      go true = h
      go false = reno_recovers_open (congestion.halved r flight) (halved_open flight)

  reno_begins_anew_open : (threshold : ℕ) → 0 < threshold → RenoOpen (congestion.reno_begins_anew r threshold)
  reno_begins_anew_open threshold p = record { cwnd = h.mss; mss = h.mss; ssthresh = go r.in_timeout }
    where
      go : (b : Bool) → 0 < (if b then r.ssthresh else threshold)
      go true = h.ssthresh
      go false = p

  reno_timed_out_open : (flight : ℕ) → RenoOpen (congestion.reno_timed_out r flight)
  unfolding congestion.reno_timed_out
  reno_timed_out_open flight = reno_begins_anew_open (congestion.halved r flight) (halved_open flight)

  reno_restarted_open : RenoOpen (congestion.reno_restarted r)
  unfolding congestion.reno_restarted
  reno_restarted_open = record { cwnd = omega (arith, h.cwnd, h.mss); mss = h.mss; ssthresh = h.ssthresh }

  reno_undone_open : (n m : ℕ) → RenoOpen (congestion.reno_undone r n m)
  unfolding congestion.reno_undone
  reno_undone_open n m = record { cwnd = omega (arith, h.cwnd); mss = h.mss; ssthresh = omega (arith, h.ssthresh) }

module _ (c : CubicNumbers) (h : RenoOpen c.reno) where
  -- an epoch's beginning leaves Reno's numbers alone
  same_reno : (now : Instant) → (congestion.epoch_begun c now).reno ≡ c.reno
  same_reno now = go (c.w_est == 0)
    where
      begun : CubicNumbers
      begun = record c { w_max = max c.w_max (congestion.short c.reno.cwnd); w_est = congestion.short c.reno.cwnd; epoch = now; k = congestion.time_to_rise c.reno.mss (c.w_max - congestion.short c.reno.cwnd) }

      go : (b : Bool) → (if b then begun else c).reno ≡ c.reno
      go true = refl
      go false = refl

  cubic_grows_open : (b : Bool) (now : Instant) (n more : ℕ) (rtte : Estimator) → RenoOpen (if b then c else congestion.cubic_grows c now n more rtte).reno
  cubic_grows_open true now n more rtte = h
  cubic_grows_open false now n more rtte = by (c.reno.in_recovery || nat_lt c.reno.cwnd c.reno.ssthresh)
    where
      open_begun : RenoOpen (congestion.epoch_begun c now).reno
      open_begun = subst RenoOpen (sym (same_reno now)) h

      by : (b : Bool) → RenoOpen (if b then record c { reno = congestion.reno_grows c.reno more } else congestion.cubic_avoided c now n rtte).reno
      by true = reno_grows_open c.reno h false more
      by false = reno_grows_open (congestion.epoch_begun c now).reno open_begun false _

  reduced_open : (flight : ℕ) → 0 < congestion.reduced c flight
  reduced_open flight = omega (arith, h.mss)

  cubic_lost_open : (flight : ℕ) → RenoOpen (congestion.cubic_lost c flight).reno
  unfolding congestion.cubic_lost
  cubic_lost_open flight = go c.reno.in_recovery
    where
      lost : CubicNumbers
      lost = record c { reno = congestion.reno_recovers c.reno (congestion.reduced c flight); w_max = congestion.converged c flight; w_est = 0 }

      go : (b : Bool) → RenoOpen (if b then c else lost).reno
      go true = h
      go false = reno_recovers_open c.reno h (congestion.reduced c flight) (reduced_open flight)

pub acked_open : (c : AnyController) (now : Instant) (n flight : ℕ) (rtte : Estimator) → IsOpen c → IsOpen (congestion.acked c now n flight rtte)
unfolding congestion.acked congestion.reno_on_ack congestion.cubic_acked
acked_open (controller.None x) now n flight rtte h = tt
acked_open (controller.Reno r) now n flight rtte h = reno_acked_open r h n
acked_open (controller.Cubic c) now n flight rtte h = cubic_grows_open c h (n == 0) now n (congestion.growth c.reno n) rtte

pub bytes_acked_open : (c : AnyController) (now : Instant) (n : ℕ) (careful : Bool) (rtte : Estimator) → IsOpen c → IsOpen (congestion.bytes_acked c now n careful rtte)
unfolding congestion.bytes_acked congestion.reno_on_bytes_acked congestion.cubic_counted
bytes_acked_open (controller.None x) now n careful rtte h = tt
bytes_acked_open (controller.Reno r) now n careful rtte h = reno_counted_open r h n careful
bytes_acked_open (controller.Cubic c) now n careful rtte h = cubic_grows_open c h (n == 0) now n (congestion.growth_in_bytes c.reno n careful) rtte

pub opened_open : (c : AnyController) (mss : ℕ) → IsOpen c → IsOpen (congestion.opened c mss)
unfolding congestion.opened congestion.cubic_opened
opened_open (controller.None x) mss h = tt
opened_open (controller.Reno r) mss h = reno_opened_open r h mss
opened_open (controller.Cubic c) mss h = reno_opened_open c.reno h mss

pub partially_acked_open : (c : AnyController) (now : Instant) (n : ℕ) → IsOpen c → IsOpen (congestion.partially_acked c now n)
unfolding congestion.partially_acked congestion.reno_on_partial_ack congestion.cubic_partially_acked
partially_acked_open (controller.None x) now n h = tt
partially_acked_open (controller.Reno r) now n h = reno_partially_open r h n
partially_acked_open (controller.Cubic c) now n h = reno_partially_open c.reno h n

pub dup_acked_open : (c : AnyController) (now : Instant) (n flight : ℕ) → IsOpen c → IsOpen (congestion.dup_acked c now n flight)
unfolding congestion.dup_acked congestion.reno_on_dup_ack
dup_acked_open (controller.None x) now n flight h = tt
dup_acked_open (controller.Reno r) now n flight h = reno_dup_open r h n
dup_acked_open (controller.Cubic c) now n flight h = reno_dup_open c.reno h n

pub lost_open : (c : AnyController) (now : Instant) (n : ℕ) → IsOpen c → IsOpen (congestion.lost c now n)
unfolding congestion.lost congestion.reno_on_loss
lost_open (controller.None x) now n h = tt
lost_open (controller.Reno r) now n h = reno_lost_open r h n
lost_open (controller.Cubic c) now n h = cubic_lost_open c h n

pub timed_out_open : (c : AnyController) (now : Instant) (n : ℕ) → IsOpen c → IsOpen (congestion.timed_out c now n)
unfolding congestion.timed_out congestion.reno_on_rto congestion.cubic_timed_out
timed_out_open (controller.None x) now n h = tt
timed_out_open (controller.Reno r) now n h = reno_timed_out_open r h n
timed_out_open (controller.Cubic c) now n h = reno_begins_anew_open c.reno h (congestion.reduced c n) (reduced_open c h n)

pub undone_open : (c : AnyController) (n m : ℕ) → IsOpen c → IsOpen (congestion.undone c n m)
unfolding congestion.undone congestion.cubic_undone
undone_open (controller.None x) n m h = tt
undone_open (controller.Reno r) n m h = reno_undone_open r h n m
undone_open (controller.Cubic c) n m h = reno_undone_open c.reno h n m

pub pre_transmitted_open : (c : AnyController) (now : Instant) → IsOpen c → IsOpen (congestion.pre_transmitted c now)
unfolding congestion.pre_transmitted congestion.reno_pre_transmit
pre_transmitted_open (controller.None x) now h = tt
pre_transmitted_open (controller.Reno r) now h = h
pre_transmitted_open (controller.Cubic c) now h = h

pub restarted_open : (r : Rules) (at : Option Instant) (now : Instant) (c : AnyController) → IsOpen c → IsOpen (restarted_by r at now c)
unfolding congestion.restarted congestion.cubic_restarted
restarted_open rules.Smoltcp at now c h = h
restarted_open rules.Rfc at now c h = by (was_idle at now)
  where
    restarts : (c : AnyController) → IsOpen c → IsOpen (congestion.restarted c)
    restarts (controller.None x) h = tt
    restarts (controller.Reno r) h = reno_restarted_open r h
    restarts (controller.Cubic c) h = reno_restarted_open c.reno h

    by : (b : Bool) → IsOpen (if b then congestion.restarted c else c)
    by true = restarts c h
    by false = h

pub post_transmitted_open : (c : AnyController) (now : Instant) (n : ℕ) → IsOpen c → IsOpen (congestion.post_transmitted c now n)
unfolding congestion.post_transmitted congestion.reno_post_transmit
post_transmitted_open (controller.None x) now n h = tt
post_transmitted_open (controller.Reno r) now n h = h
post_transmitted_open (controller.Cubic c) now n h = h

pub window_open : (c : AnyController) (n : ℕ) → IsOpen c → IsOpen (congestion.with_remote_window c n)
unfolding congestion.with_remote_window
window_open (controller.None x) n h = tt
window_open (controller.Reno r) n h = record { cwnd = h.cwnd; mss = h.mss; ssthresh = h.ssthresh }
window_open (controller.Cubic c) n h = record { cwnd = h.cwnd; mss = h.mss; ssthresh = h.ssthresh }

mss_open : (c : AnyController) (n : ℕ) → IsOpen c → IsOpen (congestion.with_mss c (max n 48))
unfolding congestion.with_mss
mss_open (controller.None x) n h = tt
mss_open (controller.Reno r) n h = record { cwnd = h.cwnd; mss = omega arith; ssthresh = h.ssthresh }
mss_open (controller.Cubic c) n h = record { cwnd = h.cwnd; mss = omega arith; ssthresh = h.ssthresh }

pub shortened_open : (c : AnyController) (n : ℕ) → IsOpen c → IsOpen (congestion.with_mss c (max n 1))
unfolding congestion.with_mss
shortened_open (controller.None x) n h = tt
shortened_open (controller.Reno r) n h = record { cwnd = h.cwnd; mss = omega arith; ssthresh = h.ssthresh }
shortened_open (controller.Cubic c) n h = record { cwnd = h.cwnd; mss = omega arith; ssthresh = h.ssthresh }

pub taken_open : (c : AnyController) (o : Option ℕ) → IsOpen c → IsOpen (controller_taken c o)
taken_open c None h = h
taken_open c (Some n) h = go (n == 0)
  where
    go : (b : Bool) → IsOpen (if b then c else congestion.with_mss c (max n 48))
    go true = h
    go false = mss_open c n h

pub kind_open : (k : CongestionControl) → IsOpen (of_kind k)
kind_open kind.None = tt
kind_open kind.Reno = record { cwnd = omega arith; mss = omega arith; ssthresh = omega arith }
kind_open kind.Cubic = record { cwnd = omega arith; mss = omega arith; ssthresh = omega arith }
