-- What a socket in ESTABLISHED, CLOSE-WAIT or FIN-WAIT-2 makes of a segment in order.
use Rattle.std.proofs.Common.{◌≡◌, ℕ, ◌+◌, ◌-◌, ◌*◌, ◌<◌, ◌≤◌, ◌^◌, ◌⊎◌, inl, inr, Bool, true, false, refl, sym, ap, subst, ◌∙◌, length, Option, Some, None, arith, length-drop}
use Rattle.std.specs.Prelude.{if◌then◌else◌, ◌==◌, ◌&&◌}
use Rattle.std.proofs.lemmas.Bool.{eqb-true}
use Rattle.net_base.specs.declared.time.Duration.{Duration}
use Rattle.net_base.specs.declared.time.Instant.{Instant}
use Rattle.ip_wire.specs.declared.repr.IpRepr.{IpRepr}
use Rattle.control_wire.specs.Segment.{Segment}
use Rattle.control_wire.specs.Seq.{seq_add, seq_sub}
use Rattle.control_wire.specs.declared.seq_number.TcpSeqNumber.{TcpSeqNumber}
use Rattle.control_wire.specs.declared.tcp.TcpControl.{TcpControl}
use Rattle.control_wire.specs.declared.tcp.TcpControl.TheVariants as control
use Rattle.sock_core.specs.Seq.{is_before, is_not_after, later_of}
use Rattle.sock_tcp.proofs.Windows.{length-cut}
use Rattle.sock_tcp.specs.Acked.{acked_at, acked_of, acked_places, syn_place}
use Rattle.sock_tcp.specs.Advance.{advanced, counted_control}
use Rattle.sock_tcp.specs.Process.{stopped, ack_sent, close_restarted, tuple_of, outside_by, outside, bytes_taken, processed_inside, has_window, processed_by}
use Rattle.progress_laws.specs.Smoltcp.{processed}
use Rattle.sock_tcp.specs.Queue.{shortened}
use Rattle.sock_tcp.specs.Steps.{duplicate_counted, retransmission_acked, scale_of, window_of, window_taken, released, is_duplicate, is_last_ack, is_window_changed, ack_heard, ack_counted, una_advanced, acknowledged, timestamp_taken, timer_set, timer_acked, probe_ended, probe_set, begins_probe, heard}
use Rattle.sock_tcp.specs.Timers.{after, idle_from, probe_from, retransmit_from, rto_of}
use Rattle.sock_tcp.specs.Verdict.{verdict_at, verdict_of}
use Rattle.sock_tcp.specs.View.{View}
use Rattle.sock_tcp.specs.Window.{receive_window, is_inside, cut_of, cut_bytes}
use Rattle.sock_tcp.specs.declared.acked.Acked.{Acked}
use Rattle.sock_tcp.specs.declared.state.State.{State}
use Rattle.sock_tcp.specs.declared.state.State.TheVariants as state
use Rattle.sock_tcp.specs.declared.timer.Timer.{Timer}
use Rattle.sock_tcp.specs.declared.timer.Timer.TheVariants as timer
use Rattle.sock_tcp.specs.declared.verdict.Verdict.TheVariants as verdicts
use Rattle.sock_tcp.specs.declared.window.Cut.{Cut}
use Rattle.sock_tcp.specs.declared.window.Window.{Window}
use Rattle.progress_laws.proofs.Begins.{and_no, not_zero}
use Rattle.progress_laws.proofs.Edges.{is_not_before}
use Rattle.progress_laws.proofs.States.{is_steady, steady_by, steady_goes_on, steady_has, steady_timer}

-- ---- control None or PSH

abbrev pub IsData : TcpControl → Type 0
IsData control.None = Unit {0}
IsData control.Psh = Unit {0}
IsData c = ⊥

passes : (st : State) → is_steady st ≡ true → (c : TcpControl) (k una : TcpSeqNumber) (n : ℕ) → IsData c → k.0 < 2 ^ 32 → una.0 < 2 ^ 32 → seq_sub k una ≤ n → n ≤ 2 ^ 30 → verdict_at st c (Some k) una n ≡ verdicts.Pass
unfolding verdict_at
passes st steady c k una n d hk hu within short = by c d
  where
    low : is_before k una ≡ false
    low = is_not_before k una (omega (arith, within, short))

    high : (m : ℕ) → m ≤ 1 → is_before (seq_add una (n + m)) k ≡ false
    high m few = is_not_before (seq_add una (n + m)) k (omega (arith, hk, hu, within, short, few))

    none : (m : ℕ) → m ≤ 1 → (if is_before k una then verdicts.Drop else (if is_before (seq_add una (n + m)) k then verdicts.Challenge else verdicts.Pass)) ≡ verdicts.Pass
    none m few = rw (low, high m few) refl

    by : (c : TcpControl) → IsData c → verdict_at st c (Some k) una n ≡ verdicts.Pass
    by control.None d = steady_by (λ st. verdict_at st control.None (Some k) una n ≡ verdicts.Pass) (none 0 (omega arith)) (none 0 (omega arith)) (none 1 (omega arith)) (none 0 (omega arith)) st steady
    by control.Psh d = steady_by (λ st. verdict_at st control.Psh (Some k) una n ≡ verdicts.Pass) (none 0 (omega arith)) (none 0 (omega arith)) (none 1 (omega arith)) (none 0 (omega arith)) st steady
    by _ d = absurd d

less_differs : (a b : ℕ) → a < b → (a == b) ≡ false
less_differs a b h = go (a == b) refl
  where
    go : (c : Bool) → (a == b) ≡ c → (a == b) ≡ false
    go true e = let z : a ≡ b = eqb-true a b e in absurd (omega (arith, z, h))
    go false e = e

acks : (st : State) → is_steady st ≡ true → (c : TcpControl) (k una nxt : TcpSeqNumber) (n : ℕ) → IsData c → seq_sub k una ≤ n → acked_at st c (Some k) una nxt n ≡ record { len = seq_sub k una; fin = false; all = is_not_after nxt k }
unfolding acked_at
acks st steady c k una nxt n d within = by c d
  where
    so_many : ℕ → Acked
    so_many m = record { len = m; fin = false; all = is_not_after nxt k }

    open_ : acked_places state.FinWait1 k nxt n (seq_sub k una - 0) ≡ so_many (seq_sub k una)
    open_ = rw (less_differs (seq_sub k una - 0) (n + 1) (omega (arith, within))) (ap so_many (omega arith))

    flatly : acked_places st k nxt n (seq_sub k una - syn_place st) ≡ so_many (seq_sub k una)
    flatly = steady_by (λ st. acked_places st k nxt n (seq_sub k una - syn_place st) ≡ so_many (seq_sub k una)) (ap so_many (omega arith)) (ap so_many (omega arith)) open_ (ap so_many (omega arith)) st steady

    by : (c : TcpControl) → IsData c → acked_at st c (Some k) una nxt n ≡ record { len = seq_sub k una; fin = false; all = is_not_after nxt k }
    by control.None d = flatly
    by control.Psh d = flatly
    by _ d = absurd d

counts : (c : TcpControl) (w : Window) (number : TcpSeqNumber) (n : ℕ) → IsData c → counted_control c w number n ≡ control.None
unfolding counted_control
counts control.None w number n d = refl
counts control.Psh w number n d = refl
counts _ w number n d = absurd d

-- ---- control None, PSH or FIN

abbrev pub IsSaid : TcpControl → Type 0
IsSaid control.None = Unit {0}
IsSaid control.Psh = Unit {0}
IsSaid control.Fin = Unit {0}
IsSaid c = ⊥

pub data_is_said : (c : TcpControl) → IsData c → IsSaid c
data_is_said control.None d = tt
data_is_said control.Psh d = tt
data_is_said _ d = absurd d

pub scaled : (c : TcpControl) (n : ℕ) (scale : Option ℕ) → IsSaid c → window_of c n scale ≡ n * 2 ^ scale_of scale
scaled control.None n scale d = refl
scaled control.Psh n scale d = refl
scaled control.Fin n scale d = refl
scaled _ n scale d = absurd d

-- ---- the timer, once all is acknowledged

-- what an idle timer waits for
abbrev pub idle_moment : Instant → Option Duration → Option Instant
idle_moment now None = None
idle_moment now (Some d) = Some (after now d)

pub idle_is : (now : Instant) (keep : Option Duration) → idle_from now keep ≡ timer.Idle (idle_moment now keep)
idle_is now None = refl
idle_is now (Some d) = refl

abbrev pub IsOpenTimer : Timer → Type 0
IsOpenTimer (timer.Close at) = ⊥
IsOpenTimer t = Unit {0}

module _ (y : View) (now : Instant) (a : Acked) where
  pub idle_ends : (keep : Option Duration) → probe_ended (idle_from now keep) y now ≡ idle_from now keep
  idle_ends None = refl
  idle_ends (Some d) = refl

  -- with a window it waits for a keep-alive
  rests : (t : Timer) → IsOpenTimer t → (y.remote_win_len == 0) ≡ false → a.all ≡ true → probe_set (timer_acked t y now a) y now a ≡ idle_from now y.keep_alive
  rests (timer.Idle at) o win all = rw win (idle_ends y.keep_alive)
  rests (timer.Retransmit at) o win all = rw (win, all) (idle_ends y.keep_alive)
  rests timer.FastRetransmit o win all = rw (win, all) (idle_ends y.keep_alive)
  rests (timer.ZeroWindowProbe at delay) o win all = rw win refl
  rests (timer.Close at) o win all = absurd o

  -- and so does one with nothing to send
  pub rests_empty : (o : Option Instant) → length y.tx_buffer.bytes ≡ 0 → probe_set (timer_acked (timer.Idle o) y now a) y now a ≡ idle_from now y.keep_alive
  rests_empty o none = by (y.remote_win_len == 0)
    where
      no_probe : begins_probe (idle_from now y.keep_alive) y a ≡ false
      no_probe = rw none refl

      by : (b : Bool) → (if b then (if begins_probe (idle_from now y.keep_alive) y a then probe_from now y.rtte else idle_from now y.keep_alive) else probe_ended (idle_from now y.keep_alive) y now) ≡ idle_from now y.keep_alive
      by true = rw no_probe refl
      by false = idle_ends y.keep_alive

-- it never becomes that of TIME-WAIT
open_idle : (now : Instant) (keep : Option Duration) → IsOpenTimer (idle_from now keep)
open_idle now None = tt
open_idle now (Some d) = tt

module _ (y : View) (now : Instant) (a : Acked) where
  open_again : (t : Timer) → IsOpenTimer t → IsOpenTimer (retransmission_acked t y now a)
  open_again t o = go a.all (a.len == 0)
    where
      go : (all none : Bool) → IsOpenTimer (if all then idle_from now y.keep_alive else (if none then t else retransmit_from now y.rtte))
      go true none = open_idle now y.keep_alive
      go false true = o
      go false false = tt

  open_acked : (t : Timer) → IsOpenTimer t → IsOpenTimer (timer_acked t y now a)
  open_acked (timer.Idle at) o = open_idle now y.keep_alive
  open_acked (timer.Retransmit at) o = open_again (timer.Retransmit at) tt
  open_acked timer.FastRetransmit o = open_again timer.FastRetransmit tt
  open_acked (timer.ZeroWindowProbe at delay) o = tt
  open_acked (timer.Close at) o = absurd o

  open_ended : (t : Timer) → IsOpenTimer t → IsOpenTimer (probe_ended t y now)
  open_ended (timer.ZeroWindowProbe at delay) o = open_idle now y.keep_alive
  open_ended (timer.Idle at) o = tt
  open_ended (timer.Retransmit at) o = tt
  open_ended timer.FastRetransmit o = tt
  open_ended (timer.Close at) o = absurd o

  open_set : (t : Timer) → IsOpenTimer t → IsOpenTimer (probe_set t y now a)
  open_set t o = go (y.remote_win_len == 0) (begins_probe t y a)
    where
      go : (shut begins : Bool) → IsOpenTimer (if shut then (if begins then probe_from now y.rtte else t) else probe_ended t y now)
      go true true = tt
      go true false = o
      go false begins = open_ended t o

-- ---- what is heard of an acknowledgement of all that was sent

-- x has of u all but what an acknowledgement of n bytes up to k, with this window, changes
pub record HeardAs (u : View) (k : TcpSeqNumber) (n win : ℕ) (x : View) : Type 0 where
  pub state : x.state ≡ u.state
  pub peer : x.tuple ≡ u.tuple
  pub timeout : x.timeout ≡ u.timeout
  pub same_rules : x.rules ≡ u.rules
  pub keep_alive : x.keep_alive ≡ u.keep_alive
  pub scale : x.remote_win_scale ≡ u.remote_win_scale
  pub shift : x.remote_win_shift ≡ u.remote_win_shift
  pub rx : x.rx_buffer ≡ u.rx_buffer
  pub rcv : x.remote_seq_no ≡ u.remote_seq_no
  pub last_ack : x.remote_last_ack ≡ u.remote_last_ack
  pub last_win : x.remote_last_win ≡ u.remote_last_win
  pub marked : x.pending_fast_retransmit ≡ u.pending_fast_retransmit
  pub una : x.local_seq_no ≡ k
  pub nxt : x.remote_last_seq ≡ later_of u.remote_last_seq k
  pub tx : x.tx_buffer ≡ shortened u.tx_buffer n
  pub window : x.remote_win_len ≡ win

pub heard_any : (u : View) (now : Instant) (a : Acked) (s : Segment) (k : TcpSeqNumber) → s.ack_number ≡ Some k → HeardAs u k a.len (window_of s.control s.window_len u.remote_win_scale) (heard u now a s)
unfolding heard acknowledged window_taken released duplicate_counted ack_counted una_advanced timestamp_taken timer_set
heard_any u now a s k number = subst (λ o. HeardAs u k a.len (window_of s.control s.window_len u.remote_win_scale) (timer_set (timestamp_taken (acknowledged x o now a.len (length s.payload) changed) s) now a)) (sym number) (either (is_duplicate x k (length s.payload) changed))
  where
    x : View
    x = released (window_taken u now s.control s.window_len) a.len

    changed : Bool
    changed = is_window_changed u s.control s.window_len

    either : (b : Bool) → HeardAs u k a.len (window_of s.control s.window_len u.remote_win_scale) (timer_set (timestamp_taken (ack_heard b x now k a.len) s) now a)
    either true = record { state = refl; peer = refl; timeout = refl; same_rules = refl; keep_alive = refl; scale = refl; shift = refl; rx = refl; rcv = refl; last_ack = refl; last_win = refl; marked = refl; una = refl; nxt = refl; tx = refl; window = refl }
    either false = record { state = refl; peer = refl; timeout = refl; same_rules = refl; keep_alive = refl; scale = refl; shift = refl; rx = refl; rcv = refl; last_ack = refl; last_win = refl; marked = refl; una = refl; nxt = refl; tx = refl; window = refl }

pub heard_as : (u : View) (now : Instant) (a : Acked) (s : Segment) (k : TcpSeqNumber) → s.ack_number ≡ Some k → IsSaid s.control → HeardAs u k a.len (s.window_len * 2 ^ scale_of u.remote_win_scale) (heard u now a s)
heard_as u now a s k number bit = subst (λ n. HeardAs u k a.len n (heard u now a s)) (scaled s.control s.window_len u.remote_win_scale bit) (heard_any u now a s k number)

-- once something is acknowledged the timer of a retransmission is idle, or begins anew
pub data ThenWaits (now : Instant) (keep : Option Duration) (all : Bool) (t : Timer) : Type 0 where
  ForNone : all ≡ true → t ≡ idle_from now keep → ThenWaits now keep all t
  ForRest : (at : Instant) → t ≡ timer.Retransmit at → ThenWaits now keep all t

pub heard_waits : (u : View) (now : Instant) (a : Acked) (s : Segment) (k : TcpSeqNumber) (at : Instant) → s.ack_number ≡ Some k → IsSaid s.control → u.timer ≡ timer.Retransmit at → 0 < a.len → 0 < s.window_len * 2 ^ scale_of u.remote_win_scale → ThenWaits now u.keep_alive a.all (heard u now a s).timer
unfolding heard acknowledged window_taken released duplicate_counted ack_counted una_advanced timestamp_taken timer_set
heard_waits u now a s k at number bit waits some win = subst (λ o. ThenWaits now u.keep_alive a.all (timer_set (timestamp_taken (acknowledged x o now a.len (length s.payload) changed) s) now a).timer) (sym number) (either (is_duplicate x k (length s.payload) changed))
  where
    x : View
    x = released (window_taken u now s.control s.window_len) a.len

    changed : Bool
    changed = is_window_changed u s.control s.window_len

    open_ : (window_of s.control s.window_len u.remote_win_scale == 0) ≡ false
    open_ = not_zero (window_of s.control s.window_len u.remote_win_scale) (subst (λ n. 0 < n) (sym (scaled s.control s.window_len u.remote_win_scale bit)) win)

    again : (t : Timer) (y : View) → y.keep_alive ≡ u.keep_alive → ThenWaits now u.keep_alive a.all (retransmission_acked t y now a)
    again t y e = go a.all refl
      where
        go : (b : Bool) → a.all ≡ b → ThenWaits now u.keep_alive a.all (if b then idle_from now y.keep_alive else (if a.len == 0 then t else retransmit_from now y.rtte))
        go true i = ForNone i (ap (idle_from now) e)
        go false i = ForRest (after now (rto_of y.rtte)) (ap (λ b. if b then t else retransmit_from now y.rtte) (not_zero a.len some))

    acked : (t : Timer) (y : View) → y.keep_alive ≡ u.keep_alive → (t ≡ timer.Retransmit at) ⊎ (t ≡ timer.FastRetransmit) → ThenWaits now u.keep_alive a.all (timer_acked t y now a)
    acked t y e (inl i) = subst (λ t. ThenWaits now u.keep_alive a.all (timer_acked t y now a)) (sym i) (again (timer.Retransmit at) y e)
    acked t y e (inr i) = subst (λ t. ThenWaits now u.keep_alive a.all (timer_acked t y now a)) (sym i) (again timer.FastRetransmit y e)

    ends : (y : View) (t : Timer) → (y.remote_win_len == 0) ≡ false → ThenWaits now u.keep_alive a.all t → ThenWaits now u.keep_alive a.all (probe_set t y now a)
    ends y t e (ForNone all is) = ForNone all (ap (λ b. if b then (if begins_probe t y a then probe_from now y.rtte else t) else probe_ended t y now) e ∙ idle is)
      where
        idle : t ≡ idle_from now u.keep_alive → probe_ended t y now ≡ idle_from now u.keep_alive
        idle i = ap (λ z. probe_ended z y now) i ∙ kept u.keep_alive
          where
            kept : (keep : Option Duration) → probe_ended (idle_from now keep) y now ≡ idle_from now keep
            kept None = refl
            kept (Some d) = refl
    ends y t e (ForRest at is) = ForRest at (ap (λ b. if b then (if begins_probe t y a then probe_from now y.rtte else t) else probe_ended t y now) e ∙ ap (λ z. probe_ended z y now) is)

    fast : (c : Bool) → ((if c then timer.FastRetransmit else u.timer) ≡ timer.Retransmit at) ⊎ ((if c then timer.FastRetransmit else u.timer) ≡ timer.FastRetransmit)
    fast true = inr refl
    fast false = inl waits

    either : (b : Bool) → ThenWaits now u.keep_alive a.all (timer_set (timestamp_taken (ack_heard b x now k a.len) s) now a).timer
    either true = ends (timestamp_taken (ack_heard true x now k a.len) s) (timer_acked (if u.local_rx_dup_acks == 2 then timer.FastRetransmit else u.timer) (timestamp_taken (ack_heard true x now k a.len) s) now a) open_ (acked (if u.local_rx_dup_acks == 2 then timer.FastRetransmit else u.timer) (timestamp_taken (ack_heard true x now k a.len) s) refl (fast (u.local_rx_dup_acks == 2)))
    either false = ends (timestamp_taken (ack_heard false x now k a.len) s) (timer_acked u.timer (timestamp_taken (ack_heard false x now k a.len) s) now a) open_ (acked u.timer (timestamp_taken (ack_heard false x now k a.len) s) refl (inl waits))

-- it is no duplicate where it acknowledges all that was sent, and where it brings bytes
abbrev pub IsNoDuplicate : View → Instant → Acked → Segment → TcpSeqNumber → Type 0
IsNoDuplicate u now a s k = is_duplicate (released (window_taken u now s.control s.window_len) a.len) k (length s.payload) (is_window_changed u s.control s.window_len) ≡ false

pub all_no_duplicate : (u : View) (now : Instant) (a : Acked) (s : Segment) (k : TcpSeqNumber) → is_before k u.remote_last_seq ≡ false → IsNoDuplicate u now a s k
unfolding window_taken released
all_no_duplicate u now a s k last = rw last (and_no (is_last_ack u.local_rx_last_ack k))

pub bytes_no_duplicate : (u : View) (now : Instant) (a : Acked) (s : Segment) (k : TcpSeqNumber) → 0 < length s.payload → IsNoDuplicate u now a s k
unfolding window_taken released
bytes_no_duplicate u now a s k some = rw (not_zero (length s.payload) some) (ap (λ b. is_last_ack u.local_rx_last_ack k && b) (and_no (is_before k u.remote_last_seq)) ∙ and_no (is_last_ack u.local_rx_last_ack k))

module _ (u : View) (now : Instant) (a : Acked) (s : Segment) (k : TcpSeqNumber) (number : s.ack_number ≡ Some k) (bit : IsSaid s.control) (no_duplicate : IsNoDuplicate u now a s k) where
  abbrev x : View
  x = released (window_taken u now s.control s.window_len) a.len

  abbrev changed : Bool
  changed = is_window_changed u s.control s.window_len

  abbrev y : View
  y = timestamp_taken (ack_heard false x now k a.len) s

  heard_is : heard u now a s ≡ timer_set y now a
  unfolding heard acknowledged window_taken released
  heard_is = ap (λ o. timer_set (timestamp_taken (acknowledged x o now a.len (length s.payload) changed) s) now a) number ∙ ap (λ b. timer_set (timestamp_taken (ack_heard b x now k a.len) s) now a) no_duplicate

  pub heard_rests : IsOpenTimer u.timer → a.all ≡ true → 0 < s.window_len * 2 ^ scale_of u.remote_win_scale → (heard u now a s).timer ≡ idle_from now u.keep_alive
  unfolding window_taken released timestamp_taken timer_set ack_counted una_advanced
  heard_rests o all some = ap (λ (z : View). z.timer) heard_is ∙ rests y now a u.timer o (not_zero (window_of s.control s.window_len u.remote_win_scale) (subst (λ n. 0 < n) (sym (scaled s.control s.window_len u.remote_win_scale bit)) some)) all

  -- the timer of a retransmission runs on, or begins anew, where something is still in flight
  pub heard_again : (at : Instant) → u.timer ≡ timer.Retransmit at → a.all ≡ false → 0 < s.window_len * 2 ^ scale_of u.remote_win_scale → (later : Instant) × ((heard u now a s).timer ≡ timer.Retransmit later)
  unfolding window_taken released timestamp_taken timer_set ack_counted una_advanced
  heard_again at waits all some = by (a.len == 0) refl
    where
      open_ : (window_of s.control s.window_len u.remote_win_scale == 0) ≡ false
      open_ = not_zero (window_of s.control s.window_len u.remote_win_scale) (subst (λ n. 0 < n) (sym (scaled s.control s.window_len u.remote_win_scale bit)) some)

      by : (b : Bool) → (a.len == 0) ≡ b → (later : Instant) × ((heard u now a s).timer ≡ timer.Retransmit later)
      by true e = (at, ap (λ (z : View). z.timer) heard_is ∙ ap (λ t. probe_set (timer_acked t y now a) y now a) waits ∙ rw (open_, all, e) refl)
      by false e = (after now (rto_of y.rtte), ap (λ (z : View). z.timer) heard_is ∙ ap (λ t. probe_set (timer_acked t y now a) y now a) waits ∙ rw (open_, all, e) refl)

  pub heard_open : IsOpenTimer u.timer → IsOpenTimer (heard u now a s).timer
  unfolding window_taken released timestamp_taken timer_set ack_counted una_advanced
  heard_open o = subst IsOpenTimer (sym (ap (λ (z : View). z.timer) heard_is)) (open_set y now a (timer_acked u.timer y now a) (open_acked y now a u.timer o))

  pub heard_rests_empty : (o : Option Instant) → u.timer ≡ timer.Idle o → length u.tx_buffer.bytes ≡ 0 → (heard u now a s).timer ≡ idle_from now u.keep_alive
  unfolding window_taken released timestamp_taken timer_set ack_counted una_advanced
  heard_rests_empty o idle none = ap (λ (z : View). z.timer) heard_is ∙ ap (λ t. probe_set (timer_acked t y now a) y now a) idle ∙ rests_empty y now a o (omega (arith, length-drop a.len u.tx_buffer.bytes, none))

-- ---- a segment at the left edge

module _ (v : View) (now : Instant) (word : ℕ) (ip : IpRepr) (s : Segment) (k : TcpSeqNumber) (steady : is_steady v.state ≡ true) (number : s.ack_number ≡ Some k) (bit : IsData s.control) where
  abbrev pub seen : View
  seen = record v { local_rx_last_seq = Some s.seq_number }

  abbrev pub covered : Acked
  covered = record { len = seq_sub k v.local_seq_no; fin = false; all = is_not_after v.remote_last_seq k }

  passes_so : k.0 < 2 ^ 32 → v.local_seq_no.0 < 2 ^ 32 → seq_sub k v.local_seq_no ≤ length v.tx_buffer.bytes → length v.tx_buffer.bytes ≤ 2 ^ 30 → verdict_of v s.control s.ack_number ≡ verdicts.Pass
  passes_so hk hu within short = ap (λ o. verdict_of v s.control o) number ∙ passes v.state steady s.control k v.local_seq_no (length v.tx_buffer.bytes) bit hk hu within short

  module _ (small : k.0 < 2 ^ 32) (una_small : v.local_seq_no.0 < 2 ^ 32) (within : seq_sub k v.local_seq_no ≤ length v.tx_buffer.bytes) (short : length v.tx_buffer.bytes ≤ 2 ^ 30) where
    abbrev cut : Cut
    cut = cut_of (receive_window v) s.seq_number (length s.payload)

    covers : acked_of v s.control s.ack_number ≡ covered
    covers = ap (λ o. acked_of v s.control o) number ∙ acks v.state steady s.control k v.local_seq_no v.remote_last_seq (length v.tx_buffer.bytes) bit within

    has : has_window v.state ≡ true
    has = steady_has v.state steady

    -- inside of the window
    pub heard_inside : is_inside (receive_window v) s.seq_number (length s.payload) ≡ true → processed v now word ip s ≡ bytes_taken (heard seen now covered s) now cut.offset (cut_bytes cut s.payload) s
    unfolding processed_by processed_inside advanced
    heard_inside inside = rw (passes_so small una_small within short, has, inside, counts s.control (receive_window v) s.seq_number (length s.payload) bit, covers, steady_goes_on v.state steady seen now (tuple_of ip s) word (seq_sub k v.local_seq_no) s) refl

    -- outside of it, with a byte
    pub answered_outside : is_inside (receive_window v) s.seq_number (length s.payload) ≡ false → (length s.payload == 0) ≡ false → processed v now word ip s ≡ ack_sent v s
    unfolding processed_by outside close_restarted
    answered_outside away some = rw (passes_so small una_small within short, has, away) (by s.control bit ∙ ap (λ z. ack_sent z s) stays)
      where
        by : (c : TcpControl) → IsData c → outside_by c (length s.payload) v now s ≡ ack_sent (close_restarted v now) s
        by control.None d = rw some refl
        by control.Psh d = rw some refl
        by _ d = absurd d

        stays : close_restarted v now ≡ v
        stays = ap (λ tm. record v { timer = tm }) (steady_timer v.state v.timer now steady)

  pub none_taken : (y : View) (cut : Cut) → length s.payload ≡ 0 → bytes_taken y now cut.offset (cut_bytes cut s.payload) s ≡ stopped y
  unfolding bytes_taken
  none_taken y cut none = let z : length (cut_bytes cut s.payload) ≡ 0 = omega (arith, length-cut cut s.payload, none) in rw z refl
