-- What a socket in ESTABLISHED, CLOSE-WAIT or FIN-WAIT-2 sends from SND.UNA on, at the moment of a keep-alive, and what is left of it then.
use Rattle.std.proofs.Common.{◌∙◌, ◌||◌, ◌≡◌, ℕ, ◌+◌, ◌<◌, Bool, true, false, not, ◌&&◌, refl, ap, List, length, Option, Some, None, is_some, arith, subst, sym}
use Rattle.std.specs.Prelude.{if◌then◌else◌, max, nat_le, ◌==◌}
use Rattle.net_base.specs.declared.time.Instant.{Instant}
use Rattle.control_wire.specs.Segment.{Segment, control_len, is_empty_segment, is_plain, segment_len}
use Rattle.control_wire.specs.Seq.{seq_add}
use Rattle.control_wire.specs.declared.tcp.TcpControl.{TcpControl}
use Rattle.control_wire.specs.declared.tcp.TcpControl.TheVariants as control
use Rattle.sock_core.specs.Congestion.{post_transmitted}
use Rattle.sock_core.specs.Seq.{later_of}
use Rattle.sock_tcp.proofs.Arming.{armed_as, armed_by_smoltcp}
use Rattle.sock_tcp.specs.Rfc.Idle.{idle_by, restarted_by}
use Rattle.sock_tcp.specs.Content.{carries_data, data_control, emission_kind, is_probing, offset_of, plain_segment, sent_as, next_hole, hole_of}
use Rattle.sock_tcp.specs.Due.{is_closed, is_closing, recovery_left, window_field}
use Rattle.sock_tcp.specs.Rfc.OwnWindow.{field_by, space_field}
use Rattle.sock_tcp.specs.Rfc.RoundTrips.{sending_measured}
use Rattle.sock_tcp.specs.Sent.{after_any, after_probe, after_sending, emitted_as, left_by, sending_timed, snd_nxt_moved, goes_on}
use Rattle.sock_tcp.specs.Rfc.Pipe.{counts}
use Rattle.sock_tcp.specs.declared.rules.Rules.TheVariants as rules
use Rattle.sock_tcp.specs.Timers.{is_keep_alive_over, keep_alive_renewed, probe_doubled, retransmit_unless_set}
use Rattle.sock_tcp.specs.View.{View}
use Rattle.sock_tcp.specs.Window.{next_ack}
use Rattle.sock_tcp.specs.declared.emission.Emitted.{Emitted}
use Rattle.sock_tcp.specs.declared.emission.Kind.{Kind}
use Rattle.sock_tcp.specs.declared.emission.Kind.TheVariants as kind
use Rattle.sock_tcp.specs.declared.timer.AckDelayTimer.TheVariants as ack_delay
use Rattle.sock_tcp.specs.declared.tuple.Tuple.{Tuple}
use Rattle.progress_laws.proofs.Begins.{Same, and_no, not_zero, segment_for}
use Rattle.progress_laws.proofs.Hears.{IsData}
use Rattle.progress_laws.proofs.States.{flat_on, is_flat}

-- ---- after it went out

-- w has of u all but SND.NXT, what was told, and the timer
pub record SentOf (u w : View) : Type 0 where
  pub same : Same u w
  pub marked : w.pending_fast_retransmit ≡ (u.pending_fast_retransmit && not (carries_data u.state))

-- the segment s counts as sent, and what it acknowledges and tells as told
pub record TellsAs (u : View) (s : Segment) (w : View) : Type 0 where
  pub nxt : w.remote_last_seq ≡ later_of u.remote_last_seq (seq_add s.seq_number (segment_len s))
  pub ack : w.remote_last_ack ≡ s.ack_number
  pub window : w.remote_last_win ≡ s.window_len
  pub delay : w.ack_delay_timer ≡ ack_delay.Idle

-- by smoltcp's rules a window field tells the free space
pub smoltcp_field : (v : View) → v.rules ≡ rules.Smoltcp → window_field v ≡ space_field v
smoltcp_field v smoltcp = ap (λ r. field_by r v) smoltcp

-- what was acknowledged and told last counts as before
pub record Untold (u w : View) : Type 0 where
  pub last_ack : w.remote_last_ack ≡ u.remote_last_ack
  pub last_win : w.remote_last_win ≡ u.remote_last_win

-- the own window is told, with RCV.NXT
pub record HasTold (v x : View) : Type 0 where
  pub last_ack : x.remote_last_ack ≡ Some (next_ack v)
  pub last_win : x.remote_last_win ≡ space_field v

-- it has the same rules
pub timed_rules : (u : View) (now : Instant) (s : Segment) → (sending_timed (snd_nxt_moved (after_any u now) (emitted_as kind.Plain s)) now (emitted_as kind.Plain s)).rules ≡ u.rules
unfolding sending_timed snd_nxt_moved after_any
timed_rules u now s = go (segment_len s == 0)
  where
    e : Emitted
    e = emitted_as kind.Plain s

    x : View
    x = snd_nxt_moved (after_any u now) e

    go : (z : Bool) → (if z then x else record x { rtte = sending_measured x now e; timer = retransmit_unless_set x.timer now x.rtte; congestion_controller = post_transmitted (restarted_by x.rules x.idle_at now x.congestion_controller) now e.len; idle_at = idle_by x.rules x.idle_at now x.rtte; pending_fast_retransmit = x.pending_fast_retransmit || goes_on x }).rules ≡ u.rules
    go true = refl
    go false = refl

module _ (u : View) (p : Tuple) (now : Instant) (s : Segment) (not_closed : is_closed u.state ≡ false) where
  abbrev pub left : Kind → View
  left k = left_by (Some (sent_as u p k s)) u now true

  abbrev e : Emitted
  e = emitted_as kind.Plain s

  abbrev x : View
  x = snd_nxt_moved (after_any u now) e

  abbrev timed_if : Bool → View
  timed_if z = if z then x else record x { rtte = sending_measured x now e; timer = retransmit_unless_set x.timer now x.rtte; congestion_controller = post_transmitted (restarted_by x.rules x.idle_at now x.congestion_controller) now e.len; idle_at = idle_by x.rules x.idle_at now x.rtte; pending_fast_retransmit = x.pending_fast_retransmit || goes_on x }

  -- by smoltcp's rules no hole goes out behind it
  or_none : (b : Bool) → (b || false) ≡ b
  or_none true = refl
  or_none false = refl

  pub plain_sent : u.rules ≡ rules.Smoltcp → SentOf u (left kind.Plain)
  unfolding after_sending sending_timed snd_nxt_moved after_any
  plain_sent smoltcp = subst (SentOf u) (sym (armed_by_smoltcp (sending_timed x now e) now e.len (timed_rules u now s ∙ smoltcp))) (go (segment_len s == 0))
    where
      unmarked : goes_on x ≡ false
      unmarked = ap (λ r. counts r x.recovery x.remote_has_sack && (is_some (hole_of x) && nat_le (max x.remote_mss 1) (recovery_left x))) smoltcp

      pending : (x.pending_fast_retransmit || goes_on x) ≡ x.pending_fast_retransmit
      pending = ap (λ b. x.pending_fast_retransmit || b) unmarked ∙ or_none x.pending_fast_retransmit

      peer : (if is_closed u.state then None else u.tuple) ≡ u.tuple
      peer = ap (λ b. if b then None else u.tuple) not_closed

      go : (z : Bool) → SentOf u (timed_if z)
      go true = record { same = record { state = refl; peer = peer; timeout = refl; same_rules = refl; keep_alive = refl; una = refl; tx = refl; rx = refl; rcv = refl; window = refl; scale = refl; shift = refl; paused = refl }; marked = refl }
      go false = record { same = record { state = refl; peer = peer; timeout = refl; same_rules = refl; keep_alive = refl; una = refl; tx = refl; rx = refl; rcv = refl; window = refl; scale = refl; shift = refl; paused = refl }; marked = pending }

  pub plain_told : TellsAs u s (left kind.Plain)
  unfolding after_sending sending_timed snd_nxt_moved after_any
  plain_told = let h = go (segment_len s == 0) in armed_as (TellsAs u s) (sending_timed x now e) now e.len h (λ at t. record { nxt = h.nxt; ack = h.ack; window = h.window; delay = h.delay })
    where
      go : (z : Bool) → TellsAs u s (timed_if z)
      go true = record { nxt = refl; ack = refl; window = refl; delay = refl }
      go false = record { nxt = refl; ack = refl; window = refl; delay = refl }

  pub plain_timer : u.rules ≡ rules.Smoltcp → (z : Bool) → (segment_len s == 0) ≡ z → (left kind.Plain).timer ≡ (if z then keep_alive_renewed u.timer now u.keep_alive else retransmit_unless_set (keep_alive_renewed u.timer now u.keep_alive) now u.rtte)
  unfolding after_sending sending_timed snd_nxt_moved after_any
  plain_timer smoltcp true z = ap (λ (w : View). w.timer) (armed_by_smoltcp (sending_timed x now e) now e.len (timed_rules u now s ∙ smoltcp)) ∙ rw z refl
  plain_timer smoltcp false z = ap (λ (w : View). w.timer) (armed_by_smoltcp (sending_timed x now e) now e.len (timed_rules u now s ∙ smoltcp)) ∙ rw z refl

  pub probe_sent : SentOf u (left kind.Probe)
  unfolding after_sending after_any after_probe
  probe_sent = record { same = record { state = refl; peer = refl; timeout = refl; same_rules = refl; keep_alive = refl; una = refl; tx = refl; rx = refl; rcv = refl; window = refl; scale = refl; shift = refl; paused = refl }; marked = refl }

  pub probe_untold : Untold u (left kind.Probe)
  unfolding after_sending after_any after_probe
  probe_untold = record { last_ack = refl; last_win = refl }

  pub probe_nxt : (left kind.Probe).remote_last_seq ≡ u.remote_last_seq
  unfolding after_sending after_any after_probe
  probe_nxt = refl

  pub probe_timer : (left kind.Probe).timer ≡ probe_doubled (keep_alive_renewed u.timer now u.keep_alive) now
  unfolding after_sending after_any after_probe
  probe_timer = refl

  pub kept_sent : SentOf u (left kind.KeepAlive)
  unfolding after_sending after_any
  kept_sent = record { same = record { state = refl; peer = refl; timeout = refl; same_rules = refl; keep_alive = refl; una = refl; tx = refl; rx = refl; rcv = refl; window = refl; scale = refl; shift = refl; paused = refl }; marked = refl }

  pub kept_nxt : (left kind.KeepAlive).remote_last_seq ≡ u.remote_last_seq
  unfolding after_sending after_any
  kept_nxt = refl

  pub kept_untold : Untold u (left kind.KeepAlive)
  unfolding after_sending after_any
  kept_untold = record { last_ack = refl; last_win = refl }

  pub kept_delay : (left kind.KeepAlive).ack_delay_timer ≡ ack_delay.Idle
  unfolding after_sending after_any
  kept_delay = refl

  pub kept_timer : (left kind.KeepAlive).timer ≡ keep_alive_renewed u.timer now u.keep_alive
  unfolding after_sending after_any
  kept_timer = refl

-- ---- the segment of a socket in ESTABLISHED, CLOSE-WAIT or FIN-WAIT-2

pub data_bit : (u : View) (n : ℕ) → is_flat u.state ≡ true → IsData (data_control u n)
data_bit u n flat = go (offset_of u + n == length u.tx_buffer.bytes) (is_closing u.state) (flat_on u.state flat) (n == 0)
  where
    go : (a b : Bool) → b ≡ false → (d : Bool) → IsData (if a then (if b then control.Fin else (if d then control.None else control.Psh)) else control.None)
    go true true e d = absurd cc
    go true false e true = tt
    go true false e false = tt
    go false b e d = tt

module _ (u : View) (p : Tuple) (stamp : Option ℕ) (bytes : List ℕ) (flat : is_flat u.state ≡ true) (nothing_marked : u.pending_fast_retransmit ≡ false) where
  abbrev b : Segment
  b = segment_for u p stamp bytes

  pub segment_bit : IsData b.control
  segment_bit = data_bit u (length bytes) flat

  pub segment_number : b.seq_number ≡ u.remote_last_seq
  segment_number = rw nothing_marked refl

  pub segment_ack : b.ack_number ≡ Some (next_ack u)
  unfolding plain_segment
  segment_ack = refl

  pub segment_window : b.window_len ≡ window_field u
  unfolding plain_segment
  segment_window = refl

  length_of : (c : TcpControl) → IsData c → (n : ℕ) → n + control_len c ≡ n
  length_of control.None d n = omega arith
  length_of control.Psh d n = omega arith
  length_of _ d n = absurd d

  pub segment_length : segment_len b ≡ length bytes
  segment_length = length_of b.control segment_bit (length bytes)

  plain_bit : (c : TcpControl) → IsData c → is_plain c ≡ true
  plain_bit control.None d = refl
  plain_bit control.Psh d = refl
  plain_bit _ d = absurd d

  -- with bytes it goes out as it is
  pub with_bytes : (now : Instant) → is_probing u now ≡ false → 0 < length bytes → emission_kind u now b ≡ kind.Plain
  with_bytes now none some = rw (none, no_bytes) (ap (λ c. if c then kind.KeepAlive else kind.Plain) (and_no (is_keep_alive_over u.timer now)))
    where
      no_bytes : is_empty_segment b ≡ false
      no_bytes = rw (not_zero (length bytes) some) refl

  -- without any it is a keep-alive at its moment, and an acknowledgement at another
  pub without_bytes : (now : Instant) → is_probing u now ≡ false → length bytes ≡ 0 → (k : Bool) → is_keep_alive_over u.timer now ≡ k → emission_kind u now b ≡ (if k then kind.KeepAlive else kind.Plain)
  without_bytes now none z k over = rw (none, over, empty) (by k)
    where
      empty : is_empty_segment b ≡ true
      empty = rw (plain_bit b.control segment_bit, z) refl

      by : (k : Bool) → (if k && true then kind.KeepAlive else kind.Plain) ≡ (if k then kind.KeepAlive else kind.Plain)
      by true = refl
      by false = refl
