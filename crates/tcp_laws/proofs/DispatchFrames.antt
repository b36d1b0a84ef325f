-- What a dispatch leaves alone.
use Rattle.std.proofs.Common.{◌≡◌, ℕ, Bool, true, false, not, ◌&&◌, ◌||◌, refl, ap, ◌∙◌, Option, Some, None, arith}
use Rattle.std.specs.Prelude.{if◌then◌else◌}
use Rattle.std.proofs.lemmas.List.{length-replicate}
use Rattle.net_base.specs.declared.time.Instant.{Instant}
use Rattle.sock_core.specs.Facts.{Facts}
use Rattle.sock_core.specs.Received.{Received, room_of, cleared}
use Rattle.sock_tcp.specs.Begin.{Begun, ended, readied, retransmission_begun, fast_retransmission_marked, after_timers, unless_paused, begun_to, begun, nothing_due, by_due, before_emit_to, before_emit, peer_of, time_wait_ended}
use Rattle.sock_tcp.specs.Content.{Sending}
use Rattle.sock_tcp.specs.Due.{is_due}
use Rattle.sock_tcp.specs.Opening.{renewed}
use Rattle.sock_tcp.specs.Rfc.TailLoss.{probed_by, tail_probed}
use Rattle.sock_tcp.specs.Sent.{after_any, after_probe, snd_nxt_moved}
use Rattle.sock_tcp.specs.declared.rules.Rules.{Rules}
use Rattle.sock_tcp.specs.declared.rules.Rules.TheVariants as rules
use Rattle.tcp_laws.specs.SocketRun.{SendsTo, is_address_lost, is_smoltcp, is_wait_over, is_reset}
use Rattle.sock_tcp.specs.Timers.{is_close_over}
use Rattle.sock_tcp.specs.View.{View, moment_of}
use Rattle.sock_tcp.specs.declared.tuple.Tuple.{Tuple}
use Rattle.tcp_laws.proofs.Kept.{KeptByBeginnings, KeptBySending, readied_kept, sends_kept, timers_kept}

-- both queues stay, and SND.UNA
pub record Keeps (v w : View) : Type 0 where
  pub tx : w.tx_buffer ≡ v.tx_buffer
  pub rx : w.rx_buffer ≡ v.rx_buffer
  pub una : w.local_seq_no ≡ v.local_seq_no

same : (v : View) → Keeps v v
same v = record { tx = refl; rx = refl; una = refl }

keeps_both : (v u w : View) → Keeps v u → Keeps u w → Keeps v w
keeps_both v u w a b = record { tx = b.tx ∙ a.tx; rx = b.rx ∙ a.rx; una = b.una ∙ a.una }

-- ---- the beginning

beginnings_keep : (v : View) (now : Instant) → KeptByBeginnings (Keeps v) now
unfolding retransmission_begun fast_retransmission_marked tail_probed probed_by
beginnings_keep v now = record {
  remembers = λ w k. record { tx = k.tx; rx = k.rx; una = k.una };
  tells = λ w k. record { tx = k.tx; rx = k.rx; una = k.una };
  times_out = λ w k. record { tx = k.tx; rx = k.rx; una = k.una };
  forgets = λ w k. record { tx = k.tx; rx = k.rx; una = k.una };
  begins_again = λ w at e k. record { tx = k.tx; rx = k.rx; una = k.una };
  marks = λ w e k. record { tx = k.tx; rx = k.rx; una = k.una };
  goes_back = λ w at delay e k. record { tx = k.tx; rx = k.rx; una = k.una };
  probes_tail = λ w at e k. record { tx = k.tx; rx = k.rx; una = k.una };
}

pub timers_keep : (v : View) (now : Instant) → Keeps v (after_timers v now)
timers_keep v now = timers_kept (Keeps v) now (beginnings_keep v now) v (same v)

pub readied_keeps : (v : View) (now : Instant) → Keeps v (readied v now)
readied_keeps v now = readied_kept (Keeps v) now (beginnings_keep v now) v (same v)

-- ---- how the beginning ends: the queues stay, or the socket is reset

module _ (f : Facts) where
  begun_keeps : (o : Option Tuple) (v : View) → is_address_lost o f ≡ false → Keeps v (begun_to o v f).view
  begun_keeps None v e = same v
  begun_keeps (Some t) v e = go (f.has_address t.local.addr) e
    where
      go : (b : Bool) → not b ≡ false → Keeps v (if b then unless_paused (after_timers (readied v (moment_of f)) (moment_of f)) else ended (renewed v)).view
      go true e = keeps_both v (readied v (moment_of f)) (after_timers (readied v (moment_of f)) (moment_of f)) (readied_keeps v (moment_of f)) (timers_keep (readied v (moment_of f)) (moment_of f))
      go false e = absurd cc

  begun_resets : (o : Option Tuple) (v : View) → is_address_lost o f ≡ true → begun_to o v f ≡ ended (renewed v)
  begun_resets None v e = absurd cc
  begun_resets (Some t) v e = go (f.has_address t.local.addr) e
    where
      go : (b : Bool) → not b ≡ true → (if b then unless_paused (after_timers (readied v (moment_of f)) (moment_of f)) else ended (renewed v)) ≡ ended (renewed v)
      go true e = absurd cc
      go false e = refl

  nothing_keeps : (u : View) → (is_close_over u.timer (moment_of f) && is_smoltcp u.rules) ≡ false → Keeps u (nothing_due u (moment_of f))
  unfolding nothing_due
  nothing_keeps u e = go (is_close_over u.timer (moment_of f)) u.rules e
    where
      go : (c : Bool) (r : Rules) → (c && is_smoltcp r) ≡ false → Keeps u (if c then time_wait_ended r u else u)
      go true rules.Smoltcp e = absurd cc
      go true rules.Rfc e = record { tx = refl; rx = refl; una = refl }
      go false r e = same u

  nothing_resets : (u : View) → (is_close_over u.timer (moment_of f) && is_smoltcp u.rules) ≡ true → nothing_due u (moment_of f) ≡ renewed u
  unfolding nothing_due
  nothing_resets u e = go (is_close_over u.timer (moment_of f)) u.rules e
    where
      go : (c : Bool) (r : Rules) → (c && is_smoltcp r) ≡ true → (if c then time_wait_ended r u else u) ≡ renewed u
      go true rules.Smoltcp e = refl
      go true rules.Rfc e = absurd cc
      go false r e = absurd cc

  ends_keeps : (o : Option Tuple) (u : View) → is_wait_over o u f ≡ false → Keeps u (before_emit_to o u f).view
  ends_keeps None u e = same u
  ends_keeps (Some t) u e = go (is_due u t f) e
    where
      go : (b : Bool) → (not b && (is_close_over u.timer (moment_of f) && is_smoltcp u.rules)) ≡ false → Keeps u (by_due b u f).view
      go true e = same u
      go false e = nothing_keeps u e

  ends_resets : (o : Option Tuple) (u : View) → is_wait_over o u f ≡ true → before_emit_to o u f ≡ ended (renewed u)
  ends_resets None u e = absurd cc
  ends_resets (Some t) u e = go (is_due u t f) e
    where
      go : (b : Bool) → (not b && (is_close_over u.timer (moment_of f) && is_smoltcp u.rules)) ≡ true → by_due b u f ≡ ended (renewed u)
      go true e = absurd cc
      go false e = ap ended (nothing_resets u e)

  -- ---- the whole beginning

  neither : (a b : Bool) → (a || b) ≡ false → (a ≡ false) × (b ≡ false)
  neither true b e = absurd cc
  neither false b e = (refl, e)

  pub before_keeps : (v : View) → is_reset v f ≡ false → Keeps v (before_emit v f).view
  unfolding begun before_emit
  before_keeps v e =
      let n = neither (is_address_lost v.tuple f) (is_wait_over (peer_of (begun v f)) (begun v f).view f) e in
      keeps_both v (begun v f).view (before_emit v f).view (begun_keeps v.tuple v n.0) (ends_keeps (peer_of (begun v f)) (begun v f).view n.1)

  -- a reset of a socket with the same queues, and nobody to emit to
  pub record IsReset (v : View) (b : Begun) : Type 0 where
    pub from : View
    pub kept : room_of from.rx_buffer ≡ room_of v.rx_buffer
    pub is : b ≡ ended (renewed from)

  room_cleared : (b : Received) → room_of (cleared b) ≡ room_of b
  unfolding cleared
  room_cleared b = let h = length-replicate {A = Option ℕ} (room_of b) None in omega (arith, h)

  pub before_resets : (v : View) → is_reset v f ≡ true → IsReset v (before_emit v f)
  unfolding begun before_emit
  before_resets v e = go (is_address_lost v.tuple f) refl e
    where
      go : (a : Bool) → is_address_lost v.tuple f ≡ a → (a || is_wait_over (peer_of (begun v f)) (begun v f).view f) ≡ true → IsReset v (before_emit v f)
      go true a e = let r : begun v f ≡ ended (renewed v) = begun_resets v.tuple v a in record { from = v; kept = refl; is = ap (λ (b : Begun). before_emit_to (peer_of b) b.view f) r }
      go false a e = record { from = (begun v f).view; kept = ap room_of (begun_keeps v.tuple v a).rx; is = ends_resets (peer_of (begun v f)) (begun v f).view e }

-- ---- what is left behind the emit

sending_keeps : (v : View) (now : Instant) → KeptBySending (Keeps v) now
unfolding after_any snd_nxt_moved after_probe
sending_keeps v now = record {
  renews = λ w k. record { tx = k.tx; rx = k.rx; una = k.una };
  moves = λ w e k. record { tx = k.tx; rx = k.rx; una = k.una };
  times = λ w e k. record { tx = k.tx; rx = k.rx; una = k.una };
  probes = λ w k. record { tx = k.tx; rx = k.rx; una = k.una };
  arms = λ w at e k. record { tx = k.tx; rx = k.rx; una = k.una };
}

pub sends_keeps : (o : Option Tuple) (f : Facts) (v : View) (out : Option Sending) (w : View) → SendsTo o f v out w → Keeps v w
sends_keeps o f v out w h = sends_kept (Keeps v) f (sending_keeps v (moment_of f)) o v w out h (same v)
