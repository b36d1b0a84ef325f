-- A tail-loss probe's moment is set where something goes out: what that leaves alone.
use Rattle.std.proofs.Common.{◌≡◌, ℕ, Bool, true, false, not, ◌&&◌, refl, ap, subst, ◌∙◌}
use Rattle.std.specs.Prelude.{◌==◌}
use Rattle.net_base.specs.declared.time.Instant.{Instant}
use Rattle.sock_tcp.specs.Rfc.TailLoss.{is_alone, may_probe, may_probe_by, sooner, tail_armed, tail_armed_if, tail_set, tail_wait}
use Rattle.sock_tcp.specs.Timers.{after}
use Rattle.sock_tcp.specs.View.{View}
use Rattle.sock_tcp.specs.declared.rules.Rules.{Rules}
use Rattle.sock_tcp.specs.declared.rules.Rules.TheVariants as rules
use Rattle.sock_tcp.specs.declared.timer.Timer.{Timer}
use Rattle.sock_tcp.specs.declared.timer.Timer.TheVariants as timer

-- what holds of the socket, and of one whose retransmission timer has another moment
pub armed_as : (P : View → Type 0) (v : View) (now : Instant) (n : ℕ) → P v → ((at : Instant) → v.timer ≡ timer.Retransmit at → P (record v { timer = timer.Retransmit (sooner at (after now (tail_wait v.rtte (is_alone v)))) })) → P (tail_armed v now n)
unfolding tail_armed
armed_as P v now n h k = by (may_probe_by v.rules (not (n == 0) && may_probe v.recovery v))
  where
    same : (t : Timer) → v.timer ≡ t → P (record v { timer = t })
    same t e = subst (λ x. P (record v { timer = x })) e h

    set : (t : Timer) → v.timer ≡ t → P (record v { timer = tail_set t now v.rtte (is_alone v) })
    set (timer.Retransmit at) e = k at e
    set (timer.Idle at) e = same (timer.Idle at) e
    set timer.FastRetransmit e = same timer.FastRetransmit e
    set (timer.ZeroWindowProbe at delay) e = same (timer.ZeroWindowProbe at delay) e
    set (timer.Close at) e = same (timer.Close at) e

    by : (b : Bool) → P (tail_armed_if b v now)
    by true = set v.timer refl
    by false = h

-- smoltcp's rules have no probes
pub armed_by_smoltcp : (v : View) (now : Instant) (n : ℕ) → v.rules ≡ rules.Smoltcp → tail_armed v now n ≡ v
unfolding tail_armed
armed_by_smoltcp v now n e = ap (λ r. tail_armed_if (may_probe_by r (not (n == 0) && may_probe v.recovery v)) v now) e

-- what takes no number sets nothing
pub armed_by_none : (v : View) (now : Instant) (n : ℕ) → n ≡ 0 → tail_armed v now n ≡ v
unfolding tail_armed
armed_by_none v now n e = ap (λ m. tail_armed_if (may_probe_by v.rules (not (m == 0) && may_probe v.recovery v)) v now) e ∙ by v.rules
  where
    by : (r : Rules) → tail_armed_if (may_probe_by r false) v now ≡ v
    by rules.Smoltcp = refl
    by rules.Rfc = refl
