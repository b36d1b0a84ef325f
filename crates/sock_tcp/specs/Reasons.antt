-- What a dispatch does, by the reason that it has.
use Rattle.std.specs.Prelude.{◌≡◌, Bool, false}
use Rattle.sock_core.specs.Facts.{Facts}
use Rattle.sock_tcp.specs.Begin.{Begun, before_emit, begun, ended, fast_retransmission_marked, going_on, probing_begun}
use Rattle.sock_tcp.specs.Begin.{readied, retransmission_begun, time_wait_ended, unless_paused}
use Rattle.sock_tcp.specs.Next.{reason_of}
use Rattle.sock_tcp.specs.Opening.{renewed}
use Rattle.sock_tcp.specs.Poll.{poll_moment}
use Rattle.sock_tcp.specs.Rfc.TailLoss.{tail_probed}
use Rattle.sock_tcp.specs.View.{View, moment_of}
use Rattle.sock_tcp.specs.declared.next.Reason.{Reason}
use Rattle.sock_tcp.specs.declared.next.Reason.TheVariants as reason
use Rattle.sock_tcp.specs.declared.state.State.TheVariants as state

-- With a reason a dispatch of v, which begins as b, and is e before the emit: r is v with the moment of the last
-- segment, or with now where that was forgotten. Where it goes on, a segment of the view is offered to `emit`.
abbrev pub Follows : View → Facts → View → Reason → Begun → Begun → Type 0
Follows v f r reason.NoPeer b e = e ≡ ended v
Follows v f r reason.AddressGone b e = e ≡ ended (renewed v)
Follows v f r reason.UserTimeout b e = e ≡ going_on (record r { state = state.Closed })
Follows v f r reason.TailLossProbe b e = b ≡ unless_paused (tail_probed r (moment_of f))
Follows v f r reason.RetransmissionTimeout b e = b ≡ unless_paused (retransmission_begun r (moment_of f))
Follows v f r reason.FastRetransmission b e = b ≡ unless_paused (fast_retransmission_marked r (moment_of f))
Follows v f r reason.WindowProbe b e = b ≡ unless_paused (probing_begun v.rules r)
Follows v f r reason.Paused b e = e ≡ ended r
Follows v f r reason.TimeWaitOver b e = e ≡ ended (time_wait_ended v.rules r)
Follows v f r (reason.Waits poll) b e = (e ≡ ended r) × (poll ≡ poll_moment v f)
Follows v f r _ b e = e ≡ going_on r

abbrev pub ReasonsSay : Type 0
ReasonsSay = (v : View) (f : Facts)
    → Follows v f (readied v (moment_of f)) (reason_of v f) (begun v f) (before_emit v f)
